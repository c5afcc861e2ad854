use Rattle.std.proofs.Common.{◌*◌, min, map, length, ap, sym, ◌∙◌}
use Rattle.std.proofs.Math.Nat.{one-mul}
use Rattle.param_rows.specs.Rows.{fixture_choices, mark_choices, product}
use Rattle.param_rows.proofs.Product.{capped, length-product-append}
use Rattle.param_rows.proofs.counting.count.Goals as goal

pub returns : goal.returns
returns g c =
    let one = length (product (map (fixture_choices {V = g.row.V.Denot}) c.args.fixtures.now)) in
    let other = length (product (map mark_choices c.args.marks.now)) in
    c.times_marks.ensures ∙ ap (λ n. min (n * other) 65537) c.times_fixtures.ensures ∙ capped (1 * one) other 65537
    ∙ ap (λ n. min n 65537) (ap (λ n. n * other) (one-mul one) ∙ sym (length-product-append (map (fixture_choices {V = g.row.V.Denot}) c.args.fixtures.now) (map mark_choices c.args.marks.now)))
