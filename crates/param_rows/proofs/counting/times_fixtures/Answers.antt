use Rattle.std.proofs.Common.{◌≡◌, ◌*◌, min, length, ap, ◌∙◌, arith}
use Rattle.param_rows.specs.Rows.{fixture_choices}
use Rattle.param_rows.proofs.Product.{times_more, length-fixture_choices}
use Rattle.param_rows.proofs.counting.times_fixtures.Goals as goal

pub loop-ids-preserved : goal.loop-ids-preserved
loop-ids-preserved g c =
    let size : c.len.result ≡ length (fixture_choices {V = g.row.V.Denot} c.loop-ids-item.result) = omega (arith, c.len.ensures, c.loop-ids-item.result.1.ok.0, length-fixture_choices g.row.V.Denot c.loop-ids-item.result) in
    let more : c.times-total.result ≡ min (c.loop-ids.total * length (fixture_choices {V = g.row.V.Denot} c.loop-ids-item.result)) 65537 = c.times-total.ensures ∙ ap (λ n. min (c.loop-ids.total * n) 65537) size in (
      omega (arith, more),
      times_more (fixture_choices {V = g.row.V.Denot}) c.args.fixtures.now c.loop-ids.ids-index c.loop-ids-item.result c.loop-ids.total c.times-total.result _ (omega arith) c.loop-ids-item.is more c.loop-ids.invariant.1,
    )
