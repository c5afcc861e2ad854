use Rattle.std.proofs.Common.{◌≡◌, ◌*◌, min, length, ap, sym, ◌∙◌, arith}
use Rattle.param_rows.specs.Rows.{mark_choices}
use Rattle.param_rows.proofs.Product.{times_more, length-mark_choices}
use Rattle.param_rows.proofs.counting.times_marks.Goals as goal

pub loop-mark-preserved : goal.loop-mark-preserved
loop-mark-preserved g c =
    let size : length c.items.result.now ≡ length (mark_choices c.mark-item.result) = ap length c.items.ensures ∙ sym (length-mark_choices c.mark-item.result) in
    let more : c.times-total.result ≡ min (c.loop-mark.total * length (mark_choices c.mark-item.result)) 65537 = c.times-total.ensures ∙ ap (λ n. min (c.loop-mark.total * n) 65537) size in (
      omega (arith, more),
      times_more mark_choices c.args.marks.now c.loop-mark.mark-index c.mark-item.result c.loop-mark.total c.times-total.result _ (omega arith) c.mark-item.is more c.loop-mark.invariant.1,
    )
