use Rattle.std.proofs.Common.{◌≡◌, ◌<◌, ◌&&◌, arith, length, Bool, false, drop, get_or, refl, sym, ◌∙◌}
use Rattle.match_pattern.specs.Searching.{atom_begins, goes_on}
use Rattle.match_pattern.proofs.Marks.{pass_more, and_on, and_off}
use Rattle.match_pattern.proofs.matching.pass.Goals as goal
use Rattle.match_pattern.proofs.matching.pass.Goals.{then-goes_on, else-goes_on}

pub loop-at-preserved : goal.loop-at-preserved
loop-at-preserved c =
    let here : Bool = get_or c.loop-at.marks c.loop-at.at false in
    let goes : Bool = goes_on c.args.item.times here c.loop-at.inside in
    let next : Bool = atom_begins c.args.item.atom (drop c.loop-at.at c.args.text.now) in
    let below : c.loop-at.at < length c.loop-at.marks = omega arith in
    let is_next : c.if-goes_on.inside ≡ (goes && next) = elim c.if-goes_on.branch [
      | then-goes_on w ↦ and_on goes next c.if-goes_on.inside (sym c.goes_on.ensures ∙ w.if-goes_on.true) (w.inside-is ∙ w.stands_at-inside.ensures)
      | else-goes_on w ↦ and_off goes next c.if-goes_on.inside (sym c.goes_on.ensures ∙ w.if-goes_on.false) (w.inside-is ∙ w.if-goes_on.false)
    ] in
    pass_more c.args.item c.loop-at.at c.loop-at.inside c.loop-at.marks c.args.text.now here c.kept.result c.if-goes_on.inside false below refl c.kept.ensures is_next ∙ c.loop-at.invariant
