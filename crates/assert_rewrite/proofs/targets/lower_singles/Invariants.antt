use Rattle.std.proofs.Common.{take}
use Rattle.assert_rewrite.specs.Lowers.{LowersSingles}
use Rattle.assert_rewrite.proofs.targets.lower_singles.Given as goal

abbrev pub invariant-loop-single : goal.invariant-loop-single
invariant-loop-single l = LowersSingles (take l.single-index l.singles) l.done.items
