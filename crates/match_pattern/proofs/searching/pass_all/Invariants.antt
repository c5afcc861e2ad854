use Rattle.std.proofs.Common.{◌≡◌, suc, length, drop}
use Rattle.match_pattern.specs.Searching.{marked, match_at}
use Rattle.match_pattern.proofs.searching.pass_all.Given as goal

abbrev pub invariant-loop-item : goal.invariant-loop-item
invariant-loop-item l = (length l.marks ≡ suc (length l.text)) × (marked (match_at l.at_end (drop l.item-index l.items)) l.marks l.text ≡ marked (match_at l.at_end l.items) l.fn.marks l.text)
