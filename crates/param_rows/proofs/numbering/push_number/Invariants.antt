use Rattle.std.proofs.Common.{◌≡◌, ◌++◌, take}
use Rattle.param_rows.proofs.numbering.push_number.Given as goal

abbrev pub invariant-loop-digit : goal.invariant-loop-digit
invariant-loop-digit l = l.chars.items ≡ l.initial.chars.items ++ take l.digit-index l.digit-items
