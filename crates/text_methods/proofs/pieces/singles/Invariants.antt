use Rattle.std.proofs.Common.{◌≡◌, ◌++◌, take}
use Rattle.text_methods.specs.Pieces.{singles}
use Rattle.text_methods.proofs.pieces.singles.Given as goal

abbrev pub invariant-loop-c : goal.invariant-loop-c
invariant-loop-c l = l.pieces.items ≡ l.fn.pieces.items ++ singles (take l.c-index l.text)
