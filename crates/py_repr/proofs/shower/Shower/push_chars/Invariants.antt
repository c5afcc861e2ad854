use Rattle.std.proofs.Common.{◌≡◌, take}
use Rattle.std.specs.List.{fold}
use Rattle.py_repr.specs.Adding.{add}
use Rattle.py_repr.specs.Symbols.{glyphs}
use Rattle.py_repr.proofs.shower.Shower.push_chars.Given as goal

abbrev pub invariant-loop-c : goal.invariant-loop-c
invariant-loop-c l = l.self ≡ fold add l.fn.self (glyphs (take l.c-index l.text))
