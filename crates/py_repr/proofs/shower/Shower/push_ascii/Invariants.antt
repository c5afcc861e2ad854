use Rattle.std.proofs.Common.{◌≡◌, take}
use Rattle.std.specs.List.{fold}
use Rattle.py_repr.specs.Adding.{add}
use Rattle.py_repr.specs.Symbols.{glyphs}
use Rattle.py_repr.proofs.shower.Shower.push_ascii.Given as goal

abbrev pub invariant-loop-b : goal.invariant-loop-b
invariant-loop-b l = l.self ≡ fold add l.fn.self (glyphs (take l.b-index l.text))
