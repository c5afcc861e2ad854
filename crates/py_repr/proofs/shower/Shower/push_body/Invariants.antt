use Rattle.std.proofs.Common.{◌≡◌, drop}
use Rattle.std.specs.List.{fold}
use Rattle.py_repr.specs.Adding.{add}
use Rattle.py_repr.specs.Symbols.{glyphs}
use Rattle.py_repr.specs.Words.{escaped_text}
use Rattle.py_repr.proofs.shower.Shower.push_body.Given as goal

abbrev pub invariant-loop-c : goal.invariant-loop-c
invariant-loop-c l = fold add l.fn.self (glyphs (escaped_text l.quote l.text)) ≡ fold add l.self (glyphs (escaped_text l.quote (drop l.c-index l.text)))
