use Rattle.std.proofs.Common.{◌≡◌, ◌++◌, drop, map}
use Rattle.std.specs.Prelude.{string_bytes}
use Rattle.test_session.proofs.preparing.texts.Given as goal

abbrev pub invariant-loop-string : goal.invariant-loop-string
invariant-loop-string l = l.all.items ++ map string_bytes (drop l.string-index l.strings) ≡ map string_bytes l.strings
