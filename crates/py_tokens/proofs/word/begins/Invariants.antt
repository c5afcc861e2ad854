use Rattle.std.proofs.Common.{◌≡◌, drop}
use Rattle.py_tokens.specs.Words.{begins}
use Rattle.py_tokens.proofs.word.begins.Given as goal

abbrev pub invariant-loop-byte : goal.invariant-loop-byte
invariant-loop-byte l = begins (drop l.byte-index l.bytes) l.rest ≡ begins l.word l.text
