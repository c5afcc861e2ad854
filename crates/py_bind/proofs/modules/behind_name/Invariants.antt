use Rattle.std.proofs.Common.{◌≡◌, drop}
use Rattle.std.specs.Prelude.{encode_utf8_all}
use Rattle.py_bind.specs.Modules.{rest_after}
use Rattle.py_bind.proofs.modules.behind_name.Given as goal

abbrev pub invariant-loop-c : goal.invariant-loop-c
invariant-loop-c l = rest_after (encode_utf8_all (drop l.c-index l.chars)) l.rest ≡ rest_after (encode_utf8_all l.chars) l.text
