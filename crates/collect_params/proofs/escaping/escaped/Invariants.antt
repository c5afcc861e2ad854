use Rattle.std.proofs.Common.{◌≡◌, ◌++◌, drop}
use Rattle.std.specs.List.{flat_map}
use Rattle.collect_params.specs.Values.{escaped_char}
use Rattle.collect_params.proofs.escaping.escaped.Given as goal

abbrev pub invariant-loop-c : goal.invariant-loop-c
invariant-loop-c l = l.id.items ++ flat_map escaped_char (drop l.c-index l.text) ≡ flat_map escaped_char l.text
