use Rattle.std.proofs.Common.{◌≡◌, drop}
use Rattle.std.specs.List.{flat_map}
use Rattle.py_bind.specs.Modules.{path_part, rest_after}
use Rattle.py_bind.proofs.modules.behind_parts.Given as goal

abbrev pub invariant-loop-name : goal.invariant-loop-name
invariant-loop-name l = rest_after (flat_map path_part (drop l.name-index l.names)) l.rest ≡ rest_after (flat_map path_part l.names) l.text
