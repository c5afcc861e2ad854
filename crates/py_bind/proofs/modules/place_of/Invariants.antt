use Rattle.std.proofs.Common.{◌≡◌, drop, map}
use Rattle.std.specs.Prelude.{string_bytes}
use Rattle.py_bind.specs.Modules.{module_path, place_of}
use Rattle.py_bind.proofs.Places.{moved}
use Rattle.py_bind.proofs.modules.place_of.Given as goal

abbrev pub invariant-loop-at : goal.invariant-loop-at
invariant-loop-at l = moved l.at (place_of (map string_bytes (drop l.at l.paths)) (module_path l.folder l.dotted l.end)) ≡ place_of (map string_bytes l.paths) (module_path l.folder l.dotted l.end)
