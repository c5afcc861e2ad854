use Rattle.std.proofs.Common.{◌≡◌, [], drop}
use Rattle.machine_state.specs.py_world.Imports.{source_paths, prefixes_behind}
use Rattle.machine_state.specs.Places.{path_in}
use Rattle.machine_import.specs.Walks.{found_from}
use Rattle.machine_import.proofs.walk.next_found.Given as goal

abbrev pub invariant-loop-at : goal.invariant-loop-at
invariant-loop-at l =
    found_from (source_paths l.m.sources) (path_in l.m.here.place) l.from (drop l.from (prefixes_behind [] l.dotted))
    ≡ found_from (source_paths l.m.sources) (path_in l.m.here.place) l.at (drop l.at (prefixes_behind [] l.dotted))
