use Rattle.std.proofs.Common.{◌∙◌, sym}
use Rattle.machine_state.specs.py_world.Imports.{source_paths}
use Rattle.machine_state.specs.Places.{path_in}
use Rattle.machine_import.proofs.Walking.{found_here}
use Rattle.machine_import.proofs.walk.next_found.Goals as goal

pub returns-in-Some : goal.returns-in-Some
returns-in-Some c =
    let m = c.args.m.now in
    sym (c.loop-at.invariant
    ∙ found_here (source_paths m.sources) (path_in m.here.place) c.args.dotted.now c.loop-at.at c.in-Some.path c.loop-at-test.true (sym c.in-Some.is ∙ c.in_ok-path.ensures))
