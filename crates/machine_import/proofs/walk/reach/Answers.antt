use Rattle.std.proofs.Common.{[], ◌∙◌, sym}
use Rattle.machine_state.specs.py_world.Imports.{prefixes_behind}
use Rattle.machine_state.specs.Frames.{site_now, state_of}
use Rattle.machine_import.proofs.Walking.{walks_over, walks_to}
use Rattle.machine_import.proofs.walk.reach.Goals as goal

pub returns-in-Some : goal.returns-in-Some
returns-in-Some c =
    let m = c.args.m.now in
    λ k go. walks_to (site_now m) (state_of m) k go (prefixes_behind [] c.args.dotted.now) c.args.from c.args.last c.in-Some.found (sym c.in-Some.is ∙ c.in_ok-found.ensures)

pub returns-in-None : goal.returns-in-None
returns-in-None c =
    let m = c.args.m.now in
    λ k go. walks_over (site_now m) (state_of m) k go (prefixes_behind [] c.args.dotted.now) c.args.from c.args.last c.last_value.result (sym c.in-None.is ∙ c.in_ok-found.ensures) c.last_value.ensures
