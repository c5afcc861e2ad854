use Rattle.std.proofs.Common.{◌∙◌, ap}
use Rattle.py_world.specs.ModuleNames.{module_name}
use Rattle.machine_state.specs.Frames.{world_of}
use Rattle.machine_load.proofs.Beginning.{module_made, module_placed}
use Rattle.machine_load.proofs.begin.make_module.Goals as goal

pub returns-clause-place : goal.returns-clause-place
returns-clause-place c =
    let m = c.args.m.now in
    module_placed c.args.path.now c.in_ok-running.running c.in_ok-name.name (world_of m) c.put.new.self c.add.new.self c.add-2.new.self c.in_ok-named.named.at c.in_ok-id.id.at c.in_ok-object.object
    c.in_ok-id.ensures.0 c.in_ok-named.ensures.1 (c.in_ok-name.ensures ∙ ap module_name c.chars.ensures)

pub returns-clause-world : goal.returns-clause-world
returns-clause-world c =
    let m = c.args.m.now in
    module_made c.args.path.now c.in_ok-running.running c.in_ok-name.name (world_of m) c.put.new.self c.add.new.self c.add-2.new.self c.in_ok-named.named.at c.in_ok-id.id.at c.in_ok-object.object
    c.in_ok-put.ensures c.in_ok-id.ensures.1 c.in_ok-object.ensures c.in_ok-id.ensures.0
    c.in_ok-named.ensures.1 c.in_ok-named.ensures.0 (c.in_ok-name.ensures ∙ ap module_name c.chars.ensures) c.in_ok-running.ensures
