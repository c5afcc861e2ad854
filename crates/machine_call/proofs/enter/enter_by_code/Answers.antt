use Rattle.std.proofs.Common.{◌∙◌, ap}
use Rattle.machine_state.specs.py_world.World.{state}
use Rattle.machine_state.specs.declared.machine.Machine.{Machine}
use Rattle.machine_state.specs.Frames.{state_of, world_of}
use Rattle.machine_call.proofs.Entering.{code_enters}
use Rattle.machine_state.specs.Stacks.{StackView}
use Rattle.machine_call.proofs.enter.enter_by_code.Goals as goal

pub returns-clause-next : goal.returns-clause-next
returns-clause-next c =
    let m = c.args.m.now in
    let m1 = c.open.new.m in
    let after = λ (x : StackView). state_of (record m1 { stack = x }) in
    let temps = c.in_ok-caller.ensures.opened.0 in
    let opened = c.in_ok-caller.ensures.opened.1 in
    code_enters m c.args.code c.args.names c.args.around c.in_ok-body.body c.in_ok-caller.caller c.push-2.new.self.own c.push.new.self.own m1.stack.own m1.here (after c.push-2.new.self)
    c.in_ok-body.ensures c.in_ok-caller.ensures.caller (ap (λ (x : StackView). x.own) c.in_ok-push-2.ensures) (ap (λ (x : StackView). x.own) c.in_ok-push.ensures) (ap (λ (x : Machine). x.stack.own) opened)
    (ap (λ (x : Machine). x.here) opened)
    (ap after c.in_ok-push-2.ensures ∙ ap after c.in_ok-push.ensures ∙ ap (λ (x : Machine). state x.locals m1.temps.items (world_of x)) opened ∙ ap (λ ts. state c.args.names ts (world_of m)) temps)
