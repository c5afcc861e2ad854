use Rattle.std.proofs.Common.{◌∙◌, Some, ap}
use Rattle.machine_state.specs.declared.machine.Machine.{Machine}
use Rattle.machine_state.specs.Frames.{world_of}
use Rattle.machine_load.proofs.Beginning.{code_begins}
use Rattle.machine_state.specs.Stacks.{StackView}
use Rattle.machine_load.proofs.begin.begin_by_code.Goals as goal

pub returns-clause-next : goal.returns-clause-next
returns-clause-next c =
    let m = c.args.m.now in
    let m1 = c.make_module.new.m in
    let m2 = c.open-caller.new.m in
    let after = λ (x : StackView). world_of (record m2 { stack = x }) in
    let same = c.make_module.ensures.same in
    let opened = c.open-caller.ensures.opened in
    code_begins m c.args.path c.in_ok-shown.shown c.args.body c.open-caller.result c.push-3.new.self.own c.push-2.new.self.own c.push.new.self.own m2.stack.own m2.here m2.locals m2.temps.items (after c.push-3.new.self) c.in_ok-around.around c.in_ok-id.id.at
    (c.open-caller.ensures.caller ∙ ap (λ (x : Machine). record { from = Some x.here; locals = x.locals; temps = x.temps }) same)
    (ap (λ (x : StackView). x.own) c.in_ok-push-3.ensures) (ap (λ (x : StackView). x.own) c.in_ok-push-2.ensures) (ap (λ (x : StackView). x.own) c.in_ok-push.ensures) (ap (λ (x : Machine). x.stack.own) opened ∙ ap (λ (x : Machine). x.stack.own) same)
    (ap (λ (x : Machine). x.here) opened) c.in_ok-around.ensures (ap (λ (x : Machine). x.locals) opened) c.open-caller.ensures.bare (ap after c.in_ok-push-3.ensures ∙ ap after c.in_ok-push-2.ensures ∙ ap after c.in_ok-push.ensures ∙ ap (λ (x : Machine). world_of x) opened ∙ c.in_ok-id.ensures.world)
    c.in_ok-id.ensures.place c.in_ok-shown.ensures
