use Rattle.std.proofs.Common.{◌∙◌, ap}
use Rattle.machine_state.specs.declared.machine.Machine.{Machine}
use Rattle.machine_state.specs.Frames.{world_of}
use Rattle.machine_load.proofs.Beginning.{runner_begins}
use Rattle.machine_state.specs.Stacks.{StackView}
use Rattle.machine_load.proofs.begin.begin_load.Goals as goal

pub returns-clause-next : goal.returns-clause-next
returns-clause-next c =
    let m = c.args.m.now in
    let m1 = c.make_module.new.m in
    let after = λ (x : StackView). world_of (record m1 { stack = x }) in
    let same = c.make_module.ensures.same in
    runner_begins c.args.path c.in_ok-shown.shown c.args.body c.push-2.new.self.own c.push.new.self.own m1.stack.own m1.locals m1.temps.items (world_of m) (after c.push-2.new.self) c.in_ok-id.id.at
    (ap (λ (x : StackView). x.own) c.in_ok-push-2.ensures) (ap (λ (x : StackView). x.own) c.in_ok-push.ensures) (ap (λ (x : Machine). x.stack.own) same ∙ c.requires.stack) (ap (λ (x : Machine). x.locals) same ∙ c.requires.locals)
    (ap (λ (x : Machine). x.temps.items) same ∙ c.requires.temps) (ap after c.in_ok-push-2.ensures ∙ ap after c.in_ok-push.ensures ∙ c.in_ok-id.ensures.world) c.in_ok-id.ensures.place c.in_ok-shown.ensures
