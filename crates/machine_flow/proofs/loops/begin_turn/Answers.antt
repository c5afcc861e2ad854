use Rattle.std.proofs.Common.{ap, rules, ◌∙◌}
use Rattle.machine_state.specs.declared.machine.Machine.{Machine}
use Rattle.machine_state.specs.Frames.{state_of, todo}
use Rattle.machine_flow.proofs.Flows.{turn_runs}
use Rattle.machine_state.specs.Stacks.{StackView}
use Rattle.machine_flow.proofs.loops.begin_turn.Goals as goal

pub returns-clause-next : goal.returns-clause-next
returns-clause-next c =
    let m = c.args.m.now in
    let m1 = c.spend.new.self in
    let after = λ (x : StackView). state_of (record m1 { stack = x }) in
    let same = c.if-not-spend.ensures.same in
    turn_runs m.left m1.left c.begin_block.new.m.left m.here m1.here m.stack.own m1.stack.own c.push.new.self.own (state_of m) (after c.push.new.self)
    c.args.test c.args.body c.in_ok-again.again (todo c.in_ok-begin_block.field-0 c.begin_block.new.m)
    (c.if-not-spend.ensures.spent (search rules)) c.begin_block.ensures.left
    (ap (λ (x : Machine). x.here) same) (ap (λ (x : Machine). x.stack.own) same) (ap after c.in_ok-push.ensures ∙ ap (λ (x : Machine). state_of x) same)
    (ap (λ (x : StackView). x.own) c.in_ok-push.ensures) c.in_ok-again.ensures.cases c.in_ok-begin_block.ensures.next
