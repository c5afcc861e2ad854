use Rattle.std.proofs.Common.{ap, rules}
use Rattle.machine_state.specs.declared.machine.Machine.{Machine}
use Rattle.machine_state.specs.Frames.{state_of, todo}
use Rattle.machine_flow.proofs.Elements.{for_runs}
use Rattle.machine_flow.proofs.turns.begin_turn.Goals as goal

pub returns-clause-next : goal.returns-clause-next
returns-clause-next c =
    let m = c.args.m.now in
    let m1 = c.spend.new.self in
    let same = c.if-not-spend.ensures.same in
    for_runs m.left m1.left c.make_element.new.m.left m.here m1.here m.stack.own m1.stack.own (state_of m) (state_of m1)
    c.args.target.value c.args.body.value c.args.at (todo c.in_ok-make_element.field-0 c.make_element.new.m)
    (c.if-not-spend.ensures.spent (search rules)) c.make_element.ensures.left
    (ap (λ (x : Machine). x.here) same) (ap (λ (x : Machine). x.stack.own) same) (ap (λ (x : Machine). state_of x) same)
    c.in_ok-make_element.ensures.next
