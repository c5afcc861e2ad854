use Rattle.std.proofs.Common.{◌≡◌, ◌∙◌, ◌+◌, ℕ, ap, get_or, refl, rules, subst, sym}
use Rattle.std.proofs.lemmas.Result.{IfOk-weaker}
use Rattle.py_core.specs.Blocks.{stmts_in}
use Rattle.machine_state.specs.py_world.Outcome.{Next}
use Rattle.machine_state.specs.core_meaning.Statements.{begun}
use Rattle.machine_state.specs.declared.machine.TurnEnd.{TurnEnd}
use Rattle.machine_state.specs.Stacks.{StackView, IsSteppedOn}
use Rattle.machine_state.specs.Places.{at_line, ends, site_of}
use Rattle.machine_state.specs.Frames.{after_stack, ending, handled_exception, layers_of, machine_rest, outer_of, state_of}
use Rattle.machine_state.specs.Work.{frames_work, stack_work, stmt_work, Falls}
use Rattle.machine_stmt.proofs.Blocks.{next_begins, next_weighs}
use Rattle.machine_stmt.proofs.run.end_next.Goals as goal

pub returns-in-Some-clause-next : goal.returns-in-Some-clause-next
returns-in-Some-clause-next c =
    let m = c.args.m.now in
    let m' = c.begin.new.m in
    let st = c.stmt-statement.result.now in
    let here = at_line st.at.line m.here in
    let fs = c.next_statement.new.self.own in
    let steps : IsSteppedOn c.in-Some.next m.stack c.next_statement.new.self = rw c.in-Some.is at c.in_ok-next.ensures in
    let found : st ≡ get_or (stmts_in c.in-Some.next.block.value) c.in-Some.next.at st = search rules in
    let after = λ (x : StackView). ends m.left (begun (layers_of fs) st (site_of here (outer_of fs) (handled_exception fs)) (state_of (record m { stack = x })) (after_stack fs here)) in
    IfOk-weaker c.begin.result (λ (t : TurnEnd). after c.next_statement.new.self ≡ ending t m')
    (λ (t : TurnEnd). ends m.left (machine_rest m (Next (state_of m))) ≡ ending t m')
    (λ t h. ap (ends m.left) (next_begins c.in-Some.next m.stack.own fs m.here here (state_of m) st steps.1 found refl) ∙ sym (ap after steps.0) ∙ h) c.begin.ensures.next

pub returns-in-Some-clause-work : goal.returns-in-Some-clause-work
returns-in-Some-clause-work c =
    let m = c.args.m.now in
    let m' = c.begin.new.m in
    let st = c.stmt-statement.result.now in
    let fs = c.next_statement.new.self.own in
    let steps : IsSteppedOn c.in-Some.next m.stack c.next_statement.new.self = rw c.in-Some.is at c.in_ok-next.ensures in
    let found : st ≡ get_or (stmts_in c.in-Some.next.block.value) c.in-Some.next.at st = search rules in
    IfOk-weaker c.begin.result (λ (t : TurnEnd). Falls t m' m.left (stmt_work st + frames_work fs)) (λ (t : TurnEnd). Falls t m' m.left (stack_work m))
    (λ t h. subst (λ (w : ℕ). Falls t m' m.left w) (next_weighs c.in-Some.next m.stack.own fs st steps.1 found) h) c.begin.ensures.work
