use Rattle.std.proofs.Common.{◌≡◌, ◌∙◌, ◌∷◌, ap, drop}
use Rattle.std.proofs.lemmas.Result.{IfOk-weaker}
use Rattle.py_kinds.specs.Truth.{truth}
use Rattle.py_world.specs.Outcome.{if_true}
use Rattle.py_world.specs.Statements.{branches_on}
use Rattle.machine_state.specs.core_meaning.Statements.{core_block_body, choice, choices}
use Rattle.machine_state.specs.declared.machine.NextAction.{NextAction}
use Rattle.py_core.specs.declared.stmt.CoreBranch.{out-CoreBranch}
use Rattle.machine_state.specs.core_meaning.Expressions.{eval}
use Rattle.machine_state.specs.Places.{at_line, ends, site_of}
use Rattle.machine_state.specs.Frames.{after_stack, handled_exception, layers_of, machine_rest, outer_of, site_now, state_of, todo}
use Rattle.machine_assign.proofs.machine_turns_lemmas.Same.{same_run}
use Rattle.machine_flow.proofs.Flows.{branch_tests}
use Rattle.machine_flow.proofs.Immediately.{branch_there}
use Rattle.machine_state.specs.Stacks.{StackView}
use Rattle.machine_flow.proofs.choice.begin_branch.Goals as goal

pub returns-in-Some-clause-next : goal.returns-in-Some-clause-next
returns-in-Some-clause-next c =
    let m = c.args.m.now in
    let m' = c.choose.new.m in
    let x = c.in-Some.there in
    let ls = layers_of m.stack.own in
    let rest = choices ls (drop c.args.next c.args.branches.value.items) in
    let other = core_block_body ls c.args.other.value in
    let scene = (site_now m).scene in
    let tree = if_true (truth m.heap x.value) (core_block_body ls c.in_ok-body.body.value scene (state_of m) (machine_rest m)) (branches_on rest other scene (state_of m) (machine_rest m)) in
    let whole = branches_on (choice ls c.args.branch.now ∷ rest) other scene (state_of m) (machine_rest m) in
    IfOk-weaker c.choose.result (λ (d : NextAction). todo d m' ≡ tree) (λ (d : NextAction). ends m'.left (todo d m') ≡ ends m.left whole)
    (λ d h. same_run x.left m'.left (todo d m') tree c.choose.ensures.left h
    ∙ branch_there m c.args.branch.now c.deref.result.now c.in_ok-there.field-0 x c.in_ok-body.body rest other c.deref.ensures c.in_ok-body.ensures.cases c.in-Some.is c.in_ok-there.ensures)
    c.choose.ensures.next

pub returns-in_ok-clone-in-None-clause-next : goal.returns-in_ok-clone-in-None-clause-next
returns-in_ok-clone-in-None-clause-next c =
    let m = c.args.m.now in
    let here = at_line (out-CoreBranch c.args.branch.now).at.line m.here in
    let fs = c.push.new.self.own in
    ap (λ (x : StackView). ends m.left (eval c.in_ok-clone-in-None.field-0.value (site_of here (outer_of fs) (handled_exception fs)) (state_of (record m { stack = x })) (after_stack fs here))) c.in_ok-push-in-None.ensures
    ∙ ap (ends m.left) (branch_tests m.here m.stack.own (state_of m) c.args.branch.now c.in_ok-clone-in-None.field-0 c.in_ok-body.body c.args.branches c.args.next c.args.other
    fs (ap (λ (x : StackView). x.own) c.in_ok-push-in-None.ensures) c.in_ok-clone-in-None.ensures.cases c.in_ok-body.ensures.cases)
