use Rattle.std.proofs.Common.{◌≡◌, ◌∙◌, Some, ap, refl}
use Rattle.std.proofs.lemmas.Result.{IfOk-weaker}
use Rattle.py_tree.specs.declared.expr.Expr.{Expr}
use Rattle.py_tree.specs.Trees.{tree}
use Rattle.assert_explain.specs.py_world.Statements.{fail_explained}
use Rattle.machine_unwind.specs.core_meaning.Expressions.{eval}
use Rattle.machine_unwind.specs.core_meaning.Statements.{failure}
use Rattle.machine_unwind.specs.machine_state.declared.machine.NextAction.{NextAction}
use Rattle.machine_unwind.specs.machine_state.Frames.{machine_rest, site_now, state_of, todo}
use Rattle.machine_simple.proofs.failure.begin_failure.Goals as goal

pub returns-in_ok-clone-in-Explain-Some-clause-next : goal.returns-in_ok-clone-in-Explain-Some-clause-next
returns-in_ok-clone-in-Explain-Some-clause-next c =
    let m = c.args.m.now in
    let m' = c.descend-in-Explain-Some.new.m in
    let p = site_now m in
    let s = state_of m in
    let k = machine_rest m in
    let e = c.in-Explain-Some.e in
    let given : fail_explained (tree c.in-Explain-Some.shown.value) (Some (eval e.value)) p s k ≡ failure c.args.template.now c.args.message.now p s k = rw (c.in-Explain-Some.is-0, c.in-Explain-Some.is-1) refl in
    IfOk-weaker c.descend-in-Explain-Some.result (λ (d : NextAction). todo d m' ≡ fail_explained (tree c.in_ok-clone-in-Explain-Some.field-0.value) (Some (eval e.value)) p s k)
    (λ (d : NextAction). todo d m' ≡ failure c.args.template.now c.args.message.now p s k)
    (λ d h. h ∙ ap (λ (x : Expr). fail_explained (tree x) (Some (eval e.value)) p s k) c.in_ok-clone-in-Explain-Some.ensures.cases ∙ given)
    c.descend-in-Explain-Some.ensures.next
