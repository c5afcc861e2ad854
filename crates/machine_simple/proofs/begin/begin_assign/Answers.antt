use Rattle.std.proofs.Common.{◌≡◌, ◌∙◌, ap, drop}
use Rattle.std.proofs.lemmas.Result.{IfOk-weaker}
use Rattle.assert_explain.specs.py_world.Targets.{assign, store_all}
use Rattle.machine_unwind.specs.core_meaning.Expressions.{eval}
use Rattle.machine_unwind.specs.machine_state.declared.machine.NextAction.{NextAction}
use Rattle.machine_unwind.specs.machine_state.Places.{ends}
use Rattle.machine_unwind.specs.machine_state.Frames.{machine_rest, site_now, state_of, todo}
use Rattle.machine_store.proofs.machine_turns_lemmas.Same.{same_run}
use Rattle.machine_simple.proofs.Immediately.{assign_there}
use Rattle.std.specs.declared.alloc.Global.{Global}
use Rattle.std.specs.declared.vec.Vec.{Vec}
use Rattle.py_core.specs.declared.stmt.CoreTarget.{CoreTarget}
use Rattle.machine_unwind.specs.core_meaning.Statements.{stores}
use Rattle.machine_simple.proofs.begin.begin_assign.Goals as goal

pub returns-in-Some-clause-next : goal.returns-in-Some-clause-next
returns-in-Some-clause-next c =
    let m = c.args.m.now in
    let m' = c.store_next.new.m in
    let x = c.in-Some.there in
    let ts = c.in_ok-targets.targets in
    let tree = store_all (stores (drop 0 ts.value.items)) x.value (site_now m) (state_of m) (machine_rest m) in
    let whole = assign (stores c.args.ts.now.value.items) (eval c.args.e.now.value) (site_now m) (state_of m) (machine_rest m) in
    IfOk-weaker c.store_next.result (λ (d : NextAction). todo d m' ≡ tree) (λ (d : NextAction). ends m'.left (todo d m') ≡ ends m.left whole)
    (λ d h. same_run x.left m'.left (todo d m') tree c.store_next.ensures.left h
    ∙ assign_there m c.args.e.now c.deref.result.now c.in_ok-there.field-0 x c.deref.ensures c.in-Some.is c.in_ok-there.ensures c.args.ts.now ts c.in_ok-targets.ensures.cases)
    c.store_next.ensures.next

pub returns-in-None-clause-next : goal.returns-in-None-clause-next
returns-in-None-clause-next c =
    let m = c.args.m.now in
    let m' = c.descend_into.new.m in
    let tree = assign (stores c.in_ok-targets.targets.value.items) (eval c.args.e.now.value) (site_now m) (state_of m) (machine_rest m) in
    let whole = assign (stores c.args.ts.now.value.items) (eval c.args.e.now.value) (site_now m) (state_of m) (machine_rest m) in
    IfOk-weaker c.descend_into.result (λ (d : NextAction). ends m'.left (todo d m') ≡ ends m.left tree) (λ (d : NextAction). ends m'.left (todo d m') ≡ ends m.left whole)
    (λ d h. h ∙ ap (λ (v : Vec CoreTarget Global). ends m.left (assign (stores v.items) (eval c.args.e.now.value) (site_now m) (state_of m) (machine_rest m))) c.in_ok-targets.ensures.cases)
    c.descend_into.ensures.next
