use Rattle.std.proofs.Common.{◌≡◌, ◌∙◌, List, length, None, Some, ap, sym}
use Rattle.std.proofs.lemmas.Result.{IfOk-weaker}
use Rattle.machine_state.specs.py_world.Expressions.{arguments}
use Rattle.machine_state.specs.core_meaning.Expressions.{CorePart}
use Rattle.machine_state.specs.declared.machine.NextAction.{NextAction}
use Rattle.machine_state.specs.Definings.{fn_behind, fn_made}
use Rattle.machine_state.specs.Places.{parts_from}
use Rattle.machine_state.specs.Frames.{machine_rest, site_now, state_of, todo}
use Rattle.machine_immediate.specs.Parts.{IsNext}
use Rattle.machine_define.proofs.Functions.{behind_all}
use Rattle.machine_define.proofs.function.next_decorator.Goals as goal

pub returns-in_ok-push-in-Some-clause-next : goal.returns-in_ok-push-in-Some-clause-next
returns-in_ok-push-in-Some-clause-next c =
    let m = c.args.m.now in
    let n : IsNext (Some c.in-Some.e) (length c.args.so_far.items) c.args.ds = rw c.in-Some.is at c.in_ok-e.ensures in
    rw c.in_ok-push-in-Some.ensures
    (ap (λ (ps : List CorePart). arguments ps c.args.so_far.items (site_now m) (state_of m) (machine_rest m) (λ vs s. fn_behind (parts_from 0 c.args.es) c.args.function.value vs (site_now m) s (machine_rest m))) (sym n.0))

pub returns-in-None-clause-next : goal.returns-in-None-clause-next
returns-in-None-clause-next c =
    let m = c.args.m.now in
    let m' = c.next_default.new.m in
    let none = c.new-none.result.items in
    let vs = c.args.so_far.items in
    let f = c.args.function.value in
    let n : IsNext None (length vs) c.args.ds = rw c.in-None.is at c.in_ok-e.ensures in
    IfOk-weaker c.next_default.result (λ (d : NextAction). todo d m' ≡ arguments (parts_from (length none) c.args.es) none (site_now m) (state_of m) (machine_rest m) (λ xs s. fn_made f vs xs (site_now m) s (machine_rest m)))
    (λ (d : NextAction). todo d m' ≡ arguments (parts_from (length vs) c.args.ds) vs (site_now m) (state_of m) (machine_rest m) (λ ws s. fn_behind (parts_from 0 c.args.es) f ws (site_now m) s (machine_rest m)))
    (λ d h. h ∙ behind_all f vs none c.args.ds c.args.es (site_now m) (state_of m) (machine_rest m) n c.new-none.ensures.items)
    c.next_default.ensures.next
