use Rattle.std.proofs.Common.{◌≡◌, ◌∙◌}
use Rattle.std.proofs.lemmas.Result.{IfOk-weaker}
use Rattle.machine_state.specs.py_world.Definitions.{bad_decorator, define_as}
use Rattle.machine_state.specs.py_world.Outcome.{raised_at}
use Rattle.machine_state.specs.py_world.Targets.{store_name}
use Rattle.machine_state.specs.py_world.World.{with_heap}
use Rattle.machine_state.specs.declared.machine.NextAction.{NextAction}
use Rattle.machine_state.specs.Frames.{machine_rest, site_now, state_of, todo}
use Rattle.machine_define.proofs.Decorating.{defined, refused}
use Rattle.machine_define.proofs.decorate.define_as.Goals as goal

pub returns-in-Some-clause-next : goal.returns-in-Some-clause-next
returns-in-Some-clause-next c =
    let m = c.args.m.now in
    let m' = c.store.new.m in
    let heap = c.decorate_all.new.heap in
    let w = c.in-Some.v in
    IfOk-weaker c.store.result (λ (d : NextAction). todo d m' ≡ store_name c.args.name.now w (site_now m) (with_heap heap (state_of m)) (machine_rest m))
    (λ (d : NextAction). todo d m' ≡ define_as c.args.ds.now c.args.name.now c.args.v (site_now m) (state_of m) (machine_rest m))
    (λ d h. h ∙ defined c.args.ds.now c.args.name.now c.args.v (site_now m) (state_of m) (machine_rest m) c.in_ok-v.field-0 heap c.in_ok-v.ensures w c.in-Some.is)
    c.store.ensures.next

pub returns-in-None-clause-next : goal.returns-in-None-clause-next
returns-in-None-clause-next c =
    let m = c.args.m.now in
    let m' = c.refuse.new.m in
    let heap = c.decorate_all.new.heap in
    IfOk-weaker c.refuse.result (λ (d : NextAction). todo d m' ≡ machine_rest m (raised_at bad_decorator (site_now m) (with_heap heap (state_of m))))
    (λ (d : NextAction). todo d m' ≡ define_as c.args.ds.now c.args.name.now c.args.v (site_now m) (state_of m) (machine_rest m))
    (λ d h. h ∙ refused c.args.ds.now c.args.name.now c.args.v (site_now m) (state_of m) (machine_rest m) c.in_ok-v.field-0 heap c.in_ok-v.ensures c.in-None.is)
    c.refuse.ensures.next
