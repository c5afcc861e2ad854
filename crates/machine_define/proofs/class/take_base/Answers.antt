use Rattle.std.proofs.Common.{◌≡◌, ◌∙◌, Option, Some, sym}
use Rattle.std.proofs.lemmas.Result.{IfOk-weaker}
use Rattle.py_values.specs.declared.value.ObjId.{ObjId}
use Rattle.machine_state.specs.py_world.Definitions.{based_on}
use Rattle.py_kinds.specs.Classes.{is_exc_class}
use Rattle.machine_state.specs.py_world.Exceptions.{no_exception}
use Rattle.machine_state.specs.py_world.Outcome.{raised_at}
use Rattle.machine_state.specs.declared.machine.NextAction.{NextAction}
use Rattle.machine_state.specs.Definings.{core_class_made}
use Rattle.machine_state.specs.Places.{CoreRest, CoreState}
use Rattle.machine_state.specs.Frames.{machine_rest, site_now, state_of, todo}
use Rattle.machine_define.proofs.Classes.{based_nowhere, based_there}
use Rattle.machine_define.proofs.class.take_base.Goals as goal

pub returns-in-Some-clause-next : goal.returns-in-Some-clause-next
returns-in-Some-clause-next c =
    let m = c.args.m.now in
    let m' = c.make_class.new.m in
    let p = site_now m in
    let go : Option ObjId → CoreState → CoreRest = λ b s. core_class_made c.args.class.now c.args.ds.items b p s (machine_rest m) in
    IfOk-weaker c.make_class.result (λ (d : NextAction). todo d m' ≡ go (Some c.in-Some.id) (state_of m))
    (λ (d : NextAction). todo d m' ≡ based_on (is_exc_class m.heap c.args.base) c.args.base p (state_of m) (machine_rest m) go)
    (λ d h. h ∙ based_there (is_exc_class m.heap c.args.base) c.args.base c.in-Some.id p (state_of m) (machine_rest m) go (sym c.base_of.ensures ∙ c.in-Some.is))
    c.make_class.ensures.next

pub returns-in-None-clause-next : goal.returns-in-None-clause-next
returns-in-None-clause-next c =
    let m = c.args.m.now in
    let m' = c.refuse.new.m in
    let p = site_now m in
    let go : Option ObjId → CoreState → CoreRest = λ b s. core_class_made c.args.class.now c.args.ds.items b p s (machine_rest m) in
    IfOk-weaker c.refuse.result (λ (d : NextAction). todo d m' ≡ machine_rest m (raised_at no_exception p (state_of m)))
    (λ (d : NextAction). todo d m' ≡ based_on (is_exc_class m.heap c.args.base) c.args.base p (state_of m) (machine_rest m) go)
    (λ d h. h ∙ based_nowhere (is_exc_class m.heap c.args.base) c.args.base p (state_of m) (machine_rest m) go (sym c.base_of.ensures ∙ c.in-None.is))
    c.refuse.ensures.next
