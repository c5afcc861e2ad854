use Rattle.std.proofs.Common.{◌≡◌, ◌∙◌}
use Rattle.std.proofs.lemmas.Result.{IfOk-weaker}
use Rattle.py_kinds.specs.Kinds.{kind_name}
use Rattle.py_items.specs.Items.{object_at}
use Rattle.py_attributes.specs.Attributes.{no_attribute}
use Rattle.machine_assign.specs.py_world.Attributes.{set_attribute, takes_names, with_attribute}
use Rattle.machine_assign.specs.py_world.Outcome.{raised_at}
use Rattle.machine_assign.specs.py_world.World.{with_heap}
use Rattle.machine_assign.specs.machine_state.declared.machine.NextAction.{NextAction}
use Rattle.machine_assign.specs.machine_state.Frames.{machine_rest, site_now, state_of, todo}
use Rattle.machine_store.proofs.Attributes.{refused}
use Rattle.machine_store.proofs.spot.set_attribute.Goals as goal

pub returns-in-Some-clause-next : goal.returns-in-Some-clause-next
returns-in-Some-clause-next c =
    let m = c.args.m.now in
    let m' = c.raise.new.self in
    let x = c.args.x in
    let name = c.args.name.now in
    let p = site_now m in
    let s = state_of m in
    let heap = c.set_attribute.new.heap in
    IfOk-weaker c.raise.result (λ (d : NextAction). todo d m' ≡ machine_rest m (raised_at c.in-Some.raise p (with_heap heap s)))
    (λ (d : NextAction). todo d m' ≡ set_attribute x name c.args.v p s (machine_rest m))
    (λ d h. h ∙ refused (takes_names (object_at m.heap x)) (with_attribute name c.args.v) x (no_attribute (kind_name m.heap x) name) p s (machine_rest m) c.in_ok-set_attribute.field-0 heap c.in_ok-set_attribute.ensures c.in-Some.raise c.in-Some.is)
    c.raise.ensures.next
