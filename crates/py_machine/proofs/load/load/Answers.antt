use Rattle.std.proofs.Common.{◌≡◌, chars, refl}
use Rattle.std.proofs.lemmas.Result.{IfOk-weaker}
use Rattle.lower_law.specs.core_meaning.Meaning.{core_module}
use Rattle.machine_state.specs.Places.{ends}
use Rattle.machine_state.specs.Frames.{world_of}
use Rattle.lower_law.specs.py_world.Runs.{told_by}
use Rattle.py_machine.proofs.Loading.{has_body, load_tree, module_loads}
use Rattle.py_machine.proofs.load.load.Goals as goal

pub returns-in-Some-2 : goal.returns-in-Some-2
returns-in-Some-2 c =
    let w = world_of c.args.m.now in
    let w1 = world_of c.load_first.new.m in
    IfOk-weaker c.load_first.result
    (λ e. told_by c.args.budget (ends c.args.budget (load_tree c.in_ok-text.text c.in-Some-2.body.value w)) ≡ (e, w1))
    (λ e. core_module (chars c.args.path.now) c.args.budget w ≡ (e, w1))
    (λ e h. module_loads (chars c.args.path.now) c.in_ok-text.text c.args.budget w w1 c.in-Some-2.body e c.in_ok-text.ensures c.in_default.ensures
    (has_body (chars c.args.path.now) c.in_ok-body.field-0 c.in-Some-2.body c.args.m.now.sources c.args.m.now.sources c.in-Some-2.is refl c.in_ok-body.ensures) h) c.load_first.ensures
