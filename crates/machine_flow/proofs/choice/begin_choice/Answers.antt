use Rattle.std.proofs.Common.{◌≡◌, ◌∙◌, ap, drop}
use Rattle.std.proofs.lemmas.Result.{IfOk-weaker}
use Rattle.std.specs.declared.alloc.Global.{Global}
use Rattle.std.specs.declared.vec.Vec.{Vec}
use Rattle.py_core.specs.declared.stmt.CoreBranch.{CoreBranch}
use Rattle.machine_state.specs.py_world.Statements.{branches_on, choose}
use Rattle.machine_state.specs.py_world.World.{state}
use Rattle.machine_state.specs.core_meaning.Statements.{core_block_body, choices}
use Rattle.machine_state.specs.declared.machine.NextAction.{NextAction}
use Rattle.machine_state.specs.Places.{ends}
use Rattle.machine_state.specs.Frames.{layers_of, machine_rest, site_now, state_of, todo, world_of}
use Rattle.machine_flow.proofs.Branches.{choice_starts}
use Rattle.machine_flow.proofs.choice.begin_choice.Goals as goal

pub returns-clause-next : goal.returns-clause-next
returns-clause-next c =
    let m = c.args.m.now in
    let m' = c.next_branch.new.m in
    let ls = layers_of m.stack.own in
    let bs = c.args.branches.now.value.items in
    let copied = c.in_ok-clone.field-0.value.items in
    let other = c.args.other.now.value in
    let last = c.in_ok-clone-2.field-0.value in
    let temps = c.clear.new.self.items in
    let k = machine_rest m in
    IfOk-weaker c.next_branch.result
    (λ (d : NextAction). ends m'.left (todo d m') ≡ ends m.left (branches_on (choices ls (drop 0 copied)) (core_block_body ls last) (site_now m).scene (state m.locals temps (world_of m)) k))
    (λ (d : NextAction). ends m'.left (todo d m') ≡ ends m.left (choose (choices ls bs) (core_block_body ls other) (site_now m) (state_of m) k))
    (λ d h. h ∙ choice_starts m.left ls bs copied other last temps (site_now m) (state_of m) k (ap (λ (v : Vec CoreBranch Global). v.items) c.in_ok-clone.ensures.cases) c.in_ok-clone-2.ensures.cases c.clear.ensures.items)
    c.next_branch.ensures.next
