use Rattle.std.proofs.Common.{◌≡◌, ◌∙◌, ◌+◌, ◌<◌, ◌∷◌, List, ap, drop, get_or, length, rules, sym}
use Rattle.std.proofs.lemmas.Result.{IfOk-weaker}
use Rattle.std.specs.declared.alloc.Global.{Global}
use Rattle.std.specs.declared.vec.Vec.{Vec}
use Rattle.py_core.specs.declared.stmt.CoreBranch.{CoreBranch}
use Rattle.py_world.specs.Statements.{branches_on}
use Rattle.machine_state.specs.core_meaning.Statements.{CoreChoice, core_block_body, choice, choices}
use Rattle.machine_state.specs.declared.machine.NextAction.{NextAction}
use Rattle.machine_state.specs.Places.{ends}
use Rattle.machine_state.specs.Frames.{layers_of, machine_rest, site_now, state_of, todo}
use Rattle.machine_flow.proofs.Branches.{choices_some}
use Rattle.machine_flow.proofs.choice.next_branch.Goals as goal

pub returns-clause-next : goal.returns-clause-next
returns-clause-next c =
    let m = c.args.m.now in
    let m' = c.begin_branch.new.m in
    let ls = layers_of m.stack.own in
    let bs = c.args.branches.value.items in
    let at = c.args.at in
    let b = c.index.result.now in
    let other = core_block_body ls c.args.other.value in
    let scene = (site_now m).scene in
    let within : at < length bs = search rules in
    let here : b ≡ get_or bs at b = search rules in
    IfOk-weaker c.begin_branch.result
    (λ (d : NextAction). ends m'.left (todo d m') ≡ ends m.left (branches_on (choice ls b ∷ choices ls (drop (at + 1) c.in_ok-again.again.value.items)) other scene (state_of m) (machine_rest m)))
    (λ (d : NextAction). ends m'.left (todo d m') ≡ ends m.left (branches_on (choices ls (drop at bs)) other scene (state_of m) (machine_rest m)))
    (λ d h. h ∙ ap (λ (v : Vec CoreBranch Global). ends m.left (branches_on (choice ls b ∷ choices ls (drop (at + 1) v.items)) other scene (state_of m) (machine_rest m))) c.in_ok-again.ensures.cases
    ∙ ap (λ (cs : List CoreChoice). ends m.left (branches_on cs other scene (state_of m) (machine_rest m))) (sym (choices_some ls bs at b within here)))
    c.begin_branch.ensures.next
