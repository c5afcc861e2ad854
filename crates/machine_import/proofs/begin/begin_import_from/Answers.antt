use Rattle.std.proofs.Common.{◌≡◌, ◌∙◌, ℕ, List, [], drop, None, ap}
use Rattle.std.proofs.lemmas.Result.{IfOk-weaker}
use Rattle.std.specs.declared.alloc.Global.{Global}
use Rattle.std.specs.declared.vec.Vec.{Vec}
use Rattle.py_tree.specs.declared.stmt.Alias.{Alias}
use Rattle.machine_state.specs.py_world.Imports.{import_each, import_from, modules_at, prefixes_behind}
use Rattle.machine_state.specs.core_meaning.Statements.{core_body}
use Rattle.machine_state.specs.declared.machine.TurnEnd.{TurnEnd}
use Rattle.machine_state.specs.Places.{ends}
use Rattle.machine_state.specs.Frames.{ending, machine_rest, site_now, state_of}
use Rattle.machine_import.proofs.Reaching.{names_start}
use Rattle.machine_import.proofs.begin.begin_import_from.Goals as goal

pub returns-clause-next : goal.returns-clause-next
returns-clause-next c =
    let m = c.args.m.now in
    let m' = c.from_behind.new.m in
    let d = c.args.dotted.now.value.items in
    let all = c.args.all.now.value.items in
    let copied = c.in_ok-clone.field-0.value.items in
    let copies = c.in_ok-clone-2.field-0.value.items in
    let p = site_now m in
    let s = state_of m in
    let k = machine_rest m in
    IfOk-weaker c.from_behind.result
    (λ (t : TurnEnd). ends m.left (modules_at core_body (drop 0 (prefixes_behind [] copied)) None p s k (λ v s. import_each core_body v copied copies p s k)) ≡ ending t m')
    (λ (t : TurnEnd). ends m.left (import_from core_body d all p s k) ≡ ending t m')
    (λ t h. names_start m.left d copied all copies p s k (ap (λ (v : Vec (List ℕ) Global). v.items) c.in_ok-clone.ensures.cases) (ap (λ (v : Vec Alias Global). v.items) c.in_ok-clone-2.ensures.cases) ∙ h) c.from_behind.ensures.next
