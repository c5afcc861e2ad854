use Rattle.std.proofs.Common.{◌≡◌, ◌∙◌, ℕ, List, [], drop, None, ap}
use Rattle.std.proofs.lemmas.Result.{IfOk-weaker}
use Rattle.std.specs.declared.alloc.Global.{Global}
use Rattle.std.specs.declared.vec.Vec.{Vec}
use Rattle.machine_state.specs.py_world.Imports.{import_end, import_statement, modules_at, prefixes_behind}
use Rattle.machine_state.specs.core_meaning.Statements.{core_body}
use Rattle.machine_state.specs.declared.machine.TurnEnd.{TurnEnd}
use Rattle.machine_state.specs.Places.{ends}
use Rattle.machine_state.specs.Frames.{ending, machine_rest, site_now, state_of}
use Rattle.machine_import.proofs.Reaching.{import_starts}
use Rattle.machine_import.proofs.begin.begin_import.Goals as goal

pub returns-clause-next : goal.returns-clause-next
returns-clause-next c =
    let m = c.args.m.now in
    let m' = c.import_behind.new.m in
    let d = c.args.dotted.now.value.items in
    let copied = c.in_ok-clone.field-0.value.items in
    let name = c.in_ok-name.name in
    let p = site_now m in
    let s = state_of m in
    let k = machine_rest m in
    IfOk-weaker c.import_behind.result
    (λ (t : TurnEnd). ends m.left (modules_at core_body (drop 0 (prefixes_behind [] copied)) None p s k (λ v s. k (import_end v copied name p s))) ≡ ending t m')
    (λ (t : TurnEnd). ends m.left (import_statement core_body d c.args.alias.now p s k) ≡ ending t m')
    (λ t h. import_starts m.left d copied c.deref-2.result.now name c.args.alias.now p s k (ap (λ (v : Vec (List ℕ) Global). v.items) c.in_ok-clone.ensures.cases)
    (c.deref-2.ensures.value ∙ ap (λ (v : Vec (List ℕ) Global). v.items) c.deref.ensures) c.in_ok-name.ensures ∙ h) c.import_behind.ensures.next
