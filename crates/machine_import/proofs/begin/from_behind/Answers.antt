use Rattle.std.proofs.Common.{◌≡◌, ◌∙◌, ℕ, List, [], drop, Option, ap}
use Rattle.std.proofs.lemmas.Result.{IfOk-weaker}
use Rattle.std.specs.declared.alloc.Global.{Global}
use Rattle.std.specs.declared.vec.Vec.{Vec}
use Rattle.py_values.specs.declared.value.Value.{Value}
use Rattle.machine_state.specs.py_world.Imports.{faulty, import_each, modules_at, prefixes_behind}
use Rattle.machine_state.specs.py_world.Runs.{load_part}
use Rattle.machine_state.specs.core_meaning.Statements.{core_body}
use Rattle.machine_state.specs.declared.frame.ModuleFrame.TheVariants as loads
use Rattle.machine_state.specs.declared.machine.TurnEnd.{TurnEnd}
use Rattle.machine_state.specs.Definings.{on_module}
use Rattle.machine_state.specs.Places.{CoreState, ends}
use Rattle.machine_state.specs.Frames.{ending, machine_rest, site_now, state_of}
use Rattle.machine_import.specs.declared.walk.ImportStep.TheVariants.{Load, Module}
use Rattle.machine_import.specs.Walks.{Reaches}
use Rattle.machine_import.proofs.Reaching.{reached_as}
use Rattle.machine_import.proofs.begin.from_behind.Goals as goal

pub returns-in-Module-clause-next : goal.returns-in-Module-clause-next
returns-in-Module-clause-next c =
    let m = c.args.m.now in
    let m' = c.import_rest.new.m in
    let d = c.args.dotted.value.items in
    let all = c.args.all.value.items in
    let found = c.in-Module.found in
    let go = λ (v : Option Value) (s : CoreState). import_each core_body v d all (site_now m) s (machine_rest m) in
    let reaches : Reaches (Module found) d c.args.from c.args.last m =
    reached_as c.in_ok-reached.reached (Module found) c.deref-2.result.now d c.args.from c.args.last m c.in-Module.is (c.deref-2.ensures.value ∙ ap (λ (v : Vec (List ℕ) Global). v.items) c.deref.ensures) c.in_ok-reached.ensures in
    IfOk-weaker c.import_rest.result
    (λ (t : TurnEnd). ends m.left (import_each core_body found d (drop 0 all) (site_now m) (state_of m) (machine_rest m)) ≡ ending t m')
    (λ (t : TurnEnd). ends m.left (modules_at core_body (drop c.args.from (prefixes_behind [] d)) c.args.last (site_now m) (state_of m) (machine_rest m) go) ≡ ending t m')
    (λ t h. ap (ends m.left) (reaches (machine_rest m) go) ∙ h) c.import_rest.ensures.next

pub returns-in-Load-clause-next : goal.returns-in-Load-clause-next
returns-in-Load-clause-next c =
    let m = c.args.m.now in
    let m' = c.wait.new.m in
    let d = c.args.dotted.value.items in
    let all = c.args.all.value.items in
    let f = c.in-Load.next in
    let go = λ (v : Option Value) (s : CoreState). import_each core_body v d all (site_now m) s (machine_rest m) in
    let reaches : Reaches (Load f) d c.args.from c.args.last m =
    reached_as c.in_ok-reached.reached (Load f) c.deref-2.result.now d c.args.from c.args.last m c.in-Load.is (c.deref-2.ensures.value ∙ ap (λ (v : Vec (List ℕ) Global). v.items) c.deref.ensures) c.in_ok-reached.ensures in
    IfOk-weaker c.wait.result
    (λ (t : TurnEnd). ends m.left (load_part core_body f.path (faulty f.path) (site_now m) (state_of m) (λ o. on_module (loads.From c.args.dotted f.looked c.args.all) (site_now m) o (machine_rest m))) ≡ ending t m')
    (λ (t : TurnEnd). ends m.left (modules_at core_body (drop c.args.from (prefixes_behind [] d)) c.args.last (site_now m) (state_of m) (machine_rest m) go) ≡ ending t m')
    (λ t h. ap (ends m.left) (reaches (machine_rest m) go) ∙ h) c.wait.ensures.next
