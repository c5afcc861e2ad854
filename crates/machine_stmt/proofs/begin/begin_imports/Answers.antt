use Rattle.std.proofs.Common.{◌≡◌, ◌∙◌, ap, sym}
use Rattle.std.proofs.lemmas.Result.{IfOk-weaker}
use Rattle.machine_state.specs.py_world.Imports.{import_from, import_statement}
use Rattle.machine_state.specs.core_meaning.Statements.{core_body, core_statement_at}
use Rattle.machine_state.specs.declared.machine.TurnEnd.{TurnEnd}
use Rattle.machine_state.specs.Places.{ends}
use Rattle.machine_state.specs.Frames.{ending, layers_of, machine_rest, site_now, state_of}
use Rattle.machine_stmt.proofs.Blocks.{from_begins, import_begins}
use Rattle.machine_stmt.proofs.begin.begin_imports.Goals as goal

pub returns-in-Import-clause-next : goal.returns-in-Import-clause-next
returns-in-Import-clause-next c =
    let m = c.args.m.now in
    let m' = c.begin_import.new.m in
    let kind = c.args.kind.now in
    let ls = layers_of m.stack.own in
    let p = site_now m in
    let s = state_of m in
    let k = machine_rest m in
    let tree = import_statement core_body c.in-Import.dotted.value.items c.in-Import.alias p s k in
    let whole = core_statement_at ls kind p s k in
    IfOk-weaker c.begin_import.result (λ (t : TurnEnd). ends m.left tree ≡ ending t m') (λ (t : TurnEnd). ends m.left whole ≡ ending t m')
    (λ t h. sym (ap (ends m.left) (import_begins ls kind p s k c.in-Import.dotted c.in-Import.alias c.in-Import.is)) ∙ h) c.begin_import.ensures.next

pub returns-in-ImportFrom-clause-next : goal.returns-in-ImportFrom-clause-next
returns-in-ImportFrom-clause-next c =
    let m = c.args.m.now in
    let m' = c.begin_import_from.new.m in
    let kind = c.args.kind.now in
    let ls = layers_of m.stack.own in
    let p = site_now m in
    let s = state_of m in
    let k = machine_rest m in
    let tree = import_from core_body c.in-ImportFrom.dotted.value.items c.in-ImportFrom.all.value.items p s k in
    let whole = core_statement_at ls kind p s k in
    IfOk-weaker c.begin_import_from.result (λ (t : TurnEnd). ends m.left tree ≡ ending t m') (λ (t : TurnEnd). ends m.left whole ≡ ending t m')
    (λ t h. sym (ap (ends m.left) (from_begins ls kind p s k c.in-ImportFrom.dotted c.in-ImportFrom.all c.in-ImportFrom.is)) ∙ h) c.begin_import_from.ensures.next
