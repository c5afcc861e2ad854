use Rattle.std.proofs.Common.{◌≡◌, ◌∙◌, ap, sym}
use Rattle.std.proofs.lemmas.Result.{IfOk-weaker}
use Rattle.py_core.specs.declared.stmt.CoreSingleKind.{CoreSingleKind}
use Rattle.machine_turns.specs.py_world.Targets.{store_item}
use Rattle.machine_turns.specs.core_meaning.Expressions.{eval}
use Rattle.machine_turns.specs.core_meaning.Statements.{store_at}
use Rattle.machine_turns.specs.machine_state.declared.machine.NextAction.{NextAction}
use Rattle.machine_turns.specs.machine_state.Frames.{machine_rest, site_now, state_of, todo}
use Rattle.machine_assign.proofs.assign.store_single.Goals as goal

pub returns-in-Subscript-clause-next : goal.returns-in-Subscript-clause-next
returns-in-Subscript-clause-next c =
    let m = c.args.m.now in
    let m' = c.store_item.new.m in
    IfOk-weaker c.store_item.result
    (λ (d : NextAction). todo d m' ≡ store_item (eval c.in-Subscript.e.value) (eval c.in-Subscript.i.value) c.args.v (site_now m) (state_of m) (machine_rest m))
    (λ (d : NextAction). todo d m' ≡ store_at c.args.single.now.kind c.args.v (site_now m) (state_of m) (machine_rest m))
    (λ d h. h ∙ ap (λ (kind : CoreSingleKind). store_at kind c.args.v (site_now m) (state_of m) (machine_rest m)) (sym c.in-Subscript.is))
    c.store_item.ensures.next
