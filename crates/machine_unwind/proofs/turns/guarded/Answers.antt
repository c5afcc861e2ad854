use Rattle.std.proofs.Common.{◌≡◌, ◌∙◌, ap, sym}
use Rattle.std.proofs.lemmas.Result.{IfOk-weaker}
use Rattle.py_core.specs.Blocks.{handlers_in, other_in}
use Rattle.py_core.specs.declared.stmt.CoreBlock.{CoreBlock}
use Rattle.py_core.specs.declared.stmt.CoreGuard.{CoreGuard}
use Rattle.machine_state.specs.py_world.Exceptions.{guarded_by}
use Rattle.machine_state.specs.core_meaning.Statements.{core_block_body, handlings}
use Rattle.machine_state.specs.declared.frame.End.{End}
use Rattle.machine_state.specs.declared.machine.NextAction.{NextAction}
use Rattle.machine_state.specs.Places.{outcome}
use Rattle.machine_state.specs.Frames.{layers_of, machine_rest, site_now, state_of, todo}
use Rattle.machine_unwind.proofs.turns.guarded.Goals as goal

pub returns-in_ok-other-in-Next-clause-next : goal.returns-in_ok-other-in-Next-clause-next
returns-in_ok-other-in-Next-clause-next c =
    let m = c.args.m.now in
    let m' = c.begin_block.new.m in
    let ls = layers_of m.stack.own in
    let g = c.args.guard.value in
    let block = λ (b : CoreBlock). core_block_body ls b (site_now m).scene (state_of m) (machine_rest m) in
    let turn = λ (e : End). guarded_by (handlings ls (handlers_in g)) (core_block_body ls (other_in g)) (site_now m) (outcome e (state_of m)) (machine_rest m) in
    IfOk-weaker c.begin_block.result (λ (d : NextAction). todo d m' ≡ block c.in_ok-other-in-Next.other.value) (λ (d : NextAction). todo d m' ≡ turn c.args.end)
    (λ d h. h ∙ ap block (c.in_ok-other-in-Next.ensures ∙ ap other_in c.deref.ensures) ∙ sym (ap turn c.in-Next.is)) c.begin_block.ensures.next
