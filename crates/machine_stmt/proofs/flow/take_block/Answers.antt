use Rattle.std.proofs.Common.{◌≡◌, ◌∙◌, ap, drop}
use Rattle.std.proofs.lemmas.Result.{IfOk-weaker}
use Rattle.py_core.specs.Blocks.{stmts_in}
use Rattle.machine_state.specs.py_world.Outcome.{on_next}
use Rattle.machine_state.specs.core_meaning.Statements.{block_from}
use Rattle.machine_state.specs.declared.frame.End.{End}
use Rattle.machine_state.specs.declared.frame.End.TheVariants as end
use Rattle.machine_state.specs.declared.machine.TurnEnd.{TurnEnd}
use Rattle.machine_state.specs.Places.{ends, outcome}
use Rattle.machine_state.specs.Frames.{ending, layers_of, machine_rest, site_now, state_of}
use Rattle.machine_stmt.proofs.flow.take_block.Goals as goal

pub returns-in-Next-clause-next : goal.returns-in-Next-clause-next
returns-in-Next-clause-next c =
    let m = c.args.m.now in
    let m' = c.next_statement.new.m in
    let b = c.args.b.value in
    let turn = λ (e : End). ends m.left (on_next (outcome e (state_of m)) (machine_rest m) (λ s. block_from (layers_of m.stack.own) b c.args.at (drop c.args.at (stmts_in b)) (site_now m).scene s (machine_rest m))) in
    IfOk-weaker c.next_statement.result (λ (t : TurnEnd). turn end.Next ≡ ending t m') (λ (t : TurnEnd). turn c.args.end ≡ ending t m')
    (λ t h. ap turn c.in-Next.is ∙ h) c.next_statement.ensures.next
