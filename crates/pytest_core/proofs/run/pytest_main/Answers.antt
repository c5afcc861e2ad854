use Rattle.pytest_core.proofs.Said.{some_as}
use Rattle.pytest_core.proofs.Wrote.{wrote_said}
use Rattle.pytest_core.proofs.run.pytest_main.Goals as goal

pub returns-in-Ok-clause-report : goal.returns-in-Ok-clause-report
returns-in-Ok-clause-report g c =
    some_as (g.T.Tree.files c.args.tree.now) _ _ (λ fs h. wrote_said _ (g.S.Sink.told c.args.out.now) (g.S.Sink.told c.put_answer.new.out) c.in-Ok.status c.in-Ok.ensures.said h) c.in-Ok.ensures.report
