use Rattle.std.proofs.Common.{ℕ, List, subst, sym}
use Rattle.test_session.specs.Runs.{HasDistinctItems}
use Rattle.test_session_tests.proofs.One.{are_distinct}
use Rattle.test_session_tests.specs.OneGroup.{given_by}
use Rattle.test_session_tests.proofs.runs.ended.Goals as goal

pub returns-in-Ok-clause-none_out : goal.returns-in-Ok-clause-none_out
returns-in-Ok-clause-none_out c =
    let options = c.args.options.now in
    let collected = c.args.collected.now in
    c.in-Ok.ensures.none_out
    (subst (λ (groups : List (List ℕ)). HasDistinctItems options collected groups (given_by c.run.new.feed)) (sym c.requires.first) (are_distinct options collected c.run.new.feed)) c.requires.none_out
