use Rattle.std.proofs.Common.{ap}
use Rattle.std.proofs.lemmas.Result.{IfOk-weaker}
use Rattle.collect_ids.specs.Runs.{IdSite}
use Rattle.collect_ids.proofs.Called.{first_ran, site_kept}
use Rattle.collect_ids.proofs.hook.first_called.Goals as goal

pub returns-clause-reference : goal.returns-clause-reference
returns-clause-reference c =
    ap (λ (s : IdSite). s.reference) (site_kept c.args.impls.now c.args.run.now c.call_first-answer.new.runner c.call_first-answer.result c.call_first-answer.ensures.run)

pub returns-clause-made : goal.returns-clause-made
returns-clause-made c =
    IfOk-weaker c.made.result _ _ (λ made e. first_ran c.args.impls.now c.args.run.now c.call_first-answer.new.runner c.call_first-answer.result made c.call_first-answer.ensures.run e) c.made.ensures

pub call_first-answer-requires-clause-frames : goal.call_first-answer-requires-clause-frames
call_first-answer-requires-clause-frames c = (tt, tt)
