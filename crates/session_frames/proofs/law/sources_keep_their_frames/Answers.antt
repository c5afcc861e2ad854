use Rattle.collect_tree.proofs.runtest_rules_lemmas.Kept.{keeps_within}
use Rattle.session_frames.proofs.law.sources_keep_their_frames.Goals as goal

pub returns : goal.returns
returns c = λ options suite. keeps_within options.step_limit suite
