use Rattle.share_files.proofs.Saying.{kept_says}
use Rattle.share_files.proofs.laws.rule_law.Goals as goal

pub returns : goal.returns
returns c = kept_says
