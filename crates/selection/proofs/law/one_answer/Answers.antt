use Rattle.selection.proofs.Reading.{answer_is, answer_only}
use Rattle.selection.proofs.law.one_answer.Goals as goal

pub returns : goal.returns
returns c = record { is = answer_is; only = answer_only }
