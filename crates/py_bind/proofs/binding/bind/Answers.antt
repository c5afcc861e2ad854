use Rattle.py_bind.proofs.Answers.{right_answer, wrong_answer}
use Rattle.py_bind.proofs.binding.bind.Goals as goal

pub returns-clause-right : goal.returns-clause-right
returns-clause-right c = right_answer c.args.params.now c.args.args.now c.args.named.now c.bound.result c.bound.ensures

pub returns-clause-wrong : goal.returns-clause-wrong
returns-clause-wrong c = wrong_answer c.args.params.now c.args.args.now c.args.named.now c.bound.result c.bound.ensures
