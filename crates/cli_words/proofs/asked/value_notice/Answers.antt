use Rattle.cli_words.specs.Values.{setting_of}
use Rattle.cli_words.proofs.Notices.{value_bad, value_good}
use Rattle.cli_words.proofs.asked.value_notice.Goals as goal

pub returns-then-takes : goal.returns-then-takes
returns-then-takes c = λ option. value_good option c.args.value.now (setting_of c.args.rule c.args.value.now) c.if-takes.ensures

pub returns : goal.returns
returns c = λ option. value_bad option c.args.value.now (setting_of c.args.rule c.args.value.now) c.if-takes.ensures
