use Rattle.cli_words.proofs.Settings.{put_is}
use Rattle.cli_words.specs.declared.setting.Setting.TheVariants.{Count}
use Rattle.cli_words.specs.declared.table.Counter.TheVariants.{MaxFail, Workers, StepLimit}
use Rattle.cli_words.proofs.options.Options.set_count.Goals as goal

pub returns-in-MaxFail : goal.returns-in-MaxFail
returns-in-MaxFail c = rw c.in-MaxFail.is (put_is c.args.self.now (Count MaxFail c.args.count))

pub returns-in-Workers : goal.returns-in-Workers
returns-in-Workers c = rw c.in-Workers.is (put_is c.args.self.now (Count Workers c.args.count))

pub returns-in-StepLimit : goal.returns-in-StepLimit
returns-in-StepLimit c = rw (c.in-StepLimit.is, c.from-self.ensures) (put_is c.args.self.now (Count StepLimit c.args.count))
