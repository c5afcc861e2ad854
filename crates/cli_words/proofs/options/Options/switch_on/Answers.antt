use Rattle.cli_words.proofs.Settings.{put_is}
use Rattle.cli_words.specs.declared.setting.Setting.TheVariants.{On}
use Rattle.cli_words.specs.declared.table.Switch.TheVariants.{Verbose, CollectOnly, SetupShow}
use Rattle.cli_words.proofs.options.Options.switch_on.Goals as goal

pub returns-in-Verbose : goal.returns-in-Verbose
returns-in-Verbose c = rw c.in-Verbose.is (put_is c.args.self.now (On Verbose))

pub returns-in-CollectOnly : goal.returns-in-CollectOnly
returns-in-CollectOnly c = rw c.in-CollectOnly.is (put_is c.args.self.now (On CollectOnly))

pub returns-in-SetupShow : goal.returns-in-SetupShow
returns-in-SetupShow c = rw c.in-SetupShow.is (put_is c.args.self.now (On SetupShow))
