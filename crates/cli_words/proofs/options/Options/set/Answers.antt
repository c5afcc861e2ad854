use Rattle.cli_words.proofs.Settings.{put_is}
use Rattle.cli_words.specs.declared.setting.Setting.TheVariants.{Style, Distribution, Generated}
use Rattle.cli_words.proofs.options.Options.set.Goals as goal

pub returns-in-Style : goal.returns-in-Style
returns-in-Style c = rw c.in-Style.is (put_is c.args.self.now (Style c.in-Style.tb))

pub returns-in-Distribution : goal.returns-in-Distribution
returns-in-Distribution c = rw c.in-Distribution.is (put_is c.args.self.now (Distribution c.in-Distribution.dist))

pub returns-in-Generated : goal.returns-in-Generated
returns-in-Generated c = rw c.in-Generated.is (put_is c.args.self.now (Generated c.in-Generated.seed c.in-Generated.files))
