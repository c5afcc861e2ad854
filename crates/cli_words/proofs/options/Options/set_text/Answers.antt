use Rattle.cli_words.proofs.Settings.{put_is}
use Rattle.cli_words.specs.declared.setting.Setting.TheVariants.{Text}
use Rattle.cli_words.specs.declared.table.TextOption.TheVariants.{Keyword, Marks, Ignore}
use Rattle.cli_words.proofs.options.Options.set_text.Goals as goal

pub returns-in-Keyword : goal.returns-in-Keyword
returns-in-Keyword c = rw c.in-Keyword.is (put_is c.args.self.now (Text Keyword c.args.text))

pub returns-in-Marks : goal.returns-in-Marks
returns-in-Marks c = rw c.in-Marks.is (put_is c.args.self.now (Text Marks c.args.text))

pub returns-in_ok-push-in-Ignore : goal.returns-in_ok-push-in-Ignore
returns-in_ok-push-in-Ignore c = rw (c.in-Ignore.is, c.in_ok-push-in-Ignore.ensures.ok) (put_is c.args.self.now (Text Ignore c.args.text))
