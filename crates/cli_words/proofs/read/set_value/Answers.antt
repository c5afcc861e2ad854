use Rattle.std.proofs.Common.{sym, ◌∙◌}
use Rattle.cli_words.specs.Values.{setting_of}
use Rattle.cli_words.proofs.Outcomes.{valued_bad, valued_good}
use Rattle.cli_words.proofs.read.set_value.Goals as goal

pub returns-in_default : goal.returns-in_default
returns-in_default c =
    rw (c.in_ok-from_str.ensures, c.in_ok-from_str-2.ensures) (valued_bad c.args.options.now c.args.option.now c.args.value.now (setting_of c.args.rule c.args.value.now) (sym c.in_ok-setting.ensures ∙ c.in_default.is))

pub returns : goal.returns
returns c = valued_good c.args.options.now c.set.new.self c.args.option.now c.args.value.now c.in-Some.setting (setting_of c.args.rule c.args.value.now) (sym c.in-Some.is ∙ c.in_ok-setting.ensures) c.in_ok-set.ensures
