use Rattle.std.proofs.Common.{ap}
use Rattle.std.specs.Option.{option_copied}
use Rattle.cli_words.proofs.Outcomes.{switched_none, switched_some}
use Rattle.cli_words.proofs.read.read_switch.Goals as goal

pub returns-in_ok-from_str-in-Some : goal.returns-in_ok-from_str-in-Some
returns-in_ok-from_str-in-Some c =
    rw c.in_ok-from_str-in-Some.ensures (switched_some c.args.options.now c.args.option.now c.args.given (option_copied c.args.value) _ (ap option_copied c.in-Some.is))

pub returns-in_ok-set-in-None : goal.returns-in_ok-set-in-None
returns-in_ok-set-in-None c =
    switched_none c.args.options.now c.set.new.self c.args.option.now c.args.given (option_copied c.args.value) (ap option_copied c.in-None.is) (rw c.setting.ensures at c.in_ok-set-in-None.ensures)
