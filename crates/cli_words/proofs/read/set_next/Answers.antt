use Rattle.std.proofs.Common.{◌≡◌, true, ap}
use Rattle.std.specs.Option.{option_copied}
use Rattle.cli_words.specs.Parts.{begins_with_dash}
use Rattle.cli_words.proofs.Outcomes.{next_dash, next_none}
use Rattle.cli_words.proofs.read.set_next.Goals as goal
use Rattle.cli_words.proofs.read.set_next.Goals.{in_default-via-in-Some+else-not-starts_with, in_default-via-in_default}

pub returns-in_ok-from_str-in_default : goal.returns-in_ok-from_str-in_default
returns-in_ok-from_str-in_default c = rw c.in_ok-from_str-in_default.ensures (elim c.in_default.branch [
  | in_default-via-in-Some+else-not-starts_with w ↦
      let dash : begins_with_dash w.in-Some.value.now ≡ true = rw (← w.starts_with.ensures) w.if-not-starts_with.false in
      next_dash c.args.options.now c.args.option.now c.args.rule (option_copied c.args.next) w.in-Some.value.now (ap option_copied w.in-Some.is) dash
  | in_default-via-in_default w ↦ next_none c.args.options.now c.args.option.now c.args.rule (option_copied c.args.next) (ap option_copied w.in_default.is)
])
