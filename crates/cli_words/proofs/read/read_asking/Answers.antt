use Rattle.std.proofs.Common.{ap}
use Rattle.std.specs.Option.{option_copied}
use Rattle.cli_words.proofs.Outcomes.{asking_none, asking_some}
use Rattle.cli_words.proofs.read.read_asking.Goals as goal

pub returns-in_ok-from_str-in-Some : goal.returns-in_ok-from_str-in-Some
returns-in_ok-from_str-in-Some c = λ o info.
    rw c.in_ok-from_str-in-Some.ensures (asking_some o c.args.option.now info (option_copied c.args.value) _ (ap option_copied c.in-Some.is))

pub returns-in-None : goal.returns-in-None
returns-in-None c = λ o info. asking_none o c.args.option.now info (option_copied c.args.value) (ap option_copied c.in-None.is)
