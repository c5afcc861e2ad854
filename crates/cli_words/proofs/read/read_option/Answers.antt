use Rattle.std.proofs.Common.{◌≡◌, Some, sym}
use Rattle.std.specs.Option.{option_copied}
use Rattle.std.proofs.lemmas.Result.{err_from_is_err_and}
use Rattle.cli_words.specs.Table.{takes_named}
use Rattle.cli_words.specs.declared.table.OptionKind.TheVariants.{Tells}
use Rattle.cli_words.proofs.Outcomes.{no_option}
use Rattle.cli_words.proofs.read.read_option.Goals as goal

pub returns-in_ok-from_str-in-None-clause-reading : goal.returns-in_ok-from_str-in-None-clause-reading
returns-in_ok-from_str-in-None-clause-reading c =
    rw c.in_ok-from_str-in-None.ensures (no_option c.args.options.now (takes_named c.args.option.now) c.args.word.now c.args.option.now (option_copied c.args.value) (option_copied c.args.next) (rw c.as_bytes.ensures.value at (sym c.in-None.ensures)))

pub returns-in_err-read_asking-in-Some-Tells-clause-reading : goal.returns-in_err-read_asking-in-Some-Tells-clause-reading
returns-in_err-read_asking-in-Some-Tells-clause-reading c =
    let p = err_from_is_err_and c.from_residual-in_err-read_asking-in-Some-Tells.result c.from_residual-in_err-read_asking-in-Some-Tells.ensures.1 in
    let taken = c.in-Some-Tells.ensures in
    let tells = c.in-Some-Tells.field-0-is in
    let bytes = c.as_bytes.ensures.value in
    let named : takes_named c.args.option.now ≡ Some (Tells c.in-Some-Tells.field-0-0) = cc in
    rw (p.1, p.2, named) (c.in_err-read_asking-in-Some-Tells.ensures c.args.options.now c.in-Some-Tells.field-0-0)
