use Rattle.std.proofs.Common.{◌∙◌}
use Rattle.std.specs.Option.{option_copied}
use Rattle.cli_words.proofs.Letters.{say_end, ask_end, say_unknown, say_option, ask_option}
use Rattle.cli_words.proofs.read.read_letters.Goals as goal

pub returns-then-is_empty-clause-reading : goal.returns-then-is_empty-clause-reading
returns-then-is_empty-clause-reading c =
    say_end c.args.options.now c.read_flags.new.options c.args.word.now c.args.letters.now c.in_ok-rest.rest.now (option_copied c.args.next) c.in_ok-rest.ensures.set c.in_ok-rest.ensures.rest c.if-is_empty.ensures

pub returns-then-is_empty-clause-took : goal.returns-then-is_empty-clause-took
returns-then-is_empty-clause-took c = ask_end c.args.letters.now c.in_ok-rest.rest.now c.in_ok-rest.ensures.rest c.if-is_empty.ensures

pub returns-in_default-clause-reading : goal.returns-in_default-clause-reading
returns-in_default-clause-reading c =
    rw c.in_ok-from_str.ensures (say_unknown c.args.options.now c.read_flags.new.options c.args.word.now c.args.letters.now c.in_ok-rest.rest.now (option_copied c.args.next) c.in_ok-rest.ensures.set c.in_ok-rest.ensures.rest c.if-is_empty.ensures c.in_default.ensures)

pub returns-clause-reading : goal.returns-clause-reading
returns-clause-reading c =
    say_option c.args.options.now c.read_flags.new.options c.read_option.new.options c.args.word.now c.args.letters.now c.in_ok-rest.rest.now c.in-Some.behind.now c.as_str.result.now c.in-Some.letter (option_copied c.value_behind.result) (option_copied c.args.next) c.read_option.result c.in_ok-rest.ensures.set c.in_ok-rest.ensures.rest c.in-Some.ensures.0 (c.as_str.ensures.value ∙ c.in_ok-option.ensures) c.value_behind.ensures c.read_option.ensures.reading

pub returns-clause-took : goal.returns-clause-took
returns-clause-took c =
    ask_option c.args.letters.now c.in_ok-rest.rest.now c.in-Some.behind.now c.as_str.result.now c.in-Some.letter (option_copied c.value_behind.result) c.read_option.result c.in_ok-rest.ensures.rest c.in-Some.ensures.0 (c.as_str.ensures.value ∙ c.in_ok-option.ensures) c.value_behind.ensures c.read_option.ensures.took
