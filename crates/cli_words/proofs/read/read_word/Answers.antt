use Rattle.std.specs.Option.{option_copied}
use Rattle.cli_words.proofs.Says.{say_path, ask_path, say_long, ask_long, say_short, ask_short}
use Rattle.cli_words.proofs.read.read_word.Goals as goal

pub returns-then-is_path-clause-reading : goal.returns-then-is_path-clause-reading
returns-then-is_path-clause-reading c =
    say_path c.args.options.now c.push_path.new.self c.args.word.now (option_copied c.args.next) c.if-is_path.ensures (rw c.in_ok-from_str.ensures at c.in_ok-push_path.ensures)

pub returns-then-is_path-clause-took : goal.returns-then-is_path-clause-took
returns-then-is_path-clause-took c = ask_path c.args.word.now c.if-is_path.ensures

pub returns-then-starts_with-clause-reading : goal.returns-then-starts_with-clause-reading
returns-then-starts_with-clause-reading c =
    say_long c.args.options.now c.read_option.new.options c.args.word.now c.cut_at.result.0.now (option_copied c.cut_at.result.1) (option_copied c.args.next) c.read_option.result c.if-is_path.ensures c.if-starts_with.ensures c.cut_at.ensures.before c.cut_at.ensures.behind c.read_option.ensures.reading

pub returns-then-starts_with-clause-took : goal.returns-then-starts_with-clause-took
returns-then-starts_with-clause-took c =
    ask_long c.args.word.now c.cut_at.result.0.now (option_copied c.cut_at.result.1) c.read_option.result c.if-is_path.ensures c.if-starts_with.ensures c.cut_at.ensures.before c.cut_at.ensures.behind c.read_option.ensures.took

pub returns-in-Some-clause-reading : goal.returns-in-Some-clause-reading
returns-in-Some-clause-reading c =
    say_short c.args.options.now c.read_letters.new.options c.args.word.now c.in-Some.letters.now c.in-Some.field-0-0 (option_copied c.args.next) c.read_letters.result c.if-is_path.ensures c.if-starts_with.ensures c.in-Some.ensures.0 c.read_letters.ensures.reading

pub returns-in-Some-clause-took : goal.returns-in-Some-clause-took
returns-in-Some-clause-took c =
    ask_short c.args.word.now c.in-Some.letters.now c.in-Some.field-0-0 c.read_letters.result c.if-is_path.ensures c.if-starts_with.ensures c.in-Some.ensures.0 c.read_letters.ensures.took
