use Rattle.std.specs.Option.{option_copied}
use Rattle.cli_words.proofs.Notices.{has_first, long_word_told, long_word_took, path_told, short_word_told, short_word_took}
use Rattle.cli_words.proofs.Says.{ask_path}
use Rattle.cli_words.proofs.asked.word_notice.Goals as goal

pub returns-then-is_path-clause-told : goal.returns-then-is_path-clause-told
returns-then-is_path-clause-told c = path_told c.args.word.now (option_copied c.args.next) c.if-is_path.ensures

pub returns-then-is_path-clause-took : goal.returns-then-is_path-clause-took
returns-then-is_path-clause-took c = ask_path c.args.word.now c.if-is_path.ensures

pub returns-then-starts_with-clause-told : goal.returns-then-starts_with-clause-told
returns-then-starts_with-clause-told c = long_word_told c.args.word.now (option_copied c.args.next) c.long_notice.result.0 c.if-is_path.ensures c.if-starts_with.ensures c.long_notice.ensures.told

pub returns-then-starts_with-clause-took : goal.returns-then-starts_with-clause-took
returns-then-starts_with-clause-took c = long_word_took c.args.word.now c.long_notice.result.1 c.if-is_path.ensures c.if-starts_with.ensures c.long_notice.ensures.took

pub returns-in-Some-clause-told : goal.returns-in-Some-clause-told
returns-in-Some-clause-told c =
    short_word_told c.args.word.now c.in-Some.letters.now c.in-Some.field-0-0 (option_copied c.args.next) c.letters_notice.result.0 c.if-is_path.ensures c.if-starts_with.ensures c.in-Some.ensures.0 (c.letters_notice.ensures.told c.args.word.now)

pub returns-in-Some-clause-took : goal.returns-in-Some-clause-took
returns-in-Some-clause-took c =
    short_word_took c.args.word.now c.in-Some.letters.now c.in-Some.field-0-0 c.letters_notice.result.1 c.if-is_path.ensures c.if-starts_with.ensures c.in-Some.ensures.0 c.letters_notice.ensures.took

pub returns-in-None : goal.returns-in-None
returns-in-None c = absurd (has_first c.args.word.now c.if-is_path.ensures c.in-None.ensures)
