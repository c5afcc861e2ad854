use Rattle.std.specs.Option.{option_copied}
use Rattle.cli_words.proofs.Letters.{ask_end}
use Rattle.cli_words.proofs.Notices.{end_told, option_told, option_took, unknown_told, unknown_took}
use Rattle.cli_words.proofs.asked.letters_notice.Goals as goal

pub returns-then-is_empty-clause-told : goal.returns-then-is_empty-clause-told
returns-then-is_empty-clause-told c = λ word. end_told c.args.letters.now c.behind_flags-rest.result.now word (option_copied c.args.next) c.behind_flags-rest.ensures c.if-is_empty.ensures

pub returns-then-is_empty-clause-took : goal.returns-then-is_empty-clause-took
returns-then-is_empty-clause-took c = ask_end c.args.letters.now c.behind_flags-rest.result.now c.behind_flags-rest.ensures c.if-is_empty.ensures

pub returns-in-Some-clause-told : goal.returns-in-Some-clause-told
returns-in-Some-clause-told c = λ word. option_told c.args.letters.now c.behind_flags-rest.result.now c.in-Some.behind.now word c.in-Some.letter (option_copied c.args.next) c.letter_notice.result.0 c.behind_flags-rest.ensures c.in-Some.ensures.0 (c.letter_notice.ensures.told word)

pub returns-in-Some-clause-took : goal.returns-in-Some-clause-took
returns-in-Some-clause-took c = option_took c.args.letters.now c.behind_flags-rest.result.now c.in-Some.behind.now c.in-Some.letter c.letter_notice.result.1 c.behind_flags-rest.ensures c.in-Some.ensures.0 c.letter_notice.ensures.took

pub returns-in-None-clause-told : goal.returns-in-None-clause-told
returns-in-None-clause-told c = λ word. unknown_told c.args.letters.now c.behind_flags-rest.result.now word (option_copied c.args.next) c.behind_flags-rest.ensures c.if-is_empty.ensures c.in-None.ensures

pub returns-in-None-clause-took : goal.returns-in-None-clause-took
returns-in-None-clause-took c = unknown_took c.args.letters.now c.behind_flags-rest.result.now c.behind_flags-rest.ensures c.if-is_empty.ensures c.in-None.ensures
