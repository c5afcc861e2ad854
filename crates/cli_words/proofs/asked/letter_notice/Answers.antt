use Rattle.std.specs.Option.{option_copied}
use Rattle.cli_words.specs.Parts.{short, value_behind}
use Rattle.cli_words.specs.Table.{takes_named}
use Rattle.cli_words.proofs.Notices.{letter_told, letter_took}
use Rattle.cli_words.proofs.asked.letter_notice.Goals as goal

pub returns-clause-told : goal.returns-clause-told
returns-clause-told c = λ word. letter_told c.takes_of-takes.result (takes_named (short c.args.letter)) (option_copied c.value_behind-value.result) (value_behind c.args.behind.now) (option_copied c.args.next) word (short c.args.letter) c.option_notice.result c.takes_of-takes.ensures c.value_behind-value.ensures (c.option_notice.ensures word (short c.args.letter))

pub returns-clause-took : goal.returns-clause-took
returns-clause-took c = letter_took c.takes_of-takes.result (takes_named (short c.args.letter)) (option_copied c.value_behind-value.result) (value_behind c.args.behind.now) c.asks.result c.takes_of-takes.ensures c.value_behind-value.ensures c.asks.ensures
