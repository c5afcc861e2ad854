use Rattle.std.specs.Option.{option_copied}
use Rattle.cli_words.proofs.Notices.{long_told, long_took}
use Rattle.cli_words.proofs.asked.long_notice.Goals as goal

pub returns-clause-told : goal.returns-clause-told
returns-clause-told c =
    long_told c.args.word.now c.cut_at.result.0.now (option_copied c.cut_at.result.1) (option_copied c.args.next) c.takes_of-takes.result c.option_notice.result c.cut_at.ensures.before c.cut_at.ensures.behind (rw c.as_bytes.ensures.value at c.takes_of-takes.ensures) (c.option_notice.ensures c.args.word.now c.cut_at.result.0.now)

pub returns-clause-took : goal.returns-clause-took
returns-clause-took c =
    long_took c.args.word.now c.cut_at.result.0.now (option_copied c.cut_at.result.1) c.takes_of-takes.result c.asks.result c.cut_at.ensures.before c.cut_at.ensures.behind (rw c.as_bytes.ensures.value at c.takes_of-takes.ensures) c.asks.ensures
