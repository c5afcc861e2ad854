use Rattle.std.proofs.lemmas.Result.{err_from_is_err_and}
use Rattle.cli_words.specs.Options.{options_of}
use Rattle.cli_words.proofs.Cut.{checked-fault, checked-conflict, checked-good}
use Rattle.cli_words.proofs.read.read_words.Goals as goal

pub returns-in_err-read_all-clause-refused : goal.returns-in_err-read_all-clause-refused
unfolding options_of
returns-in_err-read_all-clause-refused c =
    let p = err_from_is_err_and c.from_residual.result c.from_residual.ensures.1 in
    rw (p.1, p.2) (checked-fault _ c.in_err-read_all.field-0.0 (rw c.defaults-options.ensures at c.in_err-read_all.ensures))

pub returns-then-options-gt0-clause-refused : goal.returns-then-options-gt0-clause-refused
unfolding options_of
returns-then-options-gt0-clause-refused c =
    checked-conflict _ c.read_all.new.options (rw c.defaults-options.ensures at c.in_ok-read_all.ensures) c.if-asks_for_workers.ensures c.if-options-gt0.true

pub returns-clause-ok : goal.returns-clause-ok
unfolding options_of
returns-clause-ok c =
    checked-good _ c.read_all.new.options c.asks_for_workers.result (rw c.defaults-options.ensures at c.in_ok-read_all.ensures) c.asks_for_workers.ensures c.else-asks_for_workers.either
