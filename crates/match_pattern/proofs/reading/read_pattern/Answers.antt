use Rattle.std.proofs.Common.{sym, Some, None}
use Rattle.match_pattern.proofs.Patterns.{pattern_is, one_pattern, no_pattern}
use Rattle.match_pattern.proofs.Taking.{pattern_read}
use Rattle.match_pattern.proofs.reading.read_pattern.Goals as goal

pub returns-in-Some-clause-read : goal.returns-in-Some-clause-read
returns-in-Some-clause-read c = pattern_is c.args.text.now c.start_at-at_start.result.0 c.start_at-at_start.result.1.now c.in_ok-items.items c.in_ok-items.rest.now c.in-Some.at_end c.start_at-at_start.ensures c.in_ok-items.ensures.reads (sym c.in-Some.ensures)

pub returns-in-Some-clause-only : goal.returns-in-Some-clause-only
returns-in-Some-clause-only c = one_pattern c.args.text.now c.start_at-at_start.result.0 c.start_at-at_start.result.1.now c.in_ok-items.items c.in_ok-items.rest.now c.in-Some.at_end c.start_at-at_start.ensures c.in_ok-items.ensures.reads (sym c.in-Some.ensures)

pub returns-in-None-clause-unsupported : goal.returns-in-None-clause-unsupported
returns-in-None-clause-unsupported c = λ e. no_pattern c.args.text.now c.start_at-at_start.result.0 c.start_at-at_start.result.1.now c.in_ok-items.items c.in_ok-items.rest.now c.start_at-at_start.ensures c.in_ok-items.ensures.reads (sym c.in-None.ensures)

pub returns-in-Some-clause-exact : goal.returns-in-Some-clause-exact
returns-in-Some-clause-exact c = pattern_read c.args.text.now c.start_at-at_start.result.0 c.start_at-at_start.result.1.now c.in_ok-items.items c.in_ok-items.rest.now (Some c.in-Some.at_end) c.start_at-at_start.ensures c.in_ok-items.ensures.exact (sym c.in-Some.ensures)

pub returns-in-None-clause-none : goal.returns-in-None-clause-none
returns-in-None-clause-none c = λ e. pattern_read c.args.text.now c.start_at-at_start.result.0 c.start_at-at_start.result.1.now c.in_ok-items.items c.in_ok-items.rest.now None c.start_at-at_start.ensures c.in_ok-items.ensures.exact (sym c.in-None.ensures)
