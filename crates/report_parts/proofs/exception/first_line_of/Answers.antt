use Rattle.std.proofs.Common.{◌≡◌, get_or, true, refl}
use Rattle.std.proofs.lemmas.List.{get_or_read}
use Rattle.report_parts.specs.Exceptions.{is_line_feed}
use Rattle.report_parts.proofs.Chars.{before_newline, all_before_newline}
use Rattle.report_parts.proofs.exception.first_line_of.Goals as goal

pub returns-then-c-eq10 : goal.returns-then-c-eq10
returns-then-c-eq10 c =
    let newline : is_line_feed (get_or c.args.chars.now c.loop-end.end 0) ≡ true = rw (← get_or_read c.args.chars.now c.loop-end.end c.index-chars-end.result c.loop-end-test.true c.index-chars-end.is 0, c.if-c-eq10.true) refl in
    before_newline c.args.chars.now c.loop-end.end c.loop-end.auto.end-end c.loop-end.invariant (λ h. newline)

pub returns : goal.returns
returns c = all_before_newline c.args.chars.now c.loop-end.end c.loop-end-test.false c.loop-end.auto.end-end c.loop-end.invariant
