use Rattle.session_types.proofs.Spans.{listed_as}
use Rattle.session_types.proofs.bases.Bases.from_numbers.Goals as goal

pub returns : goal.returns
returns c = listed_as c.in_ok-spans_of.field-0.items c.args.numbers.now c.in_ok-spans_of.ensures
