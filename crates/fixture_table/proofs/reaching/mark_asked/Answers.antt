use Rattle.std.proofs.Common.{◌∙◌, ap, sym}
use Rattle.session_types.specs.Numbers.{among}
use Rattle.fixture_table.proofs.Grows.{row_read}
use Rattle.fixture_table.proofs.reaching.mark_asked.Goals as goal

pub mark_all-requires-clause-below : goal.mark_all-requires-clause-below
mark_all-requires-clause-below c = λ e h. c.requires.below c.args.at e (ap (among e) (sym (c.items.ensures ∙ row_read c.args.asks.now c.args.at c.index-asks-at.result c.requires.at c.index-asks-at.is)) ∙ h)
