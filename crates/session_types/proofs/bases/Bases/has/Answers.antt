use Rattle.std.proofs.Common.{sym, ap, ◌∙◌}
use Rattle.session_types.specs.Numbers.{among}
use Rattle.session_types.proofs.Spans.{among_spans}
use Rattle.session_types.proofs.bases.Bases.has.Goals as goal

pub returns : goal.returns
returns c = c.any_holds.ensures ∙ (rw c.deref.ensures.value (sym (among_spans c.args.number c.self.inside.spans.items)) ∙ ap (λ l. among c.args.number l) c.self.view_is)
