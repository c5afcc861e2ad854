use Rattle.binding_law.proofs.Locals.{local, once}
use Rattle.binding_law.proofs.locals_are_what_is_bound.Goals as goal

pub returns : goal.returns
returns c = record { local = local; once = once }
