use Rattle.std.proofs.Common.{sym, ◌∙◌}
use Rattle.pytest_core.proofs.ByWorkers.{wants_asks}
use Rattle.pytest_core.proofs.answer.put_collected.Goals as goal

pub put_shared-requires-clause-wants : goal.put_shared-requires-clause-wants
put_shared-requires-clause-wants g c κs within = sym c.wants_workers.ensures ∙ c.if-wants_workers.true

pub put_shared-requires-clause-whole : goal.put_shared-requires-clause-whole
put_shared-requires-clause-whole g c κs within = c.requires.conflict (wants_asks c.args.options.now c.args.collected.selected c.args.collected.errors.items (sym c.wants_workers.ensures ∙ c.if-wants_workers.true))

pub put_single-requires-clause-single : goal.put_single-requires-clause-single
put_single-requires-clause-single g c = sym c.wants_workers.ensures ∙ c.if-wants_workers.false
