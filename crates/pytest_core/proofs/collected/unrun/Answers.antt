use Rattle.std.proofs.Common.{sym, ◌∙◌, subst, ◌≡◌, true, ◌||◌}
use Rattle.report_parts.specs.Outcomes.{not_empty}
use Rattle.pytest_core.proofs.collected.unrun.Goals as goal

pub returns-clause-listed : goal.returns-clause-listed
returns-clause-listed c =
    λ w. c.interrupted.ensures c.args.found.now c.args.selected.now c.args.errors.now w (subst (λ b. (b || not_empty c.args.errors.now) ≡ true) c.if-options.false c.requires.resting)
