use Rattle.std.proofs.Common.{Some, subst, sym}
use Rattle.py_values.specs.declared.end.Effect.{Effect}
use Rattle.machine_immediate.specs.AtOnce.{IsMadeWithin, ended_at}
use Rattle.machine_immediate.proofs.Operators.{given}
use Rattle.machine_immediate.proofs.operations.given_by.Goals as goal

pub returns-in-Give : goal.returns-in-Give
returns-in-Give c =
    subst (λ (o : Effect). IsMadeWithin (Some o) c.args.left (ended_at c.in-Give.value c.saturating_sub-left.result)) (sym c.in-Give.is)
    (given c.in-Give.value c.in-Give.cost c.args.left c.saturating_sub-left.result c.saturating_sub-left.ensures)
