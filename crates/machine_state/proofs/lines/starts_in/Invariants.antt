use Rattle.machine_state.specs.Lines.{StartsTo}
use Rattle.machine_state.proofs.lines.starts_in.Given as goal

abbrev pub invariant-loop-at : goal.invariant-loop-at
invariant-loop-at l = StartsTo l.at l.text l.starts.items
