use Rattle.machine_state.specs.LocalNames.{NoneBefore}
use Rattle.machine_state.proofs.locals.place_of.Given as goal

abbrev pub invariant-loop-i : goal.invariant-loop-i
invariant-loop-i l = NoneBefore l.name l.i l.entries
