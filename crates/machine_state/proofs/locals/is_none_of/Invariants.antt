use Rattle.machine_state.specs.LocalNames.{NoneBefore}
use Rattle.machine_state.proofs.locals.is_none_of.Given as goal

abbrev pub invariant-loop-i : goal.invariant-loop-i
invariant-loop-i l = NoneBefore l.fn.name l.i l.fn.entries
