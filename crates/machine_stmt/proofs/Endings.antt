-- Where a run stops.
use Rattle.std.proofs.Common.{◌≡◌, ◌+◌, ◌<◌, ◌≤◌, ℕ, List, [], ap, arith}
use Rattle.run_tree.specs.Todo as tree
use Rattle.run_tree.specs.Todo.{Freeze}
use Rattle.run_tree.proofs.Runs.{run-Freeze}
use Rattle.machine_state.specs.py_world.Outcome.{Suspension}
use Rattle.machine_state.specs.core_meaning.Requests.{core_kinds}
use Rattle.machine_state.specs.declared.frame.Frame.{Frame}
use Rattle.machine_state.specs.declared.machine.Machine.{Machine}
use Rattle.machine_state.specs.declared.machine.TurnEnd.{TurnEnd}
use Rattle.machine_state.specs.declared.machine.TurnEnd.TheVariants as turned
use Rattle.machine_state.specs.declared.place.Location.{Location}
use Rattle.machine_state.specs.Places.{CoreOutcome, ends, step}
use Rattle.machine_state.specs.Frames.{after_stack}
use Rattle.machine_state.specs.Work.{doing_work, stack_work, Falls}
use Rattle.machine_state.proofs.Costs.{ends_done}

-- nothing is left on the stack
pub ends_over : (fs : List Frame) (h : Location) (n : ℕ) (o : CoreOutcome) → fs ≡ [] → ends n (after_stack fs h o) ≡ tree.Ended o n
ends_over fs h n o e = rw e (ends_done n o)

-- a body stops
pub ends_frozen : (n : ℕ) (x : Suspension core_kinds) → ends n (Freeze x) ≡ tree.Frozen x n
ends_frozen n x = ap (λ r. r.1) (run-Freeze step n x)

-- a turn leaves less to do than a greater bound, too
pub falls_from : (t : TurnEnd) (m : Machine) (left now work more : ℕ) → now ≡ left → work ≤ more → Falls t m now work → Falls t m left more
falls_from (turned.Go d) m left now work more e h f =
    (let a : m.left ≤ now = f.0 in omega (arith, a, e), λ is. let g : doing_work d + stack_work m < work = f.1 (omega (arith, is, e)) in omega (arith, g, h))
falls_from (turned.Enter d) m left now work more e h f = let a : m.left ≤ now = f in omega (arith, a, e)
falls_from (turned.Over d) m left now work more e h f = tt
falls_from (turned.Exhausted trace) m left now work more e h f = tt
falls_from (turned.Frozen v) m left now work more e h f = tt
