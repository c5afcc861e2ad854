-- A turn that leaves less to do than one bound does for a greater one.
use Rattle.std.proofs.Common.{◌≡◌, ℕ, ◌+◌, ◌<◌, ◌≤◌, arith}
use Rattle.machine_state.specs.declared.machine.Machine.{Machine}
use Rattle.machine_state.specs.declared.machine.TurnEnd.{TurnEnd}
use Rattle.machine_state.specs.declared.machine.TurnEnd.TheVariants as turned
use Rattle.machine_state.specs.Work.{doing_work, stack_work, Falls}

pub falls_more : (t : TurnEnd) (m : Machine) (left work more : ℕ) → work ≤ more → Falls t m left work → Falls t m left more
falls_more (turned.Go d) m left work more h f =
    (f.0, λ is. let g : doing_work d + stack_work m < work = f.1 is in omega arith)
falls_more (turned.Enter e) m left work more h f = f
falls_more (turned.Over e) m left work more h f = tt
falls_more (turned.Exhausted trace) m left work more h f = tt
falls_more (turned.Frozen v) m left work more h f = tt

-- one that began with fewer steps
pub falls_within : (t : TurnEnd) (m : Machine) (now left work : ℕ) → now ≤ left → Falls t m now work → Falls t m left work
falls_within (turned.Go d) m now left work h f = (
  let a : m.left ≤ now = f.0 in omega (arith, a, h),
  λ is. let a : m.left ≤ now = f.0 in f.1 (omega (arith, a, h, is)),
)
falls_within (turned.Enter e) m now left work h f = let a : m.left ≤ now = f in omega (arith, a, h)
falls_within (turned.Over e) m now left work h f = tt
falls_within (turned.Exhausted trace) m now left work h f = tt
falls_within (turned.Frozen v) m now left work h f = tt
