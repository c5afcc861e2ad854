-- A machine goes on with what was there, in another state.
use Rattle.std.proofs.Common.{◌≡◌, ◌∙◌, ℕ, List, ap}
use Rattle.machine_state.specs.py_world.Outcome.{Next}
use Rattle.machine_state.specs.declared.frame.Frame.{Frame}
use Rattle.machine_state.specs.declared.machine.Machine.{Machine}
use Rattle.machine_state.specs.declared.place.Location.{Location}
use Rattle.machine_state.specs.Places.{CoreRest, CoreState, ends}
use Rattle.machine_state.specs.Stacks.{StackView}
use Rattle.machine_state.specs.Frames.{after_stack, machine_rest, state_of}

pub next_same : (m m' : Machine) (s : CoreState) → state_of m' ≡ s → m'.stack ≡ m.stack → m'.here ≡ m.here → machine_rest m' (Next (state_of m')) ≡ machine_rest m (Next s)
next_same m m' s e f g =
    ap (λ (t : CoreState). after_stack m'.stack.own m'.here (Next t)) e ∙ ap (λ (x : StackView). after_stack x.own m'.here (Next s)) f ∙ ap (λ (h : Location). after_stack m.stack.own h (Next s)) g

-- the same run
pub same_run : (n n' : ℕ) (t u : CoreRest) → n' ≡ n → t ≡ u → ends n' t ≡ ends n u
same_run n n' t u l e = ap (λ (m : ℕ). ends m t) l ∙ ap (ends n) e
