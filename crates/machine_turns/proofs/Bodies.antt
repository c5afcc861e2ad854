-- Bodies in mid-run begin.
use Rattle.std.proofs.Common.{◌≡◌, List, [], ◌∷◌, Some, refl, ap}
use Rattle.py_core.specs.declared.stmt.CoreBlock.{CoreBlock}
use Rattle.machine_state.specs.py_world.World.{state}
use Rattle.machine_state.specs.py_world.Site.{trace_of}
use Rattle.machine_state.specs.py_world.Outcome.{Gave, Next, Returned, Broke, Continued, Raised, call_end}
use Rattle.machine_state.specs.core_meaning.Meaning.{CoreWorld}
use Rattle.machine_state.specs.core_meaning.Statements.{core_block_body}
use Rattle.machine_state.specs.declared.machine.Machine.{Machine}
use Rattle.machine_state.specs.declared.place.Location.{Location}
use Rattle.machine_state.specs.declared.place.Place.{Place}
use Rattle.machine_state.specs.declared.frame.CallerFrame.{CallerFrame}
use Rattle.machine_state.specs.declared.frame.Frame.{Frame}
use Rattle.machine_state.specs.declared.frame.Frame.TheVariants.{Caller}
use Rattle.machine_state.specs.Places.{CoreOutcome, CoreState, CoreThen, depth_of, no_world, scene_in, site_of}
use Rattle.machine_state.specs.Frames.{after_stack, handled_exception, layers_of, outer_of, machine_rest, site_now, state_of, world_of}

-- a call's end looks at the names and temporaries around it alone
end_same : (s : CoreState) (w : CoreWorld) (o : CoreOutcome) → call_end (state s.locals s.temps w) o ≡ call_end s o
end_same s w (Gave v t) = refl
end_same s w (Next t) = refl
end_same s w (Returned v t) = refl
end_same s w (Broke t) = refl
end_same s w (Continued t) = refl
end_same s w (Raised e trace t) = refl

pub rest_same : (s : CoreState) (w : CoreWorld) (k : CoreThen) → ◌≡◌ {A = CoreThen} (λ o. k (call_end (state s.locals s.temps w) o)) (λ o. k (call_end s o))
rest_same s w k = λ i o. k (end_same s w o i)

-- the body begins over what is around it
pub body_begins : (m : Machine) (place : Place) (b : CoreBlock) (c : CallerFrame) (fs fs1 : List Frame) (h : Location) (s : CoreState)
    → c ≡ record { from = Some m.here; locals = m.locals; temps = m.temps } → fs ≡ Caller c ∷ fs1 → fs1 ≡ m.stack.own
    → h ≡ record { place = place; around = depth_of m.here; line = 0 } → s ≡ state [] [] (world_of m)
    → core_block_body (layers_of fs) b (site_of h (outer_of fs) (handled_exception fs)).scene s (after_stack fs h)
    ≡ core_block_body [] b (scene_in place (depth_of m.here) (trace_of (site_now m)) (handled_exception m.stack.own)) (state [] [] (world_of m)) (λ o. machine_rest m (call_end (state_of m) o))
body_begins m place b c fs fs1 h s caller pushed below there begun =
    rw (pushed, below, caller, there, begun)
    (ap (λ (k : CoreThen). core_block_body [] b (scene_in place (depth_of m.here) (trace_of (site_now m)) (handled_exception m.stack.own)) (state [] [] (world_of m)) k) (rest_same (state_of m) no_world (machine_rest m)))
