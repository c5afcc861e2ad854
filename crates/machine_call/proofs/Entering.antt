-- Functions are entered.
use Rattle.std.proofs.Common.{◌≡◌, ◌∙◌, ℕ, List, [], ◌∷◌, Some, None, refl, ap}
use Rattle.std.specs.declared.alloc.Global.{Global}
use Rattle.std.specs.declared.rc.Rc.{Rc}
use Rattle.machine_state.specs.py_core.declared.stmt.CoreFn.{CoreFn}
use Rattle.machine_state.specs.py_core.declared.stmt.CoreBlock.{CoreBlock}
use Rattle.py_values.specs.declared.value.Value.{Value}
use Rattle.machine_state.specs.py_world.World.{FunctionCode, state}
use Rattle.machine_state.specs.py_world.Site.{Scene, trace_of}
use Rattle.machine_state.specs.py_world.Outcome.{Gave, Next, Returned, Broke, Continued, Raised, call_end}
use Rattle.machine_state.specs.py_world.Calls.{scene_of}
use Rattle.machine_state.specs.core_meaning.Meaning.{CoreWorld}
use Rattle.machine_state.specs.core_meaning.Statements.{CoreBody, core_block_body, entry}
use Rattle.machine_state.specs.declared.machine.Machine.{Machine}
use Rattle.machine_state.specs.declared.machine.Origin.TheVariants.{Runner}
use Rattle.machine_state.specs.declared.place.Location.{Location}
use Rattle.machine_state.specs.declared.place.Place.TheVariants.{Function}
use Rattle.machine_state.specs.declared.frame.CallerFrame.{CallerFrame}
use Rattle.machine_state.specs.declared.frame.Frame.{Frame}
use Rattle.machine_state.specs.declared.frame.Frame.TheVariants.{Flow, Caller}
use Rattle.machine_state.specs.declared.frame.FlowFrame.TheVariants.{Block}
use Rattle.machine_state.specs.Places.{CoreState, CoreOutcome, CoreThen, no_world}
use Rattle.machine_state.specs.Frames.{after_stack, around_by, handled_exception, machine_rest, site_now, state_of, world_of}
use Rattle.machine_call.specs.Depth.{Ready}

-- a call's end looks at the caller's names and temporaries alone
call_end_same : (s : CoreState) (w : CoreWorld) (o : CoreOutcome) → call_end (state s.locals s.temps w) o ≡ call_end s o
call_end_same s w (Gave v t) = refl
call_end_same s w (Next t) = refl
call_end_same s w (Returned v t) = refl
call_end_same s w (Broke t) = refl
call_end_same s w (Continued t) = refl
call_end_same s w (Raised e trace t) = refl

caller_rest : (s : CoreState) (w : CoreWorld) (k : CoreThen) → ◌≡◌ {A = CoreThen} (λ o. k (call_end (state s.locals s.temps w) o)) (λ o. k (call_end s o))
caller_rest s w k = λ i o. k (call_end_same s w o i)

-- a body begins, as code says
body_begins : (b : Rc CoreBlock Global) (code : FunctionCode CoreFn) (scene : Scene) (s : CoreState) (k k' : CoreThen) → core_block_body [] b.value ≡ (entry code.code).body → k ≡ k'
    → core_block_body [] b.value scene s k ≡ (entry code.code).body scene s k'
body_begins b code scene s k k' is same = ap (λ (f : CoreBody). f scene s k) is ∙ ap (λ (k : CoreThen). (entry code.code).body scene s k) same

-- a function that code calls
pub code_enters : (m : Machine) (code : FunctionCode CoreFn) (names : List (List ℕ × Value)) (around : ℕ) (b : Rc CoreBlock Global) (c : CallerFrame)
    (fs fs1 fs2 : List Frame) (h : Location) (s : CoreState)
    → core_block_body [] b.value ≡ (entry code.code).body → c ≡ record { from = Some m.here; locals = m.locals; temps = m.temps }
    → fs ≡ Flow (Block b 0 0) ∷ fs1 → fs1 ≡ Caller c ∷ fs2 → fs2 ≡ m.stack.own
    → h ≡ record { place = Function code; around = around; line = 0 } → s ≡ state names [] (world_of m)
    → after_stack fs h (Next s)
    ≡ (entry code.code).body (scene_of entry code (record { trace = trace_of (site_now m); depth = around; handling = handled_exception m.stack.own })) (state names [] (world_of m)) (λ o. machine_rest m (call_end (state_of m) o))
code_enters m code names around b c fs fs1 fs2 h s is caller pushed below stack place begun =
    rw (pushed, below, stack, caller, place, begun)
    (body_begins b code (scene_of entry code (record { trace = trace_of (site_now m); depth = around; handling = handled_exception m.stack.own })) (state names [] (world_of m)) _ _ is (caller_rest (state_of m) no_world (machine_rest m)))

-- a function that the runner calls
pub runner_enters : (m : Machine) (code : FunctionCode CoreFn) (names : List (List ℕ × Value)) (b : Rc CoreBlock Global) (c : CallerFrame)
    (fs fs1 fs2 : List Frame) (h : Location) (s : CoreState)
    → Ready Runner m → core_block_body [] b.value ≡ (entry code.code).body → c ≡ record { from = Some m.here; locals = m.locals; temps = m.temps }
    → fs ≡ Flow (Block b 0 0) ∷ fs1 → fs1 ≡ Caller (record { from = None; locals = c.locals; temps = c.temps }) ∷ fs2 → fs2 ≡ m.stack.own
    → h ≡ record { place = Function code; around = 0; line = 0 } → s ≡ state names [] (world_of m)
    → after_stack fs h (Next s)
    ≡ (entry code.code).body (scene_of entry code (around_by Runner m)) (state names [] (world_of m)) (λ o. machine_rest m (call_end (state_of m) o))
runner_enters m code names b c fs fs1 fs2 h s ready is caller pushed below stack place begun =
    let h1 : Location = record { place = Function code; around = 0; line = 0 } in
    rw (pushed, below, stack, caller, place, begun, ready.0)
    (body_begins b code (scene_of entry code (around_by Runner m)) (state names [] (world_of m)) _ _ is
    (ap (λ (k : CoreThen). λ (o : CoreOutcome). k (call_end (state m.locals m.temps.items no_world) o)) (ready.1 h1) ∙ caller_rest (state_of m) no_world (machine_rest m)))
