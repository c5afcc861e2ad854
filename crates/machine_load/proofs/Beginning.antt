-- Modules begin.
use Rattle.std.proofs.Common.{◌≡◌, ℕ, List, [], ◌∷◌, ◌++◌, Some, length, refl, ap}
use Rattle.std.specs.declared.alloc.Global.{Global}
use Rattle.std.specs.declared.rc.Rc.{Rc}
use Rattle.run_tree.specs.Todo.{Done}
use Rattle.py_core.specs.declared.stmt.CoreBlock.{CoreBlock}
use Rattle.py_values.specs.declared.object.Obj.{Obj}
use Rattle.py_values.specs.declared.object.Obj.TheVariants as obj
use Rattle.py_values.specs.declared.value.Value.{Value}
use Rattle.py_values.specs.Ends.{id_at}
use Rattle.py_world.specs.ModuleNames.{module_name, module_object}
use Rattle.py_world.specs.Outcome.{Gave, Next, Returned, Broke, Continued, Raised, call_end}
use Rattle.py_world.specs.Site.{Around, around_of, no_call}
use Rattle.py_world.specs.World.{Temps, state}
use Rattle.py_world.specs.declared.load.Load.{Load}
use Rattle.py_world.specs.declared.load.Load.TheVariants.{Running}
use Rattle.py_world.specs.Runs.{start, with_load, with_module, module_place, module_scene, module_end}
use Rattle.machine_state.specs.core_meaning.Meaning.{CoreWorld}
use Rattle.machine_state.specs.core_meaning.Statements.{core_block_body}
use Rattle.machine_state.specs.declared.machine.Machine.{Machine}
use Rattle.machine_state.specs.declared.frame.CallerFrame.{CallerFrame}
use Rattle.machine_state.specs.declared.frame.Frame.{Frame}
use Rattle.machine_state.specs.declared.frame.Frame.TheVariants as on
use Rattle.machine_state.specs.declared.frame.FlowFrame.TheVariants.{Block}
use Rattle.machine_state.specs.declared.frame.ModuleFrame.TheVariants as loads
use Rattle.machine_state.specs.declared.place.Location.{Location}
use Rattle.machine_state.specs.declared.place.Place.TheVariants.{Module}
use Rattle.machine_state.specs.Places.{CoreOutcome, CoreRest, CoreState, CoreThen, depth_of, no_world}
use Rattle.machine_state.specs.Frames.{after_stack, machine_rest, site_now, state_of, world_of}

-- a module's body, and then the end of its load
abbrev pub load_tree : List ℕ → CoreBlock → Around → CoreWorld → CoreThen → CoreRest
load_tree path body a w k = core_block_body [] body (module_scene path (module_place path w) a) (start (with_module path w)) (λ o. k (module_end path (module_place path w) o))

-- its object is made
module _ (path running name : List ℕ) (w : CoreWorld) (modules : List (List ℕ × Load)) (heap heap1 : List Obj) (named id : ℕ) (object : Obj) where
  pub module_placed : id ≡ length heap → heap ≡ w.heap ++ obj.Text name ∷ [] → name ≡ module_name path → id ≡ module_place path w
  module_placed last kept names = rw (last, kept, names) refl

  pub module_made : modules ≡ with_load running (Running (id_at id)) w.modules → heap1 ≡ heap ++ object ∷ [] → object ≡ module_object path named → id ≡ length heap
      → heap ≡ w.heap ++ obj.Text name ∷ [] → named ≡ length w.heap → name ≡ module_name path → running ≡ path
      → record { sources = w.sources; modules = modules; heap = heap1; codes = w.codes; printed = w.printed; frozen = w.frozen; traces = w.traces } ≡ with_module path w
  module_made loads grown made last kept first names same = rw (loads, grown, made, last, kept, first, names, same) refl

-- the runner's load
pub runner_begins : (path shown : List ℕ) (body : Rc CoreBlock Global) (fs fs1 fs2 : List Frame) (locals : List (List ℕ × Value)) (temps : Temps) (w w1 : CoreWorld) (id : ℕ)
    → fs ≡ on.Flow (Block body 0 0) ∷ fs1 → fs1 ≡ on.Module (loads.Load path id) ∷ fs2 → fs2 ≡ [] → locals ≡ [] → temps ≡ [] → w1 ≡ with_module path w → id ≡ module_place path w → shown ≡ path
    → after_stack fs (record { place = Module shown id; around = 0; line = 0 }) (Next (state locals temps w1)) ≡ load_tree path body.value no_call w (λ (o : CoreOutcome). Done o)
runner_begins path shown body fs fs1 fs2 locals temps w w1 id pushed below empty no_locals no_temps made placed same =
    rw (pushed, below, empty, no_locals, no_temps, made, placed, same) refl

-- a call's end looks at the caller's names and temporaries alone
call_end_same : (s : CoreState) (w : CoreWorld) (o : CoreOutcome) → call_end (state s.locals s.temps w) o ≡ call_end s o
call_end_same s w (Gave v t) = refl
call_end_same s w (Next t) = refl
call_end_same s w (Returned v t) = refl
call_end_same s w (Broke t) = refl
call_end_same s w (Continued t) = refl
call_end_same s w (Raised e trace t) = refl

behind_load : (path : List ℕ) (id : ℕ) (s : CoreState) (w : CoreWorld) (k : CoreThen)
    → ◌≡◌ {A = CoreThen} (λ o. k (call_end (state s.locals s.temps w) (module_end path id o))) (λ o. k (call_end s (module_end path id o)))
behind_load path id s w k = λ i o. k (call_end_same s w (module_end path id o) i)

-- a load that the code makes
pub code_begins : (m : Machine) (path shown : List ℕ) (body : Rc CoreBlock Global) (c : CallerFrame) (fs fs1 fs2 fs3 : List Frame) (h : Location) (locals : List (List ℕ × Value)) (temps : Temps) (w1 : CoreWorld) (around id : ℕ)
    → c ≡ record { from = Some m.here; locals = m.locals; temps = m.temps }
    → fs ≡ on.Flow (Block body 0 0) ∷ fs1 → fs1 ≡ on.Module (loads.Load path id) ∷ fs2 → fs2 ≡ on.Caller c ∷ fs3 → fs3 ≡ m.stack.own
    → h ≡ record { place = Module shown id; around = around; line = 0 } → around ≡ depth_of m.here → locals ≡ [] → temps ≡ [] → w1 ≡ with_module path (world_of m) → id ≡ module_place path (world_of m) → shown ≡ path
    → after_stack fs h (Next (state locals temps w1))
    ≡ load_tree path body.value (around_of (site_now m)) (world_of m) (λ o. machine_rest m (call_end (state_of m) o))
code_begins m path shown body c fs fs1 fs2 fs3 h locals temps w1 around id caller pushed loads calls below place deep no_locals no_temps made placed same =
    rw (pushed, loads, calls, below, caller, place, deep, no_locals, no_temps, made, placed, same)
    (ap (core_block_body [] body.value (module_scene path (module_place path (world_of m)) (around_of (site_now m))) (start (with_module path (world_of m))))
    (behind_load path (module_place path (world_of m)) (state_of m) no_world (machine_rest m)))
