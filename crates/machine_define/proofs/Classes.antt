-- Classes are made.
use Rattle.std.proofs.Common.{◌≡◌, ◌∙◌, ◌+◌, ℕ, Bool, true, false, List, [], ◌∷◌, ◌++◌, Option, Some, None, length, refl, sym, ap}
use Rattle.std.specs.declared.alloc.Global.{Global}
use Rattle.std.specs.declared.rc.Rc.{Rc}
use Rattle.std.specs.declared.vec.Vec.{Vec}
use Rattle.py_core.specs.Blocks.{stmts_in}
use Rattle.py_core.specs.declared.expr.CoreExpr.{CoreExpr}
use Rattle.py_core.specs.declared.stmt.CoreBlock.{CoreBlock}
use Rattle.py_core.specs.declared.stmt.CoreClass as class
use Rattle.py_core.specs.declared.stmt.CoreClass.{CoreClass, out-CoreClass}
use Rattle.py_values.specs.Ends.{id_at}
use Rattle.py_values.specs.declared.object.Obj.{Obj}
use Rattle.py_values.specs.declared.value.ObjId.{ObjId}
use Rattle.py_values.specs.declared.value.Value.{Value}
use Rattle.py_values.specs.declared.value.Value.TheVariants as val
use Rattle.machine_state.specs.py_world.Definitions.{based_on, class_made, define_as, source_class}
use Rattle.machine_state.specs.py_world.Exceptions.{no_exception}
use Rattle.machine_state.specs.py_world.Expressions.{arguments}
use Rattle.machine_state.specs.py_world.Outcome.{call_end, on_value, raised_at}
use Rattle.machine_state.specs.py_world.Site.{Site, trace_of}
use Rattle.machine_state.specs.py_world.World.{state, world_with_heap}
use Rattle.machine_state.specs.core_meaning.Expressions.{CorePart, parts_of}
use Rattle.machine_state.specs.core_meaning.Statements.{core_block_body, define_class}
use Rattle.machine_state.specs.declared.machine.Machine.{Machine}
use Rattle.machine_state.specs.declared.place.Place.{Place}
use Rattle.machine_state.specs.declared.place.Place.TheVariants.{Class}
use Rattle.machine_state.specs.declared.frame.Frame.{Frame}
use Rattle.machine_state.specs.declared.frame.Frame.TheVariants.{Define}
use Rattle.machine_state.specs.declared.frame.DefineFrame.TheVariants.{Body}
use Rattle.machine_state.specs.Definings.{core_class_behind, core_class_made}
use Rattle.machine_state.specs.Places.{CoreRest, CoreState, CoreThen, depth_of, home_in, parts_from, path_in, scene_in, site_of}
use Rattle.machine_state.specs.Frames.{after_stack, handled_exception, outer_of, machine_rest, site_now, state_of, world_of}
use Rattle.machine_state.specs.Work.{block_work, class_work}
use Rattle.machine_unwind.proofs.machine_turns_lemmas.Bodies.{rest_same}
use Rattle.machine_define.specs.Bases.{base_found}
use Rattle.machine_define.proofs.Functions.{all_parts}

-- a class by its parts
class_is : (c : CoreClass) (ds : List CorePart) (base : Option CorePart) (p : Site) (s : CoreState) (k : CoreThen) → arguments ds [] p s k (λ vs s. core_class_behind base c vs p s k) ≡ define_class ds base c p s k
class_is (class.CoreClass' at name q body) ds base p s k = refl

pub class_begins : (c c' : CoreClass) (ds ds' : Rc (Vec (Rc CoreExpr Global) Global) Global) (base base' : Option CorePart) (none : List Value) (p : Site) (s : CoreState) (k : CoreThen)
    → c' ≡ c → ds'.value ≡ ds.value → base' ≡ base → none ≡ []
    → arguments (parts_from (length none) ds') none p s k (λ vs s. core_class_behind base' c' vs p s k) ≡ define_class (parts_of ds.value.items) base c p s k
class_begins c c' ds ds' base base' none p s k same same_ds same_base empty =
    ap (λ (vs : List Value). arguments (parts_from (length vs) ds') vs p s k (λ vs s. core_class_behind base' c' vs p s k)) empty
    ∙ ap (λ (ps : List CorePart). arguments ps [] p s k (λ vs s. core_class_behind base' c' vs p s k)) (all_parts ds ds' same_ds)
    ∙ ap (λ (b : Option CorePart). arguments (parts_of ds.value.items) [] p s k (λ vs s. core_class_behind b c' vs p s k)) same_base
    ∙ ap (λ (x : CoreClass). arguments (parts_of ds.value.items) [] p s k (λ vs s. core_class_behind base x vs p s k)) same
    ∙ class_is c (parts_of ds.value.items) base p s k

pub class_weighs : (c : CoreClass) → class_work c ≡ block_work (stmts_in (out-CoreClass c).body.value) + 3
class_weighs (class.CoreClass' at name q body) = rw (class.outs-CoreClass') refl

made_is : (c : CoreClass) (ds : List Value) (base : Option ObjId) → core_class_made c ds base ≡ class_made (out-CoreClass c).name (out-CoreClass c).at.line (core_block_body [] (out-CoreClass c).body.value) ds base
made_is (class.CoreClass' at name q body) ds base = rw (class.outs-CoreClass') refl

-- a class's body runs, behind which it goes to its decorators
pub class_runs : (m : Machine) (c : CoreClass) (ds : Vec Value Global) (base : Option ObjId) (heap : List Obj) (o : Obj) (at : ℕ) (place : Place) (name : List ℕ) (b : CoreBlock) (fs : List Frame)
    → o ≡ source_class (out-CoreClass c).name (out-CoreClass c).at.line base (site_now m).scene → heap ≡ m.heap ++ o ∷ [] → at ≡ length m.heap
    → place ≡ Class (path_in m.here.place) (out-CoreClass c).name (home_in m.here.place) at → b ≡ (out-CoreClass c).body.value → name ≡ (out-CoreClass c).name → fs ≡ Define (Body ds name at) ∷ m.stack.own
    → core_block_body [] b (scene_in place (depth_of m.here) (trace_of (site_of m.here (outer_of fs) (handled_exception fs))) (handled_exception fs)) (state [] [] (world_with_heap heap (world_of m)))
    (λ o. after_stack fs m.here (call_end (state m.locals m.temps.items (world_with_heap heap (world_of m))) o))
    ≡ core_class_made c ds.items base (site_now m) (state_of m) (machine_rest m)
class_runs m c ds base heap o at place name b fs object grown last there same named pushed =
    let p = site_now m in
    let heap' : List Obj = m.heap ++ source_class (out-CoreClass c).name (out-CoreClass c).at.line base p.scene ∷ [] in
    let go : CoreThen = λ o. on_value o (machine_rest m) (λ w r. define_as ds.items (out-CoreClass c).name (val.Ref (id_at (length m.heap))) p r (machine_rest m)) in
    rw (pushed, named, there, same, grown, object, last, made_is c ds.items base)
    (ap (λ (k : CoreThen). core_block_body [] (out-CoreClass c).body.value (scene_in (Class (path_in m.here.place) (out-CoreClass c).name (home_in m.here.place) (length m.heap)) (depth_of m.here) (trace_of p) (handled_exception m.stack.own)) (state [] [] (world_with_heap heap' (world_of m))) k)
    (rest_same (state_of m) (world_with_heap heap' (world_of m)) go))

-- by the value of its base
pub based_there : (is : Bool) (v : Value) (id : ObjId) (p : Site) (s : CoreState) (k : CoreThen) (go : Option ObjId → CoreState → CoreRest) → base_found is v ≡ Some id → go (Some id) s ≡ based_on is v p s k go
based_there true (val.Ref i) id p s k go h = ap (λ (o : Option ObjId). go o s) (sym h)
based_there false (val.Ref i) id p s k go h = absurd cc
based_there is val.None id p s k go h = absurd cc
based_there is (val.Bool b) id p s k go h = absurd cc
based_there is (val.Int n) id p s k go h = absurd cc

pub based_nowhere : (is : Bool) (v : Value) (p : Site) (s : CoreState) (k : CoreThen) (go : Option ObjId → CoreState → CoreRest) → base_found is v ≡ None → k (raised_at no_exception p s) ≡ based_on is v p s k go
based_nowhere true (val.Ref i) p s k go h = absurd cc
based_nowhere false (val.Ref i) p s k go h = refl
based_nowhere true val.None p s k go h = refl
based_nowhere false val.None p s k go h = refl
based_nowhere true (val.Bool b) p s k go h = refl
based_nowhere false (val.Bool b) p s k go h = refl
based_nowhere true (val.Int n) p s k go h = refl
based_nowhere false (val.Int n) p s k go h = refl
