-- Contexts are entered.
use Rattle.std.proofs.Common.{◌≡◌, ◌∙◌, ℕ, Bool, true, false, List, [], ◌∷◌, length, Option, Some, None, refl, ap}
use Rattle.std.specs.declared.alloc.Global.{Global}
use Rattle.std.specs.declared.rc.Rc.{Rc}
use Rattle.py_core.specs.declared.expr.CoreExpr.{CoreExpr}
use Rattle.py_core.specs.declared.stmt.CoreBlock.{CoreBlock}
use Rattle.py_values.specs.Ends.{id_at}
use Rattle.py_values.specs.declared.object.RaisesObj.{RaisesObj}
use Rattle.py_values.specs.declared.object.Obj.TheVariants as obj
use Rattle.py_values.specs.declared.value.ObjId.{ObjId}
use Rattle.py_values.specs.declared.value.Value.{Value}
use Rattle.py_values.specs.declared.value.Value.TheVariants as val
use Rattle.pytest_calls.specs.Swallowing.{pattern_end}
use Rattle.py_world.specs.declared.trace.TraceFrame.{TraceFrame}
use Rattle.py_world.specs.Contexts.{context_entered, info_named, info_taken, searched, taken_or, with_info, with_statement}
use Rattle.py_world.specs.Outcome.{Raised, costing}
use Rattle.py_world.specs.Site.{Scene, Site, trace_of}
use Rattle.py_world.specs.World.{heap_of, with_object, with_trace}
use Rattle.machine_state.specs.core_meaning.Expressions.{eval}
use Rattle.machine_state.specs.core_meaning.Statements.{core_block_body}
use Rattle.machine_state.specs.declared.place.Location.{Location}
use Rattle.machine_state.specs.declared.frame.Frame.{Frame}
use Rattle.machine_state.specs.declared.frame.Frame.TheVariants.{Flow, Simple}
use Rattle.machine_state.specs.declared.frame.FlowFrame.TheVariants.{Context, Raises}
use Rattle.machine_state.specs.declared.frame.SimpleFrame.TheVariants.{Forget}
use Rattle.machine_state.specs.Places.{CoreState, CoreThen, site_of}
use Rattle.machine_state.specs.Frames.{after_stack, handled_exception, layers_of, outer_of}

-- a `with` begins with its context
pub with_begins : (h : Location) (fs : List Frame) (s : CoreState) (e : Rc CoreExpr Global) (name name' : Option (List ℕ)) (b b' : Rc CoreBlock Global) → name' ≡ name → b'.value ≡ b.value
    → eval e.value (site_of h (outer_of fs) (handled_exception fs)) s (after_stack (Flow (Context name' b') ∷ fs) h)
    ≡ with_statement (eval e.value) name (core_block_body [] b.value) (site_of h (outer_of fs) (handled_exception fs)) s (after_stack fs h)
with_begins h fs s e name name' b b' same_name same_body = rw (same_name, same_body) refl

-- its block begins behind its info object
pub context_begins : (h h1 : Location) (fs fs1 fs2 : List Frame) (s s1 : CoreState) (name : Option (List ℕ)) (b : CoreBlock) (r : RaisesObj) (info : ObjId)
    → h1 ≡ h → fs1 ≡ fs → s1 ≡ with_info name (site_of h (outer_of fs) (handled_exception fs)).scene s → info.at ≡ length (heap_of s) → fs2 ≡ Flow (Raises r info h1.line) ∷ fs1
    → core_block_body (layers_of fs2) b (site_of h1 (outer_of fs2) (handled_exception fs2)).scene s1 (after_stack fs2 h1)
    ≡ context_entered (Some r) name (core_block_body [] b) (site_of h (outer_of fs) (handled_exception fs)) s (after_stack fs h)
context_begins h h1 fs fs1 fs2 s s1 name b r info here stack state place pushed =
    let is : info ≡ id_at (length (heap_of s)) = ap (λ (n : ℕ). id_at n) place in rw (pushed, state, here, stack, is) refl

-- its info object is made
pub info_made : (name : Option (List ℕ)) (scene : Scene) (s s1 : CoreState) (id : ObjId) → id.at ≡ length (heap_of s) → s1 ≡ with_object (obj.Info (record { value = None })) s
    → info_named name (val.Ref id) scene s1 ≡ with_info name scene s
info_made name scene s s1 id place is =
    let same : id ≡ id_at (length (heap_of s)) = ap (λ (n : ℕ). id_at n) place in
    ap (λ (i : ObjId). info_named name (val.Ref i) scene s1) same ∙ ap (λ (x : CoreState). info_named name (val.Ref (id_at (length (heap_of s)))) scene x) is

-- the pattern is searched, behind whose end the block is over
pub searches : (h : Location) (fs fs1 : List Frame) (s : CoreState) (pattern : Option (List ℕ)) (e : Value) → fs1 ≡ Simple Forget ∷ fs
    → costing (pattern_end (heap_of s) pattern e) (trace_of (site_of h (outer_of fs1) (handled_exception fs1))) s (after_stack fs1 h)
    ≡ searched pattern e (site_of h (outer_of fs) (handled_exception fs)) s (after_stack fs h)
searches h fs fs1 s pattern e pushed = rw pushed refl

-- an exception that is taken, and one that is not
pub taken_goes : (h h1 : Location) (fs fs1 : List Frame) (s s1 : CoreState) (b : Bool) (r : RaisesObj) (info : ObjId) (e : Value) (trace : List TraceFrame)
    → b ≡ true → h1 ≡ h → fs1 ≡ fs → s1 ≡ info_taken info e (with_trace e trace s)
    → searched r.pattern e (site_of h1 (outer_of fs1) (handled_exception fs1)) s1 (after_stack fs1 h1)
    ≡ taken_or b r info e trace (site_of h (outer_of fs) (handled_exception fs)) s (after_stack fs h)
taken_goes h h1 fs fs1 s s1 b r info e trace taken here stack is =
    ap (λ (x : CoreState). searched r.pattern e (site_of h1 (outer_of fs1) (handled_exception fs1)) x (after_stack fs1 h1)) is ∙ rw (here, stack, taken) refl

pub other_goes : (b : Bool) (r : RaisesObj) (info : ObjId) (e : Value) (trace : List TraceFrame) (p : Site) (s : CoreState) (k : CoreThen) → b ≡ false
    → k (Raised e trace s) ≡ taken_or b r info e trace p s k
other_goes b r info e trace p s k is = rw is refl
