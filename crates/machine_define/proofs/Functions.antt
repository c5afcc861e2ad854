-- Functions are made.
use Rattle.std.proofs.Common.{◌≡◌, ◌∙◌, ◌+◌, ℕ, List, [], ◌∷◌, ◌++◌, length, map, drop, refl, sym, ap}
use Rattle.std.proofs.lemmas.List.{length_push}
use Rattle.std.specs.declared.alloc.Global.{Global}
use Rattle.std.specs.declared.rc.Rc.{Rc}
use Rattle.std.specs.declared.vec.Vec.{Vec}
use Rattle.py_core.specs.declared.expr.CoreExpr.{CoreExpr}
use Rattle.py_core.specs.declared.stmt.CoreFn as fn
use Rattle.py_core.specs.declared.stmt.CoreFn.{CoreFn, out-CoreFn}
use Rattle.py_values.specs.Ends.{id_at}
use Rattle.py_values.specs.declared.object.Obj.{Obj}
use Rattle.py_values.specs.declared.rows.Param.{Param}
use Rattle.py_values.specs.declared.value.Value.{Value}
use Rattle.py_values.specs.declared.value.Value.TheVariants as val
use Rattle.machine_state.specs.py_world.Definitions.{define_as, function_made, function_object, stored_code, with_defaults}
use Rattle.machine_state.specs.py_world.Expressions.{arguments}
use Rattle.machine_state.specs.py_world.Site.{Site}
use Rattle.machine_state.specs.py_world.World.{FunctionCode, state}
use Rattle.machine_state.specs.core_meaning.Expressions.{CorePart, eval, parts_of}
use Rattle.machine_state.specs.core_meaning.Statements.{define_fn, written}
use Rattle.machine_state.specs.declared.machine.Machine.{Machine}
use Rattle.machine_state.specs.Definings.{fn_behind, fn_made}
use Rattle.machine_state.specs.Places.{CoreRest, CoreState, CoreThen, parts_from}
use Rattle.machine_state.specs.Frames.{frozen_of, machine_rest, site_now, state_of}

-- the parts of all expressions of a list
parts_same : (es : List (Rc CoreExpr Global)) → map (λ (e : Rc CoreExpr Global). eval e.value) es ≡ parts_of es
parts_same [] = refl
parts_same (e ∷ es) = ap (λ (ps : List CorePart). eval e.value ∷ ps) (parts_same es)

pub all_parts : (es es' : Rc (Vec (Rc CoreExpr Global) Global) Global) → es'.value ≡ es.value → parts_from 0 es' ≡ parts_of es.value.items
all_parts es es' same = ap (λ (v : Vec (Rc CoreExpr Global) Global). map (λ (e : Rc CoreExpr Global). eval e.value) (drop 0 v.items)) same ∙ parts_same es.value.items

-- the values so far, with one more
pub one_more : (es : Rc (Vec (Rc CoreExpr Global) Global) Global) (so_far vs : List Value) (v : Value) (p : Site) (s : CoreState) (k : CoreThen) (go : List Value → CoreState → CoreRest)
    → vs ≡ so_far ++ v ∷ [] → arguments (parts_from (length vs) es) vs p s k go ≡ arguments (parts_from (length so_far + 1) es) (so_far ++ v ∷ []) p s k go
one_more es so_far vs v p s k go pushed =
    ap (λ (xs : List Value). arguments (parts_from (length xs) es) xs p s k go) pushed
    ∙ ap (λ (n : ℕ). arguments (parts_from n es) (so_far ++ v ∷ []) p s k go) (length_push so_far v)

-- a definition by its parts
define_is : (f : CoreFn) (ds es : List CorePart) (p : Site) (s : CoreState) (k : CoreThen) → arguments ds [] p s k (λ vs s. fn_behind es f vs p s k) ≡ define_fn ds es f p s k
define_is (fn.CoreFn' source at name params locals yields q body) ds es p s k = refl

pub define_begins : (f f' : CoreFn) (ds ds' es es' : Rc (Vec (Rc CoreExpr Global) Global) Global) (none : List Value) (p : Site) (s : CoreState) (k : CoreThen)
    → f' ≡ f → ds'.value ≡ ds.value → es'.value ≡ es.value → none ≡ []
    → arguments (parts_from (length none) ds') none p s k (λ vs s. fn_behind (parts_from 0 es') f' vs p s k) ≡ define_fn (parts_of ds.value.items) (parts_of es.value.items) f p s k
define_begins f f' ds ds' es es' none p s k same same_ds same_es empty =
    ap (λ (vs : List Value). arguments (parts_from (length vs) ds') vs p s k (λ vs s. fn_behind (parts_from 0 es') f' vs p s k)) empty
    ∙ ap (λ (ps : List CorePart). arguments ps [] p s k (λ vs s. fn_behind (parts_from 0 es') f' vs p s k)) (all_parts ds ds' same_ds)
    ∙ ap (λ (ps : List CorePart). arguments (parts_of ds.value.items) [] p s k (λ vs s. fn_behind ps f' vs p s k)) (all_parts es es' same_es)
    ∙ ap (λ (g : CoreFn). arguments (parts_of ds.value.items) [] p s k (λ vs s. fn_behind (parts_of es.value.items) g vs p s k)) same
    ∙ define_is f (parts_of ds.value.items) (parts_of es.value.items) p s k

-- behind the last decorator
behind_is : (f : CoreFn) (ds : List Value) (es : List CorePart) (p : Site) (s : CoreState) (k : CoreThen) → arguments es [] p s k (λ vs s. fn_made f ds vs p s k) ≡ fn_behind es f ds p s k
behind_is (fn.CoreFn' source at name params locals yields q body) ds es p s k = refl

pub behind_all : (f : CoreFn) (vs none : List Value) (ds es : Rc (Vec (Rc CoreExpr Global) Global) Global) (p : Site) (s : CoreState) (k : CoreThen) → parts_from (length vs) ds ≡ [] → none ≡ []
    → arguments (parts_from (length none) es) none p s k (λ xs s. fn_made f vs xs p s k) ≡ arguments (parts_from (length vs) ds) vs p s k (λ ws s. fn_behind (parts_from 0 es) f ws p s k)
behind_all f vs none ds es p s k over empty =
    ap (λ (xs : List Value). arguments (parts_from (length xs) es) xs p s k (λ ws s. fn_made f vs ws p s k)) empty
    ∙ behind_is f vs (parts_from 0 es) p s k
    ∙ ap (λ (ps : List CorePart). arguments ps vs p s k (λ ws s. fn_behind (parts_from 0 es) f ws p s k)) (sym over)

made_is : (f : CoreFn) (ds vs : List Value) → fn_made f ds vs ≡ function_made (out-CoreFn f).name (out-CoreFn f).at.line (out-CoreFn f).yields f ds (with_defaults (written (out-CoreFn f).params.value.items) vs)
made_is (fn.CoreFn' source at name params locals yields q body) ds vs = rw (fn.outs-CoreFn') refl

-- a function is made, and what is defined goes to its decorators
pub makes : (f g : CoreFn) (m : Machine) (codes : List (FunctionCode CoreFn)) (heap : List Obj) (code : FunctionCode CoreFn) (params : List Param) (o : Obj) (at id : ℕ) (ds vs : List Value)
    → g ≡ f → code ≡ stored_code f (site_now m).scene → params ≡ with_defaults (written (out-CoreFn f).params.value.items) vs
    → o ≡ function_object (out-CoreFn f).name (out-CoreFn f).at.line params (out-CoreFn f).yields at (site_now m).scene → at ≡ length m.codes.items
    → codes ≡ m.codes.items ++ code ∷ [] → heap ≡ m.heap ++ o ∷ [] → id ≡ length m.heap
    → define_as ds (out-CoreFn g).name (val.Ref (id_at id)) (site_now m)
    (state m.locals m.temps.items (record { sources = m.sources; modules = m.modules; heap = heap; codes = codes; printed = m.printed.items; frozen = map frozen_of m.stack.frozen; traces = m.traces })) (machine_rest m)
    ≡ fn_made f ds vs (site_now m) (state_of m) (machine_rest m)
makes f g m codes heap code params o at id ds vs e e1 e2 e3 e4 e5 e6 e7 = rw (e, e7, e6, e5, e3, e2, e1, e4, made_is f ds vs) refl
