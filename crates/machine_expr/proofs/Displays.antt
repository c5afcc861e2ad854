-- A display begins with its first part.
use Rattle.std.proofs.Common.{◌≡◌, ◌∙◌, ◌++◌, ◌+◌, ℕ, List, [], ◌∷◌, drop, length, length-append, map, ap, sym}
use Rattle.std.specs.declared.alloc.Global.{Global}
use Rattle.std.specs.declared.rc.Rc.{Rc}
use Rattle.std.specs.declared.vec.Vec.{Vec}
use Rattle.py_core.specs.declared.expr.CoreExpr.{CoreExpr}
use Rattle.py_values.specs.declared.value.Value.{Value}
use Rattle.machine_state.specs.py_world.Displays.{displayed, dict_displayed, in_pairs}
use Rattle.machine_state.specs.py_world.Expressions.{arguments}
use Rattle.machine_state.specs.py_world.Outcome.{on_value, costing}
use Rattle.machine_state.specs.py_world.Site.{Site, trace_of}
use Rattle.machine_state.specs.py_world.World.{heap_of}
use Rattle.machine_state.specs.core_meaning.Expressions.{CorePart, eval}
use Rattle.machine_state.specs.declared.frame.Display.{Display}
use Rattle.machine_state.specs.Places.{CoreRest, CoreState, CoreThen, parts_from}
use Rattle.machine_state.specs.Frames.{display_of}
use Rattle.machine_expr.specs.Pairs.{pairs_from}

module _ (part : CorePart) (ps rest : List CorePart) (none : List Value) (more : List Value → List CorePart) (p : Site) (s : CoreState) (k : CoreThen) (go : List Value → CoreState → CoreRest) where
  first_part : none ≡ [] → more [] ≡ rest → ps ≡ part ∷ rest
      → part p s (λ o. on_value o k (λ v s. arguments (more none) (none ++ v ∷ []) p s k go)) ≡ arguments ps [] p s k go
  first_part empty is row =
      ap (λ (vs : List Value). part p s (λ o. on_value o k (λ v s. arguments (more vs) (vs ++ v ∷ []) p s k go))) empty
      ∙ ap (λ (qs : List CorePart). part p s (λ o. on_value o k (λ v s. arguments qs ([] ++ v ∷ []) p s k go))) is
      ∙ ap (λ (qs : List CorePart). arguments qs [] p s k go) (sym row)

module _ (e : Rc CoreExpr Global) (none : List Value) (p : Site) (s : CoreState) (k : CoreThen) (go : List Value → CoreState → CoreRest) where
  pub display_begins : (es es' : Rc (Vec (Rc CoreExpr Global) Global) Global) → none ≡ [] → es'.value ≡ es.value → parts_from 0 es ≡ eval e.value ∷ parts_from (0 + 1) es
      → eval e.value p s (λ o. on_value o k (λ v s. arguments (parts_from (length none + 1) es') (none ++ v ∷ []) p s k go)) ≡ arguments (parts_from 0 es) [] p s k go
  display_begins es es' empty same row =
      first_part (eval e.value) (parts_from 0 es) (parts_from (0 + 1) es) none (λ vs. parts_from (length vs + 1) es') p s k go empty
      (ap (λ (x : Vec (Rc CoreExpr Global) Global). map (λ (e : Rc CoreExpr Global). eval e.value) (drop (0 + 1) x.items)) same) row

  pub pairs_begin : (ks es ks' es' : Rc (Vec (Rc CoreExpr Global) Global) Global) → none ≡ [] → ks'.value ≡ ks.value → es'.value ≡ es.value
      → pairs_from 0 ks es ≡ eval e.value ∷ pairs_from (0 + 1) ks es
      → eval e.value p s (λ o. on_value o k (λ v s. arguments (drop (length none + 1) (in_pairs (parts_from 0 ks') (parts_from 0 es'))) (none ++ v ∷ []) p s k go))
      ≡ arguments (in_pairs (parts_from 0 ks) (parts_from 0 es)) [] p s k go
  pairs_begin ks es ks' es' empty same alike row =
      first_part (eval e.value) (pairs_from 0 ks es) (pairs_from (0 + 1) ks es) none (λ vs. drop (length vs + 1) (in_pairs (parts_from 0 ks') (parts_from 0 es'))) p s k go empty
      (ap (λ (x : Vec (Rc CoreExpr Global) Global). drop (0 + 1) (in_pairs (map (λ (e : Rc CoreExpr Global). eval e.value) (drop 0 x.items)) (parts_from 0 es'))) same
      ∙ ap (λ (x : Vec (Rc CoreExpr Global) Global). drop (0 + 1) (in_pairs (parts_from 0 ks) (map (λ (e : Rc CoreExpr Global). eval e.value) (drop 0 x.items)))) alike) row

-- the value of a part is behind those before it
module _ (before now : List Value) (v : Value) (p : Site) (s : CoreState) (k : CoreThen) (go : List Value → CoreState → CoreRest) where
  taken : (more : ℕ → List CorePart) → now ≡ before ++ v ∷ [] → arguments (more (length now)) now p s k go ≡ arguments (more (length before + 1)) (before ++ v ∷ []) p s k go
  taken more is =
      ap (λ (vs : List Value). arguments (more (length vs)) vs p s k go) is
      ∙ ap (λ (n : ℕ). arguments (more n) (before ++ v ∷ []) p s k go) (length-append before (v ∷ []))

pub element_taken : (d : Display) (es : Rc (Vec (Rc CoreExpr Global) Global) Global) (before now : List Value) (v : Value) (p : Site) (s : CoreState) (k : CoreThen) → now ≡ before ++ v ∷ []
    → arguments (parts_from (length now) es) now p s k (λ vs s. costing (displayed (display_of d) vs) (trace_of p) s k)
    ≡ arguments (parts_from (length before + 1) es) (before ++ v ∷ []) p s k (λ vs s. costing (displayed (display_of d) vs) (trace_of p) s k)
element_taken d es before now v p s k is =
    taken before now v p s k (λ vs s. costing (displayed (display_of d) vs) (trace_of p) s k) (λ n. parts_from n es) is

pub pair_taken : (ks es : Rc (Vec (Rc CoreExpr Global) Global) Global) (before now : List Value) (v : Value) (p : Site) (s : CoreState) (k : CoreThen) → now ≡ before ++ v ∷ []
    → arguments (pairs_from (length now) ks es) now p s k (λ vs s. costing (dict_displayed (heap_of s) vs) (trace_of p) s k)
    ≡ arguments (pairs_from (length before + 1) ks es) (before ++ v ∷ []) p s k (λ vs s. costing (dict_displayed (heap_of s) vs) (trace_of p) s k)
pair_taken ks es before now v p s k is =
    taken before now v p s k (λ vs s. costing (dict_displayed (heap_of s) vs) (trace_of p) s k) (λ n. pairs_from n ks es) is
