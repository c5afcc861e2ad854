-- The same of definitions and of `raise`.
use Rattle.std.proofs.Common.{ℕ, List, [], ◌∷◌, ◌++◌, Option, Some, None, Bool, true, false, subst}
use Rattle.std.specs.Prelude.{length, reverse}
use Rattle.py_values.specs.Ends.{id_at}
use Rattle.py_values.specs.declared.end.Raise.{Raise}
use Rattle.py_values.specs.declared.rows.Param.{Param}
use Rattle.py_values.specs.declared.value.ObjId.{ObjId}
use Rattle.py_values.specs.declared.value.Value.{Value}
use Rattle.py_values.specs.declared.value.Value.TheVariants as val
use Rattle.source_meaning.specs.py_world.World.{Kinds, CallState, heap_of, state}
use Rattle.source_meaning.specs.py_world.Site.{Scene, Site, trace_of, around_of}
use Rattle.source_meaning.specs.py_world.Arguments.{positional_arguments}
use Rattle.source_meaning.specs.py_kinds.Classes.{is_exc_class}
use Rattle.source_meaning.specs.py_world.Exceptions.{no_exception}
use Rattle.source_meaning.specs.py_world.Outcome.{Outcome, Rest, Continuation, Denotation, Body, on_value, raised_at}
use Rattle.source_meaning.specs.py_world.Calls.{Entry}
use Rattle.source_meaning.specs.py_world.Raising.{raise_init, raise_it, raise_on, raise_value}
use Rattle.source_meaning.specs.py_world.Definitions.{Written, Decoration, Replaced, Marked, Same, Refused, with_defaults, function_object, bad_decorator, with_function, decoration, decorated_by, decorated, define_as, function_made, define_behind, define, based_on, class_base, class_scene, class_made, class_behind_decorators, class_statement}
use Rattle.lower_law.specs.Alike.{Likeness, worlds, StatesAlike, states, EndsAlike, gave, next, stored_from, world_from}
use Rattle.lower_law.proofs.Parts as part
use Rattle.lower_law.proofs.Blocks as block
use Rattle.lower_law.proofs.Flow as flow

module _ {K J : Kinds} (R : Likeness K J) where
  abbrev States : CallState K → CallState J → Type 0
  States = StatesAlike R

  abbrev Ends : Outcome K → Outcome J → Type 0
  Ends = EndsAlike R

  abbrev Follow : Rest K → Rest J → Type 0
  Follow = part.Follow R

  abbrev Behind : Continuation K → Continuation J → Type 0
  Behind = part.Behind R

  abbrev PartSame : Denotation K → Denotation J → Type 0
  PartSame = part.PartSame R

  value_same : {o : Outcome K} {q : Outcome J} → Ends o q → (k : Continuation K) (l : Continuation J) → Behind k l → (go : Value → CallState K → Rest K) (go' : Value → CallState J → Rest J) → ((v : Value) (s : CallState K) (r : CallState J) → States s r → Follow (go v s) (go' v r)) → Follow (on_value o k go) (on_value q l go')
  value_same n k l h go go' g = part.value_same R n k l h go go' g

  raised_same : (e : Raise) (p : Site) {s : CallState K} {r : CallState J} → States s r → Ends (raised_at e p s) (raised_at e p r)
  raised_same e p ss = part.raised_same R e (trace_of p) ss

  decorated_by_same : (x : Decoration) (d v : Value) (p : Site) {s : CallState K} {r : CallState J} → States s r → Ends (decorated_by x d v p s) (decorated_by x d v p r)
  decorated_by_same (Replaced o) d v p (states a t (worlds ss cs fs modules heap printed traces)) = gave _ (states a t (worlds ss cs fs modules _ printed traces))
  decorated_by_same Marked d v p (states a t (worlds ss cs fs modules heap printed traces)) = gave v (states a t (worlds ss cs fs modules _ printed traces))
  decorated_by_same Same d v p ss = gave v ss
  decorated_by_same Refused d v p ss = raised_same bad_decorator p ss

  decorated_here : (d v : Value) (p : Site) {s : CallState K} {r : CallState J} → States s r → Ends (decorated_by (decoration (heap_of s) d v) d v p s) (decorated_by (decoration (heap_of r) d v) d v p r)
  decorated_here d v p (states a t (worlds ss cs fs modules heap printed traces)) = decorated_by_same (decoration heap d v) d v p (states a t (worlds ss cs fs modules heap printed traces))

  decorated_same : (ds : List Value) (v : Value) → PartSame (decorated ds v) (decorated ds v)
  decorated_same [] v = record { does = λ p ss k l h. h _ _ (gave v ss) }
  decorated_same (d ∷ ds) v = record { does = λ p ss k l h. value_same (decorated_here d v p ss) k l h (λ w s. decorated ds w p s k) (λ w s. decorated ds w p s l) (λ w s r ss. (decorated_same ds w).does p ss k l h) }

  define_as_same : (ds : List Value) (name : List ℕ) (v : Value) → PartSame (define_as ds name v) (define_as ds name v)
  define_as_same ds name v = record { does = λ p ss k l h. (decorated_same (reverse ds) v).does p ss _ _ (λ o q n. value_same n k l h _ _ (λ w s r ss. h _ _ (next (block.bound_same R name w p.scene ss)))) }

  with_function_same : (name : List ℕ) (line : ℕ) (params : List Param) (yields : Bool) (c : K.code) (d : J.code) → R.codes c d → (scene : Scene) {s : CallState K} {r : CallState J} → States s r → States (with_function name line params yields c scene s) (with_function name line params yields d scene r)
  with_function_same name line params yields c d h scene (states a t (worlds {ss = ss} {ts = ts} {cs = cs} {ds = ds} {fs = fs} {gs = gs} xs ys zs modules heap printed traces)) =
      subst
      (λ n. States (state a t (world_from ss modules (heap ++ function_object name line params yields (length cs) scene ∷ []) (cs ++ stored_from scene.path scene.home c ∷ []) printed fs traces))
      (state a t (world_from ts modules (heap ++ function_object name line params yields n scene ∷ []) (ds ++ stored_from scene.path scene.home d ∷ []) printed gs traces)))
      (block.codes_length R ys) (states a t (worlds xs (block.codes_more R ys scene.path scene.home c d h) zs modules _ printed traces))

  function_made_here : (name : List ℕ) (line : ℕ) (yields : Bool) (c : K.code) (d : J.code) → R.codes c d → (ds : List Value) (params : List Param) (p : Site) {s : CallState K} {r : CallState J} → States s r → (k : Continuation K) (l : Continuation J) → Behind k l → Follow (function_made name line yields c ds params p s k) (function_made name line yields d ds params p r l)
  function_made_here name line yields c d x ds params p (states a t (worlds xs ys zs modules heap printed traces)) k l h =
      (define_as_same ds name (val.Ref (id_at (length heap)))).does p (with_function_same name line params yields c d x p.scene (states a t (worlds xs ys zs modules heap printed traces))) k l h

  define_behind_same : {es : List (Denotation K)} {fs : List (Denotation J)} → part.PartsSame R es fs → (written : List Written) (name : List ℕ) (line : ℕ) (yields : Bool) {c : K.code} {d : J.code} → R.codes c d → (ds : List Value) → PartSame (define_behind es written name line yields c ds) (define_behind fs written name line yields d ds)
  define_behind_same xs written name line yields {c = c} {d = d} x ds =
      record { does = λ p ss k l h. flow.arguments_same R xs [] p ss k l h (λ vs s. function_made name line yields c ds (with_defaults written vs) p s k) (λ vs s. function_made name line yields d ds (with_defaults written vs) p s l) (λ vs s r ss. function_made_here name line yields c d x ds (with_defaults written vs) p ss k l h) }

  pub define_same : {ds es : List (Denotation K)} {ds' es' : List (Denotation J)} → part.PartsSame R ds ds' → part.PartsSame R es es' → (written : List Written) (name : List ℕ) (line : ℕ) (yields : Bool) {c : K.code} {d : J.code} → R.codes c d → PartSame (define ds es written name line yields c) (define ds' es' written name line yields d)
  define_same {es = es} {es' = es'} xs ys written name line yields {c = c} {d = d} x =
      record { does = λ p ss k l h. flow.arguments_same R xs [] p ss k l h (λ vs s. define_behind es written name line yields c vs p s k) (λ vs s. define_behind es' written name line yields d vs p s l) (λ vs s r ss. (define_behind_same ys written name line yields x vs).does p ss k l h) }

  -- classes
  based_same : (is : Bool) (v : Value) (p : Site) {s : CallState K} {r : CallState J} → States s r → (k : Continuation K) (l : Continuation J) → Behind k l → (go : Option ObjId → CallState K → Rest K) (go' : Option ObjId → CallState J → Rest J) → ((b : Option ObjId) (s : CallState K) (r : CallState J) → States s r → Follow (go b s) (go' b r)) → Follow (based_on is v p s k go) (based_on is v p r l go')
  based_same true (val.Ref id) p ss k l h go go' g = g (Some id) _ _ ss
  based_same true val.None p ss k l h go go' g = h _ _ (raised_same no_exception p ss)
  based_same true (val.Bool b) p ss k l h go go' g = h _ _ (raised_same no_exception p ss)
  based_same true (val.Int n) p ss k l h go go' g = h _ _ (raised_same no_exception p ss)
  based_same false v p ss k l h go go' g = h _ _ (raised_same no_exception p ss)

  based_here : (v : Value) (p : Site) {s : CallState K} {r : CallState J} → States s r → (k : Continuation K) (l : Continuation J) → Behind k l → (go : Option ObjId → CallState K → Rest K) (go' : Option ObjId → CallState J → Rest J) → ((b : Option ObjId) (s : CallState K) (r : CallState J) → States s r → Follow (go b s) (go' b r)) → Follow (based_on (is_exc_class (heap_of s) v) v p s k go) (based_on (is_exc_class (heap_of r) v) v p r l go')
  based_here v p (states a t (worlds xs ys zs modules heap printed traces)) k l h go go' g = based_same (is_exc_class heap v) v p (states a t (worlds xs ys zs modules heap printed traces)) k l h go go' g

  base_same : {e : Option (Denotation K)} {f : Option (Denotation J)} → block.SomeSame R e f → (p : Site) {s : CallState K} {r : CallState J} → States s r → (k : Continuation K) (l : Continuation J) → Behind k l → (go : Option ObjId → CallState K → Rest K) (go' : Option ObjId → CallState J → Rest J) → ((b : Option ObjId) (s : CallState K) (r : CallState J) → States s r → Follow (go b s) (go' b r)) → Follow (class_base e p s k go) (class_base f p r l go')
  base_same block.none p ss k l h go go' g = g None _ _ ss
  base_same (block.some x) p ss k l h go go' g = x.does p ss _ _ (λ o q n. value_same n k l h (λ v s. based_on (is_exc_class (heap_of s) v) v p s k go) (λ v s. based_on (is_exc_class (heap_of s) v) v p s l go') (λ v s r ss. based_here v p ss k l h go go' g))

  class_made_here : (name : List ℕ) (line : ℕ) {b : Body K} {c : Body J} → block.BodySame R b c → (ds : List Value) (base : Option ObjId) (p : Site) {s : CallState K} {r : CallState J} → States s r → (k : Continuation K) (l : Continuation J) → Behind k l → Follow (class_made name line b ds base p s k) (class_made name line c ds base p r l)
  class_made_here name line b ds base p (states a t (worlds xs ys zs modules heap printed traces)) k l h =
      b.does (class_scene name (length heap) p) (states [] [] (worlds xs ys zs modules _ printed traces)) _ _
      (λ o q n. value_same (part.call_end_same R (states a t (worlds xs ys zs modules heap printed traces)) n) k l h (λ w r. define_as ds name (val.Ref (id_at (length heap))) p r k) (λ w r. define_as ds name (val.Ref (id_at (length heap))) p r l) (λ w s r ss. (define_as_same ds name (val.Ref (id_at (length heap)))).does p ss k l h))

  class_behind_same : {e : Option (Denotation K)} {f : Option (Denotation J)} → block.SomeSame R e f → (name : List ℕ) (line : ℕ) {b : Body K} {c : Body J} → block.BodySame R b c → (ds : List Value) → PartSame (class_behind_decorators e name line b ds) (class_behind_decorators f name line c ds)
  class_behind_same x name line {b = b} {c = c} y ds =
      record { does = λ p ss k l h. base_same x p ss k l h (λ base s. class_made name line b ds base p s k) (λ base s. class_made name line c ds base p s l) (λ base s r ss. class_made_here name line y ds base p ss k l h) }

  pub class_same : {ds : List (Denotation K)} {ds' : List (Denotation J)} → part.PartsSame R ds ds' → {e : Option (Denotation K)} {f : Option (Denotation J)} → block.SomeSame R e f → (name : List ℕ) (line : ℕ) {b : Body K} {c : Body J} → block.BodySame R b c → PartSame (class_statement ds e name line b) (class_statement ds' f name line c)
  class_same xs {e = e} {f = f} x name line {b = b} {c = c} y =
      record { does = λ p ss k l h. flow.arguments_same R xs [] p ss k l h (λ vs s. class_behind_decorators e name line b vs p s k) (λ vs s. class_behind_decorators f name line c vs p s l) (λ vs s r ss. (class_behind_same x name line y vs).does p ss k l h) }

  -- `raise`
  raise_it_same : (v : Value) → PartSame (raise_it v) (raise_it v)
  raise_it_same v = record { does = λ p ss k l h. h _ _ (flow.raised_value_same R v p ss) }

  module _ (entry : K.code → Entry K) (other : J.code → Entry J) (same : (c : K.code) (d : J.code) → R.codes c d → block.EntrySame R (entry c) (other d)) where
    raise_on_same : (init : Option Value) (v : Value) → PartSame (raise_on entry init v) (raise_on other init v)
    raise_on_same None v = raise_it_same v
    raise_on_same (Some init) v =
        record { does = λ p ss k l h. (block.invoke_same R entry other same v (positional_arguments []) (around_of p)).does ss _ _ (λ o q n. value_same (part.call_end_same R ss n) k l h (λ x s. raise_it x p s k) (λ x s. raise_it x p s l) (λ x s r ss. (raise_it_same x).does p ss k l h)) }

    raise_on_here : (v : Value) (p : Site) {s : CallState K} {r : CallState J} → States s r → (k : Continuation K) (l : Continuation J) → Behind k l → Follow (raise_on entry (raise_init (heap_of s) v) v p s k) (raise_on other (raise_init (heap_of r) v) v p r l)
    raise_on_here v p (states a t (worlds xs ys zs modules heap printed traces)) k l h = (raise_on_same (raise_init heap v) v).does p (states a t (worlds xs ys zs modules heap printed traces)) k l h

    pub raise_same : {e : Option (Denotation K)} {f : Option (Denotation J)} → block.SomeSame R e f → PartSame (raise_value entry e) (raise_value other f)
    raise_same block.none = record { does = λ p ss k l h. h _ _ (flow.raised_again_same R p.scene.around.handling p ss) }
    raise_same (block.some x) = record { does = λ p ss k l h. x.does p ss _ _ (λ o q n. value_same n k l h _ _ (λ v s r ss. raise_on_here v p ss k l h)) }
