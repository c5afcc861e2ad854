-- No definition, `raise` or import looks at what follows it.
use Rattle.std.proofs.Common.{◌≡◌, ℕ, List, [], ◌∷◌, ◌++◌, refl, Bool, true, false, Option, Some, None}
use Rattle.std.specs.Prelude.{length, reverse}
use Rattle.run_tree.specs.Todo.{bind}
use Rattle.py_tree.specs.declared.stmt.Alias.{Alias}
use Rattle.py_values.specs.declared.rows.Param.{Param}
use Rattle.py_values.specs.declared.value.ObjId.{ObjId}
use Rattle.py_values.specs.declared.value.Value.{Value}
use Rattle.py_values.specs.declared.value.Value.TheVariants as val
use Rattle.py_values.specs.Ends.{id_at}
use Rattle.source_meaning.specs.py_world.World.{Kinds, CallState, heap_of}
use Rattle.source_meaning.specs.py_world.Site.{Site, around_of}
use Rattle.source_meaning.specs.py_world.Arguments.{positional_arguments}
use Rattle.source_meaning.specs.py_world.Names.{bound}
use Rattle.source_meaning.specs.py_kinds.Builtins.{pytest_module}
use Rattle.source_meaning.specs.py_kinds.Classes.{is_exc_class}
use Rattle.source_meaning.specs.py_world.Outcome.{Rest, Continuation, Denotation, Body, call_end}
use Rattle.source_meaning.specs.py_world.Calls.{Entry}
use Rattle.source_meaning.specs.py_world.Raising.{raise_init, raise_on, raise_value}
use Rattle.source_meaning.specs.py_world.Definitions.{Written, with_defaults, decoration, decorated_by, decorated, define_as, function_made, define_behind, define, based_on, class_base, class_made, class_behind_decorators, class_statement}
use Rattle.source_meaning.specs.py_world.Imports.{source_paths, import_path, prefixes_behind, is_pytest, pytest_or, submodule, alias_name, name_of_module, faulty, module_at, modules_at, imported, import_statement, submodule_or, own_or_submodule, import_each, import_from}
use Rattle.core_rules.proofs.Linear as line
use Rattle.core_rules.proofs.Linear.{Behind, Linear, LinearBody, LinearAll, LinearSome}
use Rattle.core_rules.proofs.LinearFlow as flow

module _ {K : Kinds} where
  decorated_linear : (ds : List Value) (v : Value) → Linear {K = K} (decorated ds v)
  decorated_linear [] v = record { does = λ p s k l. refl }
  decorated_linear (d ∷ ds) v = record { does = λ p s k l. line.value_bind k l _ _ (λ w s. (decorated_linear ds w).does p s k l) (decorated_by (decoration (heap_of s) d v) d v p s) }

  define_as_linear : (ds : List Value) (name : List ℕ) (v : Value) → Linear {K = K} (define_as ds name v)
  define_as_linear ds name v = record { does = λ p s k l. line.then_linear (decorated_linear (reverse ds) v) p s _ _ l (line.value_bind k l _ _ (λ w s. refl)) }

  function_made_linear : (name : List ℕ) (line_at : ℕ) (yields : Bool) (code : K.code) (ds : List Value) (params : List Param) → Linear (function_made {K = K} name line_at yields code ds params)
  function_made_linear name line_at yields code ds params = record { does = λ p s k l. (define_as_linear ds name (val.Ref (id_at (length (heap_of s))))).does p _ k l }

  define_behind_linear : {es : List (Denotation K)} → LinearAll es → (written : List Written) (name : List ℕ) (line_at : ℕ) (yields : Bool) (code : K.code) (ds : List Value) → Linear (define_behind es written name line_at yields code ds)
  define_behind_linear es written name line_at yields code ds =
      record { does = λ p s k l. flow.arguments_bind es [] p s k l (λ vs s. function_made name line_at yields code ds (with_defaults written vs) p s k) (λ vs s. function_made name line_at yields code ds (with_defaults written vs) p s (Behind l k)) (λ vs s. (function_made_linear name line_at yields code ds (with_defaults written vs)).does p s k l) }

  pub define_linear : {ds es : List (Denotation K)} → LinearAll ds → LinearAll es → (written : List Written) (name : List ℕ) (line_at : ℕ) (yields : Bool) (code : K.code) → Linear (define ds es written name line_at yields code)
  define_linear {es = defaults} ds es written name line_at yields code =
      record { does = λ p s k l. flow.arguments_bind ds [] p s k l (λ vs s. define_behind defaults written name line_at yields code vs p s k) (λ vs s. define_behind defaults written name line_at yields code vs p s (Behind l k)) (λ vs s. (define_behind_linear es written name line_at yields code vs).does p s k l) }

  based_bind : (is : Bool) (v : Value) (p : Site) (s : CallState K) (k l : Continuation K) (go go' : Option ObjId → CallState K → Rest K) → ((b : Option ObjId) (s : CallState K) → bind (go b s) l ≡ go' b s) → bind (based_on is v p s k go) l ≡ based_on is v p s (Behind l k) go'
  based_bind true (val.Ref id) p s k l go go' g = g (Some id) s
  based_bind true val.None p s k l go go' g = refl
  based_bind true (val.Bool b) p s k l go go' g = refl
  based_bind true (val.Int n) p s k l go go' g = refl
  based_bind false v p s k l go go' g = refl

  base_bind : {e : Option (Denotation K)} → LinearSome e → (p : Site) (s : CallState K) (k l : Continuation K) (go go' : Option ObjId → CallState K → Rest K) → ((b : Option ObjId) (s : CallState K) → bind (go b s) l ≡ go' b s) → bind (class_base e p s k go) l ≡ class_base e p s (Behind l k) go'
  base_bind line.none p s k l go go' g = g None s
  base_bind (line.some e) p s k l go go' g = line.then_linear e p s _ _ l (line.value_bind k l _ _ (λ v s. based_bind (is_exc_class (heap_of s) v) v p s k l go go' g))

  class_made_linear : (name : List ℕ) (line_at : ℕ) {b : Body K} → LinearBody b → (ds : List Value) (base : Option ObjId) → Linear (class_made name line_at b ds base)
  class_made_linear name line_at b ds base =
      record { does = λ p s k l. line.body_then b _ _ _ _ l (λ o. line.value_bind k l _ _ (λ w r. (define_as_linear ds name (val.Ref (id_at (length (heap_of s))))).does p r k l) (call_end s o)) }

  class_behind_linear : {base : Option (Denotation K)} → LinearSome base → (name : List ℕ) (line_at : ℕ) {b : Body K} → LinearBody b → (ds : List Value) → Linear (class_behind_decorators base name line_at b ds)
  class_behind_linear base name line_at {b = body} b ds =
      record { does = λ p s k l. base_bind base p s k l (λ c s. class_made name line_at body ds c p s k) (λ c s. class_made name line_at body ds c p s (Behind l k)) (λ c s. (class_made_linear name line_at b ds c).does p s k l) }

  pub class_linear : {ds : List (Denotation K)} {base : Option (Denotation K)} → LinearAll ds → LinearSome base → (name : List ℕ) (line_at : ℕ) {b : Body K} → LinearBody b → Linear (class_statement ds base name line_at b)
  class_linear {base = from} ds base name line_at {b = body} b =
      record { does = λ p s k l. flow.arguments_bind ds [] p s k l (λ vs s. class_behind_decorators from name line_at body vs p s k) (λ vs s. class_behind_decorators from name line_at body vs p s (Behind l k)) (λ vs s. (class_behind_linear base name line_at b vs).does p s k l) }

-- the `raise` of an exception that a call makes
module _ {K : Kinds} (entry : K.code → Entry K) (bodies : (c : K.code) → LinearBody (entry c).body) where
  raise_on_linear : (init : Option Value) (v : Value) → Linear (raise_on entry init v)
  raise_on_linear None v = record { does = λ p s k l. refl }
  raise_on_linear (Some init) v = record { does = λ p s k l. line.invoke_then entry bodies v (positional_arguments []) (around_of p) s _ _ l (λ o. line.value_bind k l _ _ (λ x s. refl) (call_end s o)) }

  pub raise_linear : {e : Option (Denotation K)} → LinearSome e → Linear (raise_value entry e)
  raise_linear line.none = record { does = λ p s k l. refl }
  raise_linear (line.some e) = record { does = λ p s k l. line.then_linear e p s _ _ l (line.value_bind k l _ _ (λ v s. (raise_on_linear (raise_init (heap_of s) v) v).does p s k l)) }

-- imports of sources
module _ {K : Kinds} (body : K.script → Body K) (bodies : (c : K.script) → LinearBody (body c)) where
  faulty_linear : (path : List ℕ) → Linear {K = K} (faulty path)
  faulty_linear path = record { does = λ p s k l. refl }

  module_bind : (path : Option (List ℕ)) (p : Site) (s : CallState K) (k l : Continuation K) (go go' : Option Value → CallState K → Rest K) → ((m : Option Value) (s : CallState K) → bind (go m s) l ≡ go' m s) → bind (module_at body path p s k go) l ≡ module_at body path p s (Behind l k) go'
  module_bind None p s k l go go' g = g None s
  module_bind (Some path) p s k l go go' g = line.then_linear (line.load_linear body bodies path (faulty_linear path)) p s _ _ l (line.value_bind k l _ _ (λ m s. g (Some m) s))

  pytest_bind : (is : Bool) (d : List (List ℕ)) (p : Site) (s : CallState K) (k l : Continuation K) (go go' : Option Value → CallState K → Rest K) → ((m : Option Value) (s : CallState K) → bind (go m s) l ≡ go' m s) → bind (pytest_or body is d p s k go) l ≡ pytest_or body is d p s (Behind l k) go'
  pytest_bind true d p s k l go go' g = g (Some (val.Ref pytest_module)) s
  pytest_bind false d p s k l go go' g = module_bind (import_path (source_paths s.world.sources) p.scene.path d) p s k l go go' g

  modules_bind : (ds : List (List (List ℕ))) (m : Option Value) (p : Site) (s : CallState K) (k l : Continuation K) (go go' : Option Value → CallState K → Rest K) → ((m : Option Value) (s : CallState K) → bind (go m s) l ≡ go' m s) → bind (modules_at body ds m p s k go) l ≡ modules_at body ds m p s (Behind l k) go'
  modules_bind [] m p s k l go go' g = g m s
  modules_bind (d ∷ ds) m p s k l go go' g =
      pytest_bind (is_pytest d) d p s k l (λ m s. modules_at body ds m p s k go) (λ m s. modules_at body ds m p s (Behind l k) go') (λ m s. modules_bind ds m p s k l go go' g)

  imported_bind : (dotted : List (List ℕ)) (p : Site) (s : CallState K) (k l : Continuation K) (go go' : Option Value → CallState K → Rest K) → ((m : Option Value) (s : CallState K) → bind (go m s) l ≡ go' m s) → bind (imported body dotted p s k go) l ≡ imported body dotted p s (Behind l k) go'
  imported_bind dotted p s k l go go' g = modules_bind (prefixes_behind [] dotted) None p s k l go go' g

  pub import_linear : (dotted : List (List ℕ)) (alias : Option (List ℕ)) → Linear (import_statement body dotted alias)
  import_linear dotted alias = record { does = λ p s k l. imported_bind dotted p s k l _ _ (λ m s. refl) }

  submodule_bind : (n m : Option Value) (dotted : List (List ℕ)) (name : List ℕ) (p : Site) (s : CallState K) (k l : Continuation K) (go go' : Value → CallState K → Rest K) → ((v : Value) (s : CallState K) → bind (go v s) l ≡ go' v s) → bind (submodule_or n m dotted name p s k go) l ≡ submodule_or n m dotted name p s (Behind l k) go'
  submodule_bind (Some v) m dotted name p s k l go go' g = g v s
  submodule_bind None (Some m) dotted name p s k l go go' g = refl
  submodule_bind None None dotted name p s k l go go' g = refl

  inside_bind : (is : Bool) (m : Option Value) (dotted : List (List ℕ)) (name : List ℕ) (p : Site) (s : CallState K) (k l : Continuation K) (go go' : Value → CallState K → Rest K) → ((v : Value) (s : CallState K) → bind (go v s) l ≡ go' v s) → bind (submodule body is m dotted name p s k go) l ≡ submodule body is m dotted name p s (Behind l k) go'
  inside_bind true m dotted name p s k l go go' g = refl
  inside_bind false m dotted name p s k l go go' g =
      imported_bind (dotted ++ name ∷ []) p s k l (λ n s. submodule_or n m dotted name p s k go) (λ n s. submodule_or n m dotted name p s (Behind l k) go') (λ n s. submodule_bind n m dotted name p s k l go go' g)

  own_bind : (own m : Option Value) (dotted : List (List ℕ)) (name : List ℕ) (p : Site) (s : CallState K) (k l : Continuation K) (go go' : Value → CallState K → Rest K) → ((v : Value) (s : CallState K) → bind (go v s) l ≡ go' v s) → bind (own_or_submodule body own m dotted name p s k go) l ≡ own_or_submodule body own m dotted name p s (Behind l k) go'
  own_bind (Some v) m dotted name p s k l go go' g = g v s
  own_bind None m dotted name p s k l go go' g = inside_bind (is_pytest dotted) m dotted name p s k l go go' g

  each_linear : (m : Option Value) (dotted : List (List ℕ)) (all : List Alias) → Linear (import_each body m dotted all)
  each_linear m dotted [] = record { does = λ p s k l. refl }
  each_linear m dotted (a ∷ rest) =
      record { does = λ p s k l. own_bind (name_of_module (heap_of s) a.name m) m dotted a.name p s k l (λ v s. import_each body m dotted rest p (bound (alias_name a) v p.scene s) k) (λ v s. import_each body m dotted rest p (bound (alias_name a) v p.scene s) (Behind l k)) (λ v s. (each_linear m dotted rest).does p (bound (alias_name a) v p.scene s) k l) }

  pub from_linear : (dotted : List (List ℕ)) (all : List Alias) → Linear (import_from body dotted all)
  from_linear dotted all =
      record { does = λ p s k l. imported_bind dotted p s k l (λ m s. import_each body m dotted all p s k) (λ m s. import_each body m dotted all p s (Behind l k)) (λ m s. (each_linear m dotted all).does p s k l) }
