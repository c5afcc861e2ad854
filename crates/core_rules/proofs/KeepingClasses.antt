-- Definitions, `raise` and imports keep what is closed under what the forms do.
use Rattle.std.proofs.Common.{◌≡◌, refl, ℕ, List, [], ◌∷◌, ◌++◌, Bool, true, false, Option, Some, None}
use Rattle.std.specs.Prelude.{length, reverse}
use Rattle.py_source.specs.declared.fault.SourceFault.{SourceFault}
use Rattle.py_tree.specs.declared.stmt.Alias.{Alias}
use Rattle.py_values.specs.declared.end.Raise.{Raise}
use Rattle.py_values.specs.declared.rows.Param.{Param}
use Rattle.py_values.specs.declared.value.ObjId.{ObjId}
use Rattle.py_values.specs.declared.value.Value.{Value}
use Rattle.py_values.specs.declared.value.Value.TheVariants as val
use Rattle.py_values.specs.Ends.{id_at}
use Rattle.py_values.specs.Raises.{thrown}
use Rattle.source_meaning.specs.py_world.declared.load.Load.{Load}
use Rattle.source_meaning.specs.py_world.declared.load.Load.TheVariants.{Running, Loaded, Failed}
use Rattle.source_meaning.specs.py_world.World.{Kinds, World, CallState, heap_of, world_with_heap, with_object, state}
use Rattle.source_meaning.specs.py_world.Site.{Site, around_of, trace_of}
use Rattle.source_meaning.specs.py_world.Arguments.{positional_arguments}
use Rattle.source_meaning.specs.py_world.Names.{bound}
use Rattle.source_meaning.specs.py_kinds.Builtins.{pytest_module}
use Rattle.source_meaning.specs.py_kinds.Classes.{is_exc_class}
use Rattle.source_meaning.specs.py_world.Exceptions.{no_exception, raisable}
use Rattle.source_meaning.specs.py_world.Outcome.{Outcome, Rest, Continuation, Denotation, Body, on_value, raised_at, call_end}
use Rattle.source_meaning.specs.py_world.Calls.{Entry}
use Rattle.source_meaning.specs.py_world.Raising.{raise_init, raise_it, raise_on, raise_value}
use Rattle.source_meaning.specs.py_world.Definitions.{Written, Decoration, Replaced, Marked, Same, Refused, with_defaults, with_added_mark, marked_at, bad_decorator, stored_code, source_class, with_function, decoration, decorated_by, decorated, define_as, function_made, define_behind, define, based_on, class_base, class_scene, class_made, class_behind_decorators, class_statement}
use Rattle.source_meaning.specs.py_world.Imports.{source_paths, import_path, prefixes_behind, is_pytest, pytest_or, submodule, alias_name, import_name, name_of_module, no_module, not_imported, source_error, fault_in, faulty_by, faulty, import_end, submodule_or, module_at, modules_at, imported, import_statement, own_or_submodule, import_each, import_from}
use Rattle.source_meaning.specs.py_world.Runs.{load_at, coded, source_at, load_by, load_part}
use Rattle.core_rules.proofs.Keeping as keep
use Rattle.core_rules.proofs.Keeping.{Closed}
use Rattle.core_rules.proofs.KeepingFlow as flow

module _ {K : Kinds} (Good : World K → Type 0) (Fresh : List ℕ → Type 0) (closed : Closed Good Fresh) where
  abbrev Kept : Rest K → Type 0
  Kept = keep.Kept Good Fresh closed

  abbrev Behind : Continuation K → Type 0
  Behind = keep.Behind Good Fresh closed

  abbrev GoodState : CallState K → Type 0
  GoodState = keep.GoodState Good Fresh closed

  abbrev GoodEnd : Outcome K → Type 0
  GoodEnd = keep.GoodEnd Good Fresh closed

  abbrev PartKept : Denotation K → Type 0
  PartKept = keep.PartKept Good Fresh closed

  abbrev BodyKept : Body K → Type 0
  BodyKept = keep.BodyKept Good Fresh closed

  abbrev PartsKept : List (Denotation K) → Type 0
  PartsKept = keep.PartsKept Good Fresh closed

  abbrev SomeKept : Option (Denotation K) → Type 0
  SomeKept = keep.SomeKept Good Fresh closed

  value_kept : (k : Continuation K) → Behind k → (go : Value → CallState K → Rest K) → ((v : Value) (s : CallState K) → GoodState s → Kept (go v s)) → (o : Outcome K) → GoodEnd o → Kept (on_value o k go)
  value_kept = keep.value_kept Good Fresh closed

  raised_kept : (r : Raise) (p : Site) (s : CallState K) → GoodState s → GoodEnd (raised_at r p s)
  raised_kept r p s g = keep.raised_kept Good Fresh closed r (trace_of p) s g

  marked_kept : (d v : Value) (s : CallState K) → GoodState s → Good (world_with_heap (marked_at d v (heap_of s)) s.world)
  marked_kept d (val.Ref id) s g = closed.change s.world (with_added_mark d) id.at g
  marked_kept d val.None s g = g
  marked_kept d (val.Bool b) s g = g
  marked_kept d (val.Int n) s g = g

  decorated_by_kept : (x : Decoration) (d v : Value) (p : Site) (s : CallState K) → GoodState s → GoodEnd (decorated_by x d v p s)
  decorated_by_kept (Replaced o) d v p s g = closed.object s.world o g
  decorated_by_kept Marked d v p s g = marked_kept d v s g
  decorated_by_kept Same d v p s g = g
  decorated_by_kept Refused d v p s g = raised_kept bad_decorator p s g

  decorated_kept : (ds : List Value) (v : Value) → PartKept (decorated ds v)
  decorated_kept [] v = record { does = λ p s g k h. h _ g }
  decorated_kept (d ∷ ds) v = record { does = λ p s g k h. value_kept k h (λ w s. decorated ds w p s k) (λ w s g. (decorated_kept ds w).does p s g k h) (decorated_by (decoration (heap_of s) d v) d v p s) (decorated_by_kept (decoration (heap_of s) d v) d v p s g) }

  define_as_kept : (ds : List Value) (name : List ℕ) (v : Value) → PartKept (define_as ds name v)
  define_as_kept ds name v = record { does = λ p s g k h. (decorated_kept (reverse ds) v).does p s g _ (value_kept k h _ (λ w s g. h _ (keep.bound_kept Good Fresh closed name w p.scene s g))) }

  function_made_kept : (name : List ℕ) (line : ℕ) (yields : Bool) (code : K.code) (ds : List Value) (params : List Param) → PartKept (function_made name line yields code ds params)
  function_made_kept name line yields code ds params =
      record { does = λ p s g k h. (define_as_kept ds name (val.Ref (id_at (length (heap_of s))))).does p (with_function name line params yields code p.scene s) (closed.object _ _ (closed.code s.world (stored_code code p.scene) g)) k h }

  define_behind_kept : {es : List (Denotation K)} → PartsKept es → (written : List Written) (name : List ℕ) (line : ℕ) (yields : Bool) (code : K.code) (ds : List Value) → PartKept (define_behind es written name line yields code ds)
  define_behind_kept es written name line yields code ds =
      record { does = λ p s g k h. flow.arguments_kept Good Fresh closed es [] p s g k h (λ vs s. function_made name line yields code ds (with_defaults written vs) p s k) (λ vs s g. (function_made_kept name line yields code ds (with_defaults written vs)).does p s g k h) }

  pub define_kept : {ds es : List (Denotation K)} → PartsKept ds → PartsKept es → (written : List Written) (name : List ℕ) (line : ℕ) (yields : Bool) (code : K.code) → PartKept (define ds es written name line yields code)
  define_kept {es = defaults} ds es written name line yields code =
      record { does = λ p s g k h. flow.arguments_kept Good Fresh closed ds [] p s g k h (λ vs s. define_behind defaults written name line yields code vs p s k) (λ vs s g. (define_behind_kept es written name line yields code vs).does p s g k h) }

  based_kept : (is : Bool) (v : Value) (p : Site) (s : CallState K) → GoodState s → (k : Continuation K) → Behind k → (go : Option ObjId → CallState K → Rest K) → ((b : Option ObjId) (s : CallState K) → GoodState s → Kept (go b s)) → Kept (based_on is v p s k go)
  based_kept true (val.Ref id) p s g k h go go_kept = go_kept (Some id) s g
  based_kept true val.None p s g k h go go_kept = h _ (raised_kept no_exception p s g)
  based_kept true (val.Bool b) p s g k h go go_kept = h _ (raised_kept no_exception p s g)
  based_kept true (val.Int n) p s g k h go go_kept = h _ (raised_kept no_exception p s g)
  based_kept false v p s g k h go go_kept = h _ (raised_kept no_exception p s g)

  base_kept : {e : Option (Denotation K)} → SomeKept e → (p : Site) (s : CallState K) → GoodState s → (k : Continuation K) → Behind k → (go : Option ObjId → CallState K → Rest K) → ((b : Option ObjId) (s : CallState K) → GoodState s → Kept (go b s)) → Kept (class_base e p s k go)
  base_kept keep.none p s g k h go go_kept = go_kept None s g
  base_kept (keep.some e) p s g k h go go_kept = e.does p s g _ (value_kept k h (λ v s. based_on (is_exc_class (heap_of s) v) v p s k go) (λ v s g. based_kept (is_exc_class (heap_of s) v) v p s g k h go go_kept))

  class_made_kept : (name : List ℕ) (line : ℕ) {b : Body K} → BodyKept b → (ds : List Value) (base : Option ObjId) → PartKept (class_made name line b ds base)
  class_made_kept name line b ds base =
      record {
        does = λ p s g k h. b.does (class_scene name (length (heap_of s)) p) (state [] [] (with_object (source_class name line base p.scene) s).world) (closed.object s.world (source_class name line base p.scene) g)
            (λ o. on_value (call_end s o) k (λ w r. define_as ds name (val.Ref (id_at (length (heap_of s)))) p r k))
            (λ o d. value_kept k h (λ w r. define_as ds name (val.Ref (id_at (length (heap_of s)))) p r k) (λ w r g. (define_as_kept ds name (val.Ref (id_at (length (heap_of s))))).does p r g k h) (call_end s o) (keep.call_end_kept Good Fresh closed s o d));
      }

  class_behind_kept : {base : Option (Denotation K)} → SomeKept base → (name : List ℕ) (line : ℕ) {b : Body K} → BodyKept b → (ds : List Value) → PartKept (class_behind_decorators base name line b ds)
  class_behind_kept base name line {b = body} b ds =
      record { does = λ p s g k h. base_kept base p s g k h (λ c s. class_made name line body ds c p s k) (λ c s g. (class_made_kept name line b ds c).does p s g k h) }

  pub class_kept : {ds : List (Denotation K)} {base : Option (Denotation K)} → PartsKept ds → SomeKept base → (name : List ℕ) (line : ℕ) {b : Body K} → BodyKept b → PartKept (class_statement ds base name line b)
  class_kept {base = from} ds base name line {b = body} b =
      record { does = λ p s g k h. flow.arguments_kept Good Fresh closed ds [] p s g k h (λ vs s. class_behind_decorators from name line body vs p s k) (λ vs s g. (class_behind_kept base name line b vs).does p s g k h) }

  -- the `raise` of an exception that a call makes
  module _ (entry : K.code → Entry K) (bodies : (c : K.code) → BodyKept (entry c).body) where
    raise_it_kept : (v : Value) → PartKept (raise_it v)
    raise_it_kept v = record { does = λ p s g k h. h _ (flow.raised_by_kept Good Fresh closed (raisable (heap_of s) v) p s g) }

    raise_on_kept : (init : Option Value) (v : Value) → PartKept (raise_on entry init v)
    raise_on_kept None v = raise_it_kept v
    raise_on_kept (Some init) v =
        record {
          does = λ p s g k h. keep.invoke_kept Good Fresh closed entry bodies v (positional_arguments []) (around_of p) s g (λ o. on_value (call_end s o) k (λ x s. raise_it x p s k))
              (λ o d. value_kept k h (λ x s. raise_it x p s k) (λ x s g. (raise_it_kept x).does p s g k h) (call_end s o) (keep.call_end_kept Good Fresh closed s o d));
        }

    pub raise_kept : {e : Option (Denotation K)} → SomeKept e → PartKept (raise_value entry e)
    raise_kept keep.none = record { does = λ p s g k h. h _ (flow.raised_again_kept Good Fresh closed p.scene.around.handling p s g) }
    raise_kept (keep.some e) = record { does = λ p s g k h. e.does p s g _ (value_kept k h _ (λ v s g. (raise_on_kept (raise_init (heap_of s) v) v).does p s g k h)) }

  -- imports of sources
  module _ (body : K.script → Body K) (bodies : (c : K.script) → BodyKept (body c)) where
    faulty_by_kept : (f : Option SourceFault) (path : List ℕ) (p : Site) (s : CallState K) → load_at path s.world.modules ≡ None → GoodState s → GoodEnd (faulty_by f path p s)
    faulty_by_kept (Some f) path p s absent g =
        let fresh : Fresh path = closed.fresh s.world path absent g in
        closed.load (world_with_heap (thrown (source_error path f) (heap_of s)).1 s.world) path _ fresh (keep.raised_kept Good Fresh closed (source_error path f) (trace_of p) s g)
    faulty_by_kept None path p s absent g = raised_kept (no_module (path ∷ [])) p s g

    -- a load in mid-run, where a source with a fault is not executed
    load_by_kept : (l : Option Load) (path : List ℕ) (p : Site) (s : CallState K) → load_at path s.world.modules ≡ l → GoodState s → (k : Continuation K) → Behind k → Kept (load_by body l path (faulty path) p s k)
    load_by_kept (Some (Running id)) path p s is g k h = h _ g
    load_by_kept (Some (Loaded id)) path p s is g k h = h _ g
    load_by_kept (Some (Failed e trace)) path p s is g k h = h _ g
    load_by_kept None path p s is g k h = keep.first_load_kept Good Fresh closed body bodies (coded (source_at path s.world.sources)) path (faulty path) p s is g k h (h _ (faulty_by_kept (fault_in (source_at path s.world.sources)) path p s is g))

    load_kept : (path : List ℕ) → PartKept (load_part body path (faulty path))
    load_kept path = record { does = λ p s g k h. load_by_kept (load_at path s.world.modules) path p s refl g k h }

    module_kept : (path : Option (List ℕ)) (p : Site) (s : CallState K) → GoodState s → (k : Continuation K) → Behind k → (go : Option Value → CallState K → Rest K) → ((m : Option Value) (s : CallState K) → GoodState s → Kept (go m s)) → Kept (module_at body path p s k go)
    module_kept None p s g k h go go_kept = go_kept None s g
    module_kept (Some path) p s g k h go go_kept = (load_kept path).does p s g _ (value_kept k h (λ m s. go (Some m) s) (λ m s g. go_kept (Some m) s g))

    pytest_kept : (is : Bool) (d : List (List ℕ)) (p : Site) (s : CallState K) → GoodState s → (k : Continuation K) → Behind k → (go : Option Value → CallState K → Rest K) → ((m : Option Value) (s : CallState K) → GoodState s → Kept (go m s)) → Kept (pytest_or body is d p s k go)
    pytest_kept true d p s g k h go go_kept = go_kept (Some (val.Ref pytest_module)) s g
    pytest_kept false d p s g k h go go_kept = module_kept (import_path (source_paths s.world.sources) p.scene.path d) p s g k h go go_kept

    modules_kept : (ds : List (List (List ℕ))) (m : Option Value) (p : Site) (s : CallState K) → GoodState s → (k : Continuation K) → Behind k → (go : Option Value → CallState K → Rest K) → ((m : Option Value) (s : CallState K) → GoodState s → Kept (go m s)) → Kept (modules_at body ds m p s k go)
    modules_kept [] m p s g k h go go_kept = go_kept m s g
    modules_kept (d ∷ ds) m p s g k h go go_kept =
        pytest_kept (is_pytest d) d p s g k h (λ m s. modules_at body ds m p s k go) (λ m s g. modules_kept ds m p s g k h go go_kept)

    imported_kept : (dotted : List (List ℕ)) (p : Site) (s : CallState K) → GoodState s → (k : Continuation K) → Behind k → (go : Option Value → CallState K → Rest K) → ((m : Option Value) (s : CallState K) → GoodState s → Kept (go m s)) → Kept (imported body dotted p s k go)
    imported_kept dotted p s g k h go go_kept = modules_kept (prefixes_behind [] dotted) None p s g k h go go_kept

    import_end_kept : (m : Option Value) (dotted : List (List ℕ)) (name : List ℕ) (p : Site) (s : CallState K) → GoodState s → GoodEnd (import_end m dotted name p s)
    import_end_kept (Some m) dotted name p s g = keep.bound_kept Good Fresh closed name m p.scene s g
    import_end_kept None dotted name p s g = raised_kept (no_module dotted) p s g

    pub import_kept : (dotted : List (List ℕ)) (alias : Option (List ℕ)) → PartKept (import_statement body dotted alias)
    import_kept dotted alias = record { does = λ p s g k h. imported_kept dotted p s g k h _ (λ m s g. h _ (import_end_kept m dotted (import_name dotted alias) p s g)) }

    submodule_kept : (n m : Option Value) (dotted : List (List ℕ)) (name : List ℕ) (p : Site) (s : CallState K) → GoodState s → (k : Continuation K) → Behind k → (go : Value → CallState K → Rest K) → ((v : Value) (s : CallState K) → GoodState s → Kept (go v s)) → Kept (submodule_or n m dotted name p s k go)
    submodule_kept (Some v) m dotted name p s g k h go go_kept = go_kept v s g
    submodule_kept None (Some m) dotted name p s g k h go go_kept = h _ (raised_kept (not_imported name) p s g)
    submodule_kept None None dotted name p s g k h go go_kept = h _ (raised_kept (no_module dotted) p s g)

    inside_kept : (is : Bool) (m : Option Value) (dotted : List (List ℕ)) (name : List ℕ) (p : Site) (s : CallState K) → GoodState s → (k : Continuation K) → Behind k → (go : Value → CallState K → Rest K) → ((v : Value) (s : CallState K) → GoodState s → Kept (go v s)) → Kept (submodule body is m dotted name p s k go)
    inside_kept true m dotted name p s g k h go go_kept = h _ (raised_kept (not_imported name) p s g)
    inside_kept false m dotted name p s g k h go go_kept =
        imported_kept (dotted ++ name ∷ []) p s g k h (λ n s. submodule_or n m dotted name p s k go) (λ n s g. submodule_kept n m dotted name p s g k h go go_kept)

    own_kept : (own m : Option Value) (dotted : List (List ℕ)) (name : List ℕ) (p : Site) (s : CallState K) → GoodState s → (k : Continuation K) → Behind k → (go : Value → CallState K → Rest K) → ((v : Value) (s : CallState K) → GoodState s → Kept (go v s)) → Kept (own_or_submodule body own m dotted name p s k go)
    own_kept (Some v) m dotted name p s g k h go go_kept = go_kept v s g
    own_kept None m dotted name p s g k h go go_kept = inside_kept (is_pytest dotted) m dotted name p s g k h go go_kept

    each_kept : (m : Option Value) (dotted : List (List ℕ)) (all : List Alias) → PartKept (import_each body m dotted all)
    each_kept m dotted [] = record { does = λ p s g k h. h _ g }
    each_kept m dotted (a ∷ rest) =
        record { does = λ p s g k h. own_kept (name_of_module (heap_of s) a.name m) m dotted a.name p s g k h (λ v s. import_each body m dotted rest p (bound (alias_name a) v p.scene s) k) (λ v s g. (each_kept m dotted rest).does p (bound (alias_name a) v p.scene s) (keep.bound_kept Good Fresh closed (alias_name a) v p.scene s g) k h) }

    pub from_kept : (dotted : List (List ℕ)) (all : List Alias) → PartKept (import_from body dotted all)
    from_kept dotted all = record { does = λ p s g k h. imported_kept dotted p s g k h (λ m s. import_each body m dotted all p s k) (λ m s g. (each_kept m dotted all).does p s g k h) }
