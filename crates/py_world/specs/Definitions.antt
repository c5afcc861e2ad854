-- Definitions of functions and classes (Language Reference, function definitions; class definitions; which values are decorators is
-- pytest's).
use Rattle.std.specs.Prelude.{ℕ, Bool, true, false, ◌||◌, List, [], ◌∷◌, ◌++◌, length, reverse, codes, slice_get, Option, Some, None, if◌then◌else◌}
use Rattle.py_values.specs.Changes.{changed}
use Rattle.py_values.specs.Ends.{id_at}
use Rattle.py_values.specs.Names.{name_eq}
use Rattle.py_values.specs.Raises.{text_raise}
use Rattle.py_values.specs.declared.class.ClassForm.TheVariants.{Source}
use Rattle.py_values.specs.declared.class.ExcClass.TheVariants.{TypeError}
use Rattle.py_values.specs.declared.end.Raise.{Raise}
use Rattle.py_values.specs.declared.object.FixtureObj.{FixtureObj}
use Rattle.py_values.specs.declared.object.MarkObj.{MarkObj}
use Rattle.py_values.specs.declared.object.Obj.{Obj}
use Rattle.py_values.specs.declared.object.Obj.TheVariants as obj
use Rattle.py_values.specs.declared.rows.Param.{Param}
use Rattle.py_values.specs.declared.value.ObjId.{ObjId}
use Rattle.py_values.specs.declared.value.Value.{Value}
use Rattle.py_values.specs.declared.value.Value.TheVariants as val
use Rattle.py_values.specs.declared.builtin.Builtin.{Builtin}
use Rattle.py_values.specs.declared.builtin.Builtin.TheVariants as builtin
use Rattle.py_values.specs.declared.builtin.PytestCall.{PytestCall}
use Rattle.py_values.specs.declared.builtin.PytestCall.TheVariants as pytest
use Rattle.py_values.specs.declared.object.FixtureScope.TheVariants as scope
use Rattle.py_calls.specs.py_kinds.Classes.{is_exc_class}
use Rattle.py_calls.specs.py_items.Items.{object_at}
use Rattle.py_world.specs.World.{Kinds, CallState, FunctionCode, heap_of, state, with_heap, with_object, with_world, world_with_code}
use Rattle.py_world.specs.Site.{Own, InModule, InFunction, InClass, Scene, Site, around_of}
use Rattle.py_world.specs.Arguments.{required}
use Rattle.py_world.specs.Names.{bound}
use Rattle.py_world.specs.Outcome.{Outcome, Gave, Next, Rest, Continuation, Denotation, Body, on_value, raised_at, call_end}
use Rattle.py_world.specs.Expressions.{arguments}
use Rattle.py_world.specs.Exceptions.{no_exception}

-- a parameter as it is written: its name, and whether it has a default
abbrev pub Written : Type 0
Written = List ℕ × Bool

abbrev pub defaulted : List ℕ → Value → Param
defaulted name v = record { name = name; default = Some v }

-- parameters, with the values of their defaults in order
abbrev pub with_defaults : List Written → List Value → List Param
with_defaults [] vs = []
with_defaults ((name, false) ∷ ps) vs = required name ∷ with_defaults ps vs
with_defaults ((name, true) ∷ ps) [] = required name ∷ with_defaults ps []
with_defaults ((name, true) ∷ ps) (v ∷ vs) = defaulted name v ∷ with_defaults ps vs

-- the class in whose body a function is defined
abbrev pub class_in : Own → Option ObjId
class_in InModule = None
class_in (InFunction own) = None
class_in (InClass at) = Some (id_at at)

-- a function, with its parameters and whether it yields
abbrev pub function_object : List ℕ → ℕ → List Param → Bool → ℕ → Scene → Obj
function_object name line params yields code scene =
    obj.Function (record { path = scene.path; name = name; line = line; params = params; yields = yields; marks = []; class = class_in scene.own; code = code })

abbrev pub stored_code : {C : Type 0} → C → Scene → FunctionCode C
stored_code code scene = record { path = scene.path; home = scene.home; code = code }

-- a class of the sources, without names
abbrev pub source_class : List ℕ → ℕ → Option ObjId → Scene → Obj
source_class name line base scene = obj.Class (record { path = scene.path; name = name; line = line; form = Source; base = base; marks = []; names = [] })

-- the scene of a class's body, whose object stands at a place
abbrev pub class_scene : List ℕ → ℕ → Site → Scene
class_scene name at p = record { around = around_of p; path = p.scene.path; name = name; home = p.scene.home; own = InClass at }

abbrev pub bad_decorator : Raise
bad_decorator = text_raise TypeError (codes "bad decorator")

-- WHAT A DECORATOR MAKES of a value: a new object, the same value with the decorator among its marks, the same value, or nothing
pub data Decoration : Type 0 where
  Replaced : Obj → Decoration
  Marked : Decoration
  Same : Decoration
  Refused : Decoration

-- by what is decorated: a function, a class, a fixture, or anything else
pub data Decorable : Type 0 where
  A_function : Decorable
  A_class : Decorable
  A_fixture : Decorable
  No_such : Decorable

abbrev pub decorable : Option Obj → Decorable
decorable (Some (obj.Text x)) = No_such
decorable (Some (obj.List x)) = No_such
decorable (Some (obj.Tuple x)) = No_such
decorable (Some (obj.Dict x)) = No_such
decorable (Some (obj.Range x)) = No_such
decorable (Some (obj.Function x)) = A_function
decorable (Some (obj.Method x)) = No_such
decorable (Some (obj.Builtin x)) = No_such
decorable (Some (obj.Class x)) = A_class
decorable (Some (obj.Instance x)) = No_such
decorable (Some (obj.Exception x)) = No_such
decorable (Some (obj.Module x)) = No_such
decorable (Some (obj.Fixture x)) = A_fixture
decorable (Some obj.MarkMaker) = No_such
decorable (Some (obj.Mark x)) = No_such
decorable (Some (obj.Hook x)) = No_such
decorable (Some (obj.Param x)) = No_such
decorable (Some (obj.Request x)) = No_such
decorable (Some (obj.Raises x)) = No_such
decorable (Some (obj.Info x)) = No_such
decorable (Some (obj.Item x)) = No_such
decorable None = No_such

-- a fixture that was applied to no function yet takes one
abbrev pub fixture_of : Value → FixtureObj → Obj
fixture_of (val.Ref id) x = obj.Fixture (record { function = Some id; scope = x.scope; params = x.params; autouse = x.autouse; ids = x.ids; name = x.name })
fixture_of val.None x = obj.Fixture x
fixture_of (val.Bool b) x = obj.Fixture x
fixture_of (val.Int n) x = obj.Fixture x

abbrev pub by_fixture : Option ObjId → FixtureObj → Value → Decorable → Decoration
by_fixture None x v A_function = Replaced (fixture_of v x)
by_fixture None x v A_class = Refused
by_fixture None x v A_fixture = Refused
by_fixture None x v No_such = Refused
by_fixture (Some f) x v kind = Refused

-- what `fixture` stands for without a call
abbrev pub bare_fixture : FixtureObj
bare_fixture = record { function = None; scope = scope.Function; params = None; autouse = false; ids = None; name = None }

abbrev pub by_pytest : PytestCall → Value → Decorable → Decoration
by_pytest pytest.Fail v kind = Refused
by_pytest pytest.Fixture v kind = by_fixture None bare_fixture v kind
by_pytest pytest.HookImpl v kind = Refused
by_pytest pytest.Param v kind = Refused
by_pytest pytest.Raises v kind = Refused
by_pytest pytest.Skip v kind = Refused

abbrev pub by_builtin : Builtin → Value → Decorable → Decoration
by_builtin builtin.Print v kind = Refused
by_builtin builtin.Len v kind = Refused
by_builtin builtin.Str v kind = Refused
by_builtin (builtin.Sequence c) v kind = Refused
by_builtin (builtin.Number c) v kind = Refused
by_builtin (builtin.Object c) v kind = Refused
by_builtin (builtin.Text c) v kind = Refused
by_builtin (builtin.List c) v kind = Refused
by_builtin (builtin.Tuple c) v kind = Refused
by_builtin (builtin.Dict c) v kind = Refused
by_builtin (builtin.Pytest c) v kind = by_pytest c v kind
by_builtin builtin.AddFinalizer v kind = Refused

-- the marks that need arguments
abbrev pub is_bare : MarkObj → Bool
is_bare x = if x.called then false else name_eq x.name (codes "parametrize") || name_eq x.name (codes "skipif")

-- a mark on a fixture has no effect
abbrev pub by_mark : Bool → Decorable → Decoration
by_mark true kind = Refused
by_mark false A_function = Marked
by_mark false A_class = Marked
by_mark false A_fixture = Same
by_mark false No_such = Refused

abbrev pub by_hook : Decorable → Decoration
by_hook A_function = Marked
by_hook A_class = Refused
by_hook A_fixture = Refused
by_hook No_such = Refused

-- by the decorator: a fixture, called or not, a mark or a hookimpl
abbrev pub decoration_by : Option Obj → Value → Decorable → Decoration
decoration_by (Some (obj.Text x)) v kind = Refused
decoration_by (Some (obj.List x)) v kind = Refused
decoration_by (Some (obj.Tuple x)) v kind = Refused
decoration_by (Some (obj.Dict x)) v kind = Refused
decoration_by (Some (obj.Range x)) v kind = Refused
decoration_by (Some (obj.Function x)) v kind = Refused
decoration_by (Some (obj.Method x)) v kind = Refused
decoration_by (Some (obj.Builtin x)) v kind = by_builtin x.which v kind
decoration_by (Some (obj.Class x)) v kind = Refused
decoration_by (Some (obj.Instance x)) v kind = Refused
decoration_by (Some (obj.Exception x)) v kind = Refused
decoration_by (Some (obj.Module x)) v kind = Refused
decoration_by (Some (obj.Fixture x)) v kind = by_fixture x.function x v kind
decoration_by (Some obj.MarkMaker) v kind = Refused
decoration_by (Some (obj.Mark x)) v kind = by_mark (is_bare x) kind
decoration_by (Some (obj.Hook x)) v kind = by_hook kind
decoration_by (Some (obj.Param x)) v kind = Refused
decoration_by (Some (obj.Request x)) v kind = Refused
decoration_by (Some (obj.Raises x)) v kind = Refused
decoration_by (Some (obj.Info x)) v kind = Refused
decoration_by (Some (obj.Item x)) v kind = Refused
decoration_by None v kind = Refused

unfoldable pub decoration : List Obj → Value → Value → Decoration
decoration heap d v = decoration_by (object_at heap d) v (decorable (object_at heap v))

-- a function or a class with a mark more
abbrev pub with_added_mark : Value → Obj → Obj
with_added_mark d (obj.Function f) = obj.Function (record { path = f.path; name = f.name; line = f.line; params = f.params; yields = f.yields; marks = f.marks ++ d ∷ []; class = f.class; code = f.code })
with_added_mark d (obj.Class c) = obj.Class (record { path = c.path; name = c.name; line = c.line; form = c.form; base = c.base; marks = c.marks ++ d ∷ []; names = c.names })
with_added_mark d (obj.Text x) = obj.Text x
with_added_mark d (obj.List x) = obj.List x
with_added_mark d (obj.Tuple x) = obj.Tuple x
with_added_mark d (obj.Dict x) = obj.Dict x
with_added_mark d (obj.Range x) = obj.Range x
with_added_mark d (obj.Method x) = obj.Method x
with_added_mark d (obj.Builtin x) = obj.Builtin x
with_added_mark d (obj.Instance x) = obj.Instance x
with_added_mark d (obj.Exception x) = obj.Exception x
with_added_mark d (obj.Module x) = obj.Module x
with_added_mark d (obj.Fixture x) = obj.Fixture x
with_added_mark d obj.MarkMaker = obj.MarkMaker
with_added_mark d (obj.Mark x) = obj.Mark x
with_added_mark d (obj.Hook x) = obj.Hook x
with_added_mark d (obj.Param x) = obj.Param x
with_added_mark d (obj.Request x) = obj.Request x
with_added_mark d (obj.Raises x) = obj.Raises x
with_added_mark d (obj.Info x) = obj.Info x
with_added_mark d (obj.Item x) = obj.Item x

abbrev pub marked_at : Value → Value → List Obj → List Obj
marked_at d (val.Ref id) heap = changed (with_added_mark d) id.at heap (slice_get heap id.at)
marked_at d val.None heap = heap
marked_at d (val.Bool b) heap = heap
marked_at d (val.Int n) heap = heap

module _ {K : Kinds} where
  -- a state with a function more
  abbrev pub with_function : List ℕ → ℕ → List Param → Bool → K.code → Scene → CallState K → CallState K
  with_function name line params yields code scene s =
      with_object (function_object name line params yields (length s.world.codes) scene) (with_world (world_with_code (stored_code code scene) s.world) s)

  -- a value is decorated
  abbrev pub decorated_by : Decoration → Value → Value → Site → CallState K → Outcome K
  decorated_by (Replaced o) d v p s = Gave (val.Ref (id_at (length (heap_of s)))) (with_object o s)
  decorated_by Marked d v p s = Gave v (with_heap (marked_at d v (heap_of s)) s)
  decorated_by Same d v p s = Gave v s
  decorated_by Refused d v p s = raised_at bad_decorator p s

  -- decorators are applied, the nearest one first
  abbrev pub decorated : List Value → Value → Denotation K
  decorated [] v p s k = k (Gave v s)
  decorated (d ∷ ds) v p s k = on_value (decorated_by (decoration (heap_of s) d v) d v p s) k (λ v s. decorated ds v p s k)

  -- what is defined is bound to its name behind its decorators, which apply from the bottom to the top
  abbrev pub define_as : List Value → List ℕ → Value → Denotation K
  define_as ds name v p s k = decorated (reverse ds) v p s (λ o. on_value o k (λ v s. k (Next (bound name v p.scene s))))

  -- a function is made
  abbrev pub function_made : List ℕ → ℕ → Bool → K.code → List Value → List Param → Denotation K
  function_made name line yields code ds params p s k =
      define_as ds name (val.Ref (id_at (length (heap_of s)))) p (with_function name line params yields code p.scene s) k

  -- behind the decorators: the defaults, which are evaluated once
  abbrev pub define_behind : List (Denotation K) → List Written → List ℕ → ℕ → Bool → K.code → List Value → Denotation K
  define_behind es written name line yields code ds p s k = arguments es [] p s k (λ vs s. function_made name line yields code ds (with_defaults written vs) p s k)

  -- A FUNCTION DEFINITION: the decorators from top to bottom come first
  abbrev pub define : List (Denotation K) → List (Denotation K) → List Written → List ℕ → ℕ → Bool → K.code → Denotation K
  define ds es written name line yields code p s k = arguments ds [] p s k (λ ds s. define_behind es written name line yields code ds p s k)

  -- the base of a class must be a class of exceptions
  abbrev pub based_on : Bool → Value → Site → CallState K → Continuation K → (Option ObjId → CallState K → Rest K) → Rest K
  based_on true (val.Ref id) p s k go = go (Some id) s
  based_on true val.None p s k go = k (raised_at no_exception p s)
  based_on true (val.Bool b) p s k go = k (raised_at no_exception p s)
  based_on true (val.Int n) p s k go = k (raised_at no_exception p s)
  based_on false v p s k go = k (raised_at no_exception p s)

  abbrev pub class_base : Option (Denotation K) → Site → CallState K → Continuation K → (Option ObjId → CallState K → Rest K) → Rest K
  class_base None p s k go = go None s
  class_base (Some e) p s k go = e p s (λ o. on_value o k (λ v s. based_on (is_exc_class (heap_of s) v) v p s k go))

  -- a class is made, and its body runs, which binds the names of the class
  abbrev pub class_made : List ℕ → ℕ → Body K → List Value → Option ObjId → Denotation K
  class_made name line body ds base p s k =
      body (class_scene name (length (heap_of s)) p) (state [] [] (with_object (source_class name line base p.scene) s).world)
      (λ o. on_value (call_end s o) k (λ w r. define_as ds name (val.Ref (id_at (length (heap_of s)))) p r k))

  -- behind the decorators: the base
  abbrev pub class_behind_decorators : Option (Denotation K) → List ℕ → ℕ → Body K → List Value → Denotation K
  class_behind_decorators base name line body ds p s k = class_base base p s k (λ b s. class_made name line body ds b p s k)

  -- A CLASS DEFINITION: the decorators from top to bottom come first
  abbrev pub class_statement : List (Denotation K) → Option (Denotation K) → List ℕ → ℕ → Body K → Denotation K
  class_statement ds base name line body p s k = arguments ds [] p s k (λ ds s. class_behind_decorators base name line body ds p s k)
