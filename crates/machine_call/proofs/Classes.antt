-- How calls of classes go on.
use Rattle.std.proofs.Common.{◌≡◌, ◌∙◌, ◌-◌, ℕ, suc, List, ◌∷◌, Bool, true, false, Option, Some, None, refl, sym, ap, subst}
use Rattle.std.specs.Prelude.{is_some, slice_get, if◌then◌else◌}
use Rattle.run_tree.specs.Todo.{Ask}
use Rattle.py_kinds.specs.Kinds.{kind_name}
use Rattle.py_values.specs.declared.class.ClassForm.{ClassForm}
use Rattle.py_values.specs.declared.class.ClassForm.TheVariants.{Source, Exception, Kind}
use Rattle.py_values.specs.declared.end.Raise.{Raise}
use Rattle.py_values.specs.declared.object.ClassObj.{ClassObj}
use Rattle.py_values.specs.declared.object.FunctionObj.{FunctionObj}
use Rattle.py_values.specs.declared.object.Obj.{Obj}
use Rattle.py_values.specs.declared.object.Obj.TheVariants as obj
use Rattle.py_values.specs.declared.value.ObjId.{ObjId}
use Rattle.py_values.specs.declared.value.Value.{Value}
use Rattle.py_values.specs.declared.value.Value.TheVariants as val
use Rattle.machine_state.specs.py_world.World.{heap_of, with_heap}
use Rattle.machine_state.specs.py_world.Arguments.{Arguments}
use Rattle.machine_state.specs.py_world.Site.{Around}
use Rattle.machine_state.specs.py_world.Outcome.{CallOf, Gave, Next, Returned, Broke, Continued, Raised, call_end, gave_in, raised, spent}
use Rattle.py_kinds.specs.Classes.{is_exc_class}
use Rattle.machine_state.specs.py_world.Calls.{called_or, class_called, class_or, class_takes, function_with, init_called, init_end, init_object, init_of, instance_made, invoke, new_instance, not_callable, argument_error}
use Rattle.machine_state.specs.core_meaning.Statements.{entry}
use Rattle.machine_state.specs.declared.frame.Frame.TheVariants.{New}
use Rattle.machine_state.specs.declared.machine.Machine.{Machine}
use Rattle.machine_state.specs.declared.machine.Origin.{Origin}
use Rattle.machine_state.specs.declared.machine.Origin.TheVariants as origin
use Rattle.machine_state.specs.Places.{CoreOutcome, CoreRest, CoreState, CoreThen, ends}
use Rattle.machine_state.specs.Frames.{around_by, machine_rest, state_of}
use Rattle.machine_call.specs.Depth.{Ready}
use Rattle.machine_call.specs.Called.{bare_called, bare_misfit, call_rest, called_class, class_by_form, object_called, with_init}

module _ (none : Raise) (args : Arguments) (a : Around) (s : CoreState) (k : CoreThen) (class : ClassObj → CoreRest) where
  class_kinds : (form : ClassForm) (c d : ClassObj) → class_by_form form c ≡ Some d → class_or entry form args a s k (class c) ≡ class d
  class_kinds Source c d is = let same : c ≡ d = cc in ap class same
  class_kinds (Exception e) c d is = let same : c ≡ d = cc in ap class same
  class_kinds (Kind b) c d is = absurd cc

  other_kinds : (form : ClassForm) (c : ClassObj) → class_by_form form c ≡ None → class_or entry form args a s k (class c) ≡ class_or entry form args a s k (k (raised none a.trace s))
  other_kinds Source c is = absurd cc
  other_kinds (Exception e) c is = absurd cc
  other_kinds (Kind b) c is = refl

  -- a class of the sources or of exceptions is called as a class
  pub class_goes : (o : Option Obj) (d : ClassObj) → called_class o ≡ Some d → called_or entry o none args a s k class ≡ class d
  class_goes (Some (obj.Text x)) d is = absurd cc
  class_goes (Some (obj.List x)) d is = absurd cc
  class_goes (Some (obj.Tuple x)) d is = absurd cc
  class_goes (Some (obj.Dict x)) d is = absurd cc
  class_goes (Some (obj.Range x)) d is = absurd cc
  class_goes (Some (obj.Function x)) d is = absurd cc
  class_goes (Some (obj.Method x)) d is = absurd cc
  class_goes (Some (obj.Builtin x)) d is = absurd cc
  class_goes (Some (obj.Class c)) d is = class_kinds c.form c d is
  class_goes (Some (obj.Instance x)) d is = absurd cc
  class_goes (Some (obj.Exception x)) d is = absurd cc
  class_goes (Some (obj.Module x)) d is = absurd cc
  class_goes (Some (obj.Fixture x)) d is = absurd cc
  class_goes (Some obj.MarkMaker) d is = absurd cc
  class_goes (Some (obj.Mark x)) d is = absurd cc
  class_goes (Some (obj.Hook x)) d is = absurd cc
  class_goes (Some (obj.Param x)) d is = absurd cc
  class_goes (Some (obj.Request x)) d is = absurd cc
  class_goes (Some (obj.Raises x)) d is = absurd cc
  class_goes (Some (obj.Info x)) d is = absurd cc
  class_goes (Some (obj.Item x)) d is = absurd cc
  class_goes None d is = absurd cc

  -- all else is not
  pub other_goes : (o : Option Obj) → called_class o ≡ None → called_or entry o none args a s k class ≡ object_called o none args a s k
  other_goes (Some (obj.Text x)) is = refl
  other_goes (Some (obj.List x)) is = refl
  other_goes (Some (obj.Tuple x)) is = refl
  other_goes (Some (obj.Dict x)) is = refl
  other_goes (Some (obj.Range x)) is = refl
  other_goes (Some (obj.Function x)) is = refl
  other_goes (Some (obj.Method x)) is = refl
  other_goes (Some (obj.Builtin x)) is = refl
  other_goes (Some (obj.Class c)) is = other_kinds c.form c is
  other_goes (Some (obj.Instance x)) is = refl
  other_goes (Some (obj.Exception x)) is = refl
  other_goes (Some (obj.Module x)) is = refl
  other_goes (Some (obj.Fixture x)) is = refl
  other_goes (Some obj.MarkMaker) is = refl
  other_goes (Some (obj.Mark x)) is = refl
  other_goes (Some (obj.Hook x)) is = refl
  other_goes (Some (obj.Param x)) is = refl
  other_goes (Some (obj.Request x)) is = refl
  other_goes (Some (obj.Raises x)) is = refl
  other_goes (Some (obj.Info x)) is = refl
  other_goes (Some (obj.Item x)) is = refl
  other_goes None is = refl

-- an `__init__` that is a function, and one that is none
module _ (id : ObjId) (v : Value) (none : Raise) (args : Arguments) (a : Around) (s : CoreState) (k : CoreThen) where
  pub init_function : (fo : Option FunctionObj) → is_some fo ≡ true → init_object entry fo id v none args a s k ≡ function_with entry fo v none args a s k
  init_function None is = absurd cc
  init_function (Some f) is = refl

  pub init_other : (fo : Option FunctionObj) → is_some fo ≡ false
      → init_object entry fo id v none args a s k ≡ called_or entry (slice_get (heap_of s) id.at) none args a s k (λ c. Ask (spent a.trace s) (CallOf (val.Ref id) args a s) k)
  init_other None is = refl
  init_other (Some f) is = absurd cc

-- a class without `__init__`
bare_goes : (b : Bool) (name : List ℕ) (x : Value × List Obj) (a : Around) (s : CoreState) (k : CoreThen)
    → (if b then k (gave_in x s) else k (raised (argument_error name) a.trace s)) ≡ bare_called (bare_misfit b name) x a s k
bare_goes true name x a s k = refl
bare_goes false name x a s k = refl

pub made_bare : (init : Option Value) (misfit : Option Raise) (exc : Bool) (name : List ℕ) (x : Value × List Obj) (args : Arguments) (a : Around) (s : CoreState) (k : CoreThen)
    → init ≡ None → misfit ≡ bare_misfit (class_takes exc args) name → instance_made entry init exc name x args a s k ≡ bare_called misfit x a s k
made_bare init misfit exc name x args a s k is same = rw (is, same) (bare_goes (class_takes exc args) name x a s k)

pub made_with : (init : Option Value) (f : Value) (exc : Bool) (name : List ℕ) (x : Value × List Obj) (args : Arguments) (a : Around) (s : CoreState) (k : CoreThen)
    → init ≡ Some f → instance_made entry init exc name x args a s k ≡ with_init f x args a s k
made_with init f exc name x args a s k is = rw is refl

module _ (id : ObjId) (d : ClassObj) (exc : Bool) (args : Arguments) (vs : List Value) (a : Around) (s : CoreState) (k : CoreThen) where
  instance_begins : Some d ≡ called_class (slice_get (heap_of s) id.at) → exc ≡ is_exc_class (heap_of s) (val.Ref id) → vs ≡ args.plain
      → invoke entry (val.Ref id) args a s k ≡ instance_made entry (init_of (heap_of s) id) exc d.name (new_instance exc id d.form vs (heap_of s)) args a s k
  instance_begins is same plain =
      class_goes (not_callable (kind_name (heap_of s) (val.Ref id))) args a s k (λ (c : ClassObj). class_called entry id c args a s k) (slice_get (heap_of s) id.at) d (sym is)
      ∙ rw (same, plain) refl

  -- a call of a class with an `__init__`
  pub init_made : (f : Value) → Some d ≡ called_class (slice_get (heap_of s) id.at) → exc ≡ is_exc_class (heap_of s) (val.Ref id) → vs ≡ args.plain → Some f ≡ init_of (heap_of s) id
      → invoke entry (val.Ref id) args a s k ≡ with_init f (new_instance exc id d.form vs (heap_of s)) args a s k
  init_made f is same plain found =
      instance_begins is same plain ∙ made_with (init_of (heap_of s) id) f exc d.name (new_instance exc id d.form vs (heap_of s)) args a s k (sym found)

  -- and of one without
  pub bare_made : (misfit : Option Raise) → Some d ≡ called_class (slice_get (heap_of s) id.at) → exc ≡ is_exc_class (heap_of s) (val.Ref id) → vs ≡ args.plain → None ≡ init_of (heap_of s) id
      → misfit ≡ bare_misfit (class_takes exc args) d.name → invoke entry (val.Ref id) args a s k ≡ bare_called misfit (new_instance exc id d.form vs (heap_of s)) a s k
  bare_made misfit is same plain found fits =
      instance_begins is same plain ∙ made_bare (init_of (heap_of s) id) misfit exc d.name (new_instance exc id d.form vs (heap_of s)) args a s k (sym found) fits

-- what follows the call of an `__init__`, below which the new instance waits
new_end : (v : Value) (s : CoreState) (heap : List Obj) (o : CoreOutcome) → init_end v (call_end (with_heap heap s) o) ≡ call_end s (init_end v o)
new_end v s heap (Gave w t) = refl
new_end v s heap (Next t) = refl
new_end v s heap (Returned w t) = refl
new_end v s heap (Broke t) = refl
new_end v s heap (Continued t) = refl
new_end v s heap (Raised e trace t) = refl

-- what is open around a call does not change by an instance that waits
around_new : (o : Origin) (m m1 : Machine) (v : Value) → m1.here ≡ m.here → m1.stack ≡ record m.stack { own = New v ∷ m.stack.own } → around_by o m1 ≡ around_by o m
around_new origin.Code m m1 v here stack = rw (here, stack) refl
around_new origin.Runner m m1 v here stack = rw stack refl

pub new_ready : (o : Origin) (m m1 : Machine) (v : Value) → m1.here ≡ m.here → m1.stack ≡ record m.stack { own = New v ∷ m.stack.own } → Ready o m → Ready o m1
new_ready origin.Code m m1 v here stack ready = tt
new_ready origin.Runner m m1 v here stack ready =
    rw (here, stack) (ready.0, λ h. ap (λ (k : CoreThen). λ (o : CoreOutcome). k (init_end v o)) (ready.1 h))

init_same : (init v w : Value) (heap heap1 : List Obj) (args : Arguments) (a a1 : Around) (s s1 : CoreState) (k k1 : CoreThen) → v ≡ w → heap ≡ heap1 → a ≡ a1 → s ≡ s1 → k ≡ k1
    → init_called entry init v (not_callable (kind_name heap init)) args a s k ≡ init_called entry init w (not_callable (kind_name heap1 init)) args a1 s1 k1
init_same init v w heap heap1 args a a1 s s1 k k1 same grown around state rest = rw (same, grown, around, state, rest) refl

module _ (o : Origin) (m m1 : Machine) (v : Value) (x : Value × List Obj) where
  rest_new : v ≡ x.0 → m1.here ≡ m.here → m1.stack ≡ record m.stack { own = New v ∷ m.stack.own } → state_of m1 ≡ with_heap x.1 (state_of m) → (o : CoreOutcome)
      → call_rest m (init_end x.0 o) ≡ call_rest m1 o
  rest_new e here stack is o = sym (ap (λ (s : CoreState). machine_rest m1 (call_end s o)) is ∙ rw (here, stack, e) (ap (machine_rest m) (new_end x.0 (state_of m) x.1 o)))

  -- an `__init__` is called over the new instance
  pub init_begins : (init : Value) (args : Arguments) → v ≡ x.0 → m1.heap ≡ x.1 → m1.here ≡ m.here → m1.stack ≡ record m.stack { own = New v ∷ m.stack.own } → state_of m1 ≡ with_heap x.1 (state_of m)
      → with_init init x args (around_by o m) (state_of m) (call_rest m) ≡ init_called entry init v (not_callable (kind_name m1.heap init)) args (around_by o m1) (state_of m1) (call_rest m1)
  init_begins init args e grown here stack is =
      init_same init x.0 v x.1 m1.heap args (around_by o m) (around_by o m1) (with_heap x.1 (state_of m)) (state_of m1) (λ (o : CoreOutcome). call_rest m (init_end x.0 o)) (call_rest m1)
      (sym e) (sym grown) (sym (around_new o m m1 v here stack)) (sym is) (λ i o. rest_new e here stack is o i)

-- a class that is an `__init__` is called with a step
around_left : (o : Origin) (m : Machine) (n : ℕ) → around_by o (record m { left = n }) ≡ around_by o m
around_left origin.Code m n = refl
around_left origin.Runner m n = refl

left_ready : (o : Origin) (m : Machine) (n : ℕ) → Ready o m → Ready o (record m { left = n })
left_ready origin.Code m n ready = tt
left_ready origin.Runner m n ready = ready

pub again_ready : (o : Origin) (m m1 : Machine) → m1 ≡ record m { left = m.left - 1 } → Ready o m → Ready o m1
again_ready o m m1 same ready = subst (λ (x : Machine). Ready o x) (sym same) (left_ready o m (m.left - 1) ready)

step_taken : (n n1 : ℕ) (f : Value) (args : Arguments) (a : Around) (s : CoreState) (k : CoreThen) → n ≡ suc n1
    → ends n (Ask (spent a.trace s) (CallOf f args a s) k) ≡ ends n1 (invoke entry f args a s k)
step_taken n n1 f args a s k e = rw e refl

pub again_goes : (o : Origin) (m m1 : Machine) (f : Value) (args : Arguments) → m.left ≡ suc m1.left → m1 ≡ record m { left = m.left - 1 }
    → ends m.left (Ask (spent (around_by o m).trace (state_of m)) (CallOf f args (around_by o m) (state_of m)) (call_rest m))
    ≡ ends m1.left (invoke entry f args (around_by o m1) (state_of m1) (call_rest m1))
again_goes o m m1 f args less same =
    step_taken m.left m1.left f args (around_by o m) (state_of m) (call_rest m) less
    ∙ (ap (λ (a : Around). ends m1.left (invoke entry f args a (state_of m) (call_rest m))) (sym (around_left o m (m.left - 1)))
    ∙ ap (λ (x : Machine). ends m1.left (invoke entry f args (around_by o x) (state_of x) (call_rest x))) (sym same))

-- what is left to do is this under the same budget
pub runs_as : (n n1 : ℕ) (t u : CoreRest) → n1 ≡ n → u ≡ t → ends n t ≡ ends n1 u
runs_as n n1 t u less is = rw (less, is) refl
