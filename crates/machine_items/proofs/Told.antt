-- What the change of an attribute tells is how its statement ends.
use Rattle.std.proofs.Common.{Bool, true, false, List, Option, Some, None, ◌≡◌, ap, sym}
use Rattle.py_values.specs.declared.end.Raise.{Raise}
use Rattle.py_values.specs.declared.object.Obj.{Obj}
use Rattle.py_values.specs.declared.value.Value.{Value}
use Rattle.py_values.specs.declared.value.Value.TheVariants as val
use Rattle.py_world.specs.Attributes.{changed_or}
use Rattle.py_world.specs.Outcome.{Next, raised_at}
use Rattle.py_world.specs.Site.{Site}
use Rattle.py_world.specs.World.{Kinds, CallState, heap_of, with_heap}
use Rattle.machine_items.specs.Changes.{attribute_told}

none_raised : {A : Type 0} (none : Raise) (heap old : List Obj) → ◌≡◌ {A = Option Raise × List Obj} (None, heap) (Some none, old) → A
none_raised none heap old e = let h : None ≡ Some none = ap (λ (t : Option Raise × List Obj). t.0) e in absurd cc

some_done : {A : Type 0} (r : Raise) (heap old : List Obj) → ◌≡◌ {A = Option Raise × List Obj} (Some r, heap) (None, old) → A
some_done r heap old e = let h : Some r ≡ None = ap (λ (t : Option Raise × List Obj). t.0) e in absurd cc

same_raise : (r none : Raise) (heap old : List Obj) → ◌≡◌ {A = Option Raise × List Obj} (Some r, heap) (Some none, old) → none ≡ r
same_raise r none heap old e = let h : Some r ≡ Some none = ap (λ (t : Option Raise × List Obj). t.0) e in cc

same_heap : (r q : Option Raise) (heap old : List Obj) → ◌≡◌ {A = Option Raise × List Obj} (r, heap) (q, old) → heap ≡ old
same_heap r q heap old e = ap (λ (t : Option Raise × List Obj). t.1) e

module _ {K : Kinds} where
  -- it is done
  pub set_next : (b : Bool) (f : Obj → Obj) (x : Value) (none : Raise) (p : Site) (s : CallState K) (heap : List Obj)
      → ◌≡◌ {A = Option Raise × List Obj} (None, heap) (attribute_told b f x none (heap_of s)) → changed_or b f x none p s ≡ Next (with_heap heap s)
  set_next true f (val.Ref id) none p s heap e = ap (λ (h : List Obj). Next (with_heap h s)) (sym (same_heap None None heap _ e))
  set_next true f val.None none p s heap e = none_raised none heap (heap_of s) e
  set_next true f (val.Bool b) none p s heap e = none_raised none heap (heap_of s) e
  set_next true f (val.Int n) none p s heap e = none_raised none heap (heap_of s) e
  set_next false f x none p s heap e = none_raised none heap (heap_of s) e

  -- something is raised, and the heap stays
  pub set_raised : (b : Bool) (f : Obj → Obj) (x : Value) (none : Raise) (p : Site) (s : CallState K) (r : Raise) (heap : List Obj)
      → ◌≡◌ {A = Option Raise × List Obj} (Some r, heap) (attribute_told b f x none (heap_of s)) → (changed_or b f x none p s ≡ raised_at r p s) × (heap ≡ heap_of s)
  set_raised true f (val.Ref id) none p s r heap e = some_done r heap _ e
  set_raised true f val.None none p s r heap e =
      (ap (λ (q : Raise). raised_at q p s) (same_raise r none heap (heap_of s) e), same_heap (Some r) (Some none) heap (heap_of s) e)
  set_raised true f (val.Bool b) none p s r heap e =
      (ap (λ (q : Raise). raised_at q p s) (same_raise r none heap (heap_of s) e), same_heap (Some r) (Some none) heap (heap_of s) e)
  set_raised true f (val.Int n) none p s r heap e =
      (ap (λ (q : Raise). raised_at q p s) (same_raise r none heap (heap_of s) e), same_heap (Some r) (Some none) heap (heap_of s) e)
  set_raised false f x none p s r heap e =
      (ap (λ (q : Raise). raised_at q p s) (same_raise r none heap (heap_of s) e), same_heap (Some r) (Some none) heap (heap_of s) e)
