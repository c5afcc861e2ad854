-- What a change of an attribute leads to.
use Rattle.std.proofs.Common.{◌≡◌, ◌∙◌, Bool, true, false, List, Option, Some, None, refl, ap, sym}
use Rattle.py_values.specs.declared.end.Raise.{Raise}
use Rattle.py_values.specs.declared.object.Obj.{Obj}
use Rattle.py_values.specs.declared.value.Value.{Value}
use Rattle.py_values.specs.declared.value.Value.TheVariants as val
use Rattle.machine_assign.specs.py_world.Attributes.{changed_or}
use Rattle.machine_assign.specs.py_world.Outcome.{Next, raised_at}
use Rattle.machine_assign.specs.py_world.Site.{Site}
use Rattle.machine_assign.specs.py_world.World.{heap_of, with_heap}
use Rattle.machine_assign.specs.machine_items.Changes.{attribute_told}
use Rattle.machine_assign.specs.machine_state.Places.{CoreOutcome, CoreState, CoreThen}

-- how a change ends that raises this, or nothing, with this heap behind it
abbrev pub told_end : Option Raise × List Obj → Site → CoreState → CoreOutcome
told_end (None, heap) p s = Next (with_heap heap s)
told_end (Some r, heap) p s = raised_at r p (with_heap heap s)

told : (b : Bool) (f : Obj → Obj) (x : Value) (none : Raise) (p : Site) (s : CoreState) → changed_or b f x none p s ≡ told_end (attribute_told b f x none (heap_of s)) p s
told true f (val.Ref id) none p s = refl
told true f val.None none p s = refl
told true f (val.Bool b) none p s = refl
told true f (val.Int n) none p s = refl
told false f x none p s = refl

module _ (b : Bool) (f : Obj → Obj) (x : Value) (none : Raise) (p : Site) (s : CoreState) (k : CoreThen) (r : Option Raise) (heap : List Obj) (is : (r, heap) ≡ attribute_told b f x none (heap_of s)) where
  ended : k (told_end (r, heap) p s) ≡ k (changed_or b f x none p s)
  ended = ap (λ (t : Option Raise × List Obj). k (told_end t p s)) is ∙ ap k (sym (told b f x none p s))

  pub done : r ≡ None → k (Next (with_heap heap s)) ≡ k (changed_or b f x none p s)
  done h = ap (λ (o : Option Raise). k (told_end (o, heap) p s)) (sym h) ∙ ended

  pub refused : (raise : Raise) → r ≡ Some raise → k (raised_at raise p (with_heap heap s)) ≡ k (changed_or b f x none p s)
  refused raise h = ap (λ (o : Option Raise). k (told_end (o, heap) p s)) (sym h) ∙ ended
