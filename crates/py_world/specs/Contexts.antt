-- The `with` statement over what expects an exception (Language Reference, the with statement; pytest's reference, pytest.raises).
use Rattle.std.specs.Prelude.{ℕ, Bool, true, false, List, length, Option, Some, None, codes}
use Rattle.py_calls.specs.py_kinds.Classes.{is_a}
use Rattle.py_values.specs.Changes.{heap_after}
use Rattle.py_values.specs.Ends.{id_at}
use Rattle.py_values.specs.Raises.{text_raise}
use Rattle.py_values.specs.declared.change.Change.TheVariants.{Whole}
use Rattle.py_values.specs.declared.class.ExcClass.TheVariants.{TypeError}
use Rattle.py_values.specs.declared.end.Raise.{Raise}
use Rattle.py_values.specs.declared.object.Obj.{Obj}
use Rattle.py_values.specs.declared.object.Obj.TheVariants as obj
use Rattle.py_values.specs.declared.object.RaisesObj.{RaisesObj}
use Rattle.py_values.specs.declared.value.ObjId.{ObjId}
use Rattle.py_values.specs.declared.value.Value.{Value}
use Rattle.py_values.specs.declared.value.Value.TheVariants as val
use Rattle.py_calls.specs.py_items.Items.{object_at}
use Rattle.py_calls.specs.pytest_calls.Swallowing.{did_not_raise, pattern_end}
use Rattle.py_world.specs.declared.trace.TraceFrame.{TraceFrame}
use Rattle.py_world.specs.World.{Kinds, CallState, heap_of, with_heap, with_object, with_trace}
use Rattle.py_world.specs.Site.{Scene, Site, trace_of}
use Rattle.py_world.specs.Names.{bound}
use Rattle.py_world.specs.Outcome.{Next, Raised, Continuation, Denotation, After, Body, Ways, route, on_value, costing, raised_at}

abbrev pub bad_context : Raise
bad_context = text_raise TypeError (codes "bad context")

-- what `with` takes: an object of kind raises
abbrev pub context_of : Option Obj → Option RaisesObj
context_of (Some (obj.Text x)) = None
context_of (Some (obj.List x)) = None
context_of (Some (obj.Tuple x)) = None
context_of (Some (obj.Dict x)) = None
context_of (Some (obj.Range x)) = None
context_of (Some (obj.Function x)) = None
context_of (Some (obj.Method x)) = None
context_of (Some (obj.Builtin x)) = None
context_of (Some (obj.Class x)) = None
context_of (Some (obj.Instance x)) = None
context_of (Some (obj.Exception x)) = None
context_of (Some (obj.Module x)) = None
context_of (Some (obj.Fixture x)) = None
context_of (Some obj.MarkMaker) = None
context_of (Some (obj.Mark x)) = None
context_of (Some (obj.Hook x)) = None
context_of (Some (obj.Param x)) = None
context_of (Some (obj.Request x)) = None
context_of (Some (obj.Raises x)) = Some x
context_of (Some (obj.Info x)) = None
context_of (Some (obj.Item x)) = None
context_of None = None

module _ {K : Kinds} where
  -- the name behind `as` is a new info object
  abbrev pub info_named : Option (List ℕ) → Value → Scene → CallState K → CallState K
  info_named (Some name) v scene s = bound name v scene s
  info_named None v scene s = s

  abbrev pub with_info : Option (List ℕ) → Scene → CallState K → CallState K
  with_info name scene s = info_named name (val.Ref (id_at (length (heap_of s)))) scene (with_object (obj.Info (record { value = None })) s)

  -- the info object has the exception that was taken
  abbrev pub info_taken : ObjId → Value → CallState K → CallState K
  info_taken info e s = with_heap (heap_after info (Whole (obj.Info (record { value = Some e }))) (heap_of s)) s

  -- what the search of the pattern makes, behind its cost
  abbrev pub searched : Option (List ℕ) → Value → Denotation K
  searched pattern e p s k = costing (pattern_end (heap_of s) pattern e) (trace_of p) s (λ o. on_value o k (λ v s. k (Next s)))

  -- an exception that is taken, whose trace is kept; the pattern is searched behind that
  abbrev pub swallowed : RaisesObj → ObjId → Value → List TraceFrame → Denotation K
  swallowed r info e trace p s k = searched r.pattern e p (info_taken info e (with_trace e trace s)) k

  abbrev pub taken_or : Bool → RaisesObj → ObjId → Value → List TraceFrame → Denotation K
  taken_or true r info e trace p s k = swallowed r info e trace p s k
  taken_or false r info e trace p s k = k (Raised e trace s)

  abbrev pub not_raised : RaisesObj → Denotation K
  not_raised r p s k = k (raised_at (did_not_raise (heap_of s) r.classes) p s)

  -- an exception that is not expected goes on; each way out without an exception is a failure
  abbrev pub leaving_context : RaisesObj → ObjId → Site → Continuation K → Ways K
  leaving_context r info p k =
      record { gave = λ v s. not_raised r p s k; next = λ s. not_raised r p s k; returned = λ v s. not_raised r p s k; broke = λ s. not_raised r p s k; continued = λ s. not_raised r p s k; raised = λ e trace s. taken_or (is_a (heap_of s) e r.classes) r info e trace p s k }

  -- THE END of the block, on the line of the `with`
  abbrev pub context_left : RaisesObj → ObjId → After K
  context_left r info p o k = route (leaving_context r info p k) o

  abbrev pub context_entered : Option RaisesObj → Option (List ℕ) → Body K → Denotation K
  context_entered (Some r) name body p s k = body p.scene (with_info name p.scene s) (λ o. context_left r (id_at (length (heap_of s))) p o k)
  context_entered None name body p s k = k (raised_at bad_context p s)

  -- THE `with` STATEMENT
  abbrev pub with_statement : Denotation K → Option (List ℕ) → Body K → Denotation K
  with_statement e name body p s k = e p s (λ o. on_value o k (λ v s. context_entered (context_of (object_at (heap_of s) v)) name body p s k))
