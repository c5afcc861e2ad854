-- Exceptions (Language Reference, the raise statement; the try statement).
use Rattle.std.specs.Prelude.{ℕ, Bool, true, false, List, [], ◌∷◌, Option, Some, None, codes, slice_get}
use Rattle.py_calls.specs.py_kinds.Classes.{is_a, is_exc_class, are_exc_classes}
use Rattle.py_values.specs.Raises.{text_raise, thrown_with}
use Rattle.py_values.specs.declared.class.ClassForm.{ClassForm}
use Rattle.py_values.specs.declared.class.ClassForm.TheVariants as form
use Rattle.py_values.specs.declared.class.ClassRef.{ClassRef}
use Rattle.py_values.specs.declared.class.ClassRef.TheVariants as ref
use Rattle.py_values.specs.declared.class.ExcClass.TheVariants.{RuntimeError, TypeError}
use Rattle.py_values.specs.declared.end.Raise.{Raise}
use Rattle.py_values.specs.declared.object.Obj.{Obj}
use Rattle.py_values.specs.declared.object.Obj.TheVariants as obj
use Rattle.py_values.specs.declared.value.ObjId.{ObjId}
use Rattle.py_values.specs.declared.value.Value.{Value}
use Rattle.py_values.specs.declared.value.Value.TheVariants as val
use Rattle.py_world.specs.declared.ended.Thrown.{Thrown}
use Rattle.py_world.specs.declared.trace.TraceFrame.{TraceFrame}
use Rattle.py_world.specs.World.{Kinds, CallState, heap_of, trace_at, with_trace}
use Rattle.py_world.specs.Site.{Scene, Site, trace_of, scene_handling, site_handling}
use Rattle.py_world.specs.Names.{bound, unbound}
use Rattle.py_world.specs.Outcome.{Outcome, Gave, Next, Returned, Broke, Continued, Raised, Rest, Continuation, Denotation, After, Body, Ways, route, onward, changing, on_value, on_next, raised_in, raised_at}

abbrev pub no_exception : Raise
no_exception = text_raise TypeError (codes "exceptions must derive from BaseException")

abbrev pub nothing_raised : Raise
nothing_raised = text_raise RuntimeError (codes "no exception to raise")

-- whether an `except` with this value takes an exception; none where the value is no class
abbrev pub takes_by : Bool → Bool → Option Bool
takes_by true taken = Some taken
takes_by false taken = None

unfoldable pub takes_exception : List Obj → Value → Value → Option Bool
takes_exception heap e class = takes_by (are_exc_classes heap class) (is_a heap e class)

-- what a value is to a `text_raise`: an exception of the heap, a class of exceptions, or none of these
pub data Raisable : Type 0 where
  Exception_of : ObjId → Raisable
  Class_of : ClassRef → Raisable
  Neither : Raisable

-- the class that exceptions of a class object have
abbrev pub class_by : ObjId → ClassForm → ClassRef
class_by id (form.Exception c) = ref.Builtin c
class_by id form.Source = ref.Defined id
class_by id (form.Kind b) = ref.Defined id

abbrev pub class_or_neither : Bool → ObjId → ClassForm → Raisable
class_or_neither true id f = Class_of (class_by id f)
class_or_neither false id f = Neither

abbrev pub raisable_object : List Obj → ObjId → Option Obj → Raisable
raisable_object heap id (Some (obj.Text x)) = Neither
raisable_object heap id (Some (obj.List x)) = Neither
raisable_object heap id (Some (obj.Tuple x)) = Neither
raisable_object heap id (Some (obj.Dict x)) = Neither
raisable_object heap id (Some (obj.Range x)) = Neither
raisable_object heap id (Some (obj.Function x)) = Neither
raisable_object heap id (Some (obj.Method x)) = Neither
raisable_object heap id (Some (obj.Builtin x)) = Neither
raisable_object heap id (Some (obj.Class x)) = class_or_neither (is_exc_class heap (val.Ref id)) id x.form
raisable_object heap id (Some (obj.Instance x)) = Neither
raisable_object heap id (Some (obj.Exception x)) = Exception_of id
raisable_object heap id (Some (obj.Module x)) = Neither
raisable_object heap id (Some (obj.Fixture x)) = Neither
raisable_object heap id (Some obj.MarkMaker) = Neither
raisable_object heap id (Some (obj.Mark x)) = Neither
raisable_object heap id (Some (obj.Hook x)) = Neither
raisable_object heap id (Some (obj.Param x)) = Neither
raisable_object heap id (Some (obj.Request x)) = Neither
raisable_object heap id (Some (obj.Raises x)) = Neither
raisable_object heap id (Some (obj.Info x)) = Neither
raisable_object heap id (Some (obj.Item x)) = Neither
raisable_object heap id None = Neither

unfoldable pub raisable : List Obj → Value → Raisable
raisable heap (val.Ref id) = raisable_object heap id (slice_get heap id.at)
raisable heap val.None = Neither
raisable heap (val.Bool b) = Neither
raisable heap (val.Int n) = Neither

-- the trace with which an exception was first raised, or else this one
abbrev pub first_trace : Option (List TraceFrame) → List TraceFrame → List TraceFrame
first_trace (Some trace) here = trace
first_trace None here = here

module _ {K : Kinds} where
  -- an exception is raised with a trace, which is kept
  abbrev pub raised_with : Value → List TraceFrame → CallState K → Outcome K
  raised_with e trace s = Raised e trace (with_trace e trace s)

  -- an exception of the heap keeps the trace of its first raise; of a class one is made, without a step
  abbrev pub raised_by : Raisable → Site → CallState K → Outcome K
  raised_by (Exception_of id) p s = raised_with (val.Ref id) (first_trace (trace_at id.at s.world.traces) (trace_of p)) s
  raised_by (Class_of class) p s = raised_in (thrown_with class [] (heap_of s)) (trace_of p) s
  raised_by Neither p s = raised_at no_exception p s

  -- the exception that is being handled is raised again with its trace
  abbrev pub raised_again : Option Thrown → Site → CallState K → Outcome K
  raised_again (Some t) p s = Raised t.exc t.trace s
  raised_again None p s = raised_at nothing_raised p s

-- an `except`: what it takes, where that is said; the name behind `as`; its block
abbrev pub Handling : (K : Kinds) → Type 0
Handling K = Option (Denotation K) × (Option (List ℕ) × Body K)

module _ {K : Kinds} where
  -- the block of an `except`; its name is the exception, and is unbound however the block ends
  abbrev pub handler_block : Option (List ℕ) → Body K → Value → List TraceFrame → Denotation K
  handler_block None body e trace p s k = body p.scene s k
  handler_block (Some name) body e trace p s k = body p.scene (bound name e p.scene (with_trace e trace s)) (λ o. route (changing (unbound name p.scene) k) o)

  abbrev pub if_taken : Option Bool → Rest K → Rest K → Rest K → Rest K
  if_taken (Some true) taken other wrong = taken
  if_taken (Some false) taken other wrong = other
  if_taken None taken other wrong = wrong

  -- the first `except` that takes an exception; without one it goes on. What an `except` takes is evaluated on the line of the `try`.
  abbrev pub handlers_on : List (Handling K) → Value → List TraceFrame → Denotation K
  handlers_on [] e trace p s k = k (Raised e trace s)
  handlers_on ((None, (name, body)) ∷ rest) e trace p s k = handler_block name body e trace p s k
  handlers_on ((Some class, (name, body)) ∷ rest) e trace p s k =
      class p s (λ o. on_value o k (λ c s. if_taken (takes_exception (heap_of s) e c) (handler_block name body e trace p s k) (handlers_on rest e trace p s k) (k (raised_at no_exception p s))))

  -- behind the block of a `try`: the handlers where it has raised, and the block behind `else` where it is over
  abbrev pub guarded_by : List (Handling K) → Body K → After K
  guarded_by handlers other p o k = route (record (onward k) { next = λ s. other p.scene s k; raised = λ e trace s. handlers_on handlers e trace (site_handling e trace p) s k }) o

  -- a block, and then the end before it again, unless the block has another end of its own
  abbrev pub then_again : Body K → Scene → CallState K → Continuation K → (CallState K → Outcome K) → Rest K
  then_again last scene s k again = last scene s (λ o. on_next o k (λ s. k (again s)))

  -- the block behind `finally` runs on every way out
  abbrev pub leaving : Body K → Site → Continuation K → Ways K
  leaving last p k =
      record { gave = λ v s. then_again last p.scene s k (Gave v); next = λ s. then_again last p.scene s k Next; returned = λ v s. then_again last p.scene s k (Returned v); broke = λ s. then_again last p.scene s k Broke; continued = λ s. then_again last p.scene s k Continued; raised = λ e trace s. then_again last (scene_handling e trace p.scene) s k (Raised e trace) }

  abbrev pub finally_on : Body K → After K
  finally_on last p o k = route (leaving last p k) o

  abbrev pub guarded : List (Handling K) → Body K → Body K → After K
  guarded handlers other last p o k = guarded_by handlers other p o (λ o. finally_on last p o k)

  -- THE `try` STATEMENT
  abbrev pub try_statement : Body K → List (Handling K) → Body K → Body K → Denotation K
  try_statement body handlers other last p s k = body p.scene s (λ o. guarded handlers other last p o k)
