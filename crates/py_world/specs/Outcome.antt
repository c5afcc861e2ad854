-- How the parts of a run end, and how an end decides what follows.
use Rattle.std.specs.Prelude.{List, length, Bool, true, false}
use Rattle.run_tree.specs.Todo.{Todo, Spend, spend_all}
use Rattle.py_source.specs.declared.pos.Pos.{Pos}
use Rattle.py_values.specs.declared.value.Value.{Value}
use Rattle.py_values.specs.declared.value.Value.TheVariants as val
use Rattle.py_values.specs.declared.end.Raise.{Raise}
use Rattle.py_values.specs.declared.end.Effect.{Effect}
use Rattle.py_values.specs.declared.end.Effect.TheVariants.{Give, New, Put, Fail}
use Rattle.py_values.specs.declared.object.Obj.{Obj}
use Rattle.py_values.specs.Ends.{cost_of, id_at}
use Rattle.py_values.specs.Changes.{heap_after}
use Rattle.py_values.specs.Raises.{thrown}
use Rattle.py_calls.specs.call_products.declared.product.Product.{Product}
use Rattle.py_world.specs.World.{Kinds, CallState, heap_of, with_heap, with_object, with_objects, back_to}
use Rattle.py_world.specs.Site.{Around, Scene, Site, trace_of}
use Rattle.py_world.specs.Arguments.{Arguments}
use Rattle.py_world.specs.declared.trace.TraceFrame.{TraceFrame}

-- an expression gives a value; a statement is over, or leaves what is around it; either raises
pub data Outcome (K : Kinds) : Type 0 where
  Gave : Value → CallState K → Outcome K
  Next : CallState K → Outcome K
  Returned : Value → CallState K → Outcome K
  Broke : CallState K → Outcome K
  Continued : CallState K → Outcome K
  Raised : Value → List TraceFrame → CallState K → Outcome K

-- where the steps are used up
pub record Exhaustion (K : Kinds) : Type 0 where
  pub trace : List TraceFrame
  pub state : CallState K

-- what costs a step before it begins and is no part of the syntax at hand: a call, and what a meaning names
pub data Request (K : Kinds) : Type 0 where
  CallOf : (callee : Value) (args : Arguments) (a : Around) (s : CallState K) → Request K
  DoOf : (what : K.turn) (p : Site) (s : CallState K) → Request K

-- a body that stopped at a `yield`: what it gave, what remains of it, where, and its names and the world
pub record Suspension (K : Kinds) : Type 0 where
  pub value : Value
  pub rest : K.rest
  pub site : Site
  pub state : CallState K

abbrev pub paused : {K : Kinds} → Value → K.rest → Site → CallState K → Suspension K
paused v rest p s = record { value = v; rest = rest; site = p; state = s }

-- what is left to do; the positions of the expressions that begin are noted
abbrev pub Rest : (K : Kinds) → Type 0
Rest K = Todo Pos (Exhaustion K) (Request K) (Outcome K) (Suspension K)

-- what follows a part
abbrev pub Continuation : (K : Kinds) → Type 0
Continuation K = Outcome K → Rest K

-- what an expression or a statement does, at its place in a state, with what follows it
abbrev pub Denotation : (K : Kinds) → Type 0
Denotation K = Site → CallState K → Continuation K → Rest K

-- what is done with the end of a part, with what follows it
abbrev pub After : (K : Kinds) → Type 0
After K = Site → Outcome K → Continuation K → Rest K

-- what a block does, whose statements have lines of their own
abbrev pub Body : (K : Kinds) → Type 0
Body K = Scene → CallState K → Continuation K → Rest K

module _ {K : Kinds} where
  abbrev pub spent : List TraceFrame → CallState K → Exhaustion K
  spent trace s = record { trace = trace; state = s }

  abbrev pub spent_at : Site → CallState K → Exhaustion K
  spent_at p s = spent (trace_of p) s

  -- a new exception is raised
  abbrev pub raised_in : Value × List Obj → List TraceFrame → CallState K → Outcome K
  raised_in e trace s = Raised e.0 trace (with_heap e.1 s)

  -- a new object is given
  abbrev pub gave_in : Value × List Obj → CallState K → Outcome K
  gave_in v s = Gave v.0 (with_heap v.1 s)

  abbrev pub raised : Raise → List TraceFrame → CallState K → Outcome K
  raised r trace s = raised_in (thrown r (heap_of s)) trace s

  abbrev pub raised_at : Raise → Site → CallState K → Outcome K
  raised_at r p s = raised r (trace_of p) s

  -- how an operator, a built-in call or a look-up ends
  abbrev pub made : Effect → List TraceFrame → CallState K → Outcome K
  made (Give v n) trace s = Gave v s
  made (New o n) trace s = Gave (val.Ref (id_at (length (heap_of s)))) (with_object o s)
  made (Put id change v n) trace s = Gave v (with_heap (heap_after id change (heap_of s)) s)
  made (Fail r n) trace s = raised r trace s

  -- how a call of what no source defines ends: what it makes, in the heap that has its new objects
  abbrev pub product_end : Product → List TraceFrame → CallState K → Outcome K
  product_end x trace s = made x.made trace (with_objects x.objects s)

  -- how a call ends, for the caller
  abbrev pub call_end : CallState K → Outcome K → Outcome K
  call_end caller (Gave v s) = Gave v (back_to caller s)
  call_end caller (Next s) = Gave val.None (back_to caller s)
  call_end caller (Returned v s) = Gave v (back_to caller s)
  call_end caller (Broke s) = Gave val.None (back_to caller s)
  call_end caller (Continued s) = Gave val.None (back_to caller s)
  call_end caller (Raised e trace s) = Raised e trace (back_to caller s)

-- WHAT FOLLOWS A PART by how it has ended. All forms decide by it; each names the ends that it takes itself.
pub record Ways (K : Kinds) : Type 0 where
  pub gave : Value → CallState K → Rest K
  pub next : CallState K → Rest K
  pub returned : Value → CallState K → Rest K
  pub broke : CallState K → Rest K
  pub continued : CallState K → Rest K
  pub raised : Value → List TraceFrame → CallState K → Rest K

module _ {K : Kinds} where
  abbrev pub route : Ways K → Continuation K
  route w (Gave v s) = w.gave v s
  route w (Next s) = w.next s
  route w (Returned v s) = w.returned v s
  route w (Broke s) = w.broke s
  route w (Continued s) = w.continued s
  route w (Raised e trace s) = w.raised e trace s

  -- each end is handed on
  abbrev pub onward : Continuation K → Ways K
  onward k =
      record { gave = λ v s. k (Gave v s); next = λ s. k (Next s); returned = λ v s. k (Returned v s); broke = λ s. k (Broke s); continued = λ s. k (Continued s); raised = λ e trace s. k (Raised e trace s) }

  -- goes on from a value
  abbrev pub on_value : Outcome K → Continuation K → (Value → CallState K → Rest K) → Rest K
  on_value o k go = route (record (onward k) { gave = go }) o

  -- goes on behind a statement that is over
  abbrev pub on_next : Outcome K → Continuation K → (CallState K → Rest K) → Rest K
  on_next o k go = route (record (onward k) { next = go }) o

  -- goes on behind a loop's body; `break` ends the loop
  abbrev pub on_turn : Outcome K → Continuation K → (CallState K → Rest K) → Rest K
  on_turn o k go = route (record (onward k) { next = go; broke = λ s. k (Next s); continued = go }) o

  -- hands each end on, with its state changed
  abbrev pub changing : (CallState K → CallState K) → Continuation K → Ways K
  changing f k =
      record { gave = λ v s. k (Gave v (f s)); next = λ s. k (Next (f s)); returned = λ v s. k (Returned v (f s)); broke = λ s. k (Broke (f s)); continued = λ s. k (Continued (f s)); raised = λ e trace s. k (Raised e trace (f s)) }

  abbrev pub if_true : Bool → Rest K → Rest K → Rest K
  if_true true a b = a
  if_true false a b = b

  -- the cost of what is made, and then its end
  abbrev pub costing : Effect → List TraceFrame → CallState K → Continuation K → Rest K
  costing m trace s k = spend_all (cost_of m) (spent trace s) (k (made m trace s))

  -- an operator: its step, its cost, and then its end
  abbrev pub operated : Effect → Site → CallState K → Continuation K → Rest K
  operated m p s k = Spend (spent_at p s) (costing m (trace_of p) s k)
