-- The turns of a `for` (Language Reference, the for statement).
use Rattle.std.specs.Prelude.{Option, Some, None}
use Rattle.py_calls.specs.py_kinds.Kinds.{kind_name}
use Rattle.py_values.specs.declared.end.Effect.{Effect}
use Rattle.py_values.specs.declared.end.Effect.TheVariants.{Give, New, Put, Fail}
use Rattle.py_values.specs.declared.value.Value.{Value}
use Rattle.py_calls.specs.py_operands.Faults.{not_iterable}
use Rattle.py_calls.specs.py_items.Turns.{turn_of as element_of, iterator_after, iterate}
use Rattle.py_calls.specs.py_items.declared.iter.IterAt.{IterAt}
use Rattle.py_world.specs.World.{Kinds, heap_of}
use Rattle.py_world.specs.Site.{trace_of}
use Rattle.py_world.specs.Outcome.{Next, Denotation, Body, made, on_value, on_next, on_turn, raised_at}
use Rattle.py_world.specs.Statements.{asked}
use Rattle.py_world.specs.Targets.{Store}

module _ {K : Kinds} where
  -- a turn begins with a step where there is an element; turn names it
  abbrev pub turn_begun : Option Effect → K.turn → Denotation K
  turn_begun None turn p s k = k (Next s)
  turn_begun (Some (Give v n)) turn p s k = asked turn p s k
  turn_begun (Some (New o n)) turn p s k = asked turn p s k
  turn_begun (Some (Put id c v n)) turn p s k = asked turn p s k
  turn_begun (Some (Fail r n)) turn p s k = k (raised_at r p s)

  -- a `for` from a place on
  abbrev pub for_from : (IterAt → K.turn) → IterAt → Denotation K
  for_from turn at p s k = turn_begun (element_of (heap_of s) at) (turn at) p s k

  abbrev pub iterated : (IterAt → K.turn) → Value → Option IterAt → Denotation K
  iterated turn v (Some at) p s k = for_from turn at p s k
  iterated turn v None p s k = k (raised_at (not_iterable (kind_name (heap_of s) v)) p s)

  -- THE `for` STATEMENT: what it goes over comes first
  abbrev pub for_statement : (IterAt → K.turn) → Denotation K → Denotation K
  for_statement turn e p s k = e p s (λ o. on_value o k (λ v s. iterated turn v (iterate (heap_of s) v) p s k))

  -- behind the element of a turn: the target, the block, and the `for` from the next place on
  abbrev pub behind_target : (IterAt → K.turn) → Body K → IterAt → Denotation K
  behind_target turn block next p s k = block p.scene s (λ o. on_turn o k (λ s. for_from turn next p s k))

  abbrev pub turn_with : (IterAt → K.turn) → Store K → Body K → IterAt → Option Effect → Denotation K
  turn_with turn target block at None p s k = k (Next s)
  turn_with turn target block at (Some m) p s k =
      on_value (made m (trace_of p) s) k (λ v s. target v p s (λ o. on_next o k (λ s. behind_target turn block (iterator_after at m) p s k)))

  -- a turn, whose step is taken
  abbrev pub for_turn : (IterAt → K.turn) → Store K → Body K → IterAt → Denotation K
  for_turn turn target block at p s k = turn_with turn target block at (element_of (heap_of s) at) p s k
