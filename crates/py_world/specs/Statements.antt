-- What the forms of statements do with the ends of their parts (Language Reference, simple and compound statements).
use Rattle.std.specs.Prelude.{ℕ, List, [], ◌∷◌, length, Option, Some, None}
use Rattle.run_tree.specs.Todo.{Ask, Freeze}
use Rattle.py_values.specs.declared.class.ExcClass.TheVariants.{AssertionError}
use Rattle.py_values.specs.declared.end.Raise.{Raise}
use Rattle.py_values.specs.declared.object.Obj.TheVariants as obj
use Rattle.py_values.specs.declared.value.Value.{Value}
use Rattle.py_values.specs.declared.value.Value.TheVariants as val
use Rattle.py_values.specs.Ends.{id_at}
use Rattle.py_calls.specs.py_kinds.Truth.{truth}
use Rattle.py_world.specs.World.{Kinds, CallState, heap_of, unset, with_object}
use Rattle.py_world.specs.Site.{Site, site}
use Rattle.py_world.specs.Explained.{explanation}
use Rattle.py_tree.specs.Trees.{Tree}
use Rattle.py_world.specs.Targets.{Store}
use Rattle.py_world.specs.Outcome.{Outcome, paused, Next, Returned, Broke, Continued, Denotation, After, Body, DoOf, on_value, on_turn, if_true, raised_at, spent_at}

-- a condition on its line, and its block
abbrev pub IfClause : (K : Kinds) → Type 0
IfClause K = ℕ × (Denotation K × Body K)

-- an exception whose one argument is the message, where there is one
abbrev pub assertion : Option Value → Raise
assertion message = record { class = AssertionError; text = []; arg = message }

module _ {K : Kinds} where
  -- a failure with a text, which is a new object
  abbrev pub failed_with : List ℕ → Site → CallState K → Outcome K
  failed_with text p s = raised_at (assertion (Some (val.Ref (id_at (length (heap_of s)))))) p (with_object (obj.Text text) s)

module _ {K : Kinds} where
  -- the step of what a meaning names, and then that
  abbrev pub asked : K.turn → Denotation K
  asked what p s k = Ask (spent_at p s) (DoOf what p s) k

  abbrev pub expression_statement : Denotation K → Denotation K
  expression_statement e p s k = e p s (λ o. on_value o k (λ v s. k (Next s)))

  abbrev pub return_value : Option (Denotation K) → Denotation K
  return_value None p s k = k (Returned val.None s)
  return_value (Some e) p s k = e p s (λ o. on_value o k (λ v s. k (Returned v s)))

  -- a `yield`: the body stops, with what remains of it
  abbrev pub yield_value : Option (Denotation K) → K.rest → Denotation K
  yield_value None rest p s k = Freeze (paused val.None rest p s)
  yield_value (Some e) rest p s k = e p s (λ o. on_value o k (λ v s. Freeze (paused v rest p s)))

  -- A BODY GOES ON AT A `yield`: an exception that is thrown there is raised, and a value that is sent is used (Language Reference,
  -- yield expressions)
  abbrev pub received : Store K → After K
  received take p o k = on_value o k (λ v s. take v p s k)

  -- uses of what is sent: none, and it is returned
  abbrev pub no_use : Store K
  no_use v p s k = k (Next s)

  abbrev pub return_sent : Store K
  return_sent v p s k = k (Returned v s)

  abbrev pub pass_statement : Denotation K
  pass_statement p s k = k (Next s)

  abbrev pub leave_loop : Denotation K
  leave_loop p s k = k (Broke s)

  abbrev pub next_turn : Denotation K
  next_turn p s k = k (Continued s)

  -- the failure of an assert
  abbrev pub fail : Option (Denotation K) → Denotation K
  fail None p s k = k (raised_at (assertion None) p s)
  fail (Some m) p s k = m p s (λ o. on_value o k (λ v s. k (raised_at (assertion (Some v)) p s)))

  -- the failure of an assert that is explained by what was kept of its condition
  abbrev pub fail_explained : Tree → Option (Denotation K) → Denotation K
  fail_explained e None p s k = k (failed_with (explanation e s.temps None (heap_of s)) p s)
  fail_explained e (Some m) p s k = m p s (λ o. on_value o k (λ v s. k (failed_with (explanation e s.temps (Some v) (heap_of s)) p s)))

  -- the first branch whose condition is true, or else the last block
  abbrev pub branches_on : List (IfClause K) → Body K → Body K
  branches_on [] other scene s k = other scene s k
  branches_on ((line, (condition, block)) ∷ rest) other scene s k =
      condition (site scene line) s (λ o. on_value o k (λ v s. if_true (truth (heap_of s) v) (block scene s k) (branches_on rest other scene s k)))

  -- an `if` begins with no temporary
  abbrev pub choose : List (IfClause K) → Body K → Denotation K
  choose branches other p s k = branches_on branches other p.scene (unset s) k

  -- a loop from its condition on; turn names what a turn is
  abbrev pub loop : K.turn → Denotation K → Denotation K
  loop turn condition p s k = condition p s (λ o. on_value o k (λ v s. if_true (truth (heap_of s) v) (asked turn p s k) (k (Next s))))

  -- a turn: the block, and then the loop from its condition on
  abbrev pub while_turn : K.turn → Denotation K → Body K → Denotation K
  while_turn turn condition block p s k = block p.scene s (λ o. on_turn o k (λ s. loop turn condition p s k))
