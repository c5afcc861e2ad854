-- The meaning of sources with another word for asserts, and the one in which a run stops at a failed assert.
use Rattle.std.specs.Prelude.{ℕ, List, [], ◌∷◌, Bool, true, false, Option, Some, None, cond}
use Rattle.py_source.specs.declared.pos.Pos.{Pos}
use Rattle.py_tree.specs.Trees.{Tree, Maybe, Absent, Present}
use Rattle.py_tree.specs.Statements.{Statement, Assert}
use Rattle.py_values.specs.declared.value.Value.{Value}
use Rattle.py_values.specs.declared.value.Value.TheVariants as val
use Rattle.run_tree.specs.Todo.{Freeze}
use Rattle.source_meaning.specs.py_world.World.{CallState, heap_of}
use Rattle.source_meaning.specs.py_world.Site.{Site}
use Rattle.source_meaning.specs.py_world.Explained.{explanation}
use Rattle.source_meaning.specs.py_world.Outcome.{Outcome, Suspension, paused, on_value, raised_at}
use Rattle.source_meaning.specs.py_world.Statements.{assertion, failed_with}
use Rattle.source_meaning.specs.py_world.Calls.{Meaning}
use Rattle.source_meaning.specs.Expressions.{SourcePart, source_eval, some_source_part}
use Rattle.source_meaning.specs.Watched.{watch}
use Rattle.source_meaning.specs.Requests.{source_kinds, SourceLayer, Statements, SourceTurn, StatementOf, TurnOf, ForOf}
use Rattle.source_meaning.specs.Statements.{source_entry, source_statement, source_act, script_body, source_remains, source_assert, assert_as}

-- what an assert does: whether it is explained, its place, its condition and its message
abbrev pub Asserts : Type 0
Asserts = Bool → Pos → Tree → Maybe → SourcePart

module _ (asserts : Asserts) where
  abbrev pub statement_with : Bool → List SourceLayer → Statement → SourcePart
  statement_with x ls (Assert at e m) = asserts x at e m
  statement_with x ls s = source_statement x ls s

  abbrev pub act_with : SourceTurn → SourcePart
  act_with (StatementOf x ls s) = statement_with x ls s
  act_with (TurnOf x e body) = source_act (TurnOf x e body)
  act_with (ForOf x taker body at) = source_act (ForOf x taker body at)

  -- THE MEANING OF SOURCES in which asserts alone do something else
  abbrev pub meaning_with : Meaning source_kinds
  meaning_with = record { entry = source_entry; act = act_with; body = script_body; remains = source_remains }

-- what they do
abbrev pub real_asserts : Asserts
real_asserts x at e m = assert_as x e (some_source_part m)

-- the condition of an assert, whose parts are kept where it is explained
abbrev pub condition_of : Bool → Tree → SourcePart
condition_of false e = source_eval e
condition_of true e = watch 0 e

-- a run that stands at a failed assert: the value of its message, where there is one, the assert, its place and the state there
abbrev pub failed_assert : Value → Bool → Statement → Site → CallState source_kinds → Suspension source_kinds
failed_assert v x s p = paused v (Statements x (s ∷ []) ∷ []) p

-- what a run stands at that stands at a failed assert; behind a `yield` what remains begins by the use of what is sent
pub data AtAssert : Suspension source_kinds → Type 0 where
  at_assert : (v : Value) (x : Bool) (at : Pos) (e : Tree) (m : Maybe) (p : Site) (s : CallState source_kinds) → AtAssert (failed_assert v x (Assert at e m) p s)

-- a failed assert at which the run stops for good: its message is evaluated, and nothing is raised
abbrev pub stopped_there : Asserts
stopped_there x at e Absent p s k = Freeze (failed_assert val.None x (Assert at e Absent) p s)
stopped_there x at e (Present m) p s k = source_eval m p s (λ o. on_value o k (λ v s. Freeze (failed_assert v x (Assert at e (Present m)) p s)))

module _ (differs : List ℕ → Bool) where
  -- an assert of such a module stops the run where it fails, and else asserts do what they do
  abbrev pub stopping_asserts : Asserts
  stopping_asserts x at e m p s k = cond (differs p.scene.path) (source_assert (condition_of x e) (stopped_there x at e m) p s k) (assert_as x e (some_source_part m) p s k)

  abbrev pub stopping : Meaning source_kinds
  stopping = meaning_with stopping_asserts

-- what a failed assert raises: its message where it isn't explained, and else the explanation, whose text is a new object
abbrev pub failed_end : Bool → Tree → Option Value → Site → CallState source_kinds → Outcome source_kinds
failed_end false e message p s = raised_at (assertion message) p s
failed_end true e message p s = failed_with (explanation e s.temps message (heap_of s)) p s

-- the value of a message
abbrev pub message_given : Maybe → Value → Option Value
message_given Absent v = None
message_given (Present m) v = Some v

-- what failed asserts end with: whether they are explained, their condition, the value of their message, and where
abbrev pub FailedEnds : Type 0
FailedEnds = Bool → Tree → Option Value → Site → CallState source_kinds → Outcome source_kinds

-- a failed assert that ends as is said
abbrev pub failing_with : FailedEnds → Asserts
failing_with ends x at e Absent p s k = k (ends x e None p s)
failing_with ends x at e (Present m) p s k = source_eval m p s (λ o. on_value o k (λ v s. k (ends x e (Some v) p s)))

module _ (differs : List ℕ → Bool) where
  abbrev pub answering_asserts : FailedEnds → Asserts
  answering_asserts ends x at e m p s k = cond (differs p.scene.path) (source_assert (condition_of x e) (failing_with ends x at e m) p s k) (assert_as x e (some_source_part m) p s k)

  -- the meaning in which an assert of such a module ends as is said where it fails
  abbrev pub answering : FailedEnds → Meaning source_kinds
  answering ends = meaning_with (answering_asserts ends)
