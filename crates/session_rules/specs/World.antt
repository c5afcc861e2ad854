-- What a session asks of a language and its world: nothing is known of what they do.
use Rattle.std.specs.Prelude.{ℕ, Bool, List, Option}
use Rattle.hook_order.specs.declared.implementation.Impl.{Impl}
use Rattle.session_types.specs.declared.scope.Scope.{Scope}
use Rattle.session_types.specs.declared.instance.Instance.{Instance}
use Rattle.session_rules.specs.Hooks.{HookAnswer, HookMessage}

-- the phases of an item
pub data Phase : Type 0 where
  SetUp : Phase
  Call : Phase
  Teardown : Phase

-- the worlds, the values, the exceptions with their traces, what remains of a body behind a `yield`, and what a phase tells at
-- its end
pub record Language : Type 1 where
  pub World : Type 0
  pub Value : Type 0
  pub Thrown : Type 0
  pub Rest : Type 0
  pub Told : Type 0
  -- whether what a phase tells is a failure or an error
  pub is_bad : Phase → Told → Bool

abbrev pub language : (W V E R T : Type 0) → (Phase → T → Bool) → Language
language W V E R T is_bad = record { World = W; Value = V; Thrown = E; Rest = R; Told = T; is_bad = is_bad }

-- how a body ended; an exhausted one has raised
pub data BodyEnd (L : Language) : Type 0 where
  Returned : L.Value → BodyEnd L
  Yielded : L.Value → L.Rest → BodyEnd L
  Raised : L.Thrown → BodyEnd L

-- the end of a body, and the world behind it
pub record BodyOutcome (L : Language) : Type 0 where
  pub how : BodyEnd L
  pub world : L.World

-- the exception that one call raised, and the world behind it
pub record CallOutcome (L : Language) : Type 0 where
  pub raised : Option L.Thrown
  pub world : L.World

-- an exception that the runner makes
pub record NewException (L : Language) : Type 0 where
  pub thrown : L.Thrown
  pub world : L.World

-- a `request` object, where one was made
pub record NewRequest (L : Language) : Type 0 where
  pub request : Option L.Value
  pub world : L.World

-- a `request` that takes no further finalizers, and those that it had, latest first
pub record ClosedRequest (L : Language) : Type 0 where
  pub finalizers : List L.Value
  pub world : L.World

-- what a phase tells at its end: its outcome, the texts of its exceptions, what was printed in it; and the world behind it
pub record Account (L : Language) : Type 0 where
  pub told : L.Told
  pub world : L.World

-- what stops a hook call: an exception, or several of a built-in implementation
pub record Exceptions (L : Language) : Type 0 where
  pub first : L.Thrown
  pub more : List L.Thrown

-- a wrapper that stands at its `yield`
pub record Frame (L : Language) : Type 0 where
  pub which : Impl
  pub rest : L.Rest

-- what an implementation of a hook may take: the `item`, and at a teardown the `nextitem`, where there is one
pub record HookArguments (L : Language) : Type 0 where
  pub item : Option L.Value
  pub next : Option L.Value

-- an answer, and the world behind it
pub record WorldAnswer (L : Language) (A : Type 0) : Type 0 where
  pub answer : A
  pub world : L.World

-- a value, or the exception of a set-up that raised
pub data SetUpEnd (L : Language) : Type 0 where
  Value : L.Value → SetUpEnd L
  Failure : L.Thrown → SetUpEnd L

-- what is kept of one that was set up: also what remains behind its `yield`, and its `request`
pub record Slot (L : Language) : Type 0 where
  pub kept : SetUpEnd L
  pub rest : Option L.Rest
  pub request : Option L.Value

-- a live instance
abbrev pub LiveInstance : Language → Type 0
LiveInstance L = Instance (Slot L)

-- the table of definitions, and what the world does. Items are named by their nodes
pub record Rules (L : Language) : Type 0 where
  -- the number of definitions
  pub depth : ℕ
  pub scope : ℕ → Scope
  -- whether a definition's function has a `yield`
  pub yields : ℕ → Bool
  -- the instance of an item's class, where it has one
  pub make_instance : ℕ → L.World → WorldAnswer L (Option L.Value)
  -- the `item` object that hooks get for an item
  pub make_item : ℕ → L.World → WorldAnswer L L.Value
  -- the `request` that a definition's function takes in this item with this parameter
  pub ask : ℕ → ℕ → Option ℕ → L.World → NewRequest L
  -- a definition's function is called for an item, with this parameter, this instance of the item's class, these values and this
  -- request
  pub begin : ℕ → ℕ → Option ℕ → Option L.Value → List L.Value → Option L.Value → L.World → BodyOutcome L
  -- `fixture 'NAME' did not yield`
  pub did_not_yield : ℕ → L.World → NewException L
  -- what remains behind a `yield`, with the sent value None
  pub resume : L.Rest → L.World → BodyOutcome L
  -- what remains is given up
  pub abandon : L.Rest → L.World → L.World
  -- `fixture function has more than one 'yield'`
  pub yielded_again : ℕ → L.World → NewException L
  pub close : L.Value → L.World → ClosedRequest L
  pub finalize : L.Value → L.World → CallOutcome L
  -- the fault of an item's closure
  pub fault : ℕ → L.World → NewException L
  -- the `request` that an item's test takes
  pub ask_test : ℕ → L.World → NewRequest L
  -- an item's test is called, with the instance of its class, these values and this request
  pub test : ℕ → Option L.Value → List L.Value → Option L.Value → L.World → CallOutcome L
  -- `wrong arguments for NAME`
  pub wrong_arguments : ℕ → L.World → NewException L
  -- the implementations of a phase's hook that serve the item, the built-in ones among them, in hook order
  pub hooks : Phase → ℕ → List Impl
  -- an implementation is called for an item
  pub implement : Phase → ℕ → HookArguments L → Impl → L.World → WorldAnswer L (HookAnswer L.Value L.Thrown)
  pub open_wrapper : Phase → ℕ → HookArguments L → Impl → L.World → BodyOutcome L
  -- `hook wrapper did not yield`
  pub wrapper_did_not_yield : Impl → L.World → NewException L
  pub resume_wrapper : Phase → ℕ → L.Rest → HookMessage L.Value L.Thrown → L.World → BodyOutcome L
  -- `hook wrapper yielded twice`
  pub wrapper_yielded_again : Impl → L.World → NewException L
  -- a value, unless it is None
  pub unless_none : L.Value → Option L.Value
  -- whether two exceptions are the same object
  pub is_same_object : L.Thrown → L.Thrown → Bool
  -- what ends with a phase: its captured text is taken, the texts of its exceptions are made
  pub end_phase : Phase → ℕ → List L.Thrown → L.World → Account L

-- an item: its node, and with it those above it; the definitions that each definition asks for; each definition's parameter and
-- scope node; the closure, where it has no fault; the definitions that its test's arguments stand for, where there are any
pub record Item : Type 0 where
  pub node : ℕ
  pub chain : List ℕ
  pub requests : ℕ → List ℕ
  pub parameter : ℕ → Option ℕ
  pub place : ℕ → ℕ
  pub closure : Option (List ℕ)
  pub arguments : List (Option ℕ)
