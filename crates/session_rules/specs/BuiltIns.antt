-- The runner's own implementations of a phase's hook among those of conftests (pytest's reference, "Test running (runtest) hooks";
-- pluggy's documentation, "Call time order").
use Rattle.std.specs.Prelude.{◌≡◌, ◌⊎◌, ℕ, nat_lt, Bool, true, false, List, [], ◌∷◌, ◌++◌, Option, map}
use Rattle.std.specs.List.{filter}
use Rattle.hook_order.specs.declared.implementation.Impl.{Impl}
use Rattle.session_rules.specs.Hooks.{HookEnd, HookRaised, HookRunner, OpenRaised, each, each_next, hook_end, wrapped}
use Rattle.session_rules.specs.Session.{built_in, did_step, hook_arguments, hooked, implemented, in_hooks, opening_of, runner_of}
use Rattle.session_rules.specs.Teardown.{SessionState, Step}
use Rattle.session_rules.specs.World.{Call, Exceptions, Frame, Item, Language, Phase, Rules, SetUp, Teardown}
use Rattle.session_types.specs.Members.{IsMember}

-- the numbers of registration of the runner's own in a phase, in hook order: at a set-up first the one that skips
abbrev pub own_numbers : Phase → List ℕ
own_numbers SetUp = 0 ∷ 1 ∷ []
own_numbers Call = 2 ∷ []
own_numbers Teardown = 3 ∷ []

-- those of conftests have numbers from 4 on
abbrev pub is_runners_own : Impl → Bool
is_runners_own which = nat_lt which.registered 4

abbrev pub registered_number : Impl → ℕ
registered_number which = which.registered

-- none stands twice
abbrev pub AreDifferent : List ℕ → Type 0
AreDifferent [] = Unit {0}
AreDifferent (n ∷ ns) = (IsMember n ns → ⊥) × AreDifferent ns

-- the implementations of a phase's hook that serve an item: of the runner's own there are those of the phase, each once and in their
-- order, and no others; none of them is a wrapper; no two of all have one number
pub record HasBuiltIns (phase : Phase) (impls : List Impl) : Type 0 where
  pub own : map registered_number (filter is_runners_own impls) ≡ own_numbers phase
  pub plain : (which : Impl) → IsMember which impls → is_runners_own which ≡ true → which.wrapper ≡ false
  pub different : AreDifferent (map registered_number impls)

-- it is so in each phase of an item
abbrev pub HaveBuiltIns : {L : Language} → Rules L → Item → Type 0
HaveBuiltIns rules item = (phase : Phase) → HasBuiltIns phase (rules.hooks phase item.node)

-- wrappers go on around what ended so, the last that began first
abbrev pub wrapped_all : {S V E F : Type 0} → HookRunner S V E F → List F → HookEnd S V E → HookEnd S V E
wrapped_all runner [] h = h
wrapped_all runner (frame ∷ frames) h = wrapped runner frame (wrapped_all runner frames h)

-- with values that were given before
abbrev pub behind_values : {S V E : Type 0} → List V → HookEnd S V E → HookEnd S V E
behind_values values h = hook_end h.outcome (values ++ h.values) h.state

-- an implementation that isn't the built-in one raised, or a wrapper at its beginning
abbrev pub RaisedFirst : {L : Language} → Rules L → Phase → Item → Option ℕ → Impl → SessionState L → Exceptions L → Type 0
RaisedFirst rules phase item next which at e =
    ((implemented (rules.implement phase item.node (hook_arguments item next at) which at.world)).answer ≡ HookRaised e)
    ⊎ ((opening_of rules which (rules.open_wrapper phase item.node (hook_arguments item next at) which at.world)).answer ≡ OpenRaised e)

-- THE BUILT-IN'S TURN in a hook call of a phase. It is called once, in a state that doesn't depend on it: behind it the plain
-- implementations that are left, none of them the built-in, and then the wrappers that had begun. Or another implementation raised before
-- it, and it isn't called: what the hook call does doesn't depend on it.
pub data BuiltInTurn {L : Language} (rules : Rules L) (phase : Phase) (item : Item) (next : Option ℕ) (s : SessionState L) : Type 0 where
  IsCalledOnce : (frames : List (Frame L)) (values : List L.Value) (left : List Impl) (at : SessionState L)
      → ((which : Impl) → IsMember which left → which.registered ≡ built_in phase → ⊥)
      → ((built : SessionState L → Step L) → in_hooks rules phase item next built s
      ≡ hooked (wrapped_all (runner_of rules phase item next built) frames
      (behind_values values (each_next (each (runner_of rules phase item next built) left) (did_step (built at)).answer (did_step (built at)).state))))
      → BuiltInTurn rules phase item next s
  IsStopped : (which : Impl) (at : SessionState L) (e : Exceptions L) (end : Step L)
      → IsMember which (rules.hooks phase item.node) → (which.registered ≡ built_in phase → ⊥) → RaisedFirst rules phase item next which at e
      → ((built : SessionState L → Step L) → in_hooks rules phase item next built s ≡ end)
      → BuiltInTurn rules phase item next s
