-- What the steps of an answer say of its run.
use Rattle.std.specs.Prelude.{◌≡◌, ◌≤◌, ◌<◌, ℕ}
use Rattle.source_meaning.specs.py_world.declared.ended.Outcome.{Outcome}
use Rattle.source_meaning.specs.py_world.declared.ended.Outcome.TheVariants.{Value, Raised, Exhausted}
use Rattle.source_meaning.specs.py_world.World.{Kinds}
use Rattle.source_meaning.specs.py_world.Runs.{Told}
use Rattle.source_meaning.specs.py_world.Resuming.{BegunOut, ToldBegun, Yielded, Over}

-- the steps are used up
abbrev pub IsExhausted : Outcome → Type 0
IsExhausted (Value v) = ⊥
IsExhausted (Raised t) = ⊥
IsExhausted (Exhausted trace) = Unit {0}

abbrev pub IsBegunExhausted : BegunOut → Type 0
IsBegunExhausted (Yielded v n) = ⊥
IsBegunExhausted (Over o) = IsExhausted o

module _ {T : Type 0} (steps : T → ℕ) (IsOut : T → Type 0) where
  -- THE STEPS ARE EXACT, of what is told with each budget: they are at most the budget; with as many or more the same is told, unless they
  -- were used up; and with fewer they are used up
  pub record StepsAreExact (told : ℕ → T) (budget : ℕ) : Type 0 where
    pub within : steps (told budget) ≤ budget
    pub enough : (IsOut (told budget) → ⊥) → (other : ℕ) → steps (told budget) ≤ other → told other ≡ told budget
    pub fewer : (other : ℕ) → other < steps (told budget) → IsOut (told other) × (steps (told other) ≡ other)

module _ {K : Kinds} where
  -- of calls and loads, and of begins and resumptions
  abbrev pub IsExact : (ℕ → Told K) → ℕ → Type 0
  IsExact told budget = StepsAreExact (λ (t : Told K). t.0.steps) (λ (t : Told K). IsExhausted t.0.out) told budget

  abbrev pub IsBegunExact : (ℕ → ToldBegun K) → ℕ → Type 0
  IsBegunExact told budget = StepsAreExact (λ (t : ToldBegun K). t.0.steps) (λ (t : ToldBegun K). IsBegunExhausted t.0.out) told budget
