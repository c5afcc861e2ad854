-- The law of two choices of the modules whose asserts are explained.
use Rattle.std.specs.Prelude.{ℕ, ◌≡◌, List, Bool, true, false, Option, Some, None, not}
use Rattle.py_source.specs.declared.pos.Pos.{Pos}
use Rattle.py_tree.specs.Trees.{Tree, Maybe}
use Rattle.py_tree.specs.Statements.{Assert}
use Rattle.py_values.specs.declared.value.Value.{Value}
use Rattle.run_tree.specs.Todo.{run, NotedRun, with_notes, Ending, Ended, Spent, Frozen}
use Rattle.source_meaning.specs.py_world.declared.load.Load.{Load}
use Rattle.source_meaning.specs.py_world.World as world
use Rattle.source_meaning.specs.py_world.World.{CallState}
use Rattle.source_meaning.specs.py_world.Site.{Site}
use Rattle.source_meaning.specs.py_world.Calls.{Meaning, body_of}
use Rattle.source_meaning.specs.py_world.Outcome.{Outcome, Rest, Request, Exhaustion, Suspension}
use Rattle.source_meaning.specs.py_world.Runs.{Told, told_by, start, begun_by_runner, loading, load_at, source_at, coded}
use Rattle.source_meaning.specs.py_world.Resuming.{Sent, ToldBegun, begun_by, opened_by_runner, resumed, frozen_at, abandon_of}
use Rattle.source_meaning.specs.Requests.{source_kinds, Script, SourceLayer}
use Rattle.source_meaning.specs.Meaning.{SourceWorld, source_semantics}
use Rattle.explain_law.specs.Choices.{Choices, K, J, WorldsByChoice, StatesByChoice, EndsByChoice, FailedApart}
use Rattle.explain_law.specs.Stopping.{FailedEnds, stopping, answering, AtAssert, failed_assert, failed_end, message_given}

abbrev pub SourceEnding : Type 0
SourceEnding = Ending Pos (Exhaustion K) (Request K) (Outcome K) (Suspension K)

abbrev pub SourceRun : Type 0
SourceRun = NotedRun Pos (Exhaustion K) (Request K) (Outcome K) (Suspension K)

-- whether two choices differ for a module
abbrev pub unequal : Bool → Bool → Bool
unequal false y = y
unequal true y = not y

-- what runs of the runner's call, of the load of a module, of a begin and of a resumption do; a load of what is loaded already, and
-- a resumption of what is not out, run nothing
abbrev pub call_tree : Value → List Value → SourceWorld → Option (Rest K)
call_tree f args w = Some (begun_by_runner source_semantics f args (start w))

abbrev pub code_tree : List ℕ → SourceWorld → Option Script → Option (Rest K)
code_tree path w None = None
code_tree path w (Some code) = Some (loading source_semantics path code w)

abbrev pub load_tree_by : List ℕ → SourceWorld → Option Load → Option (Rest K)
load_tree_by path w (Some load) = None
load_tree_by path w None = code_tree path w (coded (source_at path w.sources))

abbrev pub load_tree : List ℕ → SourceWorld → Option (Rest K)
load_tree path w = load_tree_by path w (load_at path w.modules)

abbrev pub begin_tree : Value → List Value → SourceWorld → Option (Rest K)
begin_tree f args w = Some (opened_by_runner source_semantics f args (start w))

abbrev pub resume_tree_by : ℕ → Sent → SourceWorld → Option (world.Frozen (List SourceLayer)) → Option (Rest K)
resume_tree_by n sent w None = None
resume_tree_by n sent w (Some f) = Some (resumed source_semantics f sent (abandon_of n w))

abbrev pub resume_tree : ℕ → Sent → SourceWorld → Option (Rest K)
resume_tree n sent w = resume_tree_by n sent w (frozen_at n w)

-- a run that comes to no failed assert
abbrev pub NotAtAssert : SourceEnding → Type 0
NotAtAssert (Ended o left) = Unit {0}
NotAtAssert (Spent x) = Unit {0}
NotAtAssert (Frozen f left) = AtAssert f → ⊥

-- what a run of a tree tells in a meaning, where tell says it of how a run ends
abbrev pub run_tells : {A : Type 0} → (ℕ → SourceEnding → A × SourceWorld) → Meaning source_kinds → ℕ → Rest K → A × SourceWorld
run_tells tell m budget t = tell budget (run (body_of m) budget t).1

module _ (R : Choices) where
  abbrev pub differs : List ℕ → Bool
  differs path = unequal (R.first path) (R.second path)

  -- two ways in which failed asserts of modules for which the choices differ end alike
  abbrev pub EndAlike : FailedEnds → FailedEnds → Type 0
  EndAlike ends others = (e : Tree) (message : Option Value) (p : Site) → differs p.scene.path ≡ true → (s : CallState K) (r : CallState J) → StatesByChoice R false s r → EndsByChoice R false (ends (R.first p.scene.path) e message p s) (others (R.second p.scene.path) e message p r)

  -- the same failed assert of a module for which the choices differ, with the same value of its message, in states that are alike
  pub data SameAssert : Suspension K → Suspension J → Type 0 where
    same_assert : (p : Site) → differs p.scene.path ≡ true → (v : Value) (at : Pos) (e : Tree) (m : Maybe) {s : CallState K} {r : CallState J} → StatesByChoice R false s r
        → FailedApart R (failed_end (R.first p.scene.path) e (message_given m v) p s) (failed_end (R.second p.scene.path) e (message_given m v) p r)
        → SameAssert (failed_assert v (R.first p.scene.path) (Assert at e m) p s) (failed_assert v (R.second p.scene.path) (Assert at e m) p r)

  -- A RUN COMES TO A FAILED ASSERT with these notes and as much of the budget left: the stopping run stands there, and the real one
  -- has noted and spent the same before it goes on
  pub record ComesTo (budget : ℕ) (t : Rest K) (notes : List Pos) (left : ℕ) (f : Suspension K) : Type 0 where
    pub stands : run (body_of (stopping differs)) budget t ≡ (notes, Frozen f left)
    pub rest : Rest K
    pub goes_on : run (body_of source_semantics) budget t ≡ with_notes notes (run (body_of source_semantics) left rest)

  -- TWO RUNS COME TO THE SAME ONE, with the same notes and as much of the budget left
  pub record ComeToAssert (budget : ℕ) (t : Rest K) (u : Rest J) : Type 0 where
    pub notes : List Pos
    pub left : ℕ
    pub here : Suspension K
    pub there : Suspension J
    pub first : ComesTo budget t notes left here
    pub second : ComesTo budget u notes left there
    pub same : SameAssert here there

  -- the same is told, and the worlds behind it are alike
  abbrev pub AlikeTold : {A : Type 0} → A × SourceWorld → A × SourceWorld → Type 0
  AlikeTold a b = (a.0 ≡ b.0) × WorldsByChoice R a.1 b.1

  -- by what tell says of how a run ends
  module _ {A : Type 0} (tell : ℕ → SourceEnding → A × SourceWorld) where
    -- two runs note the same and tell the same
    abbrev pub RunsAlike : Meaning source_kinds → Meaning source_kinds → ℕ → Rest K → Rest J → Type 0
    RunsAlike m n budget t u = ((run (body_of m) budget t).0 ≡ (run (body_of n) budget u).0) × AlikeTold (run_tells tell m budget t) (run_tells tell n budget u)

    -- what is told is what the real run tells; and the stopping run tells the same, and comes to no failed assert
    pub record AsFar (budget : ℕ) (t : Rest K) (a : A × SourceWorld) : Type 0 where
      pub really : a ≡ run_tells tell source_semantics budget t
      pub stops_nowhere : a ≡ run_tells tell (stopping differs) budget t
      pub passes : NotAtAssert (run (body_of (stopping differs)) budget t).1

    -- WHAT IS TOLD UNDER EACH CHOICE of what is left to do: where nothing runs, the same; the same of runs that come to no failed assert
    -- of a module for which the choices differ; or what two runs tell that come to the same such assert, and that would note and tell the
    -- same to the end in whatever way failed asserts of such modules ended, if only they ended alike
    pub data UntilAssert (budget : ℕ) : Option (Rest K) → Option (Rest J) → A × SourceWorld → A × SourceWorld → Type 0 where
      nothing_runs : {a b : A × SourceWorld} → AlikeTold a b → UntilAssert budget None None a b
      told : {t : Rest K} {u : Rest J} {a b : A × SourceWorld} → AsFar budget t a → AsFar budget u b → RunsAlike source_semantics source_semantics budget t u → UntilAssert budget (Some t) (Some u) a b
      parted : {t : Rest K} {u : Rest J} {a b : A × SourceWorld} → a ≡ run_tells tell source_semantics budget t → b ≡ run_tells tell source_semantics budget u → ComeToAssert budget t u
          → ((ends others : FailedEnds) → EndAlike ends others → RunsAlike (answering differs ends) (answering differs others) budget t u)
          → UntilAssert budget (Some t) (Some u) a b

  -- of a call or a load: value or exception, trace and steps
  abbrev pub ToldByChoice : Told K → Told J → Type 0
  ToldByChoice a b = AlikeTold a b

  abbrev pub ToldUntil : ℕ → Option (Rest K) → Option (Rest J) → Told K → Told J → Type 0
  ToldUntil budget t u a b = UntilAssert told_by budget t u a b

  -- of a begin or a resumption of a body that yields
  abbrev pub BegunByChoice : ToldBegun K → ToldBegun J → Type 0
  BegunByChoice a b = AlikeTold a b

  abbrev pub BegunUntil : ℕ → Option (Rest K) → Option (Rest J) → ToldBegun K → ToldBegun J → Type 0
  BegunUntil budget t u a b = UntilAssert begun_by budget t u a b
