-- What the runs under two choices do, from those that stop at a failed assert.
use Rattle.std.proofs.Common.{◌≡◌, ℕ, List, [], ◌∷◌, append-nil, Bool, false, sym, ap, ◌∙◌, subst}
use Rattle.py_source.specs.declared.pos.Pos.{Pos}
use Rattle.run_tree.specs.Todo as tree
use Rattle.run_tree.specs.Todo.{Freeze, with_notes, run}
use Rattle.run_tree.specs.Same.{SameRun}
use Rattle.run_tree.proofs.Runs.{run-Freeze}
use Rattle.source_meaning.specs.py_world.Calls.{Meaning, body_of}
use Rattle.source_meaning.specs.py_world.Outcome.{Rest, Continuation, Request, Suspension}
use Rattle.source_meaning.specs.Requests.{source_kinds, SourceLayer, Statements, Guard, Receives}
use Rattle.source_meaning.specs.Meaning.{source_semantics}
use Rattle.explain_law.specs.Law.{SourceRun, SourceEnding, NotAtAssert, differs, EndAlike, SameAssert, same_assert}
use Rattle.explain_law.specs.Stopping.{AtAssert, at_assert, FailedEnds, real_asserts, stopping, answering, meaning_with}
use Rattle.explain_law.specs.Choices.{Choices, K, J, EndsByChoice}
use Rattle.explain_law.proofs.Following.{Apart, Follow, SpentByChoice, PausedByChoice, stops, RequestsByChoice}
use Rattle.explain_law.proofs.Runs as runs
use Rattle.explain_law.proofs.Runs.{run_until}
use Rattle.explain_law.proofs.Blocks as block
use Rattle.explain_law.proofs.Forms.{meanings_same}
use Rattle.explain_law.proofs.Real.{real_meaning}
use Rattle.explain_law.proofs.Stops.{stopping_same, answering_same, real_same, StopsAt, stops_at, BothStop, both_stop, both}

-- two trees never part
abbrev pub Nowhere : Apart
Nowhere t u = ⊥

-- a run that stands at a failed assert does not stand at a `yield`
abbrev FirstStatements : List SourceLayer → Type 0
FirstStatements [] = ⊥
FirstStatements (Statements x ss ∷ ls) = Unit {0}
FirstStatements (Guard x line hs other last ∷ ls) = ⊥
FirstStatements (Receives u ∷ ls) = ⊥

statements_first : {f : Suspension K} → AtAssert f → FirstStatements f.rest
statements_first (at_assert v x at e m p s) = tt

abbrev Standing : SourceEnding → Type 0
Standing (tree.Ended o left) = ⊥
Standing (tree.Spent x) = ⊥
Standing (tree.Frozen f left) = AtAssert f

abbrev left_of : SourceEnding → ℕ
left_of (tree.Ended o left) = left
left_of (tree.Spent x) = 0
left_of (tree.Frozen f left) = left

frozen_run : (body : Request K → Continuation K → Rest K) (notes : List Pos) (left : ℕ) (f : Suspension K) → with_notes notes (run body left (Freeze f)) ≡ (notes, tree.Frozen f left)
frozen_run body notes left f = ap (with_notes notes) (run-Freeze body left f) ∙ ap (λ ns. (ns, tree.Frozen f left)) (append-nil notes)

standing_there : {a : SourceRun} (notes : List Pos) (left : ℕ) {f : Suspension K} → a ≡ (notes, tree.Frozen f left) → AtAssert f → Standing a.1
standing_there notes left e h = subst (λ (r : SourceRun). Standing r.1) (sym e) h

module _ (R : Choices) where
  abbrev pub Runs : SourceRun → SourceRun → Type 0
  Runs = SameRun (SpentByChoice R) (RequestsByChoice R) (EndsByChoice R false) (PausedByChoice R)

  first_yields : {f : Suspension K} {g : Suspension J} → PausedByChoice R f g → AtAssert f → ⊥
  first_yields (stops v u p rest h) a = statements_first a

  second_yields : {f : Suspension K} {g : Suspension J} → PausedByChoice R f g → AtAssert g → ⊥
  second_yields (stops v u p rest h) a = statements_first a

  -- runs that are the same stand at no failed assert
  first_passes : (a b : SourceRun) → Runs a b → Standing a.1 → ⊥
  first_passes (ns, tree.Frozen f m) (os, tree.Frozen g n) same h = first_yields same.1.0 h
  first_passes (ns, tree.Frozen f m) (os, tree.Ended q n) same h = same.1
  first_passes (ns, tree.Frozen f m) (os, tree.Spent y) same h = same.1
  first_passes (ns, tree.Ended o m) b same h = h
  first_passes (ns, tree.Spent x) b same h = h

  second_passes : (a b : SourceRun) → Runs a b → Standing b.1 → ⊥
  second_passes (ns, tree.Frozen f m) (os, tree.Frozen g n) same h = second_yields same.1.0 h
  second_passes (ns, tree.Ended o m) (os, tree.Frozen g n) same h = same.1
  second_passes (ns, tree.Spent x) (os, tree.Frozen g n) same h = same.1
  second_passes a (os, tree.Ended q n) same h = h
  second_passes a (os, tree.Spent y) same h = h

  pub no_assert : (a b : SourceRun) → Runs a b → NotAtAssert b.1
  no_assert a (os, tree.Frozen g n) same = second_passes a (os, tree.Frozen g n) same
  no_assert a (os, tree.Ended q n) same = tt
  no_assert a (os, tree.Spent y) same = tt

  never : (body other : Request K → Continuation K → Rest K) {r s : SourceRun} → runs.SameUntil (SpentByChoice R) (RequestsByChoice R) (EndsByChoice R false) (PausedByChoice R) Nowhere body other r s → Runs r s
  never body other (runs.same h) = h
  never body other (runs.apart notes left t u h e f) = elim h [ ]

  -- BOTH RUNS END THE SAME where failed asserts end alike
  pub ending_runs : (A B : FailedEnds) → EndAlike R A B → (budget : ℕ) (t : Rest K) (u : Rest J) → Follow R Nowhere t u → Runs (run (body_of (answering (differs R) A)) budget t) (run (body_of (answering (differs R) B)) budget u)
  ending_runs A B alike budget t u h =
      never (body_of (answering (differs R) A)) (body_of (answering (differs R) B)) (run_until _ _ _ _ _ (body_of (answering (differs R) A)) (body_of (answering (differs R) B)) (block.body_same R Nowhere (answering (differs R) A) (answering (differs R) B) (meanings_same R Nowhere _ _ (answering_same R Nowhere A B alike))) budget h)

  abbrev S : Meaning source_kinds
  S = stopping (differs R)

  -- both stopping runs are the same, or both stand at the same failed assert
  pub data StopAlike (a b : SourceRun) : Type 0 where
    go_on : Runs a b → StopAlike a b
    stand : (notes : List Pos) (left : ℕ) {f : Suspension K} {g : Suspension J} → SameAssert R f g → a ≡ (notes, tree.Frozen f left) → b ≡ (notes, tree.Frozen g left) → StopAlike a b

  stand_there : (t : Rest K) (u : Rest J) → BothStop R t u → (notes : List Pos) (left : ℕ) {a b : SourceRun} → a ≡ with_notes notes (run (body_of S) left t) → b ≡ with_notes notes (run (body_of S) left u) → StopAlike a b
  stand_there _ _ (both_stop {f = f} {g = g} h) notes left d e = stand notes left h (d ∙ frozen_run (body_of S) notes left f) (e ∙ frozen_run (body_of S) notes left g)

  alike_or : {a b : SourceRun} → runs.SameUntil (SpentByChoice R) (RequestsByChoice R) (EndsByChoice R false) (PausedByChoice R) (BothStop R) (body_of S) (body_of S) a b → StopAlike a b
  alike_or (runs.same h) = go_on h
  alike_or (runs.apart notes left t u h d e) = stand_there t u h notes left d e

  -- BOTH STOPPING RUNS
  pub stopping_runs : (budget : ℕ) (t : Rest K) (u : Rest J) → Follow R (BothStop R) t u → StopAlike (run (body_of S) budget t) (run (body_of S) budget u)
  stopping_runs budget t u h =
      alike_or (run_until _ _ _ _ _ (body_of S) (body_of S) (block.body_same R (BothStop R) S S (meanings_same R (BothStop R) _ _ (stopping_same R))) budget h)

-- a stopping run is the real one, or it stands at a failed assert, to which the real one has come likewise
pub data RealOr (m : Meaning source_kinds) (choice : List ℕ → Bool) (x a : SourceRun) : Type 0 where
  real : Runs (both choice) x a → RealOr m choice x a
  stands : (notes : List Pos) (left : ℕ) {f : Suspension K} → AtAssert f → a ≡ (notes, tree.Frozen f left) → (t : Rest K) → x ≡ with_notes notes (run (body_of m) left t) → RealOr m choice x a

module _ (differs choice : List ℕ → Bool) where
  abbrev C : Choices
  C = both choice

  abbrev M : Meaning source_kinds
  M = meaning_with real_asserts

  stands_there : (t u : Rest K) → StopsAt t u → (notes : List Pos) (left : ℕ) {x a : SourceRun} → x ≡ with_notes notes (run (body_of M) left t) → a ≡ with_notes notes (run (body_of (stopping differs)) left u) → RealOr M choice x a
  stands_there _ _ (stops_at t {f = f} h) notes left d e = stands notes left h (e ∙ frozen_run (body_of (stopping differs)) notes left f) t d

  real_or : {x a : SourceRun} → runs.SameUntil (SpentByChoice C) (RequestsByChoice C) (EndsByChoice C false) (PausedByChoice C) StopsAt (body_of M) (body_of (stopping differs)) x a → RealOr M choice x a
  real_or (runs.same h) = real h
  real_or (runs.apart notes left t u h d e) = stands_there t u h notes left d e

  -- THE REAL RUN and the stopping one
  pub real_runs : (budget : ℕ) (t u : Rest K) → Follow C StopsAt t u → RealOr source_semantics choice (run (body_of source_semantics) budget t) (run (body_of (stopping differs)) budget u)
  real_runs budget t u h =
      subst (λ (m : Meaning source_kinds). RealOr m choice (run (body_of m) budget t) (run (body_of (stopping differs)) budget u)) real_meaning
      (real_or (run_until _ _ _ _ _ (body_of M) (body_of (stopping differs)) (block.body_same C StopsAt M (stopping differs) (meanings_same C StopsAt _ _ (real_same differs choice))) budget h))

module _ (R : Choices) where
  first_stands : {f : Suspension K} {g : Suspension J} → SameAssert R f g → AtAssert f
  first_stands (same_assert p are v at e m {s = s} h raised) = at_assert v _ at e m p s

  second_stands : {f : Suspension K} {g : Suspension J} → SameAssert R f g → AtAssert g
  second_stands (same_assert p are v at e m {r = r} h raised) = at_assert v _ at e m p r

  -- all that two runs and their stopping runs can do
  pub data Together (x a y b : SourceRun) : Type 0 where
    as_is : Runs (both R.first) x a → Runs R a b → Runs (both R.second) y b → Together x a y b
    at_an_assert : (notes : List Pos) (left : ℕ) {f : Suspension K} {g : Suspension J} → SameAssert R f g → a ≡ (notes, tree.Frozen f left) → b ≡ (notes, tree.Frozen g left)
        → (t : Rest K) → x ≡ with_notes notes (run (body_of source_semantics) left t) → (u : Rest J) → y ≡ with_notes notes (run (body_of source_semantics) left u) → Together x a y b

  -- the same place, in other words
  moved : {a x : SourceRun} (notes ns : List Pos) (left n : ℕ) {f g : Suspension K} → a ≡ (ns, tree.Frozen g n) → a ≡ (notes, tree.Frozen f left) → (t : Rest K) → x ≡ with_notes ns (run (body_of source_semantics) n t) → x ≡ with_notes notes (run (body_of source_semantics) left t)
  moved notes ns left n d e t h =
      let same : ns ≡ notes = ap (λ (r : SourceRun). r.0) (sym d ∙ e) in
      let spent : n ≡ left = ap (λ (r : SourceRun). left_of r.1) (sym d ∙ e) in
      h ∙ (λ i. with_notes (same i) (run (body_of source_semantics) (spent i) t))

  pub together : (x a y b : SourceRun) → RealOr source_semantics R.first x a → RealOr source_semantics R.second y b → StopAlike R a b → Together x a y b
  together x a y b (real h) (real g) (go_on s) = as_is h s g
  together x a y b (stands ns n h d t i) g (go_on s) = absurd (first_passes R a b s (standing_there ns n d h))
  together x a y b (real h) (stands ns n g d u i) (go_on s) = absurd (second_passes R a b s (standing_there ns n d g))
  together x a y b (stands ns n h d t i) (stands ms m g c u j) (stand notes left same e f) = at_an_assert notes left same e f t (moved notes ns left n d e t i) u (moved notes ms left m c f u j)
  together x a y b (real h) g (stand notes left same e f) = absurd (second_passes (both R.first) x a h (standing_there notes left e (first_stands same)))
  together x a y b (stands ns n h d t i) (real g) (stand notes left same e f) = absurd (second_passes (both R.second) y b g (standing_there notes left f (second_stands same)))
