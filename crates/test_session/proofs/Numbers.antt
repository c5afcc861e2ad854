-- The numbers of items in their suite.
use Rattle.std.proofs.Common.{◌≡◌, ◌<◌, ◌≤◌, ◌+◌, ◌-◌, ℕ, zero, suc, List, [], ◌∷◌, length, map, Option, None, Some, refl, sym, ap, ap₂, subst, arith}
use Rattle.std.specs.Prelude.{◌==◌, OnErr, Result, Ok, Err, slice_get, if◌then◌else◌}
use Rattle.cli_words.specs.declared.options.Options.{Options}
use Rattle.report_parts.specs.declared.report.ItemReport.{ItemReport}
use Rattle.run_items.specs.Runs.{BeginsPlan}
use Rattle.run_items.specs.report_rules.Collected.{SelectedItem}
use Rattle.run_items.specs.source_meaning.Meaning.{SourceWorld}
use Rattle.runtest_loop.specs.Run.{Begins}
use Rattle.collect_tree.specs.Runnable.{IsAtHome, IsRunnable}
use Rattle.run_items.specs.Stands.{IsPlan, IsPlannedItem}
use Rattle.run_items.specs.declared.plan.Plan.{Plan}
use Rattle.runtest_loop.specs.Fed.{AreKnown, numbers_in_range, unfed, unfed_from}
use Rattle.share_files.specs.Deal.{Every, times}
use Rattle.test_session.specs.Collections.{in_suite, number_at, number_or, suite_in}
use Rattle.test_session.specs.Runs.{limited}
use Rattle.test_session.specs.declared.items.Item.{Item}
use Rattle.test_session.specs.declared.stack.SetupStack.{SetupStack}
use Rattle.test_suite.specs.declared.item.Item as suite

below_none : (items : List Item) (n : ℕ) → n < length items → slice_get items n ≡ None → ⊥
below_none [] n l e = absurd (omega arith)
below_none (x ∷ xs) zero l e = absurd (cc)
below_none (x ∷ xs) (suc n) l e = below_none xs n (omega arith) e

-- groups of places are groups of numbers
module _ (outer many : ℕ) (items : List Item) (each : (place : ℕ) (i : Item) → slice_get items place ≡ Some i → i.at.node - outer < many) where
  number_of : (place : ℕ) (o : Option Item) → slice_get items place ≡ o → place < length items → number_or outer o < many
  number_of place None e l = absurd (below_none items place l e)
  number_of place (Some i) e l = each place i e

  every_number : (places : List ℕ) → Every (λ n. n < length items) places → Every (λ n. n < many) (map (number_at outer items) places)
  every_number [] h = tt
  every_number (p ∷ ps) (l, h) = (number_of p (slice_get items p) refl l, every_number ps h)

  pub in_range : (groups : List (List ℕ)) → numbers_in_range (length items) groups → numbers_in_range many (in_suite outer items groups)
  in_range [] h = tt
  in_range (g ∷ gs) (e, h) = (every_number g e, in_range gs h)

module _ (outer : ℕ) (items : List Item) where
  as_long : (places : List ℕ) → length (map (number_at outer items) places) ≡ length places
  as_long [] = refl
  as_long (p ∷ ps) = ap suc (as_long ps)

  pub as_many : (groups : List (List ℕ)) → length (in_suite outer items groups) ≡ length groups
  as_many [] = refl
  as_many (g ∷ gs) = ap suc (as_many gs)

  unfed_same : (k : ℕ) (groups : List (List ℕ)) (given : List ℕ) → unfed_from k (in_suite outer items groups) given ≡ unfed_from k groups given
  unfed_same k [] given = refl
  unfed_same k (g ∷ gs) given =
      ap₂ (λ (n m : ℕ). (if times k given == 0 then 1 + n else 0) + m) (as_long g) (unfed_same (k + 1) gs given)

  pub few : (groups : List (List ℕ)) (given : List ℕ) → unfed groups given ≤ 131072 → unfed (in_suite outer items groups) given ≤ 131072
  few groups given l = subst (λ (n : ℕ). n ≤ 131072) (sym (unfed_same 0 groups given)) l

-- what can run has a plan
module _ (limit : ℕ) (s : SetupStack) (r : IsRunnable (suite_in s)) where
  pub is_plan : IsPlan (limited limit s.plan)
  is_plan = record { tree = r.tree; many = r.many; scopes = r.scopes limit; hooks = r.hooks }

  is_planned : (i : suite.Item) → IsAtHome (suite_in s) i → IsPlannedItem (limited limit s.plan) i
  is_planned i h = record { node = h.node; found = h.at; fits = h.fits limit }

  pub are_known : AreKnown (IsPlannedItem (limited limit s.plan)) s.plan.run.suite.items
  are_known = λ n i e. is_planned i (r.items n i e)

-- behind a fault before anything ran
pub none_begun : (plan : Plan) (options : Options) (chosen : List SelectedItem) (w : SourceWorld) (before : List ItemReport) → BeginsPlan plan options chosen w before before
unfolding Begins
none_begun plan options chosen w before = λ d. (_, refl)

pub on_err : {A E : Type 0} (r : Result A E) (P : Type 0) → P → OnErr r P
on_err (Ok a) P p = tt
on_err (Err e) P p = p
