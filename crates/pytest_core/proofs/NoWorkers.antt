-- Where workers do not run, one thread runs all items, and no group is shared.
use Rattle.std.proofs.Common.{◌≡◌, ℕ, suc, List, [], ◌∷◌, Bool, true, false, cond, arith, not, ◌&&◌, ◌||◌, MatchBool, eqb, length, map, min, refl, sym, subst, ap, ap₂, ◌∙◌}
use Rattle.std.proofs.lemmas.Bool.{ne_eqb}
use Rattle.cli_words.specs.Options.{asks_for_workers}
use Rattle.cli_words.specs.declared.options.Options.{Options}
use Rattle.worker_sessions.specs.collect_tree.Collection.{selected_by}
use Rattle.worker_sessions.specs.collect_tree.collect_items.declared.found.FoundSuite.{FoundSuite}
use Rattle.worker_sessions.specs.collect_tree.file_source.Sources.{HoldsSource}
use Rattle.report_parts.specs.Outcomes.{not_empty}
use Rattle.report_parts.specs.declared.report.CollectReport.{CollectReport}
use Rattle.worker_sessions.proofs.report_rules_lemmas.Placed.{no_place}
use Rattle.worker_sessions.specs.run_items.report_rules.Collected.{Collected}
use Rattle.worker_sessions.specs.run_items.report_rules.Groups.{groups}
use Rattle.worker_sessions.specs.run_items.report_rules.Report as rules
use Rattle.worker_sessions.specs.run_items.report_rules.Rows.{ran, report_row, session_rows}
use Rattle.worker_sessions.specs.run_items.runtest_rules.Language.{python}
use Rattle.worker_sessions.specs.run_items.runtest_rules.Rules.{rules as tests}
use Rattle.worker_sessions.specs.run_items.source_meaning.Meaning.{SourceWorld}
use Rattle.worker_sessions.specs.run_items.test_suite.declared.suite.Suite.{Suite}
use Rattle.session_rules.specs.Session.{has_stopped}
use Rattle.share_files.specs.Deal.{Share}
use Rattle.pytest_core.specs.Profile.{profile}
use Rattle.pytest_core.specs.Run.{collected_of, wants_workers}

pub picked : {X : Type 0} (b : Bool) (x y : X) → b ≡ true → cond b x y ≡ x
picked b x y e = ap (λ (c : Bool). cond c x y) e

pub passed_over : {X : Type 0} (b : Bool) (x y : X) → b ≡ false → cond b x y ≡ y
passed_over b x y e = ap (λ (c : Bool). cond c x y) e

abbrev NoGroups : List (List ℕ)
NoGroups = []

-- where workers don't run, one thread does
-- a list with an element is not empty
pub some_length : (n : ℕ) → eqb (suc n) 0 ≡ false
some_length n = ne_eqb (suc n) 0 (λ q. omega (arith, q))

no_items : (found : FoundSuite) (places ns : List ℕ) → not_empty ns ≡ false → length (groups (map (selected_by found places) ns)) ≡ 0
no_items found places [] e = refl
no_items found places (n ∷ ns) e = absurd (let z : true ≡ false = sym (ap not (some_length (length ns))) ∙ e in cc)

fewest : (b : Bool) (workers most : ℕ) → most ≡ 0 → cond b (min workers most) 0 ≡ 0
fewest true workers most e = omega (arith, e)
fewest false workers most e = refl

by_parts : (asks listing failed some : Bool) (workers most : ℕ) → (asks && (not failed && some)) ≡ false → (some ≡ false → most ≡ 0) → cond (asks && not (listing || failed)) (min workers most) 0 ≡ 0
by_parts false listing failed some workers most e none = refl
by_parts true listing true some workers most e none = idle listing
  where
    idle : (listing : Bool) → cond (not (listing || true)) (min workers most) 0 ≡ 0
    idle true = refl
    idle false = refl
by_parts true listing false some workers most e none = fewest (not (listing || false)) workers most (none e)

pub single : (options : Options) (found : FoundSuite) (places ns : List ℕ) (deselected : ℕ) (errors : List CollectReport) (w : SourceWorld) → wants_workers options ns errors ≡ false → rules.workers_of options (collected_of found places ns deselected errors w) ≡ 0
single options found places ns deselected errors w e =
    by_parts (asks_for_workers options) options.collect_only (not_empty errors) (not_empty ns) options.workers (length (groups (map (selected_by found places) ns))) e (no_items found places ns)

-- errors that aren't there
pub wants_as : (options : Options) (ns : List ℕ) (errors others : List CollectReport) → not_empty errors ≡ false → not_empty others ≡ false → wants_workers options ns errors ≡ false → wants_workers options ns others ≡ false
wants_as options ns errors others a b e = ap (λ (x : Bool). asks_for_workers options && (not x && not_empty ns)) (b ∙ sym a) ∙ e

module _ (options : Options) (c : Collected python Suite) where
  idle_run : rules.runs options c ≡ false → rules.reached_maxfail (tests options c.table) options c ≡ false
  idle_run e =
      ap (λ (b : Bool). (b && eqb (rules.workers_of options c) 0) && has_stopped options.maxfail (ran (tests options c.table) c.world options.maxfail (rules.single_thread c))) e

  -- WHAT IS REPORTED of items that do not run
  pub rows_listed : options.collect_only ≡ true → rules.rows_told HoldsSource profile options c [] ≡ map (λ t. report_row t [] []) (rules.single_thread c)
  rows_listed e = picked options.collect_only _ _ e

  pub rows_failed : options.collect_only ≡ false → not_empty c.errors ≡ true → rules.rows_told HoldsSource profile options c [] ≡ []
  rows_failed e f = passed_over options.collect_only _ _ e ∙ picked (not_empty c.errors) _ _ f

  pub stopped_listed : options.collect_only ≡ true → rules.reached_maxfail (tests options c.table) options c ≡ false
  stopped_listed e = idle_run (ap (λ (b : Bool). not (b || not_empty c.errors)) e)

  pub stopped_failed : options.collect_only ≡ false → not_empty c.errors ≡ true → rules.reached_maxfail (tests options c.table) options c ≡ false
  stopped_failed e f = idle_run (ap₂ (λ (a b : Bool). not (a || b)) e f)

module _ (options : Options) (c : Collected python Suite) (none : rules.workers_of options c ≡ 0) where
  pub none_taken : rules.IsTaken options c []
  none_taken = let P : ℕ → Type 0 = λ n. MatchBool (eqb n 0) (NoGroups ≡ NoGroups) (Share (length (groups c.selected)) n NoGroups) in subst P (sym none) refl

  pub none_placed : rules.places_told HoldsSource profile options c [] ≡ []
  none_placed = no_place HoldsSource profile options c [] none

  -- WHAT IS REPORTED of items that one thread runs
  pub rows_ran : options.collect_only ≡ false → not_empty c.errors ≡ false → rules.rows_told HoldsSource profile options c [] ≡ session_rows (tests options c.table) c.world options.maxfail (rules.single_thread c)
  rows_ran e f =
      passed_over options.collect_only _ _ e ∙ (passed_over (not_empty c.errors) _ _ f ∙ picked (eqb (rules.workers_of options c) 0) _ _ (ap (λ n. eqb n 0) none))

  pub stopped_ran : options.collect_only ≡ false → not_empty c.errors ≡ false → rules.reached_maxfail (tests options c.table) options c ≡ has_stopped options.maxfail (ran (tests options c.table) c.world options.maxfail (rules.single_thread c))
  stopped_ran e f =
      ap₂ (λ (a b : Bool). (a && b) && has_stopped options.maxfail (ran (tests options c.table) c.world options.maxfail (rules.single_thread c)))
      (ap₂ (λ (a b : Bool). not (a || b)) e f) (ap (λ n. eqb n 0) none)
