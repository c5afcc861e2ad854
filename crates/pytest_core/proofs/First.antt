-- A run over one group runs its items.
use Rattle.std.proofs.Common.{◌≡◌, ◌≤◌, ◌<◌, ◌++◌, ℕ, Bool, true, false, List, [], ◌∷◌, None, map, length, refl, sym, ap, subst, ◌∙◌, arith}
use Rattle.std.specs.Prelude.{◌&&◌, nat_le, nat_lt}
use Rattle.std.proofs.lemmas.Grind.{common_steps}
use Rattle.std.proofs.lemmas.List.{append-nil}
use Rattle.cli_words.specs.declared.options.Options.{Options}
use Rattle.report_parts.specs.Limits.{most_items}
use Rattle.report_parts.specs.declared.report.ItemReport.{ItemReport}
use Rattle.worker_sessions.specs.run_items.report_rules.Collected.{SelectedItem}
use Rattle.worker_sessions.specs.run_items.report_rules.Fits.{chosen_item}
use Rattle.worker_sessions.specs.run_items.report_rules.Items.{item_report}
use Rattle.worker_sessions.specs.run_items.report_rules.Rows.{session_rows, task}
use Rattle.worker_sessions.specs.run_items.Runs.{BeginsPlan, RunsPlan}
use Rattle.worker_sessions.specs.run_items.Stands.{plan_fixture, plan_rules, planned}
use Rattle.worker_sessions.specs.run_items.declared.plan.Plan.{Plan}
use Rattle.worker_sessions.specs.run_items.declared.stand.Stand.{Stand}
use Rattle.runtest_loop.specs.Course.{chosen_in}
use Rattle.runtest_loop.specs.Fed.{numbers_at, numbers_fed, unfed}
use Rattle.runtest_loop.specs.Run.{Begins, is_stopped}
use Rattle.runtest_loop.specs.declared.run_end.RunEnd.{RunEnd}
use Rattle.runtest_loop.specs.declared.run_end.RunEnd.TheVariants.{Done, Stopped}
use Rattle.session_rules.specs.Fits.{Distinct}
use Rattle.worker_sessions.specs.run_items.source_meaning.Meaning.{SourceWorld}
use Rattle.pytest_core.specs.OneGroup.{given_by, is_over}
use Rattle.pytest_core.specs.Run.{IsOneGroup, IsRunOf, RunsFirst, chosen_first}
use Rattle.pytest_core.specs.declared.one_group.OneGroup.{OneGroup}
use Rattle.pytest_core.specs.declared.one_group.OneGroup.TheVariants.{Waiting, Given, Ended}

-- no session stops before its first failure
both_true : (a b : Bool) → (a && b) ≡ true → (a ≡ true) × (b ≡ true)
both_true false b e = absurd (cc)
both_true true b e = (refl, e)

some_allowed : (n : ℕ) → nat_lt 0 n ≡ true → 0 < n
some_allowed n e = grind (arith, common_steps)

none_allowed : (n : ℕ) → nat_le n 0 ≡ true → n ≤ 0
none_allowed n e = grind (arith, common_steps)

never : (maxfail : ℕ) → (nat_lt 0 maxfail && nat_le maxfail 0) ≡ true → ⊥
never maxfail e =
    let p = both_true (nat_lt 0 maxfail) (nat_le maxfail 0) e in
    absurd (omega (arith, some_allowed maxfail p.0, none_allowed maxfail p.1))

not_ended : false ≡ true → ⊥
not_ended e = absurd (cc)

-- the one group within the limits of a feed
pub one_fed : (groups : List (List ℕ)) → IsOneGroup groups → 1 ≤ length groups
one_fed groups one = subst (λ gs. 1 ≤ length gs) (sym one) (omega arith)

pub few_unfed : (groups : List (List ℕ)) → IsOneGroup groups → length (numbers_at groups 0) ≤ most_items → unfed groups [] ≤ 131072
few_unfed groups one few = subst (λ gs. unfed gs [] ≤ 131072) (sym one) (omega (arith, few))

module _ (plan : Plan) (options : Options) (groups : List (List ℕ)) (w : SourceWorld) (end : RunEnd) (reports : List ItemReport) (stand : Stand) (all : List ItemReport) (early : Bool) where
  abbrev By : List SelectedItem → Type 0
  By chosen = RunsPlan plan options chosen w reports end stand

  runs : (chosen : List SelectedItem) → all ≡ reports → early ≡ is_stopped end → By chosen → chosen ≡ chosen_first plan groups → RunsFirst plan options groups w all early
  unfolding RunsFirst RunsPlan
  runs chosen told stopped h same =
      λ distinct.
      let r = (h (subst (λ cs. Distinct (map chosen_item cs)) (sym same) distinct)).0 in
      subst (λ cs. IsRunOf plan options cs w all early) same (record { reports = r.reports ∙ sym told; stopped = r.stopped ∙ sym stopped })

  none_ran : (e : RunEnd) → e ≡ end → (is_stopped end ≡ false → false ≡ true) → By [] → ⊥
  unfolding RunsPlan
  none_ran Done same done h = not_ended (done (ap is_stopped (sym same)))
  none_ran Stopped same done h = never options.maxfail ((h tt).0.stopped ∙ ap is_stopped (sym same))

  pub first_ran : (feed : OneGroup) → (is_stopped end ≡ false → is_over feed ≡ true) → all ≡ reports → early ≡ is_stopped end
      → By (chosen_in (planned plan) plan.run.suite.items (numbers_fed groups (given_by feed))) → RunsFirst plan options groups w all early
  first_ran Waiting done told stopped h = absurd (none_ran end refl done h)
  first_ran Given done told stopped h = runs _ told stopped h (ap (chosen_in (planned plan) plan.run.suite.items) (append-nil (numbers_at groups 0)))
  first_ran Ended done told stopped h = runs _ told stopped h (ap (chosen_in (planned plan) plan.run.suite.items) (append-nil (numbers_at groups 0)))

-- where it breaks off
module _ (plan : Plan) (options : Options) (groups : List (List ℕ)) (w : SourceWorld) (taken : List ItemReport) where
  none_first : (xs ys : List ItemReport) → [] ≡ xs ++ ys → xs ≡ []
  none_first [] ys e = refl
  none_first (x ∷ xs) ys e = absurd (cc)

  all_begun : (numbers : List ℕ) (before : List ItemReport) → before ≡ [] → numbers ≡ numbers_at groups 0 → BeginsPlan plan options (chosen_in (planned plan) plan.run.suite.items numbers) w before taken
      → BeginsPlan plan options (chosen_first plan groups) w [] taken
  all_begun numbers before none e h =
      subst (λ (ns : List ℕ). BeginsPlan plan options (chosen_in (planned plan) plan.run.suite.items ns) w [] taken) e
      (subst (λ (l : List ItemReport). BeginsPlan plan options (chosen_in (planned plan) plan.run.suite.items numbers) w l taken) none h)

  pub first_begun : (feed : OneGroup) (before : List ItemReport) → before ≡ [] → BeginsPlan plan options (chosen_in (planned plan) plan.run.suite.items (numbers_fed groups (given_by feed))) w before taken
      → BeginsPlan plan options (chosen_first plan groups) w [] taken
  unfolding Begins
  first_begun Waiting before none h =
      λ d.
      let b = h tt in
      let empty : taken ≡ [] = none_first taken b.0 (sym none ∙ (sym (append-nil before) ∙ b.1)) in
      let all = map (item_report options (plan_rules plan).scope (plan_fixture plan)) (session_rows (plan_rules plan) w options.maxfail (map (task None) (chosen_first plan groups))) in
      (all, ap (λ (l : List ItemReport). l ++ all) (sym empty))
  first_begun Given before none h = all_begun (numbers_at groups 0 ++ []) before none (append-nil (numbers_at groups 0)) h
  first_begun Ended before none h = all_begun (numbers_at groups 0 ++ []) before none (append-nil (numbers_at groups 0)) h
