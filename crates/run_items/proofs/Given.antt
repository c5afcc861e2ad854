-- What a run of a plan gives.
use Rattle.std.proofs.Common.{◌≡◌, ℕ, Bool, List, [], ◌∷◌, inl, inr, map, refl, sym, ap, ap₂, ◌∙◌, subst, Option, None, Some, option_to_list, option_map}
use Rattle.std.specs.Prelude.{slice_get}
use Rattle.cli_words.specs.declared.options.Options.{Options}
use Rattle.fixture_world.specs.fixture_calls.declared.failure.Failure.{Failure}
use Rattle.item_stack.specs.fixture_instances.Resting.{AreSpent}
use Rattle.item_stack.specs.fixture_instances.declared.ends.CachedResult.{CachedResult}
use Rattle.item_stack.specs.States.{instance_kept}
use Rattle.py_values.specs.declared.value.Value.{Value}
use Rattle.report_parts.specs.declared.report.ItemReport.{ItemReport}
use Rattle.runtest_reports.specs.report_rules.Collected.{SelectedItem}
use Rattle.run_items.specs.Runs.{BeginsPlan, RunsPlan}
use Rattle.run_items.specs.Stands.{IsNewStand, IsPlannedItem, object_noted, plan_fixture, plan_rules, planned, stand_state}
use Rattle.run_items.specs.declared.plan.Plan.{Plan}
use Rattle.run_items.specs.declared.stand.ItemObject.{ItemObject}
use Rattle.run_items.specs.declared.stand.Stand.{Stand}
use Rattle.runtest_loop.specs.Course.{chosen_at, chosen_in}
use Rattle.runtest_loop.specs.Fed.{AreKnown}
use Rattle.runtest_loop.specs.Run.{Begins, Runs}
use Rattle.runtest_loop.specs.declared.run_end.RunEnd.{RunEnd}
use Rattle.fixture_world.specs.runtest_rules.Language.{python}
use Rattle.session_rules.specs.Fits.{HasFixtureClosure}
use Rattle.session_rules.specs.Session.{initial_state}
use Rattle.session_rules.specs.World.{Language}
use Rattle.session_types.proofs.Lists.{In-append}
use Rattle.session_types.specs.Members.{IsMember}
use Rattle.session_types.specs.declared.instance.Instance.{Instance}
use Rattle.item_stack.specs.setup_stack.declared.stack.SetupStack.{SetupStack}
use Rattle.fixture_world.specs.fixture_calls.source_meaning.Meaning.{SourceWorld}
use Rattle.test_suite.specs.declared.item.Item.{Item}

-- where nothing is set up, a session begins
pub starts : (s : Stand) → IsNewStand s → stand_state s ≡ initial_state s.world
starts s n =
    ap₂ (λ (k : SetupStack Value Failure ℕ) (r : Option Value). stand_state (record s { stack = record { stack = k; request = r } })) n.stack.stack n.stack.request
    ∙ (ap (λ (os : List ItemObject). record (initial_state {L = python} s.world) { objects = map object_noted os; values = s.values; left = s.left }) n.objects
    ∙ ap₂ (λ (values : List Value) (left : Bool). record (initial_state {L = python} s.world) { values = values; left = left }) n.values n.left)

-- where none lives, none is frozen
none_spent : (L : Language) (is : List (Instance (CachedResult L.Value L.Thrown L.Rest))) → map (instance_kept L) is ≡ [] → AreSpent is
none_spent L [] e = tt
none_spent L (i ∷ is) e = cc

pub all_spent : (s : Stand) → (stand_state s).live ≡ [] → AreSpent s.stack.stack.live.live
all_spent s e = none_spent python s.stack.stack.live.live e

module _ (plan : Plan) (items : List Item) (known : AreKnown (IsPlannedItem plan) items) where
  one_fits : (n : ℕ) (o : Option Item) → slice_get items n ≡ o → (c : SelectedItem) → IsMember c (option_to_list (option_map (planned plan) o)) → HasFixtureClosure (plan_rules plan) c.item
  one_fits n None e c m = absurd m
  one_fits n (Some x) e c (inl q) = subst (λ (s : SelectedItem). HasFixtureClosure (plan_rules plan) s.item) (sym q) (known n x e).fits
  one_fits n (Some x) e c (inr m) = absurd m

  all_fit : (numbers : List ℕ) (c : SelectedItem) → IsMember c (chosen_in (planned plan) items numbers) → HasFixtureClosure (plan_rules plan) c.item
  all_fit [] c m = absurd m
  all_fit (n ∷ numbers) c m =
      elim (In-append c (chosen_at (planned plan) items n) (chosen_in (planned plan) items numbers) m) [
        | inl l ↦ one_fits n (slice_get items n) refl c l
        | inr r ↦ all_fit numbers c r
      ]

  runs_plan : (options : Options) (numbers : List ℕ) (first : SourceWorld) (told : List ItemReport) (end : RunEnd) (stand : Stand)
      → Runs (plan_rules plan) (plan_fixture plan) options (chosen_in (planned plan) items numbers) first told end (stand_state stand)
      → RunsPlan plan options (chosen_in (planned plan) items numbers) first told end stand
  unfolding Runs RunsPlan
  runs_plan options numbers first told end stand r = λ d. (let i = r d in (i, i.lawful (λ c m. all_fit numbers c m)))

  -- the items that were lent are those of the plan
  pub lent_run : (lent : List Item) → lent ≡ items → (options : Options) (numbers : List ℕ) (first : SourceWorld) (told : List ItemReport) (end : RunEnd) (stand : Stand)
      → Runs (plan_rules plan) (plan_fixture plan) options (chosen_in (planned plan) lent numbers) first told end (stand_state stand)
      → RunsPlan plan options (chosen_in (planned plan) items numbers) first told end stand
  lent_run lent same options numbers first told end stand r =
      runs_plan options numbers first told end stand
      (subst (λ (is : List Item). Runs (plan_rules plan) (plan_fixture plan) options (chosen_in (planned plan) is numbers) first told end (stand_state stand)) same r)

  pub lent_front : (lent : List Item) → lent ≡ items → (options : Options) (numbers : List ℕ) (first : SourceWorld) (before taken : List ItemReport)
      → Begins (plan_rules plan) (plan_fixture plan) options (chosen_in (planned plan) lent numbers) first before taken
      → BeginsPlan plan options (chosen_in (planned plan) items numbers) first before taken
  lent_front lent same options numbers first before taken b =
      subst (λ (is : List Item). Begins (plan_rules plan) (plan_fixture plan) options (chosen_in (planned plan) is numbers) first before taken) same b
