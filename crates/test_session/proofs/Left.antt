-- Behind a run the frames that are out are those that were before it.
use Rattle.std.proofs.Common.{◌≡◌, ℕ, List, [], ◌∷◌, inl, inr, map, refl, sym, ap, subst, Option, None, Some, option_to_list, option_map}
use Rattle.std.specs.Prelude.{slice_get}
use Rattle.cli_words.specs.declared.options.Options.{Options}
use Rattle.py_world.specs.Resuming.{is_out}
use Rattle.report_parts.specs.declared.report.ItemReport.{ItemReport}
use Rattle.run_items.specs.Runs.{RunsPlan}
use Rattle.run_items.specs.Stands.{IsPlannedItem, plan_rules, planned}
use Rattle.run_items.specs.declared.plan.Plan.{Plan}
use Rattle.run_items.specs.declared.stand.Stand.{Stand}
use Rattle.run_items.specs.report_rules.Collected.{SelectedItem}
use Rattle.run_items.specs.report_rules.Fits.{chosen_item}
use Rattle.run_items.specs.report_rules.Rows.{task, task_item}
use Rattle.run_items.specs.source_meaning.Meaning.{SourceWorld}
use Rattle.runtest_loop.specs.Course.{chosen_at, chosen_in}
use Rattle.runtest_loop.specs.Fed.{AreKnown}
use Rattle.runtest_loop.specs.declared.run_end.RunEnd.{RunEnd}
use Rattle.session_rules.proofs.Frames.{same_behind}
use Rattle.session_rules.specs.Fits.{Distinct, HasFixtureClosure}
use Rattle.session_rules.specs.Frames.{KeepsFrames, SameFrames}
use Rattle.session_rules.specs.Session.{initial_state, session}
use Rattle.session_rules.specs.World as rules
use Rattle.session_types.proofs.Lists.{In-append}
use Rattle.session_types.specs.Members.{IsMember}
use Rattle.test_suite.specs.declared.item.Item.{Item}

-- the items of tasks
items_of : (cs : List SelectedItem) → map task_item (map (task None) cs) ≡ map chosen_item cs
items_of [] = refl
items_of (c ∷ cs) = ap (λ (is : List rules.Item). c.item ∷ is) (items_of cs)

of_chosen : (i : rules.Item) (cs : List SelectedItem) → IsMember i (map chosen_item cs) → (c : SelectedItem) × IsMember c cs × (i ≡ c.item)
of_chosen i [] m = absurd m
of_chosen i (c ∷ cs) (inl e) = (c, inl refl, e)
of_chosen i (c ∷ cs) (inr m) = (let r = of_chosen i cs m in (r.0, inr r.1, r.2))

module _ (plan : Plan) (items : List Item) (known : AreKnown (IsPlannedItem plan) items) where
  one_fits : (n : ℕ) (o : Option Item) → slice_get items n ≡ o → (c : SelectedItem) → IsMember c (option_to_list (option_map (planned plan) o)) → HasFixtureClosure (plan_rules plan) c.item
  one_fits n None e c m = absurd m
  one_fits n (Some x) e c (inl q) = subst (λ (s : SelectedItem). HasFixtureClosure (plan_rules plan) s.item) (sym q) (known n x e).fits
  one_fits n (Some x) e c (inr m) = absurd m

  all_fit : (numbers : List ℕ) (c : SelectedItem) → IsMember c (chosen_in (planned plan) items numbers) → HasFixtureClosure (plan_rules plan) c.item
  all_fit [] c m = absurd m
  all_fit (n ∷ numbers) c m =
      elim (In-append c (chosen_at (planned plan) items n) (chosen_in (planned plan) items numbers) m) [
        | inl l ↦ one_fits n (slice_get items n) refl c l
        | inr r ↦ all_fit numbers c r
      ]

  fit : (numbers : List ℕ) (i : rules.Item) → IsMember i (map chosen_item (chosen_in (planned plan) items numbers)) → HasFixtureClosure (plan_rules plan) i
  fit numbers i m =
      let r = of_chosen i (chosen_in (planned plan) items numbers) m in
      subst (λ (j : rules.Item). HasFixtureClosure (plan_rules plan) j) (sym r.2) (all_fit numbers r.0 r.1)

  pub same_frames : KeepsFrames (plan_rules plan) is_out → (options : Options) (numbers : List ℕ) (first : SourceWorld) (told : List ItemReport) (end : RunEnd) (stand : Stand)
      → RunsPlan plan options (chosen_in (planned plan) items numbers) first told end stand → Distinct (map chosen_item (chosen_in (planned plan) items numbers)) → SameFrames is_out first stand.world
  unfolding RunsPlan
  same_frames keep options numbers first told end stand r d =
      let chosen = chosen_in (planned plan) items numbers in
      subst (λ (w : SourceWorld). SameFrames is_out first w) (r d).0.world
      (subst (λ (is : List rules.Item). SameFrames is_out first (session (plan_rules plan) options.maxfail is (initial_state first)).world) (sym (items_of chosen))
      (same_behind (plan_rules plan) is_out keep options.maxfail (map chosen_item chosen) first (fit numbers)))
