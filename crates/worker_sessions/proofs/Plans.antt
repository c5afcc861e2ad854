-- The plan of a suite, and the items that it has.
use Rattle.std.proofs.Common.{◌≡◌, ◌<◌, ◌+◌, ℕ, zero, suc, List, [], ◌∷◌, ◌++◌, All, map, length, Option, None, Some, option_map, refl, ap, ◌∙◌, arith}
use Rattle.std.specs.Prelude.{slice_get}
use Rattle.std.specs.Option.{option_to_list}
use Rattle.cli_words.specs.declared.options.Options.{Options}
use Rattle.collect_tree.specs.Collection.{item_numbered, item_or_none, selected_by}
use Rattle.collect_tree.specs.Runnable.{IsAtHome, IsRunnable}
use Rattle.collect_tree.specs.collect_items.declared.found.FoundSuite.{FoundSuite}
use Rattle.run_items.specs.Stands.{IsPlan, IsPlannedItem, planned}
use Rattle.run_items.specs.declared.plan.Plan.{Plan}
use Rattle.run_items.specs.report_rules.Collected.{SelectedItem}
use Rattle.run_items.specs.test_suite.declared.item.Item.{Item}
use Rattle.runtest_loop.specs.Course.{chosen_in}
use Rattle.runtest_loop.specs.Fed.{AreKnown}
use Rattle.share_files.specs.Deal.{Every}
use Rattle.worker_sessions.proofs.Refiled.{unfiled}
use Rattle.worker_sessions.specs.Sessions.{plan_by}

-- numbers in range
pub every : {A : Type 0} (P : A → Type 0) (xs : List A) → All P xs → Every P xs
every P [] h = tt
every P (x ∷ xs) h = (h 0 x (omega arith), every P xs (λ k d l. h (suc k) d (omega arith)))

pub below_none : (items : List Item) (n : ℕ) → n < length items → slice_get items n ≡ None → ⊥
below_none [] n l e = absurd (omega arith)
below_none (x ∷ xs) zero l e = absurd (cc)
below_none (x ∷ xs) (suc n) l e = below_none xs n (omega arith) e

-- the plan of a suite that can run
pub is_plan : (options : Options) (found : FoundSuite) → IsRunnable found → IsPlan (plan_by options found)
is_plan options found r = record { tree = r.tree; many = r.many; scopes = r.scopes options.step_limit; hooks = r.hooks }

is_planned : (options : Options) (found : FoundSuite) (i : Item) → IsAtHome found i → IsPlannedItem (plan_by options found) i
is_planned options found i h = record { node = h.node; found = h.at; fits = h.fits options.step_limit }

pub are_known : (options : Options) (found : FoundSuite) → IsRunnable found → AreKnown (IsPlannedItem (plan_by options found)) found.suite.items
are_known options found r = λ n i e. is_planned options found i (r.items n i e)

-- its items
abbrev pub chosen_by : Plan → ℕ → SelectedItem
chosen_by plan n = planned plan (item_numbered plan.run.suite n)

one_chosen : (plan : Plan) (node : ℕ) (o : Option Item) → (o ≡ None → ⊥) → option_to_list (option_map (planned plan) o) ≡ planned plan (item_or_none node o) ∷ []
one_chosen plan node None some = absurd (some refl)
one_chosen plan node (Some i) some = refl

pub chosen_as : (plan : Plan) (ns : List ℕ) → Every (λ n. n < length plan.run.suite.items) ns → chosen_in (planned plan) plan.run.suite.items ns ≡ map (chosen_by plan) ns
chosen_as plan [] h = refl
chosen_as plan (n ∷ ns) (l, h) =
    ap (λ (cs : List SelectedItem). cs ++ chosen_in (planned plan) plan.run.suite.items ns)
    (one_chosen plan (plan.run.suite.outer + n) (slice_get plan.run.suite.items n) (below_none plan.run.suite.items n l))
    ∙ ap (λ (cs : List SelectedItem). chosen_by plan n ∷ cs) (chosen_as plan ns h)

pub unfiled_as : (options : Options) (found : FoundSuite) (places ns : List ℕ) → map (chosen_by (plan_by options found)) ns ≡ map unfiled (map (selected_by found places) ns)
unfiled_as options found places [] = refl
unfiled_as options found places (n ∷ ns) = ap (λ (cs : List SelectedItem). chosen_by (plan_by options found) n ∷ cs) (unfiled_as options found places ns)
