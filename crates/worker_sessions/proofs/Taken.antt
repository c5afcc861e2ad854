-- The items whose numbers a feed gives are those of its groups.
use Rattle.std.proofs.Common.{◌≡◌, ℕ, zero, suc, ◌<◌, ◌≤◌, ◌+◌, ◌*◌, All, List, [], ◌∷◌, ◌++◌, map, length, refl, sym, ap, ap₂, ◌∙◌, subst, None, arith}
use Rattle.std.proofs.lemmas.List.{length-map}
use Rattle.std.proofs.lemmas.List.Concat.{flat_map-append}
use Rattle.cli_words.specs.declared.options.Options.{Options}
use Rattle.collect_tree.specs.Collection.{selected_by}
use Rattle.collect_tree.specs.Told.{collected_told}
use Rattle.collect_tree.specs.collect_items.declared.found.FoundSuite.{FoundSuite}
use Rattle.collect_tree.specs.declared.collected.Collected.{Collected}
use Rattle.report_parts.specs.Limits.{most_items}
use Rattle.report_parts.specs.declared.report.ItemReport.{ItemReport}
use Rattle.run_items.specs.Stands.{planned}
use Rattle.run_items.specs.Texts.{fixture_texts}
use Rattle.run_items.specs.declared.plan.Plan.{Plan}
use Rattle.run_items.specs.report_rules.Collected.{SelectedItem}
use Rattle.run_items.specs.report_rules.Fits.{chosen_item}
use Rattle.run_items.specs.report_rules.Groups.{group_at, groups}
use Rattle.run_items.specs.report_rules.Items.{item_report}
use Rattle.run_items.specs.report_rules.Rows.{session_rows, task}
use Rattle.run_items.specs.runtest_rules.Rules.{rules}
use Rattle.run_items.specs.source_meaning.Meaning.{SourceWorld}
use Rattle.run_items.specs.test_suite.declared.suite.Suite.{Suite}
use Rattle.report_rules.proofs.Journals.{by_distinct}
use Rattle.runtest_loop.specs.Course.{chosen_at, chosen_in}
use Rattle.runtest_loop.specs.Fed.{numbers_at, numbers_fed, numbers_in_range, unfed}
use Rattle.session_rules.specs.Fits.{Distinct}
use Rattle.session_rules.specs.World.{Item as SessionItem}
use Rattle.share_files.specs.Deal.{Every}
use Rattle.worker_groups.proofs.Numbers.{report_groups}
use Rattle.worker_groups.specs.Numbers.{number_groups}
use Rattle.worker_runs.specs.Threads.{items_taken}
use Rattle.worker_sessions.proofs.Plans.{chosen_as, every, unfiled_as}
use Rattle.worker_sessions.proofs.Refiled.{reports_as, unfiled}
use Rattle.worker_sessions.specs.Sessions.{ReportsPlanned, ReportsTaken, plan_by}

-- numbers in range
group_in_range : (count : ℕ) (numbers : List (List ℕ)) (g : ℕ) → numbers_in_range count numbers → Every (λ n. n < count) (numbers_at numbers g)
group_in_range count [] g r = tt
group_in_range count (ns ∷ more) zero r = r.0
group_in_range count (ns ∷ more) (suc g) r = group_in_range count more g r.1

-- a group of numbers is a group of items
group_mapped : (chosen : ℕ → SelectedItem) (numbers : List (List ℕ)) (g : ℕ) → group_at (map (λ (ns : List ℕ). map chosen ns) numbers) g ≡ map chosen (numbers_at numbers g)
group_mapped chosen [] g = refl
group_mapped chosen (ns ∷ more) zero = refl
group_mapped chosen (ns ∷ more) (suc g) = group_mapped chosen more g

same_items : (cs : List SelectedItem) → map chosen_item (map unfiled cs) ≡ map chosen_item cs
same_items [] = refl
same_items (c ∷ cs) = ap (λ (is : List SessionItem). c.item ∷ is) (same_items cs)

unfiled_append : (cs ds : List SelectedItem) → map unfiled (cs ++ ds) ≡ map unfiled cs ++ map unfiled ds
unfiled_append [] ds = refl
unfiled_append (c ∷ cs) ds = ap (λ (l : List SelectedItem). unfiled c ∷ l) (unfiled_append cs ds)

module _ (options : Options) (found : FoundSuite) (places : List ℕ) where
  abbrev plan : Plan
  plan = plan_by options found

  module _ (ns : List ℕ) (numbers : List (List ℕ)) (are : numbers ≡ number_groups places ns) (within : numbers_in_range (length found.suite.items) numbers) where
    abbrev selected : List SelectedItem
    selected = map (selected_by found places) ns

    same_groups : map (λ (l : List ℕ). map (selected_by found places) l) numbers ≡ groups selected
    same_groups = ap (λ (gs : List (List ℕ)). map (λ (l : List ℕ). map (selected_by found places) l) gs) are ∙ report_groups places (selected_by found places) (λ n. refl) ns

    group_as : (g : ℕ) → chosen_in (planned plan) found.suite.items (numbers_at numbers g) ≡ map unfiled (group_at (groups selected) g)
    group_as g =
        chosen_as plan (numbers_at numbers g) (group_in_range (length found.suite.items) numbers g within)
        ∙ (unfiled_as options found places (numbers_at numbers g)
        ∙ ap (λ (cs : List SelectedItem). map unfiled cs) (sym (group_mapped (selected_by found places) numbers g) ∙ ap (λ (gs : List (List SelectedItem)). group_at gs g) same_groups))

    fed_as : (given : List ℕ) → chosen_in (planned plan) found.suite.items (numbers_fed numbers given) ≡ map unfiled (items_taken selected given)
    fed_as [] = refl
    fed_as (g ∷ given) =
        flat_map-append (chosen_at (planned plan) found.suite.items) (numbers_at numbers g) (numbers_fed numbers given)
        ∙ (ap₂ (λ (a b : List SelectedItem). a ++ b) (group_as g) (fed_as given) ∙ sym (unfiled_append (group_at (groups selected) g) (items_taken selected given)))

    -- the reports that a plan gives of what was fed are those of one thread
    pub are_taken : (c : Collected) (w : SourceWorld) → c.found ≡ found → c.places.items ≡ places → c.selected ≡ ns → (given : List ℕ) (reports : List ItemReport)
        → ReportsPlanned plan options (chosen_in (planned plan) found.suite.items (numbers_fed numbers given)) w reports → ReportsTaken options (collected_told c w) given reports
    unfolding ReportsPlanned ReportsTaken
    are_taken c w f p s given reports planned_so =
        λ rises apart.
        let suite_is = ap (λ (x : FoundSuite). x.suite) f in
        let selected_is : (collected_told c w).selected ≡ selected = ap (λ (x : FoundSuite). map (selected_by x c.places.items) c.selected) f ∙ (ap (λ (l : List ℕ). map (selected_by found l) c.selected) p ∙ ap (λ (l : List ℕ). map (selected_by found places) l) s) in
        let cs = items_taken selected given in
        let distinct : Distinct (map chosen_item cs) = by_distinct selected 0 given rises (subst (λ (l : List SelectedItem). Distinct (map chosen_item l)) selected_is apart) in
        let fed : Distinct (map chosen_item (chosen_in (planned plan) found.suite.items (numbers_fed numbers given))) =
        subst (λ (l : List SelectedItem). Distinct (map chosen_item l)) (sym (fed_as given)) (subst (λ (is : List SessionItem). Distinct is) (sym (same_items cs)) distinct) in
        planned_so fed
        ∙ (ap (λ (l : List SelectedItem). map (item_report options (rules options found.suite).scope (fixture_texts found.suite)) (session_rows (rules options found.suite) w 0 (map (task None) l))) (fed_as given)
        ∙ (reports_as options (rules options found.suite).scope (fixture_texts found.suite) (rules options found.suite) w 0 cs
        ∙ (ap (λ (l : List SelectedItem). map (item_report options (rules options found.suite).scope (fixture_texts found.suite)) (session_rows (rules options found.suite) w 0 (map (task None) (items_taken l given)))) (sym selected_is)
        ∙ ap (λ (su : Suite). map (item_report options (rules options su).scope (fixture_texts su)) (session_rows (rules options su) w 0 (map (task None) (items_taken (collected_told c w).selected given)))) (sym suite_is))))

-- WHAT A RUN ASKS OF THE GROUPS of what was collected
pub numbers_fit : (c : Collected) → All (λ n. n < length c.found.suite.items) c.selected → (numbers : List (List ℕ)) → ((count : ℕ) → Every (λ n. n < count) c.selected → numbers_in_range count numbers) → numbers_in_range (length c.found.suite.items) numbers
numbers_fit c within numbers h = h (length c.found.suite.items) (every (λ n. n < length c.found.suite.items) c.selected within)

pub as_many : (c : Collected) (w : SourceWorld) (numbers : List (List ℕ)) → numbers ≡ number_groups c.places.items c.selected → length numbers ≡ length (groups (collected_told c w).selected)
as_many c w numbers are =
    sym (length-map numbers (λ (l : List ℕ). map (selected_by c.found c.places.items) l))
    ∙ ap (λ (gs : List (List SelectedItem)). length gs) (ap (λ (ls : List (List ℕ)). map (λ (l : List ℕ). map (selected_by c.found c.places.items) l) ls) are ∙ report_groups c.places.items (selected_by c.found c.places.items) (λ n. refl) c.selected)

pub enough : (c : Collected) (w : SourceWorld) (numbers : List (List ℕ)) → numbers ≡ number_groups c.places.items c.selected → (limit : ℕ) → limit ≡ length (groups (collected_told c w).selected) → limit ≤ length numbers
enough c w numbers are limit e = (let many = as_many c w numbers are in omega (arith, many, e))

pub few_numbers : (c : Collected) (numbers : List (List ℕ)) (given : List ℕ) → given ≡ [] → unfed numbers [] ≤ 2 * length c.selected → length c.selected + c.deselected ≤ most_items → unfed numbers given ≤ 131072
few_numbers c numbers given none le most = subst (λ (l : List ℕ). unfed numbers l ≤ 131072) (sym none) (omega (arith, le, most))
