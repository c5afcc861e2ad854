-- A feed of one group of one place runs no two items of one node.
use Rattle.std.proofs.Common.{ℕ, List, [], ◌∷◌, ◌++◌, map, Option, None, Some, option_to_list, option_map}
use Rattle.std.specs.Prelude.{slice_get}
use Rattle.cli_words.specs.declared.options.Options.{Options}
use Rattle.test_session.specs.Collections.{number_at}
use Rattle.test_session.specs.Runs.{HasDistinctItems, plan_of}
use Rattle.test_session.specs.declared.collected.Collected.{Collected}
use Rattle.test_session.specs.run_items.Stands.{planned}
use Rattle.test_session.specs.run_items.report_rules.Collected.{SelectedItem}
use Rattle.test_session.specs.run_items.report_rules.Fits.{chosen_item}
use Rattle.test_session.specs.session_rules.Fits.{Distinct}
use Rattle.test_session_tests.specs.OneGroup.{given_by}
use Rattle.test_session_tests.specs.declared.one_group.OneGroup.{OneGroup}
use Rattle.test_session_tests.specs.declared.one_group.OneGroup.TheVariants.{Waiting, Given, Ended}

at_most_one : (o : Option SelectedItem) → Distinct (map chosen_item (option_to_list o ++ []))
at_most_one None = tt
at_most_one (Some c) = ((λ other m e. m), tt)

module _ (options : Options) (c : Collected) where
  of_first : HasDistinctItems options c ((0 ∷ []) ∷ []) (0 ∷ [])
  of_first =
      let s = c.stack.plan.run.suite in
      at_most_one (option_map (planned (plan_of options c)) (slice_get s.items (number_at s.outer c.items.items 0)))

  pub are_distinct : (feed : OneGroup) → HasDistinctItems options c ((0 ∷ []) ∷ []) (given_by feed)
  are_distinct Waiting = tt
  are_distinct Given = of_first
  are_distinct Ended = of_first
