-- What a run over a collection is.
use Rattle.std.specs.Prelude.{ℕ, List, map}
use Rattle.cli_words.specs.declared.options.Options.{Options}
use Rattle.run_items.specs.Stands.{planned}
use Rattle.run_items.specs.declared.plan.Plan.{Plan}
use Rattle.run_items.specs.declared.stand.Stand.{Stand}
use Rattle.run_items.specs.report_rules.Collected.{SelectedItem}
use Rattle.run_items.specs.report_rules.Fits.{chosen_item}
use Rattle.run_items.specs.source_meaning.Meaning.{SourceWorld}
use Rattle.runtest_loop.specs.Course.{chosen_in}
use Rattle.runtest_loop.specs.Fed.{numbers_fed}
use Rattle.session_rules.specs.Fits.{Distinct}
use Rattle.test_session.specs.Collections.{in_suite}
use Rattle.test_session.specs.Stacks.{in_world}
use Rattle.test_session.specs.declared.collected.Collected.{Collected}

-- the plan of its suite, within the limit of steps of these options
abbrev pub limited : ℕ → Plan → Plan
limited limit plan = record plan { run = record plan.run { limit = limit } }

abbrev pub plan_of : Options → Collected → Plan
plan_of options c = limited options.step_limit c.stack.plan

-- THE ITEMS at the places of the groups that were given
abbrev pub chosen_of : Options → Collected → List (List ℕ) → List ℕ → List SelectedItem
chosen_of options c groups given =
    chosen_in (planned (plan_of options c)) c.stack.plan.run.suite.items (numbers_fed (in_suite c.stack.plan.run.suite.outer c.items.items groups) given)

-- no two of these items have one node
abbrev pub HasDistinctItems : Options → Collected → List (List ℕ) → List ℕ → Type 0
HasDistinctItems options c groups given = Distinct (map chosen_item (chosen_of options c groups given))

-- what is set up, in the world of the collection
abbrev pub stand_of : Collected → Stand
stand_of c = in_world c.world c.stack.stand

-- behind a run: another world and stand, and the limit of steps; the rest is as it was
abbrev pub ran_to : Options → SourceWorld → Stand → Collected → Collected
ran_to options w stand c = record c { world = w; stack = record c.stack { stand = stand; plan = plan_of options c } }
