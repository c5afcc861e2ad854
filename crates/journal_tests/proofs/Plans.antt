-- The plan of a suite that can run.
use Rattle.cli_words.specs.declared.options.Options.{Options}
use Rattle.collect_tree.specs.Runnable.{IsAtHome, IsRunnable}
use Rattle.collect_tree.specs.collect_items.declared.found.FoundSuite.{FoundSuite}
use Rattle.journal_tests.specs.Plans.{plan_found}
use Rattle.run_items.specs.Stands.{IsPlan, IsPlannedItem}
use Rattle.run_items.specs.test_suite.declared.item.Item.{Item}
use Rattle.runtest_loop.specs.Fed.{AreKnown}

pub is_plan : (options : Options) (found : FoundSuite) → IsRunnable found → IsPlan (plan_found options found)
is_plan options found r = record { tree = r.tree; many = r.many; scopes = r.scopes options.step_limit; hooks = r.hooks }

is_planned : (options : Options) (found : FoundSuite) (i : Item) → IsAtHome found i → IsPlannedItem (plan_found options found) i
is_planned options found i h = record { node = h.node; found = h.at; fits = h.fits options.step_limit }

pub are_known : (options : Options) (found : FoundSuite) → IsRunnable found → AreKnown (IsPlannedItem (plan_found options found)) found.suite.items
are_known options found r = λ n i e. is_planned options found i (r.items n i e)
