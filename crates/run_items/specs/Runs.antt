-- What a run of items of a plan gives.
use Rattle.std.specs.Prelude.{List, map}
use Rattle.cli_words.specs.declared.options.Options.{Options}
use Rattle.report_parts.specs.declared.report.ItemReport.{ItemReport}
use Rattle.runtest_reports.specs.report_rules.Collected.{SelectedItem}
use Rattle.runtest_reports.specs.report_rules.Fits.{chosen_item}
use Rattle.run_items.specs.Stands.{plan_fixture, plan_rules, stand_state}
use Rattle.run_items.specs.declared.plan.Plan.{Plan}
use Rattle.run_items.specs.declared.stand.Stand.{Stand}
use Rattle.runtest_loop.specs.Run.{Begins, IsRun}
use Rattle.runtest_loop.specs.declared.run_end.RunEnd.{RunEnd}
use Rattle.session_rules.specs.Events.{Lawful}
use Rattle.session_rules.specs.Fits.{Distinct}
use Rattle.fixture_world.specs.fixture_calls.source_meaning.Meaning.{SourceWorld}

-- THE RUN of these items by the rules of a plan, from a world: where no two have one node, it is that of the session of one thread, and
-- its journal is lawful
unfoldable pub RunsPlan : Plan → Options → List SelectedItem → SourceWorld → List ItemReport → RunEnd → Stand → Type 0
RunsPlan plan options chosen first told end stand =
    Distinct (map chosen_item chosen) → IsRun (plan_rules plan) (plan_fixture plan) options chosen first told end (stand_state stand) × Lawful (stand_state stand).events

-- behind a fault: what was taken before, and then the first of the reports of that session
abbrev pub BeginsPlan : Plan → Options → List SelectedItem → SourceWorld → List ItemReport → List ItemReport → Type 0
BeginsPlan plan options chosen first before taken = Begins (plan_rules plan) (plan_fixture plan) options chosen first before taken
