-- The reports of a run by a plan, without maxfail.
use Rattle.std.proofs.Common.{◌≡◌, ℕ, List, [], ◌++◌, map, None, sym, ◌∙◌, subst}
use Rattle.cli_words.specs.declared.options.Options.{Options}
use Rattle.report_parts.specs.declared.report.ItemReport.{ItemReport}
use Rattle.run_items.specs.Runs.{RunsPlan}
use Rattle.run_items.specs.Stands.{plan_fixture, plan_rules}
use Rattle.run_items.specs.declared.plan.Plan.{Plan}
use Rattle.run_items.specs.declared.stand.Stand.{Stand}
use Rattle.run_items.specs.report_rules.Collected.{SelectedItem}
use Rattle.run_items.specs.report_rules.Items.{item_report}
use Rattle.run_items.specs.report_rules.Rows.{session_rows, task}
use Rattle.run_items.specs.source_meaning.Meaning.{SourceWorld}
use Rattle.runtest_loop.specs.declared.run_end.RunEnd.{RunEnd}
use Rattle.worker_sessions.specs.Sessions.{ReportsPlanned}

pub are_planned : (plan : Plan) (options : Options) (chosen : List SelectedItem) (w : SourceWorld) (told all : List ItemReport) (end : RunEnd) (stand : Stand) → options.maxfail ≡ 0 → all ≡ [] ++ told
    → RunsPlan plan options chosen w told end stand → ReportsPlanned plan options chosen w all
unfolding RunsPlan ReportsPlanned
are_planned plan options chosen w told all end stand none is runs =
    λ apart. is ∙ sym (subst (λ (n : ℕ). map (item_report options (plan_rules plan).scope (plan_fixture plan)) (session_rows (plan_rules plan) w n (map (task None) chosen)) ≡ told) none (runs apart).0.reports)
