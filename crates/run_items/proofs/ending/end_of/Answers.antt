use Rattle.std.proofs.Common.{◌∙◌, ap}
use Rattle.runtest_reports.specs.report_rules.Collected.{CapturedEnd}
use Rattle.run_items.proofs.Doings.{ended_by}
use Rattle.run_items.specs.Stands.{stand_state}
use Rattle.session_rules.specs.Teardown.{in_world}
use Rattle.fixture_world.specs.fixture_calls.source_meaning.Meaning.{SourceWorld}
use Rattle.run_items.proofs.ending.end_of.Goals as goal

pub returns-clause-told : goal.returns-clause-told
returns-clause-told c =
    c.ending_of.ensures
    ∙ ap (λ (x : CapturedEnd × SourceWorld). x.0) (ended_by c.args.plan.now c.args.item.now c.requires.item c.args.phase c.args.raised.now (stand_state c.args.stand.now) (c.in_ok-ending.ending, c.end_phase.new.world) c.in_ok-ending.ensures)

pub returns-clause-state : goal.returns-clause-state
returns-clause-state c =
    ap (λ (x : CapturedEnd × SourceWorld). in_world x.1 (stand_state c.args.stand.now)) (ended_by c.args.plan.now c.args.item.now c.requires.item c.args.phase c.args.raised.now (stand_state c.args.stand.now) (c.in_ok-ending.ending, c.end_phase.new.world) c.in_ok-ending.ensures)
