use Rattle.std.proofs.Common.{◌∙◌, ap}
use Rattle.std.specs.Prelude.{option_map}
use Rattle.fixture_world.specs.fixture_calls.declared.yields.FixtureEnd.{FixtureEnd}
use Rattle.fixture_world.specs.fixture_calls.source_meaning.Meaning.{SourceWorld}
use Rattle.fixture_world.specs.runtest_rules.Rules.{body_end_of}
use Rattle.run_items.proofs.Doings.{begun_same}
use Rattle.run_items.specs.Stands.{stand_state}
use Rattle.session_rules.specs.Teardown.{in_world}
use Rattle.run_items.proofs.wrapping.open_wrapper.Goals as goal

pub returns-clause-how : goal.returns-clause-how
returns-clause-how c =
    c.wrapper_end.ensures
    ∙ ap (λ (x : FixtureEnd × SourceWorld). body_end_of x.0)
    (begun_same c.args.plan.now c.args.item.now (option_map (λ item. item.now) c.args.next) c.args.which.now (stand_state c.args.stand.now) c.own_object-given.result c.next_object-behind.result (c.in_ok-end.end, c.open_with.new.world)
    c.own_object-given.ensures c.next_object-behind.ensures c.in_ok-end.ensures)

pub returns-clause-state : goal.returns-clause-state
returns-clause-state c =
    ap (λ (x : FixtureEnd × SourceWorld). in_world x.1 (stand_state c.args.stand.now))
    (begun_same c.args.plan.now c.args.item.now (option_map (λ item. item.now) c.args.next) c.args.which.now (stand_state c.args.stand.now) c.own_object-given.result c.next_object-behind.result (c.in_ok-end.end, c.open_with.new.world)
    c.own_object-given.ensures c.next_object-behind.ensures c.in_ok-end.ensures)
