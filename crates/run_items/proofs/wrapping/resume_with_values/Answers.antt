use Rattle.std.proofs.Common.{◌∙◌, ap, List}
use Rattle.fixture_world.specs.fixture_calls.Hooks.{resumed_with_values}
use Rattle.fixture_world.specs.fixture_calls.declared.yields.FixtureEnd.{FixtureEnd}
use Rattle.fixture_world.specs.fixture_calls.source_meaning.Meaning.{SourceWorld}
use Rattle.fixture_world.specs.runtest_rules.Rules.{body_end_of}
use Rattle.py_values.specs.declared.value.Value.{Value}
use Rattle.run_items.specs.Stands.{stand_state}
use Rattle.session_rules.specs.Teardown.{in_world}
use Rattle.run_items.proofs.wrapping.resume_with_values.Goals as goal

pub returns-clause-how : goal.returns-clause-how
returns-clause-how c =
    c.wrapper_end.ensures
    ∙ ap (λ (x : FixtureEnd × SourceWorld). body_end_of x.0)
    (c.in_ok-end.ensures ∙ ap (λ (values : List Value). resumed_with_values c.args.limit c.args.rest values c.args.stand.now.world) c.items.ensures)

pub returns-clause-state : goal.returns-clause-state
returns-clause-state c =
    ap (λ (x : FixtureEnd × SourceWorld). in_world x.1 (stand_state c.args.stand.now))
    (c.in_ok-end.ensures ∙ ap (λ (values : List Value). resumed_with_values c.args.limit c.args.rest values c.args.stand.now.world) c.items.ensures)
