use Rattle.std.proofs.Common.{◌∙◌, ap, List}
use Rattle.runtest_rules.specs.fixture_calls.source_meaning.Meaning.{SourceWorld}
use Rattle.runtest_rules.specs.fixture_calls.Yields.{fixture_begun}
use Rattle.runtest_rules.specs.fixture_calls.declared.yields.FixtureEnd.{FixtureEnd}
use Rattle.runtest_rules.specs.Rules.{body_end_of, rules_within}
use Rattle.test_suite.specs.Suites.{fixture_at, item_with_node}
use Rattle.test_suite.specs.declared.fixture.Fixture.{Fixture}
use Rattle.test_suite.specs.declared.item.BoundArgument.{BoundArgument}
use Rattle.fixture_world.proofs.executing.RunWorldExecutor.begin.Goals as goal

pub returns-clause-how : goal.returns-clause-how
returns-clause-how c =
    let suite = c.args.setting.now.suite in
    let begun : Fixture → List BoundArgument → SourceWorld → FixtureEnd × SourceWorld = λ f bound w. fixture_begun c.args.setting.now.limit f bound c.args.own c.args.values.now c.args.request w in
    c.body_end.ensures (rules_within c.args.setting.now.limit suite)
    ∙ ap (λ (x : FixtureEnd × SourceWorld). body_end_of x.0)
    (c.in_ok-end.ensures
    ∙ (ap (λ (f : Fixture). begun f c.bound_at-bound.result.now c.self.inside.world) c.fixture_of-fixture.ensures
    ∙ (ap (λ (bound : List BoundArgument). begun (fixture_at suite c.args.def) bound c.self.inside.world) c.bound_at-bound.ensures
    ∙ ap (begun (fixture_at suite c.args.def) (item_with_node suite c.args.item.now.node).bound) c.self.view_is)))
