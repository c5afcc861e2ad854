use Rattle.std.proofs.Common.{◌∙◌, ap}
use Rattle.runtest_rules.specs.fixture_calls.source_meaning.Meaning.{SourceWorld}
use Rattle.runtest_rules.specs.fixture_calls.Yields.{fixture_resumed}
use Rattle.runtest_rules.specs.fixture_calls.declared.yields.FixtureEnd.{FixtureEnd}
use Rattle.runtest_rules.specs.Rules.{body_end_of, rules_within}
use Rattle.fixture_world.proofs.executing.RunWorldExecutor.resume.Goals as goal

pub returns-clause-how : goal.returns-clause-how
returns-clause-how c =
    c.body_end.ensures (rules_within c.args.setting.now.limit c.args.setting.now.suite)
    ∙ ap (λ (x : FixtureEnd × SourceWorld). body_end_of x.0)
    (c.in_ok-end.ensures ∙ ap (λ (w : SourceWorld). fixture_resumed c.args.setting.now.limit c.args.rest w) c.self.view_is)
