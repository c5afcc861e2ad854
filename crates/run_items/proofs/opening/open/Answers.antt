use Rattle.std.proofs.Common.{◌∙◌, ap}
use Rattle.fixture_world.specs.runtest_rules.Language.{python}
use Rattle.runtest_reports.specs.fixture_sessions.FixtureSession.{with_own_object}
use Rattle.session_rules.specs.Teardown.{SessionState}
use Rattle.run_items.proofs.opening.open.Goals as goal

pub returns : goal.returns
returns c = c.in_ok-keep_own.ensures ∙ ap (λ (s : SessionState python). with_own_object c.args.item.now.node s) c.in_ok-make_own.ensures
