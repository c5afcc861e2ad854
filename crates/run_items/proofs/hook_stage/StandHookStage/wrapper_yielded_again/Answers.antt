use Rattle.std.proofs.Common.{ap}
use Rattle.fixture_world.specs.fixture_calls.declared.failure.Failure.{Failure}
use Rattle.fixture_world.specs.fixture_calls.source_meaning.Meaning.{SourceWorld}
use Rattle.run_items.specs.Stands.{stand_state}
use Rattle.session_rules.specs.Teardown.{in_world}
use Rattle.run_items.proofs.hook_stage.StandHookStage.wrapper_yielded_again.Goals as goal

pub returns-clause-thrown : goal.returns-clause-thrown
returns-clause-thrown c = ap (λ (x : Failure × SourceWorld). x.0) c.in_ok-failure.ensures

pub returns-clause-state : goal.returns-clause-state
returns-clause-state c = ap (λ (x : Failure × SourceWorld). in_world x.1 (stand_state c.args.self.now)) c.in_ok-failure.ensures
