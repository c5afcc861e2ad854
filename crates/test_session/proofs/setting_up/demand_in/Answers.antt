use Rattle.std.proofs.Common.{[], sym, subst}
use Rattle.py_world.specs.Resuming.{is_out}
use Rattle.run_items.specs.runtest_rules.Rules.{rules_within}
use Rattle.run_items.specs.source_meaning.Meaning.{SourceWorld}
use Rattle.session_rules.specs.Frames.{StandsWith}
use Rattle.setup_stack.specs.SetUps.{IfAnswered}
use Rattle.setup_stack.specs.Views.{stack_state}
use Rattle.test_session.proofs.setting_up.demand_in.Goals as goal

pub demand-answer-requires-clause-frames : goal.demand-answer-requires-clause-frames
demand-answer-requires-clause-frames c =
    subst (λ (w : SourceWorld). StandsWith (stack_state (rules_within c.args.setting.now.limit c.args.setting.now.suite) w c.args.stand.now.stack.stack) is_out []) (sym c.exchange.ensures.place) c.requires.frames

pub returns-clause-frames : goal.returns-clause-frames
returns-clause-frames c =
    subst (λ (w : SourceWorld). IfAnswered c.demand-answer.result (StandsWith (stack_state (rules_within c.args.setting.now.limit c.args.setting.now.suite) w c.demand-answer.new.self) is_out []))
    (sym c.exchange-2.ensures.world) c.demand-answer.ensures.frames
