use Rattle.std.proofs.Common.{[], sym, subst}
use Rattle.std.specs.Prelude.{OnOk}
use Rattle.py_world.specs.Resuming.{is_out}
use Rattle.run_items.specs.runtest_rules.Rules.{rules_within}
use Rattle.run_items.specs.source_meaning.Meaning.{SourceWorld}
use Rattle.session_rules.specs.Frames.{StandsWith}
use Rattle.setup_stack.specs.Views.{stack_state}
use Rattle.test_session.proofs.setting_up.leave_in.Goals as goal

pub leave-raised-requires-clause-frames : goal.leave-raised-requires-clause-frames
leave-raised-requires-clause-frames c =
    subst (λ (w : SourceWorld). StandsWith (stack_state (rules_within c.args.setting.now.limit c.args.setting.now.suite) w c.args.stand.now.stack.stack) is_out []) (sym c.exchange.ensures.place) c.requires.frames

pub returns-clause-frames : goal.returns-clause-frames
returns-clause-frames c =
    subst (λ (w : SourceWorld). OnOk c.leave-raised.result (StandsWith (stack_state (rules_within c.args.setting.now.limit c.args.setting.now.suite) w c.leave-raised.new.self) is_out []))
    (sym c.exchange-2.ensures.world) c.leave-raised.ensures.frames
