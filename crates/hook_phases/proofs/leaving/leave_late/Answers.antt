use Rattle.std.proofs.Common.{[], ap, sym, subst}
use Rattle.hook_phases.specs.Steps.{item_where}
use Rattle.session_rules.proofs.Standing.{built_stands}
use Rattle.session_rules.specs.Frames.{StandsWith}
use Rattle.session_rules.specs.Teardown.{SessionState, Step}
use Rattle.session_rules.specs.World.{Teardown, language}
use Rattle.std.specs.Prelude.{option_map}
use Rattle.hook_phases.proofs.leaving.leave_late.Goals as goal

-- behind the built-in teardown the frames stand
pub returns-in_ok-push_all-in-Ok-clause-frames : goal.returns-in_ok-push_all-in-Ok-clause-frames
returns-in_ok-push_all-in-Ok-clause-frames g c =
    let L = language g.row.S-World.Denot g.row.S-Value.Denot g.row.S-Thrown.Denot g.row.S-Rest.Denot g.row.S-Told.Denot g.S.HookStage.is_bad in
    let rules = g.S.HookStage.rules c.args.setting.now in
    subst (λ (s : SessionState L). StandsWith s g.S.HookStage.is_out []) (sym (ap (λ (r : Step L). r.state) c.in-Ok.ensures.state))
    (built_stands {L = L} g.S.HookStage.is_out rules (g.met.S.HookStage.keeps c.args.setting.now) [] Teardown (g.S.HookStage.session_item c.args.setting.now c.args.item.now)
    (item_where (g.S.HookStage.session_item c.args.setting.now) (option_map (λ item. item.now) c.args.next)) (g.S.HookStage.state c.args.stage.now) c.requires.frames)
