use Rattle.std.proofs.Common.{List}
use Rattle.hook_phases.proofs.Waiting.{ran_if, rests}
use Rattle.hook_phases.specs.Runs.{run_place}
use Rattle.hook_phases.specs.declared.answers.HookFrame.{HookFrame}
use Rattle.session_rules.proofs.Standing.{call_stands, only_live}
use Rattle.session_rules.specs.Frames.{StandsWith}
use Rattle.session_rules.specs.Session.{hook_runner}
use Rattle.session_rules.specs.Teardown.{SessionState}
use Rattle.session_rules.specs.World.{language}
use Rattle.hook_phases.proofs.run.HookRunSettingItemOptionRefItemRunner.call.Goals as goal

pub call_one-requires-clause-frames : goal.call_one-requires-clause-frames
call_one-requires-clause-frames g c =
    let L = language g.row.S-World.Denot g.row.S-Value.Denot g.row.S-Thrown.Denot g.row.S-Rest.Denot g.row.S-Told.Denot g.S.HookStage.is_bad in
    only_live {L = L} g.S.HookStage.is_out (rests c.requires.frames.0) (g.S.HookStage.state c.args.self.now.stage.now) c.requires.frames.1

pub returns-clause-frames : goal.returns-clause-frames
returns-clause-frames g c =
    let L = language g.row.S-World.Denot g.row.S-Value.Denot g.row.S-Thrown.Denot g.row.S-Rest.Denot g.row.S-Told.Denot g.S.HookStage.is_bad in
    let before = c.args.self.now in
    let rules = g.S.HookStage.rules before.setting.now in
    let place = run_place L g.S.HookStage.rules g.S.HookStage.state g.S.HookStage.session_item before in
    let s = g.S.HookStage.state before.stage.now in
    ran_if L ((hook_runner rules place).call c.args.which.now s) s (g.S.HookStage.state c.call_one.new.stage) c.call_one.result
    (λ (t : SessionState L). (frames : List (HookFrame g.row.S-Rest.Denot)) → StandsWith s g.S.HookStage.is_out (rests frames) → StandsWith t g.S.HookStage.is_out (rests frames))
    c.call_one.ensures.run (λ frames h. call_stands {L = L} g.S.HookStage.is_out rules (g.met.S.HookStage.keeps before.setting.now) place (rests frames) c.args.which.now s h)
