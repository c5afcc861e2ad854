use Rattle.std.proofs.Common.{List, ◌∷◌, refl}
use Rattle.hook_order.proofs.Waiting.{if_inner}
use Rattle.hook_phases.proofs.Hooked.{run_given, run_ran}
use Rattle.hook_phases.proofs.Waiting.{rests, went_if}
use Rattle.hook_phases.specs.Runs.{next_of_run, run_place}
use Rattle.hook_phases.specs.Steps.{item_where}
use Rattle.hook_phases.specs.Views.{frame_kept}
use Rattle.hook_phases.specs.declared.answers.HookFrame.{HookFrame}
use Rattle.session_rules.proofs.Standing.{resume_stands, waiting_out}
use Rattle.session_rules.specs.Frames.{StandsWith}
use Rattle.session_rules.specs.Teardown.{SessionState}
use Rattle.session_rules.specs.Session.{hook_runner}
use Rattle.session_rules.specs.World.{language}
use Rattle.hook_phases.proofs.run.HookRunSettingItemOptionRefItemRunner.resume.Goals as goal

pub returns-clause-run : goal.returns-clause-run
returns-clause-run g c =
    let L = language g.row.S-World.Denot g.row.S-Value.Denot g.row.S-Thrown.Denot g.row.S-Rest.Denot g.row.S-Told.Denot g.S.HookStage.is_bad in
    let before = c.args.self.now in
    let next = item_where (g.S.HookStage.session_item before.setting.now) (next_of_run before) in (
      λ inside e. run_ran L g.S.HookStage.state ((hook_runner (g.S.HookStage.rules before.setting.now) (run_place L g.S.HookStage.rules g.S.HookStage.state g.S.HookStage.session_item before)).resume (frame_kept L c.args.frozen) inside (g.S.HookStage.state before.stage.now)) before c.resume_one.result (record before { stage = record before.stage { now = c.resume_one.new.stage } })
          (c.resume_one.ensures.run next inside (run_given L g.row.S.Denot g.row.S-Setting.Denot g.row.S-Item.Denot g.S.HookStage.state c.args.inner inside e)) refl,
      refl,
      c.resume_one.ensures.given_up,
    )

pub resume_one-requires-clause-out : goal.resume_one-requires-clause-out
resume_one-requires-clause-out g c =
    let L = language g.row.S-World.Denot g.row.S-Value.Denot g.row.S-Thrown.Denot g.row.S-Rest.Denot g.row.S-Told.Denot g.S.HookStage.is_bad in
    if_inner _ _ c.args.inner (λ h. waiting_out {L = L} g.S.HookStage.is_out c.args.frozen.rest (rests h.0) (g.S.HookStage.state c.args.self.now.stage.now) h.1) c.requires.frames

pub returns-clause-frames : goal.returns-clause-frames
returns-clause-frames g c =
    let L = language g.row.S-World.Denot g.row.S-Value.Denot g.row.S-Thrown.Denot g.row.S-Rest.Denot g.row.S-Told.Denot g.S.HookStage.is_bad in
    let before = c.args.self.now in
    let rules = g.S.HookStage.rules before.setting.now in
    let place = run_place L g.S.HookStage.rules g.S.HookStage.state g.S.HookStage.session_item before in
    let next = item_where (g.S.HookStage.session_item before.setting.now) (next_of_run before) in
    let s = g.S.HookStage.state before.stage.now in
    went_if L (λ inside. (hook_runner rules place).resume (frame_kept L c.args.frozen) inside s) s (g.S.HookStage.state c.resume_one.new.stage) c.args.inner c.resume_one.result
    (λ (t : SessionState L). (frames : List (HookFrame g.row.S-Rest.Denot)) → StandsWith s g.S.HookStage.is_out (rests (c.args.frozen ∷ frames)) → StandsWith t g.S.HookStage.is_out (rests frames))
    (c.resume_one.ensures.run next) (λ inside frames h. resume_stands {L = L} g.S.HookStage.is_out rules (g.met.S.HookStage.keeps before.setting.now) place (rests frames) (frame_kept L c.args.frozen) inside s h)
