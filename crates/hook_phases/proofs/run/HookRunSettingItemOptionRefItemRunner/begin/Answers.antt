use Rattle.hook_phases.proofs.Waiting.{opened_waits, rests}
use Rattle.hook_phases.specs.Runs.{run_place}
use Rattle.session_rules.proofs.Standing.{begin_stands}
use Rattle.session_rules.specs.Session.{hook_runner}
use Rattle.session_rules.specs.World.{language}
use Rattle.hook_phases.proofs.run.HookRunSettingItemOptionRefItemRunner.begin.Goals as goal

pub returns-clause-frames : goal.returns-clause-frames
returns-clause-frames g c = λ frames h.
    let L = language g.row.S-World.Denot g.row.S-Value.Denot g.row.S-Thrown.Denot g.row.S-Rest.Denot g.row.S-Told.Denot g.S.HookStage.is_bad in
    let before = c.args.self.now in
    let rules = g.S.HookStage.rules before.setting.now in
    let keep = g.met.S.HookStage.keeps before.setting.now in
    let place = run_place L g.S.HookStage.rules g.S.HookStage.state g.S.HookStage.session_item before in
    let s = g.S.HookStage.state before.stage.now in
    opened_waits L g.S.HookStage.is_out rules keep place frames ((hook_runner rules place).begin c.args.which.now s) s (g.S.HookStage.state c.open_one.new.stage) c.open_one.result
    c.open_one.ensures.run (begin_stands {L = L} g.S.HookStage.is_out rules keep place (rests frames) c.args.which.now s h)
