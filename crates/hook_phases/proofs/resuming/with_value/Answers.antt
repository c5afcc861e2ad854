use Rattle.hook_phases.proofs.Resumed.{behind_end}
use Rattle.hook_phases.proofs.Waiting.{wrapper_out}
use Rattle.hook_phases.specs.Phases.{phase_of}
use Rattle.hook_phases.specs.Views.{wrapper_end}
use Rattle.session_rules.specs.Hooks.{InnerGave, SentValue}
use Rattle.session_rules.specs.World.{language}
use Rattle.hook_phases.proofs.resuming.with_value.Goals as goal

pub behind_value-requires-clause-out : goal.behind_value-requires-clause-out
behind_value-requires-clause-out g c =
    let L = language g.row.S-World.Denot g.row.S-Value.Denot g.row.S-Thrown.Denot g.row.S-Rest.Denot g.row.S-Told.Denot g.S.HookStage.is_bad in
    let rules = g.S.HookStage.rules c.args.setting.now in
    let node = (g.S.HookStage.session_item c.args.setting.now c.args.item.now).node in
    let s = g.S.HookStage.state c.args.stage.now in
    let sent = SentValue c.args.value in
    wrapper_out L g.S.HookStage.is_out c.args.frame.rest s.world (rules.resume_wrapper (phase_of c.args.phase) node c.args.frame.rest sent s.world) (wrapper_end L c.in-Ok.end) s (g.S.HookStage.state c.resume_with_value.new.self)
    c.in-Ok.ensures.how c.in-Ok.ensures.state ((g.met.S.HookStage.keeps c.args.setting.now).resume_wrapper (phase_of c.args.phase) node c.args.frame.rest sent s.world c.requires.out)

pub returns-in-Ok-clause-run : goal.returns-in-Ok-clause-run
returns-in-Ok-clause-run g c = λ next.
    let L = language g.row.S-World.Denot g.row.S-Value.Denot g.row.S-Thrown.Denot g.row.S-Rest.Denot g.row.S-Told.Denot g.S.HookStage.is_bad in
    let rules = g.S.HookStage.rules c.args.setting.now in
    let node = (g.S.HookStage.session_item c.args.setting.now c.args.item.now).node in
    let s = g.S.HookStage.state c.args.stage.now in
    behind_end L rules c.args.frame.which (InnerGave c.args.value) s (g.S.HookStage.state c.resume_with_value.new.self) (g.S.HookStage.state c.behind_value.new.stage) (rules.resume_wrapper (phase_of c.args.phase) node c.args.frame.rest (SentValue c.args.value) s.world) (wrapper_end L c.in-Ok.end) c.behind_value.result
    c.in-Ok.ensures.how c.in-Ok.ensures.state (c.behind_value.ensures.run (InnerGave c.args.value) tt)
