use Rattle.std.proofs.Common.{[], sym, subst}
use Rattle.session_rules.specs.Frames.{StandsWith}
use Rattle.session_rules.specs.Teardown.{SessionState}
use Rattle.session_rules.specs.World.{language}
use Rattle.hook_phases.proofs.leaving.leave.Goals as goal

pub in_hooks-requires-clause-frames : goal.in_hooks-requires-clause-frames
in_hooks-requires-clause-frames g c =
    let L = language g.row.S-World.Denot g.row.S-Value.Denot g.row.S-Thrown.Denot g.row.S-Rest.Denot g.row.S-Told.Denot g.S.HookStage.is_bad in
    subst (λ (s : SessionState L). StandsWith s g.S.HookStage.is_out []) (sym c.begin_teardown.ensures.state) c.requires.frames
