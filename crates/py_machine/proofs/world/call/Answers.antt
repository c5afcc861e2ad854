use Rattle.std.proofs.Common.{◌≡◌, ◌≤◌, map, ap, subst, sym, ◌∙◌}
use Rattle.machine_state.specs.Frames.{frozen_of, world_of}
use Rattle.lower_law.specs.core_meaning.Meaning.{core}
use Rattle.lower_law.specs.core_meaning.Requests.{core_kinds}
use Rattle.lower_law.specs.source_meaning.Meaning.{source_call}
use Rattle.lower_law.specs.py_world.Runs.{Told}
use Rattle.py_machine.proofs.Seen.{call_told, call_kept, bare_sound}
use Rattle.py_machine.proofs.Steps.{call_within}
use Rattle.core_rules.proofs.SourceRuns.{calls_keep}
use Rattle.lower_law.specs.source_meaning.Requests.{source_kinds}
use Rattle.py_machine.proofs.world.call.Goals as goal

pub invariant_of-world : goal.invariant_of-world
invariant_of-world c =
    call_kept (world_of c.world.inside.machine) (world_of c.call.new.m) c.args.f c.args.args.now c.args.budget c.in-Ok.ended c.world.invariant c.in-Ok.ensures

pub invariant_of-world-in-Err : goal.invariant_of-world-in-Err
invariant_of-world-in-Err c =
    let m = c.forget_code.new.m in bare_sound m.sources m.modules m.heap m.codes.items m.printed.items (map frozen_of m.stack.frozen) m.traces c.forget_code.ensures.sources c.forget_code.ensures.codes (ap (map frozen_of) c.forget_code.ensures.frozen)

pub returns-in-Ok-clause-told : goal.returns-in-Ok-clause-told
returns-in-Ok-clause-told c =
    call_told (world_of c.world.inside.machine) (world_of c.call.new.m) c.args.f c.args.args.now c.args.budget c.in-Ok.ended c.world.invariant c.in-Ok.ensures
    ∙ ap (source_call c.args.f c.args.args.now c.args.budget) c.world.view_is

pub returns-in-Ok-clause-steps : goal.returns-in-Ok-clause-steps
returns-in-Ok-clause-steps c = subst (λ (t : Told core_kinds). t.0.steps ≤ c.args.budget) c.in-Ok.ensures (call_within core c.args.f c.args.args.now c.args.budget (world_of c.world.inside.machine))

pub returns-in-Ok-clause-frames : goal.returns-in-Ok-clause-frames
returns-in-Ok-clause-frames c =
    subst (λ (t : Told source_kinds). t.1.frozen ≡ c.args.world.now.frozen)
    (sym (call_told (world_of c.world.inside.machine) (world_of c.call.new.m) c.args.f c.args.args.now c.args.budget c.in-Ok.ended c.world.invariant c.in-Ok.ensures ∙ ap (source_call c.args.f c.args.args.now c.args.budget) c.world.view_is))
    (calls_keep c.args.world.now c.args.f c.args.args.now c.args.budget).frozen
