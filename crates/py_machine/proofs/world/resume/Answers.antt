use Rattle.std.proofs.Common.{◌≡◌, ◌≤◌, ℕ, map, ap, subst, sym, ◌∙◌}
use Rattle.machine_state.specs.Frames.{frozen_of, world_of}
use Rattle.lower_law.specs.core_meaning.Meaning.{core}
use Rattle.lower_law.specs.core_meaning.Requests.{core_kinds}
use Rattle.lower_law.specs.source_meaning.Meaning.{SourceWorld, source_resume}
use Rattle.lower_law.specs.py_world.Resuming.{ToldBegun, abandon_of, is_out}
use Rattle.py_machine.specs.Yields.{sent_of, told_begun}
use Rattle.py_machine.proofs.Seen.{resume_told, resume_kept, bare_sound}
use Rattle.py_machine.proofs.Steps.{resume_within}
use Rattle.py_machine.proofs.Outs.{seen_out}
use Rattle.core_rules.proofs.SourceResumes.{resumes_keep}
use Rattle.core_rules.specs.Keeps.{FramesBehind}
use Rattle.lower_law.specs.source_meaning.Requests.{source_kinds}
use Rattle.lower_law.specs.View.{source_view}
use Rattle.py_machine.proofs.world.resume.Goals as goal

pub resume-requires : goal.resume-requires
resume-requires c =
    sym (seen_out (world_of c.world.inside.machine) c.spend-number.result)
    ∙ (ap (λ (w : SourceWorld). is_out c.spend-number.result w) c.world.view_is ∙ (ap (λ (n : ℕ). is_out n c.args.world.now) c.spend-number.ensures ∙ c.requires.out))

pub invariant_of-world : goal.invariant_of-world
invariant_of-world c =
    resume_kept (world_of c.world.inside.machine) (world_of c.resume.new.m) c.spend-number.result (sent_of c.args.sent) c.args.budget (told_begun c.in-Ok.begun) c.world.invariant c.in-Ok.ensures

pub invariant_of-world-in-Err : goal.invariant_of-world-in-Err
invariant_of-world-in-Err c =
    let m = c.forget_code.new.m in bare_sound m.sources m.modules m.heap m.codes.items m.printed.items (map frozen_of m.stack.frozen) m.traces c.forget_code.ensures.sources c.forget_code.ensures.codes (ap (map frozen_of) c.forget_code.ensures.frozen)

pub returns-in-Ok-clause-told : goal.returns-in-Ok-clause-told
returns-in-Ok-clause-told c =
    rw (← c.spend-number.ensures) (resume_told (world_of c.world.inside.machine) (world_of c.resume.new.m) c.spend-number.result (sent_of c.args.sent) c.args.budget (told_begun c.in-Ok.begun) c.world.invariant c.in-Ok.ensures
    ∙ ap (source_resume c.spend-number.result (sent_of c.args.sent) c.args.budget) c.world.view_is)

pub returns-in-Ok-clause-steps : goal.returns-in-Ok-clause-steps
returns-in-Ok-clause-steps c = subst (λ (t : ToldBegun core_kinds). t.0.steps ≤ c.args.budget) c.in-Ok.ensures (resume_within core c.spend-number.result (sent_of c.args.sent) c.args.budget (world_of c.world.inside.machine))

pub returns-in-Ok-clause-frames : goal.returns-in-Ok-clause-frames
returns-in-Ok-clause-frames c =
    let told : (told_begun c.in-Ok.begun, source_view (world_of c.resume.new.m)) ≡ source_resume c.args.frozen (sent_of c.args.sent) c.args.budget c.args.world.now =
    rw (← c.spend-number.ensures) (resume_told (world_of c.world.inside.machine) (world_of c.resume.new.m) c.spend-number.result (sent_of c.args.sent) c.args.budget (told_begun c.in-Ok.begun) c.world.invariant c.in-Ok.ensures
    ∙ ap (source_resume c.spend-number.result (sent_of c.args.sent) c.args.budget) c.world.view_is) in
    subst (λ (t : ToldBegun source_kinds). FramesBehind t.0.out (abandon_of c.args.frozen c.args.world.now).frozen t.1.frozen) (sym told) (resumes_keep c.args.world.now c.args.frozen (sent_of c.args.sent) c.args.budget).frames
