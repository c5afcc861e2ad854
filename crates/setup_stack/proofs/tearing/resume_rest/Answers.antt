use Rattle.fixture_instances.specs.Views.{body_end}
use Rattle.setup_stack.proofs.Outs.{yielded_out}
use Rattle.setup_stack.proofs.tearing.resume_rest.Goals as goal

pub resume-requires : goal.resume-requires
resume-requires g c = record { out = c.requires.out c.in-Some.rest c.in-Some.is }

pub end_rest-requires : goal.end_rest-requires
end_rest-requires g c =
    let rules = g.W.Executor.rules c.args.setting.now in
    let w = c.args.world.now in
    let rest = c.in-Some.rest in
    record {
      out = yielded_out rules g.W.Executor.is_out rest w c.resume.new.self (rules.resume rest w) (body_end rules c.in_ok-end-in-Some.end) c.in_ok-end-in-Some.ensures.how c.in_ok-end-in-Some.ensures.world
          ((g.met.W.Executor.keeps c.args.setting.now).resume rest w (c.requires.out rest c.in-Some.is));
    }
