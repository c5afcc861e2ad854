use Rattle.setup_stack.proofs.tearing.tear.Goals as goal

pub resume_rest-requires : goal.resume_rest-requires
resume_rest-requires g c = record { out = c.requires.out }
