use Rattle.setup_stack.proofs.tearing.end_rest.Goals as goal

pub abandon-requires : goal.abandon-requires
abandon-requires g c = record { out = rw c.in-Yielded.is at c.requires.out }
