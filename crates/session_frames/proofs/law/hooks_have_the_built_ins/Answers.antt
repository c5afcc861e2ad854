use Rattle.session_frames.proofs.BuiltIns.{have_built_ins}
use Rattle.session_frames.proofs.law.hooks_have_the_built_ins.Goals as goal

pub returns : goal.returns
returns c = have_built_ins c.built_ins_are_there.ensures
