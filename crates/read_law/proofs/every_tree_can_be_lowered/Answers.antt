use Rattle.read_law.proofs.Forms.{block_is}
use Rattle.read_law.proofs.every_tree_can_be_lowered.Goals as goal

pub returns : goal.returns
returns c = block_is
