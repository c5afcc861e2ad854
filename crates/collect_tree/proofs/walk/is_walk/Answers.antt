use Rattle.collect_tree.proofs.Walks.{is_walk}
use Rattle.collect_tree.proofs.walk.is_walk.Goals as goal

pub returns : goal.returns
returns c = is_walk
