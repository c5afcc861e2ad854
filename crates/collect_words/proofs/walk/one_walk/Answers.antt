use Rattle.collect_words.proofs.Order.{one_walk}
use Rattle.collect_words.proofs.walk.one_walk.Goals as goal

pub returns : goal.returns
returns c = one_walk
