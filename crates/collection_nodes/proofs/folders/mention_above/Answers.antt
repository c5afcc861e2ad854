use Rattle.std.proofs.Common.{ℕ, take}
use Rattle.collection_nodes.specs.Tree.{parts_at}
use Rattle.collection_nodes.proofs.Steps.{mentioned_step}
use Rattle.collection_nodes.proofs.folders.mention_above.Goals as goal

pub loop-at-preserved : goal.loop-at-preserved
loop-at-preserved c = mentioned_step (λ (end : ℕ). take end c.args.path.now) (parts_at c.args.path.now) c.loop-at.at _ _ _ c.loop-at.invariant c.in_ok-mention_at.ensures
