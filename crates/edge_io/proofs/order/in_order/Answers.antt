use Rattle.std.proofs.lemmas.List.Filters.{dedup_is}
use Rattle.edge_io.proofs.Paths.{deduped_order, deduped_members}
use Rattle.edge_io.proofs.order.in_order.Goals as goal

pub returns-clause-order : goal.returns-clause-order
returns-clause-order c = deduped_order _ _ c.in_ok-sort.ensures.sorted (dedup_is _ _ _ c.dedup.ensures.filtered)

pub returns-clause-same : goal.returns-clause-same
returns-clause-same c = deduped_members _ _ _ c.in_ok-sort.ensures.permutation (dedup_is _ _ _ c.dedup.ensures.filtered)
