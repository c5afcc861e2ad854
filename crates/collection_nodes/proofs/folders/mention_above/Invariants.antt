use Rattle.std.proofs.Common.{◌≡◌, map, take}
use Rattle.std.specs.List.{filter, range_with_len}
use Rattle.collection_nodes.specs.Texts.{with_mentions}
use Rattle.collection_nodes.specs.Tree.{parts_at}
use Rattle.collection_nodes.proofs.folders.mention_above.Given as goal

abbrev pub invariant-loop-at : goal.invariant-loop-at
invariant-loop-at l = l.folders ≡ with_mentions l.initial.folders (map (λ end. take end l.path) (filter (parts_at l.path) (range_with_len 0 l.at)))
