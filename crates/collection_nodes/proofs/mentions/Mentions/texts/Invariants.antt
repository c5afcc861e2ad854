use Rattle.std.proofs.Common.{◌≡◌, take}
use Rattle.collection_nodes.proofs.mentions.Mentions.texts.Given as goal

abbrev pub invariant-loop-number : goal.invariant-loop-number
invariant-loop-number l = l.list ≡ take l.number l.self
