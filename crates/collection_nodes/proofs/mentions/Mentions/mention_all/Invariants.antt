use Rattle.std.proofs.Common.{◌≡◌, drop}
use Rattle.collection_nodes.specs.Texts.{with_mentions}
use Rattle.collection_nodes.proofs.mentions.Mentions.mention_all.Given as goal

abbrev pub invariant-loop-text : goal.invariant-loop-text
invariant-loop-text l = with_mentions l.self (drop l.text-index l.more) ≡ with_mentions l.initial.self l.more
