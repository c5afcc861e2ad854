use Rattle.std.proofs.Common.{◌≡◌, map, take}
use Rattle.collection_nodes.specs.Texts.{number_among}
use Rattle.collection_nodes.proofs.mentions.Mentions.numbers.Given as goal

abbrev pub invariant-loop-text : goal.invariant-loop-text
invariant-loop-text l = l.numbers ≡ map (number_among l.self) (take l.text-index l.some)
