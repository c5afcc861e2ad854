use Rattle.std.proofs.Common.{◌≡◌, ◌++◌, ◌<◌, length, drop}
use Rattle.std.specs.Prelude.{All}
use Rattle.collect_items.specs.Chosen as choice
use Rattle.collect_items.proofs.choice.chosen.Given as goal

abbrev pub invariant-loop-number : goal.invariant-loop-number
invariant-loop-number l =
    record {
      same : l.chosen ++ choice.chosen l.options l.heap l.items (drop l.number-index l.numbers) ≡ choice.chosen l.options l.heap l.items l.numbers;
      within : All (λ number. number < length l.items) l.chosen;
    }
