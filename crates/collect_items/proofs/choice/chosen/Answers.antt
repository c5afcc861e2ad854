use Rattle.std.proofs.Common.{arith, ℕ}
use Rattle.collect_items.specs.Chosen.{is_chosen}
use Rattle.test_suite.specs.Suites.{numbered_item}
use Rattle.collect_items.proofs.Steps.{kept_at}
use Rattle.collect_items.proofs.choice.chosen.Goals as goal

pub loop-number-preserved : goal.loop-number-preserved
loop-number-preserved c =
    record {
      same = kept_at (λ (number : ℕ). is_chosen c.args.options.now c.args.heap.now (numbered_item c.args.items.now number)) c.args.numbers.now c.loop-number.number-index _ _ _ (omega arith) c.loop-number.invariant.same c.in_ok-push_chosen.ensures.same;
      within = c.in_ok-push_chosen.ensures.within c.loop-number.invariant.within;
    }
