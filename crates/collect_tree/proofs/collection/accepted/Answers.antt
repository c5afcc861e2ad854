use Rattle.std.proofs.Common.{ℕ, ◌<◌, ◌≤◌, ◌-◌, List, length, subst, ap, ◌∙◌}
use Rattle.std.specs.Prelude.{All}
use Rattle.collect_items.specs.Chosen.{is_chosen}
use Rattle.report_parts.specs.Limits.{most_items}
use Rattle.report_parts.specs.declared.report.CollectReport.{CollectReport}
use Rattle.test_suite.specs.Suites.{numbered_item}
use Rattle.test_suite.specs.declared.item.Item.{Item}
use Rattle.collect_tree.proofs.Ends.{few_accepted}
use Rattle.collect_tree.proofs.collection.accepted.Goals as goal

pub returns-clause-within : goal.returns-clause-within
returns-clause-within c =
    record {
      numbers = subst (λ (items : List Item). All (λ one. one < length items) c.in_ok-selected.selected) c.items-items.ensures c.in_ok-selected.ensures.within;
      few = few_accepted (λ (number : ℕ). is_chosen c.args.options.now c.heap.result.now (numbered_item c.items-items.result.now number)) c.args.numbers.now c.in_ok-selected.selected c.in_ok-deselected.deselected most_items
          c.in_ok-selected.ensures.same (c.in_ok-deselected.ensures ∙ ap (λ (ns : List ℕ). length c.args.numbers.now - length ns) c.items.ensures) c.requires.few;
      errors = subst (λ (errors : List CollectReport). length errors ≤ most_items) c.deref.ensures.value c.in_ok-limited.ensures;
      suite = c.requires.runnable;
    }
