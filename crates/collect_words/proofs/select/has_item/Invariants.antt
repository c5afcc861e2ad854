use Rattle.std.proofs.Common.{◌≡◌, drop}
use Rattle.std.specs.List.{list_any}
use Rattle.collect_words.specs.Nodes.{is_named}
use Rattle.collect_words.proofs.select.has_item.Given as goal

abbrev pub invariant-loop-item : goal.invariant-loop-item
invariant-loop-item l =
    list_any (is_named l.part) l.items ≡ list_any (is_named l.part) (drop l.item-index l.items)
