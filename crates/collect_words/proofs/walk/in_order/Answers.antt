use Rattle.std.proofs.Common.{◌∙◌, List, ap}
use Rattle.std.proofs.lemmas.List.Filters.{dedup_is}
use Rattle.collect_words.specs.Keys.{Key, key_paths}
use Rattle.collect_words.proofs.Order.{walk_from_keys}
use Rattle.collect_words.proofs.walk.in_order.Goals as goal

pub returns : goal.returns
returns c =
    walk_from_keys _ _ _ _ _ c.in_ok-keys.ensures.same c.in_ok-keys.ensures.keyed c.in_ok-sort.ensures.permutation c.in_ok-sort.ensures.sorted
    (c.in_ok-sorted.ensures ∙ ap (λ (keys : List Key). key_paths keys) c.deref.ensures.value) (dedup_is _ _ _ c.dedup.ensures.filtered)
