use Rattle.std.proofs.Common.{ℕ, List, ◌++◌, ap, ◌∙◌, arith}
use Rattle.std.specs.List.{flat_map}
use Rattle.std.proofs.lemmas.List.{take_all}
use Rattle.param_rows.specs.Grouping.{same_key}
use Rattle.param_rows.proofs.Gathered.{grouped_is}
use Rattle.param_rows.proofs.grouping.push_grouped.Goals as goal

pub returns : goal.returns
returns c =
    c.loop-group.invariant
    ∙ ap (λ (gs : List (List ℕ)). c.args.new.now.items ++ flat_map (λ (g : List ℕ). g) gs) (take_all c.loop-group.group-index c.deref-group-items.result.now (omega arith) ∙ c.deref-group-items.ensures.value ∙ c.in_ok-groups.ensures)
    ∙ ap (λ (ys : List ℕ). c.args.new.now.items ++ ys) (grouped_is (same_key c.args.keys.now) c.args.order.now)
