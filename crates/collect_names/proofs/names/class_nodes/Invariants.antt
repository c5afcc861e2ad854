use Rattle.std.proofs.Common.{◌≡◌, ◌++◌, drop}
use Rattle.std.specs.Prelude.{flat_map}
use Rattle.collect_names.specs.Found.{is_class_node}
use Rattle.collect_names.proofs.Entries.{kept_one}
use Rattle.collect_names.proofs.names.class_nodes.Given as goal

abbrev pub invariant-loop-at : goal.invariant-loop-at
invariant-loop-at l =
    l.classes.items ++ flat_map (kept_one (is_class_node l.heap) (λ entry. entry.0)) (drop l.at l.names)
    ≡ flat_map (kept_one (is_class_node l.heap) (λ entry. entry.0)) l.names
