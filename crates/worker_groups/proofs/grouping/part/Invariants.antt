use Rattle.std.proofs.Common.{◌≡◌, take}
use Rattle.std.specs.List.{filter}
use Rattle.worker_groups.specs.Numbers.{is_at_place, is_elsewhere}
use Rattle.worker_groups.proofs.grouping.part.Given as goal

abbrev pub invariant-loop-number : goal.invariant-loop-number
invariant-loop-number l = record {
  mine : l.mine.items ≡ filter (is_at_place l.places l.place) (take l.number-index l.numbers);
  others : l.others.items ≡ filter (is_elsewhere l.places l.place) (take l.number-index l.numbers);
}
