use Rattle.std.proofs.Common.{◌≡◌, [], map, take, get_or}
use Rattle.param_rows.specs.Grouping.{firsts, same_key}
use Rattle.param_rows.specs.Gathering.{groups_of}
use Rattle.param_rows.proofs.grouping.groups_of.Given as goal

abbrev pub invariant-loop-place : goal.invariant-loop-place
invariant-loop-place l =
    (l.numbers.keys ≡ map (λ place. get_or l.keys place []) (firsts (same_key l.keys) [] (take l.place-index l.order)))
    × (l.groups.items ≡ groups_of (same_key l.keys) (take l.place-index l.order))
