use Rattle.std.proofs.Common.{◌≡◌, ◌++◌, drop}
use Rattle.std.specs.List.{flat_map}
use Rattle.collect_fixtures.specs.Closures.{asks_for}
use Rattle.collect_fixtures.proofs.closures.asked_for_all.Given as goal

abbrev pub invariant-loop-name : goal.invariant-loop-name
invariant-loop-name l = l.asked ++ flat_map (asks_for l.table l.names l.item l.bound) (drop l.name-index l.some) ≡ flat_map (asks_for l.table l.names l.item l.bound) l.some
