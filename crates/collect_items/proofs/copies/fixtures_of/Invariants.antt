use Rattle.std.proofs.Common.{◌≡◌, map, take}
use Rattle.collect_items.specs.Items.{defined_fixture}
use Rattle.collect_items.proofs.copies.fixtures_of.Given as goal

abbrev pub invariant-loop-one : goal.invariant-loop-one
invariant-loop-one l = l.fixtures ≡ map defined_fixture (take l.one-index l.definitions)
