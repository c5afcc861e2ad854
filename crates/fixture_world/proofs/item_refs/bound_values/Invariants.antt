use Rattle.std.proofs.Common.{◌≡◌, ◌++◌, drop, map}
use Rattle.fixture_world.specs.Items.{bound_argument}
use Rattle.fixture_world.proofs.item_refs.bound_values.Given as goal

abbrev pub invariant-loop-one : goal.invariant-loop-one
invariant-loop-one l = l.values ++ map bound_argument (drop l.one-index l.bound) ≡ map bound_argument l.bound
