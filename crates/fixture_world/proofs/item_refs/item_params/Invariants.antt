use Rattle.std.proofs.Common.{◌≡◌, ◌++◌, drop, map}
use Rattle.fixture_world.specs.Items.{item_param}
use Rattle.fixture_world.proofs.item_refs.item_params.Given as goal

abbrev pub invariant-loop-param : goal.invariant-loop-param
invariant-loop-param l = l.copies ++ map item_param (drop l.param-index l.params) ≡ map item_param l.params
