use Rattle.std.proofs.Common.{◌≡◌, drop}
use Rattle.session_types.specs.Numbers.{among}
use Rattle.fixture_instances.specs.Items.{bound_names}
use Rattle.fixture_instances.proofs.items.is_bound.Given as goal

abbrev pub invariant-loop-one : goal.invariant-loop-one
invariant-loop-one g l = among l.name (bound_names (drop l.one-index l.bound)) ≡ among l.name (bound_names l.bound)
