use Rattle.std.proofs.Common.{◌≡◌, drop}
use Rattle.fixture_instances.specs.Items.{parameter_in}
use Rattle.fixture_instances.proofs.items.parameter_in.Given as goal

abbrev pub invariant-loop-param : goal.invariant-loop-param
invariant-loop-param g l = parameter_in (drop l.param-index l.params) l.def ≡ parameter_in l.params l.def
