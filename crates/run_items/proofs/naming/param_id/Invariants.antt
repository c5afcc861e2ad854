use Rattle.std.proofs.Common.{◌≡◌, drop}
use Rattle.fixture_world.specs.Items.{id_in}
use Rattle.run_items.proofs.naming.param_id.Given as goal

abbrev pub invariant-loop-param : goal.invariant-loop-param
invariant-loop-param l = id_in (drop l.param-index l.params) l.def ≡ id_in l.params l.def
