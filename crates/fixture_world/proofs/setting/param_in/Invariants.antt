use Rattle.std.proofs.Common.{◌≡◌, drop}
use Rattle.runtest_rules.specs.Rules.{param_value}
use Rattle.fixture_world.proofs.setting.param_in.Given as goal

abbrev pub invariant-loop-param : goal.invariant-loop-param
invariant-loop-param l = param_value (drop l.param-index l.params) l.def ≡ param_value l.params l.def
