use Rattle.std.proofs.Common.{◌≡◌, ◌++◌, drop}
use Rattle.machine_state.specs.py_world.Definitions.{with_defaults}
use Rattle.machine_state.specs.core_meaning.Statements.{written}
use Rattle.machine_define.proofs.parameters.params_of.Given as goal

abbrev pub invariant-loop-param : goal.invariant-loop-param
invariant-loop-param l = l.params.items ++ with_defaults (written (drop l.param-index l.all)) (drop l.next l.values) ≡ with_defaults (written l.all) l.values
