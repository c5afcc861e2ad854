use Rattle.std.proofs.Common.{◌≡◌, false, [], drop}
use Rattle.py_context.proofs.StatementPlaces.{param_list}
use Rattle.py_context.proofs.statements.in_params.Given as goal

abbrev pub invariant-loop-param : goal.invariant-loop-param
invariant-loop-param l = param_list l.globals l.before.items l.defaulted (drop l.param-index l.params) ≡ param_list l.globals [] false l.params
