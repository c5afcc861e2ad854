use Rattle.std.proofs.Common.{◌≡◌, take}
use Rattle.py_tree.specs.Statements.{parameters}
use Rattle.lower_law.specs.core_meaning.Statements.{written as core_written}
use Rattle.lower_law.specs.source_meaning.Statements.{source_written}
use Rattle.assert_rewrite.proofs.parameters.core_params.Given as goal

abbrev pub invariant-loop-param : goal.invariant-loop-param
invariant-loop-param l = core_written l.done.items ≡ source_written (parameters (take l.param-index l.params))
