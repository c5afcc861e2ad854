use Rattle.std.proofs.Common.{[], refl}
use Rattle.py_tree.specs.Statements.{NoStatement, Next, NoHandler, Pass, YieldOf}
use Rattle.py_tree.specs.Trees.{Absent}
use Rattle.py_values.specs.Ends.{id_at}
use Rattle.py_values.specs.declared.value.Value.TheVariants as val
use Rattle.core_rules.specs.Examples.{function_that_tries}
use Rattle.core_rules.specs.Yields.{alone, in_first, in_try}
use Rattle.core_rules.proofs.a_yield_is_come_to.Goals as goal

pub returns : goal.returns
returns c = λ at. (
  _,
  record { id = id_at 0; function = function_that_tries; all = []; is = refl; found = refl; coded = refl; yields = refl; fits = refl },
  in_first (in_try at (Next NoStatement (YieldOf at at Absent)) NoHandler NoStatement (Next NoStatement (Pass at)) (in_first (alone at at Absent [] val.None refl))),
)
