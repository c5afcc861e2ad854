-- The simple statements that do more than end (Language Reference, simple statements).
use Rattle.std.specs.Prelude.{Bool, true, false}
use Rattle.py_core.specs.declared.stmt.CoreStmtKind as f
use Rattle.py_core.specs.declared.stmt.CoreStmtKind.{CoreStmtKind}
use Rattle.py_core.specs.declared.stmt.CoreStmtKind.TheVariants as v

abbrev pub is_simple : CoreStmtKind → Bool
is_simple (v.Expr e) = true
is_simple (v.Assign ts e) = true
is_simple (v.AugAssign t op e) = true
is_simple (v.Return e) = true
is_simple (v.FailWith template message) = true
is_simple (v.Global names) = true
is_simple (v.Yield e given) = true
is_simple (v.Raise e) = true
is_simple (v.Del t) = true
is_simple v.Pass = false
is_simple v.Break = false
is_simple v.Continue = false
is_simple (f.If' p n branches q other) = false
is_simple (f.While' e p body) = false
is_simple (f.Def' ds es p fn) = false
is_simple (f.For' t e p body) = false
is_simple (f.Try' p body q g) = false
is_simple (f.With' e name p body) = false
is_simple (f.Class' ds base p c) = false
is_simple (v.Import names alias) = false
is_simple (v.ImportFrom names all) = false
