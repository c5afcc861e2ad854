-- The statements that import (Language Reference, the import statement).
use Rattle.std.specs.Prelude.{Bool, true, false}
use Rattle.py_core.specs.declared.stmt.CoreStmtKind as f
use Rattle.py_core.specs.declared.stmt.CoreStmtKind.{CoreStmtKind}
use Rattle.py_core.specs.declared.stmt.CoreStmtKind.TheVariants as v

abbrev pub is_import : CoreStmtKind → Bool
is_import (v.Expr e) = false
is_import (v.Assign ts e) = false
is_import (v.AugAssign t op e) = false
is_import (v.Return e) = false
is_import (v.FailWith template message) = false
is_import (v.Global names) = false
is_import (v.Yield e given) = false
is_import (v.Raise e) = false
is_import (v.Del t) = false
is_import v.Pass = false
is_import v.Break = false
is_import v.Continue = false
is_import (f.If' p n branches q other) = false
is_import (f.While' e p body) = false
is_import (f.Def' ds es p fn) = false
is_import (f.For' t e p body) = false
is_import (f.Try' p body q g) = false
is_import (f.With' e name p body) = false
is_import (f.Class' ds base p c) = false
is_import (v.Import names alias) = true
is_import (v.ImportFrom names all) = true
