-- The work of a failure.
use Rattle.std.specs.Prelude.{ℕ, ◌+◌, Option, Some, None}
use Rattle.std.specs.declared.alloc.Global.{Global}
use Rattle.std.specs.declared.rc.Rc.{Rc}
use Rattle.py_core.specs.declared.expr.CoreExpr.{CoreExpr}
use Rattle.machine_unwind.specs.machine_state.Work.{weight}

abbrev pub failure_work : Option (Rc CoreExpr Global) → ℕ
failure_work (Some e) = weight e.value + 3
failure_work None = 1
