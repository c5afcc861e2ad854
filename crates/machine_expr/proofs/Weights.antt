-- An expression weighs something.
use Rattle.std.proofs.Common.{◌<◌, arith}
use Rattle.py_core.specs.declared.expr.CoreExprKind as f
use Rattle.py_core.specs.declared.expr.CoreExprKind.{CoreExprKind}
use Rattle.py_core.specs.declared.expr.CoreExprKind.TheVariants as v
use Rattle.machine_state.specs.Work.{weight_at}

pub weighs : (kind : CoreExprKind) → 0 < weight_at kind
weighs (v.Name name) = omega arith
weighs (v.Number n) = omega arith
weighs (v.Text text) = omega arith
weighs v.True = omega arith
weighs v.False = omega arith
weighs v.None = omega arith
weighs (f.Paren' p a e) = omega arith
weighs (f.Call' p a e q n es names) = omega arith
weighs (f.Unary' op p a e) = omega arith
weighs (f.Binary' p a l op q b r) = omega arith
weighs (f.Compare' p a e ops q n es) = omega arith
weighs (f.Not' p a e) = omega arith
weighs (f.And' p a e q n es) = omega arith
weighs (f.Or' p a e q n es) = omega arith
weighs (f.IfElse' p a e q b c r d o) = omega arith
weighs (f.Tuple' p n es) = omega arith
weighs (f.List' p n es) = omega arith
weighs (f.Dict' p n ks q m es) = omega arith
weighs (f.Attribute' p a e name) = omega arith
weighs (f.Subscript' p a e q b i) = omega arith
weighs (f.Slice' p a e from to by) = omega arith
weighs (f.SetTemp' t p a e) = omega arith
weighs (v.Temp t) = omega arith
