-- The groups of the forms of core expressions.
use Rattle.py_core.specs.declared.expr.CoreExprKind as f
use Rattle.py_core.specs.declared.expr.CoreExprKind.{CoreExprKind}
use Rattle.py_core.specs.declared.expr.CoreExprKind.TheVariants as v
use Rattle.machine_expr.specs.declared.group.Group.{Group}
use Rattle.machine_expr.specs.declared.group.Group.TheVariants.{Leaf, Operator, Chain, Container}

abbrev pub group_of : CoreExprKind → Group
group_of (v.Name name) = Leaf
group_of (v.Number n) = Leaf
group_of (v.Text text) = Leaf
group_of v.True = Leaf
group_of v.False = Leaf
group_of v.None = Leaf
group_of (f.Paren' p a e) = Operator
group_of (f.Call' p a e q n es names) = Chain
group_of (f.Unary' op p a e) = Operator
group_of (f.Binary' p a l op q b r) = Operator
group_of (f.Compare' p a e ops q n es) = Chain
group_of (f.Not' p a e) = Operator
group_of (f.And' p a e q n es) = Chain
group_of (f.Or' p a e q n es) = Chain
group_of (f.IfElse' p a e q b c r d o) = Operator
group_of (f.Tuple' p n es) = Container
group_of (f.List' p n es) = Container
group_of (f.Dict' p n ks q m es) = Container
group_of (f.Attribute' p a e name) = Container
group_of (f.Subscript' p a e q b i) = Container
group_of (f.Slice' p a e from to by) = Container
group_of (f.SetTemp' t p a e) = Operator
group_of (v.Temp t) = Leaf
