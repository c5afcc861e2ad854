-- The groups of the forms of a source's expressions and statements (Language Reference, expressions; simple statements; compound
-- statements).
use Rattle.py_tree.specs.declared.expr.ExprKind as e
use Rattle.py_tree.specs.declared.expr.ExprKind.{ExprKind}
use Rattle.py_tree.specs.declared.expr.ExprKind.TheVariants as v
use Rattle.py_tree.specs.declared.stmt.StmtKind as s
use Rattle.py_tree.specs.declared.stmt.StmtKind.{StmtKind}
use Rattle.py_tree.specs.declared.stmt.StmtKind.TheVariants as w
use Rattle.assert_rewrite.specs.declared.groups.ExprGroup.{ExprGroup}
use Rattle.assert_rewrite.specs.declared.groups.ExprGroup.TheVariants.{Leaf, Operator, Chain, Container}
use Rattle.assert_rewrite.specs.declared.groups.WatchGroup.{WatchGroup}
use Rattle.assert_rewrite.specs.declared.groups.WatchGroup.TheVariants.{Whole, Between, Row, Came}
use Rattle.assert_rewrite.specs.declared.groups.StmtGroup.{StmtGroup}
use Rattle.assert_rewrite.specs.declared.groups.StmtGroup.TheVariants.{Simple, Naming, Yielding, Compound}

abbrev pub expr_group : ExprKind → ExprGroup
expr_group (v.Name name) = Leaf
expr_group (v.Number n) = Leaf
expr_group (v.Text text) = Leaf
expr_group v.True = Leaf
expr_group v.False = Leaf
expr_group v.None = Leaf
expr_group (e.Paren' p a x) = Operator
expr_group (e.Tuple' p n row) = Container
expr_group (e.List' p n row) = Container
expr_group (e.Dict' p n keys q m row) = Container
expr_group (e.Attribute' p a x name) = Container
expr_group (e.Call' p a x q n row names) = Chain
expr_group (e.Subscript' p a x q b y) = Container
expr_group (e.Slice' p a x from to by) = Container
expr_group (e.Unary' op p a x) = Operator
expr_group (e.Binary' p a x op q b y) = Operator
expr_group (e.Compare' p a x ops q n row) = Chain
expr_group (e.Not' p a x) = Operator
expr_group (e.And' p a x q n row) = Chain
expr_group (e.Or' p a x q n row) = Chain
expr_group (e.IfElse' p a x q b y r c z) = Operator

-- the groups of the forms of a condition that is explained
abbrev pub watch_group : ExprKind → WatchGroup
watch_group (v.Name name) = Whole
watch_group (v.Number n) = Whole
watch_group (v.Text text) = Whole
watch_group v.True = Whole
watch_group v.False = Whole
watch_group v.None = Whole
watch_group (e.Paren' p a x) = Between
watch_group (e.Tuple' p n row) = Whole
watch_group (e.List' p n row) = Whole
watch_group (e.Dict' p n keys q m row) = Whole
watch_group (e.Attribute' p a x name) = Came
watch_group (e.Call' p a x q n row names) = Came
watch_group (e.Subscript' p a x q b y) = Whole
watch_group (e.Slice' p a x from to by) = Whole
watch_group (e.Unary' op p a x) = Between
watch_group (e.Binary' p a x op q b y) = Between
watch_group (e.Compare' p a x ops q n row) = Row
watch_group (e.Not' p a x) = Between
watch_group (e.And' p a x q n row) = Row
watch_group (e.Or' p a x q n row) = Row
watch_group (e.IfElse' p a x q b y r c z) = Whole

abbrev pub stmt_group : StmtKind → StmtGroup
stmt_group (w.Expr x) = Simple
stmt_group (w.Assign ts x) = Simple
stmt_group (w.AssignYield ts y) = Yielding
stmt_group (w.AugAssign t op x) = Simple
stmt_group (w.Return x) = Simple
stmt_group (w.ReturnYield y) = Yielding
stmt_group (w.Raise x) = Simple
stmt_group (w.Assert x message) = Simple
stmt_group (w.Del t) = Simple
stmt_group (w.Global names) = Naming
stmt_group w.Pass = Simple
stmt_group w.Break = Simple
stmt_group w.Continue = Simple
stmt_group (w.Yield y) = Yielding
stmt_group (w.Import names alias) = Naming
stmt_group (w.ImportFrom names all) = Naming
stmt_group (s.If' p n branches q m other) = Compound
stmt_group (s.While' x p n body) = Compound
stmt_group (s.For' t x p n body) = Compound
stmt_group (s.Try' p n body q m handlers r k other o l last) = Compound
stmt_group (s.With' x name p n body) = Compound
stmt_group (s.Def' p function) = Compound
stmt_group (s.Class' p class) = Compound
