-- The expressions that are noted when they begin: all that sources have.
use Rattle.run_tree.specs.Todo.{Note}
use Rattle.py_source.specs.declared.pos.Pos.{Pos}
use Rattle.py_core.specs.declared.expr.CoreExprKind as f
use Rattle.py_core.specs.declared.expr.CoreExprKind.{CoreExprKind}
use Rattle.py_core.specs.declared.expr.CoreExprKind.TheVariants as v
use Rattle.machine_state.specs.Places.{CoreRest}

abbrev pub with_note : Pos → CoreExprKind → CoreRest → CoreRest
with_note at (f.SetTemp' t p a e) u = u
with_note at (v.Temp t) u = u
with_note at (v.Name name) u = Note at u
with_note at (v.Number n) u = Note at u
with_note at (v.Text text) u = Note at u
with_note at v.True u = Note at u
with_note at v.False u = Note at u
with_note at v.None u = Note at u
with_note at (f.Paren' p a e) u = Note at u
with_note at (f.Call' p a e q n es names) u = Note at u
with_note at (f.Unary' op p a e) u = Note at u
with_note at (f.Binary' p a l op q b r) u = Note at u
with_note at (f.Compare' p a e ops q n es) u = Note at u
with_note at (f.Not' p a e) u = Note at u
with_note at (f.And' p a e q n es) u = Note at u
with_note at (f.Or' p a e q n es) u = Note at u
with_note at (f.IfElse' p a e q b c r d o) u = Note at u
with_note at (f.Tuple' p n es) u = Note at u
with_note at (f.List' p n es) u = Note at u
with_note at (f.Dict' p n ks q m es) u = Note at u
with_note at (f.Attribute' p a e name) u = Note at u
with_note at (f.Subscript' p a e q b i) u = Note at u
with_note at (f.Slice' p a e from to by) u = Note at u
