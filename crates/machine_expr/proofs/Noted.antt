-- A run of an expression goes on as if nothing were noted.
use Rattle.std.proofs.Common.{◌≡◌, ◌∙◌, ℕ, refl, sym, ap}
use Rattle.py_source.specs.declared.pos.Pos.{Pos}
use Rattle.py_core.specs.declared.expr.CoreExprKind as f
use Rattle.py_core.specs.declared.expr.CoreExprKind.{CoreExprKind}
use Rattle.py_core.specs.declared.expr.CoreExprKind.TheVariants as v
use Rattle.machine_state.specs.Places.{CoreRest, ends}
use Rattle.machine_state.proofs.Costs.{ends_note}
use Rattle.machine_expr.specs.Noting.{with_note}

pub ends_noted : (n : ℕ) (at : Pos) (kind : CoreExprKind) (u : CoreRest) → ends n (with_note at kind u) ≡ ends n u
ends_noted n at (f.SetTemp' t p a e) u = refl
ends_noted n at (v.Temp t) u = refl
ends_noted n at (v.Name name) u = ends_note n at u
ends_noted n at (v.Number z) u = ends_note n at u
ends_noted n at (v.Text text) u = ends_note n at u
ends_noted n at v.True u = ends_note n at u
ends_noted n at v.False u = ends_note n at u
ends_noted n at v.None u = ends_note n at u
ends_noted n at (f.Paren' p a e) u = ends_note n at u
ends_noted n at (f.Call' p a e q m es names) u = ends_note n at u
ends_noted n at (f.Unary' op p a e) u = ends_note n at u
ends_noted n at (f.Binary' p a l op q b r) u = ends_note n at u
ends_noted n at (f.Compare' p a e ops q m es) u = ends_note n at u
ends_noted n at (f.Not' p a e) u = ends_note n at u
ends_noted n at (f.And' p a e q m es) u = ends_note n at u
ends_noted n at (f.Or' p a e q m es) u = ends_note n at u
ends_noted n at (f.IfElse' p a e q b c r d o) u = ends_note n at u
ends_noted n at (f.Tuple' p m es) u = ends_note n at u
ends_noted n at (f.List' p m es) u = ends_note n at u
ends_noted n at (f.Dict' p m ks q l es) u = ends_note n at u
ends_noted n at (f.Attribute' p a e name) u = ends_note n at u
ends_noted n at (f.Subscript' p a e q b i) u = ends_note n at u
ends_noted n at (f.Slice' p a e from to by) u = ends_note n at u

-- an expression begins, and its run goes on
pub evaluates : (n n' : ℕ) (at : Pos) (kind : CoreExprKind) (u t : CoreRest) → with_note at kind u ≡ t → n' ≡ n → ends n' u ≡ ends n t
evaluates n n' at kind u t h l = ap (λ (m : ℕ). ends m u) l ∙ sym (ends_noted n at kind u) ∙ ap (ends n) h

-- one that begins as a part of it does
pub begins_as : (n n' : ℕ) (at : Pos) (kind : CoreExprKind) (t part whole : CoreRest) → ends n' t ≡ ends n part → with_note at kind part ≡ whole → ends n' t ≡ ends n whole
begins_as n n' at kind t part whole h e = h ∙ sym (ends_noted n at kind part) ∙ ap (ends n) e
