-- The lowered forms of statements with a `yield`, for the tactics.
use Rattle.std.proofs.Common.{◌≡◌, Bool, List, Option, sym, ap, subst, Vec}
use Rattle.std.specs.declared.alloc.Global.{Global}
use Rattle.std.specs.declared.rc.Rc.{Rc}
use Rattle.py_source.specs.declared.pos.Pos.{Pos}
use Rattle.py_tree.specs.declared.stmt.StmtKind.{StmtKind}
use Rattle.py_tree.specs.declared.stmt.StmtKind.TheVariants as s
use Rattle.py_tree.specs.declared.stmt.Target.{Target}
use Rattle.py_tree.specs.declared.stmt.Yield.{Yield}
use Rattle.py_tree.specs.Statements.{takers}
use Rattle.py_core.specs.declared.expr.CoreExpr.{CoreExpr}
use Rattle.py_core.specs.declared.stmt.CoreStmtKind.TheVariants as c
use Rattle.py_core.specs.declared.stmt.CoreTarget.{CoreTarget}
use Rattle.py_core.specs.declared.stmt.CoreUse.{CoreUse}
use Rattle.py_core.specs.declared.stmt.CoreUse.TheVariants as taken
use Rattle.lower_law.specs.source_meaning.Requests as source
use Rattle.lower_law.specs.Lowered as low
use Rattle.lower_law.specs.Lowered.{LoweredUse}
use Rattle.assert_rewrite.specs.Lowers.{LowersSome, LowersTargets, LowersUse, LowersStatement}

pub use_form : (ts : Rc (Vec Target Global) Global) (copy : Rc (Vec Target Global) Global) (xs : Rc (Vec CoreTarget Global) Global) → copy.value ≡ ts.value → LowersTargets ts.value.items xs.value.items → LowersUse ts.value.items (taken.Targets copy xs)
use_form ts copy xs same h = record { by = λ b. low.LoweredUse.targets (ap (λ (v : Vec Target Global). takers v.items) same) (h.by b) }

pub ruleset uses = (use_form)

module _ (z : Bool) (at : Pos) (kind : StmtKind) where
  pub yield_form : (y : Yield) (x : Option (Rc CoreExpr Global)) (u : Rc CoreUse Global) → kind ≡ s.Yield y → LowersSome y.value x → u.value ≡ taken.NoUse → LowersStatement z at kind (c.Yield x u)
  yield_form y x u is h used = rw is (record { by = λ b. low.LoweredStatement.yields at y.at (subst (λ (t : CoreUse). LoweredUse source.NoUse t) (sym used) low.LoweredUse.no_use) (h.by b) })

  pub assign_form : (ts : Rc (Vec Target Global) Global) (y : Yield) (x : Option (Rc CoreExpr Global)) (t : CoreUse) (u : Rc CoreUse Global) → kind ≡ s.AssignYield ts y → LowersSome y.value x → LowersUse ts.value.items t → u.value ≡ t → LowersStatement z at kind (c.Yield x u)
  assign_form ts y x t u is h g used =
      rw is (record { by = λ b. low.LoweredStatement.assign_yield at y.at (subst (λ (t : CoreUse). LoweredUse (source.Targets (takers ts.value.items)) t) (sym used) (g.by b.0)) (h.by b.1) })

  pub return_form : (y : Yield) (x : Option (Rc CoreExpr Global)) (u : Rc CoreUse Global) → kind ≡ s.ReturnYield y → LowersSome y.value x → u.value ≡ taken.Return → LowersStatement z at kind (c.Yield x u)
  return_form y x u is h used = rw is (record { by = λ b. low.LoweredStatement.return_yield at y.at (subst (λ (t : CoreUse). LoweredUse source.ReturnIt t) (sym used) low.LoweredUse.return_it) (h.by b) })

pub ruleset forms = (yield_form, assign_form, return_form)
