-- The lowered forms of simple statements, for the tactics.
use Rattle.std.proofs.Common.{◌≡◌, ℕ, Bool, List, [], ◌∷◌, Option, refl, ap, ◌∙◌, Vec}
use Rattle.std.specs.declared.alloc.Global.{Global}
use Rattle.std.specs.declared.rc.Rc.{Rc}
use Rattle.std.specs.Prelude.{true as explained, false as plain}
use Rattle.py_source.specs.declared.pos.Pos.{Pos}
use Rattle.py_tree.specs.declared.expr.Expr.{Expr}
use Rattle.py_tree.specs.declared.op.BinOp.{BinOp}
use Rattle.py_tree.specs.declared.stmt.Single.{Single}
use Rattle.py_tree.specs.declared.stmt.Alias.{Alias}
use Rattle.py_tree.specs.declared.stmt.Stmt.{Stmt}
use Rattle.py_tree.specs.declared.stmt.StmtKind.{StmtKind}
use Rattle.py_tree.specs.declared.stmt.StmtKind.TheVariants as s
use Rattle.py_tree.specs.declared.stmt.Target.{Target}
use Rattle.py_tree.specs.Trees.{Tree, Maybe, tree, some_tree}
use Rattle.py_tree.specs.Statements as st
use Rattle.py_core.specs.Blocks.{stmts_in}
use Rattle.py_core.specs.declared.expr.CoreExpr.{CoreExpr}
use Rattle.py_core.specs.declared.stmt.CoreBlock.{CoreBlock, roll-CoreBlock}
use Rattle.py_core.specs.declared.stmt.CoreBranch.{CoreBranch, roll-CoreBranch}
use Rattle.py_core.specs.declared.stmt.CoreSingle.{CoreSingle}
use Rattle.py_core.specs.declared.stmt.CoreStmt.{CoreStmt}
use Rattle.py_core.specs.declared.stmt.CoreStmtKind.{CoreStmtKind}
use Rattle.py_core.specs.declared.stmt.CoreStmtKind.TheBlock.{items_hidden-the_row-CoreStmt-1 as core_items_hidden, hidden-the_row-CoreStmt-1, items_hidden-the_row-CoreBranch-0 as core_branches_hidden}
use Rattle.py_core.specs.declared.stmt.CoreStmtKind.TheVariants as c
use Rattle.py_core.specs.declared.stmt.CoreTarget.{CoreTarget}
use Rattle.py_core.specs.declared.stmt.Template.TheVariants.{Plain, Explain}
use Rattle.lower_law.specs.Lowered as low
use Rattle.lower_law.specs.Lowered.{Watched, LoweredExpr, LoweredSome, LoweredStatement, core_at}
use Rattle.assert_rewrite.specs.Lowers.{Lowers, Watches, LowersSome, LowersSingle, LowersTargets, LowersStatement, EmptyBranch, empty}

-- a block of core with these statements
pub items_rolled : (source : Rc (Vec Stmt Global) Global) (x : Bool) (stmts : Vec CoreStmt Global) → stmts_in (roll-CoreBlock (record { source = source; explains = x; stmts = stmts })) ≡ stmts.items
unfolding roll-CoreBlock denote.Hole.Carrier.roll hidden-the_row-CoreStmt-1
items_rolled source x stmts = core_items_hidden stmts

pub bare_form : (source : Rc (Vec Stmt Global) Global) (x : Bool) (stmts : Vec CoreStmt Global) (b : Rc CoreBlock Global) → b.value ≡ roll-CoreBlock (record { source = source; explains = x; stmts = stmts }) → stmts_in b.value ≡ stmts.items
bare_form source x stmts b is = ap stmts_in is ∙ items_rolled source x stmts

pub ruleset bare_blocks = (bare_form)

-- an assert at its place
branch_empty : (at : Pos) (x : Rc CoreExpr Global) (body : Rc CoreBlock Global) → stmts_in body.value ≡ [] → EmptyBranch at x (roll-CoreBranch (record { at = at; condition = x; body = body }) ∷ [])
unfolding roll-CoreBranch denote.Hole.Carrier.roll
branch_empty at x body none = empty none

pub empty_form : (at : Pos) (x : Rc CoreExpr Global) (body : Rc CoreBlock Global) (all : List CoreBranch) → all ≡ roll-CoreBranch (record { at = at; condition = x; body = body }) ∷ [] → stmts_in body.value ≡ [] → EmptyBranch at x all
empty_form at x body all is none = rw is (branch_empty at x body none)

pub ruleset empties = (empty_form)

failing : (at : Pos) (e : Tree) (m : Maybe) (x : Rc CoreExpr Global) (y : Option (Rc CoreExpr Global)) (all : Rc (Vec CoreBranch Global) Global) (other : Rc CoreBlock Global) (items : List CoreBranch) → all.value.items ≡ items → EmptyBranch at x items → LoweredExpr e x.value → LoweredSome m y → stmts_in other.value ≡ core_at at (c.FailWith Plain y) ∷ [] → LoweredStatement plain (st.Assert at e m) at (c.If all other)
failing at e m x y all other items is (empty none) h g o = low.assert_it at h g (core_branches_hidden all.value ∙ is) none o

pub assert_is : (at : Pos) (e : Rc Expr Global) (m : Option (Rc Expr Global)) (x : Rc CoreExpr Global) (y : Option (Rc CoreExpr Global)) (all : Rc (Vec CoreBranch Global) Global) (other : Rc CoreBlock Global) → Lowers e.value x.value → LowersSome m y → EmptyBranch at x all.value.items → stmts_in other.value ≡ core_at at (c.FailWith Plain y) ∷ [] → LowersStatement plain at (s.Assert e m) (c.If all other)
assert_is at e m x y all other h g b o = record { by = λ t. failing at (tree e.value) (some_tree m) x y all other all.value.items refl b (h.by t.0) (g.by t.1) o }

pub ruleset plains = (assert_is)

telling : (at : Pos) (e : Tree) (m : Maybe) (x : Rc CoreExpr Global) (d : Rc Expr Global) (y : Option (Rc CoreExpr Global)) (all : Rc (Vec CoreBranch Global) Global) (other : Rc CoreBlock Global) (items : List CoreBranch) → all.value.items ≡ items → EmptyBranch at x items → tree d.value ≡ e → Watched 0 e x.value.at x.value.kind → LoweredSome m y → stmts_in other.value ≡ core_at at (c.FailWith (Explain d) y) ∷ [] → LoweredStatement explained (st.Assert at e m) at (c.If all other)
telling at e m x d y all other items is (empty none) same h g o = low.assert_explained at same h g (core_branches_hidden all.value ∙ is) none o

pub explained_is : (at : Pos) (e : Rc Expr Global) (m : Option (Rc Expr Global)) (i : ℕ) (x : Rc CoreExpr Global) (d : Rc Expr Global) (y : Option (Rc CoreExpr Global)) (all : Rc (Vec CoreBranch Global) Global) (other : Rc CoreBlock Global) → d.value ≡ e.value → Watches 0 e.value x.value i → LowersSome m y → EmptyBranch at x all.value.items → stmts_in other.value ≡ core_at at (c.FailWith (Explain d) y) ∷ [] → LowersStatement explained at (s.Assert e m) (c.If all other)
explained_is at e m i x d y all other same h g b o = record { by = λ t. telling at (tree e.value) (some_tree m) x d y all other all.value.items refl b (ap tree same) (h.by t.0) (g.by t.1) o }

pub ruleset explaineds = (explained_is)

-- one of both
pub as_explained : (z : Bool) (at : Pos) (kind : StmtKind) (core : CoreStmtKind) → z ≡ explained → LowersStatement explained at kind core → LowersStatement z at kind core
as_explained z at kind core is h = rw is h

pub as_plain : (z : Bool) (at : Pos) (kind : StmtKind) (core : CoreStmtKind) → z ≡ plain → LowersStatement plain at kind core → LowersStatement z at kind core
as_plain z at kind core is h = rw is h

pub ruleset asserts = (as_explained, as_plain)

module _ (z : Bool) (at : Pos) (kind : StmtKind) where
  pub do_form : (e : Rc Expr Global) (x : Rc CoreExpr Global) → kind ≡ s.Expr e → Lowers e.value x.value → LowersStatement z at kind (c.Expr x)
  do_form e x is h = rw is (record { by = λ b. low.do_it at (h.by b) })

  pub assign_form : (ts : Rc (Vec Target Global) Global) (e : Rc Expr Global) (xs : Rc (Vec CoreTarget Global) Global) (x : Rc CoreExpr Global) → kind ≡ s.Assign ts e → LowersTargets ts.value.items xs.value.items → Lowers e.value x.value → LowersStatement z at kind (c.Assign xs x)
  assign_form ts e xs x is g h = rw is (record { by = λ b. low.assign at (g.by b.0) (h.by b.1) })

  pub augment_form : (target : Single) (op : BinOp) (e : Rc Expr Global) (core : CoreSingle) (x : Rc CoreExpr Global) → kind ≡ s.AugAssign target op e → LowersSingle target core → Lowers e.value x.value → LowersStatement z at kind (c.AugAssign core op x)
  augment_form target op e core x is g h = rw is (record { by = λ b. low.augment at op (g.by b.0) (h.by b.1) })

  pub return_form : (e : Option (Rc Expr Global)) (x : Option (Rc CoreExpr Global)) → kind ≡ s.Return e → LowersSome e x → LowersStatement z at kind (c.Return x)
  return_form e x is h = rw is (record { by = λ b. low.LoweredStatement.return_it at (h.by b) })

  pub assert_form : (e : Rc Expr Global) (m : Option (Rc Expr Global)) (core : CoreStmtKind) → kind ≡ s.Assert e m → LowersStatement z at (s.Assert e m) core → LowersStatement z at kind core
  assert_form e m core is h = rw is h

  pub global_form : (names copy : Rc (Vec (List ℕ) Global) Global) → kind ≡ s.Global names → copy.value ≡ names.value → LowersStatement z at kind (c.Global copy)
  global_form names copy is same = rw is (record { by = λ b. low.globals at (ap (λ (v : Vec (List ℕ) Global). v.items) same) })

  pub pass_form : kind ≡ s.Pass → LowersStatement z at kind c.Pass
  pass_form is = rw is (record { by = λ b. low.pass at })

  pub break_form : kind ≡ s.Break → LowersStatement z at kind c.Break
  break_form is = rw is (record { by = λ b. low.leave at })

  pub continue_form : kind ≡ s.Continue → LowersStatement z at kind c.Continue
  continue_form is = rw is (record { by = λ b. low.again at })

  pub raise_form : (e : Option (Rc Expr Global)) (x : Option (Rc CoreExpr Global)) → kind ≡ s.Raise e → LowersSome e x → LowersStatement z at kind (c.Raise x)
  raise_form e x is h = rw is (record { by = λ b. low.raise_it at (h.by b) })

  pub del_form : (target : Single) (core : CoreSingle) → kind ≡ s.Del target → LowersSingle target core → LowersStatement z at kind (c.Del core)
  del_form target core is h = rw is (record { by = λ b. low.delete at (h.by b) })

  pub import_form : (names copy : Rc (Vec (List ℕ) Global) Global) (alias other : Option (List ℕ)) → kind ≡ s.Import names alias → copy.value ≡ names.value → other ≡ alias → LowersStatement z at kind (c.Import copy other)
  import_form names copy alias other is same also = rw (is, also) (record { by = λ b. low.import_it at alias (ap (λ (v : Vec (List ℕ) Global). v.items) same) })

  pub from_form : (names copy : Rc (Vec (List ℕ) Global) Global) (all these : Rc (Vec Alias Global) Global) → kind ≡ s.ImportFrom names all → copy.value ≡ names.value → these.value ≡ all.value → LowersStatement z at kind (c.ImportFrom copy these)
  from_form names copy all these is same are = rw is (record { by = λ b. low.import_from at (ap (λ (v : Vec (List ℕ) Global). v.items) same) (ap (λ (v : Vec Alias Global). v.items) are) })

pub ruleset forms = (do_form, assign_form, augment_form, return_form, raise_form, assert_form, del_form, pass_form, break_form, continue_form)

pub ruleset namings = (global_form, import_form, from_form)
