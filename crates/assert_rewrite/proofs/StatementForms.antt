-- The lowered forms of compound statements, blocks, branches, functions and sources, for the tactics.
use Rattle.std.proofs.Common.{◌≡◌, ℕ, List, [], ◌∷◌, ◌++◌, Option, refl, sym, ap, ◌∙◌, subst, ◌+◌, ◌<◌, ◌≤◌, length, take, get_or, Vec}
use Rattle.std.proofs.lemmas.List.{take_more, take_all}
use Rattle.std.specs.declared.alloc.Global.{Global}
use Rattle.std.specs.declared.rc.Rc.{Rc}
use Rattle.py_source.specs.declared.pos.Pos.{Pos}
use Rattle.py_tree.specs.declared.expr.Expr.{Expr}
use Rattle.py_tree.specs.declared.stmt.Branch as branch
use Rattle.py_tree.specs.declared.stmt.Branch.{Branch, out-Branch, roll-Branch, roll-out-Branch}
use Rattle.py_tree.specs.declared.stmt.Class.{Class, out-Class, roll-Class, roll-out-Class}
use Rattle.py_tree.specs.declared.stmt.Function.{Function, out-Function, roll-Function, roll-out-Function}
use Rattle.py_tree.specs.declared.stmt.Handler.{Handler}
use Rattle.py_tree.specs.declared.stmt.Module.{Module}
use Rattle.py_tree.specs.declared.stmt.Stmt.{Stmt}
use Rattle.py_tree.specs.declared.stmt.StmtKind as k
use Rattle.py_tree.specs.declared.stmt.StmtKind.{StmtKind}
use Rattle.py_tree.specs.declared.stmt.StmtKind.TheBlock.{hidden-the_row-Stmt-1, hidden-the_row-Branch-0 as hide_branches, hidden-the_row-Handler-2 as hide_handlers}
use Rattle.py_tree.specs.declared.stmt.StmtKind.TheVariants as s
use Rattle.py_tree.specs.declared.stmt.Target.{Target}
use Rattle.py_tree.specs.Names.{locals_of, yields_in}
use Rattle.py_tree.specs.Trees.{Tree, tree, trees, some_tree}
use Rattle.py_tree.specs.Statements as st
use Rattle.py_tree.specs.Statements.{Statement, Block, Parameter, NoStatement, Branches, NoBranch, statement, statement_at, block_on, block, branches_in_row, branches_behind, branches, NoHandler, handlers_in_row, handlers, parameters, module_tree}
use Rattle.py_tree.proofs.Rows.{block_hidden, branches_hidden, handlers_hidden, block_more}
use Rattle.py_core.specs.declared.expr.CoreExpr.{CoreExpr}
use Rattle.py_core.specs.declared.stmt.CoreBranch.{CoreBranch, roll-CoreBranch}
use Rattle.py_core.specs.declared.stmt.CoreClass.{CoreClass, roll-CoreClass}
use Rattle.py_core.specs.declared.stmt.CoreFn.{CoreFn, roll-CoreFn}
use Rattle.py_core.specs.declared.stmt.CoreParam.{CoreParam}
use Rattle.py_core.specs.declared.stmt.CoreGuard.{CoreGuard}
use Rattle.py_core.specs.declared.stmt.CoreHandler.{CoreHandler}
use Rattle.py_core.specs.declared.stmt.CoreStmt.{CoreStmt}
use Rattle.py_core.specs.declared.stmt.CoreStmtKind.{CoreStmtKind, items-the_row-CoreBranch as row_branches}
use Rattle.py_core.specs.declared.stmt.CoreStmtKind.TheBlock.{hidden-the_row-CoreStmt-1, items_hidden-the_row-CoreBranch-0 as core_branches_hidden, hidden-the_row-CoreBranch-0 as core_hide_branches}
use Rattle.py_core.specs.declared.stmt.CoreStmtKind.TheVariants as c
use Rattle.py_core.specs.declared.stmt.CoreTarget.{CoreTarget}
use Rattle.lower_law.specs.source_meaning.Statements.{statements_listed, function as source_function, source_written}
use Rattle.lower_law.specs.core_meaning.Statements.{written as core_written}
use Rattle.lower_law.specs.Built.{BuiltStatement, BuiltBlock, BuiltBranches, BuiltHandlers}
use Rattle.lower_law.specs.Lowered as low
use Rattle.lower_law.specs.source_meaning.Statements.{script}
use Rattle.std.specs.Prelude.{Bool}
use Rattle.py_core.specs.Blocks.{explains_in, source_in, stmts_in}
use Rattle.py_core.specs.declared.stmt.CoreBlock.{CoreBlock, roll-CoreBlock}
use Rattle.lower_law.specs.Sourced.{function_in, module_of, sources_in}
use Rattle.lower_law.specs.Lowered.{LoweredExpr, LoweredStatement, LoweredBlock, LoweredBody, LoweredBranches, LoweredHandlers, LoweredGuard, LoweredFunction, LoweredClass, LoweredModule, ListedBranch, choice_at, branches_listed, handlers_listed, core_at}
use Rattle.assert_rewrite.specs.Lowers.{Lowers, LowersEach, LowersSome, LowersDefaults, LowersTarget, LowersStatement, LowersBlock, LowersBody, Carries, LowersBranches, LowersHandlers, Guards, LowersFunction, LowersClass}
use Rattle.assert_rewrite.proofs.SimpleForms.{items_rolled}
use Rattle.assert_rewrite.proofs.HandlerForms.{guard_made}

-- blocks and branches, as rows
body_row : (z : Bool) (stmts : Vec Stmt Global) (core : CoreBlock) → LowersBody z stmts.items core → BuiltBlock (block_on NoStatement (hidden-the_row-Stmt-1 stmts)) → LoweredBody z (statements_listed (block_on NoStatement (hidden-the_row-Stmt-1 stmts))) core
body_row z stmts core h = subst (λ t. BuiltBlock t → LoweredBody z (statements_listed t) core) (sym (block_hidden stmts)) h.by

branches_row : (z : Bool) (all : Vec Branch Global) (cores : Vec CoreBranch Global) → LowersBranches z all.items cores.items → BuiltBranches (branches_in_row NoBranch (hide_branches all)) → LoweredBranches z (branches_listed (branches_in_row NoBranch (hide_branches all))) (row_branches _ (core_hide_branches cores))
branches_row z all cores h =
    subst (λ t. BuiltBranches t → LoweredBranches z (branches_listed t) (row_branches _ (core_hide_branches cores))) (sym (branches_hidden all)) (subst (λ xs. BuiltBranches (branches all.items) → LoweredBranches z (branches_listed (branches all.items)) xs) (sym (core_branches_hidden cores)) h.by)

handlers_row : (z : Bool) (all : Vec Handler Global) (cores : List CoreHandler) → LowersHandlers z all.items cores → BuiltHandlers (handlers_in_row NoHandler (hide_handlers all)) → LoweredHandlers z (handlers_listed (handlers all.items)) cores
handlers_row z all cores h = subst (λ t. BuiltHandlers t → LoweredHandlers z (handlers_listed (handlers all.items)) cores) (sym (handlers_hidden all)) h.by

guard_row : (z : Bool) (all : Vec Handler Global) (source : List Handler) (other last : Block) (cores : List CoreHandler) (x y : CoreBlock) (g : CoreGuard) → source ≡ all.items → Guards source cores x y g → LoweredHandlers z (handlers_listed (handlers all.items)) cores → LoweredBody z (statements_listed other) x → LoweredBody z (statements_listed last) y → LoweredGuard z (handlers_in_row NoHandler (hide_handlers all)) (statements_listed other) (statements_listed last) g
guard_row z all source other last cores x y g same is h f e = subst (λ t. LoweredGuard z t (statements_listed other) (statements_listed last) g) (sym (handlers_hidden all)) (guard_made z all.items source other last cores x y g same is h f e)

-- a function at its `def`
def_rolled : (at : Pos) (f : Rc Function Global) → statement_at at (s.Def (record { ptr = f.ptr; value = roll-Function (out-Function f.value) })) ≡ st.Def at (trees (out-Function f.value).decorators.value.items) (out-Function f.value).at (out-Function f.value).name (parameters (out-Function f.value).params.value.items) (some_tree (out-Function f.value).returns) (block (out-Function f.value).body.value.items)
unfolding roll-Function denote.Hole.Carrier.roll hidden-the_row-Stmt-1
def_rolled at f = ap (λ b. st.Def at (trees (out-Function f.value).decorators.value.items) (out-Function f.value).at (out-Function f.value).name (parameters (out-Function f.value).params.value.items) (some_tree (out-Function f.value).returns) b) (block_hidden (out-Function f.value).body.value)

def_is : (at : Pos) (f : Rc Function Global) → statement_at at (s.Def f) ≡ st.Def at (trees (out-Function f.value).decorators.value.items) (out-Function f.value).at (out-Function f.value).name (parameters (out-Function f.value).params.value.items) (some_tree (out-Function f.value).returns) (block (out-Function f.value).body.value.items)
def_is at f = subst (λ y. statement_at at (s.Def (record { ptr = f.ptr; value = y })) ≡ st.Def at (trees (out-Function f.value).decorators.value.items) (out-Function f.value).at (out-Function f.value).name (parameters (out-Function f.value).params.value.items) (some_tree (out-Function f.value).returns) (block (out-Function f.value).body.value.items)) (roll-out-Function f.value) (def_rolled at f)

-- the function that core code carries
function_rolled : (z : Bool) (f : Function) → function_in z (roll-Function (out-Function f)) ≡ source_function z (out-Function f).name (parameters (out-Function f).params.value.items) (block (out-Function f).body.value.items)
unfolding roll-Function denote.Hole.Carrier.roll hidden-the_row-Stmt-1
function_rolled z f = ap (source_function z (out-Function f).name (parameters (out-Function f).params.value.items)) (block_hidden (out-Function f).body.value)

function_is : (z : Bool) (f : Function) → function_in z f ≡ source_function z (out-Function f).name (parameters (out-Function f).params.value.items) (block (out-Function f).body.value.items)
function_is z f = subst (λ y. function_in z y ≡ source_function z (out-Function f).name (parameters (out-Function f).params.value.items) (block (out-Function f).body.value.items)) (roll-out-Function f) (function_rolled z f)

-- a class at its `class`
class_rolled : (at : Pos) (f : Rc Class Global) → statement_at at (s.Class (record { ptr = f.ptr; value = roll-Class (out-Class f.value) })) ≡ st.Class at (trees (out-Class f.value).decorators.value.items) (out-Class f.value).at (out-Class f.value).name (some_tree (out-Class f.value).base) (block (out-Class f.value).body.value.items)
unfolding roll-Class denote.Hole.Carrier.roll hidden-the_row-Stmt-1
class_rolled at f = ap (λ b. st.Class at (trees (out-Class f.value).decorators.value.items) (out-Class f.value).at (out-Class f.value).name (some_tree (out-Class f.value).base) b) (block_hidden (out-Class f.value).body.value)

class_is : (at : Pos) (f : Rc Class Global) → statement_at at (s.Class f) ≡ st.Class at (trees (out-Class f.value).decorators.value.items) (out-Class f.value).at (out-Class f.value).name (some_tree (out-Class f.value).base) (block (out-Class f.value).body.value.items)
class_is at f = subst (λ y. statement_at at (s.Class (record { ptr = f.ptr; value = y })) ≡ st.Class at (trees (out-Class f.value).decorators.value.items) (out-Class f.value).at (out-Class f.value).name (some_tree (out-Class f.value).base) (block (out-Class f.value).body.value.items)) (roll-out-Class f.value) (class_rolled at f)

module _ (z : Bool) (at : Pos) (kind : StmtKind) where
  pub if_form : (all : Rc (Vec Branch Global) Global) (other : Rc (Vec Stmt Global) Global) (xs : Rc (Vec CoreBranch Global) Global) (ys : Rc CoreBlock Global) → kind ≡ s.If all other → LowersBranches z all.value.items xs.value.items → LowersBody z other.value.items ys.value → LowersStatement z at kind (c.If xs ys)
  if_form all other xs ys is g h = rw is (record { by = λ b. low.choose at (branches_row z all.value xs.value g b.0) (body_row z other.value ys.value h b.1) })

  pub while_form : (e : Rc Expr Global) (body : Rc (Vec Stmt Global) Global) (x : Rc CoreExpr Global) (ys : Rc CoreBlock Global) → kind ≡ s.While e body → Lowers e.value x.value → LowersBody z body.value.items ys.value → LowersStatement z at kind (c.While x ys)
  while_form e body x ys is g h = rw is (record { by = λ b. low.loop at (g.by b.0) (body_row z body.value ys.value h b.1) })

  pub def_form : (f : Rc Function Global) (ds es : Rc (Vec (Rc CoreExpr Global) Global) Global) (r : Rc CoreFn Global) (core : CoreFn) → kind ≡ s.Def f → LowersEach (out-Function f.value).decorators.value.items ds.value.items → LowersDefaults (out-Function f.value).params.value.items es.value.items → LowersFunction z f.value core → r.value ≡ core → LowersStatement z at kind (c.Def ds es r)
  def_form f ds es r core is d e h same =
      let g : LowersFunction z f.value r.value = rw same h in
      rw is (record { by = subst (λ t. BuiltStatement t → LoweredStatement z t at (c.Def ds es r)) (sym (def_is at f)) (λ b. low.define at _ _ _ (d.by b.0) (e.by b.1) (g.by b.2)) })

  pub class_form : (f : Rc Class Global) (ds : Rc (Vec (Rc CoreExpr Global) Global) Global) (base : Option (Rc CoreExpr Global)) (r : Rc CoreClass Global) (core : CoreClass) → kind ≡ s.Class f → LowersEach (out-Class f.value).decorators.value.items ds.value.items → LowersSome (out-Class f.value).base base → LowersClass z f.value core → r.value ≡ core → LowersStatement z at kind (c.Class ds base r)
  class_form f ds base r core is d e h same =
      let g : LowersClass z f.value r.value = rw same h in
      rw is (record { by = subst (λ t. BuiltStatement t → LoweredStatement z t at (c.Class ds base r)) (sym (class_is at f)) (λ b. low.class_it at _ _ (d.by b.0) (e.by b.1) (g.by b.2)) })

  pub for_form : (target : Target) (e : Rc Expr Global) (body : Rc (Vec Stmt Global) Global) (t : CoreTarget) (r : Rc CoreTarget Global) (x : Rc CoreExpr Global) (ys : Rc CoreBlock Global) → kind ≡ s.For target e body → r.value ≡ t → LowersTarget target t → Lowers e.value x.value → LowersBody z body.value.items ys.value → LowersStatement z at kind (c.For r x ys)
  for_form target e body t r x ys is same f g h =
      let k : LowersTarget target r.value = rw same f in
      rw is (record { by = λ b. low.for_each at (k.by b.0) (g.by b.1) (body_row z body.value ys.value h b.2) })

  pub with_form : (e : Rc Expr Global) (name copy : Option (List ℕ)) (body : Rc (Vec Stmt Global) Global) (x : Rc CoreExpr Global) (ys : Rc CoreBlock Global) → kind ≡ s.With e name body → copy ≡ name → Lowers e.value x.value → LowersBody z body.value.items ys.value → LowersStatement z at kind (c.With x copy ys)
  with_form e name copy body x ys is same g h = rw (is, same) (record { by = λ b. low.with_it at (g.by b.0) (body_row z body.value ys.value h b.1) })

  pub try_form : (body : Rc (Vec Stmt Global) Global) (all : Rc (Vec Handler Global) Global) (other last : Rc (Vec Stmt Global) Global) (source : Rc (Vec Handler Global) Global) (cores : List CoreHandler) (ys zs ws : Rc CoreBlock Global) (g : Rc CoreGuard Global) → kind ≡ s.Try body all other last → source.value ≡ all.value → Guards source.value.items cores zs.value ws.value g.value → LowersBody z body.value.items ys.value → LowersHandlers z all.value.items cores → LowersBody z other.value.items zs.value → LowersBody z last.value.items ws.value → LowersStatement z at kind (c.Try ys g)
  try_form body all other last source cores ys zs ws g is same made h f o l =
      rw is (record {
        by = λ b. low.try_it at (body_row z body.value ys.value h b.0)
            (guard_row z all.value source.value.items (block_on NoStatement (hidden-the_row-Stmt-1 other.value)) (block_on NoStatement (hidden-the_row-Stmt-1 last.value)) cores zs.value ws.value g.value (ap (λ (v : Vec Handler Global). v.items) same) made (handlers_row z all.value cores f b.1) (body_row z other.value zs.value o b.2) (body_row z last.value ws.value l b.3));
      })

pub ruleset forms = (if_form, while_form, for_form, with_form, try_form, def_form, class_form)

-- a block of core with these statements
source_rolled : (source : Rc (Vec Stmt Global) Global) (x : Bool) (stmts : Vec CoreStmt Global) → source_in (roll-CoreBlock (record { source = source; explains = x; stmts = stmts })) ≡ source.value.items
unfolding roll-CoreBlock denote.Hole.Carrier.roll hidden-the_row-CoreStmt-1
source_rolled source x stmts = refl

explains_rolled : (source : Rc (Vec Stmt Global) Global) (x : Bool) (stmts : Vec CoreStmt Global) → explains_in (roll-CoreBlock (record { source = source; explains = x; stmts = stmts })) ≡ x
unfolding roll-CoreBlock denote.Hole.Carrier.roll hidden-the_row-CoreStmt-1
explains_rolled source x stmts = refl

pub carries_form : (z : Bool) (ss : Rc (Vec Stmt Global) Global) (source : Rc (Vec Stmt Global) Global) (stmts : Vec CoreStmt Global) (b : Rc CoreBlock Global) → b.value ≡ roll-CoreBlock (record { source = source; explains = z; stmts = stmts }) → source.value ≡ ss.value → Carries z ss.value.items b.value
carries_form z ss source stmts b is same =
    rw is (record { source = source_rolled source z stmts ∙ ap (λ (v : Vec Stmt Global). v.items) same; said = explains_rolled source z stmts })

pub body_form : (z : Bool) (ss : Rc (Vec Stmt Global) Global) (source : Rc (Vec Stmt Global) Global) (stmts : Vec CoreStmt Global) (b : Rc CoreBlock Global) → b.value ≡ roll-CoreBlock (record { source = source; explains = z; stmts = stmts }) → source.value ≡ ss.value → LowersBlock z ss.value.items stmts.items → LowersBody z ss.value.items b.value
body_form z ss source stmts b is same h =
    rw is (record {
      by = λ t. low.body (explains_rolled source z stmts) (ap (λ (xs : List Stmt). statements_listed (block xs)) (source_rolled source z stmts) ∙ ap (λ (v : Vec Stmt Global). statements_listed (block v.items)) same)
          (subst (λ xs. LoweredBlock z (statements_listed (block ss.value.items)) xs) (sym (items_rolled source z stmts)) (h.by t));
    })

pub ruleset bodies = (carries_form, body_form)

statements_push : {z : Bool} {ss : List Statement} {xs : List CoreStmt} (s : Statement) (at : Pos) (kind : CoreStmtKind) → LoweredBlock z ss xs → LoweredStatement z s at kind → LoweredBlock z (ss ++ s ∷ []) (xs ++ core_at at kind ∷ [])
statements_push s at kind low.LoweredBlock.ends h = low.LoweredBlock.goes_on h low.LoweredBlock.ends
statements_push s at kind (low.LoweredBlock.goes_on y ys) h = low.LoweredBlock.goes_on y (statements_push s at kind ys h)

block_behind_last : (z : Bool) (ss : List Stmt) (xs : List CoreStmt) (s : Stmt) (kind : CoreStmtKind) → LowersBlock z ss xs → LowersStatement z s.at s.kind kind → LowersBlock z (ss ++ s ∷ []) (xs ++ core_at s.at kind ∷ [])
block_behind_last z ss xs s kind all h =
    record { by = subst (λ t. BuiltBlock t → LoweredBlock z (statements_listed t) (xs ++ core_at s.at kind ∷ [])) (sym (block_more NoStatement ss s)) (λ b. statements_push (statement s) s.at kind (all.by b.0) (h.by b.1)) }

-- one more statement is lowered
pub statements_more : (z : Bool) (ss : List Stmt) (xs : List CoreStmt) (i : ℕ) (s : Stmt) (kind : CoreStmtKind) → i < length ss → s ≡ get_or ss i s → LowersBlock z (take i ss) xs → LowersStatement z s.at s.kind kind → LowersBlock z (take (i + 1) ss) (xs ++ core_at s.at kind ∷ [])
statements_more z ss xs i s kind lt is all h = rw (take_more ss i s lt, ← is) (block_behind_last z (take i ss) xs s kind all h)

pub statements_none : (z : Bool) (xs : List CoreStmt) → xs ≡ [] → LowersBlock z [] xs
statements_none z xs is = subst (λ xs. LowersBlock z [] xs) (sym is) (record { by = λ b. low.LoweredBlock.ends })

pub statements_all : (z : Bool) (ss : List Stmt) (i : ℕ) (done : List CoreStmt) → length ss ≤ i → LowersBlock z (take i ss) done → LowersBlock z ss done
statements_all z ss i done le all = subst (λ ss. LowersBlock z ss done) (take_all i ss le) all

pub ruleset blocks = (statements_more, statements_none, statements_all)

-- a branch at its place
branch_rolled : (before : Branches) (b : Branch) → branches_behind before (roll-Branch (out-Branch b) ∷ []) ≡ st.Branch before (out-Branch b).at (tree (out-Branch b).condition.value) (block (out-Branch b).body.value.items)
unfolding roll-Branch denote.Hole.Carrier.roll hidden-the_row-Stmt-1
branch_rolled before b = ap (λ t. st.Branch before (out-Branch b).at (tree (out-Branch b).condition.value) t) (block_hidden (out-Branch b).body.value)

branch_is : (before : Branches) (b : Branch) → branches_behind before (b ∷ []) ≡ st.Branch before (out-Branch b).at (tree (out-Branch b).condition.value) (block (out-Branch b).body.value.items)
branch_is before b = subst (λ y. branches_behind before (y ∷ []) ≡ st.Branch before (out-Branch b).at (tree (out-Branch b).condition.value) (block (out-Branch b).body.value.items)) (roll-out-Branch b) (branch_rolled before b)

branch_made : (z : Bool) (at : Pos) (e : Tree) (body : Block) (x : Rc CoreExpr Global) (ys : Rc CoreBlock Global) → LoweredExpr e x.value → LoweredBody z (statements_listed body) ys.value → LoweredBranches z (choice_at at e body ∷ []) (roll-CoreBranch (record { at = at; condition = x; body = ys }) ∷ [])
unfolding roll-CoreBranch denote.Hole.Carrier.roll
branch_made z at e body x ys h g = low.LoweredBranches.more at h g low.LoweredBranches.none

pub branch_form : (z : Bool) (b : Branch) (x : Rc CoreExpr Global) (ys : Rc CoreBlock Global) → Lowers (out-Branch b).condition.value x.value → LowersBody z (out-Branch b).body.value.items ys.value → LowersBranches z (b ∷ []) (roll-CoreBranch (record { at = (out-Branch b).at; condition = x; body = ys }) ∷ [])
branch_form z b x ys h g =
    record { by = subst (λ t. BuiltBranches t → LoweredBranches z (branches_listed t) (roll-CoreBranch (record { at = (out-Branch b).at; condition = x; body = ys }) ∷ [])) (sym (branch_is NoBranch b)) (λ t. branch_made z _ _ _ x ys (h.by t.1) (g.by t.2)) }

pub ruleset branch_forms = (branch_form)

branches_push : {z : Bool} {bs : List ListedBranch} {xs : List CoreBranch} {cs : List ListedBranch} {ys : List CoreBranch} → LoweredBranches z bs xs → LoweredBranches z cs ys → LoweredBranches z (bs ++ cs) (xs ++ ys)
branches_push low.LoweredBranches.none h = h
branches_push (low.LoweredBranches.more at x lowered rest) h = low.LoweredBranches.more at x lowered (branches_push rest h)

behind_branches : (before : Branches) (all : List Branch) (b : Branch) → branches_behind before (all ++ b ∷ []) ≡ branches_behind (branches_behind before all) (b ∷ [])
behind_branches before [] b = refl
behind_branches before (branch.Branch' at condition p n held ∷ rest) b = behind_branches (branches_behind before (branch.Branch' at condition p n held ∷ [])) rest b

branches_last : (z : Bool) (all : List Branch) (xs : List CoreBranch) (b : Branch) (x : CoreBranch) → LowersBranches z all xs → LowersBranches z (b ∷ []) (x ∷ []) → LowersBranches z (all ++ b ∷ []) (xs ++ x ∷ [])
branches_last z all xs b x g h =
    let one : BuiltBranches (st.Branch NoBranch (out-Branch b).at (tree (out-Branch b).condition.value) (block (out-Branch b).body.value.items)) → LoweredBranches z (choice_at (out-Branch b).at (tree (out-Branch b).condition.value) (block (out-Branch b).body.value.items) ∷ []) (x ∷ []) = subst (λ t. BuiltBranches t → LoweredBranches z (branches_listed t) (x ∷ [])) (branch_is NoBranch b) h.by in
    record { by = subst (λ t. BuiltBranches t → LoweredBranches z (branches_listed t) (xs ++ x ∷ [])) (sym (behind_branches NoBranch all b ∙ branch_is (branches all) b)) (λ t. branches_push (g.by t.0) (one (tt, t.1, t.2))) }

-- one more branch is lowered
pub branches_more : (z : Bool) (all : List Branch) (xs : List CoreBranch) (i : ℕ) (b : Branch) (x : CoreBranch) → i < length all → b ≡ get_or all i b → LowersBranches z (take i all) xs → LowersBranches z (b ∷ []) (x ∷ []) → LowersBranches z (take (i + 1) all) (xs ++ x ∷ [])
branches_more z all xs i b x lt is done h = rw (take_more all i b lt, ← is) (branches_last z (take i all) xs b x done h)

pub branches_none : (z : Bool) (xs : List CoreBranch) → xs ≡ [] → LowersBranches z [] xs
branches_none z xs is = subst (λ xs. LowersBranches z [] xs) (sym is) (record { by = λ b. low.LoweredBranches.none })

pub branches_all : (z : Bool) (all : List Branch) (i : ℕ) (done : Vec CoreBranch Global) (r : Rc (Vec CoreBranch Global) Global) → length all ≤ i → LowersBranches z (take i all) done.items → r.value ≡ done → LowersBranches z all r.value.items
branches_all z all i done r le h is = rw is (subst (λ all. LowersBranches z all done.items) (take_all i all le) h)

pub ruleset branch_lists = (branches_more, branches_none, branches_all)

-- a function
function_made : (z : Bool) (source : Rc Function Global) (word : Pos) (name : List ℕ) (params : List Parameter) (body : Block) (ps : Rc (Vec CoreParam Global) Global) (ls : List (List ℕ)) (yields : Bool) (ys : Rc CoreBlock Global) → function_in z source.value ≡ source_function z name params body → core_written ps.value.items ≡ source_written params → ls ≡ locals_of params body → yields ≡ yields_in body → LoweredBody z (statements_listed body) ys.value → LoweredFunction word (source_function z name params body) (roll-CoreFn (record { source = source; at = word; name = name; params = ps; locals = ls; yields = yields; body = ys }))
unfolding roll-CoreFn denote.Hole.Carrier.roll
function_made z source word name params body ps ls yields ys from p l y h = low.made word name from p l y h

pub function_form : (z : Bool) (f : Function) (source : Rc Function Global) (name : List ℕ) (ps : Rc (Vec CoreParam Global) Global) (ls : List (List ℕ)) (yields : Bool) (ys : Rc CoreBlock Global) → source.value ≡ f → name ≡ (out-Function f).name → core_written ps.value.items ≡ source_written (parameters (out-Function f).params.value.items) → ls ≡ locals_of (parameters (out-Function f).params.value.items) (block (out-Function f).body.value.items) → yields ≡ yields_in (block (out-Function f).body.value.items) → LowersBody z (out-Function f).body.value.items ys.value → LowersFunction z f (roll-CoreFn (record { source = source; at = (out-Function f).at; name = name; params = ps; locals = ls; yields = yields; body = ys }))
function_form z f source name ps ls yields ys is same p l y h = rw same (record { by = λ b. function_made z source (out-Function f).at (out-Function f).name (parameters (out-Function f).params.value.items) (block (out-Function f).body.value.items) ps ls yields ys (ap (function_in z) is ∙ function_is z f) p l y (h.by b) })

pub ruleset functions = (function_form)

-- a class
class_made : (z : Bool) (word : Pos) (name : List ℕ) (body : Block) (ys : Rc CoreBlock Global) → LoweredBody z (statements_listed body) ys.value → LoweredClass z word name body (roll-CoreClass (record { at = word; name = name; body = ys }))
unfolding roll-CoreClass denote.Hole.Carrier.roll
class_made z word name body ys h = low.classed word name h

pub class_alone : (z : Bool) (f : Class) (name : List ℕ) (ys : Rc CoreBlock Global) → name ≡ (out-Class f).name → LowersBody z (out-Class f).body.value.items ys.value → LowersClass z f (roll-CoreClass (record { at = (out-Class f).at; name = name; body = ys }))
class_alone z f name ys same h = rw same (record { by = λ b. class_made z (out-Class f).at (out-Class f).name (block (out-Class f).body.value.items) ys (h.by b) })

pub ruleset classes = (class_alone)

-- a source
own_block : (z : Bool) (ss : List Statement) (b : CoreBlock) → LoweredBody z ss b → LoweredBlock (explains_in b) (sources_in b) (stmts_in b)
own_block z ss b (low.body flag from h) = subst (λ (x : Bool). LoweredBlock x (sources_in b) (stmts_in b)) (sym flag) (subst (λ (ss : List Statement). LoweredBlock z ss (stmts_in b)) (sym from) h)

pub module_source : (z : Bool) (m : Module) (body : Rc CoreBlock Global) → Carries z m.body.value.items body.value → module_of (record { body = body }) ≡ script z (module_tree m)
module_source z m body h = ap (λ (x : Bool). script x (block (source_in body.value))) h.said ∙ ap (λ (ss : List Stmt). script z (block ss)) h.source

pub module_form : (z : Bool) (m : Module) (body : Rc CoreBlock Global) → LowersBody z m.body.value.items body.value → BuiltBlock (module_tree m) → LoweredModule (module_of (record { body = body })) (record { body = body })
module_form z m body h b = (refl, own_block z _ body.value (h.by b))

pub ruleset modules = (module_source, module_form)
