-- What a statement with blocks is.
use Rattle.std.proofs.Common.{◌≡◌, List, [], ◌∷◌, ◌++◌, Option, ap, ◌∙◌, Vec, Global}
use Rattle.std.specs.declared.rc.Rc.{Rc}
use Rattle.py_source.specs.declared.pos.Pos.{Pos}
use Rattle.std.specs.Prelude.{ℕ}
use Rattle.py_tree.specs.declared.expr.Expr.{Expr}
use Rattle.py_tree.specs.declared.stmt.Stmt.{Stmt}
use Rattle.py_tree.specs.declared.stmt.StmtKind.TheBlock.{hidden-the_row-Stmt-1, hidden-the_row-Handler-2}
use Rattle.py_tree.specs.declared.stmt.StmtKind.TheVariants as v
use Rattle.py_tree.specs.declared.stmt.Branch as branch
use Rattle.py_tree.specs.declared.stmt.Branch.{roll-Branch}
use Rattle.py_tree.specs.declared.stmt.Handler as handler
use Rattle.py_tree.specs.declared.stmt.Handler.{roll-Handler}
use Rattle.py_tree.specs.declared.stmt.Function.{Function, roll-Function}
use Rattle.py_tree.specs.declared.stmt.Class as class
use Rattle.py_tree.specs.declared.stmt.Class.{roll-Class}
use Rattle.py_tree.specs.declared.stmt.Target.{Target}
use Rattle.py_tree.specs.declared.stmt.Param.{Param}
use Rattle.py_tree.specs.Trees.{tree, trees, some_tree}
use Rattle.py_tree.specs.Statements.{NoStatement, Branches, NoBranch, Branch, Handlers, Handler, NoHandler, If, While, For, Try, With, Def, Class, statement_at, block_on, block, branches_behind, branches, handlers_in_row, handlers_behind, handlers, taker, parameters}
use Rattle.py_tree.proofs.Rows.{block_hidden, branches_hidden, handlers_hidden}
use Rattle.py_statement_nodes.proofs.Rows.{branches_more, handlers_more}

pub if_is : (at : Pos) (all : Rc (Vec branch.Branch Global) Global) (other : Rc (Vec Stmt Global) Global) → statement_at at (v.If all other) ≡ If at (branches all.value.items) (block other.value.items)
if_is at all other = ap (λ b. If at b (block_on NoStatement (hidden-the_row-Stmt-1 other.value))) (branches_hidden all.value) ∙ ap (λ b. If at (branches all.value.items) b) (block_hidden other.value)

pub while_is : (at : Pos) (e : Rc Expr Global) (body : Rc (Vec Stmt Global) Global) → statement_at at (v.While e body) ≡ While at (tree e.value) (block body.value.items)
while_is at e body = ap (λ b. While at (tree e.value) b) (block_hidden body.value)

pub for_is : (at : Pos) (t : Target) (e : Rc Expr Global) (body : Rc (Vec Stmt Global) Global) → statement_at at (v.For t e body) ≡ For at (taker t) (tree e.value) (block body.value.items)
for_is at t e body = ap (λ b. For at (taker t) (tree e.value) b) (block_hidden body.value)

pub with_is : (at : Pos) (e : Rc Expr Global) (name : Option (List ℕ)) (body : Rc (Vec Stmt Global) Global) → statement_at at (v.With e name body) ≡ With at (tree e.value) name (block body.value.items)
with_is at e name body = ap (λ b. With at (tree e.value) name b) (block_hidden body.value)

pub try_is : (at : Pos) (body : Rc (Vec Stmt Global) Global) (all : Rc (Vec handler.Handler Global) Global) (other last : Rc (Vec Stmt Global) Global) → statement_at at (v.Try body all other last) ≡ Try at (block body.value.items) (handlers all.value.items) (block other.value.items) (block last.value.items)
try_is at body all other last = ap (λ b. Try at b (handlers_in_row NoHandler (hidden-the_row-Handler-2 all.value)) (block_on NoStatement (hidden-the_row-Stmt-1 other.value)) (block_on NoStatement (hidden-the_row-Stmt-1 last.value))) (block_hidden body.value)
    ∙ ap (λ b. Try at (block body.value.items) b (block_on NoStatement (hidden-the_row-Stmt-1 other.value)) (block_on NoStatement (hidden-the_row-Stmt-1 last.value))) (handlers_hidden all.value)
    ∙ ap (λ b. Try at (block body.value.items) (handlers all.value.items) b (block_on NoStatement (hidden-the_row-Stmt-1 last.value))) (block_hidden other.value)
    ∙ ap (λ b. Try at (block body.value.items) (handlers all.value.items) (block other.value.items) b) (block_hidden last.value)

-- the same, with what the parts are
pub if_made : (at : Pos) (all : Rc (Vec branch.Branch Global) Global) (other : Rc (Vec Stmt Global) Global) (xs : Vec branch.Branch Global) (b : Vec Stmt Global) → all.value ≡ xs → other.value ≡ b → statement_at at (v.If all other) ≡ If at (branches xs.items) (block b.items)
if_made at all other xs b p q = if_is at all other ∙ ap (λ s. If at (branches s.items) (block other.value.items)) p ∙ ap (λ s. If at (branches xs.items) (block s.items)) q

pub while_made : (at : Pos) (e : Rc Expr Global) (body : Rc (Vec Stmt Global) Global) (b : Vec Stmt Global) → body.value ≡ b → statement_at at (v.While e body) ≡ While at (tree e.value) (block b.items)
while_made at e body b p = while_is at e body ∙ ap (λ s. While at (tree e.value) (block s.items)) p

pub for_made : (at : Pos) (t : Target) (e : Rc Expr Global) (body : Rc (Vec Stmt Global) Global) (b : Vec Stmt Global) → body.value ≡ b → statement_at at (v.For t e body) ≡ For at (taker t) (tree e.value) (block b.items)
for_made at t e body b p = for_is at t e body ∙ ap (λ s. For at (taker t) (tree e.value) (block s.items)) p

pub with_made : (at : Pos) (e : Rc Expr Global) (name : Option (List ℕ)) (body : Rc (Vec Stmt Global) Global) (b : Vec Stmt Global) → body.value ≡ b → statement_at at (v.With e name body) ≡ With at (tree e.value) name (block b.items)
with_made at e name body b p = with_is at e name body ∙ ap (λ s. With at (tree e.value) name (block s.items)) p

pub try_made : (at : Pos) (body : Rc (Vec Stmt Global) Global) (all : Rc (Vec handler.Handler Global) Global) (other last : Rc (Vec Stmt Global) Global) (a : Vec Stmt Global) (xs : Vec handler.Handler Global) (b c : Vec Stmt Global) → body.value ≡ a → all.value ≡ xs → other.value ≡ b → last.value ≡ c → statement_at at (v.Try body all other last) ≡ Try at (block a.items) (handlers xs.items) (block b.items) (block c.items)
try_made at body all other last a xs b c p q r h = try_is at body all other last ∙ ap (λ s. Try at (block s.items) (handlers all.value.items) (block other.value.items) (block last.value.items)) p ∙ ap (λ s. Try at (block a.items) (handlers s.items) (block other.value.items) (block last.value.items)) q ∙ ap (λ s. Try at (block a.items) (handlers xs.items) (block s.items) (block last.value.items)) r ∙ ap (λ s. Try at (block a.items) (handlers xs.items) (block b.items) (block s.items)) h

pub branch_is : (before : Branches) (at : Pos) (condition : Rc Expr Global) (body : Rc (Vec Stmt Global) Global) → branches_behind before (roll-Branch (record { at = at; condition = condition; body = body }) ∷ []) ≡ Branch before at (tree condition.value) (block body.value.items)
unfolding roll-Branch denote.Hole.Carrier.roll hidden-the_row-Stmt-1
branch_is before at condition body = ap (λ b. Branch before at (tree condition.value) b) (block_hidden body.value)

pub handler_is : (before : Handlers) (at : Pos) (class : Option (Rc Expr Global)) (name : Option (List ℕ)) (body : Rc (Vec Stmt Global) Global) → handlers_behind before (roll-Handler (record { at = at; class = class; name = name; body = body }) ∷ []) ≡ Handler before at (some_tree class) name (block body.value.items)
unfolding roll-Handler denote.Hole.Carrier.roll hidden-the_row-Stmt-1
handler_is before at class name body = ap (λ b. Handler before at (some_tree class) name b) (block_hidden body.value)

-- rows and statements, with what their parts are
pub branch_added : (all more : List branch.Branch) (at : Pos) (condition : Rc Expr Global) (body : Rc (Vec Stmt Global) Global) (b : Vec Stmt Global) → body.value ≡ b → more ≡ all ++ roll-Branch (record { at = at; condition = condition; body = body }) ∷ [] → branches more ≡ Branch (branches all) at (tree condition.value) (block b.items)
branch_added all more at condition body b p q = ap branches q ∙ branches_more NoBranch all (roll-Branch (record { at = at; condition = condition; body = body })) ∙ branch_is (branches all) at condition body ∙ ap (λ (s : Vec Stmt Global). Branch (branches all) at (tree condition.value) (block s.items)) p

pub handler_added : (all more : List handler.Handler) (at : Pos) (class : Option (Rc Expr Global)) (name : Option (List ℕ)) (body : Rc (Vec Stmt Global) Global) (b : Vec Stmt Global) → body.value ≡ b → more ≡ all ++ roll-Handler (record { at = at; class = class; name = name; body = body }) ∷ [] → handlers more ≡ Handler (handlers all) at (some_tree class) name (block b.items)
handler_added all more at class name body b p q = ap handlers q ∙ handlers_more NoHandler all (roll-Handler (record { at = at; class = class; name = name; body = body })) ∙ handler_is (handlers all) at class name body ∙ ap (λ (s : Vec Stmt Global). Handler (handlers all) at (some_tree class) name (block s.items)) p

def_of : (at word : Pos) (name : List ℕ) (ds : Rc (Vec (Rc Expr Global) Global) Global) (ps : Rc (Vec Param Global) Global) (returns : Option (Rc Expr Global)) (body : Rc (Vec Stmt Global) Global) (f : Rc Function Global) → statement_at at (v.Def (record { ptr = f.ptr; value = roll-Function (record { decorators = ds; at = word; name = name; params = ps; returns = returns; body = body }) })) ≡ Def at (trees ds.value.items) word name (parameters ps.value.items) (some_tree returns) (block body.value.items)
unfolding roll-Function denote.Hole.Carrier.roll hidden-the_row-Stmt-1
def_of at word name ds ps returns body f = ap (λ b. Def at (trees ds.value.items) word name (parameters ps.value.items) (some_tree returns) b) (block_hidden body.value)

pub def_made : (at word : Pos) (name : List ℕ) (ds : Rc (Vec (Rc Expr Global) Global) Global) (ps : Rc (Vec Param Global) Global) (returns : Option (Rc Expr Global)) (body : Rc (Vec Stmt Global) Global) (f : Rc Function Global) (d : Vec (Rc Expr Global) Global) (q : Vec Param Global) (b : Vec Stmt Global) → f.value ≡ roll-Function (record { decorators = ds; at = word; name = name; params = ps; returns = returns; body = body }) → ds.value ≡ d → ps.value ≡ q → body.value ≡ b → statement_at at (v.Def f) ≡ Def at (trees d.items) word name (parameters q.items) (some_tree returns) (block b.items)
def_made at word name ds ps returns body f d q b e i j k = ap (λ (y : Function). statement_at at (v.Def (record { ptr = f.ptr; value = y }))) e ∙ def_of at word name ds ps returns body f
    ∙ ap (λ (x : Vec (Rc Expr Global) Global). Def at (trees x.items) word name (parameters ps.value.items) (some_tree returns) (block body.value.items)) i
    ∙ ap (λ (x : Vec Param Global). Def at (trees d.items) word name (parameters x.items) (some_tree returns) (block body.value.items)) j
    ∙ ap (λ (x : Vec Stmt Global). Def at (trees d.items) word name (parameters q.items) (some_tree returns) (block x.items)) k

class_of : (at word : Pos) (name : List ℕ) (ds : Rc (Vec (Rc Expr Global) Global) Global) (base : Option (Rc Expr Global)) (body : Rc (Vec Stmt Global) Global) (f : Rc class.Class Global) → statement_at at (v.Class (record { ptr = f.ptr; value = roll-Class (record { decorators = ds; at = word; name = name; base = base; body = body }) })) ≡ Class at (trees ds.value.items) word name (some_tree base) (block body.value.items)
unfolding roll-Class denote.Hole.Carrier.roll hidden-the_row-Stmt-1
class_of at word name ds base body f = ap (λ b. Class at (trees ds.value.items) word name (some_tree base) b) (block_hidden body.value)

pub class_made : (at word : Pos) (name : List ℕ) (ds : Rc (Vec (Rc Expr Global) Global) Global) (base : Option (Rc Expr Global)) (body : Rc (Vec Stmt Global) Global) (f : Rc class.Class Global) (d : Vec (Rc Expr Global) Global) (b : Vec Stmt Global) → f.value ≡ roll-Class (record { decorators = ds; at = word; name = name; base = base; body = body }) → ds.value ≡ d → body.value ≡ b → statement_at at (v.Class f) ≡ Class at (trees d.items) word name (some_tree base) (block b.items)
class_made at word name ds base body f d b e i k = ap (λ (y : class.Class). statement_at at (v.Class (record { ptr = f.ptr; value = y }))) e ∙ class_of at word name ds base body f
    ∙ ap (λ (x : Vec (Rc Expr Global) Global). Class at (trees x.items) word name (some_tree base) (block body.value.items)) i
    ∙ ap (λ (x : Vec Stmt Global). Class at (trees d.items) word name (some_tree base) (block x.items)) k
