-- What core statements do (Language Reference, simple and compound statements).
use Rattle.std.specs.Prelude.{ℕ, ◌+◌, List, [], ◌∷◌, drop, Option, Some, None}
use Rattle.std.specs.declared.alloc.Global.{Global}
use Rattle.std.specs.declared.rc.Rc.{Rc}
use Rattle.py_core.specs.declared.expr.CoreExpr.{CoreExpr}
use Rattle.py_core.specs.Blocks.{stmts_in, handlers_in, other_in, last_in}
use Rattle.py_core.specs.declared.stmt.CoreBlock.{CoreBlock}
use Rattle.py_core.specs.declared.stmt.CoreBranch as branch
use Rattle.py_core.specs.declared.stmt.CoreClass as class
use Rattle.py_core.specs.declared.stmt.CoreParam.{CoreParam}
use Rattle.py_core.specs.declared.stmt.Core.{Core}
use Rattle.py_core.specs.declared.stmt.CoreGuard.{CoreGuard}
use Rattle.py_core.specs.declared.stmt.CoreHandler as handler
use Rattle.py_core.specs.declared.stmt.CoreSingle.{CoreSingle}
use Rattle.py_core.specs.declared.stmt.CoreFn as fn
use Rattle.py_core.specs.declared.stmt.CoreFn.{CoreFn}
use Rattle.py_core.specs.declared.stmt.CoreSingleKind.{CoreSingleKind}
use Rattle.py_core.specs.declared.stmt.CoreSingleKind.TheVariants as single
use Rattle.py_core.specs.declared.stmt.CoreTarget.{CoreTarget}
use Rattle.py_core.specs.declared.stmt.CoreTarget.TheVariants as target
use Rattle.py_core.specs.declared.stmt.CoreUse.{CoreUse}
use Rattle.py_core.specs.declared.stmt.CoreUse.TheVariants as taken
use Rattle.py_core.specs.declared.stmt.Template.{Template}
use Rattle.py_core.specs.declared.stmt.Template.TheVariants.{Plain, Explain}
use Rattle.py_core.specs.declared.stmt.CoreStmt.{CoreStmt}
use Rattle.py_core.specs.declared.stmt.CoreStmtKind as f
use Rattle.py_core.specs.declared.stmt.CoreStmtKind.{CoreStmtKind, items-the_row-CoreBranch}
use Rattle.py_core.specs.declared.stmt.CoreStmtKind.TheVariants as v
use Rattle.py_tree.specs.declared.op.BinOp.{BinOp}
use Rattle.py_tree.specs.Trees.{tree}
use Rattle.core_meaning.specs.Expressions.{CorePart, eval, parts_of}
use Rattle.core_meaning.specs.Requests.{core_kinds, Layer, Statements, Guard, Receives, CoreTurn, StatementOf, TurnOf, ForOf}
use Rattle.py_world.specs.Site.{site}
use Rattle.py_world.specs.Outcome.{Body, After, Next, on_next}
use Rattle.py_world.specs.Statements.{IfClause, asked, expression_statement, return_value, yield_value, received, no_use, return_sent, pass_statement, leave_loop, next_turn, fail, fail_explained, choose, loop, while_turn}
use Rattle.py_world.specs.Definitions.{Written, define, class_statement}
use Rattle.py_world.specs.Names.{delete_name}
use Rattle.py_world.specs.Targets.{Store, store_name, store_attribute, store_item, store_all, unpack, assign, augment_name, augment_attribute, augment_item, delete_attribute, delete_item}
use Rattle.py_world.specs.Exceptions.{Handling, guarded, try_statement}
use Rattle.py_world.specs.Contexts.{with_statement}
use Rattle.py_world.specs.Raising.{raise_value}
use Rattle.py_world.specs.Imports.{import_statement, import_from}
use Rattle.py_world.specs.Loops.{for_statement, for_turn}
use Rattle.py_world.specs.Calls.{Entry}

abbrev pub CoreBody : Type 0
CoreBody = Body core_kinds

abbrev pub CoreStore : Type 0
CoreStore = Store core_kinds

abbrev pub CoreChoice : Type 0
CoreChoice = IfClause core_kinds

abbrev pub CoreHandling : Type 0
CoreHandling = Handling core_kinds

abbrev pub store_at : CoreSingleKind → CoreStore
store_at (single.Name name) = store_name name
store_at (single.Attribute e name) = store_attribute (eval e.value) name
store_at (single.Subscript e i) = store_item (eval e.value) (eval i.value)

abbrev pub store_singles : List CoreSingle → List CoreStore
store_singles [] = []
store_singles (s ∷ ss) = store_at s.kind ∷ store_singles ss

abbrev pub store : CoreTarget → CoreStore
store (target.Single s) = store_at s.kind
store (target.Unpack ss) = unpack (store_singles ss.value.items)

abbrev pub stores : List CoreTarget → List CoreStore
stores [] = []
stores (t ∷ ts) = store t ∷ stores ts

-- what is done with the value that a `yield` is given
abbrev pub use_of : CoreUse → CoreStore
use_of taken.NoUse = no_use
use_of (taken.Targets source ts) = store_all (stores ts.value.items)
use_of taken.Return = return_sent

abbrev pub augment_at : CoreSingleKind → BinOp → CorePart → CorePart
augment_at (single.Name name) op e = augment_name name op e
augment_at (single.Attribute a name) op e = augment_attribute (eval a.value) name op e
augment_at (single.Subscript a i) op e = augment_item (eval a.value) (eval i.value) op e

abbrev pub delete_at : CoreSingleKind → CorePart
delete_at (single.Name name) = delete_name name
delete_at (single.Attribute e name) = delete_attribute (eval e.value) name
delete_at (single.Subscript e i) = delete_item (eval e.value) (eval i.value)

abbrev pub some_part : Option (Rc CoreExpr Global) → Option CorePart
some_part None = None
some_part (Some e) = Some (eval e.value)

-- what a failed assert shows beside its message
abbrev pub failure : Template → Option (Rc CoreExpr Global) → CorePart
failure Plain message = fail (some_part message)
failure (Explain e) message = fail_explained (tree e.value) (some_part message)

-- a statement begins with a step, but for a failure, which is a part of its assert
abbrev pub begun_at : CoreStmtKind → List Layer → CoreStmt → CorePart
begun_at (v.Expr e) ls st = asked (StatementOf ls st)
begun_at (v.Assign ts e) ls st = asked (StatementOf ls st)
begun_at (v.AugAssign t op e) ls st = asked (StatementOf ls st)
begun_at (v.Return e) ls st = asked (StatementOf ls st)
begun_at (v.FailWith template message) ls st = failure template message
begun_at (v.Global names) ls st = asked (StatementOf ls st)
begun_at v.Pass ls st = asked (StatementOf ls st)
begun_at v.Break ls st = asked (StatementOf ls st)
begun_at v.Continue ls st = asked (StatementOf ls st)
begun_at (f.If' p n branches q other) ls st = asked (StatementOf ls st)
begun_at (v.Yield e u) ls st = asked (StatementOf ls st)
begun_at (f.While' e p body) ls st = asked (StatementOf ls st)
begun_at (f.Def' ds es p fn) ls st = asked (StatementOf ls st)
begun_at (v.Raise e) ls st = asked (StatementOf ls st)
begun_at (v.Del t) ls st = asked (StatementOf ls st)
begun_at (f.For' t e p body) ls st = asked (StatementOf ls st)
begun_at (f.Try' p body q g) ls st = asked (StatementOf ls st)
begun_at (f.With' e name p body) ls st = asked (StatementOf ls st)
begun_at (f.Class' ds base p c) ls st = asked (StatementOf ls st)
begun_at (v.Import names alias) ls st = asked (StatementOf ls st)
begun_at (v.ImportFrom names all) ls st = asked (StatementOf ls st)

abbrev pub begun : List Layer → CoreStmt → CorePart
begun ls st = begun_at st.kind ls st

-- STATEMENTS ONE AFTER ANOTHER, each on its line: those of a block from a place on
abbrev pub block_from : List Layer → CoreBlock → ℕ → List CoreStmt → CoreBody
block_from ls b at [] scene s k = k (Next s)
block_from ls b at (st ∷ rest) scene s k =
    begun (Statements b (at + 1) ∷ ls) st (site scene st.at.line) s (λ o. on_next o k (λ s. block_from ls b (at + 1) rest scene s k))

abbrev pub core_block_body : List Layer → CoreBlock → CoreBody
core_block_body ls b = block_from ls b 0 (stmts_in b)

abbrev pub handling_of : List Layer → handler.CoreHandler → CoreHandling
handling_of ls (handler.CoreHandler' class name p body) = (some_part class, (name, core_block_body ls body))

-- the handlers of a `try`
abbrev pub handlings : List Layer → List handler.CoreHandler → List CoreHandling
handlings ls [] = []
handlings ls (h ∷ hs) = handling_of ls h ∷ handlings ls hs

-- what guards the block of a `try`
abbrev pub guard : List Layer → CoreGuard → After core_kinds
guard ls g = guarded (handlings ls (handlers_in g)) (core_block_body ls (other_in g)) (core_block_body ls (last_in g))

-- what remains of a body does with the end of the part before it, the innermost block first
abbrev pub remains : List Layer → After core_kinds
remains [] p o k = k o
remains (Statements b at ∷ ls) p o k = on_next o (λ o. remains ls p o k) (λ s. block_from ls b at (drop at (stmts_in b)) p.scene s (λ o. remains ls p o k))
remains (Guard g line ∷ ls) p o k = guard ls g (site p.scene line) o (λ o. remains ls p o k)
remains (Receives u ∷ ls) p o k = received (use_of u) p o (λ o. remains ls p o k)

abbrev pub choice : List Layer → branch.CoreBranch → CoreChoice
choice ls (branch.CoreBranch' at condition p body) = (at.line, (eval condition.value, core_block_body ls body))

abbrev pub choices : List Layer → List branch.CoreBranch → List CoreChoice
choices ls [] = []
choices ls (b ∷ rest) = choice ls b ∷ choices ls rest

abbrev pub entry : CoreFn → Entry core_kinds
entry (fn.CoreFn' source at name params locals yields p body) = record { name = name; own = locals; body = core_block_body [] body }

abbrev pub core_body : Core → CoreBody
core_body code = core_block_body [] code.body.value

-- parameters as they are written
abbrev pub written : List CoreParam → List Written
written [] = []
written (p ∷ ps) = (p.name, p.has_default) ∷ written ps

abbrev pub define_fn : List CorePart → List CorePart → CoreFn → CorePart
define_fn ds es (fn.CoreFn' source at name params locals yields p body) = define ds es (written params.value.items) name at.line yields (fn.CoreFn' source at name params locals yields p body)

abbrev pub define_class : List CorePart → Option CorePart → class.CoreClass → CorePart
define_class ds base (class.CoreClass' at name p body) = class_statement ds base name at.line (core_block_body [] body)

-- a `try`, which guards its block on its line
abbrev pub try_at : List Layer → CoreBlock → CoreGuard → CorePart
try_at ls body g p s k = try_statement (core_block_body (Guard g p.line ∷ ls) body) (handlings ls (handlers_in g)) (core_block_body ls (other_in g)) (core_block_body ls (last_in g)) p s k

-- WHAT A STATEMENT DOES, its step being taken
abbrev pub core_statement_at : List Layer → CoreStmtKind → CorePart
core_statement_at ls (v.Expr e) = expression_statement (eval e.value)
core_statement_at ls (v.Assign ts e) = assign (stores ts.value.items) (eval e.value)
core_statement_at ls (v.AugAssign t op e) = augment_at t.kind op (eval e.value)
core_statement_at ls (v.Return e) = return_value (some_part e)
core_statement_at ls (v.FailWith template message) = failure template message
core_statement_at ls (v.Global names) = pass_statement
core_statement_at ls (v.Yield e u) = yield_value (some_part e) (Receives u.value ∷ ls)
core_statement_at ls v.Pass = pass_statement
core_statement_at ls v.Break = leave_loop
core_statement_at ls v.Continue = next_turn
core_statement_at ls (f.If' p n branches q other) = choose (choices ls (items-the_row-CoreBranch _ branches)) (core_block_body ls other)
core_statement_at ls (f.While' e p body) = loop (TurnOf e.value body) (eval e.value)
core_statement_at ls (f.Def' ds es p fn) = define_fn (parts_of ds.value.items) (parts_of es.value.items) fn
core_statement_at ls (v.Raise e) = raise_value entry (some_part e)
core_statement_at ls (v.Del t) = delete_at t.kind
core_statement_at ls (f.For' t e p body) = for_statement (ForOf t.value body) (eval e.value)
core_statement_at ls (f.Try' p body q g) = try_at ls body g
core_statement_at ls (f.With' e name p body) = with_statement (eval e.value) name (core_block_body [] body)
core_statement_at ls (f.Class' ds base p c) = define_class (parts_of ds.value.items) (some_part base) c
core_statement_at ls (v.Import names alias) = import_statement core_body names.value.items alias
core_statement_at ls (v.ImportFrom names all) = import_from core_body names.value.items all.value.items

abbrev pub core_statement : List Layer → CoreStmt → CorePart
core_statement ls st = core_statement_at ls st.kind

abbrev pub act : CoreTurn → CorePart
act (StatementOf ls st) = core_statement ls st
act (TurnOf e body) = while_turn (TurnOf e body) (eval e) (core_block_body [] body)
act (ForOf t body at) = for_turn (ForOf t body) (store t) (core_block_body [] body) at
