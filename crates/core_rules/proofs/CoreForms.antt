-- Core forms don't look at what follows them.
use Rattle.std.proofs.Common.{◌≡◌, ℕ, ◌+◌, List, [], ◌∷◌, drop, Option, Some, None, true, false, refl}
use Rattle.std.specs.declared.alloc.Global.{Global}
use Rattle.std.specs.declared.rc.Rc.{Rc}
use Rattle.run_tree.specs.Todo.{Done, run, follow}
use Rattle.py_source.specs.declared.pos.Pos.{Pos}
use Rattle.py_tree.specs.declared.op.BinOp.{BinOp}
use Rattle.py_values.specs.declared.value.Value.{Value}
use Rattle.py_values.specs.declared.value.Value.TheVariants as val
use Rattle.core_meaning.specs.py_core.declared.expr.CoreExpr.{CoreExpr}
use Rattle.core_meaning.specs.py_core.declared.expr.CoreExprKind as f
use Rattle.core_meaning.specs.py_core.declared.expr.CoreExprKind.{CoreExprKind, Row_of-CoreExprKind-Call-1-1 as Row, end_of-CoreExprKind-Call-1-1 as end, more_of-CoreExprKind-Call-1-1 as more_of, Held-CoreExprKind-Slice-1 as Held}
use Rattle.core_meaning.specs.py_core.declared.expr.CoreExprKind.TheVariants as v
use Rattle.core_meaning.specs.py_core.declared.stmt.CoreBranch as branch
use Rattle.core_meaning.specs.py_core.declared.stmt.CoreClass as class
use Rattle.core_meaning.specs.py_core.declared.stmt.CoreFn as fn
use Rattle.core_meaning.specs.py_core.declared.stmt.CoreFn.{CoreFn}
use Rattle.core_meaning.specs.py_core.declared.stmt.CoreSingleKind.{CoreSingleKind}
use Rattle.core_meaning.specs.py_core.declared.stmt.CoreSingleKind.TheVariants as single
use Rattle.core_meaning.specs.py_core.declared.stmt.CoreTarget.{CoreTarget}
use Rattle.core_meaning.specs.py_core.declared.stmt.CoreTarget.TheVariants as target
use Rattle.core_meaning.specs.py_core.declared.stmt.Template.{Template}
use Rattle.core_meaning.specs.py_core.declared.stmt.Template.TheVariants.{Plain, Explain}
use Rattle.core_meaning.specs.py_core.declared.stmt.CoreStmt.{CoreStmt}
use Rattle.core_meaning.specs.py_core.declared.stmt.CoreStmtKind as c
use Rattle.core_meaning.specs.py_core.declared.stmt.CoreStmtKind.{CoreStmtKind, items-the_row-CoreBranch}
use Rattle.core_meaning.specs.py_core.declared.stmt.CoreBlock.{CoreBlock}
use Rattle.core_meaning.specs.py_core.declared.stmt.CoreGuard.{CoreGuard}
use Rattle.core_meaning.specs.py_core.declared.stmt.CoreUse.{CoreUse}
use Rattle.core_meaning.specs.py_core.declared.stmt.CoreUse.TheVariants as taken
use Rattle.core_meaning.specs.py_core.declared.stmt.CoreHandler as handler
use Rattle.core_meaning.specs.py_core.declared.stmt.CoreSingle.{CoreSingle}
use Rattle.core_meaning.specs.py_core.Blocks.{stmts_in, handlers_in, other_in, last_in}
use Rattle.core_meaning.specs.py_core.declared.stmt.CoreStmtKind.TheVariants as k
use Rattle.py_tree.specs.Trees as Rattle_tree
use Rattle.core_meaning.specs.Requests.{core_kinds, Layer, Statements, Guard, Receives, CoreTurn, StatementOf, TurnOf, ForOf}
use Rattle.core_meaning.specs.Meaning.{core}
use Rattle.core_meaning.specs.Expressions.{CorePart, eval_at, eval, parts, parts_of, held}
use Rattle.core_meaning.specs.Statements.{remains, store_at, store_singles, store, stores, use_of, augment_at, delete_at, some_part, failure, begun_at, block_from, core_block_body, handlings, guard, choices, core_body, written, define_fn, define_class, try_at, core_statement_at, core_statement, act, entry}
use Rattle.source_meaning.specs.py_world.World.{CallState}
use Rattle.source_meaning.specs.py_world.Site.{Around, Scene, Site, site}
use Rattle.source_meaning.specs.py_world.Arguments.{Arguments, arguments_of}
use Rattle.source_meaning.specs.py_world.Outcome.{Continuation}
use Rattle.source_meaning.specs.py_world.Calls.{invoke, body_of}
use Rattle.core_rules.proofs.LinearFlow as flow
use Rattle.core_rules.proofs.LinearClasses as more
use Rattle.core_rules.proofs.Linear as line
use Rattle.core_rules.proofs.Linear.{Linear, LinearBody, LinearAfter, LinearAll, LinearMeaning}

mutual
  eval_linear : (at : Pos) (e : CoreExprKind) → Linear (eval_at at e)
  eval_linear at (v.Name name) = line.noted_linear at (line.name_linear name)
  eval_linear at (v.Number n) = line.noted_linear at (line.constant_linear (val.Int n))
  eval_linear at (v.Text text) = line.noted_linear at (line.text_linear text)
  eval_linear at v.True = line.noted_linear at (line.constant_linear (val.Bool true))
  eval_linear at v.False = line.noted_linear at (line.constant_linear (val.Bool false))
  eval_linear at v.None = line.noted_linear at (line.constant_linear val.None)
  eval_linear at (f.Paren' p a e) = line.noted_linear at (eval_linear a e)
  eval_linear at (f.Call' p a e q n es names) = line.noted_linear at (line.call_linear (arguments_of names.value.items) (eval_linear a e) (parts_linear es))
  eval_linear at (f.Unary' op p a e) = line.noted_linear at (line.unary_linear op (eval_linear a e))
  eval_linear at (f.Binary' p a l op q b r) = line.noted_linear at (line.binary_linear op (eval_linear a l) (eval_linear b r))
  eval_linear at (f.Compare' p a e ops q n es) = line.noted_linear at (line.compare_linear ops.value.items (eval_linear a e) (parts_linear es))
  eval_linear at (f.Not' p a e) = line.noted_linear at (line.not_linear (eval_linear a e))
  eval_linear at (f.And' p a e q n es) = line.noted_linear at (line.and_linear (eval_linear a e) (parts_linear es))
  eval_linear at (f.Or' p a e q n es) = line.noted_linear at (line.or_linear (eval_linear a e) (parts_linear es))
  eval_linear at (f.IfElse' p a e q b c r d o) = line.noted_linear at (line.choice_linear (eval_linear a e) (eval_linear b c) (eval_linear d o))
  eval_linear at (f.Tuple' p n es) = line.noted_linear at (flow.tuple_linear (parts_linear es))
  eval_linear at (f.List' p n es) = line.noted_linear at (flow.list_linear (parts_linear es))
  eval_linear at (f.Dict' p n ks q m es) = line.noted_linear at (flow.dict_linear (parts_linear ks) (parts_linear es))
  eval_linear at (f.Attribute' p a e name) = line.noted_linear at (flow.attribute_linear name (eval_linear a e))
  eval_linear at (f.Subscript' p a e q b i) = line.noted_linear at (flow.subscript_linear (eval_linear a e) (eval_linear b i))
  eval_linear at (f.Slice' p a e from to by) = line.noted_linear at (flow.slice_linear (eval_linear a e) (held_linear from) (held_linear to) (held_linear by))
  eval_linear at (f.SetTemp' t p a e) = line.kept_linear t (eval_linear a e)
  eval_linear at (v.Temp t) = line.temp_linear t

  parts_linear : {m : _} (row : Row m) → LinearAll (parts row)
  parts_linear end = line.nil
  parts_linear (more_of p a e row) = line.cons (eval_linear a e) (parts_linear row)

  held_linear : (m : Held) → line.LinearSome (held m)
  held_linear f.CoreExprKind-Slice-1-None' = line.none
  held_linear (f.Some' p a e) = line.some (eval_linear a e)

some_linear : (m : Option (Rc CoreExpr Global)) → line.LinearSome (some_part m)
some_linear None = line.none
some_linear (Some e) = line.some (eval_linear e.value.at e.value.kind)

single_linear : (x : CoreSingleKind) → flow.LinearStore (store_at x)
single_linear (single.Name name) = flow.store_name_linear name
single_linear (single.Attribute e name) = flow.store_attribute_linear name (eval_linear e.value.at e.value.kind)
single_linear (single.Subscript e i) = flow.store_item_linear (eval_linear e.value.at e.value.kind) (eval_linear i.value.at i.value.kind)

singles_linear : (ss : List CoreSingle) → flow.LinearStores (store_singles ss)
singles_linear [] = flow.nil
singles_linear (s ∷ ss) = flow.cons (single_linear s.kind) (singles_linear ss)

store_linear : (t : CoreTarget) → flow.LinearStore (store t)
store_linear (target.Single s) = single_linear s.kind
store_linear (target.Unpack ss) = flow.unpack_linear (singles_linear ss.value.items)

stores_linear : (ts : List CoreTarget) → flow.LinearStores (stores ts)
stores_linear [] = flow.nil
stores_linear (t ∷ ts) = flow.cons (store_linear t) (stores_linear ts)

use_linear : (u : CoreUse) → flow.LinearStore (use_of u)
use_linear taken.NoUse = flow.no_use_linear
use_linear (taken.Targets source ts) = flow.all_stored_linear (stores_linear ts.value.items)
use_linear taken.Return = flow.return_sent_linear

augment_linear : (x : CoreSingleKind) (op : BinOp) {e : CorePart} → Linear e → Linear (augment_at x op e)
augment_linear (single.Name name) op e = flow.augment_linear name op e
augment_linear (single.Attribute a name) op e = flow.augment_attribute_linear name op (eval_linear a.value.at a.value.kind) e
augment_linear (single.Subscript a i) op e = flow.augment_item_linear op (eval_linear a.value.at a.value.kind) (eval_linear i.value.at i.value.kind) e

delete_linear : (x : CoreSingleKind) → Linear (delete_at x)
delete_linear (single.Name name) = flow.delete_name_linear name
delete_linear (single.Attribute e name) = flow.delete_attribute_linear name (eval_linear e.value.at e.value.kind)
delete_linear (single.Subscript e i) = flow.delete_item_linear (eval_linear e.value.at e.value.kind) (eval_linear i.value.at i.value.kind)

failure_linear : (t : Template) (m : Option (Rc CoreExpr Global)) → Linear (failure t m)
failure_linear Plain m = line.fail_linear (some_linear m)
failure_linear (Explain c) m = line.explained_linear (Rattle_tree.tree c.value) (some_linear m)

begun_linear : (kind : CoreStmtKind) (ls : List Layer) (st : CoreStmt) → Linear (begun_at kind ls st)
begun_linear (k.Expr e) ls st = line.asked_linear (StatementOf ls st)
begun_linear (k.Assign ts e) ls st = line.asked_linear (StatementOf ls st)
begun_linear (k.AugAssign t op e) ls st = line.asked_linear (StatementOf ls st)
begun_linear (k.Return e) ls st = line.asked_linear (StatementOf ls st)
begun_linear (k.FailWith template message) ls st = failure_linear template message
begun_linear (k.Global names) ls st = line.asked_linear (StatementOf ls st)
begun_linear (k.Yield e u) ls st = line.asked_linear (StatementOf ls st)
begun_linear k.Pass ls st = line.asked_linear (StatementOf ls st)
begun_linear k.Break ls st = line.asked_linear (StatementOf ls st)
begun_linear k.Continue ls st = line.asked_linear (StatementOf ls st)
begun_linear (c.If' p n branches q other) ls st = line.asked_linear (StatementOf ls st)
begun_linear (c.While' e p body) ls st = line.asked_linear (StatementOf ls st)
begun_linear (c.Def' ds es p x) ls st = line.asked_linear (StatementOf ls st)
begun_linear (k.Raise e) ls st = line.asked_linear (StatementOf ls st)
begun_linear (k.Del t) ls st = line.asked_linear (StatementOf ls st)
begun_linear (c.For' t e p body) ls st = line.asked_linear (StatementOf ls st)
begun_linear (c.Try' p body q g) ls st = line.asked_linear (StatementOf ls st)
begun_linear (c.With' e name p body) ls st = line.asked_linear (StatementOf ls st)
begun_linear (c.Class' ds base p x) ls st = line.asked_linear (StatementOf ls st)
begun_linear (k.Import names alias) ls st = line.asked_linear (StatementOf ls st)
begun_linear (k.ImportFrom names all) ls st = line.asked_linear (StatementOf ls st)

from_linear : (ls : List Layer) (b : CoreBlock) (at : ℕ) (ss : List CoreStmt) → LinearBody (block_from ls b at ss)
from_linear ls b at [] = record { does = λ scene s k l. refl }
from_linear ls b at (st ∷ rest) = record { does = λ scene s k l. line.then_linear (begun_linear st.kind (Statements b (at + 1) ∷ ls) st) (site scene st.at.line) s _ _ l (line.next_bind k l _ _ (λ s. (from_linear ls b (at + 1) rest).does scene s k l)) }

block_linear : (ls : List Layer) (b : CoreBlock) → LinearBody (core_block_body ls b)
block_linear ls b = record { does = λ scene s k l. (from_linear ls b 0 (stmts_in b)).does scene s k l }

handlings_linear : (ls : List Layer) (hs : List handler.CoreHandler) → flow.LinearHandlers (handlings ls hs)
handlings_linear ls [] = flow.nil
handlings_linear ls (handler.CoreHandler' class name p body ∷ hs) = flow.cons name (some_linear class) (block_linear ls body) (handlings_linear ls hs)

guard_linear : (ls : List Layer) (g : CoreGuard) → LinearAfter (guard ls g)
guard_linear ls g = flow.guarded_linear (handlings_linear ls (handlers_in g)) (block_linear ls (other_in g)) (block_linear ls (last_in g))

remains_linear : (ls : List Layer) → LinearAfter (remains ls)
remains_linear [] = record { does = λ p o k l. refl }
remains_linear (Statements b at ∷ ls) =
    record { does = λ p o k l. flow.next_then (λ o. remains ls p o k) (λ o. remains ls p o (line.Behind l k)) l _ _ (λ o. (remains_linear ls).does p o k l) (λ s. line.body_then (from_linear ls b at (drop at (stmts_in b))) p.scene s _ _ l (λ o. (remains_linear ls).does p o k l)) o }
remains_linear (Guard g n ∷ ls) = record { does = λ p o k l. flow.after_then (guard_linear ls g) (site p.scene n) o _ _ l (λ o. (remains_linear ls).does p o k l) }
remains_linear (Receives u ∷ ls) = record { does = λ p o k l. flow.after_then (flow.received_linear (use_linear u)) p o _ _ l (λ o. (remains_linear ls).does p o k l) }

try_linear : (ls : List Layer) (body : CoreBlock) (g : CoreGuard) → Linear (try_at ls body g)
try_linear ls body g = record { does = λ p s k l. (flow.try_linear (block_linear (Guard g p.line ∷ ls) body) (handlings_linear ls (handlers_in g)) (block_linear ls (other_in g)) (block_linear ls (last_in g))).does p s k l }

choices_linear : (ls : List Layer) (bs : List branch.CoreBranch) → line.LinearChoices (choices ls bs)
choices_linear ls [] = line.nil
choices_linear ls (branch.CoreBranch' at e p body ∷ rest) = line.cons at.line (eval_linear e.value.at e.value.kind) (block_linear ls body) (choices_linear ls rest)

entry_linear : (x : CoreFn) → LinearBody (entry x).body
entry_linear (fn.CoreFn' source at name params locals yields p body) = block_linear [] body

each_linear : (es : List (Rc CoreExpr Global)) → LinearAll (parts_of es)
each_linear [] = line.nil
each_linear (e ∷ es) = line.cons (eval_linear e.value.at e.value.kind) (each_linear es)

define_linear : (ds es : List (Rc CoreExpr Global)) (x : CoreFn) → Linear (define_fn (parts_of ds) (parts_of es) x)
define_linear ds es (fn.CoreFn' source at name params locals yields p body) = more.define_linear (each_linear ds) (each_linear es) (written params.value.items) name at.line yields _

class_linear : (ds : List (Rc CoreExpr Global)) (base : Option (Rc CoreExpr Global)) (x : class.CoreClass) → Linear (define_class (parts_of ds) (some_part base) x)
class_linear ds base (class.CoreClass' at name p body) = more.class_linear (each_linear ds) (some_linear base) name at.line (block_linear [] body)

statement_linear : (ls : List Layer) (kind : CoreStmtKind) → Linear (core_statement_at ls kind)
statement_linear ls (k.Expr e) = line.expression_linear (eval_linear e.value.at e.value.kind)
statement_linear ls (k.Assign ts e) = flow.assign_linear (stores_linear ts.value.items) (eval_linear e.value.at e.value.kind)
statement_linear ls (k.AugAssign t op e) = augment_linear t.kind op (eval_linear e.value.at e.value.kind)
statement_linear ls (k.Return e) = line.return_linear (some_linear e)
statement_linear ls (k.FailWith template message) = failure_linear template message
statement_linear ls (k.Global names) = line.pass_linear
statement_linear ls (k.Yield e u) = line.yield_linear (some_linear e) (Receives u.value ∷ ls)
statement_linear ls k.Pass = line.pass_linear
statement_linear ls k.Break = line.leave_linear
statement_linear ls k.Continue = line.again_linear
statement_linear ls (c.If' p n branches q other) = line.choose_linear (choices_linear ls (items-the_row-CoreBranch _ branches)) (block_linear ls other)
statement_linear ls (c.While' e p body) = line.loop_linear _ (eval_linear e.value.at e.value.kind)
statement_linear ls (c.Def' ds es p x) = define_linear ds.value.items es.value.items x
statement_linear ls (k.Raise e) = more.raise_linear entry entry_linear (some_linear e)
statement_linear ls (k.Del t) = delete_linear t.kind
statement_linear ls (c.For' t e p body) = flow.for_linear (ForOf t.value body) (eval_linear e.value.at e.value.kind)
statement_linear ls (c.Try' p body q g) = try_linear ls body g
statement_linear ls (c.With' e name p body) = flow.with_linear name (eval_linear e.value.at e.value.kind) (block_linear [] body)
statement_linear ls (c.Class' ds base p x) = class_linear ds.value.items base x
statement_linear ls (k.Import names alias) = more.import_linear core_body (λ code. block_linear [] code.body.value) names.value.items alias
statement_linear ls (k.ImportFrom names all) = more.from_linear core_body (λ code. block_linear [] code.body.value) names.value.items all.value.items

act_linear : (what : CoreTurn) → Linear (act what)
act_linear (StatementOf ls st) = statement_linear ls st.kind
act_linear (TurnOf e body) = line.turn_linear _ (eval_linear e.at e.kind) (block_linear [] body)
act_linear (ForOf t body at) = flow.for_turn_linear (ForOf t body) (store_linear t) (block_linear [] body) at

core_linear : LinearMeaning core
core_linear = record { entries = entry_linear; acts = act_linear; bodies = λ code. block_linear [] code.body.value; remains = remains_linear }

pub expressions : (e : CoreExpr) (p : Site) (s : CallState core_kinds) (k : Continuation core_kinds) (budget : ℕ) → run (body_of core) budget (eval e p s k) ≡ follow (body_of core) (run (body_of core) budget (eval e p s Done)) k
expressions e p s k budget = line.part_runs core core_linear (eval_linear e.at e.kind) p s k budget

pub statements : (ls : List Layer) (st : CoreStmt) (p : Site) (s : CallState core_kinds) (k : Continuation core_kinds) (budget : ℕ) → run (body_of core) budget (core_statement ls st p s k) ≡ follow (body_of core) (run (body_of core) budget (core_statement ls st p s Done)) k
statements ls st p s k budget = line.part_runs core core_linear (statement_linear ls st.kind) p s k budget

pub blocks : (ls : List Layer) (b : CoreBlock) (scene : Scene) (s : CallState core_kinds) (k : Continuation core_kinds) (budget : ℕ) → run (body_of core) budget (core_block_body ls b scene s k) ≡ follow (body_of core) (run (body_of core) budget (core_block_body ls b scene s Done)) k
blocks ls b scene s k budget = line.body_runs core core_linear (block_linear ls b) scene s k budget

pub calls : (callee : Value) (args : Arguments) (a : Around) (s : CallState core_kinds) (k : Continuation core_kinds) (budget : ℕ) → run (body_of core) budget (invoke entry callee args a s k) ≡ follow (body_of core) (run (body_of core) budget (invoke entry callee args a s Done)) k
calls callee args a s k budget = line.call_runs core core_linear callee args a s k budget
