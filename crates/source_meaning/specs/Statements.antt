-- What statements do (Language Reference, simple and compound statements).
use Rattle.std.specs.Prelude.{ℕ, List, [], ◌∷◌, ◌++◌, Option, Bool, true, false}
use Rattle.py_source.specs.declared.pos.Pos.{Pos}
use Rattle.py_tree.specs.declared.op.BinOp.{BinOp}
use Rattle.py_tree.specs.Statements as t
use Rattle.py_tree.specs.Statements.{Statement, Block, Branches, Handlers, NoStatement, NoBranch, NoHandler, Place, NamePlace, AttributePlace, SubscriptPlace, Taker, One, Unpack, Parameter, Parameter_at}
use Rattle.py_tree.specs.Names.{locals_of, yields_in}
use Rattle.py_world.specs.py_kinds.Truth.{truth}
use Rattle.source_meaning.specs.Expressions.{SourcePart, source_eval, source_parts, some_source_part}
use Rattle.source_meaning.specs.Requests.{source_kinds, Use, NoUse, Targets, ReturnIt, SourceLayer, Statements, Guard, Receives, SourceTurn, StatementOf, TurnOf, ForOf, Script, Function}
use Rattle.source_meaning.specs.Watched.{watch}
use Rattle.py_tree.specs.Trees.{Tree, Maybe, Absent, Present}
use Rattle.py_world.specs.Site.{site}
use Rattle.py_world.specs.World.{heap_of, unset}
use Rattle.py_world.specs.Outcome.{Body, After, Next, on_next, on_value, if_true}
use Rattle.py_world.specs.Statements.{IfClause, asked, expression_statement, return_value, yield_value, received, no_use, return_sent, pass_statement, leave_loop, next_turn, fail, fail_explained, choose, loop, while_turn}
use Rattle.py_world.specs.Definitions.{Written, define, class_statement}
use Rattle.py_world.specs.Names.{delete_name}
use Rattle.py_world.specs.Targets.{Store, store_name, store_attribute, store_item, store_all, unpack, assign, augment_name, augment_attribute, augment_item, delete_attribute, delete_item}
use Rattle.py_world.specs.Exceptions.{Handling, guarded, try_statement}
use Rattle.py_world.specs.Contexts.{with_statement}
use Rattle.py_world.specs.Raising.{raise_value}
use Rattle.py_world.specs.Imports.{import_statement, import_from}
use Rattle.py_world.specs.Loops.{for_statement, for_turn}
use Rattle.py_world.specs.Calls.{Entry}

abbrev pub SourceBody : Type 0
SourceBody = Body source_kinds

abbrev pub SourceStore : Type 0
SourceStore = Store source_kinds

abbrev pub SourceChoice : Type 0
SourceChoice = IfClause source_kinds

abbrev pub SourceHandling : Type 0
SourceHandling = Handling source_kinds

abbrev pub position : Statement → Pos
position (t.Do at e) = at
position (t.Assign at ts e) = at
position (t.AssignYield at ts word e) = at
position (t.AugAssign at p op e) = at
position (t.Return at e) = at
position (t.ReturnYield at word e) = at
position (t.Raise at e) = at
position (t.Assert at e m) = at
position (t.Del at p) = at
position (t.GlobalOf at names) = at
position (t.Pass at) = at
position (t.Break at) = at
position (t.Continue at) = at
position (t.YieldOf at word e) = at
position (t.Import at names alias) = at
position (t.ImportFrom at names all) = at
position (t.If at branches other) = at
position (t.While at e body) = at
position (t.For at taker e body) = at
position (t.Try at body handlers other final) = at
position (t.With at e name body) = at
position (t.Def at decorators word name params returns body) = at
position (t.Class at decorators word name base body) = at

abbrev pub store_place : Place → SourceStore
store_place (NamePlace at name) = store_name name
store_place (AttributePlace at e name) = store_attribute (source_eval e) name
store_place (SubscriptPlace at e i) = store_item (source_eval e) (source_eval i)

abbrev pub store_places : List Place → List SourceStore
store_places [] = []
store_places (p ∷ ps) = store_place p ∷ store_places ps

abbrev pub source_store : Taker → SourceStore
source_store (One p) = store_place p
source_store (Unpack ps) = unpack (store_places ps)

abbrev pub source_stores : List Taker → List SourceStore
source_stores [] = []
source_stores (x ∷ xs) = source_store x ∷ source_stores xs

-- what is done with the value that a `yield` is given
abbrev pub source_use : Use → SourceStore
source_use NoUse = no_use
source_use (Targets ts) = store_all (source_stores ts)
source_use ReturnIt = return_sent

abbrev pub augment : Place → BinOp → SourcePart → SourcePart
augment (NamePlace at name) op e = augment_name name op e
augment (AttributePlace at a name) op e = augment_attribute (source_eval a) name op e
augment (SubscriptPlace at a i) op e = augment_item (source_eval a) (source_eval i) op e

abbrev pub delete : Place → SourcePart
delete (NamePlace at name) = delete_name name
delete (AttributePlace at e name) = delete_attribute (source_eval e) name
delete (SubscriptPlace at e i) = delete_item (source_eval e) (source_eval i)

-- an assert, whose failure is a part of it
abbrev pub source_assert : SourcePart → SourcePart → SourcePart
source_assert e failure p s k = e p (unset s) (λ o. on_value o k (λ v s. if_true (truth (heap_of s) v) (k (Next s)) (failure p s k)))

-- a plain one, and one whose failure tells the parts of its condition
abbrev pub assert_as : Bool → Tree → Option SourcePart → SourcePart
assert_as false e message = source_assert (source_eval e) (fail message)
assert_as true e message = source_assert (watch 0 e) (fail_explained e message)

-- a statement begins with a step
abbrev pub source_begun : Bool → List SourceLayer → Statement → SourcePart
source_begun x ls st = asked (StatementOf x ls st)

-- the statements of a block, the first one first
abbrev pub statements_listed : Block → List Statement
statements_listed NoStatement = []
statements_listed (t.Next before st) = statements_listed before ++ st ∷ []

-- STATEMENTS ONE AFTER ANOTHER, each on its line
abbrev pub source_sequence : Bool → List SourceLayer → List Statement → SourceBody
source_sequence x ls [] scene s k = k (Next s)
source_sequence x ls (st ∷ rest) scene s k = source_begun x (Statements x rest ∷ ls) st (site scene (position st).line) s (λ o. on_next o k (λ s. source_sequence x ls rest scene s k))

abbrev pub source_block_body : Bool → List SourceLayer → Block → SourceBody
source_block_body x ls b = source_sequence x ls (statements_listed b)

-- the handlers of a `try`, the first one first
abbrev pub source_handlings : Bool → List SourceLayer → Handlers → List SourceHandling
source_handlings x ls NoHandler = []
source_handlings x ls (t.Handler before at class name body) = source_handlings x ls before ++ (some_source_part class, (name, source_block_body x ls body)) ∷ []

-- what guards the block of a `try`
abbrev pub source_guard : Bool → List SourceLayer → Handlers → List Statement → List Statement → After source_kinds
source_guard x ls handlers other last = guarded (source_handlings x ls handlers) (source_sequence x ls other) (source_sequence x ls last)

-- what remains of a body does with the end of the part before it, the innermost block first
abbrev pub source_remains : List SourceLayer → After source_kinds
source_remains [] p o k = k o
source_remains (Statements x ss ∷ ls) p o k = on_next o (λ o. source_remains ls p o k) (λ s. source_sequence x ls ss p.scene s (λ o. source_remains ls p o k))
source_remains (Guard x line handlers other last ∷ ls) p o k = source_guard x ls handlers other last (site p.scene line) o (λ o. source_remains ls p o k)
source_remains (Receives u ∷ ls) p o k = received (source_use u) p o (λ o. source_remains ls p o k)

abbrev pub source_choices : Bool → List SourceLayer → Branches → List SourceChoice
source_choices x ls NoBranch = []
source_choices x ls (t.Branch before at condition body) = source_choices x ls before ++ (at.line, (source_eval condition, source_block_body x ls body)) ∷ []

abbrev pub function : Bool → List ℕ → List Parameter → Block → Function
function x name params body = record { explains = x; name = name; params = params; body = body }

abbrev pub script : Bool → Block → Script
script x body = record { explains = x; body = body }

-- a `try`, which guards its block on its line
abbrev pub source_try : Bool → List SourceLayer → Block → Handlers → List Statement → List Statement → SourcePart
source_try x ls body handlers other last p s k =
    try_statement (source_block_body x (Guard x p.line handlers other last ∷ ls) body) (source_handlings x ls handlers) (source_sequence x ls other) (source_sequence x ls last) p s k

abbrev pub source_entry : Function → Entry source_kinds
source_entry f = record { name = f.name; own = locals_of f.params f.body; body = source_block_body f.explains [] f.body }

abbrev pub script_body : Script → SourceBody
script_body m = source_block_body m.explains [] m.body

-- parameters as they are written, and the defaults of those that have one
abbrev pub is_given : Maybe → Bool
is_given Absent = false
is_given (Present e) = true

abbrev pub source_written : List Parameter → List Written
source_written [] = []
source_written (Parameter_at at name annotation default ∷ ps) = (name, is_given default) ∷ source_written ps

abbrev pub with_part : Maybe → List SourcePart → List SourcePart
with_part Absent es = es
with_part (Present e) es = source_eval e ∷ es

abbrev pub default_parts : List Parameter → List SourcePart
default_parts [] = []
default_parts (Parameter_at at name annotation default ∷ ps) = with_part default (default_parts ps)

-- WHAT A STATEMENT DOES, its step being taken
abbrev pub source_statement : Bool → List SourceLayer → Statement → SourcePart
source_statement x ls (t.Do at e) = expression_statement (source_eval e)
source_statement x ls (t.Assign at ts e) = assign (source_stores ts) (source_eval e)
source_statement x ls (t.AugAssign at p op e) = augment p op (source_eval e)
source_statement x ls (t.Return at e) = return_value (some_source_part e)
source_statement x ls (t.Assert at e m) = assert_as x e (some_source_part m)
source_statement x ls (t.GlobalOf at names) = pass_statement
source_statement x ls (t.Pass at) = pass_statement
source_statement x ls (t.Break at) = leave_loop
source_statement x ls (t.Continue at) = next_turn
source_statement x ls (t.If at branches other) = choose (source_choices x ls branches) (source_block_body x ls other)
source_statement x ls (t.While at e body) = loop (TurnOf x e body) (source_eval e)
source_statement x ls (t.Def at decorators word name params returns body) = define (source_parts decorators) (default_parts params) (source_written params) name word.line (yields_in body) (function x name params body)
source_statement x ls (t.YieldOf at word e) = yield_value (some_source_part e) (Receives NoUse ∷ ls)
source_statement x ls (t.AssignYield at ts word e) = yield_value (some_source_part e) (Receives (Targets ts) ∷ ls)
source_statement x ls (t.ReturnYield at word e) = yield_value (some_source_part e) (Receives ReturnIt ∷ ls)
source_statement x ls (t.Raise at e) = raise_value source_entry (some_source_part e)
source_statement x ls (t.Del at p) = delete p
source_statement x ls (t.Import at names alias) = import_statement script_body names alias
source_statement x ls (t.ImportFrom at names all) = import_from script_body names all
source_statement x ls (t.For at taker e body) = for_statement (ForOf x taker body) (source_eval e)
source_statement x ls (t.Try at body handlers other final) = source_try x ls body handlers (statements_listed other) (statements_listed final)
source_statement x ls (t.With at e name body) = with_statement (source_eval e) name (source_block_body x [] body)
source_statement x ls (t.Class at decorators word name base body) = class_statement (source_parts decorators) (some_source_part base) name word.line (source_block_body x [] body)

abbrev pub source_act : SourceTurn → SourcePart
source_act (StatementOf x ls st) = source_statement x ls st
source_act (TurnOf x e body) = while_turn (TurnOf x e body) (source_eval e) (source_block_body x [] body)
source_act (ForOf x taker body at) = for_turn (ForOf x taker body) (source_store taker) (source_block_body x [] body) at
