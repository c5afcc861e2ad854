-- WHAT EACH FUNCTION READS, in the pieces in which the code has them. That these are the grammar's lines is proved.
use Rattle.std.specs.Prelude.{◌≡◌, ℕ, Bool, true, false, cond, nat_le, List, [], ◌∷◌, ◌++◌, Option, Some, None}
use Rattle.std.proofs.Common.{zero, suc}
use Rattle.py_source.specs.declared.pos.Pos.{Pos}
use Rattle.py_cursor.specs.py_tokens.declared.token.Token.{Token}
use Rattle.py_source.specs.Limits.{most_levels}
use Rattle.py_tree.specs.declared.op.BinOp.{BinOp}
use Rattle.py_tree.specs.declared.stmt.Alias.{Alias}
use Rattle.py_tree.specs.Trees.{Tree, Trees, Maybe, Absent, Present, Empty, More}
use Rattle.py_tree.specs.Statements.{Place, Taker, Parameter, Parameter_at, Statement, Block, Branches, Handlers, NoStatement, Next, NoBranch, Branch, NoHandler, Handler, Do, Assign, AssignYield, AugAssign, Return, ReturnYield, Raise, Assert, Del, GlobalOf, Pass, Break, Continue, YieldOf, Import, ImportFrom, If, While, For, Try, With, Def, Class}
use Rattle.parsing.specs.Reading.{Read, Found, Deep, ◌>>=◌, deep_at, has}
use Rattle.grammar_code.specs.Walk.{first_of, first_meant, wanted as want, starts_with, pick}
use Rattle.py_cursor.specs.token_kinds.Kinds.{kind, text_of}
use Rattle.py_cursor.specs.token_kinds.Numbers as k
use Rattle.py_cursor.specs.py_expressions.Sorts.{expr, exprs, single, targets}
use Rattle.py_cursor.specs.py_expressions.Values.{at_of, place_in, taker_in}
use Rattle.py_cursor.specs.py_expressions.Lines.{expr_begins}
use Rattle.py_grammar.specs.Lines.{simple_begins, stmt_begins, changes}
use Rattle.statement_readers.specs.Reads.{reads_as}
use Rattle.statement_readers.specs.Turns.{Reader, Turn, On, Out, turns}

abbrev pub starts : List ℕ → List Token → Bool
starts F ts = starts_with kind F ts

-- what begins a statement with blocks
abbrev pub compound_begins : List ℕ
compound_begins = k.if ∷ k.while ∷ k.for ∷ k.try ∷ k.with ∷ k.def ∷ k.class ∷ k.at ∷ []

abbrev pub one_among : List ℕ → Reader Token
one_among F ts = want kind F ts

abbrev pub one : ℕ → List Token → Option (Token × List Token)
one c ts = first_of kind (c ∷ []) ts

-- an expression, where one begins; one behind a token
unfoldable pub optional_expr : Reader Maybe
optional_expr ts = cond (starts expr_begins ts) (reads_as most_levels expr ts >>= λ x. Found (Present x.0.0) x.1) (Found Absent ts)

unfoldable pub optional_exprs : Reader Maybe
optional_exprs ts = cond (starts expr_begins ts) (reads_as most_levels exprs ts >>= λ x. Found (Present x.0.0) x.1) (Found Absent ts)

unfoldable pub expr_behind : ℕ → Reader Maybe
expr_behind c ts = pick (one c ts) (λ o. reads_as most_levels expr o.1 >>= λ x. Found (Present x.0.0) x.1) (Found Absent ts)

-- NAMES, with a token between them
unfoldable pub name_reader : Reader (List ℕ)
name_reader ts = one_among (k.name ∷ []) ts >>= λ n. Found (text_of n.0) n.1

abbrev pub name_step : List (List ℕ) → Token × List Token → Read Token (Turn (List (List ℕ)) (List (List ℕ)))
name_step ns o = name_reader o.1 >>= λ n. Found (On (ns ++ n.0 ∷ [])) n.1

unfoldable pub names_on : ℕ → List (List ℕ) × List Token → Read Token (List (List ℕ))
names_on c = turns (c ∷ []) (λ ns. ns) name_step

unfoldable pub names : ℕ → Reader (List (List ℕ))
names c ts = name_reader ts >>= λ n. names_on c (n.0 ∷ [], n.1)

-- a name behind `as`
unfoldable pub alias_behind : Reader (Option (List ℕ))
alias_behind ts = pick (one k.as_word ts) (λ o. name_reader o.1 >>= λ n. Found (Some n.0) n.1) (Found None ts)

unfoldable pub alias : Reader Alias
alias ts = one_among (k.name ∷ []) ts >>= λ n. alias_behind n.1 >>= λ a. Found (record { at = n.0.at; name = text_of n.0; alias = a.0 }) a.1

-- names that are imported, with commas between them; where a comma may stand at the end
abbrev pub alias_step : List Alias → Token × List Token → Read Token (Turn (List Alias) (List Alias))
alias_step all o = alias o.1 >>= λ a. Found (On (all ++ a.0 ∷ [])) a.1

unfoldable pub aliases_on : List Alias × List Token → Read Token (List Alias)
aliases_on = turns (k.comma ∷ []) (λ all. all) alias_step

abbrev pub listed_step : List Alias → Token × List Token → Read Token (Turn (List Alias) (List Alias))
listed_step all o = cond (starts (k.name ∷ []) o.1) (alias o.1 >>= λ a. Found (On (all ++ a.0 ∷ [])) a.1) (Found (Out all) o.1)

unfoldable pub listed_on : List Alias × List Token → Read Token (List Alias)
listed_on = turns (k.comma ∷ []) (λ all. all) listed_step

unfoldable pub imported_names : Reader (List Alias)
imported_names ts = cond (starts (k.name ∷ []) ts) (alias ts >>= λ a. aliases_on (a.0 ∷ [], a.1)) (one_among (k.left_paren ∷ []) ts >>= λ o. alias o.1 >>= λ a. listed_on (a.0 ∷ [], a.1) >>= λ all. one_among (k.right_paren ∷ []) all.1 >>= λ c. Found all.0 c.1)

-- SIMPLE STATEMENTS, behind their first word
abbrev pub two : ℕ → ℕ → List Token → Option (Token × List Token)
two c d ts = pick (one c ts) (λ o. one d o.1) None

unfoldable pub return_behind : Pos → Reader Statement
return_behind at ts = pick (two k.left_paren k.yield ts) (λ o. optional_exprs o.1 >>= λ v. one_among (k.right_paren ∷ []) v.1 >>= λ c. Found (ReturnYield at o.0.at v.0) c.1) (optional_exprs ts >>= λ v. Found (Return at v.0) v.1)

unfoldable pub assert_behind : Pos → Reader Statement
assert_behind at ts = reads_as most_levels expr ts >>= λ x. expr_behind k.comma x.1 >>= λ m. Found (Assert at x.0.0 m.0) m.1

unfoldable pub raise_behind : Pos → Reader Statement
raise_behind at ts = optional_expr ts >>= λ v. Found (Raise at v.0) v.1

unfoldable pub yield_behind : Pos → Reader Statement
yield_behind at ts = optional_exprs ts >>= λ v. Found (YieldOf at at v.0) v.1

unfoldable pub global_behind : Pos → Reader Statement
global_behind at ts = names k.comma ts >>= λ ns. Found (GlobalOf at ns.0) ns.1

unfoldable pub import_behind : Pos → Reader Statement
import_behind at ts = names k.dot ts >>= λ ns. alias_behind ns.1 >>= λ a. Found (Import at ns.0 a.0) a.1

unfoldable pub from_behind : Pos → Reader Statement
from_behind at ts = names k.dot ts >>= λ ns. one_among (k.import ∷ []) ns.1 >>= λ o. imported_names o.1 >>= λ all. Found (ImportFrom at ns.0 all.0) all.1

-- ASSIGNMENTS. The expression alone, or its assignment to targets; a state has the targets, and what stands last.
abbrev pub assignment : Pos → List Taker → Tree → Statement
assignment at [] e = Do at e
assignment at (t ∷ ts) e = Assign at (t ∷ ts) e

unfoldable pub yield_to : Pos → List Taker → Pos → Reader Statement
yield_to at all word ts = optional_exprs ts >>= λ v. Found (AssignYield at all word v.0) v.1

abbrev pub right_side : Pos → List Taker → Reader (Turn (List Taker × Tree) Statement)
right_side at all ts = cond (starts expr_begins ts) (reads_as most_levels exprs ts >>= λ y. Found (On (all, y.0.0)) y.1) (one_among (k.yield ∷ []) ts >>= λ o. yield_to at all o.0.at o.1 >>= λ s. Found (Out s.0) s.1)

abbrev pub assign_step : Pos → List Taker × Tree → Token × List Token → Read Token (Turn (List Taker × Tree) Statement)
assign_step at s o = pick (taker_in s.1) (λ t. right_side at (s.0 ++ t ∷ []) o.1) (Found (Out (assignment at s.0 s.1)) (o.0 ∷ o.1))

unfoldable pub assigns : Pos → (List Taker × Tree) × List Token → Read Token Statement
assigns at = turns (k.equal ∷ []) (λ s. assignment at s.0 s.1) (assign_step at)

-- an operator of an augmented assignment
abbrev pub change_on : List Token → Option ((Token × BinOp) × List Token)
change_on ts = first_meant kind (changes.0 ∷ changes.1) ts

unfoldable pub value_statement : Reader Statement
value_statement ts = reads_as most_levels exprs ts >>= λ x. pick (change_on x.1) (λ c. pick (place_in x.0.0) (λ p. reads_as most_levels expr c.1 >>= λ y. Found (AugAssign (at_of x.0.0) p c.0.1 y.0.0) y.1) (assigns (at_of x.0.0) (([], x.0.0), x.1))) (assigns (at_of x.0.0) (([], x.0.0), x.1))

unfoldable pub del_behind : Pos → Reader Statement
del_behind at ts = reads_as most_levels single ts >>= λ x. Found (Del at x.0.0) x.1

-- a statement that begins with a word, and any
unfoldable pub word_statement : Reader Statement
word_statement ts = pick (one k.global ts) (λ o. global_behind o.0.at o.1) (pick (one k.yield ts) (λ o. yield_behind o.0.at o.1) (pick (one k.import ts) (λ o. import_behind o.0.at o.1) (pick (one k.from ts) (λ o. from_behind o.0.at o.1) (value_statement ts))))

unfoldable pub simple : Reader Statement
simple ts = pick (one k.pass ts) (λ o. Found (Pass o.0.at) o.1) (pick (one k.break ts) (λ o. Found (Break o.0.at) o.1) (pick (one k.continue ts) (λ o. Found (Continue o.0.at) o.1)
    (pick (one k.return ts) (λ o. return_behind o.0.at o.1) (pick (one k.raise ts) (λ o. raise_behind o.0.at o.1) (pick (one k.assert ts) (λ o. assert_behind o.0.at o.1) (pick (one k.del ts) (λ o. del_behind o.0.at o.1) (word_statement ts)))))))

-- simple statements with semicolons between them, behind those of a block
abbrev pub simple_step : Block → Token × List Token → Read Token (Turn Block Block)
simple_step b o = cond (starts simple_begins o.1) (simple o.1 >>= λ s. Found (On (Next b s.0)) s.1) (Found (Out b) o.1)

unfoldable pub simples_on : Block × List Token → Read Token Block
simples_on = turns (k.semicolon ∷ []) (λ b. b) simple_step

unfoldable pub simples : Block → Reader Block
simples b ts = simple ts >>= λ s. simples_on (Next b s.0, s.1) >>= λ x. one_among (k.newline ∷ []) x.1 >>= λ c. Found x.0 c.1

-- A FUNCTION'S HEAD. Parameters, and one more behind them
unfoldable pub param : List Parameter → Reader (List Parameter)
param ps ts = one_among (k.name ∷ []) ts >>= λ n. expr_behind k.colon n.1 >>= λ a. expr_behind k.equal a.1 >>= λ d. Found (ps ++ Parameter_at n.0.at (text_of n.0) a.0 d.0 ∷ []) d.1

abbrev pub param_step : List Parameter → Token × List Token → Read Token (Turn (List Parameter) (List Parameter))
param_step ps o = cond (starts (k.name ∷ []) o.1) (param ps o.1 >>= λ x. Found (On x.0) x.1) (Found (Out ps) o.1)

unfoldable pub params_on : List Parameter × List Token → Read Token (List Parameter)
params_on = turns (k.comma ∷ []) (λ ps. ps) param_step

unfoldable pub params : Reader (List Parameter)
params ts = pick (one k.right_paren ts) (λ o. Found [] o.1) (param [] ts >>= λ p. params_on (p.0, p.1) >>= λ ps. one_among (k.right_paren ∷ []) ps.1 >>= λ c. Found ps.0 c.1)

-- a class's base
unfoldable pub base : Reader Maybe
base ts = pick (one k.left_paren ts) (λ o. pick (one k.right_paren o.1) (λ c. Found Absent c.1) (reads_as most_levels expr o.1 >>= λ e. one_among (k.right_paren ∷ []) e.1 >>= λ c. Found (Present e.0.0) c.1)) (Found Absent ts)

unfoldable pub decorator : Reader Tree
decorator ts = reads_as most_levels expr ts >>= λ e. one_among (k.newline ∷ []) e.1 >>= λ c. Found e.0.0 c.1

abbrev pub decorator_step : Trees → Token × List Token → Read Token (Turn Trees Trees)
decorator_step ds o = decorator o.1 >>= λ e. Found (On (More ds e.0)) e.1

unfoldable pub decorators_on : Trees × List Token → Read Token Trees
decorators_on = turns (k.at ∷ []) (λ ds. ds) decorator_step

unfoldable pub decorators : Reader Trees
decorators ts = decorator ts >>= λ e. decorators_on (More Empty e.0, e.1)

-- what a handler catches, and the name behind `as`
unfoldable pub handler_head : Reader (Maybe × Option (List ℕ))
handler_head ts = cond (starts expr_begins ts) (reads_as most_levels expr ts >>= λ c. alias_behind c.1 >>= λ n. Found (Present c.0.0, n.0) n.1) (Found (Absent, None) ts)

-- STATEMENTS WITH BLOCKS; b is what reads a block
module _ (b : Reader Block) where
  unfoldable pub suite : Reader Block
  suite ts = one_among (k.colon ∷ []) ts >>= λ o. b o.1

  -- a block behind a word, if it is there
  unfoldable pub suite_behind : ℕ → Reader Block
  suite_behind c ts = pick (one c ts) (λ o. suite o.1) (Found NoStatement ts)

  unfoldable pub arm : Reader (Tree × Block)
  arm ts = reads_as most_levels expr ts >>= λ c. suite c.1 >>= λ x. Found (c.0.0, x.0) x.1

  abbrev pub elif_step : Branches → Token × List Token → Read Token (Turn Branches Branches)
  elif_step bs o = arm o.1 >>= λ y. Found (On (Branch bs o.0.at y.0.0 y.0.1)) y.1

  unfoldable pub elifs_on : Branches × List Token → Read Token Branches
  elifs_on = turns (k.elif ∷ []) (λ bs. bs) elif_step

  unfoldable pub if_behind : Pos → Reader Statement
  if_behind at ts = arm ts >>= λ y. elifs_on (Branch NoBranch at y.0.0 y.0.1, y.1) >>= λ bs. suite_behind k.else bs.1 >>= λ x. Found (If at bs.0 x.0) x.1

  unfoldable pub while_behind : Pos → Reader Statement
  while_behind at ts = arm ts >>= λ y. Found (While at y.0.0 y.0.1) y.1

  unfoldable pub with_behind : Pos → Reader Statement
  with_behind at ts = reads_as most_levels expr ts >>= λ c. alias_behind c.1 >>= λ n. suite n.1 >>= λ x. Found (With at c.0.0 n.0 x.0) x.1

  unfoldable pub for_behind : Pos → Reader Statement
  for_behind at ts = reads_as most_levels targets ts >>= λ t. one_among (k.in_word ∷ []) t.1 >>= λ i. reads_as most_levels exprs i.1 >>= λ e. suite e.1 >>= λ x. Found (For at t.0.0 e.0.0 x.0) x.1

  -- handlers, and one more behind `except`
  unfoldable pub handler : Handlers → Pos → Reader Handlers
  handler hs word ts = handler_head ts >>= λ c. suite c.1 >>= λ x. Found (Handler hs word c.0.0 c.0.1 x.0) x.1

  abbrev pub handler_step : Handlers → Token × List Token → Read Token (Turn Handlers Handlers)
  handler_step hs o = handler hs o.0.at o.1 >>= λ y. Found (On y.0) y.1

  unfoldable pub excepts_on : Handlers × List Token → Read Token Handlers
  excepts_on = turns (k.except ∷ []) (λ hs. hs) handler_step

  unfoldable pub handled : Pos → Block → Pos → Reader Statement
  handled at x word ts = handler NoHandler word ts >>= λ y. excepts_on (y.0, y.1) >>= λ hs. suite_behind k.else hs.1 >>= λ e. suite_behind k.finally e.1 >>= λ f. Found (Try at x hs.0 e.0 f.0) f.1

  unfoldable pub try_behind : Pos → Reader Statement
  try_behind at ts = suite ts >>= λ x. pick (one k.except x.1) (λ o. handled at x.0 o.0.at o.1) (one_among (k.finally ∷ []) x.1 >>= λ w. suite w.1 >>= λ f. Found (Try at x.0 NoHandler NoStatement f.0) f.1)

  unfoldable pub def_behind : Pos → Trees → Pos → Reader Statement
  def_behind at ds word ts = name_reader ts >>= λ n. one_among (k.left_paren ∷ []) n.1 >>= λ l. params l.1 >>= λ ps. expr_behind k.arrow ps.1 >>= λ r. suite r.1 >>= λ x. Found (Def at ds word n.0 ps.0 r.0 x.0) x.1

  unfoldable pub class_behind : Pos → Trees → Pos → Reader Statement
  class_behind at ds word ts = name_reader ts >>= λ n. base n.1 >>= λ e. suite e.1 >>= λ x. Found (Class at ds word n.0 e.0 x.0) x.1

  unfoldable pub decorated_behind : Pos → Reader Statement
  decorated_behind at ts = decorators ts >>= λ ds. pick (one k.def ds.1) (λ o. def_behind at ds.0 o.0.at o.1) (one_among (k.class ∷ []) ds.1 >>= λ o. class_behind at ds.0 o.0.at o.1)

  unfoldable pub compound : Reader Statement
  compound ts = pick (one k.if ts) (λ o. if_behind o.0.at o.1) (pick (one k.while ts) (λ o. while_behind o.0.at o.1) (pick (one k.for ts) (λ o. for_behind o.0.at o.1) (pick (one k.try ts) (λ o. try_behind o.0.at o.1)
      (pick (one k.with ts) (λ o. with_behind o.0.at o.1) (pick (one k.def ts) (λ o. def_behind o.0.at Empty o.0.at o.1) (pick (one k.class ts) (λ o. class_behind o.0.at Empty o.0.at o.1) (one_among (k.at ∷ []) ts >>= λ o. decorated_behind o.0.at o.1)))))))

  -- a statement behind those of a block; left says whether a level is left for its blocks
  unfoldable pub stmt : (left : Bool) → Block → Reader Block
  stmt left before ts = cond (starts compound_begins ts) (cond left (compound ts >>= λ s. Found (Next before s.0) s.1) (Deep ts)) (simples before ts)

  abbrev pub stmt_step : (left : Bool) → Block → Token × List Token → Read Token (Turn Block Block)
  stmt_step left before o = stmt left before (o.0 ∷ o.1) >>= λ x. Found (On x.0) x.1

  unfoldable pub stmts_on : (left : Bool) → Block × List Token → Read Token Block
  stmts_on left = turns stmt_begins (λ x. x) (stmt_step left)

  unfoldable pub stmts : (left : Bool) → Reader Block
  stmts left ts = stmt left NoStatement ts >>= λ x. stmts_on left (x.0, x.1)

-- A BLOCK, with so many levels, its own among them
unfoldable pub block_at : ℕ → Reader Block
block_at zero ts = deep_at (λ t. has (kind t) (k.newline ∷ simple_begins)) ts
block_at (suc n) ts = pick (one k.newline ts) (λ o. one_among (k.indent ∷ []) o.1 >>= λ i. stmts (block_at n) (nat_le 1 n) i.1 >>= λ x. one_among (k.dedent ∷ []) x.1 >>= λ d. Found x.0 d.1) (simples NoStatement ts)

unfoldable pub source : Reader Block
source ts = pick (one k.end ts) (λ o. Found NoStatement o.1) (stmts (block_at most_levels) true ts >>= λ x. one_among (k.end ∷ []) x.1 >>= λ e. Found x.0 e.1)
