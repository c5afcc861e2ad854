-- THE LOOPS OF BLOCKS, one step on.
use Rattle.std.proofs.Common.{◌≡◌, ℕ, zero, suc, ◌-◌, ◌<◌, ◌≤◌, nat_le, Bool, true, false, cond, Option, Some, None, List, [], ◌∷◌, length, refl, sym, ap, ◌∙◌, arith}
use Rattle.std.proofs.lemmas.Bool.Decides.{nat_tests}
use Rattle.py_source.specs.declared.pos.Pos.{Pos}
use Rattle.py_cursor.specs.py_tokens.declared.token.Token.{Token}
use Rattle.py_tree.specs.Trees.{Tree, Maybe}
use Rattle.py_tree.specs.Statements.{Statement, Block, Branches, Handlers, NoStatement, Next, Branch, Handler}
use Rattle.parsing.specs.Reading.{Read, Found, Deep, ◌>>=◌}
use Rattle.parsing.proofs.Chain.{bind_found}
use Rattle.grammar_code.specs.Walk.{first_of, pick}
use Rattle.py_cursor.specs.token_kinds.Kinds.{kind}
use Rattle.py_cursor.specs.token_kinds.Numbers as k
use Rattle.py_cursor.specs.py_expressions.Sorts.{expr}
use Rattle.statement_readers.specs.Reads.{reads_as}
use Rattle.statement_readers.proofs.Expressions.{takes}
use Rattle.py_grammar.specs.Lines.{stmt_begins}
use Rattle.py_cursor.specs.declared.stop.Stop.{Stop}
use Rattle.py_cursor.specs.Cursor.{FailsAs}
use Rattle.statement_readers.specs.Turns.{Reader, On, turns}
use Rattle.statement_readers.specs.Words as w
use Rattle.statement_readers.specs.Words.{one_among, starts, one, suite, arm, elif_step, elifs_on, handler_head, handler, handler_step, excepts_on, stmt, stmt_step, stmts_on, stmts, block_at, simples, compound_begins, compound}
use Rattle.statement_readers.proofs.Turns.{Keeps, over, fails, next, fails_bind, wanted_takes, first_takes, first_whole}
use Rattle.statement_readers.proofs.Loops.{takes_bind, takes_then, keeps_bind}
use Rattle.statement_readers.proofs.Signatures.{keeps_then, caught_keeps}
use Rattle.statement_readers.proofs.Takes.{simples_takes, block_takes, stmt_takes}

pub suite_takes : (n : ℕ) (ts : List Token) (x : Block) (rest : List Token) → suite (block_at n) ts ≡ Found x rest → length rest < length ts
unfolding suite
suite_takes n ts x rest e = takes_then (one_among (k.colon ∷ []) ts) _ (length ts) (wanted_takes (k.colon ∷ []) ts) (λ o mid b rest i. let h = block_takes n mid b rest i in omega arith) x rest e

pub arm_takes : (n : ℕ) (ts : List Token) (y : Tree × Block) (rest : List Token) → arm (block_at n) ts ≡ Found y rest → length rest < length ts
unfolding arm
arm_takes n ts y rest e = takes_then (reads_as 100 expr ts) _ (length ts) (takes 100 expr ts) (λ c mid b rest i. keeps_bind (suite (block_at n) mid) _ (length mid) (λ x rest j. let h = suite_takes n mid x rest j in omega arith) b rest i) y rest e

elif_keeps : (n : ℕ) → Keeps (elif_step (block_at n))
elif_keeps n bs o after t rest e = takes_bind (arm (block_at n) after) (λ y. On (Branch bs o.at y.0 y.1)) (suc (length after)) (λ y rest i. let h = arm_takes n after y rest i in omega arith) (On t) rest e

pub elifs_over : (n : ℕ) (bs : Branches) (ts : List Token) → first_of kind (k.elif ∷ []) ts ≡ None → elifs_on (block_at n) (bs, ts) ≡ Found bs ts
unfolding elifs_on
elifs_over n bs ts e = over (k.elif ∷ []) (λ bs. bs) (elif_step (block_at n)) bs ts e

pub elifs_fails : (n : ℕ) (bs : Branches) (ts : List Token) (o : Token) (after : List Token) (stop : Stop) (whole : Read Token Branches) → first_of kind (k.elif ∷ []) ts ≡ Some (o, after) → FailsAs stop (arm (block_at n) after) → elifs_on (block_at n) (bs, ts) ≡ whole → FailsAs stop whole
unfolding elifs_on
elifs_fails n bs ts o after stop whole e i v = fails (k.elif ∷ []) (λ bs. bs) (elif_step (block_at n)) (elif_keeps n) bs ts o after stop whole e (fails_bind stop (arm (block_at n) after) _ i) v

pub elifs_next : (n : ℕ) (bs : Branches) (ts : List Token) (o : Token) (after : List Token) (y : Tree) (b : Block) (rest : List Token) (more : Branches) (whole : Read Token Branches) → first_of kind (k.elif ∷ []) ts ≡ Some (o, after) → arm (block_at n) after ≡ Found (y, b) rest → more ≡ Branch bs o.at y b → elifs_on (block_at n) (bs, ts) ≡ whole → elifs_on (block_at n) (more, rest) ≡ whole
unfolding elifs_on
elifs_next n bs ts o after y b rest more whole e i j v = next (k.elif ∷ []) (λ bs. bs) (elif_step (block_at n)) (elif_keeps n) bs ts o after more rest whole e (rw (i, j) refl) v

pub handler_keeps : (n : ℕ) (hs : Handlers) (word : Pos) (ts : List Token) (x : Handlers) (rest : List Token) → handler (block_at n) hs word ts ≡ Found x rest → length rest ≤ length ts
unfolding handler
handler_keeps n hs word ts x rest e = keeps_then (handler_head ts) _ (length ts) (caught_keeps ts) (λ c mid b rest i. keeps_bind (suite (block_at n) mid) _ (length mid) (λ x rest j. let h = suite_takes n mid x rest j in omega arith) b rest i) x rest e

handler_step_keeps : (n : ℕ) → Keeps (handler_step (block_at n))
handler_step_keeps n hs o after t rest e = takes_bind (handler (block_at n) hs o.at after) (λ x. On x) (suc (length after)) (λ y rest i. let h = handler_keeps n hs o.at after y rest i in omega arith) (On t) rest e

pub handlers_over : (n : ℕ) (hs : Handlers) (ts : List Token) → first_of kind (k.except ∷ []) ts ≡ None → excepts_on (block_at n) (hs, ts) ≡ Found hs ts
unfolding excepts_on
handlers_over n hs ts e = over (k.except ∷ []) (λ hs. hs) (handler_step (block_at n)) hs ts e

pub handlers_fails : (n : ℕ) (hs : Handlers) (ts : List Token) (o : Token) (after : List Token) (stop : Stop) (whole : Read Token Handlers) → first_of kind (k.except ∷ []) ts ≡ Some (o, after) → FailsAs stop (handler (block_at n) hs o.at after) → excepts_on (block_at n) (hs, ts) ≡ whole → FailsAs stop whole
unfolding excepts_on
handlers_fails n hs ts o after stop whole e i v = fails (k.except ∷ []) (λ hs. hs) (handler_step (block_at n)) (handler_step_keeps n) hs ts o after stop whole e (fails_bind stop (handler (block_at n) hs o.at after) _ i) v

pub handlers_next : (n : ℕ) (hs : Handlers) (ts : List Token) (o : Token) (after : List Token) (more : Handlers) (rest : List Token) (whole : Read Token Handlers) → first_of kind (k.except ∷ []) ts ≡ Some (o, after) → handler (block_at n) hs o.at after ≡ Found more rest → excepts_on (block_at n) (hs, ts) ≡ whole → excepts_on (block_at n) (more, rest) ≡ whole
unfolding excepts_on
handlers_next n hs ts o after more rest whole e i v = next (k.except ∷ []) (λ hs. hs) (handler_step (block_at n)) (handler_step_keeps n) hs ts o after more rest whole e (rw i refl) v

stmt_step_keeps : (n : ℕ) → Keeps (stmt_step (block_at n) (nat_le 1 n))
stmt_step_keeps n b o after t rest e = takes_bind (stmt (block_at n) (nat_le 1 n) b (o ∷ after)) (λ x. On x) (suc (length after)) (λ y rest i. stmt_takes n b (o ∷ after) y rest i) (On t) rest e

pub stmts_over : (n : ℕ) (b : Block) (ts : List Token) → first_of kind stmt_begins ts ≡ None → stmts_on (block_at n) (nat_le 1 n) (b, ts) ≡ Found b ts
unfolding stmts_on
stmts_over n b ts e = over stmt_begins (λ x. x) (stmt_step (block_at n) (nat_le 1 n)) b ts e

pub stmts_fails : (n : ℕ) (b : Block) (ts : List Token) (o : Token) (after : List Token) (stop : Stop) (whole : Read Token Block) → first_of kind stmt_begins ts ≡ Some (o, after) → FailsAs stop (stmt (block_at n) (nat_le 1 n) b ts) → stmts_on (block_at n) (nat_le 1 n) (b, ts) ≡ whole → FailsAs stop whole
unfolding stmts_on
stmts_fails n b ts o after stop whole e i v = fails stmt_begins (λ x. x) (stmt_step (block_at n) (nat_le 1 n)) (stmt_step_keeps n) b ts o after stop whole e (fails_bind stop (stmt (block_at n) (nat_le 1 n) b (o ∷ after)) _ (rw (sym (first_whole stmt_begins ts o after e)) i)) v

pub stmts_next : (n : ℕ) (b : Block) (ts : List Token) (o : Token) (after : List Token) (more : Block) (rest : List Token) (whole : Read Token Block) → first_of kind stmt_begins ts ≡ Some (o, after) → stmt (block_at n) (nat_le 1 n) b ts ≡ Found more rest → stmts_on (block_at n) (nat_le 1 n) (b, ts) ≡ whole → stmts_on (block_at n) (nat_le 1 n) (more, rest) ≡ whole
unfolding stmts_on
stmts_next n b ts o after more rest whole e i v = next stmt_begins (λ x. x) (stmt_step (block_at n) (nat_le 1 n)) (stmt_step_keeps n) b ts o after more rest whole e (ap (λ ts. stmt (block_at n) (nat_le 1 n) b ts >>= λ x. Found (On x.0) x.1) (sym (first_whole stmt_begins ts o after e)) ∙ rw i refl) v

-- whether a level is left
pub left_some : (n : ℕ) → 0 < n → nat_le 1 n ≡ true
left_some n h = grind (arith, nat_tests)

pub left_none : (n : ℕ) → n ≡ 0 → nat_le 1 n ≡ false
left_none n h = grind (arith, nat_tests)

pub block_shape : (n : ℕ) (ts : List Token) → 0 < n → block_at n ts ≡ pick (one k.newline ts) (λ o. one_among (k.indent ∷ []) o.1 >>= λ i. stmts (block_at (n - 1)) (nat_le 1 (n - 1)) i.1 >>= λ x. one_among (k.dedent ∷ []) x.1 >>= λ d. Found x.0 d.1) (simples NoStatement ts)
unfolding block_at
block_shape zero ts h = absurd (omega arith)
block_shape (suc n) ts h = ap (λ m. pick (one k.newline ts) (λ o. one_among (k.indent ∷ []) o.1 >>= λ i. stmts (block_at m) (nat_le 1 m) i.1 >>= λ x. one_among (k.dedent ∷ []) x.1 >>= λ d. Found x.0 d.1) (simples NoStatement ts)) (less n)
  where
    less : (n : ℕ) → n ≡ suc n - 1
    less n = omega arith

pub ruleset elif_rules = (elifs_over, elifs_next, elifs_fails)

pub ruleset handler_rules = (handlers_over, handlers_next, handlers_fails)

pub ruleset stmt_rules = (stmts_over, stmts_next, stmts_fails)

pub ruleset left_rules = (left_some, left_none)

pub ruleset block_rules = (block_shape)
