-- EACH READING TAKES A TOKEN, since the grammar's does.
use Rattle.std.proofs.Common.{◌≡◌, ℕ, suc, ◌<◌, nat_le, List, length, sym, ap, ◌∙◌, refl, arith}
use Rattle.py_cursor.specs.py_tokens.declared.token.Token.{Token}
use Rattle.py_tree.specs.Statements.{Statement, Block, NoStatement}
use Rattle.parsing.specs.Reading.{Read, Found, Bad, Deep, ◌>>=◌}
use Rattle.parsing.proofs.Chain.{bind_found}
use Rattle.grammar.specs.Levels.{readers}
use Rattle.grammar.proofs.Along.{reader_takes}
use Rattle.grammar_code.specs.Plain.{plain}
use Rattle.py_grammar.specs.Sorts as v
use Rattle.py_grammar.specs.Sorts.{BlockValue, BlockName, block_sort}
use Rattle.py_grammar.specs.Lines.{statements}
use Rattle.py_grammar.specs.Sources.{limited, unlimited}
use Rattle.py_grammar.proofs.Good.{good_statements}
use Rattle.py_grammar.proofs.Laws.{expression_rules}
use Rattle.statement_readers.specs.Words.{simple, simples, stmt, block_at}
use Rattle.statement_readers.proofs.SimpleLines.{fr, L, simple_is, simples_is}
use Rattle.statement_readers.proofs.BlockLines.{moved, simples_behind, stmt_behind, stmt_line, block_is}

plain_found : {A : Type 0} (r : Read Token (A × ℕ)) (a : A) (rest : List Token) → plain r ≡ Found a rest → (h : ℕ) × (r ≡ Found (a, h) rest)
plain_found (Found x z) a rest e = (x.1, let i : x.0 ≡ a = cc in let j : z ≡ rest = cc in rw (i, j) refl)
plain_found (Bad z) a rest e = absurd (cc)
plain_found (Deep z) a rest e = absurd (cc)

line_takes : (n : ℕ) (r : BlockName) (ts : List Token) (a : BlockValue (block_sort r)) (rest : List Token) → L n r ts ≡ Found a rest → length rest < length ts
line_takes n r ts a rest e = let x = plain_found (readers statements fr n r ts) a rest e in reader_takes statements good_statements (limited 100) unlimited fr (expression_rules 99) n r ts (a, x.0) rest x.1

found_rest : {A : Type 0} (x y : A) (u v : List Token) → Found x u ≡ Found y v → u ≡ v
found_rest x y u v e = cc

moved_takes : (b : Block) (r : Read Token Block) (n : ℕ) → ((x : Block) (rest : List Token) → r ≡ Found x rest → length rest < n) → (x : Block) (rest : List Token) → (r >>= moved b) ≡ Found x rest → length rest < n
moved_takes b r n h x rest e = let y = bind_found r (moved b) x rest e in let i = h y.0 y.1 y.2 in let j = ap length (found_rest _ x y.1 rest y.3) in omega arith

pub simple_takes : (ts : List Token) (s : Statement) (rest : List Token) → simple ts ≡ Found s rest → length rest < length ts
simple_takes ts s rest e = line_takes 1 v.simple ts s rest (simple_is 0 ts ∙ e)

pub simples_takes : (b : Block) (ts : List Token) (x : Block) (rest : List Token) → simples b ts ≡ Found x rest → length rest < length ts
simples_takes b ts x rest e = moved_takes b (simples NoStatement ts) (length ts) (λ y rest i. line_takes 1 v.simples ts y rest (simples_is 0 ts ∙ i)) x rest (sym (simples_behind b ts) ∙ e)

pub block_takes : (n : ℕ) (ts : List Token) (x : Block) (rest : List Token) → block_at n ts ≡ Found x rest → length rest < length ts
block_takes n ts x rest e = line_takes n v.body ts x rest (block_is n ts ∙ e)

pub stmt_takes : (n : ℕ) (b : Block) (ts : List Token) (x : Block) (rest : List Token) → stmt (block_at n) (nat_le 1 n) b ts ≡ Found x rest → length rest < length ts
stmt_takes n b ts x rest e = moved_takes b (stmt (block_at n) (nat_le 1 n) NoStatement ts) (length ts) (λ y rest i. stmt_line_takes n ts y rest i) x rest (sym (stmt_behind (block_at n) (nat_le 1 n) b ts) ∙ e)
  where
    stmt_line_takes : (n : ℕ) (ts : List Token) (y : Block) (rest : List Token) → stmt (block_at n) (nat_le 1 n) NoStatement ts ≡ Found y rest → length rest < length ts
    stmt_line_takes n ts y rest i = line_takes (suc n) v.stmt ts y rest (stmt_line n ts ∙ i)
