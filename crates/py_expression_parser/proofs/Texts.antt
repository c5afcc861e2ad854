-- Texts side by side.
use Rattle.std.proofs.Common.{◌≡◌, ℕ, ◌-◌, ◌+◌, ◌<◌, true, cond, Some, None, List, [], ◌∷◌, ◌++◌, refl, sym, ap, ◌∙◌}
use Rattle.py_source.specs.declared.pos.Pos.{Pos}
use Rattle.py_tokens.specs.declared.token.Token.{Token}
use Rattle.py_tree.specs.Trees.{Tree, Text}
use Rattle.parsing.specs.Reading.{Read, Found, Deep, ◌>>=◌}
use Rattle.grammar.specs.Levels.{readers}
use Rattle.grammar_code.specs.Walk.{pick, first_of}
use Rattle.grammar_code.proofs.Walk.{round_walk}
use Rattle.py_cursor.specs.token_kinds.Kinds.{kind, text_of}
use Rattle.py_cursor.specs.token_kinds.Numbers as k
use Rattle.py_cursor.specs.py_expressions.Sorts.{quoted, tree}
use Rattle.py_cursor.specs.py_expressions.Lines.{expressions, no_reader, mark}
use Rattle.py_cursor.proofs.Loops.{steps_over, steps_next}
use Rattle.py_expression_parser.specs.Pieces.{texts_more}
use Rattle.py_expression_parser.proofs.Lines.{all_eat}

texts_line : (s : Pos × List ℕ) (ts : List Token) → texts_more s ts ≡ pick (first_of kind (k.text ∷ []) ts) (λ o. cond true (Found (tt {0}) o.1 >>= λ y. texts_more (s.0, s.1 ++ text_of o.0) y.1) (Deep ts)) (Found (Text s.0 s.1, 1) ts)
texts_line s ts = round_walk expressions (0 - 1) no_reader (readers expressions no_reader 0) (readers expressions no_reader (0 - 1)) (all_eat 0) (all_eat (0 - 1)) (λ q. absurd q) {S = quoted} {B = tree} (mark (k.text ∷ []) (λ s u. (s.0, s.1 ++ text_of u))) refl (s, 0) ts (λ y. Found (Text y.0.0.0 y.0.0.1, 1 + y.0.1) y.1)

pub texts_over : (s : Pos × List ℕ) (ts : List Token) → first_of kind (k.text ∷ []) ts ≡ None → texts_more s ts ≡ Found (Text s.0 s.1, 1) ts
texts_over s ts e = steps_over texts_more (first_of kind (k.text ∷ [])) (λ _. true) (λ ts. Found (tt {0}) ts) (λ s o y. (s.0, s.1 ++ text_of o)) (λ s ts. Found (Text s.0 s.1, 1) ts) texts_line s ts e

pub texts_next : (s : Pos × List ℕ) (ts : List Token) (o : Token) (after : List Token) (all : List ℕ) (whole : Read Token (Tree × ℕ)) → all ≡ s.1 ++ text_of o → first_of kind (k.text ∷ []) ts ≡ Some (o, after) → texts_more s ts ≡ whole → texts_more (s.0, all) after ≡ whole
texts_next s ts o after all whole d e w = steps_next texts_more (first_of kind (k.text ∷ [])) (λ _. true) (λ ts. Found (tt {0}) ts) (λ s o y. (s.0, s.1 ++ text_of o)) (λ s ts. Found (Text s.0 s.1, 1) ts) texts_line s ts o after tt after (s.0, all) whole e refl refl (ap (λ v. (s.0, v)) (sym d)) w
