-- `return (`: what may stand behind, by the second token.
use Rattle.std.proofs.Common.{◌≡◌, ℕ, suc, ◌==◌, ◌||◌, Bool, true, false, List, [], ◌∷◌, refl, sym, subst, arith}
use Rattle.std.proofs.lemmas.Grind.{common_steps}
use Rattle.py_expressions.specs.py_tokens.declared.token.Token.{Token}
use Rattle.py_tree.specs.Trees.{Tuple, Empty}
use Rattle.parsing.specs.Reading.{CanGoOn, has}
use Rattle.parsing.proofs.Sets.{no_false}
use Rattle.grammar.specs.Table.{by_token, by_node, by_line, by_give, both, left, right, done, Line}
use Rattle.grammar.proofs.Stands.{and_true}
use Rattle.grammar.proofs.Tokens.{without}
use Rattle.py_expressions.specs.token_kinds.Kinds.{kind, sample}
use Rattle.py_expressions.specs.token_kinds.Numbers as k
use Rattle.py_expressions.specs.Sorts.{El, sort, Name, other, unary, compare, exprs}
use Rattle.py_expressions.specs.Lines.{expressions, no_fars}
use Rattle.py_grammar.specs.Lines.{forked}
use Rattle.py_grammar.specs.Sources.{limited, unlimited}
use Rattle.py_expressions.proofs.Good.{inside, no_yield_within}

same : (i j : ℕ) → (i == j) ≡ true → i ≡ j
same i j e = grind (arith, common_steps)

only_exprs : (q : Name) (c d : ℕ) → forked q c d ≡ true → (q ≡ exprs) × (c ≡ k.left_paren) × (d ≡ k.yield)
only_exprs exprs c d e = let a = and_true (c == k.left_paren) (d == k.yield) e in (refl, same c k.left_paren a.0, same d k.yield a.1)
only_exprs q c d e = no_false e

both_no : (b : Bool) → b ≡ false → (b || false) ≡ true → ⊥
both_no true e f = no_false (sym e)
both_no false e f = no_false f

pub never_both : (q : Name) (c d : ℕ) → forked q c d ≡ true → (h i : Token) (z : List Token) (a : El (sort q) × ℕ) → unlimited q (h ∷ i ∷ z) a → has (kind h) (c ∷ []) ≡ true → has (kind i) (d ∷ []) ≡ true → ⊥
never_both q c d e h i z a r eh ei = let o = only_exprs q c d e in let w = without expressions no_fars k.yield inside no_yield_within (λ q. absurd q) q refl (h ∷ i ∷ z) a r in
    both_no (kind i == k.yield) w.1.0 (subst (λ v. has (kind i) (v ∷ []) ≡ true) o.2 ei)

-- () is read whatever the level
empty_read : (h : Token) → has (kind h) (k.left_paren ∷ []) ≡ true → Line expressions no_fars exprs (h ∷ sample k.right_paren ∷ []) (Tuple h.at Empty, 1)
empty_read h e =
    let o : Line expressions no_fars other (h ∷ sample k.right_paren ∷ []) (Tuple h.at Empty, 1) = right (right (right (right (right (left (both (by_token h e) (left (both (by_token (sample k.right_paren) refl) by_node)))))))) in
    let u : Line expressions no_fars unary (h ∷ sample k.right_paren ∷ []) (Tuple h.at Empty, 1) = right (by_line (both (by_line (both (by_line (right (by_line o))) done)) (right by_give))) in
    let c : Line expressions no_fars compare (h ∷ sample k.right_paren ∷ []) (Tuple h.at Empty, 1) = both (by_line (both (by_line (both (by_line (both (by_line (both (by_line (both (by_line (both (by_line u) done)) done)) done)) done)) done)) done)) (right by_give) in
    both (by_line (both (by_line (both (by_line (both (by_line (right (by_line c))) (right by_give))) (right by_give))) (right by_give))) (right by_give)

pub goes_on : (n : ℕ) (q : Name) (c d : ℕ) → forked q c d ≡ true → (h : Token) → has (kind h) (c ∷ []) ≡ true → CanGoOn (limited (suc n) q) [] h
goes_on n exprs c d e h i = let o = only_exprs exprs c d e in record { more = sample k.right_paren ∷ []; tree = (Tuple h.at Empty, 1); reads = (empty_read h (subst (λ v. has (kind h) (v ∷ []) ≡ true) o.1 i), omega arith) }
goes_on n q c d e h i = no_false e
