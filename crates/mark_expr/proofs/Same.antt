-- The relation by cases is the grammar made of parts.
use Rattle.std.proofs.Common.{◌≡◌, ℕ, zero, suc, true, cond, ◌==◌, inl, inr, List, [], ◌∷◌, ◌++◌, refl, sym, ap, ◌∙◌, subst, arith, append-nil}
use Rattle.std.proofs.lemmas.Grind.{common_steps}
use Rattle.parsing.specs.Reading.{One, has}
use Rattle.parsing.proofs.Chain.{chain_first, chain_more, of_chain}
use Rattle.mark_expr.specs.declared.token.Kind.{Kind}
use Rattle.mark_expr.specs.declared.token.Kind.TheVariants as kinds
use Rattle.mark_expr.specs.declared.token.Token.{Token}
use Rattle.mark_expr.specs.Expression.{ExpressionTree, Name, Conjunction, Disjunction, Nonterminal, or_expr, and_expr, not_expr, Reading, NestedWithin, ident, negation, parens, and_one, and_more, or_one, or_more}
use Rattle.mark_expr.specs.Grammar.{kind_number, ident_name, kind, name_leaf, has_kind, OrOf, AndOf, NotExpr, Expr}

is_number : (k x : ℕ) → has k (x ∷ []) ≡ true → k ≡ x
is_number k x e = grind (arith, common_steps)

of_number : (k x : ℕ) → k ≡ x → has k (x ∷ []) ≡ true
of_number k x e = grind (arith, common_steps)

-- a kind from its number
abbrev kind_of : ℕ → List ℕ → Kind
kind_of k name = cond (k == 0) kinds.Or (cond (k == 1) kinds.And (cond (k == 2) kinds.Not (cond (k == 3) kinds.Open (cond (k == 4) kinds.Close (cond (k == 5) (kinds.Ident name) kinds.Other)))))

kind_back : (k : Kind) → kind_of (kind_number k) (ident_name k) ≡ k
kind_back kinds.Or = refl
kind_back kinds.And = refl
kind_back kinds.Not = refl
kind_back kinds.Open = refl
kind_back kinds.Close = refl
kind_back (kinds.Ident n) = refl
kind_back kinds.Other = refl

is_kind : (t : Token) (x : ℕ) → has_kind x t ≡ true → t.kind ≡ kind_of x (ident_name t.kind)
is_kind t x e = sym (kind_back t.kind) ∙ ap (λ k. kind_of k (ident_name t.kind)) (is_number (kind t) x e)

of_kind : (t : Token) (k : Kind) → t.kind ≡ k → has_kind (kind_number k) t ≡ true
of_kind t k e = of_number (kind t) (kind_number k) (ap kind_number e)

abbrev Made : Nonterminal → ℕ → List Token → ExpressionTree → Type 0
Made or_expr n = OrOf (AndOf (NotExpr n))
Made and_expr n = AndOf (NotExpr n)
Made not_expr n = NotExpr n

an_ident : (n : ℕ) (w : List Token) (t : Token) → has_kind 5 t ≡ true → w ≡ t ∷ [] → NotExpr n w (name_leaf t)
an_ident zero w t e q = record { token = t; whole = q; passes = e; value = refl }
an_ident (suc n) w t e q = inl (record { token = t; whole = q; passes = e; value = refl })

pub to_made : {s : Nonterminal} {n : ℕ} {w : List Token} {x : ExpressionTree} → Reading s n w x → Made s n w x
to_made (ident {n = n} {w = w} {name = name} t e q) = subst (λ y. NotExpr n w y) (ap (λ k. Name (ident_name k)) e) (an_ident n w t (of_kind t (kinds.Ident name) e) q)
to_made (negation {v = v} {x = x} t e q r) = inr (inl (record {
  front = t ∷ [];
  back = v;
  value = t;
  whole = q;
  left = record { token = t; whole = refl; passes = of_kind t kinds.Not e; value = refl };
  right = record { front = v; back = []; value = x; whole = sym (append-nil v); left = to_made r; right = (refl, refl) };
}))
to_made (parens {v = v} {x = x} o c e f q r) = inr (inr (record {
  front = o ∷ [];
  back = v ++ c ∷ [];
  value = o;
  whole = q;
  left = record { token = o; whole = refl; passes = of_kind o kinds.Open e; value = refl };
  right = record {
    front = v;
    back = c ∷ [];
    value = x;
    whole = refl;
    left = to_made r;
    right = record { front = c ∷ []; back = []; value = c; whole = refl; left = record { token = c; whole = refl; passes = of_kind c kinds.Close f; value = refl }; right = (refl, refl) };
  };
}))
to_made (and_one {n = n} {w = w} {x = x} r) = chain_first (has_kind 1) (NotExpr n) (NotExpr n) Conjunction w x (to_made r)
to_made (and_more {n = n} {w = w} {u = u} {v = v} {l = l} {r = y} t e q a b) = chain_more (has_kind 1) (NotExpr n) (NotExpr n) Conjunction w u v l y t (of_kind t kinds.And e) q (to_made a) (to_made b)
to_made (or_one {n = n} {w = w} {x = x} r) = chain_first (has_kind 0) (AndOf (NotExpr n)) (AndOf (NotExpr n)) Disjunction w x (to_made r)
to_made (or_more {n = n} {w = w} {u = u} {v = v} {l = l} {r = y} t e q a b) = chain_more (has_kind 0) (AndOf (NotExpr n)) (AndOf (NotExpr n)) Disjunction w u v l y t (of_kind t kinds.Or e) q (to_made a) (to_made b)

-- the other way, a line at a time
of_and : (n : ℕ) → ((w : List Token) (x : ExpressionTree) → NotExpr n w x → Reading not_expr n w x) → (w : List Token) (x : ExpressionTree) → AndOf (NotExpr n) w x → Reading and_expr n w x
of_and n f = of_chain (has_kind 1) (NotExpr n) (NotExpr n) Conjunction (Reading and_expr n) (λ w a r. and_one (f w a r)) (λ w u v l r t e q a b. and_more t (is_kind t 1 e) q a (f v r b))

of_or : (n : ℕ) → ((w : List Token) (x : ExpressionTree) → NotExpr n w x → Reading not_expr n w x) → (w : List Token) (x : ExpressionTree) → OrOf (AndOf (NotExpr n)) w x → Reading or_expr n w x
of_or n f = of_chain (has_kind 0) (AndOf (NotExpr n)) (AndOf (NotExpr n)) Disjunction (Reading or_expr n) (λ w a r. or_one (of_and n f w a r)) (λ w u v l r t e q a b. or_more t (is_kind t 0 e) q a (of_and n f v r b))

of_ident : (n : ℕ) (w : List Token) (x : ExpressionTree) → One (has_kind 5) name_leaf w x → Reading not_expr n w x
of_ident n w x r = subst (λ y. Reading not_expr n w y) (sym r.value) (ident r.token (is_kind r.token 5 r.passes) r.whole)

of_not : (n : ℕ) (w : List Token) (x : ExpressionTree) → NotExpr n w x → Reading not_expr n w x
of_not zero w x r = of_ident zero w x r
of_not (suc n) w x (inl r) = of_ident (suc n) w x r
of_not (suc n) w x (inr (inl r)) = let b = r.right in
    let d : w ≡ r.left.token ∷ b.front = r.whole ∙ ap (λ y. y ++ r.back) r.left.whole ∙ ap (λ y. r.left.token ∷ y) (b.whole ∙ ap (λ y. b.front ++ y) b.right.0 ∙ append-nil b.front) in
    subst (λ y. Reading not_expr (suc n) w y) (sym b.right.1) (negation r.left.token (is_kind r.left.token 2 r.left.passes) d (of_not n b.front b.value b.left))
of_not (suc n) w x (inr (inr r)) = let b = r.right in let c = b.right in
    let d : b.back ≡ c.left.token ∷ [] = c.whole ∙ ap (λ y. y ++ c.back) c.left.whole ∙ ap (λ y. c.left.token ∷ y) c.right.0 in
    let e : w ≡ r.left.token ∷ (b.front ++ c.left.token ∷ []) = r.whole ∙ ap (λ y. y ++ r.back) r.left.whole ∙ ap (λ y. r.left.token ∷ y) (b.whole ∙ ap (λ y. b.front ++ y) d) in
    subst (λ y. Reading not_expr (suc n) w y) (sym c.right.1) (parens r.left.token c.left.token (is_kind r.left.token 3 r.left.passes) (is_kind c.left.token 4 c.left.passes) e (of_or n (of_not n) b.front b.value b.left))

pub to_expr : (n : ℕ) (w : List Token) (x : ExpressionTree) → NestedWithin n w x → Expr n w x
to_expr n w x r = to_made r

pub of_expr : (n : ℕ) (w : List Token) (x : ExpressionTree) → Expr n w x → NestedWithin n w x
of_expr n = of_or n (of_not n)
