-- The expressions of pytest's `-k` and `-m`: trees, and the grammar as a relation.
use Rattle.std.specs.Prelude.{◌≡◌, ℕ, List, [], ◌∷◌, ◌++◌}
use Rattle.std.proofs.Common.{suc}
use Rattle.mark_expr.specs.declared.token.Kind.TheVariants as kinds
use Rattle.mark_expr.specs.declared.token.Token.{Token}
use Rattle.mark_expr.specs.declared.tree.MarkExpr.{MarkExpr, Not', And', Or', Row_of-MarkExpr, end_of-MarkExpr, more_of-MarkExpr}
use Rattle.mark_expr.specs.declared.tree.MarkExpr.TheVariants as exprs

-- an expression, whatever holds it
pub data ExpressionTree : Type 0 where
  Name : List ℕ → ExpressionTree
  Negation : ExpressionTree → ExpressionTree
  Conjunction : ExpressionTree → ExpressionTree → ExpressionTree
  Disjunction : ExpressionTree → ExpressionTree → ExpressionTree

-- the expression that a MarkExpr holds: a row of parts is joined from the left
abbrev mutual
  pub view : MarkExpr → ExpressionTree
  view (exprs.Ident n) = Name n
  view (Not' p e) = Negation (view e)
  view (And' p first shape more) = joined_row Conjunction (view first) more
  view (Or' p first shape more) = joined_row Disjunction (view first) more

  pub joined_row : (ExpressionTree → ExpressionTree → ExpressionTree) → ExpressionTree → {m : _} → Row_of-MarkExpr m → ExpressionTree
  joined_row f a end_of-MarkExpr = a
  joined_row f a (more_of-MarkExpr e rest) = joined_row f (f a (view e)) rest

-- parts, joined from the left
abbrev pub joined_left : (ExpressionTree → ExpressionTree → ExpressionTree) → ExpressionTree → List MarkExpr → ExpressionTree
joined_left f a [] = a
joined_left f a (e ∷ es) = joined_left f (f a (view e)) es

-- the lines of the grammar
pub data Nonterminal : Type 0 where
  or_expr : Nonterminal
  and_expr : Nonterminal
  not_expr : Nonterminal

-- THE GRAMMAR, a case for each way to read a line. The number is how many parentheses and `not`s may be open at once.
--     expr:     and_expr ("or" and_expr)*
--     and_expr: not_expr ("and" not_expr)*
--     not_expr: "not" not_expr | "(" expr ")" | ident
pub data Reading : Nonterminal → ℕ → List Token → ExpressionTree → Type 0 where
  ident : {n : ℕ} {w : List Token} {name : List ℕ} (t : Token) → t.kind ≡ kinds.Ident name → w ≡ t ∷ [] → Reading not_expr n w (Name name)
  negation : {n : ℕ} {w v : List Token} {x : ExpressionTree} (t : Token) → t.kind ≡ kinds.Not → w ≡ t ∷ v → Reading not_expr n v x → Reading not_expr (suc n) w (Negation x)
  parens : {n : ℕ} {w v : List Token} {x : ExpressionTree} (o c : Token) → o.kind ≡ kinds.Open → c.kind ≡ kinds.Close → w ≡ o ∷ (v ++ c ∷ []) → Reading or_expr n v x → Reading not_expr (suc n) w x
  and_one : {n : ℕ} {w : List Token} {x : ExpressionTree} → Reading not_expr n w x → Reading and_expr n w x
  and_more : {n : ℕ} {w u v : List Token} {l r : ExpressionTree} (t : Token) → t.kind ≡ kinds.And → w ≡ u ++ t ∷ v → Reading and_expr n u l → Reading not_expr n v r → Reading and_expr n w (Conjunction l r)
  or_one : {n : ℕ} {w : List Token} {x : ExpressionTree} → Reading and_expr n w x → Reading or_expr n w x
  or_more : {n : ℕ} {w u v : List Token} {l r : ExpressionTree} (t : Token) → t.kind ≡ kinds.Or → w ≡ u ++ t ∷ v → Reading or_expr n u l → Reading and_expr n v r → Reading or_expr n w (Disjunction l r)

-- the tokens are this expression, with at most n parentheses and `not`s open at once
abbrev pub NestedWithin : ℕ → List Token → ExpressionTree → Type 0
NestedWithin n = Reading or_expr n
