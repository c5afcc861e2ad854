-- Each line of the grammar with its reader.
use Rattle.std.proofs.Common.{◌≡◌, ℕ, zero, suc, ◌<◌, Bool, true, false, inl, inr, List, [], ◌∷◌, refl, arith}
use Rattle.mark_expr.specs.declared.token.Kind.{Kind}
use Rattle.mark_expr.specs.declared.token.Kind.TheVariants as kinds
use Rattle.mark_expr.specs.declared.token.Token.{Token}
use Rattle.parsing.proofs.Chain.{chain_rule}
use Rattle.mark_expr.specs.Expression.{ExpressionTree, Negation, Conjunction, Disjunction}
use Rattle.mark_expr.specs.Grammar.{kind, name_leaf, has_kind, OneOfKind, accept_kind, OrOf, AndOf, NotOf, NotExpr, Expr, or_of, and_of, RestOf, not_or_group, not_of, not_at_limit, not_at, or_at}
use Rattle.parsing.specs.Reading.{Read, Found, ◌>>=◌, Or, One, one_at, has, CanStart, CanGoOn, Never}
use Rattle.parsing.proofs.Parts.{Facts, Reader, or_reader, change, one_facts, one_reader}
use Rattle.parsing.proofs.Sets.{has_left, has_either}
use Rattle.parsing.proofs.Rules.{Rule, nothing, one, «then», or, deep_reader, start_then, go_then, start_nothing, start_loop, start_one, go_one, go_left, go_right}

abbrev some_token : Kind → Token
some_token k = record { at = 0; kind = k }

token : {U : Type 0} (k : ℕ) (h : Token) → has_kind k h ≡ true → Rule U (Unit {0}) kind (OneOfKind k) (OneOfKind k) (accept_kind k) false (k ∷ []) []
token k h e = one h e

name_rule : {U : Type 0} → Rule U (Unit {0}) kind (One (has_kind 5) name_leaf) (One (has_kind 5) name_leaf) (one_at (has_kind 5) name_leaf) false (5 ∷ []) []
name_rule = one (some_token (kinds.Ident [])) refl

module _ (U : Type 0) (L M : List Token → ExpressionTree → Type 0) (p : List Token → Read Token ExpressionTree) (r : Rule U (Unit {0}) kind L M p false (5 ∷ 2 ∷ 3 ∷ []) []) where
  pub and_rule : Rule U (Unit {0}) kind (AndOf L) (AndOf M) (and_of p) false (5 ∷ 2 ∷ 3 ∷ []) (1 ∷ [])
  and_rule = «then» _ r (λ a. chain_rule {F = 1 ∷ []} (some_token kinds.And) refl r refl refl refl Conjunction a) (λ a. refl)

module _ (U : Type 0) (L M : List Token → ExpressionTree → Type 0) (p : List Token → Read Token ExpressionTree) (r : Rule U (Unit {0}) kind L M p false (5 ∷ 2 ∷ 3 ∷ []) (1 ∷ [])) where
  pub or_rule : Rule U (Unit {0}) kind (OrOf L) (OrOf M) (or_of p) false (5 ∷ 2 ∷ 3 ∷ []) (1 ∷ 0 ∷ 1 ∷ [])
  or_rule = «then» _ r (λ a. chain_rule {F = 0 ∷ []} (some_token kinds.Or) refl r refl refl refl Disjunction a) (λ a. refl)

module _ (U : Type 0) (L M : List Token → ExpressionTree → Type 0) (p : List Token → Read Token ExpressionTree) (r : Rule U (Unit {0}) kind L M p false (5 ∷ 2 ∷ 3 ∷ []) []) where
  rest_rule : Rule U (Unit {0}) kind (RestOf L) (RestOf M) (not_or_group p) false (2 ∷ 3 ∷ []) []
  rest_rule = or («then» _ (token 2 (some_token kinds.Not) refl) (λ o. «then» (λ r. Found (Negation r.0) r.1) r (λ t. nothing (Negation t)) (λ x. refl)) (λ o. refl))
      («then» _ (token 3 (some_token kinds.Open) refl) (λ o. «then» (λ r. accept_kind 4 r.1 >>= λ c. Found r.0 c.1) (or_rule U _ _ _ (and_rule U L M p r)) (λ t. «then» (λ c. Found t c.1) (token 4 (some_token kinds.Close) refl) (λ c. nothing t) (λ c. refl)) (λ t. refl)) (λ o. refl)) refl

  not_rule : Rule U (Unit {0}) kind (NotOf L) (NotOf M) (not_of p) false (5 ∷ 2 ∷ 3 ∷ []) []
  not_rule = or name_rule rest_rule refl

only_facts : {L M : List Token → ExpressionTree → Type 0} {p : List Token → Read Token ExpressionTree} {nul : Bool} {F G : List ℕ} → Facts kind M nul F G → Rule ⊥ (Unit {0}) kind L M p nul F G
only_facts f = record { facts = f; reader = λ u x. absurd u; able = λ u x. absurd u; able_wide = λ u. absurd u }

zero_facts : Facts kind (One (has_kind 5) name_leaf) false (5 ∷ 2 ∷ 3 ∷ []) []
zero_facts = let f = one_facts kind (5 ∷ []) name_leaf in record { first = λ h z a r. has_left (kind h) (5 ∷ []) (2 ∷ 3 ∷ []) (f.first h z a r); empty = f.empty; goes = f.goes; unique = f.unique }

facts_of : (m : ℕ) → Rule ⊥ (Unit {0}) kind (NotExpr m) (NotExpr m) (not_at m) false (5 ∷ 2 ∷ 3 ∷ []) []
unfolding not_at
facts_of zero = only_facts zero_facts
facts_of (suc m) = not_rule ⊥ (NotExpr m) (NotExpr m) (not_at m) (facts_of m)

able_of : (n : ℕ) → CanStart (NotExpr n) []
able_of zero = (name_rule {U = Unit {0}}).able tt tt
able_of (suc n) = let s = (name_rule {U = Unit {0}}).able tt tt in record { more = s.more; tree = s.tree; reads = inl s.reads }

zero_case : (m : ℕ) → Reader kind (One (has_kind 5) name_leaf) (NotOf (NotExpr m)) not_at_limit (5 ∷ 2 ∷ 3 ∷ [])
zero_case m =
    let f = rest_rule ⊥ (NotExpr m) (NotExpr m) (not_at m) (facts_of m) in
    let st : (h : Token) → has (kind h) (2 ∷ 3 ∷ []) ≡ true → CanGoOn (RestOf (NotExpr m)) [] h = λ h e. elim (has_either (kind h) (2 ∷ []) (3 ∷ []) e) [
      | inl x ↦ go_left (go_then (go_one x) (λ _. start_then (able_of m) (λ t. start_nothing)))
      | inr x ↦ go_right (go_then (go_one x) (λ _. start_then (start_then (start_then (able_of m) (λ t. start_loop)) (λ t. start_loop)) (λ t. start_then (start_one (some_token kinds.Close) refl) (λ c. start_nothing))))
    ] in
    let r = or_reader kind (One (has_kind 5) name_leaf) (5 ∷ []) [] (one_facts kind (5 ∷ []) name_leaf) (RestOf (NotExpr m)) false (2 ∷ 3 ∷ []) [] f.facts refl (One (has_kind 5) name_leaf) Never (one_at (has_kind 5) name_leaf) _ (one_reader kind (5 ∷ []) name_leaf) (deep_reader kind (RestOf (NotExpr m)) (2 ∷ 3 ∷ []) [] f.facts st) in
    record {
      widens = λ w a x. inl x;
      starts = r.starts;
      outcome = λ ts. change (Or (One (has_kind 5) name_leaf) Never) (NotOf (NotExpr m)) (One (has_kind 5) name_leaf) (NotOf (NotExpr m)) (λ w a. elim [ inl x ↦ x | inr x ↦ absurd x ]) (λ w a x. inl x) (λ w a x. x) (λ w a x. x) ts (not_at_limit ts) (r.outcome ts);
    }

-- within n levels, against more
pub not_rules : (n m : ℕ) → n < m → Rule (Unit {0}) (Unit {0}) kind (NotExpr n) (NotExpr m) (not_at n) false (5 ∷ 2 ∷ 3 ∷ []) []
unfolding not_at
not_rules n zero h = absurd (omega arith)
not_rules zero (suc m) h = record { facts = (facts_of (suc m)).facts; reader = λ _ _. zero_case m; able = λ _ _. able_of zero; able_wide = λ _. able_of (suc m) }
not_rules (suc n) (suc m) h = not_rule (Unit {0}) (NotExpr n) (NotExpr m) (not_at n) (not_rules n m (omega arith))

-- an expression within n levels, against more
pub expr_rules : (n m : ℕ) → n < m → Rule (Unit {0}) (Unit {0}) kind (Expr n) (Expr m) (or_at n) false (5 ∷ 2 ∷ 3 ∷ []) (1 ∷ 0 ∷ 1 ∷ [])
expr_rules n m h = or_rule (Unit {0}) _ _ _ (and_rule (Unit {0}) (NotExpr n) (NotExpr m) (not_at n) (not_rules n m h))
