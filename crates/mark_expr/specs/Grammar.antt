-- The grammar made of parts, and its reader, line by line.
use Rattle.std.specs.Prelude.{◌≡◌, ℕ, ◌+◌, min, Bool, cond, List, [], ◌∷◌, Result, Ok, Err}
use Rattle.std.proofs.Common.{zero, suc}
use Rattle.mark_expr.specs.declared.token.Kind.{Kind}
use Rattle.mark_expr.specs.declared.token.Kind.TheVariants as kinds
use Rattle.mark_expr.specs.declared.token.Token.{Token}
use Rattle.mark_expr.specs.declared.fault.Stop.{Stop}
use Rattle.mark_expr.specs.declared.fault.Stop.TheVariants as stops
use Rattle.parsing.specs.Reading.{Read, Found, Bad, Deep, ◌>>=◌, head_is, Then, Or, Nothing, One, one_at, Chain, chain, has, deep_at}
use Rattle.mark_expr.specs.declared.tree.MarkExpr.{MarkExpr}
use Rattle.mark_expr.specs.declared.fault.ExprFault.{ExprFault}
use Rattle.mark_expr.specs.declared.fault.ExprFault.TheVariants as faults
use Rattle.mark_expr.specs.Expression.{ExpressionTree, Name, Negation, Conjunction, Disjunction, view}
use Rattle.mark_expr.specs.Text.{start_of_rest}

-- the kinds of tokens by number
abbrev pub kind_number : Kind → ℕ
kind_number kinds.Or = 0
kind_number kinds.And = 1
kind_number kinds.Not = 2
kind_number kinds.Open = 3
kind_number kinds.Close = 4
kind_number (kinds.Ident n) = 5
kind_number kinds.Other = 6

abbrev pub kind : Token → ℕ
kind t = kind_number t.kind

abbrev pub ident_name : Kind → List ℕ
ident_name (kinds.Ident n) = n
ident_name kinds.Or = []
ident_name kinds.And = []
ident_name kinds.Not = []
ident_name kinds.Open = []
ident_name kinds.Close = []
ident_name kinds.Other = []

abbrev pub name_leaf : Token → ExpressionTree
name_leaf t = Name (ident_name t.kind)

abbrev pub has_kind : ℕ → Token → Bool
has_kind k t = has (kind t) (k ∷ [])

-- the token of this kind
abbrev pub OneOfKind : ℕ → List Token → Token → Type 0
OneOfKind k = One (has_kind k) (λ t. t)

abbrev pub accept_kind : ℕ → List Token → Read Token Token
accept_kind k = one_at (has_kind k) (λ t. t)

-- THE GRAMMAR. expr: and_expr ("or" and_expr)*
abbrev pub OrOf : (List Token → ExpressionTree → Type 0) → List Token → ExpressionTree → Type 0
OrOf And = Then And (λ a. Chain (has_kind 0) And Disjunction a)

-- and_expr: not_expr ("and" not_expr)*
abbrev pub AndOf : (List Token → ExpressionTree → Type 0) → List Token → ExpressionTree → Type 0
AndOf Not = Then Not (λ a. Chain (has_kind 1) Not Conjunction a)

-- not_expr: ident | "not" not_expr | "(" expr ")"
abbrev pub RestOf : (List Token → ExpressionTree → Type 0) → List Token → ExpressionTree → Type 0
RestOf Not = Or (Then (OneOfKind 2) (λ _. Then Not (λ t. Nothing (Negation t)))) (Then (OneOfKind 3) (λ _. Then (OrOf (AndOf Not)) (λ t. Then (OneOfKind 4) (λ _. Nothing t))))

abbrev pub NotOf : (List Token → ExpressionTree → Type 0) → List Token → ExpressionTree → Type 0
NotOf Not = Or (One (has_kind 5) name_leaf) (RestOf Not)

-- the number says how many parentheses and `not`s may be open in it at once
abbrev pub NotExpr : ℕ → List Token → ExpressionTree → Type 0
NotExpr zero = One (has_kind 5) name_leaf
NotExpr (suc n) = NotOf (NotExpr n)

abbrev pub Expr : ℕ → List Token → ExpressionTree → Type 0
Expr n = OrOf (AndOf (NotExpr n))

-- THE READER
abbrev pub or_of : (List Token → Read Token ExpressionTree) → List Token → Read Token ExpressionTree
or_of and ts = and ts >>= chain (has_kind 0) and Disjunction

abbrev pub and_of : (List Token → Read Token ExpressionTree) → List Token → Read Token ExpressionTree
and_of not ts = not ts >>= chain (has_kind 1) not Conjunction

abbrev pub closed_of : (List Token → Read Token ExpressionTree) → List Token → Read Token ExpressionTree
closed_of not ts = or_of (and_of not) ts >>= λ r. accept_kind 4 r.1 >>= λ c. Found r.0 c.1

abbrev pub not_or_group : (List Token → Read Token ExpressionTree) → List Token → Read Token ExpressionTree
not_or_group not ts = cond (head_is (has_kind 2) ts) (accept_kind 2 ts >>= λ o. not o.1 >>= λ r. Found (Negation r.0) r.1)
    (accept_kind 3 ts >>= λ o. closed_of not o.1)

abbrev pub not_of : (List Token → Read Token ExpressionTree) → List Token → Read Token ExpressionTree
not_of not ts = cond (head_is (has_kind 5) ts) (one_at (has_kind 5) name_leaf ts) (not_or_group not ts)

-- no level is left
abbrev pub not_at_limit : List Token → Read Token ExpressionTree
not_at_limit ts = cond (head_is (has_kind 5) ts) (one_at (has_kind 5) name_leaf ts) (deep_at (λ h. has (kind h) (2 ∷ 3 ∷ [])) ts)

unfoldable pub not_at : ℕ → List Token → Read Token ExpressionTree
not_at zero ts = not_at_limit ts
not_at (suc n) ts = not_of (not_at n) ts

abbrev pub and_at : ℕ → List Token → Read Token ExpressionTree
and_at n = and_of (not_at n)

abbrev pub or_at : ℕ → List Token → Read Token ExpressionTree
or_at n = or_of (and_at n)

-- behind a parenthesis
abbrev pub parenthesized_at : ℕ → List Token → Read Token ExpressionTree
parenthesized_at n = closed_of (not_at n)

-- What a function returned is what the reader gives, unless memory ran out.
abbrev pub MatchesStop : Stop → Read Token ExpressionTree → Type 0
MatchesStop (stops.Bad s) read = read ≡ Bad s.now
MatchesStop (stops.Deep s) read = read ≡ Deep s.now
MatchesStop stops.Memory read = Unit {0}

abbrev pub MatchesRead : {X : Type 0} → (X → ExpressionTree × List Token) → Result X Stop → Read Token ExpressionTree → Type 0
MatchesRead seen (Ok x) read = read ≡ Found (seen x).0 (seen x).1
MatchesRead seen (Err e) read = MatchesStop e read

-- What the text of this many characters was answered is what the reader gives, unless memory ran out.
abbrev pub IsExact : ℕ → Result MarkExpr ExprFault → Read Token ExpressionTree → Type 0
IsExact count (Ok e) read = read ≡ Found (view e) []
IsExact count (Err (faults.Bad c)) read = (rest : List Token) × (read ≡ Bad rest) × (c ≡ min (start_of_rest count rest + 1) 4294967295)
IsExact count (Err faults.Nesting) read = (rest : List Token) × (read ≡ Deep rest)
IsExact count (Err faults.OutOfMemory) read = Unit {0}
