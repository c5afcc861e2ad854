-- What the two loops go by.
use Rattle.std.proofs.Common.{◌≡◌, ℕ, suc, ◌<◌, List, [], ◌∷◌, ◌++◌, Some, None, length, refl, sym, ap, ◌∙◌, arith}
use Rattle.mark_expr.specs.declared.token.Token.{Token}
use Rattle.mark_expr.specs.declared.fault.Stop.{Stop}
use Rattle.mark_expr.specs.declared.fault.Stop.TheVariants as stops
use Rattle.mark_expr.specs.Expression.{ExpressionTree, Conjunction, Disjunction, view, joined_left}
use Rattle.mark_expr.specs.declared.tree.MarkExpr.{MarkExpr}
use Rattle.mark_expr.specs.Grammar.{has_kind, NotExpr, not_at, and_at, MatchesStop}
use Rattle.parsing.specs.Reading.{Read, Found, ◌>>=◌, chain, strip}
use Rattle.parsing.proofs.Rules.{rule_takes}
use Rattle.parsing.proofs.Chain.{chain_over, chain_next, strip_takes}
use Rattle.mark_expr.proofs.GrammarLaws.{not_rules, and_rule}

pub not_takes : (n : ℕ) (ts : List Token) (t : ExpressionTree) (rest : List Token) → not_at n ts ≡ Found t rest → length rest < length ts
not_takes n ts t rest e = rule_takes (not_rules n (suc n) (omega arith)) ts t rest e

pub and_takes : (n : ℕ) (ts : List Token) (t : ExpressionTree) (rest : List Token) → and_at n ts ≡ Found t rest → length rest < length ts
and_takes n ts t rest e = rule_takes (and_rule (Unit {0}) (NotExpr n) (NotExpr (suc n)) (not_at n) (not_rules n (suc n) (omega arith))) ts t rest e

pub and_over : (n : ℕ) (l : ExpressionTree) (ts : List Token) → strip (has_kind 1) ts ≡ None → chain (has_kind 1) (not_at n) Conjunction (l, ts) ≡ Found l ts
and_over n l ts e = chain_over (has_kind 1) (not_at n) Conjunction (not_takes n) l ts e

pub or_over : (n : ℕ) (l : ExpressionTree) (ts : List Token) → strip (has_kind 0) ts ≡ None → chain (has_kind 0) (and_at n) Disjunction (l, ts) ≡ Found l ts
or_over n l ts e = chain_over (has_kind 0) (and_at n) Disjunction (and_takes n) l ts e

pub ruleset and_steps = (and_over, not_takes, strip_takes)

pub ruleset or_steps = (or_over, and_takes, strip_takes)

-- a fault inside is the fault of the whole
pub fails_on : (s : Stop) (read whole : Read Token ExpressionTree) (f : ExpressionTree × List Token → Read Token ExpressionTree) → MatchesStop s read → (read >>= f) ≡ whole → MatchesStop s whole
fails_on (stops.Bad s) read whole f e w = sym w ∙ ap (λ v. v >>= f) e
fails_on (stops.Deep s) read whole f e w = sym w ∙ ap (λ v. v >>= f) e
fails_on stops.Memory read whole f e w = tt

-- one more part
pub joined-append : (f : ExpressionTree → ExpressionTree → ExpressionTree) (a : ExpressionTree) (es : List MarkExpr) (e : MarkExpr) → joined_left f a (es ++ e ∷ []) ≡ f (joined_left f a es) (view e)
joined-append f a [] e = refl
joined-append f a (x ∷ es) e = joined-append f (f a (view x)) es e

joined_next : (f : ExpressionTree → ExpressionTree → ExpressionTree) (a : ExpressionTree) (old new : List MarkExpr) (e : MarkExpr) → new ≡ old ++ e ∷ [] → joined_left f a new ≡ f (joined_left f a old) (view e)
joined_next f a old new e p = ap (joined_left f a) p ∙ joined-append f a old e

-- one more `and`, and one more `or`
pub and_next : (n : ℕ) (a : ExpressionTree) (old new : List MarkExpr) (e : MarkExpr) (ts after rest : List Token) (whole : Read Token ExpressionTree) → new ≡ old ++ e ∷ [] → strip (has_kind 1) ts ≡ Some after → not_at n after ≡ Found (view e) rest
    → chain (has_kind 1) (not_at n) Conjunction (joined_left Conjunction a old, ts) ≡ whole → chain (has_kind 1) (not_at n) Conjunction (joined_left Conjunction a new, rest) ≡ whole
and_next n a old new e ts after rest whole p s i w =
    ap (λ l. chain (has_kind 1) (not_at n) Conjunction (l, rest)) (joined_next Conjunction a old new e p) ∙ chain_next (has_kind 1) (not_at n) Conjunction (not_takes n) (joined_left Conjunction a old) (view e) ts after rest whole s i w

pub or_next : (n : ℕ) (a : ExpressionTree) (old new : List MarkExpr) (e : MarkExpr) (ts after rest : List Token) (whole : Read Token ExpressionTree) → new ≡ old ++ e ∷ [] → strip (has_kind 0) ts ≡ Some after → and_at n after ≡ Found (view e) rest
    → chain (has_kind 0) (and_at n) Disjunction (joined_left Disjunction a old, ts) ≡ whole → chain (has_kind 0) (and_at n) Disjunction (joined_left Disjunction a new, rest) ≡ whole
or_next n a old new e ts after rest whole p s i w =
    ap (λ l. chain (has_kind 0) (and_at n) Disjunction (l, rest)) (joined_next Disjunction a old new e p) ∙ chain_next (has_kind 0) (and_at n) Disjunction (and_takes n) (joined_left Disjunction a old) (view e) ts after rest whole s i w
