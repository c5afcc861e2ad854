-- From the reader to the grammar.
use Rattle.std.proofs.Common.{◌≡◌, ℕ, suc, ◌+◌, ◌<◌, false, List, [], ◌∷◌, length, Result, Ok, Err, IfOk, IfErr, refl, sym, ap, ◌∙◌, subst, arith}
use Rattle.parsing.specs.Reading.{Read, Found, Bad, Deep}
use Rattle.parsing.specs.Answer.{Ever, finish, Settled}
use Rattle.parsing.proofs.Rules.{Rule}
use Rattle.parsing.proofs.Answers.{settled, settled_only, renamed, ever}
use Rattle.mark_expr.specs.declared.token.Token.{Token}
use Rattle.mark_expr.specs.declared.tree.MarkExpr.{MarkExpr}
use Rattle.mark_expr.specs.declared.fault.ExprFault.{ExprFault}
use Rattle.mark_expr.specs.declared.fault.ExprFault.TheVariants as faults
use Rattle.mark_expr.specs.Answer.{IsExpression, IsCause, ParseResult, Reads, Wrong, TooDeep, IsParseResult, Gave}
use Rattle.mark_expr.specs.Expression.{ExpressionTree, NestedWithin, view}
use Rattle.mark_expr.specs.Grammar.{kind, or_at, IsExact}
use Rattle.mark_expr.specs.Text.{tokens_of, column_of}
use Rattle.mark_expr.proofs.GrammarLaws.{expr_rules}
use Rattle.mark_expr.proofs.Same.{to_expr, of_expr}

between : (n m : ℕ) → n < m → Rule (Unit {0}) (Unit {0}) kind (NestedWithin n) (NestedWithin m) (or_at n) false (5 ∷ 2 ∷ 3 ∷ []) (1 ∷ 0 ∷ 1 ∷ [])
between n m h = renamed (NestedWithin n) (NestedWithin m) (of_expr n) (to_expr n) (of_expr m) (to_expr m) (expr_rules n m h)

-- the rule of an expression within n levels, against one of any depth
pub whole_rule : (n : ℕ) → Rule (Unit {0}) (Unit {0}) kind (NestedWithin n) (Ever NestedWithin) (or_at n) false (5 ∷ 2 ∷ 3 ∷ []) (1 ∷ 0 ∷ 1 ∷ [])
whole_rule n = ever NestedWithin (suc n) (λ i j. (n + i + j + 1, omega arith, wider i _ (omega arith), wider j _ (omega arith))) n (λ m h. between n m (omega arith))
  where
    wider : (i m : ℕ) → i < m → (w : List Token) (a : ExpressionTree) → NestedWithin i w a → NestedWithin m w a
    wider i m h = ((between i m h).reader tt tt).widens

-- the answers for a text with the characters cs, of whose tokens the reader gave what is exact
module _ (cs : List ℕ) where
  given : Settled (NestedWithin 100) (Ever NestedWithin) (tokens_of cs) (finish (or_at 100 (tokens_of cs)))
  given = settled (whole_rule 100) (tokens_of cs)

  pub found_law : (r : Result MarkExpr ExprFault) → IsExact (length cs) r (finish (or_at 100 (tokens_of cs))) → IfOk r (λ e. IsExpression cs (view e))
  found_law (Ok e) x = (subst (λ v. Settled (NestedWithin 100) (Ever NestedWithin) (tokens_of cs) v) x given).1
  found_law (Err e) x = tt

  pub cause_law : (r : Result MarkExpr ExprFault) → IsExact (length cs) r (finish (or_at 100 (tokens_of cs))) → IfErr r (IsCause cs)
  cause_law (Ok e) x = tt
  cause_law (Err (faults.Bad c)) x = record { rest = x.0; fault = subst (λ v. Settled (NestedWithin 100) (Ever NestedWithin) (tokens_of cs) v) x.1 given; column_is = x.2 }
  cause_law (Err faults.Nesting) x = record { rest = x.0; deep = subst (λ v. Settled (NestedWithin 100) (Ever NestedWithin) (tokens_of cs) v) x.1 given }
  cause_law (Err faults.OutOfMemory) x = tt

  only : (r : Read Token ExpressionTree) → Settled (NestedWithin 100) (Ever NestedWithin) (tokens_of cs) r → finish (or_at 100 (tokens_of cs)) ≡ r
  only r s = settled_only (whole_rule 100) (tokens_of cs) r s

  pub only_law : (r : Result MarkExpr ExprFault) → IsExact (length cs) r (finish (or_at 100 (tokens_of cs))) → (answer : ParseResult) → IsParseResult cs answer → Gave r answer
  only_law (Ok e) x (Reads t) a = let f : Found (view e) [] ≡ Found t [] = sym x ∙ only (Found t []) (refl, a) in cc
  only_law (Ok e) x (Wrong column) a = let f : Found (view e) [] ≡ Bad a.rest = sym x ∙ only (Bad a.rest) a.fault in cc
  only_law (Ok e) x TooDeep a = let f : Found (view e) [] ≡ Deep a.rest = sym x ∙ only (Deep a.rest) a.deep in cc
  only_law (Err (faults.Bad c)) x (Reads t) a = let f : Bad x.0 ≡ Found t [] = sym x.1 ∙ only (Found t []) (refl, a) in cc
  only_law (Err (faults.Bad c)) x (Wrong column) a = let f : Bad x.0 ≡ Bad a.rest = sym x.1 ∙ only (Bad a.rest) a.fault in let e : x.0 ≡ a.rest = cc in x.2 ∙ ap (column_of cs) e ∙ sym a.column_is
  only_law (Err (faults.Bad c)) x TooDeep a = let f : Bad x.0 ≡ Deep a.rest = sym x.1 ∙ only (Deep a.rest) a.deep in cc
  only_law (Err faults.Nesting) x (Reads t) a = let f : Deep x.0 ≡ Found t [] = sym x.1 ∙ only (Found t []) (refl, a) in cc
  only_law (Err faults.Nesting) x (Wrong column) a = let f : Deep x.0 ≡ Bad a.rest = sym x.1 ∙ only (Bad a.rest) a.fault in cc
  only_law (Err faults.Nesting) x TooDeep a = tt
  only_law (Err faults.OutOfMemory) x answer a = tt

-- the same for tokens and a number that are those of the text
pub exact_for : (cs : List ℕ) (ts : List Token) (count : ℕ) (r : Result MarkExpr ExprFault) → ts ≡ tokens_of cs → count ≡ length cs → IsExact count r (finish (or_at 100 ts)) → IsExact (length cs) r (finish (or_at 100 (tokens_of cs)))
exact_for cs ts count r e f x = subst (λ v. IsExact (length cs) r (finish (or_at 100 v))) e (subst (λ n. IsExact n r (finish (or_at 100 ts))) f x)
