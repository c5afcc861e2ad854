-- STEPS IN A ROW, as a loop of code takes them.
use Rattle.std.specs.Prelude.{◌≡◌, ℕ, List, length, Option}
use Rattle.std.proofs.Common.{zero, suc}
use Rattle.py_cursor.specs.py_tokens.declared.token.Token.{Token}
use Rattle.parsing.specs.Reading.{Read, Found, ◌>>=◌}
use Rattle.grammar_code.specs.Walk.{first_of, pick}
use Rattle.py_cursor.specs.token_kinds.Kinds.{kind}

abbrev pub Reader : Type 0 → Type 0
Reader A = List Token → Read Token A

-- what a step gives: a state to go on from, or the end
pub data Turn (S R : Type 0) : Type 0 where
  On : S → Turn S R
  Out : R → Turn S R

abbrev pub turned : {S R : Type 0} → (S × List Token → Read Token R) → Turn S R → Reader R
turned f (On s) ts = f (s, ts)
turned f (Out r) ts = Found r ts

unfoldable pub spin : {S R : Type 0} → (S → R) → (S → Reader (Turn S R)) → ℕ → S × List Token → Read Token R
spin d q zero x = Found (d x.0) x.1
spin d q (suc n) x = q x.0 x.1 >>= λ y. turned (spin d q n) y.0 y.1

-- Each step begins with a token of a set; where none stands, d makes the end of the state.
abbrev pub step_at : {S R : Type 0} → List ℕ → (S → R) → (S → Token × List Token → Read Token (Turn S R)) → S → Reader (Turn S R)
step_at F d st s ts = pick (first_of kind F ts) (st s) (Found (Out (d s)) ts)

unfoldable pub turns : {S R : Type 0} → List ℕ → (S → R) → (S → Token × List Token → Read Token (Turn S R)) → S × List Token → Read Token R
turns F d st x = spin d (step_at F d st) (length x.1) x
