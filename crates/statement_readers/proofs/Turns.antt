-- STEPS IN A ROW, one on.
use Rattle.std.proofs.Common.{◌≡◌, ℕ, zero, suc, ◌<◌, ◌≤◌, Bool, true, false, cond, Option, Some, None, List, [], ◌∷◌, length, refl, sym, ap, ◌∙◌, arith}
use Rattle.py_cursor.specs.py_tokens.declared.token.Token.{Token}
use Rattle.parsing.specs.Reading.{Read, Found, Bad, Deep, ◌>>=◌, has}
use Rattle.parsing.proofs.Loops.{bind_assoc}
use Rattle.parsing.proofs.Chain.{bind_found}
use Rattle.grammar_code.specs.Walk.{first_if, first_of, starts_with, pick}
use Rattle.py_cursor.specs.token_kinds.Kinds.{kind}
use Rattle.py_cursor.specs.declared.stop.Stop.{Stop}
use Rattle.py_cursor.specs.declared.stop.Stop.TheVariants as stops
use Rattle.py_cursor.specs.Cursor.{FailsAs}
use Rattle.statement_readers.specs.Words.{one_among}
use Rattle.statement_readers.specs.Turns.{Reader, Turn, On, Out, turned, spin, step_at, turns}

-- a fault inside is the fault of the whole
pub fails_on : {A B : Type 0} (s : Stop) (read : Read Token A) (whole : Read Token B) (f : A × List Token → Read Token B) → FailsAs s read → (read >>= f) ≡ whole → FailsAs s whole
fails_on (stops.Bad s) read whole f e w = sym w ∙ ap (λ v. v >>= f) e
fails_on (stops.Deep s) read whole f e w = sym w ∙ ap (λ v. v >>= f) e
fails_on stops.Memory read whole f e w = tt

first_some : {X : Type 0} (b : Bool) (x y : X) → first_if b x ≡ Some y → (b ≡ true) × (x ≡ y)
first_some true x y e = (refl, cc)
first_some false x y e = absurd (cc)

pub first_whole : (F : List ℕ) (ts : List Token) (o : Token) (after : List Token) → first_of kind F ts ≡ Some (o, after) → ts ≡ o ∷ after
first_whole F [] o after e = absurd (cc)
first_whole F (t ∷ ts) o after e = let h = first_some (has (kind t) F) (t, ts) (o, after) e in ap (λ x. x.0 ∷ x.1) h.1

pub first_takes : (F : List ℕ) (ts : List Token) (o : Token) (after : List Token) → first_of kind F ts ≡ Some (o, after) → length after < length ts
first_takes F ts o after e = let h = ap length (first_whole F ts o after e) in omega arith

found_rest : {A : Type 0} (x y : A) (u v : List Token) → Found x u ≡ Found y v → u ≡ v
found_rest x y u v e = cc

pub wanted_takes : (F : List ℕ) (ts : List Token) (o : Token) (rest : List Token) → one_among F ts ≡ Found o rest → length rest < length ts
wanted_takes F ts o rest e = go (first_of kind F ts) refl e
  where
    go : (x : Option (Token × List Token)) → first_of kind F ts ≡ x → pick x (λ o. Found o.0 o.1) (Bad ts) ≡ Found o rest → length rest < length ts
    go (Some x) i e = let h = first_takes F ts x.0 x.1 i in let j = ap length (found_rest x.0 o x.1 rest e) in omega arith
    go None i e = absurd (cc)

pub bind_eq : {A B : Type 0} (r : Read Token A) (f g : A × List Token → Read Token B) → ((a : A) (rest : List Token) → f (a, rest) ≡ g (a, rest)) → (r >>= f) ≡ (r >>= g)
bind_eq (Found a rest) f g e = e a rest
bind_eq (Bad rest) f g e = refl
bind_eq (Deep rest) f g e = refl

-- a step that goes on leaves no more than what is behind its token
abbrev pub Keeps : {S R : Type 0} → (S → Token × List Token → Read Token (Turn S R)) → Type 0
Keeps {S} st = (s : S) (o : Token) (after : List Token) (t : S) (rest : List Token) → st s (o, after) ≡ Found (On t) rest → length rest < suc (length after)

module _ {S R : Type 0} (F : List ℕ) (d : S → R) (st : S → Token × List Token → Read Token (Turn S R)) where
  pub over : (s : S) (ts : List Token) → first_of kind F ts ≡ None → turns F d st (s, ts) ≡ Found (d s) ts
  unfolding turns spin
  over s [] e = refl
  over s (t ∷ ts) e = ap (λ x. pick x (st s) (Found (Out (d s)) (t ∷ ts)) >>= λ y. turned (spin d (step_at F d st) (length ts)) y.0 y.1) e

  module _ (keeps : Keeps st) where
    shrinks : (s : S) (ts : List Token) (t : S) (rest : List Token) → step_at F d st s ts ≡ Found (On t) rest → length rest < length ts
    shrinks s ts t rest e = go (first_of kind F ts) refl e
      where
        go : (x : Option (Token × List Token)) → first_of kind F ts ≡ x → pick x (st s) (Found (Out (d s)) ts) ≡ Found (On t) rest → length rest < length ts
        go (Some x) i e = let h = ap length (first_whole F ts x.0 x.1 i) in let j = keeps s x.0 x.1 t rest e in omega arith
        go None i e = absurd (cc)

    fuel : (k j : ℕ) (s : S) (ts : List Token) → length ts ≤ k → length ts ≤ j → spin d (step_at F d st) k (s, ts) ≡ spin d (step_at F d st) j (s, ts)
    unfolding spin
    fuel zero zero s ts a b = refl
    fuel zero (suc j) s [] a b = refl
    fuel zero (suc j) s (t ∷ ts) a b = absurd (omega arith)
    fuel (suc k) zero s [] a b = refl
    fuel (suc k) zero s (t ∷ ts) a b = absurd (omega arith)
    fuel (suc k) (suc j) s ts a b = go (λ t rest h. fuel k j t rest (omega arith) (omega arith)) (step_at F d st s ts) refl
      where
        go : ((t : S) (rest : List Token) → length rest < length ts → spin d (step_at F d st) k (t, rest) ≡ spin d (step_at F d st) j (t, rest)) → (r : Read Token (Turn S R)) → step_at F d st s ts ≡ r → (r >>= λ y. turned (spin d (step_at F d st) k) y.0 y.1) ≡ (r >>= λ y. turned (spin d (step_at F d st) j) y.0 y.1)
        go ih (Found (On t) rest) e = ih t rest (shrinks s ts t rest e)
        go ih (Found (Out x) rest) e = refl
        go ih (Bad rest) e = refl
        go ih (Deep rest) e = refl

    pub goes : (s : S) (ts : List Token) (o : Token) (after : List Token) → first_of kind F ts ≡ Some (o, after) → turns F d st (s, ts) ≡ (st s (o, after) >>= λ y. turned (turns F d st) y.0 y.1)
    unfolding turns spin
    goes s [] o after e = absurd (cc)
    goes s (h ∷ ts) o after e = ap (λ x. pick x (st s) (Found (Out (d s)) (h ∷ ts)) >>= λ y. turned (spin d (step_at F d st) (length ts)) y.0 y.1) e ∙ go (st s (o, after)) refl
      where
        go : (r : Read Token (Turn S R)) → st s (o, after) ≡ r → (r >>= λ y. turned (spin d (step_at F d st) (length ts)) y.0 y.1) ≡ (r >>= λ y. turned (λ x. spin d (step_at F d st) (length x.1) x) y.0 y.1)
        go (Found (On t) rest) i = let j = keeps s o after t rest i in let w = ap length (first_whole F (h ∷ ts) o after e) in fuel (length ts) (length rest) t rest (omega arith) (omega arith)
        go (Found (Out x) rest) i = refl
        go (Bad rest) i = refl
        go (Deep rest) i = refl

    -- a step that fails, goes on or ends
    pub fails : (s : S) (ts : List Token) (o : Token) (after : List Token) (stop : Stop) (whole : Read Token R) → first_of kind F ts ≡ Some (o, after) → FailsAs stop (st s (o, after)) → turns F d st (s, ts) ≡ whole → FailsAs stop whole
    fails s ts o after stop whole e i w = fails_on stop (st s (o, after)) whole _ i (sym (goes s ts o after e) ∙ w)

    pub next : (s : S) (ts : List Token) (o : Token) (after : List Token) (t : S) (rest : List Token) (whole : Read Token R) → first_of kind F ts ≡ Some (o, after) → st s (o, after) ≡ Found (On t) rest → turns F d st (s, ts) ≡ whole → turns F d st (t, rest) ≡ whole
    next s ts o after t rest whole e i w = sym (ap (λ r. r >>= λ y. turned (turns F d st) y.0 y.1) i) ∙ sym (goes s ts o after e) ∙ w

    pub ends : (s : S) (ts : List Token) (o : Token) (after : List Token) (r : R) (rest : List Token) (whole : Read Token R) → first_of kind F ts ≡ Some (o, after) → st s (o, after) ≡ Found (Out r) rest → turns F d st (s, ts) ≡ whole → whole ≡ Found r rest
    ends s ts o after r rest whole e i w = sym w ∙ goes s ts o after e ∙ ap (λ r. r >>= λ y. turned (turns F d st) y.0 y.1) i

-- what stands before a reading fails
pub fails_bind : {A B : Type 0} (stop : Stop) (r : Read Token A) (f : A × List Token → Read Token B) → FailsAs stop r → FailsAs stop (r >>= f)
fails_bind stop r f e = fails_on stop r (r >>= f) f e refl
