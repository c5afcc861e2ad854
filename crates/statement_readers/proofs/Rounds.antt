-- A LOOP OF CODE IS THE GRAMMAR'S: what `many` reads, and what is behind it.
use Rattle.std.proofs.Common.{◌≡◌, ℕ, zero, suc, Bool, true, false, cond, List, [], ◌∷◌, length, refl, sym, ap, ◌∙◌}
use Rattle.py_cursor.specs.py_tokens.declared.token.Token.{Token}
use Rattle.parsing.specs.Reading.{Read, Found, Bad, Deep, ◌>>=◌, head_is, loop_at, many_at}
use Rattle.parsing.proofs.Loops.{bind_assoc}
use Rattle.statement_readers.specs.Turns.{Reader, Turn, On, Out, turned, spin, step_at, turns}
use Rattle.statement_readers.proofs.Turns.{bind_eq}

-- what is read behind a step
abbrev pub routed : {S R C : Type 0} → (S × List Token → Read Token C) → (R × List Token → Read Token C) → Turn S R × List Token → Read Token C
routed J j (On s, ts) = J (s, ts)
routed J j (Out r, ts) = j (r, ts)

spun : {S R C : Type 0} (x : Read Token (Turn S R)) (f : S × List Token → Read Token R) (j : R × List Token → Read Token C) → (x >>= routed (λ y. f y >>= j) j) ≡ ((x >>= λ y. turned f y.0 y.1) >>= j)
spun (Found (On s) ts) f j = refl
spun (Found (Out r) ts) f j = refl
spun (Bad ts) f j = refl
spun (Deep ts) f j = refl

looped : {E C : Type 0} (b : Bool) (x : Read Token E) (f : E × List Token → Read Token E) (s : E) (ts : List Token) (k : E × List Token → Read Token C) → (cond b (x >>= f) (Found s ts) >>= k) ≡ cond b (x >>= λ y. f y >>= k) (k (s, ts))
looped true x f s ts k = bind_assoc x f k
looped false x f s ts k = refl

stopped : {E C : Type 0} (c : E → Token → Bool) (q : E × List Token → Read Token E) (k : E × List Token → Read Token C) (n : ℕ) (e : E) (ts : List Token) → head_is (c e) ts ≡ false → (loop_at c q n (e, ts) >>= k) ≡ k (e, ts)
unfolding loop_at
stopped c q k zero e ts i = refl
stopped c q k (suc n) e ts i = ap (λ b. cond b (q (e, ts) >>= loop_at c q n) (Found e ts) >>= k) i

-- σ: the grammar's value of a state; P: what holds of states. A step of the grammar is one of the code, whatever is read behind both.
module _ {E S R C : Type 0} (c : E → Token → Bool) (q : E × List Token → Read Token E) (F : List ℕ) (d : S → R) (st : S → Token × List Token → Read Token (Turn S R)) (σ : S → E) (P : S → Type 0) (k : E × List Token → Read Token C) (j : R × List Token → Read Token C)
    (over : (s : S) (ts : List Token) → P s → k (σ s, ts) ≡ j (d s, ts))
    (step : (K : E × List Token → Read Token C) (J : S × List Token → Read Token C) → ((s : S) (ts : List Token) → P s → K (σ s, ts) ≡ J (s, ts)) → ((e : E) (ts : List Token) → head_is (c e) ts ≡ false → K (e, ts) ≡ k (e, ts))
    → (s : S) (ts : List Token) → P s → cond (head_is (c (σ s)) ts) (q (σ s, ts) >>= K) (k (σ s, ts)) ≡ (step_at F d st s ts >>= routed J j)) where
  run : (n : ℕ) (s : S) (ts : List Token) → P s → (loop_at c q n (σ s, ts) >>= k) ≡ (spin d (step_at F d st) n (s, ts) >>= j)
  unfolding loop_at spin
  run zero s ts p = over s ts p
  run (suc n) s ts p =
      looped (head_is (c (σ s)) ts) (q (σ s, ts)) (loop_at c q n) (σ s) ts k
      ∙ step (λ y. loop_at c q n y >>= k) (λ y. spin d (step_at F d st) n y >>= j) (λ s ts p. run n s ts p) (λ e ts i. stopped c q k n e ts i) s ts p
      ∙ spun (step_at F d st s ts) (spin d (step_at F d st) n) j

  pub rounds : (s : S) (ts : List Token) → P s → (many_at c q (σ s, ts) >>= k) ≡ (turns F d st (s, ts) >>= j)
  unfolding turns
  rounds s ts p = run (length ts) s ts p
