-- ONE OF SEVERAL TOKENS: its reader is a look-up, and what it keeps is kept by each.
use Rattle.std.proofs.Common.{◌≡◌, ℕ, ◌==◌, ◌||◌, Bool, true, false, cond, List, [], ◌∷◌, Some, None, refl}
use Rattle.parsing.specs.Reading.{Read, Found, Bad}
use Rattle.grammar.specs.Table.{one_of, lookup_key, Grammar}
use Rattle.grammar.specs.Levels.{FarReaders, Readers, read, chosen, one_of_at}
use Rattle.grammar.specs.Heights.{Sizes, Sized}

pub one_of_read : (g : Grammar) (n : ℕ) (fr : FarReaders g) (here below : Readers g) {S A : g.Sort} {V : Type 0} (f : g.El S → g.Tok → V → g.El A) (x : ℕ × V) (xs : List (ℕ × V)) (y : g.El S × ℕ) (ts : List g.Tok)
    → read g n fr here below (one_of f x xs) y ts ≡ one_of_at g.kind (λ t v. (f y.0 t v, y.1)) (x ∷ xs) ts
one_of_read g n fr here below f x [] y [] = refl
one_of_read g n fr here below {A = A} f x [] y (t ∷ ts) = go (g.kind t == x.0)
  where
    go : (b : Bool) → cond {A = Read g.Tok (g.El A × ℕ)} (b || false) (Found (f y.0 t x.1, y.1) ts) (Bad (t ∷ ts)) ≡ chosen (λ t v. (f y.0 t v, y.1)) t ts (cond b (Some x.1) None)
    go true = refl
    go false = refl
one_of_read g n fr here below f x (z ∷ zs) y [] = one_of_read g n fr here below f z zs y []
one_of_read g n fr here below {A = A} f x (z ∷ zs) y (t ∷ ts) = go (g.kind t == x.0) (read g n fr here below (one_of f z zs) y (t ∷ ts)) (one_of_read g n fr here below f z zs y (t ∷ ts))
  where
    go : (b : Bool) (r : Read g.Tok (g.El A × ℕ)) → r ≡ chosen (λ t v. (f y.0 t v, y.1)) t ts (lookup_key (z ∷ zs) (g.kind t))
        → cond {A = Read g.Tok (g.El A × ℕ)} (b || false) (cond {A = Read g.Tok (g.El A × ℕ)} (b || false) (Found (f y.0 t x.1, y.1) ts) (Bad (t ∷ ts))) r ≡ chosen (λ t v. (f y.0 t v, y.1)) t ts (cond b (Some x.1) (lookup_key (z ∷ zs) (g.kind t)))
    go true r e = refl
    go false r e = e

-- heights
pub one_of_sized : (g : Grammar) (z : Sizes g) {S A : g.Sort} {V : Type 0} (f : g.El S → g.Tok → V → g.El A) → ((s : g.El S) (t : g.Tok) (v : V) → z A (f s t v) ≡ z S s) → (x : ℕ × V) (xs : List (ℕ × V)) → Sized g z (one_of f x xs)
one_of_sized g z f e x [] = λ s t. e s t x.1
one_of_sized g z f e x (y ∷ ys) = ((λ s t. e s t x.1), one_of_sized g z f e y ys)
