-- A step behind a value that is seen as another: where it isn't, nothing is read.
use Rattle.std.proofs.Common.{◌≡◌, ℕ, true, false, inl, List, [], ◌∷◌, Option, Some, None, refl, sym, subst}
use Rattle.parsing.specs.Reading.{Read, CanGoOn, Stops, Seen, seen_at, seen_or, has}
use Rattle.parsing.proofs.Sets.{no_false}
use Rattle.parsing.proofs.Rules.{Step}

pub seen_step : {A X : Type 0} {T V B : Type 0} {kind : T → ℕ} {L M : B → List T → V → Type 0} {p : B → List T → Read T V} {F : B → List ℕ} {G : List ℕ} (o : Option B)
    → ((b : B) → Step A X kind (L b) (M b) (p b) false (F b) G) → Step A X kind (Seen o L) (Seen o M) (seen_at o p) false (seen_or [] F o) G
seen_step (Some b) r = r b
seen_step {T = T} {M = M} None r = record {
  facts = record { first = λ h z a x. absurd x; empty = λ a x. absurd x; goes = λ w a h z b x y. absurd x; unique = λ w a b x y. absurd x };
  reader = λ al x. record {
    widens = λ w a y. y;
    starts = λ h i. no_false i;
    outcome = λ ts. record { front = []; whole = refl; start = inl refl; open_end = λ a y. y; stops = stops ts };
  };
}
  where
    stops : (ts : List T) → Stops (Seen None M) [] ts
    stops [] = tt
    stops (h ∷ z) = λ x a y. y

-- by cases
pub seen_with : {T V B : Type 0} (o : Option B) (K : B → List T → V → Type 0) (w : List T) (a : V) {P : Type 0} → ((b : B) → o ≡ Some b → K b w a → P) → Seen o K w a → P
seen_with None K w a f l = absurd l
seen_with (Some b) K w a f l = f b refl l

pub seen_in : {T V B : Type 0} (o : Option B) (b : B) (K : B → List T → V → Type 0) (w : List T) (a : V) → o ≡ Some b → K b w a → Seen o K w a
seen_in o b K w a e k = subst (λ v. Seen v K w a) (sym e) k

pub seen_same : {T V B : Type 0} (o : Option B) (p q : B → List T → Read T V) (ts : List T) → ((b : B) → p b ts ≡ q b ts) → seen_at o p ts ≡ seen_at o q ts
seen_same None p q ts e = refl
seen_same (Some b) p q ts e = e b

pub seen_firsts : {B : Type 0} (o : Option B) (j : ℕ) (F : B → List ℕ) (U : List ℕ) → ((b : B) → has j (F b) ≡ true → has j U ≡ true) → has j (seen_or [] F o) ≡ true → has j U ≡ true
seen_firsts None j F U f e = no_false e
seen_firsts (Some b) j F U f e = f b e

pub go_seen : {T V B : Type 0} {K : B → List T → V → Type 0} {h : T} (kind : T → ℕ) (o : Option B) (F : B → List ℕ) → ((b : B) → has (kind h) (F b) ≡ true → CanGoOn (K b) [] h) → has (kind h) (seen_or [] F o) ≡ true → CanGoOn (Seen o K) [] h
go_seen kind None F f e = no_false e
go_seen kind (Some b) F f e = f b e
