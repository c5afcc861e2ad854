-- Numbers below four that rise are one of sixteen lists.
use Rattle.std.proofs.Common.{◌≡◌, ℕ, ◌+◌, ◌<◌, ◌≤◌, Bool, true, false, List, [], ◌∷◌, refl, ap, ◌∙◌, subst, arith, eqb}
use Rattle.std.proofs.lemmas.Bool.{eqb-false, eqb-true}
use Rattle.share_files.specs.Deal.{Every, RisesFrom}

abbrev front : Bool → ℕ → List ℕ → List ℕ
front true n l = n ∷ l
front false n l = l

-- of 0 to 3 those that are chosen
abbrev pub chosen_of : Bool → Bool → Bool → Bool → List ℕ
chosen_of a b c d = front a 0 (front b 1 (front c 2 (front d 3 [])))

abbrev AreBelow : List ℕ → Type 0
AreBelow l = Every (λ m. m < 4) l

-- the number comes first, or doesn't come
record Choice (k : ℕ) (l : List ℕ) : Type 0 where
  taken : Bool
  rest : List ℕ
  is : l ≡ front taken k rest
  rises : RisesFrom (k + 1) rest
  below : AreBelow rest

choose : (k : ℕ) (l : List ℕ) → RisesFrom k l → AreBelow l → Choice k l
choose k [] r e = record { taken = false; rest = []; is = refl; rises = tt; below = tt }
choose k (n ∷ l) r e =
    elim (eqb n k) as (λ b. eqb n k ≡ b → Choice k (n ∷ l)) [
      | true ↦ λ q. (let same = eqb-true n k q in record {
        taken = true;
        rest = l;
        is = ap (λ (m : ℕ). m ∷ l) same;
        rises = subst (λ (m : ℕ). RisesFrom (m + 1) l) same r.1;
        below = e.1;
      })
      | false ↦ λ q. (let other = eqb-false n k q in let least = r.0 in record {
        taken = false;
        rest = n ∷ l;
        is = refl;
        rises = (more least other, r.1);
        below = e;
      })
    ] refl
  where
    more : k ≤ n → (n ≡ k → ⊥) → k + 1 ≤ n
    more least other = omega (arith, least, other)

none_left : (l : List ℕ) → RisesFrom 4 l → AreBelow l → l ≡ []
none_left [] r e = refl
none_left (n ∷ l) r e = (let low = r.0 in let high = e.0 in absurd (omega (arith, low, high)))

pub record IsChosen (l : List ℕ) : Type 0 where
  pub a : Bool
  pub b : Bool
  pub c : Bool
  pub d : Bool
  pub is : l ≡ chosen_of a b c d

pub are_chosen : (l : List ℕ) → RisesFrom 0 l → AreBelow l → IsChosen l
are_chosen l r e =
    let p = choose 0 l r e in
    let q = choose 1 p.rest p.rises p.below in
    let s = choose 2 q.rest q.rises q.below in
    let t = choose 3 s.rest s.rises s.below in
    record {
      a = p.taken;
      b = q.taken;
      c = s.taken;
      d = t.taken;
      is = p.is
          ∙ (ap (λ (x : List ℕ). front p.taken 0 x) q.is
          ∙ (ap (λ (x : List ℕ). front p.taken 0 (front q.taken 1 x)) s.is
          ∙ (ap (λ (x : List ℕ). front p.taken 0 (front q.taken 1 (front s.taken 2 x))) t.is
          ∙ ap (λ (x : List ℕ). front p.taken 0 (front q.taken 1 (front s.taken 2 (front t.taken 3 x)))) (none_left t.rest t.rises t.below))));
    }
