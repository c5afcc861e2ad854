-- Numbers above those of all live instances.
use Rattle.std.proofs.Common.{◌≡◌, ℕ, ◌<◌, ◌+◌, List, [], ◌∷◌, ◌++◌, inl, inr, subst, ap, arith}
use Rattle.session_types.specs.Members.{IsMember}
use Rattle.session_types.specs.Live.{instance_number}
use Rattle.session_types.specs.declared.instance.Instance.{Instance}
use Rattle.session_types.proofs.Lists.{In-append}

pub still_below : (a b : List (Instance ℕ)) (n m : ℕ) → a ≡ b → n ≡ m → ((j : Instance ℕ) → IsMember j b → j.order < n) → (j : Instance ℕ) → IsMember j a → j.order < m
still_below a b n m e q h j g = let lt = h j (subst (λ (l : List (Instance ℕ)). IsMember j l) e g) in omega (arith, lt, q)

pub one_below : (a b : List (Instance ℕ)) (i : Instance ℕ) → a ≡ b ++ i ∷ [] → ((j : Instance ℕ) → IsMember j b → j.order < i.order) → (j : Instance ℕ) → IsMember j a → j.order < i.order + 1
one_below a b i e h j g = elim (In-append j b (i ∷ []) (subst (λ (l : List (Instance ℕ)). IsMember j l) e g)) [
  | inl l ↦ (let lt = h j l in omega (arith, lt))
  | inr t ↦ elim t [ inl q ↦ (let k = ap instance_number q in omega (arith, k)) | inr z ↦ absurd z ]
]

pub still_more : (a b : List (Instance ℕ)) (n : ℕ) → a ≡ b → ((j : Instance ℕ) → IsMember j b → j.order < n) → (j : Instance ℕ) → IsMember j a → j.order < n + 1
still_more a b n e h j g = let lt = h j (subst (λ (l : List (Instance ℕ)). IsMember j l) e g) in omega (arith, lt)

pub none_below : (a : List (Instance ℕ)) (n : ℕ) → a ≡ [] → (j : Instance ℕ) → IsMember j a → j.order < n
none_below a n e j g = absurd (subst (λ (l : List (Instance ℕ)). IsMember j l) e g)
