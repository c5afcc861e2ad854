-- Filters behind one another.
use Rattle.std.proofs.Common.{◌≡◌, Bool, true, false, cond, List, [], ◌∷◌, map, refl, sym, ap, ◌∙◌}
use Rattle.std.specs.List.{filter}

-- either the test is true, or it is false
pub tested : {P : Type 0} (b : Bool) → (b ≡ true → P) → (b ≡ false → P) → P
tested true is isnt = is refl
tested false is isnt = isnt refl

module _ {X : Type 0} where
  pub kept : (f : X → Bool) (x : X) (xs : List X) → f x ≡ true → filter f (x ∷ xs) ≡ x ∷ filter f xs
  kept f x xs e = ap (λ b. cond b (x ∷ filter f xs) (filter f xs)) e

  pub left : (f : X → Bool) (x : X) (xs : List X) → f x ≡ false → filter f (x ∷ xs) ≡ filter f xs
  left f x xs e = ap (λ b. cond b (x ∷ filter f xs) (filter f xs)) e

  -- a filter that leaves what the other needs is not seen
  pub unseen : (f g : X → Bool) → ((x : X) → f x ≡ true → g x ≡ true) → (xs : List X) → filter f (filter g xs) ≡ filter f xs
  unseen f g law [] = refl
  unseen f g law (x ∷ xs) =
      tested (f x)
      (λ is. ap (filter f) (kept g x xs (law x is)) ∙ (kept f x (filter g xs) is ∙ (ap (λ l. x ∷ l) (unseen f g law xs) ∙ sym (kept f x xs is))))
      (λ isnt. tested (g x)
      (λ is. ap (filter f) (kept g x xs is) ∙ (left f x (filter g xs) isnt ∙ (unseen f g law xs ∙ sym (left f x xs isnt))))
      (λ isnt_too. ap (filter f) (left g x xs isnt_too) ∙ (unseen f g law xs ∙ sym (left f x xs isnt))))

  -- the order of filters doesn't matter
  pub swapped : (f g : X → Bool) (xs : List X) → filter f (filter g xs) ≡ filter g (filter f xs)
  swapped f g [] = refl
  swapped f g (x ∷ xs) =
      tested (f x)
      (λ is. tested (g x)
      (λ is_too. ap (filter f) (kept g x xs is_too) ∙ (kept f x (filter g xs) is ∙ (ap (λ l. x ∷ l) (swapped f g xs) ∙ (sym (kept g x (filter f xs) is_too) ∙ sym (ap (filter g) (kept f x xs is))))))
      (λ isnt_too. ap (filter f) (left g x xs isnt_too) ∙ (swapped f g xs ∙ (sym (left g x (filter f xs) isnt_too) ∙ sym (ap (filter g) (kept f x xs is))))))
      (λ isnt. tested (g x)
      (λ is_too. ap (filter f) (kept g x xs is_too) ∙ (left f x (filter g xs) isnt ∙ (swapped f g xs ∙ sym (ap (filter g) (left f x xs isnt)))))
      (λ isnt_too. ap (filter f) (left g x xs isnt_too) ∙ (swapped f g xs ∙ sym (ap (filter g) (left f x xs isnt)))))

  -- two functions that agree on what is kept
  pub agreeing : {Y : Type 0} (F G : X → Y) (f : X → Bool) → ((x : X) → f x ≡ true → F x ≡ G x) → (xs : List X) → map F (filter f xs) ≡ map G (filter f xs)
  agreeing F G f law [] = refl
  agreeing F G f law (x ∷ xs) =
      tested (f x)
      (λ is. ap (map F) (kept f x xs is) ∙ (ap (λ y. y ∷ map F (filter f xs)) (law x is) ∙ (ap (λ l. G x ∷ l) (agreeing F G f law xs) ∙ sym (ap (map G) (kept f x xs is)))))
      (λ isnt. ap (map F) (left f x xs isnt) ∙ (agreeing F G f law xs ∙ sym (ap (map G) (left f x xs isnt))))
