-- The words on live instances pass over the slot: the list may be looked at with other slots.
use Rattle.std.proofs.Common.{◌≡◌, ℕ, zero, suc, Bool, true, false, cond, not, ◌||◌, ◌&&◌, List, [], ◌∷◌, ◌++◌, refl, sym, ap, ◌∙◌, eqb, map, reverse, Some}
use Rattle.std.proofs.lemmas.List.{map-append, reverse-append}
use Rattle.std.proofs.lemmas.List.Elements.{filter_agree}
use Rattle.std.specs.List.{filter, list_any}
use Rattle.std.specs.Option.{option_map}
use Rattle.session_types.specs.Scopes.{rank, scope_count}
use Rattle.session_types.specs.Live.{is_at, find, rests_on, dependents, is_off, has_off, not_on, of_scope, below_rank, down_order, without, instance_by_number, instance_numbers}
use Rattle.session_types.specs.declared.instance.Instance.{Instance}
use Rattle.fixture_instances.specs.Joined.{with_slot}

filter_through : {A B : Type 0} (f : A → B) (p : B → Bool) (xs : List A) → filter p (map f xs) ≡ map f (filter (λ x. p (f x)) xs)
filter_through f p [] = refl
filter_through f p (x ∷ xs) =
    elim (p (f x)) as (λ b. cond b (f x ∷ filter p (map f xs)) (filter p (map f xs)) ≡ map f (cond b (x ∷ filter (λ x. p (f x)) xs) (filter (λ x. p (f x)) xs))) [
      | true ↦ ap (λ l. f x ∷ l) (filter_through f p xs)
      | false ↦ filter_through f p xs
    ]

reverse_through : {A B : Type 0} (f : A → B) (xs : List A) → reverse (map f xs) ≡ map f (reverse xs)
reverse_through f [] = refl
reverse_through f (x ∷ xs) = reverse-append (f x ∷ []) (map f xs) ∙ (ap (λ l. l ++ f x ∷ []) (reverse_through f xs) ∙ (sym (map-append f (reverse xs) (x ∷ [])) ∙ ap (map f) (sym (reverse-append (x ∷ []) xs))))

any_through : {A B : Type 0} (f : A → B) (p : B → Bool) (xs : List A) → list_any p (map f xs) ≡ list_any (λ x. p (f x)) xs
any_through f p [] = refl
any_through f p (x ∷ xs) = ap (λ b. p (f x) || b) (any_through f p xs)

module _ {S T : Type 0} (h : Instance S → T) where
  -- the same instance with another slot
  abbrev pub dress : Instance S → Instance T
  dress i = with_slot (h i) i

  pub numbers_dress : (is : List (Instance S)) → instance_numbers (map dress is) ≡ instance_numbers is
  numbers_dress [] = refl
  numbers_dress (i ∷ is) = ap (λ (l : List ℕ). i.order ∷ l) (numbers_dress is)

  pub find_dress : (d node : ℕ) (is : List (Instance S)) → find d node (map dress is) ≡ option_map dress (find d node is)
  find_dress d node [] = refl
  find_dress d node (i ∷ is) =
      elim (is_at d node i) as (λ b. cond b (Some (dress i)) (find d node (map dress is)) ≡ option_map dress (cond b (Some i) (find d node is))) [
        | true ↦ refl
        | false ↦ find_dress d node is
      ]

  pub numbered_dress : (n : ℕ) (is : List (Instance S)) → instance_by_number n (map dress is) ≡ option_map dress (instance_by_number n is)
  numbered_dress n [] = refl
  numbered_dress n (i ∷ is) =
      elim (eqb n i.order) as (λ b. cond b (Some (dress i)) (instance_by_number n (map dress is)) ≡ option_map dress (cond b (Some i) (instance_by_number n is))) [
        | true ↦ refl
        | false ↦ numbered_dress n is
      ]

  pub without_dress : (n : ℕ) (is : List (Instance S)) → without n (map dress is) ≡ map dress (without n is)
  without_dress n is = filter_through dress (λ (i : Instance T). not (eqb n i.order)) is

  pub dependents_dress : (n : ℕ) (is : List (Instance S)) → dependents n (map dress is) ≡ map dress (dependents n is)
  dependents_dress n is = filter_through dress (rests_on n) is

  pub not_on_dress : (chain : List ℕ) (is : List (Instance S)) → not_on chain (map dress is) ≡ map dress (not_on chain is)
  not_on_dress chain is =
      filter_through dress (has_off (map dress is) chain) is
      ∙ ap (map dress) (filter_agree (λ (i : Instance S). has_off (map dress is) chain (dress i)) (has_off is chain)
      (λ i. any_through dress (λ (g : Instance T). is_off chain g && rests_on g.order (dress i)) is) is)

  pub of_scope_dress : (r : ℕ) (is : List (Instance S)) → of_scope r (map dress is) ≡ map dress (of_scope r is)
  of_scope_dress r is = ap (filter (λ (i : Instance T). eqb r (rank i.scope))) (reverse_through dress is) ∙ filter_through dress (λ (i : Instance T). eqb r (rank i.scope)) (reverse is)

  pub below_rank_dress : (r : ℕ) (is : List (Instance S)) → below_rank r (map dress is) ≡ map dress (below_rank r is)
  below_rank_dress zero is = refl
  below_rank_dress (suc r) is =
      ap (λ (l : List (Instance T)). l ++ below_rank r (map dress is)) (of_scope_dress r is)
      ∙ (ap (λ (l : List (Instance T)). map dress (of_scope r is) ++ l) (below_rank_dress r is) ∙ sym (map-append dress (of_scope r is) (below_rank r is)))

  pub down_order_dress : (is : List (Instance S)) → down_order (map dress is) ≡ map dress (down_order is)
  down_order_dress is = below_rank_dress scope_count is

  -- the numbers of what goes down
  pub down_numbers : (is : List (Instance S)) → instance_numbers (down_order (map dress is)) ≡ instance_numbers (down_order is)
  down_numbers is = ap (λ (l : List (Instance T)). instance_numbers l) (down_order_dress is) ∙ numbers_dress (down_order is)

  pub dependents_numbers : (n : ℕ) (is : List (Instance S)) → instance_numbers (down_order (dependents n (map dress is))) ≡ instance_numbers (down_order (dependents n is))
  dependents_numbers n is = ap (λ (l : List (Instance T)). instance_numbers (down_order l)) (dependents_dress n is) ∙ down_numbers (dependents n is)

  pub not_on_numbers : (chain : List ℕ) (is : List (Instance S)) → instance_numbers (down_order (not_on chain (map dress is))) ≡ instance_numbers (down_order (not_on chain is))
  not_on_numbers chain is = ap (λ (l : List (Instance T)). instance_numbers (down_order l)) (not_on_dress chain is) ∙ down_numbers (not_on chain is)
