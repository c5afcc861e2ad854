-- The live instances and what is kept of each, side by side.
use Rattle.std.proofs.Common.{◌≡◌, ℕ, ◌<◌, ◌≤◌, ◌+◌, zero, suc, Bool, true, false, cond, not, List, [], ◌∷◌, ◌++◌, inl, inr, refl, sym, ap, ◌∙◌, eqb, eq-eqb, arith, map, length, get_or, subst, Option, Some, None, IsSome}
use Rattle.std.proofs.lemmas.Bool.{eqb-true, ne_eqb}
use Rattle.std.specs.Option.{option_map}
use Rattle.std.specs.List.{remove, HoldsAt}
use Rattle.session_types.specs.Members.{IsMember}
use Rattle.session_types.specs.declared.instance.Instance.{Instance}
use Rattle.session_types.specs.Live.{find, instance_number, without, instance_by_number, instance_numbers, down_order, dependents, not_on}
use Rattle.live_chains.specs.Chained.{Apart, RisingBy}
use Rattle.fixture_instances.specs.declared.ends.CachedResult.{CachedResult}
use Rattle.fixture_instances.specs.declared.live.Kept.{Kept}
use Rattle.fixture_instances.specs.Joined.{with_slot, with_slots, ArePaired, kept_at, kept_place, kept_without, kept_order, OrdersBelow, def_and_node}
use Rattle.fixture_instances.proofs.Slots.{find_dress, dependents_numbers, not_on_numbers}

-- without its slot
abbrev pub no_slot : {S : Type 0} → Instance S → Instance ℕ
no_slot i = with_slot 0 i

abbrev pub bare : {S : Type 0} → List (Instance S) → List (Instance ℕ)
bare is = map no_slot is

number_bare : {S : Type 0} (o : Option (Instance S)) → option_map instance_number (option_map no_slot o) ≡ option_map instance_number o
number_bare None = refl
number_bare (Some i) = refl

module _ {V E R : Type 0} where
  pub bare_joined : (is : List (Instance ℕ)) (ks : List (Kept V E R)) → ArePaired is ks → bare (with_slots is ks) ≡ bare is
  bare_joined [] [] p = refl
  bare_joined [] (k ∷ ks) p = absurd p
  bare_joined (i ∷ is) [] p = absurd p
  bare_joined (i ∷ is) (k ∷ ks) p = ap (λ (l : List (Instance ℕ)). no_slot i ∷ l) (bare_joined is ks p.1)

  pub numbers_joined : (is : List (Instance ℕ)) (ks : List (Kept V E R)) → ArePaired is ks → instance_numbers (with_slots is ks) ≡ instance_numbers is
  numbers_joined [] [] p = refl
  numbers_joined [] (k ∷ ks) p = absurd p
  numbers_joined (i ∷ is) [] p = absurd p
  numbers_joined (i ∷ is) (k ∷ ks) p = ap (λ (l : List ℕ). i.order ∷ l) (numbers_joined is ks p.1)

  pub dependents_joined : (n : ℕ) (is : List (Instance ℕ)) (ks : List (Kept V E R)) → ArePaired is ks → instance_numbers (down_order (dependents n (with_slots is ks))) ≡ instance_numbers (down_order (dependents n is))
  dependents_joined n is ks p =
      sym (dependents_numbers (λ (i : Instance (CachedResult V E R)). 0) n (with_slots is ks))
      ∙ (ap (λ (l : List (Instance ℕ)). instance_numbers (down_order (dependents n l))) (bare_joined is ks p) ∙ dependents_numbers (λ (i : Instance ℕ). 0) n is)

  pub not_on_joined : (chain : List ℕ) (is : List (Instance ℕ)) (ks : List (Kept V E R)) → ArePaired is ks → instance_numbers (down_order (not_on chain (with_slots is ks))) ≡ instance_numbers (down_order (not_on chain is))
  not_on_joined chain is ks p =
      sym (not_on_numbers (λ (i : Instance (CachedResult V E R)). 0) chain (with_slots is ks))
      ∙ (ap (λ (l : List (Instance ℕ)). instance_numbers (down_order (not_on chain l))) (bare_joined is ks p) ∙ not_on_numbers (λ (i : Instance ℕ). 0) chain is)

  pub find_joined : (d node : ℕ) (is : List (Instance ℕ)) (ks : List (Kept V E R)) → ArePaired is ks → option_map no_slot (find d node (with_slots is ks)) ≡ option_map no_slot (find d node is)
  find_joined d node is ks p =
      sym (find_dress (λ (i : Instance (CachedResult V E R)). 0) d node (with_slots is ks))
      ∙ (ap (λ (l : List (Instance ℕ)). find d node l) (bare_joined is ks p) ∙ find_dress (λ (i : Instance ℕ). 0) d node is)

  pub find_number : (d node : ℕ) (is : List (Instance ℕ)) (ks : List (Kept V E R)) → ArePaired is ks → option_map instance_number (find d node (with_slots is ks)) ≡ option_map instance_number (find d node is)
  find_number d node is ks p =
      sym (number_bare (find d node (with_slots is ks))) ∙ (ap (λ (o : Option (Instance ℕ)). option_map instance_number o) (find_joined d node is ks p) ∙ number_bare (find d node is))

  none_bare : (o : Option (Instance (CachedResult V E R))) (q : Option (Instance ℕ)) → option_map no_slot o ≡ option_map no_slot q → o ≡ None → q ≡ None
  none_bare o None e n = refl
  none_bare None (Some i) e n = (let z : None ≡ Some (no_slot i) = e in cc)
  none_bare (Some j) (Some i) e n = cc

  pub find_none : (d node : ℕ) (is : List (Instance ℕ)) (ks : List (Kept V E R)) → ArePaired is ks → find d node (with_slots is ks) ≡ None → find d node is ≡ None
  find_none d node is ks p e = none_bare (find d node (with_slots is ks)) (find d node is) (find_joined d node is ks p) e

  -- the one of a number, with what is kept of it
  abbrev pub paired : Option (Instance ℕ) → Option (CachedResult V E R) → Option (Instance (CachedResult V E R))
  paired None o = None
  paired (Some i) None = None
  paired (Some i) (Some h) = Some (with_slot h i)

  pub numbered_joined : (n : ℕ) (is : List (Instance ℕ)) (ks : List (Kept V E R)) → ArePaired is ks → instance_by_number n (with_slots is ks) ≡ paired (instance_by_number n is) (kept_at n ks)
  numbered_joined n [] [] p = refl
  numbered_joined n [] (k ∷ ks) p = absurd p
  numbered_joined n (i ∷ is) [] p = absurd p
  numbered_joined n (i ∷ is) (k ∷ ks) p =
      let P : ℕ → Type 0 = λ o. cond (eqb n i.order) (Some (with_slot k.held i)) (instance_by_number n (with_slots is ks)) ≡ paired (cond (eqb n i.order) (Some i) (instance_by_number n is)) (cond (eqb n o) (Some k.held) (kept_at n ks)) in
      subst P (sym p.0) (elim (eqb n i.order) as (λ b. cond b (Some (with_slot k.held i)) (instance_by_number n (with_slots is ks)) ≡ paired (cond b (Some i) (instance_by_number n is)) (cond b (Some k.held) (kept_at n ks))) [
        | true ↦ refl
        | false ↦ numbered_joined n is ks p.1
      ])

  pub kept_some : (n : ℕ) (i : Instance ℕ) (is : List (Instance ℕ)) (ks : List (Kept V E R)) → ArePaired is ks → instance_by_number n is ≡ Some i → IsSome (kept_at n ks)
  kept_some n j [] [] p e = (let z : None ≡ Some j = e in cc)
  kept_some n j [] (k ∷ ks) p e = absurd p
  kept_some n j (i ∷ is) [] p e = absurd p
  kept_some n j (i ∷ is) (k ∷ ks) p e =
      let P : ℕ → Type 0 = λ o. IsSome (cond (eqb n o) (Some k.held) (kept_at n ks)) in
      subst P (sym p.0) (elim (eqb n i.order) as (λ b. cond b (Some i) (instance_by_number n is) ≡ Some j → IsSome (cond b (Some k.held) (kept_at n ks))) [
        | true ↦ λ q. refl
        | false ↦ λ q. kept_some n j is ks p.1 q
      ] e)

  -- what is lent of the one of a number
  pub got_bare : (n : ℕ) (i : Instance ℕ) (is : List (Instance ℕ)) (ks : List (Kept V E R)) → ArePaired is ks → instance_by_number n is ≡ Some i → option_map (with_slot i.slot) (instance_by_number n (with_slots is ks)) ≡ Some i
  got_bare n i is ks p e =
      ap (λ (o : Option (Instance (CachedResult V E R))). option_map (with_slot i.slot) o) (numbered_joined n is ks p ∙ ap (λ (o : Option (Instance ℕ)). paired o (kept_at n ks)) e)
      ∙ some_bare (kept_at n ks) (kept_some n i is ks p e) where
        some_bare : (o : Option (CachedResult V E R)) → IsSome o → option_map (with_slot i.slot) (paired (Some i) o) ≡ Some i
        some_bare None s = (let z : false ≡ true = s in cc)
        some_bare (Some h) s = refl

  pub got_held : (n : ℕ) (i : Instance ℕ) (h : CachedResult V E R) (is : List (Instance ℕ)) (ks : List (Kept V E R)) → ArePaired is ks → instance_by_number n is ≡ Some i → kept_at n ks ≡ Some h → option_map (λ (k : Instance (CachedResult V E R)). k.slot) (instance_by_number n (with_slots is ks)) ≡ Some h
  got_held n i h is ks p e q =
      ap (λ (o : Option (Instance (CachedResult V E R))). option_map (λ (k : Instance (CachedResult V E R)). k.slot) o) (numbered_joined n is ks p ∙ (ap (λ (o : Option (Instance ℕ)). paired o (kept_at n ks)) e ∙ ap (λ (o : Option (CachedResult V E R)). paired (Some i) o) q))

  pub got_both : (n : ℕ) (i : Instance ℕ) (h : CachedResult V E R) (is : List (Instance ℕ)) (ks : List (Kept V E R)) → ArePaired is ks → instance_by_number n is ≡ Some i → kept_at n ks ≡ Some h → instance_by_number n (with_slots is ks) ≡ Some (with_slot h i)
  got_both n i h is ks p e q = numbered_joined n is ks p ∙ (ap (λ (o : Option (Instance ℕ)). paired o (kept_at n ks)) e ∙ ap (λ (o : Option (CachedResult V E R)). paired (Some i) o) q)

  pub without_joined : (n : ℕ) (is : List (Instance ℕ)) (ks : List (Kept V E R)) → ArePaired is ks → without n (with_slots is ks) ≡ with_slots (without n is) (kept_without n ks)
  without_joined n [] [] p = refl
  without_joined n [] (k ∷ ks) p = absurd p
  without_joined n (i ∷ is) [] p = absurd p
  without_joined n (i ∷ is) (k ∷ ks) p =
      let P : ℕ → Type 0 = λ o. cond (not (eqb n i.order)) (with_slot k.held i ∷ without n (with_slots is ks)) (without n (with_slots is ks)) ≡ with_slots (cond (not (eqb n i.order)) (i ∷ without n is) (without n is)) (cond (eqb n o) (kept_without n ks) (k ∷ kept_without n ks)) in
      subst P (sym p.0) (elim (eqb n i.order) as (λ b. cond (not b) (with_slot k.held i ∷ without n (with_slots is ks)) (without n (with_slots is ks)) ≡ with_slots (cond (not b) (i ∷ without n is) (without n is)) (cond b (kept_without n ks) (k ∷ kept_without n ks))) [
        | true ↦ without_joined n is ks p.1
        | false ↦ ap (λ (l : List (Instance (CachedResult V E R))). with_slot k.held i ∷ l) (without_joined n is ks p.1)
      ])

  pub pairs_without : (n : ℕ) (is : List (Instance ℕ)) (ks : List (Kept V E R)) → ArePaired is ks → ArePaired (without n is) (kept_without n ks)
  pairs_without n [] [] p = tt
  pairs_without n [] (k ∷ ks) p = absurd p
  pairs_without n (i ∷ is) [] p = absurd p
  pairs_without n (i ∷ is) (k ∷ ks) p =
      let P : ℕ → Type 0 = λ o. ArePaired (cond (not (eqb n i.order)) (i ∷ without n is) (without n is)) (cond (eqb n o) (kept_without n ks) (k ∷ kept_without n ks)) in
      subst P (sym p.0) (elim (eqb n i.order) as (λ b. ArePaired (cond (not b) (i ∷ without n is) (without n is)) (cond b (kept_without n ks) (k ∷ kept_without n ks))) [
        | true ↦ pairs_without n is ks p.1
        | false ↦ (p.0, pairs_without n is ks p.1)
      ])

  pub joined_push : (i : Instance ℕ) (k : Kept V E R) (is : List (Instance ℕ)) (ks : List (Kept V E R)) → ArePaired is ks → with_slots (is ++ i ∷ []) (ks ++ k ∷ []) ≡ with_slots is ks ++ with_slot k.held i ∷ []
  joined_push i k [] [] p = refl
  joined_push i k [] (z ∷ ks) p = absurd p
  joined_push i k (x ∷ is) [] p = absurd p
  joined_push i k (x ∷ is) (z ∷ ks) p = ap (λ (l : List (Instance (CachedResult V E R))). with_slot z.held x ∷ l) (joined_push i k is ks p.1)

  pub pairs_push : (i : Instance ℕ) (k : Kept V E R) (is : List (Instance ℕ)) (ks : List (Kept V E R)) → ArePaired is ks → k.order ≡ i.order → ArePaired (is ++ i ∷ []) (ks ++ k ∷ [])
  pairs_push i k [] [] p e = (e, tt)
  pairs_push i k [] (z ∷ ks) p e = absurd p
  pairs_push i k (x ∷ is) [] p e = absurd p
  pairs_push i k (x ∷ is) (z ∷ ks) p e = (p.0, pairs_push i k is ks p.1 e)

  pub pairs_add : (i : Instance ℕ) (order : ℕ) (held : CachedResult V E R) (is : List (Instance ℕ)) (ks : List (Kept V E R)) → ArePaired is ks → order ≡ i.order → ArePaired (is ++ i ∷ []) (ks ++ record { order = order; held = held } ∷ [])
  pairs_add i order held is ks p e = pairs_push i (record { order = order; held = held }) is ks p e

  pub joined_add : (i : Instance ℕ) (order : ℕ) (held : CachedResult V E R) (is : List (Instance ℕ)) (ks : List (Kept V E R)) → ArePaired is ks → with_slots (is ++ i ∷ []) (ks ++ record { order = order; held = held } ∷ []) ≡ with_slots is ks ++ with_slot held i ∷ []
  joined_add i order held is ks p = joined_push i (record { order = order; held = held }) is ks p

  pub pair_in : (y : Kept V E R) (is : List (Instance ℕ)) (ks : List (Kept V E R)) → ArePaired is ks → IsMember y ks → (i : Instance ℕ) × IsMember i is × (y.order ≡ i.order)
  pair_in y is [] p h = absurd h
  pair_in y [] (k ∷ ks) p h = absurd p
  pair_in y (i ∷ is) (k ∷ ks) p (inl e) = (i, inl refl, ap kept_order e ∙ p.0)
  pair_in y (i ∷ is) (k ∷ ks) p (inr h) = (let r = pair_in y is ks p.1 h in (r.0, inr r.1, r.2))

  pub rising_kept : (is : List (Instance ℕ)) (ks : List (Kept V E R)) → ArePaired is ks → RisingBy instance_number is → RisingBy kept_order ks
  rising_kept is [] p r = tt
  rising_kept [] (k ∷ ks) p r = absurd p
  rising_kept (i ∷ is) (k ∷ ks) p r = (
    (λ y h. (let q = pair_in y is ks p.1 h in let lt = r.0 q.0 q.1 in let e1 = p.0 in let e2 = q.2 in omega (arith, lt, e1, e2))),
    rising_kept is ks p.1 r.1,
  )

  none_above : (n : ℕ) (ks : List (Kept V E R)) → ((y : Kept V E R) → IsMember y ks → n < y.order) → kept_without n ks ≡ ks
  none_above n [] a = refl
  none_above n (k ∷ ks) a = let l = a k (inl refl) in let e : eqb n k.order ≡ false = ne_eqb n k.order (λ q. omega (arith, l, q)) in rw e (ap (λ (l : List (Kept V E R)). k ∷ l) (none_above n ks (λ j h. a j (inr h))))

  in_at : (xs : List (Kept V E R)) (i : ℕ) (d : Kept V E R) → i < length xs → IsMember (get_or xs i d) xs
  in_at [] i d l = absurd (omega (arith, l))
  in_at (x ∷ xs) zero d l = inl refl
  in_at (x ∷ xs) (suc i) d l = inr (in_at xs i d (omega (arith, l)))

  pub removed : (xs : List (Kept V E R)) (i n : ℕ) (d : Kept V E R) → RisingBy kept_order xs → i < length xs → (get_or xs i d).order ≡ n → (remove xs i ≡ kept_without n xs) × (kept_at n xs ≡ Some (get_or xs i d).held)
  removed [] i n d r l e = absurd (omega (arith, l))
  removed (x ∷ xs) zero n d r l e =
      let q : eqb n x.order ≡ true = eq-eqb n x.order (sym e) in
      let above : (j : Kept V E R) → IsMember j xs → n < j.order = λ j h. (let lt = r.0 j h in omega (arith, lt, e)) in
      (rw q (sym (none_above n xs above)), rw q refl)
  removed (x ∷ xs) (suc i) n d r l e =
      let low : i < length xs = omega (arith, l) in
      let above = r.0 (get_or xs i d) (in_at xs i d low) in
      let q : eqb n x.order ≡ false = ne_eqb n x.order (λ z. omega (arith, above, z, e)) in
      let h = removed xs i n d r.1 low e in
      (rw q (ap (λ (l : List (Kept V E R)). x ∷ l) h.0), rw q h.1)

  -- what is kept of the one of a number is found at its place
  pub kept_here : (xs : List (Kept V E R)) (i n : ℕ) (d : Kept V E R) → IsSome (kept_at n xs) → i < length xs → (get_or xs i d).order ≡ n → RisingBy kept_order xs → kept_at n xs ≡ Some (get_or xs i d).held
  kept_here xs i n d s l e r = (removed xs i n d r l e).1

  -- the place of the one of a number, and which side of it another place is
  pub place_within : (n : ℕ) (ks : List (Kept V E R)) → IsSome (kept_at n ks) → kept_place n ks < length ks
  place_within n [] s = (let z : false ≡ true = s in cc)
  place_within n (k ∷ ks) s =
      elim (eqb n k.order) as (λ b. IsSome (cond b (Some k.held) (kept_at n ks)) → cond b 0 (suc (kept_place n ks)) < length (k ∷ ks)) [
        | true ↦ λ q. omega arith
        | false ↦ λ q. (let l = place_within n ks q in omega (arith, l))
      ] s

  pub place_at : (n : ℕ) (ks : List (Kept V E R)) (d : Kept V E R) → IsSome (kept_at n ks) → (get_or ks (kept_place n ks) d).order ≡ n
  place_at n [] d s = (let z : false ≡ true = s in cc)
  place_at n (k ∷ ks) d s =
      elim (eqb n k.order) as (λ b. eqb n k.order ≡ b → IsSome (cond b (Some k.held) (kept_at n ks)) → (get_or (k ∷ ks) (cond b 0 (suc (kept_place n ks))) d).order ≡ n) [
        | true ↦ λ e q. sym (eqb-true n k.order e)
        | false ↦ λ e q. place_at n ks d q
      ] refl s

  none_of : (n : ℕ) (ks : List (Kept V E R)) → ((y : Kept V E R) → IsMember y ks → n < y.order) → IsSome (kept_at n ks) → ⊥
  none_of n [] a s = (let z : false ≡ true = s in cc)
  none_of n (k ∷ ks) a s =
      let l = a k (inl refl) in
      let e : eqb n k.order ≡ false = ne_eqb n k.order (λ q. omega (arith, l, q)) in
      none_of n ks (λ y h. a y (inr h)) (subst (λ (b : Bool). IsSome (cond b (Some k.held) (kept_at n ks))) e s)

  pub place_low : (n : ℕ) (ks : List (Kept V E R)) (i : ℕ) (d : Kept V E R) → IsSome (kept_at n ks) → RisingBy kept_order ks → i < length ks → (get_or ks i d).order ≤ n → i ≤ kept_place n ks
  place_low n [] i d s r l le = absurd (omega (arith, l))
  place_low n (k ∷ ks) zero d s r l le = omega arith
  place_low n (k ∷ ks) (suc i) d s r l le =
      let low : i < length ks = omega (arith, l) in
      let above = r.0 (get_or ks i d) (in_at ks i d low) in
      let e : eqb n k.order ≡ false = ne_eqb n k.order (λ q. omega (arith, above, le, q)) in
      let h = place_low n ks i d (subst (λ (b : Bool). IsSome (cond b (Some k.held) (kept_at n ks))) e s) r.1 low le in
      subst (λ (b : Bool). suc i ≤ cond b 0 (suc (kept_place n ks))) (sym e) (omega (arith, h))

  pub place_high : (n : ℕ) (ks : List (Kept V E R)) (i : ℕ) (d : Kept V E R) → IsSome (kept_at n ks) → RisingBy kept_order ks → i < length ks → n < (get_or ks i d).order → kept_place n ks < i
  place_high n [] i d s r l lt = absurd (omega (arith, l))
  place_high n (k ∷ ks) zero d s r l lt =
      absurd (none_of n (k ∷ ks) (λ y h. elim h [
        | inl e ↦ (let q : kept_order y ≡ kept_order k = ap kept_order e in omega (arith, lt, q))
        | inr m ↦ (let u = r.0 y m in omega (arith, lt, u))
      ]) s)
  place_high n (k ∷ ks) (suc i) d s r l lt =
      elim (eqb n k.order) as (λ b. IsSome (cond b (Some k.held) (kept_at n ks)) → cond b 0 (suc (kept_place n ks)) < suc i) [
        | true ↦ λ q. omega arith
        | false ↦ λ q. (let h = place_high n ks i d q r.1 (omega (arith, l)) lt in omega (arith, h))
      ] s

  pub joined_in : (x : Instance (CachedResult V E R)) (is : List (Instance ℕ)) (ks : List (Kept V E R)) → ArePaired is ks → IsMember x (with_slots is ks) → (i : Instance ℕ) × IsMember i is × (no_slot x ≡ no_slot i)
  joined_in x [] ks p h = absurd h
  joined_in x (i ∷ is) [] p h = absurd h
  joined_in x (i ∷ is) (k ∷ ks) p (inl e) = (i, inl refl, ap (λ (z : Instance (CachedResult V E R)). no_slot z) e)
  joined_in x (i ∷ is) (k ∷ ks) p (inr h) = (let r = joined_in x is ks p.1 h in (r.0, inr r.1, r.2))

  pub rising_joined : (is : List (Instance ℕ)) (ks : List (Kept V E R)) → ArePaired is ks → RisingBy instance_number is → RisingBy instance_number (with_slots is ks)
  rising_joined [] ks p r = tt
  rising_joined (i ∷ is) [] p r = tt
  rising_joined (i ∷ is) (k ∷ ks) p r = (
    (λ y h. (let q = joined_in y is ks p.1 h in let lt = r.0 q.0 q.1 in let e = ap instance_number q.2 in omega (arith, lt, e))),
    rising_joined is ks p.1 r.1,
  )

  pub apart_joined : (is : List (Instance ℕ)) (ks : List (Kept V E R)) → ArePaired is ks → Apart def_and_node is → Apart def_and_node (with_slots is ks)
  apart_joined [] ks p a = tt
  apart_joined (i ∷ is) [] p a = tt
  apart_joined (i ∷ is) (k ∷ ks) p a = (
    (λ y h e. (let q = joined_in y is ks p.1 h in a.0 q.0 q.1 (sym (ap def_and_node q.2) ∙ e))),
    apart_joined is ks p.1 a.1,
  )

pub below_push : (n : ℕ) (i : Instance ℕ) (is : List (Instance ℕ)) → OrdersBelow is n → i.order ≡ n → OrdersBelow (is ++ i ∷ []) (n + 1)
below_push n i [] b e = (omega (arith, e), tt)
below_push n i (x ∷ is) b e = (let l = b.0 in omega (arith, l), below_push n i is b.1 e)

pub below_without : (n m : ℕ) (is : List (Instance ℕ)) → OrdersBelow is n → OrdersBelow (without m is) n
below_without n m [] b = tt
below_without n m (x ∷ is) b =
    elim (eqb m x.order) as (λ c. OrdersBelow (cond (not c) (x ∷ without m is) (without m is)) n) [
      | true ↦ below_without n m is b.1
      | false ↦ (b.0, below_without n m is b.1)
    ]

pub below_in : (n : ℕ) (j : Instance ℕ) (is : List (Instance ℕ)) → OrdersBelow is n → IsMember j is → j.order < n
below_in n j [] b h = absurd h
below_in n j (x ∷ is) b (inl e) = (let l = b.0 in let q = ap instance_number e in omega (arith, l, q))
below_in n j (x ∷ is) b (inr h) = below_in n j is b.1 h

-- what is taken out at its place
pub taken_kept : {V E R : Type 0} (n i : ℕ) (now deref new : List (Kept V E R)) (result : Kept V E R) → deref ≡ now → RisingBy kept_order now → i < length deref → HoldsAt (λ (one : Kept V E R). one.order ≡ n) deref i → new ≡ remove now i → result ≡ get_or now i result → (kept_at n now ≡ Some result.held) × (new ≡ kept_without n now)
taken_kept {V} {E} {R} n i now deref new result e r l at en er =
    let l2 : i < length now = subst (λ (x : List (Kept V E R)). i < length x) e l in
    let at2 : (get_or now i result).order ≡ n = subst (λ (x : List (Kept V E R)). (get_or x i result).order ≡ n) e (at result) in
    let h = removed now i n result r l2 at2 in
    (h.1 ∙ ap (λ (k : Kept V E R). Some k.held) (sym er), en ∙ h.0)
