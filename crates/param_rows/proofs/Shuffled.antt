-- A grouped list has the elements of the list, in another order.
use Rattle.std.proofs.Common.{◌≡◌, Bool, true, false, not, List, [], ◌∷◌, ◌++◌, refl, ap, sym, subst, ◌∙◌, inl, inr, Decides}
use Rattle.std.specs.List.{flat_map, filter}
use Rattle.std.specs.Prelude.{IsPermutation}
use Rattle.std.proofs.lemmas.Bool.{cases_Bool, false≢true, false_from_ne_true, or_parts, or_cases, or_left, or_right}
use Rattle.std.proofs.lemmas.List.{append_assoc}
use Rattle.std.proofs.lemmas.List.Folds.{list_any-append}
use Rattle.std.proofs.lemmas.List.Sorted.{IsPermutation-refl, IsPermutation-sym, IsPermutation-cons, IsPermutation-trans, IsPermutation-middle, IsPermutation-append_left, IsPermutation-append_right}
use Rattle.param_rows.specs.Grouping.{is_seen, firsts, grouped, onto, stretches}

abbrev pub Each : {A : Type 0} → (A → Type 0) → List A → Type 0
Each P [] = Unit {0}
Each P (x ∷ xs) = P x × Each P xs

-- those that pass, and then the others
parted : {A : Type 0} (p : A → Bool) (xs : List A) → IsPermutation xs (filter p xs ++ filter (λ x. not (p x)) xs)
parted p [] = IsPermutation-refl []
parted p (x ∷ xs) = elim (cases_Bool (p x)) [
  | inl passes ↦ rw passes (IsPermutation-cons x xs (filter p xs ++ filter (λ y. not (p y)) xs) (parted p xs))
  | inr other ↦ rw other (IsPermutation-trans (x ∷ xs) (x ∷ (filter p xs ++ filter (λ y. not (p y)) xs)) (filter p xs ++ x ∷ filter (λ y. not (p y)) xs)
      (IsPermutation-cons x xs (filter p xs ++ filter (λ y. not (p y)) xs) (parted p xs))
      (IsPermutation-sym (filter p xs ++ x ∷ filter (λ y. not (p y)) xs) (x ∷ (filter p xs ++ filter (λ y. not (p y)) xs)) (IsPermutation-middle (filter p xs) x (filter (λ y. not (p y)) xs))))
]

filter_filter : {A : Type 0} (p q : A → Bool) → ((x : A) → q x ≡ true → p x ≡ true) → (xs : List A) → filter q (filter p xs) ≡ filter q xs
filter_filter p q h [] = refl
filter_filter p q h (x ∷ xs) = elim (cases_Bool (p x)) [
  | inl passes ↦ elim (cases_Bool (q x)) [
    | inl both ↦ rw (passes, both) (ap (λ ys. x ∷ ys) (filter_filter p q h xs))
    | inr none ↦ rw (passes, none) (filter_filter p q h xs)
  ]
  | inr other ↦
      let none : q x ≡ false = false_from_ne_true (q x) (λ e. false≢true (sym other ∙ h x e)) in
      rw (other, none) (filter_filter p q h xs)
]

module _ {A K : Type 0} (same : A → A → Bool) (key : A → K) (decides : (one other : A) → Decides (same one other) (key one ≡ key other)) where
  -- each is of a group that neither those before it nor those that were seen are of
  abbrev pub Fresh : List A → List A → Type 0
  Fresh seen [] = Unit {0}
  Fresh seen (x ∷ xs) = (is_seen same seen x ≡ false) × Fresh (seen ++ x ∷ []) xs

  pub firsts_fresh : (seen xs : List A) → Fresh seen (firsts same seen xs)
  firsts_fresh seen [] = tt
  firsts_fresh seen (x ∷ xs) = elim (cases_Bool (is_seen same seen x)) [
    | inl old ↦ rw old (firsts_fresh seen xs)
    | inr fresh ↦ rw fresh (fresh, firsts_fresh (seen ++ x ∷ []) xs)
  ]

  -- what was seen is of no later group
  pub fresh_apart : (front back : List A) (f : A) (xs : List A) → Fresh (front ++ f ∷ back) xs → Each (λ x. same f x ≡ false) xs
  fresh_apart front back f [] fresh = tt
  fresh_apart front back f (x ∷ xs) fresh =
      let parts = or_parts (is_seen same front x) (is_seen same (f ∷ back) x) (sym (list_any-append (λ y. same y x) front (f ∷ back)) ∙ fresh.0) in
      let here = or_parts (same f x) (is_seen same back x) parts.1 in
      (here.0, fresh_apart front (back ++ x ∷ []) f xs (subst (λ ys. Fresh ys xs) (append_assoc front (f ∷ back) (x ∷ [])) fresh.1))

  -- each element is of a group that was seen or is found
  pub firsts_cover : (seen xs : List A) → Each (λ x. is_seen same (seen ++ firsts same seen xs) x ≡ true) xs
  firsts_cover seen [] = tt
  firsts_cover seen (x ∷ xs) = elim (cases_Bool (is_seen same seen x)) [
    | inl old ↦
        let found : firsts same seen (x ∷ xs) ≡ firsts same seen xs = (rw old refl) in
        subst (λ fs. Each (λ y. is_seen same (seen ++ fs) y ≡ true) (x ∷ xs)) (sym found)
        (list_any-append (λ y. same y x) seen (firsts same seen xs) ∙ or_left (is_seen same seen x) (is_seen same (firsts same seen xs) x) old, firsts_cover seen xs)
    | inr fresh ↦
        let later : List A = firsts same (seen ++ x ∷ []) xs in
        let found : firsts same seen (x ∷ xs) ≡ x ∷ later = (rw fresh refl) in
        subst (λ fs. Each (λ y. is_seen same (seen ++ fs) y ≡ true) (x ∷ xs)) (sym found) (
          list_any-append (λ y. same y x) seen (x ∷ later)
              ∙ or_right (is_seen same seen x) (is_seen same (x ∷ later) x) (or_left (same x x) (is_seen same later x) ((decides x x).1 refl)),
          subst (λ ys. Each (λ y. is_seen same ys y ≡ true) xs) (append_assoc seen (x ∷ []) later) (firsts_cover (seen ++ x ∷ []) xs),
        )
  ]

  -- a group is the same where another group was taken out
  others : (f : A) (xs fs : List A) → Each (λ g. same f g ≡ false) fs → flat_map (λ g. filter (λ x. same g x) (filter (λ x. not (same f x)) xs)) fs ≡ flat_map (λ g. filter (λ x. same g x) xs) fs
  others f xs [] apart = refl
  others f xs (g ∷ fs) apart =
      ap (λ ys. ys ++ flat_map (λ h. filter (λ x. same h x) (filter (λ x. not (same f x)) xs)) fs)
      (filter_filter (λ x. not (same f x)) (λ x. same g x) (λ x e. differs x e) xs)
      ∙ ap (λ ys. filter (λ x. same g x) xs ++ ys) (others f xs fs apart.1)
    where
      differs : (x : A) → same g x ≡ true → not (same f x) ≡ true
      differs x e = elim (cases_Bool (same f x)) [
        | inl both ↦ absurd (false≢true (sym apart.0 ∙ (decides f g).1 ((decides f x).0 both ∙ sym ((decides g x).0 e))))
        | inr other ↦ rw other refl
      ]

  left_over : (f : A) (fs xs : List A) → Each (λ x. is_seen same (f ∷ fs) x ≡ true) xs → Each (λ x. is_seen same fs x ≡ true) (filter (λ x. not (same f x)) xs)
  left_over f fs [] all = tt
  left_over f fs (x ∷ xs) all = elim (cases_Bool (same f x)) [
    | inl passes ↦ rw passes (left_over f fs xs all.1)
    | inr other ↦ rw other (
      elim (or_cases (same f x) (is_seen same fs x) all.0) [
        | inl passes ↦ absurd (false≢true (sym other ∙ passes))
        | inr there ↦ there
      ],
      left_over f fs xs all.1,
    )
  ]

  none_left : (xs : List A) → Each (λ x. is_seen same [] x ≡ true) xs → xs ≡ []
  none_left [] all = refl
  none_left (x ∷ xs) all = absurd (false≢true all.0)

  groups : (seen fs xs : List A) → Fresh seen fs → Each (λ x. is_seen same fs x ≡ true) xs → IsPermutation xs (flat_map (λ f. filter (λ x. same f x) xs) fs)
  groups seen [] xs fresh cover = subst (λ ys. IsPermutation ys []) (sym (none_left xs cover)) (IsPermutation-refl [])
  groups seen (f ∷ fs) xs fresh cover =
      let rest : List A = filter (λ x. not (same f x)) xs in
      let apart = fresh_apart seen [] f fs fresh.1 in
      let later : IsPermutation rest (flat_map (λ g. filter (λ x. same g x) xs) fs) =
      subst (λ ys. IsPermutation rest ys) (others f xs fs apart) (groups (seen ++ f ∷ []) fs rest fresh.1 (left_over f fs xs cover)) in
      IsPermutation-trans xs (filter (λ x. same f x) xs ++ rest) (filter (λ x. same f x) xs ++ flat_map (λ g. filter (λ x. same g x) xs) fs)
      (parted (λ x. same f x) xs)
      (IsPermutation-append_right (filter (λ x. same f x) xs) rest (flat_map (λ g. filter (λ x. same g x) xs) fs) later)

  pub grouped_permutes : (xs : List A) → IsPermutation xs (grouped same xs)
  grouped_permutes xs = groups [] (firsts same [] xs) xs (firsts_fresh [] xs) (firsts_cover [] xs)

onto_joined : {A : Type 0} (same : A → A → Bool) (x : A) (ss : List (List A)) → flat_map (λ s. s) (onto same x ss) ≡ x ∷ flat_map (λ s. s) ss
onto_joined same x [] = refl
onto_joined same x ([] ∷ ss) = refl
onto_joined same x ((y ∷ ys) ∷ ss) = elim (cases_Bool (same x y)) [
  | inl passes ↦ rw passes refl
  | inr other ↦ rw other refl
]

-- the stretches of a list, one behind the other, are the list
joined : {A : Type 0} (same : A → A → Bool) (xs : List A) → flat_map (λ s. s) (stretches same xs) ≡ xs
joined same [] = refl
joined same (x ∷ xs) = onto_joined same x (stretches same xs) ∙ ap (λ ys. x ∷ ys) (joined same xs)

each_permutes : {A : Type 0} (g : List A → List A) → ((xs : List A) → IsPermutation xs (g xs)) → (ss : List (List A)) → IsPermutation (flat_map (λ s. s) ss) (flat_map g ss)
each_permutes g h [] = IsPermutation-refl []
each_permutes g h (s ∷ ss) =
    IsPermutation-trans (s ++ flat_map (λ t. t) ss) (g s ++ flat_map (λ t. t) ss) (g s ++ flat_map g ss)
    (IsPermutation-append_left (flat_map (λ t. t) ss) s (g s) (h s))
    (IsPermutation-append_right (g s) (flat_map (λ t. t) ss) (flat_map g ss) (each_permutes g h ss))

-- grouping within stretches only moves elements
pub stretches_permute : {A : Type 0} (node : A → A → Bool) (g : List A → List A) → ((xs : List A) → IsPermutation xs (g xs)) → (xs : List A) → IsPermutation xs (flat_map g (stretches node xs))
stretches_permute node g h xs = subst (λ ys. IsPermutation ys (flat_map g (stretches node xs))) (joined node xs) (each_permutes g h (stretches node xs))
