-- A list is grouped element by element.
use Rattle.std.proofs.Common.{◌≡◌, ℕ, ◌+◌, ◌<◌, ◌≤◌, suc, zero, Bool, true, false, ◌||◌, List, [], ◌∷◌, ◌++◌, length, map, set, get_or, ◌==◌, if◌then◌else◌, refl, ap, sym, subst, ◌∙◌, arith, inl, inr, Decides, eq-eqb, ne_eqb}
use Rattle.std.specs.List.{flat_map, filter, list_any, position_or_len}
use Rattle.std.proofs.lemmas.Bool.{cases_Bool, cases_eq, false≢true, false_from_ne_true}
use Rattle.std.proofs.lemmas.List.{append_assoc, append-nil, length-map, map-append}
use Rattle.std.proofs.lemmas.List.Elements.{filter-append}
use Rattle.indexmap.specs.IndexSet.{insert_key}
use Rattle.param_rows.specs.Grouping.{is_seen, firsts, grouped}
use Rattle.param_rows.specs.Gathering.{groups_of, with_member}
use Rattle.param_rows.proofs.Shuffled.{Each, Fresh, firsts_fresh, fresh_apart, firsts_cover}

-- groups with one element more, as they are walked along
abbrev member_in : {A : Type 0} → ℕ → A → List (List A) → List (List A)
member_in at x [] = (x ∷ []) ∷ []
member_in zero x (g ∷ gs) = (g ++ x ∷ []) ∷ gs
member_in (suc at) x (g ∷ gs) = g ∷ member_in at x gs

with_member_by : {A : Type 0} (at : ℕ) (x : A) (gs : List (List A)) (b : Bool) → (at == length gs) ≡ b → with_member at x gs ≡ (if b then (gs ++ (x ∷ []) ∷ []) else set gs at (get_or gs at [] ++ x ∷ []))
with_member_by at x gs b e = ap (λ (c : Bool). if c then (gs ++ (x ∷ []) ∷ []) else set gs at (get_or gs at [] ++ x ∷ [])) e

with_member_is : {A : Type 0} (at : ℕ) (x : A) (gs : List (List A)) → at ≤ length gs → with_member at x gs ≡ member_in at x gs
with_member_is at x [] le = with_member_by at x [] true (eq-eqb at 0 (omega arith))
with_member_is zero x (g ∷ gs) le = with_member_by 0 x (g ∷ gs) false (ne_eqb 0 (length (g ∷ gs)) (λ e. omega arith))
with_member_is (suc at) x (g ∷ gs) le = elim (cases_eq at (length gs)) [
  | inl e ↦
      let rest : gs ++ (x ∷ []) ∷ [] ≡ member_in at x gs = sym (with_member_by at x gs true (eq-eqb at (length gs) e)) ∙ with_member_is at x gs (omega arith) in
      with_member_by (suc at) x (g ∷ gs) true (eq-eqb (suc at) (length (g ∷ gs)) (omega arith)) ∙ ap (λ ys. g ∷ ys) rest
  | inr ne ↦
      let rest : set gs at (get_or gs at [] ++ x ∷ []) ≡ member_in at x gs = sym (with_member_by at x gs false (ne_eqb at (length gs) ne)) ∙ with_member_is at x gs (omega arith) in
      with_member_by (suc at) x (g ∷ gs) false (ne_eqb (suc at) (length (g ∷ gs)) (λ e. ne (omega arith))) ∙ ap (λ ys. g ∷ ys) rest
]

first_here : {K : Type 0} (p : K → Bool) (k : K) (ks : List K) → p k ≡ true → position_or_len p (k ∷ ks) ≡ 0
first_here p k ks h = rw h refl

first_later : {K : Type 0} (p : K → Bool) (k : K) (ks : List K) → p k ≡ false → position_or_len p (k ∷ ks) ≡ suc (position_or_len p ks)
first_later p k ks h = rw h (omega arith)

position_within : {K : Type 0} (p : K → Bool) (ks : List K) → position_or_len p ks ≤ length ks
position_within p [] = omega arith
position_within p (k ∷ ks) = elim (cases_Bool (p k)) [
  | inl h ↦ omega (arith, first_here p k ks h)
  | inr h ↦ omega (arith, first_later p k ks h, position_within p ks)
]

module _ {A K : Type 0} (eq : K → K → Bool) (key : A → K) (decides : (k l : K) → Decides (eq k l) (k ≡ l)) where
  abbrev same : A → A → Bool
  same one other = eq (key one) (key other)

  same-Decides : (one other : A) → Decides (same one other) (key one ≡ key other)
  same-Decides one other = decides (key one) (key other)

  turned : (k l : K) → eq k l ≡ eq l k
  turned k l = elim (cases_Bool (eq k l)) [
    | inl s ↦ s ∙ sym ((decides l k).1 (sym ((decides k l).0 s)))
    | inr d ↦ d ∙ sym (false_from_ne_true (eq l k) (λ s. false≢true (sym d ∙ (decides k l).1 (sym ((decides l k).0 s)))))
  ]

  -- the keys of those that were seen
  seen_keys : (x : A) (fs : List A) → list_any (eq (key x)) (map key fs) ≡ is_seen same fs x
  seen_keys x [] = refl
  seen_keys x (f ∷ fs) = ap (λ (b : Bool). b || list_any (eq (key x)) (map key fs)) (turned (key x) (key f)) ∙ ap (λ (b : Bool). same f x || b) (seen_keys x fs)

  -- the first elements with one more element
  abbrev with_first : List A → A → List A
  with_first fs x = if is_seen same fs x then fs else (fs ++ x ∷ [])

  with_first_by : (fs : List A) (x : A) (b : Bool) → is_seen same fs x ≡ b → with_first fs x ≡ (if b then fs else (fs ++ x ∷ []))
  with_first_by fs x b e = ap (λ (c : Bool). if c then fs else (fs ++ x ∷ [])) e

  with_first_here : (f : A) (fs : List A) (x : A) → same f x ≡ true → with_first (f ∷ fs) x ≡ f ∷ fs
  with_first_here f fs x s = with_first_by (f ∷ fs) x true (ap (λ (b : Bool). b || is_seen same fs x) s)

  with_first_later : (f : A) (fs : List A) (x : A) → same f x ≡ false → with_first (f ∷ fs) x ≡ f ∷ with_first fs x
  with_first_later f fs x d = elim (cases_Bool (is_seen same fs x)) [
    | inl old ↦ with_first_by (f ∷ fs) x true (ap (λ (b : Bool). b || is_seen same fs x) d ∙ old) ∙ ap (λ ys. f ∷ ys) (sym (with_first_by fs x true old))
    | inr fresh ↦ with_first_by (f ∷ fs) x false (ap (λ (b : Bool). b || is_seen same fs x) d ∙ fresh) ∙ ap (λ ys. f ∷ ys) (sym (with_first_by fs x false fresh))
  ]

  firsts_push : (seen xs : List A) (x : A) → firsts same seen (xs ++ x ∷ []) ≡ firsts same seen xs ++ (if is_seen same (seen ++ firsts same seen xs) x then [] else (x ∷ []))
  firsts_push seen [] x = ap (λ ys. if is_seen same ys x then [] else (x ∷ [])) (sym (append-nil seen))
  firsts_push seen (y ∷ xs) x = elim (cases_Bool (is_seen same seen y)) [
    | inl old ↦ rw old (firsts_push seen xs x)
    | inr fresh ↦
        let later : List A = firsts same (seen ++ y ∷ []) xs in
        let assoc : (seen ++ y ∷ []) ++ later ≡ seen ++ y ∷ later = append_assoc seen (y ∷ []) later in
        rw fresh (ap (λ ys. y ∷ ys) (firsts_push (seen ++ y ∷ []) xs x ∙ ap (λ ys. later ++ (if is_seen same ys x then [] else (x ∷ []))) assoc))
  ]

  firsts_with : (xs : List A) (x : A) → firsts same [] (xs ++ x ∷ []) ≡ with_first (firsts same [] xs) x
  firsts_with xs x = elim (cases_Bool (is_seen same (firsts same [] xs) x)) [
    | inl old ↦
        firsts_push [] xs x ∙ ap (λ (b : Bool). firsts same [] xs ++ (if b then [] else (x ∷ []))) old ∙ append-nil (firsts same [] xs)
        ∙ sym (with_first_by (firsts same [] xs) x true old)
    | inr fresh ↦ firsts_push [] xs x ∙ ap (λ (b : Bool). firsts same [] xs ++ (if b then [] else (x ∷ []))) fresh ∙ sym (with_first_by (firsts same [] xs) x false fresh)
  ]

  key_pushed : (x : A) (fs : List A) (b : Bool) → is_seen same fs x ≡ b → insert_key eq (map key fs) (key x) ≡ (if b then map key fs else (map key fs ++ key x ∷ []))
  key_pushed x fs b e = ap (λ (c : Bool). if c then map key fs else (map key fs ++ key x ∷ [])) (seen_keys x fs ∙ e)

  pub keys_with : (xs : List A) (x : A) → insert_key eq (map key (firsts same [] xs)) (key x) ≡ map key (firsts same [] (xs ++ x ∷ []))
  keys_with xs x = elim (cases_Bool (is_seen same (firsts same [] xs) x)) [
    | inl old ↦ key_pushed x (firsts same [] xs) true old ∙ ap (map key) (sym (firsts_with xs x ∙ with_first_by (firsts same [] xs) x true old))
    | inr fresh ↦
        key_pushed x (firsts same [] xs) false fresh ∙ sym (map-append key (firsts same [] xs) (x ∷ []))
        ∙ ap (map key) (sym (firsts_with xs x ∙ with_first_by (firsts same [] xs) x false fresh))
  ]

  alike : (x y : A) (fs : List A) → key x ≡ key y → is_seen same fs x ≡ is_seen same fs y
  alike x y fs e = ap (λ k. list_any (λ f. eq (key f) k) fs) e

  -- what isn't seen is of no group of what is seen
  none_same : (x : A) (fs xs : List A) → is_seen same fs x ≡ false → Each (λ y. is_seen same fs y ≡ true) xs → filter (λ y. same x y) xs ≡ []
  none_same x fs [] fresh all = refl
  none_same x fs (y ∷ ys) fresh all =
      let other : same x y ≡ false = false_from_ne_true (same x y) (λ s. false≢true (sym fresh ∙ alike x y fs ((decides (key x) (key y)).0 s) ∙ all.0)) in
      rw other (none_same x fs ys fresh all.1)

  -- the group of an element
  abbrev group : List A → A → List A
  group xs f = filter (λ y. same f y) xs

  group_push : (f x : A) (xs : List A) (b : Bool) → same f x ≡ b → group (xs ++ x ∷ []) f ≡ group xs f ++ (if b then (x ∷ []) else [])
  group_push f x xs b s = filter-append (λ y. same f y) xs (x ∷ []) ∙ ap (λ (c : Bool). group xs f ++ (if c then (x ∷ []) else [])) s

  -- groups to which an element doesn't belong stay
  others_stay : (x : A) (xs fs : List A) → Each (λ f. same f x ≡ false) fs → map (group (xs ++ x ∷ [])) fs ≡ map (group xs) fs
  others_stay x xs [] apart = refl
  others_stay x xs (f ∷ fs) apart =
      ap (λ (g : List A). g ∷ map (group (xs ++ x ∷ [])) fs) (group_push f x xs false apart.0 ∙ append-nil (group xs f)) ∙ ap (λ gs. group xs f ∷ gs) (others_stay x xs fs apart.1)

  apart_from : (f x : A) (fs : List A) → same f x ≡ true → Each (λ g. same f g ≡ false) fs → Each (λ g. same g x ≡ false) fs
  apart_from f x [] s apart = tt
  apart_from f x (g ∷ fs) s apart =
      (false_from_ne_true (same g x) (λ t. false≢true (sym apart.0 ∙ (decides (key f) (key g)).1 ((decides (key f) (key x)).0 s ∙ sym ((decides (key g) (key x)).0 t)))), apart_from f x fs s apart.1)

  gathered : (x : A) (xs seen fs : List A) → Fresh same key same-Decides seen fs → (is_seen same fs x ≡ false → group xs x ≡ [])
      → member_in (position_or_len (eq (key x)) (map key fs)) x (map (group xs) fs) ≡ map (group (xs ++ x ∷ [])) (with_first fs x)
  gathered x xs seen [] fresh alone = ap (λ (g : List A). g ∷ []) (sym (group_push x x xs true ((decides (key x) (key x)).1 refl) ∙ ap (λ (ys : List A). ys ++ x ∷ []) (alone refl)))
  gathered x xs seen (f ∷ fs) fresh alone = elim (cases_Bool (same f x)) [
    | inl s ↦
        let rest = others_stay x xs fs (apart_from f x fs s (fresh_apart same key same-Decides seen [] f fs fresh.1)) in
        ap (λ (n : ℕ). member_in n x (map (group xs) (f ∷ fs))) (first_here (eq (key x)) (key f) (map key fs) (turned (key x) (key f) ∙ s))
        ∙ ap (λ (g : List A). g ∷ map (group xs) fs) (sym (group_push f x xs true s))
        ∙ ap (λ (gs : List (List A)). group (xs ++ x ∷ []) f ∷ gs) (sym rest)
        ∙ sym (ap (map (group (xs ++ x ∷ []))) (with_first_here f fs x s))
    | inr d ↦
        let later = gathered x xs (seen ++ f ∷ []) fs fresh.1 (λ h. alone (ap (λ (b : Bool). b || is_seen same fs x) d ∙ h)) in
        ap (λ (n : ℕ). member_in n x (map (group xs) (f ∷ fs))) (first_later (eq (key x)) (key f) (map key fs) (turned (key x) (key f) ∙ d))
        ∙ ap (λ (gs : List (List A)). group xs f ∷ gs) later
        ∙ ap (λ (g : List A). g ∷ map (group (xs ++ x ∷ [])) (with_first fs x)) (sym (group_push f x xs false d ∙ append-nil (group xs f)))
        ∙ sym (ap (map (group (xs ++ x ∷ []))) (with_first_later f fs x d))
  ]

  -- a number of a key is one of its group, or the next
  pub number_within : (xs : List A) (x : A) → position_or_len (eq (key x)) (map key (firsts same [] xs)) ≤ length (groups_of same xs)
  number_within xs x =
      omega (arith, position_within (eq (key x)) (map key (firsts same [] xs)), length-map (firsts same [] xs) key, length-map (firsts same [] xs) (group xs))

  -- one element more
  pub groups_with : (xs : List A) (x : A) → with_member (position_or_len (eq (key x)) (map key (firsts same [] xs))) x (groups_of same xs) ≡ groups_of same (xs ++ x ∷ [])
  groups_with xs x =
      let fs = firsts same [] xs in
      with_member_is (position_or_len (eq (key x)) (map key fs)) x (groups_of same xs) (number_within xs x)
      ∙ gathered x xs [] fs (firsts_fresh same key same-Decides [] xs) (λ fresh. none_same x fs xs fresh (firsts_cover same key same-Decides [] xs))
      ∙ ap (map (group (xs ++ x ∷ []))) (sym (firsts_with xs x))

-- the groups, one behind the other
pub grouped_is : {A : Type 0} (same : A → A → Bool) (xs : List A) → flat_map (λ g. g) (groups_of same xs) ≡ grouped same xs
grouped_is {A} same xs = along (firsts same [] xs)
  where
    along : (fs : List A) → flat_map (λ g. g) (map (λ first. filter (λ x. same first x) xs) fs) ≡ flat_map (λ first. filter (λ x. same first x) xs) fs
    along [] = refl
    along (f ∷ fs) = ap (λ ys. filter (λ x. same f x) xs ++ ys) (along fs)
