-- On the plain list of live instances.
use Rattle.std.proofs.Common.{◌≡◌, ℕ, ◌<◌, suc, zero, Bool, true, false, cond, not, ◌&&◌, List, [], ◌∷◌, ◌++◌, ◌⊎◌, inl, inr, refl, sym, ap, ◌∙◌, eqb, eq-eqb, arith, reverse, map, length, get_or, subst, Option, Some, None, IsSome, IfSome}
use Rattle.std.proofs.lemmas.Bool.{ne_eqb}
use Rattle.std.specs.Option.{option_map}
use Rattle.std.specs.List.{filter, remove, HoldsAt}
use Rattle.std.proofs.lemmas.List.{append-nil, reverse-append, map-append}
use Rattle.std.proofs.lemmas.List.Elements.{filter-append}
use Rattle.session_types.specs.Members.{IsMember}
use Rattle.session_types.specs.declared.instance.Instance.{Instance}
use Rattle.session_types.specs.Live.{is_at, find, scope_numbers, instance_number, without, instance_by_number}
use Rattle.session_types.specs.Scopes.{rank}
use Rattle.session_types.proofs.Lists.{In-append, In-filter}
use Rattle.live_chains.specs.Chained.{RisingBy}

Rising-filter : (p : Instance ℕ → Bool) (xs : List (Instance ℕ)) → RisingBy instance_number xs → RisingBy instance_number (filter p xs)
Rising-filter p [] h = tt
Rising-filter p (x ∷ xs) h =
    elim (p x) as (λ b. RisingBy instance_number (cond b (x ∷ filter p xs) (filter p xs))) [
      | true ↦ ((λ j g. h.0 j (In-filter p j xs g).0), Rising-filter p xs h.1)
      | false ↦ Rising-filter p xs h.1
    ]

pub Rising-push : (xs : List (Instance ℕ)) (i : Instance ℕ) → RisingBy instance_number xs → ((j : Instance ℕ) → IsMember j xs → j.order < i.order) → RisingBy instance_number (xs ++ i ∷ [])
Rising-push [] i h low = ((λ j g. absurd g), tt)
Rising-push (x ∷ xs) i h low = (
  (λ j g. elim (In-append j xs (i ∷ []) g) [
    | inl l ↦ h.0 j l
    | inr r ↦ elim r [ inl e ↦ (let k = ap instance_number e in let lt = low x (inl refl) in omega (arith, k, lt)) | inr z ↦ absurd z ]
  ]),
  Rising-push xs i h.1 (λ j g. low j (inr g)),
)

abbrev pub of_rank : ℕ → Instance ℕ → Bool
of_rank r i = eqb r (rank i.scope)

-- one that is looked at from behind
pub scope_step : (r : ℕ) (p : Instance ℕ → Bool) (x : Instance ℕ) (ys : List (Instance ℕ)) → scope_numbers r (filter p (x ∷ ys)) ≡ scope_numbers r (filter p ys) ++ cond (of_rank r x && p x) (x.order ∷ []) []
scope_step r p x ys =
    elim (p x) as (λ b. scope_numbers r (cond b (x ∷ filter p ys) (filter p ys)) ≡ scope_numbers r (filter p ys) ++ cond (of_rank r x && b) (x.order ∷ []) []) [
      | true ↦ ap (λ (l : List (Instance ℕ)). map instance_number (filter (of_rank r) l)) (reverse-append (x ∷ []) (filter p ys))
          ∙ (ap (map instance_number) (filter-append (of_rank r) (reverse (filter p ys)) (x ∷ []))
          ∙ (map-append instance_number (filter (of_rank r) (reverse (filter p ys))) (filter (of_rank r) (x ∷ []))
          ∙ ap (λ (l : List ℕ). scope_numbers r (filter p ys) ++ l) (elim (of_rank r x) as (λ c. map instance_number (cond c (x ∷ []) []) ≡ cond (c && true) (x.order ∷ []) []) [ true ↦ refl | false ↦ refl ])))
      | false ↦ sym (append-nil (scope_numbers r (filter p ys))) ∙ ap (λ (l : List ℕ). scope_numbers r (filter p ys) ++ l) (elim (of_rank r x) as (λ c. [] ≡ cond (c && false) (x.order ∷ []) []) [ true ↦ refl | false ↦ refl ])
    ]

-- none above n has the number n
all_above : (n : ℕ) (xs : List (Instance ℕ)) → ((j : Instance ℕ) → IsMember j xs → n < j.order) → without n xs ≡ xs
all_above n [] a = refl
all_above n (x ∷ xs) a = let l = a x (inl refl) in let e : eqb n x.order ≡ false = ne_eqb n x.order (λ q. omega (arith, l, q)) in rw e (ap (λ (l : List (Instance ℕ)). x ∷ l) (all_above n xs (λ j h. a j (inr h))))

pub In-at : (xs : List (Instance ℕ)) (i : ℕ) (d : Instance ℕ) → i < length xs → IsMember (get_or xs i d) xs
In-at [] i d l = absurd (omega (arith, l))
In-at (x ∷ xs) zero d l = inl refl
In-at (x ∷ xs) (suc i) d l = inr (In-at xs i d (omega (arith, l)))

pub remove_is : (xs : List (Instance ℕ)) (i n : ℕ) (d : Instance ℕ) → RisingBy instance_number xs → i < length xs → (get_or xs i d).order ≡ n → (remove xs i ≡ without n xs) × (instance_by_number n xs ≡ Some (get_or xs i d))
remove_is [] i n d r l e = absurd (omega (arith, l))
remove_is (x ∷ xs) zero n d r l e =
    let q : eqb n x.order ≡ true = eq-eqb n x.order (sym e) in
    let above : (j : Instance ℕ) → IsMember j xs → n < j.order = λ j h. (let lt = r.0 j h in omega (arith, lt, e)) in
    (rw q (sym (all_above n xs above)), rw q refl)
remove_is (x ∷ xs) (suc i) n d r l e =
    let low : i < length xs = omega (arith, l) in
    let above = r.0 (get_or xs i d) (In-at xs i d low) in
    let q : eqb n x.order ≡ false = ne_eqb n x.order (λ z. omega (arith, above, z, e)) in
    let h = remove_is xs i n d r.1 low e in
    (rw q (ap (λ (l : List (Instance ℕ)). x ∷ l) h.0), rw q h.1)

pub record Unlinked (n : ℕ) (now new : List (Instance ℕ)) (result : Instance ℕ) : Type 0 where
  pub rising : RisingBy instance_number new
  pub after : new ≡ without n now
  pub value : instance_by_number n now ≡ Some result

pub unlinked : (n i : ℕ) (now inside deref new : List (Instance ℕ)) (result : Instance ℕ) → inside ≡ now → deref ≡ inside → RisingBy instance_number inside → i < length deref → HoldsAt (λ (one : Instance ℕ). one.order ≡ n) deref i → new ≡ remove inside i → result ≡ get_or inside i result → Unlinked n now new result
unlinked n i now inside deref new result e1 e2 r l at e3 e4 =
    let r2 : RisingBy instance_number now = subst (λ (x : List (Instance ℕ)). RisingBy instance_number x) e1 r in
    let l2 : i < length now = subst (λ (x : List (Instance ℕ)). i < length x) (e2 ∙ e1) l in
    let at2 : (get_or now i result).order ≡ n = subst (λ (x : List (Instance ℕ)). (get_or x i result).order ≡ n) (e2 ∙ e1) (at result) in
    let h = remove_is now i n result r2 l2 at2 in
    let after : new ≡ without n now = e3 ∙ (ap (λ (x : List (Instance ℕ)). remove x i) e1 ∙ h.0) in
    record {
      rising = subst (λ (x : List (Instance ℕ)). RisingBy instance_number x) (sym after) (Rising-filter (λ (j : Instance ℕ). not (eqb n j.order)) now r2);
      after = after;
      value = h.1 ∙ ap (λ (x : Instance ℕ). Some x) (sym (e4 ∙ ap (λ (x : List (Instance ℕ)). get_or x i result) e1));
    }

pub got : (n i : ℕ) (now inside deref : List (Instance ℕ)) (result : Instance ℕ) → inside ≡ now → deref ≡ inside → RisingBy instance_number inside → i < length deref → HoldsAt (λ (one : Instance ℕ). one.order ≡ n) deref i → result ≡ get_or inside i result → instance_by_number n now ≡ Some result
got n i now inside deref result e1 e2 r l at e3 =
    let u = unlinked n i now inside deref (remove inside i) result e1 e2 r l at refl e3 in u.value

found_at : (d node : ℕ) (x i : Instance ℕ) (xs : List (Instance ℕ)) → find d node (x ∷ xs) ≡ Some i → (x ≡ i) ⊎ (find d node xs ≡ Some i)
found_at d node x i xs e =
    elim (is_at d node x) as (λ b. cond b (Some x) (find d node xs) ≡ Some i → (x ≡ i) ⊎ (find d node xs ≡ Some i)) [
      | true ↦ λ h. inl (same h)
      | false ↦ λ h. inr h
    ] e where
      same : Some x ≡ Some i → x ≡ i
      same h = cc

found_some : (d node : ℕ) (xs : List (Instance ℕ)) (i : Instance ℕ) → find d node xs ≡ Some i → IsSome (instance_by_number i.order xs)
found_some d node [] i e = absurd cc
found_some d node (x ∷ xs) i e = elim (found_at d node x i xs e) [
  | inl q ↦ rw (eq-eqb i.order x.order (sym (ap instance_number q))) refl
  | inr h ↦ (let later = found_some d node xs i h in elim (eqb i.order x.order) as (λ b. IsSome (cond b (Some x) (instance_by_number i.order xs))) [ true ↦ refl | false ↦ later ])
]

pub found_live : (d node : ℕ) (xs : List (Instance ℕ)) (result : Option ℕ) → result ≡ option_map instance_number (find d node xs) → IfSome result (λ n. IsSome (instance_by_number n xs))
found_live d node xs result e = subst (λ (o : Option ℕ). IfSome o (λ n. IsSome (instance_by_number n xs))) (sym e) (pick (find d node xs) refl) where
  pick : (o : Option (Instance ℕ)) → find d node xs ≡ o → IfSome (option_map instance_number o) (λ n. IsSome (instance_by_number n xs))
  pick None q = tt
  pick (Some i) q = found_some d node xs i q
