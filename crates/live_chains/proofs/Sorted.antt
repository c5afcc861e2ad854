-- Entries in order of set-up.
use Rattle.std.proofs.Common.{◌≡◌, ◌≢◌, ◌<◌, ◌≤◌, Bool, true, false, cond, ◌||◌, List, [], ◌∷◌, ◌++◌, ◌⊎◌, inl, inr, refl, sym, ap, ◌∙◌, ltb, arith}
use Rattle.std.proofs.lemmas.Bool.{ltb-true, ltb-false, lt-ltb, le-ltb}
use Rattle.std.specs.List.{filter, list_any}
use Rattle.session_types.specs.Members.{IsMember}
use Rattle.session_types.proofs.Lists.{In-append, In-left, In-right, In-filter}
use Rattle.live_chains.specs.Chained.{InstanceCell, insert, by_order, RisingBy, Apart, order_key}

pub In-insert : (y e : InstanceCell) (l : List InstanceCell) → IsMember y (insert e l) → (y ≡ e) ⊎ IsMember y l
In-insert y e [] h = h
In-insert y e (x ∷ xs) h =
    elim (ltb e.1.order x.1.order) as (λ b. IsMember y (cond b (e ∷ (x ∷ xs)) (x ∷ insert e xs)) → (y ≡ e) ⊎ IsMember y (x ∷ xs)) [
      | true ↦ λ g. g
      | false ↦ λ g. elim g [ inl q ↦ inr (inl q) | inr t ↦ elim (In-insert y e xs t) [ inl q ↦ inl q | inr u ↦ inr (inr u) ] ]
    ] h

pub insert-In : (y e : InstanceCell) (l : List InstanceCell) → (y ≡ e) ⊎ IsMember y l → IsMember y (insert e l)
insert-In y e [] h = h
insert-In y e (x ∷ xs) h =
    elim (ltb e.1.order x.1.order) as (λ b. IsMember y (cond b (e ∷ (x ∷ xs)) (x ∷ insert e xs))) [
      | true ↦ h
      | false ↦ elim h [ inl q ↦ inr (insert-In y e xs (inl q)) | inr t ↦ elim t [ inl q ↦ inl q | inr u ↦ inr (insert-In y e xs (inr u)) ] ]
    ]

pub In-by_order : (y : InstanceCell) (l : List InstanceCell) → IsMember y (by_order l) → IsMember y l
In-by_order y [] h = h
In-by_order y (x ∷ xs) h = elim (In-insert y x (by_order xs) h) [ inl q ↦ inl q | inr t ↦ inr (In-by_order y xs t) ]

pub by_order-In : (y : InstanceCell) (l : List InstanceCell) → IsMember y l → IsMember y (by_order l)
by_order-In y [] h = h
by_order-In y (x ∷ xs) (inl q) = insert-In y x (by_order xs) (inl q)
by_order-In y (x ∷ xs) (inr t) = insert-In y x (by_order xs) (inr (by_order-In y xs t))

-- no later one has a smaller number
abbrev pub Sorted : List InstanceCell → Type 0
Sorted [] = Unit {0}
Sorted (e ∷ es) = ((x : InstanceCell) → IsMember x es → e.1.order ≤ x.1.order) × Sorted es

pub Sorted-insert : (e : InstanceCell) (l : List InstanceCell) → Sorted l → Sorted (insert e l)
Sorted-insert e [] h = ((λ x g. absurd g), tt)
Sorted-insert e (x ∷ xs) h =
    elim (ltb e.1.order x.1.order) as (λ b. ltb e.1.order x.1.order ≡ b → Sorted (cond b (e ∷ (x ∷ xs)) (x ∷ insert e xs))) [
      | true ↦ λ q. (let lt = ltb-true e.1.order x.1.order q in
          ((λ y g. elim g [ inl p ↦ (let k = ap (λ (z : InstanceCell). z.1.order) p in omega (arith, lt, k)) | inr t ↦ (let le = h.0 y t in omega (arith, lt, le)) ]), h))
      | false ↦ λ q. (let ge = ltb-false e.1.order x.1.order q in
          ((λ y g. elim (In-insert y e xs g) [ inl p ↦ (let k = ap (λ (z : InstanceCell). z.1.order) p in omega (arith, ge, k)) | inr t ↦ h.0 y t ]), Sorted-insert e xs h.1))
    ] refl

pub Sorted-by_order : (l : List InstanceCell) → Sorted (by_order l)
Sorted-by_order [] = tt
Sorted-by_order (x ∷ xs) = Sorted-insert x (by_order xs) (Sorted-by_order xs)

pub insert_first : (e : InstanceCell) (l : List InstanceCell) → ((x : InstanceCell) → IsMember x l → e.1.order < x.1.order) → insert e l ≡ e ∷ l
insert_first e [] h = refl
insert_first e (x ∷ xs) h = rw (lt-ltb e.1.order x.1.order (h x (inl refl))) refl

pub insert_last : (e : InstanceCell) (l : List InstanceCell) → ((x : InstanceCell) → IsMember x l → x.1.order < e.1.order) → insert e l ≡ l ++ e ∷ []
insert_last e [] h = refl
insert_last e (x ∷ xs) h =
    let lt = h x (inl refl) in
    rw (le-ltb e.1.order x.1.order (omega (arith, lt))) (ap (λ (l : List InstanceCell). x ∷ l) (insert_last e xs (λ y g. h y (inr g))))

-- one that is put before the last
pub insert_before : (a e : InstanceCell) (l : List InstanceCell) → a.1.order < e.1.order → insert a (l ++ e ∷ []) ≡ insert a l ++ e ∷ []
insert_before a e [] h = rw (lt-ltb a.1.order e.1.order h) refl
insert_before a e (x ∷ xs) h =
    elim (ltb a.1.order x.1.order) as (λ b. cond b (a ∷ (x ∷ (xs ++ e ∷ []))) (x ∷ insert a (xs ++ e ∷ [])) ≡ cond b (a ∷ (x ∷ xs)) (x ∷ insert a xs) ++ e ∷ []) [
      | true ↦ refl
      | false ↦ ap (λ (l : List InstanceCell). x ∷ l) (insert_before a e xs h)
    ]

-- the latest comes last
pub by_order_last : (front back : List InstanceCell) (e : InstanceCell) → ((x : InstanceCell) → IsMember x (front ++ back) → x.1.order < e.1.order) → by_order (front ++ e ∷ back) ≡ by_order (front ++ back) ++ e ∷ []
by_order_last [] back e h = insert_last e (by_order back) (λ x g. h x (In-by_order x back g))
by_order_last (a ∷ front) back e h =
    ap (insert a) (by_order_last front back e (λ x g. h x (inr g))) ∙ insert_before a e (by_order (front ++ back)) (h a (inl refl))

-- a list in order stays as it is
pub by_order_same : (l : List InstanceCell) → RisingBy order_key l → by_order l ≡ l
by_order_same [] h = refl
by_order_same (x ∷ xs) h = ap (insert x) (by_order_same xs h.1) ∙ insert_first x xs h.0

filter_insert_out : (p : InstanceCell → Bool) (e : InstanceCell) (l : List InstanceCell) → p e ≡ false → filter p (insert e l) ≡ filter p l
filter_insert_out p e [] h = rw h refl
filter_insert_out p e (x ∷ xs) h =
    elim (ltb e.1.order x.1.order) as (λ b. filter p (cond b (e ∷ (x ∷ xs)) (x ∷ insert e xs)) ≡ filter p (x ∷ xs)) [
      | true ↦ rw h refl
      | false ↦ ap (λ (l : List InstanceCell). cond (p x) (x ∷ l) l) (filter_insert_out p e xs h)
    ]

filter_insert_in : (p : InstanceCell → Bool) (e : InstanceCell) (l : List InstanceCell) → Sorted l → p e ≡ true → filter p (insert e l) ≡ insert e (filter p l)
filter_insert_in p e [] s h = rw h refl
filter_insert_in p e (x ∷ xs) s h =
    elim (ltb e.1.order x.1.order) as (λ b. ltb e.1.order x.1.order ≡ b → filter p (cond b (e ∷ (x ∷ xs)) (x ∷ insert e xs)) ≡ insert e (filter p (x ∷ xs))) [
      | true ↦ λ q. (let lt = ltb-true e.1.order x.1.order q in
          rw h (sym (insert_first e (filter p (x ∷ xs)) (λ y g. elim (In-filter p y (x ∷ xs) g).0 [
            | inl k ↦ (let m = ap (λ (z : InstanceCell). z.1.order) k in omega (arith, lt, m))
            | inr t ↦ (let le = s.0 y t in omega (arith, lt, le))
          ]))))
      | false ↦ λ q. elim (p x) as (λ b. cond b (x ∷ filter p (insert e xs)) (filter p (insert e xs)) ≡ insert e (cond b (x ∷ filter p xs) (filter p xs))) [
        | true ↦ rw q (ap (λ (l : List InstanceCell). x ∷ l) (filter_insert_in p e xs s.1 h))
        | false ↦ filter_insert_in p e xs s.1 h
      ]
    ] refl

-- a filter leaves the order
pub filter_by_order : (p : InstanceCell → Bool) (l : List InstanceCell) → filter p (by_order l) ≡ by_order (filter p l)
filter_by_order p [] = refl
filter_by_order p (x ∷ xs) =
    elim (p x) as (λ b. p x ≡ b → filter p (insert x (by_order xs)) ≡ by_order (cond b (x ∷ filter p xs) (filter p xs))) [
      | true ↦ λ q. filter_insert_in p x (by_order xs) (Sorted-by_order xs) q ∙ ap (insert x) (filter_by_order p xs)
      | false ↦ λ q. filter_insert_out p x (by_order xs) q ∙ filter_by_order p xs
    ] refl

or_swap : (a b c : Bool) → (a || (b || c)) ≡ (b || (a || c))
or_swap true true c = refl
or_swap true false c = refl
or_swap false b c = refl

any_insert : (p : InstanceCell → Bool) (e : InstanceCell) (l : List InstanceCell) → list_any p (insert e l) ≡ (p e || list_any p l)
any_insert p e [] = refl
any_insert p e (x ∷ xs) =
    elim (ltb e.1.order x.1.order) as (λ b. list_any p (cond b (e ∷ (x ∷ xs)) (x ∷ insert e xs)) ≡ (p e || (p x || list_any p xs))) [
      | true ↦ refl
      | false ↦ ap (λ b. p x || b) (any_insert p e xs) ∙ or_swap (p x) (p e) (list_any p xs)
    ]

pub any_by_order : (p : InstanceCell → Bool) (l : List InstanceCell) → list_any p (by_order l) ≡ list_any p l
any_by_order p [] = refl
any_by_order p (x ∷ xs) = any_insert p x (by_order xs) ∙ ap (λ b. p x || b) (any_by_order p xs)

-- keys that differ
module _ {K : Type 0} (key : InstanceCell → K) where
  pub Apart-insert : (e : InstanceCell) (l : List InstanceCell) → ((x : InstanceCell) → IsMember x l → key x ≢ key e) → Apart key l → Apart key (insert e l)
  Apart-insert e [] h a = ((λ y g. absurd g), tt)
  Apart-insert e (x ∷ xs) h a =
      elim (ltb e.1.order x.1.order) as (λ b. Apart key (cond b (e ∷ (x ∷ xs)) (x ∷ insert e xs))) [
        | true ↦ (h, a)
        | false ↦ (
          (λ y g. elim (In-insert y e xs g) [ inl q ↦ (λ k. h x (inl refl) (sym k ∙ ap key q)) | inr t ↦ a.0 y t ]),
          Apart-insert e xs (λ y g. h y (inr g)) a.1,
        )
      ]

  pub Apart-by_order : (l : List InstanceCell) → Apart key l → Apart key (by_order l)
  Apart-by_order [] a = tt
  Apart-by_order (x ∷ xs) a = Apart-insert x (by_order xs) (λ y g. a.0 y (In-by_order y xs g)) (Apart-by_order xs a.1)

  -- one more among others
  pub Apart-more : (front back : List InstanceCell) (e : InstanceCell) → ((x : InstanceCell) → IsMember x (front ++ back) → key x ≢ key e) → Apart key (front ++ back) → Apart key (front ++ e ∷ back)
  Apart-more [] back e h a = (h, a)
  Apart-more (x ∷ front) back e h a = (
    (λ y g. elim (In-append y front (e ∷ back) g) [
      | inl l ↦ a.0 y (In-left y front back l)
      | inr r ↦ elim r [ inl q ↦ (λ k. h x (inl refl) (sym k ∙ ap key q)) | inr t ↦ a.0 y (In-right y front back t) ]
    ]),
    Apart-more front back e (λ y g. h y (inr g)) a.1,
  )

  pub Apart-fewer : (front back : List InstanceCell) (e : InstanceCell) → Apart key (front ++ e ∷ back) → Apart key (front ++ back) × ((x : InstanceCell) → IsMember x (front ++ back) → key x ≢ key e)
  Apart-fewer [] back e a = (a.1, a.0)
  Apart-fewer (x ∷ front) back e a =
      let h = Apart-fewer front back e a.1 in (
        ((λ y g. elim (In-append y front back g) [ inl l ↦ a.0 y (In-left y front (e ∷ back) l) | inr r ↦ a.0 y (In-right y front (e ∷ back) (inr r)) ]), h.0),
        (λ y g. elim g [ inl q ↦ (λ k. a.0 e (In-right e front (e ∷ back) (inl refl)) (sym k ∙ ap key q)) | inr t ↦ h.1 y t ]),
      )

pub Rising-sorted : (l : List InstanceCell) → Sorted l → Apart order_key l → RisingBy order_key l
Rising-sorted [] s a = tt
Rising-sorted (x ∷ xs) s a = ((λ y g. (let le = s.0 y g in let ne : y.1.order ≢ x.1.order = a.0 y g in omega (arith, le, ne))), Rising-sorted xs s.1 a.1)
