-- On membership, filters and appended lists.
use Rattle.std.proofs.Common.{◌≡◌, ℕ, Bool, true, false, cond, ◌||◌, ◌&&◌, List, [], ◌∷◌, ◌++◌, ◌⊎◌, inl, inr, refl, sym, ap, ◌∙◌, subst, eqb, eq-eqb, arith, reverse}
use Rattle.std.proofs.lemmas.List.{reverse-append}
use Rattle.std.specs.List.{filter, list_any}
use Rattle.session_types.specs.Members.{IsMember}
use Rattle.session_types.specs.Numbers.{among, with_number, with_numbers}

pub bool_cases : (b : Bool) → (b ≡ true) ⊎ (b ≡ false)
bool_cases true = inl refl
bool_cases false = inr refl

pub In-left : {A : Type 0} (x : A) (xs ys : List A) → IsMember x xs → IsMember x (xs ++ ys)
In-left x [] ys h = absurd h
In-left x (z ∷ xs) ys (inl e) = inl e
In-left x (z ∷ xs) ys (inr h) = inr (In-left x xs ys h)

pub In-right : {A : Type 0} (x : A) (xs ys : List A) → IsMember x ys → IsMember x (xs ++ ys)
In-right x [] ys h = h
In-right x (z ∷ xs) ys h = inr (In-right x xs ys h)

pub In-append : {A : Type 0} (x : A) (xs ys : List A) → IsMember x (xs ++ ys) → IsMember x xs ⊎ IsMember x ys
In-append x [] ys h = inr h
In-append x (z ∷ xs) ys (inl e) = inl (inl e)
In-append x (z ∷ xs) ys (inr h) = elim (In-append x xs ys h) [ inl l ↦ inl (inr l) | inr r ↦ inr r ]

pub In-filter : {A : Type 0} (p : A → Bool) (x : A) (xs : List A) → IsMember x (filter p xs) → IsMember x xs × (p x ≡ true)
In-filter p x [] h = absurd h
In-filter {A} p x (y ∷ ys) h =
    elim (p y) as (λ b. p y ≡ b → IsMember x (cond b (y ∷ filter p ys) (filter p ys)) → IsMember x (y ∷ ys) × (p x ≡ true)) [
      | true ↦ λ e g. elim g [ inl q ↦ (inl q, ap p q ∙ e) | inr t ↦ (inr (In-filter p x ys t).0, (In-filter p x ys t).1) ]
      | false ↦ λ e g. (inr (In-filter p x ys g).0, (In-filter p x ys g).1)
    ] refl h

pub filter-In : {A : Type 0} (p : A → Bool) (x : A) (xs : List A) → IsMember x xs → p x ≡ true → IsMember x (filter p xs)
filter-In p x [] h e = absurd h
filter-In {A} p x (y ∷ ys) h e =
    elim (p y) as (λ b. p y ≡ b → IsMember x (cond b (y ∷ filter p ys) (filter p ys))) [
      | true ↦ λ q. elim h [ inl t ↦ inl t | inr t ↦ inr (filter-In p x ys t e) ]
      | false ↦ λ q. elim h [ inl t ↦ (let r : true ≡ false = sym e ∙ (ap p t ∙ q) in cc) | inr t ↦ filter-In p x ys t e ]
    ] refl

pub In-reverse : {A : Type 0} (x : A) (xs : List A) → IsMember x (reverse xs) → IsMember x xs
In-reverse x [] h = h
In-reverse {A} x (y ∷ ys) h =
    elim (In-append x (reverse ys) (y ∷ []) (subst (λ (l : List A). IsMember x l) (reverse-append (y ∷ []) ys) h)) [
      | inl l ↦ inr (In-reverse x ys l)
      | inr r ↦ elim r [ inl e ↦ inl e | inr g ↦ absurd g ]
    ]

pub reverse-In : {A : Type 0} (x : A) (xs : List A) → IsMember x xs → IsMember x (reverse xs)
reverse-In x [] h = h
reverse-In {A} x (y ∷ ys) (inl e) = subst (λ (l : List A). IsMember x l) (sym (reverse-append (y ∷ []) ys)) (In-right x (reverse ys) (y ∷ []) (inl e))
reverse-In {A} x (y ∷ ys) (inr h) = subst (λ (l : List A). IsMember x l) (sym (reverse-append (y ∷ []) ys)) (In-left x (reverse ys) (y ∷ []) (reverse-In x ys h))

pub empty : {A : Type 0} (xs : List A) → ((x : A) → IsMember x xs → ⊥) → xs ≡ []
empty [] none = refl
empty (x ∷ xs) none = absurd (none x (inl refl))

pub or_cases : (a b : Bool) → (a || b) ≡ true → (a ≡ true) ⊎ (b ≡ true)
or_cases true b h = inl refl
or_cases false b h = inr h

pub or_right : (a b : Bool) → b ≡ true → (a || b) ≡ true
or_right true b h = refl
or_right false b h = h

pub or_left : (a b : Bool) → a ≡ true → (a || b) ≡ true
or_left true b h = refl
or_left false b h = cc

pub and_both : (a b : Bool) → (a && b) ≡ true → (a ≡ true) × (b ≡ true)
and_both true b h = (refl, h)
and_both false b h = cc

pub both_and : (a b : Bool) → a ≡ true → b ≡ true → (a && b) ≡ true
both_and true b g h = h
both_and false b g h = cc

pub eqb_is : (a b : ℕ) → eqb a b ≡ true → a ≡ b
eqb_is a b h = grind arith

pub among-In : (k : ℕ) (xs : List ℕ) → among k xs ≡ true → IsMember k xs
among-In k [] h = cc
among-In k (x ∷ xs) h = elim (or_cases (eqb x k) (among k xs) h) [ inl e ↦ inl (sym (eqb_is x k e)) | inr g ↦ inr (among-In k xs g) ]

pub In-among : (k : ℕ) (xs : List ℕ) → IsMember k xs → among k xs ≡ true
In-among k [] h = absurd h
In-among k (x ∷ xs) (inl e) = or_left (eqb x k) (among k xs) (eq-eqb x k (sym e))
In-among k (x ∷ xs) (inr h) = or_right (eqb x k) (among k xs) (In-among k xs h)

pub list_any-In : {A : Type 0} (p : A → Bool) (xs : List A) → list_any p xs ≡ true → (x : A) × IsMember x xs × (p x ≡ true)
list_any-In p [] h = cc
list_any-In p (x ∷ xs) h =
    elim (or_cases (p x) (list_any p xs) h) [
      | inl e ↦ (x, inl refl, e)
      | inr g ↦ (let r = list_any-In p xs g in (r.0, inr r.1, r.2))
    ]

pub In-list_any : {A : Type 0} (p : A → Bool) (x : A) (xs : List A) → IsMember x xs → p x ≡ true → list_any p xs ≡ true
In-list_any p x [] h e = absurd h
In-list_any p x (y ∷ ys) (inl q) e = or_left (p y) (list_any p ys) (sym (ap p q) ∙ e)
In-list_any p x (y ∷ ys) (inr h) e = or_right (p y) (list_any p ys) (In-list_any p x ys h e)

-- where a list that was appended to is cut
pub record CutLeft {A : Type 0} (xs ys before : List A) (x : A) (after : List A) : Type 0 where
  pub rest : List A
  pub first : xs ≡ before ++ x ∷ rest
  pub then : after ≡ rest ++ ys

pub record CutRight {A : Type 0} (xs ys before : List A) (x : A) (after : List A) : Type 0 where
  pub front : List A
  pub first : before ≡ xs ++ front
  pub then : ys ≡ front ++ x ∷ after

pub cut_append : {A : Type 0} (xs ys before : List A) (x : A) (after : List A) → xs ++ ys ≡ before ++ x ∷ after → CutLeft xs ys before x after ⊎ CutRight xs ys before x after
cut_append [] ys before x after e = inr (record { front = before; first = refl; then = e })
cut_append (z ∷ xs) ys [] x after e = inl (record { rest = xs; first = cc; then = cc })
cut_append (z ∷ xs) ys (b ∷ before) x after e =
    let q : xs ++ ys ≡ before ++ x ∷ after = cc in
    let h : z ≡ b = cc in
    elim (cut_append xs ys before x after q) [
      | inl l ↦ inl (record { rest = l.rest; first = (let f : xs ≡ before ++ x ∷ l.rest = l.first in cc); then = l.then })
      | inr r ↦ inr (record { front = r.front; first = (let f : before ≡ xs ++ r.front = r.first in cc); then = r.then })
    ]

-- with_number and with_numbers
pub In-with_number : (j k : ℕ) (ks : List ℕ) → IsMember j (with_number k ks) → (j ≡ k) ⊎ IsMember j ks
In-with_number j k ks h =
    elim (among k ks) as (λ b. IsMember j (cond b ks (ks ++ k ∷ [])) → (j ≡ k) ⊎ IsMember j ks) [
      | true ↦ λ g. inr g
      | false ↦ λ g. elim (In-append j ks (k ∷ []) g) [ inl l ↦ inr l | inr r ↦ elim r [ inl e ↦ inl e | inr z ↦ absurd z ] ]
    ] h

pub with_number-In : (j k : ℕ) (ks : List ℕ) → (j ≡ k) ⊎ IsMember j ks → IsMember j (with_number k ks)
with_number-In j k ks h =
    elim (among k ks) as (λ b. among k ks ≡ b → IsMember j (cond b ks (ks ++ k ∷ []))) [
      | true ↦ λ e. elim h [ inl q ↦ (let P : ℕ → Type 0 = λ n. IsMember n ks in subst P (sym q) (among-In k ks e)) | inr g ↦ g ]
      | false ↦ λ e. elim h [ inl q ↦ In-right j ks (k ∷ []) (inl q) | inr g ↦ In-left j ks (k ∷ []) g ]
    ] refl

pub In-with_numbers : (j : ℕ) (xs ks : List ℕ) → IsMember j (with_numbers xs ks) → IsMember j xs ⊎ IsMember j ks
In-with_numbers j [] ks h = inr h
In-with_numbers j (x ∷ xs) ks h =
    elim (In-with_numbers j xs (with_number x ks) h) [
      | inl l ↦ inl (inr l)
      | inr r ↦ elim (In-with_number j x ks r) [ inl e ↦ inl (inl e) | inr g ↦ inr g ]
    ]

pub with_numbers-In : (j : ℕ) (xs ks : List ℕ) → IsMember j xs ⊎ IsMember j ks → IsMember j (with_numbers xs ks)
with_numbers-In j [] ks (inl h) = absurd h
with_numbers-In j [] ks (inr h) = h
with_numbers-In j (x ∷ xs) ks (inl (inl e)) = with_numbers-In j xs (with_number x ks) (inr (with_number-In j x ks (inl e)))
with_numbers-In j (x ∷ xs) ks (inl (inr h)) = with_numbers-In j xs (with_number x ks) (inl h)
with_numbers-In j (x ∷ xs) ks (inr h) = with_numbers-In j xs (with_number x ks) (inr (with_number-In j x ks (inr h)))
