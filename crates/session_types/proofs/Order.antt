-- The order in which instances go down.
use Rattle.std.proofs.Common.{◌≡◌, ℕ, ◌<◌, Bool, true, false, ap, cond, List, [], ◌∷◌, ◌++◌, ◌⊎◌, inl, inr, refl, sym, ◌∙◌, subst, eqb, eq-eqb, arith, reverse, zero, suc, lit<}
use Rattle.std.proofs.lemmas.List.{reverse-append}
use Rattle.std.proofs.lemmas.Bool.{cases_eq}
use Rattle.std.specs.List.{filter}
use Rattle.session_types.proofs.Lists.{In-append, In-filter, In-left, In-reverse, In-right, eqb_is, filter-In, reverse-In}
use Rattle.session_types.specs.Members.{IsMember}
use Rattle.session_types.specs.Live.{below_rank, down_order, instance_number, instance_numbers, of_scope}
use Rattle.session_types.specs.Scopes.{rank, scope_count}
use Rattle.session_types.specs.declared.instance.Instance.{Instance}
use Rattle.session_types.specs.declared.scope.Scope.{Scope}
use Rattle.session_types.specs.declared.scope.Scope.TheVariants.{Class, Function, Module, Session}

abbrev pub Rising : {S : Type 0} → List (Instance S) → Type 0
Rising [] = Unit {0}
Rising {S} (i ∷ is) = ((j : Instance S) → IsMember j is → i.order < j.order) × Rising is

abbrev pub Falling : {S : Type 0} → List (Instance S) → Type 0
Falling [] = Unit {0}
Falling {S} (i ∷ is) = ((j : Instance S) → IsMember j is → j.order < i.order) × Falling is

abbrev pub Precedes : {S : Type 0} → Instance S → Instance S → Type 0
Precedes i j = (rank j.scope < rank i.scope) ⊎ ((rank i.scope ≡ rank j.scope) × (j.order < i.order))

abbrev pub InOrder : {S : Type 0} → List (Instance S) → Type 0
InOrder [] = Unit {0}
InOrder {S} (i ∷ is) = ((j : Instance S) → IsMember j is → Precedes i j) × InOrder is

pub Rising-filter : {S : Type 0} (p : Instance S → Bool) (xs : List (Instance S)) → Rising xs → Rising (filter p xs)
Rising-filter p [] h = tt
Rising-filter p (x ∷ xs) h =
    elim (p x) as (λ b. Rising (cond b (x ∷ filter p xs) (filter p xs))) [
      | true ↦ ((λ j g. h.0 j (In-filter p j xs g).0), Rising-filter p xs h.1)
      | false ↦ Rising-filter p xs h.1
    ]

pub Rising-push : {S : Type 0} (xs : List (Instance S)) (i : Instance S) → Rising xs → ((j : Instance S) → IsMember j xs → j.order < i.order) → Rising (xs ++ i ∷ [])
Rising-push [] i h low = ((λ j g. absurd g), tt)
Rising-push {S} (x ∷ xs) i h low = (
  (λ j g. elim (In-append j xs (i ∷ []) g) [
    | inl l ↦ h.0 j l
    | inr r ↦ elim r [ inl e ↦ (let P : Instance S → Type 0 = λ k. x.order < k.order in subst P (sym e) (low x (inl refl))) | inr z ↦ absurd z ]
  ]),
  Rising-push xs i h.1 (λ j g. low j (inr g)),
)

pub Falling-push : {S : Type 0} (xs : List (Instance S)) (i : Instance S) → Falling xs → ((j : Instance S) → IsMember j xs → i.order < j.order) → Falling (xs ++ i ∷ [])
Falling-push [] i h low = ((λ j g. absurd g), tt)
Falling-push {S} (x ∷ xs) i h low = (
  (λ j g. elim (In-append j xs (i ∷ []) g) [
    | inl l ↦ h.0 j l
    | inr r ↦ elim r [ inl e ↦ (let P : Instance S → Type 0 = λ k. k.order < x.order in subst P (sym e) (low x (inl refl))) | inr z ↦ absurd z ]
  ]),
  Falling-push xs i h.1 (λ j g. low j (inr g)),
)

pub Falling-reverse : {S : Type 0} (xs : List (Instance S)) → Rising xs → Falling (reverse xs)
Falling-reverse [] h = tt
Falling-reverse {S} (x ∷ xs) h =
    subst (λ (l : List (Instance S)). Falling l) (sym (reverse-append (x ∷ []) xs)) (Falling-push (reverse xs) x (Falling-reverse xs h.1) (λ j g. h.0 j (In-reverse j xs g)))

pub of_scope-In : {S : Type 0} (r : ℕ) (set : List (Instance S)) (i : Instance S) → IsMember i (of_scope r set) → IsMember i set × (rank i.scope ≡ r)
of_scope-In {S} r set i h =
    let g = In-filter (λ (k : Instance S). eqb r (rank k.scope)) i (reverse set) h in
    (In-reverse i set g.0, sym (eqb_is r (rank i.scope) g.1))

pub In-of_scope : {S : Type 0} (r : ℕ) (set : List (Instance S)) (i : Instance S) → IsMember i set → rank i.scope ≡ r → IsMember i (of_scope r set)
In-of_scope {S} r set i h e = filter-In (λ (k : Instance S). eqb r (rank k.scope)) i (reverse set) (reverse-In i set h) (eq-eqb r (rank i.scope) (sym e))

pub InOrder-scope : {S : Type 0} (r : ℕ) (xs : List (Instance S)) → Falling xs → InOrder (filter (λ (k : Instance S). eqb r (rank k.scope)) xs)
InOrder-scope r [] h = tt
InOrder-scope {S} r (x ∷ xs) h =
    elim (eqb r (rank x.scope)) as (λ b. eqb r (rank x.scope) ≡ b → InOrder (cond b (x ∷ filter (λ (k : Instance S). eqb r (rank k.scope)) xs) (filter (λ (k : Instance S). eqb r (rank k.scope)) xs))) [
      | true ↦ λ e. (
        (λ j g. (let q = In-filter (λ (k : Instance S). eqb r (rank k.scope)) j xs g in
            let e1 : r ≡ rank x.scope = eqb_is r (rank x.scope) e in let e2 : r ≡ rank j.scope = eqb_is r (rank j.scope) q.1 in
            inr (sym e1 ∙ e2, h.0 j q.0))),
        InOrder-scope r xs h.1,
      )
      | false ↦ λ e. InOrder-scope r xs h.1
    ] refl

pub InOrder-append : {S : Type 0} (xs ys : List (Instance S)) → InOrder xs → InOrder ys → ((i j : Instance S) → IsMember i xs → IsMember j ys → Precedes i j) → InOrder (xs ++ ys)
InOrder-append [] ys g h cross = h
InOrder-append (x ∷ xs) ys g h cross =
    ((λ j q. elim (In-append j xs ys q) [ inl l ↦ g.0 j l | inr r ↦ cross x j (inl refl) r ]), InOrder-append xs ys g.1 h (λ i j a b. cross i j (inr a) b))

pub below_rank-In : {S : Type 0} (r : ℕ) (set : List (Instance S)) (i : Instance S) → IsMember i (below_rank r set) → IsMember i set × (rank i.scope < r)
below_rank-In zero set i h = absurd h
below_rank-In (suc r) set i h =
    elim (In-append i (of_scope r set) (below_rank r set) h) [
      | inl l ↦ (let q = of_scope-In r set i l in let e = q.1 in (q.0, omega (arith, e)))
      | inr l ↦ (let q = below_rank-In r set i l in let e = q.1 in (q.0, omega (arith, e)))
    ]

pub In-below_rank : {S : Type 0} (r : ℕ) (set : List (Instance S)) (i : Instance S) → IsMember i set → rank i.scope < r → IsMember i (below_rank r set)
In-below_rank zero set i h l = absurd (omega (arith, l))
In-below_rank (suc r) set i h l =
    elim (cases_eq (rank i.scope) r) [
      | inl e ↦ In-left i (of_scope r set) (below_rank r set) (In-of_scope r set i h e)
      | inr ne ↦ In-right i (of_scope r set) (below_rank r set) (In-below_rank r set i h (omega (arith, ne, l)))
    ]

pub InOrder-below : {S : Type 0} (r : ℕ) (set : List (Instance S)) → Rising set → InOrder (below_rank r set)
InOrder-below zero set rising = tt
InOrder-below (suc r) set rising =
    InOrder-append (of_scope r set) (below_rank r set) (InOrder-scope r (reverse set) (Falling-reverse set rising)) (InOrder-below r set rising)
    (λ i j a b. (let e = (of_scope-In r set i a).1 in let q = (below_rank-In r set j b).1 in inl (omega (arith, e, q))))

pub InOrder-down : {S : Type 0} (set : List (Instance S)) → Rising set → InOrder (down_order set)
InOrder-down set rising = InOrder-below scope_count set rising

pub down_order-In : {S : Type 0} (set : List (Instance S)) (i : Instance S) → IsMember i (down_order set) → IsMember i set
down_order-In set i h = (below_rank-In scope_count set i h).0

pub rank_low : (s : Scope) → rank s < scope_count
rank_low Session = lit< tt
rank_low Module = lit< tt
rank_low Class = lit< tt
rank_low Function = lit< tt

pub In-down_order : {S : Type 0} (set : List (Instance S)) (i : Instance S) → IsMember i set → IsMember i (down_order set)
In-down_order set i h = In-below_rank scope_count set i h (rank_low i.scope)

pub numbers_in-append : {S : Type 0} (xs ys : List (Instance S)) → instance_numbers (xs ++ ys) ≡ instance_numbers xs ++ instance_numbers ys
numbers_in-append [] ys = refl
numbers_in-append (x ∷ xs) ys = ap (λ (l : List ℕ). instance_number x ∷ l) (numbers_in-append xs ys)
