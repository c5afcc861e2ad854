-- What goes down, in order.
use Rattle.std.proofs.Common.{◌≡◌, ◌≢◌, ℕ, zero, suc, ◌<◌, ◌≤◌, Bool, true, false, cond, ◌||◌, ◌&&◌, List, [], ◌∷◌, ◌++◌, inl, inr, refl, sym, ap, ◌∙◌, subst, eqb, eq-eqb, arith, map, reverse}
use Rattle.std.proofs.lemmas.Bool.{cases_eq, ne_eqb}
use Rattle.std.proofs.lemmas.List.{append-nil, map-append, reverse-append}
use Rattle.std.proofs.lemmas.List.Elements.{filter-append, filter_agree}
use Rattle.std.specs.List.{filter, list_any}
use Rattle.session_types.specs.Members.{IsMember}
use Rattle.session_types.specs.Numbers.{among, joined}
use Rattle.session_types.specs.Scopes.{rank, scope_count}
use Rattle.session_types.specs.Live.{is_off, rests_on, of_scope, below_rank, down_order, instance_number, instance_numbers}
use Rattle.session_types.specs.declared.instance.Instance.{Instance}
use Rattle.session_types.proofs.Lists.{In-among, In-append, In-left, In-list_any, In-right, In-reverse, among-In, list_any-In}
use Rattle.session_types.proofs.Spans.{among_joined, same_truth}
use Rattle.live_chains.specs.declared.id.LiveId.{LiveId}
use Rattle.live_chains.specs.declared.dying.Dying.{Dying}
use Rattle.live_chains.specs.declared.dying.Dying.TheVariants.{Dependents, NotOn}
use Rattle.live_chains.specs.Down.{dies, dying}
use Rattle.live_chains.specs.Chained.{Apart, order_key, InstanceCell, instance_of, id_of, id_order, by_order, chains_below, Good}
use Rattle.live_chains.specs.Walked.{rests_any, resting_ids, off_orders, roots_of, going_below}
use Rattle.live_chains.proofs.Sorted.{filter_by_order, by_order_same, any_by_order}
use Rattle.live_chains.proofs.Changed.{below-In}
use Rattle.live_chains.proofs.Found.{id_numbers}

pub filter_map : {A B : Type 0} (f : A → B) (p : B → Bool) (xs : List A) → filter p (map f xs) ≡ map f (filter (λ x. p (f x)) xs)
filter_map f p [] = refl
filter_map f p (x ∷ xs) =
    elim (p (f x)) as (λ b. cond b (f x ∷ filter p (map f xs)) (filter p (map f xs)) ≡ map f (cond b (x ∷ filter (λ x. p (f x)) xs) (filter (λ x. p (f x)) xs))) [
      | true ↦ ap (λ l. f x ∷ l) (filter_map f p xs)
      | false ↦ filter_map f p xs
    ]

map_reverse : {A B : Type 0} (f : A → B) (xs : List A) → map f (reverse xs) ≡ reverse (map f xs)
map_reverse f [] = refl
map_reverse f (x ∷ xs) = ap (map f) (reverse-append (x ∷ []) xs) ∙ (map-append f (reverse xs) (x ∷ []) ∙ (ap (λ l. l ++ f x ∷ []) (map_reverse f xs) ∙ sym (reverse-append (f x ∷ []) (map f xs))))

filter_reverse : {A : Type 0} (p : A → Bool) (xs : List A) → filter p (reverse xs) ≡ reverse (filter p xs)
filter_reverse p [] = refl
filter_reverse {A} p (x ∷ xs) =
    ap (filter p) (reverse-append (x ∷ []) xs) ∙ (filter-append p (reverse xs) (x ∷ []) ∙ (ap (λ (l : List A). l ++ filter p (x ∷ [])) (filter_reverse p xs)
    ∙ elim (p x) as (λ b. reverse (filter p xs) ++ cond b (x ∷ []) [] ≡ reverse (cond b (x ∷ filter p xs) (filter p xs))) [
      | true ↦ sym (reverse-append (x ∷ []) (filter p xs))
      | false ↦ append-nil (reverse (filter p xs))
    ]))

filter_swap : {A : Type 0} (p q : A → Bool) (xs : List A) → filter p (filter q xs) ≡ filter q (filter p xs)
filter_swap p q [] = refl
filter_swap {A} p q (x ∷ xs) =
    elim (p x) as (λ b. p x ≡ b → filter p (cond (q x) (x ∷ filter q xs) (filter q xs)) ≡ filter q (cond b (x ∷ filter p xs) (filter p xs))) [
      | true ↦ λ e. elim (q x) as (λ c. filter p (cond c (x ∷ filter q xs) (filter q xs)) ≡ cond c (x ∷ filter q (filter p xs)) (filter q (filter p xs))) [
        | true ↦ rw e (ap (λ (l : List A). x ∷ l) (filter_swap p q xs))
        | false ↦ filter_swap p q xs
      ]
      | false ↦ λ e. elim (q x) as (λ c. filter p (cond c (x ∷ filter q xs) (filter q xs)) ≡ filter q (filter p xs)) [
        | true ↦ rw e (filter_swap p q xs)
        | false ↦ filter_swap p q xs
      ]
    ] refl

-- those of one scope are one chain
abbrev is_of : ℕ → InstanceCell → Bool
is_of r e = eqb r (rank e.1.scope)

filter_none : (p : InstanceCell → Bool) (xs : List InstanceCell) → ((x : InstanceCell) → IsMember x xs → p x ≡ false) → filter p xs ≡ []
filter_none p [] h = refl
filter_none p (x ∷ xs) h = rw (h x (inl refl)) (filter_none p xs (λ y g. h y (inr g)))

filter_whole : (p : InstanceCell → Bool) (xs : List InstanceCell) → ((x : InstanceCell) → IsMember x xs → p x ≡ true) → filter p xs ≡ xs
filter_whole p [] h = refl
filter_whole p (x ∷ xs) h = rw (h x (inl refl)) (ap (λ (l : List InstanceCell). x ∷ l) (filter_whole p xs (λ y g. h y (inr g))))

module _ (chains : ℕ → List InstanceCell) (good : Good chains) where
  others_out : (r n : ℕ) → n ≤ scope_count → n ≤ r → filter (is_of r) (chains_below chains n) ≡ []
  others_out r zero few le = refl
  others_out r (suc m) few le =
      filter-append (is_of r) (chains m) (chains_below chains m)
      ∙ (ap (λ (l : List InstanceCell). l ++ filter (is_of r) (chains_below chains m)) (filter_none (is_of r) (chains m) (λ x h. ne_eqb r (rank x.1.scope) (λ q. (let k = good.ranks m x (omega (arith, few)) h in omega (arith, k, q, le)))))
      ∙ others_out r m (omega (arith, few)) (omega (arith, le)))

  of_chain : (r n : ℕ) → n ≤ scope_count → r < n → filter (is_of r) (chains_below chains n) ≡ chains r
  of_chain r zero few lt = absurd (omega (arith, lt))
  of_chain r (suc m) few lt =
      filter-append (is_of r) (chains m) (chains_below chains m)
      ∙ elim (cases_eq r m) [
        | inl q ↦ ap (λ (l : List InstanceCell). l ++ filter (is_of r) (chains_below chains m)) (filter_whole (is_of r) (chains m) (λ x h. eq-eqb r (rank x.1.scope) (q ∙ sym (good.ranks m x (omega (arith, few)) h))))
            ∙ (ap (λ (l : List InstanceCell). chains m ++ l) (others_out r m (omega (arith, few)) (omega (arith, q))) ∙ (append-nil (chains m) ∙ ap chains (sym q)))
        | inr ne ↦ ap (λ (l : List InstanceCell). l ++ filter (is_of r) (chains_below chains m)) (filter_none (is_of r) (chains m) (λ x h. ne_eqb r (rank x.1.scope) (λ q. ne (q ∙ good.ranks m x (omega (arith, few)) h))))
            ∙ of_chain r m (omega (arith, few)) (omega (arith, lt, ne))
      ]

  merged_chain : (r : ℕ) → r < scope_count → filter (is_of r) (by_order (chains_below chains scope_count)) ≡ chains r
  merged_chain r lt = filter_by_order (is_of r) (chains_below chains scope_count) ∙ (ap by_order (of_chain r scope_count (omega arith) lt) ∙ by_order_same (chains r) (good.rising r lt))

resting_is : (roots : List ℕ) (xs : List InstanceCell) → resting_ids roots xs ≡ map id_of (filter (λ (e : InstanceCell). rests_any roots e.1) xs)
resting_is roots [] = refl
resting_is roots (x ∷ xs) =
    elim (rests_any roots x.1) as (λ b. cond b (id_of x ∷ []) [] ++ resting_ids roots xs ≡ map id_of (cond b (x ∷ filter (λ (e : InstanceCell). rests_any roots e.1) xs) (filter (λ (e : InstanceCell). rests_any roots e.1) xs))) [
      | true ↦ ap (λ (l : List LiveId). id_of x ∷ l) (resting_is roots xs)
      | false ↦ resting_is roots xs
    ]

pub going_numbers : (chains : ℕ → List InstanceCell) (good : Good chains) (roots : List ℕ) (q : Instance ℕ → Bool) → ((i : Instance ℕ) → rests_any roots i ≡ q i) → (n : ℕ) → n ≤ scope_count
    → map id_order (going_below roots chains n) ≡ instance_numbers (below_rank n (filter q (map instance_of (by_order (chains_below chains scope_count)))))
going_numbers chains good roots q same zero few = refl
going_numbers chains good roots q same (suc r) few =
    map-append id_order (reverse (resting_ids roots (chains r))) (going_below roots chains r)
    ∙ (ap (λ (l : List ℕ). l ++ map id_order (going_below roots chains r)) here
    ∙ (ap (λ (l : List ℕ). instance_numbers (of_scope r set) ++ l) (going_numbers chains good roots q same r (omega (arith, few)))
    ∙ sym (map-append instance_number (of_scope r set) (below_rank r set)))) where
      all : List InstanceCell
      all = by_order (chains_below chains scope_count)

      set : List (Instance ℕ)
      set = filter q (map instance_of all)

      test : InstanceCell → Bool
      test = λ (e : InstanceCell). q e.1

      scope : of_scope r set ≡ map instance_of (reverse (filter test (chains r)))
      scope =
          ap (λ (l : List (Instance ℕ)). filter (λ (i : Instance ℕ). eqb r (rank i.scope)) (reverse l)) (filter_map instance_of q all)
          ∙ (ap (filter (λ (i : Instance ℕ). eqb r (rank i.scope))) (sym (map_reverse instance_of (filter test all)))
          ∙ (filter_map instance_of (λ (i : Instance ℕ). eqb r (rank i.scope)) (reverse (filter test all))
          ∙ ap (map instance_of) (filter_reverse (is_of r) (filter test all)
          ∙ ap reverse (filter_swap (is_of r) test all ∙ ap (filter test) (merged_chain chains good r (omega (arith, few)))))))

      here : map id_order (reverse (resting_ids roots (chains r))) ≡ instance_numbers (of_scope r set)
      here =
          ap (λ (l : List LiveId). map id_order (reverse l)) (resting_is roots (chains r) ∙ ap (map id_of) (filter_agree (λ (e : InstanceCell). rests_any roots e.1) test (λ e. same e.1) (chains r)))
          ∙ (ap (map id_order) (sym (map_reverse id_of (filter test (chains r)))) ∙ (id_numbers (reverse (filter test (chains r))) ∙ ap instance_numbers (sym scope)))

any_map : {A B : Type 0} (f : A → B) (p : B → Bool) (xs : List A) → list_any p (map f xs) ≡ list_any (λ x. p (f x)) xs
any_map f p [] = refl
any_map f p (x ∷ xs) = ap (λ b. p (f x) || b) (any_map f p xs)

any_off : (chain : List ℕ) (i : Instance ℕ) (xs : List InstanceCell) → list_any (λ n. rests_on n i) (off_orders chain xs) ≡ list_any (λ (e : InstanceCell). is_off chain e.1 && rests_on e.1.order i) xs
any_off chain i [] = refl
any_off chain i (x ∷ xs) =
    elim (is_off chain x.1) as (λ b. list_any (λ n. rests_on n i) (cond b (x.1.order ∷ []) [] ++ off_orders chain xs) ≡ ((b && rests_on x.1.order i) || list_any (λ (e : InstanceCell). is_off chain e.1 && rests_on e.1.order i) xs)) [
      | true ↦ ap (λ b. rests_on x.1.order i || b) (any_off chain i xs)
      | false ↦ any_off chain i xs
    ]

or_false : (b : Bool) → (b || false) ≡ b
or_false true = refl
or_false false = refl

-- of lists with the same numbers one holds of any of both
any_same : (p : ℕ → Bool) (xs ys : List ℕ) → ((n : ℕ) → among n xs ≡ among n ys) → list_any p xs ≡ list_any p ys
any_same p xs ys h = same_truth (list_any p xs) (list_any p ys) (λ g. here xs ys h g) (λ g. here ys xs (λ n. sym (h n)) g) where
  here : (xs ys : List ℕ) → ((n : ℕ) → among n xs ≡ among n ys) → list_any p xs ≡ true → list_any p ys ≡ true
  here xs ys h g = let m = list_any-In p xs g in In-list_any p m.0 ys (among-In m.0 ys (sym (h m.0) ∙ In-among m.0 xs m.1)) m.2

-- it is one of these numbers, or depends on one
rests_parts : (roots : List ℕ) (i : Instance ℕ) → (among i.order roots || list_any (λ n. among n i.bases) roots) ≡ rests_any roots i
rests_parts [] i = refl
rests_parts (r ∷ roots) i =
    turned (eqb r i.order) (among i.order roots) (among r i.bases) (list_any (λ n. among n i.bases) roots) ∙ ap (λ (b : Bool). (eqb r i.order || among r i.bases) || b) (rests_parts roots i) where
      turned : (a b c d : Bool) → ((a || b) || (c || d)) ≡ ((a || c) || (b || d))
      turned true b c d = refl
      turned false true true d = refl
      turned false true false d = refl
      turned false false c d = refl

pub rests_itself : (roots : List ℕ) (i : Instance ℕ) → among i.order roots ≡ true → true ≡ rests_any roots i
rests_itself roots i h = sym (ap (λ (b : Bool). b || list_any (λ n. among n i.bases) roots) h) ∙ rests_parts roots i

pub rests_below : (roots : List ℕ) (i : Instance ℕ) (b : Bool) → among i.order roots ≡ false → b ≡ list_any (λ n. among n i.bases) roots → b ≡ rests_any roots i
rests_below roots i b h e = e ∙ (sym (ap (λ (c : Bool). c || list_any (λ n. among n i.bases) roots) h) ∙ rests_parts roots i)

-- what goes down is what rests on one of the roots
pub roots_same : (which : Dying) (xs : List InstanceCell) (i : Instance ℕ) → rests_any (roots_of which xs) i ≡ dies which (map instance_of (by_order xs)) i
roots_same (Dependents id) xs i = or_false (rests_on id.order i)
roots_same (NotOn chain) xs i =
    any_off chain.now i xs
    ∙ (sym (any_by_order (λ (e : InstanceCell). is_off chain.now e.1 && rests_on e.1.order i) xs)
    ∙ sym (any_map instance_of (λ (g : Instance ℕ). is_off chain.now g && rests_on g.order i) (by_order xs)))

pub down_numbers : (chains : ℕ → List InstanceCell) → Good chains → (which : Dying)
    → map id_order (going_below (joined (roots_of which (chains_below chains scope_count)) []) chains scope_count) ≡ instance_numbers (down_order (dying which (map instance_of (by_order (chains_below chains scope_count)))))
down_numbers chains good which =
    let all = chains_below chains scope_count in
    going_numbers chains good (joined (roots_of which all) []) (dies which (map instance_of (by_order all)))
    (λ i. any_same (λ n. rests_on n i) (joined (roots_of which all) []) (roots_of which all) (λ n. among_joined n (roots_of which all) [] ∙ or_false (among n (roots_of which all))) ∙ roots_same which all i) scope_count (omega arith)

-- each is live
In-resting : (roots : List ℕ) (id : LiveId) (xs : List InstanceCell) → IsMember id (resting_ids roots xs) → (e : InstanceCell) × IsMember e xs × (id ≡ id_of e)
In-resting roots id [] h = absurd h
In-resting roots id (x ∷ xs) h =
    elim (rests_any roots x.1) as (λ b. IsMember id (cond b (id_of x ∷ []) [] ++ resting_ids roots xs) → (e : InstanceCell) × IsMember e (x ∷ xs) × (id ≡ id_of e)) [
      | true ↦ λ g. elim g [ inl q ↦ (x, inl refl, q) | inr t ↦ (let u = In-resting roots id xs t in (u.0, inr u.1, u.2)) ]
      | false ↦ λ g. (let u = In-resting roots id xs g in (u.0, inr u.1, u.2))
    ] h

pub In-going : (roots : List ℕ) (chains : ℕ → List InstanceCell) (n : ℕ) (id : LiveId) → IsMember id (going_below roots chains n) → (e : InstanceCell) × IsMember e (chains_below chains n) × (id ≡ id_of e)
In-going roots chains zero id h = absurd h
In-going roots chains (suc r) id h = elim (In-append id (reverse (resting_ids roots (chains r))) (going_below roots chains r) h) [
  | inl l ↦ (let u = In-resting roots id (chains r) (In-reverse id (resting_ids roots (chains r)) l) in (u.0, below-In chains (suc r) r u.0 (omega arith) u.1, u.2))
  | inr t ↦ (let u = In-going roots chains r id t in (u.0, below_more chains r u.0 u.1, u.2))
] where
  below_more : (chains : ℕ → List InstanceCell) (r : ℕ) (e : InstanceCell) → IsMember e (chains_below chains r) → IsMember e (chains_below chains (suc r))
  below_more chains r e h = In-right e (chains r) (chains_below chains r) h

-- each stands once
Apart-append : (xs ys : List LiveId) → Apart id_order xs → Apart id_order ys → ((x y : LiveId) → IsMember x xs → IsMember y ys → y.order ≢ x.order) → Apart id_order (xs ++ ys)
Apart-append [] ys a b cross = b
Apart-append (x ∷ xs) ys a b cross = (
  (λ y h. elim (In-append y xs ys h) [ inl l ↦ a.0 y l | inr r ↦ cross x y (inl refl) r ]),
  Apart-append xs ys a.1 b (λ u v g h. cross u v (inr g) h),
)

Apart-reverse : (xs : List LiveId) → Apart id_order xs → Apart id_order (reverse xs)
Apart-reverse [] a = tt
Apart-reverse (x ∷ xs) a =
    subst (λ (l : List LiveId). Apart id_order l) (sym (reverse-append (x ∷ []) xs))
    (Apart-append (reverse xs) (x ∷ []) (Apart-reverse xs a.1) ((λ y h. absurd h), tt) (λ u v g h. elim h [
      | inl e ↦ (λ q. a.0 u (In-reverse u xs g) (sym q ∙ ap id_order e))
      | inr z ↦ absurd z
    ]))

resting_apart : (roots : List ℕ) (xs : List InstanceCell) → Apart order_key xs → Apart id_order (resting_ids roots xs)
resting_apart roots [] a = tt
resting_apart roots (x ∷ xs) a =
    elim (rests_any roots x.1) as (λ b. Apart id_order (cond b (id_of x ∷ []) [] ++ resting_ids roots xs)) [
      | true ↦ ((λ y h. (let u = In-resting roots y xs h in λ q. a.0 u.0 u.1 (sym (ap id_order u.2) ∙ q))), resting_apart roots xs a.1)
      | false ↦ resting_apart roots xs a.1
    ]

apart_parts : (xs ys : List InstanceCell) → Apart order_key (xs ++ ys) → Apart order_key xs × Apart order_key ys × ((x y : InstanceCell) → IsMember x xs → IsMember y ys → order_key y ≢ order_key x)
apart_parts [] ys a = (tt, a, λ x y h. absurd h)
apart_parts (z ∷ xs) ys a =
    let p = apart_parts xs ys a.1 in (
      ((λ y h. a.0 y (In-left y xs ys h)), p.0),
      p.1,
      λ x y g h. elim g [
        | inl e ↦ (λ q. a.0 y (In-right y xs ys h) (q ∙ ap order_key e))
        | inr t ↦ p.2 x y t h
      ],
    )

pub going_apart : (roots : List ℕ) (chains : ℕ → List InstanceCell) (n : ℕ) → Apart order_key (chains_below chains n) → Apart id_order (going_below roots chains n)
going_apart roots chains zero a = tt
going_apart roots chains (suc r) a =
    let p = apart_parts (chains r) (chains_below chains r) a in
    Apart-append (reverse (resting_ids roots (chains r))) (going_below roots chains r) (Apart-reverse (resting_ids roots (chains r)) (resting_apart roots (chains r) p.0)) (going_apart roots chains r p.1)
    (λ x y g h. (let u = In-resting roots x (chains r) (In-reverse x (resting_ids roots (chains r)) g) in let v = In-going roots chains r y h in
    λ q. p.2 u.0 v.0 u.1 v.1 (sym (ap id_order v.2) ∙ (q ∙ ap id_order u.2))))
