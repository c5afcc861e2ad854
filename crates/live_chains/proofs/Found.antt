-- The instance of a definition on a node, and that of a name.
use Rattle.std.proofs.Common.{◌≡◌, ◌≢◌, ℕ, true, false, cond, List, [], ◌∷◌, ◌++◌, inl, inr, refl, sym, ap, ◌∙◌, eqb, eq-eqb, map, Option, Some, None}
use Rattle.std.proofs.lemmas.Bool.{ne_eqb}
use Rattle.std.specs.Option.{option_map}
use Rattle.session_types.specs.Members.{IsMember}
use Rattle.session_types.specs.Live.{is_at, find, instance_by_number, instance_number}
use Rattle.session_types.specs.declared.instance.Instance.{Instance}
use Rattle.session_types.proofs.Lists.{bool_cases, and_both, eqb_is}
use Rattle.live_chains.specs.Chained.{InstanceCell, instance_of, id_of, id_order, by_order, Apart, order_key, place_key, place_of}
use Rattle.live_chains.specs.Walked.{first_at}
use Rattle.live_chains.proofs.Sorted.{In-by_order, by_order-In, Apart-by_order}

pub In-map : {A B : Type 0} (f : A → B) (y : B) (xs : List A) → IsMember y (map f xs) → (x : A) × IsMember x xs × (y ≡ f x)
In-map f y [] h = absurd h
In-map f y (x ∷ xs) (inl e) = (x, inl refl, e)
In-map f y (x ∷ xs) (inr t) = let r = In-map f y xs t in (r.0, inr r.1, r.2)

pub map-In : {A B : Type 0} (f : A → B) (x : A) (xs : List A) → IsMember x xs → IsMember (f x) (map f xs)
map-In f x [] h = absurd h
map-In f x (y ∷ ys) (inl e) = inl (ap f e)
map-In f x (y ∷ ys) (inr t) = inr (map-In f x ys t)

-- a number names one instance
pub numbered_in : (e : InstanceCell) (xs : List InstanceCell) → IsMember e xs → Apart order_key xs → instance_by_number e.1.order (map instance_of xs) ≡ Some e.1
numbered_in e [] h a = absurd h
numbered_in e (x ∷ xs) (inl q) a =
    let k : e.1 ≡ x.1 = ap instance_of q in
    rw (eq-eqb e.1.order x.1.order (ap instance_number k)) (ap (λ (i : Instance ℕ). Some i) (sym k))
numbered_in e (x ∷ xs) (inr t) a = rw (ne_eqb e.1.order x.1.order (a.0 e t)) (numbered_in e xs t a.1)

at_place : (d node : ℕ) (i : Instance ℕ) → is_at d node i ≡ true → place_of i ≡ (d, node)
at_place d node i h =
    let b = and_both (eqb d i.def) (eqb node i.node) h in
    let p : d ≡ i.def = eqb_is d i.def b.0 in let q : node ≡ i.node = eqb_is node i.node b.1 in
    ap (λ (n : ℕ). (n, i.node)) (sym p) ∙ ap (λ (n : ℕ). (d, n)) (sym q)

-- no two have one definition and one node
find_at : (d node : ℕ) (e : InstanceCell) (xs : List InstanceCell) → IsMember e xs → is_at d node e.1 ≡ true → Apart place_key xs → find d node (map instance_of xs) ≡ Some e.1
find_at d node e [] h k a = absurd h
find_at d node e (x ∷ xs) (inl q) k a = let i : e.1 ≡ x.1 = ap instance_of q in rw (sym (ap (is_at d node) i) ∙ k) (ap (λ (i : Instance ℕ). Some i) (sym i))
find_at d node e (x ∷ xs) (inr t) k a = elim (bool_cases (is_at d node x.1)) [
  | inl at ↦ absurd (a.0 e t (at_place d node e.1 k ∙ sym (at_place d node x.1 at)))
  | inr off ↦ rw off (find_at d node e xs t k a.1)
]

find_none : (d node : ℕ) (xs : List InstanceCell) → ((x : InstanceCell) → IsMember x xs → is_at d node x.1 ≡ false) → find d node (map instance_of xs) ≡ None
find_none d node [] h = refl
find_none d node (x ∷ xs) h = rw (h x (inl refl)) (find_none d node xs (λ y g. h y (inr g)))

first_none : (d node : ℕ) (xs : List InstanceCell) → first_at d node xs ≡ None → (x : InstanceCell) → IsMember x xs → is_at d node x.1 ≡ false
first_none d node [] e x h = absurd h
first_none d node (y ∷ ys) e x h = elim (bool_cases (is_at d node y.1)) [
  | inl at ↦ absurd (let s : Some y ≡ None = sym (ap (λ b. cond b (Some y) (first_at d node ys)) at) ∙ e in cc)
  | inr off ↦ elim h [
    | inl q ↦ ap (λ (z : InstanceCell). is_at d node z.1) q ∙ off
    | inr t ↦ first_none d node ys (sym (ap (λ b. cond b (Some y) (first_at d node ys)) off) ∙ e) x t
  ]
]

pub first_some : (d node : ℕ) (xs : List InstanceCell) (e : InstanceCell) → first_at d node xs ≡ Some e → IsMember e xs × (is_at d node e.1 ≡ true)
first_some d node [] e h = absurd cc
first_some d node (y ∷ ys) e h = elim (bool_cases (is_at d node y.1)) [
  | inl at ↦ (let s : Some y ≡ Some e = sym (ap (λ b. cond b (Some y) (first_at d node ys)) at) ∙ h in
      let q : y ≡ e = same s in (inl (sym q), ap (λ (z : InstanceCell). is_at d node z.1) (sym q) ∙ at))
  | inr off ↦ (let t = first_some d node ys e (sym (ap (λ b. cond b (Some y) (first_at d node ys)) off) ∙ h) in (inr t.0, t.1))
] where
  same : Some y ≡ Some e → y ≡ e
  same s = cc

pub first_front : (d node : ℕ) (xs ys : List InstanceCell) (e : InstanceCell) → first_at d node xs ≡ Some e → first_at d node (xs ++ ys) ≡ Some e
first_front d node [] ys e h = absurd cc
first_front d node (x ∷ xs) ys e h =
    elim (is_at d node x.1) as (λ b. cond b (Some x) (first_at d node xs) ≡ Some e → cond b (Some x) (first_at d node (xs ++ ys)) ≡ Some e) [
      | true ↦ λ g. g
      | false ↦ λ g. first_front d node xs ys e g
    ] h

pub first_back : (d node : ℕ) (xs ys : List InstanceCell) → first_at d node xs ≡ None → first_at d node (xs ++ ys) ≡ first_at d node ys
first_back d node [] ys h = refl
first_back d node (x ∷ xs) ys h =
    elim (is_at d node x.1) as (λ b. cond b (Some x) (first_at d node xs) ≡ None → cond b (Some x) (first_at d node (xs ++ ys)) ≡ first_at d node ys) [
      | true ↦ λ g. absurd cc
      | false ↦ λ g. first_back d node xs ys g
    ] h

-- what is found among the chains is what the list has
pub find_merged : (d node : ℕ) (xs : List InstanceCell) → Apart place_key xs → option_map instance_of (first_at d node xs) ≡ find d node (map instance_of (by_order xs))
find_merged d node xs a = pick (first_at d node xs) refl where
  pick : (o : Option InstanceCell) → first_at d node xs ≡ o → option_map instance_of o ≡ find d node (map instance_of (by_order xs))
  pick None e = sym (find_none d node (by_order xs) (λ x h. first_none d node xs e x (In-by_order x xs h)))
  pick (Some x) e = let s = first_some d node xs x e in sym (find_at d node x (by_order xs) (by_order-In x xs s.0) s.1 (Apart-by_order place_key xs a))

-- none is found where no live one has that place
pub find_place : (e : InstanceCell) (xs : List InstanceCell) → find e.1.def e.1.node (map instance_of xs) ≡ None → (x : InstanceCell) → IsMember x xs → place_key x ≢ place_key e
find_place e [] h x g q = absurd g
find_place e (y ∷ ys) h x g q = elim (bool_cases (is_at e.1.def e.1.node y.1)) [
  | inl at ↦ absurd (let s : Some y.1 ≡ None = sym (ap (λ b. cond b (Some y.1) (find e.1.def e.1.node (map instance_of ys))) at) ∙ h in cc)
  | inr off ↦ elim g [
    | inl k ↦ absurd (let t : true ≡ false = sym (is_there y.1 (sym (ap place_key k) ∙ q)) ∙ off in cc)
    | inr t ↦ find_place e ys (sym (ap (λ b. cond b (Some y.1) (find e.1.def e.1.node (map instance_of ys))) off) ∙ h) x t q
  ]
] where
  is_there : (i : Instance ℕ) → place_of i ≡ (e.1.def, e.1.node) → is_at e.1.def e.1.node i ≡ true
  is_there i k = rw (eq-eqb e.1.def i.def (sym (ap (λ p. p.0) k)), eq-eqb e.1.node i.node (sym (ap (λ p. p.1) k))) refl

pub id_numbers : (xs : List InstanceCell) → map id_order (map id_of xs) ≡ map instance_number (map instance_of xs)
id_numbers [] = refl
id_numbers (x ∷ xs) = ap (λ (l : List ℕ). x.1.order ∷ l) (id_numbers xs)

pub found_number : (o : Option InstanceCell) → option_map id_order (option_map id_of o) ≡ option_map instance_number (option_map instance_of o)
found_number None = refl
found_number (Some e) = refl

pub first_here : (d node : ℕ) (e : InstanceCell) (es : List InstanceCell) → is_at d node e.1 ≡ true → first_at d node (e ∷ es) ≡ Some e
first_here d node e es h = rw h refl

pub first_there : (d node : ℕ) (e : InstanceCell) (es : List InstanceCell) → is_at d node e.1 ≡ false → first_at d node (e ∷ es) ≡ first_at d node es
first_there d node e es h = rw h refl
