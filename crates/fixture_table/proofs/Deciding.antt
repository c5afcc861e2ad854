-- Whether a definition is reached from itself can be decided, so a closure or a fault there always is.
use Rattle.std.proofs.Common.{◌≡◌, ℕ, zero, suc, ◌+◌, ◌<◌, ◌≤◌, ◌⊎◌, inl, inr, refl, ap, sym, subst, ◌∙◌, Bool, true, false, cond, not, List, [], ◌∷◌, ◌++◌, length, arith, Option, None, Some, nat_eq, eq-eqb}
use Rattle.std.specs.List.{filter, flat_map}
use Rattle.std.proofs.lemmas.Bool.{cases_eq, cases_lt, ne_eqb}
use Rattle.fixture_table.specs.declared.types.CollectionNode.{CollectionNode}
use Rattle.fixture_table.specs.declared.types.FixtureDef.{FixtureDef}
use Rattle.fixture_table.specs.declared.fault.FixtureFault.{FixtureFault}
use Rattle.fixture_table.specs.declared.fault.FixtureFault.TheVariants.{Recursive, ScopeMismatch, Unknown}
use Rattle.fixture_table.specs.declared.entry.Entry.{Entry}
use Rattle.fixture_table.specs.declared.entry.Entry.TheVariants.{Definition, Missing}
use Rattle.fixture_table.specs.Closing.{Grown, entry_at, first_entries}
use Rattle.fixture_table.specs.Faults.{IsFirstFault, HasFault, IsClosure, IsFault, IsRecursive, IsSoundEntry, Once, RequestPath, SoundTo, asks_in_vain, by_scope, definitions_of, first_narrower, requests}
use Rattle.fixture_table.specs.Nearest.{def_at}
use Rattle.fixture_table.proofs.Ends.{ends, grown_one, requests_low}
use Rattle.fixture_table.proofs.Reached.{complete, reaches_more}
use Rattle.session_types.proofs.Lists.{In-among, In-append, In-filter, In-left, In-right, In-with_number, In-with_numbers, among-In, bool_cases, with_number-In, with_numbers-In}
use Rattle.session_types.specs.Members.{IsMember}
use Rattle.session_types.specs.Numbers.{among, with_number, with_numbers}

-- LISTS OF NUMBERS, EACH ONCE

abbrev Single : List ℕ → Type 0
Single [] = Unit {0}
Single (x ∷ xs) = (IsMember x xs → ⊥) × Single xs

single_push : (xs : List ℕ) (n : ℕ) → Single xs → (IsMember n xs → ⊥) → Single (xs ++ n ∷ [])
single_push [] n s out = ((λ m. absurd m), tt)
single_push (x ∷ xs) n s out = (
  (λ m. elim (In-append x xs (n ∷ []) m) [ inl l ↦ s.0 l | inr r ↦ elim r [ inl e ↦ out (inl (sym e)) | inr z ↦ absurd z ] ]),
  single_push xs n s.1 (λ m. out (inr m)),
)

single_with : (n : ℕ) (xs : List ℕ) → Single xs → Single (with_number n xs)
single_with n xs s = elim (among n xs) as (λ b. among n xs ≡ b → Single (cond b xs (xs ++ n ∷ []))) [
  | true ↦ λ e. s
  | false ↦ λ e. single_push xs n s (λ m. (let z : true ≡ false = sym (In-among n xs m) ∙ e in cc))
] refl

single_all : (ns xs : List ℕ) → Single xs → Single (with_numbers ns xs)
single_all [] xs s = s
single_all (n ∷ ns) xs s = single_all ns (with_number n xs) (single_with n xs s)

with_longer : (n : ℕ) (xs : List ℕ) → length xs ≤ length (with_number n xs)
with_longer n xs = elim (among n xs) as (λ b. length xs ≤ length (cond b xs (xs ++ n ∷ []))) [ true ↦ omega arith | false ↦ push_length xs n ]
  where
    push_length : (ys : List ℕ) (m : ℕ) → length ys ≤ length (ys ++ m ∷ [])
    push_length [] m = omega arith
    push_length (y ∷ ys) m = (let e = push_length ys m in omega (arith, e))

all_longer : (ns xs : List ℕ) → length xs ≤ length (with_numbers ns xs)
all_longer [] xs = omega arith
all_longer (n ∷ ns) xs = (let a = with_longer n xs in let b = all_longer ns (with_number n xs) in omega (arith, a, b))

-- all are there already, or the list becomes longer
there_or_longer : (ns xs : List ℕ) → (((n : ℕ) → IsMember n ns → IsMember n xs) × (with_numbers ns xs ≡ xs)) ⊎ (length xs < length (with_numbers ns xs))
there_or_longer [] xs = inl ((λ n m. absurd m), refl)
there_or_longer (n ∷ ns) xs = elim (among n xs) as (λ b. among n xs ≡ b → (((k : ℕ) → IsMember k (n ∷ ns) → IsMember k xs) × (with_numbers ns (cond b xs (xs ++ n ∷ [])) ≡ xs)) ⊎ (length xs < length (with_numbers ns (cond b xs (xs ++ n ∷ []))))) [
  | true ↦ λ e. elim (there_or_longer ns xs) [
    | inl l ↦ inl ((λ k m. elim m [ inl q ↦ subst (λ (j : ℕ). IsMember j xs) (sym q) (among-In n xs e) | inr r ↦ l.0 k r ]), l.1)
    | inr r ↦ inr r
  ]
  | false ↦ λ e. (let a = push_longer xs n in let b = all_longer ns (xs ++ n ∷ []) in inr (omega (arith, a, b)))
] refl
  where
    push_longer : (ys : List ℕ) (m : ℕ) → suc (length ys) ≤ length (ys ++ m ∷ [])
    push_longer [] m = omega arith
    push_longer (y ∷ ys) m = (let e = push_longer ys m in omega (arith, e))

abbrev others : ℕ → List ℕ → List ℕ
others n xs = filter (λ x. not (nat_eq n x)) xs

others_same : (n : ℕ) (xs : List ℕ) → (IsMember n xs → ⊥) → others n xs ≡ xs
others_same n [] apart = refl
others_same n (x ∷ xs) apart = rw (ne_eqb n x (λ e. apart (inl e))) (ap (λ (l : List ℕ). x ∷ l) (others_same n xs (λ m. apart (inr m))))

others-In : (n y : ℕ) (xs : List ℕ) → IsMember y (others n xs) → IsMember y xs × (n ≡ y → ⊥)
others-In n y xs m =
    let f = In-filter (λ x. not (nat_eq n x)) y xs m in
    (f.0, λ e. (let z : nat_eq n y ≡ true = eq-eqb n y e in let v : false ≡ true = ap not (sym z) ∙ f.1 in cc))

others_single : (n : ℕ) (xs : List ℕ) → Single xs → Single (others n xs)
others_single n [] s = tt
others_single n (x ∷ xs) s =
    elim (nat_eq n x) as (λ b. Single (cond (not b) (x ∷ others n xs) (others n xs))) [
      | true ↦ others_single n xs s.1
      | false ↦ ((λ m. s.0 (others-In n x xs m).0), others_single n xs s.1)
    ]

one_less : (n : ℕ) (xs : List ℕ) → Single xs → length xs ≤ length (others n xs) + 1
one_less n [] s = omega arith
one_less n (x ∷ xs) s =
    elim (cases_eq n x) [
      | inl e ↦ (let q : others n xs ≡ xs = others_same n xs (λ m. s.0 (subst (λ (k : ℕ). IsMember k xs) e m)) in
          rw (eq-eqb n x e, q) (omega arith))
      | inr ne ↦ (let q = one_less n xs s.1 in rw (ne_eqb n x ne) (omega (arith, q)))
    ]

-- there are n numbers below n
few : (n : ℕ) (xs : List ℕ) → Single xs → ((x : ℕ) → IsMember x xs → x < n) → length xs ≤ n
few zero [] s low = omega arith
few zero (x ∷ xs) s low = (let l = low x (inl refl) in absurd (omega (arith, l)))
few (suc n) xs s low =
    let l = few n (others n xs) (others_single n xs s) (λ x m. (let q = others-In n x xs m in let a = low x q.0 in let ne = q.1 in omega (arith, a, ne))) in
    let o = one_less n xs s in omega (arith, l, o)

-- WHAT IS REACHED, IN ROUNDS

module _ (asks : ℕ → List ℕ) (most from : ℕ) (low : (d e : ℕ) → among e (asks d) ≡ true → e < most) where
  abbrev rounds : ℕ → List ℕ
  rounds zero = with_numbers (asks from) []
  rounds (suc n) = with_numbers (flat_map asks (rounds n)) (rounds n)

  abbrev Shut : List ℕ → Type 0
  Shut xs = (d e : ℕ) → IsMember d xs → IsMember e (asks d) → IsMember e xs

  In-flat : (e : ℕ) (xs : List ℕ) → IsMember e (flat_map asks xs) → (d : ℕ) × IsMember d xs × IsMember e (asks d)
  In-flat e [] m = absurd m
  In-flat e (x ∷ xs) m = elim (In-append e (asks x) (flat_map asks xs) m) [
    | inl l ↦ (x, inl refl, l)
    | inr r ↦ (let q = In-flat e xs r in (q.0, inr q.1, q.2))
  ]

  flat-In : (d e : ℕ) (xs : List ℕ) → IsMember d xs → IsMember e (asks d) → IsMember e (flat_map asks xs)
  flat-In d e [] m h = absurd m
  flat-In d e (x ∷ xs) (inl q) h = In-left e (asks x) (flat_map asks xs) (subst (λ (k : ℕ). IsMember e (asks k)) q h)
  flat-In d e (x ∷ xs) (inr m) h = In-right e (asks x) (flat_map asks xs) (flat-In d e xs m h)

  sound : (n e : ℕ) → IsMember e (rounds n) → RequestPath asks from e
  sound zero e m = elim (In-with_numbers e (asks from) [] m) [ inl l ↦ Once from e (In-among e (asks from) l) | inr z ↦ absurd z ]
  sound (suc n) e m = elim (In-with_numbers e (flat_map asks (rounds n)) (rounds n) m) [
    | inl l ↦ (let q = In-flat e (rounds n) l in reaches_more asks from q.0 e (sound n q.0 q.1) (In-among e (asks q.0) q.2))
    | inr r ↦ sound n e r
  ]

  first_in : (n e : ℕ) → IsMember e (asks from) → IsMember e (rounds n)
  first_in zero e m = with_numbers-In e (asks from) [] (inl m)
  first_in (suc n) e m = with_numbers-In e (flat_map asks (rounds n)) (rounds n) (inr (first_in n e m))

  single : (n : ℕ) → Single (rounds n)
  single zero = single_all (asks from) [] tt
  single (suc n) = single_all (flat_map asks (rounds n)) (rounds n) (single n)

  below : (n e : ℕ) → IsMember e (rounds n) → e < most
  below zero e m = elim (In-with_numbers e (asks from) [] m) [ inl l ↦ low from e (In-among e (asks from) l) | inr z ↦ absurd z ]
  below (suc n) e m = elim (In-with_numbers e (flat_map asks (rounds n)) (rounds n) m) [
    | inl l ↦ (let q = In-flat e (rounds n) l in low q.0 e (In-among e (asks q.0) q.2))
    | inr r ↦ below n e r
  ]

  shut_or_long : (n : ℕ) → Shut (rounds n) ⊎ (n ≤ length (rounds n))
  shut_or_long zero = inr (omega arith)
  shut_or_long (suc n) = elim (there_or_longer (flat_map asks (rounds n)) (rounds n)) [
    | inl l ↦ inl (subst Shut (sym l.1) (λ d e m h. l.0 e (flat-In d e (rounds n) m h)))
    | inr r ↦ elim (shut_or_long n) [
      | inl s ↦ (let none : (((k : ℕ) → IsMember k (flat_map asks (rounds n)) → IsMember k (rounds n))) = λ k m. (let q = In-flat k (rounds n) m in s q.0 k q.1 q.2) in
          absurd (no_longer (flat_map asks (rounds n)) (rounds n) none r))
      | inr long ↦ inr (omega (arith, long, r))
    ]
  ]
    where
      no_longer : (ns xs : List ℕ) → ((k : ℕ) → IsMember k ns → IsMember k xs) → length xs < length (with_numbers ns xs) → ⊥
      no_longer [] xs sub l = omega (arith, l)
      no_longer (k ∷ ns) xs sub l =
          let e : among k xs ≡ true = In-among k xs (sub k (inl refl)) in
          let same : with_number k xs ≡ xs = ap (λ (b : Bool). cond b xs (xs ++ k ∷ [])) e in
          no_longer ns xs (λ j m. sub j (inr m)) (subst (λ (ys : List ℕ). length xs < length (with_numbers ns ys)) same l)

  shut : Shut (rounds (suc most))
  shut = elim (shut_or_long (suc most)) [
    | inl s ↦ s
    | inr long ↦ (let f = few most (rounds (suc most)) (single (suc most)) (below (suc most)) in absurd (omega (arith, long, f)))
  ]

  pub decided : (e : ℕ) → RequestPath asks from e ⊎ (RequestPath asks from e → ⊥)
  decided e =
      let xs = rounds (suc most) in
      elim (bool_cases (among e xs)) [
        | inl there ↦ inl (sound (suc most) e (among-In e xs there))
        | inr no_there ↦ inr (λ r. (let h = complete asks xs (λ d x m k. In-among x xs (shut d x (among-In d xs m) (among-In x (asks d) k))) from e r (λ c k. In-among c xs (first_in (suc most) c (among-In c (asks from) k))) in
            let z : true ≡ false = sym h ∙ no_there in cc))
      ]

-- CLOSURE OR FAULT

module _ (nodes : List CollectionNode) (defs : List FixtureDef) (item : ℕ) (bound : List ℕ) where
  recursive : (d : ℕ) → IsRecursive nodes defs item bound d ⊎ (IsRecursive nodes defs item bound d → ⊥)
  recursive d = elim (decided (requests nodes defs item bound) (length defs) d (requests_low nodes defs item bound) d) [
    | inl r ↦ inl (inl r)
    | inr not_reached ↦ elim (bool_cases (asks_in_vain nodes defs item bound d)) [
      | inl v ↦ inl (inr v)
      | inr not_vain ↦ inr (λ x. elim x [ inl r ↦ not_reached r | inr v ↦ (let z : true ≡ false = sym v ∙ not_vain in cc) ])
    ]
  ]

  judged : (e : Entry) → IsSoundEntry nodes defs item bound e ⊎ ((fault : FixtureFault) × HasFault nodes defs item bound e fault)
  judged (Missing name) = inr (Unknown name, refl)
  judged (Definition d) = elim (recursive d) [
    | inl r ↦ inr (Recursive (def_at defs d).name, inl (r, refl))
    | inr none ↦ scoped (first_narrower nodes defs item bound d) refl none
  ]
    where
      scoped : (r : Option ℕ) → first_narrower nodes defs item bound d ≡ r → (IsRecursive nodes defs item bound d → ⊥) → IsSoundEntry nodes defs item bound (Definition d) ⊎ ((fault : FixtureFault) × HasFault nodes defs item bound (Definition d) fault)
      scoped None e none = inl (none, e)
      scoped (Some name) e none = inr (ScopeMismatch d name, inr (none, name, e, refl))

  all_judged : (es : List Entry) (n p : ℕ) → p + n ≡ length es → SoundTo nodes defs item bound es p → SoundTo nodes defs item bound es (length es) ⊎ ((fault : FixtureFault) × IsFirstFault nodes defs item bound es fault)
  all_judged es zero p e s = inl (let q : p ≡ length es = omega (arith, e) in subst (λ (k : ℕ). SoundTo nodes defs item bound es k) q s)
  all_judged es (suc n) p e s = elim (judged (entry_at es p)) [
    | inl fine ↦ all_judged es n (suc p) (omega (arith, e)) (λ q lt. elim (cases_eq q p) [
      | inl same ↦ subst (λ (k : ℕ). IsSoundEntry nodes defs item bound (entry_at es k)) (sym same) fine
      | inr ne ↦ s q (omega (arith, lt, ne))
    ])
    | inr bad ↦ inr (bad.0, record { place = p; within = omega (arith, e); sound = s; faulty = bad.1 })
  ]

  sound_or_faulty : (e : Entry) (fault : FixtureFault) → IsSoundEntry nodes defs item bound e → HasFault nodes defs item bound e fault → ⊥
  sound_or_faulty (Missing name) fault s f = s
  sound_or_faulty (Definition d) fault s (inl r) = s.0 r.0
  sound_or_faulty (Definition d) fault s (inr r) = (let z : Some r.1 ≡ None = sym r.2 ∙ s.1 in cc)

  one_fault_of : (e : Entry) (a b : FixtureFault) → HasFault nodes defs item bound e a → HasFault nodes defs item bound e b → a ≡ b
  one_fault_of (Missing name) a b f g = f ∙ sym g
  one_fault_of (Definition d) a b (inl f) (inl g) = f.1 ∙ sym g.1
  one_fault_of (Definition d) a b (inl f) (inr g) = absurd (g.0 f.0)
  one_fault_of (Definition d) a b (inr f) (inl g) = absurd (f.0 g.0)
  one_fault_of (Definition d) a b (inr f) (inr g) =
      let n : f.1 ≡ g.1 = same_name f.1 g.1 (sym f.2 ∙ g.2) in
      f.3 ∙ (ap (λ (k : ℕ). ScopeMismatch d k) n ∙ sym g.3)
    where
      same_name : (x y : ℕ) → Some x ≡ Some y → x ≡ y
      same_name x y e = cc

  first_one : (es : List Entry) (a b : FixtureFault) → IsFirstFault nodes defs item bound es a → IsFirstFault nodes defs item bound es b → a ≡ b
  first_one es a b f g = elim (cases_lt f.place g.place) [
    | inl less ↦ absurd (sound_or_faulty (entry_at es f.place) a (g.sound f.place less) f.faulty)
    | inr more ↦ elim (cases_lt g.place f.place) [
      | inl less ↦ absurd (sound_or_faulty (entry_at es g.place) b (f.sound g.place less) g.faulty)
      | inr same ↦ (let q : f.place ≡ g.place = omega (arith, more, same) in
          one_fault_of (entry_at es g.place) a b (subst (λ (k : ℕ). HasFault nodes defs item bound (entry_at es k) a) q f.faulty) g.faulty)
    ]
  ]

  module _ (uses args : List ℕ) where
    pub closure_or_fault : ((closure : List ℕ) × IsClosure nodes defs item bound uses args closure) ⊎ ((fault : FixtureFault) × IsFault nodes defs item bound uses args fault)
    closure_or_fault =
        let g = ends nodes defs item bound uses args in
        elim (all_judged g.0 (length g.0) 0 (omega arith) (λ p lt. absurd (omega (arith, lt)))) [
          | inl s ↦ inl (by_scope defs (definitions_of g.0), record { entries = g.0; grown = g.1; sound = s; sorted = refl })
          | inr f ↦ inr (f.0, record { entries = g.0; grown = g.1; first = f.1 })
        ]

    one_list : (a b : List Entry) → Grown nodes defs item bound (first_entries nodes defs item bound uses args) 0 a → Grown nodes defs item bound (first_entries nodes defs item bound uses args) 0 b → a ≡ b
    one_list a b g h = grown_one nodes defs item bound (first_entries nodes defs item bound uses args) 0 a b g h

    pub not_both : (closure : List ℕ) (fault : FixtureFault) → IsClosure nodes defs item bound uses args closure → IsFault nodes defs item bound uses args fault → ⊥
    not_both closure fault c f =
        let same = one_list c.entries f.entries c.grown f.grown in
        let s : SoundTo nodes defs item bound f.entries (length f.entries) = subst (λ (es : List Entry). SoundTo nodes defs item bound es (length es)) same c.sound in
        sound_or_faulty (entry_at f.entries f.first.place) fault (s f.first.place f.first.within) f.first.faulty

    pub one_closure : (a b : List ℕ) → IsClosure nodes defs item bound uses args a → IsClosure nodes defs item bound uses args b → a ≡ b
    one_closure a b c d = c.sorted ∙ (ap (λ (es : List Entry). by_scope defs (definitions_of es)) (one_list c.entries d.entries c.grown d.grown) ∙ sym d.sorted)

    pub one_fault : (a b : FixtureFault) → IsFault nodes defs item bound uses args a → IsFault nodes defs item bound uses args b → a ≡ b
    one_fault a b f g = first_one g.entries a b (subst (λ (es : List Entry). IsFirstFault nodes defs item bound es a) (one_list f.entries g.entries f.grown g.grown) f.first) g.first
