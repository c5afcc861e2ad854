-- What entries reach by places is what definitions reach by requests.
use Rattle.std.proofs.Common.{◌≡◌, ℕ, zero, suc, ◌<◌, ◌∙◌, inl, inr, ap, refl, sym, subst, Bool, true, false, List, [], ◌∷◌, ◌++◌, length, map, arith, nat_eq, eq-eqb}
use Rattle.std.proofs.lemmas.Bool.{cases_lt, or_cases, eqb-true}
use Rattle.std.proofs.Math.ListN.{get_or-eq_default}
use Rattle.fixture_table.specs.declared.types.CollectionNode.{CollectionNode}
use Rattle.fixture_table.specs.declared.types.FixtureDef.{FixtureDef}
use Rattle.fixture_table.specs.declared.entry.Entry.{Entry}
use Rattle.fixture_table.specs.declared.entry.Entry.TheVariants.{Definition, Missing}
use Rattle.fixture_table.specs.Closing.{requested_by, entry_at, has, same_entry}
use Rattle.fixture_table.specs.Faults.{Once, RequestPath, Then, definitions_of, requests}
use Rattle.fixture_table.specs.Index.{AreEntryRows}
use Rattle.fixture_table.specs.Marks.{Below, row_of}
use Rattle.fixture_table.proofs.Asked.{same_is, same_refl}
use Rattle.fixture_table.proofs.Closed.{Single, defs_has, one_at}
use Rattle.fixture_table.proofs.Reached.{or_right, or_true}
use Rattle.fixture_table.proofs.Settles.{has_defs}
use Rattle.session_types.specs.Numbers.{among}

-- a place of a row stands for its entry
among_has : (f : ℕ → Entry) (q : ℕ) (row : List ℕ) → among q row ≡ true → has (f q) (map f row) ≡ true
among_has f q [] h = absurd cc
among_has f q (x ∷ row) h = elim (or_cases (nat_eq x q) (among q row) h) [
  | inl e ↦ or_true (same_entry (f x) (f q)) (has (f q) (map f row)) (ap (λ (n : ℕ). same_entry (f n) (f q)) (eqb-true x q e) ∙ same_refl (f q))
  | inr g ↦ or_right (same_entry (f x) (f q)) (has (f q) (map f row)) (among_has f q row g)
]

-- an entry that a row stands for has a place in it
has_among : (f : ℕ → Entry) (e : Entry) (row : List ℕ) → has e (map f row) ≡ true → (q : ℕ) × (among q row ≡ true) × (f q ≡ e)
has_among f e [] h = absurd cc
has_among f e (x ∷ row) h = elim (or_cases (same_entry (f x) e) (has e (map f row)) h) [
  | inl s ↦ (x, or_true (nat_eq x x) (among x row) (eq-eqb x x refl), same_is (f x) e s)
  | inr g ↦ (let r = has_among f e row g in (r.0, or_right (nat_eq x r.0) (among r.0 row) r.1, r.2))
]

none_among : (q : ℕ) (row : List ℕ) (f : ℕ → Entry) → map f row ≡ [] → among q row ≡ true → ⊥
none_among q [] f e h = cc
none_among q (x ∷ row) f e h = cc

module _ (nodes : List CollectionNode) (defs : List FixtureDef) (item : ℕ) (bound : List ℕ) (es : List Entry) (single : Single es) (asks : List (List ℕ)) (are : AreEntryRows nodes defs item bound es asks) where
  pub below : (p : ℕ) → Below (row_of asks p) (length asks)
  below p q h = elim (cases_lt p (length es)) [
    | inl lt ↦ (let b = (are.rows p lt).below q h in let m = are.many in omega (arith, b, m))
    | inr past ↦ (let none : row_of asks p ≡ [] = get_or-eq_default asks [] {n = p} (let m = are.many in omega (arith, past, m)) in
        let z : among q [] ≡ true = subst (λ (l : List ℕ). among q l ≡ true) none h in cc)
  ]

  -- a step by places is a request
  step : (p q d e : ℕ) → p < length es → entry_at es p ≡ Definition d → entry_at es q ≡ Definition e → among q (row_of asks p) ≡ true → among e (requests nodes defs item bound d) ≡ true
  step p q d e lt at there h =
      let row = (are.rows p lt).same in
      let a : has (entry_at es q) (requested_by nodes defs item bound (entry_at es p)) ≡ true = subst (λ (l : List Entry). has (entry_at es q) l ≡ true) row (among_has (entry_at es) q (row_of asks p) h) in
      let b : has (Definition e) (requested_by nodes defs item bound (Definition d)) ≡ true = subst (λ (x : Entry). has (Definition e) (requested_by nodes defs item bound x) ≡ true) at (subst (λ (x : Entry). has x (requested_by nodes defs item bound (entry_at es p)) ≡ true) there a) in
      has_defs e (requested_by nodes defs item bound (Definition d)) b

  -- a name without a definition asks for nothing
  missing_ends : (c q n : ℕ) → c < length es → entry_at es c ≡ Missing n → RequestPath (row_of asks) c q → ⊥
  missing_ends c q n lt m r =
      let none : map (entry_at es) (row_of asks c) ≡ [] = (are.rows c lt).same ∙ ap (requested_by nodes defs item bound) m in
      elim r [
        | Once _ _ h ↦ none_among q (row_of asks c) (entry_at es) none h
        | Then _ b _ h s ↦ none_among b (row_of asks c) (entry_at es) none h
      ]

  pub out : (p q d e : ℕ) → p < length es → entry_at es p ≡ Definition d → entry_at es q ≡ Definition e → RequestPath (row_of asks) p q → RequestPath (requests nodes defs item bound) d e
  out p q d e lt at there (Once _ _ h) = Once d e (step p q d e lt at there h)
  out p q d e lt at there (Then _ c _ h r) =
      let low : c < length es = (are.rows p lt).below c h in
      pick (λ f is. out c q f e low is there r) (entry_at es c) refl low
    where
      pick : ((f : ℕ) → entry_at es c ≡ Definition f → RequestPath (requests nodes defs item bound) f e) → (x : Entry) → entry_at es c ≡ x → c < length es → RequestPath (requests nodes defs item bound) d e
      pick again (Definition f) is l = Then d f e (step p c d f lt at is h) (again f is)
      pick again (Missing n) is l = absurd (missing_ends c q n l is r)

  found : (p d e : ℕ) → p < length es → entry_at es p ≡ Definition d → among e (requests nodes defs item bound d) ≡ true → (q : ℕ) × (q < length es) × (among q (row_of asks p) ≡ true) × (entry_at es q ≡ Definition e)
  found p d e lt at h =
      let a : has (Definition e) (requested_by nodes defs item bound (Definition d)) ≡ true = defs_has e (requested_by nodes defs item bound (Definition d)) h in
      let b : has (Definition e) (map (entry_at es) (row_of asks p)) ≡ true = subst (λ (l : List Entry). has (Definition e) l ≡ true) (sym ((are.rows p lt).same ∙ ap (requested_by nodes defs item bound) at)) a in
      let r = has_among (entry_at es) (Definition e) (row_of asks p) b in
      (r.0, (are.rows p lt).below r.0 r.1, r.1, r.2)

  pub back : (p q d e : ℕ) → p < length es → q < length es → entry_at es p ≡ Definition d → entry_at es q ≡ Definition e → RequestPath (requests nodes defs item bound) d e → RequestPath (row_of asks) p q
  back p q d e lt low at there (Once _ _ h) =
      let f = found p d e lt at h in
      Once p q (subst (λ (n : ℕ). among n (row_of asks p) ≡ true) (one_at es single f.0 q f.1 low (f.3 ∙ sym there)) f.2)
  back p q d e lt low at there (Then _ c _ h r) =
      let f = found p d c lt at h in
      Then p f.0 q f.2 (back f.0 q c e f.1 low f.3 there r)
