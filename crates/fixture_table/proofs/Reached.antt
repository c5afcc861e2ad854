-- Numbers that are marked, and what is reached.
use Rattle.std.proofs.Common.{◌≡◌, ℕ, ◌<◌, ◌≤◌, ◌+◌, inl, inr, refl, ap, sym, subst, ◌∙◌, Bool, true, false, List, [], ◌∷◌, ◌++◌, length, arith, suc, zero, get_or, set, take, nat_eq, ◌||◌, eq-eqb, get_or-set_same, get_or-set_other}
use Rattle.std.proofs.lemmas.Bool.{cases_eq, ne_eqb, or_cases, eqb-true, cases_lt}
use Rattle.std.proofs.Math.ListN.{get_or-eq_default}
use Rattle.session_types.specs.Numbers.{among}
use Rattle.std.proofs.lemmas.List.Folds.{list_any_more}
use Rattle.fixture_table.specs.Marks.{Marks, IsPrefixOf}
use Rattle.fixture_table.specs.Faults.{RequestPath, Once, Then}

pub or_true : (a b : Bool) → a ≡ true → (a || b) ≡ true
or_true true b e = refl
or_true false b e = absurd cc

pub or_right : (a b : Bool) → b ≡ true → (a || b) ≡ true
or_right true b e = refl
or_right false b e = e

or_assoc : (a b c : Bool) → ((a || b) || c) ≡ (a || (b || c))
or_assoc true b c = refl
or_assoc false b c = refl

or_false : (a : Bool) → (a || false) ≡ a
or_false true = refl
or_false false = refl

pub among_append : (e : ℕ) (xs ys : List ℕ) → among e (xs ++ ys) ≡ (among e xs || among e ys)
among_append e [] ys = refl
among_append e (x ∷ xs) ys = ap (λ (b : Bool). nat_eq x e || b) (among_append e xs ys) ∙ sym (or_assoc (nat_eq x e) (among e xs) (among e ys))

pub among_push : (e : ℕ) (xs : List ℕ) (x : ℕ) → among e (xs ++ x ∷ []) ≡ (among e xs || nat_eq x e)
among_push e xs x = among_append e xs (x ∷ []) ∙ ap (λ (b : Bool). among e xs || b) (or_false (nat_eq x e))

-- a number that is there already adds none
pub among_old : (e one : ℕ) (xs : List ℕ) → among one xs ≡ true → among e xs ≡ (among e xs || nat_eq one e)
among_old e one xs there = elim (cases_eq one e) [
  | inl s ↦ let h : among e xs ≡ true = subst (λ (n : ℕ). among n xs ≡ true) s there in h ∙ sym (or_true (among e xs) (nat_eq one e) h)
  | inr ne ↦ sym (ap (λ (b : Bool). among e xs || b) (ne_eqb one e ne) ∙ or_false (among e xs))
]

pub marks_push : (seen : List Bool) (xs : List ℕ) (one : ℕ) → one < length seen → Marks seen xs → Marks (set seen one true) (xs ++ one ∷ [])
marks_push seen xs one lt marks e = elim (cases_eq e one) [
  | inl s ↦ subst (λ (n : ℕ). get_or (set seen one true) n false ≡ among n (xs ++ one ∷ [])) (sym s)
      (get_or-set_same seen one true false lt ∙ sym (among_push one xs one ∙ or_right (among one xs) (nat_eq one one) (eq-eqb one one refl)))
  | inr ne ↦ get_or-set_other seen one e true false ne ∙ marks e ∙ sym (among_push e xs one ∙ ap (λ (b : Bool). among e xs || b) (ne_eqb one e (λ s. ne (sym s))) ∙ or_false (among e xs))
]

pub among_at : (xs : List ℕ) (p : ℕ) → p < length xs → among (get_or xs p 0) xs ≡ true
among_at [] p lt = absurd (omega arith)
among_at (x ∷ xs) zero lt = or_true (nat_eq x x) (among x xs) (eq-eqb x x refl)
among_at (x ∷ xs) (suc p) lt = or_right (nat_eq x (get_or xs p 0)) (among (get_or xs p 0) xs) (among_at xs p (omega arith))

-- a number of a list stands at a place of it
pub place_of : (e : ℕ) (xs : List ℕ) → among e xs ≡ true → (p : ℕ) × (p < length xs) × (get_or xs p 0 ≡ e)
place_of e [] h = absurd cc
place_of e (x ∷ xs) h = elim (or_cases (nat_eq x e) (among e xs) h) [
  | inl s ↦ (0, omega arith, eqb-true x e s)
  | inr r ↦ let g = place_of e xs r in (suc g.0, (let lt = g.1 in omega arith), g.2)
]

-- what is reached lies in a list that has the first requests, and all requests of what it has
pub complete : (requests : ℕ → List ℕ) (xs : List ℕ) → ((d e : ℕ) → among d xs ≡ true → among e (requests d) ≡ true → among e xs ≡ true)
    → (d e : ℕ) → RequestPath requests d e → ((c : ℕ) → among c (requests d) ≡ true → among c xs ≡ true) → among e xs ≡ true
complete requests xs closed d e (Once _ _ h) first = first e h
complete requests xs closed d e (Then _ c _ h r) first = complete requests xs closed c e r (λ b g. closed c b (first c h) g)

-- one request more
pub reaches_more : (requests : ℕ → List ℕ) (d c e : ℕ) → RequestPath requests d c → among e (requests c) ≡ true → RequestPath requests d e
reaches_more requests d c e (Once _ _ h) g = Then d c e h (Once c e g)
reaches_more requests d c e (Then _ b _ h r) g = Then d b e h (reaches_more requests b c e r g)

pub keeps_all : (xs ys zs : List ℕ) → IsPrefixOf xs ys → IsPrefixOf ys zs → IsPrefixOf xs zs
keeps_all xs ys zs a b = record { longer = omega (arith, a.longer, b.longer); same = λ p lt. b.same p (omega (arith, a.longer)) ∙ a.same p lt }

-- one more of the numbers to mark
pub members_more : (old next more : List ℕ) (i e : ℕ) (now : Bool) → i < length more → among e next ≡ (among e old || among e (take i more)) → now ≡ (among e next || nat_eq (get_or more i 0) e) → now ≡ (among e old || among e (take (i + 1) more))
members_more old next more i e now lt before after =
    after ∙ ap (λ (b : Bool). b || nat_eq (get_or more i 0) e) before ∙ or_assoc (among e old) (among e (take i more)) (nat_eq (get_or more i 0) e)
    ∙ ap (λ (b : Bool). among e old || b) (sym (list_any_more (λ y. nat_eq y e) more i 0 lt))

-- everything that is reached is listed, once all that is listed has been looked at
pub all_listed : (requests : ℕ → List ℕ) (reached : List ℕ) (from place : ℕ) → length reached ≤ place
    → ((e : ℕ) → among e (requests from) ≡ true → among e reached ≡ true)
    → ((p e : ℕ) → p < place → p < length reached → among e (requests (get_or reached p 0)) ≡ true → among e reached ≡ true)
    → (e : ℕ) → RequestPath requests from e → among e reached ≡ true
all_listed requests reached from place past first done e r =
    complete requests reached (λ d x hd hx. let p = place_of d reached hd in
    done p.0 x (let lt = p.1 in omega arith) p.1 (subst (λ (n : ℕ). among x (requests n) ≡ true) (sym p.2) hx)) from e r first

module _ (requests : ℕ → List ℕ) (from place at : ℕ) (old next : List ℕ) (members : (e : ℕ) → among e next ≡ (among e old || among e (requests at))) (keeps : IsPrefixOf old next) (lt : place < length old) (is : get_or old place 0 ≡ at) where
  pub sound_more : ((e : ℕ) → among e old ≡ true → RequestPath requests from e) → (e : ℕ) → among e next ≡ true → RequestPath requests from e
  sound_more sound e h = elim (or_cases (among e old) (among e (requests at)) (sym (members e) ∙ h)) [
    | inl g ↦ sound e g
    | inr g ↦ reaches_more requests from at e (sound at (subst (λ (n : ℕ). among n old ≡ true) is (among_at old place lt))) g
  ]

  pub first_more : ((e : ℕ) → among e (requests from) ≡ true → among e old ≡ true) → (e : ℕ) → among e (requests from) ≡ true → among e next ≡ true
  first_more first e h = members e ∙ or_true (among e old) (among e (requests at)) (first e h)

  pub done_more : ((p e : ℕ) → p < place → p < length old → among e (requests (get_or old p 0)) ≡ true → among e old ≡ true)
      → (p e : ℕ) → p < place + 1 → p < length next → among e (requests (get_or next p 0)) ≡ true → among e next ≡ true
  done_more done p e below there h =
      let within : p < length old = omega arith in
      let g : among e (requests (get_or old p 0)) ≡ true = subst (λ (n : ℕ). among e (requests n) ≡ true) (keeps.same p within) h in
      members e ∙ elim (cases_eq p place) [
        | inl s ↦ or_right (among e old) (among e (requests at)) (subst (λ (n : ℕ). among e (requests n) ≡ true) (ap (λ (n : ℕ). get_or old n 0) s ∙ is) g)
        | inr ne ↦ or_true (among e old) (among e (requests at)) (done p e (omega arith) within g)
      ]

-- a mark that is set is within the marks
pub marked_in : (seen : List Bool) (e : ℕ) → get_or seen e false ≡ true → e < length seen
marked_in seen e h = elim (cases_lt e (length seen)) [ inl lt ↦ lt | inr past ↦ absurd (let g = sym (get_or-eq_default seen false {n = e} past) ∙ h in cc) ]
