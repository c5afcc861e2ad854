-- The numbers of spans.
use Rattle.std.proofs.Common.{◌≡◌, ℕ, zero, suc, ◌<◌, ◌≤◌, Bool, true, false, cond, ◌||◌, ◌&&◌, List, [], ◌∷◌, ◌⊎◌, inl, inr, refl, sym, ap, ◌∙◌, eqb, eq-eqb, leb, arith, max}
use Rattle.std.proofs.lemmas.Bool.{and_right, cases_eq, cases_lt, le-leb, leb-true, lt-leb, ne_eqb}
use Rattle.std.specs.List.{list_any}
use Rattle.session_types.proofs.Lists.{In-among, In-list_any, among-In, and_both, both_and, list_any-In, or_cases, or_left, or_right}
use Rattle.session_types.specs.Members.{IsMember}
use Rattle.session_types.specs.Numbers.{above, among, joined, numbers_where}
use Rattle.session_types.specs.Spans.{AreJoined, in_span, in_spans, meet, meets_any, numbers_in, top}
use Rattle.session_types.specs.declared.bases.Span.{Span}

pub same_truth : (a b : Bool) → (a ≡ true → b ≡ true) → (b ≡ true → a ≡ true) → a ≡ b
same_truth true true f g = refl
same_truth true false f g = sym (f refl)
same_truth false true f g = g refl
same_truth false false f g = refl

max_parts : (a b k : ℕ) → max a b ≤ k → (a ≤ k) × (b ≤ k)
max_parts a b k h = (omega (arith, h), omega (arith, h))

-- numbers_where
where_same : (p q : ℕ → Bool) (n : ℕ) → ((k : ℕ) → p k ≡ q k) → numbers_where p n ≡ numbers_where q n
where_same p q zero h = refl
where_same p q (suc n) h =
    ap (λ (b : Bool). cond b (n ∷ numbers_where p n) (numbers_where p n)) (h n) ∙ ap (λ (l : List ℕ). cond (q n) (n ∷ l) l) (where_same p q n h)

where_low : (p : ℕ → Bool) (a b : ℕ) → a ≤ b → ((k : ℕ) → a ≤ k → p k ≡ false) → numbers_where p b ≡ numbers_where p a
where_low p a zero le none = (let e : zero ≡ a = omega (arith, le) in ap (numbers_where p) e)
where_low p a (suc b) le none =
    elim (cases_eq a (suc b)) [
      | inl e ↦ ap (numbers_where p) (sym e)
      | inr ne ↦ (let l : a ≤ b = omega (arith, le, ne) in ap (λ (c : Bool). cond c (b ∷ numbers_where p b) (numbers_where p b)) (none b l) ∙ where_low p a b l none)
    ]

where_is : (p q : ℕ → Bool) (a b : ℕ) → ((k : ℕ) → p k ≡ q k) → ((k : ℕ) → a ≤ k → p k ≡ false) → ((k : ℕ) → b ≤ k → q k ≡ false) → numbers_where p a ≡ numbers_where q b
where_is p q a b h none nothing =
    elim (cases_lt a b) [
      | inl lt ↦ sym (where_low p a b (omega (arith, lt)) none) ∙ where_same p q b h
      | inr le ↦ where_same p q a h ∙ where_low q b a le nothing
    ]

among_high : (k : ℕ) (p : ℕ → Bool) (n : ℕ) → n ≤ k → among k (numbers_where p n) ≡ false
among_high k p zero le = refl
among_high k p (suc n) le =
    elim (p n) as (λ b. among k (cond b (n ∷ numbers_where p n) (numbers_where p n)) ≡ false) [
      | true ↦ (let e : eqb n k ≡ false = ne_eqb n k (λ q. absurd (omega (arith, q, le))) in ap (λ (b : Bool). b || among k (numbers_where p n)) e ∙ among_high k p n (omega (arith, le)))
      | false ↦ among_high k p n (omega (arith, le))
    ]

among_low : (k : ℕ) (p : ℕ → Bool) (n : ℕ) → k < n → among k (numbers_where p n) ≡ p k
among_low k p zero lt = absurd (omega (arith, lt))
among_low k p (suc n) lt =
    elim (cases_eq n k) [
      | inl e ↦ elim (p n) as (λ b. p n ≡ b → among k (cond b (n ∷ numbers_where p n) (numbers_where p n)) ≡ p k) [
        | true ↦ λ q. ap (λ (b : Bool). b || among k (numbers_where p n)) (eq-eqb n k e) ∙ (sym q ∙ ap p e)
        | false ↦ λ q. among_high k p n (omega (arith, e)) ∙ (sym q ∙ ap p e)
      ] refl
      | inr ne ↦ elim (p n) as (λ b. among k (cond b (n ∷ numbers_where p n) (numbers_where p n)) ≡ p k) [
        | true ↦ ap (λ (b : Bool). b || among k (numbers_where p n)) (ne_eqb n k ne) ∙ among_low k p n (omega (arith, lt, ne))
        | false ↦ among_low k p n (omega (arith, lt, ne))
      ]
    ]

above_none : (k : ℕ) (xs : List ℕ) → above xs ≤ k → among k xs ≡ false
above_none k [] le = refl
above_none k (x ∷ xs) le =
    let h = max_parts (suc x) (above xs) k le in
    let l = h.0 in
    ap (λ (b : Bool). b || among k xs) (ne_eqb x k (λ q. absurd (omega (arith, q, l)))) ∙ above_none k xs h.1

top_none : (k : ℕ) (spans : List Span) → top spans ≤ k → in_spans k spans ≡ false
top_none k [] le = refl
top_none k (s ∷ spans) le =
    let h = max_parts (suc s.last) (top spans) k le in
    let l = h.0 in
    ap (λ (b : Bool). b || in_spans k spans) (and_right (leb s.first k) (leb k s.last) (lt-leb k s.last (omega (arith, l)))) ∙ top_none k spans h.1

-- what stands among the numbers of spans
pub among_spans : (k : ℕ) (spans : List Span) → among k (numbers_in spans) ≡ in_spans k spans
among_spans k spans =
    elim (cases_lt k (top spans)) [
      | inl lt ↦ among_low k (λ n. in_spans n spans) (top spans) lt
      | inr le ↦ among_high k (λ n. in_spans n spans) (top spans) le ∙ sym (top_none k spans le)
    ]

both_none : (xs ys : List ℕ) (k : ℕ) → max (above xs) (above ys) ≤ k → (among k xs || among k ys) ≡ false
both_none xs ys k le =
    let h = max_parts (above xs) (above ys) k le in
    ap (λ (b : Bool). b || among k ys) (above_none k xs h.0) ∙ above_none k ys h.1

-- what stands among the numbers of both
pub among_joined : (k : ℕ) (xs ys : List ℕ) → among k (joined xs ys) ≡ (among k xs || among k ys)
among_joined k xs ys =
    elim (cases_lt k (max (above xs) (above ys))) [
      | inl lt ↦ among_low k (λ n. among n xs || among n ys) (max (above xs) (above ys)) lt
      | inr le ↦ among_high k (λ n. among n xs || among n ys) (max (above xs) (above ys)) le ∙ sym (both_none xs ys k le)
    ]

pub In-joined : (k : ℕ) (xs ys : List ℕ) → IsMember k (joined xs ys) → IsMember k xs ⊎ IsMember k ys
In-joined k xs ys h =
    elim (or_cases (among k xs) (among k ys) (sym (among_joined k xs ys) ∙ In-among k (joined xs ys) h)) [ inl e ↦ inl (among-In k xs e) | inr e ↦ inr (among-In k ys e) ]

pub joined-In : (k : ℕ) (xs ys : List ℕ) → IsMember k xs ⊎ IsMember k ys → IsMember k (joined xs ys)
joined-In k xs ys (inl h) = among-In k (joined xs ys) (among_joined k xs ys ∙ or_left (among k xs) (among k ys) (In-among k xs h))
joined-In k xs ys (inr h) = among-In k (joined xs ys) (among_joined k xs ys ∙ or_right (among k xs) (among k ys) (In-among k ys h))

pub joined_as : (spans one other : List Span) (xs ys : List ℕ) → AreJoined spans one other → ((n : ℕ) → in_spans n one ≡ among n xs) → ((n : ℕ) → in_spans n other ≡ among n ys) → numbers_in spans ≡ joined xs ys
joined_as spans one other xs ys h f g =
    where_is (λ n. in_spans n spans) (λ n. among n xs || among n ys) (top spans) (max (above xs) (above ys))
    (λ k. h k ∙ (ap (λ (b : Bool). b || in_spans k other) (f k) ∙ ap (λ (b : Bool). among k xs || b) (g k)))
    (λ k le. top_none k spans le) (both_none xs ys)

or_false : (b : Bool) → b ≡ (b || false)
or_false true = refl
or_false false = refl

pub listed_as : (spans : List Span) (xs : List ℕ) → ((n : ℕ) → in_spans n spans ≡ among n xs) → numbers_in spans ≡ joined xs []
listed_as spans xs h = joined_as spans spans [] xs [] (λ n. or_false (in_spans n spans)) h (λ n. refl)

pub one_number : (n k : ℕ) → in_spans n (record { first = k; last = k } ∷ []) ≡ among n (k ∷ [])
one_number n k = ap (λ (b : Bool). b || false) (both n k) where
  both : (n k : ℕ) → (leb k n && leb n k) ≡ eqb k n
  both n k =
      elim (cases_eq k n) [
        | inl e ↦ ap (λ (b : Bool). b && leb n k) (le-leb k n (omega (arith, e))) ∙ (le-leb n k (omega (arith, e)) ∙ sym (eq-eqb k n e))
        | inr ne ↦ elim (cases_lt k n) [
          | inl lt ↦ and_right (leb k n) (leb n k) (lt-leb n k lt) ∙ sym (ne_eqb k n ne)
          | inr le ↦ ap (λ (b : Bool). b && leb n k) (lt-leb k n (omega (arith, le, ne))) ∙ sym (ne_eqb k n ne)
        ]
      ]

-- two spans that meet
pub record Meeting (spans others : List Span) : Type 0 where
  pub number : ℕ
  pub one : in_spans number spans ≡ true
  pub other : in_spans number others ≡ true

is_in : (n : ℕ) (s : Span) → s.first ≤ n → n ≤ s.last → in_span n s ≡ true
is_in n s f l = both_and (leb s.first n) (leb n s.last) (le-leb s.first n f) (le-leb n s.last l)

in_is : (n : ℕ) (s : Span) → in_span n s ≡ true → (s.first ≤ n) × (n ≤ s.last)
in_is n s h = (let g = and_both (leb s.first n) (leb n s.last) h in (leb-true s.first n g.0, leb-true n s.last g.1))

record Overlap (s t : Span) : Type 0 where
  one : s.first ≤ s.last
  other : t.first ≤ t.last
  low : s.first ≤ t.last
  high : t.first ≤ s.last

overlap_of : (s t : Span) → meet s t ≡ true → Overlap s t
overlap_of s t h =
    let a = and_both (leb s.first s.last) (leb t.first t.last && (leb s.first t.last && leb t.first s.last)) h in
    let b = and_both (leb t.first t.last) (leb s.first t.last && leb t.first s.last) a.1 in
    let c = and_both (leb s.first t.last) (leb t.first s.last) b.1 in
    record { one = leb-true s.first s.last a.0; other = leb-true t.first t.last b.0; low = leb-true s.first t.last c.0; high = leb-true t.first s.last c.1 }

meet_of : (s t : Span) → Overlap s t → meet s t ≡ true
meet_of s t o =
    both_and (leb s.first s.last) (leb t.first t.last && (leb s.first t.last && leb t.first s.last)) (le-leb s.first s.last o.one)
    (both_and (leb t.first t.last) (leb s.first t.last && leb t.first s.last) (le-leb t.first t.last o.other)
    (both_and (leb s.first t.last) (leb t.first s.last) (le-leb s.first t.last o.low) (le-leb t.first s.last o.high)))

meeting_of : (spans others : List Span) → list_any (meets_any spans) others ≡ true → Meeting spans others
meeting_of spans others h =
    let o = list_any-In (meets_any spans) others h in
    let s = list_any-In (λ x. meet x o.0) spans o.2 in
    let v = overlap_of s.0 o.0 s.2 in
    let one = v.one in let other = v.other in let low = v.low in let high = v.high in
    elim (cases_lt s.0.first o.0.first) [
      | inl lt ↦ record {
        number = o.0.first;
        one = In-list_any (in_span o.0.first) s.0 spans s.1 (is_in o.0.first s.0 (omega (arith, lt)) high);
        other = In-list_any (in_span o.0.first) o.0 others o.1 (is_in o.0.first o.0 (omega arith) other);
      }
      | inr le ↦ record {
        number = s.0.first;
        one = In-list_any (in_span s.0.first) s.0 spans s.1 (is_in s.0.first s.0 (omega arith) one);
        other = In-list_any (in_span s.0.first) o.0 others o.1 (is_in s.0.first o.0 le low);
      }
    ]

of_meeting : (spans others : List Span) → Meeting spans others → list_any (meets_any spans) others ≡ true
of_meeting spans others m =
    let s = list_any-In (in_span m.number) spans m.one in
    let o = list_any-In (in_span m.number) others m.other in
    let f = in_is m.number s.0 s.2 in
    let g = in_is m.number o.0 o.2 in
    let a = f.0 in let b = f.1 in let c = g.0 in let d = g.1 in
    In-list_any (meets_any spans) o.0 others o.1 (In-list_any (λ x. meet x o.0) s.0 spans s.1 (meet_of s.0 o.0 (record {
      one = omega (arith, a, b);
      other = omega (arith, c, d);
      low = omega (arith, a, d);
      high = omega (arith, c, b);
    })))

pub meets_is : (spans others : List Span) → list_any (meets_any spans) others ≡ list_any (λ n. among n (numbers_in spans)) (numbers_in others)
meets_is spans others =
    same_truth (list_any (meets_any spans) others) (list_any (λ n. among n (numbers_in spans)) (numbers_in others))
    (λ h. (let m = meeting_of spans others h in
    In-list_any (λ n. among n (numbers_in spans)) m.number (numbers_in others) (among-In m.number (numbers_in others) (among_spans m.number others ∙ m.other)) (among_spans m.number spans ∙ m.one)))
    (λ h. (let m = list_any-In (λ n. among n (numbers_in spans)) (numbers_in others) h in
    of_meeting spans others (record {
      number = m.0;
      one = sym (among_spans m.0 spans) ∙ m.2;
      other = sym (among_spans m.0 others) ∙ In-among m.0 (numbers_in others) m.1;
    })))
