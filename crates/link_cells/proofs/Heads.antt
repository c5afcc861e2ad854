-- The arena where heads are taken and given back, and where one list is put before another.
use Rattle.std.proofs.Common.{◌≡◌, ℕ, ◌<◌, ◌≤◌, ◌+◌, inl, inr, refl, ap, sym, subst, ◌∙◌, Bool, true, false, List, [], ◌∷◌, ◌++◌, length, arith, cond, Option, Some, None, is_some, get_or, set, get_or-set_same, get_or-set_other, zero, suc}
use Rattle.std.proofs.lemmas.Bool.{cases_eq, cases_Bool}
use Rattle.std.proofs.lemmas.List.{length-set}
use Rattle.std.proofs.lemmas.List.FromFn.{get_or-map-range_with_len}
use Rattle.link_cells.specs.Rings.{CellWords, count, total}
use Rattle.link_cells.specs.Arena.{IsArena, is_used, entries, list_if_used, lists_of, cells_of_head}
use Rattle.link_cells.proofs.Around.{count_append, count_same, count_here, count_more, total_one}
use Rattle.link_cells.proofs.Moves.{count_alone}
use Rattle.link_cells.proofs.Shown.{map_set, entries_cons, Full, found, row_is}

-- numbers below m that stand in a list, counted
total_count : (xs : List ℕ) (m : ℕ) → ((x : ℕ) → 0 < count x xs → x < m) → total (λ h. count h xs) m ≡ length xs
total_count [] m below = none m where
  none : (m : ℕ) → total (λ h. 0) m ≡ 0
  none zero = refl
  none (suc m) = omega (arith, none m)
total_count (x ∷ xs) m below =
    let one = total_one (λ h. count h xs) (λ h. count h (x ∷ xs)) x m (below x (count_here x xs)) (λ k ne. other k ne) in
    omega (arith, total_count xs m (λ y h. below y (omega (arith, count_more y x xs))), count_same x xs)
  where
    other : (k : ℕ) → (k ≡ x → ⊥) → count k (x ∷ xs) ≡ count k xs
    other k ne = omega (arith, count_alone k x ne)

total_bound : (f : ℕ → ℕ) (h m : ℕ) → h < m → ((k : ℕ) → k < m → f k ≤ 1) → f h ≡ 0 → total f m + 1 ≤ m
total_bound f h zero lt one none = absurd (omega arith)
total_bound f h (suc m) lt one none = elim (cases_eq h m) [
  | inl e ↦ omega (arith, most f m (λ k below. one k (omega arith)), subst (λ (n : ℕ). f n ≡ 0) e none)
  | inr ne ↦ omega (arith, one m (omega arith), total_bound f h m (omega arith) (λ k below. one k (omega arith)) none)
] where
  most : (f : ℕ → ℕ) (m : ℕ) → ((k : ℕ) → k < m → f k ≤ 1) → total f m ≤ m
  most f zero one = omega arith
  most f (suc m) one = omega (arith, one m (omega arith), most f m (λ k below. one k (omega arith)))

module _ {T : Type 0} (w : CellWords) (values : List (Option T)) (used : List Bool) (free : List ℕ) (room spare : ℕ) (A : IsArena w values used free room spare) where
  free_le : (h : ℕ) → h < length w.heads → count h free ≤ 1
  free_le h lt = elim (cases_eq h 0) [
    | inl e ↦ subst (λ (n : ℕ). count n free ≤ 1) (sym e) (elim (cases_eq (count 0 free) 0) [ inl z ↦ omega arith | inr some ↦ absurd (let f = A.free_in 0 (omega arith) in omega (arith, f.0)) ])
    | inr ne ↦ elim (cases_Bool (is_used used h)) [
      | inl busy ↦ let e : count h free ≡ 0 = A.free_once h (omega arith) lt ∙ ap (λ (b : Bool). cond b 0 1) busy in omega arith
      | inr off ↦ let e : count h free ≡ 1 = A.free_once h (omega arith) lt ∙ ap (λ (b : Bool). cond b 0 1) off in omega arith
    ]
  ]

  -- there is room for one head more that is given back
  pub room_left : (h : ℕ) → h < length w.heads → 0 < h → is_used used h ≡ true → length free < room
  room_left h lt some busy =
      let z : count h free ≡ 0 = A.free_once h some lt ∙ ap (λ (b : Bool). cond b 0 1) busy in
      omega (arith, total_count free (length w.heads) (λ x there. (A.free_in x there).1), total_bound (λ k. count k free) h (length w.heads) lt free_le z, A.has_room)

  -- a head that is spare
  module _ (h : ℕ) (rest : List ℕ) (is : free ≡ rest ++ h ∷ []) where
    stands_free : 0 < count h free
    stands_free = omega (arith, ap (count h) is, count_append h rest (h ∷ []), count_same h [])

    pub head_some : 0 < h
    head_some = (A.free_in h stands_free).0

    pub head_is : h < length w.heads
    head_is = (A.free_in h stands_free).1

    pub head_off : is_used used h ≡ false
    head_off = elim (cases_Bool (is_used used h)) [
      | inl busy ↦ absurd (let e : count h free ≡ 0 = A.free_once h head_some head_is ∙ ap (λ (b : Bool). cond b 0 1) busy in omega (arith, stands_free))
      | inr off ↦ off
    ]

    abbrev pub on : List Bool
    on = set used h true

    used_at : (k : ℕ) → (k ≡ h → ⊥) → is_used on k ≡ is_used used k
    used_at k ne = get_or-set_other used h k true false ne

    used_here : is_used on h ≡ true
    used_here = get_or-set_same used h true false (omega (arith, A.used_many, head_is))

    pub taken_arena : IsArena w values on rest room spare
    taken_arena = record {
      rows = A.rows;
      fits = A.fits;
      sum = A.sum;
      spare_is = A.spare_is;
      values_many = A.values_many;
      used_many = length-set used h true ∙ A.used_many;
      some_head = A.some_head;
      own = used_at 0 (λ e. absurd (omega (arith, head_some))) ∙ A.own;
      full = λ k x below busy there. elim (cases_eq k h) [
        | inl e ↦ absurd (let z : 0 < count x (A.rows h) = subst (λ (n : ℕ). 0 < count x (A.rows n)) e there in omega (arith, ap (count x) (A.empty h head_some head_is head_off)))
        | inr ne ↦ A.full k x below (sym (used_at k ne) ∙ busy) there
      ];
      empty = λ k some below off. elim (cases_eq k h) [
        | inl e ↦ absurd (let f : is_used on h ≡ false = subst (λ (n : ℕ). is_used on n ≡ false) e off in let t = used_here in cc)
        | inr ne ↦ A.empty k some below (sym (used_at k ne) ∙ off)
      ];
      free_once = λ k some below. elim (cases_eq k h) [
        | inl e ↦ subst (λ (n : ℕ). count n rest ≡ cond (is_used on n) 0 1) (sym e) (omega (arith, ap (count h) is, count_append h rest (h ∷ []), count_same h [], A.free_once h head_some head_is ∙ ap (λ (b : Bool). cond b 0 1) head_off) ∙ sym (ap (λ (b : Bool). cond b 0 1) used_here))
        | inr ne ↦ omega (arith, ap (count k) is, count_append k rest (h ∷ []), count_alone k h ne) ∙ A.free_once k some below ∙ sym (ap (λ (b : Bool). cond b 0 1) (used_at k ne))
      ];
      free_in = λ k there. A.free_in k (omega (arith, ap (count k) is, count_append k rest (h ∷ [])));
      has_room = A.has_room;
    }

    pub taken_view : lists_of on values (cells_of_head w) (length w.heads) ≡ set (lists_of used values (cells_of_head w) (length w.heads)) h (Some [])
    taken_view = map_set (list_if_used used values (cells_of_head w)) (list_if_used on values (cells_of_head w)) h (length w.heads) (Some []) head_is
        (ap (λ (b : Bool). cond b (Some (entries values (cells_of_head w h))) None) used_here ∙ ap (λ (r : List ℕ). Some (entries values r)) (row_is w values used free room spare A h head_is ∙ A.empty h head_some head_is head_off))
        (λ k below ne. ap (λ (b : Bool). cond b (Some (entries values (cells_of_head w k))) None) (used_at k ne))

    pub taken_was : get_or (lists_of used values (cells_of_head w) (length w.heads)) h None ≡ None
    taken_was = get_or-map-range_with_len (list_if_used used values (cells_of_head w)) 0 (length w.heads) h h None head_is (omega arith) ∙ ap (λ (b : Bool). cond b (Some (entries values (cells_of_head w h))) None) head_off

  value_some : (o : Option T) → is_some o ≡ true → (v : T) × (o ≡ Some v)
  value_some None h = absurd cc
  value_some (Some v) h = (v, refl)

  no_entries : (row : List ℕ) → Full values row → entries values row ≡ [] → row ≡ []
  no_entries [] full e = refl
  no_entries (c ∷ cs) full e = let v = value_some (get_or values c None) (full c (count_here c cs)) in let g = sym (entries_cons values c cs v.0 v.1) ∙ e in absurd cc

  -- a head in use whose list is empty
  module _ (h : ℕ) (e : get_or (lists_of used values (cells_of_head w) (length w.heads)) h None ≡ Some []) where
    pub given_is : (0 < h) × (h < length w.heads) × (is_used used h ≡ true) × (entries values (A.rows h) ≡ [])
    given_is = found w values used free room spare A h [] e

    abbrev pub off : List Bool
    off = set used h false

    off_at : (k : ℕ) → (k ≡ h → ⊥) → is_used off k ≡ is_used used k
    off_at k ne = get_or-set_other used h k false false ne

    off_here : is_used off h ≡ false
    off_here = get_or-set_same used h false false (omega (arith, A.used_many, given_is.1))

    pub given_arena : (more : ℕ) → room ≤ more → IsArena w values off (free ++ h ∷ []) more spare
    given_arena more le = record {
      rows = A.rows;
      fits = A.fits;
      sum = A.sum;
      spare_is = A.spare_is;
      values_many = A.values_many;
      used_many = length-set used h false ∙ A.used_many;
      some_head = A.some_head;
      own = off_at 0 (λ z. absurd (omega (arith, given_is.0))) ∙ A.own;
      full = λ k x below busy there. elim (cases_eq k h) [
        | inl s ↦ absurd (let f : is_used off h ≡ true = subst (λ (n : ℕ). is_used off n ≡ true) s busy in let t = off_here in cc)
        | inr ne ↦ A.full k x below (sym (off_at k ne) ∙ busy) there
      ];
      empty = λ k some below no_use. elim (cases_eq k h) [
        | inl s ↦ subst (λ (n : ℕ). A.rows n ≡ []) (sym s) (no_entries (A.rows h) (λ c there. A.full h c given_is.1 given_is.2 there) given_is.3)
        | inr ne ↦ A.empty k some below (sym (off_at k ne) ∙ no_use)
      ];
      free_once = λ k some below. elim (cases_eq k h) [
        | inl s ↦ subst (λ (n : ℕ). count n (free ++ h ∷ []) ≡ cond (is_used off n) 0 1) (sym s) (omega (arith, count_append h free (h ∷ []), count_same h [], A.free_once h given_is.0 given_is.1 ∙ ap (λ (b : Bool). cond b 0 1) given_is.2) ∙ sym (ap (λ (b : Bool). cond b 0 1) off_here))
        | inr ne ↦ omega (arith, count_append k free (h ∷ []), count_alone k h ne) ∙ A.free_once k some below ∙ sym (ap (λ (b : Bool). cond b 0 1) (off_at k ne))
      ];
      free_in = λ k there. elim (cases_eq k h) [
        | inl s ↦ (rw s given_is.0, rw s given_is.1)
        | inr ne ↦ A.free_in k (omega (arith, count_append k free (h ∷ []), count_alone k h ne))
      ];
      has_room = omega (arith, A.has_room);
    }

    pub given_view : lists_of off values (cells_of_head w) (length w.heads) ≡ set (lists_of used values (cells_of_head w) (length w.heads)) h None
    given_view = map_set (list_if_used used values (cells_of_head w)) (list_if_used off values (cells_of_head w)) h (length w.heads) None given_is.1
        (ap (λ (b : Bool). cond b (Some (entries values (cells_of_head w h))) None) off_here)
        (λ k below ne. ap (λ (b : Bool). cond b (Some (entries values (cells_of_head w k))) None) (off_at k ne))
