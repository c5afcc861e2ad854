-- What the words and values of an arena show, and how a change of rows changes it.
use Rattle.std.proofs.Common.{◌≡◌, ℕ, ◌<◌, ◌≤◌, inl, inr, refl, ap, sym, subst, ◌∙◌, Bool, true, false, List, [], ◌∷◌, ◌++◌, length, map, get_or, set, arith, Option, Some, None, suc, zero, cond, get_or-set_same, get_or-set_other, is_some}
use Rattle.std.specs.List.{range_with_len}
use Rattle.std.proofs.lemmas.List.{ext_get_or, length-set}
use Rattle.std.proofs.Math.ListN.{get_or-eq_default}
use Rattle.std.proofs.lemmas.List.FromFn.{get_or-map-range_with_len, length-map-range_with_len}
use Rattle.std.proofs.lemmas.Bool.{cases_eq, cases_lt}
use Rattle.link_cells.specs.declared.link.Link.{Link}
use Rattle.link_cells.specs.declared.link.Link.TheVariants.{Cell, Head}
use Rattle.link_cells.specs.declared.id.CellId.{CellId}
use Rattle.link_cells.specs.Rings.{CellWords, ahead_of, back_of, Linked, count}
use Rattle.link_cells.specs.Arena.{cells_from, cells_of_head, entries, entry_onto, is_used, list_if_used, lists_of, IsArena, first_name, last_name, named}
use Rattle.link_cells.proofs.Around.{count_same, count_here, count_more, one_le}

walk_head : (w : CellWords) (n h : ℕ) → cells_from w n (Head h) ≡ []
walk_head w zero h = refl
walk_head w (suc n) h = refl

-- the walk from a word on finds the cells that are linked there
walk_linked : (w : CellWords) (n : ℕ) (a : Link) (xs : List ℕ) (h : ℕ) → Linked w a xs (Head h) → length xs ≤ n → cells_from w n (ahead_of w a) ≡ xs
walk_linked w n a [] h l le = subst (λ (at : Link). cells_from w n at ≡ []) (sym l.0) (walk_head w n h)
walk_linked w zero a (c ∷ cs) h l le = absurd (omega arith)
walk_linked w (suc n) a (c ∷ cs) h l le = subst (λ (at : Link). cells_from w (suc n) at ≡ c ∷ cs) (sym l.0) (ap (λ (r : List ℕ). c ∷ r) (walk_linked w n (Cell c) cs h l.2 (omega arith)))

-- lists by number that differ at one place
pub map_set : {A : Type 0} (f g : ℕ → A) (h m : ℕ) (x : A) → h < m → g h ≡ x → ((k : ℕ) → k < m → (k ≡ h → ⊥) → g k ≡ f k) → map g (range_with_len 0 m) ≡ set (map f (range_with_len 0 m)) h x
map_set f g h m x lt here others =
    ext_get_or x _ _ (length-map-range_with_len g 0 m ∙ sym (length-set (map f (range_with_len 0 m)) h x ∙ length-map-range_with_len f 0 m))
    (λ k below. at k (omega (arith, length-map-range_with_len g 0 m)))
  where
    at : (k : ℕ) → k < m → get_or (map g (range_with_len 0 m)) k x ≡ get_or (set (map f (range_with_len 0 m)) h x) k x
    at k below = get_or-map-range_with_len g 0 m k k x below (omega arith) ∙ elim (cases_eq k h) [
      | inl e ↦ subst (λ (n : ℕ). g n ≡ get_or (set (map f (range_with_len 0 m)) h x) n x) (sym e) (here ∙ sym (get_or-set_same (map f (range_with_len 0 m)) h x x (omega (arith, length-map-range_with_len f 0 m))))
      | inr ne ↦ others k below ne ∙ sym (get_or-map-range_with_len f 0 m k k x below (omega arith)) ∙ sym (get_or-set_other (map f (range_with_len 0 m)) h k x x ne)
    ]

pub map_same : {A : Type 0} (f g : ℕ → A) (m : ℕ) → ((k : ℕ) → k < m → g k ≡ f k) → map g (range_with_len 0 m) ≡ map f (range_with_len 0 m)
map_same f g zero h = refl
map_same f g (suc m) h =
    ext_get_or (f 0) _ _ (length-map-range_with_len g 0 (suc m) ∙ sym (length-map-range_with_len f 0 (suc m)))
    (λ k below. let lt : k < suc m = omega (arith, length-map-range_with_len g 0 (suc m)) in
    get_or-map-range_with_len g 0 (suc m) k k (f 0) lt (omega arith) ∙ h k lt ∙ sym (get_or-map-range_with_len f 0 (suc m) k k (f 0) lt (omega arith)))

module _ {T : Type 0} where
  pub entries_cons : (values : List (Option T)) (c : ℕ) (cs : List ℕ) (v : T) → get_or values c None ≡ Some v → entries values (c ∷ cs) ≡ (record { 0 = record { cell = c }; 1 = v }) ∷ entries values cs
  entries_cons values c cs v e = ap (λ (o : Option T). entry_onto o c (entries values cs)) e

  onto_append : (o : Option T) (c : ℕ) (xs ys : List (CellId × T)) → entry_onto o c (xs ++ ys) ≡ entry_onto o c xs ++ ys
  onto_append None c xs ys = refl
  onto_append (Some v) c xs ys = refl

  pub entries_append : (values : List (Option T)) (xs ys : List ℕ) → entries values (xs ++ ys) ≡ entries values xs ++ entries values ys
  entries_append values [] ys = refl
  entries_append values (x ∷ xs) ys = ap (entry_onto (get_or values x None) x) (entries_append values xs ys) ∙ onto_append (get_or values x None) x (entries values xs) (entries values ys)

  pub entries_set : (values : List (Option T)) (c : ℕ) (o : Option T) (xs : List ℕ) → count c xs ≡ 0 → entries (set values c o) xs ≡ entries values xs
  entries_set values c o [] none = refl
  entries_set values c o (x ∷ xs) none =
      ap (λ (p : Option T). entry_onto p x (entries (set values c o) xs)) (get_or-set_other values c x o None (λ e. apart e))
      ∙ ap (entry_onto (get_or values x None) x) (entries_set values c o xs (omega (arith, count_more c x xs)))
    where
      apart : x ≡ c → ⊥
      apart e = let P : ℕ → Type 0 = λ y. count c (y ∷ xs) ≡ 0 in let g : count c (c ∷ xs) ≡ 0 = subst P e none in absurd (omega (arith, count_same c xs))

  -- each cell of a row has a value
  abbrev pub Full : List (Option T) → List ℕ → Type 0
  Full values row = (c : ℕ) → 0 < count c row → is_some (get_or values c None) ≡ true

  value_of : (o : Option T) → is_some o ≡ true → (v : T) × (o ≡ Some v)
  value_of None h = absurd cc
  value_of (Some v) h = (v, refl)

  cons_parts : (x y : CellId × T) (xs ys : List (CellId × T)) → x ∷ xs ≡ y ∷ ys → (x ≡ y) × (xs ≡ ys)
  cons_parts x y xs ys e = (cc, cc)

  -- an entry of a row is that of a cell of it
  pub entries_split : (values : List (Option T)) (row : List ℕ) → Full values row → (front : List (CellId × T)) (id : CellId) (v : T) (back : List (CellId × T)) → entries values row ≡ front ++ (id, v) ∷ back
      → (xs : List ℕ) × (ys : List ℕ) × (row ≡ xs ++ id.cell ∷ ys) × (entries values xs ≡ front) × (entries values ys ≡ back) × (get_or values id.cell None ≡ Some v)
  entries_split values [] full [] id v back e = absurd cc
  entries_split values [] full (f ∷ front) id v back e = absurd cc
  entries_split values (c ∷ cs) full [] id v back e =
      let val = value_of (get_or values c None) (full c (count_here c cs)) in
      let parts = cons_parts (record { cell = c }, val.0) (id, v) (entries values cs) back (sym (entries_cons values c cs val.0 val.1) ∙ e) in
      let same : c ≡ id.cell = ap (λ (p : CellId × T). p.0.cell) parts.0 in (
        [],
        cs,
        ap (λ (n : ℕ). n ∷ cs) same,
        refl,
        parts.1,
        subst (λ (n : ℕ). get_or values n None ≡ Some v) same (val.1 ∙ ap (λ (p : CellId × T). Some p.1) parts.0),
      )
  entries_split values (c ∷ cs) full (f ∷ front) id v back e =
      let val = value_of (get_or values c None) (full c (count_here c cs)) in
      let parts = cons_parts (record { cell = c }, val.0) f (entries values cs) (front ++ (id, v) ∷ back) (sym (entries_cons values c cs val.0 val.1) ∙ e) in
      let h = entries_split values cs (λ x here. full x (omega (arith, count_more x c cs))) front id v back parts.1 in (
        c ∷ h.0,
        h.1,
        ap (λ (r : List ℕ). c ∷ r) h.2,
        entries_cons values c h.0 val.0 val.1 ∙ ap (λ (p : CellId × T). p ∷ entries values h.0) parts.0 ∙ ap (λ (r : List (CellId × T)). f ∷ r) h.3,
        h.4,
        h.5,
      )

  -- the name of the first cell of a row is where its beginning leads
  pub first_named : (w : CellWords) (values : List (Option T)) (a : Link) (row : List ℕ) (h : ℕ) → Full values row → Linked w a row (Head h) → named (ahead_of w a) ≡ first_name (entries values row)
  first_named w values a [] h full l = ap named l.0
  first_named w values a (c ∷ cs) h full l =
      let val = value_of (get_or values c None) (full c (count_here c cs)) in
      ap named l.0 ∙ sym (ap first_name (entries_cons values c cs val.0 val.1))

  last_behind : (w : CellWords) (values : List (Option T)) (c : ℕ) (v : T) (row : List ℕ) (b : Link) → Full values row → Linked w (Cell c) row b
      → named (back_of w b) ≡ last_name ((record { 0 = record { cell = c }; 1 = v }) ∷ entries values row)
  last_behind w values c v [] b full l = ap named l.1
  last_behind w values c v (d ∷ ds) b full l =
      let val = value_of (get_or values d None) (full d (count_here d ds)) in
      last_behind w values d val.0 ds b (λ x here. full x (omega (arith, count_more x d ds))) l.2
      ∙ sym (ap (λ (r : List (CellId × T)). last_name ((record { 0 = record { cell = c }; 1 = v }) ∷ r)) (entries_cons values d ds val.0 val.1))

  -- the name of the last cell of a row is where its end leads back to
  pub last_named : (w : CellWords) (values : List (Option T)) (h : ℕ) (row : List ℕ) (b : Link) → Full values row → Linked w (Head h) row b → named (back_of w b) ≡ last_name (entries values row)
  last_named w values h [] b full l = ap named l.1
  last_named w values h (d ∷ ds) b full l =
      let val = value_of (get_or values d None) (full d (count_here d ds)) in
      last_behind w values d val.0 ds b (λ x here. full x (omega (arith, count_more x d ds))) l.2 ∙ sym (ap last_name (entries_cons values d ds val.0 val.1))

module _ {T : Type 0} (w : CellWords) (values : List (Option T)) (used : List Bool) (free : List ℕ) (room spare : ℕ) (A : IsArena w values used free room spare) where
  pub row_is : (h : ℕ) → h < length w.heads → cells_of_head w h ≡ A.rows h
  row_is h lt = walk_linked w (length w.cells) (Head h) (A.rows h) h (A.fits.ring h lt) (omega (arith, one_le (λ n. length (A.rows n)) h (length w.heads) lt, A.sum))

  pub lists_is : lists_of used values (cells_of_head w) (length w.heads) ≡ lists_of used values A.rows (length w.heads)
  lists_is = map_same (list_if_used used values A.rows) (list_if_used used values (cells_of_head w)) (length w.heads) (λ k below. ap (λ (r : List ℕ). cond (is_used used k) (Some (entries values r)) None) (row_is k below))

  -- what a list that is found tells
  pub found : (h : ℕ) (list : List (CellId × T)) → get_or (lists_of used values (cells_of_head w) (length w.heads)) h None ≡ Some list
      → (0 < h) × (h < length w.heads) × (is_used used h ≡ true) × (entries values (A.rows h) ≡ list)
  found h list e =
      elim (cases_lt h (length w.heads)) [
        | inl lt ↦ within lt (is_used used h) refl (sym (get_or-map-range_with_len (list_if_used used values A.rows) 0 (length w.heads) h h None lt (omega arith)) ∙ ap (λ (l : List (Option (List (CellId × T)))). get_or l h None) (sym lists_is) ∙ e)
        | inr past ↦ absurd (let none = sym (get_or-eq_default (lists_of used values (cells_of_head w) (length w.heads)) None {n = h} (omega (arith, length-map-range_with_len (list_if_used used values (cells_of_head w)) 0 (length w.heads)))) ∙ e in cc)
      ]
    where
      within : h < length w.heads → (b : Bool) → is_used used h ≡ b → cond b (Some (entries values (A.rows h))) None ≡ Some list → (0 < h) × (h < length w.heads) × (is_used used h ≡ true) × (entries values (A.rows h) ≡ list)
      within lt true is s = (positive is, lt, is, some s) where
        some : Some (entries values (A.rows h)) ≡ Some list → entries values (A.rows h) ≡ list
        some s = cc

        positive : is_used used h ≡ true → 0 < h
        positive is = elim (cases_eq h 0) [ inl z ↦ absurd (let f : is_used used h ≡ false = subst (λ (n : ℕ). is_used used n ≡ false) (sym z) A.own in cc) | inr ne ↦ omega arith ]
      within lt false is s = absurd cc

  pub full_of : (h : ℕ) → h < length w.heads → is_used used h ≡ true → Full values (A.rows h)
  full_of h lt is c here = A.full h c lt is here

  -- where a cell in use stands
  pub stands : (h : ℕ) (front : List (CellId × T)) (id : CellId) (v : T) (back : List (CellId × T)) → get_or (lists_of used values (cells_of_head w) (length w.heads)) h None ≡ Some (front ++ (id, v) ∷ back)
      → (0 < h) × (h < length w.heads) × (is_used used h ≡ true) × (xs : List ℕ) × (ys : List ℕ) × (A.rows h ≡ xs ++ id.cell ∷ ys) × (entries values xs ≡ front) × (entries values ys ≡ back) × (get_or values id.cell None ≡ Some v)
  stands h front id v back e =
      let f = found h (front ++ (id, v) ∷ back) e in
      let s = entries_split values (A.rows h) (full_of h f.1 f.2) front id v back f.3 in
      (f.0, f.1, f.2, s.0, s.1, s.2, s.3, s.4, s.5)
