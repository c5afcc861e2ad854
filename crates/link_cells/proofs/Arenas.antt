-- The arena after each change.
use Rattle.std.proofs.Common.{◌≡◌, ℕ, ◌<◌, ◌+◌, ◌-◌, inl, inr, refl, ap, sym, subst, ◌∙◌, Bool, true, false, List, [], ◌∷◌, ◌++◌, length, arith, cond, length-append, Option, Some, None, is_some, get_or, set, get_or-set_same, get_or-set_other}
use Rattle.std.proofs.lemmas.Bool.{cases_eq}
use Rattle.std.proofs.lemmas.List.{length-set}
use Rattle.link_cells.specs.declared.id.CellId.{CellId}
use Rattle.link_cells.specs.Rings.{CellWords, count, HasRings, moved_front, moved_back}
use Rattle.link_cells.specs.Arena.{IsArena, is_used, entries, list_if_used, lists_of, cells_of_head}
use Rattle.link_cells.proofs.Around.{count_append, count_same, count_more}
use Rattle.link_cells.proofs.Moves.{row_once, apart, count_alone}
use Rattle.link_cells.proofs.Kept.{moved, moved_g, moved_h, moved_k, moved_sum, front_fits, back_fits, front_heads, front_cells, back_heads, back_cells, stood, cell_there}
use Rattle.link_cells.proofs.Shown.{map_set, entries_append, entries_cons, entries_set, lists_is}

module _ {T : Type 0} (w : CellWords) (values : List (Option T)) (used : List Bool) (free : List ℕ) (room spare : ℕ) (A : IsArena w values used free room spare) where
  -- a head in use isn't that of the spare cells
  pub not_own : (k : ℕ) → is_used used k ≡ true → k ≡ 0 → ⊥
  not_own k is z = let f : is_used used k ≡ false = subst (λ (n : ℕ). is_used used n ≡ false) (sym z) A.own in absurd cc

  shown_same : (k : ℕ) (b : Bool) → is_used used k ≡ b → (more : List (Option T)) (next : ℕ → List ℕ) → (b ≡ true → entries more (next k) ≡ entries values (A.rows k)) → list_if_used used more next k ≡ list_if_used used values A.rows k
  shown_same k true is more next e = ap (λ (r : List (CellId × T)). cond (is_used used k) (Some r) None) (e refl)
  shown_same k false is more next e = ap (λ (c : Bool). cond c (Some (entries more (next k))) None) is ∙ sym (ap (λ (c : Bool). cond c (Some (entries values (A.rows k))) None) is)

  -- what is shown after a change of one list
  pub shows : (v : CellWords) (more : List (Option T)) (next : ℕ → List ℕ) → length v.heads ≡ length w.heads → (h : ℕ) (list : List (CellId × T)) → h < length w.heads → is_used used h ≡ true → entries more (next h) ≡ list
      → ((k : ℕ) → k < length w.heads → (k ≡ h → ⊥) → is_used used k ≡ true → entries more (next k) ≡ entries values (A.rows k))
      → lists_of used more next (length v.heads) ≡ set (lists_of used values (cells_of_head w) (length w.heads)) h (Some list)
  shows v more next heads h list lt is here others =
      ap (lists_of used more next) heads
      ∙ map_set (list_if_used used values A.rows) (list_if_used used more next) h (length w.heads) (Some list) lt
      (ap (λ (b : Bool). cond b (Some (entries more (next h))) None) is ∙ ap (λ (r : List (CellId × T)). Some r) here)
      (λ k below ne. shown_same k (is_used used k) refl more next (λ yes. others k below ne yes))
      ∙ ap (λ (l : List (Option (List (CellId × T)))). set l h (Some list)) (sym (lists_is w values used free room spare A))

  pub none_in : (g k c : ℕ) → g < length w.heads → k < length w.heads → (k ≡ g → ⊥) → 0 < count c (A.rows g) → count c (A.rows k) ≡ 0
  none_in g k c ltg ltk ne here = elim (cases_eq (count c (A.rows k)) 0) [ inl z ↦ z | inr some ↦ absurd (apart w A.rows A.fits k g c ne ltk ltg (omega arith) here) ]

  -- a cell is taken out of its list and is spare
  module _ (g c : ℕ) (xs ys : List ℕ) (lt : g < length w.heads) (yes : is_used used g ≡ true) (is : A.rows g ≡ xs ++ c ∷ ys) where
    pub apart0 : g ≡ 0 → ⊥
    apart0 e = not_own g yes e

    abbrev after : ℕ → List ℕ
    after = moved w A.rows A.fits g 0 c xs ys lt A.some_head apart0 is (c ∷ A.rows 0)

    abbrev left : List (Option T)
    left = set values c None

    none_left : (x : ℕ) → x ≡ c → count x (xs ++ ys) ≡ 0
    none_left x e = subst (λ (n : ℕ). count n (xs ++ ys) ≡ 0) (sym e) (omega (arith, row_once w A.rows A.fits g c lt, ap (count c) is, count_append c xs (c ∷ ys), count_same c ys, count_append c xs ys))

    here : 0 < count c (A.rows g)
    here = stood w A.rows A.fits g 0 c xs ys lt A.some_head apart0 is

    pub unlinked : IsArena (moved_front w c 0) left used free room (spare + 1)
    unlinked = record {
      rows = after;
      fits = front_fits w A.rows A.fits g 0 c xs ys lt A.some_head apart0 is;
      sum = rw (front_heads w c 0, front_cells w c 0) (moved_sum w A.rows A.fits g 0 c xs ys lt A.some_head apart0 is (c ∷ A.rows 0) (omega arith) ∙ A.sum);
      spare_is = omega (arith, A.spare_is, ap length (moved_h w A.rows A.fits g 0 c xs ys lt A.some_head apart0 is (c ∷ A.rows 0)));
      values_many = length-set values c None ∙ A.values_many ∙ sym (front_cells w c 0);
      used_many = A.used_many ∙ sym (front_heads w c 0);
      some_head = rw (front_heads w c 0) A.some_head;
      own = A.own;
      full = λ k x below on there. full_of k x (omega (arith, front_heads w c 0)) on there;
      empty = λ k some below off. moved_k w A.rows A.fits g 0 c xs ys lt A.some_head apart0 is (c ∷ A.rows 0) k (λ e. let f : is_used used k ≡ true = subst (λ (n : ℕ). is_used used n ≡ true) (sym e) yes in absurd cc) (λ e. absurd (omega arith)) ∙ A.empty k some (omega (arith, front_heads w c 0)) off;
      free_once = λ k some below. A.free_once k some (omega (arith, front_heads w c 0));
      free_in = λ k some. let f = A.free_in k some in (f.0, omega (arith, f.1, front_heads w c 0));
      has_room = omega (arith, A.has_room, front_heads w c 0);
    } where
      full_of : (k x : ℕ) → k < length w.heads → is_used used k ≡ true → 0 < count x (after k) → is_some (get_or left x None) ≡ true
      full_of k x below on there = elim (cases_eq k g) [
        | inl e ↦ let h : 0 < count x (xs ++ ys) = subst (λ (r : List ℕ). 0 < count x r) (moved_g w A.rows A.fits g 0 c xs ys lt A.some_head apart0 is (c ∷ A.rows 0)) (subst (λ (n : ℕ). 0 < count x (after n)) e there) in
            ap is_some (get_or-set_other values c x None None (λ s. absurd (omega (arith, none_left x s))))
            ∙ A.full g x lt yes (omega (arith, ap (count x) is, count_append x xs (c ∷ ys), count_append x xs ys, count_more x c ys))
        | inr other ↦ let h : 0 < count x (A.rows k) = subst (λ (r : List ℕ). 0 < count x r) (moved_k w A.rows A.fits g 0 c xs ys lt A.some_head apart0 is (c ∷ A.rows 0) k other (not_own k on)) there in
            ap is_some (get_or-set_other values c x None None (λ s. let q : 0 < count c (A.rows k) = subst (λ (n : ℕ). 0 < count n (A.rows k)) s h in absurd (omega (arith, none_in g k c lt below other here))))
            ∙ A.full k x below on h
      ]

    pub unlink_shows : lists_of used left after (length (moved_front w c 0).heads) ≡ set (lists_of used values (cells_of_head w) (length w.heads)) g (Some (entries values xs ++ entries values ys))
    unlink_shows = shows (moved_front w c 0) left after (front_heads w c 0) g (entries values xs ++ entries values ys) lt yes
        (ap (entries left) (moved_g w A.rows A.fits g 0 c xs ys lt A.some_head apart0 is (c ∷ A.rows 0)) ∙ entries_set values c None (xs ++ ys) (none_left c refl) ∙ entries_append values xs ys)
        (λ k below other on. ap (entries left) (moved_k w A.rows A.fits g 0 c xs ys lt A.some_head apart0 is (c ∷ A.rows 0) k other (not_own k on)) ∙ entries_set values c None (A.rows k) (none_in g k c lt below other here))

    pub unlink_view : lists_of used left (cells_of_head (moved_front w c 0)) (length (moved_front w c 0).heads) ≡ set (lists_of used values (cells_of_head w) (length w.heads)) g (Some (entries values xs ++ entries values ys))
    unfolding unlinked
    unlink_view = lists_is (moved_front w c 0) left used free room (spare + 1) unlinked ∙ unlink_shows

  -- a spare cell gets a value and goes into a list
  module _ (h c : ℕ) (rest : List ℕ) (value : T) (lt : h < length w.heads) (yes : is_used used h ≡ true) (is : A.rows 0 ≡ c ∷ rest) where
    pub aparth : 0 ≡ h → ⊥
    aparth e = not_own h yes (sym e)

    abbrev next : List ℕ → ℕ → List ℕ
    next row = moved w A.rows A.fits 0 h c [] rest A.some_head lt aparth is row

    abbrev given : List (Option T)
    given = set values c (Some value)

    spare_here : 0 < count c (A.rows 0)
    spare_here = stood w A.rows A.fits 0 h c [] rest A.some_head lt aparth is

    pub cell_is : c < length w.cells
    cell_is = cell_there w A.rows A.fits 0 h c [] rest A.some_head lt aparth is

    not_in : (k : ℕ) → k < length w.heads → is_used used k ≡ true → count c (A.rows k) ≡ 0
    not_in k below on = none_in 0 k c A.some_head below (not_own k on) spare_here

    pub put_in : (v : CellWords) (row : List ℕ) → length row ≡ length (A.rows h) + 1 → ((x : ℕ) → (x ≡ c → ⊥) → count x row ≡ count x (A.rows h)) → length v.heads ≡ length w.heads → length v.cells ≡ length w.cells → HasRings v (next row) → IsArena v given used free room (spare - 1)
    put_in v row long same heads cells fits = record {
      rows = next row;
      fits = fits;
      sum = rw (heads, cells) (moved_sum w A.rows A.fits 0 h c [] rest A.some_head lt aparth is row long ∙ A.sum);
      spare_is = omega (arith, A.spare_is, ap length is, ap length (moved_g w A.rows A.fits 0 h c [] rest A.some_head lt aparth is row));
      values_many = length-set values c (Some value) ∙ A.values_many ∙ sym cells;
      used_many = A.used_many ∙ sym heads;
      some_head = rw heads A.some_head;
      own = A.own;
      full = λ k x below on there. full_of row same k x (omega (arith, heads)) on there;
      empty = λ k some below off. moved_k w A.rows A.fits 0 h c [] rest A.some_head lt aparth is row k (λ e. absurd (omega arith)) (λ e. let f : is_used used k ≡ true = subst (λ (n : ℕ). is_used used n ≡ true) (sym e) yes in absurd cc) ∙ A.empty k some (omega (arith, heads)) off;
      free_once = λ k some below. A.free_once k some (omega (arith, heads));
      free_in = λ k some. let f = A.free_in k some in (f.0, omega (arith, f.1, heads));
      has_room = omega (arith, A.has_room, heads);
    } where
      full_of : (row : List ℕ) → ((x : ℕ) → (x ≡ c → ⊥) → count x row ≡ count x (A.rows h)) → (k x : ℕ) → k < length w.heads → is_used used k ≡ true → 0 < count x (next row k) → is_some (get_or given x None) ≡ true
      full_of row same k x below on there = elim (cases_eq x c) [
        | inl e ↦ subst (λ (n : ℕ). is_some (get_or given n None) ≡ true) (sym e) (ap is_some (get_or-set_same values c (Some value) None (omega (arith, A.values_many, cell_is))))
        | inr ne ↦ ap is_some (get_or-set_other values c x (Some value) None ne) ∙ elim (cases_eq k h) [
          | inl e ↦ let q : 0 < count x row = subst (λ (r : List ℕ). 0 < count x r) (moved_h w A.rows A.fits 0 h c [] rest A.some_head lt aparth is row) (subst (λ (n : ℕ). 0 < count x (next row n)) e there) in
              A.full h x lt yes (omega (arith, same x ne))
          | inr other ↦ A.full k x below on (subst (λ (r : List ℕ). 0 < count x r) (moved_k w A.rows A.fits 0 h c [] rest A.some_head lt aparth is row k (not_own k on) other) there)
        ]
      ]

    pub put_shows : (v : CellWords) (row : List ℕ) (list : List (CellId × T)) → length v.heads ≡ length w.heads → entries given row ≡ list → lists_of used given (next row) (length v.heads) ≡ set (lists_of used values (cells_of_head w) (length w.heads)) h (Some list)
    put_shows v row list heads e = shows v given (next row) heads h list lt yes (ap (entries given) (moved_h w A.rows A.fits 0 h c [] rest A.some_head lt aparth is row) ∙ e)
        (λ k below other on. ap (entries given) (moved_k w A.rows A.fits 0 h c [] rest A.some_head lt aparth is row k (not_own k on) other) ∙ entries_set values c (Some value) (A.rows k) (not_in k below on))

    old_entries : entries given (A.rows h) ≡ entries values (A.rows h)
    old_entries = entries_set values c (Some value) (A.rows h) (not_in h lt yes)

    abbrev entry : CellId × T
    entry = record { 0 = record { cell = c }; 1 = value }

    own_value : get_or given c None ≡ Some value
    own_value = get_or-set_same values c (Some value) None (omega (arith, A.values_many, cell_is))

    pub front_arena : IsArena (moved_front w c h) given used free room (spare - 1)
    front_arena = put_in (moved_front w c h) (c ∷ A.rows h) (omega arith) (λ x ne. omega (arith, count_alone x c ne)) (front_heads w c h) (front_cells w c h) (front_fits w A.rows A.fits 0 h c [] rest A.some_head lt aparth is)

    pub front_shows : lists_of used given (next (c ∷ A.rows h)) (length (moved_front w c h).heads) ≡ set (lists_of used values (cells_of_head w) (length w.heads)) h (Some (entry ∷ entries values (A.rows h)))
    front_shows = put_shows (moved_front w c h) (c ∷ A.rows h) (entry ∷ entries values (A.rows h)) (front_heads w c h) (entries_cons given c (A.rows h) value own_value ∙ ap (λ (r : List (CellId × T)). entry ∷ r) old_entries)

    pub back_arena : IsArena (moved_back w c h) given used free room (spare - 1)
    back_arena = put_in (moved_back w c h) (A.rows h ++ c ∷ []) (length-append (A.rows h) (c ∷ [])) (λ x ne. omega (arith, count_append x (A.rows h) (c ∷ []), count_alone x c ne)) (back_heads w c h) (back_cells w c h) (back_fits w A.rows A.fits 0 h c [] rest A.some_head lt aparth is)

    pub back_shows : lists_of used given (next (A.rows h ++ c ∷ [])) (length (moved_back w c h).heads) ≡ set (lists_of used values (cells_of_head w) (length w.heads)) h (Some (entries values (A.rows h) ++ entry ∷ []))
    back_shows = put_shows (moved_back w c h) (A.rows h ++ c ∷ []) (entries values (A.rows h) ++ entry ∷ []) (back_heads w c h)
        (entries_append given (A.rows h) (c ∷ []) ∙ ap (λ (r : List (CellId × T)). r ++ entries given (c ∷ [])) old_entries ∙ ap (λ (r : List (CellId × T)). entries values (A.rows h) ++ r) (entries_cons given c [] value own_value))

    pub front_view : lists_of used given (cells_of_head (moved_front w c h)) (length (moved_front w c h).heads) ≡ set (lists_of used values (cells_of_head w) (length w.heads)) h (Some (entry ∷ entries values (A.rows h)))
    unfolding front_arena put_in
    front_view = lists_is (moved_front w c h) given used free room (spare - 1) front_arena ∙ front_shows

    pub back_view : lists_of used given (cells_of_head (moved_back w c h)) (length (moved_back w c h).heads) ≡ set (lists_of used values (cells_of_head w) (length w.heads)) h (Some (entries values (A.rows h) ++ entry ∷ []))
    unfolding back_arena put_in
    back_view = lists_is (moved_back w c h) given used free room (spare - 1) back_arena ∙ back_shows
