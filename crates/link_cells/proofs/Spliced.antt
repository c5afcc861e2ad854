-- The arena where one list is put before another.
use Rattle.std.proofs.Common.{◌≡◌, ℕ, ◌<◌, inl, inr, refl, ap, sym, subst, ◌∙◌, Bool, true, false, List, [], ◌∷◌, ◌++◌, length, arith, cond, length-append, Option, Some, None, is_some, get_or, set, get_or-set_same, get_or-set_other}
use Rattle.std.proofs.lemmas.Bool.{cases_eq}
use Rattle.std.proofs.lemmas.List.{length-set, ext_get_or}
use Rattle.std.proofs.lemmas.List.FromFn.{length-map-range_with_len}
use Rattle.link_cells.specs.declared.link.Link.TheVariants.{Cell, Head}
use Rattle.link_cells.specs.declared.id.CellId.{CellId}
use Rattle.link_cells.specs.Rings.{CellWords, ahead_of, Linked, count, spliced}
use Rattle.link_cells.specs.Arena.{IsArena, is_used, entries, list_if_used, lists_of, cells_of_head}
use Rattle.link_cells.proofs.Around.{count_append}
use Rattle.link_cells.proofs.Joined.{fits_join, total_moved, joined_heads, joined_cells}
use Rattle.link_cells.proofs.Kept.{replaced, replaced_here, replaced_other}
use Rattle.link_cells.proofs.Shown.{map_set, entries_append, lists_is, found}

pub set_same : {A : Type 0} (l : List A) (i : ℕ) (x d : A) → i < length l → get_or l i d ≡ x → set l i x ≡ l
set_same l i x d lt e = ext_get_or d (set l i x) l (length-set l i x) (λ k below. elim (cases_eq k i) [
  | inl s ↦ subst (λ (n : ℕ). get_or (set l i x) n d ≡ get_or l n d) (sym s) (get_or-set_same l i x d lt ∙ sym e)
  | inr ne ↦ get_or-set_other l i k x d ne
])

-- the row of a ring whose head leads to a cell
pub row_some : (w : CellWords) (h c : ℕ) (row : List ℕ) → Linked w (Head h) row (Head h) → ahead_of w (Head h) ≡ Cell c → (cs : List ℕ) × (row ≡ c ∷ cs)
row_some w h c [] l e = absurd (let g = sym l.0 ∙ e in cc)
row_some w h c (d ∷ ds) l e = (ds, ap (λ (n : ℕ). n ∷ ds) (cell_is (sym l.0 ∙ e))) where
  cell_is : Cell d ≡ Cell c → d ≡ c
  cell_is g = cc

-- the row of a ring whose head leads to none
pub row_none : (w : CellWords) (h k : ℕ) (row : List ℕ) → Linked w (Head h) row (Head h) → ahead_of w (Head h) ≡ Head k → row ≡ []
row_none w h k [] l e = refl
row_none w h k (d ∷ ds) l e = absurd (let g = sym l.0 ∙ e in cc)

module _ {T : Type 0} (w : CellWords) (values : List (Option T)) (used : List Bool) (free : List ℕ) (room spare : ℕ) (A : IsArena w values used free room spare)
    (from to : ℕ) (ne : from ≡ to → ⊥) (xs ys : List (CellId × T))
    (ef : get_or (lists_of used values (cells_of_head w) (length w.heads)) from None ≡ Some xs) (et : get_or (lists_of used values (cells_of_head w) (length w.heads)) to None ≡ Some ys) where
  pub of_from : (0 < from) × (from < length w.heads) × (is_used used from ≡ true) × (entries values (A.rows from) ≡ xs)
  of_from = found w values used free room spare A from xs ef

  pub of_to : (0 < to) × (to < length w.heads) × (is_used used to ≡ true) × (entries values (A.rows to) ≡ ys)
  of_to = found w values used free room spare A to ys et

  abbrev lists : List (Option (List (CellId × T)))
  lists = lists_of used values (cells_of_head w) (length w.heads)

  -- nothing to move
  pub spliced_none : A.rows from ≡ [] → lists ≡ set (set lists from (Some [])) to (Some (xs ++ ys))
  spliced_none none =
      let nothing : xs ≡ [] = sym of_from.3 ∙ ap (entries values) none in
      let long : length lists ≡ length w.heads = length-map-range_with_len (list_if_used used values (cells_of_head w)) 0 (length w.heads) in
      let same : set lists from (Some []) ≡ lists = set_same lists from (Some []) None (omega (arith, of_from.1)) (ef ∙ ap (λ (r : List (CellId × T)). Some r) nothing) in
      sym (ap (λ (l : List (Option (List (CellId × T)))). set l to (Some (xs ++ ys))) same
      ∙ set_same lists to (Some (xs ++ ys)) None (omega (arith, of_to.1)) (et ∙ ap (λ (r : List (CellId × T)). Some (r ++ ys)) (sym nothing)))

  module _ (c : ℕ) (cs : List ℕ) (is : A.rows from ≡ c ∷ cs) where
    abbrev emptied : ℕ → List ℕ
    emptied = replaced A.rows from []

    abbrev next : ℕ → List ℕ
    next = replaced emptied to (A.rows from ++ A.rows to)

    next_to : next to ≡ A.rows from ++ A.rows to
    next_to = replaced_here emptied to (A.rows from ++ A.rows to)

    next_from : next from ≡ []
    next_from = replaced_other emptied to (A.rows from ++ A.rows to) from ne ∙ replaced_here A.rows from []

    next_k : (k : ℕ) → (k ≡ from → ⊥) → (k ≡ to → ⊥) → next k ≡ A.rows k
    next_k k nf nt = replaced_other emptied to (A.rows from ++ A.rows to) k nt ∙ replaced_other A.rows from [] k nf

    heads : length (spliced w from to).heads ≡ length w.heads
    heads = joined_heads w A.rows A.fits from to ne of_from.1 of_to.1 c cs is

    cells : length (spliced w from to).cells ≡ length w.cells
    cells = joined_cells w A.rows A.fits from to ne of_from.1 of_to.1 c cs is

    own_k : (k : ℕ) → is_used used k ≡ true → 0 ≡ k → ⊥
    own_k k on e = let off : is_used used k ≡ false = subst (λ (n : ℕ). is_used used n ≡ false) e A.own in cc

    pub spliced_arena : IsArena (spliced w from to) values used free room spare
    spliced_arena = record {
      rows = next;
      fits = fits_join w A.rows A.fits from to ne of_from.1 of_to.1 c cs is next next_to next_from next_k;
      sum = rw (heads, cells) (total_moved (λ k. length (A.rows k)) (λ k. length (next k)) from to (length w.heads) ne of_from.1 of_to.1
          (ap length next_to ∙ length-append (A.rows from) (A.rows to)) (ap length next_from) (λ k nf nt. ap length (next_k k nf nt)) ∙ A.sum);
      spare_is = A.spare_is ∙ sym (ap length (next_k 0 (own_k from of_from.2) (own_k to of_to.2)));
      values_many = A.values_many ∙ sym cells;
      used_many = A.used_many ∙ sym heads;
      some_head = rw heads A.some_head;
      own = A.own;
      full = λ k x below on there. full_of k x (omega (arith, heads)) on there;
      empty = λ k some below off. next_k k (λ e. not_on k from off e of_from.2) (λ e. not_on k to off e of_to.2) ∙ A.empty k some (omega (arith, heads)) off;
      free_once = λ k some below. A.free_once k some (omega (arith, heads));
      free_in = λ k some. let f = A.free_in k some in (f.0, omega (arith, f.1, heads));
      has_room = omega (arith, A.has_room, heads);
    } where
      not_on : (k h : ℕ) → is_used used k ≡ false → k ≡ h → is_used used h ≡ true → ⊥
      not_on k h off e on = let f : is_used used h ≡ false = subst (λ (n : ℕ). is_used used n ≡ false) e off in cc

      full_of : (k x : ℕ) → k < length w.heads → is_used used k ≡ true → 0 < count x (next k) → is_some (get_or values x None) ≡ true
      full_of k x below on there = elim (cases_eq k from) [
        | inl e ↦ absurd (let g : 0 < count x (next from) = subst (λ (n : ℕ). 0 < count x (next n)) e there in omega (arith, ap (count x) next_from))
        | inr nf ↦ elim (cases_eq k to) [
          | inl e ↦ let g : 0 < count x (next to) = subst (λ (n : ℕ). 0 < count x (next n)) e there in
              elim (cases_eq (count x (A.rows from)) 0) [
                | inl gone ↦ A.full to x of_to.1 of_to.2 (omega (arith, ap (count x) next_to, count_append x (A.rows from) (A.rows to)))
                | inr some ↦ A.full from x of_from.1 of_from.2 (omega arith)
              ]
          | inr nt ↦ A.full k x below on (omega (arith, ap (count x) (next_k k nf nt)))
        ]
      ]

    pub spliced_view : lists_of used values (cells_of_head (spliced w from to)) (length (spliced w from to).heads) ≡ set (set lists from (Some [])) to (Some (xs ++ ys))
    unfolding spliced_arena
    spliced_view =
        lists_is (spliced w from to) values used free room spare spliced_arena
        ∙ ap (lists_of used values next) heads
        ∙ map_set (list_if_used used values emptied) (list_if_used used values next) to (length w.heads) (Some (xs ++ ys)) of_to.1
        (ap (λ (b : Bool). cond b (Some (entries values (next to))) None) of_to.2
        ∙ ap (λ (r : List (CellId × T)). Some r) (ap (entries values) next_to ∙ entries_append values (A.rows from) (A.rows to) ∙ ap (λ (r : List (CellId × T)). r ++ entries values (A.rows to)) of_from.3 ∙ ap (λ (r : List (CellId × T)). xs ++ r) of_to.3))
        (λ k below other. ap (λ (r : List ℕ). cond (is_used used k) (Some (entries values r)) None) (replaced_other emptied to (A.rows from ++ A.rows to) k other))
        ∙ ap (λ (l : List (Option (List (CellId × T)))). set l to (Some (xs ++ ys)))
        (map_set (list_if_used used values A.rows) (list_if_used used values emptied) from (length w.heads) (Some []) of_from.1
        (ap (λ (b : Bool). cond b (Some (entries values (emptied from))) None) of_from.2 ∙ ap (λ (r : List ℕ). Some (entries values r)) (replaced_here A.rows from []))
        (λ k below other. ap (λ (r : List ℕ). cond (is_used used k) (Some (entries values r)) None) (replaced_other A.rows from [] k other))
        ∙ ap (λ (l : List (Option (List (CellId × T)))). set l from (Some [])) (sym (lists_is w values used free room spare A)))
