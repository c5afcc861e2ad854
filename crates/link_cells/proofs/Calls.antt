-- What each call of an arena needs and gives, in the words of what it is seen as.
use Rattle.std.proofs.Common.{◌≡◌, ℕ, ◌<◌, ◌≤◌, ◌+◌, ◌-◌, refl, ap, sym, subst, ◌∙◌, Bool, true, List, [], ◌∷◌, ◌++◌, length, arith, Option, Some, None, IsSome, get_or, set}
use Rattle.std.proofs.lemmas.List.{length-set}
use Rattle.link_cells.specs.declared.link.Link.TheVariants.{Cell, Head}
use Rattle.link_cells.specs.declared.id.CellId.{CellId}
use Rattle.link_cells.specs.Rings.{CellWords, ahead_of, back_of, Linked, count, CanMove, moved_front, moved_back}
use Rattle.link_cells.specs.Arena.{Arena, IsArena, is_used, entries, lists_of, cells_of_head, list_at_head, with_list, StandsBetween, InUse, first_name, last_name, named}
use Rattle.link_cells.proofs.Around.{count_append, count_same, count_more, one_le, split}
use Rattle.link_cells.proofs.Moves.{apart}
use Rattle.link_cells.proofs.Kept.{can_move}
use Rattle.link_cells.proofs.Shown.{found, full_of, stands, first_named, last_named}
use Rattle.link_cells.proofs.Arenas.{not_own, unlinked, unlink_view, front_arena, front_view, back_arena, back_view}
use Rattle.link_cells.proofs.Spliced.{row_some}

pub some_of : {A : Type 0} (o : Option A) → IsSome o → (x : A) × (o ≡ Some x)
some_of None h = absurd cc
some_of (Some x) h = (x, refl)

pub some_same : {A : Type 0} {x y : A} → Some x ≡ Some y → x ≡ y
some_same e = cc

abbrev pub seen : {T : Type 0} → CellWords → List (Option T) → List Bool → ℕ → ℕ → Arena T
seen w values used spare heads = record { lists = lists_of used values (cells_of_head w) (length w.heads); spare = spare; spare_heads = heads }

module _ {T : Type 0} (w : CellWords) (values : List (Option T)) (used : List Bool) (free : List ℕ) (room spare : ℕ) (A : IsArena w values used free room spare) (heads : ℕ) where
  abbrev pub all : Arena T
  all = seen w values used spare heads

  pub head_there : (h : ℕ) → IsSome (list_at_head all h) → h < length w.heads
  head_there h some = let o = some_of (list_at_head all h) some in (found w values used free room spare A h o.0 o.1).1

  pub head_used : (h : ℕ) → IsSome (list_at_head all h) → is_used used h ≡ true
  head_used h some = let o = some_of (list_at_head all h) some in (found w values used free room spare A h o.0 o.1).2

  pub first_result : (h : ℕ) (list : List (CellId × T)) → list_at_head all h ≡ Some list → named (ahead_of w (Head h)) ≡ first_name list
  first_result h list e =
      let f = found w values used free room spare A h list e in
      first_named w values (Head h) (A.rows h) h (full_of w values used free room spare A h f.1 f.2) (A.fits.ring h f.1) ∙ ap first_name f.3

  pub cell_there : (id : CellId) → InUse all id → id.cell < length w.cells
  cell_there id u =
      let s = stands w values used free room spare A u.0 u.1 id u.2 u.3 u.4 in
      A.fits.within u.0 id.cell s.1 (omega (arith, ap (count id.cell) s.5, count_append id.cell s.3 (id.cell ∷ s.4), count_same id.cell s.4))

  pub next_result : (id : CellId) (h : ℕ) (front : List (CellId × T)) (v : T) (back : List (CellId × T)) → StandsBetween all id h front v back → named (ahead_of w (Cell id.cell)) ≡ first_name back
  next_result id h front v back e =
      let s = stands w values used free room spare A h front id v back e in
      first_named w values (Cell id.cell) s.4 h (λ x there. full_of w values used free room spare A h s.1 s.2 x (omega (arith, ap (count x) s.5, count_append x s.3 (id.cell ∷ s.4), count_more x id.cell s.4)))
      (split w (Head h) s.3 id.cell s.4 (Head h) (subst (λ (r : List ℕ). Linked w (Head h) r (Head h)) s.5 (A.fits.ring h s.1))).1
      ∙ ap first_name s.7

  pub prev_result : (id : CellId) (h : ℕ) (front : List (CellId × T)) (v : T) (back : List (CellId × T)) → StandsBetween all id h front v back → named (back_of w (Cell id.cell)) ≡ last_name front
  prev_result id h front v back e =
      let s = stands w values used free room spare A h front id v back e in
      last_named w values h s.3 (Cell id.cell) (λ x there. full_of w values used free room spare A h s.1 s.2 x (omega (arith, ap (count x) s.5, count_append x s.3 (id.cell ∷ s.4))))
      (split w (Head h) s.3 id.cell s.4 (Head h) (subst (λ (r : List ℕ). Linked w (Head h) r (Head h)) s.5 (A.fits.ring h s.1))).0
      ∙ ap last_name s.6

  pub value_is : (id : CellId) (h : ℕ) (front : List (CellId × T)) (v : T) (back : List (CellId × T)) → StandsBetween all id h front v back → get_or values id.cell None ≡ Some v
  value_is id h front v back e = (stands w values used free room spare A h front id v back e).8

  -- a cell in use may be unlinked
  pub can_unlink : (id : CellId) → InUse all id → CanMove w id.cell 0
  can_unlink id u =
      let s = stands w values used free room spare A u.0 u.1 id u.2 u.3 u.4 in
      can_move w A.rows A.fits u.0 0 id.cell s.3 s.4 s.1 A.some_head (λ e. not_own w values used free room spare A u.0 s.2 e) s.5

  pub few_spare : (id : CellId) → InUse all id → spare + 1 ≤ length values
  few_spare id u =
      let s = stands w values used free room spare A u.0 u.1 id u.2 u.3 u.4 in
      let U = unlinked w values used free room spare A u.0 id.cell s.3 s.4 s.1 s.2 s.5 in
      omega (arith, U.spare_is, U.sum, one_le (λ n. length (U.rows n)) 0 (length (moved_front w id.cell 0).heads) U.some_head, U.values_many, length-set values id.cell None)

  pub unlink_arena : (id : CellId) → InUse all id → IsArena (moved_front w id.cell 0) (set values id.cell None) used free room (spare + 1)
  unlink_arena id u =
      let s = stands w values used free room spare A u.0 u.1 id u.2 u.3 u.4 in
      unlinked w values used free room spare A u.0 id.cell s.3 s.4 s.1 s.2 s.5

  pub unlink_result : (id : CellId) (h : ℕ) (front : List (CellId × T)) (v : T) (back : List (CellId × T)) → StandsBetween all id h front v back
      → seen (moved_front w id.cell 0) (set values id.cell None) used (spare + 1) heads ≡ record (with_list all h (front ++ back)) { spare = spare + 1 }
  unlink_result id h front v back e =
      let s = stands w values used free room spare A h front id v back e in
      ap (λ (l : List (Option (List (CellId × T)))). record { lists = l; spare = spare + 1; spare_heads = heads })
      (unlink_view w values used free room spare A h id.cell s.3 s.4 s.1 s.2 s.5
      ∙ ap (λ (r : List (CellId × T)). set (lists_of used values (cells_of_head w) (length w.heads)) h (Some (r ++ entries values s.4))) s.6
      ∙ ap (λ (r : List (CellId × T)). set (lists_of used values (cells_of_head w) (length w.heads)) h (Some (front ++ r))) s.7)

  -- the first spare cell
  pub spare_row : 0 < spare → (c : ℕ) × (rest : List ℕ) × (A.rows 0 ≡ c ∷ rest) × (ahead_of w (Head 0) ≡ Cell c)
  spare_row some = pick (A.rows 0) refl (A.fits.ring 0 A.some_head) where
    pick : (row : List ℕ) → A.rows 0 ≡ row → Linked w (Head 0) row (Head 0) → (c : ℕ) × (rest : List ℕ) × (A.rows 0 ≡ c ∷ rest) × (ahead_of w (Head 0) ≡ Cell c)
    pick [] e l = absurd (omega (arith, A.spare_is, ap length e))
    pick (c ∷ rest) e l = (c, rest, e, l.0)

  module _ (c h : ℕ) (leads : ahead_of w (Head 0) ≡ Cell c) (some : IsSome (list_at_head all h)) where
    spare_is : (rest : List ℕ) × (A.rows 0 ≡ c ∷ rest)
    spare_is = row_some w 0 c (A.rows 0) (A.fits.ring 0 A.some_head) leads

    pub can_push : CanMove w c h
    can_push = can_move w A.rows A.fits 0 h c [] spare_is.0 A.some_head (head_there h some) (λ e. not_own w values used free room spare A h (head_used h some) (sym e)) spare_is.1

    pub cell_in : c < length values
    cell_in = omega (arith, A.values_many, A.fits.within 0 c A.some_head (omega (arith, ap (count c) spare_is.1, count_same c spare_is.0)))

    pub push_fresh : InUse all (record { cell = c }) → ⊥
    push_fresh u =
        let s = stands w values used free room spare A u.0 u.1 (record { cell = c }) u.2 u.3 u.4 in
        apart w A.rows A.fits 0 u.0 c (λ e. not_own w values used free room spare A u.0 s.2 (sym e)) A.some_head s.1
        (omega (arith, ap (count c) spare_is.1, count_same c spare_is.0)) (omega (arith, ap (count c) s.5, count_append c s.3 (c ∷ s.4), count_same c s.4))

    module _ (value : T) where
      pub push_front_arena : IsArena (moved_front w c h) (set values c (Some value)) used free room (spare - 1)
      push_front_arena = front_arena w values used free room spare A h c spare_is.0 value (head_there h some) (head_used h some) spare_is.1

      pub push_back_arena : IsArena (moved_back w c h) (set values c (Some value)) used free room (spare - 1)
      push_back_arena = back_arena w values used free room spare A h c spare_is.0 value (head_there h some) (head_used h some) spare_is.1

      pub push_front_result : (list : List (CellId × T)) → list_at_head all h ≡ Some list
          → seen (moved_front w c h) (set values c (Some value)) used (spare - 1) heads ≡ record (with_list all h ((record { cell = c }, value) ∷ list)) { spare = spare - 1 }
      push_front_result list e =
          let f = found w values used free room spare A h list e in
          ap (λ (l : List (Option (List (CellId × T)))). record { lists = l; spare = spare - 1; spare_heads = heads })
          (front_view w values used free room spare A h c spare_is.0 value (head_there h some) (head_used h some) spare_is.1
          ∙ ap (λ (r : List (CellId × T)). set (lists_of used values (cells_of_head w) (length w.heads)) h (Some ((record { cell = c }, value) ∷ r))) f.3)

      pub push_back_result : (list : List (CellId × T)) → list_at_head all h ≡ Some list
          → seen (moved_back w c h) (set values c (Some value)) used (spare - 1) heads ≡ record (with_list all h (list ++ (record { cell = c }, value) ∷ [])) { spare = spare - 1 }
      push_back_result list e =
          let f = found w values used free room spare A h list e in
          ap (λ (l : List (Option (List (CellId × T)))). record { lists = l; spare = spare - 1; spare_heads = heads })
          (back_view w values used free room spare A h c spare_is.0 value (head_there h some) (head_used h some) spare_is.1
          ∙ ap (λ (r : List (CellId × T)). set (lists_of used values (cells_of_head w) (length w.heads)) h (Some (r ++ (record { cell = c }, value) ∷ []))) f.3)
