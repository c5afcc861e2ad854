-- The arena when the value of a cell is another one.
use Rattle.std.proofs.Common.{◌≡◌, ℕ, ◌<◌, inl, inr, refl, ap, sym, subst, ◌∙◌, Bool, true, List, ◌∷◌, ◌++◌, length, arith, Option, Some, None, is_some, get_or, set, get_or-set_same, get_or-set_other}
use Rattle.std.proofs.lemmas.Bool.{cases_eq}
use Rattle.std.proofs.lemmas.List.{length-set}
use Rattle.link_cells.specs.declared.id.CellId.{CellId}
use Rattle.link_cells.specs.Rings.{CellWords, count}
use Rattle.link_cells.specs.Arena.{Arena, IsArena, StandsBetween, entries, lists_of, cells_of_head, with_list}
use Rattle.link_cells.proofs.Around.{count_append, count_same}
use Rattle.link_cells.proofs.Moves.{row_once}
use Rattle.link_cells.proofs.Shown.{entries_append, entries_cons, entries_set, lists_is, stands}
use Rattle.link_cells.proofs.Arenas.{none_in, shows}
use Rattle.link_cells.proofs.Calls.{seen}

module _ {T : Type 0} (w : CellWords) (values : List (Option T)) (used : List Bool) (free : List ℕ) (room spare : ℕ) (A : IsArena w values used free room spare) where
  abbrev given : ℕ → T → List (Option T)
  given c x = set values c (Some x)

  given_arena : (c : ℕ) (x : T) → IsArena w (given c x) used free room spare
  given_arena c x = record {
    rows = A.rows;
    fits = A.fits;
    sum = A.sum;
    spare_is = A.spare_is;
    values_many = length-set values c (Some x) ∙ A.values_many;
    used_many = A.used_many;
    some_head = A.some_head;
    own = A.own;
    full = λ h d below on there. elim (cases_eq d c) [
      | inl e ↦ subst (λ (n : ℕ). is_some (get_or (given c x) n None) ≡ true) (sym e)
          (ap is_some (get_or-set_same values c (Some x) None (let w = A.fits.within h d below there in omega (arith, A.values_many, w, e))))
      | inr ne ↦ ap is_some (get_or-set_other values c d (Some x) None ne) ∙ A.full h d below on there
    ];
    empty = A.empty;
    free_once = A.free_once;
    free_in = A.free_in;
    has_room = A.has_room;
  }

  module _ (heads : ℕ) where
    abbrev whole : Arena T
    whole = seen w values used spare heads

    replaced_view : (id : CellId) (x : T) (h : ℕ) (front : List (CellId × T)) (v : T) (back : List (CellId × T)) → StandsBetween whole id h front v back
        → lists_of used (given id.cell x) (cells_of_head w) (length w.heads) ≡ set (lists_of used values (cells_of_head w) (length w.heads)) h (Some (front ++ (id, x) ∷ back))
    unfolding given_arena
    replaced_view id x h front v back e =
        let s = stands w values used free room spare A h front id v back e in
        let c = id.cell in
        let here : 0 < count c (A.rows h) = omega (arith, ap (count c) s.5, count_append c s.3 (c ∷ s.4), count_same c s.4) in
        let once : (count c s.3 ≡ 0) × (count c s.4 ≡ 0) = (omega (arith, row_once w A.rows A.fits h c s.1, ap (count c) s.5, count_append c s.3 (c ∷ s.4), count_same c s.4), omega (arith, row_once w A.rows A.fits h c s.1, ap (count c) s.5, count_append c s.3 (c ∷ s.4), count_same c s.4)) in
        let val : get_or (given c x) c None ≡ Some x = get_or-set_same values c (Some x) None (let w = A.fits.within h c s.1 here in omega (arith, A.values_many, w)) in
        lists_is w (given c x) used free room spare (given_arena c x)
        ∙ shows w values used free room spare A w (given c x) A.rows refl h (front ++ (id, x) ∷ back) s.1 s.2
        (ap (entries (given c x)) s.5 ∙ entries_append (given c x) s.3 (c ∷ s.4)
        ∙ ap (λ (r : List (CellId × T)). r ++ entries (given c x) (c ∷ s.4)) (entries_set values c (Some x) s.3 once.0 ∙ s.6)
        ∙ ap (λ (r : List (CellId × T)). front ++ r) (entries_cons (given c x) c s.4 x val ∙ ap (λ (r : List (CellId × T)). (id, x) ∷ r) (entries_set values c (Some x) s.4 once.1 ∙ s.7)))
        (λ k below other on. entries_set values c (Some x) (A.rows k) (none_in w values used free room spare A h k c s.1 below other here))

    pub replaced_arena : (id : CellId) (x : T) (n : ℕ) (o : Option T) → n ≡ id.cell → o ≡ Some x → IsArena w (set values n o) used free room spare
    replaced_arena id x n o en eo = rw eo (given_arena n x)

    pub replaced_result : (id : CellId) (x : T) (h : ℕ) (front : List (CellId × T)) (v : T) (back : List (CellId × T)) → StandsBetween whole id h front v back → (n : ℕ) (o : Option T) → n ≡ id.cell → o ≡ Some x
        → seen w (set values n o) used spare heads ≡ with_list whole h (front ++ (id, x) ∷ back)
    replaced_result id x h front v back e n o en eo =
        ap (λ (y : List (Option T)). seen w y used spare heads) (ap (λ (k : ℕ). set values k o) en ∙ ap (set values id.cell) eo)
        ∙ ap (λ (l : List (Option (List (CellId × T)))). record { lists = l; spare = spare; spare_heads = heads }) (replaced_view id x h front v back e)
