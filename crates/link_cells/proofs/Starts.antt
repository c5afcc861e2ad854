-- The arena at its start, and the answers of the calls that take heads and move lists.
use Rattle.std.proofs.Common.{◌≡◌, ℕ, ◌≤◌, ◌+◌, ◌-◌, refl, ap, sym, subst, ◌∙◌, Bool, true, false, List, [], ◌∷◌, ◌++◌, length, arith, Option, Some, None, IsSome, get_or, set, length-append, get_or-set_same, is_some}
use Rattle.std.proofs.lemmas.List.{get_or_default}
use Rattle.std.proofs.lemmas.List.FromFn.{length-map-range_with_len}
use Rattle.link_cells.specs.declared.link.Link.{Link}
use Rattle.link_cells.specs.declared.link.Link.TheVariants.{Cell, Head}
use Rattle.link_cells.specs.declared.link.Links.{Links}
use Rattle.link_cells.specs.declared.id.CellId.{CellId}
use Rattle.link_cells.specs.Rings.{CellWords, alone, ahead_of, back_of, HasWord, Linked, spliced, moved_front, attached}
use Rattle.link_cells.specs.Arena.{Arena, IsArena, list_if_used, lists_of, cells_of_head, list_at_head, with_list, InUse, StandsBetween}
use Rattle.link_cells.proofs.Around.{one_le}
use Rattle.link_cells.proofs.Joined.{last_there, first_there, front_there}
use Rattle.link_cells.proofs.Heads.{taken_view, head_is, given_view}
use Rattle.link_cells.proofs.Spliced.{row_some, row_none, spliced_arena, spliced_view, spliced_none}
use Rattle.link_cells.proofs.Calls.{seen, some_of, head_there, cell_there, value_is, unlink_arena, unlink_result}
use Rattle.link_cells.proofs.Grown.{more_cells, grown, grown_arena, grown_view}

abbrev pub first_words : CellWords
first_words = record { cells = []; heads = alone 0 ∷ [] }

-- no cells, and the head of the spare ones
pub first_arena : {T : Type 0} → IsArena {T = T} first_words [] (false ∷ []) [] 1 0
first_arena {T} = record {
  rows = λ h. [];
  fits = record {
    ring = λ h lt. only h (omega arith);
    within = λ h c lt there. absurd (omega arith);
    once = λ c. omega arith;
  };
  sum = refl;
  spare_is = refl;
  values_many = refl;
  used_many = refl;
  some_head = omega arith;
  own = refl;
  full = λ h c lt yes there. absurd (omega arith);
  empty = λ h some lt no_use. refl;
  free_once = λ h some lt. absurd (omega arith);
  free_in = λ h there. absurd (omega arith);
  has_room = omega arith;
} where
  only : (h : ℕ) → h ≡ 0 → Linked first_words (Head h) [] (Head h)
  only h e = subst (λ (n : ℕ). Linked first_words (Head n) [] (Head n)) (sym e) (refl, refl)

module _ {T : Type 0} (w : CellWords) (values : List (Option T)) (used : List Bool) (free : List ℕ) (room spare : ℕ) (A : IsArena w values used free room spare) where
  pub spare_le : spare ≤ length values
  spare_le = omega (arith, A.spare_is, A.sum, A.values_many, one_le (λ n. length (A.rows n)) 0 (length w.heads) A.some_head)

  pub taken_result : (h : ℕ) (rest : List ℕ) (is : free ≡ rest ++ h ∷ [])
      → seen w values (set used h true) spare (length rest) ≡ record (with_list (seen w values used spare (length free)) h []) { spare_heads = length free - 1 }
  taken_result h rest is =
      ap (λ (l : List (Option (List (CellId × T)))). record { lists = l; spare = spare; spare_heads = length rest }) (taken_view w values used free room spare A h rest is)
      ∙ ap (λ (n : ℕ). record { lists = set (lists_of used values (cells_of_head w) (length w.heads)) h (Some []); spare = spare; spare_heads = n }) (omega (arith, ap length is, length-append rest (h ∷ [])))

  pub taken_listed : (h : ℕ) (rest : List ℕ) (is : free ≡ rest ++ h ∷ []) → get_or (lists_of (set used h true) values (cells_of_head w) (length w.heads)) h None ≡ Some []
  taken_listed h rest is =
      ap (λ (l : List (Option (List (CellId × T)))). get_or l h None) (taken_view w values used free room spare A h rest is)
      ∙ get_or-set_same (lists_of used values (cells_of_head w) (length w.heads)) h (Some []) None (omega (arith, head_is w values used free room spare A h rest is, length-map-range_with_len (list_if_used used values (cells_of_head w)) 0 (length w.heads)))

  pub given_result : (h : ℕ) → list_at_head (seen w values used spare (length free)) h ≡ Some []
      → seen w values (set used h false) spare (length (free ++ h ∷ [])) ≡ record { lists = set (lists_of used values (cells_of_head w) (length w.heads)) h None; spare = spare; spare_heads = length free + 1 }
  given_result h e =
      ap (λ (l : List (Option (List (CellId × T)))). record { lists = l; spare = spare; spare_heads = length (free ++ h ∷ []) }) (given_view w values used free room spare A h e)
      ∙ ap (λ (n : ℕ). record { lists = set (lists_of used values (cells_of_head w) (length w.heads)) h None; spare = spare; spare_heads = n }) (length-append free (h ∷ []))

  module _ (heads from to : ℕ) (ne : from ≡ to → ⊥) (f : IsSome (list_at_head (seen w values used spare heads) from)) (t : IsSome (list_at_head (seen w values used spare heads) to)) where
    abbrev all : Arena T
    all = seen w values used spare heads

    front : (x : List (CellId × T)) × (list_at_head all from ≡ Some x)
    front = some_of (list_at_head all from) f

    back : (x : List (CellId × T)) × (list_at_head all to ≡ Some x)
    back = some_of (list_at_head all to) t

    module _ (c : ℕ) (leads : ahead_of w (Head from) ≡ Cell c) where
      row : (cs : List ℕ) × (A.rows from ≡ c ∷ cs)
      row = row_some w from c (A.rows from) (A.fits.ring from (head_there w values used free room spare A heads from f)) leads

      pub last_in : HasWord w (back_of w (Head from))
      last_in = last_there w A.rows A.fits from to ne (head_there w values used free room spare A heads from f) (head_there w values used free room spare A heads to t) c row.0 row.1

      pub first_in : HasWord w (ahead_of w (Head from))
      first_in = first_there w A.rows A.fits from to ne (head_there w values used free room spare A heads from f) (head_there w values used free room spare A heads to t) c row.0 row.1

      pub front_in : HasWord w (ahead_of w (Head to))
      front_in = front_there w A.rows A.fits from to ne (head_there w values used free room spare A heads from f) (head_there w values used free room spare A heads to t) c row.0 row.1

      pub splice_arena : IsArena (spliced w from to) values used free room spare
      splice_arena = spliced_arena w values used free room spare A from to ne front.0 back.0 front.1 back.1 c row.0 row.1

      pub splice_result : (xs ys : List (CellId × T)) → list_at_head all from ≡ Some xs → list_at_head all to ≡ Some ys → seen (spliced w from to) values used spare heads ≡ with_list (with_list all from []) to (xs ++ ys)
      splice_result xs ys ef et = ap (λ (l : List (Option (List (CellId × T)))). record { lists = l; spare = spare; spare_heads = heads })
          (spliced_view w values used free room spare A from to ne xs ys ef et c row.0 row.1)

    pub splice_none : (k : ℕ) → ahead_of w (Head from) ≡ Head k → (xs ys : List (CellId × T)) → list_at_head all from ≡ Some xs → list_at_head all to ≡ Some ys → all ≡ with_list (with_list all from []) to (xs ++ ys)
    splice_none k leads xs ys ef et = ap (λ (l : List (Option (List (CellId × T)))). record { lists = l; spare = spare; spare_heads = heads })
        (spliced_none w values used free room spare A from to ne xs ys ef et (row_none w from k (A.rows from) (A.fits.ring from (head_there w values used free room spare A heads from f)) leads))

module _ {T : Type 0} (w : CellWords) (values : List (Option T)) (used : List Bool) (free : List ℕ) (room spare : ℕ) (A : IsArena w values used free room spare) (heads : ℕ) where
  abbrev pub whole : Arena T
  whole = seen w values used spare heads

  pub at_unlink : (id : CellId) → InUse whole id → (v : CellWords) (n : ℕ) (o : Option T) → v ≡ moved_front w n 0 → n ≡ id.cell → o ≡ None → IsArena v (set values n o) used free room (spare + 1)
  at_unlink id u v n o ev en eo =
      subst (λ (x : CellWords). IsArena x (set values n o) used free room (spare + 1)) (sym (ev ∙ ap (λ (k : ℕ). moved_front w k 0) en))
      (subst (λ (x : List (Option T)). IsArena (moved_front w id.cell 0) x used free room (spare + 1)) (sym (ap (λ (k : ℕ). set values k o) en ∙ ap (set values id.cell) eo))
      (unlink_arena w values used free room spare A heads id u))

  pub at_unlink_result : (id : CellId) (h : ℕ) (front : List (CellId × T)) (x : T) (back : List (CellId × T)) → StandsBetween whole id h front x back
      → (v : CellWords) (n : ℕ) (o : Option T) → v ≡ moved_front w n 0 → n ≡ id.cell → o ≡ None → seen v (set values n o) used (spare + 1) heads ≡ record (with_list whole h (front ++ back)) { spare = spare + 1 }
  at_unlink_result id h front x back e v n o ev en eo =
      ap (λ (y : CellWords). seen y (set values n o) used (spare + 1) heads) (ev ∙ ap (λ (k : ℕ). moved_front w k 0) en)
      ∙ ap (λ (y : List (Option T)). seen (moved_front w id.cell 0) y used (spare + 1) heads) (ap (λ (k : ℕ). set values k o) en ∙ ap (set values id.cell) eo)
      ∙ unlink_result w values used free room spare A heads id h front x back e

  -- the value that is read at a cell in use
  pub at_value : (id : CellId) (h : ℕ) (front : List (CellId × T)) (x : T) (back : List (CellId × T)) → StandsBetween whole id h front x back → (n : ℕ) (o : Option T) → n ≡ id.cell → o ≡ get_or values n o → o ≡ Some x
  at_value id h front x back e n o en eo =
      eo ∙ get_or_default values n o None (let there = cell_there w values used free room spare A heads id (h, front, x, back, e) in omega (arith, A.values_many))
      ∙ ap (λ (k : ℕ). get_or values k None) en ∙ value_is w values used free room spare A heads id h front x back e

  pub at_some : (id : CellId) → InUse whole id → (n : ℕ) (o : Option T) → n ≡ id.cell → o ≡ get_or values n o → is_some o ≡ true
  at_some id u n o en eo = ap is_some (at_value id u.0 u.1 u.2 u.3 u.4 n o en eo)

module _ {T : Type 0} (w : CellWords) (values : List (Option T)) (used : List Bool) (free : List ℕ) (room spare : ℕ) (A : IsArena w values used free room spare)
    (v u : CellWords) (n : ℕ) (l : Links) (first : Link) (eu : u ≡ record w { cells = w.cells ++ l ∷ [] }) (el : l ≡ alone 0) (en : n ≡ length w.cells) (ef : first ≡ ahead_of u (Head 0)) (ev : v ≡ attached u n (Head 0) first) where
  same_u : u ≡ more_cells w
  same_u = eu ∙ ap (λ (k : Links). record w { cells = w.cells ++ k ∷ [] }) el

  same_v : v ≡ grown w values used free room spare A
  same_v =
      ev ∙ ap (λ (k : Link). attached u n (Head 0) k) ef ∙ ap (λ (x : CellWords). attached x n (Head 0) (ahead_of x (Head 0))) same_u
      ∙ ap (λ (k : ℕ). attached (more_cells w) k (Head 0) (ahead_of (more_cells w) (Head 0))) en

  pub at_grown : IsArena v (values ++ None ∷ []) used free room (spare + 1)
  at_grown = subst (λ (x : CellWords). IsArena x (values ++ None ∷ []) used free room (spare + 1)) (sym same_v) (grown_arena w values used free room spare A)

  pub at_grown_result : (heads : ℕ) → seen v (values ++ None ∷ []) used (spare + 1) heads ≡ record (seen w values used spare heads) { spare = spare + 1 }
  at_grown_result heads =
      ap (λ (x : CellWords). seen x (values ++ None ∷ []) used (spare + 1) heads) same_v
      ∙ ap (λ (x : List (Option (List (CellId × T)))). record { lists = x; spare = spare + 1; spare_heads = heads }) (grown_view w values used free room spare A)
