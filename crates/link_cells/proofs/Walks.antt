-- Lists before and after a change, and a walk from cell to cell.
use Rattle.std.proofs.Common.{◌≡◌, ℕ, ◌<◌, inl, inr, refl, ap, sym, subst, ◌∙◌, List, [], ◌∷◌, ◌++◌, length, Option, Some, None, IsSome, IfSome, get_or-set_same, get_or-set_other, append_assoc}
use Rattle.std.proofs.Math.ListN.{get_or-eq_default}
use Rattle.std.proofs.lemmas.Bool.{cases_lt, cases_eq}
use Rattle.link_cells.proofs.Calls.{some_of}
use Rattle.link_cells.specs.declared.id.CellId.{CellId}
use Rattle.link_cells.specs.Arena.{Arena, list_at_head, with_list, StandsBetween, InUse, first_name}

-- a list that is found is within the lists
pub list_in : {T : Type 0} (a : Arena T) (h : ℕ) (list : List (CellId × T)) → list_at_head a h ≡ Some list → h < length a.lists
list_in a h list e = elim (cases_lt h (length a.lists)) [
  | inl lt ↦ lt
  | inr past ↦ absurd (let n = sym (get_or-eq_default a.lists None {n = h} past) ∙ e in cc)
]

pub list_here : {T : Type 0} (a : Arena T) (h : ℕ) (list next : List (CellId × T)) → list_at_head a h ≡ Some list → list_at_head (with_list a h next) h ≡ Some next
list_here a h list next e = get_or-set_same a.lists h (Some next) None (list_in a h list e)

pub list_there : {T : Type 0} (a : Arena T) (h k : ℕ) (next : List (CellId × T)) → (k ≡ h → ⊥) → list_at_head (with_list a h next) k ≡ list_at_head a k
list_there a h k next ne = get_or-set_other a.lists h k (Some next) None ne

-- a walk stands in front of what is left
pub record Walks {T : Type 0} (a : Arena T) (head : ℕ) (at : Option CellId) : Type 0 where
  pub front : List (CellId × T)
  pub back : List (CellId × T)
  pub list : list_at_head a head ≡ Some (front ++ back)
  pub first : at ≡ first_name back

pub walk_starts : {T : Type 0} (a : Arena T) (head : ℕ) (list : List (CellId × T)) (at : Option CellId) → list_at_head a head ≡ Some list → at ≡ first_name list → Walks a head at
walk_starts a head list at e f = record { front = []; back = list; list = e; first = f }

entry_of : {T : Type 0} (id : CellId) (back : List (CellId × T)) → Some id ≡ first_name back → (v : T) × (rest : List (CellId × T)) × (back ≡ (id, v) ∷ rest)
entry_of id [] e = absurd cc
entry_of id (x ∷ rest) e = (x.1, rest, ap (λ i. (i, x.1) ∷ rest) (same e)) where
  same : Some id ≡ Some x.0 → x.0 ≡ id
  same e = cc

pub walk_stands : {T : Type 0} (a : Arena T) (head : ℕ) (id : CellId) → Walks a head (Some id) → (front : List (CellId × T)) × (v : T) × (back : List (CellId × T)) × StandsBetween a id head front v back
walk_stands a head id w = let e = entry_of id w.back w.first in (w.front, e.0, e.1, w.list ∙ ap (λ r. Some (w.front ++ r)) e.2)

pub walk_in_use : {T : Type 0} (a : Arena T) (head : ℕ) (id : CellId) → Walks a head (Some id) → InUse a id
walk_in_use a head id w = let s = walk_stands a head id w in (head, s.0, s.1, s.2, s.3)

pub walk_next : {T : Type 0} (a : Arena T) (head : ℕ) (id : CellId) → Walks a head (Some id) → (at : Option CellId)
    → ((h : ℕ) (front : List (CellId × T)) (v : T) (back : List (CellId × T)) → StandsBetween a id h front v back → at ≡ first_name back) → Walks a head at
walk_next a head id w at f =
    let s = walk_stands a head id w in
    record { front = s.0 ++ (id, s.1) ∷ []; back = s.2; list = s.3 ∙ ap (λ r. Some r) (sym (append_assoc s.0 ((id, s.1) ∷ []) s.2)); first = f head s.0 s.1 s.2 s.3 }

pub some_kept : {T : Type 0} (a : Arena T) (h k : ℕ) (next : List (CellId × T)) → IsSome (list_at_head a k) → IsSome (list_at_head (with_list a h next) k)
some_kept a h k next some = elim (cases_eq k h) [
  | inl e ↦ let o = some_of (list_at_head a k) some in
      subst (λ (n : ℕ). IsSome (list_at_head (with_list a n next) k)) e (rw (list_here a k o.0 next o.1) refl)
  | inr ne ↦ rw (list_there a h k next ne) some
]

-- a list that is there, and one that is not
pub apart_lists : {T : Type 0} (a : Arena T) (h k : ℕ) → list_at_head a h ≡ None → IsSome (list_at_head a k) → k ≡ h → ⊥
apart_lists a h k none some e = let o = some_of (list_at_head a k) some in absurd (let n = sym (ap (list_at_head a) e ∙ none) ∙ o.1 in cc)

pub walk_found : {T : Type 0} (a : Arena T) (head : ℕ) (at : Option CellId) → Walks a head at → IfSome at (InUse a)
walk_found a head None w = tt
walk_found a head (Some id) w = walk_in_use a head id w
