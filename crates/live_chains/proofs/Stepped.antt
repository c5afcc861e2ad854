-- A walk along a chain, from cell to cell.
use Rattle.std.proofs.Common.{◌≡◌, ℕ, ◌<◌, suc, cond, List, [], ◌∷◌, ◌++◌, inl, refl, sym, ap, ◌∙◌, subst, eqb, eq-eqb, arith, length, append_assoc, Option, Some, None}
use Rattle.std.proofs.lemmas.Bool.{ne_eqb}
use Rattle.link_cells.specs.declared.id.CellId.{CellId}
use Rattle.link_cells.specs.Arena.{Arena, list_at_head, StandsBetween, InUse, first_name}
use Rattle.link_cells.proofs.Calls.{some_of}
use Rattle.link_cells.proofs.Walks.{Walks, walk_stands, walk_in_use}
use Rattle.session_types.proofs.Lists.{In-right}
use Rattle.session_types.specs.declared.instance.Instance.{Instance}
use Rattle.live_chains.specs.Chained.{InstanceCell, Apart, cell_key, or_empty, list_at, IsChain}

-- the entries from a cell on
abbrev pub entries_from : Option CellId → List InstanceCell → List InstanceCell
entries_from None es = []
entries_from (Some id) [] = []
entries_from (Some id) (e ∷ es) = cond (eqb e.0.cell id.cell) (e ∷ es) (entries_from (Some id) es)

from_name : (e : InstanceCell) (front back : List InstanceCell) → Apart cell_key (front ++ e ∷ back) → entries_from (Some e.0) (front ++ e ∷ back) ≡ e ∷ back
from_name e [] back a = rw (eq-eqb e.0.cell e.0.cell refl) refl
from_name e (x ∷ front) back a = rw (ne_eqb x.0.cell e.0.cell (λ q. a.0 e (In-right e front (e ∷ back) (inl refl)) (sym q))) (from_name e front back a.1)

from_is : (front back : List InstanceCell) → Apart cell_key (front ++ back) → entries_from (first_name back) (front ++ back) ≡ back
from_is front [] a = refl
from_is front (e ∷ back) a = from_name e front back a

-- what is left of a walk, and its length
abbrev pub left : Arena (Instance ℕ) → ℕ → Option CellId → List InstanceCell
left arena head at = entries_from at (list_at arena head)

left_split : (a : Arena (Instance ℕ)) (head : ℕ) → IsChain a head → (front back : List InstanceCell) → list_at_head a head ≡ Some (front ++ back) → (at : Option CellId) → at ≡ first_name back → left a head at ≡ back
left_split a head chain front back e at f =
    let list : list_at a head ≡ front ++ back = ap or_empty e in
    ap (entries_from at) list ∙ (ap (λ o. entries_from o (front ++ back)) f ∙ from_is front back (subst (λ (l : List InstanceCell). Apart cell_key l) list chain.apart))

pub left_all : (a : Arena (Instance ℕ)) (head : ℕ) → IsChain a head → (at : Option CellId) → ((list : List InstanceCell) → list_at_head a head ≡ Some list → at ≡ first_name list) → Walks a head at × (left a head at ≡ list_at a head)
left_all a head chain at f =
    let o = some_of (list_at_head a head) chain.used in
    (record { front = []; back = o.0; list = o.1; first = f o.0 o.1 }, left_split a head chain [] o.0 o.1 at (f o.0 o.1) ∙ sym (ap or_empty o.1))

-- one step of a walk
pub record Stepped (a : Arena (Instance ℕ)) (head : ℕ) (id : CellId) (value : Instance ℕ) (next : Option CellId) : Type 0 where
  pub here : left a head (Some id) ≡ (id, value) ∷ left a head next
  pub walk : Walks a head next
  pub less : length (left a head next) < length (left a head (Some id))

pub stepped : (a : Arena (Instance ℕ)) (head : ℕ) → IsChain a head → (id : CellId) → Walks a head (Some id) → (value : Instance ℕ) (next : Option CellId)
    → ((h : ℕ) (front : List InstanceCell) (v : Instance ℕ) (back : List InstanceCell) → StandsBetween a id h front v back → value ≡ v)
    → ((h : ℕ) (front : List InstanceCell) (v : Instance ℕ) (back : List InstanceCell) → StandsBetween a id h front v back → next ≡ first_name back) → Stepped a head id value next
stepped a head chain id w value next got goes =
    let s = walk_stands a head id w in
    let l : list_at_head a head ≡ Some ((s.0 ++ (id, s.1) ∷ []) ++ s.2) = s.3 ∙ ap (λ r. Some r) (sym (append_assoc s.0 ((id, s.1) ∷ []) s.2)) in
    let now : left a head (Some id) ≡ (id, s.1) ∷ s.2 = left_split a head chain s.0 ((id, s.1) ∷ s.2) s.3 (Some id) refl in
    let rest : left a head next ≡ s.2 = left_split a head chain (s.0 ++ (id, s.1) ∷ []) s.2 l next (goes head s.0 s.1 s.2 s.3) in
    let here : left a head (Some id) ≡ (id, value) ∷ left a head next = now ∙ (ap (λ (i : Instance ℕ). (id, i) ∷ s.2) (sym (got head s.0 s.1 s.2 s.3)) ∙ ap (λ (l : List InstanceCell). (id, value) ∷ l) (sym rest)) in
    let long : length (left a head (Some id)) ≡ suc (length (left a head next)) = ap (λ (l : List InstanceCell). length l) here in
    record { here = here; walk = record { front = s.0 ++ (id, s.1) ∷ []; back = s.2; list = l; first = goes head s.0 s.1 s.2 s.3 }; less = omega (arith, long) }

-- a walk that has come to an end
pub left_none : (a : Arena (Instance ℕ)) (head : ℕ) (at : Option CellId) → at ≡ None → left a head at ≡ []
left_none a head at e = ap (left a head) e

pub in_use : (a : Arena (Instance ℕ)) (head : ℕ) (at : Option CellId) (id : CellId) → at ≡ Some id → Walks a head at → InUse a id
in_use a head at id e w = walk_in_use a head id (subst (λ (o : Option CellId). Walks a head o) e w)

-- a step from where a walk stands
pub record Goes (a : Arena (Instance ℕ)) (head : ℕ) (at : Option CellId) (id : CellId) (value : Instance ℕ) (next : Option CellId) : Type 0 where
  pub here : left a head at ≡ (id, value) ∷ left a head next
  pub walk : Walks a head next
  pub less : length (left a head next) < length (left a head at)

pub goes : (a : Arena (Instance ℕ)) (head : ℕ) → IsChain a head → (at : Option CellId) (id : CellId) → at ≡ Some id → Walks a head at → (value : Instance ℕ) (next : Option CellId)
    → ((h : ℕ) (front : List InstanceCell) (v : Instance ℕ) (back : List InstanceCell) → StandsBetween a id h front v back → value ≡ v)
    → ((h : ℕ) (front : List InstanceCell) (v : Instance ℕ) (back : List InstanceCell) → StandsBetween a id h front v back → next ≡ first_name back) → Goes a head at id value next
goes a head chain at id e w value next got then =
    let s = stepped a head chain id (subst (λ (o : Option CellId). Walks a head o) e w) value next got then in
    record {
      here = ap (left a head) e ∙ s.here;
      walk = s.walk;
      less = subst (λ (o : Option CellId). length (left a head next) < length (left a head o)) (sym e) s.less;
    }

-- the cell that a walk stands at
pub stands_at : (a : Arena (Instance ℕ)) (head : ℕ) → IsChain a head → (at : Option CellId) (id : CellId) → at ≡ Some id → Walks a head at → (value : Instance ℕ)
    → ((h : ℕ) (front : List InstanceCell) (v : Instance ℕ) (back : List InstanceCell) → StandsBetween a id h front v back → value ≡ v) → (rest : List InstanceCell) × (left a head at ≡ (id, value) ∷ rest)
stands_at a head chain at id e w value got =
    let s = walk_stands a head id (subst (λ (o : Option CellId). Walks a head o) e w) in
    (s.2, ap (left a head) e ∙ (left_split a head chain s.0 ((id, s.1) ∷ s.2) s.3 (Some id) refl ∙ ap (λ (i : Instance ℕ). (id, i) ∷ s.2) (sym (got head s.0 s.1 s.2 s.3))))
