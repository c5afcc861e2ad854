-- The nodes above a node, one step at a time.
use Rattle.std.proofs.Common.{◌≡◌, ℕ, ◌<◌, ◌≤◌, refl, ap, sym, ◌∙◌, Bool, List, ◌∷◌, length, arith, zero, suc, eq-eqb, ◌||◌, inl, inr}
use Rattle.std.proofs.lemmas.Bool.{ne_eqb, cases_eq}
use Rattle.fixture_table.specs.declared.types.CollectionNode.{CollectionNode}
use Rattle.fixture_table.specs.Tree.{IsTree, parent_of, parents_within, iter_parents, covers, node_depth}
use Rattle.session_types.specs.Numbers.{among}

-- any number that is enough gives the same chain
pub chain_two : (nodes : List CollectionNode) → IsTree nodes → (m n at : ℕ) → at ≤ m → at ≤ n → at < length nodes → parents_within m nodes at ≡ parents_within n nodes at
chain_two nodes tree zero zero at le len lt = refl
chain_two nodes tree zero (suc n) at le len lt = rw (eq-eqb at 0 (omega arith)) refl
chain_two nodes tree (suc m) zero at le len lt = rw (eq-eqb at 0 (omega arith)) refl
chain_two nodes tree (suc m) (suc n) at le len lt =
    elim (cases_eq at 0) [
      | inl z ↦ rw (eq-eqb at 0 z) refl
      | inr ne ↦ rw (ne_eqb at 0 ne)
          (let up = tree.behind at (omega arith) lt in ap (λ (r : List ℕ). at ∷ r) (chain_two nodes tree m n (parent_of nodes at) (omega arith) (omega arith) (omega arith)))
    ]

-- the chain of a node is the node and the chain of its parent
pub chain_step : (nodes : List CollectionNode) → IsTree nodes → (at : ℕ) → (at ≡ 0 → ⊥) → at < length nodes → iter_parents nodes at ≡ at ∷ iter_parents nodes (parent_of nodes at)
chain_step nodes tree at ne lt =
    let up = tree.behind at (omega arith) lt in
    chain_two nodes tree at (suc at) at (omega arith) (omega arith) lt
    ∙ rw (ne_eqb at 0 ne) (ap (λ (r : List ℕ). at ∷ r) (chain_two nodes tree at (parent_of nodes at) (parent_of nodes at) (omega arith) (omega arith) (omega arith)))

pub covers_step : (nodes : List CollectionNode) → IsTree nodes → (outer at : ℕ) → (at ≡ outer → ⊥) → (at ≡ 0 → ⊥) → at < length nodes → covers nodes outer (parent_of nodes at) ≡ covers nodes outer at
covers_step nodes tree outer at other ne lt = sym (ap (among outer) (chain_step nodes tree at ne lt) ∙ ap (λ (b : Bool). b || covers nodes outer (parent_of nodes at)) (ne_eqb at outer other))

pub depth_step : (nodes : List CollectionNode) → IsTree nodes → (at : ℕ) → (at ≡ 0 → ⊥) → at < length nodes → node_depth nodes at ≡ suc (node_depth nodes (parent_of nodes at))
depth_step nodes tree at ne lt = ap length (chain_step nodes tree at ne lt)
