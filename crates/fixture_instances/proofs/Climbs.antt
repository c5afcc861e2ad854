-- Going up from a node to the first of a kind.
use Rattle.std.proofs.Common.{◌≡◌, ℕ, ◌<◌, zero, suc, Bool, true, false, cond, List, [], ◌∷◌, refl, sym, ap, ◌∙◌, length, if◌then◌else◌, ◌==◌}
use Rattle.fixture_table.specs.declared.types.CollectionNode.{CollectionNode}
use Rattle.fixture_table.specs.declared.types.NodeKind.{NodeKind}
use Rattle.fixture_table.specs.Tree.{IsTree, parents_within, iter_parents, node_at, parent_of}
use Rattle.fixture_table.proofs.Chains.{chain_step}
use Rattle.fixture_instances.specs.Items.{inmost}

pub climb : (is_kind : NodeKind → Bool) (nodes : List CollectionNode) (other at : ℕ) → IsTree nodes → (at ≡ 0 → ⊥) → at < length nodes → is_kind (node_at nodes at).kind ≡ false → inmost is_kind nodes other (iter_parents nodes (parent_of nodes at)) ≡ inmost is_kind nodes other (iter_parents nodes at)
climb is_kind nodes other at tree ne lt e =
    sym (ap (inmost is_kind nodes other) (chain_step nodes tree at ne lt) ∙ ap (λ (b : Bool). cond b at (inmost is_kind nodes other (iter_parents nodes (parent_of nodes at)))) e)

starts : (nodes : List CollectionNode) (at : ℕ) → (up : List ℕ) × (iter_parents nodes at ≡ at ∷ up)
starts nodes zero = ([], refl)
starts nodes (suc m) = ((if suc m == 0 then [] else parents_within m nodes (parent_of nodes (suc m))), refl)

pub stops : (is_kind : NodeKind → Bool) (nodes : List CollectionNode) (other at : ℕ) → is_kind (node_at nodes at).kind ≡ true → inmost is_kind nodes other (iter_parents nodes at) ≡ at
stops is_kind nodes other at e =
    let s = starts nodes at in
    ap (inmost is_kind nodes other) s.1 ∙ ap (λ (b : Bool). cond b at (inmost is_kind nodes other s.0)) e

pub tops : (is_kind : NodeKind → Bool) (nodes : List CollectionNode) (other at : ℕ) → at ≡ 0 → is_kind (node_at nodes at).kind ≡ false → inmost is_kind nodes other (iter_parents nodes at) ≡ other
tops is_kind nodes other zero z e = ap (λ (b : Bool). cond b 0 other) e
tops is_kind nodes other (suc m) z e = (let q : suc m ≡ 0 = z in cc)
