-- The tree of collection nodes.
use Rattle.std.specs.Prelude.{ℕ, ◌<◌, Bool, List, [], ◌∷◌, length, slice_index_or, if◌then◌else◌, ◌==◌, zero, suc}
use Rattle.session_types.specs.Numbers.{among}
use Rattle.fixture_table.specs.declared.types.CollectionNode.{CollectionNode}
use Rattle.fixture_table.specs.declared.types.NodeKind.TheVariants as kind

abbrev pub root : CollectionNode
root = record { kind = kind.Session; parent = 0 }

abbrev pub node_at : List CollectionNode → ℕ → CollectionNode
node_at nodes at = slice_index_or nodes at root

abbrev pub parent_of : List CollectionNode → ℕ → ℕ
parent_of nodes at = (node_at nodes at).parent

-- node 0 is the root, and each other node stands behind its parent
pub record IsTree (nodes : List CollectionNode) : Type 0 where
  pub rooted : 0 < length nodes
  pub behind : (at : ℕ) → 0 < at → at < length nodes → parent_of nodes at < at

-- the node and those above it, inmost first; there are no more than its number and one
abbrev pub parents_within : ℕ → List CollectionNode → ℕ → List ℕ
parents_within zero nodes at = at ∷ []
parents_within (suc most) nodes at = at ∷ (if at == 0 then [] else parents_within most nodes (parent_of nodes at))

abbrev pub iter_parents : List CollectionNode → ℕ → List ℕ
iter_parents nodes at = parents_within at nodes at

-- how many nodes there are from this one up
abbrev pub node_depth : List CollectionNode → ℕ → ℕ
node_depth nodes at = length (iter_parents nodes at)

-- the one is the other or above it
abbrev pub covers : List CollectionNode → ℕ → ℕ → Bool
covers nodes outer inner = among outer (iter_parents nodes inner)
