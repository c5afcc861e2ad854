-- Which definition a name means (pytest's fixture guide, "Overriding fixtures on various levels").
use Rattle.std.specs.Prelude.{ℕ, ◌+◌, ◌<◌, Bool, true, false, List, [], ◌∷◌, length, Option, None, Some, slice_index_or, if◌then◌else◌, ◌==◌, ◌&&◌, nat_lt}
use Rattle.fixture_table.specs.declared.types.CollectionNode.{CollectionNode}
use Rattle.fixture_table.specs.declared.types.FixtureDef.{FixtureDef}
use Rattle.session_types.specs.declared.scope.Scope.TheVariants.{Function}
use Rattle.fixture_table.specs.Tree.{covers, node_depth}

-- what stands where there is no definition
abbrev pub blank : FixtureDef
blank = record { name = 0; scope = Function; autouse = false; params = 0; args = []; node = 0; code = 0 }

abbrev pub def_at : List FixtureDef → ℕ → FixtureDef
def_at defs d = slice_index_or defs d blank

-- a definition is visible to the items below its node
abbrev pub is_visible : List CollectionNode → FixtureDef → ℕ → Bool
is_visible nodes one item = covers nodes one.node item

-- further out than b: at a node above its node, or at its node and earlier
abbrev pub is_beyond : List CollectionNode → List FixtureDef → Option ℕ → ℕ → FixtureDef → Bool
is_beyond nodes defs None d one = true
is_beyond nodes defs (Some b) d one =
    if one.node == (def_at defs b).node then nat_lt d b else covers nodes one.node (def_at defs b).node

-- what may answer for a name
abbrev pub may_answer : List CollectionNode → List FixtureDef → ℕ → ℕ → Option ℕ → ℕ → FixtureDef → Bool
may_answer nodes defs name item beyond d one = (one.name == name) && (is_visible nodes one item && is_beyond nodes defs beyond d one)

-- of two, the one with the deeper node; at one node or one depth the later
abbrev pub overriding_def : List CollectionNode → List FixtureDef → ℕ → Option ℕ → Option ℕ
overriding_def nodes defs d None = Some d
overriding_def nodes defs d (Some later) =
    if nat_lt (node_depth nodes (def_at defs later).node) (node_depth nodes (def_at defs d).node) then Some d else Some later

-- the deepest of the definitions from a place on that may answer
abbrev pub nearest_from : List CollectionNode → List FixtureDef → ℕ → ℕ → Option ℕ → ℕ → List FixtureDef → Option ℕ
nearest_from nodes defs name item beyond place [] = None
nearest_from nodes defs name item beyond place (one ∷ rest) =
    if may_answer nodes defs name item beyond place one
    then overriding_def nodes defs place (nearest_from nodes defs name item beyond (place + 1) rest)
    else nearest_from nodes defs name item beyond (place + 1) rest

-- the nearest definition of a name
abbrev pub nearest_of : List CollectionNode → List FixtureDef → ℕ → ℕ → Option ℕ → Option ℕ
nearest_of nodes defs name item beyond = nearest_from nodes defs name item beyond 0 defs

-- each definition stands at a node of the tree
abbrev pub StandAtNodes : List CollectionNode → List FixtureDef → Type 0
StandAtNodes nodes defs = (d : ℕ) → d < length defs → (def_at defs d).node < length nodes
