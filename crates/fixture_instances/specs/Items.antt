-- An item as a demand sees it: what each definition asks for in it, its parameter and its scope node.
use Rattle.std.specs.Prelude.{ℕ, ◌==◌, Bool, true, false, List, [], ◌∷◌, ◌++◌, Option, Some, None, if◌then◌else◌}
use Rattle.std.specs.Option.{option_to_list}
use Rattle.session_types.specs.declared.scope.Scope.{Scope}
use Rattle.session_types.specs.declared.scope.Scope.TheVariants.{Session, Module, Class, Function}
use Rattle.session_types.specs.Numbers.{among}
use Rattle.session_rules.specs.World.{Item}
use Rattle.fixture_table.specs.declared.types.CollectionNode.{CollectionNode}
use Rattle.fixture_table.specs.declared.types.FixtureDef.{FixtureDef}
use Rattle.fixture_table.specs.declared.types.NodeKind.{NodeKind}
use Rattle.fixture_table.specs.declared.types.NodeKind.TheVariants as kind
use Rattle.fixture_table.specs.Tree.{iter_parents, node_at}
use Rattle.fixture_table.specs.Nearest.{def_at, nearest_of}
use Rattle.fixture_table.specs.Faults.{requests}
use Rattle.fixture_table.specs.Tables.{TableValue}
use Rattle.fixture_instances.specs.declared.items.BoundValue.{BoundValue}
use Rattle.fixture_instances.specs.declared.items.ItemParam.{ItemParam}
use Rattle.fixture_instances.specs.declared.items.ItemRef.{ItemRef}

-- the number of the parameter that stands there for a definition
abbrev pub parameter_in : {V : Type 0} → List (ItemParam V) → ℕ → Option ℕ
parameter_in [] d = None
parameter_in (p ∷ ps) d = if d == p.def then Some p.number else parameter_in ps d

abbrev pub bound_names : {V : Type 0} → List (BoundValue V) → List ℕ
bound_names [] = []
bound_names (one ∷ others) = one.name ∷ bound_names others

abbrev pub is_file : NodeKind → Bool
is_file kind.Session = false
is_file kind.Directory = false
is_file kind.File = true
is_file kind.Class = false
is_file kind.Item = false

abbrev pub is_class : NodeKind → Bool
is_class kind.Session = false
is_class kind.Directory = false
is_class kind.File = false
is_class kind.Class = true
is_class kind.Item = false

-- the inmost of these nodes of a kind, or else the one that is given
abbrev pub inmost : (NodeKind → Bool) → List CollectionNode → ℕ → List ℕ → ℕ
inmost is_kind nodes other [] = other
inmost is_kind nodes other (at ∷ up) = if is_kind (node_at nodes at).kind then at else inmost is_kind nodes other up

-- the root, the item's file, its class, or the item; class scope outside of classes is the item
abbrev pub scope_node : List CollectionNode → ℕ → Scope → ℕ
scope_node nodes item Session = 0
scope_node nodes item Module = inmost is_file nodes item (iter_parents nodes item)
scope_node nodes item Class = inmost is_class nodes item (iter_parents nodes item)
scope_node nodes item Function = item

unfoldable pub def_scope_node : {V : Type 0} → TableValue → ItemRef V → ℕ → ℕ
def_scope_node table item d = scope_node table.nodes item.node (def_at table.defs d).scope

-- the definition that an argument stands for, unless its name is bound or has none
abbrev pub requested : List CollectionNode → List FixtureDef → ℕ → List ℕ → ℕ → ℕ → Option ℕ
requested nodes defs item bound d name =
    if among name bound then None
    else (if name == (def_at defs d).name then nearest_of nodes defs name item (Some d) else nearest_of nodes defs name item None)

abbrev pub requested_all : List CollectionNode → List FixtureDef → ℕ → List ℕ → ℕ → List ℕ → List ℕ
requested_all nodes defs item bound d [] = []
requested_all nodes defs item bound d (name ∷ names) = option_to_list (requested nodes defs item bound d name) ++ requested_all nodes defs item bound d names

unfoldable pub requests_in : {V : Type 0} → TableValue → ItemRef V → ℕ → List ℕ
requests_in table item d = requests table.nodes table.defs item.node (bound_names item.bound) d

-- an item in the words of a session, as far as demands know it
abbrev pub item_for_session : {V : Type 0} → TableValue → ItemRef V → Item
item_for_session table item =
    record {
      node = item.node;
      chain = [];
      requests = requests_in table item;
      parameter = parameter_in item.params;
      place = def_scope_node table item;
      closure = None;
      arguments = [];
    }
