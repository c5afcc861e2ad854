-- An item whose row binds nothing, as a demand sees it.
use Rattle.std.specs.Prelude.{ℕ, [], Option, None, Some}
use Rattle.fixture_instances.specs.declared.items.ItemRef.{ItemRef}

-- the item of a node, with this instance of its class
abbrev pub plain_item : {V : Type 0} → ℕ → Option V → ItemRef V
plain_item node own = record { node = node; own = own; bound = []; params = [] }

-- the item of the next node, where there is one
abbrev pub plain_next : {V : Type 0} → Option ℕ → Option (ItemRef V)
plain_next None = None
plain_next (Some node) = Some (plain_item node None)
