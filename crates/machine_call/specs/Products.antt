-- Calls that make products.
use Rattle.std.specs.Prelude.{Bool, true, false, Option, Some, None}
use Rattle.run_tree.specs.Todo.{spend_all}
use Rattle.call_products.specs.declared.product.Product.{Product}
use Rattle.py_values.specs.Ends.{cost_of}
use Rattle.py_values.specs.declared.end.Raise.{Raise}
use Rattle.machine_state.specs.py_world.Site.{Around}
use Rattle.machine_state.specs.py_world.Outcome.{product_end, raised, spent}
use Rattle.machine_state.specs.Places.{CoreRest, CoreState, CoreThen}

-- what a call makes, behind its cost
abbrev pub product_called : Product → Around → CoreState → CoreThen → CoreRest
product_called x a s k = spend_all (cost_of x.made) (spent a.trace s) (k (product_end x a.trace s))

-- what a mark that was not called makes
abbrev pub uncalled : Bool → Product → Option Product
uncalled true x = None
uncalled false x = Some x

abbrev pub uncalled_or : Option Product → Raise → Around → CoreState → CoreThen → CoreRest
uncalled_or (Some x) none a s k = product_called x a s k
uncalled_or None none a s k = k (raised none a.trace s)
