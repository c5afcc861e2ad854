-- What a stack knows of the fixtures of its table.
use Rattle.std.proofs.Common.{◌≡◌, ℕ, List}
use Rattle.std.specs.Prelude.{true, false}
use Rattle.collect_tree.specs.Runnable.{IsRunnable}
use Rattle.collect_tree.specs.collect_items.declared.found.FoundSuite.{FoundSuite}
use Rattle.py_values.specs.declared.value.Value.{Value}
use Rattle.run_items.specs.declared.stand.Stand.{Stand}
use Rattle.test_session.specs.Stacks.{KnowsTable}

not_false : true ≡ false → ⊥
not_false e = absurd (cc)

-- a collected stack has looked
pub runnable_knows : (limit : ℕ) (found : FoundSuite) (stand : Stand) (codes : List Value) (names : List (List ℕ)) → IsRunnable found
    → KnowsTable (record { stand = stand; plan = record { run = record { limit = limit; suite = found.suite }; table = found.table }; looked = true; codes = codes; names = names })
runnable_knows limit found stand codes names r = record { tree = r.tree; counted = λ f. absurd (not_false f); many = λ t. r.many; scopes = λ t d l. r.scopes limit d l }
