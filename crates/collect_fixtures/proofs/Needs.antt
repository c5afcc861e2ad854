-- What an item needs is its closure, or its fault.
use Rattle.std.proofs.Common.{◌≡◌, ◌⊎◌, inl, inr, ℕ, List, [], Result, Ok, Err, ap, sym, subst}
use Rattle.fixture_table.proofs.Deciding.{closure_or_fault, not_both, one_closure, one_fault}
use Rattle.fixture_table.specs.Faults.{IsClosure, IsFault}
use Rattle.fixture_table.specs.Tables.{TableValue}
use Rattle.fixture_table.specs.declared.fault.FixtureFault.{FixtureFault}
use Rattle.fixture_definitions.specs.Arguments.{but_request}
use Rattle.fixture_definitions.specs.declared.found.Definition.{Definition}
use Rattle.collect_fixtures.specs.Closures.{IsNeeded, as_needed, closure_told, item_closure, needed, item_needs}
use Rattle.collect_fixtures.specs.Tables.{all_numbers}
use Rattle.test_suite.specs.declared.item.ItemClosure.TheVariants.{Whole}

module _ (table : TableValue) (item : ℕ) (bound uses args : List ℕ) where
  abbrev Decided : Type 0
  Decided =
      ((closure : List ℕ) × IsClosure table.nodes table.defs item bound uses args closure)
      ⊎ ((fault : FixtureFault) × IsFault table.nodes table.defs item bound uses args fault)

  closed : (d : Decided) (closure : List ℕ) → IsClosure table.nodes table.defs item bound uses args closure → (as_needed table item bound uses args d).0 ≡ Ok closure
  closed (inl c) closure is = ap Ok (one_closure table.nodes table.defs item bound uses args c.0 closure c.1 is)
  closed (inr f) closure is = absurd (not_both table.nodes table.defs item bound uses args closure f.0 is f.1)

  faulty : (d : Decided) (fault : FixtureFault) → IsFault table.nodes table.defs item bound uses args fault → (as_needed table item bound uses args d).0 ≡ Err fault
  faulty (inl c) fault is = absurd (not_both table.nodes table.defs item bound uses args c.0 fault c.1 is)
  faulty (inr f) fault is = ap Err (one_fault table.nodes table.defs item bound uses args f.0 fault f.1 is)

  pub needs_closure : (closure : List ℕ) → IsClosure table.nodes table.defs item bound uses args closure → needed table item bound uses args ≡ Ok closure
  unfolding needed
  needs_closure closure is = closed (closure_or_fault table.nodes table.defs item bound uses args) closure is

  pub needs_fault : (fault : FixtureFault) → IsFault table.nodes table.defs item bound uses args fault → needed table item bound uses args ≡ Err fault
  unfolding needed
  needs_fault fault is = faulty (closure_or_fault table.nodes table.defs item bound uses args) fault is

  -- what an item needs is needed
  pub is_needed : IsNeeded table item bound uses args (needed table item bound uses args)
  unfolding needed
  is_needed = (as_needed table item bound uses args (closure_or_fault table.nodes table.defs item bound uses args)).1

  pub closure_is : (closure : List ℕ) → needed table item bound uses args ≡ Ok closure → IsClosure table.nodes table.defs item bound uses args closure
  closure_is closure e = subst (IsNeeded table item bound uses args) e is_needed

module _ (table : TableValue) (names : List (List ℕ)) (definitions : List Definition) (item : ℕ) (bound : List ℕ) where
  whole_is : (r : Result (List ℕ) FixtureFault) (closure : List ℕ) → closure_told table names definitions item bound r ≡ Whole closure → r ≡ Ok closure
  whole_is (Ok c) closure e = cc
  whole_is (Err why) closure e = cc

  item_closed : (uses arguments : List (List ℕ)) (closure : List ℕ) → item_needs table names item bound uses arguments ≡ Ok closure
      → IsClosure table.nodes table.defs item bound (all_numbers names uses) (all_numbers names (but_request arguments)) closure
  unfolding item_needs
  item_closed uses arguments closure e = closure_is table item bound (all_numbers names uses) (all_numbers names (but_request arguments)) closure e

  -- the closure of an item is a closure of the table
  pub item_whole : (uses arguments : List (List ℕ)) (closure : List ℕ) → item_closure table names definitions item bound uses arguments ≡ Whole closure
      → IsClosure table.nodes table.defs item bound (all_numbers names uses) (all_numbers names (but_request arguments)) closure
  unfolding item_closure
  item_whole uses arguments closure e = item_closed uses arguments closure (whole_is (item_needs table names item bound uses arguments) closure e)
