-- WHAT THE SET-UP OF AN ITEM DEMANDS, or the fault of its fixtures (pytest's reference, "Fixture instantiation order").
use Rattle.std.specs.Prelude.{◌⊎◌, ℕ, List, [], ◌∷◌, ◌++◌, Option, Some, None, Result, Ok, Err, codes, map, slice_get, if◌then◌else◌}
use Rattle.std.proofs.Common.{inl, inr}
use Rattle.std.specs.List.{flat_map}
use Rattle.collection_nodes.specs.Texts.{number_among, text_numbered}
use Rattle.fixture_definitions.specs.Arguments.{but_request}
use Rattle.fixture_definitions.specs.declared.found.Definition.{Definition}
use Rattle.fixture_table.proofs.Deciding.{closure_or_fault}
use Rattle.fixture_table.specs.Faults.{IsClosure, IsFault}
use Rattle.fixture_table.specs.Nearest.{nearest_of}
use Rattle.fixture_table.specs.Tables.{TableValue}
use Rattle.fixture_table.specs.declared.fault.FixtureFault.{FixtureFault}
use Rattle.fixture_table.specs.declared.fault.FixtureFault.TheVariants.{Unknown, Recursive, ScopeMismatch, OutOfMemory}
use Rattle.py_values.specs.Names.{name_eq}
use Rattle.session_types.specs.declared.scope.Scope.{Scope}
use Rattle.session_types.specs.declared.scope.Scope.TheVariants.{Session, Module, Class, Function}
use Rattle.session_types.specs.Numbers.{among}
use Rattle.test_suite.specs.Suites.{no_fixture}
use Rattle.test_suite.specs.declared.fixture.Fixture.{Fixture}
use Rattle.test_suite.specs.declared.item.ItemClosure.{ItemClosure}
use Rattle.test_suite.specs.declared.item.ItemClosure.TheVariants.{Whole, Fault}
use Rattle.collect_fixtures.specs.Tables.{all_numbers}

-- the closure or the fault of an item. There is one of the two, and only one: that is the law `closure_or_fault` of fixture_table
abbrev pub IsNeeded : TableValue → ℕ → List ℕ → List ℕ → List ℕ → Result (List ℕ) FixtureFault → Type 0
IsNeeded table item bound uses args (Ok closure) = IsClosure table.nodes table.defs item bound uses args closure
IsNeeded table item bound uses args (Err fault) = IsFault table.nodes table.defs item bound uses args fault

abbrev pub as_needed : (table : TableValue) (item : ℕ) (bound uses args : List ℕ)
    → ((closure : List ℕ) × IsClosure table.nodes table.defs item bound uses args closure) ⊎ ((fault : FixtureFault) × IsFault table.nodes table.defs item bound uses args fault)
    → (needed : Result (List ℕ) FixtureFault) × IsNeeded table item bound uses args needed
as_needed table item bound uses args (inl closure) = (Ok closure.0, closure.1)
as_needed table item bound uses args (inr fault) = (Err fault.0, fault.1)

unfoldable pub needed : TableValue → ℕ → List ℕ → List ℕ → List ℕ → Result (List ℕ) FixtureFault
needed table item bound uses args = (as_needed table item bound uses args (closure_or_fault table.nodes table.defs item bound uses args)).0

-- where there is no fault
abbrev pub closure_if : Result (List ℕ) FixtureFault → Option (List ℕ)
closure_if (Ok closure) = Some closure
closure_if (Err fault) = None

-- what an item at a node needs whose row binds these names, and which uses these and has these arguments
unfoldable pub item_needs : TableValue → List (List ℕ) → ℕ → List ℕ → List (List ℕ) → List (List ℕ) → Result (List ℕ) FixtureFault
item_needs table names item bound uses arguments = needed table item bound (all_numbers names uses) (all_numbers names (but_request arguments))

-- TEXTS OF FAULTS

abbrev pub scope_name : Scope → List ℕ
scope_name Session = codes "session"
scope_name Module = codes "module"
scope_name Class = codes "class"
scope_name Function = codes "function"

abbrev pub fixture_if : Option Definition → Fixture
fixture_if (Some d) = d.fixture
fixture_if None = no_fixture

-- the fixture of a definition
abbrev pub fixture_numbered : List Definition → ℕ → Fixture
fixture_numbered definitions d = fixture_if (slice_get definitions d)

abbrev pub scope_if : List Definition → Option ℕ → Scope
scope_if definitions (Some d) = (fixture_numbered definitions d).scope
scope_if definitions None = Function

-- TEXTS

abbrev pub unknown_text : List ℕ → List ℕ
unknown_text name = codes "fixture '" ++ (name ++ codes "' not found")

abbrev pub recursive_text : List ℕ → List ℕ
recursive_text name = codes "recursive dependency involving fixture '" ++ (name ++ codes "' detected")

unfoldable pub scope_and_name : Scope → List ℕ → List ℕ
scope_and_name scope name = codes "scope '" ++ (scope_name scope ++ (codes "' fixture '" ++ (name ++ codes "'")))

abbrev pub mismatch_text : Fixture → Scope → List ℕ → List ℕ
mismatch_text fixture inner asked = codes "ScopeMismatch: " ++ (scope_and_name fixture.scope fixture.name ++ (codes " requests " ++ scope_and_name inner asked))

module _ (table : TableValue) (names : List (List ℕ)) (definitions : List Definition) (item : ℕ) (bound : List ℕ) where
  -- what a name stands for that a fixture asks for: its own name is the next definition further out, and a bound name is none
  abbrev pub stands_for : ℕ → ℕ → Option ℕ
  stands_for d name =
      if among name bound then None
      else (if name_eq (text_numbered names name) (fixture_numbered definitions d).name then nearest_of table.nodes table.defs name item (Some d)
      else nearest_of table.nodes table.defs name item None)

  -- what is told of a fault
  abbrev pub told_fault : FixtureFault → List ℕ
  told_fault (Unknown name) = unknown_text (text_numbered names name)
  told_fault (Recursive name) = recursive_text (text_numbered names name)
  told_fault (ScopeMismatch d name) = mismatch_text (fixture_numbered definitions d) (scope_if definitions (stands_for d name)) (text_numbered names name)
  told_fault OutOfMemory = []

  abbrev pub closure_told : Result (List ℕ) FixtureFault → ItemClosure
  closure_told (Ok closure) = Whole closure
  closure_told (Err why) = Fault (told_fault why)

  -- THE CLOSURE of the item with a node, whose row binds these names, or what is told of its fault
  unfoldable pub item_closure : List (List ℕ) → List (List ℕ) → ItemClosure
  item_closure uses arguments = closure_told (item_needs table names item bound uses arguments)

-- THE DEFINITIONS that the arguments of the item with a node stand for, but for those that its row binds
unfoldable pub asked_for : TableValue → List (List ℕ) → ℕ → List ℕ → Option ℕ
asked_for table names item name = nearest_of table.nodes table.defs (number_among names name) item None

abbrev pub asks_for : TableValue → List (List ℕ) → ℕ → List ℕ → List ℕ → List (Option ℕ)
asks_for table names item bound name = if among (number_among names name) bound then [] else (asked_for table names item name ∷ [])

unfoldable pub item_asks : TableValue → List (List ℕ) → ℕ → List ℕ → List (List ℕ) → List (Option ℕ)
item_asks table names item bound arguments = flat_map (asks_for table names item bound) (but_request arguments)
