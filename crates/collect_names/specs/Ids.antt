-- Node ids and titles of items (pytest's how-to guide, "Specifying which tests to run": node ids).
use Rattle.std.specs.Prelude.{ℕ, List, [], ◌++◌, Option, Some, None, codes}
use Rattle.collect_names.specs.declared.found.TestClass.{TestClass}
use Rattle.collect_names.specs.declared.found.TestFunction.{TestFunction}

-- a class's name in front of its method's
abbrev pub class_before : List ℕ → Option TestClass → List ℕ
class_before between (Some c) = c.name ++ between
class_before between None = []

-- the id of a row behind the name
abbrev pub id_behind : Option (List ℕ) → List ℕ
id_behind (Some id) = codes "[" ++ (id ++ codes "]")
id_behind None = []

-- an item's name: its function's, with the id of its row
unfoldable pub item_name : TestFunction → Option (List ℕ) → List ℕ
item_name test id = test.name ++ id_behind id

-- what stands behind the path in the node id: `CLASS::NAME`, or `NAME` outside classes
unfoldable pub item_part : TestFunction → Option (List ℕ) → List ℕ
item_part test id = class_before (codes "::") test.class ++ item_name test id

-- THE NODE ID: `PATH::CLASS::NAME`
unfoldable pub item_id : List ℕ → TestFunction → Option (List ℕ) → List ℕ
item_id path test id = path ++ (codes "::" ++ item_part test id)

-- THE TITLE: `CLASS.NAME`
unfoldable pub item_title : TestFunction → Option (List ℕ) → List ℕ
item_title test id = class_before (codes ".") test.class ++ item_name test id
