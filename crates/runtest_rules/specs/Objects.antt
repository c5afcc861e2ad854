-- What the runner makes for an item: the instance of its class, and what hooks get.
use Rattle.std.specs.Prelude.{Bool, true, false, ◌&&◌, not, is_some, List, Option, Some, None, chars, slice_get}
use Rattle.collect_names.specs.Objects.{class_at, is_source}
use Rattle.collect_names.specs.declared.found.TestClass.{TestClass}
use Rattle.py_kinds.specs.Classes.{root_of}
use Rattle.py_values.specs.declared.class.ClassRef.TheVariants as ref
use Rattle.py_values.specs.declared.object.ClassObj.{ClassObj}
use Rattle.py_values.specs.declared.object.Obj.{Obj}
use Rattle.py_values.specs.declared.value.ObjId.{ObjId}
use Rattle.py_values.specs.declared.value.Value.{Value}
use Rattle.py_values.specs.declared.value.Value.TheVariants as val
use Rattle.tracebacks.specs.runner_values.Given.{instance, test_item, added_object}
use Rattle.tracebacks.specs.source_meaning.Meaning.{SourceWorld}
use Rattle.fixture_calls.specs.Failing.{in_heap}
use Rattle.test_suite.specs.declared.item.Item.{Item}

-- THE OBJECT that hooks get for an item
unfoldable pub item_object : Item → SourceWorld → Value × SourceWorld
item_object i w = in_heap (added_object (test_item i.name (chars i.node_id)) w.heap) w

-- whether a class of the heap is a class of the sources and no class of exceptions
abbrev pub is_source_class : Option ClassObj → Bool
is_source_class (Some c) = is_source c.form
is_source_class None = false

abbrev pub has_instances : List Obj → ObjId → Bool
has_instances heap id = is_source_class (class_at (slice_get heap id.at)) && not (is_some (root_of heap (ref.Defined id)))

abbrev pub as_instance : Value × SourceWorld → Option Value × SourceWorld
as_instance made = (Some made.0, made.1)

abbrev pub instance_if : Bool → ObjId → SourceWorld → Option Value × SourceWorld
instance_if true id w = as_instance (in_heap (added_object (instance id) w.heap) w)
instance_if false id w = (None, w)

abbrev pub instance_of_value : Value → SourceWorld → Option Value × SourceWorld
instance_of_value (val.Ref id) w = instance_if (has_instances w.heap id) id w
instance_of_value val.None w = (None, w)
instance_of_value (val.Bool b) w = (None, w)
instance_of_value (val.Int n) w = (None, w)

abbrev pub instance_of_class : Option TestClass → SourceWorld → Option Value × SourceWorld
instance_of_class (Some c) w = instance_of_value c.object w
instance_of_class None w = (None, w)

-- A NEW INSTANCE of an item's class, where it has one (pytest's "Group multiple tests in a class": each test has an instance of its own)
unfoldable pub instance_of_item : Item → SourceWorld → Option Value × SourceWorld
instance_of_item i w = instance_of_class i.test.class w
