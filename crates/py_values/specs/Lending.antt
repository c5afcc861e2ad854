-- An object lent by the heap.
use Rattle.std.specs.Prelude.{ℕ, List, slice_set}
use Rattle.std.specs.Borrow.{Lends, MutBor, Fml}
use Rattle.py_values.specs.declared.object.Obj.{Obj}
use Rattle.py_values.specs.contracts.heap.Heap.{the_row}
use Rattle.py_values.specs.contracts.object.Obj.{the_row as obj_row}

-- what is written to the object is written to its place in the heap
abbrev pub LendsObj : MutBor (List Obj) → ℕ → MutBor Obj → Fml
LendsObj heap at obj = Lends the_row obj_row heap obj (slice_set heap.now at)
