-- The exception that a raise makes.
use Rattle.std.specs.Prelude.{ℕ, List, [], ◌∷◌, ◌++◌, length, Option, Some, None, slice_get}
use Rattle.py_values.specs.Ends.{id_at}
use Rattle.py_values.specs.declared.class.ExcClass.{ExcClass}
use Rattle.py_values.specs.declared.class.ClassRef.{ClassRef}
use Rattle.py_values.specs.declared.class.ClassRef.TheVariants.{Builtin}
use Rattle.py_values.specs.declared.end.Raise.{Raise}
use Rattle.py_values.specs.declared.object.Obj.{Obj}
use Rattle.py_values.specs.declared.object.Obj.TheVariants as obj
use Rattle.py_values.specs.declared.value.ObjId.{ObjId}
use Rattle.py_values.specs.declared.value.Value.{Value}
use Rattle.py_values.specs.declared.value.Value.TheVariants as val
use Rattle.py_values.specs.declared.value.Value.TheVariants.{Ref}

-- a raise with a text
abbrev pub text_raise : ExcClass → List ℕ → Raise
text_raise class text = record { class = class; text = text; arg = None }

-- an exception whose arguments are a tuple of the heap
abbrev pub exception : ClassRef → ObjId → Obj
exception class args = obj.Exception (record { class = class; args = Some (Ref args); names = [] })

-- a heap with an exception more
abbrev pub with_exception : ClassRef → ObjId → List Obj → Value × List Obj
with_exception class args heap = (Ref (id_at (length heap)), heap ++ exception class args ∷ [])

-- a new exception with arguments, and the heap behind it
abbrev pub thrown_with : ClassRef → List Value → List Obj → Value × List Obj
thrown_with class args heap = with_exception class (id_at (length heap)) (heap ++ obj.Tuple args ∷ [])

-- the exception, and the heap behind it: the one argument is `arg` where it is given; else a new text, where the text
-- isn't empty; else there is none
abbrev pub thrown_by : ClassRef → List ℕ → Option Value → List Obj → Value × List Obj
thrown_by class text (Some v) heap = thrown_with class (v ∷ []) heap
thrown_by class [] None heap = thrown_with class [] heap
thrown_by class (c ∷ cs) None heap = thrown_with class (Ref (id_at (length heap)) ∷ []) (heap ++ obj.Text (c ∷ cs) ∷ [])

abbrev pub thrown : Raise → List Obj → Value × List Obj
thrown r heap = thrown_by (Builtin r.class) r.text r.arg heap

-- an exception's arguments: what `args` is bound to, where that is a tuple
abbrev pub tuple_items : Option Obj → List Value
tuple_items (Some (obj.Tuple vs)) = vs
tuple_items (Some (obj.Text x)) = []
tuple_items (Some (obj.List x)) = []
tuple_items (Some (obj.Dict x)) = []
tuple_items (Some (obj.Range x)) = []
tuple_items (Some (obj.Function x)) = []
tuple_items (Some (obj.Method x)) = []
tuple_items (Some (obj.Builtin x)) = []
tuple_items (Some (obj.Class x)) = []
tuple_items (Some (obj.Instance x)) = []
tuple_items (Some (obj.Exception x)) = []
tuple_items (Some (obj.Module x)) = []
tuple_items (Some (obj.Fixture x)) = []
tuple_items (Some obj.MarkMaker) = []
tuple_items (Some (obj.Mark x)) = []
tuple_items (Some (obj.Hook x)) = []
tuple_items (Some (obj.Param x)) = []
tuple_items (Some (obj.Request x)) = []
tuple_items (Some (obj.Raises x)) = []
tuple_items (Some (obj.Info x)) = []
tuple_items (Some (obj.Item x)) = []
tuple_items None = []

abbrev pub args_in : List Obj → Option Value → List Value
args_in heap (Some (Ref id)) = tuple_items (slice_get heap id.at)
args_in heap (Some val.None) = []
args_in heap (Some (val.Bool b)) = []
args_in heap (Some (val.Int n)) = []
args_in heap None = []
