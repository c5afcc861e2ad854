-- The tables of built-in names, and what follows from them.
use Rattle.std.specs.Prelude.{ℕ, suc, Bool, true, false, List, [], ◌∷◌, ◌++◌, map, length, if◌then◌else◌, Option, Some, None, ◌+◌, option_map, codes}
use Rattle.std.specs.Borrow.{Bor}
use Rattle.py_values.specs.declared.builtin.Builtin.{Builtin}
use Rattle.py_values.specs.declared.builtin.Builtin.TheVariants as builtin
use Rattle.py_values.specs.declared.builtin.TextMethod.{TextMethod}
use Rattle.py_values.specs.declared.builtin.TextMethod.TheVariants as text
use Rattle.py_values.specs.declared.builtin.ListMethod.{ListMethod}
use Rattle.py_values.specs.declared.builtin.ListMethod.TheVariants as list
use Rattle.py_values.specs.declared.builtin.TupleMethod.{TupleMethod}
use Rattle.py_values.specs.declared.builtin.TupleMethod.TheVariants as tuple
use Rattle.py_values.specs.declared.builtin.DictMethod.{DictMethod}
use Rattle.py_values.specs.declared.builtin.DictMethod.TheVariants as dict
use Rattle.py_values.specs.declared.builtin.PytestCall.{PytestCall}
use Rattle.py_values.specs.declared.builtin.PytestCall.TheVariants as pytest
use Rattle.py_values.specs.declared.builtin.TheConstants.{BUILTINS, EXCEPTIONS, TEXT_METHODS, LIST_METHODS, TUPLE_METHODS, DICT_METHODS, REQUEST_METHODS, PYTEST_NAMES}
use Rattle.py_values.specs.declared.class.ClassForm.{ClassForm}
use Rattle.py_values.specs.declared.class.ClassForm.TheVariants.{Kind, Exception}
use Rattle.py_values.specs.declared.class.ExcClass.{ExcClass}
use Rattle.py_values.specs.declared.object.Obj.{Obj}
use Rattle.py_values.specs.declared.object.Obj.TheVariants as obj
use Rattle.py_values.specs.declared.value.ObjId.{ObjId}
use Rattle.py_values.specs.declared.value.Value.{Value}
use Rattle.py_values.specs.declared.value.Value.TheVariants.{Ref}
use Rattle.py_values.specs.Ends.{id_at}
use Rattle.py_values.specs.Names.{name_eq, bind_name}
use Rattle.py_kinds.specs.Classes.{exc_base, exc_eq, builtin_eq}
use Rattle.py_kinds.specs.Kinds.{class_name}

-- THE NAMES of methods of built-in kinds, and of the functions of pytest
abbrev pub text_method_name : TextMethod → List ℕ
text_method_name text.Count = codes "count"
text_method_name text.EndsWith = codes "endswith"
text_method_name text.Find = codes "find"
text_method_name text.IsDigit = codes "isdigit"
text_method_name text.Join = codes "join"
text_method_name text.Lower = codes "lower"
text_method_name text.Replace = codes "replace"
text_method_name text.Split = codes "split"
text_method_name text.StartsWith = codes "startswith"
text_method_name text.Strip = codes "strip"
text_method_name text.Upper = codes "upper"

abbrev pub list_method_name : ListMethod → List ℕ
list_method_name list.Append = codes "append"
list_method_name list.Clear = codes "clear"
list_method_name list.Copy = codes "copy"
list_method_name list.Count = codes "count"
list_method_name list.Extend = codes "extend"
list_method_name list.Index = codes "index"
list_method_name list.Insert = codes "insert"
list_method_name list.Pop = codes "pop"
list_method_name list.Remove = codes "remove"
list_method_name list.Reverse = codes "reverse"
list_method_name list.Sort = codes "sort"

abbrev pub tuple_method_name : TupleMethod → List ℕ
tuple_method_name tuple.Count = codes "count"
tuple_method_name tuple.Index = codes "index"

abbrev pub dict_method_name : DictMethod → List ℕ
dict_method_name dict.Clear = codes "clear"
dict_method_name dict.Copy = codes "copy"
dict_method_name dict.Get = codes "get"
dict_method_name dict.Items = codes "items"
dict_method_name dict.Keys = codes "keys"
dict_method_name dict.Pop = codes "pop"
dict_method_name dict.SetDefault = codes "setdefault"
dict_method_name dict.Update = codes "update"
dict_method_name dict.Values = codes "values"

abbrev pub pytest_call_name : PytestCall → List ℕ
pytest_call_name pytest.Fail = codes "fail"
pytest_call_name pytest.Fixture = codes "fixture"
pytest_call_name pytest.HookImpl = codes "hookimpl"
pytest_call_name pytest.Param = codes "param"
pytest_call_name pytest.Raises = codes "raises"
pytest_call_name pytest.Skip = codes "skip"

-- a name, what it stands for, and whether it is a class
abbrev pub BuiltinEntry : Type 0
BuiltinEntry = List ℕ × Builtin × Bool

-- a name that is lent
abbrev pub lent_name : Bor (List ℕ) → List ℕ
lent_name name = name.now

-- a row of the table, whose name is lent
abbrev pub entry_of : Bor (List ℕ) × Builtin × Bool → BuiltinEntry
entry_of r = (lent_name r.0, r.1, r.2)

-- a row of the constant table
abbrev pub constant_entry : record { now : List ℕ } × Builtin × Bool → BuiltinEntry
constant_entry r = (r.0.now, r.1, r.2)

-- THE TABLE of built-in functions and kinds
unfoldable pub rows : List BuiltinEntry
rows = map constant_entry BUILTINS

-- the name of the first row that stands for a built-in function
abbrev pub name_in : Builtin → List BuiltinEntry → Option (List ℕ)
name_in b [] = None
name_in b (r ∷ rs) = if builtin_eq r.1 b then Some r.0 else name_in b rs

-- THE NAMES of built-in functions, which their rows have, of methods, and of the functions of pytest
abbrev pub builtin_name : Builtin → Option (List ℕ)
builtin_name builtin.Print = name_in builtin.Print rows
builtin_name builtin.Len = name_in builtin.Len rows
builtin_name builtin.Str = name_in builtin.Str rows
builtin_name (builtin.Sequence c) = name_in (builtin.Sequence c) rows
builtin_name (builtin.Number c) = name_in (builtin.Number c) rows
builtin_name (builtin.Object c) = name_in (builtin.Object c) rows
builtin_name (builtin.Text m) = Some (text_method_name m)
builtin_name (builtin.List m) = Some (list_method_name m)
builtin_name (builtin.Tuple m) = Some (tuple_method_name m)
builtin_name (builtin.Dict m) = Some (dict_method_name m)
builtin_name (builtin.Pytest c) = Some (pytest_call_name c)
builtin_name builtin.AddFinalizer = Some (codes "addfinalizer")

-- THE TABLE of the classes of exceptions that are bound to names
unfoldable pub classes : List ExcClass
classes = EXCEPTIONS

-- THE TABLES of methods of built-in kinds
unfoldable pub text_methods : List Builtin
text_methods = TEXT_METHODS

unfoldable pub list_methods : List Builtin
list_methods = LIST_METHODS

unfoldable pub tuple_methods : List Builtin
tuple_methods = TUPLE_METHODS

unfoldable pub dict_methods : List Builtin
dict_methods = DICT_METHODS

unfoldable pub request_methods : List Builtin
request_methods = REQUEST_METHODS

-- THE TABLE of the functions of pytest
unfoldable pub pytest_names : List Builtin
pytest_names = PYTEST_NAMES

-- whether a name is one that may be missing
abbrev pub is_named : List ℕ → Option (List ℕ) → Bool
is_named name (Some own) = name_eq name own
is_named name None = false

-- the one of a table that has a name
abbrev pub method_in : List ℕ → List Builtin → Option Builtin
method_in name [] = None
method_in name (b ∷ bs) = if is_named name (builtin_name b) then Some b else method_in name bs

abbrev pub names_from : ℕ → List BuiltinEntry → List (List ℕ × Value)
names_from n [] = []
names_from n (r ∷ rs) = (r.0, Ref (id_at n)) ∷ names_from (suc n) rs

-- the index of a class in a table that has it, counted on from a number
abbrev pub index_from : ℕ → ExcClass → List ExcClass → Option ℕ
index_from n c [] = None
index_from n c (d ∷ ds) = if exc_eq d c then Some n else index_from (suc n) c ds

-- where the object of a class of exceptions stands, where it is bound to a name: behind those of the other table
abbrev pub indexed_place : Option ℕ → Option ObjId
indexed_place (Some i) = Some (id_at (i + length rows))
indexed_place None = None

abbrev pub class_place : ExcClass → Option ObjId
class_place c = indexed_place (index_from 0 c classes)

-- the names of classes of exceptions, the first of which stands at a place
abbrev pub classes_from : ℕ → List ExcClass → List (List ℕ × Value)
classes_from n [] = []
classes_from n (c ∷ cs) = (class_name c, Ref (id_at n)) ∷ classes_from (suc n) cs

-- the index of the class of a table that has a name, counted on from a number
abbrev pub class_named : List ℕ → ℕ → List ExcClass → Option ℕ
class_named name n [] = None
class_named name n (c ∷ cs) = if name_eq name (class_name c) then Some n else class_named name (suc n) cs

-- THE BUILT-IN NAMES with their values, which stand in every heap from the start
abbrev pub builtin_names : List (List ℕ × Value)
builtin_names = names_from 0 rows ++ classes_from (length rows) classes

-- a class that no source defines
abbrev pub class_object : List ℕ → ClassForm → Option ObjId → Obj
class_object name form base = obj.Class (record { path = []; name = name; line = 0; form = form; base = base; marks = []; names = [] })

-- a built-in function as an object
abbrev pub function_object : Builtin → Obj
function_object b = obj.Builtin (record { which = b; receiver = None })

abbrev pub object_by : List ℕ → Builtin → Bool → Obj
object_by name b class = if class then class_object name (Kind b) None else function_object b

abbrev pub row_object : BuiltinEntry → Obj
row_object r = object_by r.0 r.1 r.2

-- where the object of a base stands
abbrev pub base_place : Option ExcClass → Option ObjId
base_place (Some c) = class_place c
base_place None = None

-- a class of exceptions, with the object of its base
abbrev pub exception_class : ExcClass → Obj
exception_class c = class_object (class_name c) (Exception c) (base_place (exc_base c))

-- where the objects of pytest's functions stand, and behind them `mark`, the text of the module's name and the module
abbrev pub pytest_place : ℕ
pytest_place = length rows + length classes

abbrev pub mark_place : ℕ
mark_place = pytest_place + length pytest_names

abbrev pub pytest_module : ObjId
pytest_module = id_at (suc (suc mark_place))

-- a name that may be missing, bound to a value where there is one
abbrev pub bind_named : Option (List ℕ) → Value → List (List ℕ × Value) → List (List ℕ × Value)
bind_named (Some name) v names = bind_name name v names
bind_named None v names = names

-- names bound to the objects of functions, the first of which stands at a place
abbrev pub bound_functions : ℕ → List Builtin → List (List ℕ × Value) → List (List ℕ × Value)
bound_functions at [] names = names
bound_functions at (b ∷ bs) names = bound_functions (suc at) bs (bind_named (builtin_name b) (Ref (id_at at)) names)

-- THE NAMES OF THE MODULE `pytest` (pytest's reference)
abbrev pub module_names : List (List ℕ × Value)
module_names =
    bind_name (codes "mark") (Ref (id_at mark_place))
    (bound_functions pytest_place pytest_names (bind_name (codes "__name__") (Ref (id_at (suc mark_place))) []))

abbrev pub module_objects : List Obj
module_objects = obj.MarkMaker ∷ obj.Text (codes "pytest") ∷ obj.Module (record { path = codes "pytest"; names = module_names }) ∷ []

-- THE HEAP from the start
abbrev pub first_heap : List Obj
first_heap = map row_object rows ++ (map exception_class classes ++ (map function_object pytest_names ++ module_objects))

-- the arguments of a call with the receiver before them, where there is one
abbrev pub with_receiver : Option Value → List Value → List Value
with_receiver (Some v) args = v ∷ args
with_receiver None args = args
