-- Each built-in function stands in a row of the table, so it has a name.
use Rattle.std.proofs.Common.{true, ◌≡◌, refl}
use Rattle.std.specs.Prelude.{is_some}
use Rattle.py_values.specs.declared.builtin.Builtin.TheVariants as builtin
use Rattle.py_values.specs.declared.builtin.SequenceCall.{SequenceCall}
use Rattle.py_values.specs.declared.builtin.SequenceCall.TheVariants as sequence
use Rattle.py_values.specs.declared.builtin.NumberCall.{NumberCall}
use Rattle.py_values.specs.declared.builtin.NumberCall.TheVariants as number
use Rattle.py_values.specs.declared.builtin.ObjectCall.{ObjectCall}
use Rattle.py_values.specs.declared.builtin.ObjectCall.TheVariants as object
use Rattle.py_kinds.specs.Builtins.{builtin_name, rows}

pub print_named : is_some (builtin_name builtin.Print) ≡ true
unfolding rows
print_named = refl

pub len_named : is_some (builtin_name builtin.Len) ≡ true
unfolding rows
len_named = refl

pub str_named : is_some (builtin_name builtin.Str) ≡ true
unfolding rows
str_named = refl

pub sequence_named : (c : SequenceCall) → is_some (builtin_name (builtin.Sequence c)) ≡ true
unfolding rows
sequence_named sequence.All = refl
sequence_named sequence.Any = refl
sequence_named sequence.Dict = refl
sequence_named sequence.Enumerate = refl
sequence_named sequence.List = refl
sequence_named sequence.Range = refl
sequence_named sequence.Reversed = refl
sequence_named sequence.Sorted = refl
sequence_named sequence.Tuple = refl
sequence_named sequence.Zip = refl

pub number_named : (c : NumberCall) → is_some (builtin_name (builtin.Number c)) ≡ true
unfolding rows
number_named number.Abs = refl
number_named number.Bool = refl
number_named number.Chr = refl
number_named number.DivMod = refl
number_named number.Int = refl
number_named number.Max = refl
number_named number.Min = refl
number_named number.Ord = refl
number_named number.Sum = refl

pub object_named : (c : ObjectCall) → is_some (builtin_name (builtin.Object c)) ≡ true
unfolding rows
object_named object.Callable = refl
object_named object.GetAttr = refl
object_named object.HasAttr = refl
object_named object.IsInstance = refl
object_named object.Repr = refl
