-- The errors of operators.
use Rattle.std.specs.Prelude.{ℕ, List, [], ◌++◌, Some, codes}
use Rattle.py_kinds.specs.Kinds.{kind_name}
use Rattle.py_values.specs.Raises.{text_raise}
use Rattle.py_values.specs.declared.class.ExcClass.TheVariants.{TypeError, RecursionError, KeyError, IndexError}
use Rattle.py_values.specs.declared.end.Raise.{Raise}
use Rattle.py_kinds.specs.declared.keys.KeyFault.{KeyFault}
use Rattle.py_kinds.specs.declared.keys.KeyFault.TheVariants.{Unhashable, TooDeep}
use Rattle.py_values.specs.declared.object.Obj.{Obj}
use Rattle.py_values.specs.declared.value.Value.{Value}

abbrev pub too_deep : Raise
too_deep = text_raise RecursionError (codes "nesting too deep")

-- a kind that isn't used so
abbrev pub unsupported_use : List ℕ → List ℕ → Raise
unsupported_use kind use_text = text_raise TypeError (codes "'" ++ (kind ++ use_text))

abbrev pub not_iterable : List ℕ → Raise
not_iterable kind = unsupported_use kind (codes "' object is not iterable")

abbrev pub not_subscriptable : List ℕ → Raise
not_subscriptable kind = unsupported_use kind (codes "' object is not subscriptable")

abbrev pub unhashable : List ℕ → Raise
unhashable kind = text_raise TypeError (codes "unhashable type: '" ++ (kind ++ codes "'"))

abbrev pub key_fault : List Obj → KeyFault → Raise
key_fault heap (Unhashable v) = unhashable (kind_name heap v)
key_fault heap TooDeep = too_deep

-- a key that a dict hasn't is the exception's argument
abbrev pub no_key : Value → Raise
no_key key = record { class = KeyError; text = []; arg = Some key }

-- two values that have no order
abbrev pub not_supported : List ℕ → List ℕ → List ℕ → Raise
not_supported o a b =
    text_raise TypeError (codes "'" ++ (o ++ (codes "' not supported between instances of '" ++ (a ++ (codes "' and '" ++ (b ++ codes "'"))))))

abbrev pub out_of_range : Raise
out_of_range = text_raise IndexError (codes "index out of range")

abbrev pub no_index : Raise
no_index = text_raise TypeError (codes "index must be a number")
