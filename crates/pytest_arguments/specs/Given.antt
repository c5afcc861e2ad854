-- Arguments by their kinds.
use Rattle.std.specs.Prelude.{ℕ, Bool, true, false, List, [], Option, Some, None, is_some, slice_get}
use Rattle.std.specs.List.{list_all}
use Rattle.call_products.specs.py_operands.Texts.{text_of}
use Rattle.py_values.specs.declared.object.Obj.{Obj}
use Rattle.py_values.specs.declared.object.Obj.TheVariants as obj
use Rattle.py_values.specs.declared.value.Value.{Value}
use Rattle.py_values.specs.declared.value.Value.TheVariants as val

-- a test of an argument that may be absent
abbrev pub if_given : (Value → Bool) → Option Value → Bool
if_given f None = true
if_given f (Some v) = f v

-- the same where None is as absent
abbrev pub unless_none : (Value → Bool) → Value → Bool
unless_none f val.None = true
unless_none f (val.Bool b) = f (val.Bool b)
unless_none f (val.Int z) = f (val.Int z)
unless_none f (val.Ref id) = f (val.Ref id)

abbrev pub is_boolean : Value → Bool
is_boolean val.None = false
is_boolean (val.Bool b) = true
is_boolean (val.Int z) = false
is_boolean (val.Ref id) = false

abbrev pub is_text_value : List Obj → Value → Bool
is_text_value heap v = is_some (text_of heap v)

-- the elements of a list or tuple
abbrev pub obj_row : Option Obj → Option (List Value)
obj_row (Some (obj.List vs)) = Some vs
obj_row (Some (obj.Tuple vs)) = Some vs
obj_row _ = None

abbrev pub row_at : List Obj → Value → Option (List Value)
row_at heap (val.Ref id) = obj_row (slice_get heap id.at)
row_at heap val.None = None
row_at heap (val.Bool b) = None
row_at heap (val.Int z) = None

abbrev pub is_row : List Obj → Value → Bool
is_row heap v = is_some (row_at heap v)

abbrev pub all_texts : List Obj → Option (List Value) → Bool
all_texts heap (Some vs) = list_all (is_text_value heap) vs
all_texts heap None = false

-- a list or tuple of texts
abbrev pub are_texts : List Obj → Value → Bool
are_texts heap v = all_texts heap (row_at heap v)

abbrev pub all_ids : List Obj → Option (List Value) → Bool
all_ids heap (Some vs) = list_all (unless_none (is_text_value heap)) vs
all_ids heap None = false

-- a list or tuple of ids, of which None is none
abbrev pub are_ids : List Obj → Value → Bool
are_ids heap v = all_ids heap (row_at heap v)

-- what is given, where its kind is the one that is wanted
abbrev pub boolean_given : Option Value → Bool
boolean_given (Some (val.Bool b)) = b
boolean_given (Some val.None) = false
boolean_given (Some (val.Int z)) = false
boolean_given (Some (val.Ref id)) = false
boolean_given None = false

abbrev pub text_given : List Obj → Option Value → Option (List ℕ)
text_given heap (Some v) = text_of heap v
text_given heap None = None

abbrev pub row_given : List Obj → Option Value → Option (List Value)
row_given heap (Some v) = row_at heap v
row_given heap None = None
