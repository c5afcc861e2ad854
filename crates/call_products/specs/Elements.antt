-- The elements of what is iterated over (Python glossary, iterable).
use Rattle.std.specs.Prelude.{ℕ, zero, suc, List, [], ◌∷◌, map, length, codes, Option, Some, None, ℤ, slice_get}
use Rattle.call_products.specs.Products.{refs_from}
use Rattle.call_products.specs.declared.elements.ElementsResult.{ElementsResult}
use Rattle.call_products.specs.declared.elements.ElementsResult.TheVariants as gathered
use Rattle.py_operands.specs.Faults.{not_iterable}
use Rattle.py_operands.specs.Numbers.{fitting}
use Rattle.py_operands.specs.Ranges.{nth_of}
use Rattle.py_operands.specs.py_kinds.Kinds.{kind_name}
use Rattle.py_values.specs.Raises.{text_raise}
use Rattle.py_values.specs.declared.class.ExcClass.TheVariants.{OverflowError}
use Rattle.py_values.specs.declared.dict.Pair.{Pair}
use Rattle.py_values.specs.declared.key.Atom.{Atom}
use Rattle.py_values.specs.declared.object.Obj.{Obj}
use Rattle.py_values.specs.declared.object.Obj.TheVariants as obj
use Rattle.py_values.specs.declared.range.RangeObj.{RangeObj}
use Rattle.py_values.specs.declared.value.Value.{Value}
use Rattle.py_values.specs.declared.value.Value.TheVariants as val

-- elements that are there already
abbrev pub own : List Value → ElementsResult
own vs = gathered.Elements (record { objects = []; values = vs })

-- the text of a character
abbrev pub char_text : ℕ → Obj
char_text c = obj.Text (c ∷ [])

-- the elements of a text: a new text for each character
abbrev pub text_elements : ℕ → List ℕ → ElementsResult
text_elements from t = gathered.Elements (record { objects = map char_text t; values = refs_from from (length t) })

abbrev pub key_in : Option Pair → List Value
key_in (Some p) = p.key ∷ []
key_in None = []

-- the keys of a dict, as they were first stored
abbrev pub key_of_entry : List Atom × Pair → Value
key_of_entry e = e.1.key

abbrev pub keys_of : List (List Atom × Pair) → List Value
keys_of es = map key_of_entry es

-- a number, where it has 128 bits
abbrev pub number_value : Option ℤ → Option Value
number_value (Some z) = Some (val.Int z)
number_value None = None

-- a value before others, where there are such
abbrev pub value_before : Option Value → Option (List Value) → Option (List Value)
value_before (Some v) (Some vs) = Some (v ∷ vs)
value_before (Some v) None = None
value_before None o = None

-- so many numbers of a range from a place on, where each has 128 bits
abbrev pub values_from : RangeObj → ℕ → ℕ → Option (List Value)
values_from r at zero = Some []
values_from r at (suc n) = value_before (number_value (fitting (nth_of r at))) (values_from r (suc at) n)

abbrev pub range_values : RangeObj → Option (List Value)
range_values r = values_from r 0 r.length

abbrev pub values_or_refused : Option (List Value) → ElementsResult
values_or_refused (Some vs) = own vs
values_or_refused None = gathered.Refused (text_raise OverflowError (codes "whole number out of range"))

abbrev pub range_elements : RangeObj → ElementsResult
range_elements r = values_or_refused (range_values r)

abbrev pub refused : List Obj → Value → ElementsResult
refused heap v = gathered.Refused (not_iterable (kind_name heap v))

-- texts, lists, tuples, dicts and ranges have elements
abbrev pub object_elements : ℕ → ElementsResult → Option Obj → ElementsResult
object_elements from none (Some (obj.Text t)) = text_elements from t
object_elements from none (Some (obj.List vs)) = own vs
object_elements from none (Some (obj.Tuple vs)) = own vs
object_elements from none (Some (obj.Dict es)) = own (keys_of es)
object_elements from none (Some (obj.Range r)) = range_elements r
object_elements from none (Some (obj.Function x)) = none
object_elements from none (Some (obj.Method x)) = none
object_elements from none (Some (obj.Builtin x)) = none
object_elements from none (Some (obj.Class x)) = none
object_elements from none (Some (obj.Instance x)) = none
object_elements from none (Some (obj.Exception x)) = none
object_elements from none (Some (obj.Module x)) = none
object_elements from none (Some (obj.Fixture x)) = none
object_elements from none (Some obj.MarkMaker) = none
object_elements from none (Some (obj.Mark x)) = none
object_elements from none (Some (obj.Hook x)) = none
object_elements from none (Some (obj.Param x)) = none
object_elements from none (Some (obj.Request x)) = none
object_elements from none (Some (obj.Raises x)) = none
object_elements from none (Some (obj.Info x)) = none
object_elements from none (Some (obj.Item x)) = none
object_elements from none None = none

-- THE ELEMENTS OF A VALUE, or the raise in their place; new objects stand from a place on
unfoldable pub elements_of : List Obj → ℕ → Value → ElementsResult
elements_of heap from (val.Ref id) = object_elements from (refused heap (val.Ref id)) (slice_get heap id.at)
elements_of heap from val.None = refused heap val.None
elements_of heap from (val.Bool b) = refused heap (val.Bool b)
elements_of heap from (val.Int z) = refused heap (val.Int z)
