-- The methods of texts (Python library reference, string methods). Each costs the text's length, also where it raises, and the length
-- of what it gives.
use Rattle.std.specs.Prelude.{ℕ, ◌+◌, Bool, List, [], ◌∷◌, map, length, codes, nat_eq, nat_lt, eqb, if◌then◌else◌, Option, Some, None, pos, negsuc, slice_get}
use Rattle.std.specs.Char.{to_ascii_lowercase, to_ascii_uppercase}
use Rattle.std.specs.List.{starts_with, ends_with}
use Rattle.call_products.specs.Arguments.{has_none, sole, pair, sole_text}
use Rattle.call_products.specs.Elements.{keys_of}
use Rattle.call_products.specs.Products.{plain, failed, too_long, wrong, refs_from}
use Rattle.call_products.specs.declared.product.Product.{Product}
use Rattle.call_products.specs.py_operands.Search.{first_place}
use Rattle.call_products.specs.py_operands.Texts.{text_of}
use Rattle.call_products.specs.py_operands.Faults.{not_iterable}
use Rattle.call_products.specs.py_kinds.Builtins.{text_method_name}
use Rattle.call_products.specs.py_kinds.Kinds.{kind_name}
use Rattle.py_values.specs.Limits.{most_elements}
use Rattle.py_values.specs.declared.builtin.TextMethod.{TextMethod}
use Rattle.py_values.specs.declared.builtin.TextMethod.TheVariants as method
use Rattle.py_values.specs.declared.class.ExcClass.TheVariants.{ValueError}
use Rattle.py_values.specs.declared.end.Effect.TheVariants.{Give, New, Fail}
use Rattle.py_values.specs.declared.object.Obj.{Obj}
use Rattle.py_values.specs.declared.object.Obj.TheVariants as obj
use Rattle.py_values.specs.declared.value.Value.{Value}
use Rattle.py_values.specs.declared.value.Value.TheVariants as val
use Rattle.text_methods.specs.Characters.{is_digits, stripped}
use Rattle.text_methods.specs.Pieces.{singles, pieces, occurrences, words, joined, short_text}

-- a value that has no length, behind n steps
abbrev pub given : ℕ → Value → Product
given n v = plain (Give v n)

-- a new text behind n steps
abbrev pub new_text : ℕ → List ℕ → Product
new_text n t = plain (New (obj.Text t) (n + length t))

abbrev pub text_or_long : ℕ → Option (List ℕ) → Product
text_or_long n (Some t) = new_text n t
text_or_long n None = too_long n

abbrev pub place_value : Option ℕ → Value
place_value (Some i) = val.Int (pos i)
place_value None = val.Int (negsuc 0)

-- a list of new texts behind the heap's last object, behind n steps
abbrev pub text_list : ℕ → ℕ → List (List ℕ) → Product
text_list from n ps =
    if nat_lt most_elements (length ps) then too_long n
    else record { objects = map obj.Text ps; made = New (obj.List (refs_from from (length ps))) (n + length ps) }

-- `t.split(sep)`: sep isn't empty
abbrev pub split_by : ℕ → List ℕ → List ℕ → Product
split_by from t [] = failed ValueError (codes "value not found") (length t)
split_by from t (c ∷ cs) = text_list from (length t) (pieces (c ∷ cs) t)

abbrev pub split_or_wrong : ℕ → List ℕ → Option (List ℕ) → Product
split_or_wrong from t (Some sep) = split_by from t sep
split_or_wrong from t None = wrong (codes "split") (length t)

abbrev pub split_of : List Obj → List ℕ → List Value → List (List ℕ × Value) → Product
split_of heap t args named =
    if has_none args named then text_list (length heap) (length t) (words t)
    else split_or_wrong (length heap) t (sole_text heap args named)

-- `t.replace(old, new)`
abbrev pub replaced : List ℕ → Option (List ℕ) → Option (List ℕ) → Product
replaced t (Some old) (Some new) = text_or_long (length t) (short_text (joined new (pieces old t)))
replaced t (Some old) None = wrong (codes "replace") (length t)
replaced t None new = wrong (codes "replace") (length t)

abbrev pub replace_of : List Obj → List ℕ → Option (Value × Value) → Product
replace_of heap t (Some p) = replaced t (text_of heap p.0) (text_of heap p.1)
replace_of heap t None = wrong (codes "replace") (length t)

-- a text before others that are texts
abbrev pub text_before : Option (List ℕ) → Option (List (List ℕ)) → Option (List (List ℕ))
text_before (Some t) (Some ts) = Some (t ∷ ts)
text_before (Some t) None = None
text_before None ts = None

-- the texts that values are, where each is one
abbrev pub texts_of : List Obj → List Value → Option (List (List ℕ))
texts_of heap [] = Some []
texts_of heap (v ∷ vs) = text_before (text_of heap v) (texts_of heap vs)

-- the texts that the elements of a value are, or why there are none
pub data Parts : Type 0 where
  Texts : List (List ℕ) → Parts
  OtherElements : Parts
  NoElements : Parts

abbrev pub texts_to_join : Option (List (List ℕ)) → Parts
texts_to_join (Some ts) = Texts ts
texts_to_join None = OtherElements

-- what `join` joins: the texts that the elements of an argument are
abbrev pub parts_in : List Obj → Option Obj → Parts
parts_in heap (Some (obj.Text t)) = Texts (singles t)
parts_in heap (Some (obj.List vs)) = texts_to_join (texts_of heap vs)
parts_in heap (Some (obj.Tuple vs)) = texts_to_join (texts_of heap vs)
parts_in heap (Some (obj.Dict es)) = texts_to_join (texts_of heap (keys_of es))
parts_in heap (Some (obj.Range r)) = if eqb r.length 0 then Texts [] else OtherElements
parts_in heap (Some (obj.Function x)) = NoElements
parts_in heap (Some (obj.Method x)) = NoElements
parts_in heap (Some (obj.Builtin x)) = NoElements
parts_in heap (Some (obj.Class x)) = NoElements
parts_in heap (Some (obj.Instance x)) = NoElements
parts_in heap (Some (obj.Exception x)) = NoElements
parts_in heap (Some (obj.Module x)) = NoElements
parts_in heap (Some (obj.Fixture x)) = NoElements
parts_in heap (Some obj.MarkMaker) = NoElements
parts_in heap (Some (obj.Mark x)) = NoElements
parts_in heap (Some (obj.Hook x)) = NoElements
parts_in heap (Some (obj.Param x)) = NoElements
parts_in heap (Some (obj.Request x)) = NoElements
parts_in heap (Some (obj.Raises x)) = NoElements
parts_in heap (Some (obj.Info x)) = NoElements
parts_in heap (Some (obj.Item x)) = NoElements
parts_in heap None = NoElements

abbrev pub parts_of_value : List Obj → Value → Parts
parts_of_value heap (val.Ref id) = parts_in heap (slice_get heap id.at)
parts_of_value heap val.None = NoElements
parts_of_value heap (val.Bool b) = NoElements
parts_of_value heap (val.Int z) = NoElements

-- `t.join(x)`
abbrev pub join_parts : List ℕ → List ℕ → Parts → Product
join_parts kind t (Texts ps) = text_or_long (length t) (short_text (joined t ps))
join_parts kind t OtherElements = wrong (codes "join") (length t)
join_parts kind t NoElements = plain (Fail (not_iterable kind) (length t))

abbrev pub join_of : List Obj → List ℕ → Option Value → Product
join_of heap t (Some v) = join_parts (kind_name heap v) t (parts_of_value heap v)
join_of heap t None = wrong (codes "join") (length t)

-- methods that take one text
abbrev pub count_of : List ℕ → Option (List ℕ) → Product
count_of t (Some p) = given (length t) (val.Int (pos (occurrences p t)))
count_of t None = wrong (codes "count") (length t)

abbrev pub find_of : List ℕ → Option (List ℕ) → Product
find_of t (Some p) = given (length t) (place_value (first_place p 0 t))
find_of t None = wrong (codes "find") (length t)

abbrev pub startswith_of : List ℕ → Option (List ℕ) → Product
startswith_of t (Some p) = given (length t) (val.Bool (starts_with nat_eq t p))
startswith_of t None = wrong (codes "startswith") (length t)

abbrev pub endswith_of : List ℕ → Option (List ℕ) → Product
endswith_of t (Some p) = given (length t) (val.Bool (ends_with nat_eq t p))
endswith_of t None = wrong (codes "endswith") (length t)

-- methods that take nothing
abbrev pub isdigit_of : List ℕ → Bool → Product
isdigit_of t alone = if alone then given (length t) (val.Bool (is_digits t)) else wrong (codes "isdigit") (length t)

abbrev pub str_lower : List ℕ → Bool → Product
str_lower t alone = if alone then new_text (length t) (map to_ascii_lowercase t) else wrong (codes "lower") (length t)

abbrev pub upper_of : List ℕ → Bool → Product
upper_of t alone = if alone then new_text (length t) (map to_ascii_uppercase t) else wrong (codes "upper") (length t)

abbrev pub strip_of : List ℕ → Bool → Product
strip_of t alone = if alone then new_text (length t) (stripped t) else wrong (codes "strip") (length t)

-- a method of a text
abbrev pub text_called : List Obj → TextMethod → List ℕ → List Value → List (List ℕ × Value) → Product
text_called heap method.Count t args named = count_of t (sole_text heap args named)
text_called heap method.EndsWith t args named = endswith_of t (sole_text heap args named)
text_called heap method.Find t args named = find_of t (sole_text heap args named)
text_called heap method.IsDigit t args named = isdigit_of t (has_none args named)
text_called heap method.Join t args named = join_of heap t (sole args named)
text_called heap method.Lower t args named = str_lower t (has_none args named)
text_called heap method.Replace t args named = replace_of heap t (pair args named)
text_called heap method.Split t args named = split_of heap t args named
text_called heap method.StartsWith t args named = startswith_of t (sole_text heap args named)
text_called heap method.Strip t args named = strip_of t (has_none args named)
text_called heap method.Upper t args named = upper_of t (has_none args named)

abbrev pub by_receiver : (List ℕ → Product) → TextMethod → Option (List ℕ) → Product
by_receiver f which (Some t) = f t
by_receiver f which None = wrong (text_method_name which) 0

-- A METHOD OF A TEXT, read through a value
unfoldable pub text_method_of : List Obj → TextMethod → Value → List Value → List (List ℕ × Value) → Product
text_method_of heap which v args named = by_receiver (λ t. text_called heap which t args named) which (text_of heap v)
