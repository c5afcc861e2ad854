-- The methods of lists and tuples (Python library reference, sequence types).
use Rattle.std.specs.Prelude.{ℕ, suc, ◌+◌, ℤ, pos, negsuc, Bool, not, List, [], ◌∷◌, ◌++◌, length, reverse, codes, nat_lt, eqb, if◌then◌else◌, Option, Some, None, slice_get}
use Rattle.std.specs.List.{insert}
use Rattle.sorting.specs.call_products.Arguments.{has_none, sole, pair}
use Rattle.sorting.specs.call_products.Elements.{elements_of}
use Rattle.sorting.specs.call_products.Products.{plain, failed, too_long, wrong}
use Rattle.sorting.specs.call_products.declared.elements.ElementsResult.{ElementsResult}
use Rattle.sorting.specs.call_products.declared.elements.ElementsResult.TheVariants as gathered
use Rattle.sorting.specs.call_products.declared.product.Product.{Product}
use Rattle.list_methods.specs.Search.{search_from, tally_from}
use Rattle.list_methods.specs.declared.search.Search.{Search}
use Rattle.list_methods.specs.declared.search.Search.TheVariants as search
use Rattle.list_methods.specs.declared.search.Tally.{Tally}
use Rattle.list_methods.specs.declared.search.Tally.TheVariants as tally
use Rattle.py_compare.specs.Equal.{equal_of}
use Rattle.py_items.specs.Items.{element_place, edge}
use Rattle.py_items.specs.py_operands.Faults.{too_deep, out_of_range}
use Rattle.py_items.specs.py_kinds.Builtins.{list_method_name, tuple_method_name}
use Rattle.py_items.specs.py_kinds.Lengths.{length_of}
use Rattle.py_values.specs.Limits.{most_elements}
use Rattle.py_values.specs.Numbers.{int_value}
use Rattle.py_values.specs.declared.builtin.ListMethod.{ListMethod}
use Rattle.py_values.specs.declared.builtin.ListMethod.TheVariants as method
use Rattle.py_values.specs.declared.builtin.TupleMethod.{TupleMethod}
use Rattle.py_values.specs.declared.builtin.TupleMethod.TheVariants as tuple
use Rattle.py_values.specs.declared.change.Change.{Change}
use Rattle.py_values.specs.declared.change.Change.TheVariants as change
use Rattle.py_values.specs.declared.class.ExcClass.TheVariants.{ValueError}
use Rattle.py_values.specs.declared.end.Effect.TheVariants.{Give, New, Put, Fail}
use Rattle.py_values.specs.declared.object.Obj.{Obj}
use Rattle.py_values.specs.declared.object.Obj.TheVariants as obj
use Rattle.py_values.specs.declared.value.ObjId.{ObjId}
use Rattle.py_values.specs.declared.value.Value.{Value}
use Rattle.py_values.specs.declared.value.Value.TheVariants as val
use Rattle.sorting.specs.Calls.{sort_of}

-- a change of the list behind so many steps, which gives None
abbrev pub changed_list : ObjId → Change → ℕ → Product
changed_list id c n = plain (Put id c val.None n)

-- other values in the list's place
abbrev pub other_list : ObjId → List Value → ℕ → Product
other_list id vs n = changed_list id (change.Whole (obj.List vs)) n

abbrev pub not_found : ℕ → Product
not_found n = failed ValueError (codes "value not found") n

-- `append(v)`: costs nothing
abbrev pub append_of : ObjId → List Value → Option Value → Product
append_of id vs (Some v) = if nat_lt (length vs) most_elements then changed_list id (change.Push v) 0 else too_long 0
append_of id vs None = wrong (codes "append") 0

-- `clear()`: costs nothing
abbrev pub clear_of : ObjId → Bool → Product
clear_of id alone = if alone then other_list id [] 0 else wrong (codes "clear") 0

-- `copy()`
abbrev pub copy_of : List Value → Bool → Product
copy_of vs alone = if alone then plain (New (obj.List vs) (length vs + length vs)) else wrong (codes "copy") (length vs)

-- `reverse()`
abbrev pub reverse_of : ObjId → List Value → Bool → Product
reverse_of id vs alone = if alone then other_list id (reverse vs) (length vs) else wrong (codes "reverse") (length vs)

-- `extend(x)`
abbrev pub has_room : ℕ → ℕ → Bool
has_room n m = not (nat_lt most_elements (n + m))

abbrev pub extend_by : ObjId → List Value → ElementsResult → Product
extend_by id vs (gathered.Elements e) =
    if has_room (length vs) (length e.values)
    then record { objects = e.objects; made = Put id (change.Whole (obj.List (vs ++ e.values))) val.None (length vs) }
    else too_long (length vs)
extend_by id vs (gathered.Refused r) = plain (Fail r (length vs))

abbrev pub extend_of : List Obj → ObjId → List Value → Option Value → Product
extend_of heap id vs (Some v) = extend_by id vs (elements_of heap (length heap) v)
extend_of heap id vs None = wrong (codes "extend") (length vs)

-- `insert(i, v)`: before the place that a number names, which counts from the end where it is negative and is never outside
abbrev pub insert_at : ObjId → List Value → Option ℤ → Value → Product
insert_at id vs (Some z) v =
    if nat_lt (length vs) most_elements then other_list id (insert vs (edge (length vs) z) v) (length vs) else too_long (length vs)
insert_at id vs None v = wrong (codes "insert") (length vs)

abbrev pub insert_of : ObjId → List Value → Option (Value × Value) → Product
insert_of id vs (Some p) = insert_at id vs (int_value p.0) p.1
insert_of id vs None = wrong (codes "insert") (length vs)

-- `pop()` and `pop(i)`: of the last element costs nothing, of another the list's length and that of what is given
abbrev pub length_or_none : Option ℕ → ℕ
length_or_none (Some n) = n
length_or_none None = 0

abbrev pub pop_cost : List Obj → ℕ → ℕ → Value → ℕ
pop_cost heap n i v = if eqb (suc i) n then 0 else n + length_or_none (length_of heap v)

abbrev pub outside : ℕ → Product
outside n = plain (Fail out_of_range n)

abbrev pub popped_value : List Obj → ObjId → ℕ → ℕ → Option Value → Product
popped_value heap id n i (Some v) = plain (Put id (change.WithoutItem i) v (pop_cost heap n i v))
popped_value heap id n i None = outside n

abbrev pub popped : List Obj → ObjId → List Value → ℕ → Product
popped heap id vs i = popped_value heap id (length vs) i (slice_get vs i)

abbrev pub pop_place : List Obj → ObjId → List Value → Option ℕ → Product
pop_place heap id vs (Some i) = popped heap id vs i
pop_place heap id vs None = outside (length vs)

abbrev pub pop_at : List Obj → ObjId → List Value → Option ℤ → Product
pop_at heap id vs (Some z) = pop_place heap id vs (element_place (length vs) z)
pop_at heap id vs None = wrong (codes "pop") (length vs)

abbrev pub pop_index : List Value → List (List ℕ × Value) → Option ℤ
pop_index [] [] = Some (negsuc 0)
pop_index (i ∷ []) [] = int_value i
pop_index _ _ = None

abbrev pub pop_of : List Obj → ObjId → List Value → List Value → List (List ℕ × Value) → Product
pop_of heap id vs args named = pop_at heap id vs (pop_index args named)

abbrev pub too_deep_at : ℕ → Product
too_deep_at n = plain (Fail too_deep n)

-- `count(v)`
abbrev pub counted_by : Tally → Product
counted_by (tally.Count k n) = plain (Give (val.Int (pos k)) n)
counted_by (tally.TooDeep n) = too_deep_at n

abbrev pub some_counted : Option Tally → Option Product
some_counted (Some t) = Some (counted_by t)
some_counted None = None

abbrev pub count_values : List Obj → List Value → Option Value → Product
count_values heap vs (Some v) = counted_by (tally_from (equal_of heap v) 0 (length vs) vs)
count_values heap vs None = wrong (codes "count") (length vs)

-- `index(v)`
abbrev pub index_by : Search → Product
index_by (search.At i n) = plain (Give (val.Int (pos i)) n)
index_by (search.Nowhere n) = not_found n
index_by (search.TooDeep n) = too_deep_at n

abbrev pub some_indexed : Option Search → Option Product
some_indexed (Some s) = Some (index_by s)
some_indexed None = None

abbrev pub index_values : List Obj → List Value → Option Value → Product
index_values heap vs (Some v) = index_by (search_from (equal_of heap v) 0 (length vs) vs)
index_values heap vs None = wrong (codes "index") (length vs)

-- `remove(v)`
abbrev pub remove_by : ObjId → Search → Product
remove_by id (search.At i n) = changed_list id (change.WithoutItem i) n
remove_by id (search.Nowhere n) = not_found n
remove_by id (search.TooDeep n) = too_deep_at n

abbrev pub some_removed : ObjId → Option Search → Option Product
some_removed id (Some s) = Some (remove_by id s)
some_removed id None = None

abbrev pub remove_of : List Obj → ObjId → List Value → Option Value → Product
remove_of heap id vs (Some v) = remove_by id (search_from (equal_of heap v) 0 (length vs) vs)
remove_of heap id vs None = wrong (codes "remove") (length vs)

-- a method of a list
abbrev pub list_called : List Obj → ListMethod → ObjId → List Value → List Value → List (List ℕ × Value) → Product
list_called heap method.Append id vs args named = append_of id vs (sole args named)
list_called heap method.Clear id vs args named = clear_of id (has_none args named)
list_called heap method.Copy id vs args named = copy_of vs (has_none args named)
list_called heap method.Count id vs args named = count_values heap vs (sole args named)
list_called heap method.Extend id vs args named = extend_of heap id vs (sole args named)
list_called heap method.Index id vs args named = index_values heap vs (sole args named)
list_called heap method.Insert id vs args named = insert_of id vs (pair args named)
list_called heap method.Pop id vs args named = pop_of heap id vs args named
list_called heap method.Remove id vs args named = remove_of heap id vs (sole args named)
list_called heap method.Reverse id vs args named = reverse_of id vs (has_none args named)
list_called heap method.Sort id vs args named = sort_of heap id args named

abbrev pub by_list : List Obj → ListMethod → ObjId → Option Obj → List Value → List (List ℕ × Value) → Product
by_list heap which id (Some (obj.List vs)) args named = list_called heap which id vs args named
by_list heap which id _ args named = wrong (list_method_name which) 0

-- A METHOD OF A LIST, read through an object
unfoldable pub list_method_of : List Obj → ListMethod → ObjId → List Value → List (List ℕ × Value) → Product
list_method_of heap which id args named = by_list heap which id (slice_get heap id.at) args named

-- a method of a tuple
abbrev pub tuple_called : List Obj → TupleMethod → List Value → Option Value → Product
tuple_called heap tuple.Count vs v = count_values heap vs v
tuple_called heap tuple.Index vs v = index_values heap vs v

abbrev pub by_tuple : List Obj → TupleMethod → Option Obj → Option Value → Product
by_tuple heap which (Some (obj.Tuple vs)) v = tuple_called heap which vs v
by_tuple heap which _ v = wrong (tuple_method_name which) 0

-- A METHOD OF A TUPLE, read through an object
unfoldable pub tuple_method_of : List Obj → TupleMethod → ObjId → List Value → List (List ℕ × Value) → Product
tuple_method_of heap which id args named = by_tuple heap which (slice_get heap id.at) (sole args named)
