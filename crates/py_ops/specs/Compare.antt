-- Comparisons (Language Reference, comparisons).
use Rattle.std.specs.Prelude.{ℕ, ◌-◌, Bool, true, false, not, ℤ, List, [], ◌∷◌, length, Option, Some, None, codes, slice_get, is_some, nat_eq, ◌||◌}
use Rattle.std.specs.List.{list_any, starts_with}
use Rattle.std.specs.Ordering.{int_eq}
use Rattle.py_tree.specs.declared.op.CmpOp.{CmpOp}
use Rattle.py_tree.specs.declared.op.CmpOp.TheVariants as op
use Rattle.py_compare.specs.Equal.{ComparisonResult, finding, after, ComparisonVerdict, Holds, Fails, Deep, Unordered, equal_of, holds_if}
use Rattle.py_compare.specs.Order.{OrderResult, OrderVerdict, order_of}
use Rattle.py_compare.specs.Order as place
use Rattle.py_compare.specs.Same.{is_same}
use Rattle.py_compare.specs.declared.tested.Comparison.{Comparison}
use Rattle.py_compare.specs.declared.tested.Comparison.TheVariants as ordered
use Rattle.py_compare.specs.declared.tested.Tested.{Tested}
use Rattle.py_compare.specs.declared.tested.Tested.TheVariants as tested
use Rattle.py_operands.specs.py_kinds.Keys.{key_of}
use Rattle.py_operands.specs.py_kinds.Kinds.{kind_name}
use Rattle.py_values.specs.Numbers.{int_value}
use Rattle.py_values.specs.Pairs.{find_pair}
use Rattle.py_values.specs.Ranges.{range_items}
use Rattle.py_values.specs.declared.dict.Pair.{Pair}
use Rattle.py_values.specs.declared.end.Effect.{Effect}
use Rattle.py_values.specs.declared.end.Effect.TheVariants.{Give, Fail}
use Rattle.py_values.specs.declared.end.Raise.{Raise}
use Rattle.py_values.specs.declared.key.Atom.{Atom}
use Rattle.py_operands.specs.py_kinds.declared.keys.KeyResult.{KeyResult}
use Rattle.py_operands.specs.py_kinds.declared.keys.KeyResult.TheVariants as keyed
use Rattle.py_values.specs.declared.object.Obj.{Obj}
use Rattle.py_values.specs.declared.object.Obj.TheVariants as obj
use Rattle.py_values.specs.declared.value.Value.{Value}
use Rattle.py_values.specs.declared.value.Value.TheVariants as val
use Rattle.py_ops.specs.declared.compare.Places.{Places}
use Rattle.py_ops.specs.Binary.{unsupported}
use Rattle.py_operands.specs.Faults.{too_deep, not_iterable, not_supported, key_fault}
use Rattle.py_operands.specs.Texts.{text_of}

abbrev pub compare_text : CmpOp → List ℕ
compare_text op.Equal = codes "=="
compare_text op.NotEqual = codes "!="
compare_text op.Less = codes "<"
compare_text op.LessEqual = codes "<="
compare_text op.Greater = codes ">"
compare_text op.GreaterEqual = codes ">="
compare_text op.In = codes "in"
compare_text op.NotIn = codes "not in"
compare_text op.Is = codes "is"
compare_text op.IsNot = codes "is not"

-- what a verdict gives: `wanted` where it holds; equality orders everything
abbrev pub judged : Bool → ComparisonVerdict → ℕ → Effect
judged wanted Holds n = Give (val.Bool wanted) n
judged wanted Fails n = Give (val.Bool (not wanted)) n
judged wanted Deep n = Fail too_deep n
judged wanted Unordered n = Fail too_deep n

abbrev pub judged_found : Bool → ComparisonResult → Effect
judged_found wanted f = judged wanted f.verdict f.cost

-- the same of what is told under a budget
abbrev pub judged_told : Bool → Tested → Option Effect
judged_told wanted (tested.Yes n) = Some (judged wanted Holds n)
judged_told wanted (tested.No n) = Some (judged wanted Fails n)
judged_told wanted (tested.TooDeep n) = Some (judged wanted Deep n)
judged_told wanted (tested.NotOrdered n) = Some (judged wanted Unordered n)
judged_told wanted tested.Exhausted = None

-- whether an order holds at a place; a raise where the pair isn't ordered
abbrev pub placed_by : Raise → Places → OrderVerdict → ℕ → Effect
placed_by r holds place.Less n = Give (val.Bool holds.less) n
placed_by r holds place.Same n = Give (val.Bool holds.same) n
placed_by r holds place.More n = Give (val.Bool holds.more) n
placed_by r holds place.Deep n = Fail too_deep n
placed_by r holds place.Unordered n = Fail r n

abbrev pub ordered_by : Raise → Places → OrderResult → Effect
ordered_by r holds f = placed_by r holds f.place f.cost

abbrev pub placed_told : Raise → Places → Comparison → Option Effect
placed_told r holds (ordered.Less n) = Some (placed_by r holds place.Less n)
placed_told r holds (ordered.Same n) = Some (placed_by r holds place.Same n)
placed_told r holds (ordered.More n) = Some (placed_by r holds place.More n)
placed_told r holds (ordered.TooDeep n) = Some (placed_by r holds place.Deep n)
placed_told r holds (ordered.NotOrdered n) = Some (placed_by r holds place.Unordered n)
placed_told r holds ordered.Exhausted = None

abbrev pub order_places : Bool → Bool → Bool → Places
order_places less same more = record { less = less; same = same; more = more }

-- behind an element that was compared, the search goes on where it was unequal
abbrev pub or_next : ComparisonVerdict → ℕ → ComparisonResult → ComparisonResult
or_next Holds n g = finding Holds n
or_next Fails n g = after n g
or_next Deep n g = finding Deep n
or_next Unordered n g = finding Unordered n

-- the first equal element, at a step for each that is tested, and what equality costs on it
abbrev pub search_in : (Value → ComparisonResult) → List Value → ComparisonResult
search_in f [] = holds_if false
search_in f (x ∷ xs) = after 1 (or_next (f x).verdict (f x).cost (search_in f xs))

-- whether what was found is what is asked for
abbrev pub found_is : Bool → Bool → Bool
found_is true finding = finding
found_is false finding = not finding

abbrev pub in_numbers : List ℤ → ℤ → Bool
in_numbers zs x = list_any (λ z. int_eq z x) zs

-- a number of a range; all else isn't in it
abbrev pub in_range : List ℤ → Option ℤ → Bool
in_range zs (Some x) = in_numbers zs x
in_range zs None = false

-- a key of a dict
abbrev pub in_pairs : List Obj → List (List Atom × Pair) → Bool → KeyResult → Effect
in_pairs heap es wanted (keyed.Key k) = Give (val.Bool (found_is wanted (is_some (find_pair k es)))) (length k - 1)
in_pairs heap es wanted (keyed.Fault x n) = Fail (key_fault heap x) n

-- a text has another as a part, which begins at one of its characters, or is empty
abbrev pub has_part : List ℕ → List ℕ → Bool
has_part part [] = starts_with nat_eq [] part
has_part part (c ∷ cs) = starts_with nat_eq (c ∷ cs) part || has_part part cs

abbrev pub in_text : Effect → Bool → List ℕ → Option (List ℕ) → Effect
in_text none wanted t (Some part) = Give (val.Bool (found_is wanted (has_part part t))) (length t)
in_text none wanted t None = none

-- an element of a list, tuple or range, a key of a dict, a part of a text
abbrev pub in_object : Effect → Raise → Bool → List Obj → Value → Option Obj → Effect
in_object none r wanted heap a (Some (obj.List vs)) = judged_found wanted (search_in (equal_of heap a) vs)
in_object none r wanted heap a (Some (obj.Tuple vs)) = judged_found wanted (search_in (equal_of heap a) vs)
in_object none r wanted heap a (Some (obj.Dict es)) = in_pairs heap es wanted (key_of heap a)
in_object none r wanted heap a (Some (obj.Range x)) = Give (val.Bool (found_is wanted (in_range (range_items x) (int_value a)))) 0
in_object none r wanted heap a (Some (obj.Text t)) = in_text none wanted t (text_of heap a)
in_object none r wanted heap a (Some (obj.Function x)) = Fail r 0
in_object none r wanted heap a (Some (obj.Method x)) = Fail r 0
in_object none r wanted heap a (Some (obj.Builtin x)) = Fail r 0
in_object none r wanted heap a (Some (obj.Class x)) = Fail r 0
in_object none r wanted heap a (Some (obj.Instance x)) = Fail r 0
in_object none r wanted heap a (Some (obj.Exception x)) = Fail r 0
in_object none r wanted heap a (Some (obj.Module x)) = Fail r 0
in_object none r wanted heap a (Some (obj.Fixture x)) = Fail r 0
in_object none r wanted heap a (Some obj.MarkMaker) = Fail r 0
in_object none r wanted heap a (Some (obj.Mark x)) = Fail r 0
in_object none r wanted heap a (Some (obj.Hook x)) = Fail r 0
in_object none r wanted heap a (Some (obj.Param x)) = Fail r 0
in_object none r wanted heap a (Some (obj.Request x)) = Fail r 0
in_object none r wanted heap a (Some (obj.Raises x)) = Fail r 0
in_object none r wanted heap a (Some (obj.Info x)) = Fail r 0
in_object none r wanted heap a (Some (obj.Item x)) = Fail r 0
in_object none r wanted heap a None = Fail r 0

abbrev pub contains_of : List ℕ → Bool → List Obj → Value → Value → Effect
contains_of o wanted heap a (val.Ref id) =
    in_object (unsupported o (kind_name heap a) (codes "str")) (not_iterable (kind_name heap (val.Ref id))) wanted heap a (slice_get heap id.at)
contains_of o wanted heap a val.None = Fail (not_iterable (kind_name heap val.None)) 0
contains_of o wanted heap a (val.Bool b) = Fail (not_iterable (kind_name heap (val.Bool b))) 0
contains_of o wanted heap a (val.Int n) = Fail (not_iterable (kind_name heap (val.Int n))) 0

-- A COMPARISON
unfoldable pub compare_of : CmpOp → List Obj → Value → Value → Effect
compare_of op.Equal heap a b = judged_found true (equal_of heap a b)
compare_of op.NotEqual heap a b = judged_found false (equal_of heap a b)
compare_of op.Less heap a b = ordered_by (not_supported (codes "<") (kind_name heap a) (kind_name heap b)) (order_places true false false) (order_of heap a b)
compare_of op.LessEqual heap a b = ordered_by (not_supported (codes "<=") (kind_name heap a) (kind_name heap b)) (order_places true true false) (order_of heap a b)
compare_of op.Greater heap a b = ordered_by (not_supported (codes ">") (kind_name heap a) (kind_name heap b)) (order_places false false true) (order_of heap a b)
compare_of op.GreaterEqual heap a b = ordered_by (not_supported (codes ">=") (kind_name heap a) (kind_name heap b)) (order_places false true true) (order_of heap a b)
compare_of op.In heap a b = contains_of (codes "in") true heap a b
compare_of op.NotIn heap a b = contains_of (codes "not in") false heap a b
compare_of op.Is heap a b = Give (val.Bool (is_same heap a b)) 0
compare_of op.IsNot heap a b = Give (val.Bool (not (is_same heap a b))) 0
