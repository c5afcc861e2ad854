-- Equality with its cost (Language Reference, value comparisons).
use Rattle.std.specs.Prelude.{ℕ, zero, suc, ◌+◌, ◌-◌, Bool, true, false, ℤ, List, [], ◌∷◌, length, nat_lt, if◌then◌else◌, Option, Some, None, slice_get, eqb}
use Rattle.py_values.specs.Limits.{most_value_levels}
use Rattle.std.specs.Ordering.{int_eq}
use Rattle.py_values.specs.Numbers.{int_value}
use Rattle.py_values.specs.Pairs.{find_pair}
use Rattle.py_values.specs.Ranges.{range_items}
use Rattle.py_values.specs.declared.dict.Pair.{Pair}
use Rattle.py_values.specs.declared.key.Atom.{Atom}
use Rattle.py_values.specs.declared.object.Obj.{Obj}
use Rattle.py_values.specs.declared.object.Obj.TheVariants as obj
use Rattle.py_values.specs.declared.range.RangeObj.{RangeObj}
use Rattle.py_values.specs.declared.value.Value.{Value}
use Rattle.py_values.specs.declared.value.Value.TheVariants as val
use Rattle.py_compare.specs.declared.tested.Tested.{Tested}
use Rattle.py_compare.specs.declared.tested.Tested.TheVariants as tested

pub data ComparisonVerdict : Type 0 where
  Holds : ComparisonVerdict
  Fails : ComparisonVerdict
  Deep : ComparisonVerdict
  Unordered : ComparisonVerdict

-- what a comparison finds, and its cost in steps: one for each pair of elements that is compared
pub record ComparisonResult : Type 0 where
  pub verdict : ComparisonVerdict
  pub cost : ℕ

abbrev pub finding : ComparisonVerdict → ℕ → ComparisonResult
finding v n = record { verdict = v; cost = n }

-- behind n steps
abbrev pub after : ℕ → ComparisonResult → ComparisonResult
after n f = finding f.verdict (n + f.cost)

abbrev pub holds_if : Bool → ComparisonResult
holds_if b = finding (if b then Holds else Fails) 0

-- behind a verdict and its steps, the next comparison, where the verdict is that of equality
abbrev pub also_by : ComparisonVerdict → ℕ → ComparisonResult → ComparisonResult
also_by Holds n g = after n g
also_by Fails n g = finding Fails n
also_by Deep n g = finding Deep n
also_by Unordered n g = finding Unordered n

abbrev pub also : ComparisonResult → ComparisonResult → ComparisonResult
also f g = also_by f.verdict f.cost g

-- characters pair by pair, up to the first unequal one
abbrev pub chars_equal : List ℕ → List ℕ → ComparisonResult
chars_equal [] ys = holds_if true
chars_equal (x ∷ xs) [] = holds_if false
chars_equal (x ∷ xs) (y ∷ ys) = after 1 (if eqb x y then chars_equal xs ys else holds_if false)

-- numbers pair by pair, up to the first unequal one
abbrev pub numbers_equal : List ℤ → List ℤ → ComparisonResult
numbers_equal [] ys = holds_if true
numbers_equal (x ∷ xs) [] = holds_if false
numbers_equal (x ∷ xs) (y ∷ ys) = after 1 (if int_eq x y then numbers_equal xs ys else holds_if false)

-- values pair by pair, up to the first unequal one
abbrev pub rows_equal : (Value → Value → ComparisonResult) → List Value → List Value → ComparisonResult
rows_equal f [] ys = holds_if true
rows_equal f (x ∷ xs) [] = holds_if false
rows_equal f (x ∷ xs) (y ∷ ys) = after 1 (also (f x y) (rows_equal f xs ys))

-- a value with what the other dict has under its key
abbrev pub under_equal : (Value → Value → ComparisonResult) → Value → Option Pair → ComparisonResult
under_equal f v None = holds_if false
under_equal f v (Some p) = f v p.value

-- a pair: one step, those of its key, and then the values
abbrev pub pair_equal : (Value → Value → ComparisonResult) → List Atom × Pair → List (List Atom × Pair) → ComparisonResult
pair_equal f e es = after (1 + (length e.0 - 1)) (under_equal f e.1.value (find_pair e.0 es))

abbrev pub pairs_equal : (Value → Value → ComparisonResult) → List (List Atom × Pair) → List (List Atom × Pair) → ComparisonResult
pairs_equal f [] es = holds_if true
pairs_equal f (d ∷ ds) es = also (pair_equal f d es) (pairs_equal f ds es)

-- where lengths differ nothing is compared
abbrev pub of_length : ℕ → ℕ → ComparisonResult → ComparisonResult
of_length n m f = if eqb n m then f else holds_if false

-- texts, lists, tuples and ranges are equal element by element, dicts as maps; all else is equal to itself alone
abbrev pub objs_equal : (Value → Value → ComparisonResult) → Bool → Option Obj → Option Obj → ComparisonResult
objs_equal f same (Some (obj.Text a)) (Some (obj.Text b)) = of_length (length a) (length b) (chars_equal a b)
objs_equal f same (Some (obj.Text a)) other = holds_if same
objs_equal f same (Some (obj.List a)) (Some (obj.List b)) = of_length (length a) (length b) (rows_equal f a b)
objs_equal f same (Some (obj.List a)) other = holds_if same
objs_equal f same (Some (obj.Tuple a)) (Some (obj.Tuple b)) = of_length (length a) (length b) (rows_equal f a b)
objs_equal f same (Some (obj.Tuple a)) other = holds_if same
objs_equal f same (Some (obj.Dict a)) (Some (obj.Dict b)) = of_length (length a) (length b) (pairs_equal f a b)
objs_equal f same (Some (obj.Dict a)) other = holds_if same
objs_equal f same (Some (obj.Range a)) (Some (obj.Range b)) = of_length a.length b.length (numbers_equal (range_items a) (range_items b))
objs_equal f same (Some (obj.Range a)) other = holds_if same
objs_equal f same (Some (obj.Function a)) other = holds_if same
objs_equal f same (Some (obj.Method a)) other = holds_if same
objs_equal f same (Some (obj.Builtin a)) other = holds_if same
objs_equal f same (Some (obj.Class a)) other = holds_if same
objs_equal f same (Some (obj.Instance a)) other = holds_if same
objs_equal f same (Some (obj.Exception a)) other = holds_if same
objs_equal f same (Some (obj.Module a)) other = holds_if same
objs_equal f same (Some (obj.Fixture a)) other = holds_if same
objs_equal f same (Some obj.MarkMaker) other = holds_if same
objs_equal f same (Some (obj.Mark a)) other = holds_if same
objs_equal f same (Some (obj.Hook a)) other = holds_if same
objs_equal f same (Some (obj.Param a)) other = holds_if same
objs_equal f same (Some (obj.Request a)) other = holds_if same
objs_equal f same (Some (obj.Raises a)) other = holds_if same
objs_equal f same (Some (obj.Info a)) other = holds_if same
objs_equal f same (Some (obj.Item a)) other = holds_if same
objs_equal f same None other = holds_if same

abbrev pub same_numbers : Option ℤ → Option ℤ → Bool
same_numbers (Some x) (Some y) = int_eq x y
same_numbers (Some x) None = false
same_numbers None other = false

-- booleans are the numbers 0 and 1
abbrev pub plain_equal : Value → Value → Bool
plain_equal val.None val.None = true
plain_equal val.None (val.Bool y) = false
plain_equal val.None (val.Int y) = false
plain_equal val.None (val.Ref j) = false
plain_equal (val.Bool x) b = same_numbers (int_value (val.Bool x)) (int_value b)
plain_equal (val.Int x) b = same_numbers (int_value (val.Int x)) (int_value b)
plain_equal (val.Ref i) b = same_numbers (int_value (val.Ref i)) (int_value b)

-- values to a depth; one that lies deeper is compared with nothing
abbrev pub equal_to : ℕ → List Obj → Value → Value → ComparisonResult
equal_to zero heap a b = finding Deep 0
equal_to (suc n) heap (val.Ref i) (val.Ref j) = objs_equal (equal_to n heap) (eqb i.at j.at) (slice_get heap i.at) (slice_get heap j.at)
equal_to (suc n) heap a b = holds_if (plain_equal a b)

-- EQUALITY, through 100 levels
unfoldable pub equal_of : List Obj → Value → Value → ComparisonResult
equal_of heap a b = equal_to most_value_levels heap a b

abbrev pub verdict_told : ComparisonVerdict → ℕ → Tested
verdict_told Holds n = tested.Yes n
verdict_told Fails n = tested.No n
verdict_told Deep n = tested.TooDeep n
verdict_told Unordered n = tested.NotOrdered n

-- what is told of a comparison under a budget
abbrev pub told : ℕ → ComparisonResult → Tested
told budget f = if nat_lt budget f.cost then tested.Exhausted else verdict_told f.verdict f.cost

-- the same behind n steps, and the steps of it
abbrev pub shifted : ℕ → Tested → Tested
shifted n (tested.Yes m) = tested.Yes (n + m)
shifted n (tested.No m) = tested.No (n + m)
shifted n (tested.TooDeep m) = tested.TooDeep (n + m)
shifted n (tested.NotOrdered m) = tested.NotOrdered (n + m)
shifted n tested.Exhausted = tested.Exhausted

abbrev pub tested_steps : Tested → ℕ
tested_steps (tested.Yes m) = m
tested_steps (tested.No m) = m
tested_steps (tested.TooDeep m) = m
tested_steps (tested.NotOrdered m) = m
tested_steps tested.Exhausted = 0
