-- Order with its cost (Language Reference, value comparisons).
use Rattle.std.specs.Prelude.{ℕ, zero, suc, ◌+◌, Bool, true, false, ◌||◌, ℤ, List, [], ◌∷◌, nat_lt, int_lt, if◌then◌else◌, Option, Some, None, slice_get, eqb}
use Rattle.py_values.specs.Limits.{most_value_levels}
use Rattle.std.specs.Ordering.{int_eq}
use Rattle.py_values.specs.Numbers.{int_value}
use Rattle.py_values.specs.declared.object.Obj.{Obj}
use Rattle.py_values.specs.declared.object.Obj.TheVariants as obj
use Rattle.py_values.specs.declared.value.ObjId.{ObjId}
use Rattle.py_values.specs.declared.value.Value.{Value}
use Rattle.py_values.specs.declared.value.Value.TheVariants as val
use Rattle.py_compare.specs.Equal.{ComparisonVerdict, Holds, Fails, ComparisonResult, finding, objs_equal, equal_to, plain_equal}
use Rattle.py_compare.specs.Equal as equal
use Rattle.py_compare.specs.declared.tested.Tested.{Tested}
use Rattle.py_compare.specs.declared.tested.Tested.TheVariants as tested
use Rattle.py_compare.specs.declared.tested.Comparison.{Comparison}
use Rattle.py_compare.specs.declared.tested.Comparison.TheVariants as ordered

pub data OrderVerdict : Type 0 where
  Less : OrderVerdict
  Same : OrderVerdict
  More : OrderVerdict
  Deep : OrderVerdict
  Unordered : OrderVerdict

-- how two values are ordered, and the cost in steps: one for each pair of elements that is compared
pub record OrderResult : Type 0 where
  pub place : OrderVerdict
  pub cost : ℕ

abbrev pub placed : OrderVerdict → ℕ → OrderResult
placed p n = record { place = p; cost = n }

-- behind n steps
abbrev pub behind : ℕ → OrderResult → OrderResult
behind n f = placed f.place (n + f.cost)

-- behind a place and its steps the next comparison, where nothing differs yet
abbrev pub next_by : OrderVerdict → ℕ → OrderResult → OrderResult
next_by Less n g = placed Less n
next_by Same n g = behind n g
next_by More n g = placed More n
next_by Deep n g = placed Deep n
next_by Unordered n g = placed Unordered n

abbrev pub next : OrderResult → OrderResult → OrderResult
next f g = next_by f.place f.cost g

-- characters by their first differing pair, else by length
abbrev pub chars_order : List ℕ → List ℕ → OrderResult
chars_order [] [] = placed Same 0
chars_order [] (y ∷ ys) = placed Less 0
chars_order (x ∷ xs) [] = placed More 0
chars_order (x ∷ xs) (y ∷ ys) = behind 1 (if eqb x y then chars_order xs ys else placed (if nat_lt x y then Less else More) 0)

-- values by their first differing pair, else by length
abbrev pub rows_order : (Value → Value → OrderResult) → List Value → List Value → OrderResult
rows_order f [] [] = placed Same 0
rows_order f [] (y ∷ ys) = placed Less 0
rows_order f (x ∷ xs) [] = placed More 0
rows_order f (x ∷ xs) (y ∷ ys) = behind 1 (next (f x y) (rows_order f xs ys))

-- a pair that has no order may be equal
abbrev pub unlike_by : ComparisonVerdict → ℕ → OrderResult
unlike_by Holds n = placed Same n
unlike_by Fails n = placed Unordered n
unlike_by equal.Deep n = placed Deep n
unlike_by equal.Unordered n = placed Unordered n

abbrev pub unlike : ComparisonResult → OrderResult
unlike f = unlike_by f.verdict f.cost

-- texts, and lists or tuples within one kind
abbrev pub objs_order : (Value → Value → OrderResult) → OrderResult → Option Obj → Option Obj → OrderResult
objs_order f other (Some (obj.Text a)) (Some (obj.Text b)) = chars_order a b
objs_order f other (Some (obj.Text a)) b = other
objs_order f other (Some (obj.List a)) (Some (obj.List b)) = rows_order f a b
objs_order f other (Some (obj.List a)) b = other
objs_order f other (Some (obj.Tuple a)) (Some (obj.Tuple b)) = rows_order f a b
objs_order f other (Some (obj.Tuple a)) b = other
objs_order f other (Some (obj.Dict a)) b = other
objs_order f other (Some (obj.Range a)) b = other
objs_order f other (Some (obj.Function a)) b = other
objs_order f other (Some (obj.Method a)) b = other
objs_order f other (Some (obj.Builtin a)) b = other
objs_order f other (Some (obj.Class a)) b = other
objs_order f other (Some (obj.Instance a)) b = other
objs_order f other (Some (obj.Exception a)) b = other
objs_order f other (Some (obj.Module a)) b = other
objs_order f other (Some (obj.Fixture a)) b = other
objs_order f other (Some obj.MarkMaker) b = other
objs_order f other (Some (obj.Mark a)) b = other
objs_order f other (Some (obj.Hook a)) b = other
objs_order f other (Some (obj.Param a)) b = other
objs_order f other (Some (obj.Request a)) b = other
objs_order f other (Some (obj.Raises a)) b = other
objs_order f other (Some (obj.Info a)) b = other
objs_order f other (Some (obj.Item a)) b = other
objs_order f other None b = other

abbrev pub ints_order : ℤ → ℤ → OrderResult
ints_order x y = placed (if int_lt x y then Less else if int_eq x y then Same else More) 0

abbrev pub numbers_order : OrderResult → Option ℤ → Option ℤ → OrderResult
numbers_order other (Some x) (Some y) = ints_order x y
numbers_order other (Some x) None = other
numbers_order other None b = other

-- the objects that two values are, where both are one
abbrev pub refs_of : Value → Value → Option (ObjId × ObjId)
refs_of (val.Ref i) (val.Ref j) = Some (i, j)
refs_of _ _ = None

abbrev pub order_by : (ObjId → ObjId → OrderResult) → OrderResult → Option (ObjId × ObjId) → OrderResult
order_by f other (Some p) = f p.0 p.1
order_by f other None = other

-- a pair within others, to a depth
abbrev pub order_to : ℕ → List Obj → Value → Value → OrderResult
order_to zero heap a b = placed Deep 0
order_to (suc n) heap a b =
    order_by (λ i j. objs_order (order_to n heap) (unlike (objs_equal (equal_to n heap) (eqb i.at j.at) (slice_get heap i.at) (slice_get heap j.at)))
    (slice_get heap i.at) (slice_get heap j.at))
    (numbers_order (unlike (equal.holds_if (plain_equal a b))) (int_value a) (int_value b)) (refs_of a b)

abbrev pub objs_ordered : Option Obj → Option Obj → Bool
objs_ordered (Some (obj.Text a)) (Some (obj.Text b)) = true
objs_ordered (Some (obj.Text a)) b = false
objs_ordered (Some (obj.List a)) (Some (obj.List b)) = true
objs_ordered (Some (obj.List a)) b = false
objs_ordered (Some (obj.Tuple a)) (Some (obj.Tuple b)) = true
objs_ordered (Some (obj.Tuple a)) b = false
objs_ordered (Some (obj.Dict a)) b = false
objs_ordered (Some (obj.Range a)) b = false
objs_ordered (Some (obj.Function a)) b = false
objs_ordered (Some (obj.Method a)) b = false
objs_ordered (Some (obj.Builtin a)) b = false
objs_ordered (Some (obj.Class a)) b = false
objs_ordered (Some (obj.Instance a)) b = false
objs_ordered (Some (obj.Exception a)) b = false
objs_ordered (Some (obj.Module a)) b = false
objs_ordered (Some (obj.Fixture a)) b = false
objs_ordered (Some obj.MarkMaker) b = false
objs_ordered (Some (obj.Mark a)) b = false
objs_ordered (Some (obj.Hook a)) b = false
objs_ordered (Some (obj.Param a)) b = false
objs_ordered (Some (obj.Request a)) b = false
objs_ordered (Some (obj.Raises a)) b = false
objs_ordered (Some (obj.Info a)) b = false
objs_ordered (Some (obj.Item a)) b = false
objs_ordered None b = false

abbrev pub numbers_ordered : Option ℤ → Option ℤ → Bool
numbers_ordered (Some x) (Some y) = true
numbers_ordered (Some x) None = false
numbers_ordered None b = false

-- whether two values have an order: numbers, texts, and lists or tuples within one kind
abbrev pub is_ordered : List Obj → Value → Value → Bool
is_ordered heap (val.Ref i) (val.Ref j) = objs_ordered (slice_get heap i.at) (slice_get heap j.at)
is_ordered heap a b = numbers_ordered (int_value a) (int_value b)

-- ORDER, through 100 levels
unfoldable pub order_of : List Obj → Value → Value → OrderResult
order_of heap a b = if is_ordered heap a b then order_to most_value_levels heap a b else placed Unordered 0

abbrev pub less_by : OrderVerdict → ℕ → ComparisonResult
less_by Less n = finding Holds n
less_by Same n = finding Fails n
less_by More n = finding Fails n
less_by Deep n = finding equal.Deep n
less_by Unordered n = finding equal.Unordered n

-- whether one value is less than another
abbrev pub less_of : List Obj → Value → Value → ComparisonResult
less_of heap a b = less_by (order_of heap a b).place (order_of heap a b).cost

abbrev pub place_told : OrderVerdict → ℕ → Comparison
place_told Less n = ordered.Less n
place_told Same n = ordered.Same n
place_told More n = ordered.More n
place_told Deep n = ordered.TooDeep n
place_told Unordered n = ordered.NotOrdered n

-- what is told of an order under a budget
abbrev pub place_within : ℕ → OrderResult → Comparison
place_within budget f = if nat_lt budget f.cost then ordered.Exhausted else place_told f.place f.cost

-- the same behind n steps, and the steps of it
abbrev pub place_shifted : ℕ → Comparison → Comparison
place_shifted n (ordered.Less m) = ordered.Less (n + m)
place_shifted n (ordered.Same m) = ordered.Same (n + m)
place_shifted n (ordered.More m) = ordered.More (n + m)
place_shifted n (ordered.TooDeep m) = ordered.TooDeep (n + m)
place_shifted n (ordered.NotOrdered m) = ordered.NotOrdered (n + m)
place_shifted n ordered.Exhausted = ordered.Exhausted

abbrev pub ordered_steps : Comparison → ℕ
ordered_steps (ordered.Less m) = m
ordered_steps (ordered.Same m) = m
ordered_steps (ordered.More m) = m
ordered_steps (ordered.TooDeep m) = m
ordered_steps (ordered.NotOrdered m) = m
ordered_steps ordered.Exhausted = 0

-- what is told of a pair that has no order, given what is told of its equality
abbrev pub unlike_told : Tested → Comparison
unlike_told (tested.Yes n) = ordered.Same n
unlike_told (tested.No n) = ordered.NotOrdered n
unlike_told (tested.TooDeep n) = ordered.TooDeep n
unlike_told (tested.NotOrdered n) = ordered.NotOrdered n
unlike_told tested.Exhausted = ordered.Exhausted

-- what is told of `less`, given what is told of the order
abbrev pub less_told : Comparison → Tested
less_told (ordered.Less n) = tested.Yes n
less_told (ordered.Same n) = tested.No n
less_told (ordered.More n) = tested.No n
less_told (ordered.TooDeep n) = tested.TooDeep n
less_told (ordered.NotOrdered n) = tested.NotOrdered n
less_told ordered.Exhausted = tested.Exhausted
