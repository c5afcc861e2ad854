-- Displays of lists, tuples and dicts, subscripts and slices (Language Reference, parenthesized forms; list displays; dictionary
-- displays; subscriptions; slicings).
use Rattle.std.specs.Prelude.{ℕ, suc, ◌+◌, ◌-◌, not, ◌&&◌, List, [], ◌∷◌, length, is_some, nat_le, nat_lt, Option, Some, None, if◌then◌else◌}
use Rattle.py_calls.specs.py_kinds.Keys.{key_of}
use Rattle.py_values.specs.Limits.{most_elements}
use Rattle.py_values.specs.Pairs.{find_pair, put_pair}
use Rattle.py_values.specs.declared.dict.Pair.{Pair}
use Rattle.py_values.specs.declared.key.Atom.{Atom}
use Rattle.py_calls.specs.py_kinds.declared.keys.KeyResult.{KeyResult}
use Rattle.py_calls.specs.py_kinds.declared.keys.KeyResult.TheVariants as keyed
use Rattle.py_values.specs.declared.end.Effect.{Effect}
use Rattle.py_values.specs.declared.end.Effect.TheVariants.{New, Fail}
use Rattle.py_values.specs.declared.index.Index.TheVariants.{At, Slice}
use Rattle.py_values.specs.declared.object.Obj.{Obj}
use Rattle.py_values.specs.declared.object.Obj.TheVariants as obj
use Rattle.py_values.specs.declared.value.Value.{Value}
use Rattle.py_values.specs.declared.value.Value.TheVariants as val
use Rattle.py_calls.specs.py_operands.Faults.{key_fault}
use Rattle.py_calls.specs.py_operands.Sequences.{too_long}
use Rattle.py_calls.specs.py_items.Items.{subscript_of}
use Rattle.py_world.specs.World.{Kinds, CallState, heap_of}
use Rattle.py_world.specs.Site.{Site, trace_of}
use Rattle.py_world.specs.Outcome.{Rest, Continuation, Denotation, on_value, costing, operated}
use Rattle.py_world.specs.Expressions.{arguments}

-- a list or tuple of values, at a step for each of them
abbrev pub displayed : (List Value → Obj) → List Value → Effect
displayed f vs = if nat_lt most_elements (length vs) then too_long (length vs) else New (f vs) (length vs)

-- a pair stored behind those so far, with the steps so far and those of its key; and then what follows
abbrev pub pair_stored : List Obj → List (List Atom × Pair) → ℕ → Value → Value → KeyResult → (List (List Atom × Pair) → ℕ → Effect) → Effect
pair_stored heap es n key v (keyed.Key k) go =
    if not (is_some (find_pair k es)) && nat_le most_elements (length es) then too_long (n + (length k - 1)) else go (put_pair k key v es) (n + (length k - 1))
pair_stored heap es n key v (keyed.Fault x m) go = Fail (key_fault heap x) (n + m)

-- keys, each with its value behind it, stored in turn
abbrev pub pairs_stored : List Obj → List (List Atom × Pair) → ℕ → List Value → Effect
pairs_stored heap es n (key ∷ (v ∷ rest)) = pair_stored heap es n key v (key_of heap key) (λ fs m. pairs_stored heap fs m rest)
pairs_stored heap es n (key ∷ []) = New (obj.Dict es) n
pairs_stored heap es n [] = New (obj.Dict es) n

abbrev pub pair_count : List Value → ℕ
pair_count (key ∷ (v ∷ rest)) = suc (pair_count rest)
pair_count (key ∷ []) = 0
pair_count [] = 0

-- a dict of keys and values, at a step for each pair beside the steps of the keys
abbrev pub dict_displayed : List Obj → List Value → Effect
dict_displayed heap vs = pairs_stored heap [] (pair_count vs) vs

-- each key, and its value behind it
abbrev pub in_pairs : {A : Type 0} → List A → List A → List A
in_pairs (k ∷ ks) (e ∷ es) = k ∷ (e ∷ in_pairs ks es)
in_pairs (k ∷ ks) [] = []
in_pairs [] es = []

-- a bound of a slice; None is as an absent one
abbrev pub bound_given : Value → Option Value
bound_given val.None = None
bound_given (val.Bool b) = Some (val.Bool b)
bound_given (val.Int n) = Some (val.Int n)
bound_given (val.Ref id) = Some (val.Ref id)

module _ {K : Kinds} where
  -- the parts from left to right, and then what is made of their values, with its cost
  abbrev pub collected : (List Obj → List Value → Effect) → List (Denotation K) → Denotation K
  collected make es p s k = arguments es [] p s k (λ vs s. costing (make (heap_of s) vs) (trace_of p) s k)

  abbrev pub list_part : List (Denotation K) → Denotation K
  list_part es = collected (λ heap vs. displayed obj.List vs) es

  abbrev pub tuple_part : List (Denotation K) → Denotation K
  tuple_part es = collected (λ heap vs. displayed obj.Tuple vs) es

  abbrev pub dict_part : List (Denotation K) → List (Denotation K) → Denotation K
  dict_part ks es = collected dict_displayed (in_pairs ks es)

  -- behind what is subscripted: its index or key
  abbrev pub subscript_on : Value → Denotation K → Denotation K
  subscript_on x i p s k = i p s (λ o. on_value o k (λ j s. operated (subscript_of (heap_of s) x (At j)) p s k))

  abbrev pub subscript_part : Denotation K → Denotation K → Denotation K
  subscript_part a i p s k = a p s (λ o. on_value o k (λ x s. subscript_on x i p s k))

  -- a bound of a slice, where it is given, and then what follows
  abbrev pub slice_bound : Option (Denotation K) → Site → CallState K → Continuation K → (Option Value → CallState K → Rest K) → Rest K
  slice_bound None p s k go = go None s
  slice_bound (Some e) p s k go = e p s (λ o. on_value o k (λ v s. go (bound_given v) s))

  abbrev pub sliced_at : Value → Option Value → Option Value → Option Value → Denotation K
  sliced_at x a b c p s k = operated (subscript_of (heap_of s) x (Slice a b c)) p s k

  -- behind what is sliced: its bounds from left to right
  abbrev pub slice_by : Value → Option Value → Option Value → Option (Denotation K) → Denotation K
  slice_by x a b by p s k = slice_bound by p s k (λ c s. sliced_at x a b c p s k)

  abbrev pub slice_to : Value → Option Value → Option (Denotation K) → Option (Denotation K) → Denotation K
  slice_to x a to by p s k = slice_bound to p s k (λ b s. slice_by x a b by p s k)

  abbrev pub slice_on : Value → Option (Denotation K) → Option (Denotation K) → Option (Denotation K) → Denotation K
  slice_on x from to by p s k = slice_bound from p s k (λ a s. slice_to x a to by p s k)

  abbrev pub slice_part : Denotation K → Option (Denotation K) → Option (Denotation K) → Option (Denotation K) → Denotation K
  slice_part e from to by p s k = e p s (λ o. on_value o k (λ x s. slice_on x from to by p s k))
