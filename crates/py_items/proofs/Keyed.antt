-- What is made of a key costs what the key does.
use Rattle.std.proofs.Common.{ℕ, ◌-◌, ◌≡◌, Bool, true, false, nat_lt, nat_le, not, ◌&&◌, is_some, if◌then◌else◌, List, length, Option, Some, None, option_map, refl}
use Rattle.py_items.specs.Items.{pair_given, under_key, pair_put, store_key, pair_taken, delete_key}
use Rattle.py_operands.specs.py_kinds.Keys.{key_steps, key_payable}
use Rattle.py_operands.specs.py_kinds.declared.keys.KeyResult.{KeyResult}
use Rattle.py_operands.specs.py_kinds.declared.keys.KeyResult.TheVariants as keyed
use Rattle.py_operands.specs.Sequences.{too_long}
use Rattle.py_values.specs.Ends.{payable, cost_of}
use Rattle.py_values.specs.Limits.{most_elements}
use Rattle.py_values.specs.Pairs.{find_pair}
use Rattle.py_values.specs.declared.dict.Pair.{Pair}
use Rattle.py_values.specs.declared.end.Effect.{Effect}
use Rattle.py_values.specs.declared.key.Atom.{Atom}
use Rattle.py_values.specs.declared.object.Obj.{Obj}
use Rattle.py_values.specs.declared.value.ObjId.{ObjId}
use Rattle.py_values.specs.declared.value.Value.{Value}

by_test : (b : Bool) (f : KeyResult → Effect) (k : KeyResult) → option_map f (if b then None else Some k) ≡ (if b then None else Some (f k))
by_test true f k = refl
by_test false f k = refl

made_by : (budget : ℕ) (f : KeyResult → Effect) (k : KeyResult) → cost_of (f k) ≡ key_steps k → option_map f (key_payable budget k) ≡ payable budget (f k)
made_by budget f k e = rw e (by_test (nat_lt budget (key_steps k)) f k)

given_cost : (key : Value) (n : ℕ) (p : Option Pair) → cost_of (pair_given key n p) ≡ n
given_cost key n (Some p) = refl
given_cost key n None = refl

under_cost : (heap : List Obj) (es : List (List Atom × Pair)) (key : Value) (k : KeyResult) → cost_of (under_key heap es key k) ≡ key_steps k
under_cost heap es key (keyed.Key k) = given_cost key (length k - 1) (find_pair k es)
under_cost heap es key (keyed.Fault x n) = refl

pub under_key_within : (budget : ℕ) (heap : List Obj) (es : List (List Atom × Pair)) (key : Value) (k : KeyResult)
    → option_map (under_key heap es key) (key_payable budget k) ≡ payable budget (under_key heap es key k)
under_key_within budget heap es key k = made_by budget (under_key heap es key) k (under_cost heap es key k)

either_cost : (b : Bool) (n : ℕ) (m : Effect) → cost_of m ≡ n → cost_of (if b then too_long n else m) ≡ n
either_cost true n m e = refl
either_cost false n m e = e

store_cost : (heap : List Obj) (id : ObjId) (es : List (List Atom × Pair)) (key v : Value) (k : KeyResult) → cost_of (store_key heap id es key v k) ≡ key_steps k
store_cost heap id es key v (keyed.Key k) =
    either_cost (not (is_some (find_pair k es)) && nat_le most_elements (length es)) (length k - 1) _ refl
store_cost heap id es key v (keyed.Fault x n) = refl

pub store_key_within : (budget : ℕ) (heap : List Obj) (id : ObjId) (es : List (List Atom × Pair)) (key v : Value) (k : KeyResult)
    → option_map (store_key heap id es key v) (key_payable budget k) ≡ payable budget (store_key heap id es key v k)
store_key_within budget heap id es key v k = made_by budget (store_key heap id es key v) k (store_cost heap id es key v k)

taken_cost : (id : ObjId) (key : Value) (k : List Atom) (p : Option Pair) → cost_of (pair_taken id key k p) ≡ length k - 1
taken_cost id key k (Some p) = refl
taken_cost id key k None = refl

delete_cost : (heap : List Obj) (id : ObjId) (es : List (List Atom × Pair)) (key : Value) (k : KeyResult) → cost_of (delete_key heap id es key k) ≡ key_steps k
delete_cost heap id es key (keyed.Key k) = taken_cost id key k (find_pair k es)
delete_cost heap id es key (keyed.Fault x n) = refl

pub delete_key_within : (budget : ℕ) (heap : List Obj) (id : ObjId) (es : List (List Atom × Pair)) (key : Value) (k : KeyResult)
    → option_map (delete_key heap id es key) (key_payable budget k) ≡ payable budget (delete_key heap id es key k)
delete_key_within budget heap id es key k = made_by budget (delete_key heap id es key) k (delete_cost heap id es key k)
