-- What is made of a key costs what the key does.
use Rattle.std.proofs.Common.{ℕ, ◌-◌, ◌≡◌, Bool, true, false, nat_lt, if◌then◌else◌, List, length, codes, Option, Some, None, option_map, refl}
use Rattle.call_products.specs.Products.{plain, failed, product_within}
use Rattle.call_products.specs.declared.product.Product.{Product}
use Rattle.call_products.specs.py_kinds.Keys.{key_steps, key_payable}
use Rattle.call_products.specs.py_kinds.declared.keys.KeyResult.{KeyResult}
use Rattle.call_products.specs.py_kinds.declared.keys.KeyResult.TheVariants as keyed
use Rattle.dict_methods.specs.Keyed.{got, get_by, value_under, missed, taken, pop_by, settled, setdefault_by}
use Rattle.dict_methods.specs.declared.keyed.KeyArgs.{KeyArgs}
use Rattle.py_values.specs.Ends.{cost_of}
use Rattle.py_values.specs.Limits.{most_elements}
use Rattle.py_values.specs.declared.change.Change.TheVariants as change
use Rattle.py_values.specs.declared.class.ExcClass.TheVariants.{MemoryError}
use Rattle.py_values.specs.declared.dict.Pair.{Pair}
use Rattle.py_values.specs.declared.end.Effect.TheVariants.{Put}
use Rattle.py_values.specs.declared.key.Atom.{Atom}
use Rattle.py_values.specs.declared.object.Obj.{Obj}
use Rattle.py_values.specs.declared.value.ObjId.{ObjId}
use Rattle.py_values.specs.declared.value.Value.{Value}

by_test : (b : Bool) (f : KeyResult → Product) (k : KeyResult) → option_map f (if b then None else Some k) ≡ (if b then None else Some (f k))
by_test true f k = refl
by_test false f k = refl

made_by : (budget : ℕ) (f : KeyResult → Product) (k : KeyResult) → cost_of (f k).made ≡ key_steps k → option_map f (key_payable budget k) ≡ product_within budget (f k)
made_by budget f k e = rw e (by_test (nat_lt budget (key_steps k)) f k)

got_cost : (v d : Option Value) (n : ℕ) → cost_of (got v d n).made ≡ n
got_cost (Some v) d n = refl
got_cost None d n = refl

get_cost : (heap : List Obj) (es : List (List Atom × Pair)) (d : Option Value) (k : KeyResult) → cost_of (get_by heap es d k).made ≡ key_steps k
get_cost heap es d (keyed.Key k) = got_cost (value_under es k) d (length k - 1)
get_cost heap es d (keyed.Fault x n) = refl

pub get_within : (budget : ℕ) (heap : List Obj) (es : List (List Atom × Pair)) (d : Option Value) (k : KeyResult)
    → option_map (get_by heap es d) (key_payable budget k) ≡ product_within budget (get_by heap es d k)
get_within budget heap es d k = made_by budget (get_by heap es d) k (get_cost heap es d k)

missed_cost : (key : Value) (d : Option Value) (n : ℕ) → cost_of (missed key d n).made ≡ n
missed_cost key (Some d) n = refl
missed_cost key None n = refl

taken_cost : (id : ObjId) (k : List Atom) (v : Option Value) (a : KeyArgs) → cost_of (taken id k v a).made ≡ length k - 1
taken_cost id k (Some v) a = refl
taken_cost id k None a = missed_cost a.key a.default (length k - 1)

pop_cost : (heap : List Obj) (id : ObjId) (es : List (List Atom × Pair)) (a : KeyArgs) (k : KeyResult) → cost_of (pop_by heap id es a k).made ≡ key_steps k
pop_cost heap id es a (keyed.Key k) = taken_cost id k (value_under es k) a
pop_cost heap id es a (keyed.Fault x n) = refl

pub pop_within : (budget : ℕ) (heap : List Obj) (id : ObjId) (es : List (List Atom × Pair)) (a : KeyArgs) (k : KeyResult)
    → option_map (pop_by heap id es a) (key_payable budget k) ≡ product_within budget (pop_by heap id es a k)
pop_within budget heap id es a k = made_by budget (pop_by heap id es a) k (pop_cost heap id es a k)

room_cost : (b : Bool) (n : ℕ) (p q : Product) → cost_of p.made ≡ n → cost_of q.made ≡ n → cost_of (if b then p else q).made ≡ n
room_cost true n p q e f = e
room_cost false n p q e f = f

settled_cost : (id : ObjId) (n : ℕ) (k : List Atom) (v : Option Value) (a : Value × Value) → cost_of (settled id n k v a).made ≡ length k - 1
settled_cost id n k (Some v) a = refl
settled_cost id n k None a =
    room_cost (nat_lt n most_elements) (length k - 1) (plain (Put id (change.Pair k a.0 a.1) a.1 (length k - 1)))
    (failed MemoryError (codes "sequence too long") (length k - 1)) refl refl

setdefault_cost : (heap : List Obj) (id : ObjId) (es : List (List Atom × Pair)) (a : Value × Value) (k : KeyResult) → cost_of (setdefault_by heap id es a k).made ≡ key_steps k
setdefault_cost heap id es a (keyed.Key k) = settled_cost id (length es) k (value_under es k) a
setdefault_cost heap id es a (keyed.Fault x n) = refl

pub setdefault_within : (budget : ℕ) (heap : List Obj) (id : ObjId) (es : List (List Atom × Pair)) (a : Value × Value) (k : KeyResult)
    → option_map (setdefault_by heap id es a) (key_payable budget k) ≡ product_within budget (setdefault_by heap id es a k)
setdefault_within budget heap id es a k = made_by budget (setdefault_by heap id es a) k (setdefault_cost heap id es a k)
