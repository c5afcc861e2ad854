-- The pairs of a dict's display.
use Rattle.std.proofs.Common.{ℕ, suc, ◌+◌, ◌-◌, ◌*◌, ◌/◌, ◌<◌, nat_lt, ◌≤◌, ◌≡◌, ◌∙◌, Bool, true, false, List, [], ◌∷◌, length, drop, get_or, nat_le, not, ◌&&◌, is_some, if◌then◌else◌, Some, None, refl, ap, arith, drop-cons}
use Rattle.std.proofs.lemmas.Bool.{lt-ltb, ltb-true}
use Rattle.py_values.specs.Ends.{cost_of, payable}
use Rattle.py_kinds.specs.Keys.{key_of, key_payable, key_steps}
use Rattle.py_values.specs.Limits.{most_elements}
use Rattle.py_values.specs.Pairs.{find_pair, put_pair}
use Rattle.py_values.specs.declared.dict.Pair.{Pair}
use Rattle.py_values.specs.declared.end.Effect.{Effect}
use Rattle.py_values.specs.declared.end.Effect.TheVariants.{New}
use Rattle.py_values.specs.declared.key.Atom.{Atom}
use Rattle.py_kinds.specs.declared.keys.KeyResult.{KeyResult}
use Rattle.py_kinds.specs.declared.keys.KeyResult.TheVariants as keyed
use Rattle.py_values.specs.declared.object.Obj.{Obj}
use Rattle.py_values.specs.declared.object.Obj.TheVariants as obj
use Rattle.py_values.specs.declared.value.Value.{Value}
use Rattle.py_values.specs.declared.value.Value.TheVariants as val
use Rattle.py_operands.specs.Sequences.{too_long}
use Rattle.py_world.specs.Displays.{pair_stored, pairs_stored, pair_count}

pub next_pair : (xs : List Value) (i : ℕ) → 2 * i + 1 < length xs
    → drop (2 * i) xs ≡ get_or xs (2 * i) val.None ∷ (get_or xs (2 * i + 1) val.None ∷ drop (2 * (i + 1)) xs)
next_pair xs i w =
    let v : 2 * i < length xs = omega arith in
    let one : suc (2 * i) ≡ 2 * i + 1 = omega arith in
    let two : suc (2 * i + 1) ≡ 2 * (i + 1) = omega arith in
    drop-cons xs (2 * i) val.None v
    ∙ ap (λ (n : ℕ). get_or xs (2 * i) val.None ∷ drop n xs) one
    ∙ ap (λ (ys : List Value). get_or xs (2 * i) val.None ∷ ys) (drop-cons xs (2 * i + 1) val.None w ∙ ap (λ (n : ℕ). get_or xs (2 * i + 1) val.None ∷ drop n xs) two)

least : (xs : List Value) → pair_count xs * 2 ≤ length xs
least [] = omega arith
least (x ∷ []) = omega arith
least (x ∷ (y ∷ xs)) = let h : pair_count xs * 2 ≤ length xs = least xs in omega arith

most : (xs : List Value) → length xs < pair_count xs * 2 + 2
most [] = omega arith
most (x ∷ []) = omega arith
most (x ∷ (y ∷ xs)) = let h : length xs < pair_count xs * 2 + 2 = most xs in omega arith

pub halves : (xs : List Value) → pair_count xs ≡ length xs / 2
halves xs = let a : pair_count xs * 2 ≤ length xs = least xs in let b : length xs < pair_count xs * 2 + 2 = most xs in omega arith

by_test : (b : Bool) (n : ℕ) (m : Effect) → n ≤ cost_of m → n ≤ cost_of (if b then too_long n else m)
by_test true n m h = omega arith
by_test false n m h = h

pair_grows : (heap : List Obj) (es : List (List Atom × Pair)) (n : ℕ) (key v : Value) (k : KeyResult) (go : List (List Atom × Pair) → ℕ → Effect)
    → ((fs : List (List Atom × Pair)) (m : ℕ) → m ≤ cost_of (go fs m)) → n + key_steps k ≤ cost_of (pair_stored heap es n key v k go)
pair_grows heap es n key v (keyed.Key k) go h =
    by_test (not (is_some (find_pair k es)) && nat_le most_elements (length es)) (n + (length k - 1)) (go (put_pair k key v es) (n + (length k - 1))) (h (put_pair k key v es) (n + (length k - 1)))
pair_grows heap es n key v (keyed.Fault x m) go h = omega arith

grows : (heap : List Obj) (es : List (List Atom × Pair)) (n : ℕ) (vs : List Value) → n ≤ cost_of (pairs_stored heap es n vs)
grows heap es n [] = omega arith
grows heap es n (key ∷ []) = omega arith
grows heap es n (key ∷ (v ∷ rest)) =
    let h : n + key_steps (key_of heap key) ≤ cost_of (pairs_stored heap es n (key ∷ (v ∷ rest))) = pair_grows heap es n key v (key_of heap key) (λ fs m. pairs_stored heap fs m rest) (λ fs m. grows heap fs m rest) in
    omega arith

above : (budget : ℕ) (m : Effect) → budget < cost_of m → payable budget m ≡ None
above budget m h = ap (λ (b : Bool). if b then None else Some m) (lt-ltb budget (cost_of m) h)

-- a budget that hasn't the steps of a pair
pub beyond : (budget : ℕ) (heap : List Obj) (es : List (List Atom × Pair)) (n : ℕ) (key v : Value) (rest : List Value)
    → budget < n + key_steps (key_of heap key) → payable budget (pairs_stored heap es n (key ∷ (v ∷ rest))) ≡ None
beyond budget heap es n key v rest h =
    let g : n + key_steps (key_of heap key) ≤ cost_of (pairs_stored heap es n (key ∷ (v ∷ rest))) = pair_grows heap es n key v (key_of heap key) (λ fs m. pairs_stored heap fs m rest) (λ fs m. grows heap fs m rest) in
    above budget (pairs_stored heap es n (key ∷ (v ∷ rest))) (omega arith)

-- a key under what is left of a budget
spent_by : (b : Bool) (k : KeyResult) → None ≡ (if b then None else Some k) → b ≡ true
spent_by true k e = refl
spent_by false k e = absurd (cc)

pub key_beyond : (budget before left : ℕ) (k : KeyResult) → budget ≡ before + left → None ≡ key_payable left k → budget < before + key_steps k
key_beyond budget before left k h e =
    let over : left < key_steps k = ltb-true left (key_steps k) (spent_by (nat_lt left (key_steps k)) k e) in
    omega arith

-- behind the last pair
pub last_pair : (heap : List Obj) (es : List (List Atom × Pair)) (n : ℕ) (vs : List Value) → length vs < 2 → pairs_stored heap es n vs ≡ New (obj.Dict es) n
last_pair heap es n [] h = refl
last_pair heap es n (x ∷ []) h = refl
last_pair heap es n (x ∷ (y ∷ vs)) h = absurd (omega arith)
