-- What the store of a pair of a dict's display tells.
use Rattle.std.specs.Prelude.{ℕ, ◌+◌, ◌<◌, ◌≡◌, List}
use Rattle.py_kinds.specs.Keys.{key_steps}
use Rattle.py_values.specs.declared.dict.Pair.{Pair}
use Rattle.py_values.specs.declared.end.Effect.{Effect}
use Rattle.py_values.specs.declared.key.Atom.{Atom}
use Rattle.py_kinds.specs.declared.keys.KeyResult.{KeyResult}
use Rattle.py_values.specs.declared.object.Obj.{Obj}
use Rattle.py_values.specs.declared.value.Value.{Value}
use Rattle.py_world.specs.Displays.{pair_stored}
use Rattle.machine_items.specs.declared.displays.PairResult.{PairResult}
use Rattle.machine_items.specs.declared.displays.PairResult.TheVariants.{Steps, Refused, Beyond}

-- whatever follows the pair: it goes on from these pairs and steps, or the display ends with this, or the steps are more than the budget's
abbrev pub pair_told : ℕ → PairResult → List Obj → List (List Atom × Pair) → List (List Atom × Pair) → ℕ → Value → Value → KeyResult → Type 0
pair_told budget (Steps n) heap es fs before key v k = (go : List (List Atom × Pair) → ℕ → Effect) → pair_stored heap es before key v k go ≡ go fs n
pair_told budget (Refused made) heap es fs before key v k = (go : List (List Atom × Pair) → ℕ → Effect) → pair_stored heap es before key v k go ≡ made
pair_told budget Beyond heap es fs before key v k = budget < before + key_steps k
