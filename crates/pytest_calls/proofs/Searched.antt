-- The end of a search within a budget.
use Rattle.std.proofs.Common.{◌≡◌, ℕ, Bool, true, false, nat_lt, List, Option, Some, None, refl}
use Rattle.std.specs.Prelude.{if◌then◌else◌}
use Rattle.match_pattern.specs.Searching.{search_end}
use Rattle.match_pattern.specs.Searching as searching
use Rattle.py_values.specs.Ends.{cost_of, payable}
use Rattle.py_values.specs.declared.end.Effect.{Effect}
use Rattle.pytest_calls.specs.Swallowing.{search_made, search_ended}

by_budget : (pattern message : List ℕ) (over answer : Bool) (n : ℕ) → search_ended pattern message (search_end (if over then None else Some n) answer) ≡ (if over then None else Some (search_made pattern message answer n))
by_budget pattern message true answer n = refl
by_budget pattern message false true n = refl
by_budget pattern message false false n = refl

made_cost : (pattern message : List ℕ) (answer : Bool) (n : ℕ) → cost_of (search_made pattern message answer n) ≡ n
made_cost pattern message true n = refl
made_cost pattern message false n = refl

pub ended_within : (pattern message : List ℕ) (budget n : ℕ) (answer : Bool) → search_ended pattern message (search_end (searching.affordable budget n) answer) ≡ payable budget (search_made pattern message answer n)
ended_within pattern message budget n answer = rw (made_cost pattern message answer n) (by_budget pattern message (nat_lt budget n) answer n)
