-- A run tells no more steps than its budget.
use Rattle.std.proofs.Common.{◌-◌, ◌≤◌, arith, ℕ, List, Option, Some, None}
use Rattle.run_tree.specs.Todo as tree
use Rattle.py_source.specs.declared.pos.Pos.{Pos}
use Rattle.py_values.specs.declared.value.Value.{Value}
use Rattle.lower_law.specs.py_world.declared.load.Load.{Load}
use Rattle.lower_law.specs.py_world.declared.load.Load.TheVariants.{Running, Loaded, Failed}
use Rattle.lower_law.specs.py_world.World.{Kinds, World, Frozen}
use Rattle.lower_law.specs.py_world.Outcome.{Outcome, Gave, Next, Returned, Broke, Continued, Raised, Exhaustion, Suspension, Request}
use Rattle.lower_law.specs.py_world.Calls.{Meaning}
use Rattle.lower_law.specs.py_world.Runs.{ended_by, told_by, call_of, coded, load_at, loaded_by, loaded_first, module_load, source_at}
use Rattle.lower_law.specs.py_world.Resuming.{Sent, begin_of, begun_by, frozen_at, resume_of, resumed_by}

left_within : (budget left : ℕ) → budget - left ≤ budget
left_within budget left = omega arith

all_within : (budget : ℕ) → budget ≤ budget
all_within budget = omega arith

none_within : (budget : ℕ) → 0 ≤ budget
none_within budget = omega arith

module _ {K : Kinds} where
  ended_within : (o : Outcome K) (budget left : ℕ) → (ended_by o (budget - left)).0.steps ≤ budget
  ended_within (Gave v s) budget left = left_within budget left
  ended_within (Next s) budget left = left_within budget left
  ended_within (Returned v s) budget left = left_within budget left
  ended_within (Broke s) budget left = left_within budget left
  ended_within (Continued s) budget left = left_within budget left
  ended_within (Raised e trace s) budget left = left_within budget left

  told_within : (budget : ℕ) (e : tree.Ending Pos (Exhaustion K) (Request K) (Outcome K) (Suspension K)) → (told_by budget e).0.steps ≤ budget
  told_within budget (tree.Ended o left) = ended_within o budget left
  told_within budget (tree.Spent x) = all_within budget
  told_within budget (tree.Frozen f left) = left_within budget left

  begun_within : (budget : ℕ) (e : tree.Ending Pos (Exhaustion K) (Request K) (Outcome K) (Suspension K)) → (begun_by budget e).0.steps ≤ budget
  begun_within budget (tree.Ended o left) = ended_within o budget left
  begun_within budget (tree.Spent x) = all_within budget
  begun_within budget (tree.Frozen f left) = left_within budget left

module _ {K : Kinds} (meaning : Meaning K) where
  pub call_within : (f : Value) (args : List Value) (budget : ℕ) (w : World K) → (call_of meaning f args budget w).0.steps ≤ budget
  call_within f args budget w = told_within budget _

  first_within : (code : Option K.script) (path : List ℕ) (budget : ℕ) (w : World K) → (loaded_first meaning code path budget w).0.steps ≤ budget
  first_within None path budget w = none_within budget
  first_within (Some code) path budget w = told_within budget _

  loaded_within : (load : Option Load) (path : List ℕ) (budget : ℕ) (w : World K) → (loaded_by meaning load path budget w).0.steps ≤ budget
  loaded_within (Some (Running id)) path budget w = none_within budget
  loaded_within (Some (Loaded id)) path budget w = none_within budget
  loaded_within (Some (Failed exc trace)) path budget w = none_within budget
  loaded_within None path budget w = first_within (coded (source_at path w.sources)) path budget w

  pub module_within : (path : List ℕ) (budget : ℕ) (w : World K) → (module_load meaning path budget w).0.steps ≤ budget
  module_within path budget w = loaded_within (load_at path w.modules) path budget w

  pub begin_within : (f : Value) (args : List Value) (budget : ℕ) (w : World K) → (begin_of meaning f args budget w).0.steps ≤ budget
  begin_within f args budget w = begun_within budget _

  resumed_within : (found : Option (Frozen K.rest)) (n : ℕ) (sent : Sent) (budget : ℕ) (w : World K) → (resumed_by meaning found n sent budget w).0.steps ≤ budget
  resumed_within None n sent budget w = none_within budget
  resumed_within (Some f) n sent budget w = begun_within budget _

  pub resume_within : (n : ℕ) (sent : Sent) (budget : ℕ) (w : World K) → (resume_of meaning n sent budget w).0.steps ≤ budget
  resume_within n sent budget w = resumed_within (frozen_at n w) n sent budget w
