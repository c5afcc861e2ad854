-- What the code keeps of demands: the values that were given.
use Rattle.std.specs.Prelude.{ℕ, ◌==◌, List, [], ◌∷◌, Option, None, Some, if◌then◌else◌}
use Rattle.session_rules.specs.Session.{with_value}
use Rattle.setup_stack.specs.declared.answers.Grant.{Grant as CodeGrant}

-- the value that answered a definition's demand
abbrev pub value_given : {V : Type 0} → ℕ → List (CodeGrant V) → Option V
value_given d [] = None
value_given d (g ∷ given) = if d == g.def then Some g.value else value_given d given

abbrev pub argument_given : {V : Type 0} → List (CodeGrant V) → Option ℕ → Option V
argument_given given None = None
argument_given given (Some d) = value_given d given

-- the values of these arguments, where each has one
abbrev pub values_given : {V : Type 0} → List (CodeGrant V) → List (Option ℕ) → Option (List V)
values_given given [] = Some []
values_given given (a ∷ others) = with_value (argument_given given a) (values_given given others)
