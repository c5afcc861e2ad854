-- The one group of a feed.
use Rattle.std.specs.Prelude.{ℕ, Bool, true, false, List, [], ◌∷◌}
use Rattle.test_session_tests.specs.declared.one_group.OneGroup.{OneGroup}
use Rattle.test_session_tests.specs.declared.one_group.OneGroup.TheVariants.{Waiting, Given, Ended}

-- the numbers that were given
abbrev pub given_by : OneGroup → List ℕ
given_by Waiting = []
given_by Given = 0 ∷ []
given_by Ended = 0 ∷ []

-- whether it said that there is no other
abbrev pub is_over : OneGroup → Bool
is_over Waiting = false
is_over Given = false
is_over Ended = true
