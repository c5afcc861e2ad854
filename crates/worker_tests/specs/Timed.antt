-- A session of one item without fixtures and hooks, up to its teardown.
use Rattle.std.specs.Prelude.{ℕ, Bool, true, false, List, [], ◌∷◌}
use Rattle.report_rules.specs.Collected.{SelectedItem, report_language}
use Rattle.session_rules.specs.Session.{initial_state}
use Rattle.session_rules.specs.Teardown.{ItemObject, SessionState}
use Rattle.session_rules.specs.World.{Rules}
use Rattle.session_types.specs.declared.journal.Event.{Event}
use Rattle.worker_tests.specs.Letters.{letter_test, letters_rules}
use Rattle.worker_tests.specs.declared.letters.Printed.{Printed}
use Rattle.worker_tests.specs.declared.one_item.GroupState.{GroupState}
use Rattle.worker_tests.specs.declared.one_item.GroupState.TheVariants.{Ended, Given, Waiting}

-- no implementation of a hook, not even a built-in one
abbrev pub unhooked_rules : Rules (report_language Printed ℕ ℕ ℕ)
unhooked_rules = record letters_rules { hooks = λ phase item. [] }

abbrev pub the_item : SelectedItem
the_item = letter_test 0

-- its `item` object, where it was made
abbrev pub own_objects : Bool → List (ItemObject (report_language Printed ℕ ℕ ℕ))
own_objects true = record { node = 0; object = 0 } ∷ []
own_objects false = []

-- the session's state: only its journal and the object change
abbrev pub one_item_state : Bool → List Event → SessionState (report_language Printed ℕ ℕ ℕ)
one_item_state has_object events = record (initial_state (let w : Printed = record { text = [] } in w)) { events = events; objects = own_objects has_object }

-- the group that was given
abbrev pub given_then : GroupState → List ℕ
given_then Waiting = []
given_then Given = 0 ∷ []
given_then Ended = 0 ∷ []

abbrev pub has_all_given : GroupState → Bool
has_all_given Waiting = false
has_all_given Given = false
has_all_given Ended = true
