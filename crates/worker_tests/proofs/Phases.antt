-- What the phases of the one item do.
use Rattle.std.proofs.Common.{◌≡◌, Bool, true, false, List, [], ◌∷◌, ◌++◌, refl}
use Rattle.runtest_loop.specs.fixture_sessions.FixtureSession.{fixture_call, fixture_set_up, item_opened}
use Rattle.session_rules.specs.Teardown.{session_step}
use Rattle.session_types.specs.declared.journal.Event.{Event}
use Rattle.session_types.specs.declared.journal.Event.TheVariants.{CallBegins, CallEnds}
use Rattle.worker_tests.specs.Timed.{one_item_state, the_item, unhooked_rules}

pub is_opened : (b : Bool) (events : List Event) → one_item_state b events ≡ item_opened unhooked_rules the_item.item (one_item_state b events)
is_opened true events = refl
is_opened false events = refl

pub is_set_up : (b : Bool) (events : List Event) → session_step [] (one_item_state true events) ≡ fixture_set_up unhooked_rules the_item.item (one_item_state b events)
is_set_up true events = refl
is_set_up false events = refl

pub is_called : (b : Bool) (events : List Event) → session_step [] (one_item_state true ((events ++ CallBegins 0 [] ∷ []) ++ CallEnds 0 ∷ [])) ≡ fixture_call unhooked_rules the_item.item (one_item_state b events)
is_called true events = refl
is_called false events = refl
