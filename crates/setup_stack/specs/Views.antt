-- What was given, in the words of a session, and the state that a stack and a world make together.
use Rattle.std.specs.Prelude.{ℕ, List, [], ◌∷◌, Option, None, false}
use Rattle.session_types.specs.declared.journal.Event.{Event}
use Rattle.session_rules.specs.World.{Language, Rules, LiveInstance}
use Rattle.session_rules.specs.Teardown.{Grant, SessionState}
use Rattle.session_rules.specs.Demand.{Answer, Given, Refused}
use Rattle.setup_stack.specs.declared.answers.Grant.{Grant as CodeGrant}
use Rattle.setup_stack.specs.declared.answers.Answer.{Answer as CodeAnswer}
use Rattle.setup_stack.specs.declared.answers.Answer.TheVariants as told
use Rattle.setup_stack.specs.declared.stack.SetupStack.{SetupStack}
use Rattle.fixture_instances.specs.Views.{live_instances}

abbrev pub grant_of : {L : Language} → Rules L → CodeGrant L.Value → Grant L
grant_of rules g = record { def = g.def; order = g.order; value = g.value; bases = g.bases }

abbrev pub grants_of : {L : Language} → Rules L → List (CodeGrant L.Value) → List (Grant L)
grants_of rules [] = []
grants_of rules (g ∷ gs) = grant_of rules g ∷ grants_of rules gs

abbrev pub answer_in : {L : Language} → Rules L → CodeAnswer L.Value L.Thrown → Answer L
answer_in rules (told.Given g) = Given (grant_of rules g)
answer_in rules (told.Refused es) = Refused es

-- a session's state, as far as fixtures know it
abbrev pub stated : {L : Language} → Rules L → L.World → List (LiveInstance L) → ℕ → List Event → List (CodeGrant L.Value) → Option L.Value → SessionState L
stated rules w live next events given own =
    record {
      world = w;
      live = live;
      next = next;
      events = events;
      instance = own;
      objects = [];
      values = [];
      given = grants_of rules given;
      request = None;
      left = false;
      ends = [];
      told = 0;
      bad = 0;
    }

-- the state that a world and a stack make together
abbrev pub stack_state : {L : Language} → Rules L → L.World → SetupStack L.Value L.Thrown L.Rest → SessionState L
stack_state rules w s = stated rules w (live_instances rules s.live.live) s.live.next s.events s.given s.own
