-- States that have the same parts are the same.
use Rattle.std.proofs.Common.{◌≡◌, ℕ, List, ap, ◌∙◌, Option}
use Rattle.session_types.specs.declared.journal.Event.{Event}
use Rattle.session_rules.specs.World.{Language, Rules, LiveInstance}
use Rattle.setup_stack.specs.declared.answers.Grant.{Grant as CodeGrant}
use Rattle.setup_stack.specs.declared.stack.SetupStack.{SetupStack}
use Rattle.setup_stack.specs.Views.{stack_state, stated}
use Rattle.fixture_instances.specs.Views.{live_instances}

pub state_same : {L : Language} (rules : Rules L) (w v : L.World) (s : SetupStack L.Value L.Thrown L.Rest) (live : List (LiveInstance L)) (next : ℕ) (events : List Event) (given : List (CodeGrant L.Value)) (own : Option L.Value)
    → w ≡ v → live_instances rules s.live.live ≡ live → s.live.next ≡ next → s.events ≡ events → s.given ≡ given → s.own ≡ own
    → stack_state rules w s ≡ stated rules v live next events given own
state_same {L} rules w v s live next events given own ew el en ee eg eo =
    ap (λ (x : L.World). stated rules x (live_instances rules s.live.live) s.live.next s.events s.given s.own) ew
    ∙ (ap (λ (x : List (LiveInstance L)). stated rules v x s.live.next s.events s.given s.own) el
    ∙ (ap (λ (x : ℕ). stated rules v live x s.events s.given s.own) en
    ∙ (ap (λ (x : List Event). stated rules v live next x s.given s.own) ee
    ∙ (ap (λ (x : List (CodeGrant L.Value)). stated rules v live next events x s.own) eg
    ∙ ap (λ (x : Option L.Value). stated rules v live next events given x) eo))))
