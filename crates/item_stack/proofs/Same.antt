-- The state is that of the fixtures, over what they don't know.
use Rattle.std.proofs.Common.{◌≡◌, List, [], ◌∷◌, map, refl, sym, subst, ap, ap₂, Option}
use Rattle.std.specs.Prelude.{Bool}
use Rattle.fixture_instances.specs.Joined.{with_slot}
use Rattle.fixture_instances.specs.Views.{live_instances, set_up_end}
use Rattle.fixture_instances.specs.declared.ends.CachedResult.{CachedResult}
use Rattle.fixture_instances.specs.declared.ends.SetUpEnd.{SetUpEnd as KeptEnd}
use Rattle.fixture_instances.specs.declared.ends.SetUpEnd.TheVariants as kept
use Rattle.item_stack.specs.States.{end_kept, grant_noted, instance_kept, item_state}
use Rattle.item_stack.specs.declared.holding.ItemStack.{ItemStack}
use Rattle.session_rules.specs.Frames.{FramesStand, StandsWith, at_least}
use Rattle.session_rules.specs.Session.{initial_state}
use Rattle.session_rules.specs.Teardown.{Grant, SessionState}
use Rattle.session_rules.specs.World.{Language, LiveInstance, Rules, SetUpEnd}
use Rattle.session_types.specs.declared.instance.Instance.{Instance}
use Rattle.setup_stack.specs.Passing.{over}
use Rattle.setup_stack.specs.Views.{grant_of, grants_of, stack_state}
use Rattle.setup_stack.specs.declared.answers.Grant.{Grant as CodeGrant}

-- a state that has nothing but a world and a `request`
abbrev pub holding : {L : Language} → L.World → Option L.Value → SessionState L
holding w request = record (initial_state w) { request = request }

module _ {L : Language} (rules : Rules L) where
  end_same : (k : KeptEnd L.Value L.Thrown) → end_kept L k ≡ set_up_end rules k
  end_same (kept.Value v) = refl
  end_same (kept.Failure e) = refl

  pub live_same : (is : List (Instance (CachedResult L.Value L.Thrown L.Rest))) → map (instance_kept L) is ≡ live_instances rules is
  live_same [] = refl
  live_same (i ∷ is) =
      ap₂ (λ (k : SetUpEnd L) (l : List (LiveInstance L)). with_slot (record { kept = k; rest = i.slot.rest; request = i.slot.request }) i ∷ l) (end_same i.slot.kept) (live_same is)

  pub given_same : (gs : List (CodeGrant L.Value)) → map (grant_noted L) gs ≡ grants_of rules gs
  given_same [] = refl
  given_same (g ∷ gs) = ap (λ (l : List (Grant L)). grant_of rules g ∷ l) (given_same gs)

  pub state_same : (w : L.World) (s : ItemStack L.Value L.Thrown L.Rest) → item_state rules w s ≡ over (holding w s.request) (stack_state rules w s.stack)
  state_same w s =
      ap₂ (λ (l : List (LiveInstance L)) (g : List (Grant L)). record (item_state rules w s) { live = l; given = g }) (live_same s.stack.live.live) (given_same s.stack.given)

  -- the frames that a stack holds
  module _ (is_out : L.Rest → L.World → Bool) (w : L.World) (s : ItemStack L.Value L.Thrown L.Rest) where
    abbrev Live : List (LiveInstance L) → Type 0
    Live live = FramesStand {L = L} is_out (at_least []) live s.stack.live.next w

    pub stand_below : StandsWith (item_state rules w s) is_out [] → StandsWith (stack_state rules w s.stack) is_out []
    stand_below g = (subst Live (live_same s.stack.live.live) g.0, g.1)

    pub stand_above : StandsWith (stack_state rules w s.stack) is_out [] → StandsWith (item_state rules w s) is_out []
    stand_above g = (subst Live (sym (live_same s.stack.live.live)) g.0, g.1)
