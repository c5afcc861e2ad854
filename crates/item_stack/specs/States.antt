-- The state of a session that a world, the fixtures that are set up in it and the `request` of the test at hand make together.
use Rattle.std.specs.Prelude.{◌≡◌, false, [], None, map}
use Rattle.fixture_instances.specs.Joined.{with_slot}
use Rattle.fixture_instances.specs.declared.ends.CachedResult.{CachedResult}
use Rattle.fixture_instances.specs.declared.ends.SetUpEnd.{SetUpEnd as KeptEnd}
use Rattle.fixture_instances.specs.declared.ends.SetUpEnd.TheVariants as kept
use Rattle.item_stack.specs.declared.holding.ItemStack.{ItemStack}
use Rattle.session_rules.specs.Teardown.{Grant, SessionState}
use Rattle.session_rules.specs.World.{Failure, Language, LiveInstance, Rules, SetUpEnd, Slot, Value}
use Rattle.session_types.specs.declared.instance.Instance.{Instance}
use Rattle.setup_stack.specs.declared.answers.Grant.{Grant as CodeGrant}

module _ (L : Language) where
  abbrev pub end_kept : KeptEnd L.Value L.Thrown → SetUpEnd L
  end_kept (kept.Value v) = Value v
  end_kept (kept.Failure e) = Failure e

  abbrev pub slot_kept : CachedResult L.Value L.Thrown L.Rest → Slot L
  slot_kept h = record { kept = end_kept h.kept; rest = h.rest; request = h.request }

  -- a live instance
  abbrev pub instance_kept : Instance (CachedResult L.Value L.Thrown L.Rest) → LiveInstance L
  instance_kept i = with_slot (slot_kept i.slot) i

  -- what answered a demand
  abbrev pub grant_noted : CodeGrant L.Value → Grant L
  grant_noted g = record { def = g.def; order = g.order; value = g.value; bases = g.bases }

-- THE STATE; the rules aren't looked at
abbrev pub item_state : {L : Language} → Rules L → L.World → ItemStack L.Value L.Thrown L.Rest → SessionState L
item_state {L} rules w s =
    record {
      world = w;
      live = map (instance_kept L) s.stack.live.live;
      next = s.stack.live.next;
      events = s.stack.events;
      instance = s.stack.own;
      objects = [];
      values = [];
      given = map (grant_noted L) s.stack.given;
      request = s.request;
      left = false;
      ends = [];
      told = 0;
      bad = 0;
    }

-- nothing is set up, and no test is at hand
pub record IsNew {V E R : Type 0} (s : ItemStack V E R) : Type 0 where
  pub stack : s.stack ≡ record { live = record { live = []; ids = []; spare = 0; next = 0 }; events = []; given = []; own = None }
  pub request : s.request ≡ None
