-- What is kept of an instance, and how a body ended, in the words of a session.
use Rattle.std.specs.Prelude.{List, [], ◌∷◌, map}
use Rattle.session_types.specs.declared.instance.Instance.{Instance}
use Rattle.session_rules.specs.World.{Language, Rules, LiveInstance, Slot, SetUpEnd, Value, Failure, BodyEnd, Returned, Yielded, Raised, ClosedRequest}
use Rattle.fixture_instances.specs.declared.ends.SetUpEnd.{SetUpEnd as KeptEnd}
use Rattle.fixture_instances.specs.declared.ends.SetUpEnd.TheVariants as kept
use Rattle.fixture_instances.specs.declared.ends.BodyEnd.{BodyEnd as CodeEnd}
use Rattle.fixture_instances.specs.declared.ends.BodyEnd.TheVariants as body
use Rattle.fixture_instances.specs.declared.ends.CachedResult.{CachedResult}
use Rattle.fixture_instances.specs.Joined.{with_slot}

abbrev pub set_up_end : {L : Language} → Rules L → KeptEnd L.Value L.Thrown → SetUpEnd L
set_up_end rules (kept.Value v) = Value v
set_up_end rules (kept.Failure e) = Failure e

abbrev pub body_end : {L : Language} → Rules L → CodeEnd L.Value L.Thrown L.Rest → BodyEnd L
body_end rules (body.Returned v) = Returned v
body_end rules (body.Yielded v rest) = Yielded v rest
body_end rules (body.Raised e) = Raised e

abbrev pub slot_of : {L : Language} → Rules L → CachedResult L.Value L.Thrown L.Rest → Slot L
slot_of rules h = record { kept = set_up_end rules h.kept; rest = h.rest; request = h.request }

abbrev pub live_instance : {L : Language} → Rules L → Instance (CachedResult L.Value L.Thrown L.Rest) → LiveInstance L
live_instance rules i = with_slot (slot_of rules i.slot) i

abbrev pub live_instances : {L : Language} → Rules L → List (Instance (CachedResult L.Value L.Thrown L.Rest)) → List (LiveInstance L)
live_instances rules is = map (live_instance rules) is

-- what was kept, as what is answered: of an exception a list
abbrev pub told_of : {V E : Type 0} → KeptEnd V E → KeptEnd V (List E)
told_of (kept.Value v) = kept.Value v
told_of (kept.Failure e) = kept.Failure (e ∷ [])

abbrev pub closed_with : {L : Language} → Rules L → List L.Value → L.World → ClosedRequest L
closed_with rules finalizers w = record { finalizers = finalizers; world = w }
