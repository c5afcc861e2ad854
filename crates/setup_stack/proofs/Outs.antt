-- What a stack holds is out.
use Rattle.std.proofs.Common.{◌≡◌, ◌∙◌, ℕ, true, List, [], ap, sym, subst, Option, Some}
use Rattle.std.specs.Prelude.{Bool}
use Rattle.std.specs.Option.{option_map}
use Rattle.fixture_instances.proofs.Slots.{numbered_dress}
use Rattle.fixture_instances.specs.Views.{closed_with, live_instance, slot_of}
use Rattle.fixture_instances.specs.declared.ends.CachedResult.{CachedResult}
use Rattle.session_rules.proofs.Standing.{closed_out, held_out, resumed_out}
use Rattle.session_rules.specs.Frames.{IsOutWhereYielded, KeepsFrames, ResumesFrame, StandsWith}
use Rattle.session_rules.specs.Teardown.{closed_request}
use Rattle.session_rules.specs.World.{BodyEnd, BodyOutcome, ClosedRequest, Language, Rules}
use Rattle.session_types.specs.Live.{instance_by_number}
use Rattle.session_types.specs.declared.instance.Instance.{Instance}
use Rattle.setup_stack.specs.Views.{stack_state}
use Rattle.setup_stack.specs.declared.stack.SetupStack.{SetupStack}

module _ {L : Language} (rules : Rules L) (is_out : L.Rest → L.World → Bool) where
  -- what went on and yielded again
  pub yielded_out : (rest : L.Rest) (w v : L.World) (o : BodyOutcome L) (how : BodyEnd L) → how ≡ o.how → v ≡ o.world → ResumesFrame {L = L} is_out rest w o → IsOutWhereYielded how is_out v
  yielded_out rest w v o how eh ev h =
      subst (λ (x : BodyEnd L). IsOutWhereYielded x is_out v) (sym eh)
      (subst (λ (u : L.World). IsOutWhereYielded o.how is_out u) (sym ev) (resumed_out {L = L} is_out rest o.how w o.world h))

  -- what the instance of a number holds, behind the closing of its `request`
  pub closed_held : KeepsFrames rules is_out → (w v : L.World) (s : SetupStack L.Value L.Thrown L.Rest) (n : ℕ) (i : Instance (CachedResult L.Value L.Thrown L.Rest)) (request : Option L.Value) (fs : List L.Value) (r : L.Rest)
      → StandsWith (stack_state rules w s) is_out [] → instance_by_number n s.live.live ≡ Some i → closed_with rules fs v ≡ closed_request rules request w → i.slot.rest ≡ Some r → is_out r v ≡ true
  closed_held keep w v s n i request fs r g e closed q =
      let there = numbered_dress (λ (k : Instance (CachedResult L.Value L.Thrown L.Rest)). slot_of rules k.slot) n s.live.live ∙ ap (λ (o : Option (Instance (CachedResult L.Value L.Thrown L.Rest))). option_map (live_instance rules) o) e in
      subst (λ (u : L.World). is_out r u ≡ true) (sym (ap (λ (c : ClosedRequest L). c.world) closed))
      (closed_out {L = L} is_out rules keep request r w (held_out {L = L} is_out (stack_state rules w s) n (live_instance rules i) r g there q))
