-- What a session does keeps the frames that stand.
use Rattle.std.proofs.Common.{◌≡◌, ℕ, Bool, true, List, [], ◌∷◌, inl, inr, refl, subst, Option, Some}
use Rattle.hook_order.specs.declared.implementation.Impl.{Impl}
use Rattle.session_rules.proofs.Frames.{AlsoAllowed, IsBegun, begun_good, by_good, closed_same, closure_good, demand_good, down_good, hooks_good, implemented_good, leave_good, numbered_In, one_good, opened_item_good, own_good, ready_good, settle_good, test_good, told_good, torn_good, went_on_good}
use Rattle.session_rules.specs.Demand.{demand, settle}
use Rattle.session_rules.specs.Frames.{AreApart, FramesResumed, FramesStand, IsOutWhereYielded, KeepsFrames, OtherFrames, StandsWith, at_least}
use Rattle.session_rules.specs.Hooks.{AtYield, HookBeginning, HookInner, OpenRaised}
use Rattle.session_rules.specs.Session.{HookPlace, built_of, demand_closure, finalize_own, hook_runner, in_hooks, node_of, ready, telling, torn_down, values_for, with_new_instance}
use Rattle.session_rules.specs.Teardown.{Grant, SessionState, Step, closed_request, down_all, down_one, in_world}
use Rattle.session_rules.specs.World.{BodyEnd, Call, Exceptions, Frame, Item, Language, LiveInstance, Phase, Raised, Returned, Rules, SetUp, Teardown, Yielded}
use Rattle.session_types.specs.Live.{instance_by_number}
use Rattle.session_types.specs.Members.{IsMember}

module _ {L : Language} (is_out : L.Rest → L.World → Bool) where
  -- whatever waits besides
  pub only_live : (waiting : List L.Rest) (s : SessionState L) → StandsWith s is_out waiting → StandsWith s is_out []
  only_live waiting s g = (
    record { rising = g.0.rising; low = g.0.low; held = λ r o. inl tt; there = λ r a. absurd a; out = g.0.out; one = g.0.one; free = λ r i a m e. a },
    tt,
  )

  -- where nothing lives
  pub at_start : (s : SessionState L) → s.live ≡ [] → StandsWith s is_out []
  at_start s e =
      let none : (i : LiveInstance L) → IsMember i s.live → ⊥ = λ i m. subst (λ (l : List (LiveInstance L)). IsMember i l) e m in (
        record {
          rising = rw e tt;
          low = λ i m. absurd (none i m);
          held = λ r o. inl tt;
          there = λ r a. absurd a;
          out = λ r i m q. absurd (none i m);
          one = λ r i j m n p q. absurd (none i m);
          free = λ r i a m q. a;
        },
        tt,
      )

  -- what a live instance holds is out
  pub held_out : (s : SessionState L) (n : ℕ) (i : LiveInstance L) (r : L.Rest) → StandsWith s is_out [] → instance_by_number n s.live ≡ Some i → i.slot.rest ≡ Some r → is_out r s.world ≡ true
  held_out s n i r g e q = g.0.out r i (numbered_In n s.live i e) q

  -- what waits is out
  pub waiting_out : (r : L.Rest) (waiting : List L.Rest) (s : SessionState L) → StandsWith s is_out (r ∷ waiting) → is_out r s.world ≡ true
  waiting_out r waiting s g = g.0.there r (inr refl)

  -- what went on and yielded again is out
  pub resumed_out : (rest : L.Rest) (how : BodyEnd L) (w v : L.World) → FramesResumed is_out rest w how v → IsOutWhereYielded how is_out v
  resumed_out rest (Returned value) w v h = tt
  resumed_out rest (Yielded value again) w v h = h.is
  resumed_out rest (Raised e) w v h = tt

  module _ (rules : Rules L) (keep : KeepsFrames rules is_out) where
    pub closed_out : (request : Option L.Value) (r : L.Rest) (w : L.World) → is_out r w ≡ true → is_out r (closed_request rules request w).world ≡ true
    closed_out request r w o = rw (closed_same rules is_out keep request w r) o

    module _ (waiting : List L.Rest) where
      pub one_stands : (n : ℕ) (s : SessionState L) → StandsWith s is_out waiting → StandsWith (down_one rules (instance_by_number n s.live) s).state is_out waiting
      one_stands n s g = (one_good rules is_out keep (at_least waiting) n s (instance_by_number n s.live) refl g.0, g.1)

      pub down_stands : (set : List (LiveInstance L)) (s : SessionState L) → StandsWith s is_out waiting → StandsWith (down_all rules set s).state is_out waiting
      down_stands set s g = (down_good rules is_out keep (at_least waiting) set s g.0, g.1)

      pub settle_stands : (item : Item) (d : ℕ) (given : List (Grant L)) (o : Option (LiveInstance L)) (s : SessionState L) → StandsWith s is_out waiting → StandsWith (settle rules item d given o s).state is_out waiting
      settle_stands item d given o s g = (settle_good rules is_out keep (at_least waiting) item d given o s g.0, g.1)

      pub demand_stands : (item : Item) (depth d : ℕ) (s : SessionState L) → StandsWith s is_out waiting → StandsWith (demand rules item depth d s).state is_out waiting
      demand_stands item depth d s g = (demand_good rules is_out keep (at_least waiting) item depth d s g.0, g.1)

      pub closure_stands : (item : Item) (ds : List ℕ) (s : SessionState L) → StandsWith s is_out waiting → StandsWith (demand_closure rules item ds s).state is_out waiting
      closure_stands item ds s g = (closure_good rules is_out keep (at_least waiting) item ds s g.0, g.1)

      pub own_stands : (s : SessionState L) → StandsWith s is_out waiting → StandsWith (finalize_own rules s).state is_out waiting
      own_stands s g = (own_good rules is_out keep (at_least waiting) s g.0, g.1)

      pub ready_stands : (item : Item) (next : Option ℕ) (s : SessionState L) → StandsWith s is_out waiting → StandsWith (ready rules item next s) is_out waiting
      ready_stands item next s g = (ready_good rules is_out keep (at_least waiting) item next s g.0, g.1)

    -- a frame that waits besides others
    besides : (r : L.Rest) (waiting : List L.Rest) (s : SessionState L) → FramesStand {L = L} is_out (at_least (r ∷ waiting)) s.live s.next s.world → FramesStand {L = L} is_out (AlsoAllowed rules is_out keep (at_least waiting) r) s.live s.next s.world
    besides r waiting s g = record { rising = g.rising; low = g.low; held = λ q o. inl (inl tt); there = g.there; out = g.out; one = g.one; free = g.free }

    in_front : (r : L.Rest) (waiting : List L.Rest) (s : SessionState L) → FramesStand {L = L} is_out (AlsoAllowed rules is_out keep (at_least waiting) r) s.live s.next s.world → FramesStand {L = L} is_out (at_least (r ∷ waiting)) s.live s.next s.world
    in_front r waiting s g = record { rising = g.rising; low = g.low; held = λ q o. inl tt; there = g.there; out = g.out; one = g.one; free = g.free }

    -- what the built-in implementations do
    built_good : (phase : Phase) (item : Item) (next : Option Item) (others : OtherFrames L.Rest) (s : SessionState L) → FramesStand {L = L} is_out others s.live s.next s.world
        → FramesStand {L = L} is_out others (built_of rules phase item next s).state.live (built_of rules phase item next s).state.next (built_of rules phase item next s).state.world
    built_good SetUp item next others s g = by_good rules is_out keep others item item.closure s g
    built_good Call item next others s g = test_good rules is_out keep others item (values_for s.given item.arguments) s g
    built_good Teardown item next others s g = leave_good rules is_out keep others next s g

    module _ (place : HookPlace) (waiting : List L.Rest) where
      pub call_stands : (which : Impl) (s : SessionState L) → StandsWith s is_out waiting → StandsWith ((hook_runner rules place).call which s).state is_out waiting
      call_stands which s g =
          (implemented_good rules is_out keep place.phase place.item (node_of place.next) (built_of rules place.phase place.item place.next) (built_good place.phase place.item place.next) (at_least waiting) which s g.0, g.1)

      -- a wrapper that stands at its `yield` waits besides
      abbrev pub Waiting : HookBeginning (Frame L) (Exceptions L) → SessionState L → Type 0
      Waiting (AtYield frame) s = StandsWith s is_out (frame.rest ∷ waiting)
      Waiting (OpenRaised e) s = StandsWith s is_out waiting

      waits : (answer : HookBeginning (Frame L) (Exceptions L)) (s : SessionState L) → AreApart waiting → IsBegun rules is_out keep (at_least waiting) answer s → Waiting answer s
      waits (AtYield frame) s apart g = (in_front frame.rest waiting s g.0, (g.1, apart))
      waits (OpenRaised e) s apart g = (g, apart)

      pub begin_stands : (which : Impl) (s : SessionState L) → StandsWith s is_out waiting → Waiting ((hook_runner rules place).begin which s).answer ((hook_runner rules place).begin which s).state
      begin_stands which s g =
          let d = (hook_runner rules place).begin which s in
          waits d.answer d.state g.1 (begun_good rules is_out keep place.phase place.item (node_of place.next) (built_of rules place.phase place.item place.next) (built_good place.phase place.item place.next) (at_least waiting) which s g.0)

      pub resume_stands : (frame : Frame L) (inner : HookInner L.Value (Exceptions L)) (s : SessionState L) → StandsWith s is_out (frame.rest ∷ waiting) → StandsWith ((hook_runner rules place).resume frame inner s).state is_out waiting
      resume_stands frame inner s g =
          (went_on_good rules is_out keep place.phase place.item (node_of place.next) (built_of rules place.phase place.item place.next) (built_good place.phase place.item place.next) (at_least waiting) frame inner s (besides frame.rest waiting s g.0) g.1.0, g.1.1)

      pub hooks_stand : (s : SessionState L) → StandsWith s is_out waiting
          → StandsWith (in_hooks rules place.phase place.item (node_of place.next) (built_of rules place.phase place.item place.next) s).state is_out waiting
      hooks_stand s g =
          (hooks_good rules is_out keep place.phase place.item (node_of place.next) (built_of rules place.phase place.item place.next) (built_good place.phase place.item place.next) (at_least waiting) s g.0, g.1)

    module _ (waiting : List L.Rest) where
      pub opened_stands : (item : Item) (s : SessionState L) → StandsWith s is_out waiting → StandsWith (with_new_instance rules item s) is_out waiting
      opened_stands item s g = (opened_item_good rules is_out keep (at_least waiting) item s g.0, g.1)

      pub built_stands : (phase : Phase) (item : Item) (next : Option Item) (s : SessionState L) → StandsWith s is_out waiting → StandsWith (built_of rules phase item next s).state is_out waiting
      built_stands phase item next s g = (built_good phase item next (at_least waiting) s g.0, g.1)

      pub torn_stands : (item : Item) (next : Option Item) (s : SessionState L) → StandsWith s is_out waiting → StandsWith (torn_down rules item next s).state is_out waiting
      torn_stands item next s g = (torn_good rules is_out keep (at_least waiting) item next s g.0, g.1)

      pub told_stands : (phase : Phase) (item : Item) (r : Step L) → StandsWith r.state is_out waiting → StandsWith (in_world (telling rules phase item r).world r.state) is_out waiting
      told_stands phase item r g = (told_good rules is_out keep (at_least waiting) phase item r g.0, g.1)
