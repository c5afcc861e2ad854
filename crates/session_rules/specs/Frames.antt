-- The frozen frames that are out: bodies of fixtures and of hook wrappers that stand at their `yield` (Language Reference, yield
-- expressions). Each act of the rules says which are out behind it, both ways: those that are, and those that aren't.
use Rattle.std.specs.Prelude.{◌≡◌, ◌<◌, ◌⊎◌, ℕ, Bool, true, false, List, [], ◌∷◌, Option, Some}
use Rattle.hook_order.specs.declared.implementation.Impl.{Impl}
use Rattle.session_rules.specs.Hooks.{HookMessage}
use Rattle.session_rules.specs.Teardown.{SessionState}
use Rattle.session_rules.specs.World.{BodyEnd, BodyOutcome, HookArguments, Language, LiveInstance, Phase, Raised, Returned, Rules, Yielded}
use Rattle.session_types.proofs.Order.{Rising}
use Rattle.session_types.specs.Members.{IsMember}

-- the same frames are out
abbrev pub SameFrames : {R W : Type 0} → (R → W → Bool) → W → W → Type 0
SameFrames {R} is_out before behind = (r : R) → is_out r behind ≡ is_out r before

-- this frame was not out and is, and all others are as they were
pub record AddsFrame {R W : Type 0} (is_out : R → W → Bool) (rest : R) (before behind : W) : Type 0 where
  pub was : is_out rest before ≡ false
  pub is : is_out rest behind ≡ true
  pub kept : (r : R) → is_out r before ≡ true → is_out r behind ≡ true
  pub only : (r : R) → is_out r behind ≡ true → (is_out r before ≡ true) ⊎ (rest ≡ r)

-- this frame is out no more, and all others are as they were
pub record TakesFrame {R W : Type 0} (is_out : R → W → Bool) (rest : R) (before behind : W) : Type 0 where
  pub gone : is_out rest behind ≡ false
  pub kept : (r : R) → is_out r before ≡ true → (is_out r behind ≡ true) ⊎ (rest ≡ r)
  pub only : (r : R) → is_out r behind ≡ true → is_out r before ≡ true

-- one frame is out no more, another was not out and is, and all others are as they were
pub record ReplacesFrame {R W : Type 0} (is_out : R → W → Bool) (rest again : R) (before behind : W) : Type 0 where
  pub gone : is_out rest behind ≡ false
  pub was : is_out again before ≡ false
  pub is : is_out again behind ≡ true
  pub kept : (r : R) → is_out r before ≡ true → (is_out r behind ≡ true) ⊎ (rest ≡ r)
  pub only : (r : R) → is_out r behind ≡ true → (is_out r before ≡ true) ⊎ (again ≡ r)

-- a body began: where it stands at its `yield` its frame is out, and else none came or went
abbrev pub FramesBegun : {L : Language} → (L.Rest → L.World → Bool) → L.World → BodyEnd L → L.World → Type 0
FramesBegun is_out before (Returned v) behind = SameFrames is_out before behind
FramesBegun is_out before (Yielded v rest) behind = AddsFrame is_out rest before behind
FramesBegun is_out before (Raised e) behind = SameFrames is_out before behind

-- a frame went on: it is out no more, and where the body stands at a further `yield` that frame is
abbrev pub FramesResumed : {L : Language} → (L.Rest → L.World → Bool) → L.Rest → L.World → BodyEnd L → L.World → Type 0
FramesResumed is_out rest before (Returned v) behind = TakesFrame is_out rest before behind
FramesResumed is_out rest before (Yielded v again) behind = ReplacesFrame is_out rest again before behind
FramesResumed is_out rest before (Raised e) behind = TakesFrame is_out rest before behind

abbrev pub BeginsFrame : {L : Language} → (L.Rest → L.World → Bool) → L.World → BodyOutcome L → Type 0
BeginsFrame is_out w o = FramesBegun is_out w o.how o.world

abbrev pub ResumesFrame : {L : Language} → (L.Rest → L.World → Bool) → L.Rest → L.World → BodyOutcome L → Type 0
ResumesFrame is_out rest w o = FramesResumed is_out rest w o.how o.world

-- `is_out` tells which frames are out: a body that yields adds its own, one that is out and goes on or is given up is taken, and
-- nothing else changes which are
pub record KeepsFrames {L : Language} (rules : Rules L) (is_out : L.Rest → L.World → Bool) : Type 0 where
  pub make_instance : (item : ℕ) (w : L.World) → SameFrames is_out w (rules.make_instance item w).world
  pub make_item : (item : ℕ) (w : L.World) → SameFrames is_out w (rules.make_item item w).world
  pub ask : (item d : ℕ) (param : Option ℕ) (w : L.World) → SameFrames is_out w (rules.ask item d param w).world
  pub begin : (item d : ℕ) (param : Option ℕ) (own : Option L.Value) (values : List L.Value) (request : Option L.Value) (w : L.World) → BeginsFrame is_out w (rules.begin item d param own values request w)
  pub did_not_yield : (d : ℕ) (w : L.World) → SameFrames is_out w (rules.did_not_yield d w).world
  pub resume : (rest : L.Rest) (w : L.World) → is_out rest w ≡ true → ResumesFrame is_out rest w (rules.resume rest w)
  pub abandon : (rest : L.Rest) (w : L.World) → is_out rest w ≡ true → TakesFrame is_out rest w (rules.abandon rest w)
  pub yielded_again : (d : ℕ) (w : L.World) → SameFrames is_out w (rules.yielded_again d w).world
  pub close : (request : L.Value) (w : L.World) → SameFrames is_out w (rules.close request w).world
  pub finalize : (f : L.Value) (w : L.World) → SameFrames is_out w (rules.finalize f w).world
  pub fault : (item : ℕ) (w : L.World) → SameFrames is_out w (rules.fault item w).world
  pub ask_test : (item : ℕ) (w : L.World) → SameFrames is_out w (rules.ask_test item w).world
  pub test : (item : ℕ) (own : Option L.Value) (values : List L.Value) (request : Option L.Value) (w : L.World) → SameFrames is_out w (rules.test item own values request w).world
  pub wrong_arguments : (item : ℕ) (w : L.World) → SameFrames is_out w (rules.wrong_arguments item w).world
  pub implement : (phase : Phase) (item : ℕ) (arguments : HookArguments L) (which : Impl) (w : L.World) → SameFrames is_out w (rules.implement phase item arguments which w).world
  pub open_wrapper : (phase : Phase) (item : ℕ) (arguments : HookArguments L) (which : Impl) (w : L.World) → BeginsFrame is_out w (rules.open_wrapper phase item arguments which w)
  pub wrapper_did_not_yield : (which : Impl) (w : L.World) → SameFrames is_out w (rules.wrapper_did_not_yield which w).world
  pub resume_wrapper : (phase : Phase) (item : ℕ) (rest : L.Rest) (sent : HookMessage L.Value L.Thrown) (w : L.World) → is_out rest w ≡ true → ResumesFrame is_out rest w (rules.resume_wrapper phase item rest sent w)
  pub wrapper_yielded_again : (which : Impl) (w : L.World) → SameFrames is_out w (rules.wrapper_yielded_again which w).world
  pub end_phase : (phase : Phase) (item : ℕ) (raised : List L.Thrown) (w : L.World) → SameFrames is_out w (rules.end_phase phase item raised w).world

-- a live instance holds this frame
abbrev pub IsHeld : {L : Language} → L.Rest → List (LiveInstance L) → Type 0
IsHeld {L} r live = (i : LiveInstance L) × IsMember i live × (i.slot.rest ≡ Some r)

-- frames that no instance holds: those that are out for sure, and those that may be
pub record OtherFrames (R : Type 0) : Type 1 where
  pub sure : R → Type 0
  pub possible : R → Type 0

-- THE FRAMES OF A SESSION STAND: those of the live instances are out, each is that of one, and so are the others; no frame is out but
-- these and what is possible besides
pub record FramesStand {L : Language} (is_out : L.Rest → L.World → Bool) (others : OtherFrames L.Rest) (live : List (LiveInstance L)) (next : ℕ) (w : L.World) : Type 0 where
  pub rising : Rising live
  pub low : (i : LiveInstance L) → IsMember i live → i.order < next
  pub held : (r : L.Rest) → is_out r w ≡ true → others.possible r ⊎ IsHeld {L = L} r live
  pub there : (r : L.Rest) → others.sure r → is_out r w ≡ true
  pub out : (r : L.Rest) (i : LiveInstance L) → IsMember i live → i.slot.rest ≡ Some r → is_out r w ≡ true
  pub one : (r : L.Rest) (i j : LiveInstance L) → IsMember i live → IsMember j live → i.slot.rest ≡ Some r → j.slot.rest ≡ Some r → i.order ≡ j.order
  pub free : (r : L.Rest) (i : LiveInstance L) → others.sure r → IsMember i live → i.slot.rest ≡ Some r → ⊥

-- a frame is one of these
abbrev pub Waits : {R : Type 0} → List R → R → Type 0
Waits [] r = ⊥
Waits (f ∷ fs) r = Waits fs r ⊎ (f ≡ r)

-- none stands among these twice
abbrev pub AreApart : {R : Type 0} → List R → Type 0
AreApart [] = Unit {0}
AreApart (f ∷ fs) = (Waits fs f → ⊥) × AreApart fs

-- these are out, and any other may be
abbrev pub at_least : {R : Type 0} → List R → OtherFrames R
at_least waiting = record { sure = Waits waiting; possible = λ r. Unit {0} }

-- the frames of a state are out, each once: those of its live instances, and these, of wrappers that stand at their `yield`
abbrev pub StandsWith : {L : Language} → SessionState L → (L.Rest → L.World → Bool) → List L.Rest → Type 0
StandsWith {L} s is_out waiting = FramesStand {L = L} is_out (at_least waiting) s.live s.next s.world × AreApart waiting

-- where a body has yielded, its frame is out
abbrev pub IsOutWhereYielded : {L : Language} → BodyEnd L → (L.Rest → L.World → Bool) → L.World → Type 0
IsOutWhereYielded (Returned v) is_out w = Unit {0}
IsOutWhereYielded (Yielded v rest) is_out w = is_out rest w ≡ true
IsOutWhereYielded (Raised e) is_out w = Unit {0}

-- other ways for frames to go on and to be given up
pub record Resumptions (L : Language) : Type 0 where
  pub resume : L.Rest → L.World → BodyOutcome L
  pub abandon : L.Rest → L.World → L.World
  pub resume_wrapper : Phase → ℕ → L.Rest → HookMessage L.Value L.Thrown → L.World → BodyOutcome L

-- the rules with these in place of their own
abbrev pub with_resumptions : {L : Language} → Resumptions L → Rules L → Rules L
with_resumptions x rules = record rules { resume = x.resume; abandon = x.abandon; resume_wrapper = x.resume_wrapper }

-- they do as the rules with a frame that is out, and give one up as the rules do where it stands at a further `yield`; what they do
-- with a frame that isn't out, or give up else, is left open
pub record AreAlikeWhereOut {L : Language} (rules : Rules L) (is_out : L.Rest → L.World → Bool) (x : Resumptions L) : Type 0 where
  pub resume : (rest : L.Rest) (w : L.World) → is_out rest w ≡ true → x.resume rest w ≡ rules.resume rest w
  pub resume_wrapper : (phase : Phase) (item : ℕ) (rest : L.Rest) (sent : HookMessage L.Value L.Thrown) (w : L.World) → is_out rest w ≡ true → x.resume_wrapper phase item rest sent w ≡ rules.resume_wrapper phase item rest sent w
  pub abandon : (first : L.Rest) (w : L.World) (v : L.Value) (rest : L.Rest) → is_out first w ≡ true → (rules.resume first w).how ≡ Yielded v rest → x.abandon rest (rules.resume first w).world ≡ rules.abandon rest (rules.resume first w).world
  pub abandon_wrapper : (phase : Phase) (item : ℕ) (first : L.Rest) (sent : HookMessage L.Value L.Thrown) (w : L.World) (v : L.Value) (rest : L.Rest) → is_out first w ≡ true → (rules.resume_wrapper phase item first sent w).how ≡ Yielded v rest
      → x.abandon rest (rules.resume_wrapper phase item first sent w).world ≡ rules.abandon rest (rules.resume_wrapper phase item first sent w).world
