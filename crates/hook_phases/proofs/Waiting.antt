-- The frames that stand while a hook call runs.
use Rattle.std.proofs.Common.{◌≡◌, List, inl, inr, refl, sym, subst, None, Some, map, option_map}
use Rattle.std.specs.Prelude.{Bool}
use Rattle.std.specs.declared.alloc.Global.{Global}
use Rattle.std.specs.declared.vec.Vec.{Vec}
use Rattle.hook_order.specs.Answers.{IfEnded, IfInner, WaitsBesides}
use Rattle.hook_order.specs.HookCall.{answer_as_list}
use Rattle.hook_order.specs.declared.answers.Inner.{Inner}
use Rattle.hook_order.specs.declared.answers.Inner.TheVariants as inner
use Rattle.hook_order.specs.declared.answers.Opened.{Opened}
use Rattle.hook_order.specs.declared.answers.Opened.TheVariants as opened
use Rattle.hook_order.specs.declared.answers.Ran.{Ran}
use Rattle.hook_order.specs.declared.answers.Ran.TheVariants as ran
use Rattle.hook_phases.specs.Runs.{raised_in}
use Rattle.hook_phases.specs.Views.{frame_kept, several, stage_view}
use Rattle.hook_phases.specs.declared.answers.Exceptions.{Exceptions as Several}
use Rattle.hook_phases.specs.declared.answers.HookFrame.{HookFrame}
use Rattle.session_rules.proofs.Standing.{Waiting, resumed_out}
use Rattle.session_rules.specs.Frames.{IsOutWhereYielded, KeepsFrames, ResumesFrame, StandsWith}
use Rattle.session_rules.specs.HookFollows.{OpenedAs, RanAs, inner_of}
use Rattle.session_rules.specs.Hooks.{AllValues, AtYield, HookAnswer, HookBeginning, HookInner, HookStep, InnerGave, InnerRaised, OpenRaised}
use Rattle.session_rules.specs.Session.{HookPlace}
use Rattle.session_rules.specs.Teardown.{SessionState, in_world}
use Rattle.session_rules.specs.World.{BodyEnd, BodyOutcome, Exceptions, Frame, Language, Rules}

abbrev pub rests : {R : Type 0} → List (HookFrame R) → List R
rests frames = map (λ f. f.rest) frames

some_is : {A : Type 0} (a b : A) → Some a ≡ Some b → a ≡ b
some_is a b e = cc

-- where a hook call has answered what it raised
pub answered_ended : {V E : Type 0} (P : Type 0) (answer : Ran (Vec V Global) (Several E)) (raised : List E) → Some raised ≡ raised_in (answer_as_list answer) → IfEnded answer P → P
answered_ended P (ran.Gave None) raised e h = h
answered_ended P (ran.Gave (Some values)) raised e h = h
answered_ended P (ran.Raised x) raised e h = h
answered_ended P ran.OutOfMemory raised e h = absurd cc

module _ (L : Language) where
  -- what an answer that is read as a step's leaves
  pub ran_if : (d : HookStep (SessionState L) (HookAnswer L.Value (Exceptions L))) (s t : SessionState L) (answer : Ran L.Value (Several L.Thrown)) (X : SessionState L → Type 0)
      → RanAs (stage_view L) d s answer t → X d.state → IfEnded answer (X t)
  ran_if d s t (ran.Gave value) X (inl o) x = absurd cc
  ran_if d s t (ran.Gave value) X (inr a) x = subst X (sym a.1) x
  ran_if d s t (ran.Raised e) X (inl o) x = absurd cc
  ran_if d s t (ran.Raised e) X (inr a) x = subst X (sym a.1) x
  ran_if d s t ran.OutOfMemory X a x = tt

  pub went_if : (step : HookInner L.Value (Exceptions L) → HookStep (SessionState L) (HookAnswer L.Value (Exceptions L))) (s t : SessionState L) (given : Inner L.Value (Several L.Thrown)) (answer : Ran L.Value (Several L.Thrown)) (X : SessionState L → Type 0)
      → ((inside : HookInner L.Value (Exceptions L)) → inner_of (stage_view L) given ≡ Some inside → RanAs (stage_view L) (step inside) s answer t)
      → ((inside : HookInner L.Value (Exceptions L)) → X (step inside).state) → IfInner given (IfEnded answer (X t))
  went_if step s t inner.List answer X r x = ran_if (step AllValues) s t answer X (r AllValues refl) (x AllValues)
  went_if step s t (inner.Gave value) answer X r x = let i : HookInner L.Value (Exceptions L) = InnerGave (option_map (λ v. v) value) in ran_if (step i) s t answer X (r i refl) (x i)
  went_if step s t (inner.Raised e) answer X r x = let i : HookInner L.Value (Exceptions L) = InnerRaised (several L e) in ran_if (step i) s t answer X (r i refl) (x i)
  went_if step s t inner.OutOfMemory answer X r x = tt

  module _ (is_out : L.Rest → L.World → Bool) where
    -- a wrapper that went on and yielded again
    pub wrapper_out : (rest : L.Rest) (w : L.World) (o : BodyOutcome L) (how : BodyEnd L) (s t : SessionState L) → how ≡ o.how → t ≡ in_world o.world s → ResumesFrame {L = L} is_out rest w o → IsOutWhereYielded how is_out t.world
    wrapper_out rest w o how s t eh et h =
        subst (λ (x : BodyEnd L). IsOutWhereYielded x is_out t.world) (sym eh)
        (subst (λ (x : SessionState L). IsOutWhereYielded o.how is_out x.world) (sym et) (resumed_out {L = L} is_out rest o.how w o.world h))

    module _ (rules : Rules L) (keep : KeepsFrames rules is_out) (place : HookPlace) (frames : List (HookFrame L.Rest)) where
      pub opened_waits : (d : HookStep (SessionState L) (HookBeginning (Frame L) (Exceptions L))) (s t : SessionState L) (answer : Opened (HookFrame L.Rest) (Several L.Thrown))
          → OpenedAs (stage_view L) d s answer t → Waiting {L = L} is_out rules keep place (rests frames) d.answer d.state → WaitsBesides (λ fs. StandsWith t is_out (rests fs)) frames answer
      opened_waits d s t (opened.Yielded frame) (inl o) x = absurd cc
      opened_waits d s t (opened.Yielded frame) (inr a) x =
          subst (λ (u : SessionState L). Waiting {L = L} is_out rules keep place (rests frames) (AtYield (frame_kept L frame)) u) (sym a.1)
          (subst (λ (b : HookBeginning (Frame L) (Exceptions L)). Waiting {L = L} is_out rules keep place (rests frames) b d.state) (sym (some_is (AtYield (frame_kept L frame)) d.answer a.0)) x)
      opened_waits d s t (opened.Raised e) (inl o) x = absurd cc
      opened_waits d s t (opened.Raised e) (inr a) x =
          subst (λ (u : SessionState L). Waiting {L = L} is_out rules keep place (rests frames) (OpenRaised (several L e)) u) (sym a.1)
          (subst (λ (b : HookBeginning (Frame L) (Exceptions L)). Waiting {L = L} is_out rules keep place (rests frames) b d.state) (sym (some_is (OpenRaised (several L e)) d.answer a.0)) x)
      opened_waits d s t opened.OutOfMemory a x = tt
