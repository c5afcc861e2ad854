-- Which frames are out behind what the runner does.
use Rattle.std.proofs.Common.{◌≡◌, ◌<◌, ℕ, zero, suc, Bool, true, false, List, [], ◌∷◌, ◌++◌, length, Option, None, Some, inl, inr, ◌⊎◌, refl, sym, ap, ◌∙◌, arith}
use Rattle.std.specs.Prelude.{is_some, slice_get, slice_set}
use Rattle.collect_names.specs.declared.found.TestClass.{TestClass}
use Rattle.core_rules.specs.Keeps.{FramesBehind}
use Rattle.fixture_calls.specs.Asking.{request_if}
use Rattle.fixture_calls.specs.Calls.{call_failure}
use Rattle.fixture_calls.specs.Hooks.{call_end}
use Rattle.fixture_calls.specs.Yields.{body_end, over_end}
use Rattle.py_values.specs.declared.value.ObjId.{ObjId}
use Rattle.py_values.specs.declared.value.Value.{Value}
use Rattle.py_values.specs.declared.value.Value.TheVariants as val
use Rattle.py_world.specs.Resuming.{BegunOut, Over, Yielded, frame_at, is_out}
use Rattle.py_world.specs.World.{Frozen}
use Rattle.py_world.specs.declared.ended.Outcome.{Outcome}
use Rattle.py_world.specs.declared.ended.Outcome.TheVariants as out
use Rattle.runtest_rules.specs.Failures.{skip_made}
use Rattle.runtest_rules.specs.Language.{python}
use Rattle.runtest_rules.specs.Objects.{instance_if, instance_of_class, instance_of_value}
use Rattle.runtest_rules.specs.Rules.{body_end_of}
use Rattle.session_rules.specs.Frames.{AddsFrame, FramesBegun, FramesResumed, ReplacesFrame, SameFrames, TakesFrame}
use Rattle.core_rules.specs.source_meaning.Meaning.{SourceWorld}
use Rattle.core_rules.specs.source_meaning.Requests.{source_kinds}
use Rattle.test_suite.specs.declared.item.Item.{Item}

-- whether the frame of a number is out, among these
abbrev pub out_in : {L : Type 0} → List (Option (Frozen L)) → ℕ → Bool
out_in fs n = is_some (frame_at (slice_get fs n))

pub not_out : (b : Bool) → (b ≡ true → ⊥) → b ≡ false
not_out true h = absurd (h refl)
not_out false h = refl

-- behind one more frame
pub one_more : {L : Type 0} (fs : List (Option (Frozen L))) (f : Option (Frozen L)) (r : ℕ) → out_in (fs ++ f ∷ []) r ≡ true → (out_in fs r ≡ true) ⊎ (length fs ≡ r)
one_more [] f zero o = inr refl
one_more [] f (suc r) o = absurd (cc)
one_more (g ∷ fs) f zero o = inl o
one_more (g ∷ fs) f (suc r) o = elim (one_more fs f r o) [ inl a ↦ inl a | inr e ↦ inr (omega (arith, e)) ]

pub still : {L : Type 0} (fs : List (Option (Frozen L))) (f : Option (Frozen L)) (r : ℕ) → out_in fs r ≡ true → out_in (fs ++ f ∷ []) r ≡ true
still [] f r o = absurd (cc)
still (g ∷ fs) f zero o = o
still (g ∷ fs) f (suc r) o = still fs f r o

pub last_out : {L : Type 0} (fs : List (Option (Frozen L))) (f : Frozen L) → out_in (fs ++ Some f ∷ []) (length fs) ≡ true
last_out [] f = refl
last_out (g ∷ fs) f = last_out fs f

pub none_at_end : {L : Type 0} (fs : List (Option (Frozen L))) → out_in fs (length fs) ≡ false
none_at_end [] = refl
none_at_end (g ∷ fs) = none_at_end fs

pub below : {L : Type 0} (fs : List (Option (Frozen L))) (r : ℕ) → out_in fs r ≡ true → r < length fs
below [] r o = absurd (cc)
below (g ∷ fs) zero o = omega arith
below (g ∷ fs) (suc r) o = (let l = below fs r o in omega (arith, l))

-- behind one that was taken
pub one_less : {L : Type 0} (fs : List (Option (Frozen L))) (n r : ℕ) → out_in (slice_set fs n None) r ≡ true → (out_in fs r ≡ true) × (n ≡ r → ⊥)
one_less [] n r o = absurd (cc)
one_less (f ∷ fs) zero zero o = absurd (cc)
one_less (f ∷ fs) zero (suc r) o = (o, λ e. absurd (omega (arith, e)))
one_less (f ∷ fs) (suc n) zero o = (o, λ e. absurd (omega (arith, e)))
one_less (f ∷ fs) (suc n) (suc r) o = let t = one_less fs n r o in (t.0, λ e. t.1 (omega (arith, e)))

pub others_stay : {L : Type 0} (fs : List (Option (Frozen L))) (n r : ℕ) → out_in fs r ≡ true → (out_in (slice_set fs n None) r ≡ true) ⊎ (n ≡ r)
others_stay [] n r o = absurd (cc)
others_stay (f ∷ fs) zero zero o = inr refl
others_stay (f ∷ fs) zero (suc r) o = inl o
others_stay (f ∷ fs) (suc n) zero o = inl o
others_stay (f ∷ fs) (suc n) (suc r) o = elim (others_stay fs n r o) [ inl a ↦ inl a | inr e ↦ inr (omega (arith, e)) ]

pub as_many : {L : Type 0} (fs : List (Option (Frozen L))) (n : ℕ) → length (slice_set fs n None) ≡ length fs
as_many [] n = refl
as_many (f ∷ fs) zero = refl
as_many (f ∷ fs) (suc n) = (let e = as_many fs n in omega (arith, e))

-- worlds with the same frames
pub same_frames : (w v : SourceWorld) → v.frozen ≡ w.frozen → SameFrames is_out w v
same_frames w v e = λ r. ap (λ fs. out_in fs r) e

-- one that was taken
pub taken : (w v : SourceWorld) (n : ℕ) → v.frozen ≡ slice_set w.frozen n None → TakesFrame is_out n w v
taken w v n e =
    record {
      gone = ap (λ fs. out_in fs n) e ∙ not_out (out_in (slice_set w.frozen n None) n) (λ o. (one_less w.frozen n n o).1 refl);
      kept = λ r o. elim (others_stay w.frozen n r o) [ inl a ↦ inl (ap (λ fs. out_in fs r) e ∙ a) | inr q ↦ inr q ];
      only = λ r o. (one_less w.frozen n r (sym (ap (λ fs. out_in fs r) e) ∙ o)).0;
    }

-- one that began
pub added : (w v : SourceWorld) (n : ℕ) (f : Frozen source_kinds.rest) → n ≡ length w.frozen → v.frozen ≡ w.frozen ++ Some f ∷ [] → AddsFrame is_out n w v
added w v n f numbered e =
    record {
      was = ap (λ (m : ℕ). out_in w.frozen m) numbered ∙ none_at_end w.frozen;
      is = ap (λ fs. out_in fs n) e ∙ (ap (λ (m : ℕ). out_in (w.frozen ++ Some f ∷ []) m) numbered ∙ last_out w.frozen f);
      kept = λ r o. ap (λ fs. out_in fs r) e ∙ still w.frozen (Some f) r o;
      only = λ r o. elim (one_more w.frozen (Some f) r (sym (ap (λ fs. out_in fs r) e) ∙ o)) [ inl a ↦ inl a | inr q ↦ inr (numbered ∙ q) ];
    }

-- one that went on to a further `yield`
pub replaced : (w v : SourceWorld) (n m : ℕ) (f : Frozen source_kinds.rest) → is_out n w ≡ true → m ≡ length (slice_set w.frozen n None) → v.frozen ≡ slice_set w.frozen n None ++ Some f ∷ [] → ReplacesFrame is_out n m w v
replaced w v n m f out numbered e =
    let gs = slice_set w.frozen n None in
    let long : m ≡ length w.frozen = numbered ∙ as_many w.frozen n in
    record {
      gone = ap (λ fs. out_in fs n) e ∙ not_out (out_in (gs ++ Some f ∷ []) n) (λ o. elim (one_more gs (Some f) n o) [
        | inl a ↦ (one_less w.frozen n n a).1 refl
        | inr q ↦ (let l = below w.frozen n out in let k : length gs ≡ length w.frozen = as_many w.frozen n in absurd (omega (arith, l, k, q)))
      ]);
      was = ap (λ (k : ℕ). out_in w.frozen k) long ∙ none_at_end w.frozen;
      is = ap (λ fs. out_in fs m) e ∙ (ap (λ (k : ℕ). out_in (gs ++ Some f ∷ []) k) numbered ∙ last_out gs f);
      kept = λ r o. elim (others_stay w.frozen n r o) [ inl a ↦ inl (ap (λ fs. out_in fs r) e ∙ still gs (Some f) r a) | inr q ↦ inr q ];
      only = λ r o. elim (one_more gs (Some f) r (sym (ap (λ fs. out_in fs r) e) ∙ o)) [ inl a ↦ inl (one_less w.frozen n r a).0 | inr q ↦ inr (numbered ∙ q) ];
    }

-- a call that has ended
pub call_frames : (limit : ℕ) (o : Outcome) (w : SourceWorld) → (call_failure limit o w).1.frozen ≡ w.frozen
call_frames limit (out.Value v) w = refl
call_frames limit (out.Raised t) w = refl
call_frames limit (out.Exhausted trace) w = refl

pub call_end_frames : (limit : ℕ) (o : Outcome) (w : SourceWorld) → (call_end limit o w).1.frozen ≡ w.frozen
call_end_frames limit (out.Value v) w = refl
call_end_frames limit (out.Raised t) w = refl
call_end_frames limit (out.Exhausted trace) w = refl

-- a body that has ended, or stands at its `yield`
over_frames : (limit : ℕ) (o : Outcome) (w : SourceWorld) → (over_end limit o w).1.frozen ≡ w.frozen
over_frames limit (out.Value v) w = refl
over_frames limit (out.Raised t) w = refl
over_frames limit (out.Exhausted trace) w = refl

over_begun : (limit : ℕ) (o : Outcome) (u w : SourceWorld) → w.frozen ≡ u.frozen → FramesBegun {L = python} is_out u (body_end_of (over_end limit o w).0) (over_end limit o w).1
over_begun limit (out.Value v) u w is = same_frames u w is
over_begun limit (out.Raised t) u w is = same_frames u w is
over_begun limit (out.Exhausted trace) u w is = same_frames u (over_end limit (out.Exhausted trace) w).1 (over_frames limit (out.Exhausted trace) w ∙ is)

over_resumed : (limit : ℕ) (o : Outcome) (n : ℕ) (u w : SourceWorld) → w.frozen ≡ slice_set u.frozen n None → FramesResumed {L = python} is_out n u (body_end_of (over_end limit o w).0) (over_end limit o w).1
over_resumed limit (out.Value v) n u w is = taken u w n is
over_resumed limit (out.Raised t) n u w is = taken u w n is
over_resumed limit (out.Exhausted trace) n u w is = taken u (over_end limit (out.Exhausted trace) w).1 n (over_frames limit (out.Exhausted trace) w ∙ is)

pub body_begun_frames : (limit : ℕ) (o : BegunOut) (u w : SourceWorld) → FramesBehind o u.frozen w.frozen → FramesBegun {L = python} is_out u (body_end_of (body_end limit o w).0) (body_end limit o w).1
body_begun_frames limit (Yielded v n) u w (f, numbered, is) = added u w n f numbered is
body_begun_frames limit (Over o) u w is = over_begun limit o u w is

pub body_resumed_frames : (limit : ℕ) (o : BegunOut) (n : ℕ) (u w : SourceWorld) → is_out n u ≡ true → FramesBehind o (slice_set u.frozen n None) w.frozen → FramesResumed {L = python} is_out n u (body_end_of (body_end limit o w).0) (body_end limit o w).1
body_resumed_frames limit (Yielded v m) n u w out (f, numbered, is) = replaced u w n m f out numbered is
body_resumed_frames limit (Over o) n u w out is = over_resumed limit o n u w is

-- the objects that are made
instance_here : (b : Bool) (id : ObjId) (w : SourceWorld) → (instance_if b id w).1.frozen ≡ w.frozen
instance_here true id w = refl
instance_here false id w = refl

instance_at : (v : Value) (w : SourceWorld) → (instance_of_value v w).1.frozen ≡ w.frozen
instance_at (val.Ref id) w = instance_here _ id w
instance_at val.None w = refl
instance_at (val.Bool b) w = refl
instance_at (val.Int n) w = refl

pub instance_frames : (c : Option TestClass) (w : SourceWorld) → (instance_of_class c w).1.frozen ≡ w.frozen
instance_frames None w = refl
instance_frames (Some c) w = instance_at c.object w

pub request_frames : (b : Bool) (name : Option (List ℕ)) (scope : List ℕ) (param : Option Value) (w : SourceWorld) → (request_if b name scope param w).1.frozen ≡ w.frozen
request_frames true name scope param w = refl
request_frames false name scope param w = refl

pub skip_frames : (i : Item) (reason : Option (List ℕ)) (w : SourceWorld) → (skip_made i reason w).1.frozen ≡ w.frozen
skip_frames i None w = refl
skip_frames i (Some reason) w = refl
