-- What is done in a world that notes it keeps the frames that are out.
use Rattle.std.proofs.Common.{◌≡◌, ◌<◌, ℕ, zero, suc, Bool, true, false, List, [], ◌∷◌, ◌++◌, length, Option, None, Some, inl, inr, ◌⊎◌, refl, sym, ap, ◌∙◌, arith}
use Rattle.std.specs.Prelude.{is_some}
use Rattle.session_rules.specs.Frames.{AddsFrame, FramesBegun, FramesResumed, KeepsFrames, ReplacesFrame, TakesFrame}
use Rattle.demand_tests.specs.Logs.{began, def_in, frames_with, frames_without, is_out, is_twice, logging, part_at, resumed, rest_given_up, spoken, went_on, went_on_where}
use Rattle.demand_tests.specs.declared.logs.Log.{Log}
use Rattle.demand_tests.specs.declared.logs.Script.{Script}
use Rattle.demand_tests.specs.declared.logs.Way.{Way}
use Rattle.demand_tests.specs.declared.logs.Way.TheVariants.{Returns, Raises, YieldsOnce, YieldsTwice, RaisesBehind, NeverYields, Loops, LoopsBehind}

abbrev Frames : Type 0
Frames = List (Option ℕ)

abbrev out_in : Frames → ℕ → Bool
out_in fs n = is_some (def_in fs n)

apart : false ≡ true → ⊥
apart e = cc

not_out : (b : Bool) → (b ≡ true → ⊥) → b ≡ false
not_out true h = absurd (h refl)
not_out false h = refl

one_more : (fs : Frames) (d : ℕ) (r : ℕ) → out_in (fs ++ Some d ∷ []) r ≡ true → (out_in fs r ≡ true) ⊎ (length fs ≡ r)
one_more [] d zero o = inr refl
one_more [] d (suc r) o = absurd (apart o)
one_more (g ∷ fs) d zero o = inl o
one_more (g ∷ fs) d (suc r) o = elim (one_more fs d r o) [ inl a ↦ inl a | inr e ↦ inr (omega (arith, e)) ]

still : (fs : Frames) (d : ℕ) (r : ℕ) → out_in fs r ≡ true → out_in (fs ++ Some d ∷ []) r ≡ true
still [] d r o = absurd (apart o)
still (g ∷ fs) d zero o = o
still (g ∷ fs) d (suc r) o = still fs d r o

last_out : (fs : Frames) (d : ℕ) → out_in (fs ++ Some d ∷ []) (length fs) ≡ true
last_out [] d = refl
last_out (g ∷ fs) d = last_out fs d

none_at_end : (fs : Frames) → out_in fs (length fs) ≡ false
none_at_end [] = refl
none_at_end (g ∷ fs) = none_at_end fs

below : (fs : Frames) (r : ℕ) → out_in fs r ≡ true → r < length fs
below [] r o = absurd (apart o)
below (g ∷ fs) zero o = omega arith
below (g ∷ fs) (suc r) o = (let l = below fs r o in omega (arith, l))

one_less : (fs : Frames) (n r : ℕ) → out_in (frames_without n fs) r ≡ true → (out_in fs r ≡ true) × (n ≡ r → ⊥)
one_less [] n r o = absurd (apart o)
one_less (f ∷ fs) zero zero o = absurd (apart o)
one_less (f ∷ fs) zero (suc r) o = (o, λ e. absurd (omega (arith, e)))
one_less (f ∷ fs) (suc n) zero o = (o, λ e. absurd (omega (arith, e)))
one_less (f ∷ fs) (suc n) (suc r) o = let t = one_less fs n r o in (t.0, λ e. t.1 (omega (arith, e)))

others_stay : (fs : Frames) (n r : ℕ) → out_in fs r ≡ true → (out_in (frames_without n fs) r ≡ true) ⊎ (n ≡ r)
others_stay [] n r o = absurd (apart o)
others_stay (f ∷ fs) zero zero o = inr refl
others_stay (f ∷ fs) zero (suc r) o = inl o
others_stay (f ∷ fs) (suc n) zero o = inl o
others_stay (f ∷ fs) (suc n) (suc r) o = elim (others_stay fs n r o) [ inl a ↦ inl a | inr e ↦ inr (omega (arith, e)) ]

as_many : (fs : Frames) (n : ℕ) → length (frames_without n fs) ≡ length fs
as_many [] n = refl
as_many (f ∷ fs) zero = refl
as_many (f ∷ fs) (suc n) = ap suc (as_many fs n)

taken : (w v : Log) (n : ℕ) → v.frames ≡ frames_without n w.frames → TakesFrame is_out n w v
taken w v n e =
    record {
      gone = ap (λ fs. out_in fs n) e ∙ not_out (out_in (frames_without n w.frames) n) (λ o. (one_less w.frames n n o).1 refl);
      kept = λ r o. elim (others_stay w.frames n r o) [ inl a ↦ inl (ap (λ fs. out_in fs r) e ∙ a) | inr q ↦ inr q ];
      only = λ r o. (one_less w.frames n r (sym (ap (λ fs. out_in fs r) e) ∙ o)).0;
    }

added : (w v : Log) (d : ℕ) → v.frames ≡ w.frames ++ Some d ∷ [] → AddsFrame is_out (length w.frames) w v
added w v d e =
    record {
      was = none_at_end w.frames;
      is = ap (λ fs. out_in fs (length w.frames)) e ∙ last_out w.frames d;
      kept = λ r o. ap (λ fs. out_in fs r) e ∙ still w.frames d r o;
      only = λ r o. one_more w.frames d r (sym (ap (λ fs. out_in fs r) e) ∙ o);
    }

replaced : (w v : Log) (n d : ℕ) → is_out n w ≡ true → v.frames ≡ frames_without n w.frames ++ Some d ∷ [] → ReplacesFrame is_out n (length w.frames) w v
replaced w v n d out e =
    let gs = frames_without n w.frames in
    let long : length gs ≡ length w.frames = as_many w.frames n in
    record {
      gone = ap (λ fs. out_in fs n) e ∙ not_out (out_in (gs ++ Some d ∷ []) n) (λ o. elim (one_more gs d n o) [
        | inl a ↦ (one_less w.frames n n a).1 refl
        | inr q ↦ (let l = below w.frames n out in absurd (omega (arith, l, long, q)))
      ]);
      was = none_at_end w.frames;
      is = ap (λ fs. out_in fs (length w.frames)) e ∙ (ap (λ (k : ℕ). out_in (gs ++ Some d ∷ []) k) (sym long) ∙ last_out gs d);
      kept = λ r o. elim (others_stay w.frames n r o) [ inl a ↦ inl (ap (λ fs. out_in fs r) e ∙ still gs d r a) | inr q ↦ inr q ];
      only = λ r o. elim (one_more gs d r (sym (ap (λ fs. out_in fs r) e) ∙ o)) [ inl a ↦ inl (one_less w.frames n r a).0 | inr q ↦ inr (sym long ∙ q) ];
    }

begins : (way : Way) (d : ℕ) (w : Log) → FramesBegun {L = spoken} is_out w (began way d w).how (began way d w).world
begins Returns d w = λ r. refl
begins Raises d w = λ r. refl
begins YieldsOnce d w = added w (began YieldsOnce d w).world d refl
begins YieldsTwice d w = added w (began YieldsTwice d w).world d refl
begins RaisesBehind d w = added w (began RaisesBehind d w).world d refl
begins NeverYields d w = λ r. refl
begins Loops d w = λ r. refl
begins LoopsBehind d w = added w (began LoopsBehind d w).world d refl

-- each way of a function to go on
goes_on : (way : Way) (rest d : ℕ) (w v : Log) → is_out rest w ≡ true → v.frames ≡ frames_with (is_twice way) d (frames_without rest w.frames) → FramesResumed {L = spoken} is_out rest w (resumed way d (length w.frames)) v
goes_on Returns rest d w v out e = taken w v rest e
goes_on Raises rest d w v out e = taken w v rest e
goes_on YieldsOnce rest d w v out e = taken w v rest e
goes_on YieldsTwice rest d w v out e = replaced w v rest d out e
goes_on RaisesBehind rest d w v out e = taken w v rest e
goes_on NeverYields rest d w v out e = taken w v rest e
goes_on Loops rest d w v out e = taken w v rest e
goes_on LoopsBehind rest d w v out e = taken w v rest e

went : (script : Script) (rest : ℕ) (o : Option ℕ) (w : Log) → def_in w.frames rest ≡ o → is_out rest w ≡ true → FramesResumed {L = spoken} is_out rest w (went_on_where script rest o w).how (went_on_where script rest o w).world
went script rest None w e out = absurd (let z : true ≡ false = sym out ∙ ap is_some e in cc)
went script rest (Some d) w e out = goes_on (part_at script.parts d).way rest d w (went_on script rest d w).world out refl

pub keeps : (script : Script) → KeepsFrames (logging script) is_out
keeps script =
    record {
      make_instance = λ item w r. refl;
      make_item = λ item w r. refl;
      ask = λ item d param w r. refl;
      begin = λ item d param own values request w. begins (part_at script.parts d).way d w;
      did_not_yield = λ d w r. refl;
      resume = λ rest w out. went script rest (def_in w.frames rest) w refl out;
      abandon = λ rest w out. taken w (rest_given_up rest w) rest refl;
      yielded_again = λ d w r. refl;
      close = λ request w r. refl;
      finalize = λ f w r. refl;
      fault = λ item w r. refl;
      ask_test = λ item w r. refl;
      test = λ item own values request w r. refl;
      wrong_arguments = λ item w r. refl;
      implement = λ phase item arguments which w r. refl;
      open_wrapper = λ phase item arguments which w r. refl;
      wrapper_did_not_yield = λ which w r. refl;
      resume_wrapper = λ phase item rest sent w out. taken w _ rest refl;
      wrapper_yielded_again = λ which w r. refl;
      end_phase = λ phase item raised w r. refl;
    }
