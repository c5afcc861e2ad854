-- The frames that are out are those of the live instances, and of the wrappers that have begun.
use Rattle.std.proofs.Common.{◌≡◌, ℕ, zero, suc, Bool, true, false, cond, not, List, [], ◌∷◌, ◌++◌, inl, inr, refl, sym, ap, ◌∙◌, subst, eqb, arith, ◌⊎◌, option_to_list, Option, None, Some}
use Rattle.std.specs.Prelude.{◌==◌}
use Rattle.std.proofs.lemmas.Bool.{ne_eqb}
use Rattle.hook_order.specs.declared.implementation.Impl.{Impl}
use Rattle.session_rules.proofs.Holds.{rising_one, without-In}
use Rattle.session_rules.proofs.Hooked.{cond_law}
use Rattle.session_rules.proofs.Sessions.{session_law, start_good}
use Rattle.session_rules.specs.Demand.{AllGiven, Answer, JointAnswer, Given, NewInstance, OneRefused, Refused, Replies, Reply, answer_of, ask_all, ask_next, call_fixture_func, demand, failed_instance, fresh, is_same, instance_reply, making, making_of, numbers_of, replace, reply, set_up, set_up_after, settle, values_of, with_arguments}
use Rattle.session_rules.specs.Fits.{HasFixtureClosure}
use Rattle.session_rules.specs.Frames.{AddsFrame, FramesBegun, FramesResumed, FramesStand, KeepsFrames, OtherFrames, ReplacesFrame, SameFrames, TakesFrame}
use Rattle.session_rules.specs.Hooks.{AtYield, HookAnswer, HookBeginning, HookEnd, HookGave, HookInner, HookRaised, HookRunner, HookStep, OpenRaised, around, around_all, each, each_next}
use Rattle.session_rules.specs.Session.{all_down, bad_behind, built_in, call_after, call_phase, chain_of, demand_closure, demand_next, did_call, did_step, finalize_own, has_reached, hook_arguments, implemented, in_hooks, initial_state, leave, make_missing_object, next_unless, node_of, object_of, opening, pyfunc_call, reaches, ready, resuming, run_item, runner_of, sent_to_wrapper, session, set_up_by, set_up_item, set_up_phase, teardown_phase, telling, test_with, torn_down, values_for, with_grant, with_item_object, with_new_instance, with_nextitem}
use Rattle.session_rules.specs.Teardown.{Grant, SessionState, Step, TeardownEnd, also_raised, closed_request, down_all, down_more, down_one, emit, finalize_all, in_world, rest_ended, rest_resumed, torn, torn_of}
use Rattle.session_rules.specs.World.{BodyEnd, Call, Exceptions, Frame, Item, Language, LiveInstance, Phase, Raised, Returned, Rules, SetUp, Teardown, Value, Yielded}
use Rattle.session_types.proofs.Lists.{In-append, In-left, In-right, filter-In}
use Rattle.session_types.proofs.Order.{Rising-filter, Rising-push}
use Rattle.session_types.specs.declared.journal.Event.TheVariants.{CallBegins}
use Rattle.session_types.specs.Live.{dependents, down_order, find, not_on, instance_by_number, instance_numbers, without}
use Rattle.session_types.specs.Members.{IsMember}

apart : (b : Bool) → b ≡ true → b ≡ false → ⊥
apart b e f = (let z : true ≡ false = sym e ∙ f in cc)

pub numbered_In : {L : Language} (n : ℕ) (live : List (LiveInstance L)) (i : LiveInstance L) → instance_by_number n live ≡ Some i → IsMember i live
numbered_In n [] i e = cc
numbered_In {L} n (k ∷ ks) i e =
    (elim (eqb n k.order) as (λ b. cond b (Some k) (instance_by_number n ks) ≡ Some i → IsMember i (k ∷ ks)) [
      | true ↦ λ z. (let same : i ≡ k = cc in inl same)
      | false ↦ λ z. inr (numbered_In n ks i z)
    ]) e

module _ {L : Language} (rules : Rules L) (is_out : L.Rest → L.World → Bool) (keep : KeepsFrames rules is_out) where
  abbrev Same : L.World → L.World → Type 0
  Same w v = SameFrames is_out w v

  then_same : (u v w : L.World) → Same u v → Same v w → Same u w
  then_same u v w a b = λ r. b r ∙ a r

  -- the frame is taken, where there is one
  pub record Took (o : Option L.Rest) (w v : L.World) : Type 0 where
    pub gone : (r : L.Rest) → o ≡ Some r → is_out r v ≡ false
    pub kept : (r : L.Rest) → is_out r w ≡ true → (is_out r v ≡ true) ⊎ (o ≡ Some r)
    pub only : (r : L.Rest) → is_out r v ≡ true → is_out r w ≡ true

  -- the frame is out besides, where there is one
  pub record Gave (o : Option L.Rest) (w v : L.World) : Type 0 where
    pub was : (r : L.Rest) → o ≡ Some r → is_out r w ≡ false
    pub is : (r : L.Rest) → o ≡ Some r → is_out r v ≡ true
    pub kept : (r : L.Rest) → is_out r w ≡ true → is_out r v ≡ true
    pub only : (r : L.Rest) → is_out r v ≡ true → (is_out r w ≡ true) ⊎ (o ≡ Some r)

  same_took : (w v : L.World) → Same w v → Took None w v
  same_took w v s = record { gone = λ r e. cc; kept = λ r o. inl (s r ∙ o); only = λ r o. sym (s r) ∙ o }

  same_gave : (w v : L.World) → Same w v → Gave None w v
  same_gave w v s = record { was = λ r e. cc; is = λ r e. cc; kept = λ r o. s r ∙ o; only = λ r o. inl (sym (s r) ∙ o) }

  frame_took : (x : L.Rest) (w v : L.World) → TakesFrame is_out x w v → Took (Some x) w v
  frame_took x w v t =
      record {
        gone = λ r e. (let q : x ≡ r = cc in subst (λ (y : L.Rest). is_out y v ≡ false) q t.gone);
        kept = λ r o. elim (t.kept r o) [ inl a ↦ inl a | inr e ↦ inr (ap (λ (y : L.Rest). Some y) e) ];
        only = t.only;
      }

  frame_gave : (x : L.Rest) (w v : L.World) → AddsFrame is_out x w v → Gave (Some x) w v
  frame_gave x w v t =
      record {
        was = λ r e. (let q : x ≡ r = cc in subst (λ (y : L.Rest). is_out y w ≡ false) q t.was);
        is = λ r e. (let q : x ≡ r = cc in subst (λ (y : L.Rest). is_out y v ≡ true) q t.is);
        kept = t.kept;
        only = λ r o. elim (t.only r o) [ inl a ↦ inl a | inr e ↦ inr (ap (λ (y : L.Rest). Some y) e) ];
      }

  took_same : (o : Option L.Rest) (u v w : L.World) → Took o u v → Same v w → Took o u w
  took_same o u v w t s = record { gone = λ r e. s r ∙ t.gone r e; kept = λ r p. elim (t.kept r p) [ inl a ↦ inl (s r ∙ a) | inr e ↦ inr e ]; only = λ r p. t.only r (sym (s r) ∙ p) }

  same_then_took : (o : Option L.Rest) (u v w : L.World) → Same u v → Took o v w → Took o u w
  same_then_took o u v w s t = record { gone = t.gone; kept = λ r p. t.kept r (s r ∙ p); only = λ r p. sym (s r) ∙ t.only r p }

  gave_same : (o : Option L.Rest) (u v w : L.World) → Gave o u v → Same v w → Gave o u w
  gave_same o u v w t s = record { was = t.was; is = λ r e. s r ∙ t.is r e; kept = λ r p. s r ∙ t.kept r p; only = λ r p. t.only r (sym (s r) ∙ p) }

  same_then_gave : (o : Option L.Rest) (u v w : L.World) → Same u v → Gave o v w → Gave o u w
  same_then_gave o u v w s t = record { was = λ r e. sym (s r) ∙ t.was r e; is = t.is; kept = λ r p. t.kept r (s r ∙ p); only = λ r p. elim (t.only r p) [ inl a ↦ inl (sym (s r) ∙ a) | inr e ↦ inr e ] }

  -- a frame that took the place of another, and is given up
  replaced_took : (x y : L.Rest) (u v w : L.World) → ReplacesFrame is_out x y u v → TakesFrame is_out y v w → TakesFrame is_out x u w
  replaced_took x y u v w p t =
      record {
        gone = elim (is_out x w) as (λ b. is_out x w ≡ b → is_out x w ≡ false) [
          | true ↦ λ e. absurd (apart (is_out x v) (t.only x e) p.gone)
          | false ↦ λ e. e
        ] refl;
        kept = λ r o. elim (p.kept r o) [
          | inl a ↦ elim (t.kept r a) [ inl b ↦ inl b | inr e ↦ absurd (apart (is_out y u) (subst (λ (z : L.Rest). is_out z u ≡ true) (sym e) o) p.was) ]
          | inr e ↦ inr e
        ];
        only = λ r o. elim (p.only r (t.only r o)) [ inl a ↦ a | inr e ↦ absurd (apart (is_out y w) (subst (λ (z : L.Rest). is_out z w ≡ true) (sym e) o) t.gone) ];
      }

  abbrev pub Good : OtherFrames L.Rest → List (LiveInstance L) → ℕ → L.World → Type 0
  Good allowed live next w = FramesStand {L = L} is_out allowed live next w

  abbrev pub IsGood : OtherFrames L.Rest → SessionState L → Type 0
  IsGood allowed s = Good allowed s.live s.next s.world

  -- where the same frames are out
  pub moved : (allowed : OtherFrames L.Rest) (live : List (LiveInstance L)) (next : ℕ) (w v : L.World) → Same w v → Good allowed live next w → Good allowed live next v
  moved allowed live next w v k g =
      record {
        rising = g.rising;
        low = g.low;
        held = λ r o. g.held r (sym (k r) ∙ o);
        there = λ r a. k r ∙ g.there r a;
        out = λ r i m e. k r ∙ g.out r i m e;
        one = g.one;
        free = g.free;
      }

  -- TEARDOWN

  pub finalize_same : (fs : List L.Value) (t : TeardownEnd L) → Same t.world (finalize_all rules fs t).world
  finalize_same [] t = λ r. refl
  finalize_same (f ∷ fs) t =
      let u : TeardownEnd L = torn (t.raised ++ option_to_list (rules.finalize f t.world).raised) (rules.finalize f t.world).world in
      then_same t.world u.world (finalize_all rules fs u).world (keep.finalize f t.world) (finalize_same fs u)

  pub closed_same : (request : Option L.Value) (w : L.World) → Same w (closed_request rules request w).world
  closed_same None w = λ r. refl
  closed_same (Some request) w = keep.close request w

  ended_took : (d : ℕ) (x : L.Rest) (w v : L.World) (how : BodyEnd L) → FramesResumed is_out x w how v → Took (Some x) w (rest_ended rules d how v).world
  ended_took d x w v (Returned value) h = frame_took x w v h
  ended_took d x w v (Raised e) h = frame_took x w v h
  ended_took d x w v (Yielded value y) h =
      let u = rules.abandon y v in
      let t = keep.abandon y v h.is in
      took_same (Some x) w u (rules.yielded_again d u).world (frame_took x w u (replaced_took x y w v u h t)) (keep.yielded_again d u)

  resumed_took : (d : ℕ) (rest : Option L.Rest) (w : L.World) → ((r : L.Rest) → rest ≡ Some r → is_out r w ≡ true) → Took rest w (rest_resumed rules d rest w).world
  resumed_took d None w is = same_took w w (λ r. refl)
  resumed_took d (Some x) w is = ended_took d x w (rules.resume x w).world (rules.resume x w).how (keep.resume x w (is x refl))

  torn_took : (i : LiveInstance L) (w : L.World) → ((r : L.Rest) → i.slot.rest ≡ Some r → is_out r w ≡ true) → Took i.slot.rest w (torn_of rules i w).world
  torn_took i w is =
      let c = closed_request rules i.slot.request w in
      let q = closed_same i.slot.request w in
      let t = rest_resumed rules i.def i.slot.rest c.world in
      same_then_took i.slot.rest w c.world (torn_of rules i w).world q
      (took_same i.slot.rest c.world t.world (torn_of rules i w).world (resumed_took i.def i.slot.rest c.world (λ r e. q r ∙ is r e)) (finalize_same c.finalizers t))

  made_gave : (d : ℕ) (request : Option L.Value) (how : BodyEnd L) (w v : L.World) → FramesBegun is_out w how v → Gave (making_of rules d request how v).held.rest w (making_of rules d request how v).world
  made_gave d request (Yielded value rest) w v h = frame_gave rest w v h
  made_gave d request (Raised e) w v h = same_gave w v h
  made_gave d request (Returned value) w v h =
      elim (rules.yields d) as (λ b. (let m = cond b (failed_instance request (rules.did_not_yield d v)) (making {L = L} (Value value) None request v) in Gave m.held.rest w m.world)) [
        | true ↦ same_gave w (rules.did_not_yield d v).world (then_same w v (rules.did_not_yield d v).world h (keep.did_not_yield d v))
        | false ↦ same_gave w v h
      ]

  module _ (allowed : OtherFrames L.Rest) where
    pub one_good : (n : ℕ) (s : SessionState L) (o : Option (LiveInstance L)) → instance_by_number n s.live ≡ o → IsGood allowed s → IsGood allowed (down_one rules o s).state
    one_good n s None e g = g
    one_good n s (Some i) e g =
        let others : LiveInstance L → Bool = λ (k : LiveInstance L). not (eqb i.order k.order) in
        let here = numbered_In n s.live i e in
        let t = torn_took i s.world (λ r q. g.out r i here q) in
        let before : (j : LiveInstance L) → IsMember j (without i.order s.live) → IsMember j s.live × (i.order ≡ j.order → ⊥) = λ j m. without-In i.order s.live j m in
        record {
          rising = Rising-filter others s.live g.rising;
          low = λ j m. g.low j (before j m).0;
          held = λ r o. elim (g.held r (t.only r o)) [
            | inl a ↦ inl a
            | inr b ↦ inr (
              b.0,
              filter-In others b.0 s.live b.1
                  (rw (ne_eqb i.order b.0.order (λ q. apart (is_out r (torn_of rules i s.world).world) o
                  (t.gone r (ap (λ (x : LiveInstance L). x.slot.rest) (rising_one s.live g.rising i b.0 here b.1 q) ∙ b.2)))) refl),
              b.2,
            )
          ];
          there = λ r a. elim (t.kept r (g.there r a)) [ inl o ↦ o | inr q ↦ absurd (g.free r i a here q) ];
          out = λ r j m q. elim (t.kept r (g.out r j (before j m).0 q)) [ inl o ↦ o | inr p ↦ absurd ((before j m).1 (g.one r i j here (before j m).0 p q)) ];
          one = λ r j k m n. g.one r j k (before j m).0 (before k n).0;
          free = λ r j a m. g.free r j a (before j m).0;
        }

    pub more_good : (ns : List ℕ) (raised : List L.Thrown) (s : SessionState L) → IsGood allowed s → IsGood allowed (down_more rules ns raised s).state
    more_good [] raised s g = g
    more_good (n ∷ ns) raised s g =
        let r = down_one rules (instance_by_number n s.live) s in
        more_good ns (raised ++ r.raised) r.state (one_good n s (instance_by_number n s.live) refl g)

    pub down_good : (set : List (LiveInstance L)) (s : SessionState L) → IsGood allowed s → IsGood allowed (down_all rules set s).state
    down_good set s g = more_good (instance_numbers (down_order set)) [] s g

    -- DEMAND

    born_good : (item : Item) (d : ℕ) (given : List (Grant L)) (m : NewInstance L) (s : SessionState L) → Gave m.held.rest s.world m.world → IsGood allowed s → IsGood allowed (instance_reply rules item d given m s).state
    born_good item d given m s h g =
        let i = fresh rules item d given s.next m.held in
        let new : (r : L.Rest) → m.held.rest ≡ Some r → is_out r s.world ≡ true → ⊥ = λ r e o. apart (is_out r s.world) o (h.was r e) in
        let which : (j : LiveInstance L) → IsMember j (s.live ++ i ∷ []) → IsMember j s.live ⊎ (j ≡ i) = λ j m. elim (In-append j s.live (i ∷ []) m) [ inl a ↦ inl a | inr z ↦ elim z [ inl e ↦ inr e | inr z ↦ absurd z ] ] in
        let own : (j : LiveInstance L) (r : L.Rest) → j ≡ i → j.slot.rest ≡ Some r → m.held.rest ≡ Some r = λ j r e q. ap (λ (x : LiveInstance L). x.slot.rest) (sym e) ∙ q in
        record {
          rising = Rising-push s.live i g.rising g.low;
          low = λ j k. elim (which j k) [
            | inl l ↦ (let z = g.low j l in omega (arith, z))
            | inr e ↦ (let q = ap (λ (x : LiveInstance L). x.order) e in omega (arith, q))
          ];
          held = λ r o. elim (h.only r o) [
            | inl a ↦ elim (g.held r a) [ inl b ↦ inl b | inr b ↦ inr (b.0, In-left b.0 s.live (i ∷ []) b.1, b.2) ]
            | inr e ↦ inr (i, In-right i s.live (i ∷ []) (inl refl), e)
          ];
          there = λ r a. h.kept r (g.there r a);
          out = λ r j k q. elim (which j k) [ inl l ↦ h.kept r (g.out r j l q) | inr e ↦ h.is r (own j r e q) ];
          one = λ r j k m n p q. elim (which j m) [
            | inl a ↦ elim (which k n) [ inl b ↦ g.one r j k a b p q | inr e ↦ absurd (new r (own k r e q) (g.out r j a p)) ]
            | inr e ↦ elim (which k n) [ inl b ↦ absurd (new r (own j r e p) (g.out r k b q)) | inr f ↦ ap (λ (x : LiveInstance L). x.order) (e ∙ sym f) ]
          ];
          free = λ r j a k q. elim (which j k) [ inl l ↦ g.free r j a l q | inr e ↦ new r (own j r e q) (g.there r a) ];
        }

    pub set_up_good : (item : Item) (d : ℕ) (given : List (Grant L)) (s : SessionState L) → IsGood allowed s → IsGood allowed (set_up rules item d given s).state
    set_up_good item d given s g =
        let a = rules.ask item.node d (item.parameter d) s.world in
        let o = rules.begin item.node d (item.parameter d) s.instance (values_of given) a.request a.world in
        let m = call_fixture_func rules item d given s.instance a in
        born_good item d given m s
        (same_then_gave m.held.rest s.world a.world m.world (keep.ask item.node d (item.parameter d) s.world)
        (made_gave d a.request o.how a.world o.world (keep.begin item.node d (item.parameter d) s.instance (values_of given) a.request a.world))) g

    pub after_good : (item : Item) (d : ℕ) (given : List (Grant L)) (raised : List L.Thrown) (s : SessionState L) → IsGood allowed s → IsGood allowed (set_up_after rules item d given raised s).state
    after_good item d given [] s g = set_up_good item d given s g
    after_good item d given (e ∷ es) s g = g

    pub settle_good : (item : Item) (d : ℕ) (given : List (Grant L)) (o : Option (LiveInstance L)) (s : SessionState L) → IsGood allowed s → IsGood allowed (settle rules item d given o s).state
    settle_good item d given None s g = set_up_good item d given s g
    settle_good item d given (Some i) s g =
        let r = down_all rules (dependents i.order s.live) s in
        elim (is_same i.param (item.parameter d)) as (λ b. IsGood allowed (cond b (reply (answer_of i i.slot.kept) s) (replace rules item d given r)).state) [
          | true ↦ g
          | false ↦ after_good item d given r.raised r.state (down_good (dependents i.order s.live) s g)
        ]

    next_good : (rest : List (Grant L) → SessionState L → Replies L) → ((given : List (Grant L)) (s : SessionState L) → IsGood allowed s → IsGood allowed (rest given s).state) → (given : List (Grant L)) (a : Answer L) (s : SessionState L) → IsGood allowed s → IsGood allowed (ask_next rest given a s).state
    next_good rest law given (Given i) s g = law (given ++ i ∷ []) s g
    next_good rest law given (Refused es) s g = g

    pub asked_good : (ask : ℕ → SessionState L → Reply L) → ((d : ℕ) (s : SessionState L) → IsGood allowed s → IsGood allowed (ask d s).state) → (ds : List ℕ) (given : List (Grant L)) (s : SessionState L) → IsGood allowed s → IsGood allowed (ask_all ask ds given s).state
    asked_good ask law [] given s g = g
    asked_good ask law (d ∷ ds) given s g = next_good (ask_all ask ds) (asked_good ask law ds) given (ask d s).answer (ask d s).state (law d s g)

    with_good : (item : Item) (d : ℕ) (a : JointAnswer L) (s : SessionState L) → IsGood allowed s → IsGood allowed (with_arguments rules item d a s).state
    with_good item d (AllGiven given) s g = settle_good item d given (find d (item.place d) s.live) s g
    with_good item d (OneRefused es) s g = g

    pub demand_good : (item : Item) (depth d : ℕ) (s : SessionState L) → IsGood allowed s → IsGood allowed (demand rules item depth d s).state
    demand_good item zero d s g = moved allowed s.live s.next s.world (rules.fault item.node s.world).world (keep.fault item.node s.world) g
    demand_good item (suc depth) d s g =
        let r = ask_all (demand rules item depth) (item.requests d) [] s in
        with_good item d r.answers r.state (asked_good (demand rules item depth) (demand_good item depth) (item.requests d) [] s g)

    noted_good : (rest : SessionState L → Step L) → ((s : SessionState L) → IsGood allowed s → IsGood allowed (rest s).state) → (a : Answer L) (s : SessionState L) → IsGood allowed s → IsGood allowed (demand_next rest a s).state
    noted_good rest law (Given i) s g = law (with_grant i s) g
    noted_good rest law (Refused es) s g = g

    pub closure_good : (item : Item) (ds : List ℕ) (s : SessionState L) → IsGood allowed s → IsGood allowed (demand_closure rules item ds s).state
    closure_good item [] s g = g
    closure_good item (d ∷ ds) s g =
        let r = demand rules item rules.depth d s in
        noted_good (demand_closure rules item ds) (closure_good item ds) r.answer r.state (demand_good item rules.depth d s g)

    -- WHAT THE BUILT-IN IMPLEMENTATIONS DO

    pub by_good : (item : Item) (closure : Option (List ℕ)) (s : SessionState L) → IsGood allowed s → IsGood allowed (set_up_by rules item closure s).state
    by_good item None s g = moved allowed s.live s.next s.world (rules.fault item.node s.world).world (keep.fault item.node s.world) g
    by_good item (Some ds) s g = closure_good item ds s g

    pub test_good : (item : Item) (values : Option (List L.Value)) (s : SessionState L) → IsGood allowed s → IsGood allowed (test_with rules item values s).state
    test_good item None s g = moved allowed s.live s.next s.world (rules.wrong_arguments item.node s.world).world (keep.wrong_arguments item.node s.world) g
    test_good item (Some values) s g =
        let a = rules.ask_test item.node s.world in
        moved allowed s.live s.next a.world (rules.test item.node s.instance values a.request a.world).world (keep.test item.node s.instance values a.request a.world)
        (moved allowed s.live s.next s.world a.world (keep.ask_test item.node s.world) g)

    pub own_good : (s : SessionState L) → IsGood allowed s → IsGood allowed (finalize_own rules s).state
    own_good s g =
        let c = closed_request rules s.request s.world in
        let t : TeardownEnd L = torn [] c.world in
        moved allowed s.live s.next s.world (finalize_all rules c.finalizers t).world
        (then_same s.world c.world (finalize_all rules c.finalizers t).world (closed_same s.request s.world) (finalize_same c.finalizers t)) g

    pub leave_good : (next : Option Item) (s : SessionState L) → IsGood allowed s → IsGood allowed (leave rules next s).state
    leave_good next s g =
        let r = finalize_own rules s in
        down_good (not_on (chain_of next) r.state.live) (record r.state { given = []; left = true }) (own_good s g)

    -- HOOKS

    object_good : (node : ℕ) (o : Option L.Value) (s : SessionState L) → IsGood allowed s → IsGood allowed (make_missing_object rules node o s)
    object_good node None s g = moved allowed s.live s.next s.world (rules.make_item node s.world).world (keep.make_item node s.world) g
    object_good node (Some o) s g = g

    next_object_good : (next : Option ℕ) (s : SessionState L) → IsGood allowed s → IsGood allowed (with_nextitem rules next s)
    next_object_good None s g = g
    next_object_good (Some node) s g = object_good node (object_of node s.objects) s g

    pub ready_good : (item : Item) (next : Option ℕ) (s : SessionState L) → IsGood allowed s → IsGood allowed (ready rules item next s)
    ready_good item next s g = next_object_good next (with_item_object rules item.node s) (object_good item.node (object_of item.node s.objects) s g)

    -- a wrapper that stands at its `yield` is out besides
    abbrev pub AlsoAllowed : L.Rest → OtherFrames L.Rest
    AlsoAllowed f = record { sure = λ r. allowed.sure r ⊎ (f ≡ r); possible = λ r. allowed.possible r ⊎ (f ≡ r) }

    abbrev pub IsBegun : HookBeginning (Frame L) (Exceptions L) → SessionState L → Type 0
    IsBegun (AtYield frame) s = IsGood (AlsoAllowed frame.rest) s × (allowed.sure frame.rest → ⊥)
    IsBegun (OpenRaised e) s = IsGood allowed s

    pub opened_good : (which : Impl) (how : BodyEnd L) (w : L.World) (s : SessionState L) → FramesBegun is_out s.world how w → IsGood allowed s → IsBegun (opening rules which how w).answer (in_world (opening rules which how w).world s)
    opened_good which (Yielded v rest) w s h g =
        let new : (r : L.Rest) → rest ≡ r → is_out r s.world ≡ true → ⊥ = λ r e o. apart (is_out rest s.world) (subst (λ (z : L.Rest). is_out z s.world ≡ true) (sym e) o) h.was in (
          record {
            rising = g.rising;
            low = g.low;
            held = λ r o. elim (h.only r o) [
              | inl a ↦ elim (g.held r a) [ inl b ↦ inl (inl b) | inr b ↦ inr b ]
              | inr e ↦ inl (inr e)
            ];
            there = λ r a. elim a [ inl b ↦ h.kept r (g.there r b) | inr e ↦ subst (λ (z : L.Rest). is_out z w ≡ true) e h.is ];
            out = λ r i m e. h.kept r (g.out r i m e);
            one = g.one;
            free = λ r i a m e. elim a [ inl b ↦ g.free r i b m e | inr q ↦ new r q (g.out r i m e) ];
          },
          λ a. new rest refl (g.there rest a),
        )
    opened_good which (Raised e) w s h g = moved allowed s.live s.next s.world w h g
    opened_good which (Returned v) w s h g =
        let t = rules.wrapper_did_not_yield which w in
        moved allowed s.live s.next s.world t.world (then_same s.world w t.world h (keep.wrapper_did_not_yield which w)) g

    -- where it is taken it is out no more
    spent_good : (rest : L.Rest) (s : SessionState L) (v : L.World) → Took (Some rest) s.world v → IsGood (AlsoAllowed rest) s → (allowed.sure rest → ⊥) → IsGood allowed (in_world v s)
    spent_good rest s v t g not =
        let other : (r : L.Rest) → Some rest ≡ Some r → rest ≡ r = λ r e. cc in
        record {
          rising = g.rising;
          low = g.low;
          held = λ r o. elim (g.held r (t.only r o)) [
            | inl a ↦ elim a [ inl b ↦ inl b | inr e ↦ absurd (apart (is_out r v) o (t.gone r (ap (λ (z : L.Rest). Some z) e))) ]
            | inr b ↦ inr b
          ];
          there = λ r a. elim (t.kept r (g.there r (inl a))) [ inl o ↦ o | inr e ↦ absurd (not (subst allowed.sure (sym (other r e)) a)) ];
          out = λ r i m e. elim (t.kept r (g.out r i m e)) [ inl o ↦ o | inr q ↦ absurd (g.free r i (inr (other r q)) m e) ];
          one = g.one;
          free = λ r i a m e. g.free r i (inl a) m e;
        }

    pub resumed_good : (which : Impl) (inner : HookInner L.Value (Exceptions L)) (rest : L.Rest) (how : BodyEnd L) (w : L.World) (s : SessionState L) → FramesResumed is_out rest s.world how w → IsGood (AlsoAllowed rest) s → (allowed.sure rest → ⊥)
        → IsGood allowed (in_world (resuming rules which inner how w).world s)
    resumed_good which inner rest (Returned v) w s h g not = spent_good rest s w (frame_took rest s.world w h) g not
    resumed_good which inner rest (Raised e) w s h g not = spent_good rest s w (frame_took rest s.world w h) g not
    resumed_good which inner rest (Yielded v other) w s h g not =
        let u = rules.abandon other w in
        let t = rules.wrapper_yielded_again which u in
        spent_good rest s t.world
        (took_same (Some rest) s.world u t.world (frame_took rest s.world u (replaced_took rest other s.world w u h (keep.abandon other w h.is))) (keep.wrapper_yielded_again which u)) g not

  module _ (phase : Phase) (item : Item) (next : Option ℕ) (built : SessionState L → Step L) (law : (allowed : OtherFrames L.Rest) (s : SessionState L) → IsGood allowed s → IsGood allowed (built s).state) where
    abbrev runner : HookRunner (SessionState L) L.Value (Exceptions L) (Frame L)
    runner = runner_of rules phase item next built

    abbrev called : Impl → SessionState L → HookStep (SessionState L) (HookAnswer L.Value (Exceptions L))
    called which s = did_call s (implemented (rules.implement phase item.node (hook_arguments item next s) which s.world))

    pub implemented_good : (allowed : OtherFrames L.Rest) (which : Impl) (s : SessionState L) → IsGood allowed s → IsGood allowed (runner.call which s).state
    implemented_good allowed which s g =
        elim (which.registered == built_in phase) as (λ b. IsGood allowed (cond b (did_step (built s)) (called which s)).state) [
          | true ↦ law allowed s g
          | false ↦ moved allowed s.live s.next s.world (rules.implement phase item.node (hook_arguments item next s) which s.world).world (keep.implement phase item.node (hook_arguments item next s) which s.world) g
        ]

    pub begun_good : (allowed : OtherFrames L.Rest) (which : Impl) (s : SessionState L) → IsGood allowed s → IsBegun allowed (runner.begin which s).answer (runner.begin which s).state
    begun_good allowed which s g =
        let o = rules.open_wrapper phase item.node (hook_arguments item next s) which s.world in
        opened_good allowed which o.how o.world s (keep.open_wrapper phase item.node (hook_arguments item next s) which s.world) g

    pub went_on_good : (allowed : OtherFrames L.Rest) (frame : Frame L) (inner : HookInner L.Value (Exceptions L)) (s : SessionState L) → IsGood (AlsoAllowed allowed frame.rest) s → (allowed.sure frame.rest → ⊥) → IsGood allowed (runner.resume frame inner s).state
    went_on_good allowed frame inner s g not =
        let sent = sent_to_wrapper s.values inner in
        let o = rules.resume_wrapper phase item.node frame.rest sent s.world in
        resumed_good allowed frame.which inner frame.rest o.how o.world s (keep.resume_wrapper phase item.node frame.rest sent s.world (g.there frame.rest (inr refl))) g not

    behind_good : (allowed : OtherFrames L.Rest) (rest : SessionState L → HookEnd (SessionState L) L.Value (Exceptions L)) → ((s : SessionState L) → IsGood allowed s → IsGood allowed (rest s).state)
        → (answer : HookAnswer L.Value (Exceptions L)) (s : SessionState L) → IsGood allowed s → IsGood allowed (each_next rest answer s).state
    behind_good allowed rest k (HookGave value) s g = k s g
    behind_good allowed rest k (HookRaised e) s g = g

    pub each_good : (allowed : OtherFrames L.Rest) (impls : List Impl) (s : SessionState L) → IsGood allowed s → IsGood allowed (each runner impls s).state
    each_good allowed [] s g = g
    each_good allowed (which ∷ rest) s g = behind_good allowed (each runner rest) (each_good allowed rest) (runner.call which s).answer (runner.call which s).state (implemented_good allowed which s g)

    around_good : (allowed : OtherFrames L.Rest) (rest : SessionState L → HookEnd (SessionState L) L.Value (Exceptions L)) → ((allowed : OtherFrames L.Rest) (s : SessionState L) → IsGood allowed s → IsGood allowed (rest s).state)
        → (answer : HookBeginning (Frame L) (Exceptions L)) (s : SessionState L) → IsBegun allowed answer s → IsGood allowed (around runner rest answer s).state
    around_good allowed rest k (AtYield frame) s g = went_on_good allowed frame (rest s).outcome (rest s).state (k (AlsoAllowed allowed frame.rest) s g.0) g.1
    around_good allowed rest k (OpenRaised e) s g = g

    pub around_all_good : (impls : List Impl) (allowed : OtherFrames L.Rest) (s : SessionState L) → IsGood allowed s → IsGood allowed (around_all runner (each runner) impls s).state
    around_all_good [] allowed s g = g
    around_all_good (which ∷ rest) allowed s g =
        let others = around_all runner (each runner) rest in
        elim which.wrapper as (λ b. IsGood allowed (cond b (around runner others (runner.begin which s).answer (runner.begin which s).state) (each runner (which ∷ rest) s)).state) [
          | true ↦ around_good allowed others (around_all_good rest) (runner.begin which s).answer (runner.begin which s).state (begun_good allowed which s g)
          | false ↦ each_good allowed (which ∷ rest) s g
        ]

    pub hooks_good : (allowed : OtherFrames L.Rest) (s : SessionState L) → IsGood allowed s → IsGood allowed (in_hooks rules phase item next built s).state
    hooks_good allowed s g = around_all_good (rules.hooks phase item.node) allowed (ready rules item next s) (ready_good allowed item next s g)

  -- PHASES AND SESSIONS

  module _ (allowed : OtherFrames L.Rest) where
    pub told_good : (phase : Phase) (item : Item) (r : Step L) → IsGood allowed r.state → Good allowed r.state.live r.state.next (telling rules phase item r).world
    told_good phase item r g = moved allowed r.state.live r.state.next r.state.world (telling rules phase item r).world (keep.end_phase phase item.node r.raised r.state.world) g

    pub opened_item_good : (item : Item) (s : SessionState L) → IsGood allowed s → IsGood allowed (with_new_instance rules item s)
    opened_item_good item s g = moved allowed s.live s.next s.world (rules.make_instance item.node s.world).world (keep.make_instance item.node s.world) g

    pub set_up_phase_good : (item : Item) (s : SessionState L) → IsGood allowed s → IsGood allowed (set_up_phase rules item s).state
    set_up_phase_good item s g = told_good SetUp item (in_hooks rules SetUp item None (set_up_item rules item) s) (hooks_good SetUp item None (set_up_item rules item) (λ p t q. by_good p item item.closure t q) allowed s g)

    pub call_good : (item : Item) (raised : List L.Thrown) (s : SessionState L) → IsGood allowed s → IsGood allowed (call_after rules item raised s)
    call_good item (x ∷ xs) s g = g
    call_good item [] s g =
        let t : SessionState L = emit (CallBegins item.node (numbers_of s.given [])) s in
        told_good Call item (in_hooks rules Call item None (pyfunc_call rules item) t) (hooks_good Call item None (pyfunc_call rules item) (λ p u q. test_good p item (values_for u.given item.arguments) u q) allowed t g)

    pub torn_good : (item : Item) (next : Option Item) (s : SessionState L) → IsGood allowed s → IsGood allowed (torn_down rules item next s).state
    torn_good item next s g =
        let r = in_hooks rules Teardown item (node_of next) (leave rules next) (record s { left = false }) in
        let k = hooks_good Teardown item (node_of next) (leave rules next) (λ p t q. leave_good p next t q) allowed (record s { left = false }) g in
        elim r.state.left as (λ b. IsGood allowed (cond b r (also_raised r.raised (leave rules next r.state))).state) [
          | true ↦ k
          | false ↦ leave_good allowed next r.state k
        ]

    pub all_good : (maxfail : ℕ) (item : Item) (r : Step L) → IsGood allowed r.state → IsGood allowed (all_down rules maxfail item r).state
    all_good maxfail item r g = cond_law (λ (x : Step L). IsGood allowed x.state) (reaches maxfail (bad_behind rules Teardown item r)) (also_raised r.raised (down_all rules r.state.live r.state)) r (down_good allowed r.state.live r.state g) g

    pub teardown_good : (maxfail : ℕ) (item : Item) (items : List Item) (s : SessionState L) → IsGood allowed s → IsGood allowed (teardown_phase rules maxfail item items s)
    teardown_good maxfail item items s g =
        let next = next_unless (has_reached maxfail s) items in
        let t = torn_down rules item next s in
        told_good Teardown item (all_down rules maxfail item t) (all_good maxfail item t (torn_good item next s g))

    pub item_good : (maxfail : ℕ) (item : Item) (items : List Item) (s : SessionState L) → IsGood allowed s → IsGood allowed (run_item rules maxfail item items s)
    item_good maxfail item items s g =
        let r = set_up_phase rules item (with_new_instance rules item s) in
        teardown_good maxfail item items (call_phase rules item r)
        (call_good item r.raised r.state (set_up_phase_good item (with_new_instance rules item s) (opened_item_good item s g)))

    pub session_good : (maxfail : ℕ) (items : List Item) (s : SessionState L) → IsGood allowed s → IsGood allowed (session rules maxfail items s)
    session_good maxfail [] s g = g
    session_good maxfail (item ∷ items) s g =
        let t = run_item rules maxfail item items s in
        let h = item_good maxfail item items s g in
        cond_law (λ (x : SessionState L). IsGood allowed x) (has_reached maxfail t) t (session rules maxfail items t) h (session_good maxfail items t h)

  -- what was out at first
  abbrev pub WasOut : L.World → OtherFrames L.Rest
  WasOut first = record { sure = λ r. is_out r first ≡ true; possible = λ r. is_out r first ≡ true }

  pub first_good : (w : L.World) → IsGood (WasOut w) (initial_state w)
  first_good w =
      record {
        rising = tt;
        low = λ i m. absurd m;
        held = λ r o. inl o;
        there = λ r o. o;
        out = λ r i m e. absurd m;
        one = λ r i j m n p q. absurd m;
        free = λ r i a m e. m;
      }

  -- where no instance lives, exactly those of the beginning are out
  as_first : (w : L.World) (s : SessionState L) → IsGood (WasOut w) s → s.live ≡ [] → Same w s.world
  as_first w s g none r =
      elim (is_out r w) as (λ a. is_out r w ≡ a → is_out r s.world ≡ a) [
        | true ↦ λ e. g.there r e
        | false ↦ λ e. elim (is_out r s.world) as (λ b. is_out r s.world ≡ b → is_out r s.world ≡ false) [
          | true ↦ λ f. elim (g.held r f) [
            | inl a ↦ absurd (apart (is_out r w) a e)
            | inr b ↦ absurd (let m : IsMember b.0 [] = subst (λ (l : List (LiveInstance L)). IsMember b.0 l) none b.1 in m)
          ]
          | false ↦ λ f. f
        ] refl
      ] refl

  pub same_behind : (maxfail : ℕ) (items : List Item) (w : L.World) → ((item : Item) → IsMember item items → HasFixtureClosure rules item) → Same w (session rules maxfail items (initial_state w)).world
  same_behind maxfail items w fits =
      as_first w (session rules maxfail items (initial_state w)) (session_good (WasOut w) maxfail items (initial_state w) (first_good w))
      (session_law rules maxfail items (initial_state w) fits (start_good rules w) refl (λ e. refl)).1
