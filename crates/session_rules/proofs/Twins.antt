-- What a session does with frames that aren't out is nothing: other resumptions, alike where a frame is out, give the same session.
use Rattle.std.proofs.Common.{◌≡◌, ℕ, zero, suc, Bool, true, false, cond, List, [], ◌∷◌, ◌++◌, refl, ap, ◌∙◌, inr, option_to_list, Option, None, Some}
use Rattle.std.specs.Prelude.{◌==◌}
use Rattle.hook_order.specs.declared.implementation.Impl.{Impl}
use Rattle.session_rules.proofs.Frames.{IsGood, IsBegun, AlsoAllowed, WasOut, around_all_good, asked_good, begun_good, by_good, call_good, closed_same, demand_good, first_good, hooks_good, implemented_good, item_good, leave_good, numbered_In, one_good, opened_item_good, own_good, ready_good, set_up_phase_good, test_good, torn_good}
use Rattle.session_rules.specs.Demand.{AllGiven, Answer, JointAnswer, Given, OneRefused, Refused, Replies, Reply, answer_of, ask_all, ask_next, demand, is_same, replace, reply, set_up_after, settle, with_arguments}
use Rattle.session_rules.specs.Frames.{AreAlikeWhereOut, KeepsFrames, OtherFrames, Resumptions, with_resumptions}
use Rattle.session_rules.specs.Hooks.{AtYield, HookAnswer, HookBeginning, HookEnd, HookGave, HookInner, HookRaised, HookRunner, HookStep, OpenRaised, around, around_all, each, each_next, hook_end, handed}
use Rattle.session_rules.specs.Session.{all_down, bad_behind, built_in, call_after, chain_of, demand_closure, demand_next, did_call, did_step, emitted, finalize_own, has_reached, hook_arguments, hooked, implemented, in_hooks, initial_state, leave, make_missing_object, next_unless, node_of, object_of, phase_finished, pyfunc_call, reaches, ready, resuming, resuming_threw, opening, did_world, run_item, runner_of, sent_to_wrapper, session, set_up_by, set_up_item, set_up_phase, teardown_phase, test_with, torn_down, values_for, with_grant, with_item_object, with_new_instance, with_nextitem}
use Rattle.session_rules.specs.Teardown.{Grant, SessionState, Step, TeardownEnd, also_raised, closed_request, down_all, down_more, down_one, emit, finalize_all, gone, rest_ended, rest_resumed, session_step, torn, torn_of}
use Rattle.session_rules.specs.World.{BodyEnd, BodyOutcome, Call, Exceptions, Frame, Item, Language, LiveInstance, Phase, Raised, Returned, Rules, SetUp, Teardown, WorldAnswer, Yielded}
use Rattle.session_types.specs.declared.journal.Event.TheVariants.{CallBegins, CallEnds}
use Rattle.session_rules.specs.Demand.{numbers_of}
use Rattle.session_types.specs.Live.{dependents, down_order, find, not_on, instance_by_number, instance_numbers}

module _ {L : Language} (rules : Rules L) (is_out : L.Rest → L.World → Bool) (keep : KeepsFrames rules is_out) (x : Resumptions L) (alike : AreAlikeWhereOut rules is_out x) where
  abbrev other : Rules L
  other = with_resumptions x rules

  abbrev Fine : OtherFrames L.Rest → SessionState L → Type 0
  Fine allowed s = IsGood rules is_out keep allowed s

  -- TEARDOWN

  finalize_twin : (fs : List L.Value) (t : TeardownEnd L) → finalize_all other fs t ≡ finalize_all rules fs t
  finalize_twin [] t = refl
  finalize_twin (f ∷ fs) t = finalize_twin fs (torn (t.raised ++ option_to_list (rules.finalize f t.world).raised) (rules.finalize f t.world).world)

  closed_twin : (request : Option L.Value) (w : L.World) → closed_request other request w ≡ closed_request rules request w
  closed_twin None w = refl
  closed_twin (Some r) w = refl

  ended_twin : (d : ℕ) (first : L.Rest) (w v : L.World) (how : BodyEnd L) → ((value : L.Value) (rest : L.Rest) → how ≡ Yielded value rest → x.abandon rest v ≡ rules.abandon rest v) → rest_ended other d how v ≡ rest_ended rules d how v
  ended_twin d first w v (Returned value) same = refl
  ended_twin d first w v (Raised e) same = refl
  ended_twin d first w v (Yielded value rest) same = ap (λ (u : L.World). torn {L = L} ((rules.yielded_again d u).thrown ∷ []) (rules.yielded_again d u).world) (same value rest refl)

  resumed_twin : (d : ℕ) (rest : Option L.Rest) (w : L.World) → ((r : L.Rest) → rest ≡ Some r → is_out r w ≡ true) → rest_resumed other d rest w ≡ rest_resumed rules d rest w
  resumed_twin d None w is = refl
  resumed_twin d (Some r) w is =
      let o = is r refl in
      ap (λ (b : BodyOutcome L). rest_ended other d b.how b.world) (alike.resume r w o)
      ∙ ended_twin d r w (rules.resume r w).world (rules.resume r w).how (λ value rest e. alike.abandon r w value rest o e)

  torn_twin : (i : LiveInstance L) (w : L.World) → ((r : L.Rest) → i.slot.rest ≡ Some r → is_out r w ≡ true) → torn_of other i w ≡ torn_of rules i w
  torn_twin i w is =
      let c = closed_request rules i.slot.request w in
      let q = closed_same rules is_out keep i.slot.request w in
      let t = rest_resumed rules i.def i.slot.rest c.world in
      ap (λ c. finalize_all other c.finalizers (rest_resumed other i.def i.slot.rest c.world)) (closed_twin i.slot.request w)
      ∙ (ap (λ (u : TeardownEnd L). finalize_all other c.finalizers u) (resumed_twin i.def i.slot.rest c.world (λ r e. q r ∙ is r e))
      ∙ finalize_twin c.finalizers t)

  module _ (allowed : OtherFrames L.Rest) where
    one_twin : (n : ℕ) (s : SessionState L) (o : Option (LiveInstance L)) → instance_by_number n s.live ≡ o → Fine allowed s → down_one other o s ≡ down_one rules o s
    one_twin n s None e g = refl
    one_twin n s (Some i) e g = ap (λ (t : TeardownEnd L). session_step t.raised (gone i t s)) (torn_twin i s.world (λ r q. g.out r i (numbered_In n s.live i e) q))

    more_twin : (ns : List ℕ) (raised : List L.Thrown) (s : SessionState L) → Fine allowed s → down_more other ns raised s ≡ down_more rules ns raised s
    more_twin [] raised s g = refl
    more_twin (n ∷ ns) raised s g =
        let r = down_one rules (instance_by_number n s.live) s in
        ap (λ (d : Step L). down_more other ns (raised ++ d.raised) d.state) (one_twin n s (instance_by_number n s.live) refl g)
        ∙ more_twin ns (raised ++ r.raised) r.state (one_good rules is_out keep allowed n s (instance_by_number n s.live) refl g)

    down_twin : (set : List (LiveInstance L)) (s : SessionState L) → Fine allowed s → down_all other set s ≡ down_all rules set s
    down_twin set s g = more_twin (instance_numbers (down_order set)) [] s g

    -- DEMAND

    after_twin : (item : Item) (d : ℕ) (given : List (Grant L)) (raised : List L.Thrown) (s : SessionState L) → set_up_after other item d given raised s ≡ set_up_after rules item d given raised s
    after_twin item d given [] s = refl
    after_twin item d given (e ∷ es) s = refl

    settle_twin : (item : Item) (d : ℕ) (given : List (Grant L)) (o : Option (LiveInstance L)) (s : SessionState L) → Fine allowed s → settle other item d given o s ≡ settle rules item d given o s
    settle_twin item d given None s g = refl
    settle_twin item d given (Some i) s g =
        let r = down_all rules (dependents i.order s.live) s in
        ap (λ (y : Reply L). cond (is_same i.param (item.parameter d)) (reply (answer_of i i.slot.kept) s) y)
        (ap (λ (q : Step L). replace other item d given q) (down_twin (dependents i.order s.live) s g) ∙ after_twin item d given r.raised r.state)

    next_twin : (one two : List (Grant L) → SessionState L → Replies L) → ((given : List (Grant L)) (s : SessionState L) → Fine allowed s → one given s ≡ two given s) → (given : List (Grant L)) (a : Answer L) (s : SessionState L) → Fine allowed s → ask_next one given a s ≡ ask_next two given a s
    next_twin one two law given (Given i) s g = law (given ++ i ∷ []) s g
    next_twin one two law given (Refused es) s g = refl

    asked_twin : (one two : ℕ → SessionState L → Reply L) → ((d : ℕ) (s : SessionState L) → Fine allowed s → one d s ≡ two d s) → ((d : ℕ) (s : SessionState L) → Fine allowed s → Fine allowed (two d s).state)
        → (ds : List ℕ) (given : List (Grant L)) (s : SessionState L) → Fine allowed s → ask_all one ds given s ≡ ask_all two ds given s
    asked_twin one two law good [] given s g = refl
    asked_twin one two law good (d ∷ ds) given s g =
        ap (λ (r : Reply L). ask_next (ask_all one ds) given r.answer r.state) (law d s g)
        ∙ next_twin (ask_all one ds) (ask_all two ds) (asked_twin one two law good ds) given (two d s).answer (two d s).state (good d s g)

    with_twin : (item : Item) (d : ℕ) (a : JointAnswer L) (s : SessionState L) → Fine allowed s → with_arguments other item d a s ≡ with_arguments rules item d a s
    with_twin item d (AllGiven given) s g = settle_twin item d given (find d (item.place d) s.live) s g
    with_twin item d (OneRefused es) s g = refl

    demand_twin : (item : Item) (depth d : ℕ) (s : SessionState L) → Fine allowed s → demand other item depth d s ≡ demand rules item depth d s
    demand_twin item zero d s g = refl
    demand_twin item (suc depth) d s g =
        let r = ask_all (demand rules item depth) (item.requests d) [] s in
        ap (λ (q : Replies L). with_arguments other item d q.answers q.state)
        (asked_twin (demand other item depth) (demand rules item depth) (demand_twin item depth) (demand_good rules is_out keep allowed item depth) (item.requests d) [] s g)
        ∙ with_twin item d r.answers r.state (asked_good rules is_out keep allowed (demand rules item depth) (demand_good rules is_out keep allowed item depth) (item.requests d) [] s g)

    noted_twin : (one two : SessionState L → Step L) → ((s : SessionState L) → Fine allowed s → one s ≡ two s) → (a : Answer L) (s : SessionState L) → Fine allowed s → demand_next one a s ≡ demand_next two a s
    noted_twin one two law (Given i) s g = law (with_grant i s) g
    noted_twin one two law (Refused es) s g = refl

    closure_twin : (item : Item) (ds : List ℕ) (s : SessionState L) → Fine allowed s → demand_closure other item ds s ≡ demand_closure rules item ds s
    closure_twin item [] s g = refl
    closure_twin item (d ∷ ds) s g =
        let r = demand rules item rules.depth d s in
        ap (λ (q : Reply L). demand_next (demand_closure other item ds) q.answer q.state) (demand_twin item rules.depth d s g)
        ∙ noted_twin (demand_closure other item ds) (demand_closure rules item ds) (closure_twin item ds) r.answer r.state (demand_good rules is_out keep allowed item rules.depth d s g)

    -- WHAT THE BUILT-IN IMPLEMENTATIONS DO

    by_twin : (item : Item) (closure : Option (List ℕ)) (s : SessionState L) → Fine allowed s → set_up_by other item closure s ≡ set_up_by rules item closure s
    by_twin item None s g = refl
    by_twin item (Some ds) s g = closure_twin item ds s g

    test_twin : (item : Item) (values : Option (List L.Value)) (s : SessionState L) → test_with other item values s ≡ test_with rules item values s
    test_twin item None s = refl
    test_twin item (Some values) s = refl

    own_twin : (s : SessionState L) → finalize_own other s ≡ finalize_own rules s
    own_twin s =
        let c = closed_request rules s.request s.world in
        ap (λ c. session_step (finalize_all other c.finalizers (torn [] c.world)).raised (record s { world = (finalize_all other c.finalizers (torn [] c.world)).world; request = None })) (closed_twin s.request s.world)
        ∙ ap (λ (t : TeardownEnd L). session_step t.raised (record s { world = t.world; request = None })) (finalize_twin c.finalizers (torn [] c.world))

    leave_twin : (next : Option Item) (s : SessionState L) → Fine allowed s → leave other next s ≡ leave rules next s
    leave_twin next s g =
        let r = finalize_own rules s in
        let t : SessionState L = record r.state { given = []; left = true } in
        ap (λ (q : Step L). also_raised q.raised (down_all other (not_on (chain_of next) q.state.live) (record q.state { given = []; left = true }))) (own_twin s)
        ∙ ap (λ (q : Step L). also_raised r.raised q) (down_twin (not_on (chain_of next) r.state.live) t (own_good rules is_out keep allowed s g))

    -- HOOKS

    object_twin : (node : ℕ) (o : Option L.Value) (s : SessionState L) → make_missing_object other node o s ≡ make_missing_object rules node o s
    object_twin node None s = refl
    object_twin node (Some o) s = refl

    next_object_twin : (next : Option ℕ) (s : SessionState L) → with_nextitem other next s ≡ with_nextitem rules next s
    next_object_twin None s = refl
    next_object_twin (Some node) s = object_twin node (object_of node s.objects) s

    ready_twin : (item : Item) (next : Option ℕ) (s : SessionState L) → ready other item next s ≡ ready rules item next s
    ready_twin item next s =
        ap (λ (t : SessionState L). record (with_nextitem other next t) { values = [] }) (object_twin item.node (object_of item.node s.objects) s)
        ∙ ap (λ (t : SessionState L). record t { values = [] }) (next_object_twin next (with_item_object rules item.node s))

    resuming_twin : (which : Impl) (inner : HookInner L.Value (Exceptions L)) (how : BodyEnd L) (w : L.World) → ((value : L.Value) (rest : L.Rest) → how ≡ Yielded value rest → x.abandon rest w ≡ rules.abandon rest w) → resuming other which inner how w ≡ resuming rules which inner how w
    resuming_twin which inner (Returned v) w same = refl
    resuming_twin which inner (Raised e) w same = refl
    resuming_twin which inner (Yielded v rest) w same = ap (λ (u : L.World). resuming_threw {L = L} (rules.wrapper_yielded_again which u)) (same v rest refl)

    opening_twin : (which : Impl) (how : BodyEnd L) (w : L.World) → opening other which how w ≡ opening rules which how w
    opening_twin which (Returned v) w = refl
    opening_twin which (Raised e) w = refl
    opening_twin which (Yielded v rest) w = refl

  module _ (phase : Phase) (item : Item) (next : Option ℕ) (one two : SessionState L → Step L) (same : (allowed : OtherFrames L.Rest) (s : SessionState L) → Fine allowed s → one s ≡ two s) (law : (allowed : OtherFrames L.Rest) (s : SessionState L) → Fine allowed s → Fine allowed (two s).state) where
    abbrev first : HookRunner (SessionState L) L.Value (Exceptions L) (Frame L)
    first = runner_of other phase item next one

    abbrev second : HookRunner (SessionState L) L.Value (Exceptions L) (Frame L)
    second = runner_of rules phase item next two

    call_twin : (allowed : OtherFrames L.Rest) (which : Impl) (s : SessionState L) → Fine allowed s → first.call which s ≡ second.call which s
    call_twin allowed which s g =
        ap (λ (r : Step L). cond (which.registered == built_in phase) (did_step r) (did_call s (implemented (rules.implement phase item.node (hook_arguments item next s) which s.world)))) (same allowed s g)

    begin_twin : (allowed : OtherFrames L.Rest) (which : Impl) (s : SessionState L) → first.begin which s ≡ second.begin which s
    begin_twin allowed which s =
        let o = rules.open_wrapper phase item.node (hook_arguments item next s) which s.world in
        ap (λ (a : WorldAnswer L (HookBeginning (Frame L) (Exceptions L))). did_world s a) (opening_twin allowed which o.how o.world)

    resume_twin : (allowed : OtherFrames L.Rest) (frame : Frame L) (inner : HookInner L.Value (Exceptions L)) (s : SessionState L) → is_out frame.rest s.world ≡ true → first.resume frame inner s ≡ second.resume frame inner s
    resume_twin allowed frame inner s o =
        let sent = sent_to_wrapper s.values inner in
        let b = rules.resume_wrapper phase item.node frame.rest sent s.world in
        ap (λ (a : WorldAnswer L (HookAnswer L.Value (Exceptions L))). did_world s a)
        (ap (λ (c : BodyOutcome L). resuming other frame.which inner c.how c.world) (alike.resume_wrapper phase item.node frame.rest sent s.world o)
        ∙ resuming_twin allowed frame.which inner b.how b.world (λ value rest e. alike.abandon_wrapper phase item.node frame.rest sent s.world value rest o e))

    each_next_twin : (allowed : OtherFrames L.Rest) (rest more : SessionState L → HookEnd (SessionState L) L.Value (Exceptions L)) → ((s : SessionState L) → Fine allowed s → rest s ≡ more s)
        → (answer : HookAnswer L.Value (Exceptions L)) (s : SessionState L) → Fine allowed s → each_next rest answer s ≡ each_next more answer s
    each_next_twin allowed rest more k (HookGave value) s g = ap (λ (h : HookEnd (SessionState L) L.Value (Exceptions L)). hook_end h.outcome (option_to_list value ++ h.values) h.state) (k s g)
    each_next_twin allowed rest more k (HookRaised e) s g = refl

    each_twin : (allowed : OtherFrames L.Rest) (impls : List Impl) (s : SessionState L) → Fine allowed s → each first impls s ≡ each second impls s
    each_twin allowed [] s g = refl
    each_twin allowed (which ∷ rest) s g =
        let d = second.call which s in
        ap (λ (c : HookStep (SessionState L) (HookAnswer L.Value (Exceptions L))). each_next (each first rest) c.answer c.state) (call_twin allowed which s g)
        ∙ each_next_twin allowed (each first rest) (each second rest) (each_twin allowed rest) d.answer d.state (implemented_good rules is_out keep phase item next two law allowed which s g)

    abbrev End : Type 0
    End = HookEnd (SessionState L) L.Value (Exceptions L)

    around_twin : (allowed : OtherFrames L.Rest) (rest more : SessionState L → End) → ((allowed : OtherFrames L.Rest) (s : SessionState L) → Fine allowed s → rest s ≡ more s) → ((allowed : OtherFrames L.Rest) (s : SessionState L) → Fine allowed s → Fine allowed (more s).state)
        → (answer : HookBeginning (Frame L) (Exceptions L)) (s : SessionState L) → IsBegun rules is_out keep allowed answer s → around first rest answer s ≡ around second more answer s
    around_twin allowed rest more k good (AtYield frame) s g =
        let m = more s in
        let o = (good (AlsoAllowed rules is_out keep allowed frame.rest) s g.0).there frame.rest (inr refl) in
        ap (λ (h : End). hook_end (handed (first.resume frame h.outcome h.state).answer) h.values (first.resume frame h.outcome h.state).state) (k (AlsoAllowed rules is_out keep allowed frame.rest) s g.0)
        ∙ ap (λ (d : HookStep (SessionState L) (HookAnswer L.Value (Exceptions L))). hook_end (handed d.answer) m.values d.state) (resume_twin allowed frame m.outcome m.state o)
    around_twin allowed rest more k good (OpenRaised e) s g = refl

    around_all_twin : (impls : List Impl) (allowed : OtherFrames L.Rest) (s : SessionState L) → Fine allowed s → around_all first (each first) impls s ≡ around_all second (each second) impls s
    around_all_twin [] allowed s g = refl
    around_all_twin (which ∷ rest) allowed s g =
        let b = second.begin which s in
        ap (λ (h : End). cond which.wrapper h (each first (which ∷ rest) s))
        (ap (λ (d : HookStep (SessionState L) (HookBeginning (Frame L) (Exceptions L))). around first (around_all first (each first) rest) d.answer d.state) (begin_twin allowed which s)
        ∙ around_twin allowed (around_all first (each first) rest) (around_all second (each second) rest) (around_all_twin rest) (around_all_good rules is_out keep phase item next two law rest) b.answer b.state (begun_good rules is_out keep phase item next two law allowed which s g))
        ∙ ap (λ (h : End). cond which.wrapper (around second (around_all second (each second) rest) b.answer b.state) h) (each_twin allowed (which ∷ rest) s g)

    hooks_twin : (allowed : OtherFrames L.Rest) (s : SessionState L) → Fine allowed s → in_hooks other phase item next one s ≡ in_hooks rules phase item next two s
    hooks_twin allowed s g =
        ap (λ (t : SessionState L). hooked (around_all first (each first) (rules.hooks phase item.node) t)) (ready_twin allowed item next s)
        ∙ ap (λ (h : End). hooked h) (around_all_twin (rules.hooks phase item.node) allowed (ready rules item next s) (ready_good rules is_out keep allowed item next s g))

  -- PHASES AND SESSIONS

  module _ (allowed : OtherFrames L.Rest) where
    set_up_phase_twin : (item : Item) (s : SessionState L) → Fine allowed s → set_up_phase other item s ≡ set_up_phase rules item s
    set_up_phase_twin item s g =
        ap (λ (r : Step L). phase_finished rules SetUp item r)
        (hooks_twin SetUp item None (set_up_item other item) (set_up_item rules item) (λ p t q. by_twin p item item.closure t q) (λ p t q. by_good rules is_out keep p item item.closure t q) allowed s g)

    call_after_twin : (item : Item) (raised : List L.Thrown) (s : SessionState L) → Fine allowed s → call_after other item raised s ≡ call_after rules item raised s
    call_after_twin item (e ∷ es) s g = refl
    call_after_twin item [] s g =
        let t : SessionState L = emit (CallBegins item.node (numbers_of s.given [])) s in
        ap (λ (r : Step L). (phase_finished rules Call item (emitted (CallEnds item.node) r)).state)
        (hooks_twin Call item None (pyfunc_call other item) (pyfunc_call rules item) (λ p u q. test_twin p item (values_for u.given item.arguments) u) (λ p u q. test_good rules is_out keep p item (values_for u.given item.arguments) u q) allowed t g)

    torn_down_twin : (item : Item) (next : Option Item) (s : SessionState L) → Fine allowed s → torn_down other item next s ≡ torn_down rules item next s
    torn_down_twin item next s g =
        let t : SessionState L = record s { left = false } in
        let r = in_hooks rules Teardown item (node_of next) (leave rules next) t in
        let h = hooks_good rules is_out keep Teardown item (node_of next) (leave rules next) (λ p u q. leave_good rules is_out keep p next u q) allowed t g in
        ap (λ (q : Step L). cond q.state.left q (also_raised q.raised (leave other next q.state)))
        (hooks_twin Teardown item (node_of next) (leave other next) (leave rules next) (λ p u q. leave_twin p next u q) (λ p u q. leave_good rules is_out keep p next u q) allowed t g)
        ∙ ap (λ (q : Step L). cond r.state.left r (also_raised r.raised q)) (leave_twin allowed next r.state h)

    all_down_twin : (maxfail : ℕ) (item : Item) (r : Step L) → Fine allowed r.state → all_down other maxfail item r ≡ all_down rules maxfail item r
    all_down_twin maxfail item r g = ap (λ (q : Step L). cond (reaches maxfail (bad_behind rules Teardown item r)) (also_raised r.raised q) r) (down_twin allowed r.state.live r.state g)

    teardown_twin : (maxfail : ℕ) (item : Item) (items : List Item) (s : SessionState L) → Fine allowed s → teardown_phase other maxfail item items s ≡ teardown_phase rules maxfail item items s
    teardown_twin maxfail item items s g =
        let next = next_unless (has_reached maxfail s) items in
        let t = torn_down rules item next s in
        ap (λ (r : Step L). (phase_finished rules Teardown item (all_down other maxfail item r)).state) (torn_down_twin item next s g)
        ∙ ap (λ (r : Step L). (phase_finished rules Teardown item r).state) (all_down_twin maxfail item t (torn_good rules is_out keep allowed item next s g))

    item_twin : (maxfail : ℕ) (item : Item) (items : List Item) (s : SessionState L) → Fine allowed s → run_item other maxfail item items s ≡ run_item rules maxfail item items s
    item_twin maxfail item items s g =
        let u = with_new_instance rules item s in
        let r = set_up_phase rules item u in
        let c = call_after rules item r.raised r.state in
        let gu = opened_item_good rules is_out keep allowed item s g in
        let gr = set_up_phase_good rules is_out keep allowed item u gu in
        ap (λ (q : Step L). teardown_phase other maxfail item items (call_after other item q.raised q.state)) (set_up_phase_twin item u gu)
        ∙ (ap (λ (t : SessionState L). teardown_phase other maxfail item items t) (call_after_twin item r.raised r.state gr)
        ∙ teardown_twin maxfail item items c (call_good rules is_out keep allowed item r.raised r.state gr))

    session_twin : (maxfail : ℕ) (items : List Item) (s : SessionState L) → Fine allowed s → session other maxfail items s ≡ session rules maxfail items s
    session_twin maxfail [] s g = refl
    session_twin maxfail (item ∷ items) s g =
        let t = run_item rules maxfail item items s in
        ap (λ (u : SessionState L). cond (has_reached maxfail u) u (session other maxfail items u)) (item_twin maxfail item items s g)
        ∙ ap (λ (u : SessionState L). cond (has_reached maxfail t) t u) (session_twin maxfail items t (item_good rules is_out keep allowed maxfail item items s g))

  pub same_session : (maxfail : ℕ) (items : List Item) (w : L.World) → session other maxfail items (initial_state w) ≡ session rules maxfail items (initial_state w)
  same_session maxfail items w = session_twin (WasOut rules is_out keep w) maxfail items (initial_state w) (first_good rules is_out keep w)
