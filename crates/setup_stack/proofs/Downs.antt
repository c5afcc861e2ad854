-- One goes down: the calls of the code, put together.
use Rattle.std.proofs.Common.{◌≡◌, ℕ, ◌+◌, ◌<◌, Bool, true, false, cond, not, List, [], ◌∷◌, ◌++◌, inl, inr, refl, sym, ap, ◌∙◌, subst, append_assoc, eqb, ◌≤◌, length, drop, get_or, Option, Some, map}
use Rattle.std.proofs.lemmas.Bool.{eqb-true, ne_eqb}
use Rattle.std.proofs.lemmas.List.{at_drop_all, drop_more}
use Rattle.std.specs.Option.{option_map}
use Rattle.session_types.specs.Members.{IsMember}
use Rattle.session_types.specs.declared.instance.Instance.{Instance}
use Rattle.session_types.specs.declared.journal.Event.TheVariants.{DownBegins, Down}
use Rattle.session_types.specs.Live.{dependents, down_order, not_on, instance_by_number, instance_numbers, without}
use Rattle.session_rules.proofs.Standing.{one_stands}
use Rattle.session_rules.specs.Frames.{KeepsFrames, StandsWith}
use Rattle.session_rules.specs.World.{Language, Rules, LiveInstance, ClosedRequest}
use Rattle.session_rules.specs.Teardown.{SessionState, TeardownEnd, torn, torn_of, torn_behind, finalize_all, rest_resumed, closed_request, down_all, down_more, down_one, some_raised, session_step}
use Rattle.session_types.proofs.Lists.{filter-In}
use Rattle.live_chains.specs.declared.id.LiveId.{LiveId}
use Rattle.live_chains.specs.Chained.{Apart, id_order, ids_without}
use Rattle.setup_stack.specs.Borne.{without_all}
use Rattle.setup_stack.specs.declared.answers.Grant.{Grant as CodeGrant}
use Rattle.fixture_instances.specs.declared.ends.CachedResult.{CachedResult}
use Rattle.setup_stack.specs.declared.stack.SetupStack.{SetupStack}
use Rattle.setup_stack.specs.Views.{stack_state}
use Rattle.fixture_instances.specs.Views.{closed_with, live_instance, live_instances, slot_of}
use Rattle.fixture_instances.proofs.Slots.{dependents_numbers, not_on_numbers, numbered_dress, without_dress}
use Rattle.setup_stack.proofs.States.{state_same}

pub numbered_number : {S : Type 0} (n : ℕ) (live : List (Instance S)) (i : Instance S) → instance_by_number n live ≡ Some i → i.order ≡ n
numbered_number n [] i e = absurd cc
numbered_number {S} n (x ∷ xs) i e =
    elim (eqb n x.order) as (λ b. eqb n x.order ≡ b → cond b (Some x) (instance_by_number n xs) ≡ Some i → i.order ≡ n) [
      | true ↦ λ q h. (let z : x ≡ i = cc in sym (ap (λ (k : Instance S). k.order) z) ∙ sym (eqb-true n x.order q))
      | false ↦ λ q h. numbered_number n xs i h
    ] refl e

pub record IsDown {L : Language} (rules : Rules L) (n : ℕ) (w0 : L.World) (s0 : SetupStack L.Value L.Thrown L.Rest) (w1 : L.World) (s1 : SetupStack L.Value L.Thrown L.Rest) (more : List L.Thrown) : Type 0 where
  pub state : stack_state rules w1 s1 ≡ (down_one rules (instance_by_number n (live_instances rules s0.live.live)) (stack_state rules w0 s0)).state
  pub raised : more ≡ (down_one rules (instance_by_number n (live_instances rules s0.live.live)) (stack_state rules w0 s0)).raised

-- the teardown that the calls made
pub torn_is : {L : Language} (rules : Rules L) (i : Instance (CachedResult L.Value L.Thrown L.Rest)) (request : Option L.Value) (fs : List L.Value) (more : List L.Thrown) (w0 w1 w2 : L.World) → request ≡ i.slot.request → closed_with rules fs w1 ≡ closed_request rules request w0 → torn more w2 ≡ finalize_all rules fs (rest_resumed rules i.def i.slot.rest w1) → torn more w2 ≡ torn_of rules (live_instance rules i) w0
torn_is {L} rules i request fs more w0 w1 w2 er ec et =
    let q : closed_with rules fs w1 ≡ closed_request rules i.slot.request w0 = ec ∙ ap (λ (r : Option L.Value). closed_request rules r w0) er in
    et ∙ ap (λ (c : ClosedRequest L). torn_behind rules (live_instance rules i) c) q

pub went_down : {L : Language} (rules : Rules L) (n : ℕ) (i : Instance (CachedResult L.Value L.Thrown L.Rest)) (h : CachedResult L.Value L.Thrown L.Rest) (fs : List L.Value) (more : List L.Thrown) (any : Bool) (w0 w1 w2 : L.World) (s0 s1 : SetupStack L.Value L.Thrown L.Rest)
    → instance_by_number n s0.live.live ≡ Some i
    → option_map (λ (k : Instance (CachedResult L.Value L.Thrown L.Rest)). k.slot) (instance_by_number n s0.live.live) ≡ Some h
    → closed_with rules fs w1 ≡ closed_request rules h.request w0
    → torn more w2 ≡ finalize_all rules fs (rest_resumed rules i.def i.slot.rest w1)
    → any ≡ some_raised more
    → s1.live.live ≡ without n s0.live.live
    → s1.live.next ≡ s0.live.next
    → s1.events ≡ (s0.events ++ DownBegins i.order ∷ []) ++ Down i.order any ∷ []
    → s1.given ≡ s0.given
    → s1.own ≡ s0.own
    → IsDown rules n w0 s0 w2 s1 more
went_down {L} rules n i h fs more any w0 w1 w2 s0 s1 num slot closed torn_ any_is live next events given own =
    let x = live_instance rules i in
    let t = torn_of rules x w0 in
    let eh : Some i.slot ≡ Some h = sym (ap (λ (o : Option (Instance (CachedResult L.Value L.Thrown L.Rest))). option_map (λ (k : Instance (CachedResult L.Value L.Thrown L.Rest)). k.slot) o) num) ∙ slot in
    let es : i.slot ≡ h = cc in
    let er : h.request ≡ i.slot.request = ap (λ (k : CachedResult L.Value L.Thrown L.Rest). k.request) (sym es) in
    let q : torn more w2 ≡ t = torn_is rules i h.request fs more w0 w1 w2 er closed torn_ in
    let ew : w2 ≡ t.world = ap (λ (e : TeardownEnd L). e.world) q in
    let em : more ≡ t.raised = ap (λ (e : TeardownEnd L). e.raised) q in
    let en : i.order ≡ n = numbered_number n s0.live.live i num in
    let e0 : instance_by_number n (live_instances rules s0.live.live) ≡ Some x = numbered_dress (λ (k : Instance (CachedResult L.Value L.Thrown L.Rest)). slot_of rules k.slot) n s0.live.live ∙ ap (λ (o : Option (Instance (CachedResult L.Value L.Thrown L.Rest))). option_map (live_instance rules) o) num in
    let el : live_instances rules s1.live.live ≡ without i.order (live_instances rules s0.live.live) =
    ap (live_instances rules) live
    ∙ (sym (without_dress (λ (k : Instance (CachedResult L.Value L.Thrown L.Rest)). slot_of rules k.slot) n s0.live.live)
    ∙ ap (λ (o : ℕ). without o (live_instances rules s0.live.live)) (sym en)) in
    let ev : s1.events ≡ s0.events ++ DownBegins i.order ∷ Down i.order (some_raised t.raised) ∷ [] =
    events
    ∙ (append_assoc s0.events (DownBegins i.order ∷ []) (Down i.order any ∷ [])
    ∙ (ap (λ (b : Bool). s0.events ++ DownBegins i.order ∷ Down i.order b ∷ []) any_is
    ∙ ap (λ (r : List L.Thrown). s0.events ++ DownBegins i.order ∷ Down i.order (some_raised r) ∷ []) em)) in
    let st : stack_state rules w2 s1 ≡ (down_one rules (Some x) (stack_state rules w0 s0)).state = state_same rules w2 t.world s1 (without i.order (live_instances rules s0.live.live)) s0.live.next (s0.events ++ DownBegins i.order ∷ Down i.order (some_raised t.raised) ∷ []) s0.given s0.own ew el next ev given own in
    record {
      state = st ∙ ap (λ (o : Option (LiveInstance L)). (down_one rules o (stack_state rules w0 s0)).state) (sym e0);
      raised = em ∙ ap (λ (o : Option (LiveInstance L)). (down_one rules o (stack_state rules w0 s0)).raised) (sym e0);
    }

-- the names that are left are live behind one that went down
pub there_next : (id : LiveId) (rest ids : List LiveId) → ((j : LiveId) → IsMember j (id ∷ rest) → IsMember j ids) → Apart id_order (id ∷ rest) → (j : LiveId) → IsMember j rest → IsMember j (ids_without id.order ids)
there_next id rest ids there apart j h =
    let e : eqb id.order j.order ≡ false = ne_eqb id.order j.order (λ q. apart.0 j h (sym q)) in
    filter-In (λ (k : LiveId). not (eqb id.order k.order)) j ids (there j (inr h)) (ap not e)

-- one more went down
pub record DownStep {L : Language} (rules : Rules L) (is_out : L.Rest → L.World → Bool) (ids0 : List LiveId) (raised0 : List L.Thrown) (s0 : SessionState L) (live0 : List (Instance (CachedResult L.Value L.Thrown L.Rest))) (rest : List LiveId) (raised : List L.Thrown) (w : L.World) (s : SetupStack L.Value L.Thrown L.Rest) : Type 0 where
  pub down : down_more rules (map id_order rest) raised (stack_state rules w s) ≡ down_more rules (map id_order ids0) raised0 s0
  pub live : without_all (map id_order rest) s.live.live ≡ without_all (map id_order ids0) live0
  pub there : (id : LiveId) → IsMember id rest → IsMember id s.live.ids
  pub once : Apart id_order rest
  pub frames : StandsWith (stack_state rules w s) is_out []

pub down_step : {L : Language} (rules : Rules L) (is_out : L.Rest → L.World → Bool) (keep : KeepsFrames rules is_out) (ids0 : List LiveId) (raised0 : List L.Thrown) (s0 : SessionState L) (live0 : List (Instance (CachedResult L.Value L.Thrown L.Rest))) (now rest : List LiveId) (id : LiveId) (raised raised1 : List L.Thrown) (w w1 : L.World) (s s1 : SetupStack L.Value L.Thrown L.Rest)
    → now ≡ id ∷ rest
    → DownStep rules is_out ids0 raised0 s0 live0 now raised w s
    → stack_state rules w1 s1 ≡ (down_one rules (instance_by_number id.order (live_instances rules s.live.live)) (stack_state rules w s)).state
    → raised1 ≡ raised ++ (down_one rules (instance_by_number id.order (live_instances rules s.live.live)) (stack_state rules w s)).raised
    → s1.live.ids ≡ ids_without id.order s.live.ids
    → s1.live.live ≡ without id.order s.live.live
    → DownStep rules is_out ids0 raised0 s0 live0 rest raised1 w1 s1
down_step {L} rules is_out keep ids0 raised0 s0 live0 now rest id raised raised1 w w1 s s1 cut h es er ei el =
    let there : (j : LiveId) → IsMember j (id ∷ rest) → IsMember j s.live.ids = λ j m. h.there j (subst (λ (l : List LiveId). IsMember j l) (sym cut) m) in
    let once : Apart id_order (id ∷ rest) = subst (λ (l : List LiveId). Apart id_order l) cut h.once in
    record {
      down = ap (λ (r : List L.Thrown). down_more rules (map id_order rest) r (stack_state rules w1 s1)) er
          ∙ (ap (λ (x : SessionState L). down_more rules (map id_order rest) (raised ++ (down_one rules (instance_by_number id.order (live_instances rules s.live.live)) (stack_state rules w s)).raised) x) es
          ∙ (ap (λ (l : List LiveId). down_more rules (map id_order l) raised (stack_state rules w s)) (sym cut) ∙ h.down));
      live = ap (λ (l : List (Instance (CachedResult L.Value L.Thrown L.Rest))). without_all (map id_order rest) l) el
          ∙ (ap (λ (l : List LiveId). without_all (map id_order l) s.live.live) (sym cut) ∙ h.live);
      there = λ j m. subst (λ (l : List LiveId). IsMember j l) (sym ei) (there_next id rest s.live.ids there once j m);
      once = once.1;
      frames = subst (λ (x : SessionState L). StandsWith x is_out []) (sym es) (one_stands {L = L} is_out rules keep [] id.order (stack_state rules w s) h.frames);
    }

-- all went down
pub down_done : {L : Language} (rules : Rules L) (is_out : L.Rest → L.World → Bool) (ids0 : List LiveId) (raised0 : List L.Thrown) (s0 : SessionState L) (live0 : List (Instance (CachedResult L.Value L.Thrown L.Rest))) (i : ℕ) (raised : List L.Thrown) (w : L.World) (s : SetupStack L.Value L.Thrown L.Rest) → length ids0 ≤ i → DownStep rules is_out ids0 raised0 s0 live0 (drop i ids0) raised w s → (session_step raised (stack_state rules w s) ≡ down_more rules (map id_order ids0) raised0 s0) × (s.live.live ≡ without_all (map id_order ids0) live0)
down_done {L} rules is_out ids0 raised0 s0 live0 i raised w s past h = (
  sym (at_drop_all (λ (l : List LiveId). down_more rules (map id_order l) raised (stack_state rules w s)) ids0 i past) ∙ h.down,
  sym (at_drop_all (λ (l : List LiveId). without_all (map id_order l) s.live.live) ids0 i past) ∙ h.live,
)

-- one of the list stands among those of which its rest is a part
pub there_at : {A : Type 0} (xs : List A) (i : ℕ) (d : A) (held : List A) → i < length xs → ((x : A) → IsMember x (drop i xs) → IsMember x held) → IsMember (get_or xs i d) held
there_at {A} xs i d held lt h = h (get_or xs i d) (subst (λ (l : List A). IsMember (get_or xs i d) l) (sym (drop_more xs i d lt)) (inl refl))

pub down_step_at : {L : Language} (rules : Rules L) (is_out : L.Rest → L.World → Bool) (keep : KeepsFrames rules is_out) (ids0 : List LiveId) (raised0 : List L.Thrown) (s0 : SessionState L) (live0 : List (Instance (CachedResult L.Value L.Thrown L.Rest))) (i : ℕ) (d : LiveId) (raised raised1 : List L.Thrown) (w w1 : L.World) (s s1 : SetupStack L.Value L.Thrown L.Rest)
    → i < length ids0
    → DownStep rules is_out ids0 raised0 s0 live0 (drop i ids0) raised w s
    → stack_state rules w1 s1 ≡ (down_one rules (instance_by_number (get_or ids0 i d).order (live_instances rules s.live.live)) (stack_state rules w s)).state
    → raised1 ≡ raised ++ (down_one rules (instance_by_number (get_or ids0 i d).order (live_instances rules s.live.live)) (stack_state rules w s)).raised
    → s1.live.ids ≡ ids_without (get_or ids0 i d).order s.live.ids
    → s1.live.live ≡ without (get_or ids0 i d).order s.live.live
    → DownStep rules is_out ids0 raised0 s0 live0 (drop (i + 1) ids0) raised1 w1 s1
down_step_at rules is_out keep ids0 raised0 s0 live0 i d raised raised1 w w1 s s1 lt h es er ei el =
    down_step rules is_out keep ids0 raised0 s0 live0 (drop i ids0) (drop (i + 1) ids0) (get_or ids0 i d) raised raised1 w w1 s s1 (drop_more ids0 i d lt) h es er ei el

-- what isn't for the next item went down, and what was given is forgotten
pub left_for : {L : Language} (rules : Rules L) (chain ns : List ℕ) (raised : List L.Thrown) (given : List (CodeGrant L.Value)) (w : L.World) (s : SetupStack L.Value L.Thrown L.Rest) → raised ≡ [] → given ≡ [] → ns ≡ instance_numbers (down_order (not_on chain s.live.live)) → down_more rules ns raised (stack_state rules w (record s { given = given })) ≡ down_all rules (not_on chain (live_instances rules s.live.live)) (stack_state rules w (record s { given = [] }))
left_for {L} rules chain ns raised given w s er eg en =
    ap (λ (r : List L.Thrown). down_more rules ns r (stack_state rules w (record s { given = given }))) er
    ∙ (ap (λ (gs : List (CodeGrant L.Value)). down_more rules ns [] (stack_state rules w (record s { given = gs }))) eg
    ∙ ap (λ (l : List ℕ). down_more rules l [] (stack_state rules w (record s { given = [] }))) (en ∙ sym (not_on_numbers (λ (i : Instance (CachedResult L.Value L.Thrown L.Rest)). slot_of rules i.slot) chain s.live.live)))

-- one went down, and all that depends on it
pub gone_with : {L : Language} (rules : Rules L) (n : ℕ) (ns : List ℕ) (before raised : List L.Thrown) (w : L.World) (s : SetupStack L.Value L.Thrown L.Rest) (t : SessionState L) → session_step raised t ≡ down_more rules ns before (stack_state rules w s) → before ≡ [] → ns ≡ instance_numbers (down_order (dependents n s.live.live)) → session_step raised t ≡ down_all rules (dependents n (live_instances rules s.live.live)) (stack_state rules w s)
gone_with {L} rules n ns before raised w s t e eb en =
    e
    ∙ (ap (λ (r : List L.Thrown). down_more rules ns r (stack_state rules w s)) eb
    ∙ ap (λ (l : List ℕ). down_more rules l [] (stack_state rules w s)) (en ∙ sym (dependents_numbers (λ (i : Instance (CachedResult L.Value L.Thrown L.Rest)). slot_of rules i.slot) n s.live.live)))
