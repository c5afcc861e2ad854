-- What the events of calls are.
use Rattle.std.proofs.Common.{◌≡◌, ℕ, zero, suc, true, false, cond, List, [], ◌∷◌, ◌++◌, inl, inr, refl, sym, ap, ◌∙◌, subst, eq-eqb, append_assoc, Option, None, Some}
use Rattle.std.proofs.lemmas.List.{append-nil}
use Rattle.std.proofs.lemmas.List.Elements.{filter-append}
use Rattle.std.proofs.lemmas.Bool.{cases_eq, ne_eqb}
use Rattle.session_rules.proofs.Holds.{called}
use Rattle.session_rules.proofs.Hooked.{cond_law, in_hooks_keeps}
use Rattle.session_rules.specs.Demand.{AllGiven, Answer, JointAnswer, Given, OneRefused, Refused, Replies, Reply, answer_of, ask_all, ask_next, born, demand, event_of, fresh, is_same, numbers_of, replace, set_up_after, settle, with_arguments}
use Rattle.session_types.specs.Members.{IsMember}
use Rattle.session_rules.specs.Events.{IsCalled, calls_of, is_call}
use Rattle.session_rules.specs.Fits.{Distinct}
use Rattle.session_types.specs.Live.{dependents, down_order, find, not_on, instance_by_number, instance_numbers}
use Rattle.session_rules.specs.Session.{bad_behind, call_after, call_item, call_phase, chain_of, demand_closure, demand_next, finalize_own, has_reached, in_hooks, leave, next_unless, node_of, with_grant, with_new_instance, reaches, run_item, session, set_up_by, set_up_item, set_up_phase, teardown_phase, pyfunc_call, test_with, torn_down, values_for}
use Rattle.session_rules.specs.Teardown.{Grant, SessionState, Step, also_raised, down, down_all, down_more, down_one, emit, in_world, some_raised, session_step, torn_of}
use Rattle.session_rules.specs.World.{Call, Failure, Item, SetUpEnd, Language, LiveInstance, Phase, Rules, SetUp, Teardown, Value}
use Rattle.session_types.specs.declared.journal.Event.{Event}
use Rattle.session_types.specs.declared.journal.Event.TheVariants.{CallBegins, CallEnds, Down, DownBegins}

-- What each teardown and each set-up keeps, and each change of the world, a demand keeps.
pub record Keeps {L : Language} (rules : Rules L) (P : SessionState L → Type 0) : Type 0 where
  pub down : (i : LiveInstance L) (s : SessionState L) → P s → P (down rules i s).state
  pub born : (bases : List ℕ) (i : LiveInstance L) (w : L.World) (s : SessionState L) → P s → P (born bases i w s).state
  pub world : (w : L.World) (s : SessionState L) → P s → P (in_world w s)

one_keeps : {L : Language} (rules : Rules L) (P : SessionState L → Type 0) (k : Keeps rules P) (o : Option (LiveInstance L)) (s : SessionState L) → P s → P (down_one rules o s).state
one_keeps rules P k None s p = p
one_keeps rules P k (Some i) s p = k.down i s p

more_keeps : {L : Language} (rules : Rules L) (P : SessionState L → Type 0) (k : Keeps rules P) (ns : List ℕ) (raised : List L.Thrown) (s : SessionState L) → P s → P (down_more rules ns raised s).state
more_keeps rules P k [] raised s p = p
more_keeps rules P k (n ∷ ns) raised s p = more_keeps rules P k ns (raised ++ (down_one rules (instance_by_number n s.live) s).raised) (down_one rules (instance_by_number n s.live) s).state (one_keeps rules P k (instance_by_number n s.live) s p)

pub down_keeps : {L : Language} (rules : Rules L) (P : SessionState L → Type 0) (k : Keeps rules P) (set : List (LiveInstance L)) (s : SessionState L) → P s → P (down_all rules set s).state
down_keeps rules P k set s p = more_keeps rules P k (instance_numbers (down_order set)) [] s p

after_keeps : {L : Language} (rules : Rules L) (P : SessionState L → Type 0) (k : Keeps rules P) (item : Item) (d : ℕ) (given : List (Grant L)) (raised : List L.Thrown) (s : SessionState L) → P s → P (set_up_after rules item d given raised s).state
after_keeps rules P k item d given [] s p = k.born _ _ _ s p
after_keeps rules P k item d given (x ∷ xs) s p = p

settle_keeps : {L : Language} (rules : Rules L) (P : SessionState L → Type 0) (k : Keeps rules P) (item : Item) (d : ℕ) (given : List (Grant L)) (o : Option (LiveInstance L)) (s : SessionState L) → P s → P (settle rules item d given o s).state
settle_keeps rules P k item d given None s p = k.born _ _ _ s p
settle_keeps rules P k item d given (Some i) s p =
    let r = down_all rules (dependents i.order s.live) s in
    elim (is_same i.param (item.parameter d)) as (λ b. P (cond b (record { answer = answer_of i i.slot.kept; state = s }) (replace rules item d given r)).state) [
      | true ↦ p
      | false ↦ after_keeps rules P k item d given r.raised r.state (down_keeps rules P k (dependents i.order s.live) s p)
    ]

with_keeps : {L : Language} (rules : Rules L) (P : SessionState L → Type 0) (k : Keeps rules P) (item : Item) (d : ℕ) (a : JointAnswer L) (s : SessionState L) → P s → P (with_arguments rules item d a s).state
with_keeps rules P k item d (AllGiven given) s p = settle_keeps rules P k item d given (find d (item.place d) s.live) s p
with_keeps rules P k item d (OneRefused es) s p = p

next_keeps : {L : Language} (P : SessionState L → Type 0) (rest : List (Grant L) → SessionState L → Replies L) → ((given : List (Grant L)) (s : SessionState L) → P s → P (rest given s).state) → (given : List (Grant L)) (a : Answer L) (s : SessionState L) → P s → P (ask_next rest given a s).state
next_keeps P rest law given (Given i) s p = law (given ++ i ∷ []) s p
next_keeps P rest law given (Refused es) s p = p

all_keeps : {L : Language} (P : SessionState L → Type 0) (ask : ℕ → SessionState L → Reply L) → ((d : ℕ) (s : SessionState L) → P s → P (ask d s).state) → (ds : List ℕ) (given : List (Grant L)) (s : SessionState L) → P s → P (ask_all ask ds given s).state
all_keeps P ask law [] given s p = p
all_keeps P ask law (d ∷ ds) given s p = next_keeps P (ask_all ask ds) (all_keeps P ask law ds) given (ask d s).answer (ask d s).state (law d s p)

pub demand_keeps : {L : Language} (rules : Rules L) (P : SessionState L → Type 0) (k : Keeps rules P) (item : Item) (depth d : ℕ) (s : SessionState L) → P s → P (demand rules item depth d s).state
demand_keeps rules P k item zero d s p = k.world (rules.fault item.node s.world).world s p
demand_keeps rules P k item (suc depth) d s p =
    let r = ask_all (demand rules item depth) (item.requests d) [] s in
    with_keeps rules P k item d r.answers r.state (all_keeps P (demand rules item depth) (λ e t q. demand_keeps rules P k item depth e t q) (item.requests d) [] s p)

-- What neither a teardown nor a set-up changes, no demand changes.
pub record Unseen {L : Language} {A : Type 0} (rules : Rules L) (f : SessionState L → A) : Type 0 where
  pub down : (i : LiveInstance L) (s : SessionState L) → f (down rules i s).state ≡ f s
  pub born : (bases : List ℕ) (i : LiveInstance L) (w : L.World) (s : SessionState L) → f (born bases i w s).state ≡ f s
  pub world : (w : L.World) (s : SessionState L) → f (in_world w s) ≡ f s

unseen_keeps : {L : Language} {A : Type 0} (rules : Rules L) (f : SessionState L → A) (u : Unseen rules f) (a : A) → Keeps rules (λ (t : SessionState L). f t ≡ a)
unseen_keeps rules f u a = record { down = λ i s e. u.down i s ∙ e; born = λ bases i w s e. u.born bases i w s ∙ e; world = λ w s e. u.world w s ∙ e }

pub down_same : {L : Language} {A : Type 0} (rules : Rules L) (f : SessionState L → A) (u : Unseen rules f) (set : List (LiveInstance L)) (s : SessionState L) → f (down_all rules set s).state ≡ f s
down_same {L} rules f u set s = down_keeps rules (λ (t : SessionState L). f t ≡ f s) (unseen_keeps rules f u (f s)) set s refl

pub demand_same : {L : Language} {A : Type 0} (rules : Rules L) (f : SessionState L → A) (u : Unseen rules f) (item : Item) (depth d : ℕ) (s : SessionState L) → f (demand rules item depth d s).state ≡ f s
demand_same {L} rules f u item depth d s = demand_keeps rules (λ (t : SessionState L). f t ≡ f s) (unseen_keeps rules f u (f s)) item depth d s refl

abbrev pub seen : {L : Language} → ℕ → SessionState L → List Event
seen j s = calls_of j s.events

born_seen : {L : Language} (j : ℕ) (events : List Event) (bases : List ℕ) (i : LiveInstance L) (kept : SetUpEnd L) → calls_of j (events ++ event_of bases i kept ∷ []) ≡ calls_of j events
born_seen j events bases i (Value v) = filter-append (is_call j) events (event_of bases i (Value v) ∷ []) ∙ append-nil (calls_of j events)
born_seen j events bases i (Failure v) = filter-append (is_call j) events (event_of bases i (Failure v) ∷ []) ∙ append-nil (calls_of j events)

unseen : {L : Language} (rules : Rules L) (j : ℕ) → Unseen rules (λ (s : SessionState L). calls_of j s.events)
unseen rules j =
    record {
      down = λ i s. filter-append (is_call j) s.events (DownBegins i.order ∷ Down i.order (some_raised (torn_of rules i s.world).raised) ∷ []) ∙ append-nil (calls_of j s.events);
      born = λ bases i w s. born_seen j s.events bases i i.slot.kept;
      world = λ w s. refl;
    }

pub unseen_given : {L : Language} (rules : Rules L) → Unseen rules (λ (s : SessionState L). s.given)
unseen_given rules = record { down = λ i s. refl; born = λ bases i w s. refl; world = λ w s. refl }

next_seen : {L : Language} (j : ℕ) (rest : SessionState L → Step L) → ((s : SessionState L) → calls_of j (rest s).state.events ≡ calls_of j s.events) → (a : Answer L) (s : SessionState L) → calls_of j (demand_next rest a s).state.events ≡ calls_of j s.events
next_seen j rest law (Given i) s = law (with_grant i s)
next_seen j rest law (Refused es) s = refl

closure_seen : {L : Language} (rules : Rules L) (j : ℕ) (item : Item) (ds : List ℕ) (s : SessionState L) → calls_of j (demand_closure rules item ds s).state.events ≡ calls_of j s.events
closure_seen rules j item [] s = refl
closure_seen {L} rules j item (d ∷ ds) s =
    next_seen j (demand_closure rules item ds) (closure_seen rules j item ds) (demand rules item rules.depth d s).answer (demand rules item rules.depth d s).state
    ∙ demand_same rules (λ (t : SessionState L). calls_of j t.events) (unseen rules j) item rules.depth d s

by_seen : {L : Language} (rules : Rules L) (j : ℕ) (item : Item) (closure : Option (List ℕ)) (s : SessionState L) → calls_of j (set_up_by rules item closure s).state.events ≡ calls_of j s.events
by_seen rules j item None s = refl
by_seen rules j item (Some ds) s = closure_seen rules j item ds s

hooks_seen : {L : Language} (rules : Rules L) (j : ℕ) (phase : Phase) (item : Item) (next : Option ℕ) (built : SessionState L → Step L) → ((s : SessionState L) → calls_of j (built s).state.events ≡ calls_of j s.events) → (s : SessionState L) → calls_of j (in_hooks rules phase item next built s).state.events ≡ calls_of j s.events
hooks_seen {L} rules j phase item next built law s = in_hooks_keeps rules phase item next built (λ (t : SessionState L). calls_of j t.events ≡ calls_of j s.events) (λ t p. law t ∙ p) (λ w values objects t p. p) s refl

set_up_seen : {L : Language} (rules : Rules L) (j : ℕ) (item : Item) (s : SessionState L) → calls_of j (set_up_phase rules item s).state.events ≡ calls_of j s.events
set_up_seen rules j item s = hooks_seen rules j SetUp item None (set_up_item rules item) (by_seen rules j item item.closure) s

all_seen : {L : Language} (rules : Rules L) (j : ℕ) (set : List (LiveInstance L)) (s : SessionState L) → calls_of j (down_all rules set s).state.events ≡ calls_of j s.events
all_seen {L} rules j set s = down_same rules (λ (t : SessionState L). calls_of j t.events) (unseen rules j) set s

leave_seen : {L : Language} (rules : Rules L) (j : ℕ) (next : Option Item) (s : SessionState L) → calls_of j (leave rules next s).state.events ≡ calls_of j s.events
leave_seen rules j next s = all_seen rules j (not_on (chain_of next) s.live) (record (finalize_own rules s).state { given = []; left = true })

torn_seen : {L : Language} (rules : Rules L) (j : ℕ) (item : Item) (next : Option Item) (s : SessionState L) → calls_of j (torn_down rules item next s).state.events ≡ calls_of j s.events
torn_seen {L} rules j item next s =
    let r = in_hooks rules Teardown item (node_of next) (leave rules next) (record s { left = false }) in
    let e : calls_of j r.state.events ≡ calls_of j s.events = hooks_seen rules j Teardown item (node_of next) (leave rules next) (leave_seen rules j next) (record s { left = false }) in
    cond_law (λ (x : Step L). calls_of j x.state.events ≡ calls_of j s.events) r.state.left r (also_raised r.raised (leave rules next r.state)) e (leave_seen rules j next r.state ∙ e)

teardown_seen : {L : Language} (rules : Rules L) (j maxfail : ℕ) (item : Item) (items : List Item) (s : SessionState L) → calls_of j (teardown_phase rules maxfail item items s).events ≡ calls_of j s.events
teardown_seen {L} rules j maxfail item items s =
    let t = torn_down rules item (next_unless (has_reached maxfail s) items) s in
    let e : calls_of j t.state.events ≡ calls_of j s.events = torn_seen rules j item (next_unless (has_reached maxfail s) items) s in
    cond_law (λ (x : Step L). calls_of j x.state.events ≡ calls_of j s.events) (reaches maxfail (bad_behind rules Teardown item t)) (also_raised t.raised (down_all rules t.state.live t.state)) t
    (all_seen rules j t.state.live t.state ∙ e) e

-- a test changes nothing but its world and its request
pub record Untouched {L : Language} (s t : SessionState L) : Type 0 where
  pub live : t.live ≡ s.live
  pub next : t.next ≡ s.next
  pub events : t.events ≡ s.events

test_untouched : {L : Language} (rules : Rules L) (item : Item) (s : SessionState L) (values : Option (List L.Value)) (t : SessionState L) → Untouched s t → Untouched s (test_with rules item values t).state
test_untouched rules item s None t u = record { live = u.live; next = u.next; events = u.events }
test_untouched rules item s (Some values) t u = record { live = u.live; next = u.next; events = u.events }

pub call_untouched : {L : Language} (rules : Rules L) (item : Item) (s : SessionState L) → Untouched s (in_hooks rules Call item None (pyfunc_call rules item) s).state
call_untouched {L} rules item s =
    in_hooks_keeps rules Call item None (pyfunc_call rules item) (Untouched s) (λ t u. test_untouched rules item s (values_for t.given item.arguments) t u)
    (λ w values objects t u. record { live = u.live; next = u.next; events = u.events }) s (record { live = refl; next = refl; events = refl })

abbrev pub given_numbers : {L : Language} → SessionState L → List ℕ
given_numbers s = numbers_of s.given []

-- the call of an item adds its two events, or nothing
pub call_events : {L : Language} (rules : Rules L) (item : Item) (s : SessionState L) → (call_item rules item s).events ≡ s.events ++ CallBegins item.node (given_numbers s) ∷ CallEnds item.node ∷ []
call_events rules item s =
    ap (λ (x : List Event). x ++ CallEnds item.node ∷ []) (call_untouched rules item (emit (CallBegins item.node (given_numbers s)) s)).events
    ∙ append_assoc s.events (CallBegins item.node (given_numbers s) ∷ []) (CallEnds item.node ∷ [])

call_other : {L : Language} (rules : Rules L) (j : ℕ) (item : Item) (raised : List L.Thrown) (s : SessionState L) → (j ≡ item.node → ⊥) → calls_of j (call_after rules item raised s).events ≡ calls_of j s.events
call_other rules j item (x ∷ xs) s ne = refl
call_other rules j item [] s ne =
    let none : calls_of j (CallBegins item.node (given_numbers s) ∷ CallEnds item.node ∷ []) ≡ [] = rw (ne_eqb j item.node ne) in
    ap (calls_of j) (call_events rules item s) ∙ (filter-append (is_call j) s.events (CallBegins item.node (given_numbers s) ∷ CallEnds item.node ∷ [])
    ∙ (ap (λ (x : List Event). calls_of j s.events ++ x) none ∙ append-nil (calls_of j s.events)))

call_same : {L : Language} (rules : Rules L) (item : Item) (raised : List L.Thrown) (s : SessionState L) → calls_of item.node s.events ≡ [] → IsCalled (call_after rules item raised s).events item.node
call_same rules item (x ∷ xs) s e = inl e
call_same rules item [] s e =
    let own : calls_of item.node (CallBegins item.node (given_numbers s) ∷ CallEnds item.node ∷ []) ≡ CallBegins item.node (given_numbers s) ∷ CallEnds item.node ∷ [] = rw (eq-eqb item.node item.node refl) in
    inr (
      given_numbers s,
      ap (calls_of item.node) (call_events rules item s) ∙ (filter-append (is_call item.node) s.events (CallBegins item.node (given_numbers s) ∷ CallEnds item.node ∷ [])
          ∙ (ap (λ (x : List Event). x ++ calls_of item.node (CallBegins item.node (given_numbers s) ∷ CallEnds item.node ∷ [])) e ∙ own)),
    )

item_other : {L : Language} (rules : Rules L) (j maxfail : ℕ) (item : Item) (items : List Item) (s : SessionState L) → (j ≡ item.node → ⊥) → calls_of j (run_item rules maxfail item items s).events ≡ calls_of j s.events
item_other rules j maxfail item items s ne =
    let r = set_up_phase rules item (with_new_instance rules item s) in
    teardown_seen rules j maxfail item items (call_phase rules item r) ∙ (call_other rules j item r.raised r.state ne ∙ set_up_seen rules j item (with_new_instance rules item s))

called_along : (xs ys : List Event) (j : ℕ) → calls_of j ys ≡ calls_of j xs → IsCalled xs j → IsCalled ys j
called_along xs ys j e (inl q) = inl (e ∙ q)
called_along xs ys j e (inr q) = inr (q.0, e ∙ q.1)

item_own : {L : Language} (rules : Rules L) (maxfail : ℕ) (item : Item) (items : List Item) (s : SessionState L) → calls_of item.node s.events ≡ [] → IsCalled (run_item rules maxfail item items s).events item.node
item_own rules maxfail item items s e =
    let r = set_up_phase rules item (with_new_instance rules item s) in
    called_along (call_phase rules item r).events (run_item rules maxfail item items s).events item.node (teardown_seen rules item.node maxfail item items (call_phase rules item r))
    (call_same rules item r.raised r.state (set_up_seen rules item.node item (with_new_instance rules item s) ∙ e))

item_called : {L : Language} (rules : Rules L) (j maxfail : ℕ) (item : Item) (items : List Item) (s : SessionState L) → calls_of item.node s.events ≡ [] → IsCalled s.events j → IsCalled (run_item rules maxfail item items s).events j
item_called rules j maxfail item items s e c =
    elim (cases_eq j item.node) [
      | inl q ↦ subst (λ (x : ℕ). IsCalled (run_item rules maxfail item items s).events x) (sym q) (item_own rules maxfail item items s e)
      | inr ne ↦ called_along s.events (run_item rules maxfail item items s).events j (item_other rules j maxfail item items s ne) c
    ]

pub session_called : {L : Language} (rules : Rules L) (maxfail : ℕ) (items : List Item) (s : SessionState L) → Distinct items → ((item : Item) → IsMember item items → calls_of item.node s.events ≡ []) → ((j : ℕ) → IsCalled s.events j) → (j : ℕ) → IsCalled (session rules maxfail items s).events j
session_called rules maxfail [] s distinct fresh called j = called j
session_called {L} rules maxfail (item ∷ items) s distinct fresh called j =
    let t = run_item rules maxfail item items s in
    let c : (k : ℕ) → IsCalled t.events k = λ k. item_called rules k maxfail item items s (fresh item (inl refl)) (called k) in
    cond_law (λ (x : SessionState L). IsCalled x.events j) (has_reached maxfail t) t (session rules maxfail items t) (c j)
    (session_called rules maxfail items t distinct.1 (λ i m. item_other rules i.node maxfail item items s (distinct.0 i m) ∙ fresh i (inr m)) c j)
