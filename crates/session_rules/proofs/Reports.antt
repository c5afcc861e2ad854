-- A session reports each item once, in order.
use Rattle.std.proofs.Common.{◌≡◌, ℕ, ◌+◌, Bool, true, false, cond, List, [], ◌∷◌, ◌++◌, length, drop, inl, inr, refl, sym, ap, ap₂, ◌∙◌, subst, append_assoc, arith, Option, None, Some, MatchBool}
use Rattle.std.proofs.lemmas.List.{append-nil}
use Rattle.session_rules.proofs.Hooked.{cond_law, in_hooks_keeps}
use Rattle.session_rules.proofs.Seen.{Keeps, demand_keeps, down_keeps}
use Rattle.session_rules.specs.Demand.{Answer, Given, Refused, demand, event_of, numbers_of}
use Rattle.session_types.specs.Live.{not_on}
use Rattle.session_rules.specs.Reports.{IsEnd, IsTestProtocol, IsSessionReport, Reported, bads, events_of}
use Rattle.session_rules.specs.Session.{all_down, as_count, bad_behind, call_after, call_item, chain_of, demand_closure, demand_next, emitted, end_of, phase_finished, finalize_own, has_reached, in_hooks, leave, next_unless, node_of, with_grant, with_new_instance, reaches, run_item, session, set_up_by, set_up_item, set_up_phase, initial_state, teardown_phase, telling, pyfunc_call, test_with, torn_down, values_for}
use Rattle.session_rules.specs.Teardown.{PhaseEnd, SessionState, Step, also_raised, down_all, emit, some_raised, torn_of}
use Rattle.session_rules.specs.World.{Call, Item, Language, LiveInstance, Phase, Rules, SetUp, Teardown}
use Rattle.session_types.specs.declared.journal.Event.{Event}
use Rattle.session_types.specs.declared.journal.Event.TheVariants.{CallBegins, CallEnds, Down, DownBegins}

-- what is appended to a list that was appended to
more_behind : {A : Type 0} (xs ys zs : List A) → (front : List A) × (ys ≡ xs ++ front) → (front : List A) × (ys ++ zs ≡ xs ++ front)
more_behind {A} xs ys zs m = (m.0 ++ zs, ap (λ (l : List A). l ++ zs) m.1 ∙ append_assoc xs m.0 zs)

-- no phase ended
record Quiet {L : Language} (s t : SessionState L) : Type 0 where
  ends : t.ends ≡ s.ends
  bad : t.bad ≡ s.bad
  told : t.told ≡ s.told
  longer : (more : List Event) × (t.events ≡ s.events ++ more)

still : {L : Language} (s t : SessionState L) → t.ends ≡ s.ends → t.bad ≡ s.bad → t.told ≡ s.told → t.events ≡ s.events → Quiet s t
still s t e b n v = record { ends = e; bad = b; told = n; longer = ([], v ∙ sym (append-nil s.events)) }

then_quiet : {L : Language} (s t u : SessionState L) → Quiet s t → Quiet t u → Quiet s u
then_quiet s t u p q =
    let m = more_behind s.events t.events q.longer.0 p.longer in
    record { ends = q.ends ∙ p.ends; bad = q.bad ∙ p.bad; told = q.told ∙ p.told; longer = (m.0, q.longer.1 ∙ m.1) }

quiet_keeps : {L : Language} (rules : Rules L) (s : SessionState L) → Keeps rules (Quiet s)
quiet_keeps rules s =
    record {
      down = λ i t q. record { ends = q.ends; bad = q.bad; told = q.told; longer = more_behind s.events t.events (DownBegins i.order ∷ Down i.order (some_raised (torn_of rules i t.world).raised) ∷ []) q.longer };
      born = λ bases i w t q. record { ends = q.ends; bad = q.bad; told = q.told; longer = more_behind s.events t.events (event_of bases i i.slot.kept ∷ []) q.longer };
      world = λ w t q. record { ends = q.ends; bad = q.bad; told = q.told; longer = q.longer };
    }

down_quiet : {L : Language} (rules : Rules L) (set : List (LiveInstance L)) (s : SessionState L) → Quiet s (down_all rules set s).state
down_quiet rules set s = down_keeps rules (Quiet s) (quiet_keeps rules s) set s (still s s refl refl refl refl)

demand_quiet : {L : Language} (rules : Rules L) (item : Item) (depth d : ℕ) (s : SessionState L) → Quiet s (demand rules item depth d s).state
demand_quiet rules item depth d s = demand_keeps rules (Quiet s) (quiet_keeps rules s) item depth d s (still s s refl refl refl refl)

hooks_quiet : {L : Language} (rules : Rules L) (phase : Phase) (item : Item) (next : Option ℕ) (built : SessionState L → Step L) → ((s : SessionState L) → Quiet s (built s).state) → (s : SessionState L) → Quiet s (in_hooks rules phase item next built s).state
hooks_quiet {L} rules phase item next built law s =
    in_hooks_keeps rules phase item next built (Quiet s) (λ t p. then_quiet s t (built t).state p (law t))
    (λ w values objects t p. record { ends = p.ends; bad = p.bad; told = p.told; longer = p.longer }) s (still s s refl refl refl refl)

next_quiet : {L : Language} (rest : SessionState L → Step L) → ((s : SessionState L) → Quiet s (rest s).state) → (s : SessionState L) (a : Answer L) (t : SessionState L) → Quiet s t → Quiet s (demand_next rest a t).state
next_quiet rest law s (Given i) t q = then_quiet s (with_grant i t) (rest (with_grant i t)).state (record { ends = q.ends; bad = q.bad; told = q.told; longer = q.longer }) (law (with_grant i t))
next_quiet rest law s (Refused es) t q = q

closure_quiet : {L : Language} (rules : Rules L) (item : Item) (ds : List ℕ) (s : SessionState L) → Quiet s (demand_closure rules item ds s).state
closure_quiet rules item [] s = still s s refl refl refl refl
closure_quiet rules item (d ∷ ds) s = next_quiet (demand_closure rules item ds) (closure_quiet rules item ds) s (demand rules item rules.depth d s).answer (demand rules item rules.depth d s).state (demand_quiet rules item rules.depth d s)

by_quiet : {L : Language} (rules : Rules L) (item : Item) (closure : Option (List ℕ)) (s : SessionState L) → Quiet s (set_up_by rules item closure s).state
by_quiet rules item None s = still s (set_up_by rules item None s).state refl refl refl refl
by_quiet rules item (Some ds) s = closure_quiet rules item ds s

test_quiet : {L : Language} (rules : Rules L) (item : Item) (values : Option (List L.Value)) (s : SessionState L) → Quiet s (test_with rules item values s).state
test_quiet rules item None s = still s (test_with rules item None s).state refl refl refl refl
test_quiet rules item (Some values) s = still s (test_with rules item (Some values) s).state refl refl refl refl

leave_quiet : {L : Language} (rules : Rules L) (next : Option Item) (s : SessionState L) → Quiet s (leave rules next s).state
leave_quiet {L} rules next s = (let r = down_quiet rules (not_on (chain_of next) s.live) (record (finalize_own rules s).state { given = []; left = true }) in record { ends = r.ends; bad = r.bad; told = r.told; longer = r.longer })

torn_quiet : {L : Language} (rules : Rules L) (item : Item) (next : Option Item) (s : SessionState L) → Quiet s (torn_down rules item next s).state
torn_quiet {L} rules item next s =
    let r = in_hooks rules Teardown item (node_of next) (leave rules next) (record s { left = false }) in
    let q = hooks_quiet rules Teardown item (node_of next) (leave rules next) (leave_quiet rules next) (record s { left = false }) in
    let e : Quiet s r.state = record { ends = q.ends; bad = q.bad; told = q.told; longer = q.longer } in
    cond_law (λ (x : Step L). Quiet s x.state) r.state.left r (also_raised r.raised (leave rules next r.state)) e (then_quiet s r.state (leave rules next r.state).state e (leave_quiet rules next r.state))

-- between phases: all events are those of phases that ended
pub record Whole {L : Language} (s : SessionState L) : Type 0 where
  pub journal : s.events ≡ events_of s.ends
  pub told : s.told ≡ length s.events

drop_front : {A : Type 0} (xs ys : List A) → drop (length xs) (xs ++ ys) ≡ ys
drop_front [] ys = refl
drop_front (x ∷ xs) ys = drop_front xs ys

events_push : {L : Language} (ends : List (PhaseEnd L)) (e : PhaseEnd L) → events_of (ends ++ e ∷ []) ≡ events_of ends ++ e.events
events_push [] e = append-nil e.events
events_push (x ∷ ends) e = ap (λ (l : List Event). x.events ++ l) (events_push ends e) ∙ sym (append_assoc x.events (events_of ends) e.events)

-- one phase that ended
abbrev count : {L : Language} → PhaseEnd L → ℕ
count {L} e = as_count (L.is_bad e.phase e.told)

pub record Adds {L : Language} (phase : Phase) (item : ℕ) (raised : List L.Thrown) (before after : SessionState L) : Type 0 where
  pub one : PhaseEnd L
  pub is : IsEnd phase item one
  pub raises : one.raised ≡ raised
  pub adds : after.ends ≡ before.ends ++ one ∷ []
  pub counts : after.bad ≡ before.bad + count one
  pub whole : Whole before → Whole after

ended_adds : {L : Language} (rules : Rules L) (phase : Phase) (item : Item) (s : SessionState L) (r : Step L) → Quiet s r.state → Adds phase item.node r.raised s (phase_finished rules phase item r).state
ended_adds {L} rules phase item s r q =
    let one : PhaseEnd L = end_of phase item (telling rules phase item r).told r in
    record {
      one = one;
      is = (refl, refl);
      raises = refl;
      adds = ap (λ (l : List (PhaseEnd L)). l ++ one ∷ []) q.ends;
      counts = ap (λ (n : ℕ). n + count one) q.bad;
      whole = λ w.
          (let own : one.events ≡ q.longer.0 = ap₂ (λ (n : ℕ) (l : List Event). drop n l) (q.told ∙ w.told) q.longer.1 ∙ drop_front s.events q.longer.0 in
          record {
            journal = q.longer.1 ∙ (ap₂ (λ (a b : List Event). a ++ b) w.journal (sym own)
                ∙ (sym (events_push s.ends one) ∙ ap (λ (l : List (PhaseEnd L)). events_of (l ++ one ∷ [])) (sym q.ends)));
            told = refl;
          });
    }

set_up_adds : {L : Language} (rules : Rules L) (item : Item) (s : SessionState L) → Adds SetUp item.node (set_up_phase rules item s).raised s (set_up_phase rules item s).state
set_up_adds rules item s = ended_adds rules SetUp item s (in_hooks rules SetUp item None (set_up_item rules item) s) (hooks_quiet rules SetUp item None (set_up_item rules item) (by_quiet rules item item.closure) s)

call_adds : {L : Language} (rules : Rules L) (item : Item) (s : SessionState L) → Adds Call item.node (in_hooks rules Call item None (pyfunc_call rules item) (emit (CallBegins item.node (numbers_of s.given [])) s)).raised s (call_item rules item s)
call_adds {L} rules item s =
    let t = emit (CallBegins item.node (numbers_of s.given [])) s in
    let r = in_hooks rules Call item None (pyfunc_call rules item) t in
    let q = hooks_quiet rules Call item None (pyfunc_call rules item) (λ u. test_quiet rules item (values_for u.given item.arguments) u) t in
    let p : Quiet s t = record { ends = refl; bad = refl; told = refl; longer = (CallBegins item.node (numbers_of s.given []) ∷ [], refl) } in
    let e : Quiet r.state (emit (CallEnds item.node) r.state) = record { ends = refl; bad = refl; told = refl; longer = (CallEnds item.node ∷ [], refl) } in
    ended_adds rules Call item s (emitted (CallEnds item.node) r) (then_quiet s r.state (emit (CallEnds item.node) r.state) (then_quiet s t r.state p q) e)

teardown_adds : {L : Language} (rules : Rules L) (maxfail : ℕ) (item : Item) (items : List Item) (s : SessionState L) → (raised : List L.Thrown) × Adds Teardown item.node raised s (teardown_phase rules maxfail item items s)
teardown_adds {L} rules maxfail item items s =
    let t = torn_down rules item (next_unless (has_reached maxfail s) items) s in
    let a = all_down rules maxfail item t in
    let e = torn_quiet rules item (next_unless (has_reached maxfail s) items) s in
    let q : Quiet s a.state =
    cond_law (λ (x : Step L). Quiet s x.state) (reaches maxfail (bad_behind rules Teardown item t)) (also_raised t.raised (down_all rules t.state.live t.state)) t
    (then_quiet s t.state (down_all rules t.state.live t.state).state e (down_quiet rules t.state.live t.state)) e in
    (a.raised, ended_adds rules Teardown item s a q)

-- the phases of an item are appended
pub record AddsItem {L : Language} (item : ℕ) (before after : SessionState L) : Type 0 where
  pub mine : List (PhaseEnd L)
  pub is : IsTestProtocol item mine
  pub adds : after.ends ≡ before.ends ++ mine
  pub counts : after.bad ≡ before.bad + bads mine
  pub whole : Whole before → Whole after

item_with : {L : Language} (rules : Rules L) (maxfail : ℕ) (item : Item) (items : List Item) (before : SessionState L) (raised : List L.Thrown) (s : SessionState L) → Adds SetUp item.node raised before s → AddsItem item.node before (teardown_phase rules maxfail item items (call_after rules item raised s))
item_with {L} rules maxfail item items before [] s a =
    let c = call_adds rules item s in
    let t = (teardown_adds rules maxfail item items (call_item rules item s)).1 in
    let p = a.counts in let q = c.counts in let r = t.counts in
    record {
      mine = a.one ∷ c.one ∷ t.one ∷ [];
      is = record { set_up = a.one; called = c.one ∷ []; torn = t.one; is_set_up = a.is; is_torn = t.is; is_called = inl (a.raises, (c.one, c.is, refl)); are = refl };
      adds = t.adds ∙ (ap (λ (l : List (PhaseEnd L)). l ++ t.one ∷ []) (c.adds ∙ ap (λ (l : List (PhaseEnd L)). l ++ c.one ∷ []) a.adds)
          ∙ (append_assoc (before.ends ++ a.one ∷ []) (c.one ∷ []) (t.one ∷ []) ∙ append_assoc before.ends (a.one ∷ []) (c.one ∷ t.one ∷ [])));
      counts = omega (arith, p, q, r);
      whole = λ w. t.whole (c.whole (a.whole w));
    }
item_with {L} rules maxfail item items before (x ∷ xs) s a =
    let t = (teardown_adds rules maxfail item items s).1 in
    let p = a.counts in let r = t.counts in
    record {
      mine = a.one ∷ t.one ∷ [];
      is = record { set_up = a.one; called = []; torn = t.one; is_set_up = a.is; is_torn = t.is; is_called = inr ((λ e. (let z : x ∷ xs ≡ [] = sym a.raises ∙ e in cc)), refl); are = refl };
      adds = t.adds ∙ (ap (λ (l : List (PhaseEnd L)). l ++ t.one ∷ []) a.adds ∙ append_assoc before.ends (a.one ∷ []) (t.one ∷ []));
      counts = omega (arith, p, r);
      whole = λ w. t.whole (a.whole w);
    }

item_adds : {L : Language} (rules : Rules L) (maxfail : ℕ) (item : Item) (items : List Item) (s : SessionState L) → AddsItem item.node s (run_item rules maxfail item items s)
item_adds rules maxfail item items s =
    let r = set_up_phase rules item (with_new_instance rules item s) in
    let a = set_up_adds rules item (with_new_instance rules item s) in
    item_with rules maxfail item items s r.raised r.state (record { one = a.one; is = a.is; raises = a.raises; adds = a.adds; counts = a.counts; whole = λ w. a.whole (record { journal = w.journal; told = w.told }) })

pub bads_append : {L : Language} (xs ys : List (PhaseEnd L)) → bads (xs ++ ys) ≡ bads xs + bads ys
bads_append [] ys = omega arith
bads_append (x ∷ xs) ys = (let e = bads_append xs ys in omega (arith, e))

-- what a session appends
pub record AddsReport {L : Language} (maxfail : ℕ) (items : List Item) (before after : SessionState L) : Type 0 where
  pub more : List (PhaseEnd L)
  pub adds : after.ends ≡ before.ends ++ more
  pub counts : after.bad ≡ before.bad + bads more
  pub whole : Whole before → Whole after
  pub reported : Reported maxfail before.bad items more

abbrev Behind : {L : Language} → ℕ → List Item → List (PhaseEnd L) → ℕ → Type 0
Behind maxfail items more bad = MatchBool (reaches maxfail bad) (more ≡ []) (Reported maxfail bad items more)

report_adds : {L : Language} (rules : Rules L) (maxfail : ℕ) (items : List Item) (s : SessionState L) → AddsReport maxfail items s (session rules maxfail items s)
report_adds rules maxfail [] s = record { more = []; adds = sym (append-nil s.ends); counts = omega arith; whole = λ w. w; reported = refl }
report_adds {L} rules maxfail (item ∷ items) s =
    let t = run_item rules maxfail item items s in
    let a = item_adds rules maxfail item items s in
    let r = report_adds rules maxfail items t in
    let p = a.counts in let q = r.counts in let b = bads_append a.mine r.more in
    let none : List (PhaseEnd L) = [] in
    elim (has_reached maxfail t) as (λ b. has_reached maxfail t ≡ b → AddsReport maxfail (item ∷ items) s (cond b t (session rules maxfail items t))) [
      | true ↦ λ e. record {
        more = a.mine;
        adds = a.adds;
        counts = a.counts;
        whole = a.whole;
        reported = (a.mine, [], sym (append-nil a.mine), a.is, subst (λ (n : ℕ). Behind maxfail items none n) p (subst (λ (c : Bool). MatchBool c (none ≡ none) (Reported maxfail t.bad items none)) (sym e) refl));
      }
      | false ↦ λ e. record {
        more = a.mine ++ r.more;
        adds = r.adds ∙ (ap (λ (l : List (PhaseEnd L)). l ++ r.more) a.adds ∙ append_assoc s.ends a.mine r.more);
        counts = omega (arith, p, q, b);
        whole = λ w. r.whole (a.whole w);
        reported = (a.mine, r.more, refl, a.is, subst (λ (n : ℕ). Behind maxfail items r.more n) p (subst (λ (c : Bool). MatchBool c (r.more ≡ []) (Reported maxfail t.bad items r.more)) (sym e) r.reported));
      }
    ] refl

pub session_reports : {L : Language} (rules : Rules L) (maxfail : ℕ) (items : List Item) (w : L.World) → IsSessionReport maxfail items (session rules maxfail items (initial_state w))
session_reports {L} rules maxfail items w =
    let s = session rules maxfail items (initial_state w) in
    let r = report_adds rules maxfail items (initial_state w) in
    let c : s.bad ≡ bads r.more = (let e = r.counts in omega (arith, e)) in
    record { reported = subst (λ (l : List (PhaseEnd L)). Reported maxfail 0 items l) (sym r.adds) r.reported; counted = c ∙ ap (λ (l : List (PhaseEnd L)). bads l) (sym r.adds); journal = (r.whole (record { journal = refl; told = refl })).journal }
