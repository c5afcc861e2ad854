-- Every session's events are lawful.
use Rattle.std.proofs.Common.{nat_lt, nat_le, ◌&&◌, ◌≡◌, ℕ, zero, suc, ◌≤◌, Bool, true, false, cond, List, [], ◌∷◌, ◌++◌, inl, inr, refl, sym, ap, ◌∙◌, subst, eqb, arith, Option, None, Some}
use Rattle.std.proofs.lemmas.Bool.{cases_lt}
use Rattle.session_rules.proofs.Births.{AllTold, AllTold-grows, Ready, Told, born_told, came_up, found_told, is_last, numbers_of-In, ready}
use Rattle.session_rules.proofs.Closure.{closure_settled}
use Rattle.session_rules.proofs.Deaths.{all_off, book, cleared, doomed_all, doomed_dependents, doomed_not_on}
use Rattle.session_rules.proofs.Given.{Covered, CoveredAnswer, covered_answer, covered_down, covered_grows, covered_there, same_is}
use Rattle.session_rules.proofs.Holds.{Book, Grows, Grows-refl, Grows-trans, Holds, called}
use Rattle.session_rules.proofs.Hooked.{aside, in_hooks_keeps}
use Rattle.session_types.proofs.Lists.{In-append, In-left, In-right, and_both, empty, eqb_is}
use Rattle.session_types.proofs.Order.{In-down_order}
use Rattle.session_rules.proofs.Seen.{call_events, call_untouched, demand_same, down_same, given_numbers, session_called, unseen_given}
use Rattle.session_rules.specs.Demand.{AllGiven, Answer, JointAnswer, Given, NewInstance, OneRefused, Refused, Replies, Reply, answer_of, ask_all, ask_next, call_fixture_func, born, demand, fresh, got, is_same, instance_reply, numbers_of, replace, set_up_after, settle, with_arguments}
use Rattle.session_types.specs.Members.{IsMember}
use Rattle.session_rules.specs.Events.{Lawful}
use Rattle.session_rules.specs.Fits.{Distinct, HasFixtureClosure, FitsClosure, IsWellScoped}
use Rattle.session_types.specs.Live.{dependents, down_order, find, is_at, not_on}
use Rattle.session_types.specs.Scopes.{rank}
use Rattle.session_rules.specs.Session.{all_down, bad_behind, call_after, call_item, call_phase, chain_of, demand_closure, demand_next, down_off, phase_finished, finalize_own, has_reached, in_hooks, leave, next_unless, node_of, with_grant, with_new_instance, reaches, run_item, session, set_up_by, set_up_item, set_up_phase, initial_state, teardown_ended, teardown_phase, torn_down}
use Rattle.session_rules.specs.Teardown.{Grant, SessionState, Step, also_raised, down_all, emit, in_world, session_step}
use Rattle.session_rules.specs.World.{Failure, Item, SetUpEnd, Language, LiveInstance, Rules, SetUp, Teardown, Value}
use Rattle.session_types.specs.declared.journal.Event.TheVariants.{CallBegins, CallEnds}

pub record Good {L : Language} (rules : Rules L) (s : SessionState L) : Type 0 where
  pub holds : Holds (book s)
  pub scoped : (i : LiveInstance L) → IsMember i s.live → i.scope ≡ rules.scope i.def

pub record Goes {L : Language} (rules : Rules L) (item : Item) (s t : SessionState L) : Type 0 where
  pub good : Good rules t
  pub grows : Grows (book s) (book t)
  pub covers : (n : ℕ) → Covered item (book s) n → Covered item (book t) n

Goes-trans : {L : Language} (rules : Rules L) (item : Item) (s t u : SessionState L) → Goes rules item s t → Goes rules item t u → Goes rules item s u
Goes-trans rules item s t u g h = record { good = h.good; grows = Grows-trans (book s) (book t) (book u) g.grows h.grows; covers = λ n c. h.covers n (g.covers n c) }

Goes-refl : {L : Language} (rules : Rules L) (item : Item) (s : SessionState L) → Good rules s → Goes rules item s s
Goes-refl rules item s g = record { good = g; grows = Grows-refl (book s); covers = λ n c. c }

-- an instance with another parameter goes down, with all that depend on it
replace_goes : {L : Language} (rules : Rules L) (item : Item) (i : LiveInstance L) (s : SessionState L) → Good rules s → IsMember i s.live → is_same i.param (item.parameter i.def) ≡ false → Goes rules item s (down_all rules (dependents i.order s.live) s).state
replace_goes rules item i s g m other =
    let c = cleared rules (down_order (dependents i.order s.live)) [] s g.holds (doomed_dependents (book s) g.holds i.order) in
    record {
      good = record { holds = c.holds; scoped = λ j k. g.scoped j (c.left j k).0 };
      grows = c.grows;
      covers = λ n v. covered_down item (book s) (book (down_all rules (dependents i.order s.live) s).state) i g.holds m other c n v;
    }

-- what an answer tells
abbrev pub ToldAnswer : {L : Language} → Book L → ℕ → Answer L → Type 0
ToldAnswer b r (Given i) = Told b r i
ToldAnswer b r (Refused es) = Unit {0}

abbrev pub ToldAnswers : {L : Language} → Book L → ℕ → JointAnswer L → Type 0
ToldAnswers b r (AllGiven is) = AllTold b r is
ToldAnswers b r (OneRefused es) = Unit {0}

pub record Replied {L : Language} (rules : Rules L) (item : Item) (r : ℕ) (s : SessionState L) (q : Reply L) : Type 0 where
  pub goes : Goes rules item s q.state
  pub told : ToldAnswer (book q.state) r q.answer
  pub covered : CoveredAnswer item (book q.state) q.answer

pub record RepliedAll {L : Language} (rules : Rules L) (item : Item) (r : ℕ) (s : SessionState L) (q : Replies L) : Type 0 where
  pub goes : Goes rules item s q.state
  pub told : ToldAnswers (book q.state) r q.answers

Told-wider : {L : Language} (b : Book L) (q r : ℕ) (a : Answer L) → q ≤ r → ToldAnswer b q a → ToldAnswer b r a
Told-wider b q r (Given i) le t = record { up = t.up; keeps = t.keeps; scopes = λ j m k. (let l = t.scopes j m k in omega (arith, l, le)) }
Told-wider b q r (Refused es) le t = tt

all_push : {L : Language} (b : Book L) (r : ℕ) (is : List (Grant L)) (i : Grant L) → AllTold b r is → Told b r i → AllTold b r (is ++ i ∷ [])
all_push b r [] i ts t = (t, tt)
all_push b r (j ∷ is) i ts t = (ts.0, all_push b r is i ts.1 t)

next_law : {L : Language} (rules : Rules L) (item : Item) (r : ℕ) (rest : List (Grant L) → SessionState L → Replies L) → ((given : List (Grant L)) (s : SessionState L) → Good rules s → AllTold (book s) r given → RepliedAll rules item r s (rest given s)) → (s : SessionState L) (given : List (Grant L)) (a : Answer L) (t : SessionState L) → Goes rules item s t → AllTold (book t) r given → ToldAnswer (book t) r a → RepliedAll rules item r s (ask_next rest given a t)
next_law rules item r rest law s given (Given i) t g old told =
    let q = law (given ++ i ∷ []) t g.good (all_push (book t) r given i old told) in
    record { goes = Goes-trans rules item s t _ g q.goes; told = q.told }
next_law rules item r rest law s given (Refused es) t g old told = record { goes = g; told = tt }

all_law : {L : Language} (rules : Rules L) (item : Item) (r : ℕ) (ask : ℕ → SessionState L → Reply L) (ds : List ℕ) → ((d : ℕ) → IsMember d ds → (s : SessionState L) → Good rules s → Replied rules item r s (ask d s)) → (given : List (Grant L)) (s : SessionState L) → Good rules s → AllTold (book s) r given → RepliedAll rules item r s (ask_all ask ds given s)
all_law rules item r ask [] law given s g old = record { goes = Goes-refl rules item s g; told = old }
all_law rules item r ask (d ∷ ds) law given s g old =
    let q = law d (inl refl) s g in
    next_law rules item r (ask_all ask ds) (all_law rules item r ask ds (λ e m. law e (inr m))) s given (ask d s).answer (ask d s).state q.goes (AllTold-grows (book s) (book (ask d s).state) r given g.holds q.goes.grows old) q.told

born_answer : {L : Language} (b : Book L) (r : ℕ) (i : LiveInstance L) (kept : SetUpEnd L) → ((v : L.Value) → kept ≡ Value v → Told b r (got v i)) → ToldAnswer b r (answer_of i kept)
born_answer b r i (Value v) t = t v refl
born_answer b r i (Failure e) t = tt

born_law : {L : Language} (rules : Rules L) (item : Item) (bases : List ℕ) (i : LiveInstance L) (w : L.World) (s : SessionState L) → Good rules s → Ready (book s) bases i → i.scope ≡ rules.scope i.def → i.param ≡ item.parameter i.def → Replied rules item (rank (rules.scope i.def)) s (born bases i w s)
born_law {L} rules item bases i w s g ok e same =
    let c = came_up (book s) g.holds bases i ok in
    record {
      goes = record { good = record { holds = c.0; scoped = λ j m. elim (is_last s.live i j m) [ inl l ↦ g.scoped j l | inr q ↦ subst (λ (x : LiveInstance L). x.scope ≡ rules.scope x.def) (sym q) e ] }; grows = c.1; covers = λ n v. covered_grows item (book s) (book (born bases i w s).state) g.holds c.1 (λ j k. In-left j s.live (i ∷ []) k) n v };
      told = born_answer (book (born bases i w s).state) (rank (rules.scope i.def)) i i.slot.kept (λ v is. subst (λ (x : ℕ). Told (book (born bases i w s).state) x (got v i)) (ap rank e) (born_told (book s) g.holds bases i ok v is));
      covered = covered_answer item (book (born bases i w s).state) i i.slot.kept (inl (record { instance = i; member = In-right i s.live (i ∷ []) (inl refl); number = refl; parameter = same }));
    }

make_law : {L : Language} (rules : Rules L) (item : Item) (d : ℕ) (given : List (Grant L)) (m : NewInstance L) (s : SessionState L) → Good rules s → AllTold (book s) (rank (rules.scope d)) given → Replied rules item (rank (rules.scope d)) s (instance_reply rules item d given m s)
make_law rules item d given m s g told = (let i = fresh rules item d given s.next m.held in born_law rules item (numbers_of given []) i m.world s g (ready (book s) (rank (rules.scope d)) given i told refl refl refl) refl refl)

Replied-after : {L : Language} (rules : Rules L) (item : Item) (r : ℕ) (s t : SessionState L) (q : Reply L) → Goes rules item s t → Replied rules item r t q → Replied rules item r s q
Replied-after rules item r s t q g p = record { goes = Goes-trans rules item s t q.state g p.goes; told = p.told; covered = p.covered }

after_law : {L : Language} (rules : Rules L) (item : Item) (d : ℕ) (given : List (Grant L)) (raised : List L.Thrown) (s : SessionState L) → Good rules s → AllTold (book s) (rank (rules.scope d)) given → Replied rules item (rank (rules.scope d)) s (set_up_after rules item d given raised s)
after_law rules item d given [] s g told = make_law rules item d given (call_fixture_func rules item d given s.instance (rules.ask item.node d (item.parameter d) s.world)) s g told
after_law rules item d given (x ∷ xs) s g told = record { goes = Goes-refl rules item s g; told = tt; covered = tt }

pub found : {L : Language} (d node : ℕ) (live : List (LiveInstance L)) (i : LiveInstance L) → find d node live ≡ Some i → IsMember i live × (d ≡ i.def)
found d node [] i e = absurd cc
found {L} d node (j ∷ js) i e =
    elim (is_at d node j) as (λ b. is_at d node j ≡ b → cond b (Some j) (find d node js) ≡ Some i → IsMember i (j ∷ js) × (d ≡ i.def)) [
      | true ↦ λ q h. (let z : i ≡ j = cc in (inl z, eqb_is d j.def (and_both (eqb d j.def) (eqb node j.node) q).0 ∙ ap (λ (x : LiveInstance L). x.def) (sym z)))
      | false ↦ λ q h. (let r = found d node js i h in (inr r.0, r.1))
    ] refl e

settle_law : {L : Language} (rules : Rules L) (item : Item) (d : ℕ) (given : List (Grant L)) (o : Option (LiveInstance L)) (s : SessionState L) → find d (item.place d) s.live ≡ o → Good rules s → AllTold (book s) (rank (rules.scope d)) given → Replied rules item (rank (rules.scope d)) s (settle rules item d given o s)
settle_law rules item d given None s e g told = make_law rules item d given (call_fixture_func rules item d given s.instance (rules.ask item.node d (item.parameter d) s.world)) s g told
settle_law rules item d given (Some i) s e g told =
    let f = found d (item.place d) s.live i e in
    let h : rank i.scope ≡ rank (rules.scope d) = ap rank (g.scoped i f.0 ∙ ap rules.scope (sym f.1)) in
    elim (is_same i.param (item.parameter d)) as (λ b. is_same i.param (item.parameter d) ≡ b → Replied rules item (rank (rules.scope d)) s (cond b (record { answer = answer_of i i.slot.kept; state = s }) (replace rules item d given (down_all rules (dependents i.order s.live) s)))) [
      | true ↦ λ q. record {
        goes = Goes-refl rules item s g;
        told = born_answer (book s) (rank (rules.scope d)) i i.slot.kept (λ v is. subst (λ (x : ℕ). Told (book s) x (got v i)) h (found_told (book s) g.holds i f.0 v is));
        covered = covered_answer item (book s) i i.slot.kept (inl (record { instance = i; member = f.0; number = refl; parameter = same_is i.param (item.parameter d) q ∙ ap item.parameter f.1 }));
      }
      | false ↦ λ q. (let c = replace_goes rules item i s g f.0 (ap (λ (x : ℕ). is_same i.param (item.parameter x)) (sym f.1) ∙ q) in
          let r = down_all rules (dependents i.order s.live) s in
          Replied-after rules item (rank (rules.scope d)) s r.state _ c (after_law rules item d given r.raised r.state c.good (AllTold-grows (book s) (book r.state) (rank (rules.scope d)) given g.holds c.grows told)))
    ] refl

with_law : {L : Language} (rules : Rules L) (item : Item) (d : ℕ) (a : JointAnswer L) (s t : SessionState L) → Goes rules item s t → ToldAnswers (book t) (rank (rules.scope d)) a → Replied rules item (rank (rules.scope d)) s (with_arguments rules item d a t)
with_law rules item d (AllGiven given) s t g told = Replied-after rules item (rank (rules.scope d)) s t _ g (settle_law rules item d given (find d (item.place d) t.live) t refl g.good told)
with_law rules item d (OneRefused es) s t g told = record { goes = g; told = tt; covered = tt }

pub demand_law : {L : Language} (rules : Rules L) (item : Item) (depth d : ℕ) (s : SessionState L) → IsWellScoped rules item depth d → Good rules s → Replied rules item (rank (rules.scope d)) s (demand rules item depth d s)
demand_law rules item zero d s fine g = absurd fine
demand_law rules item (suc depth) d s fine g =
    let r = rank (rules.scope d) in
    let law : (e : ℕ) → IsMember e (item.requests d) → (t : SessionState _) → Good rules t → Replied rules item r t (demand rules item depth e t) =
    λ e m t h. (let q = demand_law rules item depth e t (fine e m).1 h in record { goes = q.goes; told = Told-wider (book (demand rules item depth e t).state) (rank (rules.scope e)) r (demand rules item depth e t).answer (fine e m).0 q.told; covered = q.covered }) in
    let a = all_law rules item r (demand rules item depth) (item.requests d) law [] s g tt in
    with_law rules item d (ask_all (demand rules item depth) (item.requests d) [] s).answers s (ask_all (demand rules item depth) (item.requests d) [] s).state a.goes a.told

-- ITEMS AND SESSIONS

good_again : {L : Language} (rules : Rules L) (s t : SessionState L) → Good rules s → s.live ≡ t.live → s.next ≡ t.next → s.events ≡ t.events → Good rules t
good_again {L} rules s t g e f h =
    let b : book s ≡ book t = cc in
    record { holds = subst (λ (x : Book L). Holds x) b g.holds; scoped = λ i m. g.scoped i (subst (λ (x : List (LiveInstance L)). IsMember i x) (sym e) m) }

-- a state in the middle of an item: what answered is covered
pub record Ok {L : Language} (rules : Rules L) (item : Item) (s : SessionState L) : Type 0 where
  pub good : Good rules s
  pub given : (g : Grant L) → IsMember g s.given → Covered item (book s) g.order

ok_again : {L : Language} (rules : Rules L) (item : Item) (s t : SessionState L) → Ok rules item s → s.live ≡ t.live → s.next ≡ t.next → s.events ≡ t.events → s.given ≡ t.given → Ok rules item t
ok_again {L} rules item s t o e f h k =
    let b : book s ≡ book t = cc in
    record {
      good = good_again rules s t o.good e f h;
      given = λ g m. subst (λ (x : Book L). Covered item x g.order) b (o.given g (subst (λ (x : List (Grant L)). IsMember g x) (sym k) m));
    }

noted_ok : {L : Language} (rules : Rules L) (item : Item) (i : Grant L) (s : SessionState L) → Ok rules item s → Covered item (book s) i.order → Ok rules item (with_grant i s)
noted_ok {L} rules item i s o c =
    record {
      good = good_again rules s (with_grant i s) o.good refl refl refl;
      given = λ g m. elim (In-append g s.given (i ∷ []) m) [
        | inl l ↦ o.given g l
        | inr r ↦ elim r [ inl e ↦ subst (λ (x : Grant L). Covered item (book s) x.order) (sym e) c | inr z ↦ absurd z ]
      ];
    }

abbrev KeepsOk : {L : Language} → Rules L → Item → (SessionState L → Step L) → Type 0
KeepsOk {L} rules item built = (s : SessionState L) → Ok rules item s → Ok rules item (built s).state

demand_next_law : {L : Language} (rules : Rules L) (item : Item) (rest : SessionState L → Step L) → KeepsOk rules item rest → (a : Answer L) (s : SessionState L) → Ok rules item s → CoveredAnswer item (book s) a → Ok rules item (demand_next rest a s).state
demand_next_law rules item rest law (Given i) s o c = law (with_grant i s) (noted_ok rules item i s o c)
demand_next_law rules item rest law (Refused es) s o c = o

closure_law : {L : Language} (rules : Rules L) (item : Item) (ds : List ℕ) → ((d : ℕ) → IsMember d ds → IsWellScoped rules item rules.depth d) → KeepsOk rules item (demand_closure rules item ds)
closure_law rules item [] fine s o = o
closure_law {L} rules item (d ∷ ds) fine s o =
    let q = demand_law rules item rules.depth d s (fine d (inl refl)) o.good in
    let t = (demand rules item rules.depth d s).state in
    let given_is : s.given ≡ t.given = sym (demand_same rules (λ (x : SessionState L). x.given) (unseen_given rules) item rules.depth d s) in
    demand_next_law rules item (demand_closure rules item ds) (closure_law rules item ds (λ e m. fine e (inr m))) (demand rules item rules.depth d s).answer t
    (record { good = q.goes.good; given = λ g m. q.goes.covers g.order (o.given g (subst (λ (x : List (Grant L)). IsMember g x) (sym given_is) m)) }) q.covered

set_up_by_law : {L : Language} (rules : Rules L) (item : Item) (closure : Option (List ℕ)) → FitsClosure rules item closure → KeepsOk rules item (set_up_by rules item closure)
set_up_by_law rules item None fits s o = ok_again rules item s (set_up_by rules item None s).state o refl refl refl refl
set_up_by_law rules item (Some ds) fits s o = closure_law rules item ds (closure_settled rules item ds fits) s o

set_up_law : {L : Language} (rules : Rules L) (item : Item) → HasFixtureClosure rules item → (s : SessionState L) → Ok rules item s → Ok rules item (set_up_phase rules item s).state
set_up_law {L} rules item fits s o =
    let h = in_hooks rules SetUp item None (set_up_item rules item) s in
    let k : Ok rules item h.state = in_hooks_keeps rules SetUp item None (set_up_item rules item) (Ok rules item) (set_up_by_law rules item item.closure fits) (λ w values objects t q. ok_again rules item t (aside w values objects t) q refl refl refl refl) s o in
    ok_again rules item h.state (set_up_phase rules item s).state k refl refl refl refl

covered_number : {L : Language} (rules : Rules L) (item : Item) (s : SessionState L) → Ok rules item s → (n : ℕ) → IsMember n (given_numbers s) → Covered item (book s) n
covered_number rules item s o n m =
    elim (numbers_of-In n s.given [] m) [
      | inl a ↦ subst (λ (x : ℕ). Covered item (book s) x) (sym a.number) (o.given a.instance a.member)
      | inr z ↦ absurd z
    ]

call_law : {L : Language} (rules : Rules L) (item : Item) (raised : List L.Thrown) (s : SessionState L) → Ok rules item s → Good rules (call_after rules item raised s)
call_law rules item (x ∷ xs) s o = o.good
call_law {L} rules item [] s o =
    let c = called (book s) item.node (given_numbers s) o.good.holds (λ n m. covered_there item (book s) o.good.holds n (covered_number rules item s o n m)) in
    let u = call_untouched rules item (emit (CallBegins item.node (given_numbers s)) s) in
    let t = record s { events = s.events ++ CallBegins item.node (given_numbers s) ∷ CallEnds item.node ∷ [] } in
    let good : Good rules t = record { holds = c.0; scoped = o.good.scoped } in
    good_again rules t (call_item rules item s) good (sym u.live) (sym u.next) (sym (call_events rules item s))

-- what is left where there is no next item
abbrev pub LeavesNone : {L : Language} → Option Item → List (LiveInstance L) → Type 0
LeavesNone None live = live ≡ []
LeavesNone (Some item) live = Unit {0}

pub record Left {L : Language} (rules : Rules L) (next : Option Item) (s : SessionState L) : Type 0 where
  pub good : Good rules s
  pub none : LeavesNone next s.live
  pub given : s.given ≡ []

left_again : {L : Language} (rules : Rules L) (next : Option Item) (s t : SessionState L) → Left rules next s → s.live ≡ t.live → s.next ≡ t.next → s.events ≡ t.events → s.given ≡ t.given → Left rules next t
left_again {L} rules next s t l e f h k = record { given = sym k ∙ l.given; good = good_again rules s t l.good e f h; none = subst (λ (x : List (LiveInstance L)). LeavesNone next x) e l.none }

down_off_law : {L : Language} (rules : Rules L) (next : Option Item) (r : Step L) → Good rules r.state → Left rules next (down_off rules (chain_of next) r).state
down_off_law {L} rules None r g =
    let s = record r.state { given = []; left = true } in
    let c = cleared rules (down_order (not_on [] s.live)) [] s g.holds (doomed_not_on (book s) g.holds []) in
    record {
      good = record { holds = c.holds; scoped = λ i m. g.scoped i (c.left i m).0 };
      none = empty (down_off rules [] r).state.live (λ i m. (c.left i m).1 (all_off s.live i (c.left i m).0));
      given = down_same rules (λ (x : SessionState L). x.given) (unseen_given rules) (not_on [] s.live) s;
    }
down_off_law {L} rules (Some item) r g =
    let s = record r.state { given = []; left = true } in
    let c = cleared rules (down_order (not_on item.chain s.live)) [] s g.holds (doomed_not_on (book s) g.holds item.chain) in
    record {
      good = record { holds = c.holds; scoped = λ i m. g.scoped i (c.left i m).0 };
      none = tt;
      given = down_same rules (λ (x : SessionState L). x.given) (unseen_given rules) (not_on item.chain s.live) s;
    }

leave_law : {L : Language} (rules : Rules L) (next : Option Item) (s : SessionState L) → Good rules s → Left rules next (leave rules next s).state
leave_law rules next s g = down_off_law rules next (finalize_own rules s) (good_again rules s (finalize_own rules s).state g refl refl refl)

-- in the hook call of a teardown
pub record Leaving {L : Language} (rules : Rules L) (next : Option Item) (s : SessionState L) : Type 0 where
  pub good : Good rules s
  pub reached : s.left ≡ true → Left rules next s

torn_law : {L : Language} (rules : Rules L) (item : Item) (next : Option Item) (s : SessionState L) → Good rules s → Left rules next (torn_down rules item next s).state
torn_law {L} rules item next s g =
    let t = record s { left = false } in
    let r = in_hooks rules Teardown item (node_of next) (leave rules next) t in
    let initial_state : Leaving rules next t = record { good = good_again rules s t g refl refl refl; reached = λ e. (let z : false ≡ true = e in cc) } in
    let p : Leaving rules next r.state =
    in_hooks_keeps rules Teardown item (node_of next) (leave rules next) (Leaving rules next)
    (λ u q. (let l = leave_law rules next u q.good in record { good = l.good; reached = λ e. l }))
    (λ w values objects u q. record { good = good_again rules u (aside w values objects u) q.good refl refl refl; reached = λ e. left_again rules next u (aside w values objects u) (q.reached e) refl refl refl refl }) t initial_state in
    elim r.state.left as (λ b. r.state.left ≡ b → Left rules next (cond b r (also_raised r.raised (leave rules next r.state))).state) [
      | true ↦ λ e. p.reached e
      | false ↦ λ e. leave_law rules next r.state p.good
    ] refl

-- behind the teardown of an item: all is down where maxfail has been reached
pub record Ended {L : Language} (rules : Rules L) (maxfail : ℕ) (next : Option Item) (s : SessionState L) : Type 0 where
  pub left : Left rules next s
  pub reached : has_reached maxfail s ≡ true → s.live ≡ []

still_none : {L : Language} (next : Option Item) (before after : List (LiveInstance L)) → ((i : LiveInstance L) → IsMember i after → IsMember i before) → LeavesNone next before → LeavesNone next after
still_none {L} None before after sub none = empty after (λ i m. (let z : IsMember i [] = subst (λ (x : List (LiveInstance L)). IsMember i x) none (sub i m) in z))
still_none (Some item) before after sub none = tt

teardown_ends : {L : Language} (rules : Rules L) (maxfail : ℕ) (item : Item) (next : Option Item) (r : Step L) → Left rules next r.state → Ended rules maxfail next (teardown_ended rules maxfail item r)
teardown_ends {L} rules maxfail item next r l =
    let d = down_all rules r.state.live r.state in
    let c = cleared rules (down_order r.state.live) [] r.state l.good.holds (doomed_all (book r.state) l.good.holds) in
    let none : d.state.live ≡ [] = empty d.state.live (λ i m. (c.left i m).1 (In-down_order r.state.live i (c.left i m).0)) in
    elim (reaches maxfail (bad_behind rules Teardown item r)) as (λ b. reaches maxfail (bad_behind rules Teardown item r) ≡ b → Ended rules maxfail next (phase_finished rules Teardown item (cond b (also_raised r.raised d) r)).state) [
      | true ↦ λ e. (let k : Left rules next d.state = record { good = record { holds = c.holds; scoped = λ i m. l.good.scoped i (c.left i m).0 }; none = still_none next r.state.live d.state.live (λ i m. (c.left i m).0) l.none; given = down_same rules (λ (x : SessionState L). x.given) (unseen_given rules) r.state.live r.state ∙ l.given } in
          record { left = left_again rules next d.state (phase_finished rules Teardown item (also_raised r.raised d)).state k refl refl refl refl; reached = λ q. none })
      | false ↦ λ e. record { left = left_again rules next r.state (phase_finished rules Teardown item r).state l refl refl refl refl; reached = λ q. (let z : true ≡ false = sym q ∙ e in cc) }
    ] refl

teardown_law : {L : Language} (rules : Rules L) (maxfail : ℕ) (item : Item) (items : List Item) (s : SessionState L) → Good rules s → Ended rules maxfail (next_unless (has_reached maxfail s) items) (teardown_phase rules maxfail item items s)
teardown_law {L} rules maxfail item items s g =
    let next = next_unless (has_reached maxfail s) items in
    teardown_ends rules maxfail item next (torn_down rules item next s) (torn_law rules item next s g)

last_none : (b : Bool) (items : List Item) → items ≡ [] → next_unless b items ≡ None
last_none true items e = refl
last_none false [] e = refl
last_none false (i ∷ is) e = cc

item_law : {L : Language} (rules : Rules L) (maxfail : ℕ) (item : Item) (items : List Item) (s : SessionState L) → HasFixtureClosure rules item → Good rules s → s.given ≡ [] → (next : Option Item) × Ended rules maxfail next (run_item rules maxfail item items s) × (items ≡ [] → next ≡ None)
item_law {L} rules maxfail item items s fits g none =
    let u = with_new_instance rules item s in
    let o : Ok rules item u = record { good = good_again rules s u g refl refl refl; given = λ n m. absurd (subst (λ (x : List (Grant L)). IsMember n x) none m) } in
    let r = set_up_phase rules item u in
    let c = call_law rules item r.raised r.state (set_up_law rules item fits u o) in
    let t = call_phase rules item r in
    (next_unless (has_reached maxfail t) items, teardown_law rules maxfail item items t c, last_none (has_reached maxfail t) items)

none_live : {L : Language} (next : Option Item) (live : List (LiveInstance L)) → next ≡ None → LeavesNone next live → live ≡ []
none_live None live e h = h
none_live (Some item) live e h = cc

pub session_law : {L : Language} (rules : Rules L) (maxfail : ℕ) (items : List Item) (s : SessionState L) → ((item : Item) → IsMember item items → HasFixtureClosure rules item) → Good rules s → s.given ≡ [] → (items ≡ [] → s.live ≡ []) → Good rules (session rules maxfail items s) × ((session rules maxfail items s).live ≡ [])
session_law rules maxfail [] s fits g clear none = (g, none refl)
session_law {L} rules maxfail (item ∷ items) s fits g clear none =
    let t = run_item rules maxfail item items s in
    let r = item_law rules maxfail item items s (fits item (inl refl)) g clear in
    elim (has_reached maxfail t) as (λ b. has_reached maxfail t ≡ b → Good rules (cond b t (session rules maxfail items t)) × ((cond b t (session rules maxfail items t)).live ≡ [])) [
      | true ↦ λ e. (r.1.left.good, r.1.reached e)
      | false ↦ λ e. session_law rules maxfail items t (λ i m. fits i (inr m)) r.1.left.good r.1.left.given (λ q. none_live r.0 t.live (r.2 q) r.1.left.none)
    ] refl

no_cut : {A : Type 0} (before : List A) (x : A) (after : List A) → [] ≡ before ++ x ∷ after → ⊥
no_cut [] x after e = cc
no_cut (b ∷ before) x after e = cc

pub start_good : {L : Language} (rules : Rules L) (w : L.World) → Good rules (initial_state w)
start_good rules w =
    record {
      holds = record {
        fair = record {
          directly = λ before after n e. absurd (no_cut before _ after e);
          bases = λ before after made e b m. elim e [ inl q ↦ absurd (no_cut before _ after q) | inr q ↦ absurd (no_cut before _ after q) ];
          order = λ before after n m e d. absurd (no_cut before _ after e);
          paired = λ before after item ns e. absurd (no_cut before _ after e);
          given = λ before after item ns e n m. absurd (no_cut before _ after e);
        };
        new = λ n l. refl;
        old = λ n l. absurd (omega (arith, l));
        rising = tt;
        low = λ i m. absurd m;
        keeps = λ i m k. absurd m;
        scopes = λ i j m q r. absurd m;
        bases = λ made c k base. elim c [ inl z ↦ absurd z | inr z ↦ absurd z ];
      };
      scoped = λ i m. absurd m;
    }

pub lawful_session : {L : Language} (rules : Rules L) (maxfail : ℕ) (items : List Item) (w : L.World) → ((item : Item) → IsMember item items → HasFixtureClosure rules item) → Distinct items → Lawful (session rules maxfail items (initial_state w)).events
lawful_session {L} rules maxfail items w fits distinct =
    let r = session_law rules maxfail items (initial_state w) fits (start_good rules w) refl (λ e. refl) in
    let s = session rules maxfail items (initial_state w) in
    record {
      fair = r.0.holds.fair;
      called = session_called rules maxfail items (initial_state w) distinct (λ i m. refl) (λ j. inl refl);
      whole = λ n. elim (cases_lt n s.next) [
        | inl l ↦ elim (r.0.holds.old n l) [
          | inl v ↦ (let z : IsMember v.instance [] = subst (λ (x : List (LiveInstance L)). IsMember v.instance x) r.1 v.member in absurd z)
          | inr g ↦ inr g.whole
        ]
        | inr ge ↦ inl (r.0.holds.new n ge)
      ];
    }
