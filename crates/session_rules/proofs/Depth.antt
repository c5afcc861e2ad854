-- Any depth that is enough gives the same.
use Rattle.std.proofs.Common.{◌≡◌, ℕ, zero, suc, true, false, cond, subst, Option, None, Some, List, [], ◌∷◌, ◌++◌, inl, inr, refl, ap, ◌∙◌}
use Rattle.session_rules.specs.Demand.{AllGiven, Answer, JointAnswer, Given, OneRefused, Refused, Replies, Reply, answer_of, answer_with, ask_all, ask_next, call_fixture_func, demand, fresh, is_same, replace, set_up_after, settle, with_arguments}
use Rattle.session_types.specs.Members.{IsMember}
use Rattle.session_rules.specs.Fits.{IsWellScoped}
use Rattle.session_types.specs.Live.{dependents, find}
use Rattle.session_rules.specs.Teardown.{Grant, SessionState, down_all}
use Rattle.session_rules.specs.World.{Failure, Item, SetUpEnd, Language, LiveInstance, Rules, Value}

next_same : {L : Language} (r q : List (Grant L) → SessionState L → Replies L) → ((given : List (Grant L)) (s : SessionState L) → r given s ≡ q given s) → (given : List (Grant L)) (a : Answer L) (s : SessionState L) → ask_next r given a s ≡ ask_next q given a s
next_same r q same given (Given i) s = same (given ++ i ∷ []) s
next_same r q same given (Refused es) s = refl

all_same : {L : Language} (ask and : ℕ → SessionState L → Reply L) (ds : List ℕ) → ((d : ℕ) → IsMember d ds → (s : SessionState L) → ask d s ≡ and d s) → (given : List (Grant L)) (s : SessionState L) → ask_all ask ds given s ≡ ask_all and ds given s
all_same ask and [] same given s = refl
all_same {L} ask and (d ∷ ds) same given s =
    next_same (ask_all ask ds) (ask_all and ds) (all_same ask and ds (λ e m. same e (inr m))) given (ask d s).answer (ask d s).state
    ∙ ap (λ (x : Reply L). ask_next (ask_all and ds) given x.answer x.state) (same d (inl refl) s)

pub demand_same : {L : Language} (rules : Rules L) (item : Item) (m n d : ℕ) (s : SessionState L) → IsWellScoped rules item m d → IsWellScoped rules item n d → demand rules item m d s ≡ demand rules item n d s
demand_same rules item zero n d s g h = absurd g
demand_same rules item (suc m) zero d s g h = absurd h
demand_same {L} rules item (suc m) (suc n) d s g h =
    ap (λ (x : Replies L). answer_with rules item d x) (all_same (demand rules item m) (demand rules item n) (item.requests d) (λ e k t. demand_same rules item m n e t (g e k).1 (h e k).1) [] s)

-- A REFUSAL TELLS

abbrev Tells : {L : Language} → Answer L → Type 0
Tells (Given i) = Unit {0}
Tells (Refused es) = es ≡ [] → ⊥

abbrev TellsAll : {L : Language} → JointAnswer L → Type 0
TellsAll (AllGiven is) = Unit {0}
TellsAll (OneRefused es) = es ≡ [] → ⊥

kept_tells : {L : Language} (i : LiveInstance L) (kept : SetUpEnd L) → Tells (answer_of i kept)
kept_tells i (Value v) = tt
kept_tells i (Failure e) = λ q. (let z : e ∷ [] ≡ [] = q in cc)

after_tells : {L : Language} (rules : Rules L) (item : Item) (d : ℕ) (given : List (Grant L)) (raised : List L.Thrown) (s : SessionState L) → Tells (set_up_after rules item d given raised s).answer
after_tells rules item d given [] s = (let m = call_fixture_func rules item d given s.instance (rules.ask item.node d (item.parameter d) s.world) in kept_tells (fresh rules item d given s.next m.held) m.held.kept)
after_tells rules item d given (x ∷ xs) s = λ q. (let z : x ∷ xs ≡ [] = q in cc)

settle_tells : {L : Language} (rules : Rules L) (item : Item) (d : ℕ) (given : List (Grant L)) (o : Option (LiveInstance L)) (s : SessionState L) → Tells (settle rules item d given o s).answer
settle_tells rules item d given None s = after_tells rules item d given [] s
settle_tells {L} rules item d given (Some i) s =
    let r = down_all rules (dependents i.order s.live) s in
    elim (is_same i.param (item.parameter d)) as (λ b. Tells (cond b (record { answer = answer_of i i.slot.kept; state = s }) (replace rules item d given r)).answer) [
      | true ↦ kept_tells i i.slot.kept
      | false ↦ after_tells rules item d given r.raised r.state
    ]

with_tells : {L : Language} (rules : Rules L) (item : Item) (d : ℕ) (a : JointAnswer L) (s : SessionState L) → TellsAll a → Tells (with_arguments rules item d a s).answer
with_tells rules item d (AllGiven given) s t = settle_tells rules item d given (find d (item.place d) s.live) s
with_tells rules item d (OneRefused es) s t = t

next_tells : {L : Language} (rest : List (Grant L) → SessionState L → Replies L) → ((given : List (Grant L)) (s : SessionState L) → TellsAll (rest given s).answers) → (given : List (Grant L)) (a : Answer L) (s : SessionState L) → Tells a → TellsAll (ask_next rest given a s).answers
next_tells rest law given (Given i) s t = law (given ++ i ∷ []) s
next_tells rest law given (Refused es) s t = t

all_tell : {L : Language} (ask : ℕ → SessionState L → Reply L) → ((d : ℕ) (s : SessionState L) → Tells (ask d s).answer) → (ds : List ℕ) (given : List (Grant L)) (s : SessionState L) → TellsAll (ask_all ask ds given s).answers
all_tell ask law [] given s = tt
all_tell ask law (d ∷ ds) given s = next_tells (ask_all ask ds) (all_tell ask law ds) given (ask d s).answer (ask d s).state (law d s)

tells : {L : Language} (rules : Rules L) (item : Item) (depth d : ℕ) (s : SessionState L) → Tells (demand rules item depth d s).answer
tells rules item zero d s = λ q. (let z : (rules.fault item.node s.world).thrown ∷ [] ≡ [] = q in cc)
tells rules item (suc depth) d s =
    let r = ask_all (demand rules item depth) (item.requests d) [] s in
    with_tells rules item d r.answers r.state (all_tell (demand rules item depth) (λ e t. tells rules item depth e t) (item.requests d) [] s)

pub refusal_tells : {L : Language} (rules : Rules L) (item : Item) (depth d : ℕ) (s : SessionState L) → (demand rules item depth d s).answer ≡ Refused [] → ⊥
refusal_tells {L} rules item depth d s e = (let z : Tells {L = L} (Refused []) = subst (λ (a : Answer L). Tells a) e (tells rules item depth d s) in z refl)
