-- One comes up, or fails to: the calls of the code, put together.
use Rattle.std.proofs.Common.{◌≡◌, ℕ, ◌+◌, List, [], ◌∷◌, ◌++◌, refl, sym, ap, ◌∙◌, Option}
use Rattle.std.proofs.lemmas.List.{map-append}
use Rattle.session_types.specs.declared.instance.Instance.{Instance}
use Rattle.session_types.specs.declared.scope.Scope.{Scope}
use Rattle.session_types.specs.declared.journal.Event.{Event}
use Rattle.session_rules.specs.World.{Language, Rules, Item, LiveInstance}
use Rattle.session_rules.specs.Teardown.{Grant}
use Rattle.session_rules.specs.Demand.{NewInstance, Reply, answer_of, call_fixture_func, event_of, fresh, kept_of, instance_reply, numbers_of, set_up}
use Rattle.fixture_instances.specs.declared.ends.SetUpEnd.{SetUpEnd as KeptEnd}
use Rattle.fixture_instances.specs.declared.ends.SetUpEnd.TheVariants as kept
use Rattle.setup_stack.specs.declared.answers.Answer.{Answer as CodeAnswer}
use Rattle.fixture_instances.specs.declared.ends.CachedResult.{CachedResult}
use Rattle.setup_stack.specs.declared.stack.SetupStack.{SetupStack}
use Rattle.setup_stack.specs.Borne.{answer_with, birth_of, event_by, event_for}
use Rattle.setup_stack.specs.Making.{made_with}
use Rattle.setup_stack.specs.Views.{answer_in, stack_state}
use Rattle.fixture_instances.specs.Views.{live_instance, live_instances, set_up_end, slot_of, told_of}
use Rattle.setup_stack.proofs.States.{state_same}

answer_by : {L : Language} (rules : Rules L) (i : LiveInstance L) (k : KeptEnd L.Value L.Thrown) → answer_in rules (answer_with i.def i.order i.bases (told_of k)) ≡ answer_of i (set_up_end rules k)
answer_by rules i (kept.Value v) = refl
answer_by rules i (kept.Failure e) = refl

-- what is answered of an instance
pub answer_same : {L : Language} (rules : Rules L) (i : Instance (CachedResult L.Value L.Thrown L.Rest)) → answer_in rules (answer_with i.def i.order i.bases (told_of i.slot.kept)) ≡ answer_of (live_instance rules i) (set_up_end rules i.slot.kept)
answer_same rules i = answer_by rules (live_instance rules i) i.slot.kept

event_same_by : {L : Language} (rules : Rules L) (bases : List ℕ) (i : LiveInstance L) (k : KeptEnd L.Value L.Thrown) → event_by k (birth_of bases i) ≡ event_of bases i (set_up_end rules k)
event_same_by rules bases i (kept.Value v) = refl
event_same_by rules bases i (kept.Failure e) = refl

pub event_same : {L : Language} (rules : Rules L) (bases : List ℕ) (i : Instance (CachedResult L.Value L.Thrown L.Rest)) → event_for bases i ≡ event_of bases (live_instance rules i) (set_up_end rules i.slot.kept)
event_same rules bases i = event_same_by rules bases (live_instance rules i) i.slot.kept

pub record IsSetUp {L : Language} (rules : Rules L) (item : Item) (d : ℕ) (given : List (Grant L)) (w0 : L.World) (s0 : SetupStack L.Value L.Thrown L.Rest) (w1 : L.World) (s1 : SetupStack L.Value L.Thrown L.Rest) (a : CodeAnswer L.Value L.Thrown) : Type 0 where
  pub answer : answer_in rules a ≡ (set_up rules item d given (stack_state rules w0 s0)).answer
  pub state : stack_state rules w1 s1 ≡ (set_up rules item d given (stack_state rules w0 s0)).state

-- what the calls were given and gave
pub record Calls {L : Language} (rules : Rules L) (item : Item) (d : ℕ) (given : List (Grant L)) (i : Instance (CachedResult L.Value L.Thrown L.Rest)) (direct copy : List ℕ) (told : KeptEnd L.Value (List L.Thrown)) (next : ℕ) (own : Option L.Value) (w0 w1 : L.World) : Type 0 where
  pub made : made_with rules i.slot w1 ≡ call_fixture_func rules item d given own (rules.ask item.node d (item.parameter d) w0)
  pub told_is : told ≡ told_of i.slot.kept
  pub direct_is : direct ≡ numbers_of given []
  pub bases : i.bases ≡ kept_of given []
  pub copy_is : copy ≡ i.bases
  pub def : i.def ≡ d
  pub param : i.param ≡ item.parameter d
  pub node : i.node ≡ item.place d
  pub scope : i.scope ≡ rules.scope d
  pub order : i.order ≡ next

-- the instance is the one that the rules make
fresh_same : {L : Language} (rules : Rules L) (item : Item) (d : ℕ) (given : List (Grant L)) (i : Instance (CachedResult L.Value L.Thrown L.Rest)) (next : ℕ) → i.bases ≡ kept_of given [] → i.def ≡ d → i.param ≡ item.parameter d → i.node ≡ item.place d → i.scope ≡ rules.scope d → i.order ≡ next → live_instance rules i ≡ fresh rules item d given next (slot_of rules i.slot)
fresh_same {L} rules item d given i next eb ed ep en es eo =
    let build : ℕ → Option ℕ → ℕ → Scope → ℕ → List ℕ → LiveInstance L = λ d p n s o b. record { def = d; param = p; node = n; scope = s; order = o; bases = b; slot = slot_of rules i.slot } in
    ap (λ (x : ℕ). build x i.param i.node i.scope i.order i.bases) ed
    ∙ (ap (λ (x : Option ℕ). build d x i.node i.scope i.order i.bases) ep
    ∙ (ap (λ (x : ℕ). build d (item.parameter d) x i.scope i.order i.bases) en
    ∙ (ap (λ (x : Scope). build d (item.parameter d) (item.place d) x i.order i.bases) es
    ∙ (ap (λ (x : ℕ). build d (item.parameter d) (item.place d) (rules.scope d) x i.bases) eo
    ∙ ap (λ (x : List ℕ). build d (item.parameter d) (item.place d) (rules.scope d) next x) eb))))

pub was_set_up : {L : Language} (rules : Rules L) (item : Item) (d : ℕ) (given : List (Grant L)) (i : Instance (CachedResult L.Value L.Thrown L.Rest)) (direct copy : List ℕ) (told : KeptEnd L.Value (List L.Thrown)) (w0 w1 : L.World) (s0 s1 : SetupStack L.Value L.Thrown L.Rest)
    → Calls rules item d given i direct copy told s0.live.next s0.own w0 w1
    → s1.live.live ≡ s0.live.live ++ i ∷ []
    → s1.live.next ≡ s0.live.next + 1
    → s1.events ≡ s0.events ++ event_for direct i ∷ []
    → s1.given ≡ s0.given
    → s1.own ≡ s0.own
    → IsSetUp rules item d given w0 s0 w1 s1 (answer_with d s0.live.next copy told)
was_set_up {L} rules item d given i direct copy told w0 w1 s0 s1 k live next events gave own =
    let s = stack_state rules w0 s0 in
    let m = call_fixture_func rules item d given s0.own (rules.ask item.node d (item.parameter d) w0) in
    let f = live_instance rules i in
    let ef : f ≡ fresh rules item d given s0.live.next (slot_of rules i.slot) = fresh_same rules item d given i s0.live.next k.bases k.def k.param k.node k.scope k.order in
    let em : instance_reply rules item d given (made_with rules i.slot w1) s ≡ set_up rules item d given s = ap (λ (x : NewInstance L). instance_reply rules item d given x s) k.made in
    let g = fresh rules item d given s0.live.next (slot_of rules i.slot) in
    let ea : answer_in rules (answer_with d s0.live.next copy told) ≡ answer_of g (set_up_end rules i.slot.kept) =
    ap (λ (x : ℕ). answer_in rules (answer_with x s0.live.next copy told)) (sym k.def)
    ∙ (ap (λ (x : ℕ). answer_in rules (answer_with i.def x copy told)) (sym k.order)
    ∙ (ap (λ (x : List ℕ). answer_in rules (answer_with i.def i.order x told)) k.copy_is
    ∙ (ap (λ (x : KeptEnd L.Value (List L.Thrown)). answer_in rules (answer_with i.def i.order i.bases x)) k.told_is
    ∙ (answer_same rules i ∙ ap (λ (x : LiveInstance L). answer_of x (set_up_end rules i.slot.kept)) ef)))) in
    let el : live_instances rules s1.live.live ≡ live_instances rules s0.live.live ++ g ∷ [] =
    ap (live_instances rules) live ∙ (map-append (live_instance rules) s0.live.live (i ∷ []) ∙ ap (λ (x : LiveInstance L). live_instances rules s0.live.live ++ x ∷ []) ef) in
    let ev : s1.events ≡ s0.events ++ event_of (numbers_of given []) g (set_up_end rules i.slot.kept) ∷ [] =
    events
    ∙ (ap (λ (x : List ℕ). s0.events ++ event_for x i ∷ []) k.direct_is
    ∙ (ap (λ (x : Event). s0.events ++ x ∷ []) (event_same rules (numbers_of given []) i)
    ∙ ap (λ (x : LiveInstance L). s0.events ++ event_of (numbers_of given []) x (set_up_end rules i.slot.kept) ∷ []) ef)) in
    let es : stack_state rules w1 s1 ≡ (instance_reply rules item d given (made_with rules i.slot w1) s).state =
    state_same rules w1 w1 s1 (live_instances rules s0.live.live ++ g ∷ []) (s0.live.next + 1) (s0.events ++ event_of (numbers_of given []) g (set_up_end rules i.slot.kept) ∷ []) s0.given s0.own refl el next ev gave own in
    record {
      answer = ea ∙ ap (λ (x : Reply L). x.answer) em;
      state = es ∙ ap (λ (x : Reply L). x.state) em;
    }
