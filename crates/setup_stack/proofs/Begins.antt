-- A definition's function is called, and one that lives is asked: the calls of the code, put together.
use Rattle.std.proofs.Common.{◌≡◌, ℕ, List, sym, ap, ◌∙◌, map, Option, Some, None}
use Rattle.std.specs.Option.{option_map}
use Rattle.session_types.specs.declared.instance.Instance.{Instance}
use Rattle.session_types.specs.Live.{instance_by_number}
use Rattle.session_rules.specs.World.{BodyEnd, Item, Language, BodyOutcome, Rules}
use Rattle.session_rules.specs.Demand.{Answer, answer_of, call_fixture_func, making_of, values_of}
use Rattle.fixture_instances.specs.declared.ends.SetUpEnd.{SetUpEnd as KeptEnd}
use Rattle.fixture_instances.specs.declared.ends.BodyEnd.{BodyEnd as CodeEnd}
use Rattle.setup_stack.specs.declared.answers.Grant.{Grant as CodeGrant}
use Rattle.fixture_instances.specs.declared.ends.CachedResult.{CachedResult}
use Rattle.setup_stack.specs.Borne.{answer_with}
use Rattle.fixture_instances.specs.Joined.{with_slot}
use Rattle.setup_stack.specs.Making.{made_with}
use Rattle.setup_stack.specs.Views.{answer_in, grants_of}
use Rattle.fixture_instances.specs.Views.{body_end, live_instance, set_up_end, told_of}
use Rattle.setup_stack.proofs.Births.{answer_same}
use Rattle.setup_stack.proofs.Givens.{values_same}

pub begun_is : {L : Language} (rules : Rules L) (item : Item) (d : ℕ) (gs : List (CodeGrant L.Value)) (own : Option L.Value) (w0 w1 w2 w3 : L.World) (request : Option L.Value) (end : CodeEnd L.Value L.Thrown L.Rest) (values : List L.Value) (held : CachedResult L.Value L.Thrown L.Rest)
    → values ≡ map (λ (g : CodeGrant L.Value). g.value) gs
    → request ≡ (rules.ask item.node d (item.parameter d) w0).request
    → w1 ≡ (rules.ask item.node d (item.parameter d) w0).world
    → body_end rules end ≡ (rules.begin item.node d (item.parameter d) own values request w1).how
    → w2 ≡ (rules.begin item.node d (item.parameter d) own values request w1).world
    → made_with rules held w3 ≡ making_of rules d request (body_end rules end) w2
    → made_with rules held w3 ≡ call_fixture_func rules item d (grants_of rules gs) own (rules.ask item.node d (item.parameter d) w0)
begun_is {L} rules item d gs own w0 w1 w2 w3 request end values held ev er ew eh eb em =
    let a = rules.ask item.node d (item.parameter d) w0 in
    let call : Option L.Value → List L.Value → L.World → BodyOutcome L = λ r vs w. rules.begin item.node d (item.parameter d) own vs r w in
    let b = call request values w1 in
    em
    ∙ (ap (λ (h : BodyEnd L). making_of rules d request h w2) eh
    ∙ (ap (λ (w : L.World). making_of rules d request b.how w) eb
    ∙ (ap (λ (r : Option L.Value). making_of rules d r (call r values w1).how (call r values w1).world) er
    ∙ (ap (λ (vs : List L.Value). making_of rules d a.request (call a.request vs w1).how (call a.request vs w1).world) (ev ∙ sym (values_same rules gs))
    ∙ ap (λ (w : L.World). making_of rules d a.request (call a.request (values_of (grants_of rules gs)) w).how (call a.request (values_of (grants_of rules gs)) w).world) ew))))

found_by : {L : Language} (rules : Rules L) (o : Option (Instance (CachedResult L.Value L.Thrown L.Rest))) (got : Instance ℕ) (h : CachedResult L.Value L.Thrown L.Rest) (copy : List ℕ) (told : KeptEnd L.Value (List L.Thrown))
    → option_map (with_slot got.slot) o ≡ Some got
    → option_map (λ (k : Instance (CachedResult L.Value L.Thrown L.Rest)). k.slot) o ≡ Some h
    → told ≡ told_of h.kept
    → copy ≡ got.bases
    → option_map (λ (i : Instance (CachedResult L.Value L.Thrown L.Rest)). answer_of (live_instance rules i) (set_up_end rules i.slot.kept)) o ≡ Some (answer_in rules (answer_with got.def got.order copy told))
found_by rules None got h copy told eg eh et ec = (let z : None ≡ Some got = eg in cc)
found_by {L} rules (Some i) got h copy told eg eh et ec =
    let z : with_slot got.slot i ≡ got = (let q : Some (with_slot got.slot i) ≡ Some got = eg in cc) in
    let s : i.slot ≡ h = (let q : Some i.slot ≡ Some h = eh in cc) in
    ap (λ (x : Answer L). Some x)
    (sym (answer_same rules i)
    ∙ (ap (λ (x : CachedResult L.Value L.Thrown L.Rest). answer_in rules (answer_with i.def i.order i.bases (told_of x.kept))) s
    ∙ (ap (λ (x : KeptEnd L.Value (List L.Thrown)). answer_in rules (answer_with i.def i.order i.bases x)) (sym et)
    ∙ (ap (λ (x : Instance ℕ). answer_in rules (answer_with x.def x.order x.bases told)) z
    ∙ ap (λ (x : List ℕ). answer_in rules (answer_with got.def got.order x told)) (sym ec)))))

pub found_is : {L : Language} (rules : Rules L) (n : ℕ) (live : List (Instance (CachedResult L.Value L.Thrown L.Rest))) (got : Instance ℕ) (h : CachedResult L.Value L.Thrown L.Rest) (copy : List ℕ) (told : KeptEnd L.Value (List L.Thrown))
    → option_map (with_slot got.slot) (instance_by_number n live) ≡ Some got
    → option_map (λ (k : Instance (CachedResult L.Value L.Thrown L.Rest)). k.slot) (instance_by_number n live) ≡ Some h
    → told ≡ told_of h.kept
    → copy ≡ got.bases
    → option_map (λ (i : Instance (CachedResult L.Value L.Thrown L.Rest)). answer_of (live_instance rules i) (set_up_end rules i.slot.kept)) (instance_by_number n live) ≡ Some (answer_in rules (answer_with got.def got.order copy told))
found_is rules n live got h copy told eg eh et ec = found_by rules (instance_by_number n live) got h copy told eg eh et ec
