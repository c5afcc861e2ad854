-- What was given is there: the definition is found, replaced or made.
use Rattle.std.proofs.Common.{◌≡◌, ℕ, Bool, true, false, cond, List, [], ◌∷◌, refl, sym, ap, ◌∙◌, Option, Some, None}
use Rattle.std.specs.Option.{option_map}
use Rattle.session_types.specs.declared.instance.Instance.{Instance}
use Rattle.session_types.specs.Live.{dependents, find, instance_number, instance_by_number}
use Rattle.session_rules.specs.World.{Item, Language, LiveInstance, Rules}
use Rattle.session_rules.specs.Teardown.{Grant, SessionState, Step, down_all, some_raised, session_step}
use Rattle.session_rules.specs.Demand.{Answer, Refused, Reply, answer_of, is_same, replace, reply, set_up, set_up_after, settle}
use Rattle.live_chains.specs.Chained.{RisingBy}
use Rattle.setup_stack.specs.declared.answers.Answer.{Answer as CodeAnswer}
use Rattle.fixture_instances.specs.declared.ends.CachedResult.{CachedResult}
use Rattle.fixture_instances.specs.Joined.{with_slot}
use Rattle.setup_stack.specs.Standing.{stays}
use Rattle.setup_stack.specs.Views.{answer_in}
use Rattle.fixture_instances.specs.Views.{live_instance, live_instances, set_up_end, slot_of}
use Rattle.setup_stack.proofs.Finds.{found, numbered_in}
use Rattle.fixture_instances.proofs.Slots.{find_dress}

pub record IsHere {L : Language} (rules : Rules L) (d node n : ℕ) (live : List (Instance (CachedResult L.Value L.Thrown L.Rest))) : Type 0 where
  pub one : Instance (CachedResult L.Value L.Thrown L.Rest)
  pub found : find d node (live_instances rules live) ≡ Some (live_instance rules one)
  pub numbered : instance_by_number n live ≡ Some one
  pub order : one.order ≡ n

pub here : {L : Language} (rules : Rules L) (d node n : ℕ) (live : List (Instance (CachedResult L.Value L.Thrown L.Rest))) → option_map instance_number (find d node live) ≡ Some n → RisingBy instance_number live → IsHere rules d node n live
here {L} rules d node n live e rising =
    let f = found d node n live e in
    record {
      one = f.one;
      found = find_dress (λ (k : Instance (CachedResult L.Value L.Thrown L.Rest)). slot_of rules k.slot) d node live ∙ ap (λ (o : Option (Instance (CachedResult L.Value L.Thrown L.Rest))). option_map (live_instance rules) o) f.found;
      numbered = numbered_in n live f.one rising f.there f.number;
      order = f.number;
    }

-- none lives on its node
pub none_here : {L : Language} (rules : Rules L) (d node : ℕ) (live : List (Instance (CachedResult L.Value L.Thrown L.Rest))) → find d node live ≡ None → find d node (live_instances rules live) ≡ None
none_here {L} rules d node live e = find_dress (λ (k : Instance (CachedResult L.Value L.Thrown L.Rest)). slot_of rules k.slot) d node live ∙ ap (λ (o : Option (Instance (CachedResult L.Value L.Thrown L.Rest))). option_map (live_instance rules) o) e

no_number : {S : Type 0} (o : Option (Instance S)) → None ≡ option_map instance_number o → o ≡ None
no_number None e = refl
no_number (Some i) e = (let z : None ≡ Some i.order = e in cc)

pub not_found : {S : Type 0} (d node : ℕ) (live : List (Instance S)) → None ≡ option_map instance_number (find d node live) → find d node live ≡ None
not_found d node live e = no_number (find d node live) e

mapped : {A B : Type 0} (f : A → B) (o : Option A) (a : A) (b : B) → o ≡ Some a → option_map f o ≡ Some b → f a ≡ b
mapped f o a b e q = (let z : Some (f a) ≡ Some b = sym (ap (option_map f) e) ∙ q in cc)

-- the parameter that was looked at is that of the one that lives
pub same_param : {V E R : Type 0} (n : ℕ) (live : List (Instance (CachedResult V E R))) (i : Instance (CachedResult V E R)) (got : Instance ℕ) → instance_by_number n live ≡ Some i → option_map (with_slot got.slot) (instance_by_number n live) ≡ Some got → got.param ≡ i.param
same_param n live i got e q = (let z = mapped (with_slot got.slot) (instance_by_number n live) i got e q in ap (λ (k : Instance ℕ). k.param) (sym z))

-- with the same parameter it answers
pub found_same : {L : Language} (rules : Rules L) (item : Item) (d n : ℕ) (given : List (Grant L)) (live : List (Instance (CachedResult L.Value L.Thrown L.Rest))) (s : SessionState L) (a : CodeAnswer L.Value L.Thrown) (h : IsHere rules d (item.place d) n live) → is_same h.one.param (item.parameter d) ≡ true → option_map (λ (i : Instance (CachedResult L.Value L.Thrown L.Rest)). answer_of (live_instance rules i) (set_up_end rules i.slot.kept)) (instance_by_number n live) ≡ Some (answer_in rules a) → settle rules item d given (find d (item.place d) (live_instances rules live)) s ≡ reply (answer_in rules a) s
found_same {L} rules item d n given live s a h same q =
    let x = live_instance rules h.one in
    let e : answer_of x (set_up_end rules h.one.slot.kept) ≡ answer_in rules a = mapped (λ (i : Instance (CachedResult L.Value L.Thrown L.Rest)). answer_of (live_instance rules i) (set_up_end rules i.slot.kept)) (instance_by_number n live) h.one (answer_in rules a) h.numbered q in
    ap (λ (o : Option (LiveInstance L)). settle rules item d given o s) h.found
    ∙ (ap (λ (b : Bool). cond b (reply (answer_of x (set_up_end rules h.one.slot.kept)) s) (replace rules item d given (down_all rules (dependents h.one.order s.live) s))) same
    ∙ ap (λ (y : Answer L). reply y s) e)

-- with another parameter it is replaced
pub found_other : {L : Language} (rules : Rules L) (item : Item) (d n : ℕ) (given : List (Grant L)) (live : List (Instance (CachedResult L.Value L.Thrown L.Rest))) (s : SessionState L) (h : IsHere rules d (item.place d) n live) → is_same h.one.param (item.parameter d) ≡ false → settle rules item d given (find d (item.place d) (live_instances rules live)) s ≡ replace rules item d given (down_all rules (dependents n s.live) s)
found_other {L} rules item d n given live s h other =
    let x = live_instance rules h.one in
    ap (λ (o : Option (LiveInstance L)). settle rules item d given o s) h.found
    ∙ (ap (λ (b : Bool). cond b (reply (answer_of x (set_up_end rules h.one.slot.kept)) s) (replace rules item d given (down_all rules (dependents h.one.order s.live) s))) other
    ∙ ap (λ (k : ℕ). replace rules item d given (down_all rules (dependents k s.live) s)) h.order)

refused_after : {L : Language} (rules : Rules L) (item : Item) (d : ℕ) (given : List (Grant L)) (raised : List L.Thrown) (s : SessionState L) → some_raised raised ≡ true → set_up_after rules item d given raised s ≡ reply (Refused raised) s
refused_after rules item d given [] s e = (let z : false ≡ true = e in cc)
refused_after rules item d given (x ∷ xs) s e = refl

made_after : {L : Language} (rules : Rules L) (item : Item) (d : ℕ) (given : List (Grant L)) (raised : List L.Thrown) (s : SessionState L) → some_raised raised ≡ false → set_up_after rules item d given raised s ≡ set_up rules item d given s
made_after rules item d given [] s e = refl
made_after rules item d given (x ∷ xs) s e = (let z : true ≡ false = e in cc)

-- the teardowns raised: these exceptions are the answer
pub replace_refused : {L : Language} (rules : Rules L) (item : Item) (d : ℕ) (given : List (Grant L)) (raised : List L.Thrown) (s : SessionState L) (r : Step L) → session_step raised s ≡ r → some_raised raised ≡ true → replace rules item d given r ≡ reply (Refused raised) s
replace_refused {L} rules item d given raised s r e some = ap (λ (x : Step L). replace rules item d given x) (sym e) ∙ refused_after rules item d given raised s some

-- they raised nothing: another is set up
pub replace_made : {L : Language} (rules : Rules L) (item : Item) (d : ℕ) (given : List (Grant L)) (raised : List L.Thrown) (s : SessionState L) (r : Step L) → session_step raised s ≡ r → some_raised raised ≡ false → replace rules item d given r ≡ set_up rules item d given s
replace_made {L} rules item d given raised s r e none = ap (λ (x : Step L). replace rules item d given x) (sym e) ∙ made_after rules item d given raised s none

pub refused_answer : {L : Language} (rules : Rules L) (item : Item) (d : ℕ) (given : List (Grant L)) (raised : List L.Thrown) (s : SessionState L) (r : Step L) → session_step raised s ≡ r → some_raised raised ≡ true → Refused raised ≡ (replace rules item d given r).answer
refused_answer {L} rules item d given raised s r e some = ap (λ (x : Reply L). x.answer) (sym (replace_refused rules item d given raised s r e some))

pub refused_state : {L : Language} (rules : Rules L) (item : Item) (d : ℕ) (given : List (Grant L)) (raised : List L.Thrown) (s : SessionState L) (r : Step L) → session_step raised s ≡ r → some_raised raised ≡ true → s ≡ (replace rules item d given r).state
refused_state {L} rules item d given raised s r e some = ap (λ (x : Reply L). x.state) (sym (replace_refused rules item d given raised s r e some))

pub made_answer : {L : Language} (rules : Rules L) (item : Item) (d : ℕ) (given : List (Grant L)) (raised : List L.Thrown) (s : SessionState L) (r : Step L) → session_step raised s ≡ r → some_raised raised ≡ false → (set_up rules item d given s).answer ≡ (replace rules item d given r).answer
made_answer {L} rules item d given raised s r e none = ap (λ (x : Reply L). x.answer) (sym (replace_made rules item d given raised s r e none))

pub made_state : {L : Language} (rules : Rules L) (item : Item) (d : ℕ) (given : List (Grant L)) (raised : List L.Thrown) (s : SessionState L) (r : Step L) → session_step raised s ≡ r → some_raised raised ≡ false → (set_up rules item d given s).state ≡ (replace rules item d given r).state
made_state {L} rules item d given raised s r e none = ap (λ (x : Reply L). x.state) (sym (replace_made rules item d given raised s r e none))

-- whether nothing goes down, as the code looks at it
pub stays_found : {V E R : Type 0} (item : Item) (d node n : ℕ) (live : List (Instance (CachedResult V E R))) (got : Instance ℕ) (p : Option ℕ) (b : Bool) → option_map instance_number (find d node live) ≡ Some n → RisingBy instance_number live → option_map (with_slot got.slot) (instance_by_number n live) ≡ Some got → p ≡ item.parameter d → b ≡ is_same got.param p → b ≡ stays item d (find d node live)
stays_found {V} {E} {R} item d node n live got p b e rising eg ep eb =
    let f = found d node n live e in
    let q = same_param n live f.one got (numbered_in n live f.one rising f.there f.number) eg in
    eb
    ∙ (ap (λ (x : Option ℕ). is_same x p) q
    ∙ (ap (λ (x : Option ℕ). is_same f.one.param x) ep
    ∙ ap (λ (o : Option (Instance (CachedResult V E R))). stays item d o) (sym f.found)))

stays_mapped : {L : Language} (rules : Rules L) (item : Item) (d : ℕ) (o : Option (Instance (CachedResult L.Value L.Thrown L.Rest))) → stays item d (option_map (live_instance rules) o) ≡ stays item d o
stays_mapped rules item d None = refl
stays_mapped rules item d (Some i) = refl

-- the same of the list that a session knows
pub stays_dressed : {L : Language} (rules : Rules L) (item : Item) (d node : ℕ) (live : List (Instance (CachedResult L.Value L.Thrown L.Rest))) → stays item d (find d node (live_instances rules live)) ≡ stays item d (find d node live)
stays_dressed {L} rules item d node live =
    ap (λ (o : Option (LiveInstance L)). stays item d o) (find_dress (λ (k : Instance (CachedResult L.Value L.Thrown L.Rest)). slot_of rules k.slot) d node live)
    ∙ stays_mapped rules item d (find d node live)
