-- Demands and teardowns pass over what they don't look at.
use Rattle.std.proofs.Common.{◌≡◌, ℕ, zero, suc, true, false, cond, List, [], ◌∷◌, ◌++◌, refl, ap, ◌∙◌, Option, Some, None}
use Rattle.session_types.specs.Live.{dependents, down_order, find, instance_by_number, instance_numbers}
use Rattle.session_rules.specs.World.{Item, Language, LiveInstance, Rules}
use Rattle.session_rules.specs.Teardown.{Grant, SessionState, Step, down_all, down_more, down_one}
use Rattle.session_rules.specs.Demand.{Answer, JointAnswer, AllGiven, Given, OneRefused, Refused, Replies, Reply, answer_of, answer_with, ask_all, ask_next, demand, fault_reply, is_same, replace, replies, reply, set_up, set_up_after, settle, with_arguments}
use Rattle.setup_stack.specs.Passing.{AreAsked, over, over_reply, over_step}

module _ {L : Language} (rules : Rules L) (s : SessionState L) where
  one_over : (o : Option (LiveInstance L)) (t : SessionState L) → down_one rules o (over s t) ≡ over_step s (down_one rules o t)
  one_over None t = refl
  one_over (Some i) t = refl

  pub more_over : (ns : List ℕ) (raised : List L.Thrown) (t : SessionState L) → down_more rules ns raised (over s t) ≡ over_step s (down_more rules ns raised t)
  more_over [] raised t = refl
  more_over (n ∷ ns) raised t =
      ap (λ (r : Step L). down_more rules ns (raised ++ r.raised) r.state) (one_over (instance_by_number n t.live) t)
      ∙ more_over ns (raised ++ (down_one rules (instance_by_number n t.live) t).raised) (down_one rules (instance_by_number n t.live) t).state

  pub all_over : (set : List (LiveInstance L)) (t : SessionState L) → down_all rules set (over s t) ≡ over_step s (down_all rules set t)
  all_over set t = more_over (instance_numbers (down_order set)) [] t

  module _ (item : Item) where
    after_over : (d : ℕ) (given : List (Grant L)) (raised : List L.Thrown) (t : SessionState L) → set_up_after rules item d given raised (over s t) ≡ over_reply s (set_up_after rules item d given raised t)
    after_over d given [] t = refl
    after_over d given (x ∷ xs) t = refl

    settle_over : (d : ℕ) (given : List (Grant L)) (o : Option (LiveInstance L)) (t : SessionState L) → settle rules item d given o (over s t) ≡ over_reply s (settle rules item d given o t)
    settle_over d given None t = refl
    settle_over d given (Some i) t =
        let r = down_all rules (dependents i.order t.live) t in
        let q : replace rules item d given (down_all rules (dependents i.order t.live) (over s t)) ≡ over_reply s (replace rules item d given r) =
        ap (λ (x : Step L). replace rules item d given x) (all_over (dependents i.order t.live) t) ∙ after_over d given r.raised r.state in
        elim (is_same i.param (item.parameter d)) as (λ b. cond b (reply (answer_of i i.slot.kept) (over s t)) (replace rules item d given (down_all rules (dependents i.order t.live) (over s t))) ≡ over_reply s (cond b (reply (answer_of i i.slot.kept) t) (replace rules item d given r))) [
          | true ↦ refl
          | false ↦ q
        ]

    over_replies : Replies L → Replies L
    over_replies r = replies r.answers (over s r.state)

    next_over : (rest other : List (Grant L) → SessionState L → Replies L) → ((given : List (Grant L)) (t : SessionState L) → rest given (over s t) ≡ replies (other given t).answers (over s (other given t).state)) → (given : List (Grant L)) (a : Answer L) (t : SessionState L) → ask_next rest given a (over s t) ≡ replies (ask_next other given a t).answers (over s (ask_next other given a t).state)
    next_over rest other law given (Given i) t = law (given ++ i ∷ []) t
    next_over rest other law given (Refused es) t = refl

    asked_over : (ask : ℕ → SessionState L → Reply L) → ((d : ℕ) (t : SessionState L) → ask d (over s t) ≡ over_reply s (ask d t)) → (ds : List ℕ) (given : List (Grant L)) (t : SessionState L) → ask_all ask ds given (over s t) ≡ replies (ask_all ask ds given t).answers (over s (ask_all ask ds given t).state)
    asked_over ask law [] given t = refl
    asked_over ask law (d ∷ ds) given t =
        ap (λ (r : Reply L). ask_next (ask_all ask ds) given r.answer r.state) (law d t)
        ∙ next_over (ask_all ask ds) (ask_all ask ds) (asked_over ask law ds) given (ask d t).answer (ask d t).state

    with_over : (d : ℕ) (a : JointAnswer L) (t : SessionState L) → with_arguments rules item d a (over s t) ≡ over_reply s (with_arguments rules item d a t)
    with_over d (AllGiven given) t = settle_over d given (find d (item.place d) t.live) t
    with_over d (OneRefused es) t = refl

    pub demand_over : (depth d : ℕ) (t : SessionState L) → demand rules item depth d (over s t) ≡ over_reply s (demand rules item depth d t)
    demand_over zero d t = refl
    demand_over (suc depth) d t =
        let r = ask_all (demand rules item depth) (item.requests d) [] t in
        ap (λ (x : Replies L). answer_with rules item d x) (asked_over (demand rules item depth) (demand_over depth) (item.requests d) [] t)
        ∙ with_over d r.answers r.state

module _ {L : Language} (rules : Rules L) (one other : Item) (same : AreAsked one other) where
  set_up_alike : (d : ℕ) (given : List (Grant L)) (s : SessionState L) → set_up rules one d given s ≡ set_up rules other d given s
  set_up_alike d given s =
      let build : ℕ → Option ℕ → ℕ → Reply L = λ n p q. set_up rules (record one { node = n; parameter = λ k. p; place = λ k. q }) d given s in
      ap (λ (n : ℕ). build n (one.parameter d) (one.place d)) same.node
      ∙ (ap (λ (p : Option ℕ). build other.node p (one.place d)) (same.parameter d)
      ∙ ap (λ (q : ℕ). build other.node (other.parameter d) q) (same.place d))

  after_alike : (d : ℕ) (given : List (Grant L)) (raised : List L.Thrown) (s : SessionState L) → set_up_after rules one d given raised s ≡ set_up_after rules other d given raised s
  after_alike d given [] s = set_up_alike d given s
  after_alike d given (x ∷ xs) s = refl

  settle_alike : (d : ℕ) (given : List (Grant L)) (o : Option (LiveInstance L)) (s : SessionState L) → settle rules one d given o s ≡ settle rules other d given o s
  settle_alike d given None s = set_up_alike d given s
  settle_alike d given (Some i) s =
      let r = down_all rules (dependents i.order s.live) s in
      ap (λ (p : Option ℕ). cond (is_same i.param p) (reply (answer_of i i.slot.kept) s) (replace rules one d given r)) (same.parameter d)
      ∙ ap (λ (x : Reply L). cond (is_same i.param (other.parameter d)) (reply (answer_of i i.slot.kept) s) x) (after_alike d given r.raised r.state)

  with_alike : (d : ℕ) (a : JointAnswer L) (s : SessionState L) → with_arguments rules one d a s ≡ with_arguments rules other d a s
  with_alike d (AllGiven given) s =
      ap (λ (n : ℕ). settle rules one d given (find d n s.live) s) (same.place d) ∙ settle_alike d given (find d (other.place d) s.live) s
  with_alike d (OneRefused es) s = refl

  next_alike : (rest and : List (Grant L) → SessionState L → Replies L) → ((given : List (Grant L)) (t : SessionState L) → rest given t ≡ and given t) → (given : List (Grant L)) (a : Answer L) (t : SessionState L) → ask_next rest given a t ≡ ask_next and given a t
  next_alike rest and law given (Given i) t = law (given ++ i ∷ []) t
  next_alike rest and law given (Refused es) t = refl

  asked_alike : (ask and : ℕ → SessionState L → Reply L) → ((d : ℕ) (t : SessionState L) → ask d t ≡ and d t) → (ds : List ℕ) (given : List (Grant L)) (t : SessionState L) → ask_all ask ds given t ≡ ask_all and ds given t
  asked_alike ask and law [] given t = refl
  asked_alike ask and law (d ∷ ds) given t =
      ap (λ (r : Reply L). ask_next (ask_all ask ds) given r.answer r.state) (law d t)
      ∙ next_alike (ask_all ask ds) (ask_all and ds) (asked_alike ask and law ds) given (and d t).answer (and d t).state

  pub demand_alike : (depth d : ℕ) (s : SessionState L) → demand rules one depth d s ≡ demand rules other depth d s
  demand_alike zero d s = ap (λ (n : ℕ). fault_reply (rules.fault n s.world) s) same.node
  demand_alike (suc depth) d s =
      ap (λ (ds : List ℕ). answer_with rules one d (ask_all (demand rules one depth) ds [] s)) (same.requests d)
      ∙ (ap (λ (r : Replies L). answer_with rules one d r) (asked_alike (demand rules one depth) (demand rules other depth) (demand_alike depth) (other.requests d) [] s)
      ∙ with_alike d (ask_all (demand rules other depth) (other.requests d) [] s).answers (ask_all (demand rules other depth) (other.requests d) [] s).state)
