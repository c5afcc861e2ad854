-- What stands for an item, and what a demand of it comes to.
use Rattle.std.proofs.Common.{◌≡◌, ℕ, zero, suc, Bool, true, false, cond, ◌&&◌, List, [], ◌∷◌, ◌++◌, inl, inr, refl, sym, ap, ◌∙◌, subst, append_assoc, eqb, eq-eqb, Option, Some, None}
use Rattle.std.proofs.lemmas.List.{append-nil}
use Rattle.session_types.specs.Members.{IsMember}
use Rattle.session_types.specs.declared.instance.Instance.{Instance}
use Rattle.session_types.specs.Live.{dependents, find, is_at}
use Rattle.session_rules.specs.World.{Item, Language, LiveInstance, Rules, SetUpEnd, Value, Failure}
use Rattle.session_rules.specs.Teardown.{Grant, SessionState, down_all}
use Rattle.session_rules.specs.Demand.{AllGiven, Answer, Given, Refused, Replies, Reply, answer_of, answer_with, ask_all, ask_next, call_fixture_func, demand, fresh, got, is_same, replace, replies, reply, settle}
use Rattle.session_rules.specs.Fits.{IsWellScoped}
use Rattle.setup_stack.specs.declared.answers.Answer.{Answer as CodeAnswer}
use Rattle.setup_stack.specs.Standing.{AllStand, IsNoted, IsCached, is_marked, stays}
use Rattle.setup_stack.specs.Views.{answer_in, grant_of}

module _ {S : Type 0} where
  -- what lives is found with more behind it
  pub find_more : (d node : ℕ) (live more : List (Instance S)) (i : Instance S) → find d node live ≡ Some i → find d node (live ++ more) ≡ Some i
  find_more d node [] more i e = (let z : None ≡ Some i = e in cc)
  find_more d node (x ∷ xs) more i e =
      elim (is_at d node x) as (λ b. cond b (Some x) (find d node xs) ≡ Some i → cond b (Some x) (find d node (xs ++ more)) ≡ Some i) [
        | true ↦ λ h. h
        | false ↦ λ h. find_more d node xs more i h
      ] e

  -- where none lived, the one that came up is found
  pub find_last : (d node : ℕ) (live : List (Instance S)) (i : Instance S) → find d node live ≡ None → is_at d node i ≡ true → find d node (live ++ i ∷ []) ≡ Some i
  find_last d node [] i e at = ap (λ (b : Bool). cond b (Some i) None) at
  find_last d node (x ∷ xs) i e at =
      elim (is_at d node x) as (λ b. cond b (Some x) (find d node xs) ≡ None → cond b (Some x) (find d node (xs ++ i ∷ [])) ≡ Some i) [
        | true ↦ λ h. (let z : Some x ≡ None = h in cc)
        | false ↦ λ h. find_last d node xs i h at
      ] e

same_self : (p : Option ℕ) → is_same p p ≡ true
same_self None = refl
same_self (Some x) = eq-eqb x x refl

both : (a b : Bool) → a ≡ true → b ≡ true → (a && b) ≡ true
both a b p q = ap (λ (x : Bool). x && b) p ∙ q

module _ {L : Language} (rules : Rules L) (item : Item) where
  -- what stands, stands with more behind it
  pub stands_more : (live more : List (LiveInstance L)) (d : ℕ) → IsCached rules item live d → IsCached rules item (live ++ more) d
  stands_more live more d h =
      record {
        one = h.one;
        value = h.value;
        found = find_more d (item.place d) live more h.one h.found;
        same = h.same;
        kept = h.kept;
        answers = λ s rest depth e ready. h.answers s (more ++ rest) depth (e ∙ append_assoc live more rest) ready;
      }

  -- a demand of it
  pub stood : (live more : List (LiveInstance L)) (s : SessionState L) (depth d : ℕ) (h : IsCached rules item live d) → s.live ≡ live ++ more → IsWellScoped rules item depth d → demand rules item depth d s ≡ reply (Given (got h.value h.one)) s
  stood live more s zero d h e ready = absurd ready
  stood live more s (suc depth) d h e ready = h.answers s more depth e (λ x m. (ready x m).1)

  -- demands of such
  all_stood : (live more : List (LiveInstance L)) (s : SessionState L) (depth : ℕ) → s.live ≡ live ++ more → (ds : List ℕ) → ((e : ℕ) → IsMember e ds → IsCached rules item live e) → ((e : ℕ) → IsMember e ds → IsWellScoped rules item depth e) → (given : List (Grant L)) → (gs : List (Grant L)) × (ask_all (demand rules item depth) ds given s ≡ replies (AllGiven gs) s)
  all_stood live more s depth e [] h ready given = (given, refl)
  all_stood live more s depth e (d ∷ ds) h ready given =
      let one = h d (inl refl) in
      let r = all_stood live more s depth e ds (λ x m. h x (inr m)) (λ x m. ready x (inr m)) (given ++ got one.value one.one ∷ []) in
      (r.0, ap (λ (q : Reply L). ask_next (ask_all (demand rules item depth) ds) given q.answer q.state) (stood live more s depth d one e (ready d (inl refl))) ∙ r.1)

  -- one that lives with its parameter and has a value stands, where all that it asks for stand
  pub now_stands : (live : List (LiveInstance L)) (d : ℕ) (one : LiveInstance L) (value : L.Value) → find d (item.place d) live ≡ Some one → is_same one.param (item.parameter d) ≡ true → one.slot.kept ≡ Value value → ((e : ℕ) → IsMember e (item.requests d) → IsCached rules item live e) → IsCached rules item live d
  now_stands live d one value found same kept all =
      record {
        one = one;
        value = value;
        found = found;
        same = same;
        kept = kept;
        answers = λ s more depth e ready.
            (let a = all_stood live more s depth e (item.requests d) all ready [] in
            ap (λ (r : Replies L). answer_with rules item d r) a.1
            ∙ (ap (λ (l : List (LiveInstance L)). settle rules item d a.0 (find d (item.place d) l) s) e
            ∙ (ap (λ (o : Option (LiveInstance L)). settle rules item d a.0 o s) (find_more d (item.place d) live more one found)
            ∙ (ap (λ (b : Bool). cond b (reply (answer_of one one.slot.kept) s) (replace rules item d a.0 (down_all rules (dependents one.order s.live) s))) same
            ∙ ap (λ (k : SetUpEnd L). reply (answer_of one k) s) kept))));
      }

  -- a settled one, where none went down
  pub record IsKept (d : ℕ) (s : SessionState L) (r : Reply L) : Type 0 where
    pub more : List (LiveInstance L)
    pub live : r.state.live ≡ s.live ++ more
    pub one : LiveInstance L
    pub found : find d (item.place d) r.state.live ≡ Some one
    pub same : is_same one.param (item.parameter d) ≡ true
    pub answer : r.answer ≡ answer_of one one.slot.kept

  kept_by : (d : ℕ) (given : List (Grant L)) (s : SessionState L) (o : Option (LiveInstance L)) → find d (item.place d) s.live ≡ o → stays item d o ≡ true → IsKept d s (settle rules item d given o s)
  kept_by d given s None e h =
      let m = call_fixture_func rules item d given s.instance (rules.ask item.node d (item.parameter d) s.world) in
      let i = fresh rules item d given s.next m.held in
      record {
        more = i ∷ [];
        live = refl;
        one = i;
        found = find_last d (item.place d) s.live i e (both (eqb d d) (eqb (item.place d) (item.place d)) (eq-eqb d d refl) (eq-eqb (item.place d) (item.place d) refl));
        same = same_self (item.parameter d);
        answer = refl;
      }
  kept_by d given s (Some i) e h =
      subst (λ (b : Bool). IsKept d s (cond b (reply (answer_of i i.slot.kept) s) (replace rules item d given (down_all rules (dependents i.order s.live) s)))) (sym h)
      (record {
        more = [];
        live = sym (append-nil s.live);
        one = i;
        found = e;
        same = h;
        answer = refl;
      })

  value_kept : (i : LiveInstance L) (k : SetUpEnd L) (g : Grant L) → answer_of i k ≡ Given g → (v : L.Value) × (k ≡ Value v)
  value_kept i (Value v) g e = (v, refl)
  value_kept i (Failure x) g e = (let z : Refused (x ∷ []) ≡ Given g = e in cc)

  -- what is marked behind it stands
  pub settled_stand : (d : ℕ) (given : List (Grant L)) (s t : SessionState L) (a : CodeAnswer L.Value L.Thrown) (marks after : List Bool)
      → AllStand rules item s.live marks
      → stays item d (find d (item.place d) s.live) ≡ true
      → answer_in rules a ≡ (settle rules item d given (find d (item.place d) s.live) s).answer
      → t ≡ (settle rules item d given (find d (item.place d) s.live) s).state
      → IsNoted (item.requests d) d a marks after
      → AllStand rules item t.live after
  settled_stand d given s t a marks after stand h ea et noted =
      let k = kept_by d given s (find d (item.place d) s.live) refl h in
      let el : t.live ≡ s.live ++ k.more = ap (λ (x : SessionState L). x.live) et ∙ k.live in
      let still : (e : ℕ) → is_marked marks e ≡ true → IsCached rules item t.live e = λ e m. subst (λ (l : List (LiveInstance L)). IsCached rules item l e) (sym el) (stands_more s.live k.more e (stand e m)) in
      λ e m.
      elim (noted e m) [
        | inl q ↦ still e q
        | inr q ↦
            (let g = q.1.0 in
            let v = value_kept k.one k.one.slot.kept (grant_of rules g) (sym k.answer ∙ (sym ea ∙ ap (answer_in rules) q.1.1)) in
            let one = now_stands t.live d k.one v.0 (ap (λ (x : SessionState L). find d (item.place d) x.live) et ∙ k.found) k.same v.1 (λ r n. still r (q.2 r n)) in
            subst (λ (x : ℕ). IsCached rules item t.live x) (sym q.0) one)
      ]

  -- what is found again where it stands
  pub again_same : (d : ℕ) (given : List (Grant L)) (s : SessionState L) (h : IsCached rules item s.live d) → settle rules item d given (find d (item.place d) s.live) s ≡ reply (Given (got h.value h.one)) s
  again_same d given s h =
      ap (λ (o : Option (LiveInstance L)). settle rules item d given o s) h.found
      ∙ (ap (λ (b : Bool). cond b (reply (answer_of h.one h.one.slot.kept) s) (replace rules item d given (down_all rules (dependents h.one.order s.live) s))) h.same
      ∙ ap (λ (k : SetUpEnd L). reply (answer_of h.one k) s) h.kept)

  -- a demand of it, by what is found again
  module _ (d : ℕ) (given : List (Grant L)) (s t : SessionState L) (a : CodeAnswer L.Value L.Thrown) (h : IsCached rules item s.live d) where
    pub unchanged : t ≡ (settle rules item d given (find d (item.place d) s.live) s).state → t ≡ s
    unchanged et = et ∙ ap (λ (r : Reply L). r.state) (again_same d given s h)

    pub demanded_again : answer_in rules a ≡ (settle rules item d given (find d (item.place d) s.live) s).answer → t ≡ (settle rules item d given (find d (item.place d) s.live) s).state → (depth : ℕ) → ((e : ℕ) → IsMember e (item.requests d) → IsWellScoped rules item depth e) → demand rules item (suc depth) d s ≡ reply (answer_in rules a) t
    demanded_again ea et depth ready =
        h.answers s [] depth (sym (append-nil s.live)) ready
        ∙ (ap (λ (x : Answer L). reply x s) (sym (ea ∙ ap (λ (r : Reply L). r.answer) (again_same d given s h)))
        ∙ ap (λ (x : SessionState L). reply (answer_in rules a) x) (sym (unchanged et)))

    pub settled_again : answer_in rules a ≡ (settle rules item d given (find d (item.place d) s.live) s).answer → t ≡ (settle rules item d given (find d (item.place d) s.live) s).state → (depth : ℕ) → IsWellScoped rules item depth d → demand rules item depth d s ≡ reply (answer_in rules a) t
    settled_again ea et zero ready = absurd ready
    settled_again ea et (suc depth) ready = demanded_again ea et depth (λ x m. (ready x m).1)

  -- what stands, stands where nothing changed
  pub stand_same : (s t : SessionState L) (marks : List Bool) → t ≡ s → AllStand rules item s.live marks → AllStand rules item t.live marks
  stand_same s t marks e h = subst (λ (x : SessionState L). AllStand rules item x.live marks) (sym e) h

  -- none is marked
  pub none_stand : (live : List (LiveInstance L)) (marks : List Bool) → marks ≡ [] → AllStand rules item live marks
  none_stand live marks e d m = (let z : false ≡ true = subst (λ (l : List Bool). is_marked l d ≡ true) e m in cc)
