-- The finalizers of a request, one after another.
use Rattle.std.proofs.Common.{◌≡◌, ◌∙◌, ◌<◌, ◌-◌, ℕ, zero, suc, true, List, [], ◌∷◌, ◌++◌, length, reverse, Option, Some, None, refl, sym, ap, arith}
use Rattle.std.proofs.lemmas.List.{append_assoc, append-nil, reverse-append, length-reverse}
use Rattle.std.specs.Prelude.{slice_get, slice_set, remove, option_map}
use Rattle.py_values.specs.Changes.{changed}
use Rattle.py_values.specs.declared.object.Obj.{Obj}
use Rattle.py_values.specs.declared.object.Obj.TheVariants as obj
use Rattle.py_values.specs.declared.object.RequestObj.{RequestObj}
use Rattle.py_values.specs.declared.value.Value.{Value}
use Rattle.py_values.specs.declared.value.Value.TheVariants as val
use Rattle.py_machine.specs.runner_values.Requests.{with_request, request_changed, closing, request_closed, finalizers_in, finalizers_of, latest_finalizer, earlier_finalizers, without_latest, finalizer_taken}
use Rattle.py_world.specs.World.{world_with_heap}
use Rattle.fixture_calls.specs.Asking.{finalizers_taken, spent_request}
use Rattle.py_machine.specs.source_meaning.Meaning.{SourceWorld}

-- ONE OBJECT CHANGED

changed_behind : (f : Obj → Obj) (o : Obj) (os : List Obj) (at : ℕ) (x : Option Obj) → changed f (suc at) (o ∷ os) x ≡ o ∷ changed f at os x
changed_behind f o os at None = refl
changed_behind f o os at (Some y) = refl

changed_twice : (f g : Obj → Obj) (at : ℕ) (os : List Obj) → changed f at (changed g at os (slice_get os at)) (slice_get (changed g at os (slice_get os at)) at) ≡ changed (λ o. f (g o)) at os (slice_get os at)
changed_twice f g zero [] = refl
changed_twice f g (suc at) [] = refl
changed_twice f g zero (o ∷ os) = refl
changed_twice f g (suc at) (o ∷ os) = rw (changed_behind g o os at (slice_get os at))
    (changed_behind f o (changed g at os (slice_get os at)) at (slice_get (changed g at os (slice_get os at)) at)
    ∙ ap (λ (ys : List Obj). o ∷ ys) (changed_twice f g at os)
    ∙ sym (changed_behind (λ o. f (g o)) o os at (slice_get os at)))

got_changed : (f : Obj → Obj) (at : ℕ) (os : List Obj) → slice_get (changed f at os (slice_get os at)) at ≡ option_map f (slice_get os at)
got_changed f zero [] = refl
got_changed f (suc at) [] = refl
got_changed f zero (o ∷ os) = refl
got_changed f (suc at) (o ∷ os) = rw (changed_behind f o os at (slice_get os at)) (got_changed f at os)

changed_same : (f g : Obj → Obj) (at : ℕ) (os : List Obj) (x : Option Obj) → ((o : Obj) → x ≡ Some o → f o ≡ g o) → changed f at os x ≡ changed g at os x
changed_same f g at os None e = refl
changed_same f g at os (Some o) e = ap (slice_set os at) (e o refl)

-- REQUESTS CHANGED

requests_same : (f g : RequestObj → RequestObj) (h : RequestObj → RequestObj) → ((r : RequestObj) → f (g r) ≡ h r) → (o : Obj) → with_request f (with_request g o) ≡ with_request h o
requests_same f g h e (obj.Text x) = refl
requests_same f g h e (obj.List x) = refl
requests_same f g h e (obj.Tuple x) = refl
requests_same f g h e (obj.Dict x) = refl
requests_same f g h e (obj.Range x) = refl
requests_same f g h e (obj.Function x) = refl
requests_same f g h e (obj.Method x) = refl
requests_same f g h e (obj.Builtin x) = refl
requests_same f g h e (obj.Class x) = refl
requests_same f g h e (obj.Instance x) = refl
requests_same f g h e (obj.Exception x) = refl
requests_same f g h e (obj.Module x) = refl
requests_same f g h e (obj.Fixture x) = refl
requests_same f g h e obj.MarkMaker = refl
requests_same f g h e (obj.Mark x) = refl
requests_same f g h e (obj.Hook x) = refl
requests_same f g h e (obj.Param x) = refl
requests_same f g h e (obj.Request r) = ap obj.Request (e r)
requests_same f g h e (obj.Raises x) = refl
requests_same f g h e (obj.Info x) = refl
requests_same f g h e (obj.Item x) = refl

requests_twice : (f g : RequestObj → RequestObj) (h : RequestObj → RequestObj) → ((r : RequestObj) → f (g r) ≡ h r) → (request : Value) (heap : List Obj) → request_changed f request (request_changed g request heap) ≡ request_changed h request heap
requests_twice f g h e (val.Ref id) heap =
    changed_twice (with_request f) (with_request g) id.at heap
    ∙ changed_same (λ o. with_request f (with_request g o)) (with_request h) id.at heap (slice_get heap id.at) (λ o x. requests_same f g h e o)
requests_twice f g h e val.None heap = refl
requests_twice f g h e (val.Bool b) heap = refl
requests_twice f g h e (val.Int n) heap = refl

finalizers_through : (f : RequestObj → RequestObj) (g : List Value → List Value) → ((r : RequestObj) → (f r).finalizers ≡ g r.finalizers) → g [] ≡ [] → (x : Option Obj) → finalizers_in (option_map (with_request f) x) ≡ g (finalizers_in x)
finalizers_through f g e none None = sym none
finalizers_through f g e none (Some (obj.Text x)) = sym none
finalizers_through f g e none (Some (obj.List x)) = sym none
finalizers_through f g e none (Some (obj.Tuple x)) = sym none
finalizers_through f g e none (Some (obj.Dict x)) = sym none
finalizers_through f g e none (Some (obj.Range x)) = sym none
finalizers_through f g e none (Some (obj.Function x)) = sym none
finalizers_through f g e none (Some (obj.Method x)) = sym none
finalizers_through f g e none (Some (obj.Builtin x)) = sym none
finalizers_through f g e none (Some (obj.Class x)) = sym none
finalizers_through f g e none (Some (obj.Instance x)) = sym none
finalizers_through f g e none (Some (obj.Exception x)) = sym none
finalizers_through f g e none (Some (obj.Module x)) = sym none
finalizers_through f g e none (Some (obj.Fixture x)) = sym none
finalizers_through f g e none (Some obj.MarkMaker) = sym none
finalizers_through f g e none (Some (obj.Mark x)) = sym none
finalizers_through f g e none (Some (obj.Hook x)) = sym none
finalizers_through f g e none (Some (obj.Param x)) = sym none
finalizers_through f g e none (Some (obj.Request r)) = e r
finalizers_through f g e none (Some (obj.Raises x)) = sym none
finalizers_through f g e none (Some (obj.Info x)) = sym none
finalizers_through f g e none (Some (obj.Item x)) = sym none

finalizers_changed : (f : RequestObj → RequestObj) (g : List Value → List Value) → ((r : RequestObj) → (f r).finalizers ≡ g r.finalizers) → g [] ≡ [] → (request : Value) (heap : List Obj) → finalizers_of request (request_changed f request heap) ≡ g (finalizers_of request heap)
finalizers_changed f g e none (val.Ref id) heap = ap finalizers_in (got_changed (with_request f) id.at heap) ∙ finalizers_through f g e none (slice_get heap id.at)
finalizers_changed f g e none val.None heap = sym none
finalizers_changed f g e none (val.Bool b) heap = sym none
finalizers_changed f g e none (val.Int n) heap = sym none

-- those that are left behind the latest
left_behind : (request : Value) (heap : List Obj) → finalizers_of request (request_changed without_latest request heap) ≡ earlier_finalizers (finalizers_of request heap)
left_behind request heap = finalizers_changed without_latest earlier_finalizers (λ r. refl) refl request heap

-- a request that is closed keeps those that it has
kept_closing : (request : Value) (heap : List Obj) → finalizers_of request (request_closed request heap) ≡ finalizers_of request heap
kept_closing request heap = finalizers_changed closing (λ fs. fs) (λ r. refl) refl request heap

pub closed_twice : (request : Value) (heap : List Obj) → request_closed request (request_closed request heap) ≡ request_closed request heap
closed_twice request heap = requests_twice closing closing closing (λ r. refl) request heap

-- THE LATEST

latest_of : (v : Value) (vs : List Value) → (x : Value) × (slice_get (v ∷ vs) (length vs) ≡ Some x) × (remove (v ∷ vs) (length vs) ++ x ∷ [] ≡ v ∷ vs)
latest_of v [] = (v, refl, refl)
latest_of v (w ∷ ws) = ((latest_of w ws).0, (latest_of w ws).1, ap (λ (ys : List Value). v ∷ ys) (latest_of w ws).2)

abbrev value_or : Value → Option Value → Value
value_or d None = d
value_or d (Some x) = x

none_is_left : (fs : List Value) → latest_finalizer fs ≡ None → fs ≡ []
none_is_left [] h = refl
none_is_left (v ∷ vs) h =
    absurd
    (let e : length (v ∷ vs) - 1 ≡ length vs = omega arith in
    let bad : Some (latest_of v vs).0 ≡ None = sym (latest_of v vs).1 ∙ ap (slice_get (v ∷ vs)) (sym e) ∙ h in cc)

latest_first : (fs : List Value) (f : Value) → latest_finalizer fs ≡ Some f → reverse fs ≡ f ∷ reverse (earlier_finalizers fs)
unfolding latest_of
latest_first [] f h = absurd (let bad : None ≡ Some f = h in cc)
latest_first (v ∷ vs) f h =
    let e : length (v ∷ vs) - 1 ≡ length vs = omega arith in
    let same : Some f ≡ Some (latest_of v vs).0 = sym h ∙ ap (slice_get (v ∷ vs)) e ∙ (latest_of v vs).1 in
    let whole : remove (v ∷ vs) (length vs) ++ f ∷ [] ≡ v ∷ vs =
    ap (λ (x : Value). remove (v ∷ vs) (length vs) ++ x ∷ []) (ap (value_or f) same) ∙ (latest_of v vs).2 in
    sym (ap reverse whole)
    ∙ reverse-append (remove (v ∷ vs) (length vs)) (f ∷ [])
    ∙ ap (λ (n : ℕ). f ∷ reverse (remove (v ∷ vs) n)) (sym e)

-- ONE IS TAKEN

module _ (request : Value) (heap after : List Obj) where
  left_after : (x : Option Value) → (x, after) ≡ finalizer_taken request heap → finalizers_of request after ≡ earlier_finalizers (finalizers_of request heap)
  left_after x h = ap (finalizers_of request) (ap (λ (t : Option Value × List Obj). t.1) h) ∙ left_behind request heap

  pub taken_more : (f : Value) → (Some f, after) ≡ finalizer_taken request heap → reverse (finalizers_of request heap) ≡ f ∷ reverse (finalizers_of request after)
  taken_more f h =
      latest_first (finalizers_of request heap) f (sym (ap (λ (t : Option Value × List Obj). t.0) h))
      ∙ ap (λ (fs : List Value). f ∷ reverse fs) (sym (left_after (Some f) h))

  pub taken_fewer : (f : Value) → (Some f, after) ≡ finalizer_taken request heap → length (finalizers_of request after) < length (finalizers_of request heap)
  taken_fewer f h =
      let all : length (reverse (finalizers_of request heap)) ≡ length (f ∷ reverse (finalizers_of request after)) = ap length (taken_more f h) in
      let before : length (reverse (finalizers_of request heap)) ≡ length (finalizers_of request heap) = length-reverse (finalizers_of request heap) in
      let behind : length (reverse (finalizers_of request after)) ≡ length (finalizers_of request after) = length-reverse (finalizers_of request after) in
      omega arith

  pub taken_spent : (x : Option Value) → (x, after) ≡ finalizer_taken request heap → request_changed spent_request request after ≡ request_changed spent_request request heap
  taken_spent x h =
      ap (request_changed spent_request request) (ap (λ (t : Option Value × List Obj). t.1) h)
      ∙ requests_twice spent_request without_latest spent_request (λ r. refl) request heap

  pub taken_closed : (x : Option Value) → (x, after) ≡ finalizer_taken request heap → request_closed request heap ≡ heap → request_closed request after ≡ after
  taken_closed x h closed =
      let is : after ≡ request_changed without_latest request heap = ap (λ (t : Option Value × List Obj). t.1) h in
      ap (request_changed closing request) is
      ∙ requests_twice closing without_latest (λ r. closing (without_latest r)) (λ r. refl) request heap
      ∙ sym (requests_twice without_latest closing (λ r. closing (without_latest r)) (λ r. refl) request heap)
      ∙ ap (request_changed without_latest request) closed
      ∙ sym is

  all_taken : (None, after) ≡ finalizer_taken request heap → finalizers_of request after ≡ []
  all_taken h = left_after None h ∙ ap earlier_finalizers (none_is_left (finalizers_of request heap) (sym (ap (λ (t : Option Value × List Obj). t.0) h)))

spent_same : (o : Obj) → finalizers_in (Some o) ≡ [] → with_request spent_request o ≡ with_request closing o
spent_same (obj.Text x) h = refl
spent_same (obj.List x) h = refl
spent_same (obj.Tuple x) h = refl
spent_same (obj.Dict x) h = refl
spent_same (obj.Range x) h = refl
spent_same (obj.Function x) h = refl
spent_same (obj.Method x) h = refl
spent_same (obj.Builtin x) h = refl
spent_same (obj.Class x) h = refl
spent_same (obj.Instance x) h = refl
spent_same (obj.Exception x) h = refl
spent_same (obj.Module x) h = refl
spent_same (obj.Fixture x) h = refl
spent_same obj.MarkMaker h = refl
spent_same (obj.Mark x) h = refl
spent_same (obj.Hook x) h = refl
spent_same (obj.Param x) h = refl
spent_same (obj.Request r) h = ap (λ (fs : List Value). obj.Request (record { name = r.name; scope = r.scope; param = r.param; finalizers = fs; closed = true })) (sym h)
spent_same (obj.Raises x) h = refl
spent_same (obj.Info x) h = refl
spent_same (obj.Item x) h = refl

spent_already : (request : Value) (heap : List Obj) → request_closed request heap ≡ heap → finalizers_of request heap ≡ [] → request_changed spent_request request heap ≡ heap
spent_already (val.Ref id) heap closed h =
    changed_same (with_request spent_request) (with_request closing) id.at heap (slice_get heap id.at) (λ o x. spent_same o (sym (ap finalizers_in x) ∙ h)) ∙ closed
spent_already val.None heap closed h = refl
spent_already (val.Bool b) heap closed h = refl
spent_already (val.Int n) heap closed h = refl

-- ALL ARE TAKEN

pub spent_behind : (request : Value) (first heap after : List Obj) → request_closed request heap ≡ heap → request_changed spent_request request heap ≡ request_changed spent_request request first
    → (None, after) ≡ finalizer_taken request heap → after ≡ request_changed spent_request request first
spent_behind request first heap after closed spent h =
    sym (spent_already request after (taken_closed request heap after None h closed) (all_taken request heap after h)) ∙ taken_spent request heap after None h ∙ spent

pub none_behind : (request : Value) (heap after : List Obj) (out all : List Value) → out ++ reverse (finalizers_of request heap) ≡ all → (None, after) ≡ finalizer_taken request heap → out ≡ all
none_behind request heap after out all left h =
    sym (append-nil out)
    ∙ ap (λ (fs : List Value). out ++ reverse fs) (sym (none_is_left (finalizers_of request heap) (sym (ap (λ (t : Option Value × List Obj). t.0) h))))
    ∙ left

pub taken_left : (request : Value) (heap after : List Obj) (f : Value) (out more all : List Value) → (Some f, after) ≡ finalizer_taken request heap → more ≡ out ++ f ∷ [] → out ++ reverse (finalizers_of request heap) ≡ all → more ++ reverse (finalizers_of request after) ≡ all
taken_left request heap after f out more all h e left =
    ap (λ (xs : List Value). xs ++ reverse (finalizers_of request after)) e
    ∙ append_assoc out (f ∷ []) (reverse (finalizers_of request after))
    ∙ ap (λ (xs : List Value). out ++ xs) (sym (taken_more request heap after f h))
    ∙ left

pub taken_behind_closing : (request : Value) (w : SourceWorld) → finalizers_taken request (world_with_heap (request_closed request w.heap) w) ≡ finalizers_taken request w
unfolding finalizers_taken
taken_behind_closing request w =
    ap (λ (fs : List Value). (reverse fs, world_with_heap (request_changed spent_request request (request_closed request w.heap)) w)) (kept_closing request w.heap)
    ∙ ap (λ (h : List Obj). (reverse (finalizers_of request w.heap), world_with_heap h w)) (requests_twice spent_request closing spent_request (λ r. refl) request w.heap)
