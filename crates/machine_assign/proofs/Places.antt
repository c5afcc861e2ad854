-- What takes values, one behind another.
use Rattle.std.proofs.Common.{◌≡◌, ◌∙◌, ◌+◌, ◌<◌, ◌≤◌, ℕ, zero, suc, Bool, true, false, eqb, if◌then◌else◌, List, [], ◌∷◌, Some, ap, sym, refl, drop, get_or, length}
use Rattle.std.proofs.Math.ListN.{drop_of_length-le}
use Rattle.std.specs.declared.alloc.Global.{Global}
use Rattle.std.specs.declared.rc.Rc.{Rc}
use Rattle.std.specs.declared.vec.Vec.{Vec}
use Rattle.std.proofs.lemmas.List.Sums.{sum_by-cons}
use Rattle.py_core.specs.declared.stmt.CoreSingle.{CoreSingle}
use Rattle.py_values.specs.declared.value.Value.{Value}
use Rattle.py_values.specs.declared.object.Obj.{Obj}
use Rattle.machine_turns.specs.py_world.Outcome.{Next, on_next, raised_at}
use Rattle.machine_turns.specs.py_world.Site.{Site}
use Rattle.machine_turns.specs.py_world.Targets.{elements_from, store_each, store_elements, unpack_by, wrong_count}
use Rattle.machine_turns.specs.py_world.World.{heap_of, with_heap}
use Rattle.machine_turns.specs.core_meaning.Statements.{CoreStore, store_at, store_singles}
use Rattle.machine_turns.specs.machine_state.declared.place.Location.{Location}
use Rattle.machine_turns.specs.machine_state.declared.frame.Frame.{Frame}
use Rattle.machine_turns.specs.machine_state.declared.frame.Frame.TheVariants.{Target}
use Rattle.machine_turns.specs.machine_state.declared.frame.TargetFrame.TheVariants.{Each}
use Rattle.machine_turns.specs.machine_state.Places.{CoreState, CoreThen, site_of}
use Rattle.machine_turns.specs.machine_state.Frames.{after_stack, handled_exception, outer_of}
use Rattle.machine_turns.specs.machine_state.Work.{single_work, singles_work}
use Rattle.machine_turns.proofs.Lists.{drop_some}

-- the stores from a place on
singles_from : (ss : List CoreSingle) (i : ℕ) → drop i (store_singles ss) ≡ store_singles (drop i ss)
singles_from ss zero = refl
singles_from [] (suc i) = refl
singles_from (s ∷ ss) (suc i) = singles_from ss i

pub singles_count : (ss : List CoreSingle) → length (store_singles ss) ≡ length ss
singles_count [] = refl
singles_count (s ∷ ss) = ap suc (singles_count ss)

each_from : (ss : List CoreSingle) (vs : List Value) (i : ℕ) (s : CoreSingle) (v : Value) → i < length ss → s ≡ get_or ss i s → i < length vs → v ≡ get_or vs i v → (p : Site) (t : CoreState) (k : CoreThen)
    → store_each (drop i (store_singles ss)) (drop i vs) p t k ≡ store_at s.kind v p t (λ o. on_next o k (λ t. store_each (drop (i + 1) (store_singles ss)) (drop (i + 1) vs) p t k))
each_from ss vs i s v w h w' h' p t k =
    ap (λ (ts : List CoreStore). store_each ts (drop i vs) p t k) (singles_from ss i ∙ ap store_singles (drop_some ss i s w h))
    ∙ ap (λ (xs : List Value). store_each (store_at s.kind ∷ store_singles (drop (i + 1) ss)) xs p t k) (drop_some vs i v w' h')
    ∙ ap (λ (ts : List CoreStore). store_at s.kind v p t (λ o. on_next o k (λ t. store_each ts (drop (i + 1) vs) p t k))) (sym (singles_from ss (i + 1)))

-- a target of an unpacking begins
pub each_turns : (h : Location) (fs fs' : List Frame) (ss again : Rc (Vec CoreSingle Global) Global) (vs : Vec Value Global) (i : ℕ) (s : CoreSingle) (v : Value) (t : CoreState)
    → i < length ss.value.items → s ≡ get_or ss.value.items i s → i < length vs.items → v ≡ get_or vs.items i v → fs' ≡ Target (Each again vs (i + 1)) ∷ fs → again.value ≡ ss.value
    → store_at s.kind v (site_of h (outer_of fs') (handled_exception fs')) t (after_stack fs' h) ≡ store_each (drop i (store_singles ss.value.items)) (drop i vs.items) (site_of h (outer_of fs) (handled_exception fs)) t (after_stack fs h)
each_turns h fs fs' ss again vs i s v t w is w' is' pushed same =
    rw (each_from ss.value.items vs.items i s v w is w' is' (site_of h (outer_of fs) (handled_exception fs)) t (after_stack fs h), pushed, same) refl

pub each_none : (ss : List CoreSingle) (vs : List Value) (i : ℕ) (p : Site) (t : CoreState) (k : CoreThen) → length ss ≤ i → k (Next t) ≡ store_each (drop i (store_singles ss)) vs p t k
each_none ss vs i p t k h = sym (ap (λ (ts : List CoreStore). store_each ts vs p t k) (singles_from ss i ∙ ap store_singles (drop_of_length-le ss h)))

each_empty : (ts : List CoreStore) (p : Site) (t : CoreState) (k : CoreThen) → k (Next t) ≡ store_each ts [] p t k
each_empty [] p t k = refl
each_empty (x ∷ ts) p t k = refl

pub each_short : (ts : List CoreStore) (vs : List Value) (i : ℕ) (p : Site) (t : CoreState) (k : CoreThen) → length vs ≤ i → k (Next t) ≡ store_each ts (drop i vs) p t k
each_short ts vs i p t k h = each_empty ts p t k ∙ sym (ap (λ (xs : List Value). store_each ts xs p t k) (drop_of_length-le vs h))

pub each_weighs : (ss : List CoreSingle) (i : ℕ) (s : CoreSingle) → i < length ss → s ≡ get_or ss i s → singles_work (drop i ss) ≡ single_work s.kind + 1 + singles_work (drop (i + 1) ss)
each_weighs ss i s w h = ap singles_work (drop_some ss i s w h) ∙ sum_by-cons {X = CoreSingle} (λ (x : CoreSingle). single_work x.kind + 1) s (drop (i + 1) ss)

-- the elements that were taken go to the targets
pub all_taken : (ts : List CoreStore) (vs : List Value) (heap : List Obj) (e : List Value × List Obj) (p : Site) (s : CoreState) (k : CoreThen) → (vs, heap) ≡ e → store_each ts vs p (with_heap heap s) k ≡ store_elements ts e p s k
all_taken ts vs heap e p s k h = ap (λ (x : List Value × List Obj). store_each ts x.0 p (with_heap x.1 s) k) h

module _ (ss : List CoreSingle) (n : ℕ) (v : Value) (p : Site) (s : CoreState) (k : CoreThen) where
  by_count : (b : Bool) → eqb n (length ss) ≡ b
      → (if b then store_elements (store_singles ss) (elements_from n v 0 n (heap_of s)) p s k else k (raised_at (wrong_count (length ss) n) p s)) ≡ unpack_by (Some n) (store_singles ss) v p s k
  by_count b h =
      ap (λ (c : Bool). if c then store_elements (store_singles ss) (elements_from n v 0 n (heap_of s)) p s k else k (raised_at (wrong_count (length ss) n) p s)) (sym h)
      ∙ ap (λ (m : ℕ). if eqb n m then store_elements (store_singles ss) (elements_from n v 0 n (heap_of s)) p s k else k (raised_at (wrong_count m n) p s)) (sym (singles_count ss))

  pub counted_right : eqb n (length ss) ≡ true → store_elements (store_singles ss) (elements_from n v 0 n (heap_of s)) p s k ≡ unpack_by (Some n) (store_singles ss) v p s k
  counted_right h = by_count true h

  pub counted_wrong : eqb n (length ss) ≡ false → k (raised_at (wrong_count (length ss) n) p s) ≡ unpack_by (Some n) (store_singles ss) v p s k
  counted_wrong h = by_count false h
