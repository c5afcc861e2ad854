-- Frozen frames, as they are seen.
use Rattle.std.proofs.Common.{◌≡◌, ◌∙◌, ℕ, zero, suc, List, [], ◌∷◌, ◌++◌, map, length, get_or, set, Option, Some, None, true, refl, sym, subst, ap}
use Rattle.std.specs.Prelude.{slice_get, is_some}
use Rattle.std.proofs.lemmas.List.{length-map, map-append, map-set}
use Rattle.frame_stacks.specs.Stacked.{frozen_at, is_there, ThawedFrom}
use Rattle.run_tree.specs.Todo.{Done}
use Rattle.py_values.specs.declared.value.Value.{Value}
use Rattle.machine_state.specs.py_world.Outcome.{call_end}
use Rattle.machine_state.specs.py_world.Resuming.{frame_at}
use Rattle.machine_state.specs.py_world.Runs.{start}
use Rattle.machine_state.specs.py_world.World.{state}
use Rattle.machine_state.specs.core_meaning.Meaning.{CoreWorld}
use Rattle.machine_state.specs.core_meaning.Statements.{remains}
use Rattle.machine_state.specs.declared.frame.CallerFrame.{CallerFrame}
use Rattle.machine_state.specs.declared.frame.Frame.{Frame}
use Rattle.machine_state.specs.declared.frame.Frame.TheVariants as on
use Rattle.machine_state.specs.declared.frozen.FrozenBody.{FrozenBody}
use Rattle.machine_state.specs.Kept.{frames_kept, IsKept}
use Rattle.machine_state.specs.Places.{CoreOutcome, site_of}
use Rattle.machine_state.specs.Stacks.{FrozenFrame, StackView}
use Rattle.machine_state.specs.Frames.{after_stack, frozen_of, layers_of}
use Rattle.machine_state.proofs.Kept.{layers_kept}
use Rattle.machine_frames.specs.Remaining.{frozen_in, CoreFrozen, Woken, WokenFrom}
use Rattle.machine_frames.proofs.Going.{go_on}

-- one more
pub frozen_more : (fs : List (Option FrozenFrame)) (own : List Frame) (body : FrozenBody)
    → map frozen_of (fs ++ Some (record { stack = frames_kept body.here.line own; body = body }) ∷ []) ≡ map frozen_of fs ++ Some (record { rest = layers_of own; site = site_of body.here [] None; locals = body.locals }) ∷ []
frozen_more fs own body =
    map-append frozen_of fs (Some (record { stack = frames_kept body.here.line own; body = body }) ∷ [])
    ∙ ap (λ ls. map frozen_of fs ++ Some (record { rest = ls; site = site_of body.here [] None; locals = body.locals }) ∷ []) (layers_kept body.here.line own)

pub as_many : (fs : List (Option FrozenFrame)) → length (map frozen_of fs) ≡ length fs
as_many fs = length-map fs frozen_of

-- one that is given up
pub let_go : (fs : List (Option FrozenFrame)) (n : ℕ) → map frozen_of (set fs n None) ≡ set (map frozen_of fs) n None
let_go fs n = map-set frozen_of fs n None

-- one that is looked for
seen_at : (fs : List (Option FrozenFrame)) (n : ℕ) → frame_at (slice_get (map frozen_of fs) n) ≡ frozen_of (get_or fs n None)
seen_at [] n = refl
seen_at (f ∷ fs) zero = refl
seen_at (f ∷ fs) (suc n) = seen_at fs n

there_some : (f : Option FrozenFrame) → is_there f ≡ is_some (frozen_of f)
there_some None = refl
there_some (Some f) = refl

pub is_there_out : (s : StackView) (n : ℕ) → is_there (frozen_at s n) ≡ is_some (frame_at (slice_get (frozen_in s) n))
is_there_out s n = there_some (get_or s.frozen n None) ∙ sym (ap is_some (seen_at s.frozen n))

-- one that goes on, over the end of a call by the runner
woken_from : (old mid new : StackView) (n : ℕ) (c : CallerFrame) → mid ≡ record { own = on.Caller c ∷ []; frozen = old.frozen } → c.from ≡ None → c.locals ≡ [] → c.temps.items ≡ []
    → (f : Option FrozenFrame) → frozen_at old n ≡ f → IsKept f → (result : Option FrozenBody) → ThawedFrom f result n mid new → Woken result n old new
woken_from old mid new n c is from locals temps (Some f) at kept result t =
    rw t.0
    (record {
      rest = layers_of f.stack;
      out = seen_at old.frozen n ∙ ap frozen_of at;
      gone = ap frozen_in t.1 ∙ ap (λ (s : StackView). map frozen_of (set s.frozen n None)) is ∙ let_go old.frozen n;
      goes_on = go_on new.own f.stack f.body.here.line c (ap (λ (s : StackView). s.own) t.1 ∙ ap (λ (s : StackView). f.stack ++ s.own) is) kept from locals temps;
    })
woken_from old mid new n c is from locals temps None at kept result t = rw t.0 (seen_at old.frozen n ∙ ap frozen_of at)

pub woken : (old mid new : StackView) (n : ℕ) (c : CallerFrame) → mid ≡ record { own = on.Caller c ∷ []; frozen = old.frozen } → c.from ≡ None → c.locals ≡ [] → c.temps.items ≡ []
    → (result : Option FrozenBody) → IsKept (frozen_at mid n) → ThawedFrom (frozen_at mid n) result n mid new → Woken result n old new
woken old mid new n c is from locals temps result kept t = woken_from old mid new n c is from locals temps (frozen_at mid n) (sym (ap (λ (s : StackView). frozen_at s n) is)) kept result t

-- what is said of the one that is out
pub woken_some : (r : Option FrozenBody) (n : ℕ) (old new : StackView) → Woken r n old new → is_some (frame_at (slice_get (frozen_in old) n)) ≡ true → is_some r ≡ true
woken_some None n old new w out = sym (ap is_some w) ∙ out
woken_some (Some b) n old new w out = refl

pub woken_is : (r : Option FrozenBody) (b : FrozenBody) (n : ℕ) (old new : StackView) → r ≡ Some b → Woken r n old new → WokenFrom b n old new
woken_is r b n old new e w = subst (λ (o : Option FrozenBody). Woken o n old new) e w

some_same : {A : Type 0} {x y : A} → Some x ≡ Some y → x ≡ y
some_same e = cc

module _ (b : FrozenBody) (n : ℕ) (old new : StackView) (w : WokenFrom b n old new) (f : CoreFrozen) (out : frame_at (slice_get (frozen_in old) n) ≡ Some f) where
  same : record { rest = w.rest; site = site_of b.here [] None; locals = b.locals } ≡ f
  same = some_same (sym w.out ∙ out)

  pub woken_state : (temps : List (Option Value)) → temps ≡ [] → (world : List (Option CoreFrozen) → CoreWorld) → state b.locals temps (world (frozen_in new)) ≡ state f.locals [] (world (set (frozen_in old) n None))
  woken_state temps none world = λ i. state ((same i).locals) (none i) (world (w.gone i))

  pub woken_rest : (o : CoreOutcome) (v : CoreWorld) → after_stack new.own b.here o ≡ remains f.rest f.site o (λ o. Done (call_end (start v) o))
  woken_rest o v = w.goes_on b.here o v ∙ ap (λ (g : CoreFrozen). remains g.rest g.site o (λ o. Done (call_end (start v) o))) same
