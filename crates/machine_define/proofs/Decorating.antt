-- Decorators are applied.
use Rattle.std.proofs.Common.{◌≡◌, ◌∙◌, ℕ, List, [], ◌∷◌, Option, Some, None, refl, sym, ap}
use Rattle.std.specs.Prelude.{reverse}
use Rattle.py_values.specs.declared.object.Obj.{Obj}
use Rattle.py_values.specs.declared.value.Value.{Value}
use Rattle.machine_state.specs.py_world.Definitions.{Decoration, Replaced, Marked, Same, Refused, bad_decorator, decorated, decorated_by, decoration, define_as}
use Rattle.machine_state.specs.py_world.Names.{bound}
use Rattle.machine_state.specs.py_world.Outcome.{Gave, Next, on_value, raised_at}
use Rattle.machine_state.specs.py_world.Site.{Site}
use Rattle.machine_state.specs.py_world.Targets.{store_name}
use Rattle.machine_state.specs.py_world.World.{heap_of, with_heap}
use Rattle.machine_state.specs.Places.{CoreOutcome, CoreState, CoreThen}
use Rattle.machine_decorate.specs.Decorations.{all_told, decorated_told, told_on}

-- how decorators end that give this value, or refuse, with this heap behind them
abbrev pub told_end : Option Value × List Obj → Site → CoreState → CoreOutcome
told_end (Some v, heap) p s = Gave v (with_heap heap s)
told_end (None, heap) p s = raised_at bad_decorator p (with_heap heap s)

told : (x : Decoration) (d v : Value) (p : Site) (s : CoreState) → decorated_by x d v p s ≡ told_end (decorated_told x d v (heap_of s)) p s
told (Replaced o) d v p s = refl
told Marked d v p s = refl
told Same d v p s = refl
told Refused d v p s = refl

kept : (t : Option Value × List Obj) (heap : List Obj) (p : Site) (s : CoreState) → told_end t p (with_heap heap s) ≡ told_end t p s
kept (Some v, before) heap p s = refl
kept (None, before) heap p s = refl

-- all of them
goes_on : (t : Option Value × List Obj) (ds : List Value) (p : Site) (s : CoreState) (k : CoreThen)
    → ((w : Value) (heap : List Obj) → decorated ds w p (with_heap heap s) k ≡ k (told_end (all_told ds w heap) p s))
    → on_value (told_end t p s) k (λ v s. decorated ds v p s k) ≡ k (told_end (told_on t (λ w heap. all_told ds w heap)) p s)
goes_on (Some w, heap) ds p s k h = h w heap
goes_on (None, heap) ds p s k h = refl

pub all_decorated : (ds : List Value) (v : Value) (p : Site) (s : CoreState) (k : CoreThen) → decorated ds v p s k ≡ k (told_end (all_told ds v (heap_of s)) p s)
all_decorated [] v p s k = refl
all_decorated (d ∷ ds) v p s k =
    ap (λ (o : CoreOutcome). on_value o k (λ v s. decorated ds v p s k)) (told (decoration (heap_of s) d v) d v p s)
    ∙ goes_on (decorated_told (decoration (heap_of s) d v) d v (heap_of s)) ds p s k (λ w heap. all_decorated ds w p (with_heap heap s) k ∙ ap k (kept (all_told ds w heap) heap p s))

module _ (ds : List Value) (name : List ℕ) (v : Value) (p : Site) (s : CoreState) (k : CoreThen) (r : Option Value) (heap : List Obj) (told : (r, heap) ≡ all_told (reverse ds) v (heap_of s)) where
  ended : on_value (told_end (r, heap) p s) k (λ w s. k (Next (bound name w p.scene s))) ≡ define_as ds name v p s k
  ended =
      let go : CoreThen = λ o. on_value o k (λ w s. k (Next (bound name w p.scene s))) in
      ap (λ (t : Option Value × List Obj). go (told_end t p s)) told ∙ sym (all_decorated (reverse ds) v p s go)

  -- the value behind all decorators is bound
  pub defined : (w : Value) → r ≡ Some w → store_name name w p (with_heap heap s) k ≡ define_as ds name v p s k
  defined w gives = ap (λ (o : Option Value). on_value (told_end (o, heap) p s) k (λ w s. k (Next (bound name w p.scene s)))) (sym gives) ∙ ended

  -- or one refuses
  pub refused : r ≡ None → k (raised_at bad_decorator p (with_heap heap s)) ≡ define_as ds name v p s k
  refused refuses = ap (λ (o : Option Value). on_value (told_end (o, heap) p s) k (λ w s. k (Next (bound name w p.scene s)))) (sym refuses) ∙ ended
