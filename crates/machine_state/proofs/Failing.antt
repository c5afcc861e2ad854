-- Loads that fail one after another.
use Rattle.std.proofs.Common.{◌≡◌, ◌<◌, ◌≤◌, ◌+◌, ◌∙◌, ℕ, zero, suc, List, [], ◌∷◌, ◌++◌, length, drop, take, map, Some, None, Bool, cond, refl, sym, ap, arith, add-one}
use Rattle.std.specs.Prelude.{slice_get, ◌||◌}
use Rattle.std.specs.List.{list_any}
use Rattle.std.specs.Map.{values_of}
use Rattle.indexmap.specs.IndexMap.{insert_entry, set_value_at}
use Rattle.py_values.specs.Names.{name_eq}
use Rattle.py_values.specs.declared.value.Value.{Value}
use Rattle.core_meaning.specs.py_world.declared.load.Load.{Load}
use Rattle.core_meaning.specs.py_world.declared.load.Load.TheVariants.{Running, Loaded, Failed}
use Rattle.core_meaning.specs.py_world.declared.trace.TraceFrame.{TraceFrame}
use Rattle.core_meaning.specs.py_world.Runs.{failed, is_running, with_load}
use Rattle.machine_state.specs.Failing.{failed_at, load_runs}

abbrev Loads : Type 0
Loads = List (List ℕ × Load)

one_runs : (path : List ℕ) (load : Load) → load_runs load ≡ is_running (path, load)
one_runs path (Running id) = refl
one_runs path (Loaded id) = refl
one_runs path (Failed exc trace) = refl

pub any_runs : (ms : Loads) → list_any load_runs (values_of ms) ≡ list_any is_running ms
any_runs [] = refl
any_runs (m ∷ ms) = λ i. one_runs m.0 m.1 i || any_runs ms i

module _ (exc : Value) (trace : List TraceFrame) where
  pub fails_there : (ms : Loads) (at : ℕ) (old new : Load) → Some old ≡ slice_get (values_of ms) at → ((path : List ℕ) → failed exc trace (path, old) ≡ (path, new))
      → set_value_at ms at new ≡ failed_at exc trace at ms
  fails_there [] at old new h f = refl
  fails_there (m ∷ ms) zero old new h f =
      let same : old ≡ m.1 = cc in
      ap (λ (x : List ℕ × Load). x ∷ ms) (sym (f m.0) ∙ ap (λ (l : Load). failed exc trace (m.0, l)) same)
  fails_there (m ∷ ms) (suc at) old new h f = ap (λ (xs : Loads). m ∷ xs) (fails_there ms at old new h f)

  pub fails_nowhere : (ms : Loads) (at : ℕ) → length ms ≤ at → failed_at exc trace at ms ≡ ms
  fails_nowhere [] at h = refl
  fails_nowhere (m ∷ ms) zero h = absurd (omega arith)
  fails_nowhere (m ∷ ms) (suc at) h = ap (λ (xs : Loads). m ∷ xs) (fails_nowhere ms at (omega arith))

  fails_next : (ms : Loads) (at : ℕ) → at < length ms → failed_at exc trace at (map (failed exc trace) (take at ms) ++ drop at ms) ≡ map (failed exc trace) (take (suc at) ms) ++ drop (suc at) ms
  fails_next [] at h = absurd (omega arith)
  fails_next (m ∷ ms) zero h = refl
  fails_next (m ∷ ms) (suc at) h = ap (λ (xs : Loads). failed exc trace m ∷ xs) (fails_next ms at (omega arith))

  pub fails_more : (ms now new : Loads) (at : ℕ) → at < length ms → now ≡ map (failed exc trace) (take at ms) ++ drop at ms → new ≡ failed_at exc trace at now
      → new ≡ map (failed exc trace) (take (at + 1) ms) ++ drop (at + 1) ms
  fails_more ms now new at h so_far is = rw (add-one, is, so_far) (fails_next ms at h)

  pub fails_all : (ms : Loads) (at : ℕ) → length ms ≤ at → map (failed exc trace) (take at ms) ++ drop at ms ≡ map (failed exc trace) ms
  fails_all [] zero h = refl
  fails_all [] (suc at) h = refl
  fails_all (m ∷ ms) zero h = absurd (omega arith)
  fails_all (m ∷ ms) (suc at) h = ap (λ (xs : Loads). failed exc trace m ∷ xs) (fails_all ms at (omega arith))

pub put_loads : (path : List ℕ) (load : Load) (ms : Loads) → insert_entry name_eq ms path load ≡ with_load path load ms
put_loads path load [] = refl
put_loads path load (m ∷ ms) = ap (λ (xs : Loads). cond (name_eq path m.0) ((m.0, load) ∷ ms) (m ∷ xs)) (put_loads path load ms)
