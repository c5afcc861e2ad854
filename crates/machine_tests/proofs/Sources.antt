-- Paths that no source has.
use Rattle.std.proofs.Common.{◌≡◌, ℕ, List, [], ◌∷◌, ◌++◌, Bool, true, false, None, refl, ap}
use Rattle.std.specs.List.{list_any}
use Rattle.py_values.specs.Names.{name_eq}
use Rattle.py_world.specs.World.{CodedSource}
use Rattle.py_world.specs.Runs.{source_at}
use Rattle.py_world.specs.Imports.{source_paths}

module _ {M : Type 0} where
  absent_by : (path : List ℕ) (x : CodedSource M) (xs : List (CodedSource M)) (b : Bool) → name_eq path x.path ≡ b → list_any (name_eq path) (source_paths (x ∷ xs)) ≡ false → (list_any (name_eq path) (source_paths xs) ≡ false → source_at path xs ≡ None)
      → source_at path (x ∷ xs) ≡ None
  absent_by path x xs true e h go = let w : true ≡ false = rw e at h in absurd cc
  absent_by path x xs false e h go = rw e (go (rw e at h))

  -- no source has a path that is not among theirs
  pub absent_of : (path : List ℕ) (xs : List (CodedSource M)) → list_any (name_eq path) (source_paths xs) ≡ false → source_at path xs ≡ None
  absent_of path [] h = refl
  absent_of path (x ∷ xs) h = absent_by path x xs (name_eq path x.path) refl h (absent_of path xs)

  pub paths_behind : (xs : List (CodedSource M)) (x : CodedSource M) → source_paths (xs ++ x ∷ []) ≡ source_paths xs ++ x.path ∷ []
  paths_behind [] x = refl
  paths_behind (y ∷ ys) x = ap (λ (l : List (List ℕ)). y.path ∷ l) (paths_behind ys x)
