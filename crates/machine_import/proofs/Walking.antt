-- The beginnings of a dotted name, one after another.
use Rattle.std.proofs.Common.{◌≡◌, ◌<◌, ◌≤◌, ◌+◌, ◌∙◌, ℕ, zero, suc, Bool, true, false, List, [], ◌∷◌, ◌++◌, length, drop, take, Option, Some, None, refl, sym, ap, arith, add-one}
use Rattle.std.proofs.lemmas.List.{append_assoc, drop_all}
use Rattle.py_values.specs.declared.value.Value.{Value}
use Rattle.machine_state.specs.py_world.Imports.{faulty, import_path, is_pytest, module_at, modules_at, source_paths, prefixes_behind, pytest_or}
use Rattle.machine_state.specs.py_world.Outcome.{on_value}
use Rattle.machine_state.specs.py_world.Runs.{load_part}
use Rattle.machine_state.specs.py_world.Site.{Site}
use Rattle.machine_state.specs.core_meaning.Statements.{core_body}
use Rattle.machine_state.specs.Places.{CoreRest, CoreState, CoreThen}
use Rattle.machine_import.specs.declared.walk.NextModule.{NextModule}
use Rattle.machine_import.specs.Walks.{built_in, found_by, found_from, last_value, source_path, source_unless}

abbrev Dotted : Type 0
Dotted = List (List ℕ)

prefix_suc : (before names : Dotted) (i : ℕ) → i < length names → drop i (prefixes_behind before names) ≡ (before ++ take (suc i) names) ∷ drop (suc i) (prefixes_behind before names)
prefix_suc before [] i w = absurd (omega arith)
prefix_suc before (name ∷ names) zero w = refl
prefix_suc before (name ∷ names) (suc i) w =
    prefix_suc (before ++ name ∷ []) names i (omega arith)
    ∙ ap (λ (d : Dotted). d ∷ drop (suc i) (prefixes_behind (before ++ name ∷ []) names)) (append_assoc before (name ∷ []) (take (suc i) names))

prefix_at : (names : Dotted) (i : ℕ) → i < length names → drop i (prefixes_behind [] names) ≡ take (i + 1) names ∷ drop (i + 1) (prefixes_behind [] names)
prefix_at names i w = rw add-one (prefix_suc [] names i w)

prefix_count : (before names : Dotted) → length (prefixes_behind before names) ≡ length names
prefix_count before [] = refl
prefix_count before (name ∷ names) = ap suc (prefix_count (before ++ name ∷ []) names)

prefix_none : (names : Dotted) (i : ℕ) → length names ≤ i → drop i (prefixes_behind [] names) ≡ []
prefix_none names i h = drop_all i (prefixes_behind [] names) (rw (prefix_count [] names) h)

-- the look for the next one
module _ (paths : List (List ℕ)) (importer : List ℕ) (names : Dotted) (i : ℕ) where
  found_step : i < length names → found_from paths importer i (drop i (prefixes_behind [] names)) ≡ found_by (source_path paths importer (take (i + 1) names)) (i + 1) (found_from paths importer (i + 1) (drop (i + 1) (prefixes_behind [] names)))
  found_step w = ap (λ (ds : List Dotted). found_from paths importer i ds) (prefix_at names i w)

  pub found_here : (path : List ℕ) → i < length names → Some path ≡ source_path paths importer (take (i + 1) names)
      → found_from paths importer i (drop i (prefixes_behind [] names)) ≡ Some (record { path = path; looked = i + 1 })
  found_here path w is = found_step w ∙ ap (λ (p : Option (List ℕ)). found_by p (i + 1) (found_from paths importer (i + 1) (drop (i + 1) (prefixes_behind [] names)))) (sym is)

  pub found_on : i < length names → None ≡ source_path paths importer (take (i + 1) names)
      → found_from paths importer i (drop i (prefixes_behind [] names)) ≡ found_from paths importer (i + 1) (drop (i + 1) (prefixes_behind [] names))
  found_on w is = found_step w ∙ ap (λ (p : Option (List ℕ)). found_by p (i + 1) (found_from paths importer (i + 1) (drop (i + 1) (prefixes_behind [] names)))) (sym is)

  pub found_none : length names ≤ i → found_from paths importer i (drop i (prefixes_behind [] names)) ≡ None
  found_none h = ap (λ (ds : List Dotted). found_from paths importer i ds) (prefix_none names i h)

-- where none is there: the last one is the whole dotted name
last_behind : (before names : Dotted) (i : ℕ) (m : Option Value) → i < length names → last_value (drop i (prefixes_behind before names)) m ≡ built_in (is_pytest (before ++ names))
last_behind before [] i m w = absurd (omega arith)
last_behind before (name ∷ []) zero m w = refl
last_behind before (name ∷ []) (suc i) m w = absurd (omega arith)
last_behind before (name ∷ (next ∷ rest)) zero m w =
    last_behind (before ++ name ∷ []) (next ∷ rest) zero (built_in (is_pytest (before ++ name ∷ []))) (omega arith)
    ∙ ap (λ (d : Dotted). built_in (is_pytest d)) (append_assoc before (name ∷ []) (next ∷ rest))
last_behind before (name ∷ (next ∷ rest)) (suc i) m w =
    last_behind (before ++ name ∷ []) (next ∷ rest) i m (omega arith)
    ∙ ap (λ (d : Dotted). built_in (is_pytest d)) (append_assoc before (name ∷ []) (next ∷ rest))

pub last_own : (names : Dotted) (i : ℕ) (m v : Option Value) → i < length names → v ≡ built_in (is_pytest names) → v ≡ last_value (drop i (prefixes_behind [] names)) m
last_own names i m v w is = is ∙ sym (last_behind [] names i m w)

pub last_same : (names : Dotted) (i : ℕ) (m : Option Value) → length names ≤ i → m ≡ last_value (drop i (prefixes_behind [] names)) m
last_same names i m h = sym (ap (λ (ds : List Dotted). last_value ds m) (prefix_none names i h))

tail_suc : (ps : List Dotted) (at : ℕ) (d : Dotted) (ds : List Dotted) → drop at ps ≡ d ∷ ds → drop (suc at) ps ≡ ds
tail_suc [] zero d ds h = absurd cc
tail_suc [] (suc at) d ds h = absurd cc
tail_suc (p ∷ ps) zero d ds h = cc
tail_suc (p ∷ ps) (suc at) d ds h = tail_suc ps at d ds h

tail_at : (ps : List Dotted) (at : ℕ) (d : Dotted) (ds : List Dotted) → drop at ps ≡ d ∷ ds → drop (at + 1) ps ≡ ds
tail_at ps at d ds h = rw add-one (tail_suc ps at d ds h)

-- what the meaning does, behind the look
module _ (p : Site) (s : CoreState) (k : CoreThen) (go : Option Value → CoreState → CoreRest) (ps : List Dotted) where
  abbrev behind_look : Option NextModule → List Dotted → Option Value → CoreRest
  behind_look (Some f) ds m = load_part core_body f.path (faulty f.path) p s (λ o. on_value o k (λ v s. modules_at core_body (drop f.looked ps) (Some v) p s k go))
  behind_look None ds m = go (last_value ds m) s

  abbrev look : ℕ → List Dotted → Option NextModule
  look at ds = found_from (source_paths s.world.sources) p.scene.path at ds

  passed : (b : Bool) (f : Option NextModule) (d : Dotted) (ds : List Dotted) (m : Option Value) → b ≡ is_pytest d → behind_look f ds (built_in b) ≡ behind_look f (d ∷ ds) m
  passed b (Some f) d ds m h = refl
  passed b None d ds m h = ap (λ (x : Bool). go (last_value ds (built_in x)) s) h

  abbrev onto : List Dotted → Option Value → CoreState → CoreRest
  onto ds m s = modules_at core_body ds m p s k go

  walk_by : (b : Bool) (o : Option (List ℕ)) (at : ℕ) (d : Dotted) (ds : List Dotted) (m : Option Value) → drop at ps ≡ d ∷ ds → b ≡ is_pytest d
      → o ≡ import_path (source_paths s.world.sources) p.scene.path d → ((v : Option Value) → onto ds v s ≡ behind_look (look (at + 1) ds) ds v)
      → pytest_or core_body b d p s k (onto ds) ≡ behind_look (found_by (source_unless b o) (at + 1) (look (at + 1) ds)) (d ∷ ds) m
  walk_by true o at d ds m h own is rest = rest (built_in true) ∙ passed true (look (at + 1) ds) d ds m own
  walk_by false (Some path) at d ds m h own is rest =
      ap (λ (x : Option (List ℕ)). module_at core_body x p s k (onto ds)) (sym is)
      ∙ ap (λ (xs : List Dotted). load_part core_body path (faulty path) p s (λ o. on_value o k (λ v s. modules_at core_body xs (Some v) p s k go))) (sym (tail_at ps at d ds h))
  walk_by false None at d ds m h own is rest =
      ap (λ (x : Option (List ℕ)). module_at core_body x p s k (onto ds)) (sym is) ∙ (rest None ∙ passed false (look (at + 1) ds) d ds m own)

  walk : (at : ℕ) (ds : List Dotted) (m : Option Value) → drop at ps ≡ ds → modules_at core_body ds m p s k go ≡ behind_look (look at ds) ds m
  walk at [] m h = refl
  walk at (d ∷ ds) m h =
      walk_by (is_pytest d) (import_path (source_paths s.world.sources) p.scene.path d) at d ds m h refl refl (λ v. walk (at + 1) ds v (tail_at ps at d ds h))

  pub walks : (at : ℕ) (m : Option Value) → modules_at core_body (drop at ps) m p s k go ≡ behind_look (look at (drop at ps)) (drop at ps) m
  walks at m = walk at (drop at ps) m refl

  pub walks_to : (at : ℕ) (m : Option Value) (f : NextModule) → Some f ≡ look at (drop at ps)
      → modules_at core_body (drop at ps) m p s k go ≡ load_part core_body f.path (faulty f.path) p s (λ o. on_value o k (λ v s. modules_at core_body (drop f.looked ps) (Some v) p s k go))
  walks_to at m f is = walks at m ∙ ap (λ (x : Option NextModule). behind_look x (drop at ps) m) (sym is)

  pub walks_over : (at : ℕ) (m v : Option Value) → None ≡ look at (drop at ps) → v ≡ last_value (drop at ps) m → modules_at core_body (drop at ps) m p s k go ≡ go v s
  walks_over at m v is last = walks at m ∙ ap (λ (x : Option NextModule). behind_look x (drop at ps) m) (sym is) ∙ ap (λ (y : Option Value). go y s) (sym last)
