-- Names are imported from a module.
use Rattle.std.proofs.Common.{◌≡◌, ◌<◌, ◌≤◌, ◌+◌, ◌∙◌, ℕ, Bool, true, false, List, [], ◌∷◌, ◌++◌, length, drop, get_or, Option, Some, None, refl, sym, ap}
use Rattle.std.proofs.lemmas.List.{drop_all, drop_more}
use Rattle.py_tree.specs.declared.stmt.Alias.{Alias}
use Rattle.py_values.specs.declared.value.Value.{Value}
use Rattle.machine_state.specs.py_world.Imports.{alias_name, import_each, is_pytest, modules_at, name_of_module, not_imported, own_or_submodule, prefixes_behind, submodule}
use Rattle.machine_state.specs.py_world.Names.{bound}
use Rattle.machine_state.specs.py_world.Outcome.{Next, raised_at}
use Rattle.machine_state.specs.py_world.Site.{Site}
use Rattle.machine_state.specs.py_world.World.{heap_of}
use Rattle.machine_state.specs.core_meaning.Statements.{core_body}
use Rattle.machine_state.specs.Places.{CoreState, CoreThen}
use Rattle.machine_state.specs.Definings.{each_behind}
use Rattle.machine_import.specs.Names.{named_behind, not_there, submodule_behind}

pub names_from : (all : List Alias) (i : ℕ) (a : Alias) → i < length all → a ≡ get_or all i a → drop i all ≡ a ∷ drop (i + 1) all
names_from all i a w h = drop_more all i a w ∙ ap (λ (y : Alias). y ∷ drop (i + 1) all) (sym h)

-- there is no module of a name in another
pub none_there : (m : Option Value) (dotted : List (List ℕ)) (a : Alias) (rest : List Alias) (p : Site) (s : CoreState) (k : CoreThen)
    → submodule_behind m dotted a rest None p s k ≡ k (raised_at (not_there m dotted a.name) p s)
none_there (Some m) dotted a rest p s k = refl
none_there None dotted a rest p s k = refl

module _ (m : Option Value) (dotted : List (List ℕ)) (p : Site) (s : CoreState) (k : CoreThen) where
  -- a name of the module's own
  pub own_there : (all : List Alias) (i : ℕ) (a : Alias) (v : Value) → i < length all → a ≡ get_or all i a → Some v ≡ name_of_module (heap_of s) a.name m
      → import_each core_body m dotted (drop i all) p s k ≡ import_each core_body m dotted (drop (i + 1) all) p (bound (alias_name a) v p.scene s) k
  own_there all i a v w h is =
      ap (λ (names : List Alias). import_each core_body m dotted names p s k) (names_from all i a w h)
      ∙ ap (λ (x : Option Value). own_or_submodule core_body x m dotted a.name p s k (λ v s. import_each core_body m dotted (drop (i + 1) all) p (bound (alias_name a) v p.scene s) k)) (sym is)

  -- one that is not
  missing : (all : List Alias) (i : ℕ) (a : Alias) → i < length all → a ≡ get_or all i a → None ≡ name_of_module (heap_of s) a.name m
      → import_each core_body m dotted (drop i all) p s k
      ≡ submodule core_body (is_pytest dotted) m dotted a.name p s k (λ v s. import_each core_body m dotted (drop (i + 1) all) p (bound (alias_name a) v p.scene s) k)
  missing all i a w h is =
      ap (λ (names : List Alias). import_each core_body m dotted names p s k) (names_from all i a w h)
      ∙ ap (λ (x : Option Value). own_or_submodule core_body x m dotted a.name p s k (λ v s. import_each core_body m dotted (drop (i + 1) all) p (bound (alias_name a) v p.scene s) k)) (sym is)

  pub own_missing : (all : List Alias) (i : ℕ) (a : Alias) → i < length all → a ≡ get_or all i a → None ≡ name_of_module (heap_of s) a.name m → is_pytest dotted ≡ false
      → import_each core_body m dotted (drop i all) p s k ≡ named_behind m dotted (drop i all) 0 None p s k
  own_missing all i a w h is other =
      missing all i a w h is
      ∙ ap (λ (b : Bool). submodule core_body b m dotted a.name p s k (λ v s. import_each core_body m dotted (drop (i + 1) all) p (bound (alias_name a) v p.scene s) k)) other
      ∙ ap (λ (names : List Alias). named_behind m dotted names 0 None p s k) (sym (names_from all i a w h))

  -- one that the built-in module does not have
  pub own_refused : (all : List Alias) (i : ℕ) (a : Alias) → i < length all → a ≡ get_or all i a → None ≡ name_of_module (heap_of s) a.name m → is_pytest dotted ≡ true
      → import_each core_body m dotted (drop i all) p s k ≡ k (raised_at (not_imported a.name) p s)
  own_refused all i a w h is other =
      missing all i a w h is
      ∙ ap (λ (b : Bool). submodule core_body b m dotted a.name p s k (λ v s. import_each core_body m dotted (drop (i + 1) all) p (bound (alias_name a) v p.scene s) k)) other

  -- the first of the names that are left
  pub named_first : (all : List Alias) (i : ℕ) (a : Alias) (from : ℕ) (last : Option Value) → i < length all → a ≡ get_or all i a
      → named_behind m dotted (drop i all) from last p s k
      ≡ modules_at core_body (drop from (prefixes_behind [] (dotted ++ a.name ∷ []))) last p s k (λ x s. submodule_behind m dotted a (drop (i + 1) all) x p s k)
  named_first all i a from last w h = ap (λ (names : List Alias). named_behind m dotted names from last p s k) (names_from all i a w h)

  -- none is left
  pub names_over : (all : List Alias) (i : ℕ) → length all ≤ i → import_each core_body m dotted (drop i all) p s k ≡ k (Next s)
  names_over all i h = ap (λ (names : List Alias). import_each core_body m dotted names p s k) (drop_all i all h)

  pub each_over : (all : List Alias) (i from : ℕ) (v : Value) → length all ≤ i → each_behind m dotted (drop i all) from p v s k ≡ k (Next s)
  each_over all i from v h = ap (λ (names : List Alias). each_behind m dotted names from p v s k) (drop_all i all h)

  pub each_is : (all : List Alias) (from : ℕ) (v : Value) → each_behind m dotted all from p v s k ≡ named_behind m dotted all from (Some v) p s k
  each_is [] from v = refl
  each_is (a ∷ rest) from v = refl
