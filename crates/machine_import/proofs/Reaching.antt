-- What the beginnings of a dotted name lead to, and what follows there.
use Rattle.std.proofs.Common.{◌≡◌, ◌<◌, ◌+◌, ◌∙◌, ℕ, List, [], ◌∷◌, ◌++◌, length, drop, get_or, Option, Some, None, refl, sym, ap, subst}
use Rattle.std.specs.declared.alloc.Global.{Global}
use Rattle.std.specs.declared.rc.Rc.{Rc}
use Rattle.std.specs.declared.vec.Vec.{Vec}
use Rattle.py_tree.specs.declared.stmt.Alias.{Alias}
use Rattle.py_values.specs.declared.value.Value.{Value}
use Rattle.machine_state.specs.py_world.Imports.{faulty, import_each, import_end, import_from, import_name, import_statement, modules_at, prefixes_behind}
use Rattle.machine_state.specs.py_world.Outcome.{on_value}
use Rattle.machine_state.specs.py_world.Runs.{load_part}
use Rattle.machine_state.specs.py_world.Site.{Site}
use Rattle.machine_state.specs.core_meaning.Statements.{core_body}
use Rattle.machine_state.specs.declared.frame.ModuleFrame.TheVariants as loads
use Rattle.machine_state.specs.declared.machine.Machine.{Machine}
use Rattle.machine_state.specs.declared.machine.TurnEnd.{TurnEnd}
use Rattle.machine_state.specs.Definings.{each_behind, modules_behind, on_module}
use Rattle.machine_state.specs.Places.{CoreRest, CoreState, CoreThen, ends}
use Rattle.machine_state.specs.Frames.{machine_rest, site_now, state_of}
use Rattle.machine_import.specs.declared.walk.NextModule.{NextModule}
use Rattle.machine_import.specs.declared.walk.ImportStep.{ImportStep}
use Rattle.machine_import.specs.declared.walk.ImportStep.TheVariants.{Module, Load}
use Rattle.machine_import.specs.Names.{named_behind, submodule_behind, Imported}
use Rattle.machine_import.specs.Walks.{Reaches}
use Rattle.machine_import.proofs.Named.{named_first, names_from}

pub reached_as : (r r' : ImportStep) (d d' : List (List ℕ)) (from : ℕ) (last : Option Value) (m : Machine) → r ≡ r' → d ≡ d' → Reaches r d from last m → Reaches r' d' from last m
reached_as r r' d d' from last m is same h = subst (λ (x : List (List ℕ)). Reaches r' x from last m) same (subst (λ (x : ImportStep). Reaches x d from last m) is h)

-- an import begins with the first beginning of its dotted name
pub import_starts : (n : ℕ) (dotted copied seen : List (List ℕ)) (name : List ℕ) (alias : Option (List ℕ)) (p : Site) (s : CoreState) (k : CoreThen) → copied ≡ dotted → seen ≡ dotted → name ≡ import_name seen alias
    → ends n (import_statement core_body dotted alias p s k) ≡ ends n (modules_at core_body (drop 0 (prefixes_behind [] copied)) None p s k (λ v s. k (import_end v copied name p s)))
import_starts n dotted copied seen name alias p s k same same1 is = rw (is, same, same1) refl

-- so do names that are imported from a module
pub names_start : (n : ℕ) (dotted copied : List (List ℕ)) (all copies : List Alias) (p : Site) (s : CoreState) (k : CoreThen) → copied ≡ dotted → copies ≡ all
    → ends n (import_from core_body dotted all p s k) ≡ ends n (modules_at core_body (drop 0 (prefixes_behind [] copied)) None p s k (λ v s. import_each core_body v copied copies p s k))
names_start n dotted copied all copies p s k same alike = rw (same, alike) refl

imported_as : (t : Option TurnEnd) (old new : Machine) (u u' : CoreRest) (m : Option Value) (dotted : List (List ℕ)) (rest : List Alias) → u ≡ u' → Imported t old new u' m dotted rest → Imported t old new u m dotted rest
imported_as None old new u u' m dotted rest e h = e ∙ h
imported_as (Some t) old new u u' m dotted rest e h = ap (ends old.left) e ∙ h

module _ (old : Machine) (m : Option Value) (dotted : List (List ℕ)) (all : List Alias) (at : ℕ) (a : Alias) (from : ℕ) (last : Option Value) where
  -- all are looked for
  pub submodule_there : (t : Option TurnEnd) (new : Machine) (inner : Option Value) → at < length all → a ≡ get_or all at a → Reaches (Module inner) (dotted ++ a.name ∷ []) from last old
      → ((rest : List Alias) → Imported t old new (submodule_behind m dotted a rest inner (site_now old) (state_of old) (machine_rest old)) m dotted rest)
      → Imported t old new (named_behind m dotted (drop at all) from last (site_now old) (state_of old) (machine_rest old)) m dotted (drop (at + 1) all)
  submodule_there t new inner w h reaches follows =
      imported_as t old new (named_behind m dotted (drop at all) from last (site_now old) (state_of old) (machine_rest old))
      (submodule_behind m dotted a (drop (at + 1) all) inner (site_now old) (state_of old) (machine_rest old)) m dotted (drop (at + 1) all)
      (named_first m dotted (site_now old) (state_of old) (machine_rest old) all at a from last w h
      ∙ reaches (machine_rest old) (λ (x : Option Value) (s : CoreState). submodule_behind m dotted a (drop (at + 1) all) x (site_now old) s (machine_rest old)))
      (follows (drop (at + 1) all))

  each_waits : (dd : Rc (Vec (List ℕ) Global) Global) (aa : Rc (Vec Alias Global) Global) (n : ℕ) (v : Value) (s : CoreState) → dd.value.items ≡ dotted → aa.value.items ≡ all → at < length all → a ≡ get_or all at a
      → modules_behind (dotted ++ a.name ∷ []) n v (site_now old) s (machine_rest old) (λ x s. submodule_behind m dotted a (drop (at + 1) all) x (site_now old) s (machine_rest old))
      ≡ each_behind m dd.value.items (drop at aa.value.items) n (site_now old) v s (machine_rest old)
  each_waits dd aa n v s same same1 w h =
      sym (ap (λ (names : List Alias). each_behind m dotted names n (site_now old) v s (machine_rest old)) (names_from all at a w h))
      ∙ ap (λ (d : List (List ℕ)). each_behind m d (drop at all) n (site_now old) v s (machine_rest old)) (sym same)
      ∙ ap (λ (names : List Alias). each_behind m dd.value.items (drop at names) n (site_now old) v s (machine_rest old)) (sym same1)

  -- one is loaded next
  pub submodule_loads : (dd : Rc (Vec (List ℕ) Global) Global) (aa : Rc (Vec Alias Global) Global) (f : NextModule) → dd.value.items ≡ dotted → aa.value.items ≡ all → at < length all → a ≡ get_or all at a
      → Reaches (Load f) (dotted ++ a.name ∷ []) from last old
      → named_behind m dotted (drop at all) from last (site_now old) (state_of old) (machine_rest old)
      ≡ load_part core_body f.path (faulty f.path) (site_now old) (state_of old) (λ o. on_module (loads.Each m dd aa at f.looked) (site_now old) o (machine_rest old))
  submodule_loads dd aa f same same1 w h reaches =
      named_first m dotted (site_now old) (state_of old) (machine_rest old) all at a from last w h
      ∙ reaches (machine_rest old) (λ (x : Option Value) (s : CoreState). submodule_behind m dotted a (drop (at + 1) all) x (site_now old) s (machine_rest old))
      ∙ ap (λ (go : Value → CoreState → CoreRest). load_part core_body f.path (faulty f.path) (site_now old) (state_of old) (λ o. on_value o (machine_rest old) go))
      (λ i v s. each_waits dd aa f.looked v s same same1 w h i)
