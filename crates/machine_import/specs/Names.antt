-- The names that are imported from a module.
use Rattle.std.specs.Prelude.{◌≡◌, ℕ, ◌+◌, List, [], ◌∷◌, ◌++◌, drop, Option, Some, None}
use Rattle.py_tree.specs.declared.stmt.Alias.{Alias}
use Rattle.py_values.specs.declared.end.Raise.{Raise}
use Rattle.py_values.specs.declared.value.Value.{Value}
use Rattle.machine_state.specs.py_world.Imports.{alias_name, import_each, modules_at, no_module, not_imported, prefixes_behind, submodule_or}
use Rattle.machine_state.specs.py_world.Names.{bound}
use Rattle.machine_state.specs.py_world.Outcome.{Next}
use Rattle.machine_state.specs.py_world.Site.{Site}
use Rattle.machine_state.specs.core_meaning.Statements.{core_body}
use Rattle.machine_state.specs.declared.machine.Machine.{Machine}
use Rattle.machine_state.specs.declared.machine.TurnEnd.{TurnEnd}
use Rattle.machine_state.specs.Places.{CoreRest, CoreState, CoreThen}
use Rattle.machine_state.specs.Frames.{machine_rest, site_now, state_of, Follows}
use Rattle.machine_state.specs.Work.{stack_work, Falls}

-- what is raised for a name that is neither a module's own nor a module in it
abbrev pub not_there : Option Value → List (List ℕ) → List ℕ → Raise
not_there (Some m) dotted name = not_imported name
not_there None dotted name = no_module dotted

-- behind the look for the module of a name in another: it is bound, and the other names follow
abbrev pub submodule_behind : Option Value → List (List ℕ) → Alias → List Alias → Option Value → Site → CoreState → CoreThen → CoreRest
submodule_behind m dotted a rest x p s k =
    submodule_or x m dotted a.name p s k (λ w s. import_each core_body m dotted rest p (bound (alias_name a) w p.scene s) k)

-- the first of some names is the module of that name in another, the beginnings of whose dotted name from a place on are to be looked for
abbrev pub named_behind : Option Value → List (List ℕ) → List Alias → ℕ → Option Value → Site → CoreState → CoreThen → CoreRest
named_behind m dotted [] from last p s k = k (Next s)
named_behind m dotted (a ∷ rest) from last p s k =
    modules_at core_body (drop from (prefixes_behind [] (dotted ++ a.name ∷ []))) last p s k (λ x s. submodule_behind m dotted a rest x p s k)

-- a name is imported and the others follow, or a turn ends
abbrev pub Imported : Option TurnEnd → Machine → Machine → CoreRest → Option Value → List (List ℕ) → List Alias → Type 0
Imported None old new u m dotted rest = u ≡ import_each core_body m dotted rest (site_now new) (state_of new) (machine_rest new)
Imported (Some t) old new u m dotted rest = Follows t new old.left u

abbrev pub LessToDo : Option TurnEnd → Machine → Machine → Type 0
LessToDo None old new = new.stack ≡ old.stack
LessToDo (Some t) old new = Falls t new old.left (1 + stack_work old)
