-- What the frames of definitions and of imports do with the ends of the parts above them.
use Rattle.std.specs.Prelude.{ℕ, ◌+◌, List, [], ◌∷◌, ◌++◌, length, drop, Option, Some}
use Rattle.py_tree.specs.declared.stmt.Alias.{Alias}
use Rattle.py_core.specs.declared.stmt.CoreClass as class
use Rattle.py_core.specs.declared.stmt.CoreFn as fn
use Rattle.py_values.specs.declared.value.ObjId.{ObjId}
use Rattle.py_values.specs.declared.value.Value.{Value}
use Rattle.py_values.specs.declared.value.Value.TheVariants as val
use Rattle.py_values.specs.Ends.{id_at}
use Rattle.core_meaning.specs.py_world.World.{heap_of}
use Rattle.core_meaning.specs.py_world.Site.{Site}
use Rattle.core_meaning.specs.py_world.Outcome.{Next, on_value}
use Rattle.core_meaning.specs.py_world.Expressions.{arguments}
use Rattle.py_items.specs.py_kinds.Classes.{is_exc_class}
use Rattle.core_meaning.specs.py_world.Names.{bound}
use Rattle.core_meaning.specs.py_world.Definitions.{with_defaults, define_as, define_behind, function_made, based_on, class_behind_decorators, class_made}
use Rattle.core_meaning.specs.py_world.Imports.{alias_name, prefixes_behind, modules_at, import_end, import_each, submodule_or}
use Rattle.core_meaning.specs.py_world.Runs.{module_end}
use Rattle.core_meaning.specs.Expressions.{CorePart}
use Rattle.core_meaning.specs.Statements.{core_block_body, core_body, some_part, written}
use Rattle.machine_state.specs.declared.frame.DefineFrame.{DefineFrame}
use Rattle.machine_state.specs.declared.frame.DefineFrame.TheVariants as define
use Rattle.machine_state.specs.declared.frame.ModuleFrame.{ModuleFrame}
use Rattle.machine_state.specs.declared.frame.ModuleFrame.TheVariants as loads
use Rattle.machine_state.specs.Places.{CoreState, CoreOutcome, CoreRest, CoreThen, parts_from}

-- behind the decorators of a function: its defaults
abbrev pub fn_behind : List CorePart → fn.CoreFn → List Value → CorePart
fn_behind es (fn.CoreFn' source at name params locals yields p body) ds =
    define_behind es (written params.value.items) name at.line yields (fn.CoreFn' source at name params locals yields p body) ds

-- behind these too
abbrev pub fn_made : fn.CoreFn → List Value → List Value → CorePart
fn_made (fn.CoreFn' source at name params locals yields p body) ds vs =
    function_made name at.line yields (fn.CoreFn' source at name params locals yields p body) ds (with_defaults (written params.value.items) vs)

-- behind the decorators of a class: its base
abbrev pub core_class_behind : Option CorePart → class.CoreClass → List Value → CorePart
core_class_behind base (class.CoreClass' at name p body) ds = class_behind_decorators base name at.line (core_block_body [] body) ds

-- behind its base too
abbrev pub core_class_made : class.CoreClass → List Value → Option ObjId → CorePart
core_class_made (class.CoreClass' at name p body) ds base = class_made name at.line (core_block_body [] body) ds base

abbrev pub on_define : DefineFrame → Site → Value → CoreState → CoreThen → CoreRest
on_define (define.Decorator ds es function vs) p v s k =
    arguments (parts_from (length vs.items + 1) ds) (vs.items ++ v ∷ []) p s k (λ ds s. fn_behind (parts_from 0 es) function.value ds p s k)
on_define (define.Default ds es function vs) p v s k =
    arguments (parts_from (length vs.items + 1) es) (vs.items ++ v ∷ []) p s k (λ vs s. fn_made function.value ds.items vs p s k)
on_define (define.ClassDecorator ds base class vs) p v s k =
    arguments (parts_from (length vs.items + 1) ds) (vs.items ++ v ∷ []) p s k (λ ds s. core_class_behind (some_part base) class.value ds p s k)
on_define (define.Base ds class) p v s k = based_on (is_exc_class (heap_of s) v) v p s k (λ b s. core_class_made class.value ds.items b p s k)
on_define (define.Body ds name at) p v s k = define_as ds.items name (val.Ref (id_at at)) p s k

-- the beginnings of a dotted name that are still to be looked for, behind the module of the one before
abbrev pub modules_behind : List (List ℕ) → ℕ → Value → Site → CoreState → CoreThen → (Option Value → CoreState → CoreRest) → CoreRest
modules_behind dotted n m p s k go = modules_at core_body (drop n (prefixes_behind [] dotted)) (Some m) p s k go

-- the first of these names is imported from a module, and then the others
abbrev pub each_behind : Option Value → List (List ℕ) → List Alias → ℕ → Site → Value → CoreState → CoreThen → CoreRest
each_behind m dotted [] n p v s k = k (Next s)
each_behind m dotted (a ∷ rest) n p v s k =
    modules_behind (dotted ++ a.name ∷ []) n v p s k
    (λ x s. submodule_or x m dotted a.name p s k (λ w s. import_each core_body m dotted rest p (bound (alias_name a) w p.scene s) k))

abbrev pub on_module : ModuleFrame → Site → CoreOutcome → CoreThen → CoreRest
on_module (loads.Load path at) p o k = k (module_end path at o)
on_module (loads.Import dotted n name) p o k =
    on_value o k (λ m s. modules_behind dotted.value.items n m p s k (λ m s. k (import_end m dotted.value.items name p s)))
on_module (loads.From dotted n all) p o k =
    on_value o k (λ m s. modules_behind dotted.value.items n m p s k (λ m s. import_each core_body m dotted.value.items all.value.items p s k))
on_module (loads.Each m dotted all i n) p o k =
    on_value o k (λ v s. each_behind m dotted.value.items (drop i all.value.items) n p v s k)
