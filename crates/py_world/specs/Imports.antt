-- Imports (Language Reference, the import statement; the import system; that the importing file's folder and the root are searched, that
-- a load that has failed raises again, and that `pytest` is always the built-in module, is own).
use Rattle.std.specs.Prelude.{ℕ, Bool, true, false, List, [], ◌∷◌, ◌++◌, map, codes, encode_utf8_all, slice_get, Option, Some, None}
use Rattle.std.specs.Fmt.{decimal}
use Rattle.py_source.specs.Faults.{source_text, source_line}
use Rattle.py_source.specs.declared.fault.SourceFault.{SourceFault}
use Rattle.py_tree.specs.declared.stmt.Alias.{Alias}
use Rattle.py_values.specs.Raises.{text_raise, thrown}
use Rattle.py_values.specs.declared.class.ExcClass.TheVariants.{ImportError, ModuleNotFoundError, SyntaxError}
use Rattle.py_values.specs.declared.end.Raise.{Raise}
use Rattle.py_values.specs.declared.object.Obj.{Obj}
use Rattle.py_values.specs.declared.value.Value.{Value}
use Rattle.py_values.specs.declared.value.Value.TheVariants as val
use Rattle.py_values.specs.Names.{name_eq}
use Rattle.py_calls.specs.py_kinds.Builtins.{pytest_module}
use Rattle.py_calls.specs.py_attributes.Attributes.{own_value}
use Rattle.py_calls.specs.py_items.Items.{object_at}
use Rattle.py_bind.specs.Modules.{module_place}
use Rattle.py_world.specs.declared.load.Load.TheVariants.{Failed}
use Rattle.py_world.specs.World.{Kinds, CallState, CodedSource, CodeOrFault, Code, Fault, heap_of, with_heap}
use Rattle.py_world.specs.Site.{Site, trace_of}
use Rattle.py_world.specs.Names.{bound}
use Rattle.py_world.specs.Outcome.{Outcome, Next, Raised, Rest, Continuation, Denotation, Body, on_value, raised_at}
use Rattle.py_world.specs.Runs.{source_at, with_module_load, load_part}

-- a dotted name as it is written
abbrev pub dotted_text : List (List ℕ) → List ℕ
dotted_text [] = []
dotted_text (name ∷ []) = name
dotted_text (name ∷ (next ∷ rest)) = name ++ (codes "." ++ dotted_text (next ∷ rest))

-- the paths of sources
abbrev pub source_paths : {M : Type 0} → List (CodedSource M) → List (List ℕ)
source_paths [] = []
source_paths (x ∷ xs) = x.path ∷ source_paths xs

abbrev pub path_at : List (List ℕ) → Option ℕ → Option (List ℕ)
path_at paths (Some at) = slice_get paths at
path_at paths None = None

-- THE PATH THAT AN IMPORT NAMES, of these paths: the package or the module, in the importing file's folder or in the root
abbrev pub import_path : List (List ℕ) → List ℕ → List (List ℕ) → Option (List ℕ)
import_path paths importer dotted = path_at paths (module_place (map encode_utf8_all paths) (encode_utf8_all importer) dotted)

-- the dotted names that a dotted name begins with, the shortest one first, each behind what is before it
abbrev pub prefixes_behind : List (List ℕ) → List (List ℕ) → List (List (List ℕ))
prefixes_behind before [] = []
prefixes_behind before (name ∷ names) = (before ++ name ∷ []) ∷ prefixes_behind (before ++ name ∷ []) names

-- whether a dotted name is that of the built-in module
abbrev pub is_pytest : List (List ℕ) → Bool
is_pytest [] = false
is_pytest (name ∷ []) = name_eq name (codes "pytest")
is_pytest (name ∷ (next ∷ rest)) = false

abbrev pub no_module : List (List ℕ) → Raise
no_module dotted = text_raise ModuleNotFoundError (codes "No module named '" ++ (dotted_text dotted ++ codes "'"))

abbrev pub not_imported : List ℕ → Raise
not_imported name = text_raise ImportError (codes "cannot import name '" ++ (name ++ codes "'"))

abbrev pub source_error : List ℕ → SourceFault → Raise
source_error path f = text_raise SyntaxError (source_text f ++ (codes " (" ++ (path ++ (codes ", line " ++ (decimal (source_line f) ++ codes ")")))))

abbrev pub code_fault : {M : Type 0} → CodeOrFault M → Option SourceFault
code_fault (Code m) = None
code_fault (Fault f) = Some f

abbrev pub fault_in : {M : Type 0} → Option (CodedSource M) → Option SourceFault
fault_in (Some x) = code_fault x.code
fault_in None = None

-- the name that an import binds: the one behind `as`, or else the first of the dotted name
abbrev pub import_name : List (List ℕ) → Option (List ℕ) → List ℕ
import_name dotted (Some alias) = alias
import_name [] None = []
import_name (name ∷ names) None = name

abbrev pub alias_name : Alias → List ℕ
alias_name a = import_name (a.name ∷ []) a.alias

-- the value of a name of a module
abbrev pub name_of_module : List Obj → List ℕ → Option Value → Option Value
name_of_module heap name (Some m) = own_value name (object_at heap m)
name_of_module heap name None = None

module _ {K : Kinds} where
  -- a load that fails with a new exception, which each further import raises again
  abbrev pub failing : List ℕ → Value × List Obj → Site → CallState K → Outcome K
  failing path e p s = Raised e.0 (trace_of p) (with_module_load path (Failed e.0 (trace_of p)) (with_heap e.1 s))

  -- a source with a fault is not executed
  abbrev pub faulty_by : Option SourceFault → List ℕ → Site → CallState K → Outcome K
  faulty_by (Some f) path p s = failing path (thrown (source_error path f) (heap_of s)) p s
  faulty_by None path p s = raised_at (no_module (path ∷ [])) p s

  abbrev pub faulty : List ℕ → Denotation K
  faulty path p s k = k (faulty_by (fault_in (source_at path s.world.sources)) path p s)

  -- how an `import` ends
  abbrev pub import_end : Option Value → List (List ℕ) → List ℕ → Site → CallState K → Outcome K
  import_end (Some m) dotted name p s = Next (bound name m p.scene s)
  import_end None dotted name p s = raised_at (no_module dotted) p s

  -- what a name that is no module's own imports: the module of that name in it
  abbrev pub submodule_or : Option Value → Option Value → List (List ℕ) → List ℕ → Site → CallState K → Continuation K → (Value → CallState K → Rest K) → Rest K
  submodule_or (Some v) m dotted name p s k go = go v s
  submodule_or None (Some m) dotted name p s k go = k (raised_at (not_imported name) p s)
  submodule_or None None dotted name p s k go = k (raised_at (no_module dotted) p s)

module _ {K : Kinds} (body : K.script → Body K) where
  -- the module of a dotted name, where there is a source of it
  abbrev pub module_at : Option (List ℕ) → Site → CallState K → Continuation K → (Option Value → CallState K → Rest K) → Rest K
  module_at None p s k go = go None s
  module_at (Some path) p s k go = load_part body path (faulty path) p s (λ o. on_value o k (λ m s. go (Some m) s))

  -- the built-in module is there, and never loaded
  abbrev pub pytest_or : Bool → List (List ℕ) → Site → CallState K → Continuation K → (Option Value → CallState K → Rest K) → Rest K
  pytest_or true d p s k go = go (Some (val.Ref pytest_module)) s
  pytest_or false d p s k go = module_at (import_path (source_paths s.world.sources) p.scene.path d) p s k go

  -- dotted names one after another; the last one's module is given
  abbrev pub modules_at : List (List (List ℕ)) → Option Value → Site → CallState K → Continuation K → (Option Value → CallState K → Rest K) → Rest K
  modules_at [] m p s k go = go m s
  modules_at (d ∷ ds) m p s k go = pytest_or (is_pytest d) d p s k (λ m s. modules_at ds m p s k go)

  -- the module of a dotted name; each dotted name that it begins with is loaded before, where it is a module
  abbrev pub imported : List (List ℕ) → Site → CallState K → Continuation K → (Option Value → CallState K → Rest K) → Rest K
  imported dotted p s k go = modules_at (prefixes_behind [] dotted) None p s k go

  -- THE `import` STATEMENT
  abbrev pub import_statement : List (List ℕ) → Option (List ℕ) → Denotation K
  import_statement dotted alias p s k = imported dotted p s k (λ m s. k (import_end m dotted (import_name dotted alias) p s))

  -- the module of a name in another module; the built-in module has none
  abbrev pub submodule : Bool → Option Value → List (List ℕ) → List ℕ → Site → CallState K → Continuation K → (Value → CallState K → Rest K) → Rest K
  submodule true m dotted name p s k go = k (raised_at (not_imported name) p s)
  submodule false m dotted name p s k go = imported (dotted ++ name ∷ []) p s k (λ n s. submodule_or n m dotted name p s k go)

  -- a name that is imported: the module's own, or else the module of that name in it
  abbrev pub own_or_submodule : Option Value → Option Value → List (List ℕ) → List ℕ → Site → CallState K → Continuation K → (Value → CallState K → Rest K) → Rest K
  own_or_submodule (Some v) m dotted name p s k go = go v s
  own_or_submodule None m dotted name p s k go = submodule (is_pytest dotted) m dotted name p s k go

  -- names of a module are imported in turn
  abbrev pub import_each : Option Value → List (List ℕ) → List Alias → Denotation K
  import_each m dotted [] p s k = k (Next s)
  import_each m dotted (a ∷ rest) p s k =
      own_or_submodule (name_of_module (heap_of s) a.name m) m dotted a.name p s k (λ v s. import_each m dotted rest p (bound (alias_name a) v p.scene s) k)

  -- THE `from` .. `import` STATEMENT
  abbrev pub import_from : List (List ℕ) → List Alias → Denotation K
  import_from dotted all p s k = imported dotted p s k (λ m s. import_each m dotted all p s k)
