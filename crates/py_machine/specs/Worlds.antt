-- How the calls change a world, and what they tell of it.
use Rattle.std.specs.Prelude.{ℕ, List, [], ◌∷◌, ◌++◌, Option, Some, None, Result, Ok, Err}
use Rattle.std.specs.Borrow.{Bor}
use Rattle.py_source.specs.declared.fault.SourceFault.{SourceFault}
use Rattle.lower_law.specs.source_meaning.Requests.{Script}
use Rattle.py_core.specs.declared.stmt.Core.{Core}
use Rattle.py_values.specs.declared.object.Obj.{Obj}
use Rattle.py_values.specs.declared.object.Obj.TheVariants as obj
use Rattle.py_values.specs.declared.value.Value.{Value}
use Rattle.lower_law.specs.py_world.World.{CodedSource, CodeOrFault, Code, Fault}
use Rattle.py_kinds.specs.Builtins.{first_heap}
use Rattle.lower_law.specs.source_meaning.Meaning.{SourceWorld}
use Rattle.lower_law.specs.Sourced.{module_of}
use Rattle.lower_law.specs.Lowered.{LoweredModule}

abbrev pub empty : SourceWorld
empty = record { sources = []; modules = []; heap = first_heap; codes = []; printed = []; frozen = []; traces = [] }

-- the source that a core code carries, or why there is none
abbrev pub carried_source : Result Core SourceFault → CodeOrFault Script
carried_source (Ok core) = Code (module_of core)
carried_source (Err fault) = Fault fault

-- a core code that stands for the source that it carries
abbrev pub IsLowered : Result Core SourceFault → Type 0
IsLowered (Ok core) = LoweredModule (module_of core) core
IsLowered (Err fault) = Unit {0}

-- a code that stands for the source that it carries
abbrev pub Stands : CodeOrFault Core → Type 0
Stands (Code core) = LoweredModule (module_of core) core
Stands (Fault fault) = Unit {0}

abbrev pub with_source : CodedSource Script → SourceWorld → SourceWorld
with_source x w = record { sources = w.sources ++ x ∷ []; modules = w.modules; heap = w.heap; codes = w.codes; printed = w.printed; frozen = w.frozen; traces = w.traces }

-- a world behind want of memory: nothing of its code runs any more, and no frame is out
abbrev pub spent_world : SourceWorld → SourceWorld
spent_world w = record { sources = []; modules = w.modules; heap = w.heap; codes = []; printed = w.printed; frozen = []; traces = w.traces }

module _ {M : Type 0} where
  -- the fault of a source, where it has one
  abbrev pub fault_in : CodeOrFault M → Option SourceFault
  fault_in (Code code) = None
  fault_in (Fault fault) = Some fault

  abbrev pub fault_of : Option (CodedSource M) → Option SourceFault
  fault_of (Some x) = fault_in x.code
  fault_of None = None

-- a module's object
abbrev pub IsModule : Option Obj → Type 0
IsModule (Some (obj.Module m)) = Unit {0}
IsModule (Some (obj.Text x)) = ⊥
IsModule (Some (obj.List x)) = ⊥
IsModule (Some (obj.Tuple x)) = ⊥
IsModule (Some (obj.Dict x)) = ⊥
IsModule (Some (obj.Range x)) = ⊥
IsModule (Some (obj.Function x)) = ⊥
IsModule (Some (obj.Method x)) = ⊥
IsModule (Some (obj.Builtin x)) = ⊥
IsModule (Some (obj.Class x)) = ⊥
IsModule (Some (obj.Instance x)) = ⊥
IsModule (Some (obj.Exception x)) = ⊥
IsModule (Some (obj.Fixture x)) = ⊥
IsModule (Some obj.MarkMaker) = ⊥
IsModule (Some (obj.Mark x)) = ⊥
IsModule (Some (obj.Hook x)) = ⊥
IsModule (Some (obj.Param x)) = ⊥
IsModule (Some (obj.Request x)) = ⊥
IsModule (Some (obj.Raises x)) = ⊥
IsModule (Some (obj.Info x)) = ⊥
IsModule (Some (obj.Item x)) = ⊥
IsModule None = ⊥

abbrev pub told_name : Bor (List ℕ) × Value → List ℕ × Value
told_name (name, v) = (name.now, v)
