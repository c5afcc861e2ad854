-- THE LOAD OF A FILE.
use Rattle.std.specs.Prelude.{ℕ, List, Option, Some, None, Result, Ok, Err}
use Rattle.py_source.specs.declared.fault.SourceFault.{SourceFault}
use Rattle.py_source.specs.declared.fault.SourceFault.TheVariants as source
use Rattle.py_values.specs.declared.value.ObjId.{ObjId}
use Rattle.py_values.specs.declared.value.Value.{Value}
use Rattle.py_values.specs.declared.value.Value.TheVariants as val
use Rattle.py_world.specs.Runs.{Told, source_at}
use Rattle.py_world.specs.declared.ended.Outcome.{Outcome}
use Rattle.py_world.specs.declared.ended.Outcome.TheVariants as out
use Rattle.py_machine.specs.Worlds.{fault_of}
use Rattle.assert_rewrite.specs.source_meaning.Requests.{source_kinds}
use Rattle.assert_rewrite.specs.source_meaning.Meaning.{SourceWorld, source_module}
use Rattle.py_load.specs.declared.error.LoadError.{LoadError}
use Rattle.py_load.specs.declared.error.LoadError.TheVariants.{Syntax, NotUtf8, Raised, Exhausted, OutOfMemory}

-- what a load gives: a module, or why there is none
abbrev pub LoadEnd : Type 0
LoadEnd = Result Value LoadError

abbrev pub fault_error : SourceFault → LoadError
fault_error (source.Syntax at kind) = Syntax at kind
fault_error (source.NotUtf8 line) = NotUtf8 line

-- the end of a module's run
abbrev pub run_end : Outcome → LoadEnd
run_end (out.Value v) = Ok v
run_end (out.Raised thrown) = Err (Raised thrown)
run_end (out.Exhausted trace) = Err (Exhausted trace)

abbrev pub after_run : Told source_kinds → LoadEnd × SourceWorld
after_run t = (run_end t.0.out, t.1)

abbrev pub load_unless : Option SourceFault → List ℕ → ℕ → SourceWorld → LoadEnd × SourceWorld
load_unless (Some fault) path budget w = (Err (fault_error fault), w)
load_unless None path budget w = after_run (source_module path budget w)

-- A SOURCE IS LOADED, within a budget of steps: one that has a fault is not executed and changes nothing, and is told by its fault, also
-- where an import met it before; another is executed, once
abbrev pub load_of : List ℕ → ℕ → SourceWorld → LoadEnd × SourceWorld
load_of path budget w = load_unless (fault_of (source_at path w.sources)) path budget w

-- the end that an answer tells
abbrev pub end_told : Result ObjId LoadError → Option LoadEnd
end_told (Ok id) = Some (Ok (val.Ref id))
end_told (Err (Syntax at kind)) = Some (Err (Syntax at kind))
end_told (Err (NotUtf8 line)) = Some (Err (NotUtf8 line))
end_told (Err (Raised thrown)) = Some (Err (Raised thrown))
end_told (Err (Exhausted trace)) = Some (Err (Exhausted trace))
end_told (Err OutOfMemory) = None
