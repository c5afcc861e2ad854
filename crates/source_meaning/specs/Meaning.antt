-- WHAT SOURCE CODE DOES, with any budget: a call by the runner, the load of a module, and the begin and the resumption of a body that
-- yields.
use Rattle.std.specs.Prelude.{ℕ, List}
use Rattle.py_values.specs.declared.value.Value.{Value}
use Rattle.source_meaning.specs.Requests.{source_kinds}
use Rattle.source_meaning.specs.Statements.{source_entry, source_act, script_body, source_remains}
use Rattle.py_world.specs.World.{World}
use Rattle.py_world.specs.Calls.{Meaning}
use Rattle.py_world.specs.Runs.{Told, call_of, module_load}
use Rattle.py_world.specs.Resuming.{Sent, ToldBegun, begin_of, resume_of}

abbrev pub SourceWorld : Type 0
SourceWorld = World source_kinds

abbrev pub source_semantics : Meaning source_kinds
source_semantics = record { entry = source_entry; act = source_act; body = script_body; remains = source_remains }

abbrev pub source_call : Value → List Value → ℕ → SourceWorld → Told source_kinds
source_call f args budget w = call_of source_semantics f args budget w

abbrev pub source_module : List ℕ → ℕ → SourceWorld → Told source_kinds
source_module path budget w = module_load source_semantics path budget w

abbrev pub source_begin : Value → List Value → ℕ → SourceWorld → ToldBegun source_kinds
source_begin f args budget w = begin_of source_semantics f args budget w

-- of the frozen frame of a number
abbrev pub source_resume : ℕ → Sent → ℕ → SourceWorld → ToldBegun source_kinds
source_resume n sent budget w = resume_of source_semantics n sent budget w
