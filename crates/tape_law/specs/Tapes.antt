-- The tapes of loads, begins and resumptions: the positions of the expressions that began, in order.
use Rattle.std.specs.Prelude.{ℕ, List, [], Option, Some, None}
use Rattle.run_tree.specs.Todo.{run}
use Rattle.py_source.specs.declared.pos.Pos.{Pos}
use Rattle.py_values.specs.declared.value.Value.{Value}
use Rattle.lower_law.specs.py_world.declared.load.Load.{Load}
use Rattle.lower_law.specs.py_world.World.{Kinds, World, Frozen}
use Rattle.lower_law.specs.py_world.Outcome.{Rest}
use Rattle.lower_law.specs.py_world.Calls.{Meaning, body_of}
use Rattle.lower_law.specs.py_world.Runs.{coded, load_at, loading, source_at, start}
use Rattle.lower_law.specs.py_world.Resuming.{Sent, abandon_of, frozen_at, opened_by_runner, resumed}

module _ {K : Kinds} (meaning : Meaning K) where
  -- the tape of a run
  abbrev pub tape_of : ℕ → Rest K → List Pos
  tape_of budget tree = (run (body_of meaning) budget tree).0

  -- of the first load of a source's code
  abbrev pub first_tape : Option K.script → List ℕ → ℕ → World K → List Pos
  first_tape None path budget w = []
  first_tape (Some code) path budget w = tape_of budget (loading meaning path code w)

  abbrev pub tape_by : Option Load → List ℕ → ℕ → World K → List Pos
  tape_by (Some load) path budget w = []
  tape_by None path budget w = first_tape (coded (source_at path w.sources)) path budget w

  -- OF A LOAD, which runs nothing where the module is known
  abbrev pub load_tape : List ℕ → ℕ → World K → List Pos
  load_tape path budget w = tape_by (load_at path w.modules) path budget w

  -- OF A BEGIN
  abbrev pub begin_tape : Value → List Value → ℕ → World K → List Pos
  begin_tape f args budget w = tape_of budget (opened_by_runner meaning f args (start w))

  abbrev pub frame_tape : Option (Frozen K.rest) → ℕ → Sent → ℕ → World K → List Pos
  frame_tape None n sent budget w = []
  frame_tape (Some f) n sent budget w = tape_of budget (resumed meaning f sent (abandon_of n w))

  -- OF A RESUMPTION, which runs nothing where the frame isn't out
  abbrev pub resume_tape : ℕ → Sent → ℕ → World K → List Pos
  resume_tape n sent budget w = frame_tape (frozen_at n w) n sent budget w
