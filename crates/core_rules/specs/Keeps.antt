-- What a call by the runner, a load, a begin or a resumption keeps of a world.
use Rattle.std.specs.Prelude.{ℕ, ◌≡◌, ◌≤◌, ◌++◌, List, [], ◌∷◌, length, Option, Some, IsSome}
use Rattle.py_values.specs.declared.value.ObjId.{ObjId}
use Rattle.py_values.specs.declared.value.Value.{Value}
use Rattle.source_meaning.specs.py_world.declared.load.Load.TheVariants.{Loaded, Failed}
use Rattle.source_meaning.specs.py_world.declared.trace.TraceFrame.{TraceFrame}
use Rattle.source_meaning.specs.py_world.World.{Kinds, World, FunctionCode, Frozen, world_with_frozen}
use Rattle.source_meaning.specs.py_world.Runs.{load_at}
use Rattle.source_meaning.specs.py_world.Resuming.{BegunOut, Yielded, Over, ToldBegun}

-- ONE WORLD IS KEPT IN ANOTHER: sources and the frozen frames that are out are the same, objects are no fewer, each code of a
-- function and all printed text is still there, a module that was loaded or has failed is so still, and none is forgotten
pub record IsKeptIn {K : Kinds} (w x : World K) : Type 0 where
  pub sources : x.sources ≡ w.sources
  pub frozen : x.frozen ≡ w.frozen
  pub objects : length w.heap ≤ length x.heap
  pub codes : (more : List (FunctionCode K.code)) × (x.codes ≡ w.codes ++ more)
  pub printed : (more : List ℕ) × (x.printed ≡ w.printed ++ more)
  pub loaded : (path : List ℕ) (id : ObjId) → load_at path w.modules ≡ Some (Loaded id) → load_at path x.modules ≡ Some (Loaded id)
  pub failed : (path : List ℕ) (exc : Value) (trace : List TraceFrame) → load_at path w.modules ≡ Some (Failed exc trace) → load_at path x.modules ≡ Some (Failed exc trace)
  pub known : (path : List ℕ) → IsSome (load_at path w.modules) → IsSome (load_at path x.modules)

-- THE FROZEN FRAMES BEHIND a begin or a resumption, by those before it: the same; and where a body has stopped, one more, whose number
-- is the next
abbrev pub FramesBehind : {L : Type 0} → BegunOut → List (Option (Frozen L)) → List (Option (Frozen L)) → Type 0
FramesBehind {L} (Yielded v n) before behind = (f : Frozen L) × (n ≡ length before) × (behind ≡ before ++ Some f ∷ [])
FramesBehind {L} (Over o) before behind = behind ≡ before

-- A BEGIN OR A RESUMPTION KEEPS A WORLD, but for the frozen frames that are out, which are those before it and its own
pub record IsKeptBehind {K : Kinds} (w : World K) (before : List (Option (Frozen K.rest))) (t : ToldBegun K) : Type 0 where
  pub kept : IsKeptIn w (world_with_frozen w.frozen t.1)
  pub frames : FramesBehind t.0.out before t.1.frozen
