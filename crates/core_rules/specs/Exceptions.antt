-- What an end of a part is, for what is said of exceptions.
use Rattle.std.specs.Prelude.{List, Option, Some, None}
use Rattle.source_meaning.specs.py_world.declared.trace.TraceFrame.{TraceFrame}
use Rattle.source_meaning.specs.py_world.World.{Kinds, CallState}
use Rattle.source_meaning.specs.py_world.Site.{Scene, scene_handling}
use Rattle.source_meaning.specs.py_world.Outcome.{Outcome, Gave, Next, Returned, Broke, Continued, Raised}

module _ {K : Kinds} where
  -- the state behind an end
  abbrev pub state_behind : Outcome K → CallState K
  state_behind (Gave v s) = s
  state_behind (Next s) = s
  state_behind (Returned v s) = s
  state_behind (Broke s) = s
  state_behind (Continued s) = s
  state_behind (Raised e trace s) = s

  -- the same end in another state
  abbrev pub end_in : Outcome K → CallState K → Outcome K
  end_in (Gave v s) r = Gave v r
  end_in (Next s) r = Next r
  end_in (Returned v s) r = Returned v r
  end_in (Broke s) r = Broke r
  end_in (Continued s) r = Continued r
  end_in (Raised e trace s) r = Raised e trace r

  -- the scene behind an end: an exception on its way is being handled
  abbrev pub scene_behind : Outcome K → Scene → Scene
  scene_behind (Gave v s) scene = scene
  scene_behind (Next s) scene = scene
  scene_behind (Returned v s) scene = scene
  scene_behind (Broke s) scene = scene
  scene_behind (Continued s) scene = scene
  scene_behind (Raised e trace s) scene = scene_handling e trace scene

  -- the trace with which an end raises
  abbrev pub trace_told : Outcome K → Option (List TraceFrame)
  trace_told (Gave v s) = None
  trace_told (Next s) = None
  trace_told (Returned v s) = None
  trace_told (Broke s) = None
  trace_told (Continued s) = None
  trace_told (Raised e trace s) = Some trace
