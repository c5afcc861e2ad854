-- Ways in which failed asserts end alike, explained or not.
use Rattle.std.specs.Prelude.{None}
use Rattle.source_meaning.specs.py_world.Outcome.{raised_at}
use Rattle.source_meaning.specs.py_world.Statements.{assertion}
use Rattle.explain_law.specs.Stopping.{FailedEnds}

-- each raises an AssertionError without argument
abbrev pub without_argument : FailedEnds
without_argument x e message p s = raised_at (assertion None) p s

-- each raises one whose argument is the message, where there is one
abbrev pub with_its_message : FailedEnds
with_its_message x e message p s = raised_at (assertion message) p s
