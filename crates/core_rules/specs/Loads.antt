-- A load in mid-run that runs nothing.
use Rattle.std.specs.Prelude.{◌≡◌}
use Rattle.source_meaning.specs.py_world.World.{Kinds, CallState}
use Rattle.source_meaning.specs.py_world.Site.{Site}
use Rattle.source_meaning.specs.py_world.Outcome.{Outcome, Continuation, Denotation}
use Rattle.core_rules.specs.Exceptions.{state_behind}

-- A PART ENDS AT ONCE: it runs nothing, and leaves the state as it was
pub record EndsAtOnce {K : Kinds} (e : Denotation K) (p : Site) (s : CallState K) : Type 0 where
  pub end : Outcome K
  pub ends : (k : Continuation K) → e p s k ≡ k end
  pub kept : state_behind end ≡ s
