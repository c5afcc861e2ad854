-- The frames of a bench that stand.
use Rattle.std.proofs.Common.{◌≡◌, ℕ, List, [], Option, ap, sym, subst}
use Rattle.std.specs.Prelude.{is_some}
use Rattle.fixture_instances.specs.Joined.{InstanceList}
use Rattle.fixture_instances.specs.Views.{live_instances}
use Rattle.session_rules.proofs.Frames.{moved}
use Rattle.session_rules.proofs.Standing.{at_start}
use Rattle.session_rules.specs.Frames.{FramesStand, at_least}
use Rattle.setup_stack.specs.Views.{stack_state}
use Rattle.setup_stack.specs.declared.stack.SetupStack.{SetupStack}
use Rattle.demand_tests.specs.Kept.{keeps}
use Rattle.demand_tests.specs.Logs.{FramesAreOut, def_in, is_out, logging, spoken}
use Rattle.demand_tests.specs.declared.logs.Cause.{Cause}
use Rattle.demand_tests.specs.declared.logs.Log.{Log}
use Rattle.demand_tests.specs.declared.logs.Script.{Script}

-- where nothing lives
pub none_live : (script : Script) (w : Log) (s : SetupStack ℕ Cause ℕ) → s.live.live ≡ [] → FramesAreOut script w s
none_live script w s e = at_start {L = spoken} is_out (stack_state (logging script) w s) (ap (live_instances (logging script)) e)

-- where other things were noted
pub others_noted : (script : Script) (w v : Log) (s t : SetupStack ℕ Cause ℕ) → v.frames ≡ w.frames → t.live ≡ s.live → FramesAreOut script w s → FramesAreOut script v t
others_noted script w v s t ef el g =
    let there = moved (logging script) is_out (keeps script) (at_least []) (live_instances (logging script) s.live.live) s.live.next w v (λ r. ap (λ (fs : List (Option ℕ)). is_some (def_in fs r)) ef) g.0 in (
      subst (λ (l : InstanceList ℕ Cause ℕ). FramesStand {L = spoken} is_out (at_least []) (live_instances (logging script) l.live) l.next v) (sym el) there,
      g.1,
    )
