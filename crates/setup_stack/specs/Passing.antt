-- What demands and teardowns don't look at: the rest of a session's state, and of an item.
use Rattle.std.specs.Prelude.{◌≡◌, ℕ}
use Rattle.session_rules.specs.World.{Language, Item}
use Rattle.session_rules.specs.Teardown.{SessionState, Step, session_step}
use Rattle.session_rules.specs.Demand.{Reply, reply}

-- a state with what fixtures know of it from another
abbrev pub over : {L : Language} → SessionState L → SessionState L → SessionState L
over s t = record s { world = t.world; live = t.live; next = t.next; events = t.events; instance = t.instance; given = t.given }

abbrev pub over_step : {L : Language} → SessionState L → Step L → Step L
over_step s r = session_step r.raised (over s r.state)

abbrev pub over_reply : {L : Language} → SessionState L → Reply L → Reply L
over_reply s r = reply r.answer (over s r.state)

-- items that a demand can't tell apart
pub record AreAsked (one other : Item) : Type 0 where
  pub node : one.node ≡ other.node
  pub requests : (d : ℕ) → one.requests d ≡ other.requests d
  pub parameter : (d : ℕ) → one.parameter d ≡ other.parameter d
  pub place : (d : ℕ) → one.place d ≡ other.place d
