-- What a session does at one implementation of a hook.
use Rattle.std.specs.Prelude.{◌≡◌, Option, None, Some}
use Rattle.hook_order.specs.declared.answers.Inner.{Inner}
use Rattle.hook_order.specs.declared.answers.Inner.TheVariants as inner
use Rattle.hook_order.specs.declared.implementation.Impl.{Impl}
use Rattle.hook_phases.specs.declared.phase.HookPhase.{HookPhase}
use Rattle.hook_phases.specs.Phases.{phase_of}
use Rattle.session_rules.specs.Hooks.{AllValues, HookAnswer, HookInner, HookMessage, InnerGave, InnerRaised}
use Rattle.session_rules.specs.Session.{HookPlace, did_call, hook_arguments, implemented, node_of}
use Rattle.session_rules.specs.Teardown.{SessionState, in_world}
use Rattle.session_rules.specs.World.{BodyOutcome, Item, Language, Rules, WorldAnswer}

-- an item, where there is one
abbrev pub item_where : {I : Type 0} → (I → Item) → Option I → Option Item
item_where item None = None
item_where item (Some i) = Some (item i)

abbrev pub IsKnownWhere : {I : Type 0} → (I → Type 0) → Option I → Type 0
IsKnownWhere known None = Unit {0}
IsKnownWhere known (Some i) = known i

-- where a hook call stands
abbrev pub place_of : {I : Type 0} → (I → Item) → HookPhase → I → Option I → HookPlace
place_of item phase i next = record { phase = phase_of phase; item = item i; next = item_where item next }

module _ {L : Language} (rules : Rules L) (place : HookPlace) where
  abbrev pub implement_step : Impl → SessionState L → WorldAnswer L (HookAnswer L.Value L.Thrown)
  implement_step which s = rules.implement place.phase place.item.node (hook_arguments place.item (node_of place.next) s) which s.world

  abbrev pub open_step : Impl → SessionState L → BodyOutcome L
  open_step which s = rules.open_wrapper place.phase place.item.node (hook_arguments place.item (node_of place.next) s) which s.world

  abbrev pub resume_step : L.Rest → HookMessage L.Value L.Thrown → SessionState L → BodyOutcome L
  resume_step rest sent s = rules.resume_wrapper place.phase place.item.node rest sent s.world

-- behind an implementation: the value that it gave is gathered
abbrev pub behind_implement : {L : Language} → WorldAnswer L (HookAnswer L.Value L.Thrown) → SessionState L → SessionState L
behind_implement a s = (did_call s (implemented a)).state

-- no exception
abbrev pub IsValue : {V E : Type 0} → HookInner V E → Type 0
IsValue AllValues = Unit {0}
IsValue (InnerGave value) = Unit {0}
IsValue (InnerRaised e) = ⊥

-- where memory was wanted inside, the wrapper is let go in a world that is spent, and nothing else is done
abbrev pub GivesUp : {L : Language} {E : Type 0} → (L.Rest → L.World → L.World) → Inner L.Value E → L.Rest → SessionState L → SessionState L → Type 0
GivesUp given_up inner.List rest s t = Unit {0}
GivesUp given_up (inner.Gave value) rest s t = Unit {0}
GivesUp given_up (inner.Raised e) rest s t = Unit {0}
GivesUp given_up inner.OutOfMemory rest s t = t ≡ in_world (given_up rest s.world) s
