-- What a session reports: each item once, in order (pytest's reference, `pytest_runtest_protocol`: set-up, call, teardown).
use Rattle.std.specs.Prelude.{◌≡◌, ℕ, ◌+◌, List, [], ◌∷◌, ◌++◌, ◌⊎◌, MatchBool, flat_map}
use Rattle.session_rules.specs.World.{Language, Item, Phase, SetUp, Call, Teardown}
use Rattle.session_rules.specs.Teardown.{PhaseEnd, SessionState}
use Rattle.session_rules.specs.Session.{as_count, reaches}
use Rattle.session_types.specs.declared.journal.Event.{Event}

abbrev pub IsEnd : {L : Language} → Phase → ℕ → PhaseEnd L → Type 0
IsEnd phase item e = (e.phase ≡ phase) × (e.item ≡ item)

-- the phases of one item: set-up, call exactly where set-up raised nothing, and teardown always
pub record IsTestProtocol {L : Language} (item : ℕ) (ends : List (PhaseEnd L)) : Type 0 where
  pub set_up : PhaseEnd L
  pub called : List (PhaseEnd L)
  pub torn : PhaseEnd L
  pub is_set_up : IsEnd SetUp item set_up
  pub is_torn : IsEnd Teardown item torn
  pub is_called : ((set_up.raised ≡ []) × ((call : PhaseEnd L) × IsEnd Call item call × (called ≡ call ∷ []))) ⊎ ((set_up.raised ≡ [] → ⊥) × (called ≡ []))
  pub are : ends ≡ set_up ∷ called ++ torn ∷ []

-- the number of failures and errors among these
abbrev pub bads : {L : Language} → List (PhaseEnd L) → ℕ
bads {L} [] = 0
bads {L} (e ∷ ends) = as_count (L.is_bad e.phase e.told) + bads ends

-- the events that phases had, in order
abbrev pub events_of : {L : Language} → List (PhaseEnd L) → List Event
events_of ends = flat_map (λ e. e.events) ends

-- the items in order, each once, where there were so many failures and errors before: all of them, or up to the first with which
-- these reach maxfail, and none behind it
abbrev pub Reported : {L : Language} → ℕ → ℕ → List Item → List (PhaseEnd L) → Type 0
Reported maxfail bad [] ends = ends ≡ []
Reported {L} maxfail bad (item ∷ items) ends =
    (mine : List (PhaseEnd L)) × (more : List (PhaseEnd L)) × (ends ≡ mine ++ more) × IsTestProtocol item.node mine
    × MatchBool (reaches maxfail (bad + bads mine)) (more ≡ []) (Reported maxfail (bad + bads mine) items more)

-- the report of a session: its failures and errors are those that are counted, and its events are those of its phases
pub record IsSessionReport {L : Language} (maxfail : ℕ) (items : List Item) (s : SessionState L) : Type 0 where
  pub reported : Reported maxfail 0 items s.ends
  pub counted : s.bad ≡ bads s.ends
  pub journal : s.events ≡ events_of s.ends
