-- The rows of a session: each item that ran, with how its phases ended.
use Rattle.std.specs.Prelude.{ℕ, Bool, true, false, List, [], ◌∷◌, ◌++◌, Option, map, flat_map, if◌then◌else◌}
use Rattle.report_parts.specs.declared.report.Place.{Place}
use Rattle.report_rules.specs.Collected.{SelectedItem}
use Rattle.session_rules.specs.Reports.{events_of}
use Rattle.session_rules.specs.Session.{session, initial_state}
use Rattle.session_rules.specs.Teardown.{PhaseEnd, SessionState}
use Rattle.session_rules.specs.World.{Language, Rules, Item, Phase, SetUp, Call, Teardown}
use Rattle.session_types.specs.declared.journal.Event.{Event}
use Rattle.session_types.specs.declared.journal.Event.TheVariants.{Up, UpFailed, DownBegins, Down, CallBegins, CallEnds}
use Rattle.session_types.specs.declared.journal.Made.{Made}

-- an item, and where it runs: in a group of a worker, or on one thread
pub record Task : Type 0 where
  pub place : Option Place
  pub chosen : SelectedItem

abbrev pub task : Option Place → SelectedItem → Task
task place c = record { place = place; chosen = c }

abbrev pub task_item : Task → Item
task_item t = t.chosen.item

-- a set-up of a session that was completed, and the item that asked for it
pub record Arrival : Type 0 where
  pub made : Made
  pub item : SelectedItem

-- a task; how the phases of its item ended, none where it did not run; and the completed set-ups of its session up to its end
pub record ReportRow (L : Language) : Type 0 where
  pub task : Task
  pub ends : List (PhaseEnd L)
  pub arrivals : List Arrival

abbrev pub report_row : {L : Language} → Task → List (PhaseEnd L) → List Arrival → ReportRow L
report_row t ends arrivals = record { task = t; ends = ends; arrivals = arrivals }

abbrev pub arrival_of : SelectedItem → Event → List Arrival
arrival_of item (Up made) = record { made = made; item = item } ∷ []
arrival_of item (UpFailed made) = []
arrival_of item (DownBegins n) = []
arrival_of item (Down n raised) = []
arrival_of item (CallBegins node given) = []
arrival_of item (CallEnds node) = []

abbrev pub arrivals_of : {L : Language} → SelectedItem → List (PhaseEnd L) → List Arrival
arrivals_of item ends = flat_map (arrival_of item) (events_of ends)

abbrev pub is_last : Phase → Bool
is_last SetUp = false
is_last Call = false
is_last Teardown = true

-- a phase in front of those of its item
abbrev pub onto_phases : {L : Language} → PhaseEnd L → List (List (PhaseEnd L)) → List (List (PhaseEnd L))
onto_phases e [] = (e ∷ []) ∷ []
onto_phases e (mine ∷ more) = (e ∷ mine) ∷ more

-- phases cut into those of each item: an item's last phase is its teardown
abbrev pub by_item : {L : Language} → List (PhaseEnd L) → List (List (PhaseEnd L))
by_item [] = []
by_item (e ∷ ends) = if is_last e.phase then (e ∷ []) ∷ by_item ends else onto_phases e (by_item ends)

-- the tasks whose items ran, in order, where these set-ups were completed before
abbrev pub with_ends : {L : Language} → List Arrival → List Task → List (List (PhaseEnd L)) → List (ReportRow L)
with_ends arrivals [] ends = []
with_ends arrivals (t ∷ ts) [] = []
with_ends arrivals (t ∷ ts) (mine ∷ more) = report_row t mine (arrivals ++ arrivals_of t.chosen mine) ∷ with_ends (arrivals ++ arrivals_of t.chosen mine) ts more

-- the session of one thread over tasks: from the collected world, with no live instance
abbrev pub ran : {L : Language} → Rules L → L.World → ℕ → List Task → SessionState L
ran rules world maxfail tasks = session rules maxfail (map task_item tasks) (initial_state world)

abbrev pub session_rows : {L : Language} → Rules L → L.World → ℕ → List Task → List (ReportRow L)
session_rows rules world maxfail tasks = with_ends [] tasks (by_item (ran rules world maxfail tasks).ends)
