-- Each worker is one thread on the items of its groups.
use Rattle.std.specs.Prelude.{◌≡◌, ℕ, zero, suc, ◌==◌, Bool, false, List, [], ◌∷◌, Option, None, Some, map, flat_map}
use Rattle.std.specs.List.{filter}
use Rattle.report_parts.specs.declared.report.Place.{Place}
use Rattle.report_rules.specs.Collected.{SelectedItem, Collected}
use Rattle.report_rules.specs.Groups.{group_at, groups}
use Rattle.report_rules.specs.Rows.{ReportRow, report_row, session_rows, task}
use Rattle.session_rules.specs.World.{Language, Rules}

abbrev pub is_by : ℕ → Option Place → Bool
is_by worker None = false
is_by worker (Some place) = place.worker == worker

abbrev pub of_worker : {L : Language} → ℕ → ReportRow L → Bool
of_worker worker report_row = is_by worker report_row.task.place

-- a row without its place
abbrev pub unplaced : {L : Language} → ReportRow L → ReportRow L
unplaced r = report_row (task None r.task.chosen) r.ends r.arrivals

-- the groups that a worker took, and none behind the last worker
abbrev pub taken_by : List (List ℕ) → ℕ → List ℕ
taken_by [] worker = []
taken_by (l ∷ ls) zero = l
taken_by (l ∷ ls) (suc worker) = taken_by ls worker

-- the items of a worker's groups
abbrev pub items_by : List SelectedItem → List (List ℕ) → ℕ → List SelectedItem
items_by selected taken worker = flat_map (group_at (groups selected)) (taken_by taken worker)

-- of the rows that are reported, those of a worker are, but for their places, the rows of one thread on the items of its groups
abbrev pub AreAsOneThread : {L : Language} {T : Type 0} → Rules L → Collected L T → List (List ℕ) → List (ReportRow L) → Type 0
AreAsOneThread rules c taken rows =
    (worker : ℕ) → map unplaced (filter (of_worker worker) rows) ≡ session_rows rules c.world 0 (map (task None) (items_by c.selected taken worker))
