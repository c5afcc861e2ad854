-- The places of a report agree with the assignment.
use Rattle.std.specs.Prelude.{◌≡◌, ℕ, List, Some}
use Rattle.report_parts.specs.declared.report.Place.{Place}
use Rattle.report_rules.specs.Alone.{taken_by}
use Rattle.report_rules.specs.Collected.{Collected}
use Rattle.report_rules.specs.Groups.{group_at, groups}
use Rattle.report_rules.specs.Rows.{ReportRow, Task}
use Rattle.session_rules.specs.World.{Language}
use Rattle.session_types.specs.Members.{IsMember}

-- the task has a place: in a group that the worker of that place took, and its item is one of that group
abbrev pub IsPlaced : {L : Language} {T : Type 0} → Collected L T → List (List ℕ) → Task → Type 0
IsPlaced c taken t = (p : Place) × (t.place ≡ Some p) × IsMember p.group (taken_by taken p.worker) × IsMember t.chosen (group_at (groups c.selected) p.group)

abbrev pub ArePlaced : {L : Language} {T : Type 0} → Collected L T → List (List ℕ) → List (ReportRow L) → Type 0
ArePlaced {L} c taken rows = (r : ReportRow L) → IsMember r rows → IsPlaced c taken r.task
