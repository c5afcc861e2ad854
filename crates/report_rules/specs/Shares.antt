-- The rows of a run with workers: each worker is one thread over the items of its groups, and the groups are put in their order.
use Rattle.std.specs.Prelude.{ℕ, zero, suc, ◌+◌, ◌==◌, Bool, false, List, [], ◌∷◌, ◌++◌, Option, None, Some, map, flat_map}
use Rattle.std.specs.List.{filter}
use Rattle.report_parts.specs.declared.report.Place.{Place}
use Rattle.report_rules.specs.Collected.{SelectedItem}
use Rattle.report_rules.specs.Groups.{group_at}
use Rattle.report_rules.specs.Rows.{Task, ReportRow, task, session_rows}
use Rattle.session_rules.specs.World.{Language, Rules}

abbrev pub group_place : ℕ → ℕ → Option Place
group_place group worker = Some (record { group = group; worker = worker })

-- the tasks of a worker: the items of its groups, group by group
abbrev pub tasks_of : List (List SelectedItem) → ℕ → List ℕ → List Task
tasks_of groups worker [] = []
tasks_of groups worker (g ∷ gs) = map (task (group_place g worker)) (group_at groups g) ++ tasks_of groups worker gs

-- those of each worker, from this one on
abbrev pub tasks_from : List (List SelectedItem) → ℕ → List (List ℕ) → List (List Task)
tasks_from groups worker [] = []
tasks_from groups worker (l ∷ ls) = tasks_of groups worker l ∷ tasks_from groups (worker + 1) ls

abbrev pub has_group : ℕ → Option Place → Bool
has_group group None = false
has_group group (Some group_place) = group_place.group == group

abbrev pub in_group : {L : Language} → ℕ → ReportRow L → Bool
in_group group row = has_group group row.task.place

-- the rows of so many groups, from this one on
abbrev pub by_group : {L : Language} → ℕ → ℕ → List (ReportRow L) → List (ReportRow L)
by_group group zero rows = []
by_group group (suc count) rows = filter (in_group group) rows ++ by_group (group + 1) count rows

-- every worker starts from the same collected world, and nothing stops it
abbrev pub worked : {L : Language} → Rules L → L.World → List (List Task) → List (ReportRow L)
worked rules world shares = flat_map (session_rows rules world 0) shares
