-- The rows of workers have the places of their groups.
use Rattle.std.proofs.Common.{◌≡◌, ℕ, zero, suc, ◌+◌, ◌<◌, List, [], ◌∷◌, ◌++◌, map, length, refl, sym, ap, ap₂, ◌∙◌, flat_map, replicate, get_or, None, Some, arith}
use Rattle.std.specs.List.{All, cons_option, filter_map}
use Rattle.std.proofs.lemmas.List.Elements.{All-cons, All-head, All-nil, All-tail}
use Rattle.report_parts.specs.declared.report.ItemReport.{ItemReport}
use Rattle.report_parts.specs.declared.report.Place.{Place}
use Rattle.report_rules.proofs.Lists.{map_append}
use Rattle.report_rules.proofs.Once.{all_tasks}
use Rattle.report_rules.specs.Collected.{SelectedItem}
use Rattle.report_rules.specs.Groups.{group_at}
use Rattle.report_rules.specs.Once.{row_task}
use Rattle.report_rules.specs.Rows.{ReportRow, Task, session_rows, task}
use Rattle.report_rules.specs.Shares.{group_place, tasks_from, tasks_of, worked}
use Rattle.session_rules.specs.World.{Language, Rules}
use Rattle.worker_runs.specs.Places.{group_of_report, place_in_group, places_from, worker_places, zipped}

-- TASKS THAT HAVE A PLACE

abbrev pub ArePlacedTasks : List Task → Type 0
ArePlacedTasks [] = Unit {0}
ArePlacedTasks (t ∷ ts) = (p : Place) × (t.place ≡ Some p) × ArePlacedTasks ts

placed_append : (ts us : List Task) → ArePlacedTasks ts → ArePlacedTasks us → ArePlacedTasks (ts ++ us)
placed_append [] us a b = b
placed_append (t ∷ ts) us a b = (a.0, a.1, placed_append ts us a.2 b)

placed_group : (p : Place) (cs : List SelectedItem) → ArePlacedTasks (map (task (Some p)) cs)
placed_group p [] = tt
placed_group p (c ∷ cs) = (p, refl, placed_group p cs)

placed_tasks : (gs : List (List SelectedItem)) (k : ℕ) (l : List ℕ) → ArePlacedTasks (tasks_of gs k l)
placed_tasks gs k [] = tt
placed_tasks gs k (g ∷ l) = placed_append (map (task (group_place g k)) (group_at gs g)) (tasks_of gs k l) (placed_group (place_in_group g k) (group_at gs g)) (placed_tasks gs k l)

pub placed_all : (gs : List (List SelectedItem)) (k : ℕ) (ls : List (List ℕ)) → ArePlacedTasks (flat_map (λ l. l) (tasks_from gs k ls))
placed_all gs k [] = tt
placed_all gs k (l ∷ ls) = placed_append (tasks_of gs k l) (flat_map (λ x. x) (tasks_from gs (k + 1) ls)) (placed_tasks gs k l) (placed_all gs (k + 1) ls)

pub worked_tasks : {L : Language} (rules : Rules L) (world : L.World) (shares : List (List Task)) → map row_task (worked rules world shares) ≡ flat_map (λ l. l) shares
worked_tasks rules world [] = refl
worked_tasks {L} rules world (l ∷ ls) =
    map_append row_task (session_rows rules world 0 l) (worked rules world ls)
    ∙ ap₂ (λ (a b : List Task). a ++ b) (all_tasks rules world l) (worked_tasks rules world ls)

-- THEIR PLACES

abbrev pub task_places : List Task → List Place
task_places ts = filter_map (λ t. t.place) ts

pub row_places : {L : Language} (rows : List (ReportRow L)) → filter_map (λ (r : ReportRow L). r.task.place) rows ≡ task_places (map row_task rows)
row_places [] = refl
row_places {L} (r ∷ rs) =
    elim r.task.place as (λ o. cons_option o (filter_map (λ (x : ReportRow L). x.task.place) rs) ≡ cons_option o (task_places (map row_task rs))) [
      | Some p ↦ ap (λ (l : List Place). p ∷ l) (row_places rs)
      | None ↦ row_places rs
    ]

places_append : (ts us : List Task) → task_places (ts ++ us) ≡ task_places ts ++ task_places us
places_append [] us = refl
places_append (t ∷ ts) us =
    elim t.place as (λ o. cons_option o (task_places (ts ++ us)) ≡ cons_option o (task_places ts) ++ task_places us) [
      | Some p ↦ ap (λ (l : List Place). p ∷ l) (places_append ts us)
      | None ↦ places_append ts us
    ]

group_places : (p : Place) (cs : List SelectedItem) → task_places (map (task (Some p)) cs) ≡ replicate (length cs) p
group_places p [] = refl
group_places p (c ∷ cs) = ap (λ (l : List Place). p ∷ l) (group_places p cs)

size_of : (gs : List (List SelectedItem)) (g : ℕ) → get_or (map (λ (l : List SelectedItem). length l) gs) g 0 ≡ length (group_at gs g)
size_of [] g = refl
size_of (x ∷ gs) zero = refl
size_of (x ∷ gs) (suc g) = size_of gs g

places_tasks : (gs : List (List SelectedItem)) (k : ℕ) (l : List ℕ) → task_places (tasks_of gs k l) ≡ worker_places (map (λ (x : List SelectedItem). length x) gs) k l
places_tasks gs k [] = refl
places_tasks gs k (g ∷ l) =
    places_append (map (task (group_place g k)) (group_at gs g)) (tasks_of gs k l)
    ∙ ap₂ (λ (a b : List Place). a ++ b) (group_places (place_in_group g k) (group_at gs g) ∙ ap (λ (n : ℕ). replicate n (place_in_group g k)) (sym (size_of gs g))) (places_tasks gs k l)

pub places_all : (gs : List (List SelectedItem)) (k : ℕ) (ls : List (List ℕ)) → task_places (flat_map (λ l. l) (tasks_from gs k ls)) ≡ places_from (map (λ (x : List SelectedItem). length x) gs) k ls
places_all gs k [] = refl
places_all gs k (l ∷ ls) =
    places_append (tasks_of gs k l) (flat_map (λ x. x) (tasks_from gs (k + 1) ls))
    ∙ ap₂ (λ (a b : List Place). a ++ b) (places_tasks gs k l) (places_all gs (k + 1) ls)

-- THEY ARE BELOW THE NUMBER OF GROUPS

below_append : (n : ℕ) (ps qs : List Place) → All (λ p. p.group < n) ps → All (λ p. p.group < n) qs → All (λ p. p.group < n) (ps ++ qs)
below_append n [] qs a b = b
below_append n (p ∷ ps) qs a b = All-cons (λ x. x.group < n) p (ps ++ qs) (All-head (λ x. x.group < n) p ps a) (below_append n ps qs (All-tail (λ x. x.group < n) p ps a) b)

below_same : (n g k count : ℕ) → (0 < count → g < n) → All (λ p. p.group < n) (replicate count (place_in_group g k))
below_same n g k zero below = All-nil (λ p. p.group < n)
below_same n g k (suc count) below =
    All-cons (λ p. p.group < n) (place_in_group g k) (replicate count (place_in_group g k)) (below (omega arith)) (below_same n g k count (λ lt. below (omega arith)))

inside : (sizes : List ℕ) (g : ℕ) → 0 < get_or sizes g 0 → g < length sizes
inside [] g lt = absurd (omega (arith, lt))
inside (s ∷ sizes) zero lt = omega arith
inside (s ∷ sizes) (suc g) lt = (let l = inside sizes g lt in omega (arith, l))

places_below : (sizes : List ℕ) (k : ℕ) (l : List ℕ) → All (λ p. p.group < length sizes) (worker_places sizes k l)
places_below sizes k [] = All-nil (λ p. p.group < length sizes)
places_below sizes k (g ∷ l) =
    below_append (length sizes) (replicate (get_or sizes g 0) (place_in_group g k)) (worker_places sizes k l) (below_same (length sizes) g k (get_or sizes g 0) (inside sizes g)) (places_below sizes k l)

pub all_below : (sizes : List ℕ) (k : ℕ) (ls : List (List ℕ)) → All (λ p. p.group < length sizes) (places_from sizes k ls)
all_below sizes k [] = All-nil (λ p. p.group < length sizes)
all_below sizes k (l ∷ ls) = below_append (length sizes) (worker_places sizes k l) (places_from sizes (k + 1) ls) (places_below sizes k l) (all_below sizes (k + 1) ls)

pub zipped_below : (n : ℕ) (ps : List Place) (rs : List ItemReport) → All (λ p. p.group < n) ps → All (λ x. group_of_report x < n) (zipped ps rs)
zipped_below n [] rs a = All-nil (λ x. group_of_report x < n)
zipped_below n (p ∷ ps) [] a = All-nil (λ x. group_of_report x < n)
zipped_below n (p ∷ ps) (r ∷ rs) a = All-cons (λ x. group_of_report x < n) _ (zipped ps rs) (All-head (λ x. x.group < n) p ps a) (zipped_below n ps rs (All-tail (λ x. x.group < n) p ps a))
