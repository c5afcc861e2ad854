-- The sessions of a run: their journals are lawful, and no frame is left out.
use Rattle.std.proofs.Common.{◌≡◌, ℕ, zero, suc, ◌+◌, ◌≤◌, Bool, true, false, cond, not, List, [], ◌∷◌, ◌++◌, map, length, inl, inr, refl, sym, ap, ◌∙◌, subst, eqb, eq-eqb, arith, flat_map, MatchBool, Option, None}
use Rattle.std.specs.List.{filter}
use Rattle.cli_words.specs.declared.options.Options.{Options}
use Rattle.report_parts.specs.declared.report.Place.{Place}
use Rattle.report_rules.proofs.Lists.{map_append, map_map}
use Rattle.report_rules.specs.Collected.{SelectedItem, Collected}
use Rattle.report_rules.specs.Fits.{IsFit, chosen_item}
use Rattle.report_rules.specs.Groups.{files_in, group_at, groups, is_in, items_of, other_than}
use Rattle.report_rules.specs.Report.{IsTaken, single_thread, maxfail_of, runs, sessions, shares, workers_of}
use Rattle.report_rules.specs.Rows.{Task, task_item, ran, task}
use Rattle.report_rules.specs.Shares.{group_place, tasks_from, tasks_of}
use Rattle.session_rules.proofs.Frames.{same_behind}
use Rattle.session_types.proofs.Lists.{In-append, In-filter, eqb_is}
use Rattle.session_rules.proofs.Sessions.{lawful_session}
use Rattle.session_rules.proofs.Twins.{same_session}
use Rattle.session_types.specs.Members.{IsMember}
use Rattle.session_rules.specs.Events.{Lawful}
use Rattle.session_rules.specs.Fits.{Distinct, HasFixtureClosure}
use Rattle.session_rules.specs.Frames.{AreAlikeWhereOut, KeepsFrames, Resumptions, SameFrames, with_resumptions}
use Rattle.session_rules.specs.Teardown.{SessionState}
use Rattle.session_rules.specs.World.{Item, Language, Rules}
use Rattle.share_files.specs.Deal.{Every, RisesFrom, Share}

-- the items of chosen ones
abbrev items : List SelectedItem → List Item
items cs = map chosen_item cs

In-items : (c : SelectedItem) (cs : List SelectedItem) → IsMember c cs → IsMember c.item (items cs)
In-items c [] m = absurd m
In-items c (x ∷ cs) (inl e) = inl (ap (λ (d : SelectedItem). d.item) e)
In-items c (x ∷ cs) (inr m) = inr (In-items c cs m)

items-In : (i : Item) (cs : List SelectedItem) → IsMember i (items cs) → (c : SelectedItem) × IsMember c cs × (i ≡ c.item)
items-In i [] m = absurd m
items-In i (x ∷ cs) (inl e) = (x, inl refl, e)
items-In i (x ∷ cs) (inr m) = (let r = items-In i cs m in (r.0, inr r.1, r.2))

-- of two with one node, each is the other
same_node : (cs : List SelectedItem) → Distinct (items cs) → (c d : SelectedItem) → IsMember c cs → IsMember d cs → c.item.node ≡ d.item.node → c ≡ d
same_node [] s c d m n e = absurd m
same_node (x ∷ cs) s c d (inl p) (inl q) e = p ∙ sym q
same_node (x ∷ cs) s c d (inl p) (inr q) e = absurd (s.0 d.item (In-items d cs q) (sym e ∙ ap (λ (y : SelectedItem). y.item.node) p))
same_node (x ∷ cs) s c d (inr p) (inl q) e = absurd (s.0 c.item (In-items c cs p) (e ∙ ap (λ (y : SelectedItem). y.item.node) q))
same_node (x ∷ cs) s c d (inr p) (inr q) e = same_node cs s.1 c d p q e

filter_distinct : (p : SelectedItem → Bool) (cs : List SelectedItem) → Distinct (items cs) → Distinct (items (filter p cs))
filter_distinct p [] s = tt
filter_distinct p (x ∷ cs) s =
    elim (p x) as (λ b. Distinct (items (cond b (x ∷ filter p cs) (filter p cs)))) [
      | true ↦ ((λ i m. (let r = items-In i (filter p cs) m in s.0 i (subst (λ (j : Item). IsMember j (items cs)) (sym r.2) (In-items r.0 cs (In-filter p r.0 cs r.1).0)))), filter_distinct p cs s.1)
      | false ↦ filter_distinct p cs s.1
    ]

append_distinct : (cs ds : List SelectedItem) → Distinct (items cs) → Distinct (items ds) → ((c d : SelectedItem) → IsMember c cs → IsMember d ds → d.item.node ≡ c.item.node → ⊥) → Distinct (items (cs ++ ds))
append_distinct [] ds s t apart = t
append_distinct (x ∷ cs) ds s t apart = (
  (λ i m. (let r = items-In i (cs ++ ds) m in elim (In-append r.0 cs ds r.1) [
    | inl l ↦ s.0 i (subst (λ (j : Item). IsMember j (items cs)) (sym r.2) (In-items r.0 cs l))
    | inr k ↦ λ e. apart x r.0 (inl refl) k (ap (λ (j : Item). j.node) (sym r.2) ∙ e)
  ])),
  append_distinct cs ds s.1 t (λ c d m n. apart c d (inr m) n),
)

-- file f stands at place g
abbrev pub At : List ℕ → ℕ → ℕ → Type 0
At [] g f = ⊥
At (x ∷ xs) zero f = f ≡ x
At (x ∷ xs) (suc g) f = At xs g f

At-In : (fs : List ℕ) (g f : ℕ) → At fs g f → IsMember f fs
At-In [] g f a = absurd a
At-In (x ∷ xs) zero f a = inl a
At-In (x ∷ xs) (suc g) f a = inr (At-In xs g f a)

abbrev pub Single : List ℕ → Type 0
Single [] = Unit {0}
Single (x ∷ xs) = (IsMember x xs → ⊥) × Single xs

pub one_place : (fs : List ℕ) → Single fs → (g h f : ℕ) → At fs g f → At fs h f → g ≡ h
one_place [] s g h f a b = absurd a
one_place (x ∷ xs) s zero zero f a b = refl
one_place (x ∷ xs) s zero (suc h) f a b = absurd (s.0 (subst (λ (y : ℕ). IsMember y xs) a (At-In xs h f b)))
one_place (x ∷ xs) s (suc g) zero f a b = absurd (s.0 (subst (λ (y : ℕ). IsMember y xs) b (At-In xs g f a)))
one_place (x ∷ xs) s (suc g) (suc h) f a b = ap suc (one_place xs s.1 g h f a b)

others_single : (f : ℕ) (fs : List ℕ) → Single fs → Single (filter (other_than f) fs)
others_single f [] s = tt
others_single f (x ∷ xs) s =
    elim (eqb x f) as (λ b. Single (cond (not b) (x ∷ filter (other_than f) xs) (filter (other_than f) xs))) [
      | true ↦ others_single f xs s.1
      | false ↦ ((λ m. s.0 (In-filter (other_than f) x xs m).0), others_single f xs s.1)
    ]

pub files_single : (cs : List SelectedItem) → Single (files_in cs)
files_single [] = tt
files_single (c ∷ cs) = (
  (λ m. (let e : not (eqb c.file c.file) ≡ true = (In-filter (other_than c.file) c.file (files_in cs) m).1 in let z : not true ≡ true = rw (eq-eqb c.file c.file refl) at e in cc)),
  others_single c.file (files_in cs) (files_single cs),
)

-- the items of a group are of its file
pub in_group_at : (cs : List SelectedItem) (fs : List ℕ) (g : ℕ) (c : SelectedItem) → IsMember c (group_at (map (items_of cs) fs) g) → IsMember c cs × At fs g c.file
in_group_at cs [] g c m = absurd m
in_group_at cs (f ∷ fs) zero c m = (let r = In-filter (is_in f) c cs m in (r.0, eqb_is c.file f r.1))
in_group_at cs (f ∷ fs) (suc g) c m = in_group_at cs fs g c m

group_distinct : (cs : List SelectedItem) (fs : List ℕ) (g : ℕ) → Distinct (items cs) → Distinct (items (group_at (map (items_of cs) fs) g))
group_distinct cs [] g s = tt
group_distinct cs (f ∷ fs) zero s = filter_distinct (is_in f) cs s
group_distinct cs (f ∷ fs) (suc g) s = group_distinct cs fs g s

abbrev chosen_by : List SelectedItem → List ℕ → List SelectedItem
chosen_by cs l = flat_map (group_at (groups cs)) l

-- which group an item is of
chosen_group : (cs : List SelectedItem) (low : ℕ) (l : List ℕ) → RisesFrom low l → (c : SelectedItem) → IsMember c (chosen_by cs l) → (g : ℕ) × (low ≤ g) × IsMember c cs × At (files_in cs) g c.file
chosen_group cs low [] r c m = absurd m
chosen_group cs low (g ∷ gs) r c m =
    elim (In-append c (group_at (groups cs) g) (chosen_by cs gs) m) [
      | inl a ↦ (let p = in_group_at cs (files_in cs) g c a in (g, r.0, p.0, p.1))
      | inr b ↦ (let p = chosen_group cs (g + 1) gs r.1 c b in let le = p.1 in let le0 = r.0 in (p.0, omega (arith, le, le0), p.2, p.3))
    ]

pub by_distinct : (cs : List SelectedItem) (low : ℕ) (l : List ℕ) → RisesFrom low l → Distinct (items cs) → Distinct (items (chosen_by cs l))
by_distinct cs low [] r s = tt
by_distinct cs low (g ∷ gs) r s =
    append_distinct (group_at (groups cs) g) (chosen_by cs gs) (group_distinct cs (files_in cs) g s) (by_distinct cs (g + 1) gs r.1 s)
    (λ c d m n e. (let p = in_group_at cs (files_in cs) g c m in
    let q = chosen_group cs (g + 1) gs r.1 d n in
    let same : d ≡ c = same_node cs s d c q.2 p.0 e in
    let h : At (files_in cs) q.0 c.file = subst (λ (x : SelectedItem). At (files_in cs) q.0 x.file) same q.3 in
    let k = one_place (files_in cs) (files_single cs) g q.0 c.file p.1 h in
    let le = q.1 in
    omega (arith, k, le)))

task_items : (p : Option Place) (cs : List SelectedItem) → map task_item (map (task p) cs) ≡ items cs
task_items p cs = map_map task_item (task p) cs

worker_items : (cs : List SelectedItem) (k : ℕ) (l : List ℕ) → map task_item (tasks_of (groups cs) k l) ≡ items (chosen_by cs l)
worker_items cs k [] = refl
worker_items cs k (g ∷ gs) =
    map_append task_item (map (task (group_place g k)) (group_at (groups cs) g)) (tasks_of (groups cs) k gs)
    ∙ (ap (λ (x : List Item). x ++ map task_item (tasks_of (groups cs) k gs)) (task_items (group_place g k) (group_at (groups cs) g))
    ∙ (ap (λ (x : List Item). items (group_at (groups cs) g) ++ x) (worker_items cs k gs) ∙ sym (map_append chosen_item (group_at (groups cs) g) (chosen_by cs gs))))

-- tasks that a session may run
pub record MayRun {L : Language} (rules : Rules L) (list : List Item) : Type 0 where
  pub fits : (item : Item) → IsMember item list → HasFixtureClosure rules item
  pub distinct : Distinct list

may_run : {L : Language} (rules : Rules L) (cs : List SelectedItem) → IsFit rules cs → MayRun rules (items cs)
may_run {L} rules cs fit = record { fits = λ i m. (let r = items-In i cs m in subst (λ (j : Item). HasFixtureClosure rules j) (sym r.2) (fit.fits r.0 r.1)); distinct = fit.distinct }

worker_runs : {L : Language} (rules : Rules L) (cs : List SelectedItem) → IsFit rules cs → (l : List ℕ) → RisesFrom 0 l → MayRun rules (items (chosen_by cs l))
worker_runs {L} rules cs fit l rises =
    record {
      fits = λ i m. (let r = items-In i (chosen_by cs l) m in let q = chosen_group cs 0 l rises r.0 r.1 in subst (λ (j : Item). HasFixtureClosure rules j) (sym r.2) (fit.fits r.0 q.2));
      distinct = by_distinct cs 0 l rises fit.distinct;
    }

module _ {L : Language} {T : Type 0} (rules : Rules L) (options : Options) (c : Collected L T) (P : SessionState L → Type 0) (law : (tasks : List Task) → MayRun rules (map task_item tasks) → P (ran rules c.world (maxfail_of options c) tasks)) where
  abbrev run_all : List (List Task) → List (SessionState L)
  run_all lists = map (ran rules c.world (maxfail_of options c)) lists

  workers_law : IsFit rules c.selected → (k : ℕ) (ls : List (List ℕ)) → Every (RisesFrom 0) ls → Every P (run_all (tasks_from (groups c.selected) k ls))
  workers_law fit k [] rises = tt
  workers_law fit k (l ∷ ls) rises = (
    law (tasks_of (groups c.selected) k l) (subst (λ (x : List Item). MayRun rules x) (sym (worker_items c.selected k l)) (worker_runs rules c.selected fit l rises.0)),
    workers_law fit (k + 1) ls rises.1,
  )

  runs_law : (run one : Bool) (taken : List (List ℕ)) → IsFit rules c.selected → MatchBool one (taken ≡ []) (Share (length (groups c.selected)) (workers_of options c) taken) → Every P (run_all (cond (not run) [] (cond one (single_thread c ∷ []) (tasks_from (groups c.selected) 0 taken))))
  runs_law false one taken fit t = tt
  runs_law true true taken fit t = (law (single_thread c) (subst (λ (x : List Item). MayRun rules x) (sym (task_items None c.selected)) (may_run rules c.selected fit)), tt)
  runs_law true false taken fit t = workers_law fit 0 taken t.rising

  pub sessions_law : (taken : List (List ℕ)) → IsFit rules c.selected → IsTaken options c taken → Every P (sessions rules options c taken)
  sessions_law taken fit t = runs_law (runs options c) (eqb (workers_of options c) 0) taken fit t

pub all_lawful : {L : Language} {T : Type 0} (rules : Rules L) (options : Options) (c : Collected L T) (taken : List (List ℕ)) → IsFit rules c.selected → IsTaken options c taken → Every (λ (s : SessionState L). Lawful s.events) (sessions rules options c taken)
all_lawful {L} rules options c taken fit t = sessions_law rules options c (λ (s : SessionState L). Lawful s.events) (λ tasks m. lawful_session rules (maxfail_of options c) (map task_item tasks) c.world m.fits m.distinct) taken fit t

pub all_same : {L : Language} {T : Type 0} (rules : Rules L) (is_out : L.Rest → L.World → Bool) → KeepsFrames rules is_out → (options : Options) (c : Collected L T) (taken : List (List ℕ)) → IsFit rules c.selected → IsTaken options c taken → Every (λ (s : SessionState L). SameFrames is_out c.world s.world) (sessions rules options c taken)
all_same {L} rules is_out keep options c taken fit t = sessions_law rules options c (λ (s : SessionState L). SameFrames is_out c.world s.world) (λ tasks m. same_behind rules is_out keep (maxfail_of options c) (map task_item tasks) c.world m.fits) taken fit t

-- where none was out, none is
every_none : {L : Language} (is_out : L.Rest → L.World → Bool) (w : L.World) → ((r : L.Rest) → is_out r w ≡ false) → (ss : List (SessionState L)) → Every (λ (s : SessionState L). SameFrames is_out w s.world) ss → Every (λ (s : SessionState L). (r : L.Rest) → is_out r s.world ≡ false) ss
every_none is_out w none [] h = tt
every_none is_out w none (s ∷ ss) h = ((λ r. h.0 r ∙ none r), every_none is_out w none ss h.1)

pub all_none : {L : Language} {T : Type 0} (rules : Rules L) (is_out : L.Rest → L.World → Bool) → KeepsFrames rules is_out → (options : Options) (c : Collected L T) (taken : List (List ℕ)) → ((r : L.Rest) → is_out r c.world ≡ false) → IsFit rules c.selected → IsTaken options c taken
    → Every (λ (s : SessionState L). (r : L.Rest) → is_out r s.world ≡ false) (sessions rules options c taken)
all_none rules is_out keep options c taken none fit t = every_none is_out c.world none (sessions rules options c taken) (all_same rules is_out keep options c taken fit t)

-- whatever the rules would do else with a frame
same_runs : {L : Language} (rules : Rules L) (is_out : L.Rest → L.World → Bool) → KeepsFrames rules is_out → (x : Resumptions L) → AreAlikeWhereOut rules is_out x → (w : L.World) (maxfail : ℕ) (lists : List (List Task))
    → map (ran (with_resumptions x rules) w maxfail) lists ≡ map (ran rules w maxfail) lists
same_runs rules is_out keep x alike w maxfail [] = refl
same_runs {L} rules is_out keep x alike w maxfail (ts ∷ more) =
    ap (λ (s : SessionState L). s ∷ map (ran (with_resumptions x rules) w maxfail) more) (same_session rules is_out keep x alike maxfail (map task_item ts) w)
    ∙ ap (λ (ss : List (SessionState L)). ran rules w maxfail ts ∷ ss) (same_runs rules is_out keep x alike w maxfail more)

pub same_sessions : {L : Language} {T : Type 0} (rules : Rules L) (is_out : L.Rest → L.World → Bool) → KeepsFrames rules is_out → (options : Options) (c : Collected L T) (taken : List (List ℕ)) (x : Resumptions L) → AreAlikeWhereOut rules is_out x
    → sessions (with_resumptions x rules) options c taken ≡ sessions rules options c taken
same_sessions rules is_out keep options c taken x alike = same_runs rules is_out keep x alike c.world (maxfail_of options c) (shares options c taken)
