-- The rows of a session.
use Rattle.std.proofs.Common.{◌≡◌, ℕ, ◌+◌, Bool, true, false, List, [], ◌∷◌, ◌++◌, map, inl, inr, refl, sym, ap, ◌∙◌, subst, arith, MatchBool}
use Rattle.report_rules.specs.Once.{AreRows, row_bads, row_task}
use Rattle.report_rules.specs.Rows.{Arrival, ReportRow, Task, arrivals_of, by_item, is_last, task_item, ran, report_row, session_rows, with_ends}
use Rattle.session_rules.proofs.Reports.{bads_append, session_reports}
use Rattle.session_rules.specs.Reports.{IsTestProtocol, Reported, bads}
use Rattle.session_rules.specs.Session.{reaches}
use Rattle.session_rules.specs.Teardown.{PhaseEnd}
use Rattle.session_rules.specs.World.{Language, Phase, Rules}

two_cut : {L : Language} (s t : PhaseEnd L) (more : List (PhaseEnd L)) → is_last s.phase ≡ false → is_last t.phase ≡ true → by_item (s ∷ t ∷ more) ≡ (s ∷ t ∷ []) ∷ by_item more
two_cut s t more e f = rw (e, f) refl

three_cut : {L : Language} (s c t : PhaseEnd L) (more : List (PhaseEnd L)) → is_last s.phase ≡ false → is_last c.phase ≡ false → is_last t.phase ≡ true → by_item (s ∷ c ∷ t ∷ more) ≡ (s ∷ c ∷ t ∷ []) ∷ by_item more
three_cut s c t more e g f = rw (e, g, f) refl

-- the phases of an item, in front of others, are cut off
pub item_cut : {L : Language} (item : ℕ) (mine more : List (PhaseEnd L)) → IsTestProtocol item mine → by_item (mine ++ more) ≡ mine ∷ by_item more
item_cut {L} item mine more i =
    let s = i.set_up in let t = i.torn in
    let e : is_last s.phase ≡ false = ap (λ (p : Phase). is_last p) i.is_set_up.0 in
    let f : is_last t.phase ≡ true = ap (λ (p : Phase). is_last p) i.is_torn.0 in
    elim i.is_called [
      | inl q ↦
          (let c = q.1.0 in
          let g : is_last c.phase ≡ false = ap (λ (p : Phase). is_last p) q.1.1.0 in
          let m : mine ≡ s ∷ c ∷ t ∷ [] = i.are ∙ ap (λ (l : List (PhaseEnd L)). s ∷ l ++ t ∷ []) q.1.2 in
          subst (λ (l : List (PhaseEnd L)). by_item (l ++ more) ≡ l ∷ by_item more) (sym m) (three_cut s c t more e g f))
      | inr q ↦
          (let m : mine ≡ s ∷ t ∷ [] = i.are ∙ ap (λ (l : List (PhaseEnd L)). s ∷ l ++ t ∷ []) q.1 in
          subst (λ (l : List (PhaseEnd L)). by_item (l ++ more) ≡ l ∷ by_item more) (sym m) (two_cut s t more e f))
    ]

pub none_ends : {L : Language} (arrivals : List Arrival) (tasks : List Task) → with_ends {L = L} arrivals tasks [] ≡ []
none_ends arrivals [] = refl
none_ends arrivals (t ∷ ts) = refl

behind : {L : Language} (arrivals : List Arrival) (tasks : List Task) (more : List (PhaseEnd L)) → more ≡ [] → with_ends arrivals tasks (by_item more) ≡ []
behind {L} arrivals tasks more e = subst (λ (l : List (PhaseEnd L)). with_ends arrivals tasks (by_item l) ≡ []) (sym e) (none_ends arrivals tasks)

rows_law : {L : Language} (maxfail bad : ℕ) (arrivals : List Arrival) (tasks : List Task) (ends : List (PhaseEnd L)) → Reported maxfail bad (map task_item tasks) ends → AreRows maxfail bad tasks (with_ends arrivals tasks (by_item ends))
rows_law maxfail bad arrivals [] ends r = refl
rows_law {L} maxfail bad arrivals (t ∷ ts) ends r =
    let mine = r.0 in let more = r.1 in
    let cut : by_item ends ≡ mine ∷ by_item more = ap (λ (l : List (PhaseEnd L)). by_item l) r.2 ∙ item_cut t.chosen.item.node mine more r.3 in
    let n = bad + bads mine in
    let rest : MatchBool (reaches maxfail n) (with_ends (arrivals ++ arrivals_of t.chosen mine) ts (by_item more) ≡ []) (AreRows maxfail n ts (with_ends (arrivals ++ arrivals_of t.chosen mine) ts (by_item more))) =
    (elim (reaches maxfail n) as (λ b. MatchBool b (more ≡ []) (Reported maxfail n (map task_item ts) more) → MatchBool b (with_ends (arrivals ++ arrivals_of t.chosen mine) ts (by_item more) ≡ []) (AreRows maxfail n ts (with_ends (arrivals ++ arrivals_of t.chosen mine) ts (by_item more)))) [
      | true ↦ λ e. behind (arrivals ++ arrivals_of t.chosen mine) ts more e
      | false ↦ λ q. rows_law maxfail n (arrivals ++ arrivals_of t.chosen mine) ts more q
    ]) r.4 in
    subst (λ (l : List (List (PhaseEnd L))). AreRows maxfail bad (t ∷ ts) (with_ends arrivals (t ∷ ts) l)) (sym cut) (refl, r.3, rest)

pub are_rows : {L : Language} (rules : Rules L) (world : L.World) (maxfail : ℕ) (tasks : List Task) → AreRows maxfail 0 tasks (session_rows rules world maxfail tasks)
are_rows rules world maxfail tasks = rows_law maxfail 0 [] tasks (ran rules world maxfail tasks).ends (session_reports rules maxfail (map task_item tasks) world).reported

-- where nothing stops a session, all its tasks have rows
all_rows : {L : Language} (bad : ℕ) (tasks : List Task) (rows : List (ReportRow L)) → AreRows 0 bad tasks rows → map row_task rows ≡ tasks
all_rows {L} bad [] rows r = ap (λ (l : List (ReportRow L)). map row_task l) r
all_rows bad (t ∷ ts) [] r = absurd r
all_rows bad (t ∷ ts) (x ∷ xs) r = (let e : x.task ≡ t = r.0 in let f = all_rows (bad + bads x.ends) ts xs r.2 in ap (λ (u : Task). u ∷ map row_task xs) e ∙ ap (λ (l : List Task). t ∷ l) f)

pub all_tasks : {L : Language} (rules : Rules L) (world : L.World) (tasks : List Task) → map row_task (session_rows rules world 0 tasks) ≡ tasks
all_tasks rules world tasks = all_rows 0 tasks (session_rows rules world 0 tasks) (are_rows rules world 0 tasks)

-- what ran is a part from the front on
pub front_tasks : {L : Language} (maxfail bad : ℕ) (tasks : List Task) (rows : List (ReportRow L)) → AreRows maxfail bad tasks rows → (rest : List Task) × (tasks ≡ map row_task rows ++ rest)
front_tasks {L} maxfail bad [] rows r = ([], ap (λ (l : List (ReportRow L)). map row_task l ++ []) (sym r))
front_tasks maxfail bad (t ∷ ts) [] r = absurd r
front_tasks {L} maxfail bad (t ∷ ts) (x ∷ xs) r =
    let n = bad + bads x.ends in
    let p : (rest : List Task) × (ts ≡ map row_task xs ++ rest) =
    (elim (reaches maxfail n) as (λ b. MatchBool b (xs ≡ []) (AreRows maxfail n ts xs) → (rest : List Task) × (ts ≡ map row_task xs ++ rest)) [
      | true ↦ λ e. (ts, ap (λ (l : List (ReportRow L)). map row_task l ++ ts) (sym e))
      | false ↦ λ q. front_tasks maxfail n ts xs q
    ]) r.2 in
    (p.0, ap (λ (u : Task). u ∷ ts) (sym r.0) ∙ ap (λ (l : List Task). x.task ∷ l) p.1)

-- the failures and errors of the rows are those of the session
counted_rows : {L : Language} (maxfail bad : ℕ) (arrivals : List Arrival) (tasks : List Task) (ends : List (PhaseEnd L)) → Reported maxfail bad (map task_item tasks) ends → row_bads (with_ends arrivals tasks (by_item ends)) ≡ bads ends
counted_rows {L} maxfail bad arrivals [] ends r = ap (λ (l : List (PhaseEnd L)). bads l) (sym r)
counted_rows {L} maxfail bad arrivals (t ∷ ts) ends r =
    let mine = r.0 in let more = r.1 in
    let cut : by_item ends ≡ mine ∷ by_item more = ap (λ (l : List (PhaseEnd L)). by_item l) r.2 ∙ item_cut t.chosen.item.node mine more r.3 in
    let n = bad + bads mine in
    let next = arrivals ++ arrivals_of t.chosen mine in
    let sum : bads mine + bads more ≡ bads ends = (let a = ap (λ (l : List (PhaseEnd L)). bads l) r.2 in let b = bads_append mine more in omega (arith, a, b)) in
    let rest : row_bads (with_ends next ts (by_item more)) ≡ bads more =
    (elim (reaches maxfail n) as (λ b. MatchBool b (more ≡ []) (Reported maxfail n (map task_item ts) more) → row_bads (with_ends next ts (by_item more)) ≡ bads more) [
      | true ↦ λ e. ap (λ (l : List (ReportRow L)). row_bads l) (behind next ts more e) ∙ ap (λ (l : List (PhaseEnd L)). bads l) (sym e)
      | false ↦ λ q. counted_rows maxfail n next ts more q
    ]) r.4 in
    ap (λ (l : List (List (PhaseEnd L))). row_bads (with_ends arrivals (t ∷ ts) l)) cut ∙ (ap (λ (m : ℕ). bads mine + m) rest ∙ sum)

pub stops : {L : Language} (rules : Rules L) (world : L.World) (maxfail : ℕ) (tasks : List Task) → reaches maxfail (ran rules world maxfail tasks).bad ≡ reaches maxfail (row_bads (session_rows rules world maxfail tasks))
stops rules world maxfail tasks =
    let s = ran rules world maxfail tasks in
    let r = session_reports rules maxfail (map task_item tasks) world in
    ap (λ (m : ℕ). reaches maxfail m) (r.counted ∙ sym (counted_rows maxfail 0 [] tasks s.ends r.reported))
