use Rattle.std.proofs.Common.{◌≡◌, ℕ, All, List, [], ◌∷◌, ◌++◌, length, take, drop, flat_map, arith, refl, ap, sym, ◌∙◌, subst}
use Rattle.std.proofs.lemmas.Result.{IfOk-weaker}
use Rattle.share_files.specs.Work.{held_lists}
use Rattle.worker_runs.proofs.Gathered.{is_run_of}
use Rattle.worker_runs.specs.Places.{IsGathered, places_from, zipped}
use Rattle.worker_runs.specs.Threads.{thread_reports}
use Rattle.worker_runs.proofs.run.run_workers.Goals as goal

-- a list behind the writes to the slice of all of it
front : {A : Type 0} (xs ys : List A) → take (length xs) (xs ++ ys) ≡ xs
front [] ys = refl
front {A} (x ∷ xs) ys = ap (λ (l : List A). x ∷ l) (front xs ys)

written : {A : Type 0} (len : ℕ) (before after : List A) → len ≡ length after → take len (after ++ drop (length after) before) ≡ after
written {A} len before after e = ap (λ (n : ℕ). take n (after ++ drop (length after) before)) e ∙ front after (drop (length after) before)

-- each worker is on the bench, and its reports are those of one thread
pub returns-clause-run : goal.returns-clause-run
returns-clause-run g c =
    let b = g.B.Bench in
    let bench = c.args.bench.now in
    let crew = c.in_ok-crew.ensures in
    let draws = c.in_ok-draws.ensures in
    let many : c.in_ok-crew.crew.len ≡ length c.run_shares.new.workers = (let kept = c.run_shares.auto.workers in let lent = c.as_mut_slice.ensures.len in let all = c.in_ok-crew.crew.ok in omega (arith, kept, lent, all)) in
    IfOk-weaker c.gathered.result (IsGathered (zipped c.as_slice-2.result.now c.in_ok-reports.reports.items)) _
    (λ run gathered d collected.
    is_run_of (b.rules bench d.table) (b.fixture bench d.table) (b.options bench) d (held_lists c.in_ok-taken.taken.items) _ (λ w. w.bench.now ≡ bench) (λ w. w.reports.items) _ _ _ _
    c.in_ok-taken.ensures.works c.in_ok-taken.ensures.share (subst (λ ws. All (λ w. w.bench.now ≡ bench) ws) (sym c.as_mut_slice.ensures.value) crew.1)
    c.sizes-sizes.result.now c.as_slice-2.result.now c.in_ok-reports.reports.items
    (c.sizes-sizes.ensures.sizes d collected)
    (c.as_slice-2.ensures.value ∙ (c.in_ok-places.ensures ∙ ap (λ ls. places_from c.sizes-sizes.result.now 0 (held_lists ls)) c.as_slice.ensures.value))
    (c.in_ok-reports.ensures ∙ ap (λ ws. flat_map (λ w. w.reports.items) ws) (written c.in_ok-crew.crew.len c.in_ok-crew.crew.items c.run_shares.new.workers many))
    (ap (λ n. n.groups) draws)
    c.args.workers run
    (ap (λ n. n.workers) draws)
    gathered
    (λ w v l same rises works. subst (λ x. (b.collects x d → v.reports.items ≡ thread_reports (b.rules x d.table) (b.fixture x d.table) (b.options x) d l)) same (works rises d) collected))
    c.gathered.ensures
