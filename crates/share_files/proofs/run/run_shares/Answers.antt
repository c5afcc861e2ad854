use Rattle.std.proofs.Common.{rules, ◌≡◌, ℕ, ◌<◌, ◌≤◌, List, ◌++◌, length, take, drop, sym, ap, ◌∙◌}
use Rattle.std.proofs.Math.Seq.{take-append_seam}
use Rattle.share_files.specs.Deal.{Every, deal}
use Rattle.share_files.specs.Work.{IsRange, HaveRun, held_lists}
use Rattle.share_files.proofs.Shares.{share_law}
use Rattle.share_files.proofs.run.run_shares.Goals as goal

all_taken : {A : Type 0} (n : ℕ) (xs ys : List A) → length xs ≡ n → take n (xs ++ ys) ≡ xs
all_taken n xs ys e = ap (λ m. take m (xs ++ ys)) (sym e) ∙ take-append_seam xs ys

pub returns-clause-share : goal.returns-clause-share
returns-clause-share g c =
    let d = c.args.draws in
    let new = c.run_range-seat.new.lists in
    let seat = c.run_range-seat.result.0 in
    let long : length new ≡ c.in_ok-lists.lists.len = search rules in
    let same = all_taken c.in_ok-lists.lists.len new (drop (length new) c.in_ok-lists.lists.items) long in
    let at : IsRange 0 d.workers seat.me = search rules in
    let ran : HaveRun g.W.Worker.works d.groups 0 seat.me.0.lists c.args.workers.now (held_lists new) c.run_range-seat.new.workers = search rules in
    let draws = c.close.ensures.0 in
    let key : c.draws.inside.table.shared.key ≡ d = search rules in
    let first : seat.me.0.first ≡ 0 = ap (λ m. m.0.first) at.0 in
    let some : (1 ≤ d.workers) × (d.workers ≤ d.groups) = search rules in
    let who : Every (λ k. k < d.workers) draws = rw key at c.close.ensures.1 in
    let dealt : seat.me.0.lists ≡ deal d.workers draws = rw (key, first, at.1) at c.close.ensures.2 in
    rw same (share_law d.groups d.workers draws (held_lists new) who some.0 some.1 (rw dealt at ran.0))
