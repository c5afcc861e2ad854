use Rattle.std.proofs.Common.{◌<◌, ◌≤◌, ◌*◌, [], List, ℕ, ap₂, length, refl, subst, sym, ◌∙◌}
use Rattle.std.proofs.lemmas.Result.{IfOk-weaker}
use Rattle.runtest_loop.specs.Fed.{numbers_in_range, unfed}
use Rattle.share_files.specs.Deal.{Every}
use Rattle.worker_groups.specs.Numbers.{number_groups}
use Rattle.worker_sessions.proofs.Taken.{are_taken, enough, few_numbers, numbers_fit}
use Rattle.worker_sessions.proofs.session.run_collected.Goals as goal

pub run_groups-requires-clause-limit : goal.run_groups-requires-clause-limit
run_groups-requires-clause-limit g c =
    enough c.args.collected c.args.world c.as_slice.result.now (c.as_slice.ensures.value ∙ (c.in-Ok.ensures.groups ∙ ap₂ (λ (p n : List ℕ). number_groups p n) c.as_slice-places.ensures.value c.items-numbers.ensures)) (g.F.Feed.limit c.args.feed.now) c.requires.limit

pub run_groups-requires-clause-in_range : goal.run_groups-requires-clause-in_range
run_groups-requires-clause-in_range g c =
    let x = c.args.collected in
    subst (λ (ls : List (List ℕ)). numbers_in_range (length x.found.suite.items) ls) (sym c.as_slice.ensures.value)
    (numbers_fit x c.requires.within.numbers c.in-Ok.groups.items (λ count h. c.in-Ok.ensures.in_range count (subst (λ (l : List ℕ). Every (λ n. n < count) l) (sym c.items-numbers.ensures) h)))

pub run_groups-requires-clause-few : goal.run_groups-requires-clause-few
run_groups-requires-clause-few g c =
    let x = c.args.collected in
    few_numbers x c.as_slice.result.now (g.F.Feed.given c.args.feed.now) c.requires.fresh
    (subst (λ (ls : List (List ℕ)). unfed ls [] ≤ 2 * length x.selected) (sym c.as_slice.ensures.value) (subst (λ (l : List ℕ). unfed c.in-Ok.groups.items [] ≤ 2 * length l) c.items-numbers.ensures c.in-Ok.ensures.few))
    c.requires.within.few

pub returns-in-Ok-clause-reports : goal.returns-in-Ok-clause-reports
returns-in-Ok-clause-reports g c =
    let x = c.args.collected in
    IfOk-weaker c.run_groups.result _ _
    (λ reports h. are_taken c.args.options.now x.found x.places.items x.selected c.as_slice.result.now
    (c.as_slice.ensures.value ∙ (c.in-Ok.ensures.groups ∙ ap₂ (λ (p n : List ℕ). number_groups p n) c.as_slice-places.ensures.value c.items-numbers.ensures))
    (subst (λ (ls : List (List ℕ)). numbers_in_range (length x.found.suite.items) ls) (sym c.as_slice.ensures.value)
    (numbers_fit x c.requires.within.numbers c.in-Ok.groups.items (λ count h. c.in-Ok.ensures.in_range count (subst (λ (l : List ℕ). Every (λ n. n < count) l) (sym c.items-numbers.ensures) h))))
    x c.args.world refl refl refl (g.F.Feed.given c.run_groups.new.feed) reports.items h) c.run_groups.ensures.reports
