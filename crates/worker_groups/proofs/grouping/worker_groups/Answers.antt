use Rattle.std.proofs.Common.{◌≤◌, ◌*◌, ℕ, List, [], length, map, sym, ap, ◌∙◌, subst}
use Rattle.runtest_loop.specs.Fed.{numbers_in_range, unfed}
use Rattle.worker_groups.proofs.Numbers.{few_groups, in_range, report_groups}
use Rattle.worker_groups.proofs.grouping.worker_groups.Goals as goal

pub returns-clause-report : goal.returns-clause-report
returns-clause-report c =
    λ chosen file. ap (λ (gs : List (List ℕ)). map (λ (ns : List ℕ). map chosen ns) gs) c.in_ok-groups.ensures ∙ report_groups c.args.places.now chosen file c.args.numbers.now

pub returns-clause-in_range : goal.returns-clause-in_range
returns-clause-in_range c = λ count every. subst (λ (gs : List (List ℕ)). numbers_in_range count gs) (sym c.in_ok-groups.ensures) (in_range c.args.places.now count c.args.numbers.now every)

pub returns-clause-few : goal.returns-clause-few
returns-clause-few c = subst (λ (gs : List (List ℕ)). unfed gs [] ≤ 2 * length c.args.numbers.now) (sym c.in_ok-groups.ensures) (few_groups c.args.places.now c.args.numbers.now)
