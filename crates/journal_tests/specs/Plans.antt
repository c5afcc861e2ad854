-- What a session on one thread runs.
use Rattle.std.specs.Prelude.{◌≡◌, ℕ, List, [], ◌∷◌}
use Rattle.cli_words.specs.declared.options.Options.{Options}
use Rattle.collect_tree.specs.collect_items.declared.found.FoundSuite.{FoundSuite}
use Rattle.run_items.specs.declared.plan.Plan.{Plan}
use Rattle.runtest_loop.specs.Fed.{numbers_at}

-- what the run of found items depends on: their suite, its table and the limit of steps
abbrev pub plan_found : Options → FoundSuite → Plan
plan_found options found = record { run = record { limit = options.step_limit; suite = found.suite }; table = found.table }

-- the only group
abbrev pub IsOnlyGroup : List (List ℕ) → Type 0
IsOnlyGroup groups = groups ≡ numbers_at groups 0 ∷ []
