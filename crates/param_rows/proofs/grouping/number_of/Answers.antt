use Rattle.std.proofs.Common.{ap, ◌∙◌, List, ℕ}
use Rattle.std.specs.List.{position_or_len}
use Rattle.std.specs.Cmp.Lexicographic.{pointwise}
use Rattle.indexmap.specs.IndexSet.{insert_key}
use Rattle.param_rows.specs.Grouping.{same_pair}
use Rattle.param_rows.proofs.grouping.number_of.Goals as goal

pub returns-clause-keys : goal.returns-clause-keys
returns-clause-keys c = c.in_ok-at.ensures.keys ∙ ap (λ (k : List (ℕ × ℕ)). insert_key (pointwise same_pair) c.args.keys.now.keys k) c.in_ok-copy.ensures

pub returns-clause-number : goal.returns-clause-number
returns-clause-number c = c.in_ok-at.ensures.index ∙ ap (λ (k : List (ℕ × ℕ)). position_or_len (pointwise same_pair k) c.args.keys.now.keys) c.in_ok-copy.ensures
