use Rattle.std.proofs.Common.{◌≡◌, ℕ, ◌-◌, ◌≤◌, ◌||◌, length, drop}
use Rattle.session_types.specs.Spans.{in_spans}
use Rattle.session_types.proofs.bases.append_from.Given as goal

abbrev pub invariant-rest : goal.invariant-rest
invariant-rest l = record {
  within : l.at ≤ length l.more;
  same : (n : ℕ) → (in_spans n l.spans.items || in_spans n (drop l.at l.more)) ≡ (in_spans n l.fn.spans.items || in_spans n (drop l.fn.from l.more));
}

abbrev pub decreases-rest : goal.decreases-rest
decreases-rest l = length l.more - l.at
