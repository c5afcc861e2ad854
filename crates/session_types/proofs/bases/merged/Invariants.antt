use Rattle.std.proofs.Common.{◌≡◌, ℕ, ◌+◌, ◌-◌, ◌≤◌, ◌||◌, length, drop}
use Rattle.session_types.specs.Spans.{in_spans}
use Rattle.session_types.proofs.bases.merged.Given as goal

abbrev pub invariant-both : goal.invariant-both
invariant-both l = record {
  one : l.left ≤ length l.one;
  other : l.right ≤ length l.other;
  same : (n : ℕ) → ((in_spans n l.spans.items || in_spans n (drop l.left l.one)) || in_spans n (drop l.right l.other)) ≡ (in_spans n l.one || in_spans n l.other);
}

abbrev pub decreases-both : goal.decreases-both
decreases-both l = (length l.one - l.left) + (length l.other - l.right)
