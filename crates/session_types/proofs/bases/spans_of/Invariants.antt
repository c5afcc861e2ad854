use Rattle.std.proofs.Common.{◌≡◌, ℕ, ◌||◌, drop}
use Rattle.session_types.specs.Numbers.{among}
use Rattle.session_types.specs.Spans.{in_spans}
use Rattle.session_types.proofs.bases.spans_of.Given as goal

abbrev pub invariant-loop-number : goal.invariant-loop-number
invariant-loop-number l = (n : ℕ) → (in_spans n l.spans.items || among n (drop l.number-index l.numbers)) ≡ among n l.numbers
