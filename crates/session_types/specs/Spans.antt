-- Numbers that stand in a row, as the first and the last of them.
use Rattle.std.specs.Prelude.{◌≡◌, ℕ, suc, ◌≤◌, Bool, ◌||◌, ◌&&◌, List, [], ◌∷◌, max, nat_le}
use Rattle.std.specs.List.{list_any}
use Rattle.session_types.specs.Numbers.{numbers_where}
use Rattle.session_types.specs.declared.bases.Span.{Span}

abbrev pub in_span : ℕ → Span → Bool
in_span n s = nat_le s.first n && nat_le n s.last

abbrev pub in_spans : ℕ → List Span → Bool
in_spans n spans = list_any (in_span n) spans

-- a number above all of these
abbrev pub top : List Span → ℕ
top [] = 0
top (s ∷ spans) = max (suc s.last) (top spans)

-- the numbers of all of these, each once, the greatest first
abbrev pub numbers_in : List Span → List ℕ
numbers_in spans = numbers_where (λ n. in_spans n spans) (top spans)

-- the numbers of these are those of both
abbrev pub AreJoined : List Span → List Span → List Span → Type 0
AreJoined spans one other = (n : ℕ) → in_spans n spans ≡ (in_spans n one || in_spans n other)

-- the other begins within the one, or right behind it
abbrev pub IsContinued : Span → Span → Type 0
IsContinued one other = (one.first ≤ other.first) × (other.first ≤ suc one.last)

-- a number stands in both
abbrev pub meet : Span → Span → Bool
meet one other = nat_le one.first one.last && (nat_le other.first other.last && (nat_le one.first other.last && nat_le other.first one.last))

abbrev pub meets_any : List Span → Span → Bool
meets_any spans other = list_any (λ s. meet s other) spans
