-- The first part of a path.
use Rattle.std.proofs.Common.{◌≡◌, ℕ, ◌+◌, ◌<◌, ◌≤◌, List, [], ◌∷◌, Bool, true, false, length, take, drop, cond, None, Some, Option, refl, arith}
use Rattle.std.specs.Prelude.{MatchOption, position, nat_lt}
use Rattle.std.specs.List.{slice_split, position_or_len}
use Rattle.std.proofs.lemmas.List.Splits.{slice_split_none, slice_split_first}
use Rattle.std.proofs.lemmas.List.Sums.{fails_before_first}
use Rattle.std.proofs.lemmas.Bool.{ltb-true, ltb-false}
use Rattle.std.proofs.lemmas.List.Elements.{All-from_get_or}

abbrev pub SplitsAt : {X : Type 0} → (X → Bool) → List X → Option ℕ → Type 0
SplitsAt p xs r = MatchOption r (slice_split p xs ≡ xs ∷ []) (λ at. (at < length xs) × (slice_split p xs ≡ take at xs ∷ slice_split p (drop (at + 1) xs)))

by_test : (p : ℕ → Bool) (xs : List ℕ) (b : Bool) → nat_lt (position_or_len p xs) (length xs) ≡ b → SplitsAt p xs (cond b (Some (position_or_len p xs)) None)
by_test p xs true e = let lt : position_or_len p xs < length xs = ltb-true _ _ e in (lt, slice_split_first p xs 0 lt)
by_test p xs false e =
    let ge : length xs ≤ position_or_len p xs = ltb-false _ _ e in
    slice_split_none p xs (All-from_get_or (λ x. p x ≡ false) xs 0 (λ k l. fails_before_first p xs k 0 (omega arith)))

pub splits_at : (p : ℕ → Bool) (xs : List ℕ) → SplitsAt p xs (position p xs)
splits_at p xs = by_test p xs (nat_lt (position_or_len p xs) (length xs)) refl
