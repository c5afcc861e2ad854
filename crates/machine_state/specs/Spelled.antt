-- Characters that UTF-8 spells.
use Rattle.std.specs.Prelude.{Bool, List, ℕ}
use Rattle.std.proofs.Math.Utf8.{scalar, scalars}

abbrev pub is_letter : ℕ → Bool
is_letter = scalar

abbrev pub is_text : List ℕ → Bool
is_text = scalars
