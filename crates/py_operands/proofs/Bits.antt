-- Bits of numbers below 2 ^ 127.
use Rattle.std.proofs.Common.{ℕ, ◌^◌, ◌<◌}
use Rattle.std.specs.Prelude.{bit_or, bit_xor}
use Rattle.std.proofs.lemmas.Nat.{and_le_l, and_le_r, or_lt, xor_lt}

pub or_bound : (a b : ℕ) → a < 2 ^ 127 → b < 2 ^ 127 → bit_or a b < 2 ^ 127
or_bound a b h k = or_lt 127 a b h k

pub xor_bound : (a b : ℕ) → a < 2 ^ 127 → b < 2 ^ 127 → bit_xor a b < 2 ^ 127
xor_bound a b h k = xor_lt 127 a b h k

pub ruleset bounds = (and_le_l, and_le_r, or_bound, xor_bound)
