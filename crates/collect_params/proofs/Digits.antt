-- Hexadecimal digits in halves.
use Rattle.std.proofs.Common.{◌≡◌, ℕ, ◌/◌, ◌++◌, ap, arith}
use Rattle.collect_params.specs.Values.{hex_digits}

pub eight : (n : ℕ) → hex_digits 8 n ≡ hex_digits 4 (n / 65536) ++ hex_digits 4 n
eight n = let same : n / 16 / 16 / 16 / 16 ≡ n / 65536 = omega arith in ap (λ m. hex_digits 4 m ++ hex_digits 4 n) same
