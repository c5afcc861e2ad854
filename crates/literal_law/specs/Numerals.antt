-- How whole numbers are written (Language Reference, integer literals).
use Rattle.std.specs.Prelude.{◌≡◌, ◌≢◌, ◌⊎◌, ℕ, ◌+◌, ◌*◌, ◌^◌, ◌<◌, List, [], ◌∷◌, length, true}
use Rattle.std.specs.Char.{is_digit, digit_value}

-- digits of a base with single underscores before or between them, and the digits alone: `(["_"] digit)*`
pub data Digits (base : ℕ) : List ℕ → List ℕ → Type 0 where
  none : Digits base [] []
  digit : {cs ds : List ℕ} (d : ℕ) → is_digit d base ≡ true → Digits base cs ds → Digits base (d ∷ cs) (d ∷ ds)
  spaced : {cs ds : List ℕ} (d : ℕ) → is_digit d base ≡ true → Digits base cs ds → Digits base (95 ∷ d ∷ cs) (d ∷ ds)

-- the number that digits write: each digit's value at its place
abbrev pub value_of : ℕ → List ℕ → ℕ
value_of base [] = 0
value_of base (d ∷ ds) = digit_value d * base ^ length ds + value_of base ds

-- the letter behind a zero that stands for a base: `x`, `o` or `b`, in either case
pub data IsBaseLetter : ℕ → ℕ → Type 0 where
  hexadecimal : (c : ℕ) → (c ≡ 120) ⊎ (c ≡ 88) → IsBaseLetter c 16
  octal : (c : ℕ) → (c ≡ 111) ⊎ (c ≡ 79) → IsBaseLetter c 8
  binary : (c : ℕ) → (c ≡ 98) ⊎ (c ≡ 66) → IsBaseLetter c 2

abbrev pub AreZeros : List ℕ → Type 0
AreZeros [] = Unit {0}
AreZeros (d ∷ ds) = (d ≡ 48) × AreZeros ds

-- a word that writes a number: `decinteger`, where a leading zero is followed by zeros alone, or a prefix and digits of its base
pub data Writes : List ℕ → ℕ → Type 0 where
  decimal : (d : ℕ) (cs ds : List ℕ) → is_digit d 10 ≡ true → d ≢ 48 → Digits 10 cs ds → Writes (d ∷ cs) (value_of 10 (d ∷ ds))
  zeros : (cs ds : List ℕ) → Digits 10 cs ds → AreZeros ds → Writes (48 ∷ cs) 0
  based : (letter base : ℕ) (cs ds : List ℕ) → IsBaseLetter letter base → 0 < length cs → Digits base cs ds → Writes (48 ∷ letter ∷ cs) (value_of base ds)
