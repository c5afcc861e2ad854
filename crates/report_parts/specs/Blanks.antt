-- Texts without the blanks on both sides.
use Rattle.std.specs.Prelude.{◌≡◌, ◌<◌, ℕ, ◌-◌, List, length, take, drop, Bool, ◌||◌, ◌==◌}
use Rattle.std.specs.List.{prefix_len, suffix_len}
use Rattle.std.specs.Str.{IsUtf8}

-- a space or a tab
abbrev pub is_space_or_tab : ℕ → Bool
is_space_or_tab c = (c == 32) || (c == 9)

unfoldable pub without_front : List ℕ → List ℕ
without_front text = drop (prefix_len is_space_or_tab text) text

unfoldable pub without_end : List ℕ → List ℕ
without_end text = take (length text - suffix_len is_space_or_tab text) text

-- a text without the spaces and tabs on both sides
abbrev pub stripped : List ℕ → List ℕ
stripped text = without_end (without_front text)

-- a text whose first character is a blank
pub record BeginsWithBlank (text rest : List ℕ) : Type 0 where
  pub same : without_front text ≡ without_front rest
  pub shorter : length rest < length text
  pub utf8 : IsUtf8 rest

-- a text whose last character is a blank
pub record EndsWithBlank (text rest : List ℕ) : Type 0 where
  pub same : without_end text ≡ without_end rest
  pub shorter : length rest < length text
  pub utf8 : IsUtf8 rest
