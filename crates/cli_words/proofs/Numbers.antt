-- Numbers of one to nine digits.
use Rattle.std.proofs.Common.{◌≡◌, ◌⊎◌, ℕ, ◌<◌, ◌≤◌, ◌==◌, ◌&&◌, List, length, Bool, true, false, Result, Ok, Option, Some, None, refl, arith, rules, leb, inl, inr}
use Rattle.std.proofs.lemmas.Str.Parse.{IsNumeralModel, numerals_by_value, parse_gives, digits_value_short}
use Rattle.std.proofs.lemmas.Bool.Decides.{nat_tests}
use Rattle.std.specs.Str.Parse.{ParsesUnsigned, digits_value}
use Rattle.std.specs.List.{list_all, before_first}
use Rattle.std.specs.Char.{is_ascii_digit}
use Rattle.cli_words.specs.Values.{after_mark, both, is_number, number_between, seed_and_files_in}

pub own : IsNumeralModel (λ ds. list_all is_ascii_digit ds ≡ true) (digits_value 10)
own = numerals_by_value _ (search rules)

pub all_true : (a b : Bool) → (a && b) ≡ true → (a ≡ true) × (b ≡ true)
all_true true b e = (refl, e)
all_true false b e = (e, absurd (cc e))

record Checked (text : List ℕ) : Type 0 where
  digits : list_all is_ascii_digit text ≡ true
  some : 1 ≤ length text
  short : length text ≤ 9

checked : (text : List ℕ) → is_number text ≡ true → Checked text
checked text is =
    let first = all_true (list_all is_ascii_digit text && leb 1 (length text)) _ is in
    let second = all_true (list_all is_ascii_digit text) _ first.0 in
    record { digits = second.0; some = grind (arith, nat_tests); short = grind (arith, nat_tests) }

pub parsed : {E : Type 0} (text : List ℕ) (r : Result ℕ E) → ParsesUnsigned 32 10 text r → is_number text ≡ true → r ≡ Ok (digits_value 10 text)
parsed text r h is =
    let c = checked text is in
    let short = digits_value_short own text 9 c.digits c.short in
    parse_gives own 32 text r h c.digits c.some (omega (arith, short))

pub no_number : (low high : ℕ) (text : List ℕ) → is_number text ≡ false → None ≡ number_between low high text
unfolding number_between
no_number low high text is = rw is refl

pub number_outside : (low high n : ℕ) (text : List ℕ) → is_number text ≡ true → n ≡ digits_value 10 text → (n < low) ⊎ ((low ≤ n) × (high < n)) → None ≡ number_between low high text
unfolding number_between
number_outside low high n text is e out = elim out [ inl h ↦ rw (is, ← e) (grind (arith, nat_tests)) | inr h ↦ rw (is, ← e) (grind (arith, nat_tests)) ]

pub number_within : (low high n : ℕ) (text : List ℕ) → is_number text ≡ true → n ≡ digits_value 10 text → low ≤ n → n ≤ high → Some n ≡ number_between low high text
unfolding number_between
number_within low high n text is e above below = rw (is, ← e) (grind (arith, nat_tests))

both_none : {X Y : Type 0} (x : Option X) → both {Y = Y} x None ≡ None
both_none None = refl
both_none (Some x) = refl

pub no_files : (text : List ℕ) → after_mark 44 text ≡ None → None ≡ seed_and_files_in text
unfolding seed_and_files_in
no_files text e = rw (e, both_none {Y = ℕ} (number_between 0 65535 (before_first (λ c. c == 44) text))) refl

pub bad_files : (text files : List ℕ) → after_mark 44 text ≡ Some files → None ≡ number_between 1 4000 files → None ≡ seed_and_files_in text
unfolding seed_and_files_in
bad_files text files e f = rw (e, ← f, both_none {Y = ℕ} (number_between 0 65535 (before_first (λ c. c == 44) text))) refl

pub bad_seed : (text : List ℕ) → None ≡ number_between 0 65535 (before_first (λ c. c == 44) text) → None ≡ seed_and_files_in text
unfolding seed_and_files_in
bad_seed text e = rw (← e) refl

pub two_numbers : (text files : List ℕ) (m n : ℕ) → after_mark 44 text ≡ Some files → Some n ≡ number_between 1 4000 files → Some m ≡ number_between 0 65535 (before_first (λ c. c == 44) text) → Some (m, n) ≡ seed_and_files_in text
unfolding seed_and_files_in
two_numbers text files m n e f g = rw (e, ← f, ← g) refl
