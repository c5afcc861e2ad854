-- A word's value, and the number that it writes.
use Rattle.std.proofs.Common.{◌≡◌, ◌⊎◌, ◌↔◌, ℕ, ◌+◌, ◌*◌, ◌^◌, ◌<◌, List, [], ◌∷◌, length, Bool, true, false, not, Option, None, Some, refl, sym, ap, subst, ◌∙◌, arith, inl, inr}
use Rattle.std.specs.Prelude.{◌&&◌, ◌||◌, ◌==◌, if◌then◌else◌}
use Rattle.std.specs.List.{list_all}
use Rattle.std.specs.Char.{is_digit, digit_value}
use Rattle.std.specs.Str.Parse.{digits_value_after}
use Rattle.std.proofs.lemmas.Bool.{ne_eqb}
use Rattle.std.proofs.lemmas.Bool.Decides.{nat_tests}
use Rattle.std.proofs.Math.Nat.{pow-zero, pow-suc}
use Rattle.py_literals.specs.Chars.{begins_with, is_underscore, is_letter}
use Rattle.py_literals.specs.Numbers.{is_run, is_digit_of, bare_digits, value_in, integer_value, decimal_value, based_value, base_of, is_zero_or_underscore}
use Rattle.literal_law.specs.Numerals.{Digits, none, digit, spaced, value_of, IsBaseLetter, hexadecimal, octal, binary, AreZeros, Writes, decimal, zeros, based}

two_cases : (b : Bool) → (b ≡ true) ⊎ (b ≡ false)
two_cases true = inl refl
two_cases false = inr refl

both_true : (a b : Bool) → (a && b) ≡ true → (a ≡ true) × (b ≡ true)
both_true true b e = (refl, e)
both_true false b e = (e, absurd (cc e))

one_true : (a b : Bool) → (a || b) ≡ true → (a ≡ true) ⊎ (b ≡ true)
one_true true b e = inl refl
one_true false b e = inr e

some_if : (b : Bool) (x n : ℕ) → (if b then Some x else None) ≡ Some n → (b ≡ true) × (x ≡ n)
some_if true x n e = (refl, cc e)
some_if false x n e = absurd (cc e)

same_number : (c d : ℕ) → (c == d) ≡ true → c ≡ d
same_number c d e = grind (arith, nat_tests)

-- each digit's value at its place
one_more : (n b v p w : ℕ) → (n * b + v) * p + w ≡ n * (p * b) + (v * p + w)
one_more n b v p w = grind arith

nothing_more : (n : ℕ) → n ≡ n * 1 + 0
nothing_more n = grind arith

value_after : (base n : ℕ) (ds : List ℕ) → digits_value_after base n ds ≡ n * base ^ length ds + value_of base ds
value_after base n [] = rw (pow-zero base) (nothing_more n)
value_after base n (d ∷ ds) = value_after base (n * base + digit_value d) ds ∙ rw (pow-suc base (length ds)) (one_more n base (digit_value d) (base ^ length ds) (value_of base ds))

from_nought : (p w : ℕ) → 0 * p + w ≡ w
from_nought p w = grind arith

value_is : (base : ℕ) (ds : List ℕ) → digits_value_after base 0 ds ≡ value_of base ds
value_is base ds = value_after base 0 ds ∙ from_nought (base ^ length ds) (value_of base ds)

-- a digit is no other character than a digit
other_than : (s d base : ℕ) → is_digit s base ≡ false → is_digit d base ≡ true → (d == s) ≡ false
other_than s d base out is = ne_eqb d s (λ e. let same : is_digit s base ≡ true = subst (λ c. is_digit c base ≡ true) e is in cc (same, out))

record Run (base : ℕ) (cs ds : List ℕ) : Type 0 where
  run : is_run base cs ≡ true
  alone : bare_digits cs ≡ ds

digits_run : (base : ℕ) (cs ds : List ℕ) → is_digit 95 base ≡ false → Digits base cs ds → Run base cs ds
digits_run base cs ds out none = record { run = refl; alone = refl }
digits_run base cs ds out (digit {cs = more} {ds = others} d is rest) =
    let h = digits_run base more others out rest in
    record { run = rw (is, h.run) refl; alone = rw (other_than 95 d base out is, h.alone) refl }
digits_run base cs ds out (spaced {cs = more} {ds = others} d is rest) =
    let h = digits_run base more others out rest in
    record { run = rw (out, is, h.run) refl; alone = rw (other_than 95 d base out is, h.alone) refl }

run_digits : (base : ℕ) (cs : List ℕ) → is_digit 95 base ≡ false → is_run base cs ≡ true → Digits base cs (bare_digits cs)
run_digits base [] out run = none
run_digits base (c ∷ []) out run =
    let parts = both_true (is_digit c base || (is_underscore c && false)) true run in
    elim (one_true (is_digit c base) (is_underscore c && false) parts.0) [
      | inl is ↦ rw (other_than 95 c base out is) (digit c is none)
      | inr space ↦ absurd (cc (both_true (is_underscore c) false space).1)
    ]
run_digits base (c ∷ d ∷ cs) out run =
    let parts = both_true (is_digit c base || (is_underscore c && is_digit d base)) (is_run base (d ∷ cs)) run in
    elim (one_true (is_digit c base) (is_underscore c && is_digit d base) parts.0) [
      | inl is ↦ rw (other_than 95 c base out is) (digit c is (run_digits base (d ∷ cs) out parts.1))
      | inr space ↦
          let two = both_true (is_underscore c) (is_digit d base) space in
          let behind = both_true (is_digit d base || (is_underscore d && begins_with (is_digit_of base) cs)) (is_run base cs) parts.1 in
          let rest : Digits base (95 ∷ d ∷ cs) (d ∷ bare_digits cs) = spaced d two.1 (run_digits base cs out behind.1) in
          rw (same_number c 95 two.0, other_than 95 d base out two.1) rest
    ]

-- ZEROS
zeros_alone : (cs : List ℕ) → list_all is_zero_or_underscore cs ≡ true → AreZeros (bare_digits cs)
zeros_alone [] all = tt
zeros_alone (c ∷ cs) all =
    let parts = both_true (is_zero_or_underscore c) (list_all is_zero_or_underscore cs) all in
    elim (two_cases (is_underscore c)) [
      | inl space ↦ rw space (zeros_alone cs parts.1)
      | inr other ↦ rw other (same_number c 48 (zero_then c parts.0 other), zeros_alone cs parts.1)
    ]
  where
    zero_then : (c : ℕ) → is_zero_or_underscore c ≡ true → is_underscore c ≡ false → (c == 48) ≡ true
    zero_then c is other = elim (one_true (c == 48) (is_underscore c) is) [
      | inl zero ↦ zero
      | inr space ↦ absurd (cc (space, other))
    ]

alone_zeros : (cs ds : List ℕ) → Digits 10 cs ds → AreZeros ds → list_all is_zero_or_underscore cs ≡ true
alone_zeros cs ds none all = refl
alone_zeros cs ds (digit {cs = more} {ds = others} d is rest) all = rw (all.0, alone_zeros more others rest all.1) refl
alone_zeros cs ds (spaced {cs = more} {ds = others} d is rest) all = rw (all.0, alone_zeros more others rest all.1) refl

zeros_value : (ds : List ℕ) → AreZeros ds → digits_value_after 10 0 ds ≡ 0
zeros_value [] all = refl
zeros_value (d ∷ ds) all = rw all.0 (zeros_value ds all.1)

-- FROM THE VALUE
from_decimal : (c : ℕ) (cs : List ℕ) (n : ℕ) → decimal_value (c ∷ cs) ≡ Some n → Writes (c ∷ cs) n
from_decimal c cs n e =
    let made = some_if (is_digit c 10 && (is_run 10 cs && (not (c == 48) || list_all is_zero_or_underscore cs))) (value_in 10 (c ∷ cs)) n e in
    let first = both_true (is_digit c 10) (is_run 10 cs && (not (c == 48) || list_all is_zero_or_underscore cs)) made.0 in
    let second = both_true (is_run 10 cs) (not (c == 48) || list_all is_zero_or_underscore cs) first.1 in
    let ds = run_digits 10 cs refl second.0 in
    let head : bare_digits (c ∷ cs) ≡ c ∷ bare_digits cs = rw (other_than 95 c 10 refl first.0) refl in
    let value : digits_value_after 10 0 (c ∷ bare_digits cs) ≡ n = ap (digits_value_after 10 0) (sym head) ∙ made.1 in
    elim (two_cases (c == 48)) [
      | inl zero ↦
          let all : list_all is_zero_or_underscore cs ≡ true = rw zero at second.1 in
          let word : Writes (48 ∷ cs) 0 = zeros cs (bare_digits cs) ds (zeros_alone cs all) in
          let nothing : 0 ≡ n = sym (zeros_value (48 ∷ bare_digits cs) (refl, zeros_alone cs all)) ∙ ap (λ x. digits_value_after 10 0 (x ∷ bare_digits cs)) (sym (same_number c 48 zero)) ∙ value in
          rw (same_number c 48 zero, ← nothing) word
      | inr some ↦
          let word : Writes (c ∷ cs) (value_of 10 (c ∷ bare_digits cs)) = decimal c cs (bare_digits cs) first.0 (λ same. cc (rw same at some)) ds in
          subst (λ m. Writes (c ∷ cs) m) (sym (value_is 10 (c ∷ bare_digits cs)) ∙ value) word
    ]

from_based : (letter base : ℕ) (more : List ℕ) (n : ℕ) → IsBaseLetter letter base → is_digit 95 base ≡ false → based_value base (letter ∷ more) ≡ Some n → Writes (48 ∷ letter ∷ more) n
from_based letter base [] n is out e = absurd (cc e)
from_based letter base (c ∷ cs) n is out e =
    let made = some_if (is_run base (c ∷ cs)) (value_in base (c ∷ cs)) n e in
    let word : Writes (48 ∷ letter ∷ c ∷ cs) (value_of base (bare_digits (c ∷ cs))) = based letter base (c ∷ cs) (bare_digits (c ∷ cs)) is (omega arith) (run_digits base (c ∷ cs) out made.0) in
    subst (λ m. Writes (48 ∷ letter ∷ c ∷ cs) m) (sym (value_is base (bare_digits (c ∷ cs))) ∙ made.1) word

letters_are : (small large c : ℕ) → is_letter small large c ≡ true → (c ≡ small) ⊎ (c ≡ large)
letters_are small large c is = elim (one_true (c == small) (c == large) is) [
  | inl e ↦ inl (same_number c small e)
  | inr e ↦ inr (same_number c large e)
]

from_prefix : (letter : ℕ) (more : List ℕ) (n : ℕ) → not (base_of (letter ∷ more) == 10) ≡ true → based_value (base_of (letter ∷ more)) (letter ∷ more) ≡ Some n → Writes (48 ∷ letter ∷ more) n
from_prefix letter more n based_is e = elim (two_cases (is_letter 120 88 letter)) [
  | inl x ↦ from_based letter 16 more n (hexadecimal letter (letters_are 120 88 letter x)) refl (rw x at e)
  | inr no_x ↦ elim (two_cases (is_letter 111 79 letter)) [
    | inl o ↦ from_based letter 8 more n (octal letter (letters_are 111 79 letter o)) refl (rw (no_x, o) at e)
    | inr no_o ↦ elim (two_cases (is_letter 98 66 letter)) [
      | inl b ↦ from_based letter 2 more n (binary letter (letters_are 98 66 letter b)) refl (rw (no_x, no_o, b) at e)
      | inr no_b ↦ absurd (cc (rw (no_x, no_o, no_b) at based_is))
    ]
  ]
]

second : (b : Bool) (x y : Option ℕ) (n : ℕ) → (if b && false then x else y) ≡ Some n → y ≡ Some n
second true x y n e = e
second false x y n e = e

forward : (word : List ℕ) (n : ℕ) → integer_value word ≡ Some n → Writes word n
unfolding integer_value
forward [] n e = absurd (cc e)
forward (c ∷ []) n e = from_decimal c [] n (second (c == 48) None (decimal_value (c ∷ [])) n e)
forward (c ∷ letter ∷ more) n e = elim (two_cases ((c == 48) && not (base_of (letter ∷ more) == 10))) [
  | inl is ↦
      let parts = both_true (c == 48) (not (base_of (letter ∷ more) == 10)) is in
      rw (same_number c 48 parts.0) (from_prefix letter more n parts.1 (rw is at e))
  | inr other ↦ from_decimal c (letter ∷ more) n (rw other at e)
]

-- AND BACK
chosen : (base letter : ℕ) (cs : List ℕ) → (base == 10) ≡ false → (if not (base == 10) then based_value base (letter ∷ cs) else decimal_value (48 ∷ letter ∷ cs)) ≡ based_value base (letter ∷ cs)
chosen base letter cs other = rw other refl

to_based : (letter base : ℕ) (cs ds : List ℕ) → base_of (letter ∷ cs) ≡ base → (base == 10) ≡ false → is_digit 95 base ≡ false → 0 < length cs → Digits base cs ds → integer_value (48 ∷ letter ∷ cs) ≡ Some (value_of base ds)
unfolding integer_value
to_based letter base [] ds is other out some digits = absurd (omega arith)
to_based letter base (c ∷ cs) ds is other out some digits =
    let h = digits_run base (c ∷ cs) ds out digits in
    chosen (base_of (letter ∷ c ∷ cs)) letter (c ∷ cs) (ap (λ (b : ℕ). b == 10) is ∙ other)
    ∙ ap (λ (b : ℕ). based_value b (letter ∷ c ∷ cs)) is
    ∙ ap (λ (b : Bool). if b then Some (value_in base (c ∷ cs)) else None) h.run
    ∙ ap (λ (n : ℕ). Some n) (ap (digits_value_after base 0) h.alone ∙ value_is base ds)

no_prefix : (cs ds : List ℕ) → Digits 10 cs ds → base_of cs ≡ 10
no_prefix cs ds none = refl
no_prefix cs ds (digit d is rest) = rw (other_than 120 d 10 refl is, other_than 88 d 10 refl is, other_than 111 d 10 refl is, other_than 79 d 10 refl is, other_than 98 d 10 refl is, other_than 66 d 10 refl is) refl
no_prefix cs ds (spaced d is rest) = refl

backward : (word : List ℕ) (n : ℕ) → Writes word n → integer_value word ≡ Some n
unfolding integer_value
backward word n (decimal d cs ds is some digits) =
    let h = digits_run 10 cs ds refl digits in
    rw (ne_eqb d 48 some, is, h.run, other_than 95 d 10 refl is, h.alone) (ap Some (value_is 10 (d ∷ ds)))
backward word n (zeros cs ds digits all) =
    let h = digits_run 10 cs ds refl digits in
    rw (no_prefix cs ds digits, h.run, alone_zeros cs ds digits all, h.alone) (ap Some (zeros_value (48 ∷ ds) (refl, all)))
backward word n (based letter base cs ds (hexadecimal c (inl e)) some digits) = to_based c 16 cs ds (rw e refl) refl refl some digits
backward word n (based letter base cs ds (hexadecimal c (inr e)) some digits) = to_based c 16 cs ds (rw e refl) refl refl some digits
backward word n (based letter base cs ds (octal c (inl e)) some digits) = to_based c 8 cs ds (rw e refl) refl refl some digits
backward word n (based letter base cs ds (octal c (inr e)) some digits) = to_based c 8 cs ds (rw e refl) refl refl some digits
backward word n (based letter base cs ds (binary c (inl e)) some digits) = to_based c 2 cs ds (rw e refl) refl refl some digits
backward word n (based letter base cs ds (binary c (inr e)) some digits) = to_based c 2 cs ds (rw e refl) refl refl some digits

pub written : (word : List ℕ) (n : ℕ) → integer_value word ≡ Some n ↔ Writes word n
written word n = (forward word n, backward word n)
