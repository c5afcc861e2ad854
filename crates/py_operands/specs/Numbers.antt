-- Whole numbers of 128 bits (Language Reference, binary arithmetic, shifting and bitwise operations).
use Rattle.std.specs.Prelude.{ℕ, suc, ◌-◌, ◌/◌, ◌%◌, ◌^◌, Bool, ℤ, pos, negsuc, neg_ℤ, ◌*ℤ◌, nat_lt, if◌then◌else◌, Option, Some, None, codes, bit_and, bit_or, bit_xor}
use Rattle.std.specs.Int.{int_pow}
use Rattle.std.specs.Ordering.{int_eq}
use Rattle.py_values.specs.Raises.{text_raise}
use Rattle.py_values.specs.declared.class.ExcClass.TheVariants.{OverflowError, ValueError, ZeroDivisionError}
use Rattle.py_values.specs.declared.end.Effect.{Effect}
use Rattle.py_values.specs.declared.end.Effect.TheVariants.{Give, Fail}
use Rattle.py_values.specs.declared.value.Value.TheVariants.{Int}

-- whether a number has 128 bits, the sign among them
abbrev pub fits_bits : ℤ → Bool
fits_bits (pos n) = nat_lt n (2 ^ 127)
fits_bits (negsuc n) = nat_lt n (2 ^ 127)

abbrev pub fitting : ℤ → Option ℤ
fitting z = if fits_bits z then Some z else None

abbrev pub number_made : Option ℤ → Effect
number_made (Some z) = Give (Int z) 0
number_made None = Fail (text_raise OverflowError (codes "whole number out of range")) 0

-- a number, where it has its 128 bits
abbrev pub bounded_number : ℤ → Effect
bounded_number z = number_made (fitting z)

-- -(x+1)
abbrev pub inverted : ℤ → ℤ
inverted (pos n) = negsuc n
inverted (negsuc n) = pos n

-- a number divided by a positive one, rounded down, and what is left, from 0 up to below the divisor
abbrev pub quotient : ℤ → ℕ → ℤ
quotient (pos a) n = pos (a / n)
quotient (negsuc a) n = negsuc (a / n)

abbrev pub remainder : ℤ → ℕ → ℕ
remainder (pos a) n = a % n
remainder (negsuc a) n = n - 1 - a % n

-- a number divided by one that isn't zero, rounded down
abbrev pub floor_div : ℤ → ℤ → ℤ
floor_div z (pos n) = quotient z n
floor_div z (negsuc n) = quotient (neg_ℤ z) (suc n)

-- what is left, with the divisor's sign
abbrev pub floor_mod : ℤ → ℤ → ℤ
floor_mod z (pos n) = pos (remainder z n)
floor_mod z (negsuc n) = neg_ℤ (pos (remainder (neg_ℤ z) (suc n)))

-- a number that is got by dividing by another
abbrev pub divided : ℤ → ℤ → Effect
divided by z = if int_eq by (pos 0) then Fail (text_raise ZeroDivisionError (codes "division by zero")) 0 else bounded_number z

abbrev pub negative_count : Effect
negative_count = Fail (text_raise ValueError (codes "negative count")) 0

-- a count that isn't negative
abbrev pub with_count : (ℕ → Effect) → ℤ → Effect
with_count f (pos n) = f n
with_count f (negsuc n) = negative_count

-- x ** n; a shift to the left multiplies by a power of two, and one to the right divides by it, rounded down
abbrev pub power : ℤ → ℤ → Effect
power x n = with_count (λ k. bounded_number (int_pow x k)) n

abbrev pub shift_left : ℤ → ℤ → Effect
shift_left x n = with_count (λ k. bounded_number (x *ℤ pos (2 ^ k))) n

abbrev pub shift_right : ℤ → ℤ → Effect
shift_right x n = with_count (λ k. bounded_number (quotient x (2 ^ k))) n

-- bit by bit, in two's complement without end: negsuc n has the bits that n hasn't
abbrev pub bits_of : ℤ → ℕ
bits_of (pos n) = n
bits_of (negsuc n) = n

abbrev pub int_and : ℤ → ℤ → ℤ
int_and (pos a) (pos b) = pos (bit_and a b)
int_and (pos a) (negsuc b) = pos (a - bit_and a b)
int_and (negsuc a) (pos b) = pos (b - bit_and b a)
int_and (negsuc a) (negsuc b) = negsuc (bit_or a b)

abbrev pub int_or : ℤ → ℤ → ℤ
int_or (pos a) (pos b) = pos (bit_or a b)
int_or (pos a) (negsuc b) = negsuc (b - bit_and b a)
int_or (negsuc a) (pos b) = negsuc (a - bit_and a b)
int_or (negsuc a) (negsuc b) = negsuc (bit_and a b)

abbrev pub int_xor : ℤ → ℤ → ℤ
int_xor (pos a) (pos b) = pos (bit_xor a b)
int_xor (pos a) (negsuc b) = negsuc (bit_xor a b)
int_xor (negsuc a) (pos b) = negsuc (bit_xor a b)
int_xor (negsuc a) (negsuc b) = pos (bit_xor a b)
