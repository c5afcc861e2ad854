-- Whole numbers (Language Reference, integer literals), and the other numeric literals as far as they have to be told apart from these.
use Rattle.std.specs.Prelude.{ℕ, ◌==◌, ◌^◌, Bool, true, false, if◌then◌else◌, ◌&&◌, ◌||◌, not, List, [], ◌∷◌, Option, None, Some, Result, Ok, Err, pos, ℤ, nat_lt}
use Rattle.std.specs.Char.{is_digit}
use Rattle.std.specs.List.{filter, list_all, take_while, prefix_len}
use Rattle.std.specs.Str.Parse.{digits_value}
use Rattle.unicode_ident.specs.Ident.{is_xid_continue}
use Rattle.py_source.specs.declared.fault.LexKind.{LexKind}
use Rattle.py_source.specs.declared.fault.LexKind.TheVariants.{Unsupported, NumberForm, NumberRange}
use Rattle.py_literals.specs.declared.number.Number.{Number}
use Rattle.py_literals.specs.Chars.{begins_with, is_underscore, is_letter}

abbrev pub is_digit_of : ℕ → ℕ → Bool
is_digit_of base c = is_digit c base

-- `(["_"] digit)*`: each underscore stands right before a digit, and all else is digits
abbrev pub is_run : ℕ → List ℕ → Bool
is_run base [] = true
is_run base (c ∷ cs) = (is_digit c base || (is_underscore c && begins_with (is_digit_of base) cs)) && is_run base cs

-- `(["_"] digit)+`
abbrev pub is_some_run : ℕ → List ℕ → Bool
is_some_run base [] = false
is_some_run base (c ∷ cs) = is_run base (c ∷ cs)

-- the base that a letter behind a zero stands for: `0x`, `0o`, `0b` in either case, else 10
abbrev pub base_of : List ℕ → ℕ
base_of [] = 10
base_of (c ∷ cs) = if is_letter 120 88 c then 16 else (if is_letter 111 79 c then 8 else (if is_letter 98 66 c then 2 else 10))

abbrev pub is_zero_or_underscore : ℕ → Bool
is_zero_or_underscore c = (c == 48) || is_underscore c

-- the digits without underscores
abbrev pub bare_digits : List ℕ → List ℕ
bare_digits cs = filter (λ c. not (is_underscore c)) cs

-- the number that the digits write; underscores do not count
abbrev pub value_in : ℕ → List ℕ → ℕ
value_in base cs = digits_value base (bare_digits cs)

-- `decinteger`: digits, where a leading zero is followed by zeros alone
abbrev pub decimal_value : List ℕ → Option ℕ
decimal_value [] = None
decimal_value (c ∷ cs) = if is_digit c 10 && (is_run 10 cs && (not (c == 48) || list_all is_zero_or_underscore cs)) then Some (value_in 10 (c ∷ cs)) else None

-- what stands behind the zero of a prefix and its letter
abbrev pub based_value : ℕ → List ℕ → Option ℕ
based_value base [] = None
based_value base (letter ∷ cs) = if is_some_run base cs then Some (value_in base cs) else None

-- `integer`: the number that a word spells
unfoldable pub integer_value : List ℕ → Option ℕ
integer_value [] = None
integer_value (c ∷ cs) = if (c == 48) && not (base_of cs == 10) then based_value (base_of cs) cs else decimal_value (c ∷ cs)

-- what stands behind the longest `digit (["_"] digit)*`
abbrev pub behind_digits : List ℕ → List ℕ
behind_digits [] = []
behind_digits (c ∷ cs) = if is_digit c 10 || (is_underscore c && begins_with (is_digit_of 10) cs) then behind_digits cs else c ∷ cs

-- without a sign
abbrev pub behind_sign : List ℕ → List ℕ
behind_sign [] = []
behind_sign (c ∷ cs) = if (c == 43) || (c == 45) then cs else c ∷ cs

-- whether what stands behind digits makes them a `floatnumber` or an `imagnumber`: a point, an exponent with a digit, or a `j` that no name goes on from
abbrev pub is_no_integer : List ℕ → Bool
is_no_integer [] = false
is_no_integer (c ∷ cs) = (c == 46) || ((is_letter 101 69 c && begins_with (is_digit_of 10) (behind_sign cs)) || (is_letter 106 74 c && not (begins_with is_xid_continue cs)))

-- the range of numbers that the language has
abbrev pub in_range : ℕ → Option ℤ
in_range n = if nat_lt n (2 ^ 127) then Some (pos n) else None

abbrev pub ranged : ℕ → Option ℤ → Result Number LexKind
ranged len None = Err NumberRange
ranged len (Some value) = Ok (record { value = value; len = len })

abbrev pub spelled : ℕ → Option ℕ → Result Number LexKind
spelled len None = Err NumberForm
spelled len (Some n) = ranged len (in_range n)

-- The number at the head of a text that begins with a digit. It takes all characters that may stand in a name, so that a name right behind a number is a wrong form.
unfoldable pub number_at : List ℕ → Result Number LexKind
number_at text = if is_no_integer (behind_digits text) then Err Unsupported else spelled (prefix_len is_xid_continue text) (integer_value (take_while is_xid_continue text))
