-- Text literals (Language Reference, string literals), each from its opening quote on.
use Rattle.std.specs.Prelude.{◌≡◌, ℕ, ◌≤◌, ◌==◌, ◌+◌, ◌-◌, Bool, false, if◌then◌else◌, ◌&&◌, ◌||◌, not, List, [], ◌∷◌, ◌++◌, Option, None, Some, Result, Ok, Err, nat_lt, nat_le, drop, take, length, min, max}
use Rattle.std.proofs.Common.{zero, suc}
use Rattle.std.specs.Option.{option_to_list}
use Rattle.std.specs.Char.{is_digit}
use Rattle.std.specs.List.{list_all, prefix_len}
use Rattle.std.specs.Str.Parse.{digits_value}
use Rattle.py_source.specs.declared.fault.LexKind.{LexKind}
use Rattle.py_source.specs.declared.fault.LexKind.TheVariants.{Unsupported, Unterminated, Escape}
use Rattle.py_literals.specs.declared.literal.Literal.{Literal}
use Rattle.py_literals.specs.declared.literal.ReadFault.{ReadFault}
use Rattle.py_literals.specs.declared.literal.ReadFault.TheVariants.{Bad, OutOfMemory}
use Rattle.py_literals.specs.declared.literal.Miss.{Miss}
use Rattle.py_literals.specs.declared.escape.Item.{Item}
use Rattle.py_literals.specs.Chars.{begins_with, line_end, begins_line_end}

-- THE EXTENT. Whether the text begins with the quote, and with three of them.
abbrev pub has_quote : ℕ → List ℕ → Bool
has_quote quote cs = begins_with (λ c. c == quote) cs

abbrev pub has_three : ℕ → List ℕ → Bool
has_three quote (a ∷ b ∷ c ∷ cs) = (a == quote) && ((b == quote) && (c == quote))
has_three quote _ = false

abbrev pub closes : Bool → ℕ → List ℕ → Bool
closes is_long quote cs = if is_long then has_three quote cs else has_quote quote cs

-- how many characters an item of the body has: `stringescapeseq`, where a line end is one character, or a single character
abbrev pub item_len : List ℕ → ℕ
item_len [] = 1
item_len (c ∷ cs) = if c == 92 then 1 + max 1 (line_end cs) else 1

-- Where the closing quote stands that no item holds, with `at` characters and the rest of an item before the text. A short literal ends on its line.
unfoldable pub closing_from : Bool → ℕ → ℕ → ℕ → List ℕ → Option ℕ
closing_from is_long quote at skip [] = None
closing_from is_long quote at (suc skip) (c ∷ cs) = closing_from is_long quote (at + 1) skip cs
closing_from is_long quote at zero (c ∷ cs) = if closes is_long quote (c ∷ cs) then Some at else (if not is_long && begins_line_end (c ∷ cs) then None else closing_from is_long quote (at + 1) (item_len (c ∷ cs) - 1) cs)

-- THE MEANING. The escapes of one character.
abbrev pub simple_escape : ℕ → Option ℕ
simple_escape c = if (c == 92) || ((c == 39) || (c == 34)) then Some c else (if c == 97 then Some 7 else (if c == 98 then Some 8 else (if c == 102 then Some 12 else (if c == 110 then Some 10 else (if c == 114 then Some 13 else (if c == 116 then Some 9 else (if c == 118 then Some 11 else None)))))))

-- a code point that is no surrogate
abbrev pub is_scalar : ℕ → Bool
is_scalar n = nat_lt n 0xD800 || (nat_le 0xE000 n && nat_lt n 0x11_0000)

-- an escape that writes its character's number
abbrev pub numbered : ℕ → List ℕ → ℕ → Result Item LexKind
numbered base digits len = if is_scalar (digits_value base digits) then Ok (record { stands_for = Some (digits_value base digits); len = len }) else Err Escape

abbrev pub is_hex : ℕ → Bool
is_hex c = is_digit c 16

abbrev pub is_octal : ℕ → Bool
is_octal c = is_digit c 8

-- `\xhh`, `\uhhhh`, `\Uhhhhhhhh`: so many digits, no fewer
abbrev pub hex_escape : ℕ → List ℕ → Result Item LexKind
hex_escape count cs = if (length (take count cs) == count) && list_all is_hex (take count cs) then numbered 16 (take count cs) (count + 2) else Err Escape

-- one to three octal digits
abbrev pub octal_digits : List ℕ → List ℕ
octal_digits cs = take (min (prefix_len is_octal cs) 3) cs

abbrev pub lettered_escape : ℕ → List ℕ → Result Item LexKind
lettered_escape c cs = if c == 120 then hex_escape 2 cs else (if c == 117 then hex_escape 4 cs else (if c == 85 then hex_escape 8 cs else (if c == 78 then Err Unsupported else Ok (record { stands_for = Some 92; len = 1 }))))

abbrev pub simple_or_lettered : Option ℕ → ℕ → List ℕ → Result Item LexKind
simple_or_lettered (Some x) c cs = Ok (record { stands_for = Some x; len = 2 })
simple_or_lettered None c cs = lettered_escape c cs

-- What stands behind a backslash. A line end is dropped with it; before any other character than those above the backslash stands for itself.
unfoldable pub escape_at : List ℕ → Result Item LexKind
escape_at [] = Ok (record { stands_for = Some 92; len = 1 })
escape_at (c ∷ cs) =
    if begins_line_end (c ∷ cs) then Ok (record { stands_for = None; len = 1 + line_end (c ∷ cs) })
    else (if is_octal c then numbered 8 (octal_digits (c ∷ cs)) (1 + length (octal_digits (c ∷ cs))) else simple_or_lettered (simple_escape c) c cs)

-- a line end stands for `\n`, an escape for its character, and all else for itself
unfoldable pub item_at : Bool → List ℕ → Result Item LexKind
item_at is_raw [] = Ok (record { stands_for = None; len = 1 })
item_at is_raw (c ∷ cs) =
    if begins_line_end (c ∷ cs) then Ok (record { stands_for = Some 10; len = line_end (c ∷ cs) })
    else (if not is_raw && (c == 92) then escape_at cs else Ok (record { stands_for = Some c; len = 1 }))

-- what is read with something before it
abbrev pub put_before : {A E : Type 0} → List A → Result (List A) E → Result (List A) E
put_before front (Ok text) = Ok (front ++ text)
put_before front (Err miss) = Err miss

-- how many characters an item may have
abbrev pub IsItemLen : ℕ → Type 0
IsItemLen len = (1 ≤ len) × (len ≤ 10)

-- an item, and what the items behind it stand for, as `rest` says for the part of the item that is still to pass
abbrev pub with_item : ℕ → (ℕ → Result (List ℕ) Miss) → Result Item LexKind → Result (List ℕ) Miss
with_item at rest (Err kind) = Err (record { at = at; kind = kind })
with_item at rest (Ok item) = put_before (option_to_list item.stands_for) (rest (item.len - 1))

-- The text that a body stands for, item by item, or its first item that stands for none, with `at` characters and the rest of an item before it.
unfoldable pub text_from : Bool → ℕ → ℕ → List ℕ → Result (List ℕ) Miss
text_from is_raw at skip [] = Ok []
text_from is_raw at (suc skip) (c ∷ cs) = text_from is_raw (at + 1) skip cs
text_from is_raw at zero (c ∷ cs) = with_item at (λ skip. text_from is_raw (at + 1) skip cs) (item_at is_raw (c ∷ cs))

-- THE LITERAL. One that is not closed is wrong at its start, before any item of it.
abbrev pub quotes_of : Bool → ℕ
quotes_of is_long = if is_long then 3 else 1

abbrev pub quoted : ℕ → ℕ → Result (List ℕ) Miss → Result Literal Miss
quoted quotes len (Ok text) = Ok (record { text = text; len = len })
quoted quotes len (Err miss) = Err (record { at = quotes + miss.at; kind = miss.kind })

abbrev pub closed_at : Bool → ℕ → List ℕ → Option ℕ → Result Literal Miss
closed_at is_raw quotes behind None = Err (record { at = 0; kind = Unterminated })
closed_at is_raw quotes behind (Some n) = quoted quotes (quotes + (n + quotes)) (text_from is_raw 0 0 (take n behind))

unfoldable pub literal_at : Bool → List ℕ → Result Literal Miss
literal_at is_raw [] = Err (record { at = 0; kind = Unterminated })
literal_at is_raw (quote ∷ cs) =
    let is_long = has_three quote (quote ∷ cs) in
    let behind = drop (quotes_of is_long) (quote ∷ cs) in
    closed_at is_raw (quotes_of is_long) behind (closing_from is_long quote 0 0 behind)

-- the answer is what is meant, or memory was wanting
abbrev pub IsReading : {A : Type 0} → Result A Miss → Result A ReadFault → Type 0
IsReading meant (Ok value) = meant ≡ Ok value
IsReading meant (Err (Bad miss)) = meant ≡ Err miss
IsReading meant (Err OutOfMemory) = Unit {0}

-- where the fault of a body may stand
abbrev pub IsMissWithin : ℕ → ReadFault → Type 0
IsMissWithin len (Bad miss) = miss.at ≤ len
IsMissWithin len OutOfMemory = Unit {0}
