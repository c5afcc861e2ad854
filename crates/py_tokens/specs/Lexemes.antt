-- The token at the head of a text that begins with no blank, comment or line end (Language Reference, other tokens).
use Rattle.std.specs.Prelude.{ℕ, ◌==◌, ◌+◌, Bool, true, false, if◌then◌else◌, ◌&&◌, ◌||◌, List, [], ◌∷◌, Option, None, Some, Result, Ok, Err, drop, take, length}
use Rattle.std.specs.Char.{is_digit}
use Rattle.std.specs.List.{prefix_len}
use Rattle.unicode_ident.specs.Ident.{is_xid_start, is_xid_continue}
use Rattle.unicode_normalization.specs.Forms.{is_in_form, Nfkc}
use Rattle.py_source.specs.declared.fault.LexKind.{LexKind}
use Rattle.py_source.specs.declared.fault.LexKind.TheVariants.{Unsupported, Character, NotNfkc}
use Rattle.py_literals.specs.declared.literal.Literal.{Literal}
use Rattle.py_literals.specs.declared.literal.Miss.{Miss}
use Rattle.py_literals.specs.declared.number.Number.{Number}
use Rattle.py_literals.specs.Chars.{begins_with, is_letter}
use Rattle.py_literals.specs.Literals.{literal_at}
use Rattle.py_literals.specs.Numbers.{is_digit_of, number_at}
use Rattle.py_tokens.specs.declared.op.Op.{Op}
use Rattle.py_tokens.specs.declared.token.TokenKind.{TokenKind}
use Rattle.py_tokens.specs.declared.token.TokenKind.TheVariants as kind
use Rattle.py_tokens.specs.declared.lexeme.Lexeme.{Lexeme}
use Rattle.py_tokens.specs.declared.lexeme.Prefix.{Prefix}
use Rattle.py_tokens.specs.declared.lexeme.Prefix.TheVariants.{Raw, Foreign, Missing}
use Rattle.py_tokens.specs.Words.{operator_at, keyword_of}

abbrev pub is_raw_letter : ℕ → Bool
is_raw_letter c = is_letter 114 82 c

-- `b` and `f` may stand beside `r`
abbrev pub is_pair_letter : ℕ → Bool
is_pair_letter c = is_letter 98 66 c || is_letter 102 70 c

-- the prefixes of literals, in either case (Language Reference, string literals)
abbrev pub prefix_of : List ℕ → Prefix
prefix_of (c ∷ []) = if is_raw_letter c then Raw else (if is_pair_letter c || is_letter 117 85 c then Foreign else Missing)
prefix_of (c ∷ d ∷ []) = if (is_pair_letter c && is_raw_letter d) || (is_raw_letter c && is_pair_letter d) then Foreign else Missing
prefix_of _ = Missing

abbrev pub wrong : LexKind → Result Lexeme Miss
wrong kind = Err (record { at = 0; kind = kind })

abbrev pub is_quote : ℕ → Bool
is_quote c = (c == 39) || (c == 34)

-- the literal behind a prefix of so many characters; it is wrong from the prefix on
abbrev pub literal_lexeme : ℕ → Result Literal Miss → Result Lexeme Miss
literal_lexeme prefix (Ok literal) = Ok (record { kind = kind.Text literal.text; len = prefix + literal.len })
literal_lexeme prefix (Err miss) = Err miss

abbrev pub kind_of_word : List ℕ → Option Op → TokenKind
kind_of_word word (Some keyword) = kind.Op keyword
kind_of_word word None = kind.Name word

-- a name, which is in Normalization Form KC (Language Reference, identifiers)
abbrev pub named : List ℕ → Result Lexeme Miss
named word = if is_in_form Nfkc word then Ok (record { kind = kind_of_word word (keyword_of word); len = length word }) else wrong NotNfkc

-- a name right before a quote
abbrev pub prefixed_lexeme : Prefix → List ℕ → List ℕ → Result Lexeme Miss
prefixed_lexeme Raw word behind = literal_lexeme (length word) (literal_at true behind)
prefixed_lexeme Foreign word behind = wrong Unsupported
prefixed_lexeme Missing word behind = named word

abbrev pub name_or_quoted : List ℕ → List ℕ → Result Lexeme Miss
name_or_quoted word behind = if begins_with is_quote behind then prefixed_lexeme (prefix_of word) word behind else named word

-- the longest name that the text begins with
abbrev pub name_len : List ℕ → ℕ
name_len text = 1 + prefix_len is_xid_continue (drop 1 text)

unfoldable pub name_at : List ℕ → Result Lexeme Miss
name_at text = name_or_quoted (take (name_len text) text) (drop (name_len text) text)

abbrev pub number_lexeme : Result Number LexKind → Result Lexeme Miss
number_lexeme (Ok number) = Ok (record { kind = kind.Number number.value; len = number.len })
number_lexeme (Err fault) = wrong fault

abbrev pub operator_lexeme : Option (List ℕ × Op) → Result Lexeme Miss
operator_lexeme (Some entry) = Ok (record { kind = kind.Op entry.1; len = length entry.0 })
operator_lexeme None = wrong Character

-- The token. A point before a digit begins a number with a point.
unfoldable pub lexeme_at : List ℕ → Result Lexeme Miss
lexeme_at [] = wrong Character
lexeme_at (c ∷ cs) =
    if is_xid_start c || (c == 95) then name_at (c ∷ cs)
    else (if is_digit c 10 then number_lexeme (number_at (c ∷ cs))
    else (if is_quote c then literal_lexeme 0 (literal_at false (c ∷ cs))
    else (if (c == 46) && begins_with (is_digit_of 10) cs then wrong Unsupported
    else operator_lexeme (operator_at (c ∷ cs)))))
