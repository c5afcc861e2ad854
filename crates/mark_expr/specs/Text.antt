-- The tokens of a text (pytest's reference, "Command-line Flags", `-k` and `-m`).
use Rattle.std.specs.Prelude.{ℕ, ◌+◌, ◌==◌, Bool, false, cond, not, ◌&&◌, ◌||◌, List, [], ◌∷◌, length, min, codes, take_while}
use Rattle.std.specs.Char.{is_ascii_alphanumeric}
use Rattle.std.specs.List.{list_any}
use Rattle.std.specs.Str.{bytes_eq}
use Rattle.mark_expr.specs.declared.token.Kind.{Kind}
use Rattle.mark_expr.specs.declared.token.Kind.TheVariants as kinds
use Rattle.mark_expr.specs.declared.token.Token.{Token}

-- An ident is made of ASCII letters and digits, and of these signs.
abbrev pub is_ident : ℕ → Bool
is_ident c = is_ascii_alphanumeric c || list_any (λ sign. c == sign) (codes "_:+-.[]\\/")

-- a space or a tab
abbrev pub is_inline_space : ℕ → Bool
is_inline_space c = (c == 32) || (c == 9)

-- what a word is: one of three keywords, or an ident
abbrev pub word_kind : List ℕ → Kind
word_kind w = cond (bytes_eq w (codes "or")) kinds.Or (cond (bytes_eq w (codes "and")) kinds.And (cond (bytes_eq w (codes "not")) kinds.Not (kinds.Ident w)))

-- what a character is that stands in no word: a parenthesis, or one that starts no token
abbrev pub sign_kind : ℕ → Kind
sign_kind c = cond (c == 40) kinds.Open (cond (c == 41) kinds.Close kinds.Other)

-- what begins with c: a word goes on as long as it can
abbrev pub kind_at : ℕ → List ℕ → Kind
kind_at c cs = cond (is_ident c) (word_kind (take_while is_ident (c ∷ cs))) (sign_kind c)

-- A token begins at each character that is no blank and doesn't go on with a word; inside says whether the character before it stands in one.
abbrev pub begins : Bool → ℕ → Bool
begins inside c = not (is_inline_space c) && not (inside && is_ident c)

-- the tokens that begin in cs, of which the first character is that at the place
unfoldable pub tokens_from : ℕ → Bool → List ℕ → List Token
tokens_from place inside [] = []
tokens_from place inside (c ∷ cs) = cond (begins inside c) (record { at = place; kind = kind_at c cs } ∷ tokens_from (place + 1) (is_ident c) cs) (tokens_from (place + 1) (is_ident c) cs)

-- THE TOKENS of the text with these characters
abbrev pub tokens_of : List ℕ → List Token
tokens_of cs = tokens_from 0 false cs

-- Where the first of rest stands; the end stands behind the last of count characters.
abbrev pub start_of_rest : ℕ → List Token → ℕ
start_of_rest count [] = count
start_of_rest count (t ∷ ts) = t.at

-- its column from 1, as far as a column is counted
abbrev pub column_of : List ℕ → List Token → ℕ
column_of cs rest = min (start_of_rest (length cs) rest + 1) 4294967295
