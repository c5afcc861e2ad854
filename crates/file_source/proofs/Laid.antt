-- WHAT A LAYOUT IS: tokens that end with the text's end, or the first fault of the text.
use Rattle.std.proofs.Common.{◌∙◌, ◌==◌, ◌-◌, ℕ, Bool, true, false, List, [], ◌∷◌, ◌++◌, Option, Some, None, length, refl, sym, ap, append_assoc, if◌then◌else◌}
use Rattle.std.specs.Prelude.{Result, Ok, Err, nat_lt, replicate}
use Rattle.py_source.specs.Limits.{most_levels}
use Rattle.py_source.specs.declared.fault.LexKind.{LexKind}
use Rattle.py_source.specs.declared.fault.LexKind.TheVariants as fault
use Rattle.py_source.specs.declared.pos.Pos.{Pos}
use Rattle.py_literals.specs.Literals.{put_before}
use Rattle.py_tokens.specs.Layout.{EndsText, Mark, Space, Tab, Gap, LineEnd, TextEnd, Spelled, Wrong, behind_gaps, brackets_with, column_of, columns_behind, deeper, first_place, indent_tokens, innermost, layout, layout_of, line_tokens, line_with, lines_at, start_of, statement, tab_of, text_ends, then_read, token_at, token_role, top, with_mark, with_token, without_deeper, without_mark}
use Rattle.py_tokens.specs.Places.{place_behind}
use Rattle.py_tokens.specs.declared.bracket.Bracket.{Bracket}
use Rattle.py_tokens.specs.declared.place.Place.{Place}
use Rattle.py_tokens.specs.declared.token.LexFault.{LexFault}
use Rattle.py_tokens.specs.declared.token.LexFault.TheVariants.{Bad, OutOfMemory}
use Rattle.py_tokens.specs.declared.token.Token.{Token}
use Rattle.py_tokens.specs.declared.token.TokenKind.TheVariants as kind

abbrev Answer : Type 0
Answer = Result (List Token) LexFault

-- never that memory was wanting
abbrev Told : Answer → Type 0
Told (Ok tokens) = Unit {0}
Told (Err (Bad at kind)) = Unit {0}
Told (Err OutOfMemory) = ⊥

abbrev pub Laid : Answer → Type 0
Laid (Ok tokens) = EndsText tokens
Laid (Err (Bad at kind)) = Unit {0}
Laid (Err OutOfMemory) = ⊥

told_if : (b : Bool) (x y : Answer) → Told x → Told y → Told (if b then x else y)
told_if true x y h k = h
told_if false x y h k = k

told_before : (tokens : List Token) (x : Answer) → Told x → Told (put_before tokens x)
told_before tokens (Ok more) h = tt
told_before tokens (Err (Bad at kind)) h = tt
told_before tokens (Err OutOfMemory) h = elim h [ ]

told_behind : (x y : Answer) → Told x → Told y → Told (then_read x y)
told_behind (Ok tokens) y h k = told_before tokens y k
told_behind (Err (Bad at kind)) y h k = tt
told_behind (Err OutOfMemory) y h k = elim h [ ]

with_token_told : (token : Token) (rest : List Bracket → Answer) (found : Result (List Bracket) LexKind) → ((bs : List Bracket) → Told (rest bs)) → Told (with_token token rest found)
with_token_told token rest (Ok bs) h = told_before (token ∷ []) (rest bs) (h bs)
with_token_told token rest (Err kind) h = tt

text_told : (at : Place) (bracket : Option Bracket) → Told (text_ends at bracket)
text_told at None = tt
text_told at (Some bracket) = tt

mark_told : (bs : List Bracket) (mark : Mark) (rest : List Bracket → Answer) → ((bs : List Bracket) → Told (rest bs)) → Told (with_mark bs mark rest)
mark_told bs (Spelled token from to) rest h = with_token_told (token_at token from to) rest (brackets_with bs from.pos (token_role token)) h
mark_told bs (Wrong at pos kind) rest h = tt
mark_told bs (LineEnd from to) rest h = told_if (length bs == 0) (Ok (token_at kind.Newline from to ∷ [])) (rest bs) tt (h bs)
mark_told bs (TextEnd at) rest h = text_told at (innermost bs)
mark_told bs Space rest h = h bs
mark_told bs (Tab pos) rest h = h bs
mark_told bs Gap rest h = h bs

statement_told : (marks : List Mark) (bs : List Bracket) → Told (statement bs marks)
statement_told [] bs = tt
statement_told (mark ∷ marks) bs = mark_told bs mark (λ behind. statement behind marks) (statement_told marks)

indent_told : (columns : List ℕ) (column : ℕ) (tab : Option Pos) (at : Place) → Told (indent_tokens columns column tab at)
indent_told columns column (Some pos) at = tt
indent_told columns column None at =
    told_if (nat_lt (top columns) column)
    (if nat_lt (length columns) most_levels then Ok (token_at kind.Indent at at ∷ []) else Err (Bad at.pos fault.Nesting))
    (if top (without_deeper column columns) == column then Ok (replicate (deeper column columns) (token_at kind.Dedent at at)) else Err (Bad at.pos fault.Dedent))
    (told_if (nat_lt (length columns) most_levels) (Ok (token_at kind.Indent at at ∷ [])) (Err (Bad at.pos fault.Nesting)) tt tt)
    (told_if (top (without_deeper column columns) == column) (Ok (replicate (deeper column columns) (token_at kind.Dedent at at))) (Err (Bad at.pos fault.Dedent)) tt tt)

line_told : (columns : List ℕ) (column : ℕ) (tab : Option Pos) (marks : List Mark) (place : Option Place) → Told (line_with columns column tab marks place)
line_told columns column tab marks None = tt
line_told columns column tab marks (Some at) = told_behind (indent_tokens columns column tab at) (statement [] marks) (indent_told columns column tab at) (statement_told marks [])

-- the text's end stays the last token
laid_before : (tokens : List Token) (x : Answer) → Laid x → Laid (put_before tokens x)
laid_before tokens (Ok more) h = (tokens ++ h.0, h.1, ap (λ (ts : List Token). tokens ++ ts) h.2 ∙ sym (append_assoc tokens h.0 (token_at kind.End h.1 h.1 ∷ [])))
laid_before tokens (Err (Bad at kind)) h = tt
laid_before tokens (Err OutOfMemory) h = elim h [ ]

laid_behind : (x y : Answer) → Told x → Laid y → Laid (then_read x y)
laid_behind (Ok tokens) y h k = laid_before tokens y k
laid_behind (Err (Bad at kind)) y h k = tt
laid_behind (Err OutOfMemory) y h k = elim h [ ]

lines_laid : (lines : List (List Mark)) (columns : List ℕ) (end : Place) → Laid (layout_of columns end lines)
lines_laid [] columns end = (replicate (length columns - 1) (token_at kind.Dedent end end), end, refl)
lines_laid (line ∷ lines) columns end =
    laid_behind (line_tokens columns line) (layout_of (columns_behind columns line) end lines) (line_told columns (column_of line) (tab_of line) (behind_gaps line) (first_place (behind_gaps line)))
    (lines_laid lines (columns_behind columns line) end)

pub text_laid : (text : List ℕ) → Laid (layout text)
unfolding layout
text_laid text = lines_laid (lines_at (start_of text) (without_mark text)) (0 ∷ []) (place_behind (start_of text) (without_mark text))
