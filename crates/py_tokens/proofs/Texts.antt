-- A text line by line.
use Rattle.std.proofs.Common.{◌≡◌, ℕ, ◌-◌, ◌<◌, ◌≤◌, true, false, List, [], ◌∷◌, ◌++◌, None, Some, Option, Result, Ok, Err, length, take, drop, refl, sym, ap, subst, ◌∙◌, arith, length-drop}
use Rattle.std.specs.Prelude.{if◌then◌else◌, nat_lt}
use Rattle.py_source.specs.declared.pos.Pos.{Pos}
use Rattle.py_source.specs.declared.fault.LexKind.TheVariants as fault
use Rattle.py_literals.specs.Chars.{line_end, begins_line_end}
use Rattle.py_literals.specs.Literals.{put_before}
use Rattle.py_literals.specs.declared.literal.Miss.{Miss}
use Rattle.py_tokens.specs.declared.lexeme.Lexeme.{Lexeme}
use Rattle.py_tokens.specs.declared.place.Place.{Place}
use Rattle.py_tokens.specs.declared.token.Token.{Token}
use Rattle.py_tokens.specs.declared.token.LexFault.{LexFault}
use Rattle.py_tokens.specs.declared.token.LexFault.TheVariants.{Bad, OutOfMemory}
use Rattle.py_tokens.specs.Lexemes.{lexeme_at}
use Rattle.py_tokens.specs.Places.{next_place, place_behind, gap_len}
use Rattle.py_tokens.specs.Layout.{Mark, LineEnd, TextEnd, Spelled, Wrong, gap_mark, spelled_marks, marks_of, lines_of, lines_at, put_first, ends_line, depth_behind, column_of, tab_of, behind_gaps, first_place, statement, then_read, layout_of, line_tokens, line_with, columns_behind, columns_if, columns_with, indent_at, indent_tokens, closing_tokens, layout, start_of, without_mark}
use Rattle.py_tokens.specs.Reading.{first_line, other_lines, PassesGaps, State, lexer_state, whole_from, ReadsLine, IsLine, ReadsTokens, IsLineRead}
use Rattle.py_tokens.proofs.Marks.{place_behind-split, line_end_first, no_end_no_gap}
use Rattle.py_tokens.proofs.Steps.{put_before-put_before}
use Rattle.py_tokens.proofs.Lines.{first_mark}

-- a text has a line
lines_some : (depth : ℕ) (mark : Mark) (marks : List Mark) → lines_of depth (mark ∷ marks) ≡ first_line (lines_of depth (mark ∷ marks)) ∷ other_lines (lines_of depth (mark ∷ marks))
lines_some depth mark marks = elim (ends_line depth mark) as (λ b. (if b then (mark ∷ []) ∷ lines_of 0 marks else put_first mark (lines_of (depth_behind depth mark) marks)) ≡ first_line (if b then (mark ∷ []) ∷ lines_of 0 marks else put_first mark (lines_of (depth_behind depth mark) marks)) ∷ other_lines (if b then (mark ∷ []) ∷ lines_of 0 marks else put_first mark (lines_of (depth_behind depth mark) marks))) [
  | true ↦ refl
  | false ↦ put_some mark (lines_of (depth_behind depth mark) marks)
]
  where
    put_some : (m : Mark) (lines : List (List Mark)) → put_first m lines ≡ first_line (put_first m lines) ∷ other_lines (put_first m lines)
    put_some m [] = refl
    put_some m (line ∷ lines) = refl

marks_some : (place : Place) (xs : List ℕ) → (mark : Mark) × (marks : List Mark) × (marks_of place 0 xs ≡ mark ∷ marks)
unfolding marks_of
marks_some place [] = (TextEnd place, [], refl)
marks_some place (c ∷ cs) =
    elim (begins_line_end (c ∷ cs)) as (λ b. (mark : Mark) × (marks : List Mark) × ((if b then LineEnd place (place_behind place (take (line_end (c ∷ cs)) (c ∷ cs))) ∷ marks_of (next_place place c) (line_end (c ∷ cs) - 1) cs
    else (if nat_lt 0 (gap_len (c ∷ cs)) then gap_mark place (c ∷ cs) ∷ marks_of (next_place place c) (gap_len (c ∷ cs) - 1) cs
    else spelled_marks place (c ∷ cs) (λ skip. marks_of (next_place place c) skip cs) (lexeme_at (c ∷ cs)))) ≡ mark ∷ marks)) [
      | true ↦ (LineEnd place (place_behind place (take (line_end (c ∷ cs)) (c ∷ cs))), marks_of (next_place place c) (line_end (c ∷ cs) - 1) cs, refl)
      | false ↦ elim (nat_lt 0 (gap_len (c ∷ cs))) as (λ b. (mark : Mark) × (marks : List Mark) × ((if b then gap_mark place (c ∷ cs) ∷ marks_of (next_place place c) (gap_len (c ∷ cs) - 1) cs
          else spelled_marks place (c ∷ cs) (λ skip. marks_of (next_place place c) skip cs) (lexeme_at (c ∷ cs))) ≡ mark ∷ marks)) [
            | true ↦ (gap_mark place (c ∷ cs), marks_of (next_place place c) (gap_len (c ∷ cs) - 1) cs, refl)
            | false ↦ spelled_some (lexeme_at (c ∷ cs))
          ]
    ]
  where
    spelled_some : (lexeme : Result Lexeme Miss) → (mark : Mark) × (marks : List Mark) × (spelled_marks place (c ∷ cs) (λ skip. marks_of (next_place place c) skip cs) lexeme ≡ mark ∷ marks)
    spelled_some (Ok lexeme) = (Spelled lexeme.kind place (place_behind place (take lexeme.len (c ∷ cs))), marks_of (next_place place c) (lexeme.len - 1) cs, refl)
    spelled_some (Err miss) = (Wrong place (place_behind place (take miss.at (c ∷ cs))).pos miss.kind, [], refl)

layout_first : (columns : List ℕ) (end place : Place) (xs : List ℕ) → layout_of columns end (lines_at place xs) ≡ then_read (line_tokens columns (first_line (lines_at place xs))) (layout_of (columns_behind columns (first_line (lines_at place xs))) end (other_lines (lines_at place xs)))
layout_first columns end place xs = ap (layout_of columns end) (lines_split place xs)
  where
    lines_split : (place : Place) (xs : List ℕ) → lines_at place xs ≡ first_line (lines_at place xs) ∷ other_lines (lines_at place xs)
    lines_split place xs =
        let split = marks_some place xs in
        subst (λ (ms : List Mark). lines_of 0 ms ≡ first_line (lines_of 0 ms) ∷ other_lines (lines_of 0 ms)) (sym split.2) (lines_some 0 split.0 split.1)

-- ANSWERS ONE BEHIND THE OTHER
put_before-then_read : (tokens : List Token) (first second : Result (List Token) LexFault) → put_before tokens (then_read first second) ≡ then_read (put_before tokens first) second
put_before-then_read tokens (Ok more) second = put_before-put_before tokens more second
put_before-then_read tokens (Err fault) second = refl

-- what the layout says of a line, by what stands behind its gaps
line_by : (columns : List ℕ) (column : ℕ) (tab : Option Pos) (line marks : List Mark) → column_of line ≡ column → tab_of line ≡ tab → behind_gaps line ≡ marks → line_tokens columns line ≡ line_with columns column tab marks (first_place marks)
line_by columns column tab line marks c t m =
    ap (λ (n : ℕ). line_with columns n (tab_of line) (behind_gaps line) (first_place (behind_gaps line))) c
    ∙ ap (λ (o : Option Pos). line_with columns column o (behind_gaps line) (first_place (behind_gaps line))) t
    ∙ ap (λ (ms : List Mark). line_with columns column tab ms (first_place ms)) m

columns_by : (columns : List ℕ) (column : ℕ) (line marks : List Mark) → column_of line ≡ column → behind_gaps line ≡ marks → columns_behind columns line ≡ columns_if columns column (first_place marks)
columns_by columns column line marks c m =
    ap (λ (n : ℕ). columns_if columns n (first_place (behind_gaps line))) c
    ∙ ap (λ (ms : List Mark). columns_if columns column (first_place ms)) m

layout_by : (columns : List ℕ) (end place : Place) (column : ℕ) (tab : Option Pos) (marks : List Mark) (others : List (List Mark)) (xs : List ℕ) → column_of (first_line (lines_at place xs)) ≡ column → tab_of (first_line (lines_at place xs)) ≡ tab → behind_gaps (first_line (lines_at place xs)) ≡ marks → other_lines (lines_at place xs) ≡ others
    → layout_of columns end (lines_at place xs) ≡ then_read (line_with columns column tab marks (first_place marks)) (layout_of (columns_if columns column (first_place marks)) end others)
layout_by columns end place column tab marks others xs c t m o =
    layout_first columns end place xs
    ∙ ap (λ (r : Result (List Token) LexFault). then_read r (layout_of (columns_behind columns (first_line (lines_at place xs))) end (other_lines (lines_at place xs)))) (line_by columns column tab (first_line (lines_at place xs)) marks c t m)
    ∙ ap (λ (cs : List ℕ). then_read (line_with columns column tab marks (first_place marks)) (layout_of cs end (other_lines (lines_at place xs)))) (columns_by columns column (first_line (lines_at place xs)) marks c m)
    ∙ ap (λ (ls : List (List Mark)). then_read (line_with columns column tab marks (first_place marks)) (layout_of (columns_if columns column (first_place marks)) end ls)) o

put_before-nothing : {E : Type 0} (rest : Result (List Token) E) → put_before [] rest ≡ rest
put_before-nothing (Ok tokens) = refl
put_before-nothing (Err fault) = refl

-- BLANK LINES
no_text : (xs : List ℕ) → length xs ≡ 0 → xs ≡ []
no_text [] none = refl
no_text (c ∷ cs) none = absurd (omega (arith, none))

pub last_lines : (place : Place) (xs : List ℕ) → length xs ≡ 0 → lines_at place xs ≡ (TextEnd place ∷ []) ∷ []
unfolding marks_of
last_lines place xs none = ap (lines_at place) (no_text xs none)

pub last_layout : (columns : List ℕ) (end place : Place) (xs : List ℕ) → length xs ≡ 0 → layout_of columns end (lines_at place xs) ≡ Ok (closing_tokens columns end)
last_layout columns end place xs none = ap (layout_of columns end) (last_lines place xs none)

blank_lines : (place : Place) (n : ℕ) (xs : List ℕ) → 0 < n → n ≡ line_end xs → lines_at place xs ≡ (LineEnd place (place_behind place (take n xs)) ∷ []) ∷ lines_at (place_behind place (take n xs)) (drop n xs)
blank_lines place n xs some is = ap (lines_of 0) (line_end_first place n xs some is)

-- the last line is blank
pub reads_last : (tokens : List Token) (columns : List ℕ) (place gap : Place) (xs ys : List ℕ) → PassesGaps place xs gap ys → length ys ≡ 0 → 0 < length xs → ReadsLine (lexer_state tokens columns place xs) (lexer_state tokens columns gap ys)
reads_last tokens columns place gap xs ys passed none some = record {
  same = λ end. ap (put_before tokens) (last_layout columns end gap ys none ∙ sym (
      layout_by columns end place (column_of (first_line (lines_at place xs))) (tab_of (first_line (lines_at place xs))) (TextEnd gap ∷ []) [] xs refl refl
      (sym passed.line ∙ ap (λ (ls : List (List Mark)). behind_gaps (first_line ls)) (last_lines gap ys none))
      (sym passed.others ∙ ap other_lines (last_lines gap ys none))));
  end = passed.end;
  shorter = omega arith;
}

-- a blank line that has an end
pub reads_blank : (tokens : List Token) (columns : List ℕ) (place gap : Place) (n : ℕ) (xs ys : List ℕ) → PassesGaps place xs gap ys → 0 < n → n ≡ line_end ys → 0 < length ys → ReadsLine (lexer_state tokens columns place xs) (lexer_state tokens columns (place_behind gap (take n ys)) (drop n ys))
reads_blank tokens columns place gap n xs ys passed some is text =
    let behind : Place = place_behind gap (take n ys) in
    record {
      same = λ end. ap (put_before tokens) (sym (
          layout_by columns end place (column_of (first_line (lines_at place xs))) (tab_of (first_line (lines_at place xs))) (LineEnd gap behind ∷ []) (lines_at behind (drop n ys)) xs refl refl
          (sym passed.line ∙ ap (λ (ls : List (List Mark)). behind_gaps (first_line ls)) (blank_lines gap n ys some is))
          (sym passed.others ∙ ap other_lines (blank_lines gap n ys some is))
          ∙ put_before-nothing (layout_of columns end (lines_at behind (drop n ys)))));
      end = place_behind-split gap n ys ∙ passed.end;
      shorter = omega (arith, length-drop n ys, passed.no_longer);
    }

-- LINES WITH TOKENS
record IsStart (place : Place) (line : List Mark) : Type 0 where
  place_is : first_place line ≡ Some place
  no_gaps : behind_gaps line ≡ line

start_at : (place : Place) (c : ℕ) (cs : List ℕ) (lexeme : Result Lexeme Miss) → IsStart place (first_line (lines_of 0 (spelled_marks place (c ∷ cs) (λ skip. marks_of (next_place place c) skip cs) lexeme)))
start_at place c cs (Ok lexeme) =
    let line = first_mark 0 (Spelled lexeme.kind place (place_behind place (take lexeme.len (c ∷ cs)))) (marks_of (next_place place c) (lexeme.len - 1) cs) in
    record { place_is = ap first_place line.1; no_gaps = ap behind_gaps line.1 ∙ sym line.1 }
start_at place c cs (Err miss) =
    let line = first_mark 0 (Wrong place (place_behind place (take miss.at (c ∷ cs))).pos miss.kind) [] in
    record { place_is = ap first_place line.1; no_gaps = ap behind_gaps line.1 ∙ sym line.1 }

start_of_line : (place : Place) (xs : List ℕ) → 0 < length xs → line_end xs ≡ 0 → gap_len xs ≡ 0 → IsStart place (first_line (lines_at place xs))
start_of_line place [] some no_end no_gap = absurd (omega arith)
start_of_line place (c ∷ cs) some no_end no_gap =
    subst (λ (ms : List Mark). IsStart place (first_line (lines_of 0 ms))) (sym (no_end_no_gap place c cs no_end no_gap)) (start_at place c cs (lexeme_at (c ∷ cs)))

-- the layout of a text whose first line has a token
layout_with : (columns : List ℕ) (end place gap : Place) (column : ℕ) (tab : Option Pos) (xs ys : List ℕ) → PassesGaps place xs gap ys → column_of (first_line (lines_at place xs)) ≡ column → tab_of (first_line (lines_at place xs)) ≡ tab → 0 < length ys → line_end ys ≡ 0 → gap_len ys ≡ 0
    → layout_of columns end (lines_at place xs) ≡ then_read (then_read (indent_tokens columns column tab gap) (statement [] (first_line (lines_at gap ys)))) (layout_of (columns_with columns column) end (other_lines (lines_at gap ys)))
layout_with columns end place gap column tab xs ys passed c t some no_end no_gap =
    let start = start_of_line gap ys some no_end no_gap in
    layout_by columns end place column tab (first_line (lines_at gap ys)) (other_lines (lines_at gap ys)) xs c t (sym passed.line ∙ start.no_gaps) (sym passed.others)
    ∙ ap (λ (o : Option Place). then_read (line_with columns column tab (first_line (lines_at gap ys)) o) (layout_of (columns_if columns column o) end (other_lines (lines_at gap ys)))) start.place_is

pub reads_tokens : (tokens : List Token) (columns : List ℕ) (place gap : Place) (column : ℕ) (xs ys : List ℕ) (new : State) → PassesGaps place xs gap ys → column_of (first_line (lines_at place xs)) ≡ column → tab_of (first_line (lines_at place xs)) ≡ None → 0 < length ys → line_end ys ≡ 0 → gap_len ys ≡ 0 → ReadsTokens column (lexer_state tokens columns gap ys) new → ReadsLine (lexer_state tokens columns place xs) new
reads_tokens tokens columns place gap column xs ys new passed c t some no_end no_gap read = record {
  same = λ end. sym (
      ap (put_before tokens) (layout_with columns end place gap column None xs ys passed c t some no_end no_gap)
      ∙ put_before-then_read tokens (then_read (indent_at columns column gap) (statement [] (first_line (lines_at gap ys)))) (layout_of (columns_with columns column) end (other_lines (lines_at gap ys)))
      ∙ ap (λ (r : Result (List Token) LexFault). then_read r (layout_of (columns_with columns column) end (other_lines (lines_at gap ys)))) read.whole
      ∙ ap (put_before new.tokens) (read.others (columns_with columns column) end)
      ∙ ap (λ (cs : List ℕ). put_before new.tokens (layout_of cs end (lines_at new.place new.rest))) (sym read.columns));
  end = read.end ∙ passed.end;
  shorter = let less : length new.rest < length ys = read.shorter some in omega (arith, less, passed.no_longer);
}

pub tab_fault : (tokens : List Token) (columns : List ℕ) (place gap : Place) (column : ℕ) (tab : Pos) (xs ys : List ℕ) → PassesGaps place xs gap ys → tab_of (first_line (lines_at place xs)) ≡ Some tab → 0 < length ys → line_end ys ≡ 0 → gap_len ys ≡ 0 → (end : Place) → whole_from (lexer_state tokens columns place xs) end ≡ Err (Bad tab fault.Tab)
tab_fault tokens columns place gap column tab xs ys passed t some no_end no_gap end =
    ap (put_before tokens) (layout_with columns end place gap (column_of (first_line (lines_at place xs))) (Some tab) xs ys passed refl t some no_end no_gap)

pub tokens_fault : (tokens : List Token) (columns : List ℕ) (place gap : Place) (column : ℕ) (xs ys : List ℕ) (new last : State) (fault : LexFault) → PassesGaps place xs gap ys → column_of (first_line (lines_at place xs)) ≡ column → tab_of (first_line (lines_at place xs)) ≡ None → 0 < length ys → line_end ys ≡ 0 → gap_len ys ≡ 0 → IsLineRead column (lexer_state tokens columns gap ys) new (Err fault) → IsLine (lexer_state tokens columns place xs) last (Err fault)
tokens_fault tokens columns place gap column xs ys new last (Bad pos kind) passed c t some no_end no_gap read = λ end.
    ap (put_before tokens) (layout_with columns end place gap column None xs ys passed c t some no_end no_gap)
    ∙ put_before-then_read tokens (then_read (indent_at columns column gap) (statement [] (first_line (lines_at gap ys)))) (layout_of (columns_with columns column) end (other_lines (lines_at gap ys)))
    ∙ ap (λ (r : Result (List Token) LexFault). then_read r (layout_of (columns_with columns column) end (other_lines (lines_at gap ys)))) read
tokens_fault tokens columns place gap column xs ys new last OutOfMemory passed c t some no_end no_gap read = tt

pub line_answer : (tokens : List Token) (columns : List ℕ) (place gap : Place) (column : ℕ) (xs ys : List ℕ) (new : State) (result : Result (Unit {0}) LexFault) → PassesGaps place xs gap ys → column_of (first_line (lines_at place xs)) ≡ column → tab_of (first_line (lines_at place xs)) ≡ None → 0 < length ys → line_end ys ≡ 0 → gap_len ys ≡ 0 → IsLineRead column (lexer_state tokens columns gap ys) new result → IsLine (lexer_state tokens columns place xs) new result
line_answer tokens columns place gap column xs ys new (Ok done) passed c t some no_end no_gap read = reads_tokens tokens columns place gap column xs ys new passed c t some no_end no_gap read
line_answer tokens columns place gap column xs ys new (Err fault) passed c t some no_end no_gap read = tokens_fault tokens columns place gap column xs ys new new fault passed c t some no_end no_gap read

pub no_more : (n m : ℕ) → n ≡ m → n ≤ 0 → m ≡ 0
no_more n m is none = omega arith

-- THE WHOLE TEXT
pub all_read : (columns : List ℕ) (tokens last : List Token) (end place : Place) (xs : List ℕ) (meant : Result (List Token) LexFault) → length xs ≡ 0 → end ≡ place_behind place xs → whole_from (lexer_state tokens columns place xs) end ≡ meant → last ≡ tokens ++ closing_tokens columns place → meant ≡ Ok last
all_read columns tokens last end place xs meant none is same closed =
    sym same
    ∙ ap (put_before tokens) (last_layout columns end place xs none)
    ∙ ap (λ (p : Place). Ok (tokens ++ closing_tokens columns p)) (is ∙ ap (place_behind place) (no_text xs none))
    ∙ ap (λ (ts : List Token). Ok ts) (sym closed)

start_meant : (text : List ℕ) → whole_from (lexer_state [] (0 ∷ []) (start_of text) (without_mark text)) (place_behind (start_of text) (without_mark text)) ≡ layout text
unfolding layout
start_meant text = put_before-nothing (layout_of (0 ∷ []) (place_behind (start_of text) (without_mark text)) (lines_at (start_of text) (without_mark text)))

pub start_read : (text seen rest : List ℕ) (place : Place) → seen ≡ text → rest ≡ without_mark seen → place ≡ start_of seen → whole_from (lexer_state [] (0 ∷ []) place rest) (place_behind place rest) ≡ layout text
start_read text seen rest place same rest_is place_is =
    ap (λ (p : Place). whole_from (lexer_state [] (0 ∷ []) p rest) (place_behind p rest)) place_is
    ∙ ap (λ (r : List ℕ). whole_from (lexer_state [] (0 ∷ []) (start_of seen) r) (place_behind (start_of seen) r)) rest_is
    ∙ ap (λ (t : List ℕ). whole_from (lexer_state [] (0 ∷ []) (start_of t) (without_mark t)) (place_behind (start_of t) (without_mark t))) same
    ∙ start_meant text
