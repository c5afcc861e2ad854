-- The first line of a text, by its first mark.
use Rattle.std.proofs.Common.{◌≡◌, ℕ, ◌+◌, ◌-◌, ◌<◌, ◌≤◌, Bool, true, false, cond, List, [], ◌∷◌, None, Some, Result, Ok, Err, length, take, drop, get_or, refl, sym, ap, subst, inl, inr, ◌∙◌, arith, zero, suc, length-drop}
use Rattle.std.specs.Prelude.{◌==◌, ◌||◌, if◌then◌else◌, nat_lt}
use Rattle.std.specs.List.{prefix_len}
use Rattle.std.proofs.lemmas.Bool.{ne_eqb, cases_eq}
use Rattle.py_literals.specs.Chars.{line_end, begins_line_end}
use Rattle.py_literals.specs.declared.literal.Miss.{Miss}
use Rattle.py_tokens.specs.declared.lexeme.Lexeme.{Lexeme}
use Rattle.py_tokens.specs.declared.place.Place.{Place}
use Rattle.py_tokens.specs.Lexemes.{lexeme_at}
use Rattle.py_tokens.specs.Places.{next_place, place_behind, gap_len}
use Rattle.py_tokens.specs.Layout.{Mark, Space, Tab, Gap, LineEnd, TextEnd, Spelled, Wrong, gap_mark, spelled_marks, marks_of, lines_of, lines_at, put_first, depth_behind, ends_line, column_of, tab_of, is_indent, behind_gaps}
use Rattle.py_tokens.specs.Reading.{first_line, other_lines, PassesGaps, is_blank}
use Rattle.py_tokens.proofs.Marks.{place_behind-split, gap_first}
use Rattle.py_tokens.proofs.Steps.{first_put, others_put, gap_is}

-- a line begins with its first mark
pub first_mark : (depth : ℕ) (mark : Mark) (marks : List Mark) → (rest : List Mark) × (first_line (lines_of depth (mark ∷ marks)) ≡ mark ∷ rest)
first_mark depth mark marks =
    elim (ends_line depth mark) as (λ b. (rest : List Mark) × (first_line (if b then (mark ∷ []) ∷ lines_of 0 marks else put_first mark (lines_of (depth_behind depth mark) marks)) ≡ mark ∷ rest)) [
      | true ↦ ([], refl)
      | false ↦ (first_line (lines_of (depth_behind depth mark) marks), first_put mark (lines_of (depth_behind depth mark) marks))
    ]

-- blanks
space_line : (place : Place) (cs : List ℕ) → lines_at place (32 ∷ cs) ≡ put_first Space (lines_at (next_place place 32) cs)
unfolding marks_of
space_line place cs = refl

tab_line : (place : Place) (cs : List ℕ) → lines_at place (9 ∷ cs) ≡ put_first (Tab place.pos) (lines_at (next_place place 9) cs)
unfolding marks_of
tab_line place cs = refl

pub tab_at_space : (place : Place) (cs : List ℕ) → tab_of (first_line (lines_at place (32 ∷ cs))) ≡ tab_of (first_line (lines_at (next_place place 32) cs))
tab_at_space place cs = ap (λ (ls : List (List Mark)). tab_of (first_line ls)) (space_line place cs) ∙ ap tab_of (first_put Space (lines_at (next_place place 32) cs))

pub tab_at_tab : (place : Place) (cs : List ℕ) → tab_of (first_line (lines_at place (9 ∷ cs))) ≡ Some place.pos
tab_at_tab place cs = ap (λ (ls : List (List Mark)). tab_of (first_line ls)) (tab_line place cs) ∙ ap tab_of (first_put (Tab place.pos) (lines_at (next_place place 9) cs))

-- marks of which the first is no blank
record Unblank (marks : List Mark) : Type 0 where
  mark : Mark
  others : List Mark
  whole : marks ≡ mark ∷ others
  not_blank : is_indent mark ≡ false

spelled_unblank : (place : Place) (text : List ℕ) (rest : ℕ → List Mark) (lexeme : Result Lexeme Miss) → Unblank (spelled_marks place text rest lexeme)
spelled_unblank place text rest (Ok lexeme) = record { mark = Spelled lexeme.kind place (place_behind place (take lexeme.len text)); others = rest (lexeme.len - 1); whole = refl; not_blank = refl }
spelled_unblank place text rest (Err miss) = record { mark = Wrong place (place_behind place (take miss.at text)).pos miss.kind; others = []; whole = refl; not_blank = refl }

gap_unblank : (place : Place) (c : ℕ) (cs : List ℕ) → (c == 32) ≡ false → (c == 9) ≡ false → is_indent (gap_mark place (c ∷ cs)) ≡ false
gap_unblank place c cs no_space no_tab =
    ap (λ (b : Bool). is_indent (if b then Space else (if c == 9 then Tab place.pos else Gap))) no_space
    ∙ ap (λ (b : Bool). is_indent (if b then Tab place.pos else Gap)) no_tab

first_unblank : (place : Place) (c : ℕ) (cs : List ℕ) → (c == 32) ≡ false → (c == 9) ≡ false → Unblank (marks_of place 0 (c ∷ cs))
unfolding marks_of
first_unblank place c cs no_space no_tab =
    elim (begins_line_end (c ∷ cs)) as (λ b. Unblank (if b then LineEnd place (place_behind place (take (line_end (c ∷ cs)) (c ∷ cs))) ∷ marks_of (next_place place c) (line_end (c ∷ cs) - 1) cs
    else (if nat_lt 0 (gap_len (c ∷ cs)) then gap_mark place (c ∷ cs) ∷ marks_of (next_place place c) (gap_len (c ∷ cs) - 1) cs
    else spelled_marks place (c ∷ cs) (λ skip. marks_of (next_place place c) skip cs) (lexeme_at (c ∷ cs))))) [
      | true ↦ record { mark = LineEnd place (place_behind place (take (line_end (c ∷ cs)) (c ∷ cs))); others = marks_of (next_place place c) (line_end (c ∷ cs) - 1) cs; whole = refl; not_blank = refl }
      | false ↦ elim (nat_lt 0 (gap_len (c ∷ cs))) as (λ b. Unblank (if b then gap_mark place (c ∷ cs) ∷ marks_of (next_place place c) (gap_len (c ∷ cs) - 1) cs
          else spelled_marks place (c ∷ cs) (λ skip. marks_of (next_place place c) skip cs) (lexeme_at (c ∷ cs)))) [
            | true ↦ record { mark = gap_mark place (c ∷ cs); others = marks_of (next_place place c) (gap_len (c ∷ cs) - 1) cs; whole = refl; not_blank = gap_unblank place c cs no_space no_tab }
            | false ↦ spelled_unblank place (c ∷ cs) (λ skip. marks_of (next_place place c) skip cs) (lexeme_at (c ∷ cs))
          ]
    ]

-- a line that begins with no blank has the column 0, and no tab
column_unblank : (mark : Mark) (line : List Mark) → is_indent mark ≡ false → column_of (mark ∷ line) ≡ 0
column_unblank mark line is = ap (λ (b : Bool). cond b (1 + column_of line) 0) is

tab_unblank : (mark : Mark) (line : List Mark) → is_indent mark ≡ false → tab_of (mark ∷ line) ≡ None
tab_unblank Space line is = cc
tab_unblank (Tab pos) line is = cc
tab_unblank Gap line is = refl
tab_unblank (LineEnd from to) line is = refl
tab_unblank (TextEnd at) line is = refl
tab_unblank (Spelled token from to) line is = refl
tab_unblank (Wrong at pos kind) line is = refl

unblank_line : (place : Place) (c : ℕ) (cs : List ℕ) → (c == 32) ≡ false → (c == 9) ≡ false → (mark : Mark) × (line : List Mark) × (first_line (lines_at place (c ∷ cs)) ≡ mark ∷ line) × (is_indent mark ≡ false)
unblank_line place c cs no_space no_tab =
    let first = first_unblank place c cs no_space no_tab in
    let line = first_mark 0 first.mark first.others in
    (first.mark, line.0, ap (λ (ms : List Mark). first_line (lines_of 0 ms)) first.whole ∙ line.1, first.not_blank)

pub column_is : (place : Place) (xs : List ℕ) → column_of (first_line (lines_at place xs)) ≡ prefix_len is_blank xs
unfolding marks_of
column_is place [] = refl
column_is place (c ∷ cs) = elim (cases_eq c 32) [
  | inl e ↦ subst (λ (n : ℕ). column_of (first_line (lines_at place (n ∷ cs))) ≡ prefix_len is_blank (n ∷ cs)) (sym e)
      (ap (λ (ls : List (List Mark)). column_of (first_line ls)) (space_line place cs) ∙ ap column_of (first_put Space (lines_at (next_place place 32) cs)) ∙ ap (λ (n : ℕ). 1 + n) (column_is (next_place place 32) cs))
  | inr no_space ↦ elim (cases_eq c 9) [
    | inl e ↦ subst (λ (n : ℕ). column_of (first_line (lines_at place (n ∷ cs))) ≡ prefix_len is_blank (n ∷ cs)) (sym e)
        (ap (λ (ls : List (List Mark)). column_of (first_line ls)) (tab_line place cs) ∙ ap column_of (first_put (Tab place.pos) (lines_at (next_place place 9) cs)) ∙ ap (λ (n : ℕ). 1 + n) (column_is (next_place place 9) cs))
    | inr no_tab ↦
        let line = unblank_line place c cs (ne_eqb c 32 no_space) (ne_eqb c 9 no_tab) in
        ap column_of line.2 ∙ column_unblank line.0 line.1 line.3
        ∙ sym (ap (λ (b : Bool). cond (b || (c == 9)) (1 + prefix_len is_blank cs) 0) (ne_eqb c 32 no_space) ∙ ap (λ (b : Bool). cond b (1 + prefix_len is_blank cs) 0) (ne_eqb c 9 no_tab))
  ]
]

pub tab_at_none : (place : Place) (c : ℕ) (cs : List ℕ) → (c ≡ 32 → ⊥) → (c ≡ 9 → ⊥) → tab_of (first_line (lines_at place (c ∷ cs))) ≡ None
tab_at_none place c cs no_space no_tab =
    let line = unblank_line place c cs (ne_eqb c 32 no_space) (ne_eqb c 9 no_tab) in
    ap tab_of line.2 ∙ tab_unblank line.0 line.1 line.3

pub tab_at_end : (place : Place) → tab_of (first_line (lines_at place [])) ≡ None
unfolding marks_of
tab_at_end place = refl

-- GAPS
gap_passed : (place : Place) (xs : List ℕ) (line : List Mark) → behind_gaps (gap_mark place xs ∷ line) ≡ behind_gaps line
gap_passed place xs line = gap_is (λ mark. behind_gaps (mark ∷ line) ≡ behind_gaps line) refl (λ pos. refl) refl place xs

gap_line : (place : Place) (xs : List ℕ) (marks : List Mark) → lines_of 0 (gap_mark place xs ∷ marks) ≡ put_first (gap_mark place xs) (lines_of 0 marks)
gap_line place xs marks = gap_is (λ mark. lines_of 0 (mark ∷ marks) ≡ put_first mark (lines_of 0 marks)) refl (λ pos. refl) refl place xs

pub passes_gap : (place : Place) (n : ℕ) (xs : List ℕ) → 0 < n → n ≡ gap_len xs → PassesGaps place xs (place_behind place (take n xs)) (drop n xs)
passes_gap place n xs some is =
    let marks : List Mark = marks_of (place_behind place (take n xs)) 0 (drop n xs) in
    let lines : lines_at place xs ≡ put_first (gap_mark place xs) (lines_of 0 marks) = ap (lines_of 0) (gap_first place n xs some is) ∙ gap_line place xs marks in
    record {
      line = sym (ap (λ (ls : List (List Mark)). behind_gaps (first_line ls)) lines ∙ ap behind_gaps (first_put (gap_mark place xs) (lines_of 0 marks)) ∙ gap_passed place xs (first_line (lines_of 0 marks)));
      others = sym (ap other_lines lines ∙ others_put (gap_mark place xs) (lines_of 0 marks));
      end = place_behind-split place n xs;
      no_longer = omega (arith, length-drop n xs);
    }

pub passes_on : (place middle last : Place) (xs ys zs : List ℕ) → PassesGaps place xs middle ys → PassesGaps middle ys last zs → PassesGaps place xs last zs
passes_on place middle last xs ys zs first second = record {
  line = second.line ∙ first.line;
  others = second.others ∙ first.others;
  end = second.end ∙ first.end;
  no_longer = omega (arith, first.no_longer, second.no_longer);
}

-- TABS, as a loop meets the characters
rest_whole : (cs : List ℕ) (c : ℕ) → take (length (c ∷ cs) - 1) cs ≡ cs
rest_whole cs c = take_whole cs (length (c ∷ cs) - 1) (omega arith)
  where
    take_whole : (xs : List ℕ) (n : ℕ) → length xs ≤ n → take n xs ≡ xs
    take_whole [] zero within = refl
    take_whole [] (suc n) within = refl
    take_whole (x ∷ xs) zero within = absurd (omega arith)
    take_whole (x ∷ xs) (suc n) within = ap (λ (ys : List ℕ). x ∷ ys) (take_whole xs n (omega arith))

pub tab_here : (place : Place) (ch : ℕ) (xs : List ℕ) → 1 ≤ length xs → ch ≡ get_or xs 0 ch → ch ≡ 9 → tab_of (first_line (lines_at place xs)) ≡ Some place.pos
tab_here place ch [] some is tab = absurd (omega arith)
tab_here place ch (c ∷ cs) some is tab = ap (λ (n : ℕ). tab_of (first_line (lines_at place (n ∷ cs)))) (sym is ∙ tab) ∙ tab_at_tab place cs

pub no_tab_here : (place : Place) (ch : ℕ) (xs : List ℕ) → 1 ≤ length xs → ch ≡ get_or xs 0 ch → (ch ≡ 9 → ⊥) → (ch ≡ 32 → ⊥) → tab_of (first_line (lines_at place xs)) ≡ None
no_tab_here place ch [] some is no_tab no_space = absurd (omega arith)
no_tab_here place ch (c ∷ cs) some is no_tab no_space = tab_at_none place c cs (λ e. no_space (is ∙ e)) (λ e. no_tab (is ∙ e))

pub tab_behind : (place next : Place) (ch : ℕ) (xs : List ℕ) → 1 ≤ length xs → ch ≡ get_or xs 0 ch → ch ≡ 32 → next ≡ next_place place 32 → tab_of (first_line (lines_at next (take (length xs - 1) (drop 1 xs)))) ≡ tab_of (first_line (lines_at place xs))
tab_behind place next ch [] some is space to = absurd (omega arith)
tab_behind place next ch (c ∷ cs) some is space to =
    ap (λ (p : Place). tab_of (first_line (lines_at p (take (length (c ∷ cs) - 1) cs)))) to
    ∙ ap (λ (ys : List ℕ). tab_of (first_line (lines_at (next_place place 32) ys))) (rest_whole cs c)
    ∙ sym (ap (λ (n : ℕ). tab_of (first_line (lines_at place (n ∷ cs)))) (sym is ∙ space) ∙ tab_at_space place cs)

pub no_tab_left : (place : Place) (xs : List ℕ) → length xs < 1 → tab_of (first_line (lines_at place xs)) ≡ None
no_tab_left place [] none = tab_at_end place
no_tab_left place (c ∷ cs) none = absurd (omega arith)
