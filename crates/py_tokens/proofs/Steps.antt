-- One step of the reader within a statement, by the mark that stands first.
use Rattle.std.proofs.Common.{◌≡◌, ℕ, ◌-◌, ◌<◌, ◌≤◌, Bool, true, false, List, [], ◌∷◌, ◌++◌, Result, Ok, Err, length, take, drop, refl, sym, ap, ◌∙◌, arith, zero, suc, length-drop, length-take, length-append, append_assoc}
use Rattle.std.specs.Prelude.{◌==◌, if◌then◌else◌, nat_lt}
use Rattle.std.proofs.lemmas.Bool.{false≢true, eqb-true}
use Rattle.py_source.specs.declared.pos.Pos.{Pos}
use Rattle.py_source.specs.declared.fault.LexKind.{LexKind}
use Rattle.py_source.specs.declared.fault.LexKind.TheVariants as fault
use Rattle.py_literals.specs.Chars.{line_end}
use Rattle.py_literals.specs.Literals.{put_before}
use Rattle.py_literals.specs.declared.literal.Miss.{Miss}
use Rattle.py_tokens.specs.declared.bracket.Bracket.{Bracket}
use Rattle.py_tokens.specs.declared.bracket.BracketRole.{BracketRole}
use Rattle.py_tokens.specs.declared.bracket.BracketRole.TheVariants.{Opens, Closes, Neither}
use Rattle.py_tokens.specs.declared.lexeme.Lexeme.{Lexeme}
use Rattle.py_tokens.specs.declared.place.Place.{Place}
use Rattle.py_tokens.specs.declared.token.Token.{Token}
use Rattle.py_tokens.specs.declared.token.TokenKind.TheVariants as kind
use Rattle.py_tokens.specs.declared.token.LexFault.{LexFault}
use Rattle.py_tokens.specs.declared.token.LexFault.TheVariants.{Bad, OutOfMemory}
use Rattle.py_tokens.specs.Lexemes.{lexeme_at}
use Rattle.py_tokens.specs.Places.{place_behind, gap_len}
use Rattle.py_tokens.specs.Layout.{Mark, Space, Tab, Gap, LineEnd, TextEnd, Spelled, gap_mark, marks_of, lines_of, put_first, depth_behind, depth_with, ends_line, statement, with_mark, with_token, brackets_with, has_shape, innermost, text_ends, token_role, token_at, layout_of}
use Rattle.py_tokens.specs.Reading.{Spot, spot, meant, first_line, other_lines, GoesOn, EndsStatement, IsLexemeAt, IsBracketsAnswer, IsAdded, IsPart, IsStep}
use Rattle.py_tokens.proofs.Marks.{place_behind-split, line_end_first, gap_first, spelled_first, wrong_first}

-- LISTS OF LINES
pub first_put : (mark : Mark) (lines : List (List Mark)) → first_line (put_first mark lines) ≡ mark ∷ first_line lines
first_put mark [] = refl
first_put mark (line ∷ lines) = refl

pub others_put : (mark : Mark) (lines : List (List Mark)) → other_lines (put_first mark lines) ≡ other_lines lines
others_put mark [] = refl
others_put mark (line ∷ lines) = refl

pub put_before-put_before : {A E : Type 0} (front more : List A) (rest : Result (List A) E) → put_before front (put_before more rest) ≡ put_before (front ++ more) rest
put_before-put_before front more (Ok last) = ap (λ xs. Ok xs) (sym (append_assoc front more last))
put_before-put_before front more (Err fault) = refl

shorter : (n : ℕ) (xs : List ℕ) → 0 < n → 0 < length xs → length (drop n xs) < length xs
shorter n xs some text = omega (arith, length-drop n xs)

-- A MARK THAT ENDS NO LINE
mark_first : (depth behind : ℕ) (mark : Mark) (marks : List Mark) → ends_line depth mark ≡ false → depth_behind depth mark ≡ behind → lines_of depth (mark ∷ marks) ≡ put_first mark (lines_of behind marks)
mark_first depth behind mark marks on is =
    ap (λ (b : Bool). if b then (mark ∷ []) ∷ lines_of 0 marks else put_first mark (lines_of (depth_behind depth mark) marks)) on
    ∙ ap (λ (n : ℕ). put_first mark (lines_of n marks)) is

statement_on : (brackets : List Bracket) (depth behind : ℕ) (mark : Mark) (marks : List Mark) → ends_line depth mark ≡ false → depth_behind depth mark ≡ behind → statement brackets (first_line (lines_of depth (mark ∷ marks))) ≡ with_mark brackets mark (λ open_brackets. statement open_brackets (first_line (lines_of behind marks)))
statement_on brackets depth behind mark marks on is = ap (λ (lines : List (List Mark)). statement brackets (first_line lines)) (mark_first depth behind mark marks on is) ∙ ap (statement brackets) (first_put mark (lines_of behind marks))

others_on : (depth behind : ℕ) (mark : Mark) (marks : List Mark) → ends_line depth mark ≡ false → depth_behind depth mark ≡ behind → other_lines (lines_of depth (mark ∷ marks)) ≡ other_lines (lines_of behind marks)
others_on depth behind mark marks on is = ap other_lines (mark_first depth behind mark marks on is) ∙ others_put mark (lines_of behind marks)

-- GAPS
pub gap_is : (P : Mark → Type 0) → P Space → ((pos : Pos) → P (Tab pos)) → P Gap → (place : Place) (xs : List ℕ) → P (gap_mark place xs)
gap_is P space tab gap place [] = gap
gap_is P space tab gap place (c ∷ cs) =
    elim (c == 32) as (λ b. P (if b then Space else (if c == 9 then Tab place.pos else Gap))) [
      | true ↦ space
      | false ↦ elim (c == 9) as (λ b. P (if b then Tab place.pos else Gap)) [ true ↦ tab place.pos | false ↦ gap ]
    ]

gap_on : (depth : ℕ) (place : Place) (xs : List ℕ) → ends_line depth (gap_mark place xs) ≡ false
gap_on depth = gap_is (λ mark. ends_line depth mark ≡ false) refl (λ pos. refl) refl

gap_depth : (depth : ℕ) (place : Place) (xs : List ℕ) → depth_behind depth (gap_mark place xs) ≡ depth
gap_depth depth = gap_is (λ mark. depth_behind depth mark ≡ depth) refl (λ pos. refl) refl

gap_with : (brackets : List Bracket) (rest : List Bracket → Result (List Token) LexFault) (place : Place) (xs : List ℕ) → with_mark brackets (gap_mark place xs) rest ≡ rest brackets
gap_with brackets rest = gap_is (λ mark. with_mark brackets mark rest ≡ rest brackets) refl (λ pos. refl) refl

pub gap_step : (tokens : List Token) (brackets : List Bracket) (place : Place) (n : ℕ) (xs : List ℕ) → 0 < n → n ≡ gap_len xs → 0 < length xs → GoesOn (spot tokens brackets place xs) (spot tokens brackets (place_behind place (take n xs)) (drop n xs))
gap_step tokens brackets place n xs some is text = record {
  same = sym (ap (λ (marks : List Mark). put_before tokens (statement brackets (first_line (lines_of (length brackets) marks)))) (gap_first place n xs some is)
      ∙ ap (put_before tokens) (statement_on brackets (length brackets) (length brackets) (gap_mark place xs) (marks_of (place_behind place (take n xs)) 0 (drop n xs)) (gap_on (length brackets) place xs) (gap_depth (length brackets) place xs)
      ∙ gap_with brackets (λ open_brackets. statement open_brackets (first_line (lines_of (length brackets) (marks_of (place_behind place (take n xs)) 0 (drop n xs))))) place xs));
  others = sym (ap (λ (marks : List Mark). other_lines (lines_of (length brackets) marks)) (gap_first place n xs some is)
      ∙ others_on (length brackets) (length brackets) (gap_mark place xs) (marks_of (place_behind place (take n xs)) 0 (drop n xs)) (gap_on (length brackets) place xs) (gap_depth (length brackets) place xs));
  end = place_behind-split place n xs;
  shorter = shorter n xs some text;
}

-- LINE ENDS
pub joined_step : (tokens : List Token) (brackets : List Bracket) (place : Place) (n : ℕ) (xs : List ℕ) → 0 < n → n ≡ line_end xs → 0 < length xs → (length brackets == 0) ≡ false → GoesOn (spot tokens brackets place xs) (spot tokens brackets (place_behind place (take n xs)) (drop n xs))
joined_step tokens brackets place n xs some is text within =
    let behind : Place = place_behind place (take n xs) in
    let marks : List Mark = marks_of behind 0 (drop n xs) in
    record {
      same = sym (ap (λ (ms : List Mark). put_before tokens (statement brackets (first_line (lines_of (length brackets) ms)))) (line_end_first place n xs some is)
          ∙ ap (put_before tokens) (statement_on brackets (length brackets) (length brackets) (LineEnd place behind) marks within refl
          ∙ ap (λ (b : Bool). if b then Ok (token_at kind.Newline place behind ∷ []) else statement brackets (first_line (lines_of (length brackets) marks))) within));
      others = sym (ap (λ (ms : List Mark). other_lines (lines_of (length brackets) ms)) (line_end_first place n xs some is)
          ∙ others_on (length brackets) (length brackets) (LineEnd place behind) marks within refl);
      end = place_behind-split place n xs;
      shorter = shorter n xs some text;
    }

pub ended_step : (tokens : List Token) (brackets : List Bracket) (place : Place) (n : ℕ) (xs : List ℕ) → 0 < n → n ≡ line_end xs → (length brackets == 0) ≡ true → EndsStatement (spot tokens brackets place xs) (spot (tokens ++ token_at kind.Newline place (place_behind place (take n xs)) ∷ []) brackets (place_behind place (take n xs)) (drop n xs))
ended_step tokens brackets place n xs some is outside =
    let behind : Place = place_behind place (take n xs) in
    let marks : List Mark = marks_of behind 0 (drop n xs) in
    let lines : lines_of (length brackets) (marks_of place 0 xs) ≡ (LineEnd place behind ∷ []) ∷ lines_of 0 marks =
    ap (lines_of (length brackets)) (line_end_first place n xs some is)
    ∙ ap (λ (b : Bool). if b then (LineEnd place behind ∷ []) ∷ lines_of 0 marks else put_first (LineEnd place behind) (lines_of (length brackets) marks)) outside in
    record {
      whole = ap (λ (ls : List (List Mark)). put_before tokens (statement brackets (first_line ls))) lines
          ∙ ap (λ (b : Bool). put_before tokens (if b then Ok (token_at kind.Newline place behind ∷ []) else Ok [])) outside;
      others = λ columns end. ap (λ (ls : List (List Mark)). layout_of columns end (other_lines ls)) lines;
      end = place_behind-split place n xs;
      no_longer = omega (arith, length-drop n xs);
      shorter = λ text. shorter n xs some text;
    }

-- THE TEXT'S END
no_text : (xs : List ℕ) → length xs ≡ 0 → xs ≡ []
no_text [] none = refl
no_text (c ∷ cs) none = absurd (omega (arith, none))

text_left : (place : Place) (xs : List ℕ) → length xs ≡ 0 → marks_of place 0 xs ≡ TextEnd place ∷ []
unfolding marks_of
text_left place xs none = ap (marks_of place 0) (no_text xs none)

pub meant_at_end : (tokens : List Token) (brackets : List Bracket) (place : Place) (xs : List ℕ) → length xs ≡ 0 → meant (spot tokens brackets place xs) ≡ put_before tokens (text_ends place (innermost brackets))
meant_at_end tokens brackets place xs none = ap (λ (marks : List Mark). put_before tokens (statement brackets (first_line (lines_of (length brackets) marks)))) (text_left place xs none)

pub text_end_step : (tokens more : List Token) (brackets : List Bracket) (place : Place) (xs : List ℕ) → length xs ≡ 0 → put_before tokens (text_ends place (innermost brackets)) ≡ Ok more → EndsStatement (spot tokens brackets place xs) (spot more brackets place xs)
text_end_step tokens more brackets place xs none is = record {
  whole = meant_at_end tokens brackets place xs none ∙ is;
  others = λ columns end. ap (λ (marks : List Mark). layout_of columns end (other_lines (lines_of (length brackets) marks))) (text_left place xs none)
      ∙ sym (ap (λ (marks : List Mark). layout_of columns end (lines_of 0 marks)) (text_left place xs none));
  end = refl;
  no_longer = omega arith;
  shorter = λ some. absurd (omega (arith, none));
}

-- TOKENS
if_ok : {A E : Type 0} (b : Bool) (x y : A) (e : E) → (if b then Ok x else Err e) ≡ Ok y → x ≡ y
if_ok true x y e is = cc
if_ok false x y e is = absurd (cc)

role_depth : (brackets behind : List Bracket) (at : Pos) (role : BracketRole) → brackets_with brackets at role ≡ Ok behind → depth_with (length brackets) role ≡ length behind
role_depth brackets behind at (Opens shape) is =
    let same : brackets ++ record { shape = shape; at = at } ∷ [] ≡ behind = if_ok (nat_lt (length brackets) 100) (brackets ++ record { shape = shape; at = at } ∷ []) behind fault.Nesting is in
    sym (length-append brackets (record { shape = shape; at = at } ∷ [])) ∙ ap length same
role_depth brackets behind at (Closes shape) is =
    let same : take (length brackets - 1) brackets ≡ behind = if_ok (has_shape shape (innermost brackets)) (take (length brackets - 1) brackets) behind fault.Mismatch is in
    omega (arith, length-take (length brackets - 1) brackets, ap length same)
role_depth brackets behind at Neither is = let same : brackets ≡ behind = cc in ap length same

pub token_step : (tokens : List Token) (brackets open_brackets : List Bracket) (place : Place) (lexeme : Lexeme) (xs : List ℕ) → 0 < length xs → line_end xs ≡ 0 → gap_len xs ≡ 0 → lexeme_at xs ≡ Ok lexeme → 1 ≤ lexeme.len → brackets_with brackets place.pos (token_role lexeme.kind) ≡ Ok open_brackets
    → GoesOn (spot tokens brackets place xs) (spot (tokens ++ token_at lexeme.kind place (place_behind place (take lexeme.len xs)) ∷ []) open_brackets (place_behind place (take lexeme.len xs)) (drop lexeme.len xs))
token_step tokens brackets open_brackets place lexeme xs text no_end no_gap is low taken =
    let behind : Place = place_behind place (take lexeme.len xs) in
    let marks : List Mark = marks_of behind 0 (drop lexeme.len xs) in
    let deep : depth_with (length brackets) (token_role lexeme.kind) ≡ length open_brackets = role_depth brackets open_brackets place.pos (token_role lexeme.kind) taken in
    record {
      same = sym (ap (λ (ms : List Mark). put_before tokens (statement brackets (first_line (lines_of (length brackets) ms)))) (spelled_first place lexeme xs text no_end no_gap is low)
          ∙ ap (put_before tokens) (statement_on brackets (length brackets) (length open_brackets) (Spelled lexeme.kind place behind) marks refl deep
          ∙ ap (with_token (token_at lexeme.kind place behind) (λ bs. statement bs (first_line (lines_of (length open_brackets) marks)))) taken)
          ∙ put_before-put_before tokens (token_at lexeme.kind place behind ∷ []) (statement open_brackets (first_line (lines_of (length open_brackets) marks))));
      others = sym (ap (λ (ms : List Mark). other_lines (lines_of (length brackets) ms)) (spelled_first place lexeme xs text no_end no_gap is low)
          ∙ others_on (length brackets) (length open_brackets) (Spelled lexeme.kind place behind) marks refl deep);
      end = place_behind-split place lexeme.len xs;
      shorter = shorter lexeme.len xs (omega arith) text;
    }

pub bracket_fault : (tokens : List Token) (brackets : List Bracket) (place : Place) (lexeme : Lexeme) (kind : LexKind) (xs : List ℕ) → 0 < length xs → line_end xs ≡ 0 → gap_len xs ≡ 0 → lexeme_at xs ≡ Ok lexeme → 1 ≤ lexeme.len → brackets_with brackets place.pos (token_role lexeme.kind) ≡ Err kind → meant (spot tokens brackets place xs) ≡ Err (Bad place.pos kind)
bracket_fault tokens brackets place lexeme kind xs text no_end no_gap is low taken =
    let behind : Place = place_behind place (take lexeme.len xs) in
    let marks : List Mark = marks_of behind 0 (drop lexeme.len xs) in
    let depth : ℕ = depth_with (length brackets) (token_role lexeme.kind) in
    ap (λ (ms : List Mark). put_before tokens (statement brackets (first_line (lines_of (length brackets) ms)))) (spelled_first place lexeme xs text no_end no_gap is low)
    ∙ ap (put_before tokens) (statement_on brackets (length brackets) depth (Spelled lexeme.kind place behind) marks refl refl
    ∙ ap (with_token (token_at lexeme.kind place behind) (λ bs. statement bs (first_line (lines_of depth marks)))) taken)

pub wrong_step : (tokens : List Token) (brackets : List Bracket) (place : Place) (miss : Miss) (xs : List ℕ) → 0 < length xs → line_end xs ≡ 0 → gap_len xs ≡ 0 → lexeme_at xs ≡ Err miss → meant (spot tokens brackets place xs) ≡ Err (Bad (place_behind place (take miss.at xs)).pos miss.kind)
wrong_step tokens brackets place miss xs text no_end no_gap is =
    ap (λ (ms : List Mark). put_before tokens (statement brackets (first_line (lines_of (length brackets) ms)))) (wrong_first place miss xs text no_end no_gap is)

-- THE ANSWERS AT A FAULT
pub lexeme_part : (tokens : List Token) (brackets : List Bracket) (place : Place) (xs : List ℕ) (new : Spot) (fault : LexFault) → 0 < length xs → line_end xs ≡ 0 → gap_len xs ≡ 0 → IsLexemeAt place xs (Err fault) → IsPart (spot tokens brackets place xs) new (Err fault)
lexeme_part tokens brackets place xs new (Bad pos kind) text no_end no_gap (miss, is, at, of) =
    wrong_step tokens brackets place miss xs text no_end no_gap is
    ∙ ap (λ (p : Pos). Err (Bad p miss.kind)) (sym at) ∙ ap (λ (k : LexKind). Err (Bad pos k)) (sym of)
lexeme_part tokens brackets place xs new OutOfMemory text no_end no_gap is = tt

pub bracket_part : (tokens : List Token) (brackets after : List Bracket) (place : Place) (lexeme : Lexeme) (role : BracketRole) (xs : List ℕ) (new : Spot) (fault : LexFault) → 0 < length xs → line_end xs ≡ 0 → gap_len xs ≡ 0 → lexeme_at xs ≡ Ok lexeme → 1 ≤ lexeme.len → role ≡ token_role lexeme.kind → IsBracketsAnswer (brackets_with brackets place.pos role) place.pos after (Err fault) → IsPart (spot tokens brackets place xs) new (Err fault)
bracket_part tokens brackets after place lexeme role xs new (Bad pos kind) text no_end no_gap is low same taken =
    bracket_fault tokens brackets place lexeme kind xs text no_end no_gap is low (ap (brackets_with brackets place.pos) (sym same) ∙ taken.0)
    ∙ ap (λ (p : Pos). Err (Bad p kind)) (sym taken.1)
bracket_part tokens brackets after place lexeme role xs new OutOfMemory text no_end no_gap is low same taken = tt

pub end_part : (tokens after : List Token) (brackets seen : List Bracket) (place : Place) (xs : List ℕ) (new : Spot) (fault : LexFault) → length xs ≡ 0 → seen ≡ brackets → IsAdded (put_before tokens (text_ends place (innermost seen))) after (Err fault) → IsStep (spot tokens brackets place xs) new (Err fault)
end_part tokens after brackets seen place xs new (Bad pos kind) none same is =
    meant_at_end tokens brackets place xs none
    ∙ ap (λ (bs : List Bracket). put_before tokens (text_ends place (innermost bs))) (sym same) ∙ is
end_part tokens after brackets seen place xs new OutOfMemory none same is = tt

pub empty_length : (n : ℕ) → (n == 0) ≡ true → n ≡ 0
empty_length n is = eqb-true n 0 is

pub some_length : (n : ℕ) → (n == 0) ≡ false → 0 < n
some_length zero is = absurd (false≢true (sym is))
some_length (suc n) is = omega arith
