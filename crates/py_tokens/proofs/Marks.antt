-- The first mark of a text, and the text behind it.
use Rattle.std.proofs.Common.{◌≡◌, ℕ, ◌-◌, ◌<◌, ◌≤◌, Bool, true, false, not, List, [], ◌∷◌, Ok, Err, length, take, drop, refl, sym, ap, ◌∙◌, arith, zero, suc}
use Rattle.std.specs.Prelude.{◌==◌, ◌&&◌, if◌then◌else◌, nat_lt}
use Rattle.std.proofs.lemmas.Bool.{ne_eqb, le-ltb, lt-ltb}
use Rattle.py_literals.specs.Chars.{line_end, begins_line_end, begins_with, is_newline}
use Rattle.py_literals.specs.declared.literal.Miss.{Miss}
use Rattle.py_tokens.specs.declared.lexeme.Lexeme.{Lexeme}
use Rattle.py_tokens.specs.declared.place.Place.{Place}
use Rattle.py_tokens.specs.Lexemes.{lexeme_at}
use Rattle.py_tokens.specs.Places.{next_place, place_behind, gap_len}
use Rattle.py_tokens.specs.Layout.{Mark, LineEnd, Spelled, Wrong, gap_mark, spelled_marks, marks_of}

-- the place behind two parts of a text
pub place_behind-split : (place : Place) (n : ℕ) (xs : List ℕ) → place_behind (place_behind place (take n xs)) (drop n xs) ≡ place_behind place xs
place_behind-split place zero xs = refl
place_behind-split place (suc n) [] = refl
place_behind-split place (suc n) (c ∷ cs) = place_behind-split (next_place place c) n cs

-- the rest of a mark is passed over
marks_of-skip : (place : Place) (skip : ℕ) (xs : List ℕ) → marks_of place skip xs ≡ marks_of (place_behind place (take skip xs)) 0 (drop skip xs)
unfolding marks_of
marks_of-skip place zero xs = refl
marks_of-skip place (suc k) [] = refl
marks_of-skip place (suc k) (c ∷ cs) = marks_of-skip (next_place place c) k cs

behind_mark : (place : Place) (n c : ℕ) (cs : List ℕ) → 0 < n → marks_of (next_place place c) (n - 1) cs ≡ marks_of (place_behind place (take n (c ∷ cs))) 0 (drop n (c ∷ cs))
behind_mark place zero c cs some = absurd (omega arith)
behind_mark place (suc k) c cs some = ap (λ (m : ℕ). marks_of (next_place place c) m cs) (omega arith) ∙ marks_of-skip (next_place place c) k cs

ends_true : (n : ℕ) → 0 < n → not (n == 0) ≡ true
ends_true n some = ap not (ne_eqb n 0 (λ e. omega (arith, e)))

ends_false : (n : ℕ) → n ≡ 0 → not (n == 0) ≡ false
ends_false n none = ap (λ (m : ℕ). not (m == 0)) none

pub line_end_first : (place : Place) (n : ℕ) (xs : List ℕ) → 0 < n → n ≡ line_end xs → marks_of place 0 xs ≡ LineEnd place (place_behind place (take n xs)) ∷ marks_of (place_behind place (take n xs)) 0 (drop n xs)
unfolding marks_of
line_end_first place n [] some is = absurd (omega (arith, is))
line_end_first place n (c ∷ cs) some is =
    ap (λ (b : Bool). if b then LineEnd place (place_behind place (take (line_end (c ∷ cs)) (c ∷ cs))) ∷ marks_of (next_place place c) (line_end (c ∷ cs) - 1) cs
    else (if nat_lt 0 (gap_len (c ∷ cs)) then gap_mark place (c ∷ cs) ∷ marks_of (next_place place c) (gap_len (c ∷ cs) - 1) cs
    else spelled_marks place (c ∷ cs) (λ skip. marks_of (next_place place c) skip cs) (lexeme_at (c ∷ cs)))) (ends_true (line_end (c ∷ cs)) (omega (arith, is)))
    ∙ ap (λ (m : ℕ). LineEnd place (place_behind place (take m (c ∷ cs))) ∷ marks_of (next_place place c) (m - 1) cs) (sym is)
    ∙ ap (λ (ms : List Mark). LineEnd place (place_behind place (take n (c ∷ cs))) ∷ ms) (behind_mark place n c cs some)

no_end_unless : (c : ℕ) (cs : List ℕ) → (c == 10) ≡ false → (c == 13) ≡ false → begins_line_end (c ∷ cs) ≡ false
no_end_unless c cs no_newline no_return =
    ap (λ (b : Bool). not ((if b then 1 else (if (c == 13) && begins_with is_newline cs then 2 else 0)) == 0)) no_newline
    ∙ ap (λ (b : Bool). not ((if b && begins_with is_newline cs then 2 else 0) == 0)) no_return

no_gap_at : (n c : ℕ) (cs : List ℕ) → gap_len (n ∷ cs) ≡ 0 → c ≡ n → 0 < gap_len (c ∷ cs) → ⊥
no_gap_at n c cs none is some = let same : gap_len (c ∷ cs) ≡ gap_len (n ∷ cs) = ap (λ (m : ℕ). gap_len (m ∷ cs)) is in omega (arith, same, none)

-- no line end begins as a gap does
gap_ends_none : (c : ℕ) (cs : List ℕ) → 0 < gap_len (c ∷ cs) → begins_line_end (c ∷ cs) ≡ false
gap_ends_none c cs some = no_end_unless c cs (ne_eqb c 10 (λ e. no_gap_at 10 c cs refl e some)) (ne_eqb c 13 (λ e. no_gap_at 13 c cs refl e some))

pub gap_first : (place : Place) (n : ℕ) (xs : List ℕ) → 0 < n → n ≡ gap_len xs → marks_of place 0 xs ≡ gap_mark place xs ∷ marks_of (place_behind place (take n xs)) 0 (drop n xs)
unfolding marks_of
gap_first place n [] some is = absurd (omega (arith, is))
gap_first place n (c ∷ cs) some is =
    ap (λ (b : Bool). if b then LineEnd place (place_behind place (take (line_end (c ∷ cs)) (c ∷ cs))) ∷ marks_of (next_place place c) (line_end (c ∷ cs) - 1) cs
    else (if nat_lt 0 (gap_len (c ∷ cs)) then gap_mark place (c ∷ cs) ∷ marks_of (next_place place c) (gap_len (c ∷ cs) - 1) cs
    else spelled_marks place (c ∷ cs) (λ skip. marks_of (next_place place c) skip cs) (lexeme_at (c ∷ cs)))) (gap_ends_none c cs (omega (arith, is)))
    ∙ ap (λ (b : Bool). if b then gap_mark place (c ∷ cs) ∷ marks_of (next_place place c) (gap_len (c ∷ cs) - 1) cs
    else spelled_marks place (c ∷ cs) (λ skip. marks_of (next_place place c) skip cs) (lexeme_at (c ∷ cs))) (lt-ltb 0 (gap_len (c ∷ cs)) (omega (arith, is)))
    ∙ ap (λ (m : ℕ). gap_mark place (c ∷ cs) ∷ marks_of (next_place place c) (m - 1) cs) (sym is)
    ∙ ap (λ (ms : List Mark). gap_mark place (c ∷ cs) ∷ ms) (behind_mark place n c cs some)

pub no_end_no_gap : (place : Place) (c : ℕ) (cs : List ℕ) → line_end (c ∷ cs) ≡ 0 → gap_len (c ∷ cs) ≡ 0 → marks_of place 0 (c ∷ cs) ≡ spelled_marks place (c ∷ cs) (λ skip. marks_of (next_place place c) skip cs) (lexeme_at (c ∷ cs))
unfolding marks_of
no_end_no_gap place c cs no_end no_gap =
    ap (λ (b : Bool). if b then LineEnd place (place_behind place (take (line_end (c ∷ cs)) (c ∷ cs))) ∷ marks_of (next_place place c) (line_end (c ∷ cs) - 1) cs
    else (if nat_lt 0 (gap_len (c ∷ cs)) then gap_mark place (c ∷ cs) ∷ marks_of (next_place place c) (gap_len (c ∷ cs) - 1) cs
    else spelled_marks place (c ∷ cs) (λ skip. marks_of (next_place place c) skip cs) (lexeme_at (c ∷ cs)))) (ends_false (line_end (c ∷ cs)) no_end)
    ∙ ap (λ (b : Bool). if b then gap_mark place (c ∷ cs) ∷ marks_of (next_place place c) (gap_len (c ∷ cs) - 1) cs
    else spelled_marks place (c ∷ cs) (λ skip. marks_of (next_place place c) skip cs) (lexeme_at (c ∷ cs))) (le-ltb 0 (gap_len (c ∷ cs)) (omega (arith, no_gap)))

pub spelled_first : (place : Place) (lexeme : Lexeme) (xs : List ℕ) → 0 < length xs → line_end xs ≡ 0 → gap_len xs ≡ 0 → lexeme_at xs ≡ Ok lexeme → 1 ≤ lexeme.len → marks_of place 0 xs ≡ Spelled lexeme.kind place (place_behind place (take lexeme.len xs)) ∷ marks_of (place_behind place (take lexeme.len xs)) 0 (drop lexeme.len xs)
spelled_first place lexeme [] some no_end no_gap is low = absurd (omega arith)
spelled_first place lexeme (c ∷ cs) some no_end no_gap is low =
    no_end_no_gap place c cs no_end no_gap
    ∙ ap (spelled_marks place (c ∷ cs) (λ skip. marks_of (next_place place c) skip cs)) is
    ∙ ap (λ (ms : List Mark). Spelled lexeme.kind place (place_behind place (take lexeme.len (c ∷ cs))) ∷ ms) (behind_mark place lexeme.len c cs (omega arith))

pub wrong_first : (place : Place) (miss : Miss) (xs : List ℕ) → 0 < length xs → line_end xs ≡ 0 → gap_len xs ≡ 0 → lexeme_at xs ≡ Err miss → marks_of place 0 xs ≡ Wrong place (place_behind place (take miss.at xs)).pos miss.kind ∷ []
wrong_first place miss [] some no_end no_gap is = absurd (omega arith)
wrong_first place miss (c ∷ cs) some no_end no_gap is =
    no_end_no_gap place c cs no_end no_gap ∙ ap (spelled_marks place (c ∷ cs) (λ skip. marks_of (next_place place c) skip cs)) is
