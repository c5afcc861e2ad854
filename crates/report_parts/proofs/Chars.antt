-- Characters that are pushed.
use Rattle.std.proofs.Common.{◌≡◌, ◌⊎◌, ℕ, ◌<◌, ◌≤◌, List, [], ◌∷◌, ◌++◌, length, take, get_or, Bool, true, false, refl, ap, sym, ◌∙◌, append_assoc, arith, inl, inr, take_all}
use Rattle.std.proofs.lemmas.List.Sums.{position_or_len_is}
use Rattle.std.proofs.lemmas.List.Splits.{slice_split-cons_yes, slice_split-cons_no}
use Rattle.std.specs.Prelude.{codes, encode_utf8, encode_utf8_all, flat_map}
use Rattle.std.specs.List.{before_first, onto_first, slice_split}
use Rattle.report_parts.specs.Exceptions.{error_char, error_line, error_lines, is_line_feed}

pub before_newline : (chars : List ℕ) (i : ℕ) → i ≤ length chars → ((k : ℕ) → k < i → is_line_feed (get_or chars k 0) ≡ false) → (i < length chars → is_line_feed (get_or chars i 0) ≡ true) → take i chars ≡ before_first is_line_feed chars
before_newline chars i within before at = ap (λ n. take n chars) (sym (position_or_len_is is_line_feed chars i 0 within before at))

pub two_cases : (b : Bool) → (b ≡ true) ⊎ (b ≡ false)
two_cases true = inl refl
two_cases false = inr refl

-- the first line without what stands before it, then the others
abbrev joined_lines : List (List ℕ) → List ℕ
joined_lines [] = []
joined_lines (line ∷ lines) = encode_utf8_all line ++ (10 ∷ flat_map error_line lines)

record Split (text : List ℕ) : Type 0 where
  first : List ℕ
  others : List (List ℕ)
  is : slice_split is_line_feed text ≡ first ∷ others

split_of : (text : List ℕ) → Split text
split_of [] = record { first = []; others = []; is = refl }
split_of (c ∷ cs) =
    let rest = split_of cs in
    elim (two_cases (is_line_feed c)) [
      | inl same ↦ record { first = []; others = slice_split is_line_feed cs; is = slice_split-cons_yes is_line_feed c cs same }
      | inr other ↦ record { first = c ∷ rest.first; others = rest.others; is = slice_split-cons_no is_line_feed c cs other ∙ ap (onto_first c) rest.is }
    ]

all_lines : (text : List ℕ) → error_lines text ≡ codes "E   " ++ joined_lines (slice_split is_line_feed text)
unfolding error_lines error_line
all_lines text = let parts = split_of text in rw parts.is (ap (λ x. codes "E   " ++ x) (append_assoc (encode_utf8_all parts.first) (10 ∷ []) (flat_map error_line parts.others)))

by_chars : (text : List ℕ) → joined_lines (slice_split is_line_feed text) ≡ flat_map error_char text ++ 10 ∷ []
unfolding error_lines
by_chars [] = refl
by_chars (c ∷ cs) =
    let rest = split_of cs in
    let more = by_chars cs in
    elim (two_cases (is_line_feed c)) [
      | inl same ↦ rw (slice_split-cons_yes is_line_feed c cs same, same) (ap (λ x. 10 ∷ x) (all_lines cs ∙ ap (λ x. codes "E   " ++ x) more))
      | inr other ↦
          rw (slice_split-cons_no is_line_feed c cs other, rest.is, other) (append_assoc (encode_utf8 c) (encode_utf8_all rest.first) (10 ∷ flat_map error_line rest.others) ∙ ap (λ x. encode_utf8 c ++ x) (rw rest.is at more) ∙ sym (append_assoc (encode_utf8 c) (flat_map error_char cs) (10 ∷ [])))
    ]

pub error_lines_by_chars : (text : List ℕ) → error_lines text ≡ codes "E   " ++ (flat_map error_char text ++ codes "\n")
error_lines_by_chars text = all_lines text ∙ ap (λ x. codes "E   " ++ x) (by_chars text)

pub all_before_newline : (chars : List ℕ) (i : ℕ) → length chars ≤ i → i ≤ length chars → ((k : ℕ) → k < i → is_line_feed (get_or chars k 0) ≡ false) → chars ≡ before_first is_line_feed chars
all_before_newline chars i past within before =
    sym (take_all i chars past) ∙ before_newline chars i within before (λ below. absurd (omega arith))
