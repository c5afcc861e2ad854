-- Blanks on both sides of a text.
use Rattle.std.proofs.Common.{◌≡◌, ◌≢◌, ◌<◌, ℕ, ◌+◌, ◌-◌, suc, List, [], ◌∷◌, ◌++◌, length, take, get_or, true, false, Option, Some, None, MatchOption, refl, ap, ◌∙◌, arith, length-append, lit<, take_all, Bor}
use Rattle.std.proofs.Math.Seq.{take-append_seam}
use Rattle.std.proofs.lemmas.Bool.Decides.{nat_tests}
use Rattle.std.proofs.lemmas.List.{reverse-append, take-append-le}
use Rattle.std.proofs.lemmas.Str.{IsUtf8-drop, IsUtf8-take, IsCharBoundary-after_ascii, IsCharBoundary-before_ascii}
use Rattle.std.specs.List.{prefix_len, suffix_len}
use Rattle.std.specs.Str.{IsUtf8}
use Rattle.report_parts.specs.Blanks.{BeginsWithBlank, EndsWithBlank, is_space_or_tab, without_end, without_front}

pub utf8_behind : (c : ℕ) (rest : List ℕ) → c < 128 → IsUtf8 (c ∷ rest) → IsUtf8 rest
utf8_behind c rest small utf8 =
    IsUtf8-drop (c ∷ rest) 1 utf8 (IsCharBoundary-after_ascii (c ∷ rest) 0 utf8 (omega arith) small)

pub begins_with_blank : (c : ℕ) (text rest : List ℕ) → is_space_or_tab c ≡ true → c < 128 → IsUtf8 text → text ≡ c ∷ rest → BeginsWithBlank text rest
unfolding without_front
begins_with_blank c text rest blank small utf8 e =
    let next : 1 + prefix_len is_space_or_tab rest ≡ suc (prefix_len is_space_or_tab rest) = omega arith in
    record {
      same = rw (e, blank, next) refl;
      shorter = rw e (omega arith);
      utf8 = utf8_behind c rest small (rw e at utf8);
    }

other_than : (c : ℕ) → c ≢ 32 → c ≢ 9 → is_space_or_tab c ≡ false
other_than c not_space not_tab = grind (arith, nat_tests)

pub no_blank_first : (text : List ℕ) → ((rest : List ℕ) → text ≢ 32 ∷ rest) → ((rest : List ℕ) → text ≢ 9 ∷ rest) → without_front text ≡ text
unfolding without_front
no_blank_first [] no_space no_tab = refl
no_blank_first (c ∷ rest) no_space no_tab =
    rw (other_than c (λ e. no_space rest (ap (λ x. x ∷ rest) e)) (λ e. no_tab rest (ap (λ x. x ∷ rest) e))) refl

get_or-append_seam : (front : List ℕ) (c : ℕ) → get_or (front ++ c ∷ []) (length front) 0 ≡ c
get_or-append_seam [] c = refl
get_or-append_seam (d ∷ front) c = get_or-append_seam front c

take_front : (front : List ℕ) (c n : ℕ) → take (length front + 1 - (1 + n)) (front ++ c ∷ []) ≡ take (length front - n) front
take_front front c n =
    let less : length front + 1 - (1 + n) ≡ length front - n = omega arith in
    rw less (take-append-le (length front - n) front (c ∷ []) (omega arith))

utf8_before : (c : ℕ) (front : List ℕ) → c < 128 → IsUtf8 (front ++ c ∷ []) → IsUtf8 front
utf8_before c front small utf8 =
    let cut = IsUtf8-take (front ++ c ∷ []) (length front) utf8 (IsCharBoundary-before_ascii (front ++ c ∷ []) (length front) (rw (length-append front (c ∷ [])) (omega arith)) (rw (get_or-append_seam front c) small)) in
    rw (take-append_seam front (c ∷ [])) at cut

pub ends_with_blank : (c : ℕ) (text front : List ℕ) → is_space_or_tab c ≡ true → c < 128 → IsUtf8 text → text ≡ front ++ c ∷ [] → EndsWithBlank text front
unfolding without_end
ends_with_blank c text front blank small utf8 e =
    record {
      same = rw (e, reverse-append front (c ∷ []), blank, length-append front (c ∷ [])) (take_front front c (suffix_len is_space_or_tab front));
      shorter = rw (e, length-append front (c ∷ [])) (omega arith);
      utf8 = utf8_before c front small (rw e at utf8);
    }

record Last (text : List ℕ) : Type 0 where
  front : List ℕ
  last : ℕ
  is : text ≡ front ++ last ∷ []

last_of : (c : ℕ) (text : List ℕ) → Last (c ∷ text)
last_of c [] = record { front = []; last = c; is = refl }
last_of c (d ∷ text) = let l = last_of d text in record { front = c ∷ l.front; last = l.last; is = ap (λ x. c ∷ x) l.is }

no_blank_at : (text front : List ℕ) (last : ℕ) → text ≡ front ++ last ∷ [] → is_space_or_tab last ≡ false → without_end text ≡ text
unfolding without_end
no_blank_at text front last e other =
    rw (e, reverse-append front (last ∷ []), other) (take_all (length (front ++ last ∷ []) - 0) (front ++ last ∷ []) (omega arith))

pub no_blank_last : (text : List ℕ) → ((front : List ℕ) → text ≢ front ++ 32 ∷ []) → ((front : List ℕ) → text ≢ front ++ 9 ∷ []) → without_end text ≡ text
unfolding without_end
no_blank_last [] no_space no_tab = refl
no_blank_last (c ∷ text) no_space no_tab =
    let l = last_of c text in
    no_blank_at (c ∷ text) l.front l.last l.is (other_than l.last (λ e. no_space l.front (l.is ∙ ap (λ x. l.front ++ x ∷ []) e)) (λ e. no_tab l.front (l.is ∙ ap (λ x. l.front ++ x ∷ []) e)))

pub second_front : (text : List ℕ) (r : Option (Bor (List ℕ))) → IsUtf8 text → ((rest : List ℕ) → text ≢ 32 ∷ rest) → MatchOption r ((rest : List ℕ) → text ≢ 9 ∷ rest) (λ x. text ≡ 9 ∷ x.now) → MatchOption r (without_front text ≡ text) (λ rest. BeginsWithBlank text rest.now)
second_front text None utf8 no_space no_tab = no_blank_first text no_space no_tab
second_front text (Some rest) utf8 no_space is = begins_with_blank 9 text rest.now refl (lit< tt) utf8 is

pub second_end : (text : List ℕ) (r : Option (Bor (List ℕ))) → IsUtf8 text → ((front : List ℕ) → text ≢ front ++ 32 ∷ []) → MatchOption r ((front : List ℕ) → text ≢ front ++ 9 ∷ []) (λ x. text ≡ x.now ++ 9 ∷ []) → MatchOption r (without_end text ≡ text) (λ rest. EndsWithBlank text rest.now)
second_end text None utf8 no_space no_tab = no_blank_last text no_space no_tab
second_end text (Some rest) utf8 no_space is = ends_with_blank 9 text rest.now refl (lit< tt) utf8 is
