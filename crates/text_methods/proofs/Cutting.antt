-- Pieces of texts while they are cut.
use Rattle.std.proofs.Common.{ℕ, zero, suc, ◌+◌, ◌-◌, ◌<◌, ◌≤◌, Bool, true, false, List, [], ◌∷◌, ◌++◌, ◌≡◌, ◌∙◌, refl, sym, ap, arith, length, take, drop, append_assoc, append-nil, length-drop, Option, Some, None}
use Rattle.std.proofs.lemmas.Bool.{and_parts}
use Rattle.std.proofs.lemmas.List.{drop-drop}
use Rattle.std.specs.Prelude.{nat_eq, if◌then◌else◌}
use Rattle.std.specs.List.{filter, starts_with}
use Rattle.text_methods.specs.Characters.{is_blank}
use Rattle.text_methods.specs.Pieces.{with_first, cut_behind, cut_at_blanks, has_chars, kept}
use Rattle.call_products.specs.py_operands.Search.{first_place}

-- an open piece before the first
abbrev pub with_open : List ℕ → List (List ℕ) → List (List ℕ)
with_open xs [] = xs ∷ []
with_open xs (p ∷ ps) = (xs ++ p) ∷ ps

open_first : (c : ℕ) (ps : List (List ℕ)) → with_open [] (with_first c ps) ≡ with_first c ps
open_first c [] = refl
open_first c (p ∷ ps) = refl

open_if : (b : Bool) (part cs : List ℕ) (c : ℕ) (ps qs : List (List ℕ))
    → with_open [] (if b then [] ∷ ps else with_first c qs) ≡ (if b then [] ∷ ps else with_first c qs)
open_if true part cs c ps qs = refl
open_if false part cs c ps qs = open_first c qs

-- there is one piece at least
pub blanks_open : (t : List ℕ) → with_open [] (cut_at_blanks t) ≡ cut_at_blanks t
blanks_open [] = refl
blanks_open (c ∷ cs) = open_if (is_blank c) [] cs c (cut_at_blanks cs) (cut_at_blanks cs)

-- a character more behind the open piece
pub open_more : (xs : List ℕ) (c : ℕ) (ps : List (List ℕ)) → with_open xs (with_first c ps) ≡ with_open (xs ++ c ∷ []) ps
open_more xs c [] = refl
open_more xs c (p ∷ ps) = simp append_assoc

-- turns of the loop that cuts
by_start : (b : Bool) (ps qs : List (List ℕ)) (c : ℕ) → b ≡ true → (if b then [] ∷ ps else with_first c qs) ≡ [] ∷ ps
by_start true ps qs c e = refl
by_start false ps qs c e = absurd (cc)

by_other : (b : Bool) (ps qs : List (List ℕ)) (c : ℕ) → b ≡ false → (if b then [] ∷ ps else with_first c qs) ≡ with_first c qs
by_other true ps qs c e = absurd (cc)
by_other false ps qs c e = refl

-- WHERE A PART STANDS FIRST, a text is cut
skipped : (part : List ℕ) (n : ℕ) (t : List ℕ) → cut_behind part n t ≡ cut_behind part 0 (drop n t)
skipped part zero t = refl
skipped part (suc n) [] = refl
skipped part (suc n) (c ∷ cs) = skipped part n cs

none_both : (b : Bool) (at : ℕ) (o : Option ℕ) → None ≡ (if b then Some at else o) → (b ≡ false) × (None ≡ o)
none_both true at o e = absurd (cc)
none_both false at o e = (refl, e)

nothing_starts : (part : List ℕ) → 0 < length part → starts_with nat_eq [] part ≡ false
nothing_starts [] h = absurd (omega arith)
nothing_starts (c ∷ cs) h = refl

take_more : (c : ℕ) (cs : List ℕ) (n k : ℕ) → suc n ≤ k → take (k - n) (c ∷ cs) ≡ c ∷ take (k - suc n) cs
take_more c cs n k h = let e : k - n ≡ suc (k - suc n) = omega arith in rw e refl

drop_more : (c : ℕ) (cs : List ℕ) (n k m : ℕ) → suc n ≤ k → drop (k - n + m) (c ∷ cs) ≡ drop (k - suc n + m) cs
drop_more c cs n k m h = let e : k - n + m ≡ suc (k - suc n + m) = omega arith in rw e refl

not_some : (o : Option ℕ) (k : ℕ) → o ≡ None → o ≡ Some k → ⊥
not_some o k e g = absurd (cc)

-- where it stands first, it stands in the text
low_by : (b : Bool) (n : ℕ) (o : Option ℕ) (k : ℕ) → (if b then Some n else o) ≡ Some k → (o ≡ Some k → n ≤ k) → n ≤ k
low_by true n o k e h = let q : n ≡ k = cc in omega arith
low_by false n o k e h = h e

place_low : (part t : List ℕ) (n k : ℕ) → first_place part n t ≡ Some k → n ≤ k
place_low part [] n k e = low_by (starts_with nat_eq [] part) n None k e (λ o. absurd (cc))
place_low part (c ∷ cs) n k e =
    low_by (starts_with nat_eq (c ∷ cs) part) n (first_place part (suc n) cs) k e (λ o. let h : suc n ≤ k = place_low part cs (suc n) k o in omega arith)

starts_fit : (part t : List ℕ) → starts_with nat_eq t part ≡ true → length part ≤ length t
starts_fit [] t h = omega arith
starts_fit (p ∷ ps) [] h = absurd (cc)
starts_fit (p ∷ ps) (c ∷ cs) h = let f : length ps ≤ length cs = starts_fit ps cs (and_parts (nat_eq p c) (starts_with nat_eq cs ps) h).1 in omega arith

fits_by : (part : List ℕ) (c : ℕ) (cs : List ℕ) (n k : ℕ) → 0 < length part → (b : Bool) → starts_with nat_eq (c ∷ cs) part ≡ b
    → (first_place part (suc n) cs ≡ Some k → k - suc n + length part ≤ length cs)
    → (if b then Some n else first_place part (suc n) cs) ≡ Some k → k - n + length part ≤ length (c ∷ cs)
fits_by part c cs n k some true g go e = let q : n ≡ k = cc in omega (arith, starts_fit part (c ∷ cs) g)
fits_by part c cs n k some false g go e =
    let l : suc n ≤ k = place_low part cs (suc n) k e in
    omega (arith, go e)

found_by : (part : List ℕ) (c : ℕ) (cs : List ℕ) (n k : ℕ) → 0 < length part → (b : Bool) → starts_with nat_eq (c ∷ cs) part ≡ b
    → (first_place part (suc n) cs ≡ Some k → cut_behind part 0 cs ≡ take (k - suc n) cs ∷ cut_behind part 0 (drop (k - suc n + length part) cs))
    → (if b then Some n else first_place part (suc n) cs) ≡ Some k
    → cut_behind part 0 (c ∷ cs) ≡ take (k - n) (c ∷ cs) ∷ cut_behind part 0 (drop (k - n + length part) (c ∷ cs))
found_by part c cs n k some true g go e =
    let q : n ≡ k = cc in
    let z : k - n ≡ 0 = omega arith in
    let m : 0 + length part ≡ suc (length part - 1) = omega arith in
    by_start (starts_with nat_eq (c ∷ cs) part) (cut_behind part (length part - 1) cs) (cut_behind part 0 cs) c g
    ∙ rw (z, m) (ap (λ (l : List (List ℕ)). [] ∷ l) (skipped part (length part - 1) cs))
found_by part c cs n k some false g go e =
    let l : suc n ≤ k = place_low part cs (suc n) k e in
    by_other (starts_with nat_eq (c ∷ cs) part) (cut_behind part (length part - 1) cs) (cut_behind part 0 cs) c g
    ∙ (ap (with_first c) (go e) ∙ rw (take_more c cs n k l, drop_more c cs n k (length part) l) refl)

pub place_fits : (part t : List ℕ) (n k : ℕ) → 0 < length part → first_place part n t ≡ Some k → k - n + length part ≤ length t
place_fits part [] n k some e = absurd (not_some (first_place part n []) k (rw (nothing_starts part some) refl) e)
place_fits part (c ∷ cs) n k some e = fits_by part c cs n k some (starts_with nat_eq (c ∷ cs) part) refl (place_fits part cs (suc n) k some) e

pub cut_found : (part t : List ℕ) (n k : ℕ) → 0 < length part → first_place part n t ≡ Some k
    → cut_behind part 0 t ≡ take (k - n) t ∷ cut_behind part 0 (drop (k - n + length part) t)
cut_found part [] n k some e = absurd (not_some (first_place part n []) k (rw (nothing_starts part some) refl) e)
cut_found part (c ∷ cs) n k some e = found_by part c cs n k some (starts_with nat_eq (c ∷ cs) part) refl (cut_found part cs (suc n) k some) e

pub cut_whole : (part t : List ℕ) (n : ℕ) → None ≡ first_place part n t → cut_behind part 0 t ≡ t ∷ []
cut_whole part [] n e = refl
cut_whole part (c ∷ cs) n e =
    let q : (starts_with nat_eq (c ∷ cs) part ≡ false) × (None ≡ first_place part (suc n) cs) = none_both (starts_with nat_eq (c ∷ cs) part) n (first_place part (suc n) cs) e in
    by_other (starts_with nat_eq (c ∷ cs) part) (cut_behind part (length part - 1) cs) (cut_behind part 0 cs) c q.0
    ∙ ap (with_first c) (cut_whole part cs (suc n) q.1)

-- a turn of the loop from match to match
pub cut_turn : (part text : List ℕ) (all done : List (List ℕ)) (from far next : ℕ) → 0 < length part → first_place part 0 (drop from text) ≡ Some far
    → next ≡ from + far + length part → all ≡ done ++ cut_behind part 0 (drop from text)
    → all ≡ (done ++ take far (drop from text) ∷ []) ++ cut_behind part 0 (drop next text)
cut_turn part text all done from far next some e n h =
    let z : far - 0 ≡ far = omega arith in
    let m : from + (far + length part) ≡ next = omega arith in
    let f : cut_behind part 0 (drop from text) ≡ take far (drop from text) ∷ cut_behind part 0 (drop (far + length part) (drop from text))
    = rw z at (cut_found part (drop from text) 0 far some e) in
    let d : drop (far + length part) (drop from text) ≡ drop next text = rw m at (drop-drop (far + length part) from text) in
    let g : cut_behind part 0 (drop from text) ≡ take far (drop from text) ∷ cut_behind part 0 (drop next text) = rw d at f in
    h ∙ (ap (λ (l : List (List ℕ)). done ++ l) g ∙ sym (append_assoc done (take far (drop from text) ∷ []) (cut_behind part 0 (drop next text))))

-- a match is within the text
pub turn_fits : (part text : List ℕ) (from far : ℕ) → 0 < length part → first_place part 0 (drop from text) ≡ Some far → from ≤ length text
    → from + far + length part ≤ length text
turn_fits part text from far some e h =
    let f : far - 0 + length part ≤ length (drop from text) = place_fits part (drop from text) 0 far some e in
    omega (arith, length-drop from text)

-- behind the last match
pub cut_end : (part text : List ℕ) (all done : List (List ℕ)) (from : ℕ) → None ≡ first_place part 0 (drop from text)
    → all ≡ done ++ cut_behind part 0 (drop from text) → all ≡ done ++ drop from text ∷ []
cut_end part text all done from e h = h ∙ ap (λ (l : List (List ℕ)). done ++ l) (cut_whole part (drop from text) 0 e)

-- the words of pieces
kept_by : (b : Bool) (xs : List ℕ) (ps : List (List ℕ)) → (if b then xs ∷ ps else ps) ≡ (if b then xs ∷ [] else []) ++ ps
kept_by true xs ps = refl
kept_by false xs ps = refl

kept_is : (xs : List ℕ) (ps : List (List ℕ)) → filter has_chars (xs ∷ ps) ≡ kept xs ++ filter has_chars ps
kept_is xs ps = kept_by (has_chars xs) xs (filter has_chars ps)

pub words_close : (rest behind xs : List ℕ) (all ws : List (List ℕ)) (c : ℕ) → rest ≡ c ∷ behind → is_blank c ≡ true
    → all ≡ ws ++ filter has_chars (with_open xs (cut_at_blanks rest)) → all ≡ (ws ++ kept xs) ++ filter has_chars (with_open [] (cut_at_blanks behind))
words_close rest behind xs all ws c e s f =
    let g : all ≡ ws ++ filter has_chars (with_open xs (cut_at_blanks (c ∷ behind))) = rw e at f in
    let k : cut_at_blanks (c ∷ behind) ≡ [] ∷ cut_at_blanks behind = by_start (is_blank c) (cut_at_blanks behind) (cut_at_blanks behind) c s in
    let m : all ≡ ws ++ filter has_chars ((xs ++ []) ∷ cut_at_blanks behind) = g ∙ ap (λ (l : List (List ℕ)). ws ++ filter has_chars (with_open xs l)) k in
    let o : all ≡ ws ++ filter has_chars (xs ∷ cut_at_blanks behind) = rw (append-nil xs) at m in
    o ∙ (ap (λ (l : List (List ℕ)). ws ++ l) (kept_is xs (cut_at_blanks behind))
    ∙ (sym (append_assoc ws (kept xs) (filter has_chars (cut_at_blanks behind)))
    ∙ ap (λ (l : List (List ℕ)). (ws ++ kept xs) ++ filter has_chars l) (sym (blanks_open behind))))

pub words_go : (rest behind xs : List ℕ) (all ws : List (List ℕ)) (c : ℕ) → rest ≡ c ∷ behind → is_blank c ≡ false
    → all ≡ ws ++ filter has_chars (with_open xs (cut_at_blanks rest)) → all ≡ ws ++ filter has_chars (with_open (xs ++ c ∷ []) (cut_at_blanks behind))
words_go rest behind xs all ws c e s f =
    let g : all ≡ ws ++ filter has_chars (with_open xs (cut_at_blanks (c ∷ behind))) = rw e at f in
    let k : cut_at_blanks (c ∷ behind) ≡ with_first c (cut_at_blanks behind) = by_other (is_blank c) (cut_at_blanks behind) (cut_at_blanks behind) c s in
    g ∙ (ap (λ (l : List (List ℕ)). ws ++ filter has_chars (with_open xs l)) k ∙ ap (λ (l : List (List ℕ)). ws ++ filter has_chars l) (open_more xs c (cut_at_blanks behind)))

pub words_open : (t : List ℕ) → filter has_chars (cut_at_blanks t) ≡ [] ++ filter has_chars (with_open [] (cut_at_blanks t))
words_open t = ap (filter has_chars) (sym (blanks_open t))
