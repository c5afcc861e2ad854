-- The bytes behind ends of lines.
use Rattle.std.proofs.Common.{◌≡◌, ◌<◌, ◌≤◌, ◌+◌, ◌-◌, ◌∙◌, ℕ, zero, suc, Bool, true, false, cond, List, [], ◌∷◌, ◌++◌, length, drop, get_or, Option, None, refl, sym, ap, subst, arith}
use Rattle.std.specs.Prelude.{slice_get, slice_range, ◌==◌}
use Rattle.std.specs.List.{count_by, slice_split, onto_first}
use Rattle.std.specs.Str.{IsUtf8, IsCharBoundary}
use Rattle.std.specs.Str.Lines.{lines, lines_of_parts}
use Rattle.std.proofs.lemmas.List.{take-append-drop, length-drop, get_or-drop, drop-drop, drop_more, drop_all}
use Rattle.std.proofs.lemmas.List.Sums.{sum_by-cons}
use Rattle.std.proofs.lemmas.Grind.{common_steps}
use Rattle.std.proofs.lemmas.Str.{IsUtf8-nil, IsUtf8-drop, IsCharBoundary-after_ascii, IsCharBoundary-from_drop}
use Rattle.machine_state.specs.Lines.{behind, is_end}

-- BYTES THAT ARE PASSED
passed_more : (t : Bool) (n c : ℕ) (rest ys : List ℕ) → cond t 1 0 + c < suc n → (c < n → behind n rest ≡ behind (n - c) ys) → (c < suc n → behind (suc n) rest ≡ behind (suc n - c) ys)
    → cond t (behind n rest) (behind (suc n) rest) ≡ behind (suc n - (cond t 1 0 + c)) ys
passed_more true n c rest ys h f g = let e : suc n - (1 + c) ≡ n - c = omega arith in rw e (f (omega (arith, h)))
passed_more false n c rest ys h f g = let e : suc n - (0 + c) ≡ suc n - c = omega arith in rw e (g (omega (arith, h)))

passed : (n : ℕ) (xs ys : List ℕ) → count_by is_end xs < n → behind n (xs ++ ys) ≡ behind (n - count_by is_end xs) ys
passed zero xs ys h = absurd (omega (arith, h))
passed (suc n) [] ys h = let e : suc n ≡ suc n - 0 = omega arith in ap (λ (k : ℕ). behind k ys) e
passed (suc n) (x ∷ xs) ys h =
    let more : count_by is_end (x ∷ xs) ≡ cond (is_end x) 1 0 + count_by is_end xs = sum_by-cons (λ (b : ℕ). cond (is_end b) 1 0) x xs in
    passed_more (is_end x) n (count_by is_end xs) (xs ++ ys) ys (subst (λ (k : ℕ). k < suc n) more h) (passed n xs ys) (passed (suc n) xs ys)
    ∙ ap (λ (k : ℕ). behind (suc n - k) ys) (sym more)

-- a block
pub block_passed : (bs : List ℕ) (at to left count : ℕ) → at ≤ to → count ≡ count_by is_end (slice_range bs at to) → count < left → behind (left - count) (drop to bs) ≡ behind left (drop at bs)
block_passed bs at to left count low e h =
    let block = slice_range bs at to in
    let rest = drop (to - at) (drop at bs) in
    let few : count_by is_end block < left = subst (λ (k : ℕ). k < left) e h in
    let far : at + (to - at) ≡ to = omega (arith, low) in
    let past : rest ≡ drop to bs = drop-drop (to - at) at bs ∙ ap (λ (k : ℕ). drop k bs) far in
    ap (λ (k : ℕ). behind (left - k) (drop to bs)) e
    ∙ (ap (behind (left - count_by is_end block)) (sym past)
    ∙ (sym (passed left block rest few) ∙ ap (behind left) (take-append-drop (to - at) (drop at bs))))

-- a byte
onto : (t : Bool) (left b : ℕ) (bs : List ℕ) → 0 < left → behind (cond t (left - 1) left) bs ≡ cond t (behind (left - 1) bs) (behind left bs)
onto true left b bs h = refl
onto false left b bs h = refl

byte_behind : (left b : ℕ) (bs : List ℕ) → 0 < left → cond (is_end b) (behind (left - 1) bs) (behind left bs) ≡ behind left (b ∷ bs)
byte_behind zero b bs h = absurd (omega (arith, h))
byte_behind (suc n) b bs h = let e : suc n - 1 ≡ n = omega arith in ap (λ (k : ℕ). cond (is_end b) (behind k bs) (behind (suc n) bs)) e

pub byte_passed : (xs : List ℕ) (at left k : ℕ) → at < length xs → 0 < left → k ≡ cond (is_end (get_or xs at 0)) (left - 1) left → behind k (drop (at + 1) xs) ≡ behind left (drop at xs)
byte_passed xs at left k short some e =
    let b = get_or xs at 0 in
    ap (λ (j : ℕ). behind j (drop (at + 1) xs)) e
    ∙ (onto (is_end b) left b (drop (at + 1) xs) some
    ∙ (byte_behind left b (drop (at + 1) xs) some
    ∙ ap (behind left) (sym (drop_more xs at 0 short))))

none_left : (left : ℕ) → [] ≡ behind left []
none_left zero = refl
none_left (suc n) = refl

pub all_passed : (xs : List ℕ) (at left : ℕ) → length xs ≤ at → drop at xs ≡ behind left (drop at xs)
all_passed xs at left h = rw (drop_all at xs h) (none_left left)

-- LINES
none_behind : (t : Bool) (p : List ℕ) (m : ℕ) → slice_get (cond t [] (p ∷ [])) (suc m) ≡ None
none_behind true p m = refl
none_behind false p m = refl

onward : (t : Bool) (b m : ℕ) (parts : List (List ℕ)) → slice_get (lines_of_parts (cond t ([] ∷ parts) (onto_first b parts))) (suc m) ≡ cond t (slice_get (lines_of_parts parts) m) (slice_get (lines_of_parts parts) (suc m))
onward true b m [] = refl
onward true b m (p ∷ ps) = refl
onward false b m [] = refl
onward false b m (p ∷ []) = none_behind (length (b ∷ p) == 0) (b ∷ p) m ∙ sym (none_behind (length p == 0) p m)
onward false b m (p ∷ q ∷ ps) = refl

chosen : (t : Bool) (xs ys : List ℕ) → cond t (slice_get (lines xs) 0) (slice_get (lines ys) 0) ≡ slice_get (lines (cond t xs ys)) 0
chosen true xs ys = refl
chosen false xs ys = refl

-- the line behind some is the first of what is behind their ends
pub line_behind : (n : ℕ) (bs : List ℕ) → slice_get (lines bs) n ≡ slice_get (lines (behind n bs)) 0
line_behind zero bs = refl
line_behind (suc n) [] = refl
line_behind (suc n) (b ∷ bs) =
    onward (is_end b) b n (slice_split (λ c. c == 10) bs)
    ∙ (ap (λ (o : Option (List ℕ)). cond (is_end b) o (slice_get (lines bs) (suc n))) (line_behind n bs)
    ∙ (ap (λ (o : Option (List ℕ)). cond (is_end b) (slice_get (lines (behind n bs)) 0) o) (line_behind (suc n) bs)
    ∙ chosen (is_end b) (behind n bs) (behind (suc n) bs)))

-- TEXTS
end_is : (b : ℕ) → is_end b ≡ true → b ≡ 10
end_is b h = grind (arith, common_steps)

rest_on : (all : List ℕ) (i b : ℕ) (bs : List ℕ) → drop i all ≡ b ∷ bs → drop (i + 1) all ≡ bs
rest_on all i b bs e = sym (drop-drop 1 i all) ∙ ap (drop 1) e

-- behind an end of a line a text begins
end_utf8 : (all : List ℕ) → IsUtf8 all → (i b : ℕ) (bs : List ℕ) → drop i all ≡ b ∷ bs → b ≡ 10 → IsUtf8 bs
end_utf8 all u i b bs e is =
    let long : length (drop i all) ≡ length all - i = length-drop i all in
    let some : length (drop i all) ≡ suc (length bs) = ap length e in
    let here : i ≡ i + 0 = omega arith in
    let at : get_or all i 0 ≡ 10 = ap (λ (k : ℕ). get_or all k 0) here ∙ (sym (get_or-drop i all 0 0) ∙ (ap (λ (xs : List ℕ). get_or xs 0 0) e ∙ is)) in
    subst IsUtf8 (rest_on all i b bs e) (IsUtf8-drop all (i + 1) u (IsCharBoundary-after_ascii all i u (omega (arith, long, some)) (omega (arith, at))))

either_utf8 : (t : Bool) (n : ℕ) (bs : List ℕ) → (t ≡ true → IsUtf8 (behind n bs)) → IsUtf8 (behind (suc n) bs) → IsUtf8 (cond t (behind n bs) (behind (suc n) bs))
either_utf8 true n bs f g = f refl
either_utf8 false n bs f g = g

behind_utf8 : (all : List ℕ) → IsUtf8 all → (n i : ℕ) (bs : List ℕ) → drop i all ≡ bs → (n ≡ 0 → IsUtf8 bs) → IsUtf8 (behind n bs)
behind_utf8 all u zero i bs e h = h refl
behind_utf8 all u (suc n) i [] e h = IsUtf8-nil
behind_utf8 all u (suc n) i (b ∷ bs) e h =
    either_utf8 (is_end b) n bs
    (λ is. behind_utf8 all u n (i + 1) bs (rest_on all i b bs e) (λ z. end_utf8 all u i b bs e (end_is b is)))
    (behind_utf8 all u (suc n) (i + 1) bs (rest_on all i b bs e) (λ z. absurd (omega (arith, z))))

-- a text may be cut there
pub line_starts : (bs : List ℕ) (n at : ℕ) → IsUtf8 bs → at ≤ length bs → drop at bs ≡ behind n bs → IsCharBoundary bs at
line_starts bs n at u h e = IsCharBoundary-from_drop bs at h (subst IsUtf8 (sym e) (behind_utf8 bs u n 0 bs refl (λ z. u)))
