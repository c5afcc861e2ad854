-- Where the lines of a text begin, and a line by its start and the next.
use Rattle.std.proofs.Common.{◌≡◌, ◌<◌, ◌≤◌, ◌+◌, ◌-◌, ◌∙◌, ℕ, zero, suc, Bool, true, false, cond, List, [], ◌∷◌, ◌++◌, length, drop, take, get_or, Option, Some, None, refl, sym, ap, subst, arith, add-one}
use Rattle.std.specs.Prelude.{◌≢◌, slice_get, slice_range}
use Rattle.std.specs.List.{slice_split, onto_first}
use Rattle.std.specs.Str.{IsUtf8, is_utf8}
use Rattle.std.specs.Str.Lines.{lines, lines_of_parts}
use Rattle.std.proofs.lemmas.Bool.{ne_eqb, false≢true}
use Rattle.std.proofs.lemmas.List.{drop_all, drop_more, drop-drop, length-append, length-drop}
use Rattle.std.proofs.lemmas.Str.{IsUtf8-between, IsUtf8-from_is_utf8, is_utf8-from_IsUtf8}
use Rattle.machine_state.specs.Lines.{behind, is_end, text_line, HasStarts, IsPiece, IsStarts, StartsFrom, StartsTo}
use Rattle.machine_state.proofs.LineStarts.{line_behind, line_starts}

-- what stands at a place, whatever else would be read
pub get_same : (xs : List ℕ) (k d : ℕ) → k < length xs → get_or xs k d ≡ get_or xs k (get_or xs k d)
get_same [] k d w = absurd (omega (arith, w))
get_same (x ∷ xs) zero d w = refl
get_same (x ∷ xs) (suc k) d w = by xs k d (get_or xs k d) (omega (arith, w))
  where
    by : (xs : List ℕ) (k d e : ℕ) → k < length xs → get_or xs k d ≡ get_or xs k e
    by [] k d e w = absurd (omega (arith, w))
    by (x ∷ xs) zero d e w = refl
    by (x ∷ xs) (suc k) d e w = by xs k d e (omega (arith, w))

first_get : (xs : List ℕ) (k b : ℕ) → k < length xs → b ≡ get_or xs k b → get_or xs k 0 ≡ b
first_get [] k b w is = absurd (omega (arith, w))
first_get (x ∷ xs) zero b w is = sym is
first_get (x ∷ xs) (suc k) b w is = first_get xs k b (omega (arith, w)) is

-- ENDS OF LINES that are passed one after another
none_left : (n : ℕ) → behind n [] ≡ []
none_left zero = refl
none_left (suc n) = refl

one_more_by : (b : Bool) (n : ℕ) (bs : List ℕ) → behind (suc n) bs ≡ behind 1 (behind n bs) → behind (suc (suc n)) bs ≡ behind 1 (behind (suc n) bs)
    → cond b (behind (suc n) bs) (behind (suc (suc n)) bs) ≡ behind 1 (cond b (behind n bs) (behind (suc n) bs))
one_more_by true n bs f g = f
one_more_by false n bs f g = g

-- one more end is passed behind the others
one_more : (n : ℕ) (bs : List ℕ) → behind (suc n) bs ≡ behind 1 (behind n bs)
one_more zero bs = refl
one_more (suc n) [] = refl
one_more (suc n) (b ∷ bs) = one_more_by (is_end b) n bs (one_more n bs) (one_more (suc n) bs)

none_more : (n k : ℕ) (bs : List ℕ) → behind n bs ≡ [] → behind (k + n) bs ≡ []
none_more n zero bs h = let e : 0 + n ≡ n = omega arith in ap (λ (j : ℕ). behind j bs) e ∙ h
none_more n (suc k) bs h = let e : suc k + n ≡ suc (k + n) = omega arith in ap (λ (j : ℕ). behind j bs) e ∙ one_more (k + n) bs ∙ ap (behind 1) (none_more n k bs h)

pub none_past : (n k : ℕ) (bs : List ℕ) → n ≤ k → behind n bs ≡ [] → behind k bs ≡ []
none_past n k bs le h = let e : k ≡ (k - n) + n = omega (arith, le) in ap (λ (j : ℕ). behind j bs) e ∙ none_more n (k - n) bs h

-- A BYTE, which ends a line or doesn't
pub ends_here : (bs : List ℕ) (n at : ℕ) → at < length bs → get_or bs at 0 ≡ 10 → behind n bs ≡ behind 1 (drop at bs) → drop (at + 1) bs ≡ behind n bs
ends_here bs n at w h e = sym (e ∙ ap (behind 1) (drop_more bs at 0 w) ∙ ap (λ (b : ℕ). cond (is_end b) (drop (at + 1) bs) (behind 1 (drop (at + 1) bs))) h)

pub ends_next : (bs : List ℕ) (n at : ℕ) → drop (at + 1) bs ≡ behind n bs → behind (n + 1) bs ≡ behind 1 (drop (at + 1) bs)
ends_next bs n at h = rw add-one (one_more n bs ∙ ap (behind 1) (sym h))

pub goes_on : (bs : List ℕ) (n at : ℕ) → at < length bs → is_end (get_or bs at 0) ≡ false → behind n bs ≡ behind 1 (drop at bs) → behind n bs ≡ behind 1 (drop (at + 1) bs)
goes_on bs n at w h e = e ∙ ap (behind 1) (drop_more bs at 0 w) ∙ ap (λ (b : Bool). cond b (drop (at + 1) bs) (behind 1 (drop (at + 1) bs))) h

-- THE FIRST LINE is that of the bytes up to the next start
abbrev Firsts : List (List ℕ) → List (List ℕ) → Type 0
Firsts [] ys = ⊥
Firsts (x ∷ []) [] = ⊥
Firsts (x ∷ []) (y ∷ []) = x ≡ y
Firsts (x ∷ []) (y ∷ z ∷ ys) = ⊥
Firsts (x ∷ w ∷ xs) [] = ⊥
Firsts (x ∷ w ∷ xs) (y ∷ []) = ⊥
Firsts (x ∷ w ∷ xs) (y ∷ z ∷ ys) = x ≡ y

firsts_onto : (b : ℕ) (xs ys : List (List ℕ)) → Firsts xs ys → Firsts (onto_first b xs) (onto_first b ys)
firsts_onto b [] ys h = absurd h
firsts_onto b (x ∷ []) [] h = absurd h
firsts_onto b (x ∷ []) (y ∷ []) h = ap (λ (p : List ℕ). b ∷ p) h
firsts_onto b (x ∷ []) (y ∷ z ∷ ys) h = absurd h
firsts_onto b (x ∷ w ∷ xs) [] h = absurd h
firsts_onto b (x ∷ w ∷ xs) (y ∷ []) h = absurd h
firsts_onto b (x ∷ w ∷ xs) (y ∷ z ∷ ys) h = ap (λ (p : List ℕ). b ∷ p) h

some_parts_by : (t : Bool) (b : ℕ) (parts : List (List ℕ)) → Firsts ([] ∷ [] ∷ []) ([] ∷ cond t ([] ∷ parts) (onto_first b parts))
some_parts_by true b parts = refl
some_parts_by false b [] = refl
some_parts_by false b (p ∷ ps) = refl

some_parts : (bs : List ℕ) → Firsts ([] ∷ [] ∷ []) ([] ∷ slice_split is_end bs)
some_parts [] = refl
some_parts (b ∷ bs) = some_parts_by (is_end b) b (slice_split is_end bs)

behind_short_by : (t : Bool) (bs : List ℕ) → length (behind 1 bs) ≤ length bs → length (cond t bs (behind 1 bs)) ≤ length bs
behind_short_by true bs h = omega arith
behind_short_by false bs h = h

behind_short : (bs : List ℕ) → length (behind 1 bs) ≤ length bs
behind_short [] = omega arith
behind_short (b ∷ bs) = let h : length (cond (is_end b) bs (behind 1 bs)) ≤ length bs = behind_short_by (is_end b) bs (behind_short bs) in omega (arith, h)

firsts_by : (t : Bool) (b n : ℕ) (bs : List ℕ) → n ≤ suc (length bs) → drop n (b ∷ bs) ≡ cond t bs (behind 1 bs) → ((m : ℕ) → m ≤ length bs → drop m bs ≡ behind 1 bs → Firsts (slice_split is_end (take m bs)) (slice_split is_end bs))
    → is_end b ≡ t → Firsts (slice_split is_end (take n (b ∷ bs))) (cond t ([] ∷ slice_split is_end bs) (onto_first b (slice_split is_end bs)))
firsts_by true b zero bs w h more e = let long : suc (length bs) ≡ length bs = ap length h in absurd (omega (arith, long))
firsts_by true b (suc zero) bs w h more e = subst (λ (t : Bool). Firsts (cond t ([] ∷ [] ∷ []) (onto_first b ([] ∷ []))) ([] ∷ slice_split is_end bs)) (sym e) (some_parts bs)
firsts_by true b (suc (suc m)) bs w h more e =
    let long : length bs - suc m ≡ length bs = sym (length-drop (suc m) bs) ∙ ap length h in
    absurd (omega (arith, long, w))
firsts_by false b zero bs w h more e = let long : suc (length bs) ≡ length (behind 1 bs) = ap length h in absurd (omega (arith, long, behind_short bs))
firsts_by false b (suc m) bs w h more e =
    subst (λ (t : Bool). Firsts (cond t ([] ∷ slice_split is_end (take m bs)) (onto_first b (slice_split is_end (take m bs)))) (onto_first b (slice_split is_end bs))) (sym e)
    (firsts_onto b (slice_split is_end (take m bs)) (slice_split is_end bs) (more m (omega (arith, w)) h))

firsts : (bs : List ℕ) (n : ℕ) → n ≤ length bs → drop n bs ≡ behind 1 bs → Firsts (slice_split is_end (take n bs)) (slice_split is_end bs)
firsts [] zero w h = refl
firsts [] (suc n) w h = absurd (omega (arith, w))
firsts (b ∷ bs) n w h = firsts_by (is_end b) b n bs w h (firsts bs) refl

first_of : (xs ys : List (List ℕ)) → Firsts xs ys → slice_get (lines_of_parts xs) 0 ≡ slice_get (lines_of_parts ys) 0
first_of [] ys h = absurd h
first_of (x ∷ []) [] h = absurd h
first_of (x ∷ []) (y ∷ []) h = ap (λ (p : List ℕ). slice_get (lines_of_parts (p ∷ [])) 0) h
first_of (x ∷ []) (y ∷ z ∷ ys) h = absurd h
first_of (x ∷ w ∷ xs) [] h = absurd h
first_of (x ∷ w ∷ xs) (y ∷ []) h = absurd h
first_of (x ∷ w ∷ xs) (y ∷ z ∷ ys) h = ap (λ (p : List ℕ). slice_get (lines_of_parts (p ∷ [] ∷ [])) 0) h

-- the line between a start and the next
pub line_between : (bs : List ℕ) (k at to : ℕ) → at ≤ to → to ≤ length bs → drop at bs ≡ behind k bs → drop to bs ≡ behind (k + 1) bs → slice_get (lines (slice_range bs at to)) 0 ≡ slice_get (lines bs) k
line_between bs k at to low far here next =
    let rest = drop at bs in
    let n = to - at in
    let long : length rest ≡ length bs - at = length-drop at bs in
    let sum : at + n ≡ to = omega (arith, low) in
    let past : drop n rest ≡ behind 1 rest = drop-drop n at bs ∙ ap (λ (j : ℕ). drop j bs) sum ∙ next ∙ rw add-one (one_more k bs) ∙ ap (behind 1) (sym here) in
    first_of (slice_split is_end (take n rest)) (slice_split is_end rest) (firsts rest n (omega (arith, long, far)) past)
    ∙ ap (λ (xs : List ℕ). slice_get (lines xs) 0) here ∙ sym (line_behind k bs)

-- STARTS in their order
starts_push : (n s : ℕ) (bs ss : List ℕ) → StartsFrom n bs ss → s ≤ length bs → drop s bs ≡ behind (n + length ss) bs → StartsFrom n bs (ss ++ s ∷ [])
starts_push n s bs [] h w e = let same : n + 0 ≡ n = omega arith in (w, e ∙ ap (λ (k : ℕ). behind k bs) same, tt)
starts_push n s bs (x ∷ ss) h w e = let same : n + suc (length ss) ≡ suc n + length ss = omega arith in (h.0, h.1, starts_push (suc n) s bs ss h.2 w (e ∙ ap (λ (k : ℕ). behind k bs) same))

start_at : (n k s : ℕ) (bs ss : List ℕ) → StartsFrom n bs ss → k < length ss → s ≡ get_or ss k s → (s ≤ length bs) × (drop s bs ≡ behind (n + k) bs)
start_at n k s bs [] h w is = absurd (omega (arith, w))
start_at n zero s bs (x ∷ ss) h w is = let same : n ≡ n + 0 = omega arith in rw is (h.0, h.1 ∙ ap (λ (k : ℕ). behind k bs) same)
start_at n (suc k) s bs (x ∷ ss) h w is =
    let r : (s ≤ length bs) × (drop s bs ≡ behind (suc n + k) bs) = start_at (suc n) k s bs ss h.2 (omega (arith, w)) is in
    let same : suc n + k ≡ n + suc k = omega arith in
    (r.0, r.1 ∙ ap (λ (j : ℕ). behind j bs) same)

start_of : (k s : ℕ) (bs ss : List ℕ) → StartsFrom 0 bs ss → k < length ss → s ≡ get_or ss k s → (s ≤ length bs) × (drop s bs ≡ behind k bs)
start_of k s bs ss h w is =
    let r : (s ≤ length bs) × (drop s bs ≡ behind (0 + k) bs) = start_at 0 k s bs ss h w is in
    let same : 0 + k ≡ k = omega arith in
    (r.0, r.1 ∙ ap (λ (j : ℕ). behind j bs) same)

pub starts_first : (bs : List ℕ) → StartsTo 0 bs (0 ∷ [])
starts_first bs = ((omega arith, refl, tt), refl)

pub starts_end : (bs ss new : List ℕ) (at : ℕ) → at < length bs → get_or bs at 0 ≡ 10 → new ≡ ss ++ (at + 1) ∷ [] → StartsTo at bs ss → StartsTo (at + 1) bs new
starts_end bs ss new at w ten grown h =
    let here : drop (at + 1) bs ≡ behind (length ss) bs = ends_here bs (length ss) at w ten h.1 in
    let same : length ss ≡ 0 + length ss = omega arith in
    let long : length new ≡ length ss + 1 = ap length grown ∙ length-append ss ((at + 1) ∷ []) in (
      subst (StartsFrom 0 bs) (sym grown) (starts_push 0 (at + 1) bs ss h.0 (omega (arith, w)) (here ∙ ap (λ (k : ℕ). behind k bs) same)),
      ap (λ (k : ℕ). behind k bs) long ∙ ends_next bs (length ss) at here,
    )

pub starts_on : (bs ss : List ℕ) (at b : ℕ) → at < length bs → b ≡ get_or bs at b → b ≢ 10 → StartsTo at bs ss → StartsTo (at + 1) bs ss
starts_on bs ss at b w is other h = (h.0, goes_on bs (length ss) at w (ap is_end (first_get bs at b w is) ∙ ne_eqb b 10 other) h.1)

pub starts_all : (bs ss : List ℕ) (at : ℕ) → length bs ≤ at → StartsTo at bs ss → IsStarts bs ss
starts_all bs ss at past h = (h.0, h.1 ∙ ap (behind 1) (drop_all at bs past))

-- A LINE of a text
text_by : (b : Bool) (o : Option (List ℕ)) → b ≡ true → o ≡ cond b o None
text_by true o h = refl
text_by false o h = absurd (false≢true h)

no_text_by : (b : Bool) (o : Option (List ℕ)) → (b ≡ true → o ≡ None) → None ≡ cond b o None
no_text_by true o h = sym (h refl)
no_text_by false o h = refl

is_text_by : (b : Bool) (P : Type 0) → (b ≡ false → P) → (P → ⊥) → b ≡ true
is_text_by true P f never = refl
is_text_by false P f never = absurd (never (f refl))

-- there are starts in a text alone
starts_text : (bs ss : List ℕ) → HasStarts bs ss → 0 < length ss → is_utf8 bs ≡ true
starts_text bs ss h some = is_text_by (is_utf8 bs) (ss ≡ []) h.1 (λ e. let long : length ss ≡ 0 = ap length e in absurd (omega (arith, some, long)))

lines_none : (bs : List ℕ) (k : ℕ) → behind k bs ≡ [] → slice_get (lines bs) k ≡ None
lines_none bs k h = line_behind k bs ∙ ap (λ (xs : List ℕ). slice_get (lines xs) 0) h

pub line_past : (bs ss : List ℕ) (k : ℕ) → HasStarts bs ss → length ss ≤ k → None ≡ text_line bs (suc k)
line_past bs ss k h past = no_text_by (is_utf8 bs) (slice_get (lines bs) k) (λ t. lines_none bs k (none_past (length ss) k bs past (h.0 t).1))

-- THE PIECE from a start to the next one, or to the end
text_is : (bs ss : List ℕ) (k : ℕ) → HasStarts bs ss → k < length ss → is_utf8 bs ≡ true
text_is bs ss k h w = starts_text bs ss h (omega (arith, w))

pub piece_next : (bs ss : List ℕ) (k to : ℕ) → HasStarts bs ss → k + 1 < length ss → to ≡ get_or ss (k + 1) to → IsPiece bs (get_or ss k 0) to (slice_get (lines bs) k)
piece_next bs ss k to h w is =
    let t : is_utf8 bs ≡ true = text_is bs ss (k + 1) h w in
    let u : IsUtf8 bs = IsUtf8-from_is_utf8 bs t in
    let at = get_or ss k 0 in
    let a : (at ≤ length bs) × (drop at bs ≡ behind k bs) = start_of k at bs ss (h.0 t).0 (omega (arith, w)) (get_same ss k 0 (omega (arith, w))) in
    let b : (to ≤ length bs) × (drop to bs ≡ behind (k + 1) bs) = start_of (k + 1) to bs ss (h.0 t).0 w is in
    let next : drop to bs ≡ behind 1 (drop at bs) = b.1 ∙ rw add-one (one_more k bs) ∙ ap (behind 1) (sym a.1) in
    let short : length (drop to bs) ≤ length (drop at bs) = rw next (behind_short (drop at bs)) in
    let low : at ≤ to = omega (arith, a.0, b.0, short, length-drop at bs, length-drop to bs) in
    record {
      low = low;
      far = b.0;
      utf8 = IsUtf8-between bs at to u low (line_starts bs k at u a.0 a.1) (line_starts bs (k + 1) to u b.0 b.1);
      is = line_between bs k at to low b.0 a.1 b.1;
    }

pub piece_last : (bs ss : List ℕ) (k : ℕ) → HasStarts bs ss → k < length ss → length ss ≤ k + 1 → IsPiece bs (get_or ss k 0) (length bs) (slice_get (lines bs) k)
piece_last bs ss k h w past =
    let t : is_utf8 bs ≡ true = text_is bs ss k h w in
    let u : IsUtf8 bs = IsUtf8-from_is_utf8 bs t in
    let at = get_or ss k 0 in
    let to = length bs in
    let a : (at ≤ length bs) × (drop at bs ≡ behind k bs) = start_of k at bs ss (h.0 t).0 w (get_same ss k 0 w) in
    let far : to ≤ length bs = omega arith in
    let last : k + 1 ≡ length ss = omega (arith, w, past) in
    let next : drop to bs ≡ behind (k + 1) bs = drop_all to bs far ∙ sym (h.0 t).1 ∙ ap (λ (j : ℕ). behind j bs) (sym last) in
    record {
      low = a.0;
      far = far;
      utf8 = IsUtf8-between bs at to u a.0 (line_starts bs k at u a.0 a.1) (line_starts bs (k + 1) to u far next);
      is = line_between bs k at to a.0 far a.1 next;
    }

pub line_is : (bs ss : List ℕ) (k : ℕ) (r : Option (List ℕ)) → HasStarts bs ss → k < length ss → r ≡ slice_get (lines bs) k → r ≡ text_line bs (suc k)
line_is bs ss k r h w is = is ∙ text_by (is_utf8 bs) (slice_get (lines bs) k) (text_is bs ss k h w)

pub starts_of_text : (bs ss : List ℕ) → IsUtf8 bs → IsStarts bs ss → HasStarts bs ss
starts_of_text bs ss u h = (λ t. h, λ f. absurd (false≢true (sym f ∙ is_utf8-from_IsUtf8 bs u)))

pub no_starts : (bs : List ℕ) → (IsUtf8 bs → ⊥) → HasStarts bs []
no_starts bs never = (λ t. absurd (never (IsUtf8-from_is_utf8 bs t)), λ f. refl)
