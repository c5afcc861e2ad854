-- A part stands in a text where its bytes stand in the text's.
use Rattle.std.proofs.Common.{ℕ, zero, suc, ◌+◌, ◌*◌, ◌/◌, ◌%◌, ◌<◌, ◌≤◌, ◌≡◌, ◌∙◌, Bool, true, false, List, [], ◌∷◌, ◌++◌, length, take, drop, Option, Some, None, refl, sym, ap, arith, mod-lt, length-drop, get_or}
use Rattle.std.proofs.lemmas.List.{take_more, take_all}
use Rattle.std.proofs.lemmas.Bool.{and_parts, and_from, false_from_ne_true}
use Rattle.std.proofs.lemmas.Grind.{common_steps}
use Rattle.std.specs.List.{starts_with}
use Rattle.std.specs.Prelude.{nat_eq, slice_index, if◌then◌else◌}
use Rattle.memchr.specs.Find.{OccursAt}
use Rattle.py_operands.specs.Search.{first_place, encoded}

-- BYTES
encoded_length : (t : List ℕ) → length (encoded t) ≡ 3 * length t
encoded_length [] = refl
encoded_length (c ∷ cs) = let e : length (encoded cs) ≡ 3 * length cs = encoded_length cs in omega arith

pub encoded_append : (t u : List ℕ) → encoded (t ++ u) ≡ encoded t ++ encoded u
encoded_append [] u = refl
encoded_append (c ∷ cs) u = ap (λ (l : List ℕ). (128 + c / 16384) ∷ (c / 128 % 128) ∷ (c % 128) ∷ l) (encoded_append cs u)

-- the next character's bytes, and the length, of what is encoded
pub encoded_more : (t : List ℕ) (i d : ℕ) → i < length t → encoded (take (i + 1) t) ≡ encoded (take i t) ++ encoded (get_or t i d ∷ [])
encoded_more t i d h = ap encoded (take_more t i d h) ∙ encoded_append (take i t) (get_or t i d ∷ [])

pub encoded_full : (t b : List ℕ) (i : ℕ) → length t ≤ i → b ≡ encoded (take i t) → length b ≡ 3 * length t
encoded_full t b i h e = ap length (e ∙ ap encoded (take_all i t h)) ∙ encoded_length t

pub encoded_drop : (t : List ℕ) (i : ℕ) → drop (3 * i) (encoded t) ≡ encoded (drop i t)
encoded_drop t zero = refl
encoded_drop [] (suc i) = let e : 3 * suc i ≡ suc (suc (suc (3 * i))) = omega arith in rw e refl
encoded_drop (c ∷ cs) (suc i) = let e : 3 * suc i ≡ suc (suc (suc (3 * i))) = omega arith in rw e (encoded_drop cs i)

-- the byte so far behind a character is that of the text from there
shifted : (t : List ℕ) (i j : ℕ) → i ≤ length t → slice_index (encoded t) (3 * i + j) ≡ slice_index (encoded (drop i t)) j
shifted t zero j h = let e : 3 * 0 + j ≡ j = omega arith in rw e refl
shifted [] (suc i) j h = absurd (omega arith)
shifted (c ∷ cs) (suc i) j h =
    let e : 3 * suc i + j ≡ suc (suc (suc (3 * i + j))) = omega arith in
    rw e (shifted cs i j (omega arith))

-- a byte of 128 or more begins a character
begins : (t : List ℕ) (k : ℕ) → k < length (encoded t) → 128 ≤ slice_index (encoded t) k → k ≡ 3 * (k / 3)
begins [] k h g = absurd (omega arith)
begins (c ∷ cs) zero h g = refl
begins (c ∷ cs) (suc zero) h g = let l : c / 128 % 128 < 128 = mod-lt (c / 128) (omega arith) in absurd (omega arith)
begins (c ∷ cs) (suc (suc zero)) h g = let l : c % 128 < 128 = mod-lt c (omega arith) in absurd (omega arith)
begins (c ∷ cs) (suc (suc (suc k))) h g = let e : k ≡ 3 * (k / 3) = begins cs k (omega arith) g in omega arith

same_char : (c d : ℕ) → 128 + d / 16384 ≡ 128 + c / 16384 → d / 128 % 128 ≡ c / 128 % 128 → d % 128 ≡ c % 128 → d ≡ c
same_char c d a b e = omega arith

nat_same : (c : ℕ) → nat_eq c c ≡ true
nat_same c = grind (arith, common_steps)

nat_from : (c d : ℕ) → nat_eq c d ≡ true → c ≡ d
nat_from c d h = grind (arith, common_steps)

-- A PART AT THE HEAD of a text
from_reads : (p t : List ℕ) → length (encoded p) ≤ length (encoded t)
    → ((j : ℕ) → j < length (encoded p) → slice_index (encoded t) j ≡ slice_index (encoded p) j) → starts_with nat_eq t p ≡ true
from_reads [] t h r = refl
from_reads (c ∷ cs) [] h r = absurd (omega arith)
from_reads (c ∷ cs) (d ∷ ds) h r =
    let e : d ≡ c = same_char c d (r 0 (omega arith)) (r 1 (omega arith)) (r 2 (omega arith)) in
    and_from (nat_eq c d) (starts_with nat_eq ds cs) (rw e (nat_same c)) (from_reads cs ds (omega arith) (λ j l. r (suc (suc (suc j))) (omega arith)))

to_fit : (p t : List ℕ) → starts_with nat_eq t p ≡ true → length (encoded p) ≤ length (encoded t)
to_fit [] t h = omega arith
to_fit (c ∷ cs) [] h = absurd (cc)
to_fit (c ∷ cs) (d ∷ ds) h =
    let q : (nat_eq c d ≡ true) × (starts_with nat_eq ds cs ≡ true) = and_parts (nat_eq c d) (starts_with nat_eq ds cs) h in
    let f : length (encoded cs) ≤ length (encoded ds) = to_fit cs ds q.1 in
    omega arith

to_reads : (p t : List ℕ) → starts_with nat_eq t p ≡ true → (j : ℕ) → j < length (encoded p) → slice_index (encoded t) j ≡ slice_index (encoded p) j
to_reads [] t h j l = absurd (omega arith)
to_reads (c ∷ cs) [] h j l = absurd (cc)
to_reads (c ∷ cs) (d ∷ ds) h zero l = let q = and_parts (nat_eq c d) (starts_with nat_eq ds cs) h in rw (nat_from c d q.0) refl
to_reads (c ∷ cs) (d ∷ ds) h (suc zero) l = let q = and_parts (nat_eq c d) (starts_with nat_eq ds cs) h in rw (nat_from c d q.0) refl
to_reads (c ∷ cs) (d ∷ ds) h (suc (suc zero)) l = let q = and_parts (nat_eq c d) (starts_with nat_eq ds cs) h in rw (nat_from c d q.0) refl
to_reads (c ∷ cs) (d ∷ ds) h (suc (suc (suc j))) l =
    let q = and_parts (nat_eq c d) (starts_with nat_eq ds cs) h in
    to_reads cs ds q.1 j (omega arith)

-- A PART AT A PLACE
pub stands : (p t : List ℕ) (i : ℕ) → i ≤ length t → OccursAt (encoded t) (encoded p) (3 * i) → starts_with nat_eq (drop i t) p ≡ true
stands p t i h o =
    let a : length (encoded t) ≡ 3 * length t = encoded_length t in
    let b : length (encoded (drop i t)) ≡ 3 * length (drop i t) = encoded_length (drop i t) in
    let d : length (drop i t) + i ≡ length t = omega (arith, length-drop i t) in
    from_reads p (drop i t) (omega (arith, o.fits)) (λ j l. sym (shifted t i j h) ∙ o.reads j l)

pub occurs : (p t : List ℕ) (i : ℕ) → i ≤ length t → starts_with nat_eq (drop i t) p ≡ true → OccursAt (encoded t) (encoded p) (3 * i)
occurs p t i h s =
    let a : length (encoded t) ≡ 3 * length t = encoded_length t in
    let b : length (encoded (drop i t)) ≡ 3 * length (drop i t) = encoded_length (drop i t) in
    let d : length (drop i t) + i ≡ length t = omega (arith, length-drop i t) in
    record {
      fits = omega (arith, to_fit p (drop i t) s);
      reads = λ j l. shifted t i j h ∙ to_reads p (drop i t) s j l;
    }

-- THE FIRST PLACE
here : (b : Bool) (x y : Option ℕ) → b ≡ true → (if b then x else y) ≡ x
here true x y e = refl
here false x y e = absurd (cc)

there : (b : Bool) (x y : Option ℕ) → b ≡ false → (if b then x else y) ≡ y
there true x y e = absurd (cc)
there false x y e = refl

pub first_at : (p t : List ℕ) (i n : ℕ) → i ≤ length t → starts_with nat_eq (drop i t) p ≡ true
    → ((j : ℕ) → j < i → starts_with nat_eq (drop j t) p ≡ false) → first_place p n t ≡ Some (n + i)
first_at p [] zero n h s none = here (starts_with nat_eq [] p) (Some n) None s ∙ ap Some (omega arith)
first_at p [] (suc i) n h s none = absurd (omega arith)
first_at p (c ∷ cs) zero n h s none = here (starts_with nat_eq (c ∷ cs) p) (Some n) (first_place p (suc n) cs) s ∙ ap Some (omega arith)
first_at p (c ∷ cs) (suc i) n h s none =
    there (starts_with nat_eq (c ∷ cs) p) (Some n) (first_place p (suc n) cs) (none 0 (omega arith))
    ∙ (first_at p cs i (suc n) (omega arith) s (λ j l. none (suc j) (omega arith)) ∙ ap Some (omega arith))

pub none_at : (p t : List ℕ) (n : ℕ) → ((j : ℕ) → j ≤ length t → starts_with nat_eq (drop j t) p ≡ false) → first_place p n t ≡ None
none_at p [] n none = there (starts_with nat_eq [] p) (Some n) None (none 0 (omega arith))
none_at p (c ∷ cs) n none =
    there (starts_with nat_eq (c ∷ cs) p) (Some n) (first_place p (suc n) cs) (none 0 (omega arith))
    ∙ none_at p cs (suc n) (λ j l. none (suc j) (omega arith))

-- what is found among the bytes is found among the characters: a part without characters at the head of the text
aligned : (p t : List ℕ) (k : ℕ) → ((j : ℕ) → j < k → OccursAt (encoded t) (encoded p) j → ⊥) → OccursAt (encoded t) (encoded p) k → k ≡ 3 * (k / 3)
aligned [] t zero none o = refl
aligned [] t (suc k) none o = absurd (none 0 (omega arith) (occurs [] t 0 (omega arith) refl))
aligned (c ∷ cs) t k none o =
    let first : slice_index (encoded t) (k + 0) ≡ 128 + c / 16384 = o.reads 0 (omega arith) in
    let e : k + 0 ≡ k = omega arith in
    let high : slice_index (encoded t) k ≡ 128 + c / 16384 = rw e at first in
    begins t k (omega (arith, o.fits)) (omega arith)

pub found : (p t : List ℕ) (k : ℕ) → ((j : ℕ) → j < k → OccursAt (encoded t) (encoded p) j → ⊥) → OccursAt (encoded t) (encoded p) k
    → Some (k / 3) ≡ first_place p 0 t
found p t k none o =
    let e : k ≡ 3 * (k / 3) = aligned p t k none o in
    let a : length (encoded t) ≡ 3 * length t = encoded_length t in
    let h : k / 3 ≤ length t = omega (arith, o.fits) in
    let at : OccursAt (encoded t) (encoded p) (3 * (k / 3)) = rw e at o in
    let z : 0 + k / 3 ≡ k / 3 = omega arith in
    sym
    (first_at p t (k / 3) 0 h (stands p t (k / 3) h at)
    (λ j l. false_from_ne_true (starts_with nat_eq (drop j t) p) (λ s. none (3 * j) (omega arith) (occurs p t j (omega arith) s)))
    ∙ ap Some z)

pub missed : (p t : List ℕ) → ((j : ℕ) → j < length (encoded t) + 1 → OccursAt (encoded t) (encoded p) j → ⊥) → None ≡ first_place p 0 t
missed p t none =
    let a : length (encoded t) ≡ 3 * length t = encoded_length t in
    sym (none_at p t 0 (λ j l. false_from_ne_true (starts_with nat_eq (drop j t) p) (λ s. none (3 * j) (omega arith) (occurs p t j l s))))
