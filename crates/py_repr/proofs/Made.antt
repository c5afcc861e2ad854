-- What a text that is made up to a length has.
use Rattle.std.proofs.Common.{ℕ, zero, suc, ◌+◌, ◌<◌, ◌≡◌, ◌∙◌, ap, Bool, true, false, ◌||◌, List, [], ◌∷◌, ◌++◌, length, map, take, nat_lt, refl, arith, append_assoc, append-nil, length-append}
use Rattle.std.specs.List.{fold, list_any}
use Rattle.std.proofs.lemmas.Grind.{common_steps}
use Rattle.py_repr.specs.Adding.{add, start_showing, shown_of}
use Rattle.py_repr.specs.Showing.{TextBuffer}
use Rattle.py_repr.specs.Symbols.{Symbol, Char, Deep, char_of, is_deep, shown}
use Rattle.py_repr.proofs.Making.{cut_stays}

abbrev pub showing : List ℕ → ℕ → Bool → Bool → TextBuffer
showing out most cut deep = record { out = out; most = most; cut = cut; deep = deep }

-- a symbol where there is room, and where there is none
pub add_room : (out : List ℕ) (most : ℕ) (deep : Bool) (x : Symbol) → length out < most
    → add (showing out most false deep) x ≡ showing (out ++ char_of x ∷ []) most false (deep || is_deep x)
add_room out most true (Char c) h = grind (arith, common_steps)
add_room out most false (Char c) h = grind (arith, common_steps)
add_room out most true Deep h = grind (arith, common_steps)
add_room out most false Deep h = grind (arith, common_steps)

pub add_full : (out : List ℕ) (most : ℕ) (deep : Bool) (x : Symbol) → length out ≡ most
    → add (showing out most false deep) x ≡ showing out most true deep
add_full out most deep (Char c) h = grind (arith, common_steps)
add_full out most deep Deep h = grind (arith, common_steps)

or_assoc : (a b c : Bool) → ((a || b) || c) ≡ (a || (b || c))
or_assoc true b c = refl
or_assoc false b c = refl

or_false : (a : Bool) → (a || false) ≡ a
or_false true = refl
or_false false = refl

none_lt : (n : ℕ) → nat_lt n 0 ≡ false
none_lt n = grind (arith, common_steps)

zero_lt : (n : ℕ) → nat_lt 0 (suc n) ≡ true
zero_lt n = grind (arith, common_steps)

suc_lt : (n m : ℕ) → nat_lt (suc n) (suc m) ≡ nat_lt n m
suc_lt n m = grind (arith, common_steps)

pub filled : (xs : List Symbol) (n most : ℕ) (out : List ℕ) (deep : Bool) → length out + n ≡ most
    → shown_of (fold add (showing out most false deep) xs)
    ≡ record { text = out ++ map char_of (take n xs); cut = nat_lt n (length xs); deep = deep || list_any is_deep (take n xs) }
filled [] zero most out deep h = simp (append-nil, or_false)
filled [] (suc n) most out deep h = simp (append-nil, or_false, none_lt)
filled (x ∷ xs) zero most out deep h =
    ap (λ (s : TextBuffer). shown_of (fold add s xs)) (add_full out most deep x (omega arith))
    ∙ (ap (λ (s : TextBuffer). shown_of s) (cut_stays (showing out most true deep) xs refl) ∙ simp (append-nil, or_false, zero_lt))
filled (x ∷ xs) (suc n) most out deep h =
    ap (λ (s : TextBuffer). shown_of (fold add s xs)) (add_room out most deep x (omega arith))
    ∙ (filled xs n most (out ++ char_of x ∷ []) (deep || is_deep x) (simp length-append (omega arith)) ∙ simp (append_assoc, or_assoc, suc_lt))

pub made : (most : ℕ) (xs : List Symbol) → shown_of (fold add (start_showing most) xs) ≡ shown most xs
made most xs = filled xs most most [] false (omega arith)
