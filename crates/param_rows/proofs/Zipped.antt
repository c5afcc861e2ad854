-- Pairs of two lists, one more and all.
use Rattle.std.proofs.Common.{◌≡◌, ℕ, ◌+◌, ◌<◌, ◌≤◌, List, [], ◌∷◌, ◌++◌, length, suc, zero, min, refl, ap, sym, arith, get_or, take, add-one}
use Rattle.std.specs.List.{zip}
use Rattle.std.proofs.lemmas.List.{take_all}

zip_suc : {V : Type 0} (xs : List ℕ) (ys : List V) (i : ℕ) (v : V) → i < length xs → i < length ys → v ≡ get_or ys i v → take (suc i) (zip xs ys) ≡ take i (zip xs ys) ++ (get_or xs i 0, v) ∷ []
zip_suc [] ys i v l m at = absurd (omega arith)
zip_suc (x ∷ xs) [] i v l m at = absurd (omega arith)
zip_suc (x ∷ xs) (y ∷ ys) zero v l m at = ap (λ w. (x, w) ∷ []) (sym at)
zip_suc (x ∷ xs) (y ∷ ys) (suc i) v l m at = ap (λ ps. (x, y) ∷ ps) (zip_suc xs ys i v (omega arith) (omega arith) at)

pub zip_more : {V : Type 0} (xs : List ℕ) (ys : List V) (i : ℕ) (v : V) → i < length xs → i < length ys → v ≡ get_or ys i v → take (i + 1) (zip xs ys) ≡ take i (zip xs ys) ++ (get_or xs i 0, v) ∷ []
zip_more xs ys i v l m at = rw add-one (zip_suc xs ys i v l m at)

length-zip-le : {V : Type 0} (xs : List ℕ) (ys : List V) → length (zip xs ys) ≤ min (length xs) (length ys)
length-zip-le [] ys = omega arith
length-zip-le (x ∷ xs) [] = omega arith
length-zip-le (x ∷ xs) (y ∷ ys) = omega (arith, length-zip-le xs ys)

pub zip_all : {V : Type 0} (xs : List ℕ) (ys : List V) (n : ℕ) → min (length xs) (length ys) ≤ n → take n (zip xs ys) ≡ zip xs ys
zip_all xs ys n le = take_all n (zip xs ys) (omega (arith, length-zip-le xs ys))
