-- The text of a value that is cut off.
use Rattle.std.proofs.Common.{◌≡◌, ◌≤◌, ◌∙◌, ℕ, List, ◌++◌, Bool, true, false, length, map, take, codes, nat_lt, sym, ap, arith}
use Rattle.std.proofs.lemmas.List.{length-map, take-map, take-take, take_all}
use Rattle.std.proofs.lemmas.Grind.{common_steps}
use Rattle.py_repr.specs.Symbols.{Symbol, char_of}
use Rattle.py_world.specs.Explained.{most_shown, left_shown, shortened}

short_of : (b : Bool) (n : ℕ) → b ≡ nat_lt most_shown n → b ≡ false → n ≤ most_shown
short_of b n is fails = grind (arith, common_steps)

-- one that is longer than what is shown
pub cut : (xs : List Symbol) (front text out : List ℕ) (b : Bool) → text ≡ map char_of (take most_shown xs) → b ≡ nat_lt most_shown (length xs) → b ≡ true → front ≡ take left_shown text → out ≡ front ++ codes "..."
    → out ≡ shortened (map char_of xs)
cut xs front text out b is test holds first behind =
    let long : nat_lt most_shown (length (map char_of xs)) ≡ true = ap (λ (n : ℕ). nat_lt most_shown n) (length-map xs char_of) ∙ sym test ∙ holds in
    let same : front ≡ take left_shown (map char_of xs) = first ∙ ap (λ (t : List ℕ). take left_shown t) (is ∙ sym (take-map char_of most_shown xs)) ∙ take-take left_shown most_shown (map char_of xs) (omega arith) in
    rw long (behind ∙ ap (λ (t : List ℕ). t ++ codes "...") same)

-- one that is not
pub whole : (xs : List Symbol) (text : List ℕ) (b : Bool) → text ≡ map char_of (take most_shown xs) → b ≡ nat_lt most_shown (length xs) → b ≡ false → text ≡ shortened (map char_of xs)
whole xs text b is test fails =
    let short : nat_lt most_shown (length (map char_of xs)) ≡ false = ap (λ (n : ℕ). nat_lt most_shown n) (length-map xs char_of) ∙ sym test ∙ fails in
    rw short (is ∙ ap (map char_of) (take_all most_shown xs (short_of b (length xs) test fails)))
