-- Blanks at the ends of texts.
use Rattle.std.proofs.Common.{ℕ, Bool, true, false, List, [], ◌∷◌, ◌++◌, ◌≡◌, ◌∙◌, refl, sym, ap, arith, length, reverse}
use Rattle.std.proofs.lemmas.List.{reverse-append, reverse-reverse}
use Rattle.std.specs.Prelude.{if◌then◌else◌}
use Rattle.text_methods.specs.Characters.{is_blank, from_word, to_word}

by_blank : (b : Bool) (x y : List ℕ) → b ≡ true → (if b then x else y) ≡ x
by_blank true x y e = refl
by_blank false x y e = absurd (cc)

by_char : (b : Bool) (x y : List ℕ) → b ≡ false → (if b then x else y) ≡ y
by_char true x y e = absurd (cc)
by_char false x y e = refl

pub from_turn : (rest behind : List ℕ) (c : ℕ) → rest ≡ c ∷ behind → is_blank c ≡ true → from_word rest ≡ from_word behind
from_turn rest behind c e s = ap from_word e ∙ by_blank (is_blank c) (from_word behind) (c ∷ behind) s

pub from_stop : (rest behind : List ℕ) (c : ℕ) → rest ≡ c ∷ behind → is_blank c ≡ false → from_word rest ≡ rest
from_stop rest behind c e s = ap from_word e ∙ (by_char (is_blank c) (from_word behind) (c ∷ behind) s ∙ sym e)

pub from_none : (rest : List ℕ) → length rest ≡ 0 → from_word rest ≡ rest
from_none [] e = refl
from_none (c ∷ cs) e = absurd (omega arith)

pub to_turn : (rest before : List ℕ) (c : ℕ) → rest ≡ before ++ c ∷ [] → is_blank c ≡ true → to_word rest ≡ to_word before
to_turn rest before c e s =
    let r : reverse rest ≡ c ∷ reverse before = ap reverse e ∙ reverse-append before (c ∷ []) in
    ap reverse (from_turn (reverse rest) (reverse before) c r s)

pub to_stop : (rest before : List ℕ) (c : ℕ) → rest ≡ before ++ c ∷ [] → is_blank c ≡ false → to_word rest ≡ rest
to_stop rest before c e s =
    let r : reverse rest ≡ c ∷ reverse before = ap reverse e ∙ reverse-append before (c ∷ []) in
    ap reverse (from_stop (reverse rest) (reverse before) c r s) ∙ reverse-reverse rest

pub to_none : (rest : List ℕ) → length rest ≡ 0 → to_word rest ≡ rest
to_none [] e = refl
to_none (c ∷ cs) e = absurd (omega arith)
