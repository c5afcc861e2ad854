-- What stands before and behind a mark.
use Rattle.std.proofs.Common.{◌≡◌, ◌⊎◌, ℕ, ◌+◌, ◌<◌, List, [], ◌∷◌, length, Bool, true, false, suc, Some, None, refl, ap, arith, inl, inr, ◌==◌}
use Rattle.std.proofs.lemmas.Bool.Decides.{nat_tests}
use Rattle.std.specs.List.{position_or_len, after_first}
use Rattle.cli_words.specs.Values.{after_mark}
use Rattle.cli_words.specs.Parts.{value_behind}

pub two_cases : (b : Bool) → (b ≡ true) ⊎ (b ≡ false)
two_cases true = inl refl
two_cases false = inr refl

pub behind_none : (mark : ℕ) (text : List ℕ) → position_or_len (λ c. c == mark) text ≡ length text → after_mark mark text ≡ None
behind_none mark [] e = refl
behind_none mark (c ∷ cs) e = elim (two_cases (c == mark)) [
  | inl is ↦ let no = rw is at e in absurd (omega arith)
  | inr is ↦ let more = rw is at e in rw is (behind_none mark cs (omega arith))
]

pub behind_some : (mark : ℕ) (text : List ℕ) → position_or_len (λ c. c == mark) text < length text → after_mark mark text ≡ Some (after_first (λ c. c == mark) text)
behind_some mark [] h = absurd (omega arith)
behind_some mark (c ∷ cs) h = elim (two_cases (c == mark)) [
  | inl is ↦ rw is refl
  | inr is ↦
      let more = rw is at h in
      let next : 1 + position_or_len (λ c. c == mark) cs + 1 ≡ suc (position_or_len (λ c. c == mark) cs + 1) = omega arith in
      rw (is, next) (behind_some mark cs (omega arith))
]

pub whole_value : (letters : List ℕ) → (letters ≡ [] → ⊥) → ((rest : List ℕ) → letters ≡ 61 ∷ rest → ⊥) → Some letters ≡ value_behind letters
whole_value [] some none = absurd (some refl)
whole_value (c ∷ cs) some none = elim (two_cases (c == 61)) [
  | inl is ↦ let same : c ≡ 61 = grind (arith, nat_tests) in absurd (none cs (ap (λ x. x ∷ cs) same))
  | inr is ↦ rw is refl
]
