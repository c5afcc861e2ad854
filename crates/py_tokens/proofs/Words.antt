-- Words of equal length.
use Rattle.std.proofs.Common.{◌≡◌, ℕ, Bool, true, false, List, [], ◌∷◌, length, refl, ap, arith, ◌<◌, drop, length-drop, ◌≤◌, Some}
use Rattle.std.specs.Prelude.{bytes_eq, ◌==◌, ◌&&◌, if◌then◌else◌, nat_lt, option_map, IfSome}
use Rattle.std.specs.List.{list_all}
use Rattle.std.proofs.lemmas.Bool.{and_parts, ltb-true}
use Rattle.py_tokens.specs.declared.op.Op.{Op}
use Rattle.py_tokens.specs.Words.{begins, first_entry, sized, operators, operator_at}

-- a text that is as long as a word is the word where it begins with it
pub begins_whole : (word text : List ℕ) → length text ≡ length word → begins word text ≡ bytes_eq text word
begins_whole [] [] e = refl
begins_whole [] (c ∷ cs) e = absurd (omega (arith, e))
begins_whole (w ∷ ws) [] e = absurd (omega (arith, e))
begins_whole (w ∷ ws) (c ∷ cs) e = ap (λ (b : Bool). (c == w) && b) (begins_whole ws cs (omega (arith, e)))

short : (ws rest : List ℕ) → 0 < length ws → length rest < 1 → begins ws rest ≡ false
short [] rest some none = absurd (omega arith)
short (w ∷ ws) [] some none = refl
short (w ∷ ws) (c ∷ cs) some none = absurd (omega arith)

-- a text that ends within a word does not begin with it
pub ends_short : (word rest : List ℕ) (i : ℕ) → i < length word → length rest < 1 → begins (drop i word) rest ≡ false
ends_short word rest i within none = short (drop i word) rest (omega (arith, length-drop i word)) none

abbrev has_word : List ℕ × Op → Bool
has_word entry = nat_lt 0 (length entry.0)

-- no word of a table is empty, so none that is found is
pub found_some : (table : List (List ℕ × Op)) (text : List ℕ) → list_all has_word table ≡ true → IfSome (option_map sized (first_entry table text)) (λ (entry : ℕ × Op). 1 ≤ entry.0)
found_some [] text some = tt
found_some (entry ∷ entries) text some =
    let both : (nat_lt 0 (length entry.0) ≡ true) × (list_all has_word entries ≡ true) = and_parts (nat_lt 0 (length entry.0)) (list_all has_word entries) some in
    let long : 0 < length entry.0 = ltb-true 0 (length entry.0) both.0 in
    elim (begins entry.0 text) as (λ (b : Bool). IfSome (option_map sized (if b then Some entry else first_entry entries text)) (λ (e : ℕ × Op). 1 ≤ e.0)) [
      | true ↦ omega arith
      | false ↦ found_some entries text both.1
    ]

pub found_operator : (text : List ℕ) → IfSome (option_map sized (operator_at text)) (λ (entry : ℕ × Op). 1 ≤ entry.0)
unfolding operator_at operators
found_operator text = found_some operators text refl
