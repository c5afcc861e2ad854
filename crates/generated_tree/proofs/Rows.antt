-- The rows of the first test of a file.
use Rattle.std.proofs.Common.{◌≡◌, ℕ, zero, suc, ◌+◌, ◌<◌, ◌≤◌, length, refl, sym, ap, ◌∙◌, arith}
use Rattle.std.specs.Fmt.{digits}
use Rattle.std.specs.Prelude.{codes}
use Rattle.generated_tree.specs.Generated.{row_list}

row_texts : (codes "0" ≡ row_list 1) × (codes "0, 1" ≡ row_list 2) × (codes "0, 1, 2" ≡ row_list 3) × (codes "0, 1, 2, 3" ≡ row_list 4) × (codes "0, 1, 2, 3, 4" ≡ row_list 5)
unfolding digits
row_texts = (refl, refl, refl, refl, refl)

pub one_row : (n : ℕ) → n ≡ 1 → codes "0" ≡ row_list n
one_row n e = row_texts.0 ∙ ap row_list (sym e)

pub two_rows : (n : ℕ) → n ≡ 2 → codes "0, 1" ≡ row_list n
two_rows n e = row_texts.1 ∙ ap row_list (sym e)

pub three_rows : (n : ℕ) → n ≡ 3 → codes "0, 1, 2" ≡ row_list n
three_rows n e = row_texts.2 ∙ ap row_list (sym e)

pub four_rows : (n : ℕ) → n ≡ 4 → codes "0, 1, 2, 3" ≡ row_list n
four_rows n e = row_texts.3 ∙ ap row_list (sym e)

pub five_rows : (n : ℕ) → n ≡ 5 → codes "0, 1, 2, 3, 4" ≡ row_list n
five_rows n e = row_texts.4 ∙ ap row_list (sym e)

pub short_rows : (n : ℕ) → n < 5 → length (row_list (1 + n)) ≤ 13
short_rows zero lt = (let e = ap length row_texts.0 in omega (arith, e))
short_rows (suc zero) lt = (let e = ap length row_texts.1 in omega (arith, e))
short_rows (suc (suc zero)) lt = (let e = ap length row_texts.2 in omega (arith, e))
short_rows (suc (suc (suc zero))) lt = (let e = ap length row_texts.3 in omega (arith, e))
short_rows (suc (suc (suc (suc zero)))) lt = (let e = ap length row_texts.4 in omega (arith, e))
short_rows (suc (suc (suc (suc (suc n))))) lt = absurd (omega (arith, lt))
