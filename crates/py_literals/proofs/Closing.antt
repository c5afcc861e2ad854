-- A literal's body, item by item.
use Rattle.std.proofs.Common.{◌≡◌, ℕ, ◌+◌, ◌-◌, ◌<◌, ◌≤◌, Bool, true, false, not, List, [], ◌∷◌, None, Some, length, drop, refl, sym, ap, ◌∙◌, arith, zero, suc, length-drop}
use Rattle.std.specs.Prelude.{◌&&◌, if◌then◌else◌}
use Rattle.std.proofs.lemmas.List.{drop-drop}
use Rattle.std.proofs.Math.ListN.{drop_of_length-le}
use Rattle.py_literals.specs.Chars.{begins_line_end}
use Rattle.py_literals.specs.Literals.{closes, item_len, closing_from}

-- the rest of an item is passed over
closing_from-skip : (is_long : Bool) (quote at skip : ℕ) (xs : List ℕ) → closing_from is_long quote at skip xs ≡ closing_from is_long quote (at + skip) 0 (drop skip xs)
unfolding closing_from
closing_from-skip is_long quote at zero [] = refl
closing_from-skip is_long quote at (suc k) [] = refl
closing_from-skip is_long quote at zero (c ∷ cs) = ap (λ (n : ℕ). closing_from is_long quote n 0 (c ∷ cs)) (omega arith)
closing_from-skip is_long quote at (suc k) (c ∷ cs) = closing_from-skip is_long quote (at + 1) k cs ∙ ap (λ (n : ℕ). closing_from is_long quote n 0 (drop k cs)) (omega arith)

choice : {A : Type 0} (b d : Bool) (x y z : A) → b ≡ false → d ≡ false → (if b then x else (if d then y else z)) ≡ z
choice b d x y z p q = rw (p, q) refl

pub past : (n : ℕ) (c : ℕ) (cs : List ℕ) → 1 ≤ n → drop (n - 1) cs ≡ drop n (c ∷ cs)
past zero c cs low = absurd (omega arith)
past (suc n) c cs low = ap (λ (k : ℕ). drop k cs) (omega arith)

item_passed : (is_long : Bool) (quote at : ℕ) (xs : List ℕ) → 0 < length xs → closes is_long quote xs ≡ false → (not is_long && begins_line_end xs) ≡ false → 1 ≤ item_len xs → closing_from is_long quote at 0 xs ≡ closing_from is_long quote (at + item_len xs) 0 (drop (item_len xs) xs)
unfolding closing_from
item_passed is_long quote at [] some apart on low = absurd (omega arith)
item_passed is_long quote at (c ∷ cs) some apart on low =
    choice (closes is_long quote (c ∷ cs)) (not is_long && begins_line_end (c ∷ cs)) (Some at) None (closing_from is_long quote (at + 1) (item_len (c ∷ cs) - 1) cs) apart on
    ∙ closing_from-skip is_long quote (at + 1) (item_len (c ∷ cs) - 1) cs
    ∙ ap (λ (n : ℕ). closing_from is_long quote n 0 (drop (item_len (c ∷ cs) - 1) cs)) (omega arith)
    ∙ ap (closing_from is_long quote (at + item_len (c ∷ cs)) 0) (past (item_len (c ∷ cs)) c cs low)

closed : (is_long : Bool) (quote at : ℕ) (xs : List ℕ) → 0 < length xs → closes is_long quote xs ≡ true → closing_from is_long quote at 0 xs ≡ Some at
unfolding closing_from
closed is_long quote at [] some is = absurd (omega arith)
closed is_long quote at (c ∷ cs) some is = ap (λ (b : Bool). if b then Some at else (if not is_long && begins_line_end (c ∷ cs) then None else closing_from is_long quote (at + 1) (item_len (c ∷ cs) - 1) cs)) is

cut_off : (is_long : Bool) (quote at : ℕ) (xs : List ℕ) → 0 < length xs → closes is_long quote xs ≡ false → (not is_long && begins_line_end xs) ≡ true → closing_from is_long quote at 0 xs ≡ None
unfolding closing_from
cut_off is_long quote at [] some apart ends = absurd (omega arith)
cut_off is_long quote at (c ∷ cs) some apart ends = ap (λ (b : Bool). if b then Some at else (if not is_long && begins_line_end (c ∷ cs) then None else closing_from is_long quote (at + 1) (item_len (c ∷ cs) - 1) cs)) apart ∙ ap (λ (b : Bool). if b then None else closing_from is_long quote (at + 1) (item_len (c ∷ cs) - 1) cs) ends

pub left : (at : ℕ) (text : List ℕ) → at < length text → 0 < length (drop at text)
left at text within = omega (arith, length-drop at text)

-- THE STEPS OF THE LOOP, at the place `at` of a text
pub closes_at : (is_long : Bool) (quote at : ℕ) (text : List ℕ) → at < length text → closes is_long quote (drop at text) ≡ true → closing_from is_long quote at 0 (drop at text) ≡ Some at
closes_at is_long quote at text within is = closed is_long quote at (drop at text) (left at text within) is

pub ends_at : (is_long : Bool) (quote at : ℕ) (text : List ℕ) → at < length text → closes is_long quote (drop at text) ≡ false → (not is_long && begins_line_end (drop at text)) ≡ true → closing_from is_long quote at 0 (drop at text) ≡ None
ends_at is_long quote at text within apart ends = cut_off is_long quote at (drop at text) (left at text within) apart ends

pub goes_on_at : (is_long : Bool) (quote at n : ℕ) (text : List ℕ) → at < length text → closes is_long quote (drop at text) ≡ false → (not is_long && begins_line_end (drop at text)) ≡ false → 1 ≤ n → n ≡ item_len (drop at text) → closing_from is_long quote at 0 (drop at text) ≡ closing_from is_long quote (at + n) 0 (drop (at + n) text)
goes_on_at is_long quote at n text within apart on low is =
    item_passed is_long quote at (drop at text) (left at text within) apart on (omega arith)
    ∙ ap (λ (k : ℕ). closing_from is_long quote (at + k) 0 (drop k (drop at text))) (sym is)
    ∙ ap (closing_from is_long quote (at + n) 0) (drop-drop n at text)

pub runs_out_at : (is_long : Bool) (quote at : ℕ) (text : List ℕ) → length text ≤ at → closing_from is_long quote at 0 (drop at text) ≡ None
unfolding closing_from
runs_out_at is_long quote at text out = ap (closing_from is_long quote at 0) (drop_of_length-le text out)
