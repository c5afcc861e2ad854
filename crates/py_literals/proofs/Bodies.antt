-- What a literal's body stands for, item by item.
use Rattle.std.proofs.Common.{◌≡◌, ℕ, ◌+◌, ◌-◌, ◌<◌, ◌≤◌, Bool, List, [], ◌∷◌, ◌++◌, Result, Ok, Err, length, drop, refl, sym, ap, ◌∙◌, arith, zero, suc, append_assoc}
use Rattle.std.specs.Option.{option_to_list}
use Rattle.std.proofs.lemmas.List.{drop-drop, append-nil}
use Rattle.std.proofs.Math.ListN.{drop_of_length-le}
use Rattle.py_source.specs.declared.fault.LexKind.{LexKind}
use Rattle.py_literals.specs.declared.escape.Item.{Item}
use Rattle.py_literals.specs.declared.literal.Miss.{Miss}
use Rattle.py_literals.specs.Literals.{item_at, text_from, with_item, put_before}
use Rattle.py_literals.proofs.Closing.{left, past}

-- the rest of an item is passed over
text_from-skip : (is_raw : Bool) (at skip : ℕ) (xs : List ℕ) → text_from is_raw at skip xs ≡ text_from is_raw (at + skip) 0 (drop skip xs)
unfolding text_from
text_from-skip is_raw at zero [] = refl
text_from-skip is_raw at (suc k) [] = refl
text_from-skip is_raw at zero (c ∷ cs) = ap (λ (n : ℕ). text_from is_raw n 0 (c ∷ cs)) (omega arith)
text_from-skip is_raw at (suc k) (c ∷ cs) = text_from-skip is_raw (at + 1) k cs ∙ ap (λ (n : ℕ). text_from is_raw n 0 (drop k cs)) (omega arith)

put_before-put_before : (front text : List ℕ) (rest : Result (List ℕ) Miss) → put_before front (put_before text rest) ≡ put_before (front ++ text) rest
put_before-put_before front text (Ok more) = ap (λ (xs : List ℕ). Ok xs) (sym (append_assoc front text more))
put_before-put_before front text (Err miss) = refl

item_passed : (is_raw : Bool) (at : ℕ) (item : Item) (xs : List ℕ) → 0 < length xs → Ok item ≡ item_at is_raw xs → 1 ≤ item.len → text_from is_raw at 0 xs ≡ put_before (option_to_list item.stands_for) (text_from is_raw (at + item.len) 0 (drop item.len xs))
unfolding text_from
item_passed is_raw at item [] some is low = absurd (omega arith)
item_passed is_raw at item (c ∷ cs) some is low =
    ap (with_item at (λ (skip : ℕ). text_from is_raw (at + 1) skip cs)) (sym is)
    ∙ ap (put_before (option_to_list item.stands_for)) (text_from-skip is_raw (at + 1) (item.len - 1) cs
    ∙ ap (λ (n : ℕ). text_from is_raw n 0 (drop (item.len - 1) cs)) (omega arith)
    ∙ ap (text_from is_raw (at + item.len) 0) (past item.len c cs low))

item_missed : (is_raw : Bool) (at : ℕ) (kind : LexKind) (xs : List ℕ) → 0 < length xs → Err kind ≡ item_at is_raw xs → text_from is_raw at 0 xs ≡ Err (record { at = at; kind = kind })
unfolding text_from
item_missed is_raw at kind [] some is = absurd (omega arith)
item_missed is_raw at kind (c ∷ cs) some is = ap (with_item at (λ (skip : ℕ). text_from is_raw (at + 1) skip cs)) (sym is)

-- THE STEPS OF THE LOOP, at the place `at` of a body, with the text so far
pub misses_at : (is_raw : Bool) (at : ℕ) (kind : LexKind) (body front : List ℕ) → at < length body → Err kind ≡ item_at is_raw (drop at body) → put_before front (text_from is_raw at 0 (drop at body)) ≡ Err (record { at = at; kind = kind })
misses_at is_raw at kind body front within is = ap (put_before front) (item_missed is_raw at kind (drop at body) (left at body within) is)

pub item_at_place : (is_raw : Bool) (at : ℕ) (item : Item) (body front more : List ℕ) → at < length body → Ok item ≡ item_at is_raw (drop at body) → 1 ≤ item.len → more ≡ front ++ option_to_list item.stands_for → put_before more (text_from is_raw (at + item.len) 0 (drop (at + item.len) body)) ≡ put_before front (text_from is_raw at 0 (drop at body))
item_at_place is_raw at item body front more within is low grown =
    ap (λ (xs : List ℕ). put_before more (text_from is_raw (at + item.len) 0 xs)) (sym (drop-drop item.len at body))
    ∙ ap (λ (xs : List ℕ). put_before xs (text_from is_raw (at + item.len) 0 (drop item.len (drop at body)))) grown
    ∙ sym (put_before-put_before front (option_to_list item.stands_for) (text_from is_raw (at + item.len) 0 (drop item.len (drop at body))))
    ∙ ap (put_before front) (sym (item_passed is_raw at item (drop at body) (left at body within) is low))

pub ends_at : (is_raw : Bool) (at : ℕ) (body front : List ℕ) → length body ≤ at → put_before front (text_from is_raw at 0 (drop at body)) ≡ Ok front
unfolding text_from
ends_at is_raw at body front out = ap (λ (xs : List ℕ). put_before front (text_from is_raw at 0 xs)) (drop_of_length-le body out) ∙ ap (λ (xs : List ℕ). Ok xs) (append-nil front)
