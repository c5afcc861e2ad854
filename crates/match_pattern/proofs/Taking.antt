-- Items are taken from the head of a text one after the other.
use Rattle.std.proofs.Common.{◌≡◌, ℕ, zero, suc, ◌-◌, ◌<◌, ◌≤◌, Bool, List, [], ◌∷◌, ◌++◌, length, Option, Some, None, refl, sym, ap, ◌∙◌, arith, append_assoc, append-nil}
use Rattle.match_pattern.specs.declared.pattern.Item.{Item}
use Rattle.match_pattern.specs.Reading.{item_at, start_at, end_at, item_before, items_then, items_from, with_end, with_items_read, behind_start, pattern_of}
use Rattle.match_pattern.proofs.Items.{item_shorter}

-- items before what was read
abbrev pub items_before : List Item → List Item × List ℕ → List Item × List ℕ
items_before items x = (items ++ x.0, x.1)

-- what is left to take, with enough turns
abbrev pub Left : List ℕ → List Item → List ℕ → Type 0
Left text items rest = (n : ℕ) × (length rest ≤ n) × (items_from (length text) text ≡ items_before items (items_from n rest))

none_taken : (n : ℕ) (rest : List ℕ) → item_at rest ≡ None → items_from n rest ≡ ([], rest)
none_taken zero rest h = refl
none_taken (suc n) rest h = ap (items_then rest (items_from n)) h

one_taken : (n : ℕ) (rest : List ℕ) (i : Item) (behind : List ℕ) → item_at rest ≡ Some (i, behind) → items_from (suc n) rest ≡ item_before i (items_from n behind)
one_taken n rest i behind h = ap (items_then rest (items_from n)) h

moved : (items : List Item) (i : Item) (x : List Item × List ℕ) → items_before items (item_before i x) ≡ items_before (items ++ i ∷ []) x
moved items i x = ap (λ (ws : List Item). (ws, x.1)) (sym (append_assoc items (i ∷ []) x.0))

pub left_first : (text : List ℕ) → Left text [] text
left_first text = (length text, (omega arith), refl)

pub left_next : (text : List ℕ) (items : List Item) (rest : List ℕ) (i : Item) (behind : List ℕ) → item_at rest ≡ Some (i, behind) → Left text items rest → Left text (items ++ i ∷ []) behind
left_next text items rest i behind h l =
    let shorter : length behind < length rest = item_shorter rest i behind h in
    let enough : length rest ≤ l.0 = l.1 in
    let turn : l.0 ≡ suc (l.0 - 1) = omega arith in
    let fits : length behind ≤ l.0 - 1 = omega arith in
    let taken : items_from l.0 rest ≡ item_before i (items_from (l.0 - 1) behind) = ap (λ (n : ℕ). items_from n rest) turn ∙ one_taken (l.0 - 1) rest i behind h in
    (l.0 - 1, fits, l.2 ∙ (ap (items_before items) taken ∙ moved items i (items_from (l.0 - 1) behind)))

pub left_none : (text : List ℕ) (items : List Item) (rest : List ℕ) → item_at rest ≡ None → Left text items rest → items_from (length text) text ≡ (items, rest)
left_none text items rest h l = l.2 ∙ (ap (items_before items) (none_taken l.0 rest h) ∙ ap (λ (ws : List Item). (ws, rest)) (append-nil items))

-- the pattern of a text by its parts
pub pattern_read : (text : List ℕ) (s : Bool) (behind : List ℕ) (items : List Item) (rest : List ℕ) (o : Option Bool) → start_at text ≡ (s, behind) → items_from (length behind) behind ≡ (items, rest) → end_at rest ≡ o → pattern_of text ≡ with_end (length text) s items o
unfolding pattern_of
pattern_read text s behind items rest o hs hi he =
    ap (behind_start (length text)) hs
    ∙ (ap (with_items_read (length text) s) hi
    ∙ ap (with_end (length text) s items) he)
