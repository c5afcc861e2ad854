-- The text of a literal's body, and the items into which it falls.
use Rattle.std.proofs.Common.{◌≡◌, ◌⊎◌, ◌↔◌, ℕ, ◌+◌, ◌-◌, ◌<◌, ◌≤◌, List, [], ◌∷◌, ◌++◌, length, take, drop, Bool, true, false, not, Option, None, Some, Result, Ok, Err, refl, sym, ap, subst, ◌∙◌, arith, zero, suc, inl, inr}
use Rattle.std.specs.Prelude.{◌&&◌, ◌==◌, if◌then◌else◌, min}
use Rattle.std.specs.Option.{option_to_list}
use Rattle.std.specs.List.{list_all, prefix_len}
use Rattle.std.specs.Str.Parse.{digits_value}
use Rattle.std.proofs.lemmas.List.{take-append-drop, length-take, length-append}
use Rattle.std.proofs.lemmas.Bool.Decides.{nat_tests}
use Rattle.py_source.specs.declared.fault.LexKind.{LexKind}
use Rattle.py_literals.specs.Chars.{begins_line_end, line_end}
use Rattle.py_literals.specs.Literals.{item_at, escape_at, simple_escape, simple_or_lettered, lettered_escape, hex_escape, is_hex, is_octal, is_scalar, numbered, octal_digits, text_from, with_item, put_before}
use Rattle.py_literals.specs.declared.escape.Item.{Item}
use Rattle.py_literals.specs.declared.literal.Miss.{Miss}
use Rattle.literal_law.specs.Bodies.{Piece, spelling, meaning, FallsInto, at_end, one_more}

two_cases : (b : Bool) → (b ≡ true) ⊎ (b ≡ false)
two_cases true = inl refl
two_cases false = inr refl

both_true : (a b : Bool) → (a && b) ≡ true → (a ≡ true) × (b ≡ true)
both_true true b e = (refl, e)
both_true false b e = (e, absurd (cc e))

picked : {A : Type 0} (b : Bool) (x y r : A) → b ≡ true → (if b then x else y) ≡ r → x ≡ r
picked true x y r is e = e
picked false x y r is e = absurd (cc is)

-- AN ITEM IS WITHIN ITS TEXT
record Within (most : ℕ) (item : Item) : Type 0 where
  some : 1 ≤ item.len
  fits : item.len ≤ most

same_item : {E : Type 0} (item other : Item) → (let r : Result Item E = Ok item in r ≡ Ok other) → item ≡ other
same_item item other e = cc e

found_in : (most : ℕ) (item other : Item) → (let r : Result Item LexKind = Ok item in r ≡ Ok other) → 1 ≤ item.len → item.len ≤ most → Within most other
found_in most item other e some fits = let is : item ≡ other = cc e in subst (λ (i : Item). Within most i) is (record { some = some; fits = fits })

numbered_in : (most base : ℕ) (digits : List ℕ) (len : ℕ) (item : Item) → numbered base digits len ≡ Ok item → 1 ≤ len → len ≤ most → Within most item
numbered_in most base digits len item e some fits = elim (two_cases (is_scalar (digits_value base digits))) [
  | inl is ↦ found_in most (record { stands_for = Some (digits_value base digits); len = len }) item (rw is at e) some fits
  | inr out ↦ absurd (cc (rw out at e))
]

line_end_within : (text : List ℕ) → line_end text ≤ length text
line_end_within [] = omega arith
line_end_within (c ∷ []) = elim (two_cases (c == 10)) [
  | inl is ↦ rw is (omega arith)
  | inr other ↦ rw other (elim (two_cases (c == 13)) [ inl is ↦ rw is (omega arith) | inr o ↦ rw o (omega arith) ])
]
line_end_within (c ∷ d ∷ cs) = elim (two_cases (c == 10)) [
  | inl is ↦ rw is (omega arith)
  | inr other ↦ rw other (elim (two_cases ((c == 13) && (d == 10))) [ inl is ↦ rw is (omega arith) | inr o ↦ rw o (omega arith) ])
]

line_end_some : (text : List ℕ) → begins_line_end text ≡ true → 1 ≤ line_end text
line_end_some text is = go (line_end text) is
  where
    go : (n : ℕ) → not (n == 0) ≡ true → 1 ≤ n
    go n is = grind (arith, nat_tests)

hex_in : (count : ℕ) (cs : List ℕ) (item : Item) → hex_escape count cs ≡ Ok item → Within (length cs + 2) item
hex_in count cs item e = elim (two_cases ((length (take count cs) == count) && list_all is_hex (take count cs))) [
  | inl is ↦ numbered_in (length cs + 2) 16 (take count cs) (count + 2) item (rw is at e) (omega arith) (enough (both_true (length (take count cs) == count) (list_all is_hex (take count cs)) is).0)
  | inr no_digits ↦ absurd (cc (rw no_digits at e))
]
  where
    enough : (length (take count cs) == count) ≡ true → count + 2 ≤ length cs + 2
    enough is =
        let same : length (take count cs) ≡ count = grind (arith, nat_tests) in
        let taken = length-take count cs in
        grind arith

lettered_in : (c : ℕ) (cs : List ℕ) (item : Item) → lettered_escape c cs ≡ Ok item → Within (length cs + 2) item
lettered_in c cs item e = elim (two_cases (c == 120)) [
  | inl x ↦ hex_in 2 cs item (rw x at e)
  | inr no_x ↦ elim (two_cases (c == 117)) [
    | inl u ↦ hex_in 4 cs item (rw (no_x, u) at e)
    | inr no_u ↦ elim (two_cases (c == 85)) [
      | inl long ↦ hex_in 8 cs item (rw (no_x, no_u, long) at e)
      | inr no_long ↦ elim (two_cases (c == 78)) [
        | inl named ↦ absurd (cc (rw (no_x, no_u, no_long, named) at e))
        | inr other ↦ found_in (length cs + 2) (record { stands_for = Some 92; len = 1 }) item (rw (no_x, no_u, no_long, other) at e) (omega arith) (omega arith)
      ]
    ]
  ]
]

simple_in : (found : Option ℕ) (c : ℕ) (cs : List ℕ) (item : Item) → simple_or_lettered found c cs ≡ Ok item → Within (length cs + 2) item
simple_in (Some x) c cs item e = found_in (length cs + 2) (record { stands_for = Some x; len = 2 }) item e (omega arith) (omega arith)
simple_in None c cs item e = lettered_in c cs item e

escape_in : (cs : List ℕ) (item : Item) → escape_at cs ≡ Ok item → Within (length cs + 1) item
unfolding escape_at
escape_in [] item e = found_in 1 (record { stands_for = Some 92; len = 1 }) item e (omega arith) (omega arith)
escape_in (c ∷ cs) item e = elim (two_cases (begins_line_end (c ∷ cs))) [
  | inl ends ↦ found_in (length (c ∷ cs) + 1) (record { stands_for = None; len = 1 + line_end (c ∷ cs) }) item (rw ends at e) (omega arith) (omega (arith, line_end_within (c ∷ cs)))
  | inr goes_on ↦ elim (two_cases (is_octal c)) [
    | inl digits ↦ numbered_in (length (c ∷ cs) + 1) 8 (octal_digits (c ∷ cs)) (1 + length (octal_digits (c ∷ cs))) item (picked (is_octal c) (numbered 8 (octal_digits (c ∷ cs)) (1 + length (octal_digits (c ∷ cs)))) (simple_or_lettered (simple_escape c) c cs) (Ok item) digits (rw goes_on at e)) (omega arith) (few (c ∷ cs))
    | inr other ↦ more (simple_in (simple_escape c) c cs item (rw (goes_on, other) at e))
  ]
]
  where
    few : (text : List ℕ) → 1 + length (octal_digits text) ≤ length text + 1
    few text = let taken = length-take (min (prefix_len is_octal text) 3) text in grind arith

    more : Within (length cs + 2) item → Within (length (c ∷ cs) + 1) item
    more h = record { some = h.some; fits = omega (arith, h.fits) }

item_in : (is_raw : Bool) (c : ℕ) (cs : List ℕ) (item : Item) → item_at is_raw (c ∷ cs) ≡ Ok item → Within (length cs + 1) item
unfolding item_at
item_in is_raw c cs item e = elim (two_cases (begins_line_end (c ∷ cs))) [
  | inl ends ↦ found_in (length cs + 1) (record { stands_for = Some 10; len = line_end (c ∷ cs) }) item (rw ends at e) (line_end_some (c ∷ cs) ends) (omega (arith, line_end_within (c ∷ cs)))
  | inr goes_on ↦ elim (two_cases (not is_raw && (c == 92))) [
    | inl escaped ↦ escape_in cs item (rw (goes_on, escaped) at e)
    | inr plain ↦ found_in (length cs + 1) (record { stands_for = Some c; len = 1 }) item (rw (goes_on, plain) at e) (omega arith) (omega arith)
  ]
]

-- FROM THE TEXT. What is left to pass of an item is within the body.
read_behind : (front : List ℕ) (rest : Result (List ℕ) Miss) (text : List ℕ) → put_before front rest ≡ Ok text → (more : List ℕ) × (rest ≡ Ok more) × (text ≡ front ++ more)
read_behind front (Ok more) text e = (more, refl, cc e)
read_behind front (Err miss) text e = absurd (cc e)

record Fallen (is_raw : Bool) (body text : List ℕ) : Type 0 where
  pieces : List Piece
  falls : FallsInto is_raw body pieces
  is : text ≡ meaning pieces

at_item : (is_raw : Bool) (c : ℕ) (cs text : List ℕ) (item : Item) → item_at is_raw (c ∷ cs) ≡ Ok item → 1 ≤ item.len → (more : List ℕ) → text ≡ option_to_list item.stands_for ++ more → item.len - 1 ≤ length cs → Fallen is_raw (drop (item.len - 1) cs) more → Fallen is_raw (c ∷ cs) text
at_item is_raw c cs text item found some more grown fits behind =
    let piece : Piece = record { spelled = c ∷ take (item.len - 1) cs; means = option_to_list item.stands_for } in
    let taken = length-take (item.len - 1) cs in
    record {
      pieces = piece ∷ behind.pieces;
      falls = one_more piece (drop (item.len - 1) cs) behind.pieces (omega arith) (ap (λ (xs : List ℕ). c ∷ xs) (sym (take-append-drop (item.len - 1) cs))) (record { item = item; found = found; spelled = grind arith; means = refl }) behind.falls;
      is = grown ∙ ap (λ (xs : List ℕ). option_to_list item.stands_for ++ xs) behind.is;
    }

fallen : (is_raw : Bool) (at skip : ℕ) (body text : List ℕ) → skip ≤ length body → text_from is_raw at skip body ≡ Ok text → Fallen is_raw (drop skip body) text
unfolding text_from
fallen is_raw at zero [] text fits e = record { pieces = []; falls = at_end; is = cc e }
fallen is_raw at (suc skip) [] text fits e = record { pieces = []; falls = at_end; is = cc e }
fallen is_raw at (suc skip) (c ∷ cs) text fits e = fallen is_raw (at + 1) skip cs text (omega arith) e
fallen is_raw at zero (c ∷ cs) text fits e = go (item_at is_raw (c ∷ cs)) refl e (λ skip t f s. fallen is_raw (at + 1) skip cs t f s)
  where
    go : (found : Result Item LexKind) → item_at is_raw (c ∷ cs) ≡ found → with_item at (λ (skip : ℕ). text_from is_raw (at + 1) skip cs) found ≡ Ok text → ((skip : ℕ) (t : List ℕ) → skip ≤ length cs → text_from is_raw (at + 1) skip cs ≡ Ok t → Fallen is_raw (drop skip cs) t) → Fallen is_raw (c ∷ cs) text
    go (Err kind) is e next = absurd (cc e)
    go (Ok item) is e next =
        let h = item_in is_raw c cs item is in
        let behind = read_behind (option_to_list item.stands_for) (text_from is_raw (at + 1) (item.len - 1) cs) text e in
        at_item is_raw c cs text item is h.some behind.0 behind.2 (omega (arith, h.fits)) (next (item.len - 1) behind.0 (omega (arith, h.fits)) behind.1)

-- AND BACK
passed : (is_raw : Bool) (at : ℕ) (front rest : List ℕ) → text_from is_raw at (length front) (front ++ rest) ≡ text_from is_raw (at + length front) 0 rest
unfolding text_from
passed is_raw at [] rest = ap (λ (n : ℕ). text_from is_raw n 0 rest) (omega arith)
passed is_raw at (c ∷ cs) rest = passed is_raw (at + 1) cs rest ∙ ap (λ (n : ℕ). text_from is_raw n 0 rest) (omega arith)

first_piece : (is_raw : Bool) (at c n : ℕ) (cs rest more : List ℕ) (item : Item) → item_at is_raw (c ∷ cs ++ rest) ≡ Ok item → item.len ≡ length (c ∷ cs) → ((start : ℕ) → text_from is_raw start 0 rest ≡ Ok more) → text_from is_raw at 0 (c ∷ cs ++ rest) ≡ Ok (option_to_list item.stands_for ++ more)
unfolding text_from
first_piece is_raw at c n cs rest more item found len behind =
    ap (with_item at (λ (skip : ℕ). text_from is_raw (at + 1) skip (cs ++ rest))) found
    ∙ ap (put_before (option_to_list item.stands_for)) (ap (λ (skip : ℕ). text_from is_raw (at + 1) skip (cs ++ rest)) (omega arith) ∙ passed is_raw (at + 1) cs rest ∙ behind (at + 1 + length cs))

text_is : (is_raw : Bool) (at : ℕ) (body : List ℕ) (pieces : List Piece) → FallsInto is_raw body pieces → text_from is_raw at 0 body ≡ Ok (meaning pieces)
unfolding text_from
text_is is_raw at body pieces at_end = refl
text_is is_raw at body pieces (one_more piece rest others some spelled is falls) =
    go piece.spelled some spelled is.spelled (λ start. text_is is_raw start rest others falls)
  where
    go : (front : List ℕ) → 0 < length front → body ≡ front ++ rest → is.item.len ≡ length front → ((start : ℕ) → text_from is_raw start 0 rest ≡ Ok (meaning others)) → text_from is_raw at 0 body ≡ Ok (piece.means ++ meaning others)
    go [] some e len behind = absurd (omega arith)
    go (c ∷ cs) some e len behind =
        rw (e, is.means) (first_piece is_raw at c 0 cs rest (meaning others) is.item (rw e at is.found) len behind)

pub text_of_pieces : (is_raw : Bool) (body text : List ℕ) → text_from is_raw 0 0 body ≡ Ok text ↔ ((pieces : List Piece) × FallsInto is_raw body pieces × (text ≡ meaning pieces))
text_of_pieces is_raw body text = (
  λ e. let h = fallen is_raw 0 0 body text (omega arith) e in (h.pieces, h.falls, h.is),
  λ h. text_is is_raw 0 body h.0 h.1 ∙ ap (λ (xs : List ℕ). Ok xs) (sym h.2),
)

pub spelled_by_pieces : (is_raw : Bool) (body : List ℕ) (pieces : List Piece) → FallsInto is_raw body pieces → body ≡ spelling pieces
spelled_by_pieces is_raw body pieces at_end = refl
spelled_by_pieces is_raw body pieces (one_more piece rest others some spelled is falls) = spelled ∙ ap (λ (xs : List ℕ). piece.spelled ++ xs) (spelled_by_pieces is_raw rest others falls)

-- ONE WAY
same_front : (xs ys us vs : List ℕ) → length xs ≡ length us → xs ++ ys ≡ us ++ vs → (xs ≡ us) × (ys ≡ vs)
same_front [] ys [] vs len e = (refl, e)
same_front [] ys (u ∷ us) vs len e = absurd (omega arith)
same_front (x ∷ xs) ys [] vs len e = absurd (omega arith)
same_front (x ∷ xs) ys (u ∷ us) vs len e =
    let rest = same_front xs ys us vs (omega arith) (cc e) in
    let head : x ≡ u = cc e in
    (ap (λ (h : ℕ). h ∷ xs) head ∙ ap (λ (t : List ℕ). u ∷ t) rest.0, rest.1)

same_piece : (piece other : Piece) → piece.spelled ≡ other.spelled → piece.means ≡ other.means → piece ≡ other
same_piece piece other spelled means =
    let make : List ℕ → List ℕ → Piece = λ s m. record { spelled = s; means = m } in
    ap (λ (s : List ℕ). make s piece.means) spelled ∙ ap (make other.spelled) means

pub one_way : (is_raw : Bool) (body : List ℕ) (pieces others : List Piece) → FallsInto is_raw body pieces → FallsInto is_raw body others → pieces ≡ others
one_way is_raw body pieces others at_end at_end = refl
one_way is_raw body pieces others at_end (one_more piece rest more some spelled is falls) =
    let long = ap length spelled in
    let parts = length-append piece.spelled rest in
    absurd (omega (arith, long, parts))
one_way is_raw body pieces others (one_more piece rest more some spelled is falls) at_end =
    let long = ap length spelled in
    let parts = length-append piece.spelled rest in
    absurd (omega (arith, long, parts))
one_way is_raw body pieces others (one_more piece rest more some spelled is falls) (one_more other behind left also writes has goes) =
    let item : is.item ≡ has.item = cc (sym is.found ∙ has.found) in
    let len : length piece.spelled ≡ length other.spelled = sym is.spelled ∙ ap (λ (i : Item). i.len) item ∙ has.spelled in
    let cut = same_front piece.spelled rest other.spelled behind len (sym spelled ∙ writes) in
    let means : piece.means ≡ other.means = is.means ∙ ap (λ (i : Item). option_to_list i.stands_for) item ∙ sym has.means in
    let tail : more ≡ left = one_way is_raw rest more left falls (rw cut.1 goes) in
    ap (λ (p : Piece). p ∷ more) (same_piece piece other cut.0 means) ∙ ap (λ (ps : List Piece). other ∷ ps) tail
