-- Names from a place on, and texts.
use Rattle.std.proofs.Common.{◌≡◌, ◌≢◌, ◌&&◌, ◌<◌, ◌≤◌, ◌+◌, ◌∙◌, ℕ, zero, suc, add-one, arith, List, [], ◌∷◌, ◌++◌, length, drop, drop-cons, map, take, get_or, Bool, true, false, cond, Option, Some, None, refl, sym, ap}
use Rattle.std.specs.Prelude.{eqb, nat_eq}
use Rattle.std.proofs.lemmas.Grind.{common_steps}
use Rattle.std.proofs.Math.ListN.{drop_of_length-le}
use Rattle.std.specs.Hash as fed
use Rattle.std.proofs.lemmas.List.Sums.{fold-append}
use Rattle.std.proofs.lemmas.List.{take_all, take_more}
use Rattle.std.specs.List.{find, flat_map, fold, list_any}
use Rattle.indexmap.specs.IndexSet.{insert_key}
use Rattle.py_core.specs.declared.stmt.Core.{Core}
use Rattle.py_values.specs.Names.{name_eq}
use Rattle.core_meaning.specs.py_world.World.{CodedSource}
use Rattle.core_meaning.specs.py_world.Runs.{source_at}
use Rattle.machine_state.specs.Spelled.{is_letter, is_text}

pub found_at : {A : Type 0} (xs : List A) (i : ℕ) (x : A) → i < length xs → x ≡ get_or xs i x → drop i xs ≡ x ∷ drop (i + 1) xs
found_at xs i x w h = rw add-one (drop-cons xs i x w ∙ ap (λ y. y ∷ drop (suc i) xs) (sym h))

same_char : (x : ℕ) → nat_eq x x ≡ true
same_char x = grind (arith, common_steps)

-- the same character at a place
pub spelled_on : (xs ys : List ℕ) (i x : ℕ) → i < length xs → x ≡ get_or xs i x → i < length ys → x ≡ get_or ys i x
    → name_eq (drop i xs) (drop i ys) ≡ name_eq (drop (i + 1) xs) (drop (i + 1) ys)
spelled_on xs ys i x w h v g = rw (found_at xs i x w h, found_at ys i x v g, same_char x) refl

-- another character at a place
pub spelled_other : (xs ys : List ℕ) (i x y : ℕ) → i < length xs → x ≡ get_or xs i x → i < length ys → y ≡ get_or ys i y → y ≢ x
    → name_eq (drop i xs) (drop i ys) ≡ false
spelled_other xs ys i x y w h v g n =
    let e : nat_eq x y ≡ false = grind (arith, common_steps) in rw (found_at xs i x w h, found_at ys i y v g, e) refl

-- more characters than there are
pub spelled_short : (xs ys : List ℕ) (i x : ℕ) → i < length xs → x ≡ get_or xs i x → length ys ≤ i → name_eq (drop i xs) (drop i ys) ≡ false
spelled_short xs ys i x w h v = rw (found_at xs i x w h, drop_of_length-le ys v) refl

-- characters behind the last one
rest_some : (ys : List ℕ) (i : ℕ) → i < length ys → name_eq [] (drop i ys) ≡ false
rest_some [] i h = absurd (omega arith)
rest_some (y ∷ ys) zero h = refl
rest_some (y ∷ ys) (suc i) h = rest_some ys i (omega arith)

spelled_by : (b : Bool) (xs ys : List ℕ) (i : ℕ) → length xs ≤ i → (b ≡ true → length ys ≤ i) → (b ≡ false → i < length ys) → b ≡ name_eq (drop i xs) (drop i ys)
spelled_by true xs ys i h f g = rw (drop_of_length-le xs h, drop_of_length-le ys (f refl)) refl
spelled_by false xs ys i h f g = rw (drop_of_length-le xs h) (sym (rest_some ys i (g refl)))

-- behind the last character
pub spelled_over : (xs ys : List ℕ) (i : ℕ) → length xs ≤ i → i ≤ length ys → eqb i (length ys) ≡ name_eq (drop i xs) (drop i ys)
spelled_over xs ys i h v =
    let f : eqb i (length ys) ≡ true → length ys ≤ i = λ e. grind (arith, common_steps) in
    let g : eqb i (length ys) ≡ false → i < length ys = λ e. grind (arith, common_steps) in
    spelled_by (eqb i (length ys)) xs ys i h f g

-- a text, letter by letter
both : (a b : Bool) → (a && b) ≡ true → (a ≡ true) × (b ≡ true)
both true true h = (refl, refl)
both true false h = absurd cc
both false b h = absurd cc

text_push : (xs : List ℕ) (c : ℕ) → is_text xs ≡ true → is_letter c ≡ true → is_text (xs ++ c ∷ []) ≡ true
text_push [] c h l = ap (λ b. b && true) l
text_push (x ∷ xs) c h l =
    let b : (is_letter x ≡ true) × (is_text xs ≡ true) = both (is_letter x) (is_text xs) h in
    let r : is_text (xs ++ c ∷ []) ≡ true = text_push xs c b.1 l in
    λ i. b.0 i && r i

pub text_more : (xs : List ℕ) (i c : ℕ) → i < length xs → c ≡ get_or xs i c → is_letter c ≡ true → is_text (take i xs) ≡ true → is_text (take (i + 1) xs) ≡ true
text_more xs i c w h l t = ap is_text (take_more xs i c w ∙ ap (λ y. take i xs ++ y ∷ []) (sym h)) ∙ text_push (take i xs) c t l

pub text_all : (xs : List ℕ) (i : ℕ) → length xs ≤ i → is_text (take i xs) ≡ true → is_text xs ≡ true
text_all xs i h t = ap is_text (sym (take_all i xs h)) ∙ t

-- the source that is found
pub source_got : (path : List ℕ) (xs : List (CodedSource Core)) → find (λ (x : CodedSource Core). name_eq path x.path) xs ≡ source_at path xs
source_got path [] = refl
source_got path (x ∷ xs) = ap (λ (o : Option (CodedSource Core)). cond (name_eq path x.path) (Some x) o) (source_got path xs)

none_by : (b : Bool) (path : List ℕ) (x : CodedSource Core) (xs : List (CodedSource Core)) → name_eq path x.path ≡ b → cond b (Some x) (source_at path xs) ≡ None
    → (source_at path xs ≡ None → list_any (λ (y : CodedSource Core). name_eq path y.path) xs ≡ false) → list_any (λ (y : CodedSource Core). name_eq path y.path) (x ∷ xs) ≡ false
none_by true path x xs e h f = absurd cc
none_by false path x xs e h f = rw e (f h)

pub none_there : (path : List ℕ) (xs : List (CodedSource Core)) → source_at path xs ≡ None → list_any (λ (y : CodedSource Core). name_eq path y.path) xs ≡ false
none_there path [] h = refl
none_there path (x ∷ xs) h = none_by (name_eq path x.path) path x xs refl h (none_there path xs)

pub put_last : (s : CodedSource Core) (xs : List (CodedSource Core)) → source_at s.path xs ≡ None → insert_key (λ (a b : CodedSource Core). name_eq a.path b.path) xs s ≡ xs ++ s ∷ []
put_last s xs h = ap (λ (b : Bool). cond b xs (xs ++ s ∷ [])) (none_there s.path xs h)

-- the letters of a text are fed one by one
fed_push : (xs : List ℕ) (c : ℕ) → flat_map fed.char (xs ++ c ∷ []) ≡ flat_map fed.char xs ++ fed.char c
fed_push [] c = refl
fed_push (x ∷ xs) c = ap (λ ws. fed.le_bytes 4 x ∷ ws) (fed_push xs c)

module _ {S : Type 0} (write : S → List ℕ → S) where
  pub fed_more : (s t u : S) (xs : List ℕ) (c : ℕ) → t ≡ fold write s (flat_map fed.char xs) → u ≡ fold write t (fed.char c) → u ≡ fold write s (flat_map fed.char (xs ++ c ∷ []))
  fed_more s t u xs c h g = g ∙ ap (λ (x : S). fold write x (fed.char c)) h ∙ sym (fold-append write s (flat_map fed.char xs) (fed.char c)) ∙ ap (fold write s) (sym (fed_push xs c))

  pub fed_all : (s t u : S) (n : ℕ) (xs ys : List ℕ) → n ≡ length ys → xs ≡ ys → t ≡ fold write s (fed.usize n) → u ≡ fold write t (flat_map fed.char xs) → u ≡ fold write s (fed.slice fed.char ys)
  fed_all s t u n xs ys same all h g =
      g ∙ ap (λ (x : S). fold write x (flat_map fed.char xs)) h ∙ sym (fold-append write s (fed.usize n) (flat_map fed.char xs))
      ∙ (λ i. fold write s (fed.usize (same i) ++ flat_map fed.char (all i)))

pub same_map : (xs : List ℕ) → map (λ (x : ℕ). x) xs ≡ xs
same_map [] = refl
same_map (x ∷ xs) = ap (λ (ys : List ℕ). x ∷ ys) (same_map xs)
