-- Paths taken apart, and pieces put together.
use Rattle.std.proofs.Common.{◌≡◌, ℕ, ◌+◌, ◌-◌, ◌<◌, ◌≤◌, get_or, eqb-true, List, [], ◌∷◌, ◌++◌, Bool, true, false, cond, map, length, take, drop, refl, sym, ap, ◌∙◌, arith}
use Rattle.std.specs.Prelude.{bytes_eq, nat_eq, ◌&&◌, ◌||◌}
use Rattle.std.specs.List.{list_any, slice_split, starts_with, onto_first}
use Rattle.std.proofs.lemmas.List.{append-nil, append_assoc, map-append, drop_more, drop-drop, get_or-drop, take-append-drop, drop_all, length-take, length-drop, take_more, drop-append-le, take_rest, take_all, length-take-le}
use Rattle.std.proofs.lemmas.List.Folds.{list_any-append}
use Rattle.collect_words.specs.Paths.{is_slash, name_of}
use Rattle.collect_words.specs.Keys.{before_parts, parts_with}
use Rattle.std.specs.declared.vec.Vec.{Vec}
use Rattle.std.specs.declared.alloc.Global.{Global}

-- behind the last byte the name is the last part
pub onto_end : (name : List ℕ) → before_parts name (slice_split is_slash []) ≡ name ∷ []
onto_end name = ap (λ n. n ∷ []) (append-nil name)

behind_byte : (name : List ℕ) (b : ℕ) (parts : List (List ℕ)) → before_parts name (onto_first b parts) ≡ before_parts (name ++ b ∷ []) parts
behind_byte name b [] = refl
behind_byte name b (part ∷ parts) = ap (λ n. n ∷ parts) (sym (append_assoc name (b ∷ []) part))

onto_none : (b : ℕ) (parts : List (List ℕ)) → before_parts [] (onto_first b parts) ≡ onto_first b parts
onto_none b [] = refl
onto_none b (part ∷ parts) = refl

onto_cond : (t : Bool) (b : ℕ) (parts others : List (List ℕ)) → before_parts [] (cond t ([] ∷ parts) (onto_first b others)) ≡ cond t ([] ∷ parts) (onto_first b others)
onto_cond true b parts others = refl
onto_cond false b parts others = onto_none b others

-- nothing before them changes no part
pub onto_nothing : (path : List ℕ) → before_parts [] (slice_split is_slash path) ≡ slice_split is_slash path
onto_nothing [] = refl
onto_nothing (b ∷ rest) = onto_cond (is_slash b) b (slice_split is_slash rest) (slice_split is_slash rest)

-- a slash ends the name
pub onto_slash : (name rest : List ℕ) (b : ℕ) → is_slash b ≡ true → before_parts name (slice_split is_slash (b ∷ rest)) ≡ name ∷ before_parts [] (slice_split is_slash rest)
onto_slash name rest b h =
    let parts = slice_split is_slash rest in
    ap (λ t. before_parts name (cond t ([] ∷ parts) (onto_first b parts))) h
    ∙ (ap (λ n. n ∷ parts) (append-nil name) ∙ ap (λ ps. name ∷ ps) (sym (onto_nothing rest)))

-- any other byte goes behind it
pub onto_byte : (name rest : List ℕ) (b : ℕ) → is_slash b ≡ false → before_parts name (slice_split is_slash (b ∷ rest)) ≡ before_parts (name ++ b ∷ []) (slice_split is_slash rest)
onto_byte name rest b h =
    let parts = slice_split is_slash rest in
    ap (λ t. before_parts name (cond t ([] ∷ parts) (onto_first b parts))) h ∙ behind_byte name b parts

-- the parts with a slash before what is left, and with any other byte
pub parts_slash : (names all : List (Vec ℕ Global)) (whole : Vec ℕ Global) (b : ℕ) → is_slash b ≡ true → all ≡ names ++ whole ∷ [] → (rest : List ℕ) → parts_with names whole.items (b ∷ rest) ≡ parts_with all [] rest
parts_slash names all whole b h e rest =
    let items : Vec ℕ Global → List ℕ = λ done. done.items in
    ap (λ ps. map items names ++ ps) (onto_slash whole.items rest b h)
    ∙ (sym (append_assoc (map items names) (whole.items ∷ []) (before_parts [] (slice_split is_slash rest)))
    ∙ ap (λ ps. ps ++ before_parts [] (slice_split is_slash rest)) (sym (ap (map items) e ∙ map-append items names (whole ∷ []))))

pub parts_byte : (names : List (Vec ℕ Global)) (name new : List ℕ) (b : ℕ) → is_slash b ≡ false → new ≡ name ++ b ∷ [] → (rest : List ℕ) → parts_with names name (b ∷ rest) ≡ parts_with names new rest
parts_byte names name new b h e rest =
    ap (λ ps. map (λ (done : Vec ℕ Global). done.items) names ++ ps) (onto_byte name rest b h ∙ ap (λ n. before_parts n (slice_split is_slash rest)) (sym e))

false_from : (t : Bool) → (t ≡ true → ⊥) → t ≡ false
false_from true f = absurd (f refl)
false_from false f = refl

-- a byte that is no slash
pub not_slash : (b : ℕ) → (b ≡ 47 → ⊥) → is_slash b ≡ false
not_slash b h = false_from (is_slash b) (λ t. h (eqb-true b 47 t))

or_true : (b : Bool) → (b || true) ≡ true
or_true true = refl
or_true false = refl

slash_within : (front rest : List ℕ) → list_any is_slash (front ++ 47 ∷ rest) ≡ true
slash_within [] rest = refl
slash_within (b ∷ front) rest = ap (λ t. is_slash b || t) (slash_within front rest) ∙ or_true (is_slash b)

-- what stands behind a slash has the name
pub name_behind : (front rest : List ℕ) → name_of (front ++ 47 ∷ rest) ≡ name_of rest
name_behind [] rest = refl
name_behind (b ∷ front) rest =
    ap (λ t. cond t (name_of (front ++ 47 ∷ rest)) (b ∷ (front ++ 47 ∷ rest))) (slash_within (b ∷ front) rest) ∙ name_behind front rest

-- without a slash it is the name
pub name_alone : (text : List ℕ) → list_any is_slash text ≡ false → name_of text ≡ text
name_alone [] h = refl
name_alone (b ∷ rest) h = ap (λ t. cond t (name_of rest) (b ∷ rest)) h

-- a piece at the front of a text
pub joined_front : (piece pieces text : List ℕ) → bytes_eq (piece ++ pieces) text ≡ (starts_with nat_eq text piece && bytes_eq pieces (drop (length piece) text))
joined_front [] pieces text = refl
joined_front (b ∷ piece) pieces [] = refl
joined_front (b ∷ piece) pieces (c ∷ text) = ap (λ t. nat_eq b c && t) (joined_front piece pieces text) ∙ and_assoc (nat_eq b c) _ _
  where
    and_assoc : (p q r : Bool) → (p && (q && r)) ≡ ((p && q) && r)
    and_assoc true q r = refl
    and_assoc false q r = refl

-- the name begins behind a slash
slash_at : (path : List ℕ) (start at : ℕ) → start ≤ at → at < length path → get_or path at 0 ≡ 47 → name_of (drop start path) ≡ name_of (drop (at + 1) path)
slash_at path start at l m e =
    let k = at - start in
    let there : get_or (drop start path) k 0 ≡ 47 = get_or-drop start path k 0 ∙ (ap (λ n. get_or path n 0) (let n : start + (at - start) ≡ at = omega arith in n) ∙ e) in
    let left : drop (k + 1) (drop start path) ≡ drop (at + 1) path = drop-drop (k + 1) start path ∙ ap (λ n. drop n path) (let n : start + ((at - start) + 1) ≡ at + 1 = omega arith in n) in
    let cut : drop start path ≡ take k (drop start path) ++ (47 ∷ drop (at + 1) path) =
    sym (take-append-drop k (drop start path))
    ∙ ap (λ t. take k (drop start path) ++ t) (drop_more (drop start path) k 0 (omega (arith, length_dropped)) ∙ (ap (λ b. b ∷ drop (k + 1) (drop start path)) there ∙ ap (λ t. 47 ∷ t) left)) in
    ap name_of cut ∙ name_behind (take k (drop start path)) (drop (at + 1) path)
  where
    length_dropped : length (drop start path) ≡ length path - start
    length_dropped = length-drop start path

pub slash_same : (path : List ℕ) (start at next : ℕ) → next ≡ at + 1 → start ≤ at → at < length path → get_or path at 0 ≡ 47 → name_of path ≡ name_of (drop start path) → name_of path ≡ name_of (drop next path)
slash_same path start at next n l m e h = h ∙ (slash_at path start at l m e ∙ ap (λ k. name_of (drop k path)) (sym n))

pub slash_clean : (path : List ℕ) (at next : ℕ) → next ≡ at + 1 → list_any is_slash (drop next (take (at + 1) path)) ≡ false
slash_clean path at next n = ap (list_any is_slash) (drop_all next (take (at + 1) path) (omega (arith, length-take (at + 1) path)))

pub byte_clean : (path : List ℕ) (start at next : ℕ) → next ≡ start → start ≤ at → at < length path → is_slash (get_or path at 0) ≡ false → list_any is_slash (drop start (take at path)) ≡ false → list_any is_slash (drop next (take (at + 1) path)) ≡ false
byte_clean path start at next n l m e h =
    ap (λ k. list_any is_slash (drop k (take (at + 1) path))) n
    ∙ (ap (λ t. list_any is_slash (drop start t)) (take_more path at 0 m)
    ∙ (ap (list_any is_slash) (drop-append-le start (take at path) (get_or path at 0 ∷ []) (omega (arith, length-take-le at path (let k : at ≤ length path = omega arith in k))))
    ∙ (list_any-append is_slash (drop start (take at path)) (get_or path at 0 ∷ [])
    ∙ (ap (λ t. t || (is_slash (get_or path at 0) || false)) h ∙ ap (λ t. t || false) e))))

-- behind the last byte
pub name_end : (path : List ℕ) (start at : ℕ) → length path ≤ at → name_of path ≡ name_of (drop start path) → list_any is_slash (drop start (take at path)) ≡ false → take (length path - start) (drop start path) ≡ name_of path
name_end path start at l h e =
    take_rest path start
    ∙ (sym (name_alone (drop start path) (ap (λ t. list_any is_slash (drop start t)) (sym (take_all at path l)) ∙ e)) ∙ sym h)
