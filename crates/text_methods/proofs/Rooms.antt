-- Texts that stay short behind others.
use Rattle.std.proofs.Common.{◌≡◌, ℕ, ◌+◌, ◌<◌, ◌≤◌, Bool, true, false, not, List, [], ◌++◌, map, drop, get_or, Some, None, refl, sym, ap, ◌∙◌, arith, length, append_assoc, append-nil, length-append, add-one, drop-cons}
use Rattle.std.proofs.lemmas.Grind.{common_steps}
use Rattle.std.proofs.lemmas.List.{at_drop_all}
use Rattle.std.specs.Prelude.{nat_lt, if◌then◌else◌}
use Rattle.text_methods.specs.Pieces.{has_room, joined_behind, short_text}

by_not : (t : Bool) → not t ≡ false → t ≡ true
by_not true e = refl
by_not false e = absurd (cc)

by_yes : (t : Bool) → not t ≡ true → t ≡ false
by_yes true e = absurd (cc)
by_yes false e = refl

above : (a b : ℕ) → nat_lt a b ≡ true → a < b
above a b h = grind (arith, common_steps)

upto : (a b : ℕ) → nat_lt a b ≡ false → b ≤ a
upto a b h = grind (arith, common_steps)

is_above : (a b : ℕ) → a < b → nat_lt a b ≡ true
is_above a b h = grind (arith, common_steps)

is_upto : (a b : ℕ) → b ≤ a → nat_lt a b ≡ false
is_upto a b h = grind (arith, common_steps)

pub room : (a b c : List ℕ) → has_room a b c ≡ true → length a + length b + length c ≤ 65536
room a b c e = upto 65536 (length a + length b + length c) (by_yes (nat_lt 65536 (length a + length b + length c)) e)

long : (t : List ℕ) → 65536 < length t → None ≡ short_text t
long t h = rw (is_above 65536 (length t) h) refl

pub short : (t : List ℕ) → length t ≤ 65536 → Some t ≡ short_text t
short t h = rw (is_upto 65536 (length t) h) refl

pub no_room : (a b c rest : List ℕ) → has_room a b c ≡ false → None ≡ short_text (a ++ (b ++ (c ++ rest)))
no_room a b c rest e =
    let k : 65536 < length a + length b + length c = above 65536 (length a + length b + length c) (by_not (nat_lt 65536 (length a + length b + length c)) e) in
    long (a ++ (b ++ (c ++ rest))) (rw (length-append a (b ++ (c ++ rest)), length-append b (c ++ rest), length-append c rest) (omega arith))

chosen : (b : Bool) (x y : List ℕ) → b ≡ true → (if b then x else y) ≡ x
chosen true x y e = refl
chosen false x y e = absurd (cc)

-- the first of values that are joined
pub not_begun : (t rest done : List ℕ) (b : Bool) → done ≡ [] → b ≡ has_room done [] t → b ≡ false → None ≡ short_text (t ++ rest)
not_begun t rest done b z r e =
    let n : has_room [] [] t ≡ false = rw z at (sym r ∙ e) in
    no_room [] [] t rest n

pub begun : (t done next : List ℕ) (b : Bool) → done ≡ [] → b ≡ has_room done [] t → b ≡ true → next ≡ (if b then done ++ ([] ++ t) else done)
    → (next ≡ t) × (length next ≤ 65536)
begun t done next b z r e m =
    let n : next ≡ done ++ ([] ++ t) = m ∙ chosen b (done ++ ([] ++ t)) done e in
    let k : next ≡ t = rw z at n in
    let y : has_room done [] t ≡ true = sym r ∙ e in
    (k, rw k (omega (arith, room done [] t y)))

-- a value at hand among values that are joined
value_at : {A : Type 0} (f : A → List ℕ) (sep : List ℕ) (vs : List A) (i : ℕ) (d : A) → i < length vs
    → joined_behind sep (map f (drop i vs)) ≡ sep ++ (f (get_or vs i d) ++ joined_behind sep (map f (drop (i + 1) vs)))
value_at f sep vs i d h = rw (drop-cons vs i d h, add-one i) refl

pub no_fit : {A : Type 0} (f : A → List ℕ) (sep : List ℕ) (vs : List A) (i : ℕ) (d : A) (done whole : List ℕ) (b : Bool) → i < length vs
    → b ≡ has_room done sep (f (get_or vs i d)) → b ≡ false → whole ≡ done ++ joined_behind sep (map f (drop i vs)) → None ≡ short_text whole
no_fit f sep vs i d done whole b lt r e h =
    let n : has_room done sep (f (get_or vs i d)) ≡ false = sym r ∙ e in
    let g : whole ≡ done ++ (sep ++ (f (get_or vs i d) ++ joined_behind sep (map f (drop (i + 1) vs)))) = h ∙ ap (λ (l : List ℕ). done ++ l) (value_at f sep vs i d lt) in
    rw g (no_room done sep (f (get_or vs i d)) (joined_behind sep (map f (drop (i + 1) vs))) n)

pub fitted : {A : Type 0} (f : A → List ℕ) (sep : List ℕ) (vs : List A) (i : ℕ) (d : A) (done next whole : List ℕ) (b : Bool) → i < length vs
    → b ≡ has_room done sep (f (get_or vs i d)) → b ≡ true → next ≡ (if b then done ++ (sep ++ f (get_or vs i d)) else done)
    → whole ≡ done ++ joined_behind sep (map f (drop i vs))
    → (whole ≡ next ++ joined_behind sep (map f (drop (i + 1) vs))) × (length next ≤ 65536)
fitted f sep vs i d done next whole b lt r e m h =
    let t : List ℕ = f (get_or vs i d) in
    let rest : List ℕ = joined_behind sep (map f (drop (i + 1) vs)) in
    let y : has_room done sep t ≡ true = sym r ∙ e in
    let n : next ≡ done ++ (sep ++ t) = m ∙ chosen b (done ++ (sep ++ t)) done e in
    let g : whole ≡ done ++ (sep ++ (t ++ rest)) = h ∙ ap (λ (l : List ℕ). done ++ l) (value_at f sep vs i d lt) in
    (g ∙ rw (n, append_assoc done (sep ++ t) rest, append_assoc sep t rest) refl, rw (n, length-append done (sep ++ t), length-append sep t) (omega (arith, room done sep t y)))

-- behind the last value
pub fitted_all : {A : Type 0} (f : A → List ℕ) (sep : List ℕ) (vs : List A) (i : ℕ) (done whole : List ℕ) → length vs ≤ i
    → whole ≡ done ++ joined_behind sep (map f (drop i vs)) → length done ≤ 65536 → Some done ≡ short_text whole
fitted_all f sep vs i done whole le h l =
    let e : whole ≡ done ++ [] = h ∙ ap (λ (l : List ℕ). done ++ l) (at_drop_all (λ us. joined_behind sep (map f us)) vs i le) in
    rw (e, append-nil) (short done l)
