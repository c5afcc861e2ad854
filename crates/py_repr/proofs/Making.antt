-- Making a text up to a length.
use Rattle.std.proofs.Common.{◌≡◌, refl, sym, ap, arith, Bool, true, false, if◌then◌else◌, Option, Some, option_map, List, [], ◌∷◌, ◌++◌, map, ℕ, zero, suc, ◌+◌, ◌-◌, ◌<◌, slice_get, drop, codes, add-one}
use Rattle.std.specs.List.{fold}
use Rattle.std.proofs.lemmas.List.Sums.{fold-append}
use Rattle.std.proofs.lemmas.Grind.{common_steps}
use Rattle.py_repr.specs.Showing.{TextBuffer}
use Rattle.py_repr.specs.Symbols.{Symbol, Char, Deep, glyphs}
use Rattle.py_repr.specs.Adding.{add}
use Rattle.py_repr.specs.Repr.{obj_repr, repr_to, obj_str, str_to, is_around, pairs_row, pair_repr}
use Rattle.py_values.specs.declared.dict.Pair.{Pair}
use Rattle.py_values.specs.declared.key.Atom.{Atom}
use Rattle.py_values.specs.declared.object.Obj.{Obj}
use Rattle.py_values.specs.declared.value.ObjId.{ObjId}
use Rattle.py_values.specs.declared.value.Value.{Value}
use Rattle.py_values.specs.declared.value.Value.TheVariants.{Ref}

-- a text that is cut stays as it is
pub cut_add : (s : TextBuffer) (x : Symbol) → s.cut ≡ true → add s x ≡ s
cut_add s (Char c) h = grind (arith, common_steps)
cut_add s Deep h = grind (arith, common_steps)

pub cut_stays : (s : TextBuffer) (xs : List Symbol) → s.cut ≡ true → fold add s xs ≡ s
cut_stays s [] h = refl
cut_stays s (x ∷ xs) h = rw (cut_add s x h) (cut_stays s xs h)

pub plain_append : (xs ys : List ℕ) → map Char (xs ++ ys) ≡ map Char xs ++ map Char ys
plain_append [] ys = refl
plain_append (x ∷ xs) ys = rw (plain_append xs ys) refl

pub ruleset showing = (fold-append, plain_append, cut_stays)

pub pairs_step : (f : Value → List Symbol) (first : Bool) (d : List (List Atom × Pair)) (i : ℕ) (p : Pair)
    → Some p ≡ option_map (λ e. e.1) (slice_get d i)
    → pairs_row first f (drop i d) ≡ (if first then [] else glyphs (codes ", ")) ++ (pair_repr f p ++ pairs_row false f (drop (i + 1) d))
pairs_step f first [] i p h = cc
pairs_step f first (e ∷ es) zero p h = cc
pairs_step f first (e ∷ es) (suc i) p h = rw (add-one (suc i)) (rw (add-one i) at (pairs_step f first es i p h))

-- a turn of the loop over pairs
pub pairs_turn : (f : Value → List Symbol) (first : Bool) (d : List (List Atom × Pair)) (i : ℕ) (p : Pair) (s t u : TextBuffer)
    → Some p ≡ option_map (λ e. e.1) (slice_get d i)
    → t ≡ fold add s (if first then [] else glyphs (codes ", ")) → u ≡ fold add t (pair_repr f p)
    → fold add s (pairs_row first f (drop i d)) ≡ fold add u (pairs_row false f (drop (i + 1) d))
pairs_turn f first d i p s t u at a b = rw (pairs_step f first d i p at, fold-append, fold-append, ← a, ← b) refl

-- an object that is shown to a depth
pub repr_ref : (n : ℕ) (h : List Obj) (a : List ObjId) (id : ObjId) → 0 < n
    → repr_to n h a (Ref id) ≡ obj_repr h (repr_to (n - 1) h (a ++ id ∷ [])) (repr_to (n - 1) h a) (is_around a id) (slice_get h id.at)
repr_ref zero h a id lt = absurd (omega arith)
repr_ref (suc n) h a id lt =
    let e : suc n - 1 ≡ n = omega arith in
    ap (λ (m : ℕ). obj_repr h (repr_to m h (a ++ id ∷ [])) (repr_to m h a) (is_around a id) (slice_get h id.at)) (sym e)

pub str_ref : (n : ℕ) (h : List Obj) (id : ObjId) → 0 < n
    → str_to n h (Ref id) ≡ obj_str h (repr_to (n - 1) h []) (str_to (n - 1) h) (repr_to n h [] (Ref id)) (slice_get h id.at)
str_ref zero h id lt = absurd (omega arith)
str_ref (suc n) h id lt =
    let e : suc n - 1 ≡ n = omega arith in
    ap (λ (m : ℕ). obj_str h (repr_to m h []) (str_to m h) (repr_to (suc n) h [] (Ref id)) (slice_get h id.at)) (sym e)
