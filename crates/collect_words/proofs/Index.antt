-- The index of a walk, filled from the last path on.
use Rattle.std.proofs.Common.{◌≡◌, ◌<◌, ◌≤◌, ◌+◌, ◌∙◌, ℕ, List, [], ◌∷◌, length, drop, get_or, Option, Some, None, Bool, true, false, cond, refl, sym, ap, arith}
use Rattle.std.specs.Prelude.{bytes_eq}
use Rattle.std.specs.List.{position_from}
use Rattle.std.specs.Map.{lookup}
use Rattle.std.specs.declared.vec.Vec.{Vec}
use Rattle.std.specs.declared.alloc.Global.{Global}
use Rattle.std.proofs.lemmas.Bool.{false≢true}
use Rattle.std.proofs.lemmas.List.{drop_all, drop_more}
use Rattle.std.proofs.lemmas.Slice.Eq.{bytes_eq-Decides}
use Rattle.indexmap.specs.IndexMap.{insert_entry}
use Rattle.collect_words.specs.Index.{Entries, IsIndex, IsIndexFrom, indexed}

same_by : (a b : Bool) (xs ys : List ℕ) → bytes_eq xs ys ≡ a → bytes_eq ys xs ≡ b → a ≡ b
same_by true true xs ys h g = refl
same_by false false xs ys h g = refl
same_by true false xs ys h g = sym (sym g ∙ (bytes_eq-Decides ys xs).1 (sym ((bytes_eq-Decides xs ys).0 h)))
same_by false true xs ys h g = sym h ∙ (bytes_eq-Decides xs ys).1 (sym ((bytes_eq-Decides ys xs).0 g))

turned : (xs ys : List ℕ) → bytes_eq xs ys ≡ bytes_eq ys xs
turned xs ys = same_by (bytes_eq xs ys) (bytes_eq ys xs) xs ys refl refl

abbrev key_eq : Vec ℕ Global → Vec ℕ Global → Bool
key_eq a b = bytes_eq a.items b.items

-- one path more
indexed_by : (same : Bool) (path : List ℕ) (k : Vec ℕ Global) (place : ℕ) (e : Vec ℕ Global × ℕ) (es : Entries) → key_eq k e.0 ≡ same
    → indexed path (insert_entry key_eq es k place) ≡ cond (bytes_eq path k.items) (Some place) (indexed path es)
    → indexed path (cond same ((e.0, place) ∷ es) (e ∷ insert_entry key_eq es k place)) ≡ cond (bytes_eq path k.items) (Some place) (cond (bytes_eq path e.0.items) (Some e.1) (indexed path es))
indexed_by true path k place e es h rest =
    let same : k.items ≡ e.0.items = (bytes_eq-Decides k.items e.0.items).0 h in
    taken (bytes_eq path e.0.items) ∙ ap (λ (ks : List ℕ). cond (bytes_eq path ks) (Some place) (cond (bytes_eq path e.0.items) (Some e.1) (indexed path es))) (sym same)
  where
    taken : (b : Bool) → cond b (Some place) (indexed path es) ≡ cond b (Some place) (cond b (Some e.1) (indexed path es))
    taken true = refl
    taken false = refl
indexed_by false path k place e es h rest = ap (cond (bytes_eq path e.0.items) (Some e.1)) rest ∙ other (bytes_eq path e.0.items) (bytes_eq path k.items) refl refl
  where
    other : (a b : Bool) → bytes_eq path e.0.items ≡ a → bytes_eq path k.items ≡ b → cond a (Some e.1) (cond b (Some place) (indexed path es)) ≡ cond b (Some place) (cond a (Some e.1) (indexed path es))
    other true true p q = absurd (false≢true (sym h ∙ (bytes_eq-Decides k.items e.0.items).1 (sym ((bytes_eq-Decides path k.items).0 q) ∙ (bytes_eq-Decides path e.0.items).0 p)))
    other true false p q = refl
    other false true p q = refl
    other false false p q = refl

indexed_put : (path : List ℕ) (k : Vec ℕ Global) (place : ℕ) (es : Entries) → indexed path (insert_entry key_eq es k place) ≡ cond (bytes_eq path k.items) (Some place) (indexed path es)
indexed_put path k place [] = refl
indexed_put path k place (e ∷ es) = indexed_by (key_eq k e.0) path k place e es refl (indexed_put path k place es)

pub index_more : (paths : List (List ℕ)) (place : ℕ) (x : List ℕ) (k : Vec ℕ Global) (es new : Entries) → place < length paths → x ≡ get_or paths place x → k.items ≡ x → new ≡ insert_entry key_eq es k place
    → IsIndexFrom (place + 1) paths es → IsIndexFrom place paths new
index_more paths place x k es new w h same is from =
    λ path.
    ap (indexed path) is ∙ indexed_put path k place es
    ∙ (λ i. cond ((ap (bytes_eq path) same ∙ turned path x) i) (Some place) (from path i))
    ∙ ap (position_from (λ (file : List ℕ). bytes_eq file path) place) (sym (drop_more paths place x w ∙ ap (λ (y : List ℕ). y ∷ drop (place + 1) paths) (sym h)))

pub index_none : (paths : List (List ℕ)) (place : ℕ) → place ≡ length paths → IsIndexFrom place paths []
index_none paths place e = λ path. ap (position_from (λ (file : List ℕ). bytes_eq file path) place) (sym (drop_all place paths (omega (arith, e))))
