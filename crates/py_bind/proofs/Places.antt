-- The place of a path among paths.
use Rattle.std.proofs.Common.{◌≡◌, ℕ, zero, suc, ◌+◌, ◌<◌, Bool, true, false, cond, List, [], ◌∷◌, Option, Some, None, refl, sym, ap, ◌∙◌, subst, arith}
use Rattle.std.specs.Prelude.{IfSome, IfNone, bytes_eq, slice_get, option_map}
use Rattle.std.specs.Option.{option_or}
use Rattle.std.proofs.lemmas.Bool.{false≢true}
use Rattle.std.proofs.lemmas.Slice.Eq.{bytes_eq-Decides}
use Rattle.py_bind.specs.Modules.{place_of, first_there, candidates, module_place, IsAmong, IsNamed, NoneThere}

abbrev PlaceIs : List (List ℕ) → List ℕ → Option ℕ → Type 0
PlaceIs paths path None = (at : ℕ) → slice_get paths at ≡ Some path → ⊥
PlaceIs paths path (Some at) = slice_get paths at ≡ Some path

not_here : (p path : List ℕ) (paths : List (List ℕ)) → bytes_eq path p ≡ false → ((at : ℕ) → slice_get paths at ≡ Some path → ⊥) → (at : ℕ) → slice_get (p ∷ paths) at ≡ Some path → ⊥
not_here p path paths e nowhere zero h =
    let same : path ≡ p = cc in
    false≢true (sym e ∙ (bytes_eq-Decides path p).1 same)
not_here p path paths e nowhere (suc at) h = nowhere at h

place_by : (p path : List ℕ) (paths : List (List ℕ)) (b : Bool) (o : Option ℕ) → bytes_eq path p ≡ b → PlaceIs paths path o → PlaceIs (p ∷ paths) path (cond b (Some 0) (option_map suc o))
place_by p path paths true o e h = ap (λ (x : List ℕ). Some x) (sym ((bytes_eq-Decides path p).0 e))
place_by p path paths false None e h = not_here p path paths e h
place_by p path paths false (Some at) e h = h

place_is : (paths : List (List ℕ)) (path : List ℕ) → PlaceIs paths path (place_of paths path)
place_is [] path = λ at h. absurd (cc)
place_is (p ∷ paths) path = place_by p path paths (bytes_eq path p) (place_of paths path) refl (place_is paths path)

-- the first that is there
abbrev FirstIs : List (List ℕ) → List (List ℕ) → Option ℕ → Type 0
FirstIs paths others None = NoneThere paths others
FirstIs paths others (Some at) = IsNamed paths others at

none_more : (paths : List (List ℕ)) (path : List ℕ) (others : List (List ℕ)) → ((at : ℕ) → slice_get paths at ≡ Some path → ⊥) → NoneThere paths others → NoneThere paths (path ∷ others)
none_more paths path others nowhere rest zero other h among = let same : path ≡ other = cc in nowhere among.at (among.is ∙ ap (λ (x : List ℕ). Some x) (sym same))
none_more paths path others nowhere rest (suc which) other h among = rest which other h among

before_more : (paths : List (List ℕ)) (path : List ℕ) (others : List (List ℕ)) (which : ℕ) → ((at : ℕ) → slice_get paths at ≡ Some path → ⊥) → ((earlier : ℕ) (other : List ℕ) → earlier < which → slice_get others earlier ≡ Some other → ¬ IsAmong paths other) → (earlier : ℕ) (other : List ℕ) → earlier < suc which → slice_get (path ∷ others) earlier ≡ Some other → ¬ IsAmong paths other
before_more paths path others which nowhere rest zero other lt h among = let same : path ≡ other = cc in nowhere among.at (among.is ∙ ap (λ (x : List ℕ). Some x) (sym same))
before_more paths path others which nowhere rest (suc earlier) other lt h among = let below : earlier < which = omega arith in rest earlier other below h among

first_by : (paths : List (List ℕ)) (path : List ℕ) (others : List (List ℕ)) (first rest : Option ℕ) → PlaceIs paths path first → FirstIs paths others rest → FirstIs paths (path ∷ others) (option_or first rest)
first_by paths path others None None p r = none_more paths path others p r
first_by paths path others None (Some at) p r = record { which = suc r.which; path = r.path; is_looked_for = r.is_looked_for; is = r.is; none_before = before_more paths path others r.which p r.none_before }
first_by paths path others (Some at) rest p r = record { which = 0; path = path; is_looked_for = refl; is = p; none_before = λ earlier other lt h among. absurd (omega (arith, lt)) }

first_is : (paths others : List (List ℕ)) → FirstIs paths others (first_there paths others)
first_is paths [] = λ which path h among. absurd (cc)
first_is paths (path ∷ others) = first_by paths path others (place_of paths path) (first_there paths others) (place_is paths path) (first_is paths others)

some_by : (paths others : List (List ℕ)) (r : Option ℕ) → FirstIs paths others r → IfSome r (λ at. IsNamed paths others at)
some_by paths others None h = tt
some_by paths others (Some at) h = h

none_by : (paths others : List (List ℕ)) (r : Option ℕ) → FirstIs paths others r → IfNone r (NoneThere paths others)
none_by paths others None h = h
none_by paths others (Some at) h = tt

named_there : (paths others : List (List ℕ)) (r : Option ℕ) → r ≡ first_there paths others → IfSome r (λ at. IsNamed paths others at)
named_there paths others r e = some_by paths others r (subst (FirstIs paths others) (sym e) (first_is paths others))

none_there : (paths others : List (List ℕ)) (r : Option ℕ) → r ≡ first_there paths others → IfNone r (NoneThere paths others)
none_there paths others r e = none_by paths others r (subst (FirstIs paths others) (sym e) (first_is paths others))

-- The loop over the paths: those that are left, from a place on
abbrev pub moved : ℕ → Option ℕ → Option ℕ
moved at None = None
moved at (Some n) = Some (at + n)

-- what `find_module` answers, over an equal text
pub named_at : (paths : List (List ℕ)) (i j : List ℕ) (dotted : List (List ℕ)) (r : Option ℕ) → r ≡ module_place paths i dotted → i ≡ j → IfSome r (λ at. IsNamed paths (candidates j dotted) at)
named_at paths i j dotted r e same = named_there paths (candidates j dotted) r (e ∙ ap (λ (k : List ℕ). module_place paths k dotted) same)

pub none_at : (paths : List (List ℕ)) (i j : List ℕ) (dotted : List (List ℕ)) (r : Option ℕ) → r ≡ module_place paths i dotted → i ≡ j → IfNone r (NoneThere paths (candidates j dotted))
none_at paths i j dotted r e same = none_there paths (candidates j dotted) r (e ∙ ap (λ (k : List ℕ). module_place paths k dotted) same)

-- the first of two
pub or_some : (x y : Option ℕ) (at : ℕ) → Some at ≡ x → Some at ≡ option_or x y
or_some x y at e = ap (λ (o : Option ℕ). option_or o y) e

pub or_none : (x y r : Option ℕ) → None ≡ x → r ≡ y → r ≡ option_or x y
or_none x y r e h = h ∙ ap (λ (o : Option ℕ). option_or o y) e
