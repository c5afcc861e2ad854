-- What names behind others come to.
use Rattle.std.proofs.Common.{◌≡◌, ℕ, List, [], ◌∷◌, ◌++◌, Bool, true, false, not, refl, sym, ap, subst, ◌∙◌}
use Rattle.std.specs.Prelude.{◌&&◌, ◌||◌, cond}
use Rattle.std.specs.List.{list_any, IsDistinct}
use Rattle.std.specs.Str.{bytes_eq}
use Rattle.std.proofs.lemmas.Cmp.{nat_list_eq_equiv}
use Rattle.std.proofs.lemmas.List.Folds.{list_any-append}
use Rattle.std.proofs.lemmas.Map.Keys.{IsDistinct-push}
use Rattle.std.proofs.lemmas.Slice.Eq.{bytes_eq-Decides}
use Rattle.py_tree.specs.Names.{is_among, with_local, locals_behind, names_of, names_bound, of_block, locals_of, globals_of}
use Rattle.py_tree.specs.Statements.{Block, Parameter}

-- one name more, where it is another one
another : (names : List (List ℕ)) (name other : List ℕ) → bytes_eq other name ≡ false → is_among (names ++ other ∷ []) name ≡ is_among names name
another names name other e = list_any-append (λ n. bytes_eq n name) names (other ∷ []) ∙ by (is_among names name) (bytes_eq other name) e
  where
    by : (b c : Bool) → c ≡ false → (b || (c || false)) ≡ b
    by true c e = refl
    by false c e = rw e refl

-- one name more, where it is that one
itself : (names : List (List ℕ)) (name : List ℕ) → is_among (names ++ name ∷ []) name ≡ true
itself names name = list_any-append (λ n. bytes_eq n name) names (name ∷ []) ∙ by (is_among names name) (bytes_eq name name) (nat_list_eq_equiv.refl name)
  where
    by : (b c : Bool) → c ≡ true → (b || (c || false)) ≡ true
    by true c e = refl
    by false c e = rw e refl

unlike : (globals names : List (List ℕ)) (name other : List ℕ) (a : Bool) → bytes_eq other name ≡ false → is_among (cond a names (names ++ other ∷ [])) name ≡ is_among names name
unlike globals names name other true e = refl
unlike globals names name other false e = another names name other e

alike : (names : List (List ℕ)) (name : List ℕ) (a b : Bool) → is_among names name ≡ b → is_among (cond (a || b) names (names ++ name ∷ [])) name ≡ (b || not a)
alike names name true true e = e
alike names name true false e = e
alike names name false true e = e
alike names name false false e = itself names name

no_more : (b g : Bool) → b ≡ (b || (false && not g))
no_more true g = refl
no_more false g = refl

one_more : (b g : Bool) → (b || not g) ≡ (b || (true && not g))
one_more b g = refl

-- one name behind others
one_by : (globals names : List (List ℕ)) (name other : List ℕ) (c : Bool) → bytes_eq other name ≡ c → is_among (with_local globals names other) name ≡ (is_among names name || (c && not (is_among globals name)))
one_by globals names name other false e = unlike globals names name other (is_among globals other || is_among names other) e ∙ no_more (is_among names name) (is_among globals name)
one_by globals names name other true e = subst (λ o. is_among (with_local globals names o) name ≡ (is_among names name || (true && not (is_among globals name)))) (sym ((bytes_eq-Decides other name).0 e)) (alike names name (is_among globals name) (is_among names name) refl)

pub one : (globals names : List (List ℕ)) (name other : List ℕ) → is_among (with_local globals names other) name ≡ (is_among names name || (bytes_eq other name && not (is_among globals name)))
one globals names name other = one_by globals names name other (bytes_eq other name) refl

joins : (b c r g : Bool) → ((b || (c && not g)) || (r && not g)) ≡ (b || ((c || r) && not g))
joins true c r g = refl
joins false true r true = by r
  where
    by : (r : Bool) → (false || (r && false)) ≡ false
    by true = refl
    by false = refl
joins false true r false = refl
joins false false r g = refl

-- names behind others
pub behind : (globals names more : List (List ℕ)) (name : List ℕ) → is_among (locals_behind globals names more) name ≡ (is_among names name || (is_among more name && not (is_among globals name)))
behind globals names [] name = no_more (is_among names name) (is_among globals name)
behind globals names (other ∷ rest) name = behind globals (with_local globals names other) rest name ∙ (ap (λ b. b || (is_among rest name && not (is_among globals name))) (one globals names name other) ∙ joins (is_among names name) (bytes_eq other name) (is_among rest name) (is_among globals name))

shares : (p b g : Bool) → ((false || (p && not g)) || (b && not g)) ≡ ((p || b) && not g)
shares p b g = joins false p b g

pub local : (params : List Parameter) (body : Block) (name : List ℕ) → is_among (locals_of params body) name ≡ ((is_among (names_of params) name || is_among (names_bound (of_block body)) name) && not (is_among (globals_of body) name))
local params body name =
    behind (globals_of body) (locals_behind (globals_of body) [] (names_of params)) (names_bound (of_block body)) name
    ∙ (ap (λ b. b || (is_among (names_bound (of_block body)) name && not (is_among (globals_of body) name))) (behind (globals_of body) [] (names_of params) name)
    ∙ shares (is_among (names_of params) name) (is_among (names_bound (of_block body)) name) (is_among (globals_of body) name))

-- NONE STANDS TWICE
turned : (names : List (List ℕ)) (name : List ℕ) → list_any (bytes_eq name) names ≡ is_among names name
turned [] name = refl
turned (n ∷ names) name = rw (nat_list_eq_equiv.symm name n) (ap (λ b. bytes_eq n name || b) (turned names name))

none_of : (a b : Bool) → (a || b) ≡ false → b ≡ false
none_of true b e = absurd (cc e)
none_of false b e = e

once_by : (globals names : List (List ℕ)) (other : List ℕ) (a : Bool) → (is_among globals other || is_among names other) ≡ a → IsDistinct bytes_eq names → IsDistinct bytes_eq (cond a names (names ++ other ∷ []))
once_by globals names other true e d = d
once_by globals names other false e d = IsDistinct-push nat_list_eq_equiv names other d (turned names other ∙ none_of (is_among globals other) (is_among names other) e)

once_behind : (globals names more : List (List ℕ)) → IsDistinct bytes_eq names → IsDistinct bytes_eq (locals_behind globals names more)
once_behind globals names [] d = d
once_behind globals names (other ∷ rest) d = once_behind globals (with_local globals names other) rest (once_by globals names other (is_among globals other || is_among names other) refl d)

none_yet : IsDistinct {K = List ℕ} bytes_eq []
unfolding IsDistinct
none_yet = tt

pub once : (params : List Parameter) (body : Block) → IsDistinct bytes_eq (locals_of params body)
once params body = once_behind (globals_of body) (locals_behind (globals_of body) [] (names_of params)) (names_bound (of_block body)) (once_behind (globals_of body) [] (names_of params) none_yet)
