-- Lists of places without a place.
use Rattle.std.proofs.Common.{◌≡◌, Bool, true, false, List, [], ◌∷◌, ◌++◌, refl}
use Rattle.py_source.specs.declared.pos.Pos.{Pos}
use Rattle.py_grammar.specs.Context.{unless}

pub no_front : {X : Type 0} (xs ys : List X) → xs ++ ys ≡ [] → xs ≡ []
no_front [] ys h = refl
no_front (x ∷ xs) ys h = absurd cc

pub no_end : {X : Type 0} (xs ys : List X) → xs ++ ys ≡ [] → ys ≡ []
no_end [] ys h = h
no_end (x ∷ xs) ys h = absurd cc

pub unless_is : (b : Bool) (at : Pos) → unless b at ≡ [] → b ≡ true
unless_is true at h = refl
unless_is false at h = absurd cc
