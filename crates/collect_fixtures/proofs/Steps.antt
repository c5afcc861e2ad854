-- One element more of a list that is gone through.
use Rattle.std.proofs.Common.{◌≡◌, ℕ, ◌+◌, ◌<◌, List, [], ◌∷◌, ◌++◌, length, drop, get_or, sym, ap, ◌∙◌}
use Rattle.std.specs.Prelude.{flat_map}
use Rattle.std.proofs.lemmas.List.{append_assoc, drop_more}

pub flat_on : {X Y : Type 0} (f : X → List Y) (xs : List X) (i : ℕ) (x : X) (done more all : List Y)
    → i < length xs → x ≡ get_or xs i x → done ++ flat_map f (drop i xs) ≡ all → more ≡ done ++ f x → more ++ flat_map f (drop (i + 1) xs) ≡ all
flat_on f xs i x done more all l e is new =
    ap (λ ys. ys ++ flat_map f (drop (i + 1) xs)) new
    ∙ (append_assoc done (f x) (flat_map f (drop (i + 1) xs))
    ∙ (ap (λ y. done ++ flat_map f (y ∷ drop (i + 1) xs)) e
    ∙ (ap (λ ys. done ++ flat_map f ys) (sym (drop_more xs i x l)) ∙ is)))
