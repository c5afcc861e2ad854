-- Lists from a place on.
use Rattle.std.proofs.Common.{◌≡◌, ◌∙◌, ◌+◌, ◌<◌, ℕ, suc, List, ◌∷◌, sym, ap, add-one, drop-cons, drop, get_or, length}

pub drop_some : {A : Type 0} (xs : List A) (i : ℕ) (x : A) → i < length xs → x ≡ get_or xs i x → drop i xs ≡ x ∷ drop (i + 1) xs
drop_some xs i x w h = rw add-one (drop-cons xs i x w ∙ ap (λ y. y ∷ drop (suc i) xs) (sym h))
