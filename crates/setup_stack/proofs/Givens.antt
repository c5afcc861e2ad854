-- On what was given.
use Rattle.std.proofs.Common.{◌≡◌, ℕ, List, [], ◌∷◌, refl, ap, map}
use Rattle.session_types.specs.Numbers.{joined, with_number}
use Rattle.session_rules.specs.World.{Language, Rules}
use Rattle.session_rules.specs.Demand.{kept_of, numbers_of, values_of}
use Rattle.setup_stack.specs.declared.answers.Grant.{Grant as CodeGrant}
use Rattle.setup_stack.specs.Grants.{bases_of, orders_of}
use Rattle.setup_stack.specs.Views.{grants_of}

pub values_same : {L : Language} (rules : Rules L) (gs : List (CodeGrant L.Value)) → values_of (grants_of rules gs) ≡ map (λ (g : CodeGrant L.Value). g.value) gs
values_same rules [] = refl
values_same {L} rules (g ∷ gs) = ap (λ (l : List L.Value). g.value ∷ l) (values_same rules gs)

pub orders_same : {L : Language} (rules : Rules L) (gs : List (CodeGrant L.Value)) (ks : List ℕ) → orders_of gs ks ≡ numbers_of (grants_of rules gs) ks
orders_same rules [] ks = refl
orders_same rules (g ∷ gs) ks = orders_same rules gs (with_number g.order ks)

pub bases_same : {L : Language} (rules : Rules L) (gs : List (CodeGrant L.Value)) (ks : List ℕ) → bases_of gs ks ≡ kept_of (grants_of rules gs) ks
bases_same rules [] ks = refl
bases_same rules (g ∷ gs) ks = bases_same rules gs (joined g.bases (joined (g.order ∷ []) ks))
