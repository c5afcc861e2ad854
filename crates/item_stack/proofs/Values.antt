-- The values that were given, in the words of a session.
use Rattle.std.proofs.Common.{◌≡◌, ℕ, ◌==◌, cond, List, [], ◌∷◌, ◌++◌, map, refl, sym, ap, ap₂, append_assoc, Option, None, Some}
use Rattle.item_stack.specs.Answers.{argument_given, value_given, values_given}
use Rattle.item_stack.specs.States.{grant_noted}
use Rattle.session_rules.specs.Demand.{numbers_of}
use Rattle.session_rules.specs.Session.{value_for, value_of_argument, values_for, with_value}
use Rattle.session_rules.specs.World.{Language}
use Rattle.session_types.specs.Numbers.{with_number}
use Rattle.setup_stack.specs.Grants.{orders_of}
use Rattle.setup_stack.specs.declared.answers.Grant.{Grant as CodeGrant}

-- values in front of others, where there are any
abbrev pub put_before : {V : Type 0} → List V → Option (List V) → Option (List V)
put_before vs None = None
put_before vs (Some ws) = Some (vs ++ ws)

pub before_none : {V : Type 0} (o : Option (List V)) → put_before [] o ≡ o
before_none None = refl
before_none (Some ws) = refl

pub before_one : {V : Type 0} (vs : List V) (v : V) (o : Option (List V)) → put_before vs (with_value (Some v) o) ≡ put_before (vs ++ v ∷ []) o
before_one vs v None = refl
before_one {V} vs v (Some ws) = ap (λ (l : List V). Some l) (sym (append_assoc vs (v ∷ []) ws))

module _ (L : Language) where
  value_same : (d : ℕ) (gs : List (CodeGrant L.Value)) → value_given d gs ≡ value_for {L = L} d (map (grant_noted L) gs)
  value_same d [] = refl
  value_same d (g ∷ gs) = ap (λ (o : Option L.Value). cond (d == g.def) (Some g.value) o) (value_same d gs)

  argument_same : (gs : List (CodeGrant L.Value)) (a : Option ℕ) → argument_given gs a ≡ value_of_argument {L = L} (map (grant_noted L) gs) a
  argument_same gs None = refl
  argument_same gs (Some d) = value_same d gs

  pub values_same : (gs : List (CodeGrant L.Value)) (asked : List (Option ℕ)) → values_given gs asked ≡ values_for {L = L} (map (grant_noted L) gs) asked
  values_same gs [] = refl
  values_same gs (a ∷ others) = ap₂ (λ (o : Option L.Value) (vs : Option (List L.Value)). with_value o vs) (argument_same gs a) (values_same gs others)

  pub orders_same : (gs : List (CodeGrant L.Value)) (ks : List ℕ) → orders_of gs ks ≡ numbers_of {L = L} (map (grant_noted L) gs) ks
  orders_same [] ks = refl
  orders_same (g ∷ gs) ks = orders_same gs (with_number g.order ks)
