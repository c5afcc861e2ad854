-- Marks on numbers.
use Rattle.std.proofs.Common.{◌≡◌, ℕ, zero, suc, ◌==◌, ◌||◌, Bool, true, false, List, [], ◌∷◌, ◌++◌, inl, inr, refl, sym, ap, ap₂, ◌∙◌, Result, Ok, Err, OnOk}
use Rattle.std.specs.List.{list_all}
use Rattle.session_types.specs.Members.{IsMember}
use Rattle.session_types.proofs.Lists.{and_both, eqb_is, or_cases}
use Rattle.setup_stack.specs.declared.answers.Answer.{Answer as CodeAnswer}
use Rattle.setup_stack.specs.declared.answers.Answer.TheVariants as told
use Rattle.setup_stack.specs.declared.answers.Grant.{Grant as CodeGrant}
use Rattle.setup_stack.specs.Standing.{IsNoted, is_marked}

pub marked_push : (marks : List Bool) (e : ℕ) → is_marked (marks ++ false ∷ []) e ≡ is_marked marks e
marked_push [] zero = refl
marked_push [] (suc e) = refl
marked_push (x ∷ marks) zero = refl
marked_push (x ∷ marks) (suc e) = marked_push marks e

-- where all are marked, each is
pub each_marked : (marks : List Bool) (ds : List ℕ) → list_all (is_marked marks) ds ≡ true → (r : ℕ) → IsMember r ds → is_marked marks r ≡ true
each_marked marks [] h r m = absurd m
each_marked marks (d ∷ ds) h r (inl e) = ap (is_marked marks) e ∙ (and_both (is_marked marks d) (list_all (is_marked marks) ds) h).0
each_marked marks (d ∷ ds) h r (inr m) = each_marked marks ds (and_both (is_marked marks d) (list_all (is_marked marks) ds) h).1 r m

-- what was given something is marked, where all that it asks for are
pub noted_more : {V E : Type 0} (requests : List ℕ) (d : ℕ) (answer : CodeAnswer V E) (g : CodeGrant V) (marks after : List Bool) → answer ≡ told.Given g → list_all (is_marked marks) requests ≡ true → ((e : ℕ) → is_marked after e ≡ (is_marked marks e || (d == e))) → IsNoted requests d answer marks after
noted_more requests d answer g marks after ea all h =
    λ e m.
    elim (or_cases (is_marked marks e) (d == e) (sym (h e) ∙ m)) [
      | inl q ↦ inl q
      | inr q ↦ inr (sym (eqb_is d e q), (g, ea), each_marked marks requests all)
    ]

-- the same, as the code looks at it
pub noted_after : {X F V E : Type 0} {g : CodeGrant V} (r : Result X F) (requests asked : List ℕ) (d number : ℕ) (answer : CodeAnswer V E) (slice marks after : List Bool) (b : Bool)
    → answer ≡ told.Given g
    → slice ≡ marks
    → asked ≡ requests
    → b ≡ list_all (is_marked slice) asked
    → b ≡ true
    → number ≡ d
    → OnOk r ((e : ℕ) → is_marked after e ≡ (is_marked marks e || (number == e)))
    → OnOk r (IsNoted requests d answer marks after)
noted_after {X} {F} {V} {E} {g} (Ok x) requests asked d number answer slice marks after b ea es eq eb et en h =
    noted_more requests d answer g marks after ea (sym (ap₂ (λ (l : List Bool) (a : List ℕ). list_all (is_marked l) a) es eq) ∙ (sym eb ∙ et)) (λ e. h e ∙ ap (λ (n : ℕ). is_marked marks e || (n == e)) en)
noted_after {X} {F} {V} {E} {g} (Err x) requests asked d number answer slice marks after b ea es eq eb et en h = h

pub looked_at : (slice marks : List Bool) (number d : ℕ) (b : Bool) → slice ≡ marks → number ≡ d → b ≡ is_marked slice number → b ≡ true → is_marked marks d ≡ true
looked_at slice marks number d b es en eb et = sym (ap₂ (λ (l : List Bool) (n : ℕ). is_marked l n) es en) ∙ (sym eb ∙ et)
