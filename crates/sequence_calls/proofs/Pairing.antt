-- Pairs of elements, where one side ends.
use Rattle.std.proofs.Common.{ℕ, zero, suc, ◌≤◌, List, [], ◌∷◌, ◌++◌, ◌≡◌, ◌∙◌, refl, sym, ap, arith, length, drop, append-nil}
use Rattle.py_values.specs.declared.object.Obj.{Obj}
use Rattle.py_values.specs.declared.value.Value.{Value}
use Rattle.sequence_calls.specs.Sequences.{paired}

past : (ys : List Value) (i : ℕ) → length ys ≤ i → drop i ys ≡ []
past [] zero h = refl
past [] (suc i) h = refl
past (y ∷ ys) zero h = absurd (omega arith)
past (y ∷ ys) (suc i) h = past ys i (omega arith)

no_pairs : (zs : List Value) → paired zs [] ≡ []
no_pairs [] = refl
no_pairs (z ∷ zs) = refl

pub paired_over : (all os : List Obj) (xs ys : List Value) (i : ℕ) → length ys ≤ i → all ≡ os ++ paired (drop i xs) (drop i ys) → os ≡ all
paired_over all os xs ys i h e =
    sym (e ∙ (ap (λ (l : List Obj). os ++ l) (ap (paired (drop i xs)) (past ys i h) ∙ no_pairs (drop i xs)) ∙ append-nil os))
