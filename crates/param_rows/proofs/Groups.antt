-- A list is cut at the end of its first stretch.
use Rattle.std.proofs.Common.{◌≡◌, ℕ, ◌+◌, ◌-◌, ◌<◌, ◌≤◌, Bool, true, false, List, [], ◌∷◌, ◌++◌, length, suc, zero, refl, ap, sym, ◌∙◌, arith, inl, inr, get_or, drop, take, if◌then◌else◌}
use Rattle.std.specs.List.{flat_map}
use Rattle.std.proofs.lemmas.Bool.{cases_Bool}
use Rattle.std.proofs.lemmas.List.{append_assoc}
use Rattle.param_rows.specs.Grouping.{onto, stretches}
use Rattle.param_rows.specs.Cuts.{run_len}

module _ {A : Type 0} (same : A → A → Bool) where
  -- a run has an element at least
  run_suc : (x : A) (xs : List A) → (k : ℕ) × (run_len same (x ∷ xs) ≡ suc k)
  run_suc x [] = (0, refl)
  run_suc x (y ∷ ys) = elim (cases_Bool (same x y)) [
    | inl s ↦ (run_len same (y ∷ ys), rw s refl)
    | inr d ↦ (0, rw d refl)
  ]

  pub run_within : (xs : List A) → run_len same xs ≤ length xs
  run_within [] = omega arith
  run_within (x ∷ []) = omega arith
  run_within (x ∷ y ∷ ys) = elim (cases_Bool (same x y)) [
    | inl s ↦ rw s (omega (arith, run_within (y ∷ ys)))
    | inr d ↦ rw d (omega arith)
  ]

  pub run_some : (xs : List A) → 0 < length xs → 0 < run_len same xs
  run_some [] h = absurd (omega arith)
  run_some (x ∷ xs) h = omega (arith, (run_suc x xs).1)

  -- before the last element, and before one that differs, a run ends
  pub run_last : (xs : List A) (i : ℕ) → i + 1 ≡ length xs → run_len same (drop i xs) ≡ 1
  run_last [] i e = absurd (omega arith)
  run_last (x ∷ []) zero e = refl
  run_last (x ∷ y ∷ xs) zero e = absurd (omega arith)
  run_last (x ∷ xs) (suc i) e = run_last xs i (omega arith)

  pub run_break : (xs : List A) (i : ℕ) (d : A) → i + 1 < length xs → same (get_or xs i d) (get_or xs (suc i) d) ≡ false → run_len same (drop i xs) ≡ 1
  run_break [] i d lt no_more = absurd (omega arith)
  run_break (x ∷ []) i d lt no_more = absurd (omega arith)
  run_break (x ∷ y ∷ xs) zero d lt no_more = rw no_more refl
  run_break (x ∷ y ∷ xs) (suc i) d lt no_more = run_break (y ∷ xs) i d (omega arith) no_more

  pub run_on : (xs : List A) (i : ℕ) (d : A) → i + 1 < length xs → same (get_or xs i d) (get_or xs (suc i) d) ≡ true → run_len same (drop i xs) ≡ suc (run_len same (drop (suc i) xs))
  run_on [] i d lt more = absurd (omega arith)
  run_on (x ∷ []) i d lt more = absurd (omega arith)
  run_on (x ∷ y ∷ xs) zero d lt more = rw more refl
  run_on (x ∷ y ∷ xs) (suc i) d lt more = run_on (y ∷ xs) i d (omega arith) more

  onto_cut : (x y : A) (ys : List A) (m k : ℕ) → m ≡ suc k → onto same x (take m (y ∷ ys) ∷ stretches same (drop m (y ∷ ys)))
      ≡ (if same x y then ((x ∷ take m (y ∷ ys)) ∷ stretches same (drop m (y ∷ ys))) else ((x ∷ []) ∷ take m (y ∷ ys) ∷ stretches same (drop m (y ∷ ys))))
  onto_cut x y ys m k e = rw e refl

  pub stretches-cut : (x : A) (xs : List A) → stretches same (x ∷ xs) ≡ take (run_len same (x ∷ xs)) (x ∷ xs) ∷ stretches same (drop (run_len same (x ∷ xs)) (x ∷ xs))
  stretches-cut x [] = refl
  stretches-cut x (y ∷ ys) =
      let n = run_suc y ys in
      let first = ap (λ s. onto same x s) (stretches-cut y ys) ∙ onto_cut x y ys (run_len same (y ∷ ys)) n.0 n.1 in
      elim (cases_Bool (same x y)) [
        | inl s ↦ first ∙ (rw s refl)
        | inr d ↦ first ∙ (rw d (ap (λ s. (x ∷ []) ∷ s) (sym (stretches-cut y ys))))
      ]

  -- a pass goes on behind the first stretch
  pub pass_more : (g : List A → List A) (done more xs rest all : List A) (n m : ℕ) → 0 < length xs → n ≡ run_len same xs → m ≡ n → more ≡ done ++ g (take m xs) → rest ≡ drop n xs
      → done ++ flat_map g (stretches same xs) ≡ all → more ++ flat_map g (stretches same rest) ≡ all
  pass_more g done more [] rest all n m some is same_n step left so_far = absurd (omega arith)
  pass_more g done more (x ∷ xs) rest all n m some is same_n step left so_far =
      rw (step, left, same_n, is)
      (append_assoc done (g (take (run_len same (x ∷ xs)) (x ∷ xs))) (flat_map g (stretches same (drop (run_len same (x ∷ xs)) (x ∷ xs))))
      ∙ ap (λ s. done ++ flat_map g s) (sym (stretches-cut x xs)) ∙ so_far)

  -- the whole list is the first run, where each two neighbours are the same
  pub run_all : (xs : List A) (at : ℕ) → length xs ≤ at → 1 ≤ at → (1 ≤ length xs → at ≤ length xs) → (at - 1) + run_len same (drop (at - 1) xs) ≡ run_len same xs → length xs ≡ run_len same xs
  run_all [] at le some within so_far = refl
  run_all (x ∷ xs) at le some within so_far = omega (arith, within (omega arith), so_far, run_last (x ∷ xs) (at - 1) (omega (arith, within (omega arith))))
