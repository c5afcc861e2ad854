-- What a feed can still give falls with each number that it gives.
use Rattle.std.proofs.Common.{◌≡◌, ◌≢◌, ℕ, zero, suc, ◌+◌, ◌<◌, ◌≤◌, cond, List, [], ◌∷◌, ◌++◌, inl, inr, refl, ap, ◌∙◌, subst, eqb, arith}
use Rattle.std.proofs.lemmas.Bool.{cases_eq}
use Rattle.share_files.specs.Deal.{times, left}
use Rattle.share_files.proofs.Dealt.{times_same, times_else, times-append}

times_more : (x n : ℕ) (given : List ℕ) → n ≢ x → times x (given ++ n ∷ []) ≡ times x given
times_more x n given ne = omega (arith, times-append x given (n ∷ []), times_else x n [] ne)

left_same : (limit n : ℕ) (given : List ℕ) → limit ≤ n → left limit (given ++ n ∷ []) ≡ left limit given
left_same zero n given le = refl
left_same (suc m) n given le =
    ap (λ t. cond (eqb t 0) 1 0 + left m (given ++ n ∷ [])) (times_more m n given (λ e. omega (arith, e, le)))
    ∙ ap (λ t. cond (eqb (times m given) 0) 1 0 + t) (left_same m n given (omega (arith, le)))

left_one : (limit n : ℕ) (given : List ℕ) → n < limit → times n given ≡ 0 → left limit (given ++ n ∷ []) + 1 ≡ left limit given
left_one zero n given lt new = absurd (omega (arith, lt))
left_one (suc m) n given lt new = elim (cases_eq n m) [
  | inl e ↦
      let now : times m (given ++ n ∷ []) ≡ 1 = times-append m given (n ∷ []) ∙ omega (arith, times_same m n [] e, subst (λ k. times k given ≡ 0) e new) in
      let was : times m given ≡ 0 = subst (λ k. times k given ≡ 0) e new in
      rw (now, was) (omega (arith, left_same m n given (omega (arith, e))))
  | inr ne ↦
      let same = times_more m n given ne in
      let t : ℕ = cond (eqb (times m given) 0) 1 0 in
      let rest = left_one m n given (omega (arith, lt, ne)) new in
      rw same (let h : (t + left m (given ++ n ∷ [])) + 1 ≡ t + left m given = omega (arith, rest) in h)
]

pub left_falls : (limit n : ℕ) (given : List ℕ) → n < limit → times n given ≡ 0 → left limit (given ++ n ∷ []) < left limit given
left_falls limit n given lt new = omega (arith, left_one limit n given lt new)
