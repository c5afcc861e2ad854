use Rattle.py_tokens.proofs.Lines.{passes_gap, passes_on}
use Rattle.std.proofs.Common.{◌≡◌, ◌<◌, ℕ, arith}
use Rattle.py_tokens.proofs.line.pass_gaps.Goals as goal

pub loop-gap-preserved : goal.loop-gap-preserved
loop-gap-preserved c =
    let step = passes_gap c.loop-gap.cursor.place c.gap_len-gap.result c.loop-gap.cursor.rest.now (some c.gap_len-gap.result c.if-gap-eq0.false) c.gap_len-gap.ensures.value in
    rw (c.pass.ensures.place, c.pass.ensures.rest) (passes_on c.args.cursor.now.place c.loop-gap.cursor.place _ c.args.cursor.now.rest.now c.loop-gap.cursor.rest.now _ c.loop-gap.invariant step)
  where
    some : (n : ℕ) → (n ≡ 0 → ⊥) → 0 < n
    some n is = omega arith
