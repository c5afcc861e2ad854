use Rattle.std.proofs.Common.{◌≡◌, ◌≢◌, ◌-◌, ◌∙◌, ℕ, zero, suc, List, refl, ap, arith}
use Rattle.std.specs.Prelude.{slice_get}
use Rattle.std.specs.Str.Lines.{lines}
use Rattle.machine_state.specs.Lines as told
use Rattle.machine_state.proofs.lines.numbered.Goals as goal

numbered_at : (n : ℕ) (ls : List (List ℕ)) → n ≢ 0 → slice_get ls (n - 1) ≡ told.numbered n ls
numbered_at zero ls h = absurd (h refl)
numbered_at (suc n) ls h = let e : suc n - 1 ≡ n = omega arith in ap (λ (k : ℕ). slice_get ls k) e

pub returns : goal.returns
returns c = c.line_of.ensures ∙ numbered_at c.args.number (lines c.args.text.now) (omega arith)
