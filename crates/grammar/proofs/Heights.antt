-- THE HEIGHT IN A READING is that of what is read.
use Rattle.std.proofs.Common.{◌≡◌, ℕ, ◌+◌, max, List, ap, ◌∙◌}
use Rattle.parsing.specs.Reading.{is_some}
use Rattle.grammar.specs.Table.{taken, Grammar, In, Fars, Reads, by_token, by_give, by_node, by_line, by_inner, by_far, by_join, by_fork, by_other, both, left, right, done, again, by_when, by_room, by_lift, by_seen, passed, by_last, by_more, Line}
use Rattle.grammar.specs.Heights.{Sizes, Sized, IsSized}

module _ (g : Grammar) (z : Sizes g) (ok : IsSized g z) (fl : Fars g) where
  keeps : {S A : g.Sort} {p : In g S A} {s : g.El S} {a : g.El A} {h i : ℕ} {w : List g.Tok} → Reads g fl S A p s h w a i → Sized g z p → z S s ≡ h → z A a ≡ i
  keeps (by_token {s = s} t e) f r = f s t ∙ r
  keeps (by_give {s = s}) f r = f s ∙ r
  keeps (by_node {s = s}) f r = f s ∙ ap (λ v. 1 + v) r
  keeps (by_line {r = n} {s = s} {h = h} {t = t} {k = k} d) f r = f s t ∙ ap (λ v. max v (z (g.sort n) t)) r ∙ ap (λ v. max h v) (keeps d (ok.1 n) ok.0)
  keeps (by_inner {r = n} {s = s} {h = h} {t = t} {k = k} d) f r = f s t ∙ ap (λ v. max v (z (g.sort n) t)) r ∙ ap (λ v. max h v) (keeps d (ok.1 n) ok.0)
  keeps (by_join {r = n} {s = s} {h = h} {t = t} {k = k} d) f r = f s t ∙ ap (λ v. max (1 + v) (z (g.sort n) t)) r ∙ ap (λ v. max (1 + h) v) (keeps d (ok.1 n) ok.0)
  keeps (by_far {s = s} {t = t} d) f r = f s t ∙ r
  keeps (by_fork {s = s} t u x y d) f r = keeps d f.1.0 (f.0 s t u ∙ r)
  keeps (by_other {s = s} {t = t} d) f r = f.1.1 s t ∙ r
  keeps (both d e) f r = keeps e f.1 (keeps d f.0 r)
  keeps (left d) f r = keeps d f.0 r
  keeps (right d) f r = keeps d f.1 r
  keeps done f r = r
  keeps (again d e) f r = keeps e f (keeps d f r)
  keeps (by_when e d) f r = keeps d f r
  keeps (by_room d) f r = keeps d f r
  keeps (by_lift {s = s} d) f r = keeps d f.1 (f.0 s ∙ ap (λ v. 1 + v) r)
  keeps (by_seen {s = s} {b = b} e d) f r = keeps d f.1 (f.0 s b e ∙ r)
  keeps (passed {s = s} {d = d} e) f r = f.0.1.1 s d e ∙ r
  keeps (by_last {c = c} {s = s} {a = a} d e) f r = keeps e f (f.0.1.0 a ∙ keeps d f.1.0 (f.0.0 s ∙ ap (λ v. taken (is_some (c s)) v) r))
  keeps (by_more {c = c} {s = s} d e) f r = keeps e f (keeps d f.1.1 (f.0.0 s ∙ ap (λ v. taken (is_some (c s)) v) r))

  -- what a line reads
  pub as_high : (r : g.Name) (w : List g.Tok) (y : g.El (g.sort r) × ℕ) → Line g fl r w y → z (g.sort r) y.0 ≡ y.1
  as_high r w y d = keeps d (ok.1 r) ok.0
