-- A LIMIT ON OTHER GRAMMARS' LINES is one on the value that is read.
use Rattle.std.proofs.Common.{◌≡◌, ℕ, ◌≤◌, max, List, sym, arith}
use Rattle.grammar.specs.Table.{Grammar, In, Fars, Reads, by_token, by_give, by_node, by_line, by_inner, by_far, by_join, by_fork, by_other, both, left, right, done, again, by_when, by_room, by_lift, by_seen, passed, by_last, by_more, Line}
use Rattle.grammar.specs.Heights.{Sizes}
use Rattle.grammar.specs.Measures.{FarSizes, Measured, IsMeasured}

same_low : (a b n : ℕ) → a ≡ b → b ≤ n → a ≤ n
same_low a b n e h = omega (arith, e, h)

left_low : (a b c n : ℕ) → a ≡ max b c → a ≤ n → b ≤ n
left_low a b c n e h = omega (arith, e, h)

right_low : (a b c n : ℕ) → a ≡ max b c → a ≤ n → c ≤ n
right_low a b c n e h = omega (arith, e, h)

both_low : (a b c n : ℕ) → a ≡ max b c → b ≤ n → c ≤ n → a ≤ n
both_low a b c n e h i = omega (arith, e, h, i)

module _ (g : Grammar) (z : Sizes g) (y : FarSizes g) (ok : IsMeasured g z y) (n : ℕ) (fl fm : Fars g) where
  module _ (of : (q : g.Far) (w : List g.Tok) (t : g.El (g.far_sort q)) → fl q w t → fm q w t × (y q t ≤ n)) where
    widen : {S A : g.Sort} {p : In g S A} {s : g.El S} {a : g.El A} {h i : ℕ} {w : List g.Tok} → Reads g fl S A p s h w a i → Measured g z y p → z S s ≤ n → Reads g fm S A p s h w a i × (z A a ≤ n)
    widen (by_token {s = s} t e) f r = (by_token t e, same_low _ _ n (f s t) r)
    widen (by_give {s = s}) f r = (by_give, same_low _ _ n (f s) r)
    widen (by_node {s = s}) f r = (by_node, same_low _ _ n (f s) r)
    widen (by_line {r = q} {s = s} {t = t} d) f r = let x = widen d (ok.1 q) (same_low _ _ n ok.0 (omega arith)) in (by_line x.0, both_low _ _ _ n (f s t) r x.1)
    widen (by_inner {r = q} {s = s} {t = t} d) f r = let x = widen d (ok.1 q) (same_low _ _ n ok.0 (omega arith)) in (by_inner x.0, both_low _ _ _ n (f s t) r x.1)
    widen (by_join {r = q} {s = s} {t = t} d) f r = let x = widen d (ok.1 q) (same_low _ _ n ok.0 (omega arith)) in (by_join x.0, both_low _ _ _ n (f s t) r x.1)
    widen (by_far {q = q} {s = s} {w = w} {t = t} d) f r = let x = of q w t d in (by_far x.0, both_low _ _ _ n (f s t) r x.1)
    widen (by_fork {s = s} t u i j d) f r = let x = widen d f.1.0 (same_low _ _ n (f.0 s t u) r) in (by_fork t u i j x.0, x.1)
    widen (by_other {q = q} {s = s} {w = w} {t = t} d) f r = let x = of q w t d in (by_other x.0, both_low _ _ _ n (f.1.1 s t) r x.1)
    widen (both d e) f r = let x = widen d f.0 r in let v = widen e f.1 x.1 in (both x.0 v.0, v.1)
    widen (left d) f r = let x = widen d f.0 r in (left x.0, x.1)
    widen (right d) f r = let x = widen d f.1 r in (right x.0, x.1)
    widen done f r = (done, r)
    widen (again d e) f r = let x = widen d f r in let v = widen e f x.1 in (again x.0 v.0, v.1)
    widen (by_when e d) f r = let x = widen d f r in (by_when e x.0, x.1)
    widen (by_room d) f r = let x = widen d f r in (by_room x.0, x.1)
    widen (by_lift {s = s} d) f r = let x = widen d f.1 (same_low _ _ n (f.0 s) r) in (by_lift x.0, x.1)
    widen (by_seen {s = s} {b = b} e d) f r = let x = widen d f.1 (same_low _ _ n (f.0 s b e) r) in (by_seen e x.0, x.1)
    widen (passed {s = s} {d = d} e) f r = (passed e, same_low _ _ n (f.0.1.1 s d e) r)
    widen (by_last {s = s} {a = a} d e) f r = let x = widen d f.1.0 (same_low _ _ n (f.0.0 s) r) in let v = widen e f (same_low _ _ n (f.0.1.0 a) x.1) in (by_last x.0 v.0, v.1)
    widen (by_more {s = s} d e) f r = let x = widen d f.1.1 (same_low _ _ n (f.0.0 s) r) in let v = widen e f x.1 in (by_more x.0 v.0, v.1)

    -- what is read within the limit is read, and no higher
    pub is_low : (r : g.Name) (w : List g.Tok) (x : g.El (g.sort r) × ℕ) → Line g fl r w x → Line g fm r w x × (z (g.sort r) x.0 ≤ n)
    is_low r w x d = widen d (ok.1 r) (same_low _ _ n ok.0 (omega arith))

  module _ (to : (q : g.Far) (w : List g.Tok) (t : g.El (g.far_sort q)) → fm q w t → y q t ≤ n → fl q w t) where
    narrow : {S A : g.Sort} {p : In g S A} {s : g.El S} {a : g.El A} {h i : ℕ} {w : List g.Tok} → Reads g fm S A p s h w a i → Measured g z y p → z A a ≤ n → Reads g fl S A p s h w a i × (z S s ≤ n)
    narrow (by_token {s = s} t e) f r = (by_token t e, same_low _ _ n (sym (f s t)) r)
    narrow (by_give {s = s}) f r = (by_give, same_low _ _ n (sym (f s)) r)
    narrow (by_node {s = s}) f r = (by_node, same_low _ _ n (sym (f s)) r)
    narrow (by_line {r = q} {s = s} {t = t} d) f r = let x = narrow d (ok.1 q) (right_low _ _ _ n (f s t) r) in (by_line x.0, left_low _ _ _ n (f s t) r)
    narrow (by_inner {r = q} {s = s} {t = t} d) f r = let x = narrow d (ok.1 q) (right_low _ _ _ n (f s t) r) in (by_inner x.0, left_low _ _ _ n (f s t) r)
    narrow (by_join {r = q} {s = s} {t = t} d) f r = let x = narrow d (ok.1 q) (right_low _ _ _ n (f s t) r) in (by_join x.0, left_low _ _ _ n (f s t) r)
    narrow (by_far {q = q} {s = s} {w = w} {t = t} d) f r = (by_far (to q w t d (right_low _ _ _ n (f s t) r)), left_low _ _ _ n (f s t) r)
    narrow (by_fork {s = s} t u i j d) f r = let x = narrow d f.1.0 r in (by_fork t u i j x.0, same_low _ _ n (sym (f.0 s t u)) x.1)
    narrow (by_other {q = q} {s = s} {w = w} {t = t} d) f r = (by_other (to q w t d (right_low _ _ _ n (f.1.1 s t) r)), left_low _ _ _ n (f.1.1 s t) r)
    narrow (both d e) f r = let v = narrow e f.1 r in let x = narrow d f.0 v.1 in (both x.0 v.0, x.1)
    narrow (left d) f r = let x = narrow d f.0 r in (left x.0, x.1)
    narrow (right d) f r = let x = narrow d f.1 r in (right x.0, x.1)
    narrow done f r = (done, r)
    narrow (again d e) f r = let v = narrow e f r in let x = narrow d f v.1 in (again x.0 v.0, x.1)
    narrow (by_when e d) f r = let x = narrow d f r in (by_when e x.0, x.1)
    narrow (by_room d) f r = let x = narrow d f r in (by_room x.0, x.1)
    narrow (by_lift {s = s} d) f r = let x = narrow d f.1 r in (by_lift x.0, same_low _ _ n (sym (f.0 s)) x.1)
    narrow (by_seen {s = s} {b = b} e d) f r = let x = narrow d f.1 r in (by_seen e x.0, same_low _ _ n (sym (f.0 s b e)) x.1)
    narrow (passed {s = s} {d = d} e) f r = (passed e, same_low _ _ n (sym (f.0.1.1 s d e)) r)
    narrow (by_last {s = s} {a = a} d e) f r = let v = narrow e f r in let x = narrow d f.1.0 (same_low _ _ n (sym (f.0.1.0 a)) v.1) in (by_last x.0 v.0, same_low _ _ n (sym (f.0.0 s)) x.1)
    narrow (by_more {s = s} d e) f r = let v = narrow e f r in let x = narrow d f.1.1 v.1 in (by_more x.0 v.0, same_low _ _ n (sym (f.0.0 s)) x.1)

    -- what is read, and no higher than the limit, is read within it
    pub in_limit : (r : g.Name) (w : List g.Tok) (x : g.El (g.sort r) × ℕ) → Line g fm r w x → z (g.sort r) x.0 ≤ n → Line g fl r w x
    in_limit r w x d h = (narrow d (ok.1 r) h).0
