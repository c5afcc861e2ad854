-- A kind of tokens that a line doesn't name never stands in what it reads.
use Rattle.std.proofs.Common.{◌≡◌, ℕ, ◌==◌, Bool, true, false, not, ◌&&◌, List, [], ◌∷◌, ◌++◌, refl, sym, ◌∙◌, subst, arith}
use Rattle.std.proofs.lemmas.Grind.{common_steps}
use Rattle.parsing.specs.Reading.{has}
use Rattle.parsing.proofs.Sets.{no_false}
use Rattle.grammar.specs.Table.{Grammar, In, Fars, Reads, by_token, by_give, by_node, by_line, by_inner, by_far, both, left, right, done, again, by_join, by_fork, by_other, by_when, by_room, by_lift, by_seen, passed, by_last, by_more, Line}
use Rattle.grammar.specs.Answer.{avoids, Without}
use Rattle.grammar.proofs.Stands.{and_true, not_true}

side : {T : Type 0} (kind : T → ℕ) (k : ℕ) (u v : List T) → Without kind k u → Without kind k v → Without kind k (u ++ v)
side kind k [] v a b = b
side kind k (t ∷ u) v a b = (a.0, side kind k u v a.1 b)

same_number : (i k : ℕ) → (i == k) ≡ true → i ≡ k
same_number i k e = grind (arith, common_steps)

other : (i k : ℕ) (F : List ℕ) → has i F ≡ true → has k F ≡ false → (i == k) ≡ false
other i k F e f = go (i == k) refl
  where
    go : (b : Bool) → (i == k) ≡ b → b ≡ false
    go true j = no_false (sym f ∙ subst (λ v. has v F ≡ true) (same_number i k j) e)
    go false j = refl

module _ (g : Grammar) (fl : Fars g) (k : ℕ) (free : g.Name → Bool) (lines : (r : g.Name) → free r ≡ true → avoids g k free (g.body r) ≡ true)
    (fars : (q : g.Far) (w : List g.Tok) (t : g.El (g.far_sort q)) → fl q w t → Without g.kind k w) where
  plain : {S A : g.Sort} {p : In g S A} {s : g.El S} {a : g.El A} {h i : ℕ} {w : List g.Tok} → Reads g fl S A p s h w a i → avoids g k free p ≡ true → Without g.kind k w
  plain (by_token {F = F} t e) o = (other (g.kind t) k F e (not_true (has k F) o), tt)
  plain by_give o = tt
  plain by_node o = tt
  plain (by_line {r = r} d) o = plain d (lines r o)
  plain (by_inner {r = r} d) o = plain d (lines r o)
  plain (by_join {r = r} d) o = plain d (lines r o)
  plain (by_far {q = q} {w = w} {t = t} d) o = fars q w t d
  plain (by_fork {c = c} {d = d} {p = p} t u x y r) o = let a = and_true (not (has k (c ∷ []))) (not (has k (d ∷ [])) && avoids g k free p) o in let b = and_true (not (has k (d ∷ []))) (avoids g k free p) a.1 in
      (other (g.kind t) k (c ∷ []) x (not_true (has k (c ∷ [])) a.0), (other (g.kind u) k (d ∷ []) y (not_true (has k (d ∷ [])) b.0), plain r b.1))
  plain (by_other {q = q} {w = w} {t = t} d) o = fars q w t d
  plain (both {p = p} {q = q} {u = u} {v = v} d e) o = let b = and_true (avoids g k free p) (avoids g k free q) o in side g.kind k u v (plain d b.0) (plain e b.1)
  plain (left {p = p} {q = q} d) o = plain d (and_true (avoids g k free p) (avoids g k free q) o).0
  plain (right {p = p} {q = q} d) o = plain d (and_true (avoids g k free p) (avoids g k free q) o).1
  plain done o = tt
  plain (again {u = u} {v = v} d e) o = side g.kind k u v (plain d o) (plain e o)
  plain (by_when e d) o = plain d o
  plain (by_seen e d) o = plain d o
  plain (by_room d) o = plain d o
  plain (by_lift d) o = plain d o
  plain (passed e) o = tt
  plain (by_last {e = e} {p = p} {u = u} {v = v} d r) o = side g.kind k u v (plain d (and_true (avoids g k free e) (avoids g k free p) o).0) (plain r o)
  plain (by_more {e = e} {p = p} {u = u} {v = v} d r) o = side g.kind k u v (plain d (and_true (avoids g k free e) (avoids g k free p) o).1) (plain r o)

  -- what a line reads
  pub without : (r : g.Name) → free r ≡ true → (w : List g.Tok) (y : g.El (g.sort r) × ℕ) → Line g fl r w y → Without g.kind k w
  without r o w y d = plain d (lines r o)
