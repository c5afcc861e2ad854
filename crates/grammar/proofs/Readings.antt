-- READINGS AND LEVELS. A reading that is at most n levels high is what is read with n levels left.
use Rattle.std.proofs.Common.{◌≡◌, ℕ, zero, suc, ◌≤◌, ◌+◌, max, Bool, true, false, inl, inr, List, [], ◌∷◌, ◌++◌, Option, Some, refl, sym, ap, ◌∙◌, subst, arith, append-nil}
use Rattle.parsing.specs.Reading.{Then, Or, Nothing, When, is_some, Loop, done as loop_done, again as loop_again}
use Rattle.parsing.proofs.Sets.{no_false}
use Rattle.parsing.proofs.Seen.{seen_with, seen_in}
use Rattle.grammar.specs.Table.{token, give, node, line, inner, join, far, fork, ◌⨾◌, ◌∣◌, many, when, room, lift, seen, until, taken, Grammar, In, Fars, Reads, by_token, by_give, by_node, by_line, by_inner, by_far, both, left, right, done, again, by_join, by_fork, by_other, by_when, by_room, by_lift, by_seen, passed, by_last, by_more, Line}
use Rattle.grammar.specs.Levels.{Langs, takes, as_high, shown, lang, rungs, level, Stand, bare, opened, parts, whole, low, enter, takes_inner, closes, out, below, good, IsGood, takes_line}
use Rattle.grammar.proofs.Stands.{and_true, is_whole_same, loosen_floor, tighten, meet_same, Know, Floor, of_le}
use Rattle.grammar.proofs.Parts.{loop_at, many_again, then_good, or_good, many_good, when_good, seen_good, room_good, lift_good, fork_good, until_good, shown_parts}
use Rattle.grammar.proofs.Lines.{line_good, rung_case, no_line, checked}

-- WHAT A LANGUAGE OF SOME LEVEL HAS IS READ
module _ (g : Grammar) (n k : ℕ) (fl : Fars g) (here under : Langs g)
    (here_free : (r : g.Name) → below (g.rank r) k ≡ true → (w : List g.Tok) (y : g.El (g.sort r) × ℕ) → here r w y → Line g fl r w y)
    (under_free : (r : g.Name) (w : List g.Tok) (y : g.El (g.sort r) × ℕ) → under r w y → Line g fl r w y) where
  at : {S B : g.Sort} (p : In g S B) (x : g.El S × ℕ) (u w : List g.Tok) (z y : g.El B × ℕ) → w ≡ u → y ≡ z → Reads g fl S B p x.0 x.1 u z.0 z.1 → Reads g fl S B p x.0 x.1 w y.0 y.1
  at {S} {B} p x u w z y e d r = subst (λ v. Reads g fl S B p x.0 x.1 w v.0 v.1) (sym d) (subst (λ v. Reads g fl S B p x.0 x.1 v z.0 z.1) (sym e) r)

  front_is : (w u v : List g.Tok) → w ≡ u ++ v → v ≡ [] → w ≡ u
  front_is w u v e d = e ∙ ap (λ z. u ++ z) d ∙ append-nil u

  in_loop : {S : g.Sort} (p : In g S S) → ((x : g.El S × ℕ) (w : List g.Tok) (y : g.El S × ℕ) → lang g n fl here under p x w y → Reads g fl S S p x.0 x.1 w y.0 y.1)
      → (x : g.El S × ℕ) (w : List g.Tok) (y : g.El S × ℕ) → Loop (λ y. lang g n fl here under p y) x w y → Reads g fl S S (many p) x.0 x.1 w y.0 y.1
  in_loop {S} p f x w y (loop_done e) = at (many p) x [] w x x e refl done
  in_loop {S} p f x w y (loop_again {t = t} {u = u} {v = v} e r l) = at (many p) x (u ++ v) w y y e refl (again (f x u t r) (in_loop p f t v y l))

  in_until : {S A B D : g.Sort} (c : g.El S → Option (g.El D)) (tk : g.El S → g.El B) (f : g.El A → g.El S) (i : (a : g.El A) → is_some (c (f a)) ≡ true) (d : In g B A) (p : In g B S)
      → ((x : g.El B × ℕ) (w : List g.Tok) (y : g.El A × ℕ) → lang g n fl here under d x w y → Reads g fl B A d x.0 x.1 w y.0 y.1) → ((x : g.El B × ℕ) (w : List g.Tok) (y : g.El S × ℕ) → lang g n fl here under p x w y → Reads g fl B S p x.0 x.1 w y.0 y.1)
      → (x : g.El S × ℕ) (w : List g.Tok) (y : g.El S × ℕ) (q : g.El D × ℕ) → shown c y ≡ Some q
      → Loop (λ y. When (takes (is_some (c y.0)) n y.1) (Or (Then (lang g n fl here under d (tk y.0, taken (is_some (c y.0)) y.1)) (λ z. Nothing (f z.0, z.1))) (lang g n fl here under p (tk y.0, taken (is_some (c y.0)) y.1)))) x w y → Reads g fl S D (until c tk f i d p) x.0 x.1 w q.0 q.1
  in_until c tk f i d p fd fp x w y q o (loop_done e) = let s = shown_parts c x q o in at (until c tk f i d p) x [] w (q.0, x.1) q e (ap (λ v. (q.0, v)) s.1) (passed s.0)
  in_until {S} {A} {B} {D} c tk f i d p fd fp x w y q o (loop_again {t = t} {u = u} {v = v} e r l) = at (until c tk f i d p) x (u ++ v) w q q e refl (go r.1 (in_until c tk f i d p fd fp t v y q o l))
    where
      go : Or (Then (lang g n fl here under d (tk x.0, taken (is_some (c x.0)) x.1)) (λ z. Nothing (f z.0, z.1))) (lang g n fl here under p (tk x.0, taken (is_some (c x.0)) x.1)) u t → Reads g fl S D (until c tk f i d p) t.0 t.1 v q.0 q.1 → Reads g fl S D (until c tk f i d p) x.0 x.1 (u ++ v) q.0 q.1
      go (inl b) k = subst (λ j. Reads g fl S D (until c tk f i d p) x.0 x.1 (j ++ v) q.0 q.1) (sym (front_is u b.front b.back b.whole b.right.0))
          (by_last (fd (tk x.0, taken (is_some (c x.0)) x.1) b.front b.value b.left) (subst (λ j. Reads g fl S D (until c tk f i d p) j.0 j.1 v q.0 q.1) b.right.1 k))
      go (inr b) k = by_more (fp (tk x.0, taken (is_some (c x.0)) x.1) u t b) k

  pub free_of : {S B : g.Sort} (p : In g S B) (s : Stand) → good g k s p ≡ true → (x : g.El S × ℕ) (w : List g.Tok) (y : g.El B × ℕ) → lang g n fl here under p x w y → Reads g fl S B p x.0 x.1 w y.0 y.1
  free_of (token F f) s e x w y l = at (token F f) x (l.token ∷ []) w (f x.0 l.token, x.1) y l.whole l.value (by_token l.token l.passes)
  free_of (give f) s e x w y l = at (give f) x [] w (f x.0, x.1) y l.0 l.1 by_give
  free_of (node f) s e x w y l = at (node f) x [] w (f x.0, 1 + x.1) y l.0 l.1 by_node
  free_of (line r f) s e x w y l = at (line r f) x l.front w (f x.0 l.value.0, max x.1 l.value.1) y (front_is w l.front l.back l.whole l.right.0) l.right.1 (by_line (here_free r (and_true (below (g.rank r) k) (takes_line s) e).0 l.front l.value l.left))
  free_of (inner r f) s e x w y l = at (inner r f) x l.front w (f x.0 l.value.0, max x.1 l.value.1) y (front_is w l.front l.back l.whole l.right.0) l.right.1 (by_inner (under_free r l.front l.value l.left))
  free_of (join r f) s e x w y l = at (join r f) x l.front w (f x.0 l.value.0, max (1 + x.1) l.value.1) y (front_is w l.front l.back l.whole l.right.0) l.right.1 (by_join (here_free r (and_true (below (g.rank r) k) (closes s) e).0 l.front l.value l.left))
  free_of (far q f) s e x w y l = at (far q f) x l.front w (f x.0 l.value, x.1) y (front_is w l.front l.back l.whole l.right.0) l.right.1 (by_far l.left)
  free_of (fork c d f p q j) s e x w y (inl l) = let b = fork_good g k s c d f p q j e in let a = l.right.left in
      at (fork c d f p q j) x (l.left.token ∷ a.token ∷ l.right.back) w y y (l.whole ∙ ap (λ v. v ++ l.back) l.left.whole ∙ ap (λ v. l.left.token ∷ v) (l.right.whole ∙ ap (λ v. v ++ l.right.back) a.whole)) refl
      (by_fork l.left.token a.token l.left.passes a.passes (subst (λ v. Reads g fl _ _ p v.0 v.1 l.right.back y.0 y.1) (a.value ∙ ap (λ v. (f x.0 v a.token, x.1)) l.left.value) (free_of p s b.one l.right.value l.right.back y l.right.right)))
  free_of (fork c d f p q j) s e x w y (inr l) = at (fork c d f p q j) x l.front w (j x.0 l.value, x.1) y (front_is w l.front l.back l.whole l.right.0) l.right.1 (by_other l.left)
  free_of (p ⨾ q) s e x w y l = let b = then_good g k s p q e in at (p ⨾ q) x (l.front ++ l.back) w y y l.whole refl (both (free_of p s b.one x l.front l.value l.left) (free_of q (out g s p) b.two l.value l.back y l.right))
  free_of (p ∣ q) s e x w y (inl l) = left (free_of p s (or_good g k s p q e).one x w y l)
  free_of (p ∣ q) s e x w y (inr l) = right (free_of q s (or_good g k s p q e).two x w y l)
  free_of (many p) s e x w y l = in_loop p (λ x w y l. free_of p (loop_at g s p) (many_good g k s p e).one x w y l) x w y l
  free_of (when c p) s e x w y l = by_when l.0 (free_of p s (when_good g k s c p e).0 x w y l.1)
  free_of (seen v p) s e x w y l = seen_with (v x.0) (λ b. lang g n fl here under p (b, x.1)) w y (λ b q i. by_seen q (free_of p s (seen_good g k s v p e).0 (b, x.1) w y i)) l
  free_of (room p) s e x w y l = by_room (free_of p (enter s) (room_good g k s p e).0 x w y l.1)
  free_of (lift lf p) s e x w y l = by_lift (free_of p parts (lift_good g k s lf p e).0 (lf x.0, 1 + x.1) w y l.1)
  free_of (until c tk f i d p) s e x w y l = let b = until_good g k s c tk f i d p e in in_until c tk f i d p (free_of d low b.one) (free_of p low b.two) x w l.0 y l.1 l.2

free_rungs : (g : Grammar) → IsGood g → (fl : Fars g) (n : ℕ) (u : Langs g) → ((r : g.Name) (w : List g.Tok) (y : g.El (g.sort r) × ℕ) → u r w y → Line g fl r w y)
    → (k : ℕ) (r : g.Name) → below (g.rank r) k ≡ true → (w : List g.Tok) (y : g.El (g.sort r) × ℕ) → rungs g n fl u k r w y → Line g fl r w y
free_rungs g ok fl n u f zero r i = no_line (g.rank r) i
free_rungs g ok fl n u f (suc k) r i = let c = free_rungs g ok fl n u f k in
    rung_case g n k fl u (λ r L. (w : List g.Tok) (y : g.El (g.sort r) × ℕ) → L w y → Line g fl r w y) (λ r q w y l. free_of g n k fl (rungs g n fl u k) u c f (g.body r) bare (checked g ok k r q) (g.empty, 0) w y l) c r i

pub free : (g : Grammar) → IsGood g → (fl : Fars g) (n : ℕ) (r : g.Name) (w : List g.Tok) (y : g.El (g.sort r) × ℕ) → level g fl n r w y → Line g fl r w y
free g ok fl zero r w y l = absurd l
free g ok fl (suc n) r w y l = free_rungs g ok fl n (level g fl n) (free g ok fl n) g.ranks r (line_good g r (ok r)).inside w y l

-- WHAT IS READ IS AS HIGH AS IT STANDS
node_floor : (h : ℕ) → 1 ≤ 1 + h
node_floor h = omega arith

high_floor : (h j : ℕ) → 1 ≤ j → 1 ≤ max h j
high_floor h j i = omega arith

enter_floor : (s : Stand) (h : ℕ) → Floor s h → Floor (enter s) h
enter_floor bare h k = tt
enter_floor opened h k = k
enter_floor parts h k = k
enter_floor whole h k = k
enter_floor low h k = tt

module _ (g : Grammar) (ok : IsGood g) (fl : Fars g) where
  -- a line's body ends as a node
  ends : (r : g.Name) → out g bare (g.body r) ≡ whole
  ends r = is_whole_same (out g bare (g.body r)) (line_good g r (ok r)).ends

  body_good : (r : g.Name) → good g (g.rank r) bare (g.body r) ≡ true
  body_good r = (line_good g r (ok r)).good_body

  floor : {S A : g.Sort} {p : In g S A} {s : g.El S} {a : g.El A} {h i : ℕ} {w : List g.Tok} → Reads g fl S A p s h w a i → (k : ℕ) (st : Stand) → good g k st p ≡ true → Floor st h → Floor (out g st p) i
  floor (by_token t e) k st o f = f
  floor by_give k st o f = f
  floor (by_node {h = h}) k st o f = node_floor h
  floor (by_line {r = r} {h = h} {k = j} d) k st o f = high_floor h j (subst (λ v. Floor v j) (ends r) (floor d (g.rank r) bare (body_good r) refl))
  floor (by_inner {r = r} {h = h} {k = j} d) k st o f = high_floor h j (subst (λ v. Floor v j) (ends r) (floor d (g.rank r) bare (body_good r) refl))
  floor (by_join {r = r} {h = h} {k = j} d) k st o f = high_floor (1 + h) j (subst (λ v. Floor v j) (ends r) (floor d (g.rank r) bare (body_good r) refl))
  floor (by_far d) k st o f = f
  floor (by_fork {c = c} {d = d} {f = f} {p = p} {q = q} {j = j} t u x y r) k st o z = floor r k st (fork_good g k st c d f p q j o).one z
  floor (by_other {c = c} {d = d} {f = f} {p = p} {q = q} {j = j} {h = h} r) k st o z = subst (λ v. Floor v h) (sym (fork_good g k st c d f p q j o).same) z
  floor (both {p = p} {q = q} d e) k st o f = let b = then_good g k st p q o in floor e k (out g st p) b.two (floor d k st b.one f)
  floor (left {p = p} {q = q} {i = i} d) k st o f = let b = or_good g k st p q o in loosen_floor _ _ i b.one_out (floor d k st b.one f)
  floor (right {p = p} {q = q} {i = i} d) k st o f = let b = or_good g k st p q o in loosen_floor _ _ i b.two_out (floor d k st b.two f)
  floor (done {p = p} {h = h}) k st o f = loosen_floor _ _ h (many_good g k st p o).enters f
  floor (again {p = p} {h = h} {i = i} {j = j} d e) k st o f = let b = many_good g k st p o in
      subst (λ v. Floor v j) (meet_same _ _ b.again_out) (floor e k (loop_at g st p) (many_again g k st p o) (loosen_floor _ _ i b.again_out (floor d k (loop_at g st p) b.one (loosen_floor _ _ h b.enters f))))
  floor (by_when {c = c} {p = p} e d) k st o f = floor d k st (when_good g k st c p o).0 f
  floor (by_seen {v = v} {p = p} e d) k st o f = floor d k st (seen_good g k st v p o).0 f
  floor (by_room {p = p} {h = h} d) k st o f = floor d k (enter st) (room_good g k st p o).0 (enter_floor st h f)
  floor (by_lift {lf = lf} {p = p} {h = h} d) k st o f = floor d k parts (lift_good g k st lf p o).0 (node_floor h)
  floor (passed {c = c} {tk = tk} {f = f} {y = y} {e = e} {p = p} {h = h} t) k st o z = subst (λ v. Floor v h) (until_good g k st c tk f y e p o).at_whole z
  floor (by_last {c = c} {tk = tk} {f = f} {y = y} {e = e} {p = p} {i = i} d r) k st o z = let b = until_good g k st c tk f y e p o in floor r k whole (subst (λ v. good g k v (until c tk f y e p) ≡ true) b.at_whole o) (subst (λ v. Floor v i) b.out_one (floor d k low b.one tt))
  floor (by_more {c = c} {tk = tk} {f = f} {y = y} {e = e} {p = p} {i = i} d r) k st o z = let b = until_good g k st c tk f y e p o in floor r k whole (subst (λ v. good g k v (until c tk f y e p) ≡ true) b.at_whole o) (subst (λ v. Floor v i) b.out_two (floor d k low b.two tt))

  -- how high a line's reading is at least
  pub line_floor : (r : g.Name) (w : List g.Tok) (y : g.El (g.sort r) × ℕ) → Line g fl r w y → 1 ≤ y.1
  line_floor r w y d = subst (λ v. Floor v y.1) (ends r) (floor d (g.rank r) bare (body_good r) refl)

-- what was known before a part, from what is known behind it
node_back : (s : Stand) (n h : ℕ) → closes s ≡ true → Floor s h → Know whole n (1 + h) → Know s n h
node_back bare n h e f k = f
node_back opened n h e f k = no_false e
node_back parts n h e f k = let a = k.1 in (f, omega arith)
node_back whole n h e f k = no_false e
node_back low n h e f k = let a = k.1 in omega arith

line_back : (s : Stand) (n h j : ℕ) → takes_line s ≡ true → Floor s h → Know whole n (max h j) → Know s n h
line_back bare n h j e f k = f
line_back opened n h j e f k = no_false e
line_back parts n h j e f k = no_false e
line_back whole n h j e f k = let a = k.1 in (f, omega arith)
line_back low n h j e f k = no_false e

join_back : (s : Stand) (n h j : ℕ) → closes s ≡ true → Floor s h → Know whole n (max (1 + h) j) → Know s n h
join_back bare n h j e f k = f
join_back opened n h j e f k = no_false e
join_back parts n h j e f k = let a = k.1 in (f, omega arith)
join_back whole n h j e f k = no_false e
join_back low n h j e f k = let a = k.1 in omega arith

inner_back : (s : Stand) (n h j : ℕ) → takes_inner s ≡ true → Floor s h → 1 ≤ j → Know parts n (max h j) → Know s n h
inner_back bare n h j e f i k = f
inner_back opened n h j e f i k = let a = k.1 in omega arith
inner_back parts n h j e f i k = let a = k.1 in (f, omega arith)
inner_back whole n h j e f i k = no_false e
inner_back low n h j e f i k = let a = k.1 in omega arith

enter_back : (s : Stand) (n h : ℕ) → Floor s h → Know (enter s) n h → (max 1 h ≤ n) × Know s n h
enter_back bare n h f k = (k, f)
enter_back opened n h f k = (k, k)
enter_back parts n h f k = let a = k.0 in let b = k.1 in (omega arith, k)
enter_back whole n h f k = let a = k.0 in let b = k.1 in (omega arith, (a, omega arith))
enter_back low n h f k = (k, omega (arith, k))

lift_back : (s : Stand) (n h : ℕ) → Floor s h → Know parts n (1 + h) → (1 + h ≤ n) × Know s n h
lift_back bare n h f k = (k.1, f)
lift_back opened n h f k = let a = k.1 in (a, omega arith)
lift_back parts n h f k = let a = k.1 in (a, (f, omega arith))
lift_back whole n h f k = let a = k.1 in (a, (f, omega arith))
lift_back low n h f k = let a = k.1 in (a, omega arith)

take_back : (c : Bool) (n h : ℕ) → Floor whole h → Know low n (taken c h) → (takes c n h ≡ true) × Know whole n h
take_back true n h f k = (of_le h n k, (f, omega (arith, k)))
take_back false n zero f k = (refl, (f, omega arith))
take_back false n (suc h) f k = (refl, (f, omega (arith, k)))

whole_of : (n h j : ℕ) → 1 ≤ j → max h j ≤ suc n → Know whole n j
whole_of n h j i k = (i, omega arith)

none_left : {P : Type 0} (h j : ℕ) → 1 ≤ j → max h j ≤ 0 → P
none_left h j i k = absurd (omega arith)

-- a line's language, whatever lines stand above it
rung_at : (g : Grammar) (n : ℕ) (fl : Fars g) (u : Langs g) (k : ℕ) (r : g.Name) → below (g.rank r) k ≡ true → (w : List g.Tok) (y : g.El (g.sort r) × ℕ) → lang g n fl (rungs g n fl u (g.rank r)) u (g.body r) (g.empty, 0) w y → rungs g n fl u k r w y
rung_at g n fl u zero r i = no_line (g.rank r) i
rung_at g n fl u (suc k) r i = rung_case g n k fl u (λ r L. (w : List g.Tok) (y : g.El (g.sort r) × ℕ) → lang g n fl (rungs g n fl u (g.rank r)) u (g.body r) (g.empty, 0) w y → L w y)
    (λ r q w y l. subst (λ j. lang g n fl (rungs g n fl u j) u (g.body r) (g.empty, 0) w y) (sym q) l) (rung_at g n fl u k) r i

module _ (g : Grammar) (ok : IsGood g) (fl : Fars g) where
  limited : {S A : g.Sort} {p : In g S A} {s : g.El S} {a : g.El A} {h i : ℕ} {w : List g.Tok} → Reads g fl S A p s h w a i → (n k : ℕ) (st : Stand) → good g k st p ≡ true → Floor st h → Know (out g st p) n i
      → Know st n h × lang g n fl (rungs g n fl (level g fl n) k) (level g fl n) p (s, h) w (a, i)
  limited (by_token t e) n k st o f z = (z, record { token = t; whole = refl; passes = e; value = refl })
  limited by_give n k st o f z = (z, (refl, refl))
  limited (by_node {h = h}) n k st o f z = (node_back st n h o f z, (refl, refl))
  limited (by_line {r = r} {h = h} {w = w} {t = t} {k = j} d) n k st o f z = let b = and_true (below (g.rank r) k) (takes_line st) o in
      let x = limited d n (g.rank r) bare (body_good g ok fl r) refl (subst (λ v. Know v n j) (sym (ends g ok fl r)) (whole_of n h j (line_floor g ok fl r w (t, j) d) z.1)) in
      (line_back st n h j b.1 f z, record { front = w; back = []; value = (t, j); whole = sym (append-nil w); left = rung_at g n fl (level g fl n) k r b.0 w (t, j) x.1; right = (refl, refl) })
  limited (by_join {r = r} {h = h} {w = w} {t = t} {k = j} d) n k st o f z = let b = and_true (below (g.rank r) k) (closes st) o in
      let x = limited d n (g.rank r) bare (body_good g ok fl r) refl (subst (λ v. Know v n j) (sym (ends g ok fl r)) (whole_of n (1 + h) j (line_floor g ok fl r w (t, j) d) z.1)) in
      (join_back st n h j b.1 f z, record { front = w; back = []; value = (t, j); whole = sym (append-nil w); left = rung_at g n fl (level g fl n) k r b.0 w (t, j) x.1; right = (refl, refl) })
  limited (by_inner {r = r} {h = h} {w = w} {t = t} {k = j} d) zero k st o f z = none_left h j (line_floor g ok fl r w (t, j) d) z.1
  limited (by_inner {r = r} {h = h} {w = w} {t = t} {k = j} d) (suc n) k st o f z = let m = line_floor g ok fl r w (t, j) d in
      let x = limited d n (g.rank r) bare (body_good g ok fl r) refl (subst (λ v. Know v n j) (sym (ends g ok fl r)) (whole_of n h j m z.1)) in
      (inner_back st (suc n) h j o f m z, record { front = w; back = []; value = (t, j); whole = sym (append-nil w); left = rung_at g n fl (level g fl n) g.ranks r (line_good g r (ok r)).inside w (t, j) x.1; right = (refl, refl) })
  limited (by_far {w = w} {t = t} d) n k st o f z = (z, record { front = w; back = []; value = t; whole = sym (append-nil w); left = d; right = (refl, refl) })
  limited (by_fork {c = c} {d = d} {f = f} {p = p} {q = q} {j = j} {s = s} {h = h} {w = w} t u x y r) n k st o e z = let b = fork_good g k st c d f p q j o in let v = limited r n k st b.one e z in
      (v.0, inl (record { front = t ∷ []; back = u ∷ w; value = t; whole = refl; left = record { token = t; whole = refl; passes = x; value = refl }; right = record { front = u ∷ []; back = w; value = (f s t u, h); whole = refl; left = record { token = u; whole = refl; passes = y; value = refl }; right = v.1 } }))
  limited (by_other {c = c} {d = d} {f = f} {p = p} {q = q} {j = j} {h = h} {w = w} {t = t} r) n k st o e z = let b = fork_good g k st c d f p q j o in
      (subst (λ v. Know v n h) b.same z, inr (record { front = w; back = []; value = t; whole = sym (append-nil w); left = r; right = (refl, refl) }))
  limited (both {p = p} {q = q} {a = a} {i = i} {u = u} {v = v} d e) n k st o f z = let b = then_good g k st p q o in let y = limited e n k (out g st p) b.two (floor g ok fl d k st b.one f) z in let x = limited d n k st b.one f y.0 in
      (x.0, record { front = u; back = v; value = (a, i); whole = refl; left = x.1; right = y.1 })
  limited (left {p = p} {q = q} {i = i} d) n k st o f z = let b = or_good g k st p q o in let x = limited d n k st b.one f (tighten _ _ n i b.one_out (floor g ok fl d k st b.one f) z) in (x.0, inl x.1)
  limited (right {p = p} {q = q} {i = i} d) n k st o f z = let b = or_good g k st p q o in let x = limited d n k st b.two f (tighten _ _ n i b.two_out (floor g ok fl d k st b.two f) z) in (x.0, inr x.1)
  limited (done {p = p} {h = h}) n k st o f z = (tighten _ _ n h (many_good g k st p o).enters f z, loop_done refl)
  limited (again {p = p} {h = h} {i = i} {j = j} d e) n k st o f z = let b = many_good g k st p o in let l = floor g ok fl d k (loop_at g st p) b.one (loosen_floor _ _ h b.enters f) in
      let y = limited e n k (loop_at g st p) (many_again g k st p o) (loosen_floor _ _ i b.again_out l) (subst (λ v. Know v n j) (sym (meet_same _ _ b.again_out)) z) in
      let x = limited d n k (loop_at g st p) b.one (loosen_floor _ _ h b.enters f) (tighten _ _ n i b.again_out l y.0) in (tighten _ _ n h b.enters f x.0, loop_again refl x.1 y.1)
  limited (by_when {c = c} {p = p} e d) n k st o f z = let x = limited d n k st (when_good g k st c p o).0 f z in (x.0, (e, x.1))
  limited (by_seen {v = v} {p = p} {s = s} {b = b} {a = a} {h = h} {i = i} {w = w} e d) n k st o f z = let x = limited d n k st (seen_good g k st v p o).0 f z in (x.0, seen_in (v s) b (λ b. lang g n fl (rungs g n fl (level g fl n) k) (level g fl n) p (b, h)) w (a, i) e x.1)
  limited (by_room {p = p} {h = h} d) n k st o f z = let x = limited d n k (enter st) (room_good g k st p o).0 (enter_floor st h f) z in let y = enter_back st n h f x.0 in (y.1, (of_le (max 1 h) n y.0, x.1))
  limited (by_lift {lf = lf} {p = p} {h = h} d) n k st o f z = let x = limited d n k parts (lift_good g k st lf p o).0 (node_floor h) z in let y = lift_back st n h f x.0 in (y.1, (of_le (1 + h) n y.0, x.1))
  limited (passed {c = c} {tk = tk} {f = f} {y = y} {e = e} {p = p} {s = s} {h = h} t) n k st o q z = (subst (λ v. Know v n h) (sym (until_good g k st c tk f y e p o).at_whole) z, ((s, h), ap (λ v. as_high h v) t, loop_done refl))
  limited (by_last {c = c} {tk = tk} {f = f} {y = y} {e = e} {p = p} {s = s} {a = a} {h = h} {i = i} {u = u} d r) n k st o q z = let b = until_good g k st c tk f y e p o in
      let x = limited r n k whole (subst (λ v. good g k v (until c tk f y e p) ≡ true) b.at_whole o) (subst (λ v. Floor v i) b.out_one (floor g ok fl d k low b.one tt)) z in
      let v = limited d n k low b.one tt (subst (λ v. Know v n i) (sym b.out_one) x.0) in let t = take_back (is_some (c s)) n h (subst (λ v. Floor v h) b.at_whole q) v.0 in
      (subst (λ v. Know v n h) (sym b.at_whole) t.1, (x.1.0, x.1.1, loop_again refl (t.0, inl (record { front = u; back = []; value = (a, i); whole = sym (append-nil u); left = v.1; right = (refl, refl) })) x.1.2))
  limited (by_more {c = c} {tk = tk} {f = f} {y = y} {e = e} {p = p} {s = s} {a = a} {h = h} {i = i} d r) n k st o q z = let b = until_good g k st c tk f y e p o in
      let x = limited r n k whole (subst (λ v. good g k v (until c tk f y e p) ≡ true) b.at_whole o) (subst (λ v. Floor v i) b.out_two (floor g ok fl d k low b.two tt)) z in
      let v = limited d n k low b.two tt (subst (λ v. Know v n i) (sym b.out_two) x.0) in let t = take_back (is_some (c s)) n h (subst (λ v. Floor v h) b.at_whole q) v.0 in
      (subst (λ v. Know v n h) (sym b.at_whole) t.1, (x.1.0, x.1.1, loop_again refl (t.0, inr v.1) x.1.2))

  -- a reading at most n levels high is one with n levels left
  pub within_levels : (n : ℕ) (r : g.Name) (w : List g.Tok) (y : g.El (g.sort r) × ℕ) → Line g fl r w y → y.1 ≤ n → level g fl n r w y
  within_levels zero r w y d h = none_left 0 y.1 (line_floor g ok fl r w y d) (omega arith)
  within_levels (suc n) r w y d h =
      rung_at g n fl (level g fl n) g.ranks r (line_good g r (ok r)).inside w y (limited d n (g.rank r) bare (body_good g ok fl r) refl (subst (λ v. Know v n y.1) (sym (ends g ok fl r)) (line_floor g ok fl r w y d, h))).1
