-- HOW HIGH VALUES ARE: what a table's actions must keep, so that the height in a reading is that of what is read. A fact an action.
use Rattle.std.specs.Prelude.{◌≡◌, ℕ, ◌+◌, max, Some}
use Rattle.parsing.specs.Reading.{is_some}
use Rattle.grammar.specs.Table.{taken, token, give, node, line, inner, join, far, fork, ◌⨾◌, ◌∣◌, many, when, room, lift, seen, until, Grammar, In}

-- the height of a value of each sort
abbrev pub Sizes : Grammar → Type 0
Sizes g = (S : g.Sort) → g.El S → ℕ

-- A node is one higher than its parts, and parts are as high as the highest; nothing else changes heights.
abbrev pub Sized : (g : Grammar) (z : Sizes g) {S A : g.Sort} → In g S A → Type 0
Sized g z {S} {A} (token F f) = (s : g.El S) (t : g.Tok) → z A (f s t) ≡ z S s
Sized g z {S} {A} (give f) = (s : g.El S) → z A (f s) ≡ z S s
Sized g z {S} {A} (node f) = (s : g.El S) → z A (f s) ≡ 1 + z S s
Sized g z {S} {A} (line r f) = (s : g.El S) (t : g.El (g.sort r)) → z A (f s t) ≡ max (z S s) (z (g.sort r) t)
Sized g z {S} {A} (inner r f) = (s : g.El S) (t : g.El (g.sort r)) → z A (f s t) ≡ max (z S s) (z (g.sort r) t)
Sized g z {S} {A} (join r f) = (s : g.El S) (t : g.El (g.sort r)) → z A (f s t) ≡ max (1 + z S s) (z (g.sort r) t)
Sized g z {S} {A} (far q f) = (s : g.El S) (t : g.El (g.far_sort q)) → z A (f s t) ≡ z S s
Sized g z {S} {A} (fork {B = B} c d f p q j) = ((s : g.El S) (t u : g.Tok) → z B (f s t u) ≡ z S s) × (Sized g z p × ((s : g.El S) (t : g.El (g.far_sort q)) → z A (j s t) ≡ z S s))
Sized g z (p ⨾ q) = Sized g z p × Sized g z q
Sized g z (p ∣ q) = Sized g z p × Sized g z q
Sized g z (many p) = Sized g z p
Sized g z (when c p) = Sized g z p
Sized g z (room p) = Sized g z p
Sized g z {S} {A} (lift {B = B} f p) = ((s : g.El S) → z B (f s) ≡ 1 + z S s) × Sized g z p
Sized g z {S} {A} (seen {B = B} v p) = ((s : g.El S) (b : g.El B) → v s ≡ Some b → z B b ≡ z S s) × Sized g z p
Sized g z {S} {A = D} (until {A = A} {B = B} c tk f i e p) = (((s : g.El S) → z B (tk s) ≡ taken (is_some (c s)) (z S s)) × (((a : g.El A) → z S (f a) ≡ z A a) × ((s : g.El S) (d : g.El D) → c s ≡ Some d → z D d ≡ z S s))) × (Sized g z e × Sized g z p)

-- a table whose actions all keep heights
abbrev pub IsSized : (g : Grammar) → Sizes g → Type 0
IsSized g z = (z g.start g.empty ≡ 0) × ((r : g.Name) → Sized g z (g.body r))
