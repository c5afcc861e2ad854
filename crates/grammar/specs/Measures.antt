-- HOW HIGH WHAT OTHER GRAMMARS READ IS in a value: what a table's actions must keep, so that a limit on the other grammars' lines is one on the value. A fact an action.
use Rattle.std.specs.Prelude.{◌≡◌, ℕ, max, Some}
use Rattle.grammar.specs.Table.{token, give, node, line, inner, join, far, fork, ◌⨾◌, ◌∣◌, many, when, room, lift, seen, until, Grammar, In}
use Rattle.grammar.specs.Heights.{Sizes}

-- the height of what a line of another grammar reads
abbrev pub FarSizes : Grammar → Type 0
FarSizes g = (q : g.Far) → g.El (g.far_sort q) → ℕ

-- A value is as high as the highest of what it is made of.
abbrev pub Measured : (g : Grammar) (z : Sizes g) (y : FarSizes g) {S A : g.Sort} → In g S A → Type 0
Measured g z y {S} {A} (token F f) = (s : g.El S) (t : g.Tok) → z A (f s t) ≡ z S s
Measured g z y {S} {A} (give f) = (s : g.El S) → z A (f s) ≡ z S s
Measured g z y {S} {A} (node f) = (s : g.El S) → z A (f s) ≡ z S s
Measured g z y {S} {A} (line r f) = (s : g.El S) (t : g.El (g.sort r)) → z A (f s t) ≡ max (z S s) (z (g.sort r) t)
Measured g z y {S} {A} (inner r f) = (s : g.El S) (t : g.El (g.sort r)) → z A (f s t) ≡ max (z S s) (z (g.sort r) t)
Measured g z y {S} {A} (join r f) = (s : g.El S) (t : g.El (g.sort r)) → z A (f s t) ≡ max (z S s) (z (g.sort r) t)
Measured g z y {S} {A} (far q f) = (s : g.El S) (t : g.El (g.far_sort q)) → z A (f s t) ≡ max (z S s) (y q t)
Measured g z y {S} {A} (fork {B = B} c d f p q j) = ((s : g.El S) (t u : g.Tok) → z B (f s t u) ≡ z S s) × (Measured g z y p × ((s : g.El S) (t : g.El (g.far_sort q)) → z A (j s t) ≡ max (z S s) (y q t)))
Measured g z y (p ⨾ q) = Measured g z y p × Measured g z y q
Measured g z y (p ∣ q) = Measured g z y p × Measured g z y q
Measured g z y (many p) = Measured g z y p
Measured g z y (when c p) = Measured g z y p
Measured g z y (room p) = Measured g z y p
Measured g z y {S} {A} (lift {B = B} f p) = ((s : g.El S) → z B (f s) ≡ z S s) × Measured g z y p
Measured g z y {S} {A} (seen {B = B} v p) = ((s : g.El S) (b : g.El B) → v s ≡ Some b → z B b ≡ z S s) × Measured g z y p
Measured g z y {S} {A = D} (until {A = A} {B = B} c tk f i e p) = (((s : g.El S) → z B (tk s) ≡ z S s) × (((a : g.El A) → z S (f a) ≡ z A a) × ((s : g.El S) (d : g.El D) → c s ≡ Some d → z D d ≡ z S s))) × (Measured g z y e × Measured g z y p)

-- a table whose actions all do
abbrev pub IsMeasured : (g : Grammar) → Sizes g → FarSizes g → Type 0
IsMeasured g z y = (z g.start g.empty ≡ 0) × ((r : g.Name) → Measured g z y (g.body r))
