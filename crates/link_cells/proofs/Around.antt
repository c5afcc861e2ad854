-- Rings of cells under changes of links.
use Rattle.std.proofs.Common.{◌≡◌, ℕ, ◌<◌, ◌≤◌, ◌+◌, ◌⊎◌, inl, inr, refl, sym, subst, ◌∙◌, List, [], ◌∷◌, ◌++◌, arith, zero, suc, eq-eqb}
use Rattle.std.proofs.lemmas.Bool.{cases_eq}
use Rattle.link_cells.specs.declared.link.Link.{Link}
use Rattle.link_cells.specs.declared.link.Link.TheVariants.{Cell}
use Rattle.link_cells.specs.Rings.{CellWords, ahead_of, back_of, Linked, count, total}
use Rattle.link_cells.proofs.Store.{Changed}

pub count_append : (x : ℕ) (xs ys : List ℕ) → count x (xs ++ ys) ≡ count x xs + count x ys
count_append x [] ys = omega arith
count_append x (y ∷ xs) ys = omega (arith, count_append x xs ys)

pub count_same : (x : ℕ) (xs : List ℕ) → count x (x ∷ xs) ≡ 1 + count x xs
count_same x xs = rw (eq-eqb x x refl) refl

pub count_here : (x : ℕ) (xs : List ℕ) → 0 < count x (x ∷ xs)
count_here x xs = omega (arith, count_same x xs)

pub count_more : (x y : ℕ) (xs : List ℕ) → count x xs ≤ count x (y ∷ xs)
count_more x y xs = omega arith

pub total_same : (f g : ℕ → ℕ) (m : ℕ) → ((k : ℕ) → k < m → g k ≡ f k) → total g m ≡ total f m
total_same f g zero h = refl
total_same f g (suc m) h = omega (arith, h m (omega arith), total_same f g m (λ k lt. h k (omega arith)))

pub total_le : (f g : ℕ → ℕ) (m : ℕ) → ((k : ℕ) → k < m → g k ≤ f k) → total g m ≤ total f m
total_le f g zero h = omega arith
total_le f g (suc m) h = omega (arith, h m (omega arith), total_le f g m (λ k lt. h k (omega arith)))

pub one_le : (f : ℕ → ℕ) (h m : ℕ) → h < m → f h ≤ total f m
one_le f h zero lt = absurd (omega arith)
one_le f h (suc m) lt =
    elim (cases_eq h m) [
      | inl e ↦ subst (λ (n : ℕ). f n ≤ f m + total f m) (sym e) (omega arith)
      | inr ne ↦ omega (arith, one_le f h m (omega arith))
    ]

pub two_le : (f : ℕ → ℕ) (h k m : ℕ) → (h ≡ k → ⊥) → h < m → k < m → f h + f k ≤ total f m
two_le f h k zero ne lt ltk = absurd (omega arith)
two_le f h k (suc m) ne lt ltk =
    elim (cases_eq h m) [
      | inl e ↦ subst (λ (n : ℕ). f n + f k ≤ f m + total f m) (sym e) (omega (arith, one_le f k m (omega arith)))
      | inr nh ↦ elim (cases_eq k m) [
        | inl e ↦ subst (λ (n : ℕ). f h + f n ≤ f m + total f m) (sym e) (omega (arith, one_le f h m (omega arith)))
        | inr nk ↦ omega (arith, two_le f h k m ne (omega arith) (omega arith))
      ]
    ]

-- the sum where one number changes
pub total_one : (f g : ℕ → ℕ) (h m : ℕ) → h < m → ((k : ℕ) → (k ≡ h → ⊥) → g k ≡ f k) → total g m + f h ≡ total f m + g h
total_one f g h zero lt others = absurd (omega arith)
total_one f g h (suc m) lt others =
    elim (cases_eq h m) [
      | inl e ↦ subst (λ (n : ℕ). g m + total g m + f n ≡ f m + total f m + g n) (sym e) (omega (arith, total_same f g m (λ k below. others k (omega arith))))
      | inr ne ↦ omega (arith, others m (omega arith), total_one f g h m (omega arith) others)
    ]

pub split : (w : CellWords) (a : Link) (xs : List ℕ) (c : ℕ) (ys : List ℕ) (b : Link) → Linked w a (xs ++ c ∷ ys) b → Linked w a xs (Cell c) × Linked w (Cell c) ys b
split w a [] c ys b l = ((l.0, l.1), l.2)
split w a (x ∷ xs) c ys b l = let h = split w (Cell x) xs c ys b l.2 in ((l.0, l.1, h.0), h.1)

pub join : (w : CellWords) (a : Link) (xs : List ℕ) (c : ℕ) (ys : List ℕ) (b : Link) → Linked w a xs (Cell c) → Linked w (Cell c) ys b → Linked w a (xs ++ c ∷ ys) b
join w a [] c ys b l m = (l.0, l.1, m)
join w a (x ∷ xs) c ys b l m = (l.0, l.1, join w (Cell x) xs c ys b l.2 m)

cell_of : (c d : ℕ) → Cell c ≡ Cell d → c ≡ d
cell_of c d e = cc

-- a ring that the change doesn't touch
pub frame : (w v : CellWords) (p q z : Link) → Changed w v p q z → (a : Link) (xs : List ℕ) (b : Link) → (a ≡ p → ⊥) → (a ≡ z → ⊥) → (b ≡ q → ⊥) → (b ≡ z → ⊥)
    → ((x : ℕ) → 0 < count x xs → (Cell x ≡ p → ⊥) × (Cell x ≡ q → ⊥) × (Cell x ≡ z → ⊥)) → Linked w a xs b → Linked v a xs b
frame w v p q z ch a [] b ap' az bq bz f l = (ch.ahead a ap' az ∙ l.0, ch.back b bq bz ∙ l.1)
frame w v p q z ch a (c ∷ cs) b ap' az bq bz f l =
    let here = f c (count_here c cs) in (
      ch.ahead a ap' az ∙ l.0,
      ch.back (Cell c) here.1 here.2 ∙ l.1,
      frame w v p q z ch (Cell c) cs b here.0 here.2 bq bz (λ x h. f x (omega (arith, count_more x c cs))) l.2,
    )

-- the word before the end
pub last_of : (w : CellWords) (a : Link) (xs : List ℕ) (b : Link) → Linked w a xs b → (back_of w b ≡ a) ⊎ ((x : ℕ) × (0 < count x xs) × (back_of w b ≡ Cell x))
last_of w a [] b l = inl l.1
last_of w a (c ∷ cs) b l =
    elim (last_of w (Cell c) cs b l.2) [
      | inl e ↦ inr (c, count_here c cs, e)
      | inr m ↦ inr (m.0, (let h = m.1 in omega (arith, count_more m.0 c cs)), m.2)
    ]

-- the word behind the beginning
pub first_of : (w : CellWords) (a : Link) (xs : List ℕ) (b : Link) → Linked w a xs b → (ahead_of w a ≡ b) ⊎ ((x : ℕ) × (0 < count x xs) × (ahead_of w a ≡ Cell x))
first_of w a [] b l = inl l.0
first_of w a (c ∷ cs) b l = inr (c, count_here c cs, l.0)

-- the last word before b leads to t in its place
pub relink_end : (w v : CellWords) (p q z t : Link) → Changed w v p q z → ahead_of v p ≡ t → back_of v t ≡ p → (a : Link) (xs : List ℕ) (b : Link) → p ≡ back_of w b → (a ≡ z → ⊥)
    → ((x : ℕ) → 0 < count x xs → (Cell x ≡ q → ⊥) × (Cell x ≡ z → ⊥)) → ((x : ℕ) → count x xs ≤ 1) → ((x : ℕ) → 0 < count x xs → a ≡ Cell x → ⊥) → Linked w a xs b → Linked v a xs t
relink_end w v p q z t ch leads returns a [] b is az f one apart l =
    let e : p ≡ a = is ∙ l.1 in
    (subst (λ (n : Link). ahead_of v n ≡ t) e leads, returns ∙ e)
relink_end w v p q z t ch leads returns a (c ∷ cs) b is az f one apart l =
    let here = f c (count_here c cs) in (
      ch.ahead a (λ e. not_last e (last_of w (Cell c) cs b l.2)) az ∙ l.0,
      ch.back (Cell c) here.0 here.1 ∙ l.1,
      relink_end w v p q z t ch leads returns (Cell c) cs b is here.1 (λ x h. f x (omega (arith, count_more x c cs))) (λ x. omega (arith, one x, count_more x c cs))
          (λ x h e. again x h (cell_of c x e)) l.2,
    )
  where
    not_last : a ≡ p → (back_of w b ≡ Cell c) ⊎ ((x : ℕ) × (0 < count x cs) × (back_of w b ≡ Cell x)) → ⊥
    not_last e (inl s) = apart c (count_here c cs) (e ∙ is ∙ s)
    not_last e (inr m) = apart m.0 (let h = m.1 in omega (arith, count_more m.0 c cs)) (e ∙ is ∙ m.2)

    again : (x : ℕ) → 0 < count x cs → c ≡ x → ⊥
    again x h e = let P : ℕ → Type 0 = λ y. 0 < count y cs in let g : 0 < count c cs = subst P (sym e) h in absurd (omega (arith, one c, count_same c cs))

-- s leads to the first word behind a in its place
pub relink_start : (w v : CellWords) (p q z s : Link) → Changed w v p q z → ahead_of v s ≡ q → back_of v q ≡ s → (a : Link) (xs : List ℕ) (b : Link) → q ≡ ahead_of w a → (b ≡ z → ⊥) → ((x : ℕ) → b ≡ Cell x → ⊥)
    → ((x : ℕ) → 0 < count x xs → (Cell x ≡ p → ⊥) × (Cell x ≡ z → ⊥)) → ((x : ℕ) → count x xs ≤ 1) → Linked w a xs b → Linked v s xs b
relink_start w v p q z s ch leads returns a [] b is bz head f one l =
    let e : q ≡ b = is ∙ l.0 in
    (leads ∙ e, subst (λ (n : Link). back_of v n ≡ s) e returns)
relink_start w v p q z s ch leads returns a (c ∷ cs) b is bz head f one l =
    let e : q ≡ Cell c = is ∙ l.0 in
    let here = f c (count_here c cs) in (
      leads ∙ e,
      subst (λ (n : Link). back_of v n ≡ s) e returns,
      frame w v p q z ch (Cell c) cs b here.0 here.1 (λ g. head c (g ∙ e)) bz
          (λ x h. let g = f x (omega (arith, count_more x c cs)) in (g.0, (λ same. again x h (cell_of x c (same ∙ e))), g.1)) l.2,
    )
  where
    again : (x : ℕ) → 0 < count x cs → x ≡ c → ⊥
    again x h e = let P : ℕ → Type 0 = λ y. 0 < count y cs in let g : 0 < count c cs = subst P e h in absurd (omega (arith, one c, count_same c cs))
