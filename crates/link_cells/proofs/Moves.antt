-- What each change of links makes of the rows of cells.
use Rattle.std.proofs.Common.{◌≡◌, ℕ, ◌<◌, ◌≤◌, ◌+◌, ◌⊎◌, inl, inr, refl, ap, sym, subst, ◌∙◌, List, [], ◌∷◌, ◌++◌, length, arith, zero, suc}
use Rattle.std.proofs.lemmas.Bool.{cases_eq, ne_eqb}
use Rattle.std.proofs.lemmas.List.{append-nil, length-set}
use Rattle.link_cells.specs.declared.link.Link.{Link}
use Rattle.link_cells.specs.declared.link.Link.TheVariants.{Cell, Head}
use Rattle.link_cells.specs.declared.link.Links.{Links}
use Rattle.link_cells.specs.Rings.{CellWords, ahead_of, back_of, HasWord, Linked, count, total, HasRings, put, put_ahead, put_back, detached, attached}
use Rattle.link_cells.proofs.Store.{Changed, Turned, turned, between}
use Rattle.link_cells.proofs.Around.{count_append, count_same, count_here, count_more, total_le, one_le, two_le, total_one, split, join, frame, last_of, first_of, relink_end, relink_start}

pub cell_of : (c d : ℕ) → Cell c ≡ Cell d → c ≡ d
cell_of c d e = cc

pub head_of : (c d : ℕ) → Head c ≡ Head d → c ≡ d
head_of c d e = cc

pub cell_head : (c h : ℕ) → Cell c ≡ Head h → ⊥
cell_head c h e = cc

pub head_cell : (h c : ℕ) → Head h ≡ Cell c → ⊥
head_cell h c e = cc

-- a word of the ring of h
abbrev pub PlaceIn : ℕ → List ℕ → Link → Type 0
PlaceIn h row n = (n ≡ Head h) ⊎ ((x : ℕ) × (0 < count x row) × (n ≡ Cell x))

-- what follows a is put behind cells that lead to it
pub append_rest : (w v : CellWords) (p q z : Link) → Changed w v p q z → (a s : Link) (xs ys : List ℕ) (b : Link) → q ≡ ahead_of w a → Linked v s xs q → (b ≡ z → ⊥) → ((x : ℕ) → b ≡ Cell x → ⊥)
    → ((x : ℕ) → 0 < count x ys → (Cell x ≡ p → ⊥) × (Cell x ≡ z → ⊥)) → ((x : ℕ) → count x ys ≤ 1) → Linked w a ys b → Linked v s (xs ++ ys) b
append_rest w v p q z ch a s xs [] b is front bz head f one l =
    rw append-nil (subst (λ (n : Link). Linked v s xs n) (is ∙ l.0) front)
append_rest w v p q z ch a s xs (c ∷ cs) b is front bz head f one l =
    let e : q ≡ Cell c = is ∙ l.0 in
    let here = f c (count_here c cs) in
    join v s xs c cs b (subst (λ (n : Link). Linked v s xs n) e front)
    (frame w v p q z ch (Cell c) cs b here.0 here.1 (λ g. head c (g ∙ e)) bz
    (λ x h. let g = f x (omega (arith, count_more x c cs)) in (g.0, (λ same. again x h (cell_of x c (same ∙ e))), g.1)) l.2)
  where
    again : (x : ℕ) → 0 < count x cs → x ≡ c → ⊥
    again x h e = let P : ℕ → Type 0 = λ y. 0 < count y cs in let g : 0 < count c cs = subst P e h in absurd (omega (arith, one c, count_same c cs))

module _ (w : CellWords) (rows : ℕ → List ℕ) (fits : HasRings w rows) where
  pub row_once : (h x : ℕ) → h < length w.heads → count x (rows h) ≤ 1
  row_once h x lt = omega (arith, one_le (λ n. count x (rows n)) h (length w.heads) lt, fits.once x)

  pub apart : (h k x : ℕ) → (h ≡ k → ⊥) → h < length w.heads → k < length w.heads → 0 < count x (rows h) → 0 < count x (rows k) → ⊥
  apart h k x ne lt ltk a b = absurd (omega (arith, two_le (λ n. count x (rows n)) h k (length w.heads) ne lt ltk, fits.once x))

  pub there_place : (h : ℕ) (n : Link) → h < length w.heads → PlaceIn h (rows h) n → HasWord w n
  there_place h n lt (inl e) = subst (λ (m : Link). HasWord w m) (sym e) lt
  there_place h n lt (inr m) = subst (λ (m : Link). HasWord w m) (sym m.2) (fits.within h m.0 lt m.1)

  pub off_head : (h k : ℕ) (n : Link) → (k ≡ h → ⊥) → PlaceIn h (rows h) n → Head k ≡ n → ⊥
  off_head h k n ne (inl e) g = ne (head_of k h (g ∙ e))
  off_head h k n ne (inr m) g = head_cell k m.0 (g ∙ m.2)

  pub off_cell : (h k x : ℕ) (n : Link) → (k ≡ h → ⊥) → h < length w.heads → k < length w.heads → 0 < count x (rows k) → PlaceIn h (rows h) n → Cell x ≡ n → ⊥
  off_cell h k x n ne lt ltk there (inl e) g = cell_head x h (g ∙ e)
  off_cell h k x n ne lt ltk there (inr m) g =
      let same : x ≡ m.0 = cell_of x m.0 (g ∙ m.2) in
      let P : ℕ → Type 0 = λ y. 0 < count y (rows h) in
      apart k h x ne ltk lt there (subst P (sym same) m.1)

  -- the ring of another head
  pub other_ring : (v : CellWords) (h g k : ℕ) (p q z : Link) → Changed w v p q z → (k ≡ h → ⊥) → (k ≡ g → ⊥) → h < length w.heads → g < length w.heads → k < length w.heads → PlaceIn h (rows h) p → PlaceIn g (rows g) q
      → (Head k ≡ z → ⊥) → ((x : ℕ) → 0 < count x (rows k) → Cell x ≡ z → ⊥) → Linked v (Head k) (rows k) (Head k)
  other_ring v h g k p q z ch nh ng lth ltg ltk hp hq hz f =
      frame w v p q z ch (Head k) (rows k) (Head k) (off_head h k p nh hp) hz (off_head g k q ng hq) hz
      (λ x there. (off_cell h k x p nh lth ltk there hp, off_cell g k x q ng ltg ltk there hq, f x there)) (fits.ring k ltk)

  pub back_place : (h : ℕ) → h < length w.heads → PlaceIn h (rows h) (back_of w (Head h))
  back_place h lt = last_of w (Head h) (rows h) (Head h) (fits.ring h lt)

  pub ahead_place : (h : ℕ) → h < length w.heads → PlaceIn h (rows h) (ahead_of w (Head h))
  ahead_place h lt = first_of w (Head h) (rows h) (Head h) (fits.ring h lt)

  -- the neighbours of a cell in a row
  cell_back : (h c : ℕ) (xs ys : List ℕ) → h < length w.heads → rows h ≡ xs ++ c ∷ ys → PlaceIn h xs (back_of w (Cell c))
  cell_back h c xs ys lt is = last_of w (Head h) xs (Cell c) (split w (Head h) xs c ys (Head h) (subst (λ (r : List ℕ). Linked w (Head h) r (Head h)) is (fits.ring h lt))).0

  cell_ahead : (h c : ℕ) (xs ys : List ℕ) → h < length w.heads → rows h ≡ xs ++ c ∷ ys → PlaceIn h ys (ahead_of w (Cell c))
  cell_ahead h c xs ys lt is = first_of w (Cell c) ys (Head h) (split w (Head h) xs c ys (Head h) (subst (λ (r : List ℕ). Linked w (Head h) r (Head h)) is (fits.ring h lt))).1

widen : (h : ℕ) (xs ys : List ℕ) (n : Link) → ((x : ℕ) → count x xs ≤ count x ys) → PlaceIn h xs n → PlaceIn h ys n
widen h xs ys n le (inl e) = inl e
widen h xs ys n le (inr m) = inr (m.0, (let a = m.1 in omega (arith, le m.0)), m.2)

in_front : (x : ℕ) (xs ys : List ℕ) → count x xs ≤ count x (xs ++ ys)
in_front x xs ys = omega (arith, count_append x xs ys)

behind : (x c : ℕ) (xs ys : List ℕ) → count x ys ≤ count x (xs ++ c ∷ ys)
behind x c xs ys = omega (arith, count_append x xs (c ∷ ys), count_more x c ys)

-- a cell that stands apart from a row
not_among : (h c : ℕ) (xs : List ℕ) (n : Link) → count c xs ≡ 0 → PlaceIn h xs n → Cell c ≡ n → ⊥
not_among h c xs n none (inl e) g = cell_head c h (g ∙ e)
not_among h c xs n none (inr m) g =
    let same : c ≡ m.0 = cell_of c m.0 (g ∙ m.2) in
    let P : ℕ → Type 0 = λ y. 0 < count y xs in
    let here : 0 < count c xs = subst P (sym same) m.1 in absurd (omega arith)

module _ (w : CellWords) (rows : ℕ → List ℕ) (fits : HasRings w rows) (h c : ℕ) (xs ys : List ℕ) (lt : h < length w.heads) (is : rows h ≡ xs ++ c ∷ ys) where
  whole : (x : ℕ) → count x xs + count x (c ∷ ys) ≤ 1
  whole x = omega (arith, row_once w rows fits h x lt, ap (count x) is, count_append x xs (c ∷ ys))

  halves : Linked w (Head h) xs (Cell c) × Linked w (Cell c) ys (Head h)
  halves = split w (Head h) xs c ys (Head h) (subst (λ (r : List ℕ). Linked w (Head h) r (Head h)) is (fits.ring h lt))

  back_here : PlaceIn h (rows h) (back_of w (Cell c))
  back_here = widen h xs (rows h) (back_of w (Cell c)) (λ x. omega (arith, ap (count x) is, in_front x xs (c ∷ ys))) (cell_back w rows fits h c xs ys lt is)

  ahead_here : PlaceIn h (rows h) (ahead_of w (Cell c))
  ahead_here = widen h ys (rows h) (ahead_of w (Cell c)) (λ x. omega (arith, ap (count x) is, behind x c xs ys)) (cell_ahead w rows fits h c xs ys lt is)

  pub back_there : HasWord w (back_of w (Cell c))
  back_there = there_place w rows fits h (back_of w (Cell c)) lt back_here

  pub ahead_there : HasWord w (ahead_of w (Cell c))
  ahead_there = there_place w rows fits h (ahead_of w (Cell c)) lt ahead_here

  turn : Turned w (detached w c) (back_of w (Cell c)) (ahead_of w (Cell c)) (Cell c)
  turn = turned w (back_of w (Cell c)) (ahead_of w (Cell c)) (Cell c) back_there ahead_there

  front_ring : Linked (detached w c) (Head h) xs (ahead_of w (Cell c))
  front_ring =
      let v = detached w c in
      relink_end w v (back_of w (Cell c)) (ahead_of w (Cell c)) (Cell c) (ahead_of w (Cell c)) turn.changed turn.leads turn.returns (Head h) xs (Cell c) refl (head_cell h c)
      (λ x there. (
        not_among h x ys (ahead_of w (Cell c)) (omega (arith, whole x, count_more x c ys)) (cell_ahead w rows fits h c xs ys lt is),
        (λ e. let same : x ≡ c = cell_of x c e in let P : ℕ → Type 0 = λ y. 0 < count y xs in let g : 0 < count c xs = subst P same there in absurd (omega (arith, whole c, count_same c ys))),
      ))
      (λ x. omega (arith, whole x)) (λ x there e. head_cell h x e) halves.0

  pub own_ring : Linked (detached w c) (Head h) (xs ++ ys) (Head h)
  own_ring =
      let v = detached w c in
      append_rest w v (back_of w (Cell c)) (ahead_of w (Cell c)) (Cell c) turn.changed (Cell c) (Head h) xs ys (Head h) refl front_ring (head_cell h c) (λ x e. head_cell h x e)
      (λ x there. (
        not_among h x xs (back_of w (Cell c)) (omega (arith, whole x, count_more x c ys)) (cell_back w rows fits h c xs ys lt is),
        (λ e. let same : x ≡ c = cell_of x c e in let P : ℕ → Type 0 = λ y. 0 < count y ys in let g : 0 < count c ys = subst P same there in absurd (omega (arith, whole c, count_same c ys))),
      ))
      (λ x. omega (arith, whole x, count_more x c ys)) halves.1

pub heads_put : (w : CellWords) (n : Link) (l : Links) → length (put w n l).heads ≡ length w.heads
heads_put w (Cell c) l = refl
heads_put w (Head h) l = length-set w.heads h l

pub cells_put : (w : CellWords) (n : Link) (l : Links) → length (put w n l).cells ≡ length w.cells
cells_put w (Cell c) l = length-set w.cells c l
cells_put w (Head h) l = refl

-- two writes
pub two_heads : (w : CellWords) (n m x y : Link) → length (put_back (put_ahead w n x) m y).heads ≡ length w.heads
two_heads w n m x y = heads_put (put_ahead w n x) m _ ∙ heads_put w n _

pub two_cells : (w : CellWords) (n m x y : Link) → length (put_back (put_ahead w n x) m y).cells ≡ length w.cells
two_cells w n m x y = cells_put (put_ahead w n x) m _ ∙ cells_put w n _

-- the rows differ at one head
abbrev pub SameBut : ℕ → (ℕ → List ℕ) → (ℕ → List ℕ) → Type 0
SameBut h rows next = (k : ℕ) → (k ≡ h → ⊥) → next k ≡ rows k

-- a cell is taken out of its row
pub fits_detach : (w : CellWords) (rows : ℕ → List ℕ) → HasRings w rows → (h c : ℕ) (xs ys : List ℕ) → h < length w.heads → rows h ≡ xs ++ c ∷ ys
    → (next : ℕ → List ℕ) → next h ≡ xs ++ ys → SameBut h rows next → HasRings (detached w c) next
fits_detach w rows fits h c xs ys lt is next now same =
    let p = back_of w (Cell c) in
    let q = ahead_of w (Cell c) in
    let v = detached w c in
    let heads : length v.heads ≡ length w.heads = two_heads w p q q p in
    let cells : length v.cells ≡ length w.cells = two_cells w p q q p in
    let fewer : (k x : ℕ) → count x (next k) ≤ count x (rows k) = fewer_of in
    record {
      ring = λ k below. elim (cases_eq k h) [
        | inl e ↦ subst (λ (n : ℕ). Linked v (Head n) (next n) (Head n)) (sym e) (subst (λ (r : List ℕ). Linked v (Head h) r (Head h)) (sym now) (own_ring w rows fits h c xs ys lt is))
        | inr ne ↦ subst (λ (r : List ℕ). Linked v (Head k) r (Head k)) (sym (same k ne))
            (other_ring w rows fits v h h k p q (Cell c) (turn w rows fits h c xs ys lt is).changed ne ne lt lt (omega arith)
            (back_here w rows fits h c xs ys lt is) (ahead_here w rows fits h c xs ys lt is) (head_cell k c)
            (λ x there e. let g : x ≡ c = cell_of x c e in let P : ℕ → Type 0 = λ y. 0 < count y (rows k) in
            apart w rows fits k h c ne (omega arith) lt (subst P g there) (omega (arith, ap (count c) is, count_append c xs (c ∷ ys), count_same c ys))))
      ];
      within = λ k x below there. rw cells (fits.within k x (omega arith) (omega (arith, fewer k x)));
      once = λ x. rw heads (omega (arith, fits.once x, total_le (λ k. count x (rows k)) (λ k. count x (next k)) (length w.heads) (λ k below. fewer k x)));
    }
  where
    fewer_of : (k x : ℕ) → count x (next k) ≤ count x (rows k)
    fewer_of k x = elim (cases_eq k h) [
      | inl e ↦ subst (λ (n : ℕ). count x (next n) ≤ count x (rows n)) (sym e) (omega (arith, ap (count x) now, ap (count x) is, count_append x xs ys, count_append x xs (c ∷ ys), count_more x c ys))
      | inr ne ↦ omega (arith, ap (count x) (same k ne))
    ]

-- no row has the cell
abbrev pub Absent : CellWords → (ℕ → List ℕ) → ℕ → Type 0
Absent w rows c = (k : ℕ) → k < length w.heads → count c (rows k) ≡ 0

total_zero : (f : ℕ → ℕ) (m : ℕ) → ((k : ℕ) → k < m → f k ≡ 0) → total f m ≡ 0
total_zero f zero h = refl
total_zero f (suc m) h = omega (arith, h m (omega arith), total_zero f m (λ k lt. h k (omega arith)))

pub count_alone : (x c : ℕ) → (x ≡ c → ⊥) → count x (c ∷ []) ≡ 0
count_alone x c ne = elim (cases_eq c x) [ inl e ↦ absurd (ne (sym e)) | inr other ↦ rw (ne_eqb c x other) refl ]

-- one cell more in one row
once_more : (w : CellWords) (rows : ℕ → List ℕ) → HasRings w rows → (h c : ℕ) → h < length w.heads → Absent w rows c
    → (next : ℕ → List ℕ) → ((x : ℕ) → count x (next h) ≡ count x (rows h) + count x (c ∷ [])) → SameBut h rows next → (x : ℕ) → total (λ k. count x (next k)) (length w.heads) ≤ 1
once_more w rows fits h c lt absent next more same x =
    let t = total_one (λ k. count x (rows k)) (λ k. count x (next k)) h (length w.heads) lt (λ k ne. ap (count x) (same k ne)) in
    elim (cases_eq x c) [
      | inl e ↦ let z : total (λ k. count x (rows k)) (length w.heads) ≡ 0 = total_zero (λ k. count x (rows k)) (length w.heads) (λ k below. subst (λ (y : ℕ). count y (rows k) ≡ 0) (sym e) (absent k below)) in
          let one : count x (c ∷ []) ≡ 1 = subst (λ (y : ℕ). count y (c ∷ []) ≡ 1) (sym e) (count_same c []) in
          omega (arith, more x)
      | inr ne ↦ omega (arith, more x, count_alone x c ne, fits.once x)
    ]

module _ (w : CellWords) (rows : ℕ → List ℕ) (fits : HasRings w rows) (h c : ℕ) (lt : h < length w.heads) (there : c < length w.cells) (absent : Absent w rows c) where
  off : (n : Link) → PlaceIn h (rows h) n → Cell c ≡ n → ⊥
  off n place = not_among h c (rows h) n (absent h lt) place

  not_it : (k x : ℕ) → k < length w.heads → 0 < count x (rows k) → Cell x ≡ Cell c → ⊥
  not_it k x below here e = let same : x ≡ c = cell_of x c e in let P : ℕ → Type 0 = λ y. 0 < count y (rows k) in let g : 0 < count c (rows k) = subst P same here in absurd (omega (arith, absent k below))

  -- with the links of its own row right, all rows fit
  fits_more : (p q : Link) → PlaceIn h (rows h) p → PlaceIn h (rows h) q → (next : ℕ → List ℕ) → SameBut h rows next
      → ((x : ℕ) → count x (next h) ≡ count x (rows h) + count x (c ∷ [])) → Linked (attached w c p q) (Head h) (next h) (Head h) → HasRings (attached w c p q) next
  fits_more p q hp hq next same more own =
      let v = attached w c p q in
      let u = put w (Cell c) (record { back = p; ahead = q }) in
      let heads : length v.heads ≡ length w.heads = two_heads u p q (Cell c) (Cell c) ∙ heads_put w (Cell c) (record { back = p; ahead = q }) in
      let cells : length v.cells ≡ length w.cells = two_cells u p q (Cell c) (Cell c) ∙ cells_put w (Cell c) (record { back = p; ahead = q }) in
      let b = between w c p q there (there_place w rows fits h p lt hp) (there_place w rows fits h q lt hq) (off p hp) (off q hq) in
      record {
        ring = λ k below. elim (cases_eq k h) [
          | inl e ↦ subst (λ (n : ℕ). Linked v (Head n) (next n) (Head n)) (sym e) own
          | inr ne ↦ subst (λ (r : List ℕ). Linked v (Head k) r (Head k)) (sym (same k ne))
              (other_ring w rows fits v h h k p q (Cell c) b.changed ne ne lt lt (omega arith) hp hq (head_cell k c) (λ x here. not_it k x (omega arith) here))
        ];
        within = λ k x below here. rw cells (within_of next same more k x (omega arith) here);
        once = λ x. rw heads (once_more w rows fits h c lt absent next more same x);
      }
    where
      within_of : (next : ℕ → List ℕ) → SameBut h rows next → ((x : ℕ) → count x (next h) ≡ count x (rows h) + count x (c ∷ [])) → (k x : ℕ) → k < length w.heads → 0 < count x (next k) → x < length w.cells
      within_of next same more k x below here = elim (cases_eq k h) [
        | inl e ↦ elim (cases_eq x c) [
          | inl s ↦ rw s there
          | inr ne ↦ fits.within h x lt (let g : 0 < count x (next h) = subst (λ (n : ℕ). 0 < count x (next n)) e here in omega (arith, more x, count_alone x c ne))
        ]
        | inr ne ↦ fits.within k x below (omega (arith, ap (count x) (same k ne)))
      ]

  pub fits_front : (next : ℕ → List ℕ) → next h ≡ c ∷ rows h → SameBut h rows next → HasRings (attached w c (Head h) (ahead_of w (Head h))) next
  fits_front next now same =
      let q = ahead_of w (Head h) in
      let hq = ahead_place w rows fits h lt in
      let v = attached w c (Head h) q in
      let b = between w c (Head h) q there lt (there_place w rows fits h q lt hq) (cell_head c h) (off q hq) in
      fits_more (Head h) q (inl refl) hq next same (λ x. omega (arith, ap (count x) now))
      (subst (λ (r : List ℕ). Linked v (Head h) r (Head h)) (sym now) (
        b.leads,
        b.from,
        relink_start w v (Head h) q (Cell c) (Cell c) b.changed b.on b.returns (Head h) (rows h) (Head h) refl (head_cell h c) (λ x e. head_cell h x e)
            (λ x here. (cell_head x h, not_it h x lt here)) (λ x. row_once w rows fits h x lt) (fits.ring h lt),
      ))

  pub fits_back : (next : ℕ → List ℕ) → next h ≡ rows h ++ c ∷ [] → SameBut h rows next → HasRings (attached w c (back_of w (Head h)) (Head h)) next
  fits_back next now same =
      let p = back_of w (Head h) in
      let hp = back_place w rows fits h lt in
      let v = attached w c p (Head h) in
      let b = between w c p (Head h) there (there_place w rows fits h p lt hp) lt (off p hp) (cell_head c h) in
      fits_more p (Head h) hp (inl refl) next same (λ x. omega (arith, ap (count x) now, count_append x (rows h) (c ∷ [])))
      (subst (λ (r : List ℕ). Linked v (Head h) r (Head h)) (sym now)
      (join v (Head h) (rows h) c [] (Head h)
      (relink_end w v p (Head h) (Cell c) (Cell c) b.changed b.leads b.from (Head h) (rows h) (Head h) refl (head_cell h c)
      (λ x here. (cell_head x h, not_it h x lt here)) (λ x. row_once w rows fits h x lt) (λ x here e. head_cell h x e) (fits.ring h lt))
      (b.on, b.returns)))
