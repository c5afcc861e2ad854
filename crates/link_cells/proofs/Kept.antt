-- A cell that goes from one row to another: the rows after it, and the arena that they make.
use Rattle.std.proofs.Common.{◌≡◌, ℕ, ◌<◌, ◌+◌, inl, inr, refl, ap, sym, subst, ◌∙◌, List, [], ◌∷◌, ◌++◌, length, arith, cond, nat_eq, eq-eqb, length-append}
use Rattle.std.proofs.lemmas.Bool.{cases_eq, ne_eqb}
use Rattle.link_cells.specs.declared.link.Link.{Link}
use Rattle.link_cells.specs.declared.link.Link.TheVariants.{Cell, Head}
use Rattle.link_cells.specs.Rings.{CellWords, ahead_of, back_of, count, total, HasRings, put, detached, attached, moved_front, moved_back, CanMove}
use Rattle.link_cells.proofs.Around.{count_append, count_same, total_one}
use Rattle.link_cells.proofs.Moves.{Absent, row_once, there_place, back_place, ahead_place, apart, fits_detach, fits_front, fits_back, back_there, ahead_there, two_heads, two_cells, heads_put, cells_put}

detached_heads : (w : CellWords) (c : ℕ) → length (detached w c).heads ≡ length w.heads
detached_heads w c = two_heads w (back_of w (Cell c)) (ahead_of w (Cell c)) (ahead_of w (Cell c)) (back_of w (Cell c))

detached_cells : (w : CellWords) (c : ℕ) → length (detached w c).cells ≡ length w.cells
detached_cells w c = two_cells w (back_of w (Cell c)) (ahead_of w (Cell c)) (ahead_of w (Cell c)) (back_of w (Cell c))

pub attached_heads : (w : CellWords) (c : ℕ) (p q : Link) → length (attached w c p q).heads ≡ length w.heads
attached_heads w c p q = two_heads (put w (Cell c) (record { back = p; ahead = q })) p q (Cell c) (Cell c) ∙ heads_put w (Cell c) (record { back = p; ahead = q })

pub attached_cells : (w : CellWords) (c : ℕ) (p q : Link) → length (attached w c p q).cells ≡ length w.cells
attached_cells w c p q = two_cells (put w (Cell c) (record { back = p; ahead = q })) p q (Cell c) (Cell c) ∙ cells_put w (Cell c) (record { back = p; ahead = q })

pub front_heads : (w : CellWords) (c h : ℕ) → length (moved_front w c h).heads ≡ length w.heads
front_heads w c h = attached_heads (detached w c) c (Head h) (ahead_of (detached w c) (Head h)) ∙ detached_heads w c

pub front_cells : (w : CellWords) (c h : ℕ) → length (moved_front w c h).cells ≡ length w.cells
front_cells w c h = attached_cells (detached w c) c (Head h) (ahead_of (detached w c) (Head h)) ∙ detached_cells w c

pub back_heads : (w : CellWords) (c h : ℕ) → length (moved_back w c h).heads ≡ length w.heads
back_heads w c h = attached_heads (detached w c) c (back_of (detached w c) (Head h)) (Head h) ∙ detached_heads w c

pub back_cells : (w : CellWords) (c h : ℕ) → length (moved_back w c h).cells ≡ length w.cells
back_cells w c h = attached_cells (detached w c) c (back_of (detached w c) (Head h)) (Head h) ∙ detached_cells w c

-- a row put in place of another
pub replaced : (ℕ → List ℕ) → ℕ → List ℕ → ℕ → List ℕ
replaced rows h row n = cond (nat_eq n h) row (rows n)

pub replaced_here : (rows : ℕ → List ℕ) (h : ℕ) (row : List ℕ) → replaced rows h row h ≡ row
unfolding replaced
replaced_here rows h row = rw (eq-eqb h h refl) refl

pub replaced_other : (rows : ℕ → List ℕ) (h : ℕ) (row : List ℕ) (k : ℕ) → (k ≡ h → ⊥) → replaced rows h row k ≡ rows k
unfolding replaced
replaced_other rows h row k ne = rw (ne_eqb k h ne) refl

module _ (w : CellWords) (rows : ℕ → List ℕ) (fits : HasRings w rows) (g h c : ℕ) (xs ys : List ℕ) (ltg : g < length w.heads) (lth : h < length w.heads) (ne : g ≡ h → ⊥) (is : rows g ≡ xs ++ c ∷ ys) where
  abbrev pub taken : ℕ → List ℕ
  taken = replaced rows g (xs ++ ys)

  taken_fits : HasRings (detached w c) taken
  taken_fits = fits_detach w rows fits g c xs ys ltg is taken (replaced_here rows g (xs ++ ys)) (λ k other. replaced_other rows g (xs ++ ys) k other)

  taken_other : taken h ≡ rows h
  taken_other = replaced_other rows g (xs ++ ys) h (λ e. ne (sym e))

  pub stood : 0 < count c (rows g)
  stood = omega (arith, ap (count c) is, count_append c xs (c ∷ ys), count_same c ys)

  pub cell_there : c < length w.cells
  cell_there = fits.within g c ltg stood

  absent : Absent (detached w c) taken c
  absent k below = elim (cases_eq k g) [
    | inl e ↦ subst (λ (n : ℕ). count c (taken n) ≡ 0) (sym e) (ap (count c) (replaced_here rows g (xs ++ ys)) ∙ omega (arith, row_once w rows fits g c ltg, ap (count c) is, count_append c xs (c ∷ ys), count_same c ys, count_append c xs ys))
    | inr other ↦ ap (count c) (replaced_other rows g (xs ++ ys) k other) ∙ elim (cases_eq (count c (rows k)) 0) [
      | inl z ↦ z
      | inr some ↦ absurd (apart w rows fits k g c other (omega (arith, detached_heads w c)) ltg (omega arith) stood)
    ]
  ]

  lthd : h < length (detached w c).heads
  lthd = rw (detached_heads w c) lth

  pub can_move : CanMove w c h
  can_move = record {
    cell = cell_there;
    back = back_there w rows fits g c xs ys ltg is;
    ahead = ahead_there w rows fits g c xs ys ltg is;
    head = lth;
    first = there_place (detached w c) taken taken_fits h (ahead_of (detached w c) (Head h)) lthd (ahead_place (detached w c) taken taken_fits h lthd);
    last = there_place (detached w c) taken taken_fits h (back_of (detached w c) (Head h)) lthd (back_place (detached w c) taken taken_fits h lthd);
    same_cells = detached_cells w c;
    same_heads = detached_heads w c;
  }

  -- the rows with one in place of that of h
  abbrev pub moved : List ℕ → ℕ → List ℕ
  moved row = replaced taken h row

  pub moved_g : (row : List ℕ) → moved row g ≡ xs ++ ys
  moved_g row = replaced_other taken h row g ne ∙ replaced_here rows g (xs ++ ys)

  pub moved_h : (row : List ℕ) → moved row h ≡ row
  moved_h row = replaced_here taken h row

  pub moved_k : (row : List ℕ) (k : ℕ) → (k ≡ g → ⊥) → (k ≡ h → ⊥) → moved row k ≡ rows k
  moved_k row k ng nh = replaced_other taken h row k nh ∙ replaced_other rows g (xs ++ ys) k ng

  pub front_fits : HasRings (moved_front w c h) (moved (c ∷ rows h))
  front_fits = fits_front (detached w c) taken taken_fits h c lthd (rw (detached_cells w c) cell_there) absent (moved (c ∷ rows h))
      (moved_h (c ∷ rows h) ∙ ap (λ (r : List ℕ). c ∷ r) (sym taken_other)) (λ k other. replaced_other taken h (c ∷ rows h) k other)

  pub back_fits : HasRings (moved_back w c h) (moved (rows h ++ c ∷ []))
  back_fits = fits_back (detached w c) taken taken_fits h c lthd (rw (detached_cells w c) cell_there) absent (moved (rows h ++ c ∷ []))
      (moved_h (rows h ++ c ∷ []) ∙ ap (λ (r : List ℕ). r ++ c ∷ []) (sym taken_other)) (λ k other. replaced_other taken h (rows h ++ c ∷ []) k other)

  pub moved_sum : (row : List ℕ) → length row ≡ length (rows h) + 1 → total (λ k. length (moved row k)) (length w.heads) ≡ total (λ k. length (rows k)) (length w.heads)
  moved_sum row long =
      let one = total_one (λ k. length (rows k)) (λ k. length (taken k)) g (length w.heads) ltg (λ k other. ap length (replaced_other rows g (xs ++ ys) k other)) in
      let two = total_one (λ k. length (taken k)) (λ k. length (moved row k)) h (length w.heads) lth (λ k other. ap length (replaced_other taken h row k other)) in
      omega (arith, ap length (replaced_here rows g (xs ++ ys)), ap length (moved_h row), ap length taken_other, ap length is, length-append xs (c ∷ ys), length-append xs ys)
