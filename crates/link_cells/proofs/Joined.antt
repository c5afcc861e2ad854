-- One ring put in front of another.
use Rattle.std.proofs.Common.{◌≡◌, ℕ, ◌<◌, ◌≤◌, ◌+◌, inl, inr, refl, ap, sym, subst, ◌∙◌, List, [], ◌∷◌, ◌++◌, length, arith, cond, nat_eq, eq-eqb}
use Rattle.std.proofs.lemmas.Bool.{cases_eq, ne_eqb}
use Rattle.link_cells.specs.declared.link.Link.{Link}
use Rattle.link_cells.specs.declared.link.Link.TheVariants.{Cell, Head}
use Rattle.link_cells.specs.declared.link.Links.{Links}
use Rattle.link_cells.specs.Rings.{CellWords, alone, links_of, ahead_of, back_of, HasWord, Linked, count, total, HasRings, put_ahead, put_back, spliced}
use Rattle.link_cells.proofs.Store.{Changed, Turned, turned, there_put, put_alone}
use Rattle.link_cells.proofs.Around.{count_append, two_le, total_one, frame, last_of, relink_end, relink_start}
use Rattle.link_cells.proofs.Moves.{append_rest, row_once, off_head, off_cell, there_place, other_ring, back_place, ahead_place, two_heads, two_cells, heads_put, cells_put, cell_of, head_of, cell_head, head_cell}

-- the sum where one number goes to another
pub total_moved : (f g : ℕ → ℕ) (from to m : ℕ) → (from ≡ to → ⊥) → from < m → to < m → g to ≡ f from + f to → g from ≡ 0 → ((k : ℕ) → (k ≡ from → ⊥) → (k ≡ to → ⊥) → g k ≡ f k) → total g m ≡ total f m
total_moved f g from to m ne ltf ltt there none others =
    let mid : ℕ → ℕ = λ n. cond (nat_eq n from) 0 (f n) in
    let first = total_one f mid from m ltf (λ k other. rw (ne_eqb k from other) refl) in
    let gone : mid from ≡ 0 = rw (eq-eqb from from refl) refl in
    let stays : mid to ≡ f to = rw (ne_eqb to from (λ e. ne (sym e))) refl in
    let second = total_one mid g to m ltt (λ k other. elim (cases_eq k from) [
      | inl e ↦ subst (λ (n : ℕ). g n ≡ mid n) (sym e) (none ∙ sym gone)
      | inr apart ↦ others k apart other ∙ sym (rw (ne_eqb k from apart) refl)
    ]) in
    omega arith

there_two : (w : CellWords) (n m x y at : Link) → HasWord w at → HasWord (put_back (put_ahead w n x) m y) at
there_two w n m x y at h = there_put (put_ahead w n x) m (record { back = y; ahead = ahead_of (put_ahead w n x) m }) at (there_put w n (record { back = back_of w n; ahead = x }) at h)

last_cell : (w : CellWords) (a : Link) (c : ℕ) (cs : List ℕ) (b : Link) → Linked w a (c ∷ cs) b → (h : ℕ) → Head h ≡ back_of w b → ⊥
last_cell w a c cs b l h e = elim (last_of w (Cell c) cs b l.2) [ inl s ↦ head_cell h c (e ∙ s) | inr m ↦ head_cell h m.0 (e ∙ m.2) ]

module _ (w : CellWords) (rows : ℕ → List ℕ) (fits : HasRings w rows) (from to : ℕ) (ne : from ≡ to → ⊥) (ltf : from < length w.heads) (ltt : to < length w.heads)
    (c : ℕ) (cs : List ℕ) (is : rows from ≡ c ∷ cs) where
  abbrev z : Link
  z = Cell (length w.cells)

  abbrev last : Link
  last = back_of w (Head from)

  abbrev first : Link
  first = ahead_of w (Head from)

  abbrev front : Link
  front = ahead_of w (Head to)

  abbrev one : CellWords
  one = put_back (put_ahead w last front) front last

  abbrev two : CellWords
  two = put_back (put_ahead one (Head to) first) first (Head to)

  not_z : (k x : ℕ) → k < length w.heads → 0 < count x (rows k) → Cell x ≡ z → ⊥
  not_z k x lt here e = let same : x ≡ length w.cells = cell_of x (length w.cells) e in absurd (omega (arith, fits.within k x lt here))

  ringf : Linked w (Head from) (c ∷ cs) (Head from)
  ringf = subst (λ (r : List ℕ). Linked w (Head from) r (Head from)) is (fits.ring from ltf)

  turn_one : Turned w one last front z
  turn_one = turned w last front z (there_place w rows fits from last ltf (back_place w rows fits from ltf)) (there_place w rows fits to front ltt (ahead_place w rows fits to ltt))

  -- the cells of the one, and behind them those of the other
  chained : Linked one (Head from) (rows from ++ rows to) (Head to)
  chained =
      append_rest w one last front z turn_one.changed (Head to) (Head from) (rows from) (rows to) (Head to) refl
      (relink_end w one last front z front turn_one.changed turn_one.leads turn_one.returns (Head from) (rows from) (Head from) refl (head_cell from (length w.cells))
      (λ x here. (off_cell w rows fits to from x front ne ltt ltf here (ahead_place w rows fits to ltt), not_z from x ltf here))
      (λ x. row_once w rows fits from x ltf) (λ x here e. head_cell from x e) (fits.ring from ltf))
      (head_cell to (length w.cells)) (λ x e. head_cell to x e)
      (λ x here. (off_cell w rows fits from to x last (λ e. ne (sym e)) ltf ltt here (back_place w rows fits from ltf), not_z to x ltt here))
      (λ x. row_once w rows fits to x ltt) (fits.ring to ltt)

  turn_two : Turned one two (Head to) first z
  turn_two = turned one (Head to) first z (there_two w last front front last (Head to) ltt)
      (there_two w last front front last first (there_place w rows fits from first ltf (ahead_place w rows fits from ltf)))

  both_once : (x : ℕ) → count x (rows from ++ rows to) ≤ 1
  both_once x = omega (arith, count_append x (rows from) (rows to), two_le (λ n. count x (rows n)) from to (length w.heads) ne ltf ltt, fits.once x)

  in_both : (x : ℕ) → 0 < count x (rows from ++ rows to) → Cell x ≡ z → ⊥
  in_both x here e =
      elim (cases_eq (count x (rows from)) 0) [
        | inl none ↦ not_z to x ltt (omega (arith, count_append x (rows from) (rows to))) e
        | inr some ↦ not_z from x ltf (omega arith) e
      ]

  joined_two : Linked two (Head to) (rows from ++ rows to) (Head to)
  joined_two =
      relink_start one two (Head to) first z (Head to) turn_two.changed turn_two.leads turn_two.returns (Head from) (rows from ++ rows to) (Head to)
      (sym (turn_one.changed.ahead (Head from) (last_cell w (Head from) c cs (Head from) ringf from) (head_cell from (length w.cells))))
      (head_cell to (length w.cells)) (λ x e. head_cell to x e) (λ x here. (cell_head x to, in_both x here)) both_once chained

  there_from : HasWord two (Head from)
  there_from = there_two one (Head to) first first (Head to) (Head from) (there_two w last front front last (Head from) ltf)

  ended : Changed two (spliced w from to) (Head from) (Head from) z × (links_of (spliced w from to) (Head from) ≡ alone from)
  ended = put_alone two from z there_from

  joined_ring : Linked (spliced w from to) (Head to) (rows from ++ rows to) (Head to)
  joined_ring =
      let apart : Head to ≡ Head from → ⊥ = λ e. ne (sym (head_of to from e)) in
      frame two (spliced w from to) (Head from) (Head from) z ended.0 (Head to) (rows from ++ rows to) (Head to) apart (head_cell to (length w.cells)) apart (head_cell to (length w.cells))
      (λ x here. (cell_head x from, cell_head x from, in_both x here)) joined_two

  from_ring : Linked (spliced w from to) (Head from) [] (Head from)
  from_ring = (ap (λ (l : Links). l.ahead) ended.1, ap (λ (l : Links). l.back) ended.1)

  rest_ring : (k : ℕ) → k < length w.heads → (k ≡ from → ⊥) → (k ≡ to → ⊥) → Linked (spliced w from to) (Head k) (rows k) (Head k)
  rest_ring k lt nf nt =
      let zk = head_cell k (length w.cells) in
      let r1 = other_ring w rows fits one from to k last front z turn_one.changed nf nt ltf ltt lt (back_place w rows fits from ltf) (ahead_place w rows fits to ltt) zk (λ x here. not_z k x lt here) in
      let r2 = frame one two (Head to) first z turn_two.changed (Head k) (rows k) (Head k) (λ e. nt (head_of k to e)) zk (off_head w rows fits from k first nf (ahead_place w rows fits from ltf)) zk
      (λ x here. (cell_head x to, off_cell w rows fits from k x first nf ltf lt here (ahead_place w rows fits from ltf), not_z k x lt here)) r1 in
      frame two (spliced w from to) (Head from) (Head from) z ended.0 (Head k) (rows k) (Head k) (λ e. nf (head_of k from e)) zk (λ e. nf (head_of k from e)) zk
      (λ x here. (cell_head x from, cell_head x from, not_z k x lt here)) r2

  pub joined_heads : length (spliced w from to).heads ≡ length w.heads
  joined_heads = heads_put two (Head from) (alone from) ∙ two_heads one (Head to) first first (Head to) ∙ two_heads w last front front last

  pub joined_cells : length (spliced w from to).cells ≡ length w.cells
  joined_cells = cells_put two (Head from) (alone from) ∙ two_cells one (Head to) first first (Head to) ∙ two_cells w last front front last

  pub last_there : HasWord w last
  last_there = there_place w rows fits from last ltf (back_place w rows fits from ltf)

  pub first_there : HasWord w first
  first_there = there_place w rows fits from first ltf (ahead_place w rows fits from ltf)

  pub front_there : HasWord w front
  front_there = there_place w rows fits to front ltt (ahead_place w rows fits to ltt)

  pub fits_join : (next : ℕ → List ℕ) → next to ≡ rows from ++ rows to → next from ≡ [] → ((k : ℕ) → (k ≡ from → ⊥) → (k ≡ to → ⊥) → next k ≡ rows k) → HasRings (spliced w from to) next
  fits_join next now none same =
      let v = spliced w from to in
      record {
        ring = λ k below. elim (cases_eq k from) [
          | inl e ↦ subst (λ (n : ℕ). Linked v (Head n) (next n) (Head n)) (sym e) (subst (λ (r : List ℕ). Linked v (Head from) r (Head from)) (sym none) from_ring)
          | inr nf ↦ elim (cases_eq k to) [
            | inl e ↦ subst (λ (n : ℕ). Linked v (Head n) (next n) (Head n)) (sym e) (subst (λ (r : List ℕ). Linked v (Head to) r (Head to)) (sym now) joined_ring)
            | inr nt ↦ subst (λ (r : List ℕ). Linked v (Head k) r (Head k)) (sym (same k nf nt)) (rest_ring k (rw (← joined_heads) below) nf nt)
          ]
        ];
        within = λ k x below here. rw joined_cells (within_of next now none same k x (rw (← joined_heads) below) here);
        once = λ x. rw joined_heads (omega (
          arith,
          fits.once x,
          total_moved (λ k. count x (rows k)) (λ k. count x (next k)) from to (length w.heads) ne ltf ltt
              (ap (count x) now ∙ count_append x (rows from) (rows to)) (ap (count x) none) (λ k nf nt. ap (count x) (same k nf nt)),
        ));
      }
    where
      within_of : (next : ℕ → List ℕ) → next to ≡ rows from ++ rows to → next from ≡ [] → ((k : ℕ) → (k ≡ from → ⊥) → (k ≡ to → ⊥) → next k ≡ rows k) → (k x : ℕ) → k < length w.heads → 0 < count x (next k) → x < length w.cells
      within_of next now none same k x below here = elim (cases_eq k from) [
        | inl e ↦ absurd (let g : 0 < count x (next from) = subst (λ (n : ℕ). 0 < count x (next n)) e here in omega (arith, ap (count x) none))
        | inr nf ↦ elim (cases_eq k to) [
          | inl e ↦ let g : 0 < count x (next to) = subst (λ (n : ℕ). 0 < count x (next n)) e here in
              elim (cases_eq (count x (rows from)) 0) [
                | inl gone ↦ fits.within to x ltt (omega (arith, ap (count x) now, count_append x (rows from) (rows to)))
                | inr some ↦ fits.within from x ltf (omega arith)
              ]
          | inr nt ↦ fits.within k x below (omega (arith, ap (count x) (same k nf nt)))
        ]
      ]
