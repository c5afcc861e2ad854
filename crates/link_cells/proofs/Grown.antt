-- The arena with one spare cell more, and with one spare head more.
use Rattle.std.proofs.Common.{◌≡◌, ℕ, ◌<◌, ◌≤◌, ◌+◌, ◌⊎◌, inl, inr, refl, ap, sym, subst, ◌∙◌, Bool, true, false, List, [], ◌∷◌, ◌++◌, length, arith, cond, length-append, Option, Some, None, is_some, get_or, add-one, suc}
use Rattle.std.proofs.Math.ListN.{get_or-append, get_or-eq_default}
use Rattle.std.proofs.Math.Seq.{get_or-append_seam}
use Rattle.std.proofs.lemmas.Bool.{cases_eq, cases_lt}
use Rattle.std.proofs.lemmas.List.FromFn.{get_or-map-range_with_len, length-map-range_with_len}
use Rattle.link_cells.specs.declared.link.Link.{Link}
use Rattle.link_cells.specs.declared.link.Link.TheVariants.{Cell, Head}
use Rattle.link_cells.specs.declared.link.Links.{Links}
use Rattle.link_cells.specs.declared.id.CellId.{CellId}
use Rattle.link_cells.specs.Rings.{CellWords, alone, links_of, ahead_of, HasWord, Linked, count, total, HasRings, attached}
use Rattle.link_cells.specs.Arena.{IsArena, is_used, entries, entry_onto, list_if_used, lists_of, cells_of_head}
use Rattle.link_cells.proofs.Around.{count_append, count_same, count_here, count_more, total_same, total_one}
use Rattle.link_cells.proofs.Moves.{Absent, fits_front, count_alone, there_place, ahead_place}
use Rattle.link_cells.proofs.Kept.{replaced, replaced_here, replaced_other, attached_heads, attached_cells}
use Rattle.link_cells.proofs.Shown.{map_same, lists_is}

-- links that agree on all words that are there
same_ring : (w v : CellWords) → ((n : Link) → HasWord w n → links_of v n ≡ links_of w n) → (a : Link) (xs : List ℕ) (b : Link) → HasWord w a → HasWord w b → ((x : ℕ) → 0 < count x xs → x < length w.cells) → Linked w a xs b → Linked v a xs b
same_ring w v same a [] b ha hb f l = (ap (λ (k : Links). k.ahead) (same a ha) ∙ l.0, ap (λ (k : Links). k.back) (same b hb) ∙ l.1)
same_ring w v same a (c ∷ cs) b ha hb f l =
    let here = f c (count_here c cs) in (
      ap (λ (k : Links). k.ahead) (same a ha) ∙ l.0,
      ap (λ (k : Links). k.back) (same (Cell c) here) ∙ l.1,
      same_ring w v same (Cell c) cs b here hb (λ x h. f x (omega (arith, count_more x c cs))) l.2,
    )

abbrev pub more_cells : CellWords → CellWords
more_cells w = record w { cells = w.cells ++ alone 0 ∷ [] }

abbrev pub more_heads : CellWords → CellWords
more_heads w = record w { heads = w.heads ++ alone (length w.heads) ∷ [] }

same_cells : (w : CellWords) (n : Link) → HasWord w n → links_of (more_cells w) n ≡ links_of w n
same_cells w (Cell c) h = get_or-append w.cells (alone 0 ∷ []) (alone 0) c h
same_cells w (Head k) h = refl

same_heads : (w : CellWords) (n : Link) → HasWord w n → links_of (more_heads w) n ≡ links_of w n
same_heads w (Cell c) h = refl
same_heads w (Head k) h = get_or-append w.heads (alone (length w.heads) ∷ []) (alone 0) k h

entries_more : {T : Type 0} (values : List (Option T)) (row : List ℕ) → ((x : ℕ) → 0 < count x row → x < length values) → entries (values ++ None ∷ []) row ≡ entries values row
entries_more values [] f = refl
entries_more values (c ∷ cs) f =
    ap (λ o. entry_onto o c (entries (values ++ None ∷ []) cs)) (get_or-append values (None ∷ []) None c (f c (count_here c cs)))
    ∙ ap (entry_onto (get_or values c None) c) (entries_more values cs (λ x h. f x (omega (arith, count_more x c cs))))

module _ {T : Type 0} (w : CellWords) (values : List (Option T)) (used : List Bool) (free : List ℕ) (room spare : ℕ) (A : IsArena w values used free room spare) where
  abbrev pub cell : ℕ
  cell = length w.cells

  abbrev one : CellWords
  one = more_cells w

  pub one_cells : length one.cells ≡ length w.cells + 1
  one_cells = length-append w.cells (alone 0 ∷ [])

  one_fits : HasRings one A.rows
  one_fits = record {
    ring = λ h lt. same_ring w one (same_cells w) (Head h) (A.rows h) (Head h) lt lt (λ x there. A.fits.within h x lt there) (A.fits.ring h lt);
    within = λ h x lt there. omega (arith, one_cells, A.fits.within h x lt there);
    once = A.fits.once;
  }

  not_yet : Absent one A.rows cell
  not_yet k below = elim (cases_eq (count cell (A.rows k)) 0) [ inl z ↦ z | inr some ↦ absurd (let h = A.fits.within k cell below (omega arith) in omega arith) ]

  there_cell : cell < length one.cells
  there_cell = omega (arith, one_cells)

  pub ahead_in : HasWord one (ahead_of one (Head 0))
  ahead_in = there_place one A.rows one_fits 0 (ahead_of one (Head 0)) A.some_head (ahead_place one A.rows one_fits 0 A.some_head)

  abbrev pub grown : CellWords
  grown = attached one cell (Head 0) (ahead_of one (Head 0))

  abbrev with_cell : ℕ → List ℕ
  with_cell = replaced A.rows 0 (cell ∷ A.rows 0)

  grown_heads : length grown.heads ≡ length w.heads
  grown_heads = attached_heads one cell (Head 0) (ahead_of one (Head 0))

  grown_cells : length grown.cells ≡ length w.cells + 1
  grown_cells = attached_cells one cell (Head 0) (ahead_of one (Head 0)) ∙ one_cells

  in_use : (k : ℕ) → is_used used k ≡ true → k ≡ 0 → ⊥
  in_use k on e = let off : is_used used k ≡ false = subst (λ (n : ℕ). is_used used n ≡ false) (sym e) A.own in cc

  pub grown_arena : IsArena grown (values ++ None ∷ []) used free room (spare + 1)
  grown_arena = record {
    rows = with_cell;
    fits = fits_front one A.rows one_fits 0 cell A.some_head there_cell not_yet with_cell (replaced_here A.rows 0 (cell ∷ A.rows 0)) (λ k ne. replaced_other A.rows 0 (cell ∷ A.rows 0) k ne);
    sum = rw (grown_heads, grown_cells) (omega (
      arith,
      A.sum,
      ap length (replaced_here A.rows 0 (cell ∷ A.rows 0)),
      total_one (λ k. length (A.rows k)) (λ k. length (with_cell k)) 0 (length w.heads) A.some_head (λ k ne. ap length (replaced_other A.rows 0 (cell ∷ A.rows 0) k ne)),
    ));
    spare_is = omega (arith, A.spare_is, ap length (replaced_here A.rows 0 (cell ∷ A.rows 0)));
    values_many = omega (arith, A.values_many, grown_cells, length-append values (None ∷ []));
    used_many = A.used_many ∙ sym grown_heads;
    some_head = rw grown_heads A.some_head;
    own = A.own;
    full = λ k x below on there. full_of k x (omega (arith, grown_heads)) on there;
    empty = λ k some below off. replaced_other A.rows 0 (cell ∷ A.rows 0) k (λ e. absurd (omega arith)) ∙ A.empty k some (omega (arith, grown_heads)) off;
    free_once = λ k some below. A.free_once k some (omega (arith, grown_heads));
    free_in = λ k some. let f = A.free_in k some in (f.0, omega (arith, f.1, grown_heads));
    has_room = omega (arith, A.has_room, grown_heads);
  } where
    full_of : (k x : ℕ) → k < length w.heads → is_used used k ≡ true → 0 < count x (with_cell k) → is_some (get_or (values ++ None ∷ []) x None) ≡ true
    full_of k x below on there =
        let h : 0 < count x (A.rows k) = subst (λ (r : List ℕ). 0 < count x r) (replaced_other A.rows 0 (cell ∷ A.rows 0) k (in_use k on)) there in
        ap is_some (get_or-append values (None ∷ []) None x (omega (arith, A.values_many, A.fits.within k x below h))) ∙ A.full k x below on h

  pub grown_view : lists_of used (values ++ None ∷ []) (cells_of_head grown) (length grown.heads) ≡ lists_of used values (cells_of_head w) (length w.heads)
  unfolding grown_arena
  grown_view =
      lists_is grown (values ++ None ∷ []) used free room (spare + 1) grown_arena
      ∙ ap (lists_of used (values ++ None ∷ []) with_cell) grown_heads
      ∙ map_same (list_if_used used values A.rows) (list_if_used used (values ++ None ∷ []) with_cell) (length w.heads) (λ k below. same k below (is_used used k) refl)
      ∙ sym (lists_is w values used free room spare A)
    where
      same : (k : ℕ) → k < length w.heads → (b : Bool) → is_used used k ≡ b → list_if_used used (values ++ None ∷ []) with_cell k ≡ list_if_used used values A.rows k
      same k below true is = ap (λ (r : List (CellId × T)). cond (is_used used k) (Some r) None)
          (ap (entries (values ++ None ∷ [])) (replaced_other A.rows 0 (cell ∷ A.rows 0) k (in_use k is)) ∙ entries_more values (A.rows k) (λ x there. omega (arith, A.values_many, A.fits.within k x below there)))
      same k below false is = ap (λ (c : Bool). cond c (Some (entries (values ++ None ∷ []) (with_cell k))) None) is ∙ sym (ap (λ (c : Bool). cond c (Some (entries values (A.rows k))) None) is)

  abbrev pub head : ℕ
  head = length w.heads

  abbrev two : CellWords
  two = more_heads w

  abbrev wider : ℕ → List ℕ
  wider = replaced A.rows head []

  abbrev idle : List Bool
  idle = used ++ false ∷ []

  two_heads : length two.heads ≡ suc (length w.heads)
  two_heads = length-append w.heads (alone head ∷ []) ∙ add-one (length w.heads)

  wider_k : (k : ℕ) → k < length w.heads → wider k ≡ A.rows k
  wider_k k below = replaced_other A.rows head [] k (λ e. absurd (omega arith))

  wider_here : wider head ≡ []
  wider_here = replaced_here A.rows head []

  idle_at : (k : ℕ) → k < length w.heads → is_used idle k ≡ is_used used k
  idle_at k below = get_or-append used (false ∷ []) false k (omega (arith, A.used_many))

  idle_here : is_used idle head ≡ false
  idle_here = subst (λ (n : ℕ). is_used idle n ≡ false) A.used_many (get_or-append_seam used false [] false)

  wider_total : (f : List ℕ → ℕ) → f [] ≡ 0 → total (λ k. f (wider k)) (length two.heads) ≡ total (λ k. f (A.rows k)) (length w.heads)
  wider_total f none = ap (total (λ k. f (wider k))) two_heads ∙ omega (arith, ap f wider_here, total_same (λ k. f (A.rows k)) (λ k. f (wider k)) (length w.heads) (λ k below. ap f (wider_k k below)))

  at_head : (k : ℕ) → k < length two.heads → (k < length w.heads) ⊎ (k ≡ head)
  at_head k below = elim (cases_lt k (length w.heads)) [ inl lt ↦ inl lt | inr past ↦ inr (omega (arith, two_heads)) ]

  two_fits : HasRings two wider
  two_fits = record {
    ring = λ k below. elim (at_head k below) [
      | inl lt ↦ subst (λ (r : List ℕ). Linked two (Head k) r (Head k)) (sym (wider_k k lt)) (same_ring w two (same_heads w) (Head k) (A.rows k) (Head k) lt lt (λ x there. A.fits.within k x lt there) (A.fits.ring k lt))
      | inr e ↦ subst (λ (n : ℕ). Linked two (Head n) (wider n) (Head n)) (sym e) (subst (λ (r : List ℕ). Linked two (Head head) r (Head head)) (sym wider_here)
          (ap (λ (l : Links). l.ahead) own_links, ap (λ (l : Links). l.back) own_links))
    ];
    within = λ k x below there. elim (at_head k below) [
      | inl lt ↦ A.fits.within k x lt (subst (λ (r : List ℕ). 0 < count x r) (wider_k k lt) there)
      | inr e ↦ absurd (let h : 0 < count x (wider head) = subst (λ (n : ℕ). 0 < count x (wider n)) e there in omega (arith, ap (count x) wider_here))
    ];
    once = λ x. omega (arith, wider_total (count x) refl, A.fits.once x);
  } where
    own_links : links_of two (Head head) ≡ alone head
    own_links = get_or-append_seam w.heads (alone head) [] (alone 0)

  none_free : (k : ℕ) → length w.heads ≤ k → count k free ≡ 0
  none_free k past = elim (cases_eq (count k free) 0) [ inl z ↦ z | inr some ↦ absurd (let f = A.free_in k (omega arith) in omega (arith, f.1)) ]

  pub wider_arena : (more : ℕ) → length w.heads < more → IsArena two values idle (free ++ head ∷ []) more spare
  wider_arena more lt = record {
    rows = wider;
    fits = two_fits;
    sum = wider_total length refl ∙ A.sum;
    spare_is = A.spare_is ∙ sym (ap length (wider_k 0 A.some_head));
    values_many = A.values_many;
    used_many = omega (arith, A.used_many, length-append used (false ∷ []), two_heads);
    some_head = omega (arith, two_heads);
    own = idle_at 0 A.some_head ∙ A.own;
    full = λ k x below on there. elim (at_head k below) [
      | inl in_w ↦ A.full k x in_w (sym (idle_at k in_w) ∙ on) (subst (λ (r : List ℕ). 0 < count x r) (wider_k k in_w) there)
      | inr e ↦ absurd (let h : 0 < count x (wider head) = subst (λ (n : ℕ). 0 < count x (wider n)) e there in omega (arith, ap (count x) wider_here))
    ];
    empty = λ k some below off. elim (at_head k below) [
      | inl in_w ↦ wider_k k in_w ∙ A.empty k some in_w (sym (idle_at k in_w) ∙ off)
      | inr e ↦ subst (λ (n : ℕ). wider n ≡ []) (sym e) wider_here
    ];
    free_once = λ k some below. elim (at_head k below) [
      | inl in_w ↦ omega (arith, count_append k free (head ∷ []), count_alone k head (λ e. absurd (omega arith))) ∙ A.free_once k some in_w ∙ sym (ap (λ (b : Bool). cond b 0 1) (idle_at k in_w))
      | inr e ↦ subst (λ (n : ℕ). count n (free ++ head ∷ []) ≡ cond (is_used idle n) 0 1) (sym e) (omega (arith, count_append head free (head ∷ []), count_same head [], none_free head (omega arith)) ∙ sym (ap (λ (b : Bool). cond b 0 1) idle_here))
    ];
    free_in = λ k there. elim (cases_eq k head) [
      | inl e ↦ (omega (arith, A.some_head), omega (arith, two_heads))
      | inr ne ↦ let f = A.free_in k (omega (arith, count_append k free (head ∷ []), count_alone k head ne)) in (f.0, omega (arith, f.1, two_heads))
    ];
    has_room = omega (arith, two_heads);
  }

  -- each list is as it was
  pub wider_view : (h : ℕ) → get_or (lists_of idle values (cells_of_head two) (length two.heads)) h None ≡ get_or (lists_of used values (cells_of_head w) (length w.heads)) h None
  unfolding wider_arena
  wider_view h = elim (cases_lt h (length two.heads)) [
    | inl below ↦ ap (λ (l : List (Option (List (CellId × T)))). get_or l h None) (lists_is two values idle (free ++ head ∷ []) (suc (length w.heads)) spare (wider_arena (suc (length w.heads)) (omega arith)))
        ∙ get_or-map-range_with_len (list_if_used idle values wider) 0 (length two.heads) h h None below (omega arith)
        ∙ elim (at_head h below) [
          | inl in_w ↦ ap (λ (b : Bool). cond b (Some (entries values (wider h))) None) (idle_at h in_w) ∙ ap (λ (r : List ℕ). cond (is_used used h) (Some (entries values r)) None) (wider_k h in_w)
              ∙ sym (get_or-map-range_with_len (list_if_used used values A.rows) 0 (length w.heads) h h None in_w (omega arith)) ∙ ap (λ (l : List (Option (List (CellId × T)))). get_or l h None) (sym (lists_is w values used free room spare A))
          | inr e ↦ subst (λ (n : ℕ). cond (is_used idle n) (Some (entries values (wider n))) None ≡ get_or (lists_of used values (cells_of_head w) (length w.heads)) n None) (sym e)
              (ap (λ (b : Bool). cond b (Some (entries values (wider head))) None) idle_here
              ∙ sym (get_or-eq_default (lists_of used values (cells_of_head w) (length w.heads)) None {n = head} (omega (arith, length-map-range_with_len (list_if_used used values (cells_of_head w)) 0 (length w.heads)))))
        ]
    | inr past ↦ get_or-eq_default (lists_of idle values (cells_of_head two) (length two.heads)) None {n = h} (omega (arith, length-map-range_with_len (list_if_used idle values (cells_of_head two)) 0 (length two.heads)))
        ∙ sym (get_or-eq_default (lists_of used values (cells_of_head w) (length w.heads)) None {n = h} (omega (arith, two_heads, length-map-range_with_len (list_if_used used values (cells_of_head w)) 0 (length w.heads))))
  ]
