-- What a write of one word leaves of all links.
use Rattle.std.proofs.Common.{◌≡◌, ℕ, ◌⊎◌, inl, inr, refl, ap, sym, subst, ◌∙◌, get_or-set_same, get_or-set_other}
use Rattle.std.proofs.lemmas.List.{length-set}
use Rattle.std.proofs.lemmas.Bool.{cases_eq}
use Rattle.link_cells.specs.declared.link.Link.{Link}
use Rattle.link_cells.specs.declared.link.Link.TheVariants.{Cell, Head}
use Rattle.link_cells.specs.declared.link.Links.{Links}
use Rattle.link_cells.specs.Rings.{CellWords, alone, links_of, ahead_of, back_of, HasWord, put, put_ahead, put_back, attached}

pub same_link : (n m : Link) → (n ≡ m) ⊎ (n ≡ m → ⊥)
same_link (Cell c) (Cell d) = elim (cases_eq c d) [ inl e ↦ inl (ap Cell e) | inr ne ↦ inr (λ e. ne (cell_of e)) ] where
  cell_of : Cell c ≡ Cell d → c ≡ d
  cell_of e = cc
same_link (Head h) (Head k) = elim (cases_eq h k) [ inl e ↦ inl (ap Head e) | inr ne ↦ inr (λ e. ne (head_of e)) ] where
  head_of : Head h ≡ Head k → h ≡ k
  head_of e = cc
same_link (Cell c) (Head h) = inr (λ e. cc)
same_link (Head h) (Cell c) = inr (λ e. cc)

links_put_same : (w : CellWords) (n : Link) (l : Links) → HasWord w n → links_of (put w n l) n ≡ l
links_put_same w (Cell c) l h = get_or-set_same w.cells c l (alone 0) h
links_put_same w (Head k) l h = get_or-set_same w.heads k l (alone 0) h

links_put_other : (w : CellWords) (n : Link) (l : Links) (m : Link) → (m ≡ n → ⊥) → links_of (put w n l) m ≡ links_of w m
links_put_other w (Cell c) l (Cell d) ne = get_or-set_other w.cells c d l (alone 0) (λ e. ne (ap Cell e))
links_put_other w (Cell c) l (Head k) ne = refl
links_put_other w (Head h) l (Cell d) ne = refl
links_put_other w (Head h) l (Head k) ne = get_or-set_other w.heads h k l (alone 0) (λ e. ne (ap Head e))

pub there_put : (w : CellWords) (n : Link) (l : Links) (m : Link) → HasWord w m → HasWord (put w n l) m
there_put w (Cell c) l (Cell d) h = rw length-set h
there_put w (Cell c) l (Head k) h = h
there_put w (Head c) l (Cell d) h = h
there_put w (Head c) l (Head k) h = rw length-set h

pub ahead_put_ahead_same : (w : CellWords) (n x : Link) → HasWord w n → ahead_of (put_ahead w n x) n ≡ x
ahead_put_ahead_same w n x h = ap (λ (l : Links). l.ahead) (links_put_same w n (record { back = back_of w n; ahead = x }) h)

pub ahead_put_ahead_other : (w : CellWords) (n x m : Link) → (m ≡ n → ⊥) → ahead_of (put_ahead w n x) m ≡ ahead_of w m
ahead_put_ahead_other w n x m ne = ap (λ (l : Links). l.ahead) (links_put_other w n (record { back = back_of w n; ahead = x }) m ne)

pub back_put_ahead : (w : CellWords) (n x m : Link) → HasWord w n → back_of (put_ahead w n x) m ≡ back_of w m
back_put_ahead w n x m h =
    elim (same_link m n) [
      | inl e ↦ subst (λ (y : Link). back_of (put_ahead w n x) y ≡ back_of w y) (sym e) (ap (λ (l : Links). l.back) (links_put_same w n (record { back = back_of w n; ahead = x }) h))
      | inr ne ↦ ap (λ (l : Links). l.back) (links_put_other w n (record { back = back_of w n; ahead = x }) m ne)
    ]

pub back_put_back_same : (w : CellWords) (n x : Link) → HasWord w n → back_of (put_back w n x) n ≡ x
back_put_back_same w n x h = ap (λ (l : Links). l.back) (links_put_same w n (record { back = x; ahead = ahead_of w n }) h)

pub back_put_back_other : (w : CellWords) (n x m : Link) → (m ≡ n → ⊥) → back_of (put_back w n x) m ≡ back_of w m
back_put_back_other w n x m ne = ap (λ (l : Links). l.back) (links_put_other w n (record { back = x; ahead = ahead_of w n }) m ne)

pub ahead_put_back : (w : CellWords) (n x m : Link) → HasWord w n → ahead_of (put_back w n x) m ≡ ahead_of w m
ahead_put_back w n x m h =
    elim (same_link m n) [
      | inl e ↦ subst (λ (y : Link). ahead_of (put_back w n x) y ≡ ahead_of w y) (sym e) (ap (λ (l : Links). l.ahead) (links_put_same w n (record { back = x; ahead = ahead_of w n }) h))
      | inr ne ↦ ap (λ (l : Links). l.ahead) (links_put_other w n (record { back = x; ahead = ahead_of w n }) m ne)
    ]

-- ahead changes at p alone, back at q alone; z may have changed too
pub record Changed (w v : CellWords) (p q z : Link) : Type 0 where
  pub ahead : (n : Link) → (n ≡ p → ⊥) → (n ≡ z → ⊥) → ahead_of v n ≡ ahead_of w n
  pub back : (n : Link) → (n ≡ q → ⊥) → (n ≡ z → ⊥) → back_of v n ≡ back_of w n

-- p leads to q, and q back to p
pub record Turned (w v : CellWords) (p q z : Link) : Type 0 where
  pub changed : Changed w v p q z
  pub leads : ahead_of v p ≡ q
  pub returns : back_of v q ≡ p

pub turned : (w : CellWords) (p q z : Link) → HasWord w p → HasWord w q → Turned w (put_back (put_ahead w p q) q p) p q z
turned w p q z hp hq =
    let v = put_ahead w p q in
    let there : HasWord v q = there_put w p (record { back = back_of w p; ahead = q }) q hq in
    record {
      changed = record {
        ahead = λ n ne nz. ahead_put_back v q p n there ∙ ahead_put_ahead_other w p q n ne;
        back = λ n ne nz. back_put_back_other v q p n ne ∙ back_put_ahead w p q n hp;
      };
      leads = ahead_put_back v q p p there ∙ ahead_put_ahead_same w p q hp;
      returns = back_put_back_same v q p there;
    }

-- a cell stands between p and q
pub record Between (w v : CellWords) (c : ℕ) (p q : Link) : Type 0 where
  pub changed : Changed w v p q (Cell c)
  pub leads : ahead_of v p ≡ Cell c
  pub on : ahead_of v (Cell c) ≡ q
  pub returns : back_of v q ≡ Cell c
  pub from : back_of v (Cell c) ≡ p

pub between : (w : CellWords) (c : ℕ) (p q : Link) → HasWord w (Cell c) → HasWord w p → HasWord w q → (Cell c ≡ p → ⊥) → (Cell c ≡ q → ⊥) → Between w (attached w c p q) c p q
between w c p q hc hp hq np nq =
    let links : Links = record { back = p; ahead = q } in
    let u = put w (Cell c) links in
    let v = put_ahead u p (Cell c) in
    let up : HasWord u p = there_put w (Cell c) links p hp in
    let uq : HasWord u q = there_put w (Cell c) links q hq in
    let vq : HasWord v q = there_put u p (record { back = back_of u p; ahead = Cell c }) q uq in
    let here : links_of u (Cell c) ≡ links = links_put_same w (Cell c) links hc in
    record {
      changed = record {
        ahead = λ n ne nz. ahead_put_back v q (Cell c) n vq ∙ ahead_put_ahead_other u p (Cell c) n ne ∙ ap (λ (l : Links). l.ahead) (links_put_other w (Cell c) links n nz);
        back = λ n ne nz. back_put_back_other v q (Cell c) n ne ∙ back_put_ahead u p (Cell c) n up ∙ ap (λ (l : Links). l.back) (links_put_other w (Cell c) links n nz);
      };
      leads = ahead_put_back v q (Cell c) p vq ∙ ahead_put_ahead_same u p (Cell c) up;
      on = ahead_put_back v q (Cell c) (Cell c) vq ∙ ahead_put_ahead_other u p (Cell c) (Cell c) np ∙ ap (λ (l : Links). l.ahead) here;
      returns = back_put_back_same v q (Cell c) vq;
      from = back_put_back_other v q (Cell c) (Cell c) nq ∙ back_put_ahead u p (Cell c) (Cell c) up ∙ ap (λ (l : Links). l.back) here;
    }

-- a word that is written to lead to itself
pub put_alone : (w : CellWords) (h : ℕ) (z : Link) → HasWord w (Head h) → Changed w (put w (Head h) (alone h)) (Head h) (Head h) z × (links_of (put w (Head h) (alone h)) (Head h) ≡ alone h)
put_alone w h z there = (
  record {
    ahead = λ n ne nz. ap (λ (l : Links). l.ahead) (links_put_other w (Head h) (alone h) n ne);
    back = λ n ne nz. ap (λ (l : Links). l.back) (links_put_other w (Head h) (alone h) n ne);
  },
  links_put_same w (Head h) (alone h) there,
)
