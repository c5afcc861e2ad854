-- The groups are a partition.
use Rattle.std.proofs.Common.{◌≡◌, ℕ, suc, ◌+◌, true, false, cond, not, List, [], ◌∷◌, ◌++◌, map, ◌⊎◌, inl, inr, refl, sym, ap, ◌∙◌, subst, eqb, eq-eqb, arith, flat_map}
use Rattle.std.proofs.lemmas.Bool.{cases_eq, ne_eqb}
use Rattle.std.specs.List.{filter}
use Rattle.report_rules.proofs.Lists.{filter_app, repeat, repeat_one}
use Rattle.report_rules.specs.Collected.{SelectedItem}
use Rattle.report_rules.specs.Groups.{files_in, groups, is_in, items_of, other_than}
use Rattle.session_types.proofs.Lists.{eqb_is}
use Rattle.share_files.specs.Deal.{times}

same_again : (f : ℕ) (cs : List SelectedItem) → items_of (items_of cs f) f ≡ items_of cs f
same_again f [] = refl
same_again f (c ∷ cs) =
    elim (eqb c.file f) as (λ b. eqb c.file f ≡ b → items_of (cond b (c ∷ items_of cs f) (items_of cs f)) f ≡ cond b (c ∷ items_of cs f) (items_of cs f)) [
      | true ↦ λ e. rw e (ap (λ (l : List SelectedItem). c ∷ l) (same_again f cs))
      | false ↦ λ e. same_again f cs
    ] refl

none_other : (f g : ℕ) (cs : List SelectedItem) → (g ≡ f → ⊥) → items_of (items_of cs g) f ≡ []
none_other f g [] ne = refl
none_other f g (c ∷ cs) ne =
    elim (eqb c.file g) as (λ b. eqb c.file g ≡ b → items_of (cond b (c ∷ items_of cs g) (items_of cs g)) f ≡ []) [
      | true ↦ λ e. rw (ne_eqb c.file f (λ q. ne (sym (eqb_is c.file g e) ∙ q))) (none_other f g cs ne)
      | false ↦ λ e. none_other f g cs ne
    ] refl

of_files : (f : ℕ) (cs : List SelectedItem) (fs : List ℕ) → items_of (flat_map (λ group. group) (map (items_of cs) fs)) f ≡ repeat (times f fs) (items_of cs f)
of_files f cs [] = refl
of_files f cs (g ∷ gs) =
    filter_app (is_in f) (items_of cs g) (flat_map (λ group. group) (map (items_of cs) gs))
    ∙ elim (cases_eq g f) [
      | inl e ↦
          (let one : suc (times f gs) ≡ times f (g ∷ gs) = rw (eq-eqb g f e) (omega arith) in
          let same : items_of (items_of cs g) f ≡ items_of cs f = ap (λ (h : ℕ). items_of (items_of cs h) f) e ∙ same_again f cs in
          ap (λ (l : List SelectedItem). l ++ items_of (flat_map (λ group. group) (map (items_of cs) gs)) f) same
          ∙ (ap (λ (l : List SelectedItem). items_of cs f ++ l) (of_files f cs gs) ∙ ap (λ (n : ℕ). repeat n (items_of cs f)) one))
      | inr ne ↦
          (let none : times f gs ≡ times f (g ∷ gs) = rw (ne_eqb g f ne) (omega arith) in
          ap (λ (l : List SelectedItem). l ++ items_of (flat_map (λ group. group) (map (items_of cs) gs)) f) (none_other f g cs ne)
          ∙ (of_files f cs gs ∙ ap (λ (n : ℕ). repeat n (items_of cs f)) none))
    ]

times_gone : (f : ℕ) (fs : List ℕ) → times f (filter (other_than f) fs) ≡ 0
times_gone f [] = refl
times_gone f (x ∷ xs) =
    elim (eqb x f) as (λ b. eqb x f ≡ b → times f (cond (not b) (x ∷ filter (other_than f) xs) (filter (other_than f) xs)) ≡ 0) [
      | true ↦ λ e. times_gone f xs
      | false ↦ λ e. rw e (let q = times_gone f xs in omega (arith, q))
    ] refl

times_kept : (f g : ℕ) (fs : List ℕ) → (g ≡ f → ⊥) → times f (filter (other_than g) fs) ≡ times f fs
times_kept f g [] ne = refl
times_kept f g (x ∷ xs) ne =
    elim (eqb x g) as (λ b. eqb x g ≡ b → times f (cond (not b) (x ∷ filter (other_than g) xs) (filter (other_than g) xs)) ≡ times f (x ∷ xs)) [
      | true ↦ λ e. rw (ne_eqb x f (λ q. ne (sym (eqb_is x g e) ∙ q))) (let q = times_kept f g xs ne in omega (arith, q))
      | false ↦ λ e. ap (λ (n : ℕ). cond (eqb x f) 1 0 + n) (times_kept f g xs ne)
    ] refl

pub files_once : (chosen : List SelectedItem) (file : ℕ) → (times file (files_in chosen) ≡ 1) ⊎ ((times file (files_in chosen) ≡ 0) × (items_of chosen file ≡ []))
files_once [] f = inr (refl, refl)
files_once (c ∷ cs) f =
    elim (cases_eq c.file f) [
      | inl e ↦
          (let gone : times f (filter (other_than c.file) (files_in cs)) ≡ 0 = subst (λ (g : ℕ). times f (filter (other_than g) (files_in cs)) ≡ 0) (sym e) (times_gone f (files_in cs)) in
          inl (rw (eq-eqb c.file f e) (omega (arith, gone))))
      | inr ne ↦
          (let kept = times_kept f c.file (files_in cs) ne in
          let n : times f (files_in (c ∷ cs)) ≡ times f (files_in cs) = rw (ne_eqb c.file f ne) (omega (arith, kept)) in
          let i : items_of (c ∷ cs) f ≡ items_of cs f = rw (ne_eqb c.file f ne) refl in
          elim (files_once cs f) [ inl o ↦ inl (n ∙ o) | inr z ↦ inr (n ∙ z.0, i ∙ z.1) ])
    ]

pub parts : (chosen : List SelectedItem) (file : ℕ) → items_of (flat_map (λ group. group) (groups chosen)) file ≡ items_of chosen file
parts cs f =
    of_files f cs (files_in cs)
    ∙ elim (files_once cs f) [
      | inl e ↦ ap (λ (n : ℕ). repeat n (items_of cs f)) e ∙ repeat_one (items_of cs f)
      | inr z ↦ ap (λ (n : ℕ). repeat n (items_of cs f)) z.0 ∙ sym z.1
    ]
