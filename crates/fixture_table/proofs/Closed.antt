-- The end of a list that grows: what its entries ask for is in it.
use Rattle.std.proofs.Common.{◌≡◌, ℕ, ◌<◌, ap, sym, subst, refl, cond, ◌∙◌, ◌||◌, Bool, true, false, List, [], ◌∷◌, ◌++◌, length, arith, suc, zero, Some, inl, inr, nat_eq}
use Rattle.std.specs.List.{slice_get}
use Rattle.std.proofs.Math.ListN.{get_or-append}
use Rattle.std.proofs.lemmas.Bool.{cases_lt, or_cases, or_parts}
use Rattle.fixture_table.specs.declared.types.CollectionNode.{CollectionNode}
use Rattle.fixture_table.specs.declared.types.FixtureDef.{FixtureDef}
use Rattle.fixture_table.specs.declared.entry.Entry.{Entry}
use Rattle.fixture_table.specs.declared.entry.Entry.TheVariants.{Definition, Missing}
use Rattle.session_types.specs.Numbers.{among}
use Rattle.fixture_table.specs.Closing.{same_entry, has, with_one, with_unseen, requested_by, entry_at, entries_for, autouse_up, first_entries, Grown, Done, More}
use Rattle.fixture_table.specs.Faults.{definitions_of}
use Rattle.fixture_table.specs.Index.{IsShut}
use Rattle.fixture_table.specs.Tree.{iter_parents}
use Rattle.fixture_table.proofs.Asked.{Extends, has_at, has_extends, unseen_has, entry_place, same_is, same_refl}
use Rattle.fixture_table.proofs.Reached.{or_true, or_right}

pub within : (es : List Entry) (p : ℕ) (e : Entry) → slice_get es p ≡ Some e → (p < length es) × (entry_at es p ≡ e)
within [] p e h = absurd cc
within (x ∷ es) zero e h = (omega arith, some_is x e h)
  where
    some_is : (a b : Entry) → Some a ≡ Some b → a ≡ b
    some_is a b s = cc
within (x ∷ es) (suc p) e h = let r = within es p e h in ((let lt = r.0 in omega arith), r.1)

stays : (es ys : List Entry) (p : ℕ) → Extends es ys → p < length es → entry_at ys p ≡ entry_at es p
stays es ys p x lt = ap (λ (zs : List Entry). entry_at zs p) x.is ∙ get_or-append es x.more (Missing 0) p lt

module _ (nodes : List CollectionNode) (defs : List FixtureDef) (item : ℕ) (bound : List ℕ) where
  -- what each entry asks for, up to a place, is there
  abbrev pub Has : List Entry → ℕ → Type 0
  Has es p = (q : ℕ) (x : Entry) → q < p → q < length es → has x (requested_by nodes defs item bound (entry_at es q)) ≡ true → has x es ≡ true

  has_more : (es : List Entry) (p : ℕ) (e : Entry) → slice_get es p ≡ Some e → Has es p → Has (with_unseen (requested_by nodes defs item bound e) es) (suc p)
  has_more es p e at old q x below there h =
      let w = within es p e at in
      let lt = w.0 in
      let u = unseen_has (requested_by nodes defs item bound e) es in
      let ys = with_unseen (requested_by nodes defs item bound e) es in
      let g : has x (requested_by nodes defs item bound (entry_at es q)) ≡ true = subst (λ (y : Entry). has x (requested_by nodes defs item bound y) ≡ true) (stays es ys q u.0 (omega arith)) h in
      elim (cases_lt q p) [
        | inl less ↦ has_extends x es ys u.0 (old q x less (omega arith) g)
        | inr more ↦ let s : q ≡ p = omega arith in u.1 x (subst (λ (y : Entry). has x (requested_by nodes defs item bound y) ≡ true) (ap (entry_at es) s ∙ w.1) g)
      ]

  closed_from : (es : List Entry) (p : ℕ) (end : List Entry) → Grown nodes defs item bound es p end → Has es p → (q : ℕ) (x : Entry) → q < length end → has x (requested_by nodes defs item bound (entry_at end q)) ≡ true → has x end ≡ true
  closed_from _ _ _ (Done es p le) old q x lt h = old q x (omega arith) lt h
  closed_from _ _ _ (More es p e end at g) old q x lt h = closed_from (with_unseen (requested_by nodes defs item bound e) es) (suc p) end g (has_more es p e at old) q x lt h

  pub closed : (es end : List Entry) → Grown nodes defs item bound es 0 end → (e x : Entry) → has e end ≡ true → has x (requested_by nodes defs item bound e) ≡ true → has x end ≡ true
  closed es end g e x there h =
      let at = entry_place e end there in
      closed_from es 0 end g (λ q y below. absurd (omega arith)) at.0 x at.1 (subst (λ (y : Entry). has x (requested_by nodes defs item bound y) ≡ true) (sym at.2) h)

pub defs_has : (d : ℕ) (es : List Entry) → among d (definitions_of es) ≡ true → has (Definition d) es ≡ true
defs_has d [] h = absurd cc
defs_has d (Definition e ∷ es) h = elim (or_cases (nat_eq e d) (among d (definitions_of es)) h) [
  | inl s ↦ or_true (same_entry (Definition e) (Definition d)) (has (Definition d) es) s
  | inr r ↦ or_right (same_entry (Definition e) (Definition d)) (has (Definition d) es) (defs_has d es r)
]
defs_has d (Missing n ∷ es) h = defs_has d es h

module _ (nodes : List CollectionNode) (defs : List FixtureDef) (item : ℕ) (bound : List ℕ) (first end : List Entry) (grown : Grown nodes defs item bound first 0 end) where
  pub shut : IsShut nodes defs item bound end
  shut p x lt h = closed nodes defs item bound first end grown (entry_at end p) x (has_at end p lt) h

-- THE LIST HAS EACH ENTRY ONCE

abbrev pub Single : List Entry → Type 0
Single [] = Unit {0}
Single (e ∷ es) = (has e es ≡ false) × Single es

single_push : (es : List Entry) (e : Entry) → Single es → has e es ≡ false → Single (es ++ e ∷ [])
single_push [] e s h = (refl, tt)
single_push (x ∷ es) e s h =
    let parts = or_parts (same_entry x e) (has e es) h in
    (no_more es s.0 (λ t. (let z : true ≡ false = sym (sym (ap (λ (y : Entry). same_entry x y) (sym (same_is e x t))) ∙ same_refl x) ∙ parts.0 in cc)), single_push es e s.1 parts.1)
  where
    no_more : (ys : List Entry) → has x ys ≡ false → (same_entry e x ≡ true → ⊥) → has x (ys ++ e ∷ []) ≡ false
    no_more [] h k = elim (same_entry e x) as (λ b. (b ≡ true → ⊥) → (b || false) ≡ false) [ true ↦ λ f. absurd (f refl) | false ↦ λ f. refl ] k
    no_more (y ∷ ys) h k = (let q = or_parts (same_entry y x) (has x ys) h in rw q.0 (no_more ys q.1 k))

single_one : (e : Entry) (es : List Entry) → Single es → Single (with_one e es)
single_one e es s = elim (has e es) as (λ b. has e es ≡ b → Single (cond b es (es ++ e ∷ []))) [ true ↦ λ h. s | false ↦ λ h. single_push es e s h ] refl

pub single_unseen : (new es : List Entry) → Single es → Single (with_unseen new es)
single_unseen [] es s = s
single_unseen (e ∷ new) es s = single_unseen new (with_one e es) (single_one e es s)

pub single_grown : (nodes : List CollectionNode) (defs : List FixtureDef) (item : ℕ) (bound : List ℕ) (es : List Entry) (p : ℕ) (end : List Entry) → Grown nodes defs item bound es p end → Single es → Single end
single_grown nodes defs item bound _ _ _ (Done es p le) s = s
single_grown nodes defs item bound _ _ _ (More es p e end at g) s = single_grown nodes defs item bound (with_unseen (requested_by nodes defs item bound e) es) (suc p) end g (single_unseen (requested_by nodes defs item bound e) es s)

pub first_single : (nodes : List CollectionNode) (defs : List FixtureDef) (item : ℕ) (bound uses args : List ℕ) → Single (first_entries nodes defs item bound uses args)
first_single nodes defs item bound uses args = single_unseen (entries_for nodes defs item bound (autouse_up defs (iter_parents nodes item) ++ (uses ++ args))) [] tt

-- two places of one entry are one
pub one_at : (es : List Entry) → Single es → (p q : ℕ) → p < length es → q < length es → entry_at es p ≡ entry_at es q → p ≡ q
one_at [] s p q l m e = absurd (omega (arith, l))
one_at (x ∷ es) s zero zero l m e = refl
one_at (x ∷ es) s zero (suc q) l m e = (let h = has_at es q (omega (arith, m)) in let z : true ≡ false = sym (subst (λ (y : Entry). has y es ≡ true) (sym e) h) ∙ s.0 in cc)
one_at (x ∷ es) s (suc p) zero l m e = (let h = has_at es p (omega (arith, l)) in let z : true ≡ false = sym (subst (λ (y : Entry). has y es ≡ true) e h) ∙ s.0 in cc)
one_at (x ∷ es) s (suc p) (suc q) l m e = ap suc (one_at es s.1 p q (omega (arith, l)) (omega (arith, m)) e)
