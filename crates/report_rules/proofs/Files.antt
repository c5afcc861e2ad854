-- A group is a file's, and none is empty.
use Rattle.std.proofs.Common.{◌≡◌, ℕ, zero, suc, ◌<◌, Bool, true, false, cond, List, [], ◌∷◌, map, length, inl, inr, refl, sym, ◌∙◌, subst, eqb, eq-eqb, arith}
use Rattle.report_rules.proofs.Journals.{At, files_single, in_group_at, one_place}
use Rattle.report_rules.specs.Collected.{SelectedItem}
use Rattle.report_rules.specs.Groups.{files_in, group_at, groups, items_of, other_than}
use Rattle.session_types.proofs.Lists.{In-filter}
use Rattle.session_types.specs.Members.{IsMember}

also_in : (f : ℕ) (c d : SelectedItem) (cs : List SelectedItem) → IsMember d (items_of cs f) → IsMember d (items_of (c ∷ cs) f)
also_in f c d cs m = elim (eqb c.file f) as (λ b. IsMember d (cond b (c ∷ items_of cs f) (items_of cs f))) [ true ↦ inr m | false ↦ m ]

of_file : (cs : List SelectedItem) (f : ℕ) → IsMember f (files_in cs) → (c : SelectedItem) × IsMember c (items_of cs f)
of_file [] f m = absurd m
of_file (c ∷ cs) f (inl e) = (c, (let q = eq-eqb c.file f (sym e) in subst (λ (b : Bool). IsMember c (cond b (c ∷ items_of cs f) (items_of cs f))) (sym q) (inl refl)))
of_file (c ∷ cs) f (inr m) = (let r = of_file cs f (In-filter (other_than c.file) f (files_in cs) m).0 in (r.0, also_in f c r.0 cs r.1))

none_in : (c : SelectedItem) (cs : List SelectedItem) → IsMember c cs → cs ≡ [] → ⊥
none_in c cs m e = subst (λ (l : List SelectedItem). IsMember c l) e m

at_filled : (cs : List SelectedItem) (fs : List ℕ) → ((f : ℕ) → IsMember f fs → IsMember f (files_in cs)) → (g : ℕ) → g < length (map (items_of cs) fs) → group_at (map (items_of cs) fs) g ≡ [] → ⊥
at_filled cs [] sub g lt e = absurd (omega (arith, lt))
at_filled cs (f ∷ fs) sub zero lt e = (let r = of_file cs f (sub f (inl refl)) in none_in r.0 (items_of cs f) r.1 e)
at_filled cs (f ∷ fs) sub (suc g) lt e = at_filled cs fs (λ h m. sub h (inr m)) g (omega (arith, lt)) e

pub filled : (chosen : List SelectedItem) (g : ℕ) → g < length (groups chosen) → group_at (groups chosen) g ≡ [] → ⊥
filled cs g lt e = at_filled cs (files_in cs) (λ f m. m) g lt e

at_one : (fs : List ℕ) (g f h : ℕ) → At fs g f → At fs g h → f ≡ h
at_one [] g f h a b = absurd a
at_one (x ∷ xs) zero f h a b = a ∙ sym b
at_one (x ∷ xs) (suc g) f h a b = at_one xs g f h a b

pub one_file : (chosen : List SelectedItem) (g : ℕ) (c d : SelectedItem) → IsMember c (group_at (groups chosen) g) → IsMember d (group_at (groups chosen) g) → c.file ≡ d.file
one_file cs g c d m n = at_one (files_in cs) g c.file d.file (in_group_at cs (files_in cs) g c m).1 (in_group_at cs (files_in cs) g d n).1

pub one_group : (chosen : List SelectedItem) (g h : ℕ) (c d : SelectedItem) → IsMember c (group_at (groups chosen) g) → IsMember d (group_at (groups chosen) h) → c.file ≡ d.file → g ≡ h
one_group cs g h c d m n e =
    one_place (files_in cs) (files_single cs) g h c.file (in_group_at cs (files_in cs) g c m).1
    (subst (λ (f : ℕ). At (files_in cs) h f) (sym e) (in_group_at cs (files_in cs) h d n).1)
