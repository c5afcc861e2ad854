-- Facts one behind another.
use Rattle.std.proofs.Common.{◌≡◌, ◌<◌, ◌≤◌, ◌+◌, ◌∙◌, ℕ, suc, List, [], ◌∷◌, ◌++◌, codes, Bool, true, false, length, take, get_or, refl, sym, ap}
use Rattle.std.proofs.lemmas.List.{append_assoc, take_more, take_all}
use Rattle.py_world.specs.Explained.{Fact, Explanation, facts_below, shows}
use Rattle.assert_explain.specs.Texts.{called_with, joined_with}

below_behind : (fs : List Fact) (f : Fact) → facts_below (fs ++ f ∷ []) ≡ facts_below fs ++ record { depth = suc f.depth; text = f.text } ∷ []
below_behind [] f = refl
below_behind (x ∷ fs) f = ap (λ (ys : List Fact). record { depth = suc x.depth; text = x.text } ∷ ys) (below_behind fs f)

-- one fact more
pub below_more : (fs old out : List Fact) (i : ℕ) (f g : Fact) → i < length fs → f ≡ get_or fs i f → out ≡ old ++ facts_below (take i fs) → g ≡ record { depth = suc f.depth; text = f.text }
    → out ++ g ∷ [] ≡ old ++ facts_below (take (i + 1) fs)
below_more fs old out i f g w h so_far is =
    ap (λ (xs : List Fact). xs ++ g ∷ []) so_far ∙ append_assoc old (facts_below (take i fs)) (g ∷ [])
    ∙ ap (λ (xs : List Fact). old ++ xs)
    (ap (λ (x : Fact). facts_below (take i fs) ++ x ∷ []) is ∙ sym (below_behind (take i fs) f)
    ∙ ap facts_below (ap (λ (x : Fact). take i fs ++ x ∷ []) h ∙ sym (take_more fs i f w)))

pub below_all : (fs old out : List Fact) (i : ℕ) → length fs ≤ i → out ≡ old ++ facts_below (take i fs) → out ≡ old ++ facts_below fs
below_all fs old out i le is = is ∙ ap (λ (xs : List Fact). old ++ facts_below xs) (take_all i fs le)

-- the first part stands alone; another one stands behind a word
pub joined_first : (word : List ℕ) (b : Bool) (j s : Explanation) → b ≡ true → s ≡ joined_with word b j s
joined_first word b j s h = rw h refl

pub joined_next : (word : List ℕ) (b : Bool) (j one s out : Explanation) → b ≡ false → one ≡ shows (j.text ++ word) j.facts → out ≡ shows (one.text ++ s.text) (one.facts ++ s.facts) → out ≡ joined_with word b j s
joined_next word b j one s out h e f = rw h (f ∙ rw e (ap (λ (t : List ℕ). shows t (j.facts ++ s.facts)) (append_assoc j.text word s.text)))

-- a call behind what is called
pub called_next : (how given one two out : Explanation) → one ≡ shows (how.text ++ codes "(") how.facts → two ≡ shows (one.text ++ given.text) (one.facts ++ given.facts) → out ≡ shows (two.text ++ codes ")") two.facts → out ≡ called_with how given
called_next how given one two out e1 e2 e3 = rw (e3, e2, e1) (simp append_assoc refl)
