-- Numbers that are taken once.
use Rattle.std.proofs.Common.{◌≡◌, ℕ, Bool, true, false, ◌||◌, List, [], ◌∷◌, ◌++◌, refl, ap, ◌∙◌}
use Rattle.std.specs.Prelude.{◌==◌, if◌then◌else◌}
use Rattle.std.specs.List.{filter}
use Rattle.std.proofs.lemmas.Cmp.{nat_eq_equiv}
use Rattle.collect_words.specs.Files.{includes_number, each_once}

abbrev pub Once : List ℕ → Type 0
Once [] = Unit {0}
Once (n ∷ ns) = (includes_number n ns ≡ false) × Once ns

pub or_none : (a b : Bool) → (a || b) ≡ false → (a ≡ false) × (b ≡ false)
or_none true b h = cc
or_none false b h = (refl, h)

among_push : (m n : ℕ) (ms : List ℕ) → includes_number m ms ≡ false → (n == m) ≡ false → includes_number m (ms ++ n ∷ []) ≡ false
among_push m n [] h e = ap (λ b. b || false) e
among_push m n (k ∷ ms) h e =
    let both = or_none (k == m) (includes_number m ms) h in
    ap (λ b. b || includes_number m (ms ++ n ∷ [])) both.0 ∙ among_push m n ms both.1 e

once_push : (t : List ℕ) (n : ℕ) → Once t → includes_number n t ≡ false → Once (t ++ n ∷ [])
once_push [] n o h = (refl, tt)
once_push (m ∷ ms) n o h =
    let both = or_none (m == n) (includes_number n ms) h in
    (among_push m n ms o.0 (nat_eq_equiv.symm n m ∙ both.0), once_push ms n o.1 both.1)

each_by : (b : Bool) (t ns : List ℕ) (n : ℕ) → includes_number n t ≡ b → ((t : List ℕ) → Once t → Once (each_once t ns)) → Once t
    → Once (if b then each_once t ns else each_once (t ++ n ∷ []) ns)
each_by true t ns n e f o = f t o
each_by false t ns n e f o = f (t ++ n ∷ []) (once_push t n o e)

pub once_each : (t ns : List ℕ) → Once t → Once (each_once t ns)
once_each t [] o = o
once_each t (n ∷ ns) o = each_by (includes_number n t) t ns n refl (λ t o. once_each t ns o) o

among_by : (b : Bool) (m k : ℕ) (kept : List ℕ) → (k == m) ≡ false → includes_number m kept ≡ false → includes_number m (if b then k ∷ kept else kept) ≡ false
among_by true m k kept e h = ap (λ b. b || includes_number m kept) e ∙ h
among_by false m k kept e h = h

among_filter : (p : ℕ → Bool) (m : ℕ) (ns : List ℕ) → includes_number m ns ≡ false → includes_number m (filter p ns) ≡ false
among_filter p m [] h = refl
among_filter p m (k ∷ ns) h =
    let both = or_none (k == m) (includes_number m ns) h in
    among_by (p k) m k (filter p ns) both.0 (among_filter p m ns both.1)

filter_by : (b : Bool) (n : ℕ) (kept : List ℕ) → includes_number n kept ≡ false → Once kept → Once (if b then n ∷ kept else kept)
filter_by true n kept h o = (h, o)
filter_by false n kept h o = o

pub once_filter : (p : ℕ → Bool) (ns : List ℕ) → Once ns → Once (filter p ns)
once_filter p [] o = tt
once_filter p (n ∷ ns) o = filter_by (p n) n (filter p ns) (among_filter p n ns o.0) (once_filter p ns o.1)
