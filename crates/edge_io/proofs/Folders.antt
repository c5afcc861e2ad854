use Rattle.std.proofs.Common.{eqb-true, suc, ◌≡◌, ◌≢◌, ℕ, ◌-◌, ◌<◌, List, [], ◌∷◌, ◌++◌, Bool, true, false, length, take, get_or, refl, ap, ◌∙◌, arith, ⊎_elim}
use Rattle.std.specs.Prelude.{All, ◌==◌}
use Rattle.std.specs.List.{slice_split}
use Rattle.std.proofs.lemmas.List.Splits.{slice_split_none, slice_split_at, length-slice_split}
use Rattle.std.proofs.lemmas.List.Elements.{All-from_get_or}
use Rattle.std.proofs.lemmas.Bool.{cases_Bool}
use Rattle.edge_io.specs.Files.{folders_of}

abbrev is_slash : ℕ → Bool
is_slash b = b == 47

no_slash : (text : List ℕ) → ((i : ℕ) → i < length text → get_or text i 0 ≢ 47) → All (λ b. is_slash b ≡ false) text
no_slash text none = All-from_get_or (λ b. is_slash b ≡ false) text 0 (λ i l.
    ⊎_elim (λ (t : is_slash (get_or text i 0) ≡ true). absurd (none i l (eqb-true _ _ t))) (λ f. f) (cases_Bool (is_slash (get_or text i 0))))

-- all parts but the last, of a list of one more part
front-cons : (part : List ℕ) (parts : List (List ℕ)) → 0 < length parts → take (length (part ∷ parts) - 1) (part ∷ parts) ≡ part ∷ take (length parts - 1) parts
front-cons part [] l = absurd (omega arith)
front-cons part (p ∷ ps) l = rw (let e : length (part ∷ p ∷ ps) - 1 ≡ suc (length (p ∷ ps) - 1) = omega arith in e) refl

-- a path without a slash has no folder
pub folders_none : (text : List ℕ) → ((i : ℕ) → i < length text → get_or text i 0 ≢ 47) → folders_of text ≡ []
unfolding folders_of
folders_none text none = rw (slice_split_none is_slash text (no_slash text none)) refl

-- the first folder, and those behind it
pub folders_more : (text folder behind : List ℕ) → text ≡ folder ++ 47 ∷ behind → ((i : ℕ) → i < length folder → get_or folder i 0 ≢ 47) → folders_of text ≡ folder ∷ folders_of behind
unfolding folders_of
folders_more text folder behind e none =
    let cut : slice_split is_slash text ≡ folder ∷ slice_split is_slash behind = ap (slice_split is_slash) e ∙ slice_split_at is_slash folder 47 behind (no_slash folder none) refl in
    rw cut (front-cons folder (slice_split is_slash behind) (omega (arith, length-slice_split is_slash behind)))
