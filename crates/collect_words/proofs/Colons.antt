-- The first `::` of a word.
use Rattle.std.proofs.Common.{◌≡◌, ℕ, ◌+◌, ◌<◌, List, [], ◌∷◌, ◌++◌, true, false, Some, cond, length, take, drop, get_or, sym, ap, ◌∙◌}
use Rattle.std.proofs.lemmas.List.{append_assoc, take_more, drop_more, drop-drop}
use Rattle.collect_words.specs.Words.{at_colons, before_colons, behind_colons}

-- at the colons
pub behind_here : (word : List ℕ) (at : ℕ) → at_colons (drop at word) ≡ true → behind_colons word ≡ behind_colons (drop at word) → behind_colons word ≡ Some (drop (at + 2) word)
behind_here word at h e = e ∙ (here (drop at word) h ∙ ap (λ t. Some t) (drop-drop 2 at word))
  where
    here : (text : List ℕ) → at_colons text ≡ true → behind_colons text ≡ Some (drop 2 text)
    here [] h = cc
    here (c ∷ rest) h = ap (λ t. cond t (Some (drop 1 rest)) (behind_colons rest)) h

-- before them
pub behind_on : (word : List ℕ) (at : ℕ) → at < length word → at_colons (drop at word) ≡ false → behind_colons word ≡ behind_colons (drop at word) → behind_colons word ≡ behind_colons (drop (at + 1) word)
behind_on word at l h e = e ∙ (ap behind_colons (drop_more word at 0 l) ∙ on (get_or word at 0) (drop (at + 1) word) (sym (ap at_colons (drop_more word at 0 l)) ∙ h))
  where
    on : (c : ℕ) (rest : List ℕ) → at_colons (c ∷ rest) ≡ false → behind_colons (c ∷ rest) ≡ behind_colons rest
    on c rest h = ap (λ t. cond t (Some (drop 1 rest)) (behind_colons rest)) h

pub before_on : (word : List ℕ) (at : ℕ) → at < length word → at_colons (drop at word) ≡ false → before_colons word ≡ take at word ++ before_colons (drop at word) → before_colons word ≡ take (at + 1) word ++ before_colons (drop (at + 1) word)
before_on word at l h e =
    e ∙ (ap (λ t. take at word ++ t) (ap before_colons (drop_more word at 0 l) ∙ on (get_or word at 0) (drop (at + 1) word) (sym (ap at_colons (drop_more word at 0 l)) ∙ h))
    ∙ (sym (append_assoc (take at word) (get_or word at 0 ∷ []) (before_colons (drop (at + 1) word))) ∙ ap (λ t. t ++ before_colons (drop (at + 1) word)) (sym (take_more word at 0 l))))
  where
    on : (c : ℕ) (rest : List ℕ) → at_colons (c ∷ rest) ≡ false → before_colons (c ∷ rest) ≡ c ∷ before_colons rest
    on c rest h = ap (λ t. cond t [] (c ∷ before_colons rest)) h
