-- Words gone through one by one.
use Rattle.std.proofs.Common.{◌≡◌, ℕ, ◌+◌, ◌<◌, List, [], ◌∷◌, cond, Option, Some, length, drop, get_or, sym, ap, ◌∙◌}
use Rattle.std.specs.Prelude.{not, is_some}
use Rattle.std.specs.List.{cons_option}
use Rattle.std.proofs.lemmas.List.{drop_more}
use Rattle.collect_words.specs.Words.{named_by, named_word, all_named, first_unnamed}
use Rattle.collect_words.specs.declared.named.WordTarget.{WordTarget}

-- a word that names something, alone
pub one_named : (walk : List (List ℕ)) (word : List ℕ) (named : WordTarget) → named_by walk word ≡ Some named → all_named walk (word ∷ []) ≡ record { word = word; named = named } ∷ []
one_named walk word named h = ap (λ (o : Option WordTarget). cons_option (named_word word o) []) h

-- it isn't the first that names nothing
pub unnamed_on : (walk words : List (List ℕ)) (i : ℕ) (word : List ℕ) (named : WordTarget) → i < length words → word ≡ get_or words i word → named_by walk word ≡ Some named → first_unnamed walk (drop i words) ≡ first_unnamed walk (drop (i + 1) words)
unnamed_on walk words i word named l e h =
    ap (first_unnamed walk) (drop_more words i word l ∙ ap (λ w. w ∷ drop (i + 1) words) (sym e))
    ∙ ap (λ (o : Option WordTarget). cond (not (is_some o)) (Some word) (first_unnamed walk (drop (i + 1) words))) h
