-- Folders, letter by letter.
use Rattle.std.proofs.Common.{◌≡◌, ℕ, ◌+◌, ◌<◌, ◌||◌, Bool, true, false, List, [], ◌∷◌, ◌++◌, length, map, drop, get_or, refl, sym, ap, ◌∙◌}
use Rattle.std.specs.Prelude.{if◌then◌else◌}
use Rattle.std.specs.List.{filter, list_any, range_with_len}
use Rattle.std.proofs.lemmas.List.{append_assoc, drop_more, map-append}
use Rattle.std.proofs.lemmas.List.Elements.{filter-append}
use Rattle.std.proofs.lemmas.List.Folds.{list_any-append}
use Rattle.std.proofs.lemmas.List.Sums.{fold-append}
use Rattle.collect_words.proofs.Ranges.{places_more}
use Rattle.collection_nodes.specs.Texts.{with_mention, with_mentions}
use Rattle.collection_nodes.specs.Tree.{is_parting, outer_folder}

-- what is mentioned for one place more
pub mentioned_step : (g : ℕ → List ℕ) (p : ℕ → Bool) (n : ℕ) (first taken new : List (List ℕ))
    → taken ≡ with_mentions first (map g (filter p (range_with_len 0 n))) → new ≡ with_mentions taken (map g (filter p (n ∷ [])))
    → new ≡ with_mentions first (map g (filter p (range_with_len 0 (n + 1))))
mentioned_step g p n first taken new h k =
    k ∙ (ap (λ (ts : List (List ℕ)). with_mentions ts (map g (filter p (n ∷ [])))) h
    ∙ (sym (fold-append with_mention first (map g (filter p (range_with_len 0 n))) (map g (filter p (n ∷ []))))
    ∙ ap (with_mentions first) (sym (map-append g (filter p (range_with_len 0 n)) (filter p (n ∷ [])))
    ∙ ap (map g) (sym (filter-append p (range_with_len 0 n) (n ∷ [])) ∙ ap (filter p) (sym (places_more n))))))

or_false : (a b : Bool) → b ≡ false → a || b ≡ a
or_false true b e = refl
or_false false b e = e

or_true : (a b : Bool) → b ≡ true → a || b ≡ true
or_true true b e = refl
or_true false b e = e

-- a text with a letter behind it, which is no slash
pub folder_letter : (xs : List ℕ) (x : ℕ) → is_parting x ≡ false → outer_folder (xs ++ x ∷ []) ≡ outer_folder xs
folder_letter [] x e = refl
folder_letter (y ∷ xs) x e =
    ap (λ (b : Bool). if b then y ∷ outer_folder (xs ++ x ∷ []) else []) (list_any-append is_parting xs (x ∷ []) ∙ or_false (list_any is_parting xs) _ (or_false (is_parting x) false refl ∙ e))
    ∙ ap (λ (zs : List ℕ). if list_any is_parting xs then y ∷ zs else []) (folder_letter xs x e)

-- and with a slash behind it
pub folder_slash : (xs : List ℕ) (x : ℕ) → is_parting x ≡ true → outer_folder (xs ++ x ∷ []) ≡ xs
folder_slash [] x e = refl
folder_slash (y ∷ xs) x e =
    ap (λ (b : Bool). if b then y ∷ outer_folder (xs ++ x ∷ []) else []) (list_any-append is_parting xs (x ∷ []) ∙ or_true (list_any is_parting xs) _ (or_false (is_parting x) false refl ∙ e))
    ∙ ap (λ (zs : List ℕ). y ∷ zs) (folder_slash xs x e)

-- one element more of a list that is mapped
pub map_at : {X Y : Type 0} (f : X → Y) (xs : List X) (i : ℕ) (d : X) (done more all : List Y)
    → i < length xs → done ++ map f (drop i xs) ≡ all → more ≡ done ++ f (get_or xs i d) ∷ [] → more ++ map f (drop (i + 1) xs) ≡ all
map_at f xs i d done more all l is new =
    ap (λ ys. ys ++ map f (drop (i + 1) xs)) new
    ∙ (append_assoc done (f (get_or xs i d) ∷ []) (map f (drop (i + 1) xs))
    ∙ (ap (λ ys. done ++ map f ys) (sym (drop_more xs i d l)) ∙ is))
