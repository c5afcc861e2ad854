-- Lists that grow.
use Rattle.std.proofs.Common.{◌≡◌, ℕ, ◌<◌, ◌+◌, refl, ap, sym, ◌∙◌, List, [], ◌∷◌, ◌++◌, length, zero, suc, arith, cond, true, false, get_or, drop, append_assoc, add-one}
use Rattle.std.proofs.lemmas.List.{get_or_default}
use Rattle.std.proofs.lemmas.Option.{slice_get-get_or}
use Rattle.std.proofs.Math.Seq.{drop-cons}
use Rattle.fixture_table.specs.Index.{autouse_names}
use Rattle.fixture_table.specs.Marks.{row_of}
use Rattle.fixture_table.specs.Nearest.{def_at}
use Rattle.fixture_table.specs.declared.types.CollectionNode.{CollectionNode}
use Rattle.fixture_table.specs.declared.types.FixtureDef.{FixtureDef}
use Rattle.fixture_table.specs.declared.entry.Entry.{Entry}
use Rattle.fixture_table.specs.declared.entry.Entry.TheVariants.{Missing}
use Rattle.fixture_table.specs.Closing.{with_one, with_unseen, entry_for, entries_for, asked_one, asked_all, requested_by, Grown, More, entry_at, autouse_at, autouse_up}

-- a list of numbers below a bound, and one more
pub all_push : (most : ℕ) (xs : List ℕ) (x : ℕ) → ((q : ℕ) → q < length xs → get_or xs q 0 < most) → x < most → (q : ℕ) → q < length (xs ++ x ∷ []) → get_or (xs ++ x ∷ []) q 0 < most
all_push most [] x low lt zero l = lt
all_push most [] x low lt (suc q) l = absurd (omega (arith, l))
all_push most (y ∷ xs) x low lt zero l = low 0 (omega arith)
all_push most (y ∷ xs) x low lt (suc q) l = all_push most xs x (λ r m. low (suc r) (omega (arith, m))) lt q (omega (arith, l))

-- what is read at a place within is the row there
pub row_read : (rows : List (List ℕ)) (n : ℕ) (v : List ℕ) → n < length rows → v ≡ get_or rows n v → v ≡ row_of rows n
row_read rows n v lt e = e ∙ get_or_default rows n v [] lt

pub unseen_append : (xs ys es : List Entry) → with_unseen (xs ++ ys) es ≡ with_unseen ys (with_unseen xs es)
unseen_append [] ys es = refl
unseen_append (x ∷ xs) ys es = unseen_append xs ys (with_one x es)

module _ (nodes : List CollectionNode) (defs : List FixtureDef) (item : ℕ) (bound : List ℕ) where
  pub entries_append : (xs ys : List ℕ) → entries_for nodes defs item bound (xs ++ ys) ≡ entries_for nodes defs item bound xs ++ entries_for nodes defs item bound ys
  entries_append [] ys = refl
  entries_append (x ∷ xs) ys = ap (λ (r : List Entry). entry_for nodes defs item bound x ++ r) (entries_append xs ys) ∙ sym (append_assoc (entry_for nodes defs item bound x) (entries_for nodes defs item bound xs) (entries_for nodes defs item bound ys))

  -- names that are pushed one list after another
  pub names_then : (xs ys : List ℕ) (es : List Entry) → with_unseen (entries_for nodes defs item bound (xs ++ ys)) es ≡ with_unseen (entries_for nodes defs item bound ys) (with_unseen (entries_for nodes defs item bound xs) es)
  names_then xs ys es = ap (λ (r : List Entry). with_unseen r es) (entries_append xs ys) ∙ unseen_append (entries_for nodes defs item bound xs) (entries_for nodes defs item bound ys) es

  -- one name after another
  pub names_step : (names : List ℕ) (i : ℕ) (es : List Entry) → i < length names
      → with_unseen (entries_for nodes defs item bound (drop (i + 1) names)) (with_unseen (entry_for nodes defs item bound (get_or names i 0)) es) ≡ with_unseen (entries_for nodes defs item bound (drop i names)) es
  names_step names i es lt =
      let name = get_or names i 0 in
      let rest = drop (i + 1) names in
      let cut : drop i names ≡ name ∷ rest = drop-cons names i 0 lt ∙ ap (λ (n : ℕ). name ∷ drop n names) (sym (add-one i)) in
      sym (ap (λ (l : List ℕ). with_unseen (entries_for nodes defs item bound l) es) cut ∙ unseen_append (entry_for nodes defs item bound name) (entries_for nodes defs item bound rest) es)

  -- one argument of a definition after another
  pub asked_step : (d : ℕ) (args : List ℕ) (i : ℕ) (es : List Entry) → i < length args
      → with_unseen (asked_all nodes defs item bound d (drop (i + 1) args)) (with_unseen (asked_one nodes defs item bound d (get_or args i 0)) es) ≡ with_unseen (asked_all nodes defs item bound d (drop i args)) es
  asked_step d args i es lt =
      let name = get_or args i 0 in
      let rest = drop (i + 1) args in
      let cut : drop i args ≡ name ∷ rest = drop-cons args i 0 lt ∙ ap (λ (n : ℕ). name ∷ drop n args) (sym (add-one i)) in
      sym (ap (λ (l : List ℕ). with_unseen (asked_all nodes defs item bound d l) es) cut ∙ unseen_append (asked_one nodes defs item bound d name) (asked_all nodes defs item bound d rest) es)

  pub grown_more : (es : List Entry) (p : ℕ) (end : List Entry) → p < length es → Grown nodes defs item bound (with_unseen (requested_by nodes defs item bound (entry_at es p)) es) (p + 1) end → Grown nodes defs item bound es p end
  grown_more es p end lt g = More es p (entry_at es p) end (slice_get-get_or es p (Missing 0) lt) (rw (add-one p) at g)

  -- the nodes from a place on, the last first
  pub autouse_more : (chain : List ℕ) (at : ℕ) (es : List Entry) → at < length chain
      → with_unseen (entries_for nodes defs item bound (autouse_at defs (get_or chain at 0))) (with_unseen (entries_for nodes defs item bound (autouse_up defs (drop (suc at) chain))) es) ≡ with_unseen (entries_for nodes defs item bound (autouse_up defs (drop at chain))) es
  autouse_more chain at es lt = rw (drop-cons chain at 0 lt) (sym (names_then (autouse_up defs (drop (suc at) chain)) (autouse_at defs (get_or chain at 0)) es))

  -- one definition of a row after another
  pub autouse_step : (row : List ℕ) (i : ℕ) (es : List Entry) → i < length row
      → with_unseen (entries_for nodes defs item bound (autouse_names defs (drop (i + 1) row))) (with_unseen (cond (def_at defs (get_or row i 0)).autouse (entry_for nodes defs item bound (def_at defs (get_or row i 0)).name) []) es)
      ≡ with_unseen (entries_for nodes defs item bound (autouse_names defs (drop i row))) es
  autouse_step row i es lt =
      let d = get_or row i 0 in
      let rest = drop (i + 1) row in
      let cut : drop i row ≡ d ∷ rest = drop-cons row i 0 lt ∙ ap (λ (n : ℕ). d ∷ drop n row) (sym (add-one i)) in
      sym (ap (λ (l : List ℕ). with_unseen (entries_for nodes defs item bound (autouse_names defs l)) es) cut
      ∙ elim (def_at defs d).autouse as (λ b. with_unseen (entries_for nodes defs item bound (cond b ((def_at defs d).name ∷ autouse_names defs rest) (autouse_names defs rest))) es
      ≡ with_unseen (entries_for nodes defs item bound (autouse_names defs rest)) (with_unseen (cond b (entry_for nodes defs item bound (def_at defs d).name) []) es)) [
        | true ↦ unseen_append (entry_for nodes defs item bound (def_at defs d).name) (entries_for nodes defs item bound (autouse_names defs rest)) es
        | false ↦ refl
      ])
