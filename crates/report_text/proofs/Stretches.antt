-- The lines of stretches, item by item.
use Rattle.std.proofs.Common.{◌≡◌, ℕ, List, [], ◌∷◌, ◌++◌, refl, ap, sym, ◌∙◌, append_assoc, inl, inr, drop, Option}
use Rattle.std.proofs.lemmas.List.{append-nil}
use Rattle.std.specs.Prelude.{flat_map, slice_get}
use Rattle.report_text.specs.Progress.{PlacedReport, after_letters, last_place, letters_in, letters_of, worker_end, plain_lines, placed_reports, same_line, file_start, stretch_line, line_stretches}
use Rattle.report_parts.specs.declared.report.ItemReport.{ItemReport}
use Rattle.report_parts.specs.declared.report.Place.{Place}
use Rattle.report_parts.proofs.Chars.{two_cases}

-- the first stretch starts with the first row
record First (row : PlacedReport) (rest : List PlacedReport) : Type 0 where
  more : List PlacedReport
  others : List (List PlacedReport)
  is : line_stretches (row ∷ rest) ≡ (row ∷ more) ∷ others

first_of : (row : PlacedReport) (rest : List PlacedReport) → First row rest
first_of row [] = record { more = []; others = []; is = refl }
first_of row (next ∷ rest) =
    let h = first_of next rest in
    elim (two_cases (same_line row next)) [
      | inl same ↦ record { more = next ∷ h.more; others = h.others; is = rw (h.is, same) refl }
      | inr apart ↦ record { more = []; others = (next ∷ h.more) ∷ h.others; is = rw (h.is, apart) refl }
    ]

-- the lines without the first start
abbrev body : List (List PlacedReport) → List ℕ
body [] = []
body (stretch ∷ others) = letters_in stretch ++ (worker_end (last_place stretch) ++ flat_map stretch_line others)

lines_are : (row : PlacedReport) (more : List PlacedReport) (others : List (List PlacedReport)) → flat_map stretch_line ((row ∷ more) ∷ others) ≡ file_start row.0 ++ body ((row ∷ more) ∷ others)
lines_are row more others = simp append_assoc

together : (row next : PlacedReport) (more : List PlacedReport) (others : List (List PlacedReport)) → body ((row ∷ next ∷ more) ∷ others) ≡ letters_of row.0 ++ body ((next ∷ more) ∷ others)
together row next more others = simp append_assoc

alone : (row next : PlacedReport) (more : List PlacedReport) (others : List (List PlacedReport)) → body ((row ∷ []) ∷ (next ∷ more) ∷ others) ≡ letters_of row.0 ++ ((worker_end row.1 ++ file_start next.0) ++ body ((next ∷ more) ∷ others))
alone row next more others = simp (append_assoc, append-nil)

by_rows : (row : PlacedReport) (rest : List PlacedReport) → body (line_stretches (row ∷ rest)) ≡ letters_of row.0 ++ after_letters row rest
by_rows row [] = simp append-nil
by_rows row (next ∷ rest) =
    let h = first_of next rest in
    let more = by_rows next rest in
    let now : body ((next ∷ h.more) ∷ h.others) ≡ letters_of next.0 ++ after_letters next rest = rw h.is at more in
    elim (two_cases (same_line row next)) [
      | inl same ↦ rw (h.is, same) (together row next h.more h.others ∙ ap (λ x. letters_of row.0 ++ x) now)
      | inr apart ↦ rw (h.is, apart) (alone row next h.more h.others ∙ ap (λ x. letters_of row.0 ++ ((worker_end row.1 ++ file_start next.0) ++ x)) now)
    ]

pub plain_by_rows : (row : PlacedReport) (rest : List PlacedReport) → plain_lines (row ∷ rest) ≡ file_start row.0 ++ (letters_of row.0 ++ after_letters row rest)
unfolding plain_lines
plain_by_rows row rest =
    let h = first_of row rest in
    ap (flat_map stretch_line) h.is ∙ lines_are row h.more h.others ∙ ap (λ x. file_start row.0 ++ x) (ap body (sym h.is) ∙ by_rows row rest)

pub plain_pieces : (old a b out : List ℕ) (reports others : List ItemReport) (first : ItemReport) (places left : List Place) (place : Option Place) → reports ≡ first ∷ others → place ≡ slice_get places 0 → left ≡ drop 1 places → a ≡ old ++ file_start first → b ≡ a ++ letters_of first → out ≡ b ++ after_letters (first, place) (placed_reports others left) → out ≡ old ++ plain_lines (placed_reports reports places)
plain_pieces old a b out reports others first places left place e at behind_is one two three =
    rw (e, ← behind_is, plain_by_rows (first, slice_get places 0) (placed_reports others left), ← at, three, two, one) (simp append_assoc)

pub no_plain : (old : List ℕ) (reports : List ItemReport) (places : List Place) → reports ≡ [] → old ≡ old ++ plain_lines (placed_reports reports places)
unfolding plain_lines
no_plain old reports places e = rw e (sym (append-nil old))
