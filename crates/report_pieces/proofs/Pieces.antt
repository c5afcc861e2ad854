-- The progress is its pieces.
use Rattle.std.proofs.Common.{◌≡◌, ℕ, zero, suc, ◌-◌, Bool, true, false, cond, List, [], ◌∷◌, ◌++◌, length, Option, None, Some, codes, refl, sym, ap, ap₂, ◌∙◌, append_assoc, ◌||◌, eqb, not, arith}
use Rattle.std.proofs.lemmas.Bool.{ne_eqb}
use Rattle.std.proofs.lemmas.List.{append-nil}
use Rattle.std.specs.Prelude.{flat_map, is_some, slice_get}
use Rattle.cli_words.specs.declared.options.Options.{Options}
use Rattle.report_parts.specs.declared.report.ItemReport.{ItemReport}
use Rattle.report_pieces.specs.Pieces.{has_whole_lines, last_report, letters_behind, piece_of, pieces_end, pieces_of, unplaced}
use Rattle.report_text.proofs.Stretches.{plain_by_rows}
use Rattle.report_text.specs.Progress.{after_letters, between, file_start, letters_of, placed_reports, plain_lines, progress_lines, progress_of, shown_lines_of, verbose_lines, with_gap, worker_end}

-- THE PIECES of more reports
pub pieces_append : (options : Options) (before front rest : List ItemReport) → pieces_of options before (front ++ rest) ≡ pieces_of options before front ++ pieces_of options (before ++ front) rest
pieces_append options before [] rest = ap (λ (l : List ItemReport). pieces_of options l rest) (sym (append-nil before))
pieces_append options before (r ∷ front) rest =
    ap (λ (l : List ℕ). piece_of options before r ++ l) (pieces_append options (before ++ r ∷ []) front rest)
    ∙ (ap (λ (l : List ItemReport). piece_of options before r ++ (pieces_of options (before ++ r ∷ []) front ++ pieces_of options l rest)) (append_assoc before (r ∷ []) front)
    ∙ sym (append_assoc (piece_of options before r) (pieces_of options (before ++ r ∷ []) front) (pieces_of options (before ++ r ∷ front) rest)))

pub one_piece_more : (options : Options) (before : List ItemReport) (report : ItemReport) → pieces_of options [] (before ++ report ∷ []) ≡ pieces_of options [] before ++ piece_of options before report
one_piece_more options before report = pieces_append options [] before (report ∷ []) ∙ ap (λ (l : List ℕ). pieces_of options [] before ++ l) (append-nil (piece_of options before report))

-- the last of a list with one more
last_behind : (before : List ItemReport) (report : ItemReport) → last_report (before ++ report ∷ []) ≡ Some report
last_behind [] report = refl
last_behind (a ∷ []) report = refl
last_behind (a ∷ b ∷ before) report =
    let n = length (before ++ report ∷ []) in
    let e : suc (suc n) - 1 ≡ suc (suc n - 1) = omega arith in
    ap (λ (k : ℕ). slice_get (a ∷ b ∷ (before ++ report ∷ [])) k) e ∙ last_behind (b ∷ before) report

-- the pieces by what the options say
module _ (generated shown verbose : Bool) where
  abbrev piece_by : List ItemReport → ItemReport → List ℕ
  piece_by before report = cond generated [] (cond shown (shown_lines_of (unplaced report)) (cond verbose (verbose_lines (unplaced report)) (letters_behind (last_report before) report)))

  abbrev pieces_by : List ItemReport → List ItemReport → List ℕ
  pieces_by before [] = []
  pieces_by before (report ∷ reports) = piece_by before report ++ pieces_by (before ++ report ∷ []) reports

  abbrev lines_by : List ItemReport → List ℕ
  lines_by reports = cond generated [] (cond shown (flat_map shown_lines_of (placed_reports reports [])) (cond verbose (flat_map verbose_lines (placed_reports reports [])) (plain_lines (placed_reports reports []))))

  abbrev open_end : List ℕ
  open_end = cond (generated || (shown || verbose)) [] (codes "\n")

  abbrev end_by : List ℕ → List ℕ
  end_by pieces = cond (eqb (length pieces) 0) [] (cond (generated || (shown || verbose)) (codes "\n") (codes "\n\n"))

no_pieces : (shown verbose : Bool) (before reports : List ItemReport) → pieces_by true shown verbose before reports ≡ []
no_pieces shown verbose before [] = refl
no_pieces shown verbose before (r ∷ reports) = no_pieces shown verbose (before ++ r ∷ []) reports

shown_pieces : (verbose : Bool) (before reports : List ItemReport) → pieces_by false true verbose before reports ≡ flat_map shown_lines_of (placed_reports reports [])
shown_pieces verbose before [] = refl
shown_pieces verbose before (r ∷ reports) = ap (λ (l : List ℕ). shown_lines_of (unplaced r) ++ l) (shown_pieces verbose (before ++ r ∷ []) reports)

verbose_pieces : (before reports : List ItemReport) → pieces_by false false true before reports ≡ flat_map verbose_lines (placed_reports reports [])
verbose_pieces before [] = refl
verbose_pieces before (r ∷ reports) = ap (λ (l : List ℕ). verbose_lines (unplaced r) ++ l) (verbose_pieces (before ++ r ∷ []) reports)

-- letters
abbrev letters_all : Option ItemReport → List ItemReport → List ℕ
letters_all last [] = []
letters_all last (r ∷ reports) = letters_behind last r ++ letters_all (Some r) reports

letter_pieces : (before reports : List ItemReport) → pieces_by false false false before reports ≡ letters_all (last_report before) reports
letter_pieces before [] = refl
letter_pieces before (r ∷ reports) =
    ap (λ (l : List ℕ). letters_behind (last_report before) r ++ l)
    (letter_pieces (before ++ r ∷ []) reports ∙ ap (λ (o : Option ItemReport). letters_all o reports) (last_behind before r))

letters_after : (last : ItemReport) (reports : List ItemReport) → after_letters (unplaced last) (placed_reports reports []) ≡ letters_all (Some last) reports ++ codes "\n"
unfolding worker_end
letters_after last [] = refl
letters_after last (r ∷ reports) =
    ap (λ (l : List ℕ). between (unplaced last) (unplaced r) ++ (letters_of r ++ l)) (letters_after r reports)
    ∙ (sym (append_assoc (between (unplaced last) (unplaced r)) (letters_of r) (letters_all (Some r) reports ++ codes "\n"))
    ∙ sym (append_assoc (letters_behind (Some last) r) (letters_all (Some r) reports) (codes "\n")))

letters_lines : (r : ItemReport) (reports : List ItemReport) → plain_lines (placed_reports (r ∷ reports) []) ≡ letters_all None (r ∷ reports) ++ codes "\n"
letters_lines r reports =
    plain_by_rows (unplaced r) (placed_reports reports [])
    ∙ (ap (λ (l : List ℕ). file_start r ++ (letters_of r ++ l)) (letters_after r reports)
    ∙ (sym (append_assoc (file_start r) (letters_of r) (letters_all (Some r) reports ++ codes "\n"))
    ∙ sym (append_assoc (letters_behind None r) (letters_all (Some r) reports) (codes "\n"))))

-- a list with an element is not empty
some_length : (n : ℕ) → eqb (suc n) 0 ≡ false
some_length n = ne_eqb (suc n) 0 (λ q. omega (arith, q))

-- a start of a line is not empty
gap_behind : (p : List ℕ) → with_gap (p ++ codes "\n") ≡ (p ++ codes "\n") ++ 10 ∷ []
gap_behind [] = refl
gap_behind (c ∷ p) = ap (λ (b : Bool). cond b [] (((c ∷ p) ++ codes "\n") ++ 10 ∷ [])) (some_length (length (p ++ codes "\n")))

begun : (file letters more : List ℕ) → (c : ℕ) × (rest : List ℕ) × (((file ++ codes " ") ++ letters) ++ more ≡ c ∷ rest)
begun [] letters more = (32, letters ++ more, refl)
begun (c ∷ file) letters more = (c, ((file ++ codes " ") ++ letters) ++ more, refl)

some_letters : (r : ItemReport) (reports : List ItemReport) → (c : ℕ) × (more : List ℕ) × (letters_all None (r ∷ reports) ≡ c ∷ more)
unfolding file_start
some_letters r reports = begun r.file (letters_of r) (letters_all (Some r) reports)

with_end : (whole : Bool) (pieces : List ℕ) → (c : ℕ) × (more : List ℕ) × (pieces ≡ c ∷ more) → cond (eqb (length pieces) 0) [] (cond whole (codes "\n") (codes "\n\n")) ≡ cond whole (codes "\n") (codes "\n\n")
with_end whole pieces (c, more, e) =
    ap (λ (l : List ℕ). cond (eqb (length l) 0) [] (cond whole (codes "\n") (codes "\n\n"))) e
    ∙ ap (λ (b : Bool). cond b [] (cond whole (codes "\n") (codes "\n\n"))) (some_length (length more))

gap_alone : (p : List ℕ) → with_gap p ≡ p ++ cond (eqb (length p) 0) [] (codes "\n")
gap_alone [] = refl
gap_alone (c ∷ p) =
    ap (λ (b : Bool). cond b [] ((c ∷ p) ++ 10 ∷ [])) (some_length (length p)) ∙ ap (λ (b : Bool). (c ∷ p) ++ cond b [] (codes "\n")) (sym (some_length (length p)))

no_lines : with_gap (plain_lines []) ≡ []
unfolding plain_lines
no_lines = refl

law_by : (generated shown verbose : Bool) (reports : List ItemReport)
    → with_gap (lines_by generated shown verbose reports) ≡ pieces_by generated shown verbose [] reports ++ end_by generated shown verbose (pieces_by generated shown verbose [] reports)
law_by true shown verbose reports = ap (λ (p : List ℕ). p ++ end_by true shown verbose p) (sym (no_pieces shown verbose [] reports))
law_by false true verbose reports = gap_alone (flat_map shown_lines_of (placed_reports reports [])) ∙ ap (λ (p : List ℕ). p ++ end_by false true verbose p) (sym (shown_pieces verbose [] reports))
law_by false false true reports = gap_alone (flat_map verbose_lines (placed_reports reports [])) ∙ ap (λ (p : List ℕ). p ++ end_by false false true p) (sym (verbose_pieces [] reports))
law_by false false false [] = no_lines
law_by false false false (r ∷ reports) =
    let p = letters_all None (r ∷ reports) in
    ap with_gap (letters_lines r reports)
    ∙ (gap_behind p
    ∙ (append_assoc p (codes "\n") (10 ∷ [])
    ∙ (ap (λ (e : List ℕ). p ++ e) (sym (with_end false p (some_letters r reports))) ∙ ap (λ (q : List ℕ). q ++ end_by false false false q) (sym (letter_pieces [] (r ∷ reports))))))

pieces_as : (options : Options) (before reports : List ItemReport) → pieces_of options before reports ≡ pieces_by (is_some options.generated) options.setup_show options.verbose before reports
unfolding piece_of
pieces_as options before [] = refl
pieces_as options before (r ∷ reports) = ap (λ (l : List ℕ). piece_of options before r ++ l) (pieces_as options (before ++ r ∷ []) reports)

lines_as : (options : Options) (reports : List ItemReport) → options.collect_only ≡ false → progress_lines options reports [] ≡ lines_by (is_some options.generated) options.setup_show options.verbose reports
unfolding progress_lines
lines_as options reports e = rw e refl

end_as : (options : Options) (pieces : List ℕ) → pieces_end options pieces ≡ end_by (is_some options.generated) options.setup_show options.verbose pieces
unfolding pieces_end
end_as options pieces = refl

-- THE LAW
pub is_pieces : (options : Options) (reports : List ItemReport) → options.collect_only ≡ false → progress_of options reports [] ≡ pieces_of options [] reports ++ pieces_end options (pieces_of options [] reports)
unfolding progress_of
is_pieces options reports runs =
    ap with_gap (lines_as options reports runs)
    ∙ (law_by (is_some options.generated) options.setup_show options.verbose reports
    ∙ (ap (λ (p : List ℕ). p ++ end_by (is_some options.generated) options.setup_show options.verbose p) (sym (pieces_as options [] reports))
    ∙ ap (λ (e : List ℕ). pieces_of options [] reports ++ e) (sym (end_as options (pieces_of options [] reports)))))

-- WHAT STANDS BEHIND THEM, by whether there are lines
pub is_end : (options : Options) (pieces lines : List ℕ) (any : Bool) → lines ≡ pieces ++ pieces_end options pieces → any ≡ not (eqb (length lines) 0) → cond any (cond (has_whole_lines options) (codes "\n") (codes "\n\n")) [] ≡ pieces_end options pieces
unfolding pieces_end
is_end options [] lines any e h =
    let none : any ≡ false = h ∙ ap (λ (l : List ℕ). not (eqb (length l) 0)) e in
    ap (λ (b : Bool). cond b (cond (has_whole_lines options) (codes "\n") (codes "\n\n")) []) none
is_end options (c ∷ pieces) lines any e h =
    let some : any ≡ true = h ∙ (ap (λ (l : List ℕ). not (eqb (length l) 0)) e ∙ ap not (some_length _)) in
    ap (λ (b : Bool). cond b (cond (has_whole_lines options) (codes "\n") (codes "\n\n")) []) some
    ∙ ap (λ (b : Bool). cond b [] (cond (has_whole_lines options) (codes "\n") (codes "\n\n"))) (sym (some_length (length pieces)))
