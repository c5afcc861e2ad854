-- The reports of the letters' tests are those of their session.
use Rattle.std.proofs.Common.{◌≡◌, ℕ, ◌<◌, Bool, true, false, List, [], ◌∷◌, ◌++◌, refl, sym, ap, ◌∙◌}
use Rattle.cli_words.specs.Options.{defaults}
use Rattle.report_parts.specs.declared.report.ItemReport.{ItemReport}
use Rattle.share_files.specs.Deal.{Every, RisesFrom}
use Rattle.worker_runs.specs.Threads.{thread_reports}
use Rattle.worker_tests.proofs.Chosen.{are_chosen, chosen_of}
use Rattle.worker_tests.specs.Letters.{file_printed, file_reports, letters, letters_printed, letters_reports, letters_rules, letters_fixture}

-- ONE FILE MORE

pub reports_more : (printed given : List ℕ) (n : ℕ) → letters_reports printed (given ++ n ∷ []) ≡ letters_reports printed given ++ file_reports (letters_printed printed given) n
reports_more printed [] n = refl
reports_more printed (g ∷ given) n = ap (λ (l : List ItemReport). file_reports printed g ++ l) (reports_more (file_printed printed g) given n)

pub printed_more : (printed given : List ℕ) (n : ℕ) → letters_printed printed (given ++ n ∷ []) ≡ file_printed (letters_printed printed given) n
printed_more printed [] n = refl
printed_more printed (g ∷ given) n = printed_more (file_printed printed g) given n

pub below_more : (given : List ℕ) (n : ℕ) → Every (λ m. m < 4) given → n < 4 → Every (λ m. m < 4) (given ++ n ∷ [])
below_more [] n e lt = (lt, tt)
below_more (g ∷ given) n e lt = (e.0, below_more given n e.1 lt)

-- THE SESSIONS

abbrev told : List ℕ → List ItemReport
told given = thread_reports letters_rules letters_fixture defaults letters given

chosen_told : (a b c d : Bool) → told (chosen_of a b c d) ≡ letters_reports [] (chosen_of a b c d)
chosen_told true true true true = refl
chosen_told true true true false = refl
chosen_told true true false true = refl
chosen_told true true false false = refl
chosen_told true false true true = refl
chosen_told true false true false = refl
chosen_told true false false true = refl
chosen_told true false false false = refl
chosen_told false true true true = refl
chosen_told false true true false = refl
chosen_told false true false true = refl
chosen_told false true false false = refl
chosen_told false false true true = refl
chosen_told false false true false = refl
chosen_told false false false true = refl
chosen_told false false false false = refl

pub thread_is : (given : List ℕ) → Every (λ m. m < 4) given → RisesFrom 0 given → told given ≡ letters_reports [] given
thread_is given below rises =
    let i = are_chosen given rises below in
    ap told i.is ∙ (chosen_told i.a i.b i.c i.d ∙ sym (ap (λ (l : List ℕ). letters_reports [] l) i.is))
