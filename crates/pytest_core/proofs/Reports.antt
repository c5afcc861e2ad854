-- Words and files have a report, and no other; and what it tells.
use Rattle.std.proofs.Common.{◌≡◌, ℕ, List, refl, sym, subst, ap₂, ◌∙◌}
use Rattle.edge_io.specs.Files.{File, IsKept}
use Rattle.worker_sessions.proofs.file_source_lemmas.OneSource.{has_source, one_source}
use Rattle.worker_sessions.specs.collect_tree.file_source.Sources.{HoldsSource, ReadSource}
use Rattle.worker_sessions.proofs.report_rules_lemmas.Exists.{some_report}
use Rattle.worker_sessions.proofs.report_rules_lemmas.Headline.{headline}
use Rattle.worker_sessions.proofs.report_rules_lemmas.Unique.{report_one, thread_one}
use Rattle.worker_sessions.specs.run_items.report_rules.Answer.{PrintedAnswer}
use Rattle.worker_sessions.specs.run_items.report_rules.Headline.{Headline, IsSound}
use Rattle.worker_sessions.specs.run_items.report_rules.Report as rules
use Rattle.worker_sessions.specs.run_items.source_meaning.py_world.Resuming.{is_out}
use Rattle.pytest_core.specs.Profile.{profile}
use Rattle.pytest_core.specs.Report.{IsTreeReport, OfKept}
use Rattle.pytest_core.proofs.Kept.{kept_files}

-- bytes say one thing
says_one : (bytes : List ℕ) (a b : ReadSource) → HoldsSource bytes a → HoldsSource bytes b → a ≡ b
says_one bytes a b h k = ap₂ (λ (x : List ℕ) y. (x, y)) (h.0 ∙ sym k.0) (one_source bytes a.1 b.1 h.1 k.1)

says_some : (bytes : List ℕ) → (source : ReadSource) × HoldsSource bytes source
says_some bytes = let said = has_source bytes in ((bytes, said.0), (refl, said.1))

-- THE LAWS
abbrev OneTree : Type 0
OneTree = (tree files others : List File) → IsKept tree files → IsKept tree others → files ≡ others

-- of one assignment
pub one_answer_by : OneTree → (taken words : List (List ℕ)) (tree : List File) (a b : PrintedAnswer) → OfKept (rules.IsReportBy HoldsSource profile taken words) tree a → OfKept (rules.IsReportBy HoldsSource profile taken words) tree b → a ≡ b
one_answer_by kept taken words tree a b (files, is, said) (others, js, told) =
    report_one HoldsSource profile says_one taken words files a b said (subst (λ fs. rules.IsReportBy HoldsSource profile taken words fs b) (sym (kept tree files others is js)) told)

-- of words that ask for no workers
pub one_answer : OneTree → (words : List (List ℕ)) (tree : List File) (a b : PrintedAnswer) → rules.IsOfOneThread words → IsTreeReport words tree a → IsTreeReport words tree b → a ≡ b
one_answer kept words tree a b one (files, is, said) (others, js, told) =
    thread_one HoldsSource profile says_one words files a b one said (subst (λ fs. rules.IsReport HoldsSource profile words fs b) (sym (kept tree files others is js)) told)

pub some_answer : (words : List (List ℕ)) (tree : List File) → (a : PrintedAnswer) × IsTreeReport words tree a
some_answer words tree =
    let kept = kept_files tree in
    let report = some_report HoldsSource profile says_some words kept.0 in
    (report.0, (kept.0, kept.1, report.1))

-- WHAT THE REPORT TELLS
pub tells : IsSound HoldsSource is_out profile → (words : List (List ℕ)) (tree : List File) (answer : PrintedAnswer) → IsTreeReport words tree answer
    → OfKept (λ files a. (taken : List (List ℕ)) × Headline HoldsSource is_out profile taken words files a) tree answer
tells sound words tree answer (files, is, said) = (files, is, (said.0, headline HoldsSource is_out profile sound words said.0 files answer said.1))
