-- What is said of words, from what is said of their options and of files.
use Rattle.std.proofs.Common.{◌≡◌, ℕ, List, [], ◌∷◌, true, Option, None, Some, Result, Ok, Err, MatchOption, MatchResult, refl, sym, subst, ap, ◌∙◌}
use Rattle.std.specs.Prelude.{IfOk, IfSome}
use Rattle.cli_words.specs.Faults.{usage_text}
use Rattle.cli_words.specs.Info.{info_of}
use Rattle.cli_words.specs.Options.{options_of}
use Rattle.cli_words.specs.declared.fault.UsageFault.{UsageFault}
use Rattle.cli_words.specs.declared.info.Info.{Info}
use Rattle.cli_words.specs.declared.options.Options.{Options}
use Rattle.worker_sessions.specs.collect_tree.Collection.{collect}
use Rattle.edge_io.specs.Files.{File, IsKept, TreeLimit, tree_limit}
use Rattle.worker_sessions.specs.collect_tree.file_source.Sources.{HoldsSource}
use Rattle.worker_sessions.specs.collect_tree.py_load.Reading.{AreRead, ReadFile}
use Rattle.worker_sessions.specs.run_items.report_rules.Answer.{PrintedAnswer, info_answer, limit_text, refusal}
use Rattle.worker_sessions.specs.run_items.report_rules.Answer.{Status as Ended}
use Rattle.worker_sessions.specs.run_items.report_rules.Answer as ends
use Rattle.worker_sessions.specs.run_items.report_rules.Report as rules
use Rattle.selection.specs.Exprs.{refused_expression}
use Rattle.pytest_core.specs.Profile.{profile}
use Rattle.pytest_core.specs.Report.{FilesSay, OfKept, OptionsSay}
use Rattle.pytest_core.specs.Status.{is_said, status_seen}
use Rattle.pytest_core.specs.Written.{IsResponseBy, Response, response_of}
use Rattle.pytest_core.proofs.Kept.{kept_files}

-- no groups are shared
abbrev NoGroups : List (List ℕ)
NoGroups = []

-- responses
pub response : (P : PrintedAnswer → Type 0) (answer : PrintedAnswer) (r : Response) → P answer → r ≡ response_of answer → IsResponseBy P r
response P answer r is same = record { answer = answer; is = is; same = same }

pub response_as : (P Q : PrintedAnswer → Type 0) (r : Response) → ((answer : PrintedAnswer) → P answer → Q answer) → IsResponseBy P r → IsResponseBy Q r
response_as P Q r f h = record { answer = h.answer; is = f h.answer h.is; same = h.same }

pub of_kept : (Says : List File → PrintedAnswer → Type 0) (tree files : List File) (r : Response) → IsKept tree files → IsResponseBy (Says files) r → IsResponseBy (OfKept Says tree) r
of_kept Says tree files r kept h = response_as (Says files) (OfKept Says tree) r (λ answer is. (files, kept, is)) h

pub kept_as : (P Q : List File → PrintedAnswer → Type 0) (tree : List File) (r : Response) → ((files : List File) (answer : PrintedAnswer) → P files answer → Q files answer) → IsResponseBy (OfKept P tree) r → IsResponseBy (OfKept Q tree) r
kept_as P Q tree r f h = response_as (OfKept P tree) (OfKept Q tree) r (λ answer is. (is.0, is.1, f is.0 answer is.2)) h

-- what doesn't depend on the files
pub of_any : (Says : List File → PrintedAnswer → Type 0) (tree : List File) (answer : PrintedAnswer) (r : Response) → ((files : List File) → Says files answer) → r ≡ response_of answer → IsResponseBy (OfKept Says tree) r
of_any Says tree answer r is same = let kept = kept_files tree in record { answer = answer; is = (kept.0, kept.1, is kept.0); same = same }

pub some_as : {X : Type 0} (o : Option X) (P Q : X → Type 0) → ((x : X) → P x → Q x) → IfSome o P → IfSome o Q
some_as None P Q f h = tt
some_as (Some x) P Q f h = f x h

pub some_of : {X : Type 0} (o : Option X) (P : X → Type 0) → ((x : X) → P x) → IfSome o P
some_of None P f = tt
some_of (Some x) P f = f x

pub both_as : {X E : Type 0} (x : Result X E) (P Q R : X → Type 0) → ((y : X) → P y → Q y → R y) → IfOk x P → IfOk x Q → IfOk x R
both_as (Ok y) P Q R f h k = f y h k
both_as (Err e) P Q R f h k = tt

-- the status of a report
seen_said : (status : Ended) → is_said (status_seen status) ≡ true
seen_said ends.Passed = refl
seen_said ends.Failed = refl
seen_said ends.Interrupted = refl
seen_said ends.Usage = refl
seen_said ends.NoTests = refl

pub said_by : (P : PrintedAnswer → Type 0) (r : Response) → IsResponseBy P r → is_said r.1 ≡ true
said_by P r h = ap (λ (x : Response). is_said x.1) h.same ∙ seen_said h.answer.1

-- READ FILES
pub are_sources : (files : List File) (reads : List ReadFile) → AreRead files reads → rules.AreSources HoldsSource profile files reads
are_sources [] [] h = tt
are_sources [] (r ∷ reads) h = absurd h
are_sources (file ∷ files) [] h = absurd h
are_sources (file ∷ files) (r ∷ reads) h = (h.0, h.1, are_sources files reads h.2)

-- what is said of files that pass no limit
pub says_collected : (options : Options) (taken : List (List ℕ)) (files : List File) (reads : List ReadFile) (answer : PrintedAnswer) → tree_limit files ≡ None → AreRead files reads
    → rules.SaysOfCollection HoldsSource profile options taken (collect options reads) answer → rules.SaysOfFiles HoldsSource profile options taken files answer
says_collected options taken files reads answer fits read said =
    let P : Option TreeLimit → Type 0 =
    λ limit. MatchOption limit ((sources : List ReadFile) × rules.AreSources HoldsSource profile files sources × rules.SaysOfCollection HoldsSource profile options taken (collect options sources) answer) (λ l. (taken ≡ []) × (answer ≡ refusal (limit_text l))) in
    subst P (sym fits) (reads, are_sources files reads read, said)

pub says_limit : (options : Options) (files : List File) (limit : TreeLimit) → tree_limit files ≡ Some limit → rules.SaysOfFiles HoldsSource profile options [] files (refusal (limit_text limit))
says_limit options files limit passes =
    let P : Option TreeLimit → Type 0 =
    λ x. MatchOption x ((sources : List ReadFile) × rules.AreSources HoldsSource profile files sources × rules.SaysOfCollection HoldsSource profile options [] (collect options sources) (refusal (limit_text limit))) (λ l. (NoGroups ≡ NoGroups) × (refusal (limit_text limit) ≡ refusal (limit_text l))) in
    subst P (sym passes) (refl, refl)

-- OPTIONS
pub says_refused : (options : Options) (text : List ℕ) → refused_expression options ≡ Some text → (files : List File) → rules.SaysOfOptions HoldsSource profile options [] files (refusal text)
says_refused options text e files =
    let P : Option (List ℕ) → Type 0 =
    λ x. MatchOption x (rules.SaysOfFiles HoldsSource profile options [] (rules.files_for HoldsSource profile options.generated files) (refusal text)) (λ t. (NoGroups ≡ NoGroups) × (refusal text ≡ refusal t)) in
    subst P (sym e) (refl, refl)

pub says_run : (options : Options) (taken : List (List ℕ)) → refused_expression options ≡ None → (files : List File) (answer : PrintedAnswer) → rules.SaysOfFiles HoldsSource profile options taken (rules.files_for HoldsSource profile options.generated files) answer → rules.SaysOfOptions HoldsSource profile options taken files answer
says_run options taken e files answer said =
    let P : Option (List ℕ) → Type 0 =
    λ x. MatchOption x (rules.SaysOfFiles HoldsSource profile options taken (rules.files_for HoldsSource profile options.generated files) answer) (λ t. (taken ≡ []) × (answer ≡ refusal t)) in
    subst P (sym e) said

-- of the tree's files
pub says_tree : (options : Options) → refused_expression options ≡ None → options.generated ≡ None → (files : List File) (answer : PrintedAnswer) → FilesSay options files answer → OptionsSay options files answer
says_tree options e none files answer (taken, said) =
    (taken, says_run options taken e files answer (subst (λ fs. rules.SaysOfFiles HoldsSource profile options taken fs answer) (sym (ap (λ x. rules.files_for HoldsSource profile x files) none)) said))

-- of the generated files, whatever the tree's are
pub says_generated : (options : Options) (asked : ℕ × ℕ) → refused_expression options ≡ None → options.generated ≡ Some asked → (files : List File) (answer : PrintedAnswer) → FilesSay options (profile.generated asked.0 asked.1) answer → OptionsSay options files answer
says_generated options asked e some files answer (taken, said) =
    (taken, says_run options taken e files answer (subst (λ fs. rules.SaysOfFiles HoldsSource profile options taken fs answer) (sym (ap (λ x. rules.files_for HoldsSource profile x files) some)) said))

-- WORDS
by_words : (words : List (List ℕ)) (taken : List (List ℕ)) (files : List File) (answer : PrintedAnswer) → info_of words ≡ None → rules.SaysOfWords HoldsSource profile taken words files answer → rules.IsReport HoldsSource profile words files answer
by_words words taken files answer none said =
    let P : Option Info → Type 0 =
    λ x. MatchOption x (rules.SaysOfWords HoldsSource profile taken words files answer) (λ info. (taken ≡ []) × (answer ≡ info_answer info)) in
    (taken, subst P (sym none) said)

abbrev SaysOfRead : List (List ℕ) → List File → PrintedAnswer → Result Options UsageFault → Type 0
SaysOfRead taken files answer x = MatchResult x (λ options. rules.SaysOfOptions HoldsSource profile options taken files answer) (λ fault. (taken ≡ []) × (answer ≡ refusal (usage_text fault)))

pub says_options : (words : List (List ℕ)) (options : Options) → info_of words ≡ None → options_of words ≡ Ok options
    → (files : List File) (answer : PrintedAnswer) → OptionsSay options files answer → rules.IsReport HoldsSource profile words files answer
says_options words options none read files answer (taken, said) = by_words words taken files answer none (subst (SaysOfRead taken files answer) (sym read) said)

pub says_fault : (words : List (List ℕ)) (fault : UsageFault) → info_of words ≡ None → options_of words ≡ Err fault
    → (files : List File) → rules.IsReport HoldsSource profile words files (refusal (usage_text fault))
says_fault words fault none read files = by_words words [] files (refusal (usage_text fault)) none (subst (SaysOfRead [] files (refusal (usage_text fault))) (sym read) (refl, refl))

pub says_info : (words : List (List ℕ)) (info : Info) → info_of words ≡ Some info → (files : List File) → rules.IsReport HoldsSource profile words files (info_answer info)
says_info words info asked files =
    let P : Option Info → Type 0 =
    λ x. MatchOption x (rules.SaysOfWords HoldsSource profile [] words files (info_answer info)) (λ i. (NoGroups ≡ NoGroups) × (info_answer info ≡ info_answer i)) in
    ([], subst P (sym asked) (refl, refl))
