-- Words and files have one report.
use Rattle.std.proofs.Common.{◌≡◌, ℕ, Bool, true, false, cond, List, [], ◌∷◌, length, min, refl, sym, ap, ap₂, ◌∙◌, subst, eqb, Option, None, Some, Result, Ok, Err, MatchBool, MatchOption, MatchResult, ◌&&◌}
use Rattle.cli_words.specs.Faults.{usage_text}
use Rattle.cli_words.specs.Info.{info_of}
use Rattle.cli_words.specs.Options.{asks_for_workers, options_of}
use Rattle.cli_words.specs.declared.fault.UsageFault.{UsageFault}
use Rattle.cli_words.specs.declared.info.Info.{Info}
use Rattle.cli_words.specs.declared.options.Options.{Options}
use Rattle.edge_io.specs.Files.{File, TreeLimit, tree_limit}
use Rattle.report_rules.specs.Answer.{PrintedAnswer, info_answer, limit_text, refusal}
use Rattle.report_rules.specs.Collected.{Collected, Collection, ConftestFault, Profile, Refused, Whole, report_language}
use Rattle.report_rules.specs.Groups.{groups}
use Rattle.report_rules.specs.Report.{AreSources, IsOfOneThread, IsReport, IsReportBy, IsTaken, SaysOfCollection, SaysOfFiles, SaysOfOptions, SaysOfWords, files_for, report, runs}
use Rattle.session_rules.specs.World.{Language}
use Rattle.share_files.specs.Deal.{Share}

module _ {World Value Thrown Rest Source Table : Type 0} (holds : List ℕ → Source → Type 0) (profile : Profile (report_language World Value Thrown Rest) Source Table) (one : (bytes : List ℕ) (a b : Source) → holds bytes a → holds bytes b → a ≡ b) where
  sources_same : (files : List File) (xs ys : List (List ℕ × Source)) → AreSources holds profile files xs → AreSources holds profile files ys → xs ≡ ys
  sources_same [] [] [] p q = refl
  sources_same [] [] (y ∷ ys) p q = absurd q
  sources_same [] (x ∷ xs) ys p q = absurd p
  sources_same (f ∷ files) [] ys p q = absurd p
  sources_same (f ∷ files) (x ∷ xs) [] p q = absurd q
  sources_same (f ∷ files) (x ∷ xs) (y ∷ ys) p q =
      let a : x.0 ≡ y.0 = p.0 ∙ sym q.0 in
      let b : x.1 ≡ y.1 = one f.1 x.1 y.1 p.1 q.1 in
      let c : xs ≡ ys = sources_same files xs ys p.2 q.2 in
      let e : x ≡ y = ap₂ (λ (u : List ℕ) (v : Source). (u, v)) a b in
      ap₂ (λ (u : List ℕ × Source) (v : List (List ℕ × Source)). u ∷ v) e c

  -- the groups that were taken are the same, or there are no workers
  collection_one : (options : Options) (s t : List (List ℕ)) (x : Collection (report_language World Value Thrown Rest) Table) (a b : PrintedAnswer) → ((c : Collected (report_language World Value Thrown Rest) Table) → IsTaken options c s → IsTaken options c t → s ≡ t) → SaysOfCollection holds profile options s x a → SaysOfCollection holds profile options t x b → a ≡ b
  collection_one options s t (Refused text) a b same p q = p.1 ∙ sym q.1
  collection_one options s t (ConftestFault path told) a b same p q = p.1 ∙ sym q.1
  collection_one options s t (Whole c) a b same p q = p.1 ∙ (ap (λ (l : List (List ℕ)). report holds profile options c l) (same c p.0 q.0) ∙ sym q.1)

  limit_one : (options : Options) (s t : List (List ℕ)) (files : List File) (limit : Option TreeLimit) (a b : PrintedAnswer) → ((c : Collected (report_language World Value Thrown Rest) Table) → IsTaken options c s → IsTaken options c t → s ≡ t)
      → MatchOption limit ((sources : List (List ℕ × Source)) × AreSources holds profile files sources × SaysOfCollection holds profile options s (profile.collect options sources) a) (λ l. (s ≡ []) × (a ≡ refusal (limit_text l)))
      → MatchOption limit ((sources : List (List ℕ × Source)) × AreSources holds profile files sources × SaysOfCollection holds profile options t (profile.collect options sources) b) (λ l. (t ≡ []) × (b ≡ refusal (limit_text l)))
      → a ≡ b
  limit_one options s t files (Some limit) a b same p q = p.1 ∙ sym q.1
  limit_one options s t files None a b same p q =
      let e = sources_same files p.0 q.0 p.1 q.1 in
      collection_one options s t (profile.collect options q.0) a b same (subst (λ (x : List (List ℕ × Source)). SaysOfCollection holds profile options s (profile.collect options x) a) e p.2) q.2

  wrong_one : (options : Options) (s t : List (List ℕ)) (files : List File) (wrong : Option (List ℕ)) (a b : PrintedAnswer) → ((c : Collected (report_language World Value Thrown Rest) Table) → IsTaken options c s → IsTaken options c t → s ≡ t)
      → MatchOption wrong (SaysOfFiles holds profile options s files a) (λ text. (s ≡ []) × (a ≡ refusal text))
      → MatchOption wrong (SaysOfFiles holds profile options t files b) (λ text. (t ≡ []) × (b ≡ refusal text))
      → a ≡ b
  wrong_one options s t files (Some text) a b same p q = p.1 ∙ sym q.1
  wrong_one options s t files None a b same p q = limit_one options s t files (tree_limit files) a b same p q

  words_one : (s t : List (List ℕ)) (r : Result Options UsageFault) (files : List File) (a b : PrintedAnswer)
      → MatchResult r (λ options. (c : Collected (report_language World Value Thrown Rest) Table) → IsTaken options c s → IsTaken options c t → s ≡ t) (λ fault. Unit {0})
      → MatchResult r (λ options. SaysOfOptions holds profile options s files a) (λ fault. (s ≡ []) × (a ≡ refusal (usage_text fault)))
      → MatchResult r (λ options. SaysOfOptions holds profile options t files b) (λ fault. (t ≡ []) × (b ≡ refusal (usage_text fault)))
      → a ≡ b
  words_one s t (Ok options) files a b same p q = wrong_one options s t (files_for holds profile options.generated files) (profile.refused options) a b same p q
  words_one s t (Err fault) files a b same p q = p.1 ∙ sym q.1

  info_one : (s t words : List (List ℕ)) (asked : Option Info) (files : List File) (a b : PrintedAnswer)
      → MatchResult (options_of words) (λ options. (c : Collected (report_language World Value Thrown Rest) Table) → IsTaken options c s → IsTaken options c t → s ≡ t) (λ fault. Unit {0})
      → MatchOption asked (SaysOfWords holds profile s words files a) (λ info. (s ≡ []) × (a ≡ info_answer info))
      → MatchOption asked (SaysOfWords holds profile t words files b) (λ info. (t ≡ []) × (b ≡ info_answer info))
      → a ≡ b
  info_one s t words (Some info) files a b same p q = p.1 ∙ sym q.1
  info_one s t words None files a b same p q = words_one s t (options_of words) files a b same p q

  any_words : (s : List (List ℕ)) (r : Result Options UsageFault) → MatchResult r (λ options. (c : Collected (report_language World Value Thrown Rest) Table) → IsTaken options c s → IsTaken options c s → s ≡ s) (λ fault. Unit {0})
  any_words s (Ok options) = λ c p q. refl
  any_words s (Err fault) = tt

  pub report_one : (taken words : List (List ℕ)) (files : List File) (a b : PrintedAnswer) → IsReportBy holds profile taken words files a → IsReportBy holds profile taken words files b → a ≡ b
  report_one taken words files a b p q = info_one taken taken words (info_of words) files a b (any_words taken (options_of words)) p q

  none_taken : (options : Options) (c : Collected (report_language World Value Thrown Rest) Table) (s t : List (List ℕ)) (b : Bool) → b ≡ false → MatchBool (eqb (cond (b && runs options c) (min options.workers (length (groups c.selected))) 0) 0) (s ≡ []) (Share (length (groups c.selected)) (cond (b && runs options c) (min options.workers (length (groups c.selected))) 0) s) → s ≡ []
  none_taken options c s t true e p = cc
  none_taken options c s t false e p = p

  thread_words : (s t : List (List ℕ)) (r : Result Options UsageFault) → MatchResult r (λ options. asks_for_workers options ≡ false) (λ fault. Unit {0}) → MatchResult r (λ options. (c : Collected (report_language World Value Thrown Rest) Table) → IsTaken options c s → IsTaken options c t → s ≡ t) (λ fault. Unit {0})
  thread_words s t (Ok options) e = λ c p q. none_taken options c s t (asks_for_workers options) e p ∙ sym (none_taken options c t s (asks_for_workers options) e q)
  thread_words s t (Err fault) e = tt

  pub thread_one : (words : List (List ℕ)) (files : List File) (a b : PrintedAnswer) → IsOfOneThread words → IsReport holds profile words files a → IsReport holds profile words files b → a ≡ b
  thread_one words files a b e p q = info_one p.0 q.0 words (info_of words) files a b (thread_words p.0 q.0 (options_of words) e) p.1 q.1
