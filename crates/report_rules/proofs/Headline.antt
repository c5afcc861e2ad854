-- What the report of words and files tells.
use Rattle.std.proofs.Common.{◌≡◌, ℕ, Bool, true, false, cond, not, ◌&&◌, ◌||◌, List, [], map, length, min, refl, ap, ap₂, ◌∙◌, eqb, Option, None, Some, Result, Ok, Err, MatchBool, MatchOption, MatchResult}
use Rattle.cli_words.specs.Faults.{usage_text}
use Rattle.cli_words.specs.Info.{info_of}
use Rattle.cli_words.specs.Options.{asks_for_workers, options_of}
use Rattle.cli_words.specs.declared.fault.UsageFault.{UsageFault}
use Rattle.cli_words.specs.declared.info.Info.{Info}
use Rattle.cli_words.specs.declared.options.Options.{Options}
use Rattle.edge_io.specs.Files.{File, TreeLimit, tree_limit}
use Rattle.report_parts.specs.Outcomes.{not_empty}
use Rattle.report_rules.proofs.Alone.{as_one_thread}
use Rattle.report_rules.proofs.Placed.{are_placed}
use Rattle.report_rules.proofs.Journals.{all_lawful, all_none, same_sessions}
use Rattle.report_rules.proofs.Workers.{are_reported}
use Rattle.report_rules.specs.Alone.{AreAsOneThread}
use Rattle.report_rules.specs.Answer.{PrintedAnswer, info_answer, limit_text, refusal}
use Rattle.report_rules.specs.Collected.{Collected, Collection, ConftestFault, Profile, Refused, Whole, report_language}
use Rattle.report_rules.specs.Groups.{groups}
use Rattle.report_rules.specs.Headline.{AreAccepted, AreReadAs, Declines, Exceeds, Headline, Informs, IsSound, Misreads, Raises, Refuses, Reports}
use Rattle.report_rules.specs.Report.{AreSources, IsReportBy, IsTaken, SaysOfCollection, SaysOfFiles, SaysOfOptions, SaysOfWords, single_thread, files_for, rows_reported, runs, workers_of}
use Rattle.report_rules.specs.Placed.{ArePlaced}
use Rattle.report_rules.specs.Rows.{ReportRow, report_row, session_rows}
use Rattle.report_rules.specs.Shares.{by_group, tasks_from, worked}
use Rattle.session_rules.proofs.BuiltIns.{one_turn}
use Rattle.session_types.proofs.Lists.{eqb_is}
use Rattle.session_rules.specs.World.{Language, Rules}
use Rattle.share_files.specs.Deal.{Share}

and_false : (b : Bool) → (b && false) ≡ false
and_false true = refl
and_false false = refl

module _ {L : Language} {T : Type 0} (rules : Rules L) (options : Options) (c : Collected L T) (taken : List (List ℕ)) (some : workers_of options c ≡ 0 → ⊥) where
  idle : runs options c ≡ false → workers_of options c ≡ 0
  idle e =
      let q : (asks_for_workers options && runs options c) ≡ false = ap (λ (b : Bool). asks_for_workers options && b) e ∙ and_false (asks_for_workers options) in
      ap (λ (b : Bool). cond b (min options.workers (length (groups c.selected))) 0) q

  choose_rows : (P : List (ReportRow L) → Type 0) → (Share (length (groups c.selected)) (workers_of options c) taken → P (by_group 0 (length (groups c.selected)) (worked rules c.world (tasks_from (groups c.selected) 0 taken))))
      → (collect failed one : Bool) → options.collect_only ≡ collect → not_empty c.errors ≡ failed → (one ≡ true → workers_of options c ≡ 0)
      → MatchBool one (taken ≡ []) (Share (length (groups c.selected)) (workers_of options c) taken)
      → P (cond collect (map (λ t. report_row t [] []) (single_thread c)) (cond failed [] (cond one (session_rows rules c.world options.maxfail (single_thread c)) (by_group 0 (length (groups c.selected)) (worked rules c.world (tasks_from (groups c.selected) 0 taken))))))
  choose_rows P law true failed one e f g t = absurd (some (idle (ap (λ (b : Bool). not (b || not_empty c.errors)) e)))
  choose_rows P law false true one e f g t = absurd (some (idle (ap₂ (λ (a b : Bool). not (a || b)) e f)))
  choose_rows P law false false true e f g t = absurd (some (g refl))
  choose_rows P law false false false e f g t = law t

  chosen_rows : (P : List (ReportRow L) → Type 0) → (Share (length (groups c.selected)) (workers_of options c) taken → P (by_group 0 (length (groups c.selected)) (worked rules c.world (tasks_from (groups c.selected) 0 taken)))) → IsTaken options c taken → P (rows_reported rules options c taken)
  chosen_rows P law t = choose_rows P law options.collect_only (not_empty c.errors) (eqb (workers_of options c) 0) refl refl (λ e. eqb_is (workers_of options c) 0 e) t

  pub workers_alone : IsTaken options c taken → AreAsOneThread rules c taken (rows_reported rules options c taken)
  workers_alone t = chosen_rows (λ (rs : List (ReportRow L)). AreAsOneThread rules c taken rs) (λ share. as_one_thread rules c (workers_of options c) taken share) t

  pub workers_placed : IsTaken options c taken → ArePlaced c taken (rows_reported rules options c taken)
  workers_placed t = chosen_rows (λ (rs : List (ReportRow L)). ArePlaced c taken rs) (λ share. are_placed rules c taken) t

module _ {World Value Thrown Rest Source Table : Type 0} (holds : List ℕ → Source → Type 0) (is_out : Rest → World → Bool) (profile : Profile (report_language World Value Thrown Rest) Source Table) (sound : IsSound holds is_out profile) where
  abbrev Told : List (List ℕ) → List (List ℕ) → List File → PrintedAnswer → Type 0
  Told taken words files answer = Headline holds is_out profile taken words files answer

  of_whole : (options : Options) (words taken : List (List ℕ)) (files : List File) (answer : PrintedAnswer) (sources : List (List ℕ × Source)) (x : Collection (report_language World Value Thrown Rest) Table) → AreReadAs holds is_out profile words files options sources → profile.collect options sources ≡ x
      → SaysOfCollection holds profile options taken x answer → Told taken words files answer
  of_whole options words taken files answer sources (Refused text) read e s = Refuses options sources text read e s.1
  of_whole options words taken files answer sources (ConftestFault path told) read e s = Raises options sources path told read e s.1
  of_whole options words taken files answer sources (Whole c) read e s =
      let rules = profile.rules options c.table in
      let f = sound.fits options sources c e in
      let keep = sound.frames options c.table in
      Reports options sources c read e (record {
        is = s.1;
        shared = s.0;
        distinct = f.distinct;
        once = are_reported rules options c taken s.0;
        called = λ chosen m phase next t. one_turn rules phase chosen.item next (sound.built_ins options sources c e chosen m phase) t;
        lawful = all_lawful rules options c taken f s.0;
        frames = keep;
        none_out = all_none rules is_out keep options c taken (sound.none_out options sources c e) f s.0;
        go_on_once = λ others alike. same_sessions rules is_out keep options c taken others alike;
        placed = λ some. workers_placed rules options c taken some s.0;
        alone = λ some. workers_alone rules options c taken some s.0;
      })

  of_limit : (options : Options) (words taken : List (List ℕ)) (files : List File) (answer : PrintedAnswer) (limit : Option TreeLimit) → AreAccepted holds is_out profile words options → tree_limit (files_for holds profile options.generated files) ≡ limit
      → MatchOption limit ((sources : List (List ℕ × Source)) × AreSources holds profile (files_for holds profile options.generated files) sources × SaysOfCollection holds profile options taken (profile.collect options sources) answer) (λ l. (taken ≡ []) × (answer ≡ refusal (limit_text l)))
      → Told taken words files answer
  of_limit options words taken files answer (Some limit) a e s = Exceeds options limit a e s.1
  of_limit options words taken files answer None a e s = of_whole options words taken files answer s.0 (profile.collect options s.0) (record { asked = a; within = e; are = s.1 }) refl s.2

  of_wrong : (options : Options) (words taken : List (List ℕ)) (files : List File) (answer : PrintedAnswer) (wrong : Option (List ℕ)) → info_of words ≡ None → options_of words ≡ Ok options → profile.refused options ≡ wrong
      → MatchOption wrong (SaysOfFiles holds profile options taken (files_for holds profile options.generated files) answer) (λ text. (taken ≡ []) × (answer ≡ refusal text))
      → Told taken words files answer
  of_wrong options words taken files answer (Some text) i e w s = Declines options text i e w s.1
  of_wrong options words taken files answer None i e w s = of_limit options words taken files answer (tree_limit (files_for holds profile options.generated files)) (record { no_info = i; read = e; accepted = w }) refl s

  of_words : (words taken : List (List ℕ)) (files : List File) (answer : PrintedAnswer) (r : Result Options UsageFault) → info_of words ≡ None → options_of words ≡ r
      → MatchResult r (λ options. SaysOfOptions holds profile options taken files answer) (λ fault. (taken ≡ []) × (answer ≡ refusal (usage_text fault)))
      → Told taken words files answer
  of_words words taken files answer (Ok options) i e s = of_wrong options words taken files answer (profile.refused options) i e refl s
  of_words words taken files answer (Err fault) i e s = Misreads fault i e s.1

  of_info : (words taken : List (List ℕ)) (files : List File) (answer : PrintedAnswer) (asked : Option Info) → info_of words ≡ asked
      → MatchOption asked (SaysOfWords holds profile taken words files answer) (λ info. (taken ≡ []) × (answer ≡ info_answer info))
      → Told taken words files answer
  of_info words taken files answer (Some info) e s = Informs info e s.1
  of_info words taken files answer None e s = of_words words taken files answer (options_of words) e refl s

  pub headline : (words taken : List (List ℕ)) (files : List File) (answer : PrintedAnswer) → IsReportBy holds profile taken words files answer → Told taken words files answer
  headline words taken files answer s = of_info words taken files answer (info_of words) refl s
