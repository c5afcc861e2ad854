-- THE HEADLINE: what the report of words and files tells.
use Rattle.std.specs.Prelude.{◌≡◌, ℕ, Bool, false, List, None, Ok, Err, Option, Some, map}
use Rattle.cli_words.specs.Faults.{usage_text}
use Rattle.cli_words.specs.Info.{info_of}
use Rattle.cli_words.specs.Options.{options_of}
use Rattle.cli_words.specs.declared.fault.UsageFault.{UsageFault}
use Rattle.cli_words.specs.declared.info.Info.{Info}
use Rattle.cli_words.specs.declared.options.Options.{Options}
use Rattle.edge_io.specs.Files.{File, TreeLimit, tree_limit}
use Rattle.report_rules.specs.Alone.{AreAsOneThread}
use Rattle.report_rules.specs.Placed.{ArePlaced}
use Rattle.report_rules.specs.Answer.{PrintedAnswer, conftest_fault, info_answer, limit_text, refusal}
use Rattle.report_rules.specs.Collected.{Collected, ConftestFault, Profile, Refused, SelectedItem, Whole, report_language}
use Rattle.report_rules.specs.Fits.{IsFit, chosen_item}
use Rattle.report_rules.specs.Once.{AreReported}
use Rattle.report_rules.specs.Report.{AreSources, IsTaken, files_for, report, rows_told, sessions, workers_of}
use Rattle.report_parts.specs.declared.report.Told.{Told}
use Rattle.session_rules.specs.BuiltIns.{BuiltInTurn, HaveBuiltIns}
use Rattle.session_rules.specs.Events.{Lawful}
use Rattle.session_rules.specs.Fits.{Distinct}
use Rattle.session_rules.specs.Frames.{AreAlikeWhereOut, KeepsFrames, Resumptions, with_resumptions}
use Rattle.session_rules.specs.Teardown.{SessionState}
use Rattle.session_rules.specs.World.{Phase}
use Rattle.session_types.specs.Members.{IsMember}
use Rattle.share_files.specs.Deal.{Every}

module _ {World Value Thrown Rest Source Table : Type 0} (holds : List ℕ → Source → Type 0) (is_out : Rest → World → Bool) (profile : Profile (report_language World Value Thrown Rest) Source Table) where
  -- what is known of the language: what is collected fits its table; the hooks of each selected item have the runner's own
  -- implementations; each act of the rules tells which frozen frames are out behind it; collection leaves none out
  pub record IsSound : Type 0 where
    pub fits : (options : Options) (sources : List (List ℕ × Source)) (c : Collected (report_language World Value Thrown Rest) Table) → profile.collect options sources ≡ Whole c → IsFit (profile.rules options c.table) c.selected
    pub built_ins : (options : Options) (sources : List (List ℕ × Source)) (c : Collected (report_language World Value Thrown Rest) Table) → profile.collect options sources ≡ Whole c → (chosen : SelectedItem) → IsMember chosen c.selected → HaveBuiltIns (profile.rules options c.table) chosen.item
    pub frames : (options : Options) (table : Table) → KeepsFrames (profile.rules options table) is_out
    pub none_out : (options : Options) (sources : List (List ℕ × Source)) (c : Collected (report_language World Value Thrown Rest) Table) → profile.collect options sources ≡ Whole c → (rest : Rest) → is_out rest c.world ≡ false

  -- the report of a collection, by a way to share the groups
  pub record Tells (options : Options) (c : Collected (report_language World Value Thrown Rest) Table) (taken : List (List ℕ)) (answer : PrintedAnswer) : Type 0 where
    pub is : answer ≡ report holds profile options c taken
    pub shared : IsTaken options c taken
    -- the selected items are distinct, and reported each once, in the stated order
    pub distinct : Distinct (map chosen_item c.selected)
    pub once : AreReported (profile.rules options c.table) options c (rows_told holds profile options c taken)
    -- in each hook call around a selected item the built-in implementation is called once, or another raised before it
    pub called : (chosen : SelectedItem) → IsMember chosen c.selected → (phase : Phase) (next : Option ℕ) (s : SessionState (report_language World Value Thrown Rest)) → BuiltInTurn (profile.rules options c.table) phase chosen.item next s
    -- the journal of each session is lawful
    pub lawful : Every (λ s. Lawful s.events) (sessions (profile.rules options c.table) options c taken)
    -- a body that yields adds its frame, one that goes on or is given up is taken, and nothing else changes which are out; behind each
    -- session none is out; and each goes on once, whatever else the rules would do with a frame
    pub frames : KeepsFrames (profile.rules options c.table) is_out
    pub none_out : Every (λ s. (rest : Rest) → is_out rest s.world ≡ false) (sessions (profile.rules options c.table) options c taken)
    pub go_on_once : (others : Resumptions (report_language World Value Thrown Rest)) → AreAlikeWhereOut (profile.rules options c.table) is_out others
        → sessions (with_resumptions others (profile.rules options c.table)) options c taken ≡ sessions (profile.rules options c.table) options c taken
    -- with workers each report has the place that the assignment gives it, and each worker's rows are those of one thread on the items of
    -- its groups
    pub placed : (workers_of options c ≡ 0 → ⊥) → ArePlaced c taken (rows_told holds profile options c taken)
    pub alone : (workers_of options c ≡ 0 → ⊥) → AreAsOneThread (profile.rules options c.table) c taken (rows_told holds profile options c taken)

  -- words ask for a run with these options, and are not refused
  pub record AreAccepted (words : List (List ℕ)) (options : Options) : Type 0 where
    pub no_info : info_of words ≡ None
    pub read : options_of words ≡ Ok options
    pub accepted : profile.refused options ≡ None

  -- and the files are these sources, and pass no limit
  pub record AreReadAs (words : List (List ℕ)) (files : List File) (options : Options) (sources : List (List ℕ × Source)) : Type 0 where
    pub asked : AreAccepted words options
    pub within : tree_limit (files_for holds profile options.generated files) ≡ None
    pub are : AreSources holds profile (files_for holds profile options.generated files) sources

  -- words ask for a text; words are refused, by how they are read or by the language; files pass a limit; collection refuses them, or a
  -- conftest raised; or it is the report of what collection selects of the files
  pub data Headline (taken words : List (List ℕ)) (files : List File) (answer : PrintedAnswer) : Type 0 where
    Informs : (info : Info) → info_of words ≡ Some info → answer ≡ info_answer info → Headline taken words files answer
    Misreads : (fault : UsageFault) → info_of words ≡ None → options_of words ≡ Err fault → answer ≡ refusal (usage_text fault) → Headline taken words files answer
    Declines : (options : Options) (text : List ℕ) → info_of words ≡ None → options_of words ≡ Ok options → profile.refused options ≡ Some text → answer ≡ refusal text → Headline taken words files answer
    Exceeds : (options : Options) (limit : TreeLimit) → AreAccepted words options → tree_limit (files_for holds profile options.generated files) ≡ Some limit → answer ≡ refusal (limit_text limit) → Headline taken words files answer
    Refuses : (options : Options) (sources : List (List ℕ × Source)) (text : List ℕ) → AreReadAs words files options sources → profile.collect options sources ≡ Refused text → answer ≡ refusal text → Headline taken words files answer
    Raises : (options : Options) (sources : List (List ℕ × Source)) (path : List ℕ) (told : Told) → AreReadAs words files options sources → profile.collect options sources ≡ ConftestFault path told → answer ≡ conftest_fault path told → Headline taken words files answer
    Reports : (options : Options) (sources : List (List ℕ × Source)) (c : Collected (report_language World Value Thrown Rest) Table) → AreReadAs words files options sources → profile.collect options sources ≡ Whole c → Tells options c taken answer → Headline taken words files answer
