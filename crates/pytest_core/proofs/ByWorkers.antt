-- What is written of workers is the report.
use Rattle.std.proofs.Common.{◌≡◌, inr, ℕ, zero, suc, ◌≤◌, ◌<◌, ◌+◌, ◌*◌, List, [], ◌∷◌, ◌++◌, length, map, min, Bool, true, false, not, cond, eqb, ◌&&◌, ◌||◌, MatchBool, Result, Err, refl, sym, ap, ap₂, subst, ◌∙◌, append_assoc, arith}
use Rattle.std.proofs.lemmas.Bool.{ne_eqb}
use Rattle.std.proofs.lemmas.Grind.{common_steps}
use Rattle.std.proofs.lemmas.List.{length-map}
use Rattle.std.specs.List.{filter, filter_map}
use Rattle.std.specs.Prelude.{nat_lt}
use Rattle.cli_words.specs.Options.{asks_for_workers, is_no}
use Rattle.cli_words.specs.declared.options.Options.{Options}
use Rattle.worker_sessions.specs.collect_tree.Collection.{selected_by}
use Rattle.worker_sessions.specs.collect_tree.Told.{collected_told}
use Rattle.worker_sessions.specs.collect_tree.declared.collected.Collected.{Collected as Gathered}
use Rattle.worker_sessions.specs.collect_tree.file_source.Sources.{HoldsSource}
use Rattle.edge_io.specs.Told.{Appends, AppendsPrefix}
use Rattle.report_parts.specs.Limits.{most_items}
use Rattle.report_parts.specs.Outcomes.{not_empty}
use Rattle.report_parts.specs.declared.report.CollectReport.{CollectReport}
use Rattle.report_parts.specs.declared.report.ItemReport.{ItemReport}
use Rattle.report_text.specs.Head.{head_of}
use Rattle.report_text.specs.Progress.{progress_of}
use Rattle.report_text.specs.Summary.{summary_of}
use Rattle.report_text.specs.report_blocks.Blocks.{sections_of}
use Rattle.worker_sessions.proofs.report_rules_lemmas.Exists.{a_share}
use Rattle.worker_sessions.specs.run_items.Texts.{fixture_texts}
use Rattle.worker_sessions.specs.run_items.report_rules.Answer as printed
use Rattle.worker_sessions.specs.run_items.report_rules.Collected.{Collected, SelectedItem}
use Rattle.worker_sessions.specs.run_items.report_rules.Groups.{groups}
use Rattle.worker_sessions.specs.run_items.report_rules.Report as rules
use Rattle.worker_sessions.specs.run_items.report_rules.Rows.{ReportRow, ran}
use Rattle.worker_sessions.specs.run_items.runtest_rules.Language.{python}
use Rattle.worker_sessions.specs.run_items.runtest_rules.Rules.{rules as tests}
use Rattle.worker_sessions.specs.run_items.source_meaning.Meaning.{SourceWorld}
use Rattle.worker_sessions.specs.run_items.test_suite.declared.suite.Suite.{Suite}
use Rattle.runtest_loop.specs.Fed.{unfed, unfed_from}
use Rattle.session_rules.specs.Session.{has_stopped}
use Rattle.share_files.specs.Deal.{Every, Share}
use Rattle.worker_groups.proofs.Numbers.{report_groups}
use Rattle.worker_groups.specs.Numbers.{file_place, file_places, is_other_place, number_groups, numbers_of_file}
use Rattle.worker_runs.specs.Runs.{IsRunOfWorkers, worker_rows}
use Rattle.worker_runs.specs.declared.gathering.WorkersRun.{WorkersRun}
use Rattle.worker_sessions.specs.Project.{Collects, ProjectParts, group_sizes}
use Rattle.pytest_core.specs.ByWorkers.{IsWhole, NoErrors, WorkersPut}
use Rattle.pytest_core.specs.Profile.{profile}
use Rattle.pytest_core.specs.Report.{IsReportOf}
use Rattle.pytest_core.specs.Run.{wants_workers}
use Rattle.pytest_core.specs.Status.{status_seen}
use Rattle.pytest_core.specs.Streamed.{Broke, WroteBy, rest_of}
use Rattle.pytest_core.specs.Written.{WrotePrefix}
use Rattle.pytest_core.specs.declared.refusal.RunFault.{RunFault}
use Rattle.pytest_core.specs.declared.refusal.RunFault.TheVariants as fault
use Rattle.pytest_core.specs.declared.status.Status.{Status}
use Rattle.pytest_core.proofs.NoWorkers.{passed_over, picked, some_length}
use Rattle.pytest_core.proofs.Streamed.{Told, prefix_as, prefix_more, put_behind, wrote_put}

-- groups are small where few items were given
small_from : (k : ℕ) (gs : List (List ℕ)) (most : ℕ) → unfed_from k gs [] ≤ most → most < 4294967296 → Every (λ group. length group < 4294967296) gs
small_from k [] most le few = tt
small_from k (group ∷ gs) most le few =
    let both : 1 + length group + unfed_from (k + 1) gs [] ≤ most = le in
    (omega (arith, both, few), small_from (k + 1) gs most (omega (arith, both)) few)

pub small_groups : (gs : List (List ℕ)) (count : ℕ) → unfed gs [] ≤ 2 * count → count ≤ most_items → Every (λ group. length group < 4294967296) gs
small_groups gs count le few = small_from 0 gs (2 * count) le (omega (arith, few))

-- WHAT WORKERS ARE ASKED FOR
left_true : (a b : Bool) → (a && b) ≡ true → a ≡ true
left_true false b e = e
left_true true b e = refl

right_true : (a b : Bool) → (a && b) ≡ true → b ≡ true
right_true false b e = absurd (cc)
right_true true b e = e

none_of : (b : Bool) → not b ≡ true → b ≡ false
none_of true e = absurd (cc)
none_of false e = refl

above_zero : (n : ℕ) → nat_lt 0 n ≡ true → 1 ≤ n
above_zero n e = grind (arith, common_steps)

nothing : {X : Type 0} (xs : List X) → not (not_empty xs) ≡ true → xs ≡ []
nothing [] e = refl
nothing (x ∷ xs) e = absurd (let z : true ≡ false = sym e ∙ ap (λ (b : Bool). not (not b)) (some_length (length xs)) in cc)

something : {X : Type 0} (xs : List X) → not_empty xs ≡ true → 1 ≤ length xs
something [] e = absurd (cc)
something (x ∷ xs) e = omega arith

pub wants_asks : (options : Options) (ns : List ℕ) (errors : List CollectReport) → wants_workers options ns errors ≡ true → asks_for_workers options ≡ true
wants_asks options ns errors e = left_true (asks_for_workers options) _ e

pub wants_whole : (options : Options) (ns : List ℕ) (errors : List CollectReport) → wants_workers options ns errors ≡ true → errors ≡ []
wants_whole options ns errors e = nothing errors (left_true (not (not_empty errors)) _ (right_true (asks_for_workers options) _ e))

pub wants_some : (options : Options) (ns : List ℕ) (errors : List CollectReport) → wants_workers options ns errors ≡ true → 1 ≤ length ns
wants_some options ns errors e = something ns (right_true (not (not_empty errors)) _ (right_true (asks_for_workers options) _ e))

-- the sizes of the groups
some_groups : (places ns : List ℕ) → 1 ≤ length ns → 1 ≤ length (number_groups places ns)
unfolding number_groups
some_groups places [] le = absurd (omega (arith, le))
some_groups places (n ∷ ns) le = omega arith

lengths : (f : ℕ → SelectedItem) (gs : List (List ℕ)) → map (λ group. length group) gs ≡ map (λ group. length group) (map (λ (l : List ℕ). map f l) gs)
lengths f [] = refl
lengths f (g ∷ gs) = ap₂ (λ (n : ℕ) (l : List ℕ). n ∷ l) (sym (length-map g f)) (lengths f gs)

pub sized_as : (x : Gathered) (w : SourceWorld) (sizes : List ℕ) → sizes ≡ map (λ group. length group) (number_groups x.places.items x.selected) → sizes ≡ group_sizes (collected_told x w)
sized_as x w sizes e =
    e ∙ (lengths (selected_by x.found x.places.items) (number_groups x.places.items x.selected)
    ∙ ap (λ (gs : List (List SelectedItem)). map (λ group. length group) gs) (report_groups x.places.items (selected_by x.found x.places.items) (λ n. refl) x.selected))

pub some_sizes : (sizes places ns : List ℕ) → sizes ≡ map (λ group. length group) (number_groups places ns) → 1 ≤ length ns → 1 ≤ length sizes
some_sizes sizes places ns e some = (let some_of = some_groups places ns some in let many : length sizes ≡ length (number_groups places ns) = ap length e ∙ length-map (number_groups places ns) (λ group. length group) in omega (arith, some_of, many))

-- of no more items than a session may have there are no more groups
shorter : (b : Bool) (p : ℕ) (ps qs : List ℕ) → length ps ≤ length qs → length (cond b (p ∷ ps) ps) ≤ length (p ∷ qs)
shorter true p ps qs le = omega (arith, le)
shorter false p ps qs le = omega (arith, le)

fewer_kept : (f : ℕ → Bool) (ps : List ℕ) → length (filter f ps) ≤ length ps
fewer_kept f [] = omega arith
fewer_kept f (p ∷ ps) = shorter (f p) p (filter f ps) ps (fewer_kept f ps)

few_files : (places ns : List ℕ) → length (file_places places ns) ≤ length ns
few_files places [] = omega arith
few_files places (n ∷ ns) = (let more = few_files places ns in let less = fewer_kept (is_other_place (file_place places n)) (file_places places ns) in omega (arith, more, less))

lengths_below : (places ns : List ℕ) → length (number_groups places ns) ≤ length ns
unfolding number_groups
lengths_below places ns = (let le = few_files places ns in let same = length-map (file_places places ns) (numbers_of_file places ns) in omega (arith, le, same))

pub few_sizes : (x : Gathered) (sizes : List ℕ) → sizes ≡ map (λ group. length group) (number_groups x.places.items x.selected) → length x.selected + x.deselected ≤ most_items → length sizes ≤ most_items
few_sizes x sizes e few =
    let many : length sizes ≡ length (number_groups x.places.items x.selected) = ap length e ∙ length-map (number_groups x.places.items x.selected) (λ group. length group) in
    let le = lengths_below x.places.items x.selected in
    omega (arith, many, le, few)

pub whole_of : (x : Gathered) (w : SourceWorld) (count : ℕ) → count ≡ length x.selected → x.errors.items ≡ [] → IsWhole (collected_told x w) count x.deselected
whole_of x w count e none = record { errors = none; counted = e ∙ sym (length-map x.selected (selected_by x.found x.places.items)); others = refl }

-- as many workers as are asked for, and no more than there are groups
pub enough_workers : (options : Options) (sizes : List ℕ) (number : ℕ) → asks_for_workers options ≡ true → 1 ≤ length sizes → number ≡ min options.workers (length sizes) → (1 ≤ number) × (number ≤ length sizes)
enough_workers options sizes number asks some by =
    let above = above_zero options.workers (left_true (nat_lt 0 options.workers) _ asks) in
    (omega (arith, above, some, by), omega (arith, by))

-- a run over the parts of a project
pub run_is : (p q : ProjectParts) → p ≡ q → (number : ℕ) (run : WorkersRun) → ((c : Collected python Suite) → Collects p.files p.options c → IsRunOfWorkers (tests p.options c.table) (fixture_texts c.table) p.options c number run)
    → (c : Collected python Suite) → Collects q.files q.options c → IsRunOfWorkers (tests q.options c.table) (fixture_texts c.table) q.options c number run
run_is p q same number run h =
    subst (λ (x : ProjectParts). (c : Collected python Suite) → Collects x.files x.options c → IsRunOfWorkers (tests x.options c.table) (fixture_texts c.table) x.options c number run) same h

module _ (options : Options) (c : Collected python Suite) (asks : asks_for_workers options ≡ true) (count deselected : ℕ) (is : IsWhole c count deselected) (sizes : List ℕ) (sized : sizes ≡ group_sizes c) (some : 1 ≤ length sizes) (number : ℕ) (by : number ≡ min options.workers (length sizes)) where
  listing : options.collect_only ≡ false
  listing = none_of options.collect_only (right_true (not (is_no options.dist)) _ (right_true (nat_lt 0 options.workers) _ asks))

  above : 1 ≤ options.workers
  above = above_zero options.workers (left_true (nat_lt 0 options.workers) _ asks)

  no_errors : not_empty c.errors ≡ false
  no_errors = ap (λ (es : List CollectReport). not_empty es) is.errors

  runs : rules.runs options c ≡ true
  runs = ap₂ (λ (a b : Bool). not (a || b)) listing no_errors

  many : length sizes ≡ length (groups c.selected)
  many = ap length sized ∙ length-map (groups c.selected) (λ group. length group)

  workers_are : rules.workers_of options c ≡ number
  workers_are =
      picked (asks_for_workers options && rules.runs options c) (min options.workers (length (groups c.selected))) 0 (ap₂ (λ (a b : Bool). a && b) asks runs)
      ∙ (ap (λ (n : ℕ). min options.workers n) (sym many) ∙ sym by)

  is_number : 1 ≤ number
  is_number = omega (arith, above, some, by)

  apart : eqb (rules.workers_of options c) 0 ≡ false
  apart = ap (λ (n : ℕ). eqb n 0) workers_are ∙ ne_eqb number 0 (λ e. (let one = is_number in omega (arith, one, e)))

  stopped : rules.reached_maxfail (tests options c.table) options c ≡ false
  stopped = ap₂ (λ (a b : Bool). (a && b) && has_stopped options.maxfail (ran (tests options c.table) c.world options.maxfail (rules.single_thread c))) runs apart

  is_taken : (taken : List (List ℕ)) → Share (length (groups c.selected)) number taken → rules.IsTaken options c taken
  is_taken taken s =
      subst (λ (b : Bool). MatchBool b (taken ≡ []) (Share (length (groups c.selected)) (rules.workers_of options c) taken)) (sym apart)
      (subst (λ (n : ℕ). Share (length (groups c.selected)) n taken) (sym workers_are) s)

  as_shared : (taken : List (List ℕ)) (n : ℕ) → n ≡ number → Share (length (groups c.selected)) n taken → (t : List (List ℕ)) × rules.IsTaken options c t
  as_shared taken n e s = (taken, is_taken taken (subst (λ (m : ℕ). Share (length (groups c.selected)) m taken) e s))

  shared : (n : ℕ) → n ≡ number → (taken : List (List ℕ)) × rules.IsTaken options c taken
  shared zero e = absurd (let one = is_number in omega (arith, one, e))
  shared (suc n) e =
      let fits : suc n ≤ length (groups c.selected) = omega (arith, e, by, many) in
      let s = a_share (length (groups c.selected)) n fits in
      as_shared _ (suc n) e s

  some_taken : (taken : List (List ℕ)) × rules.IsTaken options c taken
  some_taken = shared number refl

  -- the parts of the report
  abbrev head : List ℕ
  head = head_of count deselected (length NoErrors) number

  abbrev behind : List ℕ → List ItemReport → List ℕ
  behind progress reports = rest_of options count deselected NoErrors progress reports false

  parts : (taken : List (List ℕ)) → (rules.report HoldsSource profile options c taken).0
      ≡ head ++ behind (progress_of options (rules.reports_told HoldsSource profile options c taken) (rules.places_told HoldsSource profile options c taken)) (rules.reports_told HoldsSource profile options c taken)
  parts taken =
      let told = rules.reports_told HoldsSource profile options c taken in
      let places = rules.places_told HoldsSource profile options c taken in
      let errors = is.errors in let counted = is.counted in let others = is.others in let crew = workers_are in let early = stopped in
      let same : (rules.report HoldsSource profile options c taken).0 ≡ printed.report_bytes options count deselected NoErrors number told places false
      = ap (λ (n : ℕ). printed.report_bytes options n c.deselected c.errors (rules.workers_of options c) told places (rules.reached_maxfail (tests options c.table) options c)) (sym counted)
      ∙ (ap (λ (n : ℕ). printed.report_bytes options count n c.errors (rules.workers_of options c) told places (rules.reached_maxfail (tests options c.table) options c)) (sym others)
      ∙ (ap (λ (es : List CollectReport). printed.report_bytes options count deselected es (rules.workers_of options c) told places (rules.reached_maxfail (tests options c.table) options c)) errors
      ∙ (ap (λ (n : ℕ). printed.report_bytes options count deselected NoErrors n told places (rules.reached_maxfail (tests options c.table) options c)) crew
      ∙ ap (λ (b : Bool). printed.report_bytes options count deselected NoErrors number told places b) early))) in
      let sections = sections_of options.tb NoErrors told in
      let summary = summary_of options NoErrors told count deselected false in
      let progress = progress_of options told places in
      same ∙ (ap (λ (l : List ℕ). l ++ summary) (append_assoc head progress sections) ∙ append_assoc head (progress ++ sections) summary)

  ended_as : (taken : List (List ℕ)) → (rules.report HoldsSource profile options c taken).1 ≡ printed.status_of count NoErrors (rules.reports_told HoldsSource profile options c taken)
  ended_as taken = ap₂ (λ (n : ℕ) (es : List CollectReport). printed.status_of n es (rules.reports_told HoldsSource profile options c taken)) (sym is.counted) is.errors

  -- WHAT WAS WRITTEN
  pub wrote_workers : (run : WorkersRun) → IsRunOfWorkers (tests options c.table) (fixture_texts c.table) options c number run → (old mid new : Told) (r : Result Status RunFault)
      → Appends old mid head → WorkersPut options count deselected run mid new r → WroteBy (IsReportOf options c) old new r
  wrote_workers run ran old mid new r h k =
      let taken = ran.taken in
      let rows : rules.rows_told HoldsSource profile options c taken ≡ worker_rows (tests options c.table) c taken =
      passed_over options.collect_only _ _ listing ∙ (passed_over (not_empty c.errors) _ _ no_errors ∙ passed_over (eqb (rules.workers_of options c) 0) _ _ apart) in
      let reports : run.reports.items ≡ rules.reports_told HoldsSource profile options c taken = ran.reports ∙ ap (map (rules.report_of HoldsSource profile options c.table)) (sym rows) in
      let places : run.places.items ≡ rules.places_told HoldsSource profile options c taken = ran.places ∙ ap (filter_map (λ (row : ReportRow python). row.task.place)) (sym rows) in
      let rest = behind (progress_of options run.reports.items run.places.items) run.reports.items in
      let whole : head ++ rest ≡ (rules.report HoldsSource profile options c taken).0 =
      ap₂ (λ (rs : List ItemReport) ps. head ++ behind (progress_of options rs ps) rs) reports places ∙ sym (parts taken) in
      let status : status_seen (printed.status_of count NoErrors run.reports.items) ≡ status_seen (rules.report HoldsSource profile options c taken).1 =
      ap (λ (rs : List ItemReport). status_seen (printed.status_of count NoErrors rs)) reports ∙ ap status_seen (sym (ended_as taken)) in
      wrote_put (IsReportOf options c) (rules.report HoldsSource profile options c taken) (taken, is_taken taken ran.share, refl) (head ++ rest) (status_seen (printed.status_of count NoErrors run.reports.items)) whole status old new r
      (put_behind head rest (status_seen (printed.status_of count NoErrors run.reports.items)) old mid new r h k)

  wrote_front : (old new : Told) → AppendsPrefix old new head → WrotePrefix (IsReportOf options c) old new
  wrote_front old new h =
      let t = some_taken in
      inr (rules.report HoldsSource profile options c t.0, (t.0, t.1, refl), prefix_as old new _ _ (sym (parts t.0)) (prefix_more old new head _ h))

  pub wrote_begun : (old new : Told) (f : RunFault) → Broke (AppendsPrefix old new head) f → WroteBy (IsReportOf options c) old new (Err f)
  wrote_begun old new fault.Tree h = absurd h
  wrote_begun old new fault.Sink h = wrote_front old new h
  wrote_begun old new fault.OutOfMemory h = wrote_front old new h
