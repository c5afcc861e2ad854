-- What is written while items run, from what is written of each.
use Rattle.std.proofs.Common.{◌≡◌, ◌⊎◌, inl, inr, ℕ, ◌≤◌, ◌+◌, List, [], ◌∷◌, ◌++◌, All, ◌<◌, length, Bool, true, false, cond, map, None, Option, Some, Result, Ok, Err, refl, sym, ap, ap₂, subst, ◌∙◌, ◌||◌, append_assoc, arith}
use Rattle.std.specs.Prelude.{IfErr, is_some, ⊤}
use Rattle.std.proofs.lemmas.List.{append-nil, length-map}
use Rattle.cli_words.specs.declared.options.Options.{Options}
use Rattle.worker_sessions.specs.collect_tree.Collection.{selected_by}
use Rattle.worker_sessions.specs.collect_tree.Told.{collected_told}
use Rattle.worker_sessions.specs.collect_tree.collect_items.declared.found.FoundSuite.{FoundSuite}
use Rattle.worker_sessions.specs.collect_tree.declared.collected.Collected.{Collected as Gathered}
use Rattle.worker_sessions.specs.collect_tree.file_source.Sources.{HoldsSource}
use Rattle.edge_io.proofs.ToldLemmas.{Appends-none, Appends-trans}
use Rattle.edge_io.specs.Causes.{HasCause, Rose}
use Rattle.edge_io.specs.Told.{Appends, AppendsPrefix}
use Rattle.report_parts.specs.Outcomes.{not_empty}
use Rattle.report_parts.specs.declared.report.CollectReport.{CollectReport}
use Rattle.report_parts.specs.declared.report.ItemReport.{ItemReport}
use Rattle.report_pieces.proofs.Pieces.{is_pieces, one_piece_more, pieces_append}
use Rattle.report_pieces.specs.Pieces.{piece_of, pieces_end, pieces_of}
use Rattle.report_text.specs.Head.{head_of}
use Rattle.report_text.specs.Progress.{plain_lines, progress_lines, progress_of, with_gap}
use Rattle.report_text.specs.Summary.{summary_of}
use Rattle.report_text.specs.report_blocks.Blocks.{sections_of}
use Rattle.worker_sessions.specs.run_items.Runs.{BeginsPlan}
use Rattle.worker_sessions.specs.run_items.declared.plan.Plan.{Plan}
use Rattle.worker_sessions.specs.run_items.report_rules.Answer.{PrintedAnswer}
use Rattle.worker_sessions.specs.run_items.report_rules.Answer as printed
use Rattle.worker_sessions.specs.run_items.report_rules.Collected.{Collected, SelectedItem}
use Rattle.worker_sessions.specs.run_items.report_rules.Report as rules
use Rattle.worker_sessions.specs.run_items.runtest_rules.Language.{python}
use Rattle.worker_sessions.specs.run_items.source_meaning.Meaning.{SourceWorld}
use Rattle.worker_sessions.specs.run_items.test_suite.declared.suite.Suite.{Suite}
use Rattle.runtest_loop.specs.Received.{AreFirst}
use Rattle.runtest_loop.specs.Run.{Begins}
use Rattle.runtest_loop.specs.RunFaults.{IsBlamed}
use Rattle.runtest_loop.specs.declared.run_end.RunFault.{RunFault as LoopFault}
use Rattle.runtest_loop.specs.declared.run_end.RunFault.TheVariants as loop
use Rattle.pytest_core.specs.Profile.{profile}
use Rattle.pytest_core.specs.Report.{IsReportOf}
use Rattle.worker_sessions.specs.Sessions.{plan_by}
use Rattle.pytest_core.specs.Run.{AreApart, IsRunAnswer, chosen_first, collected_of, wants_workers}
use Rattle.pytest_core.specs.Status.{status_seen}
use Rattle.pytest_core.specs.Streamed.{BreaksFirst, BreaksIn, Broke, ListedTo, PutBy, PutRun, Puts, RanTo, Stems, StreamedAll, StreamsFirst, WroteBy, body_of, fault_seen, rest_of, times_failed}
use Rattle.pytest_core.specs.Written.{IsResponseBy, WroteAll, WrotePrefix, response_of}
use Rattle.pytest_core.specs.declared.refusal.RunFault.{RunFault}
use Rattle.pytest_core.specs.declared.refusal.RunFault.TheVariants as fault
use Rattle.pytest_core.specs.declared.session.RanItems.{RanItems}
use Rattle.pytest_core.specs.declared.session.RunAnswer.{RunAnswer}
use Rattle.pytest_core.specs.declared.status.Status.{Status}
use Rattle.pytest_core.specs.declared.writer.ReportWriter.{ReportWriter}
use Rattle.pytest_core.proofs.Chosen.{answers, reports_first}
use Rattle.pytest_core.proofs.NoWorkers.{none_taken, wants_as}

-- WHAT IS APPENDED
abbrev pub Told : Type 0
Told = Option (List ℕ)

pub none_appended : (old : Told) → Appends old old []
none_appended old = Appends-none old old refl

pub prefix_of_all : (old new : Told) (text : List ℕ) → Appends old new text → AppendsPrefix old new text
prefix_of_all old new text h = record { front = text; rest = []; whole = sym (append-nil text); told = h }

pub prefix_none : (old : Told) (text : List ℕ) → AppendsPrefix old old text
prefix_none old text = record { front = []; rest = text; whole = refl; told = none_appended old }

pub prefix_more : (old new : Told) (a b : List ℕ) → AppendsPrefix old new a → AppendsPrefix old new (a ++ b)
prefix_more old new a b h = record { front = h.front; rest = h.rest ++ b; whole = ap (λ (l : List ℕ). l ++ b) h.whole ∙ append_assoc h.front h.rest b; told = h.told }

pub prefix_behind : (old mid new : Told) (a b : List ℕ) → Appends old mid a → AppendsPrefix mid new b → AppendsPrefix old new (a ++ b)
prefix_behind old mid new a b h k =
    record { front = a ++ k.front; rest = k.rest; whole = ap (λ (l : List ℕ). a ++ l) k.whole ∙ sym (append_assoc a k.front k.rest); told = Appends-trans old mid new a k.front h k.told }

pub prefix_as : (old new : Told) (a b : List ℕ) → a ≡ b → AppendsPrefix old new a → AppendsPrefix old new b
prefix_as old new a b e h = subst (λ (t : List ℕ). AppendsPrefix old new t) e h

puts_prefix : (whole : Bool) (old new : Told) (text : List ℕ) → Puts whole old new text → AppendsPrefix old new text
puts_prefix true old new text h = prefix_of_all old new text h
puts_prefix false old new text h = h

-- FAULTS
pub broke_as : (K L : Type 0) (f : RunFault) → (K → L) → Broke K f → Broke L f
broke_as K L fault.Tree g h = h
broke_as K L fault.Sink g h = g h
broke_as K L fault.OutOfMemory g h = g h

pub broke_by : (K : Type 0) (f : LoopFault) → K → Broke K (fault_seen f)
broke_by K loop.Receiver k = k
broke_by K loop.OutOfMemory k = k

pub no_tree : (text : List ℕ) (status : Status) (old new : Told) (r : Result Status RunFault) → PutBy text status old new r → IfErr r (Broke ⊤)
no_tree text status old new (Ok s) h = tt
no_tree text status old new (Err f) h = broke_as (AppendsPrefix old new text) ⊤ f (λ k. tt) h

-- whether the sink failed, by the count
pub has_failed : (b : Bool) → 0 < times_failed b → b ≡ true
has_failed true l = refl
has_failed false l = absurd (omega (arith, l))

-- THE WRITER
pub rose_later : (a b c : ℕ) → a ≤ b → Rose b c → Rose a c
rose_later a b c le h = omega (arith, le, h)

module _ {S : Type 0} (bytes : S → Told) (faults : S → ℕ) where
  pub stems_new : (w : ReportWriter S) → w.reports.items ≡ [] → w.failed ≡ false → Stems bytes faults w true w
  stems_new w none fine =
      record {
        same_reference = refl;
        options = refl;
        told = subst (λ (rs : List ItemReport). Appends (bytes w.out.now) (bytes w.out.now) (pieces_of w.options.now [] rs)) (sym none) (none_appended (bytes w.out.now));
        later = omega arith;
        rose = λ failed. absurd (let z : true ≡ false = sym failed ∙ fine in cc);
      }

  pub stems_broken : (first w : ReportWriter S) → Stems bytes faults first true w → Stems bytes faults first false w
  stems_broken first w h =
      record { same_reference = h.same_reference; options = h.options; told = prefix_of_all (bytes first.out.now) (bytes w.out.now) (pieces_of first.options.now [] w.reports.items) h.told; later = h.later; rose = h.rose }

  -- it has taken nothing and put nothing
  pub stems_kept : (old now : ReportWriter S) → now.out.ghost_name ≡ old.out.ghost_name → now.options.now ≡ old.options.now → now.reports.items ≡ old.reports.items → now.out.now ≡ old.out.now → now.failed ≡ old.failed
      → (first : ReportWriter S) → Stems bytes faults first true old → Stems bytes faults first false now
  stems_kept old now name options reports out failed first h =
      record {
        same_reference = name ∙ h.same_reference;
        options = options ∙ h.options;
        told = prefix_of_all (bytes first.out.now) (bytes now.out.now) (pieces_of first.options.now [] now.reports.items)
            (subst (λ (s : S). Appends (bytes first.out.now) (bytes s) (pieces_of first.options.now [] now.reports.items)) (sym out)
            (subst (λ (rs : List ItemReport). Appends (bytes first.out.now) (bytes old.out.now) (pieces_of first.options.now [] rs)) (sym reports) h.told));
        later = subst (λ (s : S). faults first.out.now ≤ faults s) (sym out) h.later;
        rose = λ yes. subst (λ (s : S). Rose (faults first.out.now) (faults s)) (sym out) (h.rose (sym failed ∙ yes));
      }

  -- the text of one more
  one_more : (first old : ReportWriter S) (now : List ItemReport) (report : ItemReport) (piece : List ℕ) → old.options.now ≡ first.options.now → now ≡ old.reports.items ++ report ∷ [] → piece ≡ piece_of old.options.now old.reports.items report
      → pieces_of first.options.now [] old.reports.items ++ piece ≡ pieces_of first.options.now [] now
  one_more first old now report piece same e p =
      ap (λ (l : List ℕ). pieces_of first.options.now [] old.reports.items ++ l) (p ∙ ap (λ (o : Options). piece_of o old.reports.items report) same)
      ∙ (sym (one_piece_more first.options.now old.reports.items report) ∙ ap (λ (rs : List ItemReport). pieces_of first.options.now [] rs) (sym e))

  pub stems_more : (old now : ReportWriter S) (report : ItemReport) (piece : List ℕ) → now.out.ghost_name ≡ old.out.ghost_name → now.options.now ≡ old.options.now → now.reports.items ≡ old.reports.items ++ report ∷ []
      → piece ≡ piece_of old.options.now old.reports.items report → Appends (bytes old.out.now) (bytes now.out.now) piece → faults old.out.now ≤ faults now.out.now → now.failed ≡ old.failed
      → (first : ReportWriter S) → Stems bytes faults first true old → Stems bytes faults first true now
  stems_more old now report piece name options reports is put later failed first h =
      record {
        same_reference = name ∙ h.same_reference;
        options = options ∙ h.options;
        told = subst (λ (t : List ℕ). Appends (bytes first.out.now) (bytes now.out.now) t) (one_more first old now.reports.items report piece h.options reports is)
            (Appends-trans (bytes first.out.now) (bytes old.out.now) (bytes now.out.now) (pieces_of first.options.now [] old.reports.items) piece h.told put);
        later = (let was = h.later in omega (arith, was, later));
        rose = λ yes. rose_up (faults first.out.now) (faults old.out.now) (faults now.out.now) (h.rose (sym failed ∙ yes)) later;
      }
    where
      rose_up : (a b c : ℕ) → Rose a b → b ≤ c → Rose a c
      rose_up a b c r le = omega (arith, r, le)

  pub stems_broke : (old now : ReportWriter S) (report : ItemReport) (piece : List ℕ) → now.out.ghost_name ≡ old.out.ghost_name → now.options.now ≡ old.options.now → now.reports.items ≡ old.reports.items ++ report ∷ []
      → piece ≡ piece_of old.options.now old.reports.items report → AppendsPrefix (bytes old.out.now) (bytes now.out.now) piece → faults old.out.now ≤ faults now.out.now → (now.failed ≡ true → Rose (faults old.out.now) (faults now.out.now))
      → (first : ReportWriter S) → Stems bytes faults first true old → Stems bytes faults first false now
  stems_broke old now report piece name options reports is put later failed first h =
      record {
        same_reference = name ∙ h.same_reference;
        options = options ∙ h.options;
        told = subst (λ (t : List ℕ). AppendsPrefix (bytes first.out.now) (bytes now.out.now) t) (one_more first old now.reports.items report piece h.options reports is)
            (prefix_behind (bytes first.out.now) (bytes old.out.now) (bytes now.out.now) (pieces_of first.options.now [] old.reports.items) piece h.told put);
        later = (let was = h.later in omega (arith, was, later));
        rose = λ yes. rose_later (faults first.out.now) (faults old.out.now) (faults now.out.now) h.later (failed yes);
      }

  -- behind the run: the sink has what the writer has, where it writes to the same
  put_into : (p q : ReportWriter S) (x : S) (whole : Bool) → Stems bytes faults p whole q → (p.out.ghost_name ≡ q.out.ghost_name → x ≡ q.out.now) → x ≡ q.out.now
  put_into p q x whole h e = e (sym h.same_reference)

  pub wrote_all : (p q : ReportWriter S) (x : S) → Stems bytes faults p true q → (p.out.ghost_name ≡ q.out.ghost_name → x ≡ q.out.now) → Appends (bytes p.out.now) (bytes x) (pieces_of p.options.now [] q.reports.items)
  wrote_all p q x h e = subst (λ (s : S). Appends (bytes p.out.now) (bytes s) (pieces_of p.options.now [] q.reports.items)) (sym (put_into p q x true h e)) h.told

  pub wrote_front : (p q : ReportWriter S) (x : S) (whole : Bool) → Stems bytes faults p whole q → (p.out.ghost_name ≡ q.out.ghost_name → x ≡ q.out.now) → AppendsPrefix (bytes p.out.now) (bytes x) (pieces_of p.options.now [] q.reports.items)
  wrote_front p q x whole h e =
      subst (λ (s : S). AppendsPrefix (bytes p.out.now) (bytes s) (pieces_of p.options.now [] q.reports.items)) (sym (put_into p q x whole h e))
      (puts_prefix whole (bytes p.out.now) (bytes q.out.now) (pieces_of p.options.now [] q.reports.items) h.told)

  pub ok_cause : {T : Type 0} (p q : ReportWriter S) (x : S) (whole : Bool) (y : T) → Stems bytes faults p whole q → (p.out.ghost_name ≡ q.out.ghost_name → x ≡ q.out.now) → HasCause {T = T} fault.Sink (faults p.out.now) (faults x) (Ok y)
  ok_cause p q x whole y h e = record { later = subst (λ (s : S). faults p.out.now ≤ faults s) (sym (put_into p q x whole h e)) h.later; failed = λ r. absurd (cc) }

  pub err_cause : {T : Type 0} (p q : ReportWriter S) (x : S) (whole : Bool) → Stems bytes faults p whole q → (p.out.ghost_name ≡ q.out.ghost_name → x ≡ q.out.now)
      → (blame : LoopFault) (f : RunFault) → f ≡ fault_seen blame → IsBlamed (times_failed p.failed) (times_failed q.failed) blame → p.failed ≡ false → HasCause {T = T} fault.Sink (faults p.out.now) (faults x) (Err f)
  err_cause p q x whole h same blame f e blamed fine =
      record {
        later = subst (λ (s : S). faults p.out.now ≤ faults s) (sym (put_into p q x whole h same)) h.later;
        failed = λ r. subst (λ (s : S). Rose (faults p.out.now) (faults s)) (sym (put_into p q x whole h same)) (h.rose (by_sink blame f e (err_same f (Err f) refl r) blamed));
      }
    where
      err_same : {T : Type 0} (g : RunFault) (r : Result T RunFault) → r ≡ Err g → r ≡ Err fault.Sink → g ≡ fault.Sink
      err_same g r a b = cc

      by_sink : (l : LoopFault) (g : RunFault) → g ≡ fault_seen l → g ≡ fault.Sink → IsBlamed (times_failed p.failed) (times_failed q.failed) l → q.failed ≡ true
      by_sink loop.Receiver g e r b = has_failed q.failed (let none : times_failed p.failed ≡ 0 = ap times_failed fine in omega (arith, none, b))
      by_sink loop.OutOfMemory g e r b = absurd (let z : fault.OutOfMemory ≡ fault.Sink = sym e ∙ r in cc)

  pub broke_first : (plan : Plan) (options : Options) (groups : List (List ℕ)) (w : SourceWorld) (p q : ReportWriter S) (x : S) (whole : Bool) → Stems bytes faults p whole q → (p.out.ghost_name ≡ q.out.ghost_name → x ≡ q.out.now)
      → (blame : LoopFault) (f : RunFault) → f ≡ fault_seen blame → p.options.now ≡ options → BeginsPlan plan options (chosen_first plan groups) w [] q.reports.items → Broke (BreaksFirst plan options groups w (bytes p.out.now) (bytes x)) f
  broke_first plan options groups w p q x whole h same blame f e o begun =
      subst (λ (y : RunFault). Broke (BreaksFirst plan options groups w (bytes p.out.now) (bytes x)) y) (sym e)
      (broke_by (BreaksFirst plan options groups w (bytes p.out.now) (bytes x)) blame (record {
        taken = q.reports.items;
        begun = begun;
        told = subst (λ (z : Options). AppendsPrefix (bytes p.out.now) (bytes x) (pieces_of z [] q.reports.items)) o (wrote_front p q x whole h same);
      }))

-- WHERE A RUN BREAKS OFF
pub none_broke : (plan : Plan) (options : Options) (groups : List (List ℕ)) (w : SourceWorld) (old : Told) → BreaksFirst plan options groups w old old
unfolding Begins
none_broke plan options groups w old = record { taken = []; begun = λ d. (_, refl); told = prefix_none old [] }

pub none_broke_in : (options : Options) (found : FoundSuite) (ns : List ℕ) (errors : List CollectReport) (w : SourceWorld) (old : Told) → BreaksIn options found ns errors w old old
none_broke_in options found ns errors w old = λ places deselected. prefix_none old (progress_of options (rules.reports_told HoldsSource profile options (collected_of found places ns deselected errors w) []) [])

front_of_progress : (options : Options) (all taken : List ItemReport) (old new : Told) → options.collect_only ≡ false → AreFirst all taken → AppendsPrefix old new (pieces_of options [] taken) → AppendsPrefix old new (progress_of options all [])
front_of_progress options all taken old new runs first h =
    prefix_as old new ((pieces_of options [] taken ++ pieces_of options taken first.0) ++ pieces_end options (pieces_of options [] all)) (progress_of options all [])
    (ap (λ (p : List ℕ). p ++ pieces_end options (pieces_of options [] all)) (sym (ap (λ (rs : List ItemReport). pieces_of options [] rs) first.1 ∙ pieces_append options [] taken first.0)) ∙ sym (is_pieces options all runs))
    (prefix_more old new (pieces_of options [] taken ++ pieces_of options taken first.0) (pieces_end options (pieces_of options [] all)) (prefix_more old new (pieces_of options [] taken) (pieces_of options taken first.0) h))

pub breaks_in : (options : Options) (found : FoundSuite) (ns : List ℕ) (w : SourceWorld) → All (λ n. n < length found.suite.items) ns → (groups : List (List ℕ)) → groups ≡ ns ∷ [] → wants_workers options ns [] ≡ false → options.collect_only ≡ false → AreApart found ns
    → (old new : Told) → BreaksFirst (plan_by options found) options groups w old new → (errors : List CollectReport) → not_empty errors ≡ false → BreaksIn options found ns errors w old new
unfolding Begins
breaks_in options found ns w within groups e built runs apart old new h errors whole =
    λ places deselected.
    let all = rules.reports_told HoldsSource profile options (collected_of found places ns deselected errors w) [] in
    let first : AreFirst all h.taken = reports_first options found ns w within groups e runs apart h.taken h.begun errors (wants_as options ns [] errors refl whole built) whole places deselected in
    front_of_progress options all h.taken old new runs first h.told

pub streamed_all : (options : Options) (found : FoundSuite) (ns : List ℕ) (w : SourceWorld) → All (λ n. n < length found.suite.items) ns → (groups : List (List ℕ)) → groups ≡ ns ∷ [] → wants_workers options ns [] ≡ false → options.collect_only ≡ false → AreApart found ns
    → (old new : Told) (ran : RanItems) → StreamsFirst (plan_by options found) options groups w old new ran → (errors : List CollectReport) → not_empty errors ≡ false → StreamedAll options found ns errors w old new ran
streamed_all options found ns w within groups e built runs apart old new ran h errors whole =
    record { is = answers options found ns w within groups e ran.reports.items ran.stopped errors (wants_as options ns [] errors refl whole built) runs whole apart h.is; told = h.told }

pub breaks_behind : (options : Options) (found : FoundSuite) (ns : List ℕ) (errors : List CollectReport) (w : SourceWorld) (old new : Told) (ran : RanItems) → options.collect_only ≡ false
    → StreamedAll options found ns errors w old new ran → BreaksIn options found ns errors w old new
breaks_behind options found ns errors w old new ran runs h =
    λ places deselected.
    let all = rules.reports_told HoldsSource profile options (collected_of found places ns deselected errors w) [] in
    let same : ran.reports.items ≡ all = h.is.reports places deselected in
    front_of_progress options all ran.reports.items old new runs ([], sym same ∙ sym (append-nil ran.reports.items)) (prefix_of_all old new (pieces_of options [] ran.reports.items) h.told)

-- THE ANSWER
pub ran_to : (options : Options) (found : FoundSuite) (ns : List ℕ) (errors : List CollectReport) (w : SourceWorld) (old new : Told) (ran : RanItems) (answer : RunAnswer) → options.collect_only ≡ false
    → answer.reports.items ≡ ran.reports.items → answer.stopped ≡ ran.stopped → answer.left.items ≡ pieces_end options (pieces_of options [] ran.reports.items) → StreamedAll options found ns errors w old new ran → RanTo options found ns errors w old new answer
ran_to options found ns errors w old new ran answer runs rs st left h =
    record {
      is = subst (λ (l : List ItemReport). IsRunAnswer options found ns errors w l answer.stopped) (sym rs) (subst (λ (b : Bool). IsRunAnswer options found ns errors w ran.reports.items b) (sym st) h.is);
      front = pieces_of options [] ran.reports.items;
      told = h.told;
      whole = ap (λ (l : List ItemReport). progress_of options l []) rs ∙ (is_pieces options ran.reports.items runs ∙ ap (λ (l : List ℕ). pieces_of options [] ran.reports.items ++ l) (sym left));
    }

pub listed_to : (options : Options) (found : FoundSuite) (ns : List ℕ) (errors : List CollectReport) (w : SourceWorld) (old : Told) (answer : RunAnswer) → ListedTo options found ns errors w answer → RanTo options found ns errors w old old answer
listed_to options found ns errors w old answer h = record { is = h.is; front = []; told = none_appended old; whole = h.whole }

no_lines : (generated listing shown verbose : Bool) → with_gap (cond generated [] (cond listing [] (cond shown [] (cond verbose [] (plain_lines []))))) ≡ []
unfolding plain_lines
no_lines true listing shown verbose = refl
no_lines false true shown verbose = refl
no_lines false false true verbose = refl
no_lines false false false true = refl
no_lines false false false false = refl

progress_of_none : (options : Options) → progress_of options [] [] ≡ []
unfolding progress_of progress_lines
progress_of_none options = no_lines (is_some options.generated) options.collect_only options.setup_show options.verbose

pub no_progress : (options : Options) (reports : List ItemReport) (left : List ℕ) → reports ≡ [] → left ≡ [] → progress_of options reports [] ≡ left
no_progress options reports left none empty = ap (λ (rs : List ItemReport). progress_of options rs []) none ∙ (progress_of_none options ∙ sym empty)

-- of two, neither
pub left_of : (a b : Bool) → (a || b) ≡ false → a ≡ false
left_of true b e = absurd (cc)
left_of false b e = refl

pub right_of : (a b : Bool) → (a || b) ≡ false → b ≡ false
right_of true b e = absurd (cc)
right_of false b e = e

-- WHAT IS PUT BEHIND
pub put_behind : (front rest : List ℕ) (status : Status) (old mid new : Told) (r : Result Status RunFault) → Appends old mid front → PutBy rest status mid new r → PutBy (front ++ rest) status old new r
put_behind front rest status old mid new (Ok s) h k = (k.0, Appends-trans old mid new front rest h k.1)
put_behind front rest status old mid new (Err f) h k = broke_as (AppendsPrefix mid new rest) (AppendsPrefix old new (front ++ rest)) f (prefix_behind old mid new front rest h) k

put_as : (a b : List ℕ) (s t : Status) (old new : Told) (r : Result Status RunFault) → a ≡ b → s ≡ t → PutBy a s old new r → PutBy b t old new r
put_as a b s t old new r e f h = subst (λ (x : List ℕ). PutBy x t old new r) e (subst (λ (y : Status). PutBy a y old new r) f h)

module _ (options : Options) (found : FoundSuite) (ns : List ℕ) (deselected : ℕ) (errors : List CollectReport) (w : SourceWorld) where
  abbrev c_at : List ℕ → Collected python Suite
  c_at places = collected_of found places ns deselected errors w

  counted : (places : List ℕ) (count : ℕ) → count ≡ length ns → count ≡ length (c_at places).selected
  counted places count e = e ∙ sym (length-map ns (selected_by found places))

  pub put_run : (answer : RunAnswer) (count : ℕ) (old mid new : Told) (r : Result Status RunFault) → count ≡ length ns → RanTo options found ns errors w old mid answer
      → PutBy (rest_of options count deselected errors answer.left.items answer.reports.items answer.stopped) (status_seen (printed.status_of count errors answer.reports.items)) mid new r
      → PutRun options found ns deselected errors w old new r
  put_run answer count old mid new r e h k =
      λ places.
      let c = c_at places in
      let many = counted places count e in
      let told : answer.reports.items ≡ rules.reports_told HoldsSource profile options c [] = h.is.reports places deselected in
      let stops : answer.stopped ≡ rules.reached_maxfail (profile.rules options c.table) options c = h.is.stopped places deselected in
      let sections = sections_of options.tb errors answer.reports.items in
      let summary = summary_of options errors answer.reports.items count deselected answer.stopped in
      let joined : h.front ++ ((answer.left.items ++ sections) ++ summary) ≡ (progress_of options answer.reports.items [] ++ sections) ++ summary =
      sym (append_assoc h.front (answer.left.items ++ sections) summary)
      ∙ ap (λ (l : List ℕ). l ++ summary) (sym (append_assoc h.front answer.left.items sections) ∙ ap (λ (l : List ℕ). l ++ sections) (sym h.whole)) in
      let of_lists : List ItemReport → Bool → ℕ → List ℕ =
      λ rs b n. (progress_of options rs [] ++ sections_of options.tb errors rs) ++ summary_of options errors rs n deselected b in
      let body : (progress_of options answer.reports.items [] ++ sections) ++ summary ≡ body_of options c =
      ap (λ (rs : List ItemReport). of_lists rs answer.stopped count) told
      ∙ (ap (λ (b : Bool). of_lists (rules.reports_told HoldsSource profile options c []) b count) stops
      ∙ ap (λ (n : ℕ). of_lists (rules.reports_told HoldsSource profile options c []) (rules.reached_maxfail (profile.rules options c.table) options c) n) many) in
      let status : status_seen (printed.status_of count errors answer.reports.items) ≡ status_seen (rules.report HoldsSource profile options c []).1 =
      ap₂ (λ (n : ℕ) (rs : List ItemReport). status_seen (printed.status_of n errors rs)) many told in
      put_as (h.front ++ ((answer.left.items ++ sections) ++ summary)) (body_of options c) _ _ old new r (joined ∙ body) status
      (put_behind h.front ((answer.left.items ++ sections) ++ summary) (status_seen (printed.status_of count errors answer.reports.items)) old mid new r h.told k)

  pub put_broke : (old new : Told) (f : RunFault) → Broke (BreaksIn options found ns errors w old new) f → PutRun options found ns deselected errors w old new (Err f)
  put_broke old new f h =
      λ places.
      let c = c_at places in
      let told = rules.reports_told HoldsSource profile options c [] in
      broke_as (BreaksIn options found ns errors w old new) (AppendsPrefix old new (body_of options c)) f
      (λ b. prefix_more old new (progress_of options told [] ++ sections_of options.tb errors told) (summary_of options errors told (length c.selected) deselected (rules.reached_maxfail (profile.rules options c.table) options c))
      (prefix_more old new (progress_of options told []) (sections_of options.tb errors told) (b places deselected))) h

-- THE REPORT
pub wrote_put : (P : PrintedAnswer → Type 0) (answer : PrintedAnswer) → P answer → (text : List ℕ) (status : Status) → text ≡ answer.0 → status ≡ status_seen answer.1 → (old new : Told) (r : Result Status RunFault) → PutBy text status old new r → WroteBy P old new r
wrote_put P answer is text status e f old new (Ok s) h = (answer, is, subst (λ (t : List ℕ). Appends old new t) e h.1, sym f ∙ sym h.0)
wrote_put P answer is text status e f old new (Err fault.Tree) h = absurd h
wrote_put P answer is text status e f old new (Err fault.Sink) h = inr (answer, is, prefix_as old new text answer.0 e h)
wrote_put P answer is text status e f old new (Err fault.OutOfMemory) h = inr (answer, is, prefix_as old new text answer.0 e h)

pub wrote_response : (P : PrintedAnswer → Type 0) (text : List ℕ) (status : Status) (old new : Told) (r : Result Status RunFault) → IsResponseBy P (text, status) → PutBy text status old new r → WroteBy P old new r
wrote_response P text status old new r h k =
    wrote_put P h.answer h.is text status (ap (λ (x : List ℕ × Status). x.0) h.same) (ap (λ (x : List ℕ × Status). x.1) h.same) old new r k

wrote_prefix_as : (P Q : PrintedAnswer → Type 0) (old new : Told) → ((answer : PrintedAnswer) → P answer → Q answer) → WrotePrefix P old new → WrotePrefix Q old new
wrote_prefix_as P Q old new g (inl e) = inl e
wrote_prefix_as P Q old new g (inr (answer, is, told)) = inr (answer, g answer is, told)

pub wrote_as : (P Q : PrintedAnswer → Type 0) (old new : Told) (r : Result Status RunFault) → ((answer : PrintedAnswer) → P answer → Q answer) → WroteBy P old new r → WroteBy Q old new r
wrote_as P Q old new (Ok s) g (answer, is, told, said) = (answer, g answer is, told, said)
wrote_as P Q old new (Err fault.Tree) g h = h
wrote_as P Q old new (Err fault.Sink) g h = wrote_prefix_as P Q old new g h
wrote_as P Q old new (Err fault.OutOfMemory) g h = wrote_prefix_as P Q old new g h

-- of what was collected: the head, and what stands behind it
abbrev head_at : Options → Collected python Suite → List ℕ
head_at options c = head_of (length c.selected) c.deselected (length c.errors) 0

joined_report : (options : Options) (c : Collected python Suite) → rules.workers_of options c ≡ 0 → rules.places_told HoldsSource profile options c [] ≡ [] → (rules.report HoldsSource profile options c []).0 ≡ head_at options c ++ body_of options c
joined_report options c none no_places =
    let told = rules.reports_told HoldsSource profile options c [] in
    let sections = sections_of options.tb c.errors told in
    let summary = summary_of options c.errors told (length c.selected) c.deselected (rules.reached_maxfail (profile.rules options c.table) options c) in
    let head = head_at options c in
    let progress = progress_of options told [] in
    ap₂ (λ (n : ℕ) places. ((head_of (length c.selected) c.deselected (length c.errors) n ++ progress_of options told places) ++ sections) ++ summary) none no_places
    ∙ (ap (λ (l : List ℕ). l ++ summary) (append_assoc head progress sections) ∙ append_assoc head (progress ++ sections) summary)

module _ (options : Options) (x : Gathered) (w : SourceWorld) (none : rules.workers_of options (collected_told x w) ≡ 0) (no_places : rules.places_told HoldsSource profile options (collected_told x w) [] ≡ []) where
  abbrev c : Collected python Suite
  c = collected_told x w

  head_as : (count : ℕ) (errors : List CollectReport) → count ≡ length x.selected → errors ≡ x.errors.items → head_of count x.deselected (length errors) 0 ≡ head_at options c
  head_as count errors e s = ap₂ (λ (n : ℕ) (es : List CollectReport). head_of n x.deselected (length es) 0) (e ∙ sym (length-map x.selected (selected_by x.found x.places.items))) s

  pub wrote_run : (count : ℕ) (errors : List CollectReport) → count ≡ length x.selected → errors ≡ x.errors.items → (old mid new : Told) (r : Result Status RunFault)
      → Appends old mid (head_of count x.deselected (length errors) 0) → PutRun options x.found x.selected x.deselected errors w mid new r → WroteBy (IsReportOf options c) old new r
  wrote_run count errors e s old mid new r h k =
      wrote_put (IsReportOf options c) (rules.report HoldsSource profile options c []) ([], none_taken options c none, refl) (head_at options c ++ body_of options c) (status_seen (rules.report HoldsSource profile options c []).1) (sym (joined_report options c none no_places)) refl old new r
      (put_behind (head_at options c) (body_of options c) (status_seen (rules.report HoldsSource profile options c []).1) old mid new r (subst (λ (t : List ℕ). Appends old mid t) (head_as count errors e s) h)
      (subst (λ (es : List CollectReport). PutRun options x.found x.selected x.deselected es w mid new r) s k x.places.items))

  pub run_no_tree : (errors : List CollectReport) (mid new : Told) (r : Result Status RunFault) → PutRun options x.found x.selected x.deselected errors w mid new r → IfErr r (Broke ⊤)
  run_no_tree errors mid new r k = no_tree _ _ mid new r (k x.places.items)

  head_prefix : (count : ℕ) (errors : List CollectReport) → count ≡ length x.selected → errors ≡ x.errors.items → (old new : Told) → AppendsPrefix old new (head_of count x.deselected (length errors) 0) → WrotePrefix (IsReportOf options c) old new
  head_prefix count errors e s old new h =
      inr (
        rules.report HoldsSource profile options c [],
        ([], none_taken options c none, refl),
        prefix_as old new (head_at options c ++ body_of options c) (rules.report HoldsSource profile options c []).0 (sym (joined_report options c none no_places))
            (prefix_more old new (head_at options c) (body_of options c) (prefix_as old new (head_of count x.deselected (length errors) 0) (head_at options c) (head_as count errors e s) h)),
      )

  pub wrote_head : (count : ℕ) (errors : List CollectReport) → count ≡ length x.selected → errors ≡ x.errors.items → (old new : Told) (f : RunFault)
      → Broke (AppendsPrefix old new (head_of count x.deselected (length errors) 0)) f → WroteBy (IsReportOf options c) old new (Err f)
  wrote_head count errors e s old new fault.Tree h = absurd h
  wrote_head count errors e s old new fault.Sink h = head_prefix count errors e s old new h
  wrote_head count errors e s old new fault.OutOfMemory h = head_prefix count errors e s old new h
