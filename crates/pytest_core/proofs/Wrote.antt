-- What was written, by what was said.
use Rattle.std.proofs.Common.{◌≡◌, inl, inr, ℕ, List, [], Option, None, Some, true, Result, Ok, Err, refl, sym, subst, ◌∙◌}
use Rattle.std.specs.Prelude.{IfErr, IfOk, IfSome, IsSome, IsSomeAnd, ⊤}
use Rattle.cli_words.specs.declared.options.Options.{Options}
use Rattle.worker_sessions.specs.collect_tree.Collection.{collect}
use Rattle.worker_sessions.specs.collect_tree.Told.{collected_told}
use Rattle.worker_sessions.specs.collect_tree.declared.collected.Collected.{Collected}
use Rattle.worker_sessions.specs.collect_tree.file_source.Sources.{HoldsSource}
use Rattle.worker_sessions.specs.collect_tree.py_load.Reading.{AreRead, ReadFile}
use Rattle.edge_io.specs.Files.{File, IsKept, TreeLimit, tree_limit}
use Rattle.edge_io.specs.LoadFaults.{limit_of}
use Rattle.edge_io.specs.declared.files.LoadFault.{LoadFault}
use Rattle.worker_sessions.specs.run_items.report_rules.Answer.{PrintedAnswer, limit_text, refusal}
use Rattle.worker_sessions.specs.run_items.report_rules.Collected.{Whole}
use Rattle.worker_sessions.specs.run_items.report_rules.Report as rules
use Rattle.worker_sessions.specs.run_items.source_meaning.Meaning.{SourceWorld}
use Rattle.pytest_core.specs.Profile.{profile}
use Rattle.pytest_core.specs.Report.{FilesSay, IsReportOf, OfKept}
use Rattle.pytest_core.specs.Status.{is_said, status_seen}
use Rattle.pytest_core.specs.Streamed.{Broke, IsNotSink, LimitPut, PutBy, WroteBy}
use Rattle.pytest_core.specs.Written.{Response, WroteAll, Wrote, response_of}
use Rattle.pytest_core.specs.declared.refusal.RunFault.{RunFault}
use Rattle.pytest_core.specs.declared.refusal.RunFault.TheVariants as fault
use Rattle.pytest_core.specs.declared.status.Status.{Status}
use Rattle.pytest_core.specs.declared.status.Status.TheVariants.{Passed, Failed, Interrupted, Usage, NoTests, OutOfMemory, TreeFault, SinkFault}
use Rattle.pytest_core.proofs.Kept.{kept_files}
use Rattle.pytest_core.proofs.Said.{says_collected, says_limit}
use Rattle.pytest_core.proofs.Streamed.{Told, wrote_as, wrote_put}

-- FAULTS that are not the tree's
pub no_fault : {T : Type 0} (r : Result T RunFault) → IfErr r (Broke ⊤) → r ≡ Err fault.Tree → ⊥
no_fault (Ok x) h e = absurd (cc)
no_fault (Err fault.Tree) h e = h
no_fault (Err fault.Sink) h e = absurd (cc)
no_fault (Err fault.OutOfMemory) h e = absurd (cc)

pub no_fault_put : (text : List ℕ) (status : Status) (old new : Told) (r : Result Status RunFault) → PutBy text status old new r → r ≡ Err fault.Tree → ⊥
no_fault_put text status old new (Ok s) h e = absurd (cc)
no_fault_put text status old new (Err fault.Tree) h e = h
no_fault_put text status old new (Err fault.Sink) h e = absurd (cc)
no_fault_put text status old new (Err fault.OutOfMemory) h e = absurd (cc)

-- the status that was put
pub said_put : (text : List ℕ) (status s : Status) (old new : Told) → is_said status ≡ true → PutBy text status old new (Ok s) → is_said s ≡ true
said_put text status s old new e h = subst (λ (x : Status). is_said x ≡ true) (sym h.0) e

pub said_ok : (text : List ℕ) (status : Status) (old new : Told) (r : Result Status RunFault) → is_said status ≡ true → PutBy text status old new r → IfOk r (λ s. is_said s ≡ true)
said_ok text status old new (Ok s) e h = said_put text status s old new e h
said_ok text status old new (Err f) e h = tt

-- WHAT WAS COLLECTED
pub wrote_collected : (options : Options) (files : List File) (reads : List ReadFile) (x : Collected) (w : SourceWorld) → tree_limit files ≡ None → AreRead files reads → Whole (collected_told x w) ≡ collect options reads
    → (old new : Told) (r : Result Status RunFault) → WroteBy (IsReportOf options (collected_told x w)) old new r → WroteBy (FilesSay options files) old new r
wrote_collected options files reads x w fits read is old new r h =
    wrote_as (IsReportOf options (collected_told x w)) (FilesSay options files) old new r
    (λ answer (taken, is_taken, e). (taken, says_collected options taken files reads answer fits read (subst (λ end. rules.SaysOfCollection HoldsSource profile options taken end answer) is (is_taken, e)))) h

-- A TREE THAT PASSES A LIMIT
some_and : {X : Type 0} (o : Option X) (P Q : X → Type 0) → ((x : X) → P x → Q x) → IfSome o P → IsSome o → IsSomeAnd o Q
some_and None P Q f h s = absurd (cc)
some_and (Some x) P Q f h s = f x h

put_same : (r : Response) (l : TreeLimit) (old new : Told) (result : Result Status RunFault) → r ≡ response_of (refusal (limit_text l)) → PutBy r.0 r.1 old new result → PutBy (refusal (limit_text l)).0 (status_seen (refusal (limit_text l)).1) old new result
put_same r l old new result e h = subst (λ (x : Response). PutBy x.0 x.1 old new result) e h

pub limit_none : (load : LoadFault) (f : RunFault) (old : Told) → IsNotSink f → LimitPut load old old (Err f)
limit_none load fault.Tree old h = refl
limit_none load fault.Sink old h = absurd h
limit_none load fault.OutOfMemory old h = inl refl

pub not_sink : {T : Type 0} (f : RunFault) (r : Result T RunFault) → IsNotSink f → r ≡ Err f → r ≡ Err fault.Sink → ⊥
not_sink fault.Tree r h e d = absurd (let z = sym e ∙ d in cc)
not_sink fault.Sink r h e d = h
not_sink fault.OutOfMemory r h e d = absurd (let z = sym e ∙ d in cc)

pub limit_put : (load : LoadFault) (r : Response) (old new : Told) (result : Result Status RunFault) → IfSome (limit_of load) (λ l. r ≡ response_of (refusal (limit_text l))) → IsSome (limit_of load) → PutBy r.0 r.1 old new result → LimitPut load old new result
limit_put load r old new (Ok s) same some h = some_and (limit_of load) _ _ (λ l e. put_same r l old new (Ok s) e h) same some
limit_put load r old new (Err fault.Tree) same some h = absurd h
limit_put load r old new (Err fault.Sink) same some h = some_and (limit_of load) _ _ (λ l e. put_same r l old new (Err fault.Sink) e h) same some
limit_put load r old new (Err fault.OutOfMemory) same some h = inr (some_and (limit_of load) _ _ (λ l e. put_same r l old new (Err fault.OutOfMemory) e h) same some)

module _ (options : Options) (fs : List File) (old new : Told) where
  abbrev Passes : TreeLimit → Type 0
  Passes l = (kept : List File) × IsKept fs kept × (tree_limit kept ≡ Some l)

  wrote_limit : (o : Option TreeLimit) (r : Result Status RunFault) → IfSome o Passes → IsSomeAnd o (λ l. PutBy (refusal (limit_text l)).0 (status_seen (refusal (limit_text l)).1) old new r)
      → WroteBy (OfKept (FilesSay options) fs) old new r
  wrote_limit None r passes h = absurd h
  wrote_limit (Some l) r (kept, is, e) h = wrote_put (OfKept (FilesSay options) fs) (refusal (limit_text l)) (kept, is, ([], says_limit options kept l e)) _ _ refl refl old new r h

  limit_said : (load : LoadFault) (r : Result Status RunFault) → IfSome (limit_of load) Passes → LimitPut load old new r → WroteBy (OfKept (FilesSay options) fs) old new r
  limit_said load (Ok s) passes h = wrote_limit (limit_of load) (Ok s) passes h
  limit_said load (Err fault.Tree) passes h = h
  limit_said load (Err fault.Sink) passes h = wrote_limit (limit_of load) (Err fault.Sink) passes h
  limit_said load (Err fault.OutOfMemory) passes (inl e) = inl e
  limit_said load (Err fault.OutOfMemory) passes (inr h) = wrote_limit (limit_of load) (Err fault.OutOfMemory) passes h

known_limit : {X Y : Type 0} (o : Option X) (y : Y) (P : X → Y → Type 0) → IfSome o (λ x. IfSome (Some y) (P x)) → IfSome o (λ x. P x y)
known_limit None y P h = tt
known_limit (Some x) y P h = h

pub limit_wrote : (options : Options) (tree : Option (List File)) (load : LoadFault) (old new : Told) (r : Result Status RunFault)
    → IfSome (limit_of load) (λ l. IfSome tree (λ fs. (kept : List File) × IsKept fs kept × (tree_limit kept ≡ Some l))) → LimitPut load old new r
    → IfSome tree (λ fs. WroteBy (OfKept (FilesSay options) fs) old new r)
limit_wrote options None load old new r passes h = tt
limit_wrote options (Some fs) load old new r passes h = limit_said options fs old new load r (known_limit (limit_of load) fs (λ l files. (kept : List File) × IsKept files kept × (tree_limit kept ≡ Some l)) passes) h

pub limit_untouched : (load : LoadFault) (old new : Told) (r : Result Status RunFault) → LimitPut load old new r → r ≡ Err fault.Tree → new ≡ old
limit_untouched load old new (Ok s) h e = absurd (cc)
limit_untouched load old new (Err fault.Tree) h e = h
limit_untouched load old new (Err fault.Sink) h e = absurd (cc)
limit_untouched load old new (Err fault.OutOfMemory) h e = absurd (cc)

-- THE KEPT FILES
pub wrote_kept : (Says : List File → PrintedAnswer → Type 0) (fs files : List File) (old new : Told) (r : Result Status RunFault) → IsKept fs files → WroteBy (Says files) old new r → WroteBy (OfKept Says fs) old new r
wrote_kept Says fs files old new r kept h = wrote_as (Says files) (OfKept Says fs) old new r (λ answer is. (files, kept, is)) h

pub wrote_as_kept : (P Q : List File → PrintedAnswer → Type 0) (fs : List File) (old new : Told) (r : Result Status RunFault) → ((files : List File) (answer : PrintedAnswer) → P files answer → Q files answer) → WroteBy (OfKept P fs) old new r → WroteBy (OfKept Q fs) old new r
wrote_as_kept P Q fs old new r f h = wrote_as (OfKept P fs) (OfKept Q fs) old new r (λ answer is. (is.0, is.1, f is.0 answer is.2)) h

-- of any tree, where the files don't count
pub wrote_any : (P : PrintedAnswer → Type 0) (Says : List File → PrintedAnswer → Type 0) (tree : Option (List File)) (old new : Told) (r : Result Status RunFault) → ((files : List File) (answer : PrintedAnswer) → P answer → Says files answer)
    → WroteBy P old new r → IfSome tree (λ fs. WroteBy (OfKept Says fs) old new r)
wrote_any P Says None old new r f h = tt
wrote_any P Says (Some fs) old new r f h = (let kept = kept_files fs in wrote_as P (OfKept Says fs) old new r (λ answer is. (kept.0, kept.1, f kept.0 answer is)) h)

-- THE STATUS
pub wrote_said : (P : PrintedAnswer → Type 0) (old new : Told) (status : Status) → is_said status ≡ true → WroteAll P old new status → Wrote P old new status
wrote_said P old new Passed e h = h
wrote_said P old new Failed e h = h
wrote_said P old new Interrupted e h = h
wrote_said P old new Usage e h = h
wrote_said P old new NoTests e h = h
wrote_said P old new OutOfMemory e h = absurd (cc)
wrote_said P old new TreeFault e h = absurd (cc)
wrote_said P old new SinkFault e h = absurd (cc)
