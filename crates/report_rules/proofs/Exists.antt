-- Words and files have a report.
use Rattle.std.proofs.Common.{◌≡◌, ℕ, zero, suc, ◌+◌, ◌-◌, ◌≤◌, Bool, true, false, cond, List, [], ◌∷◌, length, min, inl, inr, refl, sym, ap, subst, eqb, arith, Option, None, Some, Result, Ok, Err, MatchBool, MatchOption, MatchResult, ◌&&◌}
use Rattle.std.proofs.lemmas.Bool.{ne_eqb}
use Rattle.cli_words.specs.Faults.{usage_text}
use Rattle.cli_words.specs.Info.{info_of}
use Rattle.cli_words.specs.Options.{asks_for_workers, options_of}
use Rattle.cli_words.specs.declared.fault.UsageFault.{UsageFault}
use Rattle.cli_words.specs.declared.info.Info.{Info}
use Rattle.cli_words.specs.declared.options.Options.{Options}
use Rattle.edge_io.specs.Files.{File, TreeLimit, tree_limit}
use Rattle.report_rules.specs.Answer.{PrintedAnswer, conftest_fault, info_answer, limit_text, refusal}
use Rattle.report_rules.specs.Collected.{Collected, Collection, ConftestFault, Profile, Refused, Whole, report_language}
use Rattle.report_rules.specs.Groups.{groups}
use Rattle.report_rules.specs.Report.{AreSources, IsReport, IsTaken, SaysOfCollection, SaysOfFiles, SaysOfOptions, SaysOfWords, files_for, report, runs, workers_of}
use Rattle.session_rules.specs.World.{Language}
use Rattle.share_files.specs.Deal.{BeginWith, Every, RisesFrom, Share, times, times_in}
use Rattle.share_files.specs.Rule.{workers_from}
use Rattle.share_files.proofs.Views.{covers_above, covers_below, covers_in, lt_or_le}

-- ONE WAY TO SHARE: worker 0 takes all that are left

abbrev singles : ℕ → ℕ → List (List ℕ)
singles k zero = []
singles k (suc n) = (k ∷ []) ∷ singles (k + 1) n

singles_length : (k n : ℕ) → length (singles k n) ≡ n
singles_length k zero = refl
singles_length k (suc n) = ap suc (singles_length (k + 1) n)

singles_times : (x k n : ℕ) → times_in x (singles k n) ≡ times x (workers_from k n)
singles_times x k zero = refl
singles_times x k (suc n) = (let e = singles_times x (k + 1) n in omega (arith, e))

singles_begin : (k n : ℕ) → BeginWith k (singles k n)
singles_begin k zero = tt
singles_begin k (suc n) = (refl, singles_begin (k + 1) n)

singles_rise : (k n : ℕ) → Every (RisesFrom 0) (singles k n)
singles_rise k zero = tt
singles_rise k (suc n) = ((omega arith, tt), singles_rise (k + 1) n)

from_rises : (low k n : ℕ) → low ≤ k → RisesFrom low (workers_from k n)
from_rises low k zero le = tt
from_rises low k (suc n) le = (le, from_rises (k + 1) (k + 1) n (omega arith))

abbrev first_takes : ℕ → ℕ → List (List ℕ)
first_takes groups n = (0 ∷ workers_from (suc n) (groups - suc n)) ∷ singles 1 n

zero_times : (x n : ℕ) → times x (workers_from 0 (suc n)) ≡ cond (eqb 0 x) 1 0 + times x (workers_from 1 n)
zero_times x n = refl

pub a_share : (groups n : ℕ) → suc n ≤ groups → Share groups (suc n) (first_takes groups n)
a_share groups n le =
    let all : (x : ℕ) → times_in x (first_takes groups n) ≡ times x (workers_from 0 (suc n)) + times x (workers_from (suc n) (groups - suc n)) =
    λ x. (let s = singles_times x 1 n in let z = zero_times x n in omega (arith, s, z)) in
    record {
      workers = ap suc (singles_length 1 n);
      once = record {
        each = λ x low lt. elim (lt_or_le x (suc n)) [
          | inl below ↦ (let a = all x in let p = covers_in x 0 (suc n) (omega arith) (omega (arith, below)) in let q = covers_below x (suc n) (groups - suc n) below in omega (arith, a, p, q))
          | inr above ↦ (let a = all x in let p = covers_above x 0 (suc n) (omega (arith, above)) in let q = covers_in x (suc n) (groups - suc n) above (omega (arith, lt, le)) in omega (arith, a, p, q))
        ];
        no_other = λ x o. elim o [
          | inl lt ↦ absurd (omega (arith, lt))
          | inr out ↦ (let a = all x in let p = covers_above x 0 (suc n) (omega (arith, out, le)) in let q = covers_above x (suc n) (groups - suc n) (omega (arith, out, le)) in omega (arith, a, p, q))
        ];
      };
      first = (refl, singles_begin 1 n);
      rising = ((omega arith, from_rises 1 (suc n) (groups - suc n) (omega arith)), singles_rise 1 n);
    }

taken_by : (groups n : ℕ) → n ≤ groups → (taken : List (List ℕ)) × MatchBool (eqb n 0) (taken ≡ []) (Share groups n taken)
taken_by groups zero le = ([], refl)
taken_by groups (suc n) le =
    let e : eqb (suc n) 0 ≡ false = ne_eqb (suc n) 0 (λ q. omega (arith, q)) in
    (first_takes groups n, subst (λ (b : Bool). MatchBool b (first_takes groups n ≡ []) (Share groups (suc n) (first_takes groups n))) (sym e) (a_share groups n le))

pub few_workers : (b : Bool) (workers most : ℕ) → cond b (min workers most) 0 ≤ most
few_workers true workers most = omega arith
few_workers false workers most = omega arith

module _ {World Value Thrown Rest Source Table : Type 0} (holds : List ℕ → Source → Type 0) (profile : Profile (report_language World Value Thrown Rest) Source Table) (some : (bytes : List ℕ) → (source : Source) × holds bytes source) where
  sources : (files : List File) → (xs : List (List ℕ × Source)) × AreSources holds profile files xs
  sources [] = ([], tt)
  sources (f ∷ files) = (let r = sources files in let s = some f.1 in ((f.0, s.0) ∷ r.0, (refl, s.1, r.1)))

  taken_of : (options : Options) (c : Collected (report_language World Value Thrown Rest) Table) → (taken : List (List ℕ)) × IsTaken options c taken
  taken_of options c = taken_by (length (groups c.selected)) (workers_of options c) (few_workers (asks_for_workers options && runs options c) options.workers (length (groups c.selected)))

  abbrev Some_answer : (List (List ℕ) → PrintedAnswer → Type 0) → Type 0
  Some_answer P = (taken : List (List ℕ)) × (answer : PrintedAnswer) × P taken answer

  of_collection : (options : Options) (x : Collection (report_language World Value Thrown Rest) Table) → Some_answer (λ taken answer. SaysOfCollection holds profile options taken x answer)
  of_collection options (Refused text) = ([], refusal text, (refl, refl))
  of_collection options (ConftestFault path told) = ([], conftest_fault path told, (refl, refl))
  of_collection options (Whole c) = (let t = taken_of options c in (t.0, report holds profile options c t.0, (t.1, refl)))

  of_limit : (options : Options) (files : List File) (limit : Option TreeLimit) → Some_answer (λ taken answer. MatchOption limit ((sources : List (List ℕ × Source)) × AreSources holds profile files sources × SaysOfCollection holds profile options taken (profile.collect options sources) answer) (λ l. (taken ≡ []) × (answer ≡ refusal (limit_text l))))
  of_limit options files (Some limit) = ([], refusal (limit_text limit), (refl, refl))
  of_limit options files None = (let s = sources files in let r = of_collection options (profile.collect options s.0) in (r.0, r.1, (s.0, s.1, r.2)))

  of_wrong : (options : Options) (files : List File) (wrong : Option (List ℕ)) → Some_answer (λ taken answer. MatchOption wrong (SaysOfFiles holds profile options taken files answer) (λ text. (taken ≡ []) × (answer ≡ refusal text)))
  of_wrong options files (Some text) = ([], refusal text, (refl, refl))
  of_wrong options files None = of_limit options files (tree_limit files)

  of_words : (files : List File) (r : Result Options UsageFault) → Some_answer (λ taken answer. MatchResult r (λ options. SaysOfOptions holds profile options taken files answer) (λ fault. (taken ≡ []) × (answer ≡ refusal (usage_text fault))))
  of_words files (Ok options) = of_wrong options (files_for holds profile options.generated files) (profile.refused options)
  of_words files (Err fault) = ([], refusal (usage_text fault), (refl, refl))

  of_info : (words : List (List ℕ)) (files : List File) (asked : Option Info) → Some_answer (λ taken answer. MatchOption asked (SaysOfWords holds profile taken words files answer) (λ info. (taken ≡ []) × (answer ≡ info_answer info)))
  of_info words files (Some info) = ([], info_answer info, (refl, refl))
  of_info words files None = of_words files (options_of words)

  pub some_report : (words : List (List ℕ)) (files : List File) → (answer : PrintedAnswer) × IsReport holds profile words files answer
  some_report words files = (let r = of_info words files (info_of words) in (r.1, (r.0, r.2)))
