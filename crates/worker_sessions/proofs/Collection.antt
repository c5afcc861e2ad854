-- What a worker collects is what the caller collected.
use Rattle.std.proofs.Common.{◌≡◌, ℕ, List, length, Option, Some, None, Err, refl, sym, ap, ◌∙◌, subst}
use Rattle.std.proofs.lemmas.List.{length-map}
use Rattle.std.specs.Prelude.{IfSome}
use Rattle.cli_words.specs.declared.options.Options.{Options}
use Rattle.collect_tree.specs.Collection.{End, collect}
use Rattle.collect_tree.specs.Told.{collection_end}
use Rattle.collect_tree.specs.declared.fault.CollectFault.{CollectFault}
use Rattle.collect_tree.specs.declared.fault.CollectFault.TheVariants as fault
use Rattle.collect_tree.specs.py_load.Reading.{AreRead, ReadFile}
use Rattle.edge_io.specs.Files.{File}
use Rattle.collect_tree.proofs.py_load_lemmas.Readings.{OneSource, one_list}
use Rattle.report_parts.specs.declared.report.ItemReport.{ItemReport}
use Rattle.report_parts.specs.declared.report.Told.{Told}
use Rattle.run_items.specs.Texts.{fixture_texts}
use Rattle.run_items.specs.report_rules.Collected.{Collected, ConftestFault, Refused, SelectedItem, Whole}
use Rattle.run_items.specs.report_rules.Fits.{IsFit}
use Rattle.run_items.specs.report_rules.Groups.{groups}
use Rattle.run_items.specs.runtest_rules.Language.{python}
use Rattle.run_items.specs.runtest_rules.Rules.{rules}
use Rattle.run_items.specs.source_meaning.Meaning.{SourceWorld}
use Rattle.run_items.specs.test_suite.declared.suite.Suite.{Suite}
use Rattle.share_files.specs.Deal.{RisesFrom}
use Rattle.worker_runs.specs.Threads.{thread_reports}
use Rattle.worker_sessions.specs.Project.{Collects, ProjectParts, group_sizes}
use Rattle.worker_sessions.specs.Sessions.{ReportsTaken}

same_whole : (c d : Collected python Suite) → Whole c ≡ Whole d → c ≡ d
same_whole c d e = cc

-- there is one collection
pub one_collection : OneSource → (files : List File) (options : Options) (c d : Collected python Suite) → Collects files options c → Collects files options d → c ≡ d
one_collection one files options c d a b =
    same_whole c d (sym a.2 ∙ (ap (λ (s : List ReadFile). collect options s) (one_list one files a.0 b.0 a.1 b.1) ∙ b.2))

-- THE CALLER'S
abbrev Fits : Type 0
Fits = (o : Options) (sources : List ReadFile) (c : Collected python Suite) → collect o sources ≡ Whole c → IsFit (rules o c.table) c.selected

pub collects : (files : List File) (options : Options) (d : Collected python Suite) (sources : List ReadFile) → AreRead files sources → Whole d ≡ collect options sources → Collects files options d
collects files options d sources read is = (sources, read, sym is)

pub are_sizes : OneSource → (files : List File) (options : Options) (sizes : List ℕ) (c d : Collected python Suite) → Collects files options c → sizes ≡ group_sizes c → Collects files options d → sizes ≡ group_sizes d
are_sizes one files options sizes c d a e b = e ∙ ap (λ (x : Collected python Suite). group_sizes x) (one_collection one files options c d a b)

pub as_many_groups : OneSource → (files : List File) (options : Options) (sizes : List ℕ) (c d : Collected python Suite) → Collects files options c → sizes ≡ group_sizes c → Collects files options d → (limit : ℕ) → limit ≡ length sizes → limit ≡ length (groups d.selected)
as_many_groups one files options sizes c d a e b limit l =
    l ∙ (ap (λ (x : List ℕ). length x) (are_sizes one files options sizes c d a e b) ∙ length-map (groups d.selected) (λ (group : List SelectedItem). length group))

pub are_reports : OneSource → Fits → (files : List File) (options : Options) (d : Collected python Suite) (given : List ℕ) (reports : List ItemReport) → Collects files options d → ReportsTaken options d given reports
    → RisesFrom 0 given → (c : Collected python Suite) → Collects files options c → reports ≡ thread_reports (rules options c.table) (fixture_texts c.table) options c given
unfolding ReportsTaken
are_reports one fits files options d given reports b h rises c a =
    let same = one_collection one files options d c b a in
    subst (λ (x : Collected python Suite). reports ≡ thread_reports (rules options x.table) (fixture_texts x.table) options x given) same (h rises (fits options b.0 d b.2).distinct)

-- the same of the parts of a project
pub reports_by : OneSource → Fits → (p q : ProjectParts) → p ≡ q → (d : Collected python Suite) (given : List ℕ) (reports : List ItemReport) → Collects p.files p.options d → ReportsTaken p.options d given reports
    → RisesFrom 0 given → (c : Collected python Suite) → Collects q.files q.options c → reports ≡ thread_reports (rules q.options c.table) (fixture_texts c.table) q.options c given
reports_by one fits p q same d given reports b h =
    subst (λ (x : ProjectParts). RisesFrom 0 given → (c : Collected python Suite) → Collects x.files x.options c → reports ≡ thread_reports (rules x.options c.table) (fixture_texts c.table) x.options c given) same
    (are_reports one fits p.files p.options d given reports b h)

-- it is not refused
refused_not_whole : (text : List ℕ) (c : Collected python Suite) → Refused text ≡ Whole c → ⊥
refused_not_whole text c e = absurd (cc)

raised_not_whole : (path : List ℕ) (told : Told) (c : Collected python Suite) → ConftestFault path told ≡ Whole c → ⊥
raised_not_whole path told c e = absurd (cc)

pub not_refused : OneSource → (files : List File) (options : Options) (c : Collected python Suite) → Collects files options c → (end : End) (sources : List ReadFile) → AreRead files sources → end ≡ collect options sources → end ≡ Whole c
not_refused one files options c a end sources read is = is ∙ (ap (λ (s : List ReadFile). collect options s) (one_list one files sources a.0 read a.1) ∙ a.2)

pub no_refusal : (f : CollectFault) (w : SourceWorld) (c : Collected python Suite) → IfSome (collection_end (Err f) w) (λ e. e ≡ Whole c) → f ≡ fault.OutOfMemory
no_refusal (fault.NotFound name) w c h = absurd (refused_not_whole _ c h)
no_refusal fault.TooManyItems w c h = absurd (refused_not_whole _ c h)
no_refusal (fault.Conftest path told) w c h = absurd (raised_not_whole path told c h)
no_refusal fault.OutOfMemory w c h = refl

pub wants_memory : OneSource → (files : List File) (options : Options) (c : Collected python Suite) → Collects files options c → (f : CollectFault) (w : SourceWorld) (sources : List ReadFile) → AreRead files sources → IfSome (collection_end (Err f) w) (λ e. e ≡ collect options sources) → f ≡ fault.OutOfMemory
wants_memory one files options c a f w sources read h = no_refusal f w c (IfSome-weaker (collection_end (Err f) w) _ _ (λ e is. not_refused one files options c a e sources read is) h)
  where
    IfSome-weaker : {X : Type 0} (o : Option X) (P Q : X → Type 0) → ((x : X) → P x → Q x) → IfSome o P → IfSome o Q
    IfSome-weaker None P Q g k = tt
    IfSome-weaker (Some x) P Q g k = g x k
