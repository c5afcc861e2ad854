-- One file more.
use Rattle.std.proofs.Common.{◌≡◌, ℕ, ◌+◌, List, [], ◌∷◌, ◌++◌, length, sym, ap, ◌∙◌, subst, arith}
use Rattle.std.proofs.lemmas.List.Kept.{AllPairs-filter}
use Rattle.std.specs.Str.Lossy.{utf8_lossy}
use Rattle.collect_items.specs.Items.{FixtureTable}
use Rattle.collect_items.specs.declared.reads.FileTests.{FileTests}
use Rattle.collect_rows.specs.declared.items.FileItems.{FileItems}
use Rattle.collect_words.specs.Walks.{path_at}
use Rattle.fixture_definitions.specs.declared.found.FoundTest.{FoundTest}
use Rattle.hook_order.specs.HookOrder.{InHookOrder, RunsBefore}
use Rattle.hook_order.specs.declared.implementation.Impl.{Impl}
use Rattle.py_world.specs.World.{world_with_printed}
use Rattle.test_suite.specs.declared.hook.HookTable.{HookTable}
use Rattle.runtest_rules.specs.tracebacks.source_meaning.Meaning.{SourceWorld}
use Rattle.collect_ids.specs.Files.{all_asked, file_asked, file_with_printed, found_of, serves_file, serving_file, tests_asked}
use Rattle.collect_ids.specs.declared.files.AskedFile.{AskedFile}

abbrev asked_file : FileTests → FileItems → List ℕ → AskedFile
asked_file file items printed = record { found = found_of file items; printed = printed }

-- a file whose tests were asked for
pub file_came : (limit : ℕ) (hooks : HookTable) (f : FixtureTable) (impls : List Impl) (walk : List (List ℕ)) (node : ℕ) (file : FileTests) (w u v : SourceWorld)
    (path : List ℕ) (all serving given : List Impl) (listed : List FoundTest) (items : FileItems) (printed : List ℕ)
    → path ≡ path_at walk file.placed.file.place → all ≡ impls → serving ≡ serving_file hooks all path → given ≡ serving → listed ≡ file.tests
    → (items, u) ≡ tests_asked limit hooks f given node listed w → printed ≡ utf8_lossy u.printed → v ≡ world_with_printed [] u
    → (asked_file file items printed, v) ≡ file_asked limit hooks f impls walk node file w
file_came limit hooks f impls walk node file w u v path all serving given listed items printed place every those these tests came text taken =
    ap (λ (x : List ℕ). (asked_file file items x, v)) text
    ∙ (ap (λ (x : SourceWorld). (asked_file file items (utf8_lossy u.printed), x)) taken
    ∙ (ap (λ (x : FileItems × SourceWorld). file_with_printed file x) came
    ∙ (ap (λ (ts : List FoundTest). file_with_printed file (tests_asked limit hooks f given node ts w)) tests
    ∙ (ap (λ (is : List Impl). file_with_printed file (tests_asked limit hooks f is node file.tests w)) (these ∙ those)
    ∙ (ap (λ (is : List Impl). file_with_printed file (tests_asked limit hooks f (serving_file hooks is path) node file.tests w)) every
    ∙ ap (λ (p : List ℕ). file_with_printed file (tests_asked limit hooks f (serving_file hooks impls p) node file.tests w)) place)))))

-- how many tests there are
abbrev pub many_tests : List FileTests → ℕ
many_tests [] = 0
many_tests (file ∷ files) = length file.tests + many_tests files

pub more_tests : (files : List FileTests) (file : FileTests) → many_tests (files ++ file ∷ []) ≡ many_tests files + length file.tests
more_tests [] file = omega arith
more_tests (first ∷ files) file = (let more = more_tests files file in omega (arith, more))

-- behind others comes one more
abbrev behind : List AskedFile × SourceWorld → (SourceWorld → AskedFile × SourceWorld) → List AskedFile × SourceWorld
behind done next = let one = next done.1 in (done.0 ++ one.0 ∷ [], one.1)

module _ (limit : ℕ) (hooks : HookTable) (f : FixtureTable) (impls : List Impl) (walk : List (List ℕ)) where
  pub one_behind : (files : List FileTests) (node : ℕ) (file : FileTests) (w : SourceWorld)
      → all_asked limit hooks f impls walk node (files ++ file ∷ []) w ≡ behind (all_asked limit hooks f impls walk node files w) (file_asked limit hooks f impls walk (node + many_tests files) file)
  one_behind [] node file w = (let same : node ≡ node + 0 = omega arith in ap (λ (n : ℕ). behind ([], w) (file_asked limit hooks f impls walk n file)) same)
  one_behind (first ∷ files) node file w =
      let x = file_asked limit hooks f impls walk node first w in
      let same : node + length first.tests + many_tests files ≡ node + (length first.tests + many_tests files) = omega arith in
      ap (λ (rest : List AskedFile × SourceWorld). (x.0 ∷ rest.0, rest.1))
      (one_behind files (node + length first.tests) file x.1
      ∙ ap (λ (n : ℕ). behind (all_asked limit hooks f impls walk (node + length first.tests) files x.1) (file_asked limit hooks f impls walk n file)) same)

  -- the files so far, and one more
  pub file_on : (files : List FileTests) (file : FileTests) (first node : ℕ) (done more : List AskedFile) (one : AskedFile) (w u v : SourceWorld)
      → (done, u) ≡ all_asked limit hooks f impls walk first files w → node ≡ first + many_tests files → (one, v) ≡ file_asked limit hooks f impls walk node file u → more ≡ done ++ one ∷ []
      → (more, v) ≡ all_asked limit hooks f impls walk first (files ++ file ∷ []) w
  file_on files file first node done more one w u v is n e new =
      ap (λ (xs : List AskedFile). (xs, v)) new
      ∙ (ap (λ (x : AskedFile × SourceWorld). (done ++ x.0 ∷ [], x.1)) e
      ∙ (ap (λ (k : ℕ). behind (done, u) (file_asked limit hooks f impls walk k file)) n
      ∙ (ap (λ (x : List AskedFile × SourceWorld). behind x (file_asked limit hooks f impls walk (first + many_tests files) file)) is
      ∙ sym (one_behind files first file w))))

-- implementations that are left are in hook order still
pub still_ordered : (hooks : HookTable) (impls serving : List Impl) (path : List ℕ) → InHookOrder impls → serving ≡ serving_file hooks impls path → InHookOrder serving
still_ordered hooks impls serving path o e =
    subst (λ (l : List Impl). InHookOrder l) (sym e) (AllPairs-filter RunsBefore (serves_file hooks path) impls o)
