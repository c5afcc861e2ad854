-- The errors of one file more.
use Rattle.std.proofs.Common.{◌≡◌, ℕ, zero, suc, ◌+◌, ◌<◌, ◌≤◌, true, false, min, List, [], ◌∷◌, ◌++◌, Option, length, drop, get_or, refl, sym, ap, ◌∙◌, arith}
use Rattle.std.specs.Prelude.{◌==◌, remove}
use Rattle.std.proofs.lemmas.Bool.Decides.{nat_tests}
use Rattle.std.proofs.lemmas.List.{append_assoc, append-nil, drop_all, drop_more}
use Rattle.collect_items.specs.collect_rows.declared.items.RowsFault.{RowsFault}
use Rattle.collection_nodes.specs.declared.test_file.TestFile.{TestFile}
use Rattle.report_parts.specs.declared.report.CollectReport.{CollectReport}
use Rattle.fixture_world.specs.tracebacks.source_meaning.Meaning.{SourceWorld}
use Rattle.collect_tree.specs.Errors.{all_errors, file_errors}
use Rattle.collect_tree.specs.declared.loads.LoadEnd.{LoadEnd}

module _ (walk : List (List ℕ)) (w : SourceWorld) where
  no_ends : (files : List TestFile) (faults : List (Option RowsFault)) → all_errors walk w files [] faults ≡ []
  no_ends [] faults = refl
  no_ends (file ∷ files) faults = refl

  no_faults : (files : List TestFile) (ends : List LoadEnd) → all_errors walk w files ends [] ≡ []
  no_faults [] ends = refl
  no_faults (file ∷ files) [] = refl
  no_faults (file ∷ files) (end ∷ ends) = refl

  pub errors_on : (files : List TestFile) (faults : List (Option RowsFault)) (i : ℕ) (d : TestFile) (end : LoadEnd) (fault : Option RowsFault) (before after : List LoadEnd) (done more all : List CollectReport)
      → i < length files → i < length faults → fault ≡ get_or faults i fault → before ≡ end ∷ after
      → done ++ all_errors walk w (drop i files) before (drop i faults) ≡ all → more ≡ done ++ file_errors walk w (get_or files i d) end fault
      → more ++ all_errors walk w (drop (i + 1) files) after (drop (i + 1) faults) ≡ all
  errors_on files faults i d end fault before after done more all l m f b is new =
      let file = get_or files i d in
      ap (λ (xs : List CollectReport). xs ++ all_errors walk w (drop (i + 1) files) after (drop (i + 1) faults)) new
      ∙ (append_assoc done (file_errors walk w file end fault) (all_errors walk w (drop (i + 1) files) after (drop (i + 1) faults))
      ∙ (ap (λ (x : Option RowsFault). done ++ all_errors walk w (file ∷ drop (i + 1) files) (end ∷ after) (x ∷ drop (i + 1) faults)) f
      ∙ (ap (λ (xs : List TestFile). done ++ all_errors walk w xs (end ∷ after) (get_or faults i fault ∷ drop (i + 1) faults)) (sym (drop_more files i d l))
      ∙ (ap (λ (xs : List (Option RowsFault)). done ++ all_errors walk w (drop i files) (end ∷ after) xs) (sym (drop_more faults i fault m))
      ∙ (ap (λ (xs : List LoadEnd). done ++ all_errors walk w (drop i files) xs (drop i faults)) (sym b) ∙ is)))))

  pub errors_end : (files : List TestFile) (faults : List (Option RowsFault)) (i : ℕ) (left : List LoadEnd) (done all : List CollectReport)
      → left ≡ [] → done ++ all_errors walk w (drop i files) left (drop i faults) ≡ all → done ≡ all
  errors_end files faults i left done all e is =
      sym (append-nil done)
      ∙ (ap (λ (xs : List CollectReport). done ++ xs) (sym (no_ends (drop i files) (drop i faults)))
      ∙ (ap (λ (xs : List LoadEnd). done ++ all_errors walk w (drop i files) xs (drop i faults)) (sym e) ∙ is))

  none_left : (files : List TestFile) (ends : List LoadEnd) (faults : List (Option RowsFault)) (i : ℕ) → min (length files) (length faults) ≤ i
      → all_errors walk w (drop i files) ends (drop i faults) ≡ []
  none_left [] ends faults i l = ap (λ (fs : List TestFile). all_errors walk w fs ends (drop i faults)) (drop_all i [] (omega arith))
  none_left (file ∷ files) ends [] i l = ap (all_errors walk w (drop i (file ∷ files)) ends) (drop_all i [] (omega arith)) ∙ no_faults (drop i (file ∷ files)) ends
  none_left (file ∷ files) ends (fault ∷ faults) zero l = absurd (omega arith)
  none_left (file ∷ files) ends (fault ∷ faults) (suc i) l = none_left files ends faults i (omega arith)

  pub errors_done : (files : List TestFile) (faults : List (Option RowsFault)) (i : ℕ) (left : List LoadEnd) (done all : List CollectReport)
      → min (length files) (length faults) ≤ i → done ++ all_errors walk w (drop i files) left (drop i faults) ≡ all → done ≡ all
  errors_done files faults i left done all l is =
      sym (append-nil done) ∙ (ap (λ (xs : List CollectReport). done ++ xs) (sym (none_left files left faults i l)) ∙ is)

  -- no load is left
  pub errors_none : (files : List TestFile) (faults : List (Option RowsFault)) (i n : ℕ) (left : List LoadEnd) (done all : List CollectReport)
      → n ≡ length left → true ≡ (n == 0) → done ++ all_errors walk w (drop i files) left (drop i faults) ≡ all → done ≡ all
  errors_none files faults i n [] done all m e is = errors_end files faults i [] done all refl is
  errors_none files faults i n (end ∷ left) done all m e is = absurd (grind (arith, nat_tests))

  -- the first of the loads that are left
  pub errors_more : (files : List TestFile) (faults : List (Option RowsFault)) (i n : ℕ) (d : TestFile) (end : LoadEnd) (fault : Option RowsFault) (left after : List LoadEnd) (done more all : List CollectReport)
      → i < length files → i < length faults → fault ≡ get_or faults i fault → n ≡ length left → false ≡ (n == 0) → end ≡ get_or left 0 end → after ≡ remove left 0
      → done ++ all_errors walk w (drop i files) left (drop i faults) ≡ all → more ≡ done ++ file_errors walk w (get_or files i d) end fault
      → more ++ all_errors walk w (drop (i + 1) files) after (drop (i + 1) faults) ≡ all
  errors_more files faults i n d end fault [] after done more all l m f many some first rest is new = absurd (grind (arith, nat_tests))
  errors_more files faults i n d end fault (x ∷ xs) after done more all l m f many some first rest is new =
      errors_on files faults i d end fault (x ∷ xs) after done more all l m f (ap (λ (y : LoadEnd). y ∷ xs) (sym first) ∙ ap (λ (ys : List LoadEnd). end ∷ ys) (sym rest)) is new
