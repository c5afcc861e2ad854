-- How the layers of a collection end.
use Rattle.std.proofs.Common.{◌≡◌, ◌≤◌, ◌+◌, ◌-◌, ℕ, Bool, true, false, List, [], ◌∷◌, map, length, Option, Some, None, Result, Ok, Err, IfSome, refl, sym, subst, ap, ◌∙◌, arith, ltb-false}
use Rattle.std.specs.Prelude.{nat_lt, if◌then◌else◌}
use Rattle.std.specs.List.{filter}
use Rattle.cli_words.specs.declared.options.Options.{Options}
use Rattle.collect_words.specs.Nodes.{first_missing, or_missing, reached, selected}
use Rattle.collect_words.specs.Words.{RefusesWords, named_words}
use Rattle.collect_words.specs.declared.fault.WordFault.{WordFault}
use Rattle.collect_words.specs.declared.fault.WordFault.TheVariants as word
use Rattle.collect_words.specs.declared.named.NamedWord.{NamedWord}
use Rattle.collect_words.specs.declared.nodes.FileNodes.{FileNodes}
use Rattle.edge_io.specs.Files.{File, paths_of}
use Rattle.py_load.specs.Reading.{AreRead, ReadFile}
use Rattle.fixture_world.specs.tracebacks.source_meaning.Meaning.{SourceWorld}
use Rattle.collect_tree.specs.Collection.{End, collect, of_words, read_path}
use Rattle.collect_tree.specs.Told.{collection_end, collect_fault}
use Rattle.collect_tree.specs.Walk.{walk_of}
use Rattle.collect_tree.specs.declared.fault.CollectFault.{CollectFault}
use Rattle.collect_tree.proofs.ReadPaths.{read_paths}

-- an answer is a collection
abbrev pub Is : Option End → End → Type 0
Is told meant = IfSome told (λ e. e ≡ meant)

pub is_same : (told : Option End) (one other : End) → Is told one → one ≡ other → Is told other
is_same told one other h e = subst (Is told) e h

module _ (options : Options) where
  -- words that name nothing
  pub refused_words : (sources : List ReadFile) (walk : List (List ℕ)) (meant : Result (List NamedWord) WordFault) (fault : WordFault) (w : SourceWorld)
      → RefusesWords meant fault → Is (collection_end (Err (collect_fault fault)) w) (of_words options sources walk meant)
  refused_words sources walk meant (word.NotFound name) w h = ap (of_words options sources walk) (sym h)
  refused_words sources walk meant word.TooManyItems w h = ap (of_words options sources walk) (sym h)
  refused_words sources walk meant word.OutOfMemory w h = tt

  pub refused_given : (sources : List ReadFile) (walk : List (List ℕ)) (meant given : Result (List NamedWord) WordFault) (fault : WordFault) (result : CollectFault) (w : SourceWorld)
      → result ≡ collect_fault fault → RefusesWords meant fault → meant ≡ given → Is (collection_end (Err result) w) (of_words options sources walk given)
  refused_given sources walk meant given fault result w s h e =
      subst (λ (m : Result (List NamedWord) WordFault). Is (collection_end (Err result) w) (of_words options sources walk m)) e
      (subst (λ (r : CollectFault). Is (collection_end (Err r) w) (of_words options sources walk meant)) (sym s) (refused_words sources walk meant fault w h))

  -- the whole
  pub whole : (files : List File) (sources : List ReadFile) (walk : List (List ℕ)) (r : Result (List NamedWord) WordFault) → AreRead files sources
      → walk ≡ walk_of (paths_of files) → named_words walk options.paths ≡ r → of_words options sources walk r ≡ collect options sources
  unfolding collect
  whole files sources walk r read same named =
      let e : walk ≡ walk_of (map read_path sources) = same ∙ ap walk_of (sym (read_paths files sources read)) in
      ap (of_words options sources walk) (sym named) ∙ ap (λ (x : List (List ℕ)). of_words options sources x (named_words x options.paths)) e

-- ---- no more than so many

abbrev numbers_in : Result (List ℕ) WordFault → List ℕ
numbers_in (Ok numbers) = numbers
numbers_in (Err fault) = []

few_by : (b : Bool) (most : ℕ) (found numbers : List ℕ) (missing : Option NamedWord) → nat_lt most (length found) ≡ b
    → (if b then Err word.TooManyItems else or_missing missing found) ≡ Ok numbers → length numbers ≤ most
few_by true most found numbers missing h e = cc
few_by false most found numbers None h e = subst (λ (ns : List ℕ). length ns ≤ most) (ap numbers_in e) (ltb-false most (length found) h)
few_by false most found numbers (Some w) h e = cc

pub few_selected : (most : ℕ) (walk : List (List ℕ)) (tests : List ℕ) (files : List FileNodes) (words : List NamedWord) (numbers : List ℕ)
    → selected most walk tests files words ≡ Ok numbers → length numbers ≤ most
unfolding selected
few_selected most walk tests files words numbers e =
    few_by (nat_lt most (length (reached walk tests files words))) most (reached walk tests files words) numbers (first_missing files words) refl e

filter_less : {X : Type 0} (b : Bool) (x : X) (kept xs : List X) → length kept ≤ length xs → length (if b then x ∷ kept else kept) ≤ length (x ∷ xs)
filter_less true x kept xs l = omega arith
filter_less false x kept xs l = omega arith

filter_few : {X : Type 0} (p : X → Bool) (xs : List X) → length (filter p xs) ≤ length xs
filter_few p [] = omega arith
filter_few p (x ∷ xs) = filter_less (p x) x (filter p xs) xs (filter_few p xs)

pub few_accepted : (p : ℕ → Bool) (numbers accepted : List ℕ) (count most : ℕ) → accepted ≡ filter p numbers → count ≡ length numbers - length accepted → length numbers ≤ most
    → length accepted + count ≤ most
few_accepted p numbers accepted count most a c l =
    let short : length accepted ≤ length numbers = subst (λ (ns : List ℕ). length ns ≤ length numbers) (sym a) (filter_few p numbers) in
    omega arith
