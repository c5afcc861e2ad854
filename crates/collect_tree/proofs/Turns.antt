-- Loads, one behind the other.
use Rattle.std.proofs.Common.{◌≡◌, ℕ, ◌+◌, ◌<◌, ◌≤◌, List, [], ◌∷◌, ◌++◌, length, drop, get_or, sym, subst, ap, ◌∙◌}
use Rattle.std.proofs.lemmas.List.{append_assoc, append-nil, drop_all, drop_more}
use Rattle.collect_words.specs.Walks.{path_at}
use Rattle.collection_nodes.specs.declared.test_file.TestFile.{TestFile}
use Rattle.py_load.specs.InTurn.{FileEnd, file_load}
use Rattle.fixture_world.specs.tracebacks.source_meaning.Meaning.{SourceWorld}
use Rattle.collect_tree.specs.Loads.{LoadResults, ended_before, loaded_before, test_loads}
use Rattle.collect_tree.specs.declared.loads.LoadEnd.{LoadEnd}

abbrev pub made : List TestFile → List LoadEnd → SourceWorld → LoadResults
made files errors w = record { files = files; ends = errors; world = w }

-- one file more
pub file_on : (files more : List TestFile) (ends told : List LoadEnd) (f : TestFile) (end : LoadEnd) (rest : LoadResults)
    → more ≡ files ++ f ∷ [] → told ≡ ends ++ end ∷ [] → loaded_before files ends (loaded_before (f ∷ []) (end ∷ []) rest) ≡ loaded_before more told rest
file_on files more ends told f end rest e s =
    ap (λ fs. made fs (ends ++ (end ∷ [] ++ rest.ends)) rest.world) (sym (append_assoc files (f ∷ []) rest.files))
    ∙ (ap (λ es. made ((files ++ f ∷ []) ++ rest.files) es rest.world) (sym (append_assoc ends (end ∷ []) rest.ends))
    ∙ (ap (λ (fs : List TestFile). made (fs ++ rest.files) ((ends ++ end ∷ []) ++ rest.ends) rest.world) (sym e)
    ∙ ap (λ (es : List LoadEnd). made (more ++ rest.files) (es ++ rest.ends) rest.world) (sym s)))

abbrev stepped : ℕ → List (List ℕ) → ℕ → List ℕ → List ℕ → FileEnd × SourceWorld → LoadResults
stepped limit walk place places path x = ended_before limit path place x.0 x.1 (test_loads limit walk places x.1)

-- one load more
pub load_on : (limit : ℕ) (walk : List (List ℕ)) (place : ℕ) (places path : List ℕ) (end : FileEnd) (old new : List TestFile) (told known : List LoadEnd) (w next : SourceWorld)
    → path ≡ path_at walk place → (end, next) ≡ file_load limit path w
    → ((rest : LoadResults) → loaded_before old told (ended_before limit path place end next rest) ≡ loaded_before new known rest)
    → loaded_before old told (test_loads limit walk (place ∷ places) w) ≡ loaded_before new known (test_loads limit walk places next)
load_on limit walk place places path end old new told known w next same e goes =
    subst (λ (p : List ℕ). loaded_before old told (stepped limit walk place places p (file_load limit p w)) ≡ loaded_before new known (test_loads limit walk places next)) same
    (subst (λ (x : FileEnd × SourceWorld). loaded_before old told (stepped limit walk place places path x) ≡ loaded_before new known (test_loads limit walk places next)) e (goes (test_loads limit walk places next)))

-- all are done
loads_done : (files : List TestFile) (errors : List LoadEnd) (w : SourceWorld) (all : LoadResults) → loaded_before files errors (made [] [] w) ≡ all → all ≡ made files errors w
loads_done files errors w all e =
    sym e
    ∙ (ap (λ (fs : List TestFile). made fs (errors ++ []) w) (append-nil files)
    ∙ ap (λ (es : List LoadEnd). made files es w) (append-nil errors))

pub tests_on : (limit : ℕ) (walk : List (List ℕ)) (places : List ℕ) (i : ℕ) (old new : List TestFile) (told known : List LoadEnd) (w next : SourceWorld) (all : LoadResults) → i < length places
    → loaded_before old told (test_loads limit walk (drop i places) w) ≡ all
    → ((rest : List ℕ) → loaded_before old told (test_loads limit walk (get_or places i 0 ∷ rest) w) ≡ loaded_before new known (test_loads limit walk rest next))
    → loaded_before new known (test_loads limit walk (drop (i + 1) places) next) ≡ all
tests_on limit walk places i old new told known w next all l is step =
    sym (step (drop (i + 1) places)) ∙ (ap (λ (ps : List ℕ). loaded_before old told (test_loads limit walk ps w)) (sym (drop_more places i 0 l)) ∙ is)

pub tests_done : (limit : ℕ) (walk : List (List ℕ)) (places : List ℕ) (i : ℕ) (files : List TestFile) (errors : List LoadEnd) (w : SourceWorld) (all : LoadResults) → length places ≤ i
    → loaded_before files errors (test_loads limit walk (drop i places) w) ≡ all → all ≡ made files errors w
tests_done limit walk places i files errors w all l is =
    loads_done files errors w all (ap (λ (ps : List ℕ). loaded_before files errors (test_loads limit walk ps w)) (sym (drop_all i places l)) ∙ is)
