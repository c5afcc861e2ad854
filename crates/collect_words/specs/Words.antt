-- What the words of a command line name (pytest's how-to guide, "Specifying which tests to run"): folders, files, and nodes of files.
use Rattle.std.specs.Prelude.{◌≡◌, ℕ, Bool, List, [], ◌∷◌, ◌++◌, ◌||◌, ◌==◌, not, Option, None, Some, Result, Ok, Err, codes, length, drop, find, is_some, if◌then◌else◌}
use Rattle.std.specs.Option.{option_map}
use Rattle.std.specs.List.{list_any, filter_map}
use Rattle.collect_words.specs.Paths.{has_prefix, plain_path, leads_up, is_below}
use Rattle.collect_words.specs.Walks.{place_of}
use Rattle.collect_words.specs.declared.named.WordTarget.{WordTarget}
use Rattle.collect_words.specs.declared.named.WordTarget.TheVariants.{Folder, File, Node}
use Rattle.collect_words.specs.declared.named.NamedWord.{NamedWord}
use Rattle.collect_words.specs.declared.fault.WordFault.{WordFault}
use Rattle.collect_words.specs.declared.fault.WordFault.TheVariants.{NotFound, TooManyItems, OutOfMemory}

abbrev pub at_colons : List ℕ → Bool
at_colons text = has_prefix (codes "::") text

-- a word's path stands before the first `::`
abbrev pub before_colons : List ℕ → List ℕ
before_colons [] = []
before_colons (c ∷ rest) = if at_colons (c ∷ rest) then [] else (c ∷ before_colons rest)

-- and what it names of the file behind it
abbrev pub behind_colons : List ℕ → Option (List ℕ)
behind_colons [] = None
behind_colons (c ∷ rest) = if at_colons (c ∷ rest) then Some (drop 1 rest) else behind_colons rest

-- a path that leads out of the tree
unfoldable pub leads_out : List ℕ → Bool
leads_out given = has_prefix (codes "/") given || leads_up (plain_path given)

-- the folder of a path: the root, or one with a file below it
unfoldable pub is_folder : List (List ℕ) → List ℕ → Bool
is_folder walk path = (length path == 0) || list_any (is_below path) walk

-- a path without `::` names a file, else a folder
abbrev pub plain_named : List (List ℕ) → List ℕ → Option ℕ → Option WordTarget
plain_named walk path (Some place) = Some (File place)
plain_named walk path None = if is_folder walk path then Some (Folder path) else None

-- what a path and the part behind `::` name; `::` stands behind a file alone
abbrev pub part_named : List (List ℕ) → List ℕ → Option (List ℕ) → Option WordTarget
part_named walk path None = plain_named walk path (place_of walk path)
part_named walk path (Some part) = option_map (λ place. Node place part) (place_of walk path)

-- what a word names of a tree, or nothing
unfoldable pub named_by : List (List ℕ) → List ℕ → Option WordTarget
named_by walk word =
    let given = before_colons word in
    if leads_out given then None else part_named walk (plain_path given) (behind_colons word)

-- a word with what it names, where it names something
abbrev pub named_word : List ℕ → Option WordTarget → Option NamedWord
named_word word None = None
named_word word (Some named) = Some (record { word = word; named = named })

-- no word is the root
abbrev pub given_words : List (List ℕ) → List (List ℕ)
given_words [] = [] ∷ []
given_words (word ∷ words) = word ∷ words

-- the first word that names nothing
abbrev pub first_unnamed : List (List ℕ) → List (List ℕ) → Option (List ℕ)
first_unnamed walk words = find (λ word. not (is_some (named_by walk word))) words

abbrev pub or_not_found : Option (List ℕ) → List NamedWord → Result (List NamedWord) WordFault
or_not_found None names = Ok names
or_not_found (Some word) names = Err (NotFound word)

abbrev pub all_named : List (List ℕ) → List (List ℕ) → List NamedWord
all_named walk words = filter_map (λ word. named_word word (named_by walk word)) words

-- the words with what they name, or the refusal of the first that names nothing
unfoldable pub named_words : List (List ℕ) → List (List ℕ) → Result (List NamedWord) WordFault
named_words walk words = or_not_found (first_unnamed walk (given_words words)) (all_named walk (given_words words))

-- a fault that a reader may answer: the definition's, or want of memory
abbrev pub RefusesWords : {X : Type 0} → Result X WordFault → WordFault → Type 0
RefusesWords meant OutOfMemory = Unit {0}
RefusesWords meant (NotFound word) = meant ≡ Err (NotFound word)
RefusesWords meant TooManyItems = meant ≡ Err TooManyItems

-- the text of a fault, behind `ERROR: `
abbrev pub fault_text : WordFault → List ℕ
fault_text (NotFound word) = codes "not found: " ++ word
fault_text TooManyItems = codes "too many items"
fault_text OutOfMemory = codes "out of memory"
