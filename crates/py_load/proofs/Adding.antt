-- Files that are added to a world one after another.
use Rattle.std.proofs.Common.{◌≡◌, ◌∙◌, ◌<◌, ◌+◌, ℕ, List, [], ◌∷◌, ◌++◌, Bool, true, false, ◌&&◌, Option, None, map, length, take, drop, get_or, refl, sym, ap, subst, append_assoc, if◌then◌else◌}
use Rattle.std.specs.Prelude.{string_bytes, IsUtf8, chars}
use Rattle.std.specs.List.{list_all}
use Rattle.std.proofs.lemmas.List.{append-nil, map-append, take_more, take-append-drop}
use Rattle.std.proofs.lemmas.List.Folds.{list_all-append}
use Rattle.std.proofs.lemmas.Str.{IsUtf8-string_bytes}
use Rattle.edge_io.specs.Files.{File, InOrder, files_of, file_of, paths_of}
use Rattle.py_world.specs.World.{CodedSource}
use Rattle.py_world.specs.Runs.{source_at}
use Rattle.assert_rewrite.specs.source_meaning.Requests.{Script}
use Rattle.assert_rewrite.specs.source_meaning.Meaning.{SourceWorld}
use Rattle.py_load.specs.Reading.{ReadFile, AreRead}
use Rattle.py_load.specs.Prepared.{IsFileAdded, IsPrepared, is_explained, source_of_read, source_as, with_reads, with_sources}
use Rattle.py_load.proofs.Readings.{both_read, one_of, read_as}
use Rattle.py_load.proofs.Absent.{Pair, front_absent}

-- the files so far are added
pub record Added (named : List (List ℕ)) (pairs : List Pair) (old new : SourceWorld) : Type 0 where
  pub reads : List ReadFile
  pub read : AreRead (files_of pairs) reads
  pub world : new ≡ with_reads named reads old

abbrev with : List (CodedSource Script) → SourceWorld → SourceWorld
with sources w = record { sources = sources; modules = w.modules; heap = w.heap; codes = w.codes; printed = w.printed; frozen = w.frozen; traces = w.traces }

pub none_added : (named : List (List ℕ)) (w : SourceWorld) → Added named [] w w
none_added named w = record { reads = []; read = tt; world = ap (λ (xs : List (CodedSource Script)). with xs w) (sym (append-nil w.sources)) }

behind_reads : (named : List (List ℕ)) (reads : List ReadFile) (r : ReadFile) (w : SourceWorld) → with_sources (source_of_read named r ∷ []) (with_reads named reads w) ≡ with_reads named (reads ++ r ∷ []) w
behind_reads named reads r w =
    ap (λ (xs : List (CodedSource Script)). with xs w)
    (append_assoc w.sources (map (source_of_read named) reads) (source_of_read named r ∷ []) ∙ ap (λ (xs : List (CodedSource Script)). w.sources ++ xs) (sym (map-append (source_of_read named) reads (r ∷ []))))

pub one_more : (named : List (List ℕ)) (pairs : List Pair) (pair : Pair) (old mid new : SourceWorld) → Added named pairs old mid → IsFileAdded (is_explained named (string_bytes pair.0)) (string_bytes pair.0) pair.1.items mid new → Added named (pairs ++ pair ∷ []) old new
one_more named pairs pair old mid new before here =
    let r : ReadFile = read_as (string_bytes pair.0) pair.1.items here.said in
    record {
      reads = before.reads ++ r ∷ [];
      read =
          subst (λ (fs : List File). AreRead fs (before.reads ++ r ∷ [])) (sym (map-append file_of pairs (pair ∷ [])))
          (both_read (files_of pairs) (files_of (pair ∷ [])) before.reads (r ∷ []) before.read (one_of (string_bytes pair.0) pair.1.items here.said here.source));
      world = here.world ∙ (ap (with_sources (source_of_read named r ∷ [])) before.world ∙ behind_reads named before.reads r old);
    }

-- all files
pub all_added : (named : List (List ℕ)) (pairs all : List Pair) (old new : SourceWorld) → pairs ≡ all → Added named pairs old new → IsPrepared named (files_of all) old new
all_added named pairs all old new e h = record { reads = h.reads; read = subst (λ (ps : List Pair). AreRead (files_of ps) h.reads) e h.read; world = h.world }

-- a list at a place of it
pub split_at : (pairs : List Pair) (k : ℕ) (pair : Pair) → k < length pairs → pair ≡ get_or pairs k pair → take k pairs ++ pair ∷ drop (k + 1) pairs ≡ pairs
split_at pairs k pair l is =
    ap (λ (p : Pair). take k pairs ++ p ∷ drop (k + 1) pairs) is
    ∙ (sym (append_assoc (take k pairs) (get_or pairs k pair ∷ []) (drop (k + 1) pairs))
    ∙ (ap (λ (ps : List Pair). ps ++ drop (k + 1) pairs) (sym (take_more pairs k pair l)) ∙ take-append-drop (k + 1) pairs))

pub taken_more : (pairs : List Pair) (k : ℕ) (pair : Pair) → k < length pairs → pair ≡ get_or pairs k pair → take k pairs ++ pair ∷ [] ≡ take (k + 1) pairs
taken_more pairs k pair l is = ap (λ (p : Pair). take k pairs ++ p ∷ []) is ∙ sym (take_more pairs k pair l)

split_paths : (front rest : List Pair) (pair : Pair) → paths_of (files_of (front ++ pair ∷ rest)) ≡ paths_of (files_of front) ++ string_bytes pair.0 ∷ paths_of (files_of rest)
split_paths [] rest pair = refl
split_paths (p ∷ ps) rest pair = ap (λ (qs : List (List ℕ)). string_bytes p.0 ∷ qs) (split_paths ps rest pair)

no_sources : (named : List (List ℕ)) (old new : SourceWorld) (reads : List ReadFile) → old.sources ≡ [] → new ≡ with_reads named reads old → new.sources ≡ map (source_of_read named) reads
no_sources named old new reads e h = ap (λ (w : SourceWorld). w.sources) h ∙ ap (λ (xs : List (CodedSource Script)). xs ++ map (source_of_read named) reads) e

-- the next file's path has no source
pub next_absent : (named : List (List ℕ)) (pairs : List Pair) (k : ℕ) (pair : Pair) (old w : SourceWorld) → k < length pairs → pair ≡ get_or pairs k pair → InOrder (paths_of (files_of pairs)) → old.sources ≡ [] → Added named (take k pairs) old w
    → source_at (chars (string_bytes pair.0)) w.sources ≡ None
next_absent named pairs k pair old w l is order none added =
    let split : paths_of (files_of pairs) ≡ paths_of (files_of (take k pairs)) ++ string_bytes pair.0 ∷ paths_of (files_of (drop (k + 1) pairs)) =
    ap (λ (ps : List Pair). paths_of (files_of ps)) (sym (split_at pairs k pair l is)) ∙ split_paths (take k pairs) (drop (k + 1) pairs) pair in
    ap (source_at (chars (string_bytes pair.0))) (no_sources named old w added.reads none added.world)
    ∙ front_absent named (take k pairs) (paths_of (files_of (drop (k + 1) pairs))) (string_bytes pair.0) added.reads (IsUtf8-string_bytes pair.0) (subst InOrder split order) added.read

-- the same, as the loop has it: a path and bytes that are those of the file, and whether its asserts are explained
here_added : (named : List (List ℕ)) (pair : Pair) (x : Bool) (path bytes : List ℕ) (mid new : SourceWorld) → x ≡ is_explained named path → path ≡ string_bytes pair.0 → bytes ≡ pair.1.items → IsFileAdded x path bytes mid new
    → IsFileAdded (is_explained named (string_bytes pair.0)) (string_bytes pair.0) pair.1.items mid new
here_added named pair x path bytes mid new d e f h =
    subst (λ (xs : List ℕ). IsFileAdded (is_explained named (string_bytes pair.0)) (string_bytes pair.0) xs mid new) f
    (subst (λ (xs : List ℕ). IsFileAdded (is_explained named xs) xs bytes mid new) e (subst (λ (y : Bool). IsFileAdded y path bytes mid new) d h))

pub next_added : (named : List (List ℕ)) (pairs : List Pair) (k : ℕ) (pair : Pair) (x : Bool) (path bytes : List ℕ) (old mid new : SourceWorld) → k < length pairs → pair ≡ get_or pairs k pair → x ≡ is_explained named path → path ≡ string_bytes pair.0 → bytes ≡ pair.1.items
    → Added named (take k pairs) old mid → IsFileAdded x path bytes mid new → Added named (take (k + 1) pairs) old new
next_added named pairs k pair x path bytes old mid new l is d e f added here =
    subst (λ (ps : List Pair). Added named ps old new) (taken_more pairs k pair l is) (one_more named (take k pairs) pair old mid new added (here_added named pair x path bytes mid new d e f here))

pub no_source_yet : (named : List (List ℕ)) (files : List File) (pairs : List Pair) (k : ℕ) (pair : Pair) (path : List ℕ) (old w : SourceWorld) → files_of pairs ≡ files → path ≡ string_bytes pair.0 → k < length pairs → pair ≡ get_or pairs k pair
    → InOrder (paths_of files) → old.sources ≡ [] → Added named (take k pairs) old w → source_at (chars path) w.sources ≡ None
no_source_yet named files pairs k pair path old w same e l is order none added =
    ap (λ (p : List ℕ). source_at (chars p) w.sources) e
    ∙ next_absent named pairs k pair old w l is (subst (λ (fs : List File). InOrder (paths_of fs)) (sym same) order) none added
