-- The next file's path is none of those before it.
use Rattle.std.proofs.Common.{Global, ◌≡◌, ◌∙◌, ℕ, List, [], ◌∷◌, ◌++◌, Bool, true, false, Option, Some, None, map, cond, refl, sym, ap}
use Rattle.std.specs.Prelude.{String, string_bytes, IsUtf8, chars}
use Rattle.std.specs.declared.vec.Vec.{Vec}
use Rattle.std.specs.declared.cmp.Ordering.TheVariants.{Less, Equal}
use Rattle.std.specs.Ordering.{nat_cmp}
use Rattle.std.specs.Cmp.Lexicographic.{slice_cmp, nat_list_cmp_total}
use Rattle.std.specs.List.{AllByRecursion}
use Rattle.std.proofs.lemmas.Cmp.{tied_itself}
use Rattle.std.proofs.lemmas.Map.Keys.{sorted_head, sorted_tail}
use Rattle.std.proofs.lemmas.Slice.Eq.{bytes_eq-Decides}
use Rattle.std.proofs.lemmas.Str.{encodes-chars, IsUtf8-string_bytes}
use Rattle.std.proofs.Math.Utf8.{encodes}
use Rattle.edge_io.specs.Files.{InOrder, files_of, paths_of}
use Rattle.py_values.specs.Names.{name_eq}
use Rattle.py_world.specs.World.{CodedSource}
use Rattle.py_world.specs.Runs.{source_at}
use Rattle.assert_rewrite.specs.source_meaning.Requests.{Script}
use Rattle.py_load.specs.Reading.{ReadFile, AreRead}
use Rattle.py_load.specs.Prepared.{source_of_read}

abbrev pub Pair : Type 0
Pair = String Global × Vec ℕ Global

Less≢Equal : Less ≡ Equal → ⊥
Less≢Equal e = cc

-- a path is not before itself
not_before : (p q : List ℕ) → slice_cmp nat_cmp p q ≡ Less → q ≡ p → ⊥
not_before p q less e = Less≢Equal (sym less ∙ (ap (slice_cmp nat_cmp p) e ∙ tied_itself nat_list_cmp_total p))

behind_all : (P : List ℕ → Type 0) (ps : List (List ℕ)) (p : List ℕ) (rest : List (List ℕ)) → AllByRecursion P (ps ++ p ∷ rest) → P p
behind_all P [] p rest h = h.0
behind_all P (q ∷ ps) p rest h = behind_all P ps p rest h.1

-- texts with the same characters are the same
same_text : (p q : List ℕ) → IsUtf8 p → IsUtf8 q → chars p ≡ chars q → p ≡ q
same_text p q h k e = sym (encodes-chars p h) ∙ (ap encodes e ∙ encodes-chars q k)

other_name : (b : Bool) (p q : List ℕ) → name_eq p q ≡ b → (p ≡ q → ⊥) → b ≡ false
other_name true p q e h = absurd (h ((bytes_eq-Decides p q).0 e))
other_name false p q e h = refl

passed : (b : Bool) (x : CodedSource Script) (o : Option (CodedSource Script)) → b ≡ false → o ≡ None → cond b (Some x) o ≡ None
passed b x o e h = rw (e, h) refl

-- no file in front of a path has it
pub front_absent : (named : List (List ℕ)) (front : List Pair) (rest : List (List ℕ)) (path : List ℕ) (reads : List ReadFile) → IsUtf8 path → InOrder (paths_of (files_of front) ++ path ∷ rest) → AreRead (files_of front) reads
    → source_at (chars path) (map (source_of_read named) reads) ≡ None
front_absent named [] rest path [] u order h = refl
front_absent named [] rest path (r ∷ rs) u order h = elim h [ ]
front_absent named (p ∷ ps) rest path [] u order h = elim h [ ]
front_absent named (p ∷ ps) rest path (r ∷ rs) u order h =
    let first = string_bytes p.0 in
    let same : r.0 ≡ first = h.0 in
    let less = behind_all (λ q. slice_cmp nat_cmp first q ≡ Less) (paths_of (files_of ps)) path rest (sorted_head (slice_cmp nat_cmp) first (paths_of (files_of ps) ++ path ∷ rest) order) in
    let other : chars path ≡ chars r.0 → ⊥ = λ e. not_before first path less (same_text path first u (IsUtf8-string_bytes p.0) (e ∙ ap chars same)) in
    passed (name_eq (chars path) (chars r.0)) (source_of_read named r) (source_at (chars path) (map (source_of_read named) rs))
    (other_name (name_eq (chars path) (chars r.0)) (chars path) (chars r.0) refl other)
    (front_absent named ps rest path rs u (sorted_tail (slice_cmp nat_cmp) first (paths_of (files_of ps) ++ path ∷ rest) order) h.2)
