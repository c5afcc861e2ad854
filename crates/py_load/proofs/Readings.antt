-- Files are read in one way, and no other.
use Rattle.std.proofs.Common.{◌≡◌, ◌∙◌, ℕ, List, [], ◌∷◌, ◌++◌, refl, sym, ap}
use Rattle.std.specs.Prelude.{Result}
use Rattle.edge_io.specs.Files.{File}
use Rattle.file_source.specs.Sources.{HoldsSource, IsSource, ReadSource}
use Rattle.py_source.specs.declared.fault.SourceFault.{SourceFault}
use Rattle.py_tree.specs.Statements.{Block}
use Rattle.py_load.specs.Reading.{ReadFile, AreRead}

abbrev pub Said : Type 0
Said = Result Block SourceFault

abbrev pub OneSource : Type 0
OneSource = (bytes : List ℕ) (a b : Said) → IsSource bytes a → IsSource bytes b → a ≡ b

abbrev pub HasSource : Type 0
HasSource = (bytes : List ℕ) → (said : Said) × IsSource bytes said

abbrev pub read_as : List ℕ → List ℕ → Said → ReadFile
read_as path bytes said = (path, (bytes, said))

parts : (p q b c : List ℕ) (s t : Said) → p ≡ q → b ≡ c → s ≡ t → read_as p b s ≡ read_as q c t
parts p q b c s t e f g =
    ap (λ (path : List ℕ). read_as path b s) e ∙ (ap (λ (bytes : List ℕ). read_as q bytes s) f ∙ ap (read_as q c) g)

one_read : OneSource → (file : File) (a b : ReadFile) → a.0 ≡ file.0 → HoldsSource file.1 a.1 → b.0 ≡ file.0 → HoldsSource file.1 b.1 → a ≡ b
one_read one file a b e h f k =
    parts a.0 b.0 a.1.0 b.1.0 a.1.1 b.1.1 (e ∙ sym f) (h.0 ∙ sym k.0) (one file.1 a.1.1 b.1.1 h.1 k.1)

pub one_list : OneSource → (files : List File) (a b : List ReadFile) → AreRead files a → AreRead files b → a ≡ b
one_list one [] [] [] h k = refl
one_list one [] [] (y ∷ ys) h k = elim k [ ]
one_list one [] (x ∷ xs) b h k = elim h [ ]
one_list one (f ∷ fs) [] b h k = elim h [ ]
one_list one (f ∷ fs) (x ∷ xs) [] h k = elim k [ ]
one_list one (f ∷ fs) (x ∷ xs) (y ∷ ys) h k =
    ap (λ (r : ReadFile). r ∷ xs) (one_read one f x y h.0 h.1 k.0 k.1) ∙ ap (λ (rs : List ReadFile). y ∷ rs) (one_list one fs xs ys h.2 k.2)

pub some_list : HasSource → (files : List File) → (reads : List ReadFile) × AreRead files reads
some_list has [] = ([], tt)
some_list has (f ∷ fs) =
    let said = has f.1 in
    let rest = some_list has fs in
    (read_as f.0 f.1 said.0 ∷ rest.0, (refl, (refl, said.1), rest.1))

-- lists of files, one behind the other
pub both_read : (fs gs : List File) (rs ts : List ReadFile) → AreRead fs rs → AreRead gs ts → AreRead (fs ++ gs) (rs ++ ts)
both_read [] gs [] ts h k = k
both_read [] gs (r ∷ rs) ts h k = elim h [ ]
both_read (f ∷ fs) gs [] ts h k = elim h [ ]
both_read (f ∷ fs) gs (r ∷ rs) ts h k = (h.0, h.1, both_read fs gs rs ts h.2 k)

-- one file, read
pub one_of : (path bytes : List ℕ) (said : Said) → IsSource bytes said → AreRead ((path, bytes) ∷ []) (read_as path bytes said ∷ [])
one_of path bytes said h = (refl, (refl, h), tt)
