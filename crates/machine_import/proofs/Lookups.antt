-- The paths that imports look for, in characters and in UTF-8.
use Rattle.std.proofs.Common.{◌≡◌, ◌<◌, ◌≤◌, ◌+◌, ◌-◌, ◌∙◌, ℕ, zero, suc, List, [], ◌∷◌, ◌++◌, length, drop, take, map, get_or, Option, Some, None, Bool, true, false, cond, refl, sym, ap, subst, arith}
use Rattle.std.proofs.Common.{All}
use Rattle.std.specs.Prelude.{◌==◌, ◌||◌, ◌/◌, ltb, bytes_eq, codes, encode_utf8, encode_utf8_all, is_some, option_map, slice_get}
use Rattle.std.specs.List.{flat_map, list_any}
use Rattle.std.specs.Option.{option_or}
use Rattle.std.specs.Cmp.Lexicographic.{same_text}
use Rattle.std.proofs.Math.Utf8.{encode, next}
use Rattle.std.proofs.lemmas.Bool.{ne_eqb, eqb-true, false≢true}
use Rattle.std.proofs.lemmas.List.{append-nil, append_assoc, take_rest}
use Rattle.std.proofs.lemmas.Slice.Eq.{bytes_eq-Decides}
use Rattle.std.proofs.lemmas.Str.{chars-encodes, encodes-append}
use Rattle.std.specs.Str.{chars}
use Rattle.py_bind.specs.Modules.{candidates, folder_of, module_path, module_place, path_part, place_of, slashed}
use Rattle.py_core.specs.declared.stmt.Core.{Core}
use Rattle.py_values.specs.Names.{name_eq}
use Rattle.machine_state.specs.py_world.Imports.{import_path, path_at, source_paths}
use Rattle.machine_state.specs.py_world.Runs.{source_at}
use Rattle.machine_state.specs.py_world.World.{CodedSource}
use Rattle.machine_state.specs.Spelled.{is_text}
use Rattle.machine_import.specs.Lookups.{Leads, path_letters, place_among, slashed_letters, slashed_part}

-- a dotted name with its first part shown
pub slashed_cut : (names : List (List ℕ)) (first : List ℕ) → 1 ≤ length names → first ≡ get_or names 0 first → slashed_letters names ≡ first ++ flat_map slashed_part (take (length names - 1) (drop 1 names))
slashed_cut [] first some is = absurd (omega (arith, some))
slashed_cut (name ∷ names) first some is =
    ap (λ (n : List ℕ). n ++ flat_map slashed_part names) (sym is)
    ∙ ap (λ (ns : List (List ℕ)). first ++ flat_map slashed_part ns) (sym (take_rest (name ∷ names) 1))

pub slashed_none : (names : List (List ℕ)) → length names < 1 → slashed_letters names ≡ []
slashed_none [] none = refl
slashed_none (name ∷ names) none = absurd (omega arith)

-- ONE PATH: texts are the same where their bytes are
same_bytes : (q p : List ℕ) → is_text q ≡ true → is_text p ≡ true → encode_utf8_all q ≡ encode_utf8_all p → q ≡ p
same_bytes q p t u e = sym (chars-encodes q t) ∙ ap chars e ∙ chars-encodes p u

bytes_by : (a b : Bool) (q p : List ℕ) → is_text q ≡ true → is_text p ≡ true → bytes_eq (encode_utf8_all q) (encode_utf8_all p) ≡ a → name_eq q p ≡ b → a ≡ b
bytes_by true true q p t u h g = refl
bytes_by false false q p t u h g = refl
bytes_by true false q p t u h g = sym (sym g ∙ (bytes_eq-Decides q p).1 (same_bytes q p t u ((bytes_eq-Decides (encode_utf8_all q) (encode_utf8_all p)).0 h)))
bytes_by false true q p t u h g = sym h ∙ (bytes_eq-Decides (encode_utf8_all q) (encode_utf8_all p)).1 (ap encode_utf8_all (same_text q p (sym g)))

bytes_name : (q p : List ℕ) → is_text q ≡ true → is_text p ≡ true → bytes_eq (encode_utf8_all q) (encode_utf8_all p) ≡ name_eq q p
bytes_name q p t u = bytes_by (bytes_eq (encode_utf8_all q) (encode_utf8_all p)) (name_eq q p) q p t u refl refl

-- a path leads where there is a source of it
abbrev there : List ℕ → Option (CodedSource Core) → Option (List ℕ)
there q o = option_map (λ (x : CodedSource Core). q) o

leads_on : (p : List ℕ) (ps : List (List ℕ)) (o : Option ℕ) (r : Option (List ℕ)) → path_at ps o ≡ r → is_some o ≡ is_some r → (path_at (p ∷ ps) (option_map suc o) ≡ r) × (is_some (option_map suc o) ≡ is_some r)
leads_on p ps None r h g = (h, g)
leads_on p ps (Some at) r h g = (h, g)

leads_by : (b : Bool) (q : List ℕ) (x : CodedSource Core) (xs : List (CodedSource Core)) → name_eq q x.path ≡ b → Leads xs (place_among xs q) (there q (source_at q xs))
    → Leads (x ∷ xs) (cond b (Some 0) (option_map suc (place_among xs q))) (there q (cond b (Some x) (source_at q xs)))
leads_by true q x xs e h = (ap (λ (p : List ℕ). Some p) (sym (same_text q x.path (sym e))), refl)
leads_by false q x xs e h = leads_on x.path (source_paths xs) (place_among xs q) (there q (source_at q xs)) h.0 h.1

texts_tail : (x : CodedSource Core) (xs : List (CodedSource Core)) → All (λ (y : CodedSource Core). is_text y.path ≡ true) (x ∷ xs) → All (λ (y : CodedSource Core). is_text y.path ≡ true) xs
texts_tail x xs h k d w = h (suc k) d (omega arith)

leads : (q : List ℕ) (xs : List (CodedSource Core)) → is_text q ≡ true → All (λ (y : CodedSource Core). is_text y.path ≡ true) xs → Leads xs (place_among xs q) (there q (source_at q xs))
leads q [] t h = (refl, refl)
leads q (x ∷ xs) t h =
    let one : is_text x.path ≡ true = h 0 x (omega arith) in
    let rest : Leads xs (place_among xs q) (there q (source_at q xs)) = leads q xs t (texts_tail x xs h) in
    let by : Leads (x ∷ xs) (cond (name_eq q x.path) (Some 0) (option_map suc (place_among xs q))) (there q (cond (name_eq q x.path) (Some x) (source_at q xs))) = leads_by (name_eq q x.path) q x xs refl rest in
    let same : place_among (x ∷ xs) q ≡ cond (name_eq q x.path) (Some 0) (option_map suc (place_among xs q)) = ap (λ (b : Bool). cond b (Some 0) (option_map suc (place_among xs q))) (bytes_name q x.path t one) in
    (ap (path_at (source_paths (x ∷ xs))) same ∙ by.0, ap (λ (o : Option ℕ). is_some o) same ∙ by.1)

pub leads_there : (q : List ℕ) (xs : List (CodedSource Core)) (x : CodedSource Core) → is_text q ≡ true → All (λ (y : CodedSource Core). is_text y.path ≡ true) xs → Some x ≡ source_at q xs → Leads xs (place_among xs q) (Some q)
leads_there q xs x t h e =
    let l : Leads xs (place_among xs q) (there q (source_at q xs)) = leads q xs t h in
    let r : there q (source_at q xs) ≡ Some q = ap (there q) (sym e) in
    (l.0 ∙ r, l.1 ∙ ap (λ (o : Option (List ℕ)). is_some o) r)

pub leads_nowhere : (q : List ℕ) (xs : List (CodedSource Core)) → is_text q ≡ true → All (λ (y : CodedSource Core). is_text y.path ≡ true) xs → None ≡ source_at q xs → Leads xs (place_among xs q) None
leads_nowhere q xs t h e =
    let l : Leads xs (place_among xs q) (there q (source_at q xs)) = leads q xs t h in
    let r : there q (source_at q xs) ≡ None = ap (there q) (sym e) in
    (l.0 ∙ r, l.1 ∙ ap (λ (o : Option (List ℕ)). is_some o) r)

-- the first of two
pub leads_first : (xs : List (CodedSource Core)) (o n : Option ℕ) (path : List ℕ) → Leads xs o (Some path) → Leads xs (option_or o n) (Some path)
leads_first xs None n path h = absurd (false≢true h.1)
leads_first xs (Some at) n path h = h

pub leads_second : (xs : List (CodedSource Core)) (o n : Option ℕ) (r : Option (List ℕ)) → Leads xs o None → Leads xs n r → Leads xs (option_or o n) r
leads_second xs None n r h g = g
leads_second xs (Some at) n r h g = absurd (false≢true (sym h.1))

-- A PATH IN UTF-8
slash_bytes : encode_utf8_all (codes "/") ≡ codes "/"
unfolding encode
slash_bytes = refl

part_bytes : (names : List (List ℕ)) → encode_utf8_all (flat_map slashed_part names) ≡ flat_map path_part names
part_bytes [] = refl
part_bytes (name ∷ names) =
    encodes-append (slashed_part name) (flat_map slashed_part names)
    ∙ (λ i. (encodes-append (codes "/") name ∙ ap (λ (bs : List ℕ). bs ++ encode_utf8_all name) slash_bytes) i ++ part_bytes names i)

slashed_bytes : (dotted : List (List ℕ)) → encode_utf8_all (slashed_letters dotted) ≡ slashed dotted
slashed_bytes [] = refl
slashed_bytes (name ∷ names) = encodes-append name (flat_map slashed_part names) ∙ ap (λ (bs : List ℕ). encode_utf8_all name ++ bs) (part_bytes names)

path_bytes : (folder : List ℕ) (dotted : List (List ℕ)) (end : List ℕ) → encode_utf8_all end ≡ end → encode_utf8_all (path_letters folder dotted end) ≡ module_path (encode_utf8_all folder) dotted end
path_bytes folder dotted end same =
    encodes-append (folder ++ slashed_letters dotted) end
    ∙ (λ i. encodes-append folder (slashed_letters dotted) i ++ same i)
    ∙ append_assoc (encode_utf8_all folder) (encode_utf8_all (slashed_letters dotted)) end
    ∙ ap (λ (bs : List ℕ). encode_utf8_all folder ++ (bs ++ end)) (slashed_bytes dotted)

package_bytes : encode_utf8_all (codes "/__init__.py") ≡ codes "/__init__.py"
unfolding encode
package_bytes = refl

module_bytes : encode_utf8_all (codes ".py") ≡ codes ".py"
unfolding encode
module_bytes = refl

-- its folder: no byte of another character is a `/`
abbrev is_slash : ℕ → Bool
is_slash d = d == 47

abbrev has_slash : List ℕ → Bool
has_slash = list_any is_slash

high : (n : ℕ) → 128 ≤ n → is_slash n ≡ false
high n h = ne_eqb n 47 (λ e. absurd (omega (arith, e, h)))

slash_append_by : (b : Bool) (xs ys : List ℕ) → has_slash (xs ++ ys) ≡ (has_slash xs || has_slash ys) → (b || has_slash (xs ++ ys)) ≡ ((b || has_slash xs) || has_slash ys)
slash_append_by true xs ys h = refl
slash_append_by false xs ys h = h

slash_append : (xs ys : List ℕ) → has_slash (xs ++ ys) ≡ (has_slash xs || has_slash ys)
slash_append [] ys = refl
slash_append (x ∷ xs) ys = slash_append_by (is_slash x) xs ys (slash_append xs ys)

neither : (a b : Bool) → (a || b) ≡ false → (a ≡ false) × (b ≡ false)
neither true b h = absurd cc
neither false b h = (refl, h)

twice : (b : Bool) (x : ℕ) (xs : List ℕ) → cond b (x ∷ xs) [] ≡ cond b (cond b (x ∷ xs) []) []
twice true x xs = refl
twice false x xs = refl

folder_self : (xs : List ℕ) → folder_of xs ≡ cond (has_slash xs) (folder_of xs) []
folder_self [] = refl
folder_self (x ∷ xs) = twice (has_slash (x ∷ xs)) x (folder_of xs)

within_both : (r : Bool) (b : ℕ) (bs f : List ℕ) → cond r (b ∷ cond r (bs ++ f) []) [] ≡ cond r (b ∷ (bs ++ f)) []
within_both true b bs f = refl
within_both false b bs f = refl

folder_behind : (bs rest : List ℕ) → has_slash bs ≡ false → folder_of (bs ++ rest) ≡ cond (has_slash rest) (bs ++ folder_of rest) []
folder_behind [] rest h = folder_self rest
folder_behind (b ∷ bs) rest h =
    let n : (is_slash b ≡ false) × (has_slash bs ≡ false) = neither (is_slash b) (has_slash bs) h in
    let r : has_slash (bs ++ rest) ≡ has_slash rest = slash_append bs rest ∙ ap (λ (t : Bool). t || has_slash rest) n.1 in
    let f : folder_of (bs ++ rest) ≡ cond (has_slash rest) (bs ++ folder_of rest) [] = folder_behind bs rest n.1 in
    (λ i. cond (n.0 i || r i) (b ∷ f i) []) ∙ within_both (has_slash rest) b bs (folder_of rest)

-- the bytes of a character that is none
bytes_by_length : (c : ℕ) (one two three : Bool) → is_slash c ≡ false
    → has_slash (cond one (c ∷ []) (cond two ((192 + c / 64) ∷ next c ∷ []) (cond three ((224 + c / 4096) ∷ next (c / 64) ∷ next c ∷ []) ((240 + c / 262144) ∷ next (c / 4096) ∷ next (c / 64) ∷ next c ∷ [])))) ≡ false
bytes_by_length c true two three h = ap (λ (b : Bool). b || false) h
bytes_by_length c false true three h = λ i. high (192 + c / 64) (omega arith) i || (high (next c) (omega arith) i || false)
bytes_by_length c false false true h = λ i. high (224 + c / 4096) (omega arith) i || (high (next (c / 64)) (omega arith) i || (high (next c) (omega arith) i || false))
bytes_by_length c false false false h = λ i. high (240 + c / 262144) (omega arith) i || (high (next (c / 4096)) (omega arith) i || (high (next (c / 64)) (omega arith) i || (high (next c) (omega arith) i || false)))

other_bytes : (c : ℕ) → is_slash c ≡ false → has_slash (encode c) ≡ false
unfolding encode
other_bytes c h = bytes_by_length c (ltb c 128) (ltb c 2048) (ltb c 65536) h

slash_encoded : encode 47 ≡ 47 ∷ []
unfolding encode
slash_encoded = refl

has_slash_by : (c : ℕ) (b : Bool) (path : List ℕ) → is_slash c ≡ b → has_slash (encode_utf8_all path) ≡ has_slash path → has_slash (encode c ++ encode_utf8_all path) ≡ (b || has_slash path)
has_slash_by c true path e h =
    let same : c ≡ 47 = eqb-true c 47 e in
    ap (λ (x : ℕ). has_slash (encode x ++ encode_utf8_all path)) same ∙ ap (λ (bs : List ℕ). has_slash (bs ++ encode_utf8_all path)) slash_encoded
has_slash_by c false path e h = slash_append (encode c) (encode_utf8_all path) ∙ (λ i. other_bytes c e i || h i)

has_slash_bytes : (path : List ℕ) → has_slash (encode_utf8_all path) ≡ has_slash path
has_slash_bytes [] = refl
has_slash_bytes (c ∷ path) = has_slash_by c (is_slash c) path refl (has_slash_bytes path)

encoded_by : (b : Bool) (c : ℕ) (f : List ℕ) → cond b (encode c ++ encode_utf8_all f) [] ≡ encode_utf8_all (cond b (c ∷ f) [])
encoded_by true c f = refl
encoded_by false c f = refl

folder_by : (c : ℕ) (b : Bool) (path : List ℕ) → is_slash c ≡ b → folder_of (encode_utf8_all path) ≡ encode_utf8_all (folder_of path)
    → folder_of (encode c ++ encode_utf8_all path) ≡ encode_utf8_all (cond (b || has_slash path) (c ∷ folder_of path) [])
folder_by c true path e h =
    let same : c ≡ 47 = eqb-true c 47 e in
    ap (λ (x : ℕ). folder_of (encode x ++ encode_utf8_all path)) same ∙ ap (λ (bs : List ℕ). folder_of (bs ++ encode_utf8_all path)) slash_encoded
    ∙ ap (λ (f : List ℕ). 47 ∷ f) h ∙ ap (λ (bs : List ℕ). bs ++ encode_utf8_all (folder_of path)) (sym slash_encoded)
    ∙ ap (λ (x : ℕ). encode x ++ encode_utf8_all (folder_of path)) (sym same)
folder_by c false path e h =
    folder_behind (encode c) (encode_utf8_all path) (other_bytes c e)
    ∙ (λ i. cond (has_slash_bytes path i) (encode c ++ h i) [])
    ∙ encoded_by (has_slash path) c (folder_of path)

folder_bytes : (path : List ℕ) → folder_of (encode_utf8_all path) ≡ encode_utf8_all (folder_of path)
folder_bytes [] = refl
folder_bytes (c ∷ path) = folder_by c (is_slash c) path refl (folder_bytes path)

-- THE PATH THAT AN IMPORT NAMES is the first of the four of which there is a source
module _ (xs : List (CodedSource Core)) where
  -- the place of a package or of a module in a folder
  abbrev pub either_place : List ℕ → List (List ℕ) → Option ℕ
  either_place folder dotted = option_or (place_among xs (path_letters folder dotted (codes "/__init__.py"))) (place_among xs (path_letters folder dotted (codes ".py")))

  either_is : (folder : List ℕ) (dotted : List (List ℕ)) → either_place folder dotted
      ≡ option_or (place_of (map encode_utf8_all (source_paths xs)) (module_path (encode_utf8_all folder) dotted (codes "/__init__.py"))) (place_of (map encode_utf8_all (source_paths xs)) (module_path (encode_utf8_all folder) dotted (codes ".py")))
  either_is folder dotted = λ i. option_or (place_of (map encode_utf8_all (source_paths xs)) (path_bytes folder dotted (codes "/__init__.py") package_bytes i)) (place_of (map encode_utf8_all (source_paths xs)) (path_bytes folder dotted (codes ".py") module_bytes i))

  four : (a b c d : Option ℕ) → option_or (option_or a b) (option_or c d) ≡ option_or a (option_or b (option_or c (option_or d None)))
  four (Some n) b c d = refl
  four None (Some n) c d = refl
  four None None (Some n) d = refl
  four None None None (Some n) = refl
  four None None None None = refl

  import_place : (importer : List ℕ) (dotted : List (List ℕ)) → option_or (either_place (folder_of importer) dotted) (either_place [] dotted) ≡ module_place (map encode_utf8_all (source_paths xs)) (encode_utf8_all importer) dotted
  import_place importer dotted =
      (λ i. option_or (either_is (folder_of importer) dotted i) (either_is [] dotted i))
      ∙ ap (λ (f : List ℕ). option_or (option_or (place_of (map encode_utf8_all (source_paths xs)) (module_path f dotted (codes "/__init__.py"))) (place_of (map encode_utf8_all (source_paths xs)) (module_path f dotted (codes ".py"))))
      (option_or (place_of (map encode_utf8_all (source_paths xs)) (module_path [] dotted (codes "/__init__.py"))) (place_of (map encode_utf8_all (source_paths xs)) (module_path [] dotted (codes ".py"))))) (sym (folder_bytes importer))
      ∙ four (place_of (map encode_utf8_all (source_paths xs)) (module_path (folder_of (encode_utf8_all importer)) dotted (codes "/__init__.py"))) (place_of (map encode_utf8_all (source_paths xs)) (module_path (folder_of (encode_utf8_all importer)) dotted (codes ".py")))
      (place_of (map encode_utf8_all (source_paths xs)) (module_path [] dotted (codes "/__init__.py"))) (place_of (map encode_utf8_all (source_paths xs)) (module_path [] dotted (codes ".py")))

  import_by : (importer : List ℕ) (dotted : List (List ℕ)) (r : Option (List ℕ)) → Leads xs (option_or (either_place (folder_of importer) dotted) (either_place [] dotted)) r → r ≡ import_path (source_paths xs) importer dotted
  import_by importer dotted r h = sym h.0 ∙ ap (path_at (source_paths xs)) (import_place importer dotted)

  pub import_first : (importer folder a b : List ℕ) (dotted : List (List ℕ)) (path : List ℕ) → folder ≡ folder_of a → a ≡ b → b ≡ importer → Leads xs (either_place folder dotted) (Some path) → Some path ≡ import_path (source_paths xs) importer dotted
  import_first importer folder a b dotted path is chars here h =
      let same : folder ≡ folder_of importer = is ∙ ap folder_of (chars ∙ here) in
      let first : Leads xs (either_place (folder_of importer) dotted) (Some path) = subst (λ (f : List ℕ). Leads xs (either_place f dotted) (Some path)) same h in
      import_by importer dotted (Some path) (leads_first xs (either_place (folder_of importer) dotted) (either_place [] dotted) path first)

  pub import_second : (importer folder a b : List ℕ) (dotted : List (List ℕ)) (r : Option (List ℕ)) → folder ≡ folder_of a → a ≡ b → b ≡ importer → Leads xs (either_place folder dotted) None → Leads xs (either_place [] dotted) r
      → r ≡ import_path (source_paths xs) importer dotted
  import_second importer folder a b dotted r is chars here h g =
      let same : folder ≡ folder_of importer = is ∙ ap folder_of (chars ∙ here) in
      let first : Leads xs (either_place (folder_of importer) dotted) None = subst (λ (f : List ℕ). Leads xs (either_place f dotted) None) same h in
      import_by importer dotted r (leads_second xs (either_place (folder_of importer) dotted) (either_place [] dotted) r first g)
