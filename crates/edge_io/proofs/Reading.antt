use Rattle.std.proofs.Common.{◌≡◌, ℕ, ◌+◌, ◌<◌, ◌≤◌, List, [], ◌∷◌, ◌++◌, map, Option, Some, None, length, take, drop, refl, sym, subst, ap, ◌∙◌, arith, get_or, min, Global, append_assoc, zero, suc}
use Rattle.std.specs.Prelude.{IsSome, IfSome, All, unwrap_or, string_bytes, String}
use Rattle.std.proofs.lemmas.Bool.{false≢true}
use Rattle.std.proofs.lemmas.List.{get_or-map, length-map, length-take, append-nil, map-append}
use Rattle.edge_io.specs.Files.{File, TreeLimit, file_at, file_most, limit_at, size_limit, sooner, with_bytes}

-- the path at a place of a list of them names a file
pub at_path : (fs : List File) (paths : List (String Global)) (i : ℕ) (p : String Global) → i < length paths → p ≡ get_or paths i p → All (λ q. IsSome (file_at q fs)) (map string_bytes paths) → IsSome (file_at (string_bytes p) fs)
at_path fs paths i p l e all =
    let P : List ℕ → Type 0 = λ q. IsSome (file_at q fs) in
    subst P (get_or-map string_bytes paths i p (string_bytes p) l ∙ ap string_bytes (sym e)) (all i (string_bytes p) (rw length-map l))

take-nil : (n : ℕ) → take n (let e : List ℕ = [] in e) ≡ []
take-nil zero = refl
take-nil (suc n) = refl

take_all : (n : ℕ) (w : List ℕ) → length w ≤ n → take n w ≡ w
take_all n [] h = take-nil n
take_all zero (x ∷ xs) h = absurd (omega arith)
take_all (suc n) (x ∷ xs) h = ap (λ ys. x ∷ ys) (take_all n xs (omega arith))

short_take : (bytes w : List ℕ) (n : ℕ) → bytes ≡ take n w → length bytes < n → w ≡ bytes
short_take bytes w n e l =
    let long : length w ≤ n = grind (arith, length-take n w, ap length e) in
    sym (e ∙ take_all n w long)

whole_at : (o : Option (List ℕ)) (bytes : List ℕ) (n : ℕ) → IsSome o → IfSome o (λ w. bytes ≡ take n w) → length bytes < n → o ≡ Some bytes
whole_at None bytes n s h l = absurd (false≢true s)
whole_at (Some w) bytes n s h l = ap Some (short_take bytes w n h l)

-- a file of which fewer bytes came than were asked for was read whole
pub read_whole : (tree : Option (List File)) (path asked bytes : List ℕ) (n : ℕ) → asked ≡ path → ((x : List File) → tree ≡ Some x → IsSome (file_at path x)) → IfSome tree (λ fs. IfSome (file_at asked fs) (λ w. bytes ≡ take n w)) → length bytes < n → IfSome tree (λ fs. file_at path fs ≡ Some bytes)
read_whole None path asked bytes n a s h l = tt
read_whole (Some fs) path asked bytes n a s h l = whole_at (file_at path fs) bytes n (s fs refl) (subst (λ p. IfSome (file_at p fs) (λ w. bytes ≡ take n w)) a h) l

cut_size : (o : Option (List ℕ)) (bytes : List ℕ) (n : ℕ) (P : List ℕ → Type 0) → IfSome o (λ w. bytes ≡ take n w) → ((w : List ℕ) → length bytes ≡ min (length w) n → P w) → IfSome o P
cut_size None bytes n P h k = tt
cut_size (Some w) bytes n P h k = k w (ap length h ∙ grind (arith, length-take n w))

-- the limit that a file passes, of which the first bytes were read
pub cut_limit : (tree : Option (List File)) (path asked bytes : List ℕ) (before size : ℕ) (limit : Option TreeLimit) → asked ≡ path → size ≡ length bytes → IfSome tree (λ fs. IfSome (file_at asked fs) (λ w. bytes ≡ take (file_most + 1) w)) → IfSome limit (λ l. (whole : List ℕ) → size ≡ min (length whole) (file_most + 1) → limit_at before (path, whole) ≡ Some l) → IfSome limit (λ l. IfSome tree (λ fs. IfSome (file_at path fs) (λ whole. limit_at before (path, whole) ≡ Some l)))
cut_limit tree path asked bytes before size None a e h k = tt
cut_limit None path asked bytes before size (Some l) a e h k = tt
cut_limit (Some fs) path asked bytes before size (Some l) a e h k =
    cut_size (file_at path fs) bytes (file_most + 1) (λ whole. limit_at before (path, whole) ≡ Some l) (subst (λ p. IfSome (file_at p fs) (λ w. bytes ≡ take (file_most + 1) w)) a h) (λ w s. k w (e ∙ s))

-- all sizes up to a file, and those behind it
pub sizes_more : (files : List File) (sum : ℕ) (file : File) → ((rest : List File) → size_limit 0 (files ++ rest) ≡ size_limit sum rest) → limit_at sum file ≡ None → (rest : List File) → size_limit 0 ((files ++ file ∷ []) ++ rest) ≡ size_limit (sum + length file.1) rest
sizes_more files sum file h none rest =
    ap (size_limit 0) (append_assoc files (file ∷ []) rest) ∙ (h (file ∷ rest) ∙ ap (λ l. sooner l (size_limit (sum + length file.1) rest)) none)

-- the files that were read pass no limit
pub sizes_all : (files : List File) (sum : ℕ) → ((rest : List File) → size_limit 0 (files ++ rest) ≡ size_limit sum rest) → size_limit 0 files ≡ None
sizes_all files sum h = ap (size_limit 0) (sym (append-nil files)) ∙ h []

with_bytes-append : (fs : List File) (ps qs : List (List ℕ)) → with_bytes fs (ps ++ qs) ≡ with_bytes fs ps ++ with_bytes fs qs
with_bytes-append fs ps qs = map-append (λ path. (path, unwrap_or (file_at path fs) [])) ps qs

-- one more file was read
pub read_more : (tree : Option (List File)) (files : List File) (paths : List (List ℕ)) (path bytes : List ℕ) → IfSome tree (λ fs. files ≡ with_bytes fs paths) → IfSome tree (λ fs. file_at path fs ≡ Some bytes) → IfSome tree (λ fs. files ++ (path, bytes) ∷ [] ≡ with_bytes fs (paths ++ path ∷ []))
read_more None files paths path bytes h k = tt
read_more (Some fs) files paths path bytes h k =
    sym (with_bytes-append fs paths (path ∷ []) ∙ (ap (λ xs. xs ++ (path, unwrap_or (file_at path fs) []) ∷ []) (sym h) ∙ ap (λ o. files ++ (path, unwrap_or o []) ∷ []) k))

value_limit : (o : Option (List ℕ)) (path : List ℕ) (before : ℕ) (l : TreeLimit) → IsSome o → IfSome o (λ whole. limit_at before (path, whole) ≡ Some l) → limit_at before (path, unwrap_or o []) ≡ Some l
value_limit None path before l s h = absurd (false≢true s)
value_limit (Some w) path before l s h = h

-- a file in the middle passes a limit, and none before it
pub limit_in_middle : (tree : Option (List File)) (limit : Option TreeLimit) (files : List File) (sum : ℕ) (paths front behind : List (List ℕ)) (path : List ℕ) → paths ≡ front ++ path ∷ behind → IfSome tree (λ fs. files ≡ with_bytes fs front) → ((rest : List File) → size_limit 0 (files ++ rest) ≡ size_limit sum rest) → ((x : List File) → tree ≡ Some x → IsSome (file_at path x)) → IfSome limit (λ l. IfSome tree (λ fs. IfSome (file_at path fs) (λ whole. limit_at sum (path, whole) ≡ Some l))) → IfSome limit (λ l. IfSome tree (λ fs. size_limit 0 (with_bytes fs paths) ≡ Some l))
limit_in_middle tree None files sum paths front behind path e read sizes some h = tt
limit_in_middle None (Some l) files sum paths front behind path e read sizes some h = tt
limit_in_middle (Some fs) (Some l) files sum paths front behind path e read sizes some h =
    let file : File = (path, unwrap_or (file_at path fs) []) in
    let parts : with_bytes fs paths ≡ files ++ file ∷ with_bytes fs behind = ap (with_bytes fs) e ∙ (with_bytes-append fs front (path ∷ behind) ∙ ap (λ xs. xs ++ file ∷ with_bytes fs behind) (sym read)) in
    ap (size_limit 0) parts ∙ (sizes (file ∷ with_bytes fs behind) ∙ ap (λ o. sooner o (size_limit (sum + length file.1) (with_bytes fs behind))) (value_limit (file_at path fs) path sum l (some fs refl) h))

-- the paths before a place, the one there and those behind it
pub cut_at : (paths : List (String Global)) (i : ℕ) (p : String Global) → i < length paths → p ≡ get_or paths i p → map string_bytes paths ≡ map string_bytes (take i paths) ++ string_bytes p ∷ map string_bytes (drop (suc i) paths)
cut_at [] i p l e = absurd (omega arith)
cut_at (x ∷ xs) zero p l e = ap (λ y. string_bytes y ∷ map string_bytes xs) (sym e)
cut_at (x ∷ xs) (suc i) p l e = ap (λ ys. string_bytes x ∷ ys) (cut_at xs i p (omega arith) e)
