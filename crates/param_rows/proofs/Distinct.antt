-- What is made of a list of ids differs.
use Rattle.std.proofs.Common.{◌≡◌, ◌≢◌, ℕ, ◌+◌, ◌^◌, ◌<◌, ◌≤◌, Bool, true, false, List, [], ◌∷◌, ◌++◌, length, suc, refl, ap, sym, subst, ◌∙◌, arith, inl, inr, ◌⊎◌, get_or, drop}
use Rattle.std.specs.Prelude.{All, AllPairs, count_by}
use Rattle.std.specs.List.{filter}
use Rattle.std.proofs.lemmas.Bool.{cases_Bool, false≢true, false_from_ne_true, or_parts, lt-ltb, or_left, or_right}
use Rattle.std.proofs.lemmas.List.{append-nil, append_assoc, length-append, length_push, drop_more, drop_all}
use Rattle.std.proofs.lemmas.List.Elements.{All-push, All-nil, All-weaker, filter-append}
use Rattle.std.proofs.lemmas.List.Folds.{list_any-append, list_any_none, list_any_at}
use Rattle.std.proofs.lemmas.List.Sums.{length-filter}
use Rattle.std.proofs.lemmas.List.Quantifiers.{all_pairs_push}
use Rattle.param_rows.specs.Ids.{Id, same_id, has_id, is_repeated, first_free, made_of, made_from, unique_of}
use Rattle.param_rows.proofs.Free.{same_id-Decides, first_free_is}

same_id-refl : (id : Id) → same_id id id ≡ true
same_id-refl id = (same_id-Decides id id).1 refl

has_behind : (id : Id) (before rest : List Id) → has_id id (before ++ id ∷ rest) ≡ true
has_behind id before rest = list_any-append (λ one. same_id one id) before (id ∷ rest) ∙ or_right (has_id id before) (has_id id (id ∷ rest)) (or_left (same_id id id) (has_id id rest) (same_id-refl id))

passes_once : (p : Id → Bool) (id : Id) (rest : List Id) → p id ≡ true → 1 ≤ length (filter p (id ∷ rest))
passes_once p id rest h = rw h (omega arith)

passes_somewhere : (id : Id) (ids : List Id) → has_id id ids ≡ true → 1 ≤ length (filter (λ one. same_id one id) ids)
passes_somewhere id [] h = absurd (false≢true h)
passes_somewhere id (one ∷ ids) h = elim (cases_Bool (same_id one id)) [
  | inl s ↦ rw s (omega arith)
  | inr d ↦ let there : has_id id ids ≡ true = (rw d at h) in rw d (passes_somewhere id ids there)
]

-- an id that stands before as well is repeated
repeated_behind : (id : Id) (before rest : List Id) → has_id id before ≡ true → is_repeated id (before ++ id ∷ rest) ≡ true
repeated_behind id before rest h =
    let p : Id → Bool = λ one. same_id one id in
    let first : 1 ≤ length (filter p before) = passes_somewhere id before h in
    let second : 1 ≤ length (filter p (id ∷ rest)) = passes_once p id rest (same_id-refl id) in
    let both : length (filter p (before ++ id ∷ rest)) ≡ length (filter p before) + length (filter p (id ∷ rest)) = ap length (filter-append p before (id ∷ rest)) ∙ length-append (filter p before) (filter p (id ∷ rest)) in
    let counted : length (filter p (before ++ id ∷ rest)) ≡ count_by p (before ++ id ∷ rest) = length-filter p (before ++ id ∷ rest) in
    lt-ltb 1 (count_by p (before ++ id ∷ rest)) (omega (arith, first, second, both, counted))

-- what was made before: no id that is given, or one of those before, which stands there once
abbrev Old : List Id → List Id → Id → Type 0
Old ids before one = (has_id one ids ≡ false) ⊎ ((has_id one before ≡ true) × (is_repeated one ids ≡ false))

-- an id that stands there once wasn't made before
not_old : (ids before rest : List Id) (id one : Id) → ids ≡ before ++ id ∷ rest → is_repeated id ids ≡ false → Old ids before one → same_id one id ≡ false
not_old ids before rest id one cut once old = false_from_ne_true (same_id one id) (λ s.
    let e : one ≡ id = (same_id-Decides one id).0 s in
    elim old [
      | inl none ↦ false≢true (sym (subst (λ (x : Id). has_id x ids ≡ false) e none) ∙ subst (λ (xs : List Id). has_id id xs ≡ true) (sym cut) (has_behind id before rest))
      | inr h ↦ false≢true (sym once ∙ subst (λ (xs : List Id). is_repeated id xs ≡ true) (sym cut) (repeated_behind id before rest (subst (λ (x : Id). has_id x before ≡ true) e h.0)))
    ])

-- what an occurrence becomes wasn't made before, and stays so
pub record New (ids before made : List Id) (id : Id) : Type 0 where
  pub fresh : has_id (made_of ids made id) made ≡ false
  pub old : Old ids (before ++ id ∷ []) (made_of ids made id)

new_one : (ids before rest made : List Id) (id : Id) → ids ≡ before ++ id ∷ rest → All (Old ids before) made → length ids + length made < 2 ^ 64 → New ids before made id
new_one ids before rest made id cut all short = elim (cases_Bool (is_repeated id ids)) [
  | inl twice ↦
      let bound : length (ids ++ made) < 2 ^ 64 = omega (arith, length-append ids made) in
      let free : has_id (first_free (ids ++ made) id) (ids ++ made) ≡ false = (first_free_is (ids ++ made) id bound).free in
      let parts = or_parts (has_id (first_free (ids ++ made) id) ids) (has_id (first_free (ids ++ made) id) made) (sym (list_any-append (λ one. same_id one (first_free (ids ++ made) id)) ids made) ∙ free) in
      record { fresh = rw twice parts.1; old = rw twice (inl parts.0) }
  | inr once ↦
      record {
        fresh = rw once (list_any_none (λ one. same_id one id) made (All-weaker (Old ids before) (λ one. same_id one id ≡ false) (λ one old. not_old ids before rest id one cut once old) made all));
        old = rw once (inr (has_behind id before [], once));
      }
]

keeps_old : (ids before : List Id) (id one : Id) → Old ids before one → Old ids (before ++ id ∷ []) one
keeps_old ids before id one (inl none) = inl none
keeps_old ids before id one (inr h) = inr (list_any-append (λ x. same_id x one) before (id ∷ []) ∙ or_left (has_id one before) (has_id one (id ∷ [])) h.0, h.1)

differs : (made : List Id) (one : Id) → has_id one made ≡ false → (k : ℕ) (d : Id) → k < length made → get_or made k d ≢ one
differs made one none k d lt e = false≢true (sym none ∙ list_any_at (λ x. same_id x one) made k d lt ((same_id-Decides (get_or made k d) one).1 e))

distinct_from : (ids before rest made : List Id) → ids ≡ before ++ rest → length made ≡ length before → length ids + length ids < 2 ^ 64 → All (Old ids before) made → AllPairs (λ one other. one ≢ other) made → AllPairs (λ one other. one ≢ other) (made ++ made_from ids made rest)
distinct_from ids before [] made cut same short all pairs = rw append-nil pairs
distinct_from ids before (id ∷ rest) made cut same short all pairs =
    let long : length ids ≡ length before + suc (length rest) = ap length cut ∙ length-append before (id ∷ rest) in
    let n = new_one ids before rest made id cut all (omega (arith, long)) in
    let one : Id = made_of ids made id in
    subst (λ (xs : List Id). AllPairs (λ x y. x ≢ y) xs) (append_assoc made (one ∷ []) (made_from ids (made ++ one ∷ []) rest))
    (distinct_from ids (before ++ id ∷ []) rest (made ++ one ∷ [])
    (cut ∙ sym (append_assoc before (id ∷ []) rest))
    (length_push made one ∙ ap (λ n. n + 1) same ∙ sym (length_push before id))
    short
    (All-push (Old ids (before ++ id ∷ [])) made one (All-weaker (Old ids before) (Old ids (before ++ id ∷ [])) (λ x old. keeps_old ids before id x old) made all) n.old)
    (all_pairs_push (λ x y. x ≢ y) made one pairs (differs made one n.fresh)))

pub unique_of-distinct : (ids : List Id) → length ids + length ids < 2 ^ 64 → AllPairs (λ one other. one ≢ other) (unique_of ids)
unique_of-distinct ids short = distinct_from ids [] ids [] refl refl short (All-nil (Old ids [])) (λ i j d lt le. absurd (omega arith))

-- one occurrence more
pub made_more : (ids made more seen : List Id) (i : ℕ) (id one : Id) → i < length ids → id ≡ get_or ids i id → seen ≡ made → one ≡ made_of ids seen id → more ≡ made ++ one ∷ [] → made ++ made_from ids made (drop i ids) ≡ unique_of ids → more ++ made_from ids more (drop (i + 1) ids) ≡ unique_of ids
made_more ids made more seen i id one lt at see is pushed so_far =
    let left : drop i ids ≡ id ∷ drop (i + 1) ids = drop_more ids i id lt ∙ ap (λ x. x ∷ drop (i + 1) ids) (sym at) in
    let becomes : one ≡ made_of ids made id = is ∙ ap (λ xs. made_of ids xs id) see in
    let step : made ++ (one ∷ made_from ids (made ++ one ∷ []) (drop (i + 1) ids)) ≡ unique_of ids =
    (rw becomes refl) ∙ ap (λ xs. made ++ made_from ids made xs) (sym left) ∙ so_far in
    rw pushed (append_assoc made (one ∷ []) (made_from ids (made ++ one ∷ []) (drop (i + 1) ids)) ∙ step)

pub made_all : (ids made : List Id) (i : ℕ) → length ids ≤ i → made ++ made_from ids made (drop i ids) ≡ unique_of ids → made ≡ unique_of ids
made_all ids made i le so_far = sym (append-nil made) ∙ ap (λ xs. made ++ made_from ids made xs) (sym (drop_all i ids le)) ∙ so_far
