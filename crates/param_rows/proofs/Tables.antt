-- A table follows the ids that are given and what is made of them.
use Rattle.std.proofs.Common.{◌≡◌, ℕ, ◌+◌, ◌<◌, ◌≤◌, not, get_or, take, Bool, true, false, ◌||◌, List, [], ◌∷◌, ◌++◌, length, Option, Some, None, is_some, refl, ap, sym, subst, ◌∙◌, arith, inl, inr, if◌then◌else◌}
use Rattle.std.specs.List.{filter}
use Rattle.std.specs.Map.{lookup}
use Rattle.std.specs.Prelude.{count_by, nat_lt, unwrap_or}
use Rattle.std.proofs.lemmas.Bool.{cases_Bool, cases_lt, cases_eq, false≢true, true≢false, false_from_ne_true, or_parts, or_left, or_right, lt-ltb, not-true, not-false}
use Rattle.std.proofs.lemmas.List.{append_assoc, append-nil, length-append, take_more, take_all}
use Rattle.std.proofs.lemmas.List.Elements.{filter-append}
use Rattle.std.proofs.lemmas.List.Folds.{list_any-append, list_any_at}
use Rattle.std.proofs.lemmas.List.Sums.{length-filter}
use Rattle.indexmap.specs.IndexMap.{insert_entry}
use Rattle.param_rows.specs.declared.taken.IdTable.{IdTable}
use Rattle.param_rows.specs.Ids.{Id, same_id, has_id, count_of, is_repeated, numbered, made_of, first_free}
use Rattle.param_rows.specs.Taken.{TakenTo, with_id, HaveSameIds, NumbersRepeated, TellsIds, TellsMade}
use Rattle.param_rows.proofs.Free.{same_id-Decides}

same : (id : Id) → same_id id id ≡ true
same id = (same_id-Decides id id).1 refl

turned : (one other : Id) → same_id one other ≡ same_id other one
turned one other = elim (cases_Bool (same_id one other)) [
  | inl s ↦ s ∙ sym ((same_id-Decides other one).1 (sym ((same_id-Decides one other).0 s)))
  | inr d ↦ d ∙ sym (false_from_ne_true (same_id other one) (λ s. false≢true (sym d ∙ (same_id-Decides one other).1 (sym ((same_id-Decides other one).0 s)))))
]

-- one id more stands there
has_push : (x : Id) (ids : List Id) (id : Id) → has_id x (ids ++ id ∷ []) ≡ (has_id x ids || (same_id id x || false))
has_push x ids id = list_any-append (λ y. same_id y x) ids (id ∷ [])

has_more : (x : Id) (ids : List Id) (id : Id) → has_id x ids ≡ true → has_id x (ids ++ id ∷ []) ≡ true
has_more x ids id h = has_push x ids id ∙ or_left (has_id x ids) (same_id id x || false) h

has_last : (x : Id) (ids : List Id) → has_id x (ids ++ x ∷ []) ≡ true
has_last x ids = has_push x ids x ∙ or_right (has_id x ids) (same_id x x || false) (or_left (same_id x x) false (same x))

has_with : (set : List Id) (id x : Id) → has_id x (with_id set id) ≡ has_id x (set ++ id ∷ [])
has_with set id x = elim (cases_Bool (has_id id set)) [
  | inl there ↦ elim (cases_Bool (same_id id x)) [
    | inl s ↦
        let e : id ≡ x = (same_id-Decides id x).0 s in
        let here : has_id x set ≡ true = subst (λ (y : Id). has_id y set ≡ true) e there in
        rw there (here ∙ sym (has_more x set id here))
    | inr d ↦ rw there (sym (has_push x set id ∙ (rw d (or_none (has_id x set)))))
  ]
  | inr none ↦ rw none refl
]
  where
    or_none : (b : Bool) → (b || false) ≡ b
    or_none true = refl
    or_none false = refl

pub same_with : (set ids : List Id) (id : Id) → HaveSameIds set ids → HaveSameIds (with_id set id) (ids ++ id ∷ [])
same_with set ids id both x = has_with set id x ∙ has_push x set id ∙ ap (λ b. b || (same_id id x || false)) (both x) ∙ sym (has_push x ids id)

-- an id that is there already adds none
pub same_old : (set ids : List Id) (id : Id) → has_id id ids ≡ true → HaveSameIds set ids → HaveSameIds set (ids ++ id ∷ [])
same_old set ids id there both x =
    let held : has_id id set ≡ true = both id ∙ there in
    let stays : with_id set id ≡ set = (rw held refl) in
    subst (λ (ys : List Id). HaveSameIds ys (ids ++ id ∷ [])) stays (same_with set ids id both) x

-- a number that is put is found, and all others stay
pub lookup_put : (numbers : List (Id × ℕ)) (id : Id) (n : ℕ) (x : Id) → lookup (same_id x) (insert_entry same_id numbers id n) ≡ (if same_id x id then Some n else lookup (same_id x) numbers)
lookup_put [] id n x = refl
lookup_put (e ∷ es) id n x = elim (cases_Bool (same_id id e.0)) [
  | inl s ↦
      let is : id ≡ e.0 = (same_id-Decides id e.0).0 s in
      let tests : same_id x e.0 ≡ same_id x id = ap (same_id x) (sym is) in
      rw (s, tests) (either (same_id x id))
  | inr d ↦ elim (cases_Bool (same_id x e.0)) [
    | inl h ↦
        let other : same_id x id ≡ false = false_from_ne_true (same_id x id) (λ t. false≢true (sym d ∙ (same_id-Decides id e.0).1 (sym ((same_id-Decides x id).0 t) ∙ (same_id-Decides x e.0).0 h))) in
        rw (d, h, other) refl
    | inr o ↦ rw (d, o) (lookup_put es id n x)
  ]
]
  where
    either : (b : Bool) → (if b then Some n else lookup (same_id x) es) ≡ (if b then Some n else (if b then Some e.1 else lookup (same_id x) es))
    either true = refl
    either false = refl

count_push : (x : Id) (before : List Id) (one : Id) → count_of x (before ++ one ∷ []) ≡ count_of x before + length (filter (λ y. same_id y x) (one ∷ []))
count_push x before one =
    sym (length-filter (λ y. same_id y x) (before ++ one ∷ []))
    ∙ ap length (filter-append (λ y. same_id y x) before (one ∷ []))
    ∙ length-append (filter (λ y. same_id y x) before) (filter (λ y. same_id y x) (one ∷ []))
    ∙ ap (λ n. n + length (filter (λ y. same_id y x) (one ∷ []))) (length-filter (λ y. same_id y x) before)

none_kept : (x : Id) (ids : List Id) → has_id x ids ≡ false → filter (λ y. same_id y x) ids ≡ []
none_kept x [] h = refl
none_kept x (one ∷ ids) h = let parts = or_parts (same_id one x) (has_id x ids) h in rw parts.0 (none_kept x ids parts.1)

some_kept : (x : Id) (ids : List Id) → has_id x ids ≡ true → 0 < length (filter (λ y. same_id y x) ids)
some_kept x [] h = absurd (false≢true h)
some_kept x (one ∷ ids) h = elim (cases_Bool (same_id one x)) [
  | inl s ↦ rw s (omega arith)
  | inr d ↦ let there : has_id x ids ≡ true = (rw d at h) in rw d (some_kept x ids there)
]

-- an id is repeated where it stood there before
repeated_same : (x : Id) (before : List Id) (one : Id) → same_id one x ≡ true → is_repeated x (before ++ one ∷ []) ≡ has_id x before
repeated_same x before one s =
    let more : count_of x (before ++ one ∷ []) ≡ count_of x before + 1 = count_push x before one ∙ (rw s (omega arith)) in
    let kept = length-filter (λ y. same_id y x) before in
    elim (cases_Bool (has_id x before)) [
      | inl there ↦ lt-ltb 1 (count_of x (before ++ one ∷ [])) (omega (arith, more, kept, some_kept x before there)) ∙ sym there
      | inr none ↦ let no : count_of x before ≡ 0 = sym kept ∙ ap length (none_kept x before none) in ap (nat_lt 1) (more ∙ ap (λ n. n + 1) no) ∙ sym none
    ]

repeated_other : (x : Id) (before : List Id) (one : Id) → same_id one x ≡ false → is_repeated x (before ++ one ∷ []) ≡ is_repeated x before
repeated_other x before one d = ap (nat_lt 1) (count_push x before one ∙ (rw d (omega arith)))

once : (x : Id) (ids : List Id) → has_id x ids ≡ false → is_repeated x ids ≡ false
once x ids none = ap (nat_lt 1) (sym (length-filter (λ y. same_id y x) ids) ∙ ap length (none_kept x ids none))

pub tells_none : (table : IdTable) → table.taken ≡ [] → table.numbers ≡ [] → TellsIds [] table
tells_none table no_ids no_numbers = record {
  taken = λ x. ap (has_id x) no_ids;
  repeated = λ x. ap (λ es. is_some (lookup (same_id x) es)) no_numbers;
  first = λ x n h. absurd (none_some n (sym (ap (lookup (same_id x)) no_numbers) ∙ h));
}
  where
    none_some : (n : ℕ) → ◌≡◌ {A = Option ℕ} None (Some n) → ⊥
    none_some n e = true≢false (sym (ap is_some e))

-- one id more is given
pub tells_given : (before : List Id) (id : Id) (old new : IdTable) → new.taken ≡ with_id old.taken id → new.numbers ≡ (if has_id id old.taken then insert_entry same_id old.numbers id 0 else old.numbers) → TellsIds before old → TellsIds (before ++ id ∷ []) new
tells_given before id old new taken numbers tells = elim (cases_Bool (has_id id old.taken)) [
  | inl there ↦
      let puts : new.numbers ≡ insert_entry same_id old.numbers id 0 = numbers ∙ (rw there refl) in
      record {
        taken = held;
        repeated = λ x. ap (λ es. is_some (lookup (same_id x) es)) puts ∙ ap is_some (lookup_put old.numbers id 0 x) ∙ with_number x there;
        first = λ x n h. first_put x n (sym (lookup_put old.numbers id 0 x) ∙ sym (ap (lookup (same_id x)) puts) ∙ h);
      }
  | inr none ↦
      let stays : new.numbers ≡ old.numbers = numbers ∙ (rw none refl) in
      record {
        taken = held;
        repeated = λ x. ap (λ es. is_some (lookup (same_id x) es)) stays ∙ without_number x none;
        first = λ x n h. tells.first x n (sym (ap (lookup (same_id x)) stays) ∙ h);
      }
]
  where
    held : HaveSameIds new.taken (before ++ id ∷ [])
    held = subst (λ (ys : List Id). HaveSameIds ys (before ++ id ∷ [])) (sym taken) (same_with old.taken before id tells.taken)

    with_number : (x : Id) → has_id id old.taken ≡ true → is_some (if same_id x id then Some 0 else lookup (same_id x) old.numbers) ≡ is_repeated x (before ++ id ∷ [])
    with_number x there = elim (cases_Bool (same_id x id)) [
      | inl s ↦
          let e : x ≡ id = (same_id-Decides x id).0 s in
          rw s (sym (repeated_same x before id (turned id x ∙ s) ∙ sym (tells.taken x) ∙ subst (λ (y : Id). has_id y old.taken ≡ true) (sym e) there))
      | inr d ↦ rw d (tells.repeated x ∙ sym (repeated_other x before id (turned id x ∙ d)))
    ]

    first_put : (x : Id) (n : ℕ) → (if same_id x id then Some 0 else lookup (same_id x) old.numbers) ≡ Some n → n ≡ 0
    first_put x n h = elim (cases_Bool (same_id x id)) [
      | inl s ↦ let e : Some 0 ≡ Some n = (rw s at h) in sym (ap (λ (o : Option ℕ). unwrap_or o 0) e)
      | inr d ↦ let e : lookup (same_id x) old.numbers ≡ Some n = (rw d at h) in tells.first x n e
    ]

    without_number : (x : Id) → has_id id old.taken ≡ false → is_some (lookup (same_id x) old.numbers) ≡ is_repeated x (before ++ id ∷ [])
    without_number x none = elim (cases_Bool (same_id id x)) [
      | inl s ↦
          let e : id ≡ x = (same_id-Decides id x).0 s in
          let no : has_id x before ≡ false = sym (tells.taken x) ∙ subst (λ (y : Id). has_id y old.taken ≡ false) e none in
          tells.repeated x ∙ once x before no ∙ sym (repeated_same x before id s ∙ no)
      | inr d ↦ tells.repeated x ∙ sym (repeated_other x before id d)
    ]

-- nothing is made yet
tells_made_none : (ids : List Id) (table : IdTable) → TellsIds ids table → TellsMade ids [] table
tells_made_none ids table tells = record {
  taken = λ x. tells.taken x ∙ ap (has_id x) (sym (append-nil ids));
  repeated = tells.repeated;
  numbers = λ x n h k lt. absurd (omega (arith, tells.first x n h, lt));
}

-- the id is new
pub tells_new : (before : List Id) (id : Id) (old new : IdTable) (is_new : Bool) → new.taken ≡ with_id old.taken id → new.numbers ≡ old.numbers → is_new ≡ not (has_id id old.taken) → is_new ≡ true → TellsIds before old → TellsIds (before ++ id ∷ []) new
tells_new before id old new is_new taken numbers says holds tells =
    let none : has_id id old.taken ≡ false = not-true (has_id id old.taken) (sym says ∙ holds) in
    tells_given before id old new taken (numbers ∙ (rw none refl)) tells

-- it stood there before
pub tells_known : (before : List Id) (id : Id) (old new : IdTable) (is_new : Bool) → new.taken ≡ with_id old.taken id → new.numbers ≡ insert_entry same_id old.numbers id 0 → is_new ≡ not (has_id id old.taken) → is_new ≡ false → TellsIds before old → TellsIds (before ++ id ∷ []) new
tells_known before id old new is_new taken numbers says fails tells =
    let there : has_id id old.taken ≡ true = not-false (has_id id old.taken) (sym says ∙ fails) in
    tells_given before id old new taken (numbers ∙ (rw there refl)) tells

-- one id of a list more
pub tells_on : (ids : List Id) (i : ℕ) (id : Id) (old new : IdTable) → i < length ids → id ≡ get_or ids i id → TellsIds (take i ids) old → ((before : List Id) → TellsIds before old → TellsIds (before ++ id ∷ []) new) → TellsIds (take (i + 1) ids) new
tells_on ids i id old new lt here tells given =
    let left : take (i + 1) ids ≡ take i ids ++ id ∷ [] = take_more ids i id lt ∙ ap (λ x. take i ids ++ x ∷ []) (sym here) in
    subst (λ (xs : List Id). TellsIds xs new) (sym left) (given (take i ids) tells)

-- all are given
pub tells_all : (ids : List Id) (i : ℕ) (table : IdTable) → length ids ≤ i → TellsIds (take i ids) table → TellsMade ids [] table
tells_all ids i table end tells = tells_made_none ids table (subst (λ (xs : List Id). TellsIds xs table) (take_all i ids end) tells)

stays_taken : (ids made : List Id) (one x : Id) (n : ℕ) → TakenTo (ids ++ made) x n → TakenTo (ids ++ (made ++ one ∷ [])) x n
stays_taken ids made one x n taken k lt = ap (has_id (numbered x k)) (sym (append_assoc ids made (one ∷ []))) ∙ has_more (numbered x k) (ids ++ made) one (taken k lt)

-- the number that was found, and all below it
pub taken_next : (ids made : List Id) (id one : Id) (n : ℕ) → one ≡ numbered id n → TakenTo (ids ++ made) id n → TakenTo (ids ++ (made ++ one ∷ [])) id (n + 1)
taken_next ids made id one n is taken k lt = elim (cases_lt k n) [
  | inl less ↦ stays_taken ids made one id n taken k less
  | inr more ↦
      let e : k ≡ n = omega arith in
      subst (λ (x : Id). has_id x (ids ++ (made ++ one ∷ [])) ≡ true) (is ∙ ap (numbered id) (sym e))
      (ap (has_id one) (sym (append_assoc ids made (one ∷ []))) ∙ has_last one (ids ++ made))
]

-- an id that stands there once is made of itself
pub tells_once : (ids made : List Id) (id : Id) (table : IdTable) → has_id id ids ≡ true → TellsMade ids made table → TellsMade ids (made ++ id ∷ []) table
tells_once ids made id table there tells = record {
  taken = λ x. same_old table.taken (ids ++ made) id (list_any-append (λ y. same_id y id) ids made ∙ or_left (has_id id ids) (has_id id made) there) tells.taken x ∙ ap (has_id x) (append_assoc ids made (id ∷ []));
  repeated = tells.repeated;
  numbers = λ x n h. stays_taken ids made id x n (tells.numbers x n h);
}

-- one that is repeated takes a number
pub tells_more : (ids made : List Id) (id one : Id) (from next : ℕ) (old new : IdTable) → new.taken ≡ with_id old.taken one → new.numbers ≡ insert_entry same_id old.numbers id next → lookup (same_id id) old.numbers ≡ Some from
    → TakenTo (ids ++ (made ++ one ∷ [])) id next → TellsMade ids made old → TellsMade ids (made ++ one ∷ []) new
tells_more ids made id one from next old new taken numbers known below tells = record {
  taken = λ x.
      ap (has_id x) taken ∙ same_with old.taken (ids ++ made) one tells.taken x ∙ ap (has_id x) (append_assoc ids made (one ∷ []));
  repeated = λ x. ap (λ es. is_some (lookup (same_id x) es)) numbers ∙ ap is_some (lookup_put old.numbers id next x) ∙ as_before x;
  numbers = λ x n h. found x n (sym (lookup_put old.numbers id next x) ∙ sym (ap (lookup (same_id x)) numbers) ∙ h);
}
  where
    as_before : (x : Id) → is_some (if same_id x id then Some next else lookup (same_id x) old.numbers) ≡ is_repeated x ids
    as_before x = elim (cases_Bool (same_id x id)) [
      | inl s ↦
          let e : x ≡ id = (same_id-Decides x id).0 s in
          rw s (subst (λ (y : Id). true ≡ is_repeated y ids) (sym e) (sym (ap is_some known) ∙ tells.repeated id))
      | inr d ↦ rw d (tells.repeated x)
    ]

    found : (x : Id) (n : ℕ) → (if same_id x id then Some next else lookup (same_id x) old.numbers) ≡ Some n → TakenTo (ids ++ (made ++ one ∷ [])) x n
    found x n h = elim (cases_Bool (same_id x id)) [
      | inl s ↦
          let e : Some next ≡ Some n = (rw s at h) in
          let is : x ≡ id = (same_id-Decides x id).0 s in
          subst (λ (y : Id). TakenTo (ids ++ (made ++ one ∷ [])) y n) (sym is) (subst (λ (m : ℕ). TakenTo (ids ++ (made ++ one ∷ [])) id m) (ap (λ (o : Option ℕ). unwrap_or o 0) e) below)
      | inr d ↦ let e : lookup (same_id x) old.numbers ≡ Some n = (rw d at h) in stays_taken ids made one x n (tells.numbers x n e)
    ]

-- what a repeated id becomes
pub made_of_repeated : (ids made : List Id) (id one : Id) (from : ℕ) (table : IdTable) → lookup (same_id id) table.numbers ≡ Some from → TellsMade ids made table → one ≡ first_free (ids ++ made) id → one ≡ made_of ids made id
made_of_repeated ids made id one from table known tells is =
    let twice : is_repeated id ids ≡ true = sym (tells.repeated id) ∙ ap is_some known in
    is ∙ (rw twice refl)

-- what an id that stands there once becomes
pub made_of_once : (ids made : List Id) (id one : Id) (table : IdTable) → lookup (same_id id) table.numbers ≡ None → TellsMade ids made table → one ≡ id → one ≡ made_of ids made id
made_of_once ids made id one table unknown tells is =
    let alone : is_repeated id ids ≡ false = sym (tells.repeated id) ∙ ap is_some unknown in
    is ∙ (rw alone refl)

-- the ids that were looked at stand in the list
pub stands : (ids : List Id) (i : ℕ) (id : Id) → i < length ids → id ≡ get_or ids i id → has_id id ids ≡ true
stands ids i id lt here = list_any_at (λ one. same_id one id) ids i id lt (ap (λ one. same_id one id) (sym here) ∙ same id)
