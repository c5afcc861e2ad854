-- The list of a closure has one end.
use Rattle.std.proofs.Common.{◌≡◌, ℕ, zero, suc, ◌+◌, ◌<◌, ◌≤◌, inl, inr, refl, ap, sym, subst, ◌∙◌, Bool, true, false, cond, not, ◌||◌, ◌&&◌, ◌⊎◌, List, [], ◌∷◌, ◌++◌, length, map, arith, Option, None, Some, nat_eq, eq-eqb}
use Rattle.std.specs.List.{filter, flat_map, slice_get}
use Rattle.std.proofs.lemmas.Bool.{cases_eq, cases_lt, eqb-true, or_cases}
use Rattle.std.proofs.lemmas.Option.{slice_get-get_or}
use Rattle.fixture_table.specs.declared.types.CollectionNode.{CollectionNode}
use Rattle.fixture_table.specs.declared.types.FixtureDef.{FixtureDef}
use Rattle.fixture_table.specs.declared.entry.Entry.{Entry}
use Rattle.fixture_table.specs.declared.entry.Entry.TheVariants.{Definition, Missing}
use Rattle.fixture_table.specs.Closing.{Done, Grown, More, requested_by, asked_all, asked_one, autouse_at, autouse_up, definition_if, entries_for, entry_at, entry_for, entry_or, first_entries, has, same_entry, with_one, with_unseen}
use Rattle.fixture_table.specs.Nearest.{def_at, nearest_of}
use Rattle.fixture_table.specs.Tree.{iter_parents}
use Rattle.fixture_table.proofs.Asked.{has_at, same_is, same_refl}
use Rattle.fixture_table.proofs.Closed.{Single, defs_has, first_single, single_unseen, within}
use Rattle.fixture_table.specs.Faults.{requests}
use Rattle.fixture_table.proofs.Nearest.{nearest_within}
use Rattle.fixture_table.proofs.Reached.{among_append, or_right, or_true}
use Rattle.session_types.specs.Numbers.{among}

some_is : {A : Type 0} (a b : A) → Some a ≡ Some b → a ≡ b
some_is a b e = cc

module _ (nodes : List CollectionNode) (defs : List FixtureDef) (item : ℕ) (bound : List ℕ) where
  -- of a list that has grown, and of one that goes on
  done_end : (es : List Entry) (p : ℕ) (b : List Entry) → Grown nodes defs item bound es p b → length es ≤ p → es ≡ b
  done_end es p b (Done _ _ _) le = refl
  done_end es p b (More _ _ e _ at g) le = (let w = within es p e at in let lt = w.0 in absurd (omega (arith, le, lt)))

  more_end : (es : List Entry) (p : ℕ) (b : List Entry) → Grown nodes defs item bound es p b → (e : Entry) → slice_get es p ≡ Some e → Grown nodes defs item bound (with_unseen (requested_by nodes defs item bound e) es) (suc p) b
  more_end es p b (Done _ _ le) e at = (let w = within es p e at in let lt = w.0 in absurd (omega (arith, le, lt)))
  more_end es p b (More _ _ f _ there k) e at = (let s : f ≡ e = some_is f e (sym there ∙ at) in subst (λ (x : Entry). Grown nodes defs item bound (with_unseen (requested_by nodes defs item bound x) es) (suc p) b) s k)

  -- a list that grows has one end
  pub grown_one : (es : List Entry) (p : ℕ) (a b : List Entry) → Grown nodes defs item bound es p a → Grown nodes defs item bound es p b → a ≡ b
  grown_one es p a b (Done _ _ le) h = done_end es p b h le
  grown_one es p a b (More _ _ e _ at g) h = grown_one (with_unseen (requested_by nodes defs item bound e) es) (suc p) a b g (more_end es p b h e at)

-- THERE ARE NO MORE ENTRIES THAN THERE ARE DEFINITIONS AND NAMES

abbrev others : Entry → List Entry → List Entry
others e es = filter (λ x. not (same_entry x e)) es

others_less : (e : Entry) (es : List Entry) → length (others e es) ≤ length es
others_less e [] = omega arith
others_less e (x ∷ es) = (let l = others_less e es in elim (same_entry x e) as (λ b. length (cond (not b) (x ∷ others e es) (others e es)) ≤ length (x ∷ es)) [ true ↦ omega (arith, l) | false ↦ omega (arith, l) ])

one_less : (e : Entry) (es : List Entry) → has e es ≡ true → suc (length (others e es)) ≤ length es
one_less e [] h = cc
one_less e (x ∷ es) h =
    let l = others_less e es in
    (elim (same_entry x e) as (λ b. (b || has e es) ≡ true → suc (length (cond (not b) (x ∷ others e es) (others e es))) ≤ length (x ∷ es)) [
      | true ↦ λ q. omega (arith, l)
      | false ↦ λ q. (let m = one_less e es q in omega (arith, m))
    ]) h

others_have : (e x : Entry) (es : List Entry) → (same_entry x e ≡ true → ⊥) → has x es ≡ true → has x (others e es) ≡ true
others_have e x [] ne h = cc
others_have e x (y ∷ es) ne h =
    elim (or_cases (same_entry y x) (has x es) h) [
      | inl s ↦ (let q : y ≡ x = same_is y x s in
          let no_same : same_entry y e ≡ false = elim (same_entry y e) as (λ b. same_entry y e ≡ b → b ≡ false) [ true ↦ λ t. absurd (ne (sym (ap (λ (z : Entry). same_entry z e) q) ∙ t)) | false ↦ λ t. refl ] refl in
          rw no_same (or_true (same_entry y x) (has x (others e es)) s))
      | inr g ↦ (let more = others_have e x es ne g in
          elim (same_entry y e) as (λ b. has x (cond (not b) (y ∷ others e es) (others e es)) ≡ true) [ true ↦ more | false ↦ or_right (same_entry y x) (has x (others e es)) more ])
    ]

few : (all es : List Entry) → Single es → ((e : Entry) → has e es ≡ true → has e all ≡ true) → length es ≤ length all
few all [] s sub = omega arith
few all (e ∷ es) s sub =
    let less = one_less e all (sub e (or_true (same_entry e e) (has e es) (same_refl e))) in
    let rest = few (others e all) es s.1 (λ x h. others_have e x all (λ t. (let q : x ≡ e = same_is x e t in let z : true ≡ false = sym (subst (λ (y : Entry). has y es ≡ true) q h) ∙ s.0 in cc)) (sub x (or_right (same_entry e x) (has x es) h))) in
    omega (arith, less, rest)

abbrev definitions : ℕ → List Entry
definitions zero = []
definitions (suc n) = Definition n ∷ definitions n

definitions_have : (n d : ℕ) → d < n → has (Definition d) (definitions n) ≡ true
definitions_have zero d lt = absurd (omega (arith, lt))
definitions_have (suc n) d lt = elim (cases_eq n d) [
  | inl e ↦ or_true (nat_eq n d) (has (Definition d) (definitions n)) (eq-eqb n d e)
  | inr ne ↦ or_right (nat_eq n d) (has (Definition d) (definitions n)) (definitions_have n d (omega (arith, lt, ne)))
]

missing_have : (n : ℕ) (names : List ℕ) → among n names ≡ true → has (Missing n) (map Missing names) ≡ true
missing_have n [] h = cc
missing_have n (x ∷ names) h = elim (or_cases (nat_eq x n) (among n names) h) [
  | inl e ↦ or_true (nat_eq x n) (has (Missing n) (map Missing names)) e
  | inr g ↦ or_right (nat_eq x n) (has (Missing n) (map Missing names)) (missing_have n names g)
]

has_left : (e : Entry) (xs ys : List Entry) → has e xs ≡ true → has e (xs ++ ys) ≡ true
has_left e [] ys h = cc
has_left e (x ∷ xs) ys h = elim (or_cases (same_entry x e) (has e xs) h) [
  | inl s ↦ or_true (same_entry x e) (has e (xs ++ ys)) s
  | inr g ↦ or_right (same_entry x e) (has e (xs ++ ys)) (has_left e xs ys g)
]

has_right : (e : Entry) (xs ys : List Entry) → has e ys ≡ true → has e (xs ++ ys) ≡ true
has_right e [] ys h = h
has_right e (x ∷ xs) ys h = or_right (same_entry x e) (has e (xs ++ ys)) (has_right e xs ys h)

has_either : (e : Entry) (xs ys : List Entry) → has e (xs ++ ys) ≡ true → (has e xs ≡ true) ⊎ (has e ys ≡ true)
has_either e [] ys h = inr h
has_either e (x ∷ xs) ys h = elim (or_cases (same_entry x e) (has e (xs ++ ys)) h) [
  | inl s ↦ inl (or_true (same_entry x e) (has e xs) s)
  | inr g ↦ elim (has_either e xs ys g) [ inl l ↦ inl (or_right (same_entry x e) (has e xs) l) | inr r ↦ inr r ]
]

has_one : (e x : Entry) (es : List Entry) → has x (with_one e es) ≡ true → (x ≡ e) ⊎ (has x es ≡ true)
has_one e x es h = (elim (has e es) as (λ b. has x (cond b es (es ++ e ∷ [])) ≡ true → (x ≡ e) ⊎ (has x es ≡ true)) [
  | true ↦ λ q. inr q
  | false ↦ λ q. elim (has_either x es (e ∷ []) q) [ inl l ↦ inr l | inr r ↦ elim (or_cases (same_entry e x) false r) [ inl s ↦ inl (sym (same_is e x s)) | inr z ↦ cc ] ]
]) h

has_unseen : (new es : List Entry) (x : Entry) → has x (with_unseen new es) ≡ true → (has x new ≡ true) ⊎ (has x es ≡ true)
has_unseen [] es x h = inr h
has_unseen (e ∷ new) es x h = elim (has_unseen new (with_one e es) x h) [
  | inl l ↦ inl (or_right (same_entry e x) (has x new) l)
  | inr r ↦ elim (has_one e x es r) [ inl s ↦ inl (or_true (same_entry e x) (has x new) (ap (λ (y : Entry). same_entry e y) s ∙ same_refl e)) | inr q ↦ inr q ]
]

abbrev names_of : List FixtureDef → List ℕ
names_of defs = map (λ one. one.name) defs

abbrev args_of : List FixtureDef → List ℕ
args_of defs = flat_map (λ one. one.args) defs

args_among : (n d : ℕ) (defs : List FixtureDef) → among n (def_at defs d).args ≡ true → among n (args_of defs) ≡ true
args_among n d [] h = cc
args_among n zero (one ∷ defs) h = among_append n one.args (args_of defs) ∙ or_true (among n one.args) (among n (args_of defs)) h
args_among n (suc d) (one ∷ defs) h = among_append n one.args (args_of defs) ∙ or_right (among n one.args) (among n (args_of defs)) (args_among n d defs h)

autouse_among : (n node : ℕ) (defs : List FixtureDef) → among n (autouse_at defs node) ≡ true → among n (names_of defs) ≡ true
autouse_among n node [] h = cc
autouse_among n node (one ∷ defs) h =
    (elim (one.autouse && nat_eq one.node node) as (λ b. among n (map (λ x. x.name) (cond b (one ∷ filter (λ x. x.autouse && nat_eq x.node node) defs) (filter (λ x. x.autouse && nat_eq x.node node) defs))) ≡ true → among n (names_of (one ∷ defs)) ≡ true) [
      | true ↦ λ q. elim (or_cases (nat_eq one.name n) (among n (autouse_at defs node)) q) [ inl e ↦ or_true (nat_eq one.name n) (among n (names_of defs)) e | inr g ↦ or_right (nat_eq one.name n) (among n (names_of defs)) (autouse_among n node defs g) ]
      | false ↦ λ q. or_right (nat_eq one.name n) (among n (names_of defs)) (autouse_among n node defs q)
    ]) h

up_among : (n : ℕ) (chain : List ℕ) (defs : List FixtureDef) → among n (autouse_up defs chain) ≡ true → among n (names_of defs) ≡ true
up_among n [] defs h = cc
up_among n (node ∷ chain) defs h = elim (or_cases (among n (autouse_up defs chain)) (among n (autouse_at defs node)) (sym (among_append n (autouse_up defs chain) (autouse_at defs node)) ∙ h)) [
  | inl l ↦ up_among n chain defs l
  | inr r ↦ autouse_among n node defs r
]

module _ (nodes : List CollectionNode) (defs : List FixtureDef) (item : ℕ) (bound uses args : List ℕ) where
  abbrev names : List ℕ
  names = names_of defs ++ (args_of defs ++ (uses ++ args))

  abbrev all : List Entry
  all = definitions (length defs) ++ map Missing names

  found_in : (name : ℕ) (beyond : Option ℕ) (d : ℕ) → nearest_of nodes defs name item beyond ≡ Some d → has (Definition d) all ≡ true
  found_in name beyond d e = has_left (Definition d) (definitions (length defs)) (map Missing names) (definitions_have (length defs) d (nearest_within nodes defs name item beyond d e))

  or_in : (name : ℕ) (r : Option ℕ) (x : Entry) → nearest_of nodes defs name item None ≡ r → among name names ≡ true → has x (entry_or name r ∷ []) ≡ true → has x all ≡ true
  or_in name None x e n h = elim (or_cases (same_entry (Missing name) x) false h) [
    | inl s ↦ subst (λ (y : Entry). has y all ≡ true) (same_is (Missing name) x s) (has_right (Missing name) (definitions (length defs)) (map Missing names) (missing_have name names n))
    | inr z ↦ cc
  ]
  or_in name (Some d) x e n h = elim (or_cases (same_entry (Definition d) x) false h) [
    | inl s ↦ subst (λ (y : Entry). has y all ≡ true) (same_is (Definition d) x s) (found_in name None d e)
    | inr z ↦ cc
  ]

  if_in : (name : ℕ) (beyond r : Option ℕ) (x : Entry) → nearest_of nodes defs name item beyond ≡ r → has x (definition_if r) ≡ true → has x all ≡ true
  if_in name beyond None x e h = cc
  if_in name beyond (Some d) x e h = elim (or_cases (same_entry (Definition d) x) false h) [
    | inl s ↦ subst (λ (y : Entry). has y all ≡ true) (same_is (Definition d) x s) (found_in name beyond d e)
    | inr z ↦ cc
  ]

  for_in : (name : ℕ) (x : Entry) → among name names ≡ true → has x (entry_for nodes defs item bound name) ≡ true → has x all ≡ true
  for_in name x n h = (elim (among name bound) as (λ b. has x (cond b [] (entry_or name (nearest_of nodes defs name item None) ∷ [])) ≡ true → has x all ≡ true) [
    | true ↦ λ q. cc
    | false ↦ λ q. or_in name (nearest_of nodes defs name item None) x refl n q
  ]) h

  one_in : (d name : ℕ) (x : Entry) → among name names ≡ true → has x (asked_one nodes defs item bound d name) ≡ true → has x all ≡ true
  one_in d name x n h = (elim (nat_eq name (def_at defs d).name) as (λ b. has x (cond b (cond (among name bound) [] (definition_if (nearest_of nodes defs name item (Some d)))) (entry_for nodes defs item bound name)) ≡ true → has x all ≡ true) [
    | true ↦ λ q. (elim (among name bound) as (λ c. has x (cond c [] (definition_if (nearest_of nodes defs name item (Some d)))) ≡ true → has x all ≡ true) [
      | true ↦ λ z. cc
      | false ↦ λ z. if_in name (Some d) (nearest_of nodes defs name item (Some d)) x refl z
    ]) q
    | false ↦ λ q. for_in name x n q
  ]) h

  all_in : (d : ℕ) (list : List ℕ) (x : Entry) → ((n : ℕ) → among n list ≡ true → among n names ≡ true) → has x (asked_all nodes defs item bound d list) ≡ true → has x all ≡ true
  all_in d [] x sub h = cc
  all_in d (n ∷ list) x sub h = elim (has_either x (asked_one nodes defs item bound d n) (asked_all nodes defs item bound d list) h) [
    | inl l ↦ one_in d n x (sub n (or_true (nat_eq n n) (among n list) (eq-eqb n n refl))) l
    | inr r ↦ all_in d list x (λ m k. sub m (or_right (nat_eq n m) (among m list) k)) r
  ]

  asked_in : (e x : Entry) → has x (requested_by nodes defs item bound e) ≡ true → has x all ≡ true
  asked_in (Missing n) x h = cc
  asked_in (Definition d) x h = all_in d (def_at defs d).args x (λ n m. among_append n (names_of defs) (args_of defs ++ (uses ++ args)) ∙ or_right (among n (names_of defs)) (among n (args_of defs ++ (uses ++ args)))
      (among_append n (args_of defs) (uses ++ args) ∙ or_true (among n (args_of defs)) (among n (uses ++ args)) (args_among n d defs m))) h

  entries_in : (list : List ℕ) (x : Entry) → ((n : ℕ) → among n list ≡ true → among n names ≡ true) → has x (entries_for nodes defs item bound list) ≡ true → has x all ≡ true
  entries_in [] x sub h = cc
  entries_in (n ∷ list) x sub h = elim (has_either x (entry_for nodes defs item bound n) (entries_for nodes defs item bound list) h) [
    | inl l ↦ for_in n x (sub n (or_true (nat_eq n n) (among n list) (eq-eqb n n refl))) l
    | inr r ↦ entries_in list x (λ m k. sub m (or_right (nat_eq n m) (among m list) k)) r
  ]

  first_names : (n : ℕ) → among n (autouse_up defs (iter_parents nodes item) ++ (uses ++ args)) ≡ true → among n names ≡ true
  first_names n h = among_append n (names_of defs) (args_of defs ++ (uses ++ args)) ∙ elim (or_cases (among n (autouse_up defs (iter_parents nodes item))) (among n (uses ++ args)) (sym (among_append n (autouse_up defs (iter_parents nodes item)) (uses ++ args)) ∙ h)) [
    | inl l ↦ or_true (among n (names_of defs)) (among n (args_of defs ++ (uses ++ args))) (up_among n (iter_parents nodes item) defs l)
    | inr r ↦ or_right (among n (names_of defs)) (among n (args_of defs ++ (uses ++ args))) (among_append n (args_of defs) (uses ++ args) ∙ or_right (among n (args_of defs)) (among n (uses ++ args)) r)
  ]

  ends_from : (n p : ℕ) (es : List Entry) → p + n ≡ length all → Single es → ((e : Entry) → has e es ≡ true → has e all ≡ true) → (end : List Entry) × Grown nodes defs item bound es p end
  ends_from zero p es e s sub = (let f = few all es s sub in (es, Done es p (omega (arith, f, e))))
  ends_from (suc n) p es e s sub = elim (cases_lt p (length es)) [
    | inr past ↦ (es, Done es p past)
    | inl lt ↦
        (let x = entry_at es p in
        let more = with_unseen (requested_by nodes defs item bound x) es in
        let r = ends_from n (suc p) more (omega (arith, e)) (single_unseen (requested_by nodes defs item bound x) es s)
        (λ y h. elim (has_unseen (requested_by nodes defs item bound x) es y h) [ inl a ↦ asked_in x y a | inr b ↦ sub y b ]) in
        (r.0, More es p x r.0 (slice_get-get_or es p (Missing 0) lt) r.1))
  ]

  pub ends : (end : List Entry) × Grown nodes defs item bound (first_entries nodes defs item bound uses args) 0 end
  ends = ends_from (length all) 0 (first_entries nodes defs item bound uses args) (omega arith) (first_single nodes defs item bound uses args)
      (λ e h. elim (has_unseen (entries_for nodes defs item bound (autouse_up defs (iter_parents nodes item) ++ (uses ++ args))) [] e h) [
        | inl a ↦ entries_in (autouse_up defs (iter_parents nodes item) ++ (uses ++ args)) e first_names a
        | inr b ↦ cc
      ])

-- what is requested is of the table
if_low : (nodes : List CollectionNode) (defs : List FixtureDef) (item name : ℕ) (beyond r : Option ℕ) (e : ℕ) → nearest_of nodes defs name item beyond ≡ r → has (Definition e) (definition_if r) ≡ true → e < length defs
if_low nodes defs item name beyond None e n h = cc
if_low nodes defs item name beyond (Some d) e n h = elim (or_cases (nat_eq d e) false h) [
  | inl s ↦ subst (λ (k : ℕ). k < length defs) (eqb-true d e s) (nearest_within nodes defs name item beyond d n)
  | inr z ↦ cc
]

or_low : (nodes : List CollectionNode) (defs : List FixtureDef) (item name : ℕ) (r : Option ℕ) (e : ℕ) → nearest_of nodes defs name item None ≡ r → has (Definition e) (entry_or name r ∷ []) ≡ true → e < length defs
or_low nodes defs item name None e n h = cc
or_low nodes defs item name (Some d) e n h = if_low nodes defs item name None (Some d) e n h

one_low : (nodes : List CollectionNode) (defs : List FixtureDef) (item : ℕ) (bound : List ℕ) (d name e : ℕ) → has (Definition e) (asked_one nodes defs item bound d name) ≡ true → e < length defs
one_low nodes defs item bound d name e h = (elim (nat_eq name (def_at defs d).name) as (λ b. has (Definition e) (cond b (cond (among name bound) [] (definition_if (nearest_of nodes defs name item (Some d)))) (cond (among name bound) [] (entry_or name (nearest_of nodes defs name item None) ∷ []))) ≡ true → e < length defs) [
  | true ↦ λ q. (elim (among name bound) as (λ c. has (Definition e) (cond c [] (definition_if (nearest_of nodes defs name item (Some d)))) ≡ true → e < length defs) [
    | true ↦ λ z. cc
    | false ↦ λ z. if_low nodes defs item name (Some d) (nearest_of nodes defs name item (Some d)) e refl z
  ]) q
  | false ↦ λ q. (elim (among name bound) as (λ c. has (Definition e) (cond c [] (entry_or name (nearest_of nodes defs name item None) ∷ [])) ≡ true → e < length defs) [
    | true ↦ λ z. cc
    | false ↦ λ z. or_low nodes defs item name (nearest_of nodes defs name item None) e refl z
  ]) q
]) h

all_low : (nodes : List CollectionNode) (defs : List FixtureDef) (item : ℕ) (bound : List ℕ) (d : ℕ) (names : List ℕ) (e : ℕ) → has (Definition e) (asked_all nodes defs item bound d names) ≡ true → e < length defs
all_low nodes defs item bound d [] e h = cc
all_low nodes defs item bound d (name ∷ names) e h = elim (has_either (Definition e) (asked_one nodes defs item bound d name) (asked_all nodes defs item bound d names) h) [
  | inl l ↦ one_low nodes defs item bound d name e l
  | inr r ↦ all_low nodes defs item bound d names e r
]

pub requests_low : (nodes : List CollectionNode) (defs : List FixtureDef) (item : ℕ) (bound : List ℕ) (d e : ℕ) → among e (requests nodes defs item bound d) ≡ true → e < length defs
requests_low nodes defs item bound d e h = all_low nodes defs item bound d (def_at defs d).args e (defs_has e (asked_all nodes defs item bound d (def_at defs d).args) h)
