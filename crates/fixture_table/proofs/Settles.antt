-- A closure without fault is settled.
use Rattle.std.proofs.Common.{◌≡◌, ℕ, zero, suc, arith, ◌<◌, ◌≤◌, refl, ap, sym, subst, ◌∙◌, Bool, true, false, List, [], ◌∷◌, length, Option, Some, None, cond, ◌||◌, inl, inr, nat_eq, nat_lt, eq-eqb, find}
use Rattle.std.proofs.lemmas.Bool.{cases_lt, or_cases, eqb-true, lt-ltb}
use Rattle.fixture_table.specs.declared.types.CollectionNode.{CollectionNode}
use Rattle.fixture_table.specs.declared.types.FixtureDef.{FixtureDef}
use Rattle.fixture_table.specs.declared.entry.Entry.{Entry}
use Rattle.fixture_table.specs.declared.entry.Entry.TheVariants.{Definition, Missing}
use Rattle.session_types.specs.Scopes.{rank, scope_count}
use Rattle.session_types.proofs.Order.{rank_low}
use Rattle.session_types.specs.Numbers.{among}
use Rattle.fixture_table.specs.Nearest.{nearest_of, def_at}
use Rattle.session_types.proofs.Lists.{In-among}
use Rattle.session_types.specs.Members.{IsMember}
use Rattle.fixture_table.specs.Closing.{IsKnown, Known, has, requested_by, asked_one, asked_all, entry_or, definition_if}
use Rattle.fixture_table.specs.Faults.{definitions_of, of_rank, by_ranks, by_scope, rank_or, is_narrower, IsSoundEntry, IsClosure, CanBeSetUp}
use Rattle.fixture_table.proofs.Asked.{definitions_append, entry_place}
use Rattle.fixture_table.proofs.Closed.{closed, defs_has}
use Rattle.fixture_table.proofs.Reached.{or_true, or_right, among_append}

pub has_defs : (d : ℕ) (es : List Entry) → has (Definition d) es ≡ true → among d (definitions_of es) ≡ true
has_defs d [] h = absurd cc
has_defs d (Definition e ∷ es) h = elim (or_cases (nat_eq e d) (has (Definition d) es) h) [
  | inl s ↦ or_true (nat_eq e d) (among d (definitions_of es)) s
  | inr r ↦ or_right (nat_eq e d) (among d (definitions_of es)) (has_defs d es r)
]
has_defs d (Missing n ∷ es) h = has_defs d es h

module _ (defs : List FixtureDef) where
  abbrev level : ℕ → ℕ
  level d = rank (def_at defs d).scope

  ranked_in : (r d : ℕ) (ds : List ℕ) → among d (of_rank defs r ds) ≡ true → among d ds ≡ true
  ranked_in r d [] h = h
  ranked_in r d (x ∷ ds) h = pick (λ g. ranked_in r d ds g) (nat_eq (level x) r) refl where
    pick : (among d (of_rank defs r ds) ≡ true → among d ds ≡ true) → (b : Bool) → nat_eq (level x) r ≡ b → (nat_eq x d || among d ds) ≡ true
    pick again true e = elim (or_cases (nat_eq x d) (among d (of_rank defs r ds)) (sym (ap (λ (c : Bool). among d (cond c (x ∷ of_rank defs r ds) (of_rank defs r ds))) e) ∙ h)) [
      | inl s ↦ or_true (nat_eq x d) (among d ds) s
      | inr g ↦ or_right (nat_eq x d) (among d ds) (again g)
    ]
    pick again false e = or_right (nat_eq x d) (among d ds) (again (sym (ap (λ (c : Bool). among d (cond c (x ∷ of_rank defs r ds) (of_rank defs r ds))) e) ∙ h))

  in_ranked : (r d : ℕ) (ds : List ℕ) → level d ≡ r → among d ds ≡ true → among d (of_rank defs r ds) ≡ true
  in_ranked r d [] is h = h
  in_ranked r d (x ∷ ds) is h = elim (or_cases (nat_eq x d) (among d ds) h) [
    | inl s ↦ ap (λ (c : Bool). among d (cond c (x ∷ of_rank defs r ds) (of_rank defs r ds))) (eq-eqb (level x) r (ap level (eqb-true x d s) ∙ is)) ∙ or_true (nat_eq x d) (among d (of_rank defs r ds)) s
    | inr g ↦ pick (nat_eq (level x) r) refl (in_ranked r d ds is g)
  ]
    where
      pick : (b : Bool) → nat_eq (level x) r ≡ b → among d (of_rank defs r ds) ≡ true → among d (of_rank defs r (x ∷ ds)) ≡ true
      pick true e g = ap (λ (c : Bool). among d (cond c (x ∷ of_rank defs r ds) (of_rank defs r ds))) e ∙ or_right (nat_eq x d) (among d (of_rank defs r ds)) g
      pick false e g = ap (λ (c : Bool). among d (cond c (x ∷ of_rank defs r ds) (of_rank defs r ds))) e ∙ g

  ranks_in : (n d : ℕ) (ds : List ℕ) → among d (by_ranks defs n ds) ≡ true → among d ds ≡ true
  ranks_in zero d ds h = absurd cc
  ranks_in (suc n) d ds h = elim (or_cases (among d (by_ranks defs n ds)) (among d (of_rank defs n ds)) (sym (among_append d (by_ranks defs n ds) (of_rank defs n ds)) ∙ h)) [
    | inl g ↦ ranks_in n d ds g
    | inr g ↦ ranked_in n d ds g
  ]

  in_ranks : (n d : ℕ) (ds : List ℕ) → level d < n → among d ds ≡ true → among d (by_ranks defs n ds) ≡ true
  in_ranks zero d ds lt h = absurd (omega arith)
  in_ranks (suc n) d ds lt h = among_append d (by_ranks defs n ds) (of_rank defs n ds) ∙ elim (cases_lt (level d) n) [
    | inl less ↦ or_true (among d (by_ranks defs n ds)) (among d (of_rank defs n ds)) (in_ranks n d ds less h)
    | inr more ↦ or_right (among d (by_ranks defs n ds)) (among d (of_rank defs n ds)) (in_ranked n d ds (omega arith) h)
  ]

  scope_in : (d : ℕ) (ds : List ℕ) → among d (by_scope defs ds) ≡ true → among d ds ≡ true
  scope_in d ds h = ranks_in scope_count d ds h

  in_scope : (d : ℕ) (ds : List ℕ) → among d ds ≡ true → among d (by_scope defs ds) ≡ true
  in_scope d ds h = in_ranks scope_count d ds (rank_low (def_at defs d).scope) h

-- who isn't found isn't so
not_found : (p : ℕ → Bool) (x : ℕ) (xs : List ℕ) → find p (x ∷ xs) ≡ None → (p x ≡ false) × (find p xs ≡ None)
not_found p x xs h = pick (p x) refl where
  pick : (b : Bool) → p x ≡ b → (p x ≡ false) × (find p xs ≡ None)
  pick true e = absurd (let bad : Some x ≡ None = sym (ap (λ (c : Bool). cond c (Some x) (find p xs)) e) ∙ h in cc)
  pick false e = (e, sym (ap (λ (c : Bool). cond c (Some x) (find p xs)) e) ∙ h)

module _ (nodes : List CollectionNode) (defs : List FixtureDef) (item : ℕ) (bound : List ℕ) where
  found_rank : (found : Option ℕ) (e n : ℕ) → among e (definitions_of (definition_if found)) ≡ true → nat_lt n (rank_or defs found) ≡ false → level defs e ≤ n
  found_rank None e n h isnt = absurd cc
  found_rank (Some d) e n h isnt = elim (or_cases (nat_eq d e) false h) [
    | inl s ↦ subst (λ (x : ℕ). level defs x ≤ n) (eqb-true d e s) (elim (cases_lt n (level defs d)) [ inl lt ↦ absurd (let bad : true ≡ false = sym (lt-ltb n (level defs d) lt) ∙ isnt in cc) | inr le ↦ le ])
    | inr s ↦ absurd cc
  ]

  or_if : (name e : ℕ) (found : Option ℕ) → definitions_of (entry_or name found ∷ []) ≡ definitions_of (definition_if found)
  or_if name e None = refl
  or_if name e (Some d) = refl

  one_rank : (d name e : ℕ) → is_narrower nodes defs item bound d name ≡ false → among e (definitions_of (asked_one nodes defs item bound d name)) ≡ true → level defs e ≤ level defs d
  one_rank d name e isnt h = pick (nat_eq name (def_at defs d).name) (among name bound) refl refl where
    own : Option ℕ
    own = nearest_of nodes defs name item (Some d)

    any : Option ℕ
    any = nearest_of nodes defs name item None

    list : Bool → Bool → List Entry
    list a b = cond a (cond b [] (definition_if own)) (cond b [] (entry_or name any ∷ []))

    top : Bool → Bool → ℕ
    top a b = cond b 3 (cond a (rank_or defs own) (rank_or defs any))

    pick : (a b : Bool) → nat_eq name (def_at defs d).name ≡ a → among name bound ≡ b → level defs e ≤ level defs d
    pick a b ea eb =
        let h1 : among e (definitions_of (list a b)) ≡ true = subst (λ (x : Bool). among e (definitions_of (list x b)) ≡ true) ea (subst (λ (y : Bool). among e (definitions_of (list (nat_eq name (def_at defs d).name) y)) ≡ true) eb h) in
        let no1 : nat_lt (level defs d) (top a b) ≡ false = subst (λ (x : Bool). nat_lt (level defs d) (top x b) ≡ false) ea (subst (λ (y : Bool). nat_lt (level defs d) (top (nat_eq name (def_at defs d).name) y) ≡ false) eb isnt) in
        known a b h1 no1
      where
        known : (a b : Bool) → among e (definitions_of (list a b)) ≡ true → nat_lt (level defs d) (top a b) ≡ false → level defs e ≤ level defs d
        known true true g n = absurd cc
        known false true g n = absurd cc
        known true false g n = found_rank own e (level defs d) g n
        known false false g n = found_rank any e (level defs d) (subst (λ (l : List ℕ). among e l ≡ true) (or_if name e any) g) n

  all_rank : (d e : ℕ) (names : List ℕ) → find (is_narrower nodes defs item bound d) names ≡ None → among e (definitions_of (asked_all nodes defs item bound d names)) ≡ true → level defs e ≤ level defs d
  all_rank d e [] isnt h = absurd cc
  all_rank d e (name ∷ names) isnt h =
      let one = asked_one nodes defs item bound d name in
      let more = asked_all nodes defs item bound d names in
      let n = not_found (is_narrower nodes defs item bound d) name names isnt in
      elim (or_cases (among e (definitions_of one)) (among e (definitions_of more)) (sym (among_append e (definitions_of one) (definitions_of more)) ∙ sym (ap (among e) (definitions_append one more)) ∙ h)) [
        | inl g ↦ one_rank d name e n.0 g
        | inr g ↦ all_rank d e names n.1 g
      ]

  pub settled : (uses args closure : List ℕ) → IsClosure nodes defs item bound uses args closure → CanBeSetUp nodes defs item bound closure
  settled uses args closure c = subst (CanBeSetUp nodes defs item bound) (sym c.sorted) (record {
    within = λ d e there h. in_scope defs e (definitions_of c.entries) (has_defs e c.entries (closed nodes defs item bound _ c.entries c.grown (Definition d) (Definition e) (inside d there) (defs_has e (requested_by nodes defs item bound (Definition d)) h)));
    apart = λ d there r. (sound d there).0 (inl r);
    broader = λ d e there h. all_rank d e (def_at defs d).args (sound d there).1 h;
  })
    where
      inside : (d : ℕ) → among d (by_scope defs (definitions_of c.entries)) ≡ true → has (Definition d) c.entries ≡ true
      inside d there = defs_has d c.entries (scope_in defs d (definitions_of c.entries) there)

      sound : (d : ℕ) → among d (by_scope defs (definitions_of c.entries)) ≡ true → IsSoundEntry nodes defs item bound (Definition d)
      sound d there =
          let at = entry_place (Definition d) c.entries (inside d there) in
          subst (IsSoundEntry nodes defs item bound) at.2 (c.sound at.0 at.1)

-- a closure is of the table
pub closure_known : (defs : List FixtureDef) (entries : List Entry) → Known defs entries → (d : ℕ) → IsMember d (by_scope defs (definitions_of entries)) → d < length defs
closure_known defs entries known d m =
    let at = entry_place (Definition d) entries (defs_has d entries (scope_in defs d (definitions_of entries) (In-among d (by_scope defs (definitions_of entries)) m))) in
    subst (λ (e : Entry). IsKnown defs e) at.2 (known at.0 at.1)
