-- The nearest definition is the last at the inmost node that has one.
use Rattle.std.proofs.Common.{◌≡◌, ℕ, zero, suc, ◌+◌, ◌<◌, ◌≤◌, ◌⊎◌, inl, inr, refl, ap, sym, subst, ◌∙◌, Bool, true, false, cond, ◌&&◌, List, [], ◌∷◌, length, Option, None, Some, arith, drop, get_or, nat_eq, nat_lt, eq-eqb, IfSome}
use Rattle.std.specs.Prelude.{IfNone}
use Rattle.std.proofs.lemmas.Bool.{cases_eq, cases_lt, eqb-true, lt-ltb, ltb-true, or_cases}
use Rattle.std.proofs.Math.Seq.{drop-cons}
use Rattle.fixture_table.specs.declared.types.CollectionNode.{CollectionNode}
use Rattle.fixture_table.specs.declared.types.FixtureDef.{FixtureDef}
use Rattle.fixture_table.specs.Index.{HoldsOfNone, IsIndex, IsLast, is_called}
use Rattle.fixture_table.specs.Marks.{row_of}
use Rattle.fixture_table.specs.Nearest.{blank, overriding_def, def_at, may_answer, nearest_from, nearest_of}
use Rattle.fixture_table.specs.Tree.{IsTree, covers, node_depth, parent_of}
use Rattle.fixture_table.proofs.Chains.{chain_step, covers_step, depth_step}
use Rattle.fixture_table.proofs.Index.{in_row, node_of, row_is, row_rises}
use Rattle.fixture_table.proofs.Reached.{or_right, or_true}
use Rattle.session_types.proofs.Lists.{and_both, both_and}
use Rattle.session_types.specs.Numbers.{among}

drop_all : {A : Type 0} (xs : List A) (k : ℕ) → length xs ≤ k → drop k xs ≡ []
drop_all [] zero le = refl
drop_all [] (suc k) le = refl
drop_all (x ∷ xs) zero le = absurd (omega (arith, le))
drop_all (x ∷ xs) (suc k) le = drop_all xs k (omega (arith, le))

pub covers_self : (nodes : List CollectionNode) (at : ℕ) → covers nodes at at ≡ true
covers_self nodes zero = or_true (nat_eq 0 0) false (eq-eqb 0 0 refl)
covers_self nodes (suc k) = or_true (nat_eq (suc k) (suc k)) _ (eq-eqb (suc k) (suc k) refl)

covers_up : (nodes : List CollectionNode) → IsTree nodes → (outer at : ℕ) → (at ≡ 0 → ⊥) → at < length nodes → covers nodes outer (parent_of nodes at) ≡ true → covers nodes outer at ≡ true
covers_up nodes tree outer at nz lt c = ap (among outer) (chain_step nodes tree at nz lt) ∙ or_right (nat_eq at outer) (covers nodes outer (parent_of nodes at)) c

-- what stands at the root or above it is the root
root_only : (nodes : List CollectionNode) (outer : ℕ) → covers nodes outer 0 ≡ true → outer ≡ 0
root_only nodes outer c = elim (or_cases (nat_eq 0 outer) false c) [ inl e ↦ sym (eqb-true 0 outer e) | inr f ↦ cc ]

-- with a node its parent is on the way up
pub parent_on : (nodes : List CollectionNode) → IsTree nodes → (n at inner : ℕ) → inner ≤ n → inner < length nodes → (at ≡ 0 → ⊥) → covers nodes at inner ≡ true → covers nodes (parent_of nodes at) inner ≡ true
parent_on nodes tree zero at inner le lt nz c = (let z : inner ≡ 0 = omega (arith, le) in absurd (nz (root_only nodes at (subst (λ (k : ℕ). covers nodes at k ≡ true) z c))))
parent_on nodes tree (suc n) at inner le lt nz c =
    elim (cases_eq inner at) [
      | inl e ↦
          (let iz : inner ≡ 0 → ⊥ = λ z. nz (sym e ∙ z) in
          let own : covers nodes (parent_of nodes at) (parent_of nodes inner) ≡ true = subst (λ (k : ℕ). covers nodes (parent_of nodes at) (parent_of nodes k) ≡ true) (sym e) (covers_self nodes (parent_of nodes at)) in
          covers_up nodes tree (parent_of nodes at) inner iz lt own)
      | inr ne ↦
          (let iz : inner ≡ 0 → ⊥ = λ z. nz (root_only nodes at (subst (λ (k : ℕ). covers nodes at k ≡ true) z c)) in
          let up = tree.behind inner (omega (arith, iz)) lt in
          let c2 : covers nodes at (parent_of nodes inner) ≡ true = covers_step nodes tree at inner ne iz lt ∙ c in
          covers_up nodes tree (parent_of nodes at) inner iz lt (parent_on nodes tree n at (parent_of nodes inner) (omega (arith, up, le)) (omega (arith, up, lt)) nz c2))
    ]

module _ (nodes : List CollectionNode) (defs : List FixtureDef) (name item : ℕ) (beyond : Option ℕ) where
  abbrev pub may : ℕ → Bool
  may d = may_answer nodes defs name item beyond d (def_at defs d)

  abbrev depth : ℕ → ℕ
  depth d = node_depth nodes (node_of defs d)

  -- d answers before e, or is e
  abbrev pub Better : ℕ → ℕ → Type 0
  Better d e = (depth e < depth d) ⊎ ((depth e ≤ depth d) × (e ≤ d))

  -- the best of those from a place on
  record IsBest (from d : ℕ) : Type 0 where
    low : from ≤ d
    within : d < length defs
    so : may d ≡ true
    best : (e : ℕ) → from ≤ e → e < length defs → may e ≡ true → Better d e

  abbrev Found : ℕ → Option ℕ → Type 0
  Found from None = (e : ℕ) → from ≤ e → e < length defs → may e ≡ true → ⊥
  Found from (Some d) = IsBest from d

  none_more : (place : ℕ) → may place ≡ false → Found (place + 1) None → Found place None
  none_more place no_more law e le lt m = elim (cases_eq e place) [
    | inl s ↦ (let z : true ≡ false = sym (subst (λ (k : ℕ). may k ≡ true) s m) ∙ no_more in cc)
    | inr ne ↦ law e (omega (arith, le, ne)) lt m
  ]

  skip : (place : ℕ) (r : Option ℕ) → may place ≡ false → Found (place + 1) r → Found place r
  skip place None no_more law = none_more place no_more law
  skip place (Some d) no_more b = (let l = b.low in record {
    low = omega (arith, l);
    within = b.within;
    so = b.so;
    best = λ e le lt m. elim (cases_eq e place) [
      | inl s ↦ (let z : true ≡ false = sym (subst (λ (k : ℕ). may k ≡ true) s m) ∙ no_more in cc)
      | inr ne ↦ b.best e (omega (arith, le, ne)) lt m
    ];
  })

  take : (place : ℕ) (r : Option ℕ) → place < length defs → may place ≡ true → Found (place + 1) r → Found place (overriding_def nodes defs place r)
  take place None lt m law = record {
    low = omega arith;
    within = lt;
    so = m;
    best = λ e le l k. elim (cases_eq e place) [
      | inl s ↦ (let q : depth e ≡ depth place = ap depth s in inr (omega (arith, q), omega (arith, s)))
      | inr ne ↦ absurd (law e (omega (arith, le, ne)) l k)
    ];
  }
  take place (Some d) lt m b =
      let low = b.low in
      elim (nat_lt (depth d) (depth place)) as (λ c. nat_lt (depth d) (depth place) ≡ c → Found place (cond c (Some place) (Some d))) [
        | true ↦ λ h. (let less = ltb-true (depth d) (depth place) h in record {
          low = omega arith;
          within = lt;
          so = m;
          best = λ e le l k. elim (cases_eq e place) [
            | inl s ↦ (let q : depth e ≡ depth place = ap depth s in inr (omega (arith, q), omega (arith, s)))
            | inr ne ↦ elim (b.best e (omega (arith, le, ne)) l k) [
              | inl w ↦ inl (omega (arith, w, less))
              | inr w ↦ (let v = w.0 in inl (omega (arith, v, less)))
            ]
          ];
        })
        | false ↦ λ h. record {
          low = omega (arith, low);
          within = b.within;
          so = b.so;
          best = λ e le l k. elim (cases_eq e place) [
            | inl s ↦ (let q : depth e ≡ depth place = ap depth s in
                let more : depth place ≤ depth d = not_less (depth d) (depth place) h in inr (omega (arith, q, more), omega (arith, s, low)))
            | inr ne ↦ b.best e (omega (arith, le, ne)) l k
          ];
        }
      ] refl
    where
      not_less : (a c : ℕ) → nat_lt a c ≡ false → c ≤ a
      not_less a c h = elim (cases_lt a c) [ inl l ↦ absurd (let z : true ≡ false = sym (lt-ltb a c l) ∙ h in cc) | inr g ↦ g ]

  found_from : (n place : ℕ) → place + n ≡ length defs → Found place (nearest_from nodes defs name item beyond place (drop place defs))
  found_from zero place e = subst (λ (l : List FixtureDef). Found place (nearest_from nodes defs name item beyond place l)) (sym (drop_all defs place (omega (arith, e)))) (λ d le lt m. omega (arith, le, lt, e))
  found_from (suc n) place e =
      let one = def_at defs place in
      let rest = drop (suc place) defs in
      let lt : place < length defs = omega (arith, e) in
      let cut : drop place defs ≡ one ∷ rest = drop-cons defs place blank lt in
      let q : suc place ≡ place + 1 = omega arith in
      let again : Found (place + 1) (nearest_from nodes defs name item beyond (place + 1) rest) = subst (λ (k : ℕ). Found k (nearest_from nodes defs name item beyond k rest)) q (found_from n (suc place) (omega (arith, e))) in
      let later = nearest_from nodes defs name item beyond (place + 1) rest in
      subst (λ (l : List FixtureDef). Found place (nearest_from nodes defs name item beyond place l)) (sym cut)
      (elim (may place) as (λ b. may place ≡ b → Found place (cond b (overriding_def nodes defs place later) later)) [
        | true ↦ λ h. take place later lt h again
        | false ↦ λ h. skip place later h again
      ] refl)

  found : Found 0 (nearest_of nodes defs name item beyond)
  found = found_from (length defs) 0 (omega arith)

  one_best : (d e : ℕ) → Better d e → Better e d → d ≡ e
  one_best d e (inl a) (inl b) = absurd (omega (arith, a, b))
  one_best d e (inl a) (inr b) = (let v = b.0 in absurd (omega (arith, a, v)))
  one_best d e (inr a) (inl b) = (let v = a.0 in absurd (omega (arith, v, b)))
  one_best d e (inr a) (inr b) = (let v = a.1 in let w = b.1 in omega (arith, v, w))

  pub nearest_is : (d : ℕ) → d < length defs → may d ≡ true → ((e : ℕ) → e < length defs → may e ≡ true → Better d e) → Some d ≡ nearest_of nodes defs name item beyond
  nearest_is d lt m best = pick (nearest_of nodes defs name item beyond) found where
    pick : (r : Option ℕ) → Found 0 r → Some d ≡ r
    pick None law = absurd (law d (omega arith) lt m)
    pick (Some e) b = ap (λ (k : ℕ). Some k) (one_best d e (best e b.within b.so) (b.best d (omega arith) lt m))

  pub nearest_none : ((e : ℕ) → e < length defs → may e ≡ true → ⊥) → None ≡ nearest_of nodes defs name item beyond
  nearest_none none = pick (nearest_of nodes defs name item beyond) found where
    pick : (r : Option ℕ) → Found 0 r → None ≡ r
    pick None law = refl
    pick (Some e) b = absurd (none e b.within b.so)

  pub nearest_within : (d : ℕ) → nearest_of nodes defs name item beyond ≡ Some d → d < length defs
  nearest_within d e = (subst (λ (r : Option ℕ). Found 0 r) e found).within

  pub nearest_low : (r : Option ℕ) → r ≡ nearest_of nodes defs name item beyond → IfSome r (λ d. d < length defs)
  nearest_low None e = tt
  nearest_low (Some d) e = nearest_within d (sym e)

  -- THE WALK UP

  -- what may answer is called so, and stands at the item's node or above it
  split : (d : ℕ) → may d ≡ true → (is_called nodes defs name beyond d ≡ true) × (covers nodes (node_of defs d) item ≡ true)
  split d m =
      let a = and_both (nat_eq (def_at defs d).name name) _ m in
      let b = and_both (covers nodes (node_of defs d) item) _ a.1 in
      (both_and (nat_eq (def_at defs d).name name) _ a.0 b.1, b.0)

  joined : (d : ℕ) → is_called nodes defs name beyond d ≡ true → covers nodes (node_of defs d) item ≡ true → may d ≡ true
  joined d c v =
      let a = and_both (nat_eq (def_at defs d).name name) _ c in
      both_and (nat_eq (def_at defs d).name name) _ a.0 (both_and (covers nodes (node_of defs d) item) _ v a.1)

  -- whatever may answer stands at this node or above it
  abbrev pub AllAbove : ℕ → Type 0
  AllAbove at = (d : ℕ) → d < length defs → may d ≡ true → covers nodes (node_of defs d) at ≡ true

  pub above_first : AllAbove item
  above_first d lt m = (split d m).1

  -- a node above another is less deep
  less_deep : (tree : IsTree nodes) (n outer inner : ℕ) → inner ≤ n → inner < length nodes → covers nodes outer inner ≡ true → (inner ≡ outer → ⊥) → node_depth nodes outer < node_depth nodes inner
  less_deep tree zero outer inner le lt c ne = (let z : inner ≡ 0 = omega (arith, le) in absurd (ne (z ∙ sym (root_only nodes outer (subst (λ (k : ℕ). covers nodes outer k ≡ true) z c)))))
  less_deep tree (suc n) outer inner le lt c ne =
      elim (cases_eq inner 0) [
        | inl z ↦ absurd (ne (z ∙ sym (root_only nodes outer (subst (λ (k : ℕ). covers nodes outer k ≡ true) z c))))
        | inr nz ↦
            (let up = tree.behind inner (omega (arith, nz)) lt in
            let p = parent_of nodes inner in
            let above : covers nodes outer p ≡ true = covers_step nodes tree outer inner ne nz lt ∙ c in
            let step = depth_step nodes tree inner nz lt in
            elim (cases_eq p outer) [
              | inl e ↦ (let q : node_depth nodes p ≡ node_depth nodes outer = ap (node_depth nodes) e in omega (arith, step, q))
              | inr other ↦ (let l = less_deep tree n outer p (omega (arith, up, le)) (omega (arith, up, lt)) above other in omega (arith, step, l))
            ])
      ]

  module _ (rows : List (List ℕ)) (tree : IsTree nodes) (index : IsIndex nodes defs rows) (at : ℕ) (low : at < length nodes) (on : covers nodes at item ≡ true) (above : AllAbove at) where
    -- the last of the row that is called so is the nearest
    pub last_is : (d : ℕ) → IsLast (is_called nodes defs name beyond) (row_of rows at) d → Some d ≡ nearest_of nodes defs name item beyond
    last_is d l =
        let r = row_is nodes defs rows index at l.place l.within in
        let w : d < length defs = subst (λ (k : ℕ). k < length defs) l.is r.0 in
        let there : node_of defs d ≡ at = subst (λ (k : ℕ). node_of defs k ≡ at) l.is r.1 in
        let m : may d ≡ true = joined d l.so (subst (λ (k : ℕ). covers nodes k item ≡ true) (sym there) on) in
        nearest_is d w m (λ e lt k. elim (cases_eq at (node_of defs e)) [
          | inl same ↦
              (let q = in_row nodes defs rows index at e lt (sym same) in
              let deep : depth e ≡ depth d = ap (node_depth nodes) (sym same ∙ sym there) in
              let before : q.0 ≤ l.place = elim (cases_lt l.place q.0) [
                | inl later ↦ absurd (let f = l.behind q.0 later q.1 in let g : is_called nodes defs name beyond e ≡ false = subst (λ (k : ℕ). is_called nodes defs name beyond k ≡ false) q.2 f in let z : true ≡ false = sym (split e k).0 ∙ g in cc)
                | inr not_later ↦ not_later
              ] in
              let no_later : e ≤ d = elim (cases_eq q.0 l.place) [
                | inl s ↦ (let z : e ≡ d = sym q.2 ∙ (ap (λ (n : ℕ). get_or (row_of rows at) n 0) s ∙ l.is) in omega (arith, z))
                | inr ne ↦ (let z = row_rises nodes defs rows index at q.0 l.place (omega (arith, before, ne)) l.within in let a = q.2 in let b = l.is in omega (arith, z, a, b))
              ] in
              inr (omega (arith, deep), no_later))
          | inr other ↦ inl (subst (λ (n : ℕ). depth e < node_depth nodes n) (sym there) (less_deep tree at (node_of defs e) at (omega arith) low (above e lt k) other))
        ])

    -- where none of the row is called so, all stand above
    pub above_more : HoldsOfNone (is_called nodes defs name beyond) (row_of rows at) → (at ≡ 0 → ⊥) → AllAbove (parent_of nodes at)
    above_more none nz d lt m =
        covers_step nodes tree (node_of defs d) at (λ e. not_here d lt m (sym e)) nz low ∙ above d lt m
      where
        not_here : (e : ℕ) → e < length defs → may e ≡ true → node_of defs e ≡ at → ⊥
        not_here e l k there = (let q = in_row nodes defs rows index at e l there in
            let f : is_called nodes defs name beyond e ≡ false = subst (λ (n : ℕ). is_called nodes defs name beyond n ≡ false) q.2 (none q.0 q.1) in
            let z : true ≡ false = sym (split e k).0 ∙ f in cc)

    -- and at the root there is none
    pub root_none : HoldsOfNone (is_called nodes defs name beyond) (row_of rows at) → at ≡ 0 → None ≡ nearest_of nodes defs name item beyond
    root_none none z = nearest_none (λ d lt m.
        (let c : covers nodes (node_of defs d) 0 ≡ true = subst (λ (k : ℕ). covers nodes (node_of defs d) k ≡ true) z (above d lt m) in
        let there : node_of defs d ≡ at = root_only nodes (node_of defs d) c ∙ sym z in
        let q = in_row nodes defs rows index at d lt there in
        let f : is_called nodes defs name beyond d ≡ false = subst (λ (n : ℕ). is_called nodes defs name beyond n ≡ false) q.2 (none q.0 q.1) in
        let w : true ≡ false = sym (split d m).0 ∙ f in cc))

    -- at the root the answer of the row is the answer
    pub root_is : (r : Option ℕ) → at ≡ 0 → IfSome r (IsLast (is_called nodes defs name beyond) (row_of rows at)) → IfNone r (HoldsOfNone (is_called nodes defs name beyond) (row_of rows at)) → r ≡ nearest_of nodes defs name item beyond
    root_is None z last none = root_none none z
    root_is (Some d) z last none = last_is d last
