-- The definitions that stand at a node.
use Rattle.std.proofs.Common.{◌≡◌, ℕ, zero, suc, ◌+◌, ◌<◌, ◌≤◌, inl, inr, refl, ap, sym, subst, ◌∙◌, Bool, true, false, cond, ◌&&◌, List, [], ◌∷◌, ◌++◌, length, map, arith, get_or, set, drop, length-append, nat_eq, eq-eqb, append_assoc, get_or-set_same, get_or-set_other}
use Rattle.std.specs.List.{filter}
use Rattle.std.proofs.lemmas.Bool.{cases_eq, cases_lt, eqb-true, ne_eqb}
use Rattle.std.proofs.Math.ListN.{get_or-append}
use Rattle.std.proofs.Math.Seq.{drop-cons, get_or-append_seam}
use Rattle.std.proofs.lemmas.List.{append-nil}
use Rattle.fixture_table.specs.declared.types.CollectionNode.{CollectionNode}
use Rattle.fixture_table.specs.declared.types.FixtureDef.{FixtureDef}
use Rattle.fixture_table.specs.Closing.{autouse_at}
use Rattle.fixture_table.specs.Index.{IsIndex, autouse_names, placed_at, placed_from}
use Rattle.fixture_table.specs.Marks.{row_of}
use Rattle.fixture_table.specs.Nearest.{StandAtNodes, blank, def_at}

abbrev pub node_of : List FixtureDef → ℕ → ℕ
node_of defs d = (def_at defs d).node

-- each number of a row is that of a definition that stands there
pub record Stands (place node : ℕ) (rest : List FixtureDef) (d : ℕ) : Type 0 where
  pub at : ℕ
  pub within : at < length rest
  pub is : d ≡ place + at
  pub there : node_of rest at ≡ node

placed_is : (place node : ℕ) (rest : List FixtureDef) (q : ℕ) → q < length (placed_from place node rest) → Stands place node rest (get_or (placed_from place node rest) q 0)
placed_is place node [] q lt = absurd (omega (arith, lt))
placed_is place node (one ∷ rest) q lt = pick (λ r l. later r (placed_is (place + 1) node rest r l)) (nat_eq one.node node) refl where
  later : (r : ℕ) → Stands (place + 1) node rest (get_or (placed_from (place + 1) node rest) r 0) → Stands place node (one ∷ rest) (get_or (placed_from (place + 1) node rest) r 0)
  later r s = (let w = s.within in let i = s.is in record { at = suc s.at; within = omega (arith, w); is = omega (arith, i); there = s.there })

  here : ((r : ℕ) → r < length (placed_from (place + 1) node rest) → Stands place node (one ∷ rest) (get_or (placed_from (place + 1) node rest) r 0))
      → (r : ℕ) → one.node ≡ node → r < length (place ∷ placed_from (place + 1) node rest) → Stands place node (one ∷ rest) (get_or (place ∷ placed_from (place + 1) node rest) r 0)
  here more zero e l = record { at = 0; within = omega arith; is = omega arith; there = e }
  here more (suc r) e l = more r (omega (arith, l))

  pick : ((r : ℕ) → r < length (placed_from (place + 1) node rest) → Stands place node (one ∷ rest) (get_or (placed_from (place + 1) node rest) r 0))
      → (b : Bool) → nat_eq one.node node ≡ b → Stands place node (one ∷ rest) (get_or (placed_from place node (one ∷ rest)) q 0)
  pick more true e =
      let P : Bool → Type 0 = λ c. q < length (cond c (place ∷ placed_from (place + 1) node rest) (placed_from (place + 1) node rest)) in
      subst (λ (c : Bool). Stands place node (one ∷ rest) (get_or (cond c (place ∷ placed_from (place + 1) node rest) (placed_from (place + 1) node rest)) q 0)) (sym e) (here more q (eqb-true one.node node e) (subst P e lt))
  pick more false e =
      let P : Bool → Type 0 = λ c. q < length (cond c (place ∷ placed_from (place + 1) node rest) (placed_from (place + 1) node rest)) in
      subst (λ (c : Bool). Stands place node (one ∷ rest) (get_or (cond c (place ∷ placed_from (place + 1) node rest) (placed_from (place + 1) node rest)) q 0)) (sym e) (more q (subst P e lt))

-- a definition that stands at a node is in its row
placed_in : (place node : ℕ) (rest : List FixtureDef) (k : ℕ) → k < length rest → node_of rest k ≡ node → (q : ℕ) × (q < length (placed_from place node rest)) × (get_or (placed_from place node rest) q 0 ≡ place + k)
placed_in place node [] k lt e = absurd (omega (arith, lt))
placed_in place node (one ∷ rest) zero lt e = rw (eq-eqb one.node node e) (0, omega arith, omega arith)
placed_in place node (one ∷ rest) (suc k) lt e =
    let r = placed_in (place + 1) node rest k (omega (arith, lt)) e in
    let w = r.1 in let i = r.2 in
    elim (nat_eq one.node node) as (λ b. (q : ℕ) × (q < length (cond b (place ∷ placed_from (place + 1) node rest) (placed_from (place + 1) node rest))) × (get_or (cond b (place ∷ placed_from (place + 1) node rest) (placed_from (place + 1) node rest)) q 0 ≡ place + suc k)) [
      | true ↦ (suc r.0, omega (arith, w), omega (arith, i))
      | false ↦ (r.0, w, omega (arith, i))
    ]

-- the numbers of a row rise
rises : (place node : ℕ) (rest : List FixtureDef) (q r : ℕ) → q < r → r < length (placed_from place node rest) → get_or (placed_from place node rest) q 0 < get_or (placed_from place node rest) r 0
rises place node [] q r lt l = absurd (omega (arith, l))
rises place node (one ∷ rest) q r lt l =
    (elim (nat_eq one.node node) as (λ b. r < length (cond b (place ∷ placed_from (place + 1) node rest) (placed_from (place + 1) node rest))
    → get_or (cond b (place ∷ placed_from (place + 1) node rest) (placed_from (place + 1) node rest)) q 0 < get_or (cond b (place ∷ placed_from (place + 1) node rest) (placed_from (place + 1) node rest)) r 0) [
      | true ↦ λ m. here (λ a b s n. rises (place + 1) node rest a b s n) q r lt m
      | false ↦ λ m. rises (place + 1) node rest q r lt m
    ]) l
  where
    here : ((a b : ℕ) → a < b → b < length (placed_from (place + 1) node rest) → get_or (placed_from (place + 1) node rest) a 0 < get_or (placed_from (place + 1) node rest) b 0)
        → (a b : ℕ) → a < b → b < length (place ∷ placed_from (place + 1) node rest) → get_or (place ∷ placed_from (place + 1) node rest) a 0 < get_or (place ∷ placed_from (place + 1) node rest) b 0
    here more a zero s m = absurd (omega (arith, s))
    here more zero (suc b) s m = (let i = (placed_is (place + 1) node rest b (omega (arith, m))).is in omega (arith, i))
    here more (suc a) (suc b) s m = more a b (omega (arith, s)) (omega (arith, m))

module _ (nodes : List CollectionNode) (defs : List FixtureDef) (rows : List (List ℕ)) (index : IsIndex nodes defs rows) where
  pub row_is : (node q : ℕ) → q < length (row_of rows node) → (get_or (row_of rows node) q 0 < length defs) × (node_of defs (get_or (row_of rows node) q 0) ≡ node)
  row_is node q lt =
      let e = index.listed node in
      let s = placed_is 0 node defs q (subst (λ (l : List ℕ). q < length l) e lt) in
      let w = s.within in let i = s.is in
      let z : get_or (row_of rows node) q 0 ≡ s.at = ap (λ (l : List ℕ). get_or l q 0) e ∙ (omega (arith, i)) in
      (omega (arith, z, w), ap (node_of defs) z ∙ s.there)

  pub in_row : (node d : ℕ) → d < length defs → node_of defs d ≡ node → (q : ℕ) × (q < length (row_of rows node)) × (get_or (row_of rows node) q 0 ≡ d)
  in_row node d lt there =
      let e = sym (index.listed node) in
      let r = placed_in 0 node defs d lt there in
      let i = r.2 in
      (r.0, subst (λ (l : List ℕ). r.0 < length l) e r.1, ap (λ (l : List ℕ). get_or l r.0 0) (sym e) ∙ omega (arith, i))

  pub row_rises : (node q r : ℕ) → q < r → r < length (row_of rows node) → get_or (row_of rows node) q 0 < get_or (row_of rows node) r 0
  row_rises node q r lt l =
      let e = index.listed node in
      subst (λ (k : List ℕ). get_or k q 0 < get_or k r 0) (sym e) (rises 0 node defs q r lt (subst (λ (k : List ℕ). r < length k) e l))

-- A DEFINITION MORE, A NODE MORE

placed_push : (place node : ℕ) (defs : List FixtureDef) (def : FixtureDef) → placed_from place node (defs ++ def ∷ []) ≡ placed_from place node defs ++ cond (nat_eq def.node node) ((place + length defs) ∷ []) []
placed_push place node [] def =
    elim (nat_eq def.node node) as (λ b. cond b (place ∷ []) [] ≡ cond b ((place + 0) ∷ []) []) [
      | true ↦ (let e : place ≡ place + 0 = omega arith in ap (λ (n : ℕ). n ∷ []) e)
      | false ↦ refl
    ]
placed_push place node (one ∷ defs) def =
    let r = placed_push (place + 1) node defs def in
    let e : place + 1 + length defs ≡ place + length (one ∷ defs) = omega arith in
    let z = r ∙ ap (λ (n : ℕ). placed_from (place + 1) node defs ++ cond (nat_eq def.node node) (n ∷ []) []) e in
    elim (nat_eq one.node node) as (λ b. cond b (place ∷ placed_from (place + 1) node (defs ++ def ∷ [])) (placed_from (place + 1) node (defs ++ def ∷ []))
    ≡ cond b (place ∷ placed_from (place + 1) node defs) (placed_from (place + 1) node defs) ++ cond (nat_eq def.node node) ((place + length (one ∷ defs)) ∷ []) []) [
      | true ↦ ap (λ (l : List ℕ). place ∷ l) z
      | false ↦ z
    ]

pub index_push : (nodes : List CollectionNode) (defs : List FixtureDef) (rows : List (List ℕ)) (def : FixtureDef) → IsIndex nodes defs rows → def.node < length rows → (new : List (List ℕ)) → new ≡ set rows def.node (row_of rows def.node ++ length defs ∷ []) → length new ≡ length rows → IsIndex nodes (defs ++ def ∷ []) new
index_push nodes defs rows def index lt new is same =
    record {
      many = (let m = index.many in omega (arith, m, same));
      listed = λ node.
          (let p = placed_push 0 node defs def in
          let w : get_or new node [] ≡ get_or (set rows def.node (row_of rows def.node ++ length defs ∷ [])) node [] = ap (λ (l : List (List ℕ)). get_or l node []) is in
          elim (cases_eq def.node node) [
            | inl e ↦
                (let own : get_or (set rows def.node (row_of rows def.node ++ length defs ∷ [])) def.node [] ≡ row_of rows def.node ++ length defs ∷ [] = get_or-set_same rows def.node (row_of rows def.node ++ length defs ∷ []) [] lt in
                let z : get_or (set rows def.node (row_of rows def.node ++ length defs ∷ [])) node [] ≡ row_of rows node ++ length defs ∷ [] = subst (λ (n : ℕ). get_or (set rows def.node (row_of rows def.node ++ length defs ∷ [])) n [] ≡ row_of rows n ++ length defs ∷ []) e own in
                let n : 0 + length defs ≡ length defs = omega arith in
                w ∙ (z ∙ (ap (λ (l : List ℕ). l ++ length defs ∷ []) (index.listed node)
                ∙ sym (p ∙ (ap (λ (b : Bool). placed_at defs node ++ cond b ((0 + length defs) ∷ []) []) (eq-eqb def.node node e) ∙ ap (λ (k : ℕ). placed_at defs node ++ k ∷ []) n)))))
            | inr ne ↦
                (let z : get_or (set rows def.node (row_of rows def.node ++ length defs ∷ [])) node [] ≡ row_of rows node = get_or-set_other rows def.node node (row_of rows def.node ++ length defs ∷ []) [] (λ q. ne (sym q)) in
                w ∙ (z ∙ (index.listed node ∙ sym (p ∙ (ap (λ (b : Bool). placed_at defs node ++ cond b ((0 + length defs) ∷ []) []) (ne_eqb def.node node ne) ∙ append-nil (placed_at defs node))))))
          ]);
    }

pub stand_push : (nodes : List CollectionNode) (defs : List FixtureDef) (def : FixtureDef) → StandAtNodes nodes defs → def.node < length nodes → StandAtNodes nodes (defs ++ def ∷ [])
stand_push nodes defs def stand lt d l =
    elim (cases_lt d (length defs)) [
      | inl w ↦ subst (λ (one : FixtureDef). one.node < length nodes) (sym (get_or-append defs (def ∷ []) blank d w)) (stand d w)
      | inr n ↦
          (let e : length defs ≡ d = (let k = length-append defs (def ∷ []) in omega (arith, k, l, n)) in
          subst (λ (k : ℕ). (def_at (defs ++ def ∷ []) k).node < length nodes) e (subst (λ (one : FixtureDef). one.node < length nodes) (sym (get_or-append_seam defs def [] blank)) lt))
    ]

row_push : (rows : List (List ℕ)) (n : ℕ) → get_or (rows ++ [] ∷ []) n [] ≡ get_or rows n []
row_push [] zero = refl
row_push [] (suc n) = refl
row_push (x ∷ rows) zero = refl
row_push (x ∷ rows) (suc n) = row_push rows n

-- a node more; the row of a node that was refused may stay
pub index_node : (nodes : List CollectionNode) (defs : List FixtureDef) (rows : List (List ℕ)) (node : CollectionNode) → IsIndex nodes defs rows → IsIndex (nodes ++ node ∷ []) defs (rows ++ [] ∷ [])
index_node nodes defs rows node index =
    record {
      many = (let m = index.many in let a = length_push nodes node in let b = length_push rows [] in omega (arith, m, a, b));
      listed = λ n. row_push rows n ∙ index.listed n;
    }
  where
    length_push : {A : Type 0} (xs : List A) (x : A) → length (xs ++ x ∷ []) ≡ length xs + 1
    length_push [] x = omega arith
    length_push (y ∷ xs) x = (let e = length_push xs x in omega (arith, e))

pub index_row : (nodes : List CollectionNode) (defs : List FixtureDef) (rows : List (List ℕ)) → IsIndex nodes defs rows → IsIndex nodes defs (rows ++ [] ∷ [])
index_row nodes defs rows index =
    record {
      many = (let m = index.many in let b = longer rows in omega (arith, m, b));
      listed = λ n. row_push rows n ∙ index.listed n;
    }
  where
    longer : (xs : List (List ℕ)) → length xs ≤ length (xs ++ [] ∷ [])
    longer [] = omega arith
    longer (y ∷ xs) = (let e = longer xs in omega (arith, e))

-- WHICH ARE AUTOUSE

names_from : (defs : List FixtureDef) (node n place : ℕ) → place + n ≡ length defs → autouse_at (drop place defs) node ≡ autouse_names defs (placed_from place node (drop place defs))
names_from defs node zero place e = subst (λ (l : List FixtureDef). autouse_at l node ≡ autouse_names defs (placed_from place node l)) (sym (drop_all defs place (omega (arith, e)))) refl
  where
    drop_all : {A : Type 0} (xs : List A) (k : ℕ) → length xs ≤ k → drop k xs ≡ []
    drop_all [] zero le = refl
    drop_all [] (suc k) le = refl
    drop_all (x ∷ xs) zero le = absurd (omega (arith, le))
    drop_all (x ∷ xs) (suc k) le = drop_all xs k (omega (arith, le))
names_from defs node (suc n) place e =
    let one = def_at defs place in
    let rest = drop (suc place) defs in
    let cut : drop place defs ≡ one ∷ rest = drop-cons defs place blank (omega (arith, e)) in
    let q : suc place ≡ place + 1 = omega arith in
    let again : autouse_at rest node ≡ autouse_names defs (placed_from (place + 1) node rest) = names_from defs node n (suc place) (omega (arith, e)) ∙ ap (λ (k : ℕ). autouse_names defs (placed_from k node rest)) q in
    subst (λ (l : List FixtureDef). autouse_at l node ≡ autouse_names defs (placed_from place node l)) (sym cut)
    (elim one.autouse as (λ a. one.autouse ≡ a → map (λ x. x.name) (cond (a && nat_eq one.node node) (one ∷ filter (λ x. x.autouse && nat_eq x.node node) rest) (filter (λ x. x.autouse && nat_eq x.node node) rest))
    ≡ autouse_names defs (cond (nat_eq one.node node) (place ∷ placed_from (place + 1) node rest) (placed_from (place + 1) node rest))) [
      | true ↦ λ h. elim (nat_eq one.node node) as (λ b. map (λ x. x.name) (cond b (one ∷ filter (λ x. x.autouse && nat_eq x.node node) rest) (filter (λ x. x.autouse && nat_eq x.node node) rest))
          ≡ autouse_names defs (cond b (place ∷ placed_from (place + 1) node rest) (placed_from (place + 1) node rest))) [
            | true ↦ rw h (ap (λ (l : List ℕ). one.name ∷ l) again)
            | false ↦ again
          ]
      | false ↦ λ h. elim (nat_eq one.node node) as (λ b. map (λ x. x.name) (filter (λ x. x.autouse && nat_eq x.node node) rest) ≡ autouse_names defs (cond b (place ∷ placed_from (place + 1) node rest) (placed_from (place + 1) node rest))) [
        | true ↦ rw h again
        | false ↦ again
      ]
    ] refl)

pub autouse_row : (nodes : List CollectionNode) (defs : List FixtureDef) (rows : List (List ℕ)) → IsIndex nodes defs rows → (node : ℕ) → autouse_names defs (row_of rows node) ≡ autouse_at defs node
autouse_row nodes defs rows index node = ap (autouse_names defs) (index.listed node) ∙ sym (names_from defs node (length defs) 0 (omega arith))
