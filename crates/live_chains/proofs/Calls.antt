-- What each call needs and gives, in the words of what the chains are seen as.
use Rattle.std.proofs.Common.{◌≡◌, ◌≢◌, ℕ, ◌<◌, ◌+◌, ◌-◌, not, List, [], ◌∷◌, ◌++◌, inl, inr, refl, sym, ap, ◌∙◌, subst, eqb, arith, map, Option, Some, None, IsSome, IfSome}
use Rattle.std.proofs.lemmas.Bool.{cases_eq}
use Rattle.std.proofs.lemmas.List.{map-append}
use Rattle.std.specs.List.{filter}
use Rattle.std.specs.Option.{option_map}
use Rattle.link_cells.specs.declared.id.CellId.{CellId}
use Rattle.link_cells.specs.Arena.{Arena, list_at_head, with_list, StandsBetween, InUse}
use Rattle.link_cells.proofs.Calls.{some_of}
use Rattle.link_cells.proofs.Walks.{list_here, list_there}
use Rattle.session_types.specs.Members.{IsMember}
use Rattle.session_types.specs.Numbers.{joined}
use Rattle.session_types.specs.Scopes.{rank, scope_count}
use Rattle.session_types.specs.Live.{find, instance_by_number, without, instance_number, instance_numbers, down_order}
use Rattle.session_types.specs.declared.instance.Instance.{Instance}
use Rattle.session_types.proofs.Order.{rank_low}
use Rattle.live_chains.specs.declared.id.LiveId.{LiveId}
use Rattle.live_chains.specs.declared.dying.Dying.{Dying}
use Rattle.live_chains.specs.Down.{dying}
use Rattle.live_chains.specs.Chained.{InstanceCell, IsChains, RisingBy, Apart, instance_of, id_of, id_order, ids_without, or_empty, chain_at, chains_below, head_at, merged, chains_as_list, order_key, cell_key, place_key, place_of}
use Rattle.live_chains.specs.Walked.{first_at, roots_of, going_below}
use Rattle.live_chains.proofs.Sorted.{In-by_order, by_order-In, Sorted-by_order, Apart-by_order, Rising-sorted}
use Rattle.live_chains.proofs.Changed.{In-below, split_at, good_linked, linked_order, good_unlinked, unlinked_order}
use Rattle.live_chains.proofs.Found.{In-map, map-In, numbered_in, find_place, find_merged, found_number, first_some}
use Rattle.live_chains.proofs.Going.{going_apart, down_numbers, In-going, filter_map}

-- what was said of a head that was read
pub pushed_at : (a b : Arena (Instance ℕ)) (instance : Instance ℕ) (cell : CellId) (head other : ℕ) → head ≡ other
    → ((list : List InstanceCell) → list_at_head a head ≡ Some list → b ≡ record (with_list a head (list ++ (cell, instance) ∷ [])) { spare = a.spare - 1 })
    → (list : List InstanceCell) → list_at_head a other ≡ Some list → b ≡ record (with_list a other (list ++ (cell, instance) ∷ [])) { spare = a.spare - 1 }
pushed_at a b instance cell head other e p =
    subst (λ (h : ℕ). (list : List InstanceCell) → list_at_head a h ≡ Some list → b ≡ record (with_list a h (list ++ (cell, instance) ∷ [])) { spare = a.spare - 1 }) e p

module _ (a : Arena (Instance ℕ)) (heads : List ℕ) (c : IsChains a heads) where
  abbrev pub chains : ℕ → List InstanceCell
  chains = chain_at a heads

  abbrev pub all : List InstanceCell
  all = chains_below chains scope_count

  chain_list : (r : ℕ) → r < scope_count → list_at_head a (head_at heads r) ≡ Some (chains r)
  chain_list r lt = let o = some_of (list_at_head a (head_at heads r)) (c.used r lt) in o.1 ∙ ap (λ (l : List InstanceCell). Some l) (sym (ap or_empty o.1))

  -- where the one of a name stands
  pub record Held (id : LiveId) : Type 0 where
    pub rank_of : ℕ
    pub low : rank_of < scope_count
    pub front : List InstanceCell
    pub value : Instance ℕ
    pub back : List InstanceCell
    pub stands : StandsBetween a id.cell (head_at heads rank_of) front value back
    pub chain : chains rank_of ≡ front ++ (id.cell, value) ∷ back
    pub order : id.order ≡ value.order
    pub merged_in : IsMember (id.cell, value) (merged a heads)

  pub held : (id : LiveId) → IsMember id (map id_of (merged a heads)) → Held id
  held id h =
      let m = In-map id_of id (merged a heads) h in
      let s = In-below chains scope_count m.0 (In-by_order m.0 all m.1) in
      let p = split_at m.0 (chains s.0) s.2 in
      let cell : id.cell ≡ m.0.0 = ap (λ (i : LiveId). i.cell) m.2 in
      let entry : m.0 ≡ (id.cell, m.0.1) = ap (λ (k : CellId). (k, m.0.1)) (sym cell) in
      let chain : chains s.0 ≡ p.0 ++ (id.cell, m.0.1) ∷ p.1 = p.2 ∙ ap (λ (e : InstanceCell). p.0 ++ e ∷ p.1) entry in
      record {
        rank_of = s.0;
        low = s.1;
        front = p.0;
        value = m.0.1;
        back = p.1;
        stands = chain_list s.0 s.1 ∙ ap (λ (l : List InstanceCell). Some l) chain;
        chain = chain;
        order = ap (λ (i : LiveId). i.order) m.2;
        merged_in = subst (λ (e : InstanceCell). IsMember e (merged a heads)) entry m.1;
      }

  pub held_in_use : (id : LiveId) → IsMember id (map id_of (merged a heads)) → InUse a id.cell
  held_in_use id h = let s = held id h in (head_at heads s.rank_of, s.front, s.value, s.back, s.stands)

  -- a name is of the one with its number
  pub held_number : (id : LiveId) (h : IsMember id (map id_of (merged a heads))) → instance_by_number id.order (map instance_of (merged a heads)) ≡ Some (held id h).value
  held_number id h =
      let s = held id h in
      ap (λ n. instance_by_number n (map instance_of (merged a heads))) s.order ∙ numbered_in (id.cell, s.value) (merged a heads) s.merged_in (Apart-by_order order_key all c.good.orders)

  pub got_number : (id : LiveId) (h : IsMember id (map id_of (merged a heads))) (result : Instance ℕ)
      → ((head : ℕ) (front : List InstanceCell) (value : Instance ℕ) (back : List InstanceCell) → StandsBetween a id.cell head front value back → result ≡ value) → instance_by_number id.order (map instance_of (merged a heads)) ≡ Some result
  got_number id h result got = let s = held id h in held_number id h ∙ ap (λ (i : Instance ℕ). Some i) (sym (got (head_at heads s.rank_of) s.front s.value s.back s.stands))

  -- the instances are in order of set-up
  pub in_order : RisingBy instance_number (map instance_of (merged a heads))
  in_order = rising (merged a heads) (Rising-sorted (merged a heads) (Sorted-by_order all) (Apart-by_order order_key all c.good.orders)) where
    rising : (l : List InstanceCell) → RisingBy order_key l → RisingBy instance_number (map instance_of l)
    rising [] r = tt
    rising (x ∷ xs) r = ((λ j g. (let m = In-map instance_of j xs g in let lt = r.0 m.0 m.1 in let k = ap instance_number m.2 in omega (arith, lt, k))), rising xs r.1)

  pub single : Apart place_of (map instance_of (merged a heads))
  single = apart (merged a heads) (Apart-by_order place_key all c.good.places) where
    apart : (l : List InstanceCell) → Apart place_key l → Apart place_of (map instance_of l)
    apart [] r = tt
    apart (x ∷ xs) r = ((λ j g. (let m = In-map instance_of j xs g in λ q. r.0 m.0 m.1 (sym (ap place_of m.2) ∙ q))), apart xs r.1)

  -- what is found
  pub found_same : (d node : ℕ) (result : Option LiveId) → result ≡ option_map id_of (first_at d node all) → option_map id_order result ≡ option_map instance_number (find d node (map instance_of (merged a heads)))
  found_same d node result e = ap (option_map id_order) e ∙ (found_number (first_at d node all) ∙ ap (option_map instance_number) (find_merged d node all c.good.places))

  pub found_live : (d node : ℕ) (result : Option LiveId) → result ≡ option_map id_of (first_at d node all) → IfSome result (λ id. IsMember id (map id_of (merged a heads)))
  found_live d node result e = subst (λ (o : Option LiveId). IfSome o (λ id. IsMember id (map id_of (merged a heads)))) (sym e) (pick (first_at d node all) refl) where
    pick : (o : Option InstanceCell) → first_at d node all ≡ o → IfSome (option_map id_of o) (λ id. IsMember id (map id_of (merged a heads)))
    pick None q = tt
    pick (Some x) q = map-In id_of x (merged a heads) (by_order-In x all (first_some d node all x q).0)

  -- what goes down
  pub going_same : (which : Dying) (roots : List ℕ) (ids : List LiveId) → roots ≡ joined (roots_of which all) [] → ids ≡ going_below roots chains scope_count
      → map id_order ids ≡ instance_numbers (down_order (dying which (map instance_of (merged a heads))))
  going_same which roots ids e f = ap (map id_order) (f ∙ ap (λ r. going_below r chains scope_count) e) ∙ down_numbers chains c.good which

  pub going_live : (roots : List ℕ) (ids : List LiveId) → ids ≡ going_below roots chains scope_count → (id : LiveId) → IsMember id ids → IsMember id (map id_of (merged a heads))
  going_live roots ids f id h =
      let g = In-going roots chains scope_count id (subst (λ (l : List LiveId). IsMember id l) f h) in
      subst (λ (i : LiveId). IsMember i (map id_of (merged a heads))) (sym g.2) (map-In id_of g.0 (merged a heads) (by_order-In g.0 all g.1))

  pub going_once : (roots : List ℕ) (ids : List LiveId) → ids ≡ going_below roots chains scope_count → Apart id_order ids
  going_once roots ids f = subst (λ (l : List LiveId). Apart id_order l) (sym f) (going_apart roots chains scope_count c.good.orders)

  -- one is linked
  module _ (instance : Instance ℕ) (cell : CellId) (b : Arena (Instance ℕ))
      (latest : (j : Instance ℕ) → IsMember j (map instance_of (merged a heads)) → j.order < instance.order)
      (free : find instance.def instance.node (map instance_of (merged a heads)) ≡ None)
      (fresh : InUse a cell → ⊥)
      (pushed : (list : List InstanceCell) → list_at_head a (head_at heads (rank instance.scope)) ≡ Some list → b ≡ record (with_list a (head_at heads (rank instance.scope)) (list ++ (cell, instance) ∷ [])) { spare = a.spare - 1 }) where
    abbrev pub entry : InstanceCell
    entry = (cell, instance)

    abbrev r : ℕ
    r = rank instance.scope

    low : r < scope_count
    low = rank_low instance.scope

    after : b ≡ record (with_list a (head_at heads r) (chains r ++ entry ∷ [])) { spare = a.spare - 1 }
    after = pushed (chains r) (chain_list r low)

    here : list_at_head b (head_at heads r) ≡ Some (chains r ++ entry ∷ [])
    here = ap (λ (x : Arena (Instance ℕ)). list_at_head x (head_at heads r)) after ∙ list_here a (head_at heads r) (chains r) (chains r ++ entry ∷ []) (chain_list r low)

    there : (h : ℕ) → h ≢ head_at heads r → list_at_head b h ≡ list_at_head a h
    there h ne = ap (λ (x : Arena (Instance ℕ)). list_at_head x h) after ∙ list_there a (head_at heads r) h (chains r ++ entry ∷ []) ne

    chain_here : chain_at b heads r ≡ chains r ++ entry ∷ []
    chain_here = ap or_empty here

    chain_there : (s : ℕ) → s < scope_count → s ≢ r → chain_at b heads s ≡ chains s
    chain_there s lt ne = ap or_empty (there (head_at heads s) (c.apart s r lt low ne))

    later : (x : InstanceCell) → IsMember x all → x.1.order < instance.order
    later x h = latest x.1 (map-In instance_of x (merged a heads) (by_order-In x all h))

    new_cell : (x : InstanceCell) → IsMember x all → cell_key x ≢ cell_key entry
    new_cell x h q =
        let e : x.0 ≡ cell = ap (λ (n : ℕ). record { cell = n }) q in
        let s = held (id_of x) (map-In id_of x (merged a heads) (by_order-In x all h)) in
        absurd (fresh (subst (λ (k : CellId). InUse a k) e (head_at heads s.rank_of, s.front, s.value, s.back, s.stands)))

    new_place : (x : InstanceCell) → IsMember x all → place_key x ≢ place_key entry
    new_place x h = find_place entry (merged a heads) free x (by_order-In x all h)

    pub linked_chains : IsChains b heads
    linked_chains = record {
      many = c.many;
      used = λ s lt. elim (cases_eq s r) [
        | inl q ↦ subst (λ (k : ℕ). IsSome (list_at_head b (head_at heads k))) (sym q) (subst (λ (o : Option (List InstanceCell)). IsSome o) (sym here) refl)
        | inr ne ↦ subst (λ (o : Option (List InstanceCell)). IsSome o) (sym (there (head_at heads s) (c.apart s r lt low ne))) (c.used s lt)
      ];
      apart = c.apart;
      good = good_linked chains (chain_at b heads) c.good entry low chain_here chain_there later new_cell new_place;
    }

    linked_merged : merged b heads ≡ merged a heads ++ entry ∷ []
    linked_merged = linked_order chains (chain_at b heads) c.good entry low chain_here chain_there later

    pub linked_shown : chains_as_list b heads ≡ record { live = map instance_of (merged a heads) ++ instance ∷ []; ids = map id_of (merged a heads) ++ id_of entry ∷ []; spare = a.spare - 1 }
    linked_shown =
        ap (λ (l : List InstanceCell). record { live = map instance_of l; ids = map id_of l; spare = b.spare }) linked_merged
        ∙ (ap (λ (l : List (Instance ℕ)). record { live = l; ids = map id_of (merged a heads ++ entry ∷ []); spare = b.spare }) (map-append instance_of (merged a heads) (entry ∷ []))
        ∙ (ap (λ (l : List LiveId). record { live = map instance_of (merged a heads) ++ instance ∷ []; ids = l; spare = b.spare }) (map-append id_of (merged a heads) (entry ∷ []))
        ∙ ap (λ (n : ℕ). record { live = map instance_of (merged a heads) ++ instance ∷ []; ids = map id_of (merged a heads) ++ id_of entry ∷ []; spare = n }) (ap (λ (x : Arena (Instance ℕ)). x.spare) after)))

  -- one is unlinked
  module _ (id : LiveId) (h : IsMember id (map id_of (merged a heads))) (result : Instance ℕ) (b : Arena (Instance ℕ))
      (taken : (head : ℕ) (front : List InstanceCell) (value : Instance ℕ) (back : List InstanceCell) → StandsBetween a id.cell head front value back → (result ≡ value) × (b ≡ record (with_list a head (front ++ back)) { spare = a.spare + 1 })) where
    abbrev s : Held id
    s = held id h

    gone : b ≡ record (with_list a (head_at heads s.rank_of) (s.front ++ s.back)) { spare = a.spare + 1 }
    gone = (taken (head_at heads s.rank_of) s.front s.value s.back s.stands).1

    left_here : list_at_head b (head_at heads s.rank_of) ≡ Some (s.front ++ s.back)
    left_here = ap (λ (x : Arena (Instance ℕ)). list_at_head x (head_at heads s.rank_of)) gone ∙ list_here a (head_at heads s.rank_of) (chains s.rank_of) (s.front ++ s.back) (chain_list s.rank_of s.low)

    left_there : (k : ℕ) → k ≢ head_at heads s.rank_of → list_at_head b k ≡ list_at_head a k
    left_there k ne = ap (λ (x : Arena (Instance ℕ)). list_at_head x k) gone ∙ list_there a (head_at heads s.rank_of) k (s.front ++ s.back) ne

    less_here : chain_at b heads s.rank_of ≡ s.front ++ s.back
    less_here = ap or_empty left_here

    less_there : (k : ℕ) → k < scope_count → k ≢ s.rank_of → chain_at b heads k ≡ chains k
    less_there k lt ne = ap or_empty (left_there (head_at heads k) (c.apart k s.rank_of lt s.low ne))

    pub unlinked_chains : IsChains b heads
    unlinked_chains = record {
      many = c.many;
      used = λ k lt. elim (cases_eq k s.rank_of) [
        | inl q ↦ subst (λ (n : ℕ). IsSome (list_at_head b (head_at heads n))) (sym q) (subst (λ (o : Option (List InstanceCell)). IsSome o) (sym left_here) refl)
        | inr ne ↦ subst (λ (o : Option (List InstanceCell)). IsSome o) (sym (left_there (head_at heads k) (c.apart k s.rank_of lt s.low ne))) (c.used k lt)
      ];
      apart = c.apart;
      good = good_unlinked chains (chain_at b heads) c.good s.rank_of s.low s.front s.back (id.cell, s.value) s.chain less_here less_there;
    }

    unlinked_merged : merged b heads ≡ filter (λ (x : InstanceCell). not (eqb id.order x.1.order)) (merged a heads)
    unlinked_merged =
        unlinked_order chains (chain_at b heads) c.good s.rank_of s.low s.front s.back (id.cell, s.value) s.chain less_here less_there
        ∙ ap (λ (n : ℕ). filter (λ (x : InstanceCell). not (eqb n x.1.order)) (merged a heads)) (sym s.order)

    pub unlinked_shown : chains_as_list b heads ≡ record { live = without id.order (map instance_of (merged a heads)); ids = ids_without id.order (map id_of (merged a heads)); spare = a.spare + 1 }
    unlinked_shown =
        ap (λ (l : List InstanceCell). record { live = map instance_of l; ids = map id_of l; spare = b.spare }) unlinked_merged
        ∙ (ap (λ (l : List (Instance ℕ)). record { live = l; ids = map id_of (filter (λ (x : InstanceCell). not (eqb id.order x.1.order)) (merged a heads)); spare = b.spare }) (sym (filter_map instance_of (λ (i : Instance ℕ). not (eqb id.order i.order)) (merged a heads)))
        ∙ (ap (λ (l : List LiveId). record { live = without id.order (map instance_of (merged a heads)); ids = l; spare = b.spare }) (sym (filter_map id_of (λ (i : LiveId). not (eqb id.order i.order)) (merged a heads)))
        ∙ ap (λ (n : ℕ). record { live = without id.order (map instance_of (merged a heads)); ids = ids_without id.order (map id_of (merged a heads)); spare = n }) (ap (λ (x : Arena (Instance ℕ)). x.spare) gone)))

    pub unlinked_number : instance_by_number id.order (map instance_of (merged a heads)) ≡ Some result
    unlinked_number = held_number id h ∙ ap (λ (i : Instance ℕ). Some i) (sym (taken (head_at heads s.rank_of) s.front s.value s.back s.stands).0)
