-- The one that lives on a node.
use Rattle.std.proofs.Common.{◌≡◌, ℕ, true, false, cond, not, List, [], ◌∷◌, inl, inr, refl, sym, ap, ◌∙◌, eqb, eq-eqb, arith, subst, Option, Some, None}
use Rattle.std.proofs.lemmas.Bool.{ne_eqb}
use Rattle.std.specs.Option.{option_map}
use Rattle.session_types.specs.Members.{IsMember}
use Rattle.session_types.specs.declared.instance.Instance.{Instance}
use Rattle.session_types.specs.Live.{is_at, find, instance_number, instance_by_number, instance_numbers, without, dependents, down_order, rests_on}
use Rattle.session_types.proofs.Lists.{In-filter, filter-In, and_both, or_left, eqb_is}
use Rattle.session_types.proofs.Order.{In-down_order}
use Rattle.live_chains.specs.Chained.{Apart, RisingBy}
use Rattle.setup_stack.specs.Borne.{without_all}
use Rattle.fixture_instances.specs.Joined.{def_and_node}

module _ {S : Type 0} where
  pub record IsFound (d node n : ℕ) (live : List (Instance S)) : Type 0 where
    pub one : Instance S
    pub found : find d node live ≡ Some one
    pub number : one.order ≡ n
    pub there : IsMember one live
    pub place : def_and_node one ≡ (d, node)

  some_number : (o : Option (Instance S)) (n : ℕ) → option_map instance_number o ≡ Some n → (i : Instance S) × (o ≡ Some i) × (i.order ≡ n)
  some_number None n e = (let z : None ≡ Some n = e in cc)
  some_number (Some i) n e = (let z : Some i.order ≡ Some n = e in (i, refl, cc))

  pub find_in : (d node : ℕ) (live : List (Instance S)) (i : Instance S) → find d node live ≡ Some i → IsMember i live × (def_and_node i ≡ (d, node))
  find_in d node [] i e = (let z : None ≡ Some i = e in cc)
  find_in d node (x ∷ xs) i e =
      elim (is_at d node x) as (λ b. is_at d node x ≡ b → cond b (Some x) (find d node xs) ≡ Some i → IsMember i (x ∷ xs) × (def_and_node i ≡ (d, node))) [
        | true ↦ λ q h. (
            let z : x ≡ i = cc in
            let both = and_both (eqb d x.def) (eqb node x.node) q in
            let e1 : d ≡ x.def = eqb_is d x.def both.0 in
            let e2 : node ≡ x.node = eqb_is node x.node both.1 in
            (inl (sym z), ap def_and_node (sym z) ∙ (ap (λ (k : ℕ). (k, x.node)) (sym e1) ∙ ap (λ (k : ℕ). (d, k)) (sym e2))))
        | false ↦ λ q h. (let r = find_in d node xs i h in (inr r.0, r.1))
      ] refl e

  pub found : (d node n : ℕ) (live : List (Instance S)) → option_map instance_number (find d node live) ≡ Some n → IsFound d node n live
  found d node n live e =
      let r = some_number (find d node live) n e in
      let h = find_in d node live r.0 r.1 in
      record { one = r.0; found = r.1; number = r.2; there = h.0; place = h.1 }

  -- numbers rise, so a number is that of one
  pub numbered_in : (n : ℕ) (live : List (Instance S)) (i : Instance S) → RisingBy instance_number live → IsMember i live → i.order ≡ n → instance_by_number n live ≡ Some i
  numbered_in n [] i r h e = absurd h
  numbered_in n (x ∷ xs) i r (inl q) e =
      let t : eqb n x.order ≡ true = eq-eqb n x.order (sym e ∙ ap instance_number q) in
      rw t (ap (λ (k : Instance S). Some k) (sym q))
  numbered_in n (x ∷ xs) i r (inr h) e =
      let lt = r.0 i h in
      let t : eqb n x.order ≡ false = ne_eqb n x.order (λ z. omega (arith, lt, z, e)) in
      rw t (numbered_in n xs i r.1 h e)

  pub apart_one : (live : List (Instance S)) (i j : Instance S) → Apart def_and_node live → IsMember i live → IsMember j live → def_and_node i ≡ def_and_node j → i ≡ j
  apart_one [] i j a g h e = absurd g
  apart_one (x ∷ xs) i j a (inl p) (inl q) e = p ∙ sym q
  apart_one (x ∷ xs) i j a (inl p) (inr h) e = absurd (a.0 j h (sym e ∙ ap def_and_node p))
  apart_one (x ∷ xs) i j a (inr g) (inl q) e = absurd (a.0 i g (e ∙ ap def_and_node q))
  apart_one (x ∷ xs) i j a (inr g) (inr h) e = apart_one xs i j a.1 g h e

  not_number : (n : ℕ) (j : Instance S) → not (eqb n j.order) ≡ true → j.order ≡ n → ⊥
  not_number n j e q = (let t : eqb n j.order ≡ true = eq-eqb n j.order (sym q) in let z : not true ≡ true = ap not (sym t) ∙ e in let f : false ≡ true = z in cc)

  pub left_in : (ns : List ℕ) (j : Instance S) (live : List (Instance S)) → IsMember j (without_all ns live) → IsMember j live × (IsMember j.order ns → ⊥)
  left_in [] j live h = (h, λ g. g)
  left_in (n ∷ ns) j live h =
      let r = left_in ns j (without n live) h in
      let q = In-filter (λ (i : Instance S). not (eqb n i.order)) j live r.0 in
      (q.0, λ g. elim g [ inl e ↦ not_number n j q.1 e | inr t ↦ r.1 t ])

  number_in : (i : Instance S) (is : List (Instance S)) → IsMember i is → IsMember i.order (instance_numbers is)
  number_in i [] h = absurd h
  number_in i (x ∷ xs) (inl e) = inl (ap instance_number e)
  number_in i (x ∷ xs) (inr h) = inr (number_in i xs h)

  -- it is among what goes down with it
  pub goes_itself : (n : ℕ) (i : Instance S) (live : List (Instance S)) → IsMember i live → i.order ≡ n → IsMember i.order (instance_numbers (down_order (dependents n live)))
  goes_itself n i live h e =
      number_in i (down_order (dependents n live)) (In-down_order (dependents n live) i (filter-In (rests_on n) i live h (or_left (eqb n i.order) _ (eq-eqb n i.order (sym e)))))

  none_or : (o : Option (Instance S)) → ((j : Instance S) → o ≡ Some j → ⊥) → o ≡ None
  none_or None h = refl
  none_or (Some j) h = absurd (h j refl)

  -- where it went down, none lives on its node
  pub free_behind : (d node n : ℕ) (ns : List ℕ) (live left : List (Instance S)) → IsFound d node n live → Apart def_and_node live → ns ≡ instance_numbers (down_order (dependents n live)) → left ≡ without_all ns live → find d node left ≡ None
  free_behind d node n ns live left f a en el =
      none_or (find d node left) (λ j q.
      (let h = find_in d node left j q in
      let there : IsMember j (without_all ns live) = subst (λ (l : List (Instance S)). IsMember j l) el h.0 in
      let r = left_in ns j live there in
      let same : f.one ≡ j = apart_one live f.one j a f.there r.0 (f.place ∙ sym h.1) in
      let g : IsMember f.one.order ns = subst (λ (l : List ℕ). IsMember f.one.order l) (sym en) (goes_itself n f.one live f.there f.number) in
      r.1 (subst (λ (k : Instance S). IsMember k.order ns) same g)))
