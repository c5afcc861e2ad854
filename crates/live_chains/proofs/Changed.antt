-- The chains before and after a change.
use Rattle.std.proofs.Common.{◌≡◌, ◌≢◌, ℕ, zero, suc, ◌<◌, Bool, true, false, not, List, [], ◌∷◌, ◌++◌, inl, inr, refl, sym, ap, ◌∙◌, subst, eqb, eq-eqb, arith, append_assoc}
use Rattle.std.proofs.lemmas.Bool.{cases_eq, ne_eqb}
use Rattle.std.proofs.lemmas.List.{append-nil}
use Rattle.std.specs.List.{filter}
use Rattle.session_types.specs.Members.{IsMember}
use Rattle.session_types.specs.Scopes.{rank, scope_count}
use Rattle.session_types.proofs.Lists.{In-append, In-left, In-right}
use Rattle.live_chains.specs.Chained.{InstanceCell, by_order, chains_below, RisingBy, Apart, Good, order_key, cell_key, place_key}
use Rattle.live_chains.proofs.Sorted.{by_order_last, filter_by_order, Apart-more, Apart-fewer}

pub same_below : (one other : ℕ → List InstanceCell) (n : ℕ) → ((r : ℕ) → r < n → one r ≡ other r) → chains_below one n ≡ chains_below other n
same_below one other zero h = refl
same_below one other (suc r) h = rw (h r (omega arith)) (ap (λ (l : List InstanceCell). other r ++ l) (same_below one other r (λ s lt. h s (omega (arith, lt)))))

pub In-below : (chains : ℕ → List InstanceCell) (n : ℕ) (e : InstanceCell) → IsMember e (chains_below chains n) → (r : ℕ) × (r < n) × IsMember e (chains r)
In-below chains zero e h = absurd h
In-below chains (suc r) e h = elim (In-append e (chains r) (chains_below chains r) h) [
  | inl l ↦ (r, omega arith, l)
  | inr t ↦ (let u = In-below chains r e t in let lt = u.1 in (u.0, omega (arith, lt), u.2))
]

pub below-In : (chains : ℕ → List InstanceCell) (n r : ℕ) (e : InstanceCell) → r < n → IsMember e (chains r) → IsMember e (chains_below chains n)
below-In chains zero r e lt h = absurd (omega (arith, lt))
below-In chains (suc m) r e lt h = elim (cases_eq r m) [
  | inl q ↦ In-left e (chains m) (chains_below chains m) (subst (λ (k : ℕ). IsMember e (chains k)) q h)
  | inr ne ↦ In-right e (chains m) (chains_below chains m) (below-In chains m r e (omega (arith, lt, ne)) h)
]

-- where one stands in a list
pub split_at : (e : InstanceCell) (xs : List InstanceCell) → IsMember e xs → (front : List InstanceCell) × (back : List InstanceCell) × (xs ≡ front ++ e ∷ back)
split_at e [] h = absurd h
split_at e (x ∷ xs) (inl q) = ([], xs, ap (λ (z : InstanceCell). z ∷ xs) (sym q))
split_at e (x ∷ xs) (inr t) = let s = split_at e xs t in (x ∷ s.0, s.1, ap (λ (l : List InstanceCell). x ∷ l) s.2)

-- the second list has one more
pub record Gains (xs ys : List InstanceCell) (e : InstanceCell) : Type 0 where
  pub front : List InstanceCell
  pub back : List InstanceCell
  pub less : xs ≡ front ++ back
  pub more : ys ≡ front ++ e ∷ back

pub gains : (one other : ℕ → List InstanceCell) (n r : ℕ) (front back : List InstanceCell) (e : InstanceCell) → r < n → one r ≡ front ++ back → other r ≡ front ++ e ∷ back
    → ((s : ℕ) → s < n → s ≢ r → other s ≡ one s) → Gains (chains_below one n) (chains_below other n) e
gains one other zero r front back e lt h k same = absurd (omega (arith, lt))
gains one other (suc m) r front back e lt h k same = elim (cases_eq r m) [
  | inl q ↦ record {
    front = front;
    back = back ++ chains_below one m;
    less = ap (λ (l : List InstanceCell). l ++ chains_below one m) (ap one (sym q) ∙ h) ∙ append_assoc front back (chains_below one m);
    more = ap (λ (l : List InstanceCell). l ++ chains_below other m) (ap other (sym q) ∙ k) ∙ (append_assoc front (e ∷ back) (chains_below other m)
        ∙ ap (λ (l : List InstanceCell). front ++ e ∷ (back ++ l)) (same_below other one m (λ s l. same s (omega (arith, l)) (omega (arith, l, q)))));
  }
  | inr ne ↦ (let g = gains one other m r front back e (omega (arith, lt, ne)) h k (λ s l d. same s (omega (arith, l)) d) in
      let first : other m ≡ one m = same m (omega arith) (λ z. ne (sym z)) in
      record {
        front = one m ++ g.front;
        back = g.back;
        less = ap (λ (l : List InstanceCell). one m ++ l) g.less ∙ sym (append_assoc (one m) g.front g.back);
        more = ap (λ (l : List InstanceCell). l ++ chains_below other m) first ∙ (ap (λ (l : List InstanceCell). one m ++ l) g.more ∙ sym (append_assoc (one m) g.front (e ∷ g.back)));
      })
]

pub Rising-more : (xs : List InstanceCell) (e : InstanceCell) → RisingBy order_key xs → ((x : InstanceCell) → IsMember x xs → x.1.order < e.1.order) → RisingBy order_key (xs ++ e ∷ [])
Rising-more [] e r low = ((λ y g. absurd g), tt)
Rising-more (x ∷ xs) e r low = (
  (λ y g. elim (In-append y xs (e ∷ []) g) [
    | inl l ↦ r.0 y l
    | inr t ↦ elim t [ inl q ↦ (let k = ap (λ (z : InstanceCell). z.1.order) q in let lt = low x (inl refl) in omega (arith, k, lt)) | inr z ↦ absurd z ]
  ]),
  Rising-more xs e r.1 (λ y g. low y (inr g)),
)

pub Rising-fewer : (front back : List InstanceCell) (e : InstanceCell) → RisingBy order_key (front ++ e ∷ back) → RisingBy order_key (front ++ back)
Rising-fewer [] back e r = r.1
Rising-fewer (x ∷ front) back e r = (
  (λ y g. elim (In-append y front back g) [ inl l ↦ r.0 y (In-left y front (e ∷ back) l) | inr t ↦ r.0 y (In-right y front (e ∷ back) (inr t)) ]),
  Rising-fewer front back e r.1,
)

pub filter_one : (p : InstanceCell → Bool) (front back : List InstanceCell) (e : InstanceCell) → p e ≡ false → ((x : InstanceCell) → IsMember x (front ++ back) → p x ≡ true) → filter p (front ++ e ∷ back) ≡ front ++ back
filter_one p [] back e out all = rw out (filter_all back all) where
  filter_all : (l : List InstanceCell) → ((x : InstanceCell) → IsMember x l → p x ≡ true) → filter p l ≡ l
  filter_all [] h = refl
  filter_all (x ∷ xs) h = rw (h x (inl refl)) (ap (λ (l : List InstanceCell). x ∷ l) (filter_all xs (λ y g. h y (inr g))))
filter_one p (x ∷ front) back e out all = rw (all x (inl refl)) (ap (λ (l : List InstanceCell). x ∷ l) (filter_one p front back e out (λ y g. all y (inr g))))

-- one is added at the end of its chain
module _ (one other : ℕ → List InstanceCell) (good : Good one) (e : InstanceCell) (low : rank e.1.scope < scope_count) (here : other (rank e.1.scope) ≡ one (rank e.1.scope) ++ e ∷ [])
    (same : (s : ℕ) → s < scope_count → s ≢ rank e.1.scope → other s ≡ one s)
    (latest : (x : InstanceCell) → IsMember x (chains_below one scope_count) → x.1.order < e.1.order) where
  linked_gain : Gains (chains_below one scope_count) (chains_below other scope_count) e
  linked_gain = gains one other scope_count (rank e.1.scope) (one (rank e.1.scope)) [] e low (sym (append-nil (one (rank e.1.scope)))) here same

  pub linked_order : by_order (chains_below other scope_count) ≡ by_order (chains_below one scope_count) ++ e ∷ []
  linked_order =
      let g = linked_gain in
      ap by_order g.more ∙ (by_order_last g.front g.back e (λ x h. latest x (subst (λ (l : List InstanceCell). IsMember x l) (sym g.less) h))
      ∙ ap (λ (l : List InstanceCell). by_order l ++ e ∷ []) (sym g.less))

  linked_apart : {K : Type 0} (key : InstanceCell → K) → ((x : InstanceCell) → IsMember x (chains_below one scope_count) → key x ≢ key e) → Apart key (chains_below one scope_count) → Apart key (chains_below other scope_count)
  linked_apart key fresh a =
      let g = linked_gain in
      subst (λ (l : List InstanceCell). Apart key l) (sym g.more)
      (Apart-more key g.front g.back e (λ x h. fresh x (subst (λ (l : List InstanceCell). IsMember x l) (sym g.less) h)) (subst (λ (l : List InstanceCell). Apart key l) g.less a))

  pub good_linked : ((x : InstanceCell) → IsMember x (chains_below one scope_count) → cell_key x ≢ cell_key e) → ((x : InstanceCell) → IsMember x (chains_below one scope_count) → place_key x ≢ place_key e) → Good other
  good_linked cells places = record {
    ranks = λ r x lt h. elim (cases_eq r (rank e.1.scope)) [
      | inl q ↦ elim (In-append x (one (rank e.1.scope)) (e ∷ []) (subst (λ (l : List InstanceCell). IsMember x l) (ap other q ∙ here) h)) [
        | inl l ↦ good.ranks (rank e.1.scope) x low l ∙ sym q
        | inr t ↦ elim t [ inl k ↦ ap (λ (z : InstanceCell). rank z.1.scope) k ∙ sym q | inr z ↦ absurd z ]
      ]
      | inr ne ↦ good.ranks r x lt (subst (λ (l : List InstanceCell). IsMember x l) (same r lt ne) h)
    ];
    rising = λ r lt. elim (cases_eq r (rank e.1.scope)) [
      | inl q ↦ subst (λ (l : List InstanceCell). RisingBy order_key l) (sym (ap other q ∙ here)) (Rising-more (one (rank e.1.scope)) e (good.rising (rank e.1.scope) low) (λ x h. latest x (below-In one scope_count (rank e.1.scope) x low h)))
      | inr ne ↦ subst (λ (l : List InstanceCell). RisingBy order_key l) (sym (same r lt ne)) (good.rising r lt)
    ];
    orders = linked_apart order_key (λ x h z. (let lt = latest x h in absurd (omega (arith, lt, z)))) good.orders;
    cells = linked_apart cell_key cells good.cells;
    places = linked_apart place_key places good.places;
  }

-- one is taken out of its chain
module _ (one other : ℕ → List InstanceCell) (good : Good one) (r : ℕ) (low : r < scope_count) (front back : List InstanceCell) (e : InstanceCell) (here : one r ≡ front ++ e ∷ back) (gone : other r ≡ front ++ back)
    (same : (s : ℕ) → s < scope_count → s ≢ r → other s ≡ one s) where
  unlinked_gain : Gains (chains_below other scope_count) (chains_below one scope_count) e
  unlinked_gain = gains other one scope_count r front back e low gone here (λ s lt ne. sym (same s lt ne))

  unlinked_apart : {K : Type 0} (key : InstanceCell → K) → Apart key (chains_below one scope_count) → Apart key (chains_below other scope_count) × ((x : InstanceCell) → IsMember x (chains_below other scope_count) → key x ≢ key e)
  unlinked_apart key a =
      let g = unlinked_gain in
      let f = Apart-fewer key g.front g.back e (subst (λ (l : List InstanceCell). Apart key l) g.more a) in
      (subst (λ (l : List InstanceCell). Apart key l) (sym g.less) f.0, λ x h. f.1 x (subst (λ (l : List InstanceCell). IsMember x l) g.less h))

  pub unlinked_order : by_order (chains_below other scope_count) ≡ filter (λ (x : InstanceCell). not (eqb e.1.order x.1.order)) (by_order (chains_below one scope_count))
  unlinked_order =
      let g = unlinked_gain in
      let p = λ (x : InstanceCell). not (eqb e.1.order x.1.order) in
      let a = unlinked_apart order_key good.orders in
      let out : p e ≡ false = ap not (eq-eqb e.1.order e.1.order refl) in
      ap by_order g.less
      ∙ (ap by_order (sym (filter_one p g.front g.back e out (λ x h. ap not (ne_eqb e.1.order x.1.order (λ z. a.1 x (subst (λ (l : List InstanceCell). IsMember x l) (sym g.less) h) (sym z))))))
      ∙ (sym (filter_by_order p (g.front ++ e ∷ g.back)) ∙ ap (λ (l : List InstanceCell). filter p (by_order l)) (sym g.more)))

  pub good_unlinked : Good other
  good_unlinked = record {
    ranks = λ s x lt h. elim (cases_eq s r) [
      | inl q ↦ (let there : IsMember x (one r) = subst (λ (l : List InstanceCell). IsMember x l) (sym here) (elim (In-append x front back (subst (λ (l : List InstanceCell). IsMember x l) (ap other q ∙ gone) h)) [
        | inl l ↦ In-left x front (e ∷ back) l
        | inr t ↦ In-right x front (e ∷ back) (inr t)
      ]) in good.ranks r x low there ∙ sym q)
      | inr ne ↦ good.ranks s x lt (subst (λ (l : List InstanceCell). IsMember x l) (same s lt ne) h)
    ];
    rising = λ s lt. elim (cases_eq s r) [
      | inl q ↦ subst (λ (l : List InstanceCell). RisingBy order_key l) (sym (ap other q ∙ gone)) (Rising-fewer front back e (subst (λ (l : List InstanceCell). RisingBy order_key l) here (good.rising r low)))
      | inr ne ↦ subst (λ (l : List InstanceCell). RisingBy order_key l) (sym (same s lt ne)) (good.rising s lt)
    ];
    orders = (unlinked_apart order_key good.orders).0;
    cells = (unlinked_apart cell_key good.cells).0;
    places = (unlinked_apart place_key good.places).0;
  }
