-- A list of an arena before and after a change.
use Rattle.std.proofs.Common.{◌≡◌, ◌≢◌, ℕ, ◌+◌, ◌<◌, refl, ap, sym, subst, ◌∙◌, List, [], ◌∷◌, ◌++◌, map, Option, Some, None, IsSome, arith, suc, length, length-append, append_assoc}
use Rattle.std.proofs.lemmas.List.{append-nil, map-append}
use Rattle.link_cells.specs.declared.id.CellId.{CellId}
use Rattle.link_cells.specs.Arena.{Arena, list_at_head, with_list, StandsBetween, InUse, first_name}
use Rattle.link_cells.proofs.Calls.{some_of}
use Rattle.link_cells.proofs.Walks.{list_here, list_there}
use Rattle.frame_stacks.specs.Stacked.{first_of, with_first}
use Rattle.frame_stacks.specs.Lists.{value_in, values_of, values_at, Others}

abbrev pub Cell : Type 0 → Type 0
Cell T = CellId × T

module _ {T : Type 0} where
  -- one list is put in place of another
  pub record Changed (a b : Arena T) (h : ℕ) (next : List (Cell T)) : Type 0 where
    pub here : list_at_head b h ≡ Some next
    pub others : Others h a b

  pub changed : (a b : Arena T) (h : ℕ) (list next : List (Cell T)) (spare : ℕ) → list_at_head a h ≡ Some list → b ≡ record (with_list a h next) { spare = spare } → Changed a b h next
  changed a b h list next spare e is = subst (λ (x : Arena T). Changed a x h next) (sym is) (record { here = list_here a h list next e; others = λ k ne. list_there a h k next ne })

  pub some_here : {a b : Arena T} {h : ℕ} {next : List (Cell T)} → Changed a b h next → IsSome (list_at_head b h)
  some_here c = subst (λ (o : Option (List (Cell T))). IsSome o) (sym c.here) refl

  pub values_here : {a b : Arena T} {h : ℕ} {next : List (Cell T)} → Changed a b h next → values_at b h ≡ map value_in next
  values_here c = ap values_of c.here

  -- a value is put in front
  pub record Pushed (a b : Arena T) (h : ℕ) (x : T) : Type 0 where
    pub used : IsSome (list_at_head b h)
    pub values : values_at b h ≡ x ∷ values_at a h
    pub others : Others h a b

  pub pushed : (a b : Arena T) (h : ℕ) (id : CellId) (x : T) (spare : ℕ) → IsSome (list_at_head a h)
      → ((list : List (Cell T)) → list_at_head a h ≡ Some list → b ≡ record (with_list a h ((id, x) ∷ list)) { spare = spare }) → Pushed a b h x
  pushed a b h id x spare some put =
      let o = some_of (list_at_head a h) some in
      let c = changed a b h o.0 ((id, x) ∷ o.0) spare o.1 (put o.0 o.1) in
      record { used = some_here c; values = values_here c ∙ ap (λ (vs : List T). x ∷ vs) (sym (ap values_of o.1)); others = c.others }

  -- the first cell of a list
  pub record IsFirst (a : Arena T) (h : ℕ) (id : CellId) : Type 0 where
    pub value : T
    pub rest : List (Cell T)
    pub list : list_at_head a h ≡ Some ((id, value) ∷ rest)

  first_in : (id : CellId) (list : List (Cell T)) → Some id ≡ first_name list → (v : T) × (rest : List (Cell T)) × (list ≡ (id, v) ∷ rest)
  first_in id [] e = absurd cc
  first_in id (x ∷ rest) e = (x.1, rest, ap (λ i. (i, x.1) ∷ rest) (same e)) where
    same : Some id ≡ Some x.0 → x.0 ≡ id
    same e = cc

  pub is_first : (a : Arena T) (h : ℕ) (id : CellId) (at : Option CellId) → IsSome (list_at_head a h) → ((list : List (Cell T)) → list_at_head a h ≡ Some list → at ≡ first_name list) → at ≡ Some id → IsFirst a h id
  is_first a h id at some first is =
      let o = some_of (list_at_head a h) some in
      let f = first_in id o.0 (sym is ∙ first o.0 o.1) in
      record { value = f.0; rest = f.1; list = o.1 ∙ ap (λ (l : List (Cell T)). Some l) f.2 }

  pub in_use : (a : Arena T) (h : ℕ) (id : CellId) → IsFirst a h id → InUse a id
  in_use a h id f = (h, [], f.value, f.rest, f.list)

  none_first : (list : List (Cell T)) → None ≡ first_name list → list ≡ []
  none_first [] e = refl
  none_first (x ∷ rest) e = absurd cc

  pub is_empty : (a : Arena T) (h : ℕ) (at : Option CellId) → IsSome (list_at_head a h) → ((list : List (Cell T)) → list_at_head a h ≡ Some list → at ≡ first_name list) → at ≡ None → list_at_head a h ≡ Some []
  is_empty a h at some first is =
      let o = some_of (list_at_head a h) some in
      o.1 ∙ ap (λ (l : List (Cell T)). Some l) (none_first o.0 (sym is ∙ first o.0 o.1))

  pub no_values : (a : Arena T) (h : ℕ) → list_at_head a h ≡ Some [] → values_at a h ≡ []
  no_values a h e = ap values_of e

  -- it is taken out
  pub record Popped (a b : Arena T) (h : ℕ) (x : T) : Type 0 where
    pub used : IsSome (list_at_head b h)
    pub values : values_at a h ≡ x ∷ values_at b h
    pub others : Others h a b

  pub taken : (a b : Arena T) (h : ℕ) (id : CellId) (x : T) (spare : ℕ) → IsFirst a h id
      → ((head : ℕ) (front : List (Cell T)) (value : T) (back : List (Cell T)) → StandsBetween a id head front value back → (x ≡ value) × (b ≡ record (with_list a head (front ++ back)) { spare = spare })) → Popped a b h x
  taken a b h id x spare f go =
      let g = go h [] f.value f.rest f.list in
      let c = changed a b h ((id, f.value) ∷ f.rest) f.rest spare f.list g.1 in
      record { used = some_here c; values = ap values_of f.list ∙ ap (λ (y : T). y ∷ map value_in f.rest) (sym g.0) ∙ ap (λ (vs : List T). x ∷ vs) (sym (values_here c)); others = c.others }

  -- its value is read
  pub read : (a : Arena T) (h : ℕ) (id : CellId) (x : T) → IsFirst a h id → ((head : ℕ) (front : List (Cell T)) (value : T) (back : List (Cell T)) → StandsBetween a id head front value back → x ≡ value) → Some x ≡ first_of (values_at a h)
  read a h id x f go = ap (λ (y : T). Some y) (go h [] f.value f.rest f.list) ∙ sym (ap (λ (o : Option (List (Cell T))). first_of (values_of o)) f.list)

  -- or another one
  pub record Swapped (a b : Arena T) (h : ℕ) (x y : T) : Type 0 where
    pub used : IsSome (list_at_head b h)
    pub before : Some x ≡ first_of (values_at a h)
    pub values : values_at b h ≡ with_first y (values_at a h)
    pub others : Others h a b

  pub swapped : (a b : Arena T) (h : ℕ) (id : CellId) (x y : T) → IsFirst a h id
      → ((head : ℕ) (front : List (Cell T)) (value : T) (back : List (Cell T)) → StandsBetween a id head front value back → (x ≡ value) × (b ≡ with_list a head (front ++ (id, y) ∷ back))) → Swapped a b h x y
  swapped a b h id x y f go =
      let g = go h [] f.value f.rest f.list in
      let c = changed a b h ((id, f.value) ∷ f.rest) ((id, y) ∷ f.rest) a.spare f.list g.1 in
      record {
        used = some_here c;
        before = ap (λ (z : T). Some z) g.0 ∙ sym (ap (λ (o : Option (List (Cell T))). first_of (values_of o)) f.list);
        values = values_here c ∙ sym (ap (λ (o : Option (List (Cell T))). with_first y (values_of o)) f.list);
        others = c.others;
      }

  -- one list is put before another
  pub record Moved (a b : Arena T) (from to : ℕ) : Type 0 where
    pub empty : list_at_head b from ≡ Some []
    pub used : IsSome (list_at_head b to)
    pub values : values_at b to ≡ values_at a from ++ values_at a to
    pub others : (k : ℕ) → k ≢ from → k ≢ to → list_at_head b k ≡ list_at_head a k

  pub moved : (a b : Arena T) (from to : ℕ) → from ≢ to → IsSome (list_at_head a from) → IsSome (list_at_head a to)
      → ((front back : List (Cell T)) → list_at_head a from ≡ Some front → list_at_head a to ≡ Some back → b ≡ with_list (with_list a from []) to (front ++ back)) → Moved a b from to
  moved a b from to ne some more go =
      let f = some_of (list_at_head a from) some in
      let t = some_of (list_at_head a to) more in
      let mid = with_list a from [] in
      let one = changed a mid from f.0 [] a.spare f.1 refl in
      let there : list_at_head mid to ≡ Some t.0 = one.others to (λ e. ne (sym e)) ∙ t.1 in
      let two = changed mid b to t.0 (f.0 ++ t.0) a.spare there (go f.0 t.0 f.1 t.1) in
      record {
        empty = two.others from ne ∙ one.here;
        used = some_here two;
        values = values_here two ∙ map-append value_in f.0 t.0 ∙ sym (values_two f.1 t.1);
        others = λ k nf nt. two.others k nt ∙ one.others k nf;
      }
    where
      values_two : {o p : Option (List (Cell T))} {xs ys : List (Cell T)} → o ≡ Some xs → p ≡ Some ys → values_of o ++ values_of p ≡ map value_in xs ++ map value_in ys
      values_two e f = λ i. values_of (e i) ++ values_of (f i)

  -- a walk along a list, behind these values
  pub record Left (a : Arena T) (h : ℕ) (at : Option CellId) (seen : List T) : Type 0 where
    pub front : List (Cell T)
    pub back : List (Cell T)
    pub list : list_at_head a h ≡ Some (front ++ back)
    pub first : at ≡ first_name back
    pub values : seen ≡ map value_in front

  pub left_all : (a : Arena T) (h : ℕ) (at : Option CellId) (seen : List T) → IsSome (list_at_head a h) → ((list : List (Cell T)) → list_at_head a h ≡ Some list → at ≡ first_name list) → seen ≡ [] → Left a h at seen
  left_all a h at seen some first none = let o = some_of (list_at_head a h) some in record { front = []; back = o.0; list = o.1; first = first o.0 o.1; values = none }

  pub record Next (a : Arena T) (h : ℕ) (id : CellId) (front : List (Cell T)) : Type 0 where
    pub value : T
    pub back : List (Cell T)
    pub stands : StandsBetween a id h front value back

  pub left_next : (a : Arena T) (h : ℕ) (at : Option CellId) (seen : List T) (id : CellId) (l : Left a h at seen) → at ≡ Some id → Next a h id l.front
  left_next a h at seen id l is = let f = first_in id l.back (sym is ∙ l.first) in record { value = f.0; back = f.1; stands = l.list ∙ ap (λ (r : List (Cell T)). Some (l.front ++ r)) f.2 }

  pub left_used : (a : Arena T) (h : ℕ) (at : Option CellId) (seen : List T) (id : CellId) → Left a h at seen → at ≡ Some id → InUse a id
  left_used a h at seen id l is = let n = left_next a h at seen id l is in (h, l.front, n.value, n.back, n.stands)

  pub left_more : (a : Arena T) (h : ℕ) (at : Option CellId) (seen : List T) (id : CellId) → Left a h at seen → at ≡ Some id → (x : T) (then : Option CellId) (more : List T) → more ≡ seen ++ x ∷ []
      → ((head : ℕ) (front : List (Cell T)) (v : T) (back : List (Cell T)) → StandsBetween a id head front v back → x ≡ v)
      → ((head : ℕ) (front : List (Cell T)) (v : T) (back : List (Cell T)) → StandsBetween a id head front v back → then ≡ first_name back) → Left a h then more
  left_more a h at seen id l is x then more put got goes =
      let n = left_next a h at seen id l is in
      record {
        front = l.front ++ (id, n.value) ∷ [];
        back = n.back;
        list = n.stands ∙ ap (λ (r : List (Cell T)). Some r) (sym (append_assoc l.front ((id, n.value) ∷ []) n.back));
        first = goes h l.front n.value n.back n.stands;
        values = put ∙ (ap (λ (vs : List T). vs ++ x ∷ []) l.values ∙ (ap (λ (y : T). map value_in l.front ++ y ∷ []) (got h l.front n.value n.back n.stands) ∙ sym (map-append value_in l.front ((id, n.value) ∷ []))));
      }

  -- there are more than those seen
  pub left_less : (a : Arena T) (h : ℕ) (at : Option CellId) (seen : List T) (id : CellId) → Left a h at seen → at ≡ Some id → length seen < length (values_at a h)
  left_less a h at seen id l is =
      let n = left_next a h at seen id l is in
      let all : values_at a h ≡ map value_in l.front ++ n.value ∷ map value_in n.back = ap values_of n.stands ∙ map-append value_in l.front ((id, n.value) ∷ n.back) in
      let many : length (values_at a h) ≡ length (map value_in l.front) + suc (length (map value_in n.back)) = ap (λ (vs : List T). length vs) all ∙ length-append (map value_in l.front) (n.value ∷ map value_in n.back) in
      let same : length seen ≡ length (map value_in l.front) = ap (λ (vs : List T). length vs) l.values in
      omega (arith, many, same)

  -- all are seen
  pub left_none : (a : Arena T) (h : ℕ) (at : Option CellId) (seen : List T) → Left a h at seen → at ≡ None → seen ≡ values_at a h
  left_none a h at seen l is =
      let none = none_first l.back (sym is ∙ l.first) in
      l.values ∙ sym (ap values_of (l.list ∙ ap (λ (r : List (Cell T)). Some (l.front ++ r)) none) ∙ ap (λ (r : List (Cell T)). map value_in r) (append-nil l.front))

  none_mapped : (list : List (Cell T)) → map value_in list ≡ [] → list ≡ []
  none_mapped [] e = refl
  none_mapped (x ∷ rest) e = absurd cc

  pub emptied : (o : Option (List (Cell T))) → IsSome o → values_of o ≡ [] → o ≡ Some []
  emptied None some e = absurd cc
  emptied (Some list) some e = ap (λ (l : List (Cell T)). Some l) (none_mapped list e)
