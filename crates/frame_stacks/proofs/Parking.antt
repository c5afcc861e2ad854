-- The frozen lists when one list or two change, and when one more is frozen or one goes.
use Rattle.std.proofs.Common.{◌≡◌, ◌≢◌, ℕ, zero, suc, ◌≤◌, refl, ap, sym, subst, ◌∙◌, List, [], ◌∷◌, ◌++◌, map, length, Option, Some, None, IsSome, get_or, set, arith}
use Rattle.std.specs.Prelude.{⊤}
use Rattle.std.proofs.lemmas.List.{map-append, map-set}
use Rattle.link_cells.specs.declared.id.CellId.{CellId}
use Rattle.link_cells.specs.Arena.{Arena, list_at_head}
use Rattle.frame_stacks.specs.declared.parked.Parked.{Parked}
use Rattle.frame_stacks.specs.Stacked.{FrozenList, StackLists, Popped, ThawedFrom, Thawed, frozen_at, without}
use Rattle.frame_stacks.specs.Lists.{values_of, values_at, frozen_in, stacks_in, parked_at, IsAway, Away, IsUsed, IsApart, AreParked, AreStacks, Others, Taken}

abbrev pub All : Type 0 → Type 0
All B = List (Option (Parked B))

module _ {B : Type 0} where
  away_set : (h : ℕ) (ps : All B) (n : ℕ) → Away h ps → Away h (set ps n None)
  away_set h [] n a = tt
  away_set h (p ∷ ps) zero a = (tt, a.1)
  away_set h (p ∷ ps) (suc n) a = (a.0, away_set h ps n a.1)

  away_at : (h : ℕ) (ps : All B) (n : ℕ) (p : Parked B) → Away h ps → parked_at n ps ≡ Some p → p.head ≢ h
  away_at h [] n p a e = absurd cc
  away_at h (q ∷ ps) zero p a e = subst (λ (o : Option (Parked B)). IsAway h o) e a.0
  away_at h (q ∷ ps) (suc n) p a e = away_at h ps n p a.1 e

  away_more : (h : ℕ) (ps : All B) (p : Parked B) → Away h ps → p.head ≢ h → Away h (ps ++ Some p ∷ [])
  away_more h [] p a ne = (ne, tt)
  away_more h (q ∷ ps) p a ne = (a.0, away_more h ps p a.1 ne)

  apart_set : (q : Option (Parked B)) (ps : All B) (n : ℕ) → IsApart q ps → IsApart q (set ps n None)
  apart_set (Some q) ps n a = away_set q.head ps n a
  apart_set None ps n a = tt

  apart_more : (q : Option (Parked B)) (ps : All B) (p : Parked B) → IsApart q ps → IsAway p.head q → IsApart q (ps ++ Some p ∷ [])
  apart_more (Some q) ps p a ne = away_more q.head ps p a (λ e. ne (sym e))
  apart_more None ps p a ne = tt

  apart_at : (q : Option (Parked B)) (ps : All B) (n : ℕ) (p : Parked B) → IsApart q ps → parked_at n ps ≡ Some p → IsAway p.head q
  apart_at (Some q) ps n p a e = λ s. away_at q.head ps n p a e (sym s)
  apart_at None ps n p a e = tt

  none_set : (ps : All B) (n : ℕ) → parked_at n ps ≡ None → set ps n None ≡ ps
  none_set [] n e = refl
  none_set (p ∷ ps) zero e = ap (λ (o : Option (Parked B)). o ∷ ps) (sym e)
  none_set (p ∷ ps) (suc n) e = ap (λ (l : All B). p ∷ l) (none_set ps n e)

  pub none_past : (ps : All B) (n : ℕ) → length ps ≤ n → None ≡ parked_at n ps
  none_past [] n h = refl
  none_past (p ∷ ps) zero h = absurd (omega (arith, h))
  none_past (p ∷ ps) (suc n) h = none_past ps n (omega (arith, h))

  pub same_past : (ps : All B) (n : ℕ) → length ps ≤ n → ps ≡ set ps n None
  same_past ps n h = sym (none_set ps n (sym (none_past ps n h)))

module _ {T B : Type 0} where
  -- their lists stay
  abbrev pub SameOne : Arena T → Arena T → Option (Parked B) → Type 0
  SameOne a b (Some p) = list_at_head b p.head ≡ list_at_head a p.head
  SameOne a b None = ⊤

  abbrev pub Same : Arena T → Arena T → All B → Type 0
  Same a b [] = ⊤
  Same a b (p ∷ ps) = SameOne a b p × Same a b ps

module _ {T B : Type 0} (a b : Arena T) where
  one_away : (h : ℕ) (p : Option (Parked B)) → IsAway h p → Others h a b → SameOne a b p
  one_away h (Some p) ne o = o p.head ne
  one_away h None ne o = tt

  all_away : (h : ℕ) (ps : All B) → Away h ps → Others h a b → Same a b ps
  all_away h [] ne o = tt
  all_away h (p ∷ ps) ne o = (one_away h p ne.0 o, all_away h ps ne.1 o)

  one_two : (h g : ℕ) (p : Option (Parked B)) → IsAway h p → IsAway g p → ((k : ℕ) → k ≢ h → k ≢ g → list_at_head b k ≡ list_at_head a k) → SameOne a b p
  one_two h g (Some p) nh ng o = o p.head nh ng
  one_two h g None nh ng o = tt

  all_two : (h g : ℕ) (ps : All B) → Away h ps → Away g ps → ((k : ℕ) → k ≢ h → k ≢ g → list_at_head b k ≡ list_at_head a k) → Same a b ps
  all_two h g [] nh ng o = tt
  all_two h g (p ∷ ps) nh ng o = (one_two h g p nh.0 ng.0 o, all_two h g ps nh.1 ng.1 o)

  frozen_one : (p : Option (Parked B)) → SameOne a b p → frozen_in b p ≡ frozen_in a p
  frozen_one (Some p) s = ap (λ (o : Option (List (CellId × T))). Some (record { stack = values_of o; body = p.body })) s
  frozen_one None s = refl

  frozen_all : (ps : All B) → Same a b ps → map (frozen_in b) ps ≡ map (frozen_in a) ps
  frozen_all [] s = refl
  frozen_all (p ∷ ps) s = λ i. frozen_one p s.0 i ∷ frozen_all ps s.1 i

  used_one : (p : Option (Parked B)) → SameOne a b p → IsUsed a p → IsUsed b p
  used_one (Some p) s u = subst (λ (o : Option (List (CellId × T))). IsSome o) (sym s) u
  used_one None s u = tt

  parked_all : (ps : All B) → Same a b ps → AreParked a ps → AreParked b ps
  parked_all [] s u = tt
  parked_all (p ∷ ps) s u = (used_one p s.0 u.0, (u.1.0, parked_all ps s.1 u.1.1))

module _ {T B : Type 0} (a : Arena T) where
  parked_set : (ps : All B) (n : ℕ) → AreParked a ps → AreParked a (set ps n None)
  parked_set [] n u = tt
  parked_set (p ∷ ps) zero u = (tt, (tt, u.1.1))
  parked_set (p ∷ ps) (suc n) u = (u.0, (apart_set p ps n u.1.0, parked_set ps n u.1.1))

  used_at : (ps : All B) (n : ℕ) (p : Parked B) → AreParked a ps → parked_at n ps ≡ Some p → IsSome (list_at_head a p.head)
  used_at [] n p u e = absurd cc
  used_at (q ∷ ps) zero p u e = subst (λ (o : Option (Parked B)). IsUsed a o) e u.0
  used_at (q ∷ ps) (suc n) p u e = used_at ps n p u.1.1 e

  -- the head of the one that goes is none of the others
  gone_away : (ps : All B) (n : ℕ) (p : Parked B) → AreParked a ps → parked_at n ps ≡ Some p → Away p.head (set ps n None)
  gone_away [] n p u e = tt
  gone_away (q ∷ ps) zero p u e = (tt, subst (λ (o : Option (Parked B)). IsApart o ps) e u.1.0)
  gone_away (q ∷ ps) (suc n) p u e = (apart_at q ps n p u.1.0 e, gone_away ps n p u.1.1 e)

  -- a head that isn't in use is none of theirs
  free_one : (h : ℕ) (p : Option (Parked B)) → list_at_head a h ≡ None → IsUsed a p → IsAway h p
  free_one h (Some p) none u = λ e. let n : IsSome (list_at_head a h) = subst (λ (k : ℕ). IsSome (list_at_head a k)) e u in absurd (some_none (list_at_head a h) none n) where
    some_none : (o : Option (List (CellId × T))) → o ≡ None → IsSome o → ⊥
    some_none None n s = absurd cc
    some_none (Some x) n s = absurd cc
  free_one h None none u = tt

  free_away : (h : ℕ) (ps : All B) → list_at_head a h ≡ None → AreParked a ps → Away h ps
  free_away h [] none u = tt
  free_away h (p ∷ ps) none u = (free_one h p none u.0, free_away h ps none u.1.1)

  more_parked : (ps : All B) (p : Parked B) → AreParked a ps → Away p.head ps → IsSome (list_at_head a p.head) → AreParked a (ps ++ Some p ∷ [])
  more_parked [] p u away some = (some, (tt, tt))
  more_parked (q ∷ ps) p u away some = (u.0, (apart_more q ps p u.1.0 away.0, more_parked ps p u.1.1 away.1 some))

  at_number : (ps : All B) (n : ℕ) → get_or (map (frozen_in a) ps) n None ≡ frozen_in a (parked_at n ps)
  at_number [] n = refl
  at_number (p ∷ ps) zero = refl
  at_number (p ∷ ps) (suc n) = at_number ps n

-- EACH CALL, in the words of what the lists are seen as
module _ {T B : Type 0} (a b : Arena T) (own : ℕ) (all : All B) (st : AreStacks a own all) where
  -- the own list changes alone
  module _ (o : Others own a b) where
    same : Same a b all
    same = all_away a b own all st.away o

    pub keeps : IsSome (list_at_head b own) → AreStacks b own all
    keeps some = record { used = some; away = st.away; parked = parked_all a b all same st.parked }

    shown : map (frozen_in b) all ≡ map (frozen_in a) all
    shown = frozen_all a b all same

    pub others_stay : (s : StackLists T B) → stacks_in a own all ≡ s → map (frozen_in b) all ≡ s.frozen
    others_stay s is = shown ∙ ap (λ (v : StackLists T B). v.frozen) is

    pub view_own : (s : StackLists T B) → stacks_in a own all ≡ s → (f : List T → List T) → values_at b own ≡ f (values_at a own) → stacks_in b own all ≡ record { own = f s.own; frozen = s.frozen }
    view_own s is f e =
        let now : values_at b own ≡ f s.own = e ∙ ap (λ (v : StackLists T B). f v.own) is in
        λ i. record { own = now i; frozen = others_stay s is i }

    pub view_popped : (s : StackLists T B) → stacks_in a own all ≡ s → (r : Option T) → Taken r (values_at a own) (values_at b own) → Popped r s (stacks_in b own all)
    view_popped s is (Some x) e = sym is ∙ (λ i. record { own = e i; frozen = sym shown i })
    view_popped s is None e = (sym (ap (λ (v : StackLists T B). v.own) is) ∙ e.0, (let now = e.1 ∙ sym e.0 in λ i. record { own = now i; frozen = shown i }) ∙ is)

  -- no list changes
  module _ (o : (k : ℕ) → list_at_head b k ≡ list_at_head a k) where
    pub keeps_all : AreStacks b own all
    keeps_all = keeps (λ k ne. o k) (subst (λ (l : Option (List (CellId × T))). IsSome l) (sym (o own)) st.used)

    pub view_same : (s : StackLists T B) → stacks_in a own all ≡ s → stacks_in b own all ≡ s
    view_same s is = view_own (λ k ne. o k) s is (λ xs. xs) (ap values_of (o own))

  -- the own list is frozen, and a new one is there
  module _ (head : ℕ) (body : B) (none : list_at_head a head ≡ None) (empty : list_at_head b head ≡ Some []) (o : Others head a b) where
    abbrev last : Parked B
    last = record { head = own; body = body }

    new_away : Away head all
    new_away = free_away a head all none st.parked

    own_apart : own ≢ head
    own_apart = free_one a head (Some last) none st.used

    stay : Same a b all
    stay = all_away a b head all new_away o

    pub freezes : AreStacks b head (all ++ Some last ∷ [])
    freezes = record {
      used = subst (λ (l : Option (List (CellId × T))). IsSome l) (sym empty) refl;
      away = away_more head all last new_away own_apart;
      parked = more_parked b all last (parked_all a b all stay st.parked) st.away (used_one a b (Some last) (o own own_apart) st.used);
    }

    pub view_frozen : (s : StackLists T B) → stacks_in a own all ≡ s → stacks_in b head (all ++ Some last ∷ []) ≡ record { own = []; frozen = s.frozen ++ Some (record { stack = s.own; body = body }) ∷ [] }
    view_frozen s is =
        let now : values_at b head ≡ [] = ap values_of empty in
        let front : map (frozen_in b) (all ++ Some last ∷ []) ≡ map (frozen_in b) all ++ frozen_in b (Some last) ∷ [] = map-append (frozen_in b) all (Some last ∷ []) in
        let old : map (frozen_in b) all ≡ s.frozen = frozen_all a b all stay ∙ ap (λ (v : StackLists T B). v.frozen) is in
        let new : frozen_in b (Some last) ≡ Some (record { stack = s.own; body = body }) =
        ap (λ (l : Option (List (CellId × T))). Some (record { stack = values_of l; body = body })) (o own own_apart) ∙ ap (λ (v : StackLists T B). Some (record { stack = v.own; body = body })) is in
        let both : map (frozen_in b) (all ++ Some last ∷ []) ≡ s.frozen ++ Some (record { stack = s.own; body = body }) ∷ [] = front ∙ (λ i. old i ++ new i ∷ []) in
        λ i. record { own = now i; frozen = both i }

  -- one that is frozen goes
  module _ (n : ℕ) (p : Parked B) (here : parked_at n all ≡ Some p) where
    pub head_used : IsSome (list_at_head a p.head)
    head_used = used_at a all n p st.parked here

    pub head_apart : p.head ≢ own
    head_apart = away_at own all n p st.away here

    abbrev rest : All B
    rest = set all n None

    rest_away : Away own rest
    rest_away = away_set own all n st.away

    -- its list is given up
    module _ (o : Others p.head a b) where
      rest_same : Same a b rest
      rest_same = all_away a b p.head rest (gone_away a all n p st.parked here) o

      own_same : list_at_head b own ≡ list_at_head a own
      own_same = o own (λ e. head_apart (sym e))

      pub lets_go : AreStacks b own rest
      lets_go = record { used = subst (λ (l : Option (List (CellId × T))). IsSome l) (sym own_same) st.used; away = rest_away; parked = parked_all a b rest rest_same (parked_set a all n st.parked) }

      pub view_without : (s : StackLists T B) → stacks_in a own all ≡ s → stacks_in b own rest ≡ without s n
      view_without s is =
          let now : values_at b own ≡ s.own = ap values_of own_same ∙ ap (λ (v : StackLists T B). v.own) is in
          let old : map (frozen_in b) rest ≡ set s.frozen n None = frozen_all a b rest rest_same ∙ (map-set (frozen_in a) all n None ∙ ap (λ (v : StackLists T B). set v.frozen n None) is) in
          λ i. record { own = now i; frozen = old i }

    -- its list is put before the own one
    module _ (some : IsSome (list_at_head b own)) (values : values_at b own ≡ values_at a p.head ++ values_at a own) (o : (k : ℕ) → k ≢ p.head → k ≢ own → list_at_head b k ≡ list_at_head a k) where
      both_same : Same a b rest
      both_same = all_two a b p.head own rest (gone_away a all n p st.parked here) rest_away o

      pub thaws : AreStacks b own rest
      thaws = record { used = some; away = rest_away; parked = parked_all a b rest both_same (parked_set a all n st.parked) }

      pub view_thawed : (s : StackLists T B) → stacks_in a own all ≡ s → Thawed (Some p.body) n s (stacks_in b own rest)
      view_thawed s is =
          subst (λ (f : Option (FrozenList T B)). ThawedFrom f (Some p.body) n s (stacks_in b own rest)) (sym (sym (ap (λ (v : StackLists T B). frozen_at v n) is) ∙ (at_number a all n ∙ ap (frozen_in a) here))) (
            refl,
            (
                let now : values_at b own ≡ values_at a p.head ++ s.own = values ∙ ap (λ (v : StackLists T B). values_at a p.head ++ v.own) is in
                let old : map (frozen_in b) rest ≡ set s.frozen n None = frozen_all a b rest both_same ∙ (map-set (frozen_in a) all n None ∙ ap (λ (v : StackLists T B). set v.frozen n None) is) in
                λ i. record { own = now i; frozen = old i }
                ),
          )

-- there is none of a number
module _ {T B : Type 0} (a : Arena T) (own : ℕ) (all : All B) (st : AreStacks a own all) (n : ℕ) (here : parked_at n all ≡ None) (s : StackLists T B) (is : stacks_in a own all ≡ s) where
  pub none_thaws : AreStacks a own (set all n None)
  none_thaws = subst (λ (ps : All B). AreStacks a own ps) (sym (none_set all n here)) st

  none_view : stacks_in a own (set all n None) ≡ s
  none_view = ap (stacks_in a own) (none_set all n here) ∙ is

  pub none_thawed : Thawed None n s (stacks_in a own (set all n None))
  none_thawed = subst (λ (f : Option (FrozenList T B)). ThawedFrom f None n s (stacks_in a own (set all n None))) (sym (sym (ap (λ (v : StackLists T B). frozen_at v n) is) ∙ (at_number a all n ∙ ap (frozen_in a) here))) (refl, none_view)

  pub none_without : stacks_in a own (set all n None) ≡ without s n
  none_without =
      let old : map (frozen_in a) (set all n None) ≡ set s.frozen n None = map-set (frozen_in a) all n None ∙ ap (λ (v : StackLists T B). set v.frozen n None) is in
      let now : values_at a own ≡ s.own = ap (λ (v : StackLists T B). v.own) is in
      λ i. record { own = now i; frozen = old i }
