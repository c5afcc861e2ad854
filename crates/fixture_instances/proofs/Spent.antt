-- What remains of the live instances is given up, one after the other.
use Rattle.std.proofs.Common.{◌≡◌, ℕ, ◌+◌, ◌<◌, List, [], ◌∷◌, ◌++◌, refl, sym, ap, ◌∙◌, arith, length, take, drop, set, get_or, map, subst, Option, Some, None}
use Rattle.std.proofs.lemmas.List.{at_drop_more, drop-set-lt, get_or-map, map-set, map_push, set-get_or, take_more_set}
use Rattle.session_types.specs.declared.instance.Instance.{Instance}
use Rattle.fixture_instances.specs.declared.ends.CachedResult.{CachedResult}
use Rattle.fixture_instances.specs.declared.live.Kept.{Kept}
use Rattle.live_chains.specs.declared.id.LiveId.{LiveId}
use Rattle.fixture_instances.specs.Joined.{InstanceList, ArePaired, with_slots, with_slot}
use Rattle.fixture_instances.specs.Resting.{AreKeptSpent, AreSpent, all_given_up, all_kept_given_up, given_up_where, spent_instance, spent_held, spent_kept}

pub not_both : {R : Type 0} (o : Option R) (x : R) → o ≡ None → o ≡ Some x → ⊥
not_both o x n s = (let z : None ≡ Some x = sym n ∙ s in cc)

module _ {V E R : Type 0} where
  last_spent : (ys : List (Kept V E R)) (k : Kept V E R) → AreKeptSpent (ys ++ k ∷ []) → AreKeptSpent ys × (k.held.rest ≡ None)
  last_spent [] k h = (tt, h.0)
  last_spent (y ∷ ys) k h = (let r = last_spent ys k h.1 in ((h.0, r.0), r.1))

  pub popped : (xs ys : List (Kept V E R)) (k : Kept V E R) → xs ≡ ys ++ k ∷ [] → AreKeptSpent xs → AreKeptSpent ys × (k.held.rest ≡ None)
  popped xs ys k e h = last_spent ys k (subst (λ (l : List (Kept V E R)). AreKeptSpent l) e h)

  pub kept_spent : (is : List (Instance ℕ)) (ks : List (Kept V E R)) → ArePaired is ks → AreSpent (with_slots is ks) → AreKeptSpent ks
  kept_spent [] [] p s = tt
  kept_spent [] (k ∷ ks) p s = absurd p
  kept_spent (i ∷ is) [] p s = absurd p
  kept_spent (i ∷ is) (k ∷ ks) p s = (s.0, kept_spent is ks p.1 s.1)

  pub joined_spent : (is : List (Instance ℕ)) (ks : List (Kept V E R)) → with_slots is (map spent_kept ks) ≡ map spent_instance (with_slots is ks)
  joined_spent [] ks = refl
  joined_spent (i ∷ is) [] = refl
  joined_spent (i ∷ is) (k ∷ ks) = ap (λ (l : List (Instance (CachedResult V E R))). with_slot (spent_held k.held) i ∷ l) (joined_spent is ks)

  pub pairs_spent : (is : List (Instance ℕ)) (ks : List (Kept V E R)) → ArePaired is ks → ArePaired is (map spent_kept ks)
  pairs_spent [] [] p = tt
  pairs_spent [] (k ∷ ks) p = absurd p
  pairs_spent (i ∷ is) [] p = absurd p
  pairs_spent (i ∷ is) (k ∷ ks) p = (p.0, pairs_spent is ks p.1)

  pub all_spent : (is : List (Instance (CachedResult V E R))) → AreSpent (map spent_instance is)
  all_spent [] = tt
  all_spent (i ∷ is) = (refl, all_spent is)

  pub one_spent : (x : Kept V E R) (rest : Option R) → rest ≡ None → record { order = x.order; held = record { kept = x.held.kept; rest = rest; request = x.held.request } } ≡ spent_kept x
  one_spent x rest e = (let build : Option R → Kept V E R = λ r. record { order = x.order; held = record { kept = x.held.kept; rest = r; request = x.held.request } } in ap build e)

  -- one more of them is given up
  pub spent_more : (xs ys : List (Kept V E R)) (i : ℕ) (d y : Kept V E R) → i < length xs → y ≡ spent_kept (get_or xs i d) → map spent_kept xs ≡ map spent_kept ys → map spent_kept (set xs i y) ≡ map spent_kept ys
  spent_more xs ys i d y lt e h =
      map-set spent_kept xs i y
      ∙ (ap (λ (k : Kept V E R). set (map spent_kept xs) i k) (ap spent_kept e ∙ sym (get_or-map spent_kept xs i d y lt))
      ∙ (set-get_or (map spent_kept xs) i y ∙ h))

  pub front_more : (xs : List (Kept V E R)) (i : ℕ) (d y : Kept V E R) → i < length xs → y ≡ spent_kept (get_or xs i d) → map spent_kept (take i xs) ≡ take i xs → map spent_kept (take (i + 1) (set xs i y)) ≡ take (i + 1) (set xs i y)
  front_more xs i d y lt e h =
      let t = take_more_set xs i y lt in
      ap (λ (l : List (Kept V E R)). map spent_kept l) t
      ∙ (map_push spent_kept (take i xs) y
      ∙ (ap (λ (l : List (Kept V E R)). l ++ spent_kept y ∷ []) h
      ∙ (ap (λ (k : Kept V E R). take i xs ++ k ∷ []) (ap spent_kept e ∙ sym e) ∙ sym t)))

pub given_up_more : {V E R W : Type 0} (given_up : R → W → W) (xs : List (Kept V E R)) (i : ℕ) (d y : Kept V E R) (rest : Option R) (w v a : W) → i < length xs → rest ≡ (get_or xs i d).held.rest → v ≡ given_up_where given_up rest w → all_kept_given_up given_up (drop i xs) w ≡ a → all_kept_given_up given_up (drop (i + 1) (set xs i y)) v ≡ a
given_up_more {V} {E} {R} {W} given_up xs i d y rest w v a lt er ev h =
    ap (λ (l : List (Kept V E R)). all_kept_given_up given_up l v) (drop-set-lt (i + 1) xs i y (omega arith))
    ∙ (ap (λ (u : W). all_kept_given_up given_up (drop (i + 1) xs) u) (ev ∙ ap (λ (r : Option R). given_up_where given_up r w) er)
    ∙ (sym (at_drop_more (λ (l : List (Kept V E R)). all_kept_given_up given_up l w) xs i d lt) ∙ h))

pub given_up_joined : {V E R W : Type 0} (given_up : R → W → W) (is : List (Instance ℕ)) (ks : List (Kept V E R)) (w : W) → ArePaired is ks → all_given_up given_up (with_slots is ks) w ≡ all_kept_given_up given_up ks w
given_up_joined given_up [] [] w p = refl
given_up_joined given_up [] (k ∷ ks) w p = absurd p
given_up_joined given_up (i ∷ is) [] w p = absurd p
given_up_joined given_up (i ∷ is) (k ∷ ks) w p = given_up_joined given_up is ks (given_up_where given_up k.held.rest w) p.1

-- the list whose frames were given up
pub pairs_given : {V E R : Type 0} (is : List (Instance ℕ)) (ks new : List (Kept V E R)) → new ≡ map spent_kept ks → ArePaired is ks → ArePaired is new
pairs_given {V} {E} {R} is ks new e p = subst (λ (l : List (Kept V E R)). ArePaired is l) (sym e) (pairs_spent is ks p)

abbrev pub listed : {V E R : Type 0} → List LiveId → ℕ → ℕ → List (Instance (CachedResult V E R)) → InstanceList V E R
listed ids spare next live = record { live = live; ids = ids; spare = spare; next = next }

abbrev pub all_given : {V E R : Type 0} → InstanceList V E R → InstanceList V E R
all_given v = record { live = map spent_instance v.live; ids = v.ids; spare = v.spare; next = v.next }

pub list_given : {V E R : Type 0} (is : List (Instance ℕ)) (ids : List LiveId) (ks new : List (Kept V E R)) (spare next : ℕ) (v : InstanceList V E R) → new ≡ map spent_kept ks → listed ids spare next (with_slots is ks) ≡ v → listed ids spare next (with_slots is new) ≡ all_given v
list_given {V} {E} {R} is ids ks new spare next v e view =
    ap (λ (l : List (Instance (CachedResult V E R))). listed ids spare next l) (ap (λ (l : List (Kept V E R)). with_slots is l) e ∙ joined_spent is ks)
    ∙ ap (λ (u : InstanceList V E R). all_given u) view

pub world_given : {V E R W : Type 0} (given_up : R → W → W) (is : List (Instance ℕ)) (ids : List LiveId) (ks lent : List (Kept V E R)) (spare next : ℕ) (v : InstanceList V E R) (w : W) → lent ≡ ks → ArePaired is ks → listed ids spare next (with_slots is ks) ≡ v → all_kept_given_up given_up lent w ≡ all_given_up given_up v.live w
world_given {V} {E} {R} {W} given_up is ids ks lent spare next v w e p view =
    ap (λ (l : List (Kept V E R)). all_kept_given_up given_up l w) e
    ∙ (sym (given_up_joined given_up is ks w p) ∙ ap (λ (u : InstanceList V E R). all_given_up given_up u.live w) view)

pub spent_now : {V E R : Type 0} (is new : List (Instance (CachedResult V E R))) → new ≡ map spent_instance is → AreSpent new
spent_now {V} {E} {R} is new e = subst (λ (l : List (Instance (CachedResult V E R))). AreSpent l) (sym e) (all_spent is)
