-- THE RULE OF A PART: what it reads with n + 1 levels left, against m + 1, and its reader.
use Rattle.std.proofs.Common.{◌≡◌, ℕ, suc, ◌≤◌, ◌<◌, ◌+◌, max, nat_le, Bool, true, false, cond, inl, inr, List, [], ◌∷◌, ◌++◌, refl, sym, ap, ◌∙◌, subst, arith, append-nil}
use Rattle.parsing.specs.Reading.{Read, Found, ◌>>=◌, head_is, One, one_at, Then, When, CanGoOn, guard_at, is_some, has}
use Rattle.parsing.proofs.Sets.{no_false, apart_nil, has_left, has_right, has_either}
use Rattle.parsing.proofs.Parts.{one_facts, one_reader}
use Rattle.parsing.proofs.Rules.{Rule, Step, step, nothing, one, bind, bind_step, or_steps, loop_fit, guard, wanting, start_nothing, go_then, go_left, go_right, when as when_step}
use Rattle.parsing.proofs.Until.{pass_rule}
use Rattle.parsing.proofs.Seen.{seen_step}
use Rattle.parsing.proofs.Two.{Two, two_steps}
use Rattle.grammar.specs.Table.{taken, token, give, node, line, inner, join, far, fork, ◌⨾◌, ◌∣◌, many, when, room, lift, seen, until, Grammar, In, Fars}
use Rattle.grammar.specs.Levels.{Langs, Readers, FarReaders, fits, takes, shown, lang, first, first_set, nul, goes, read, Stand, parts, whole, low, enter, closes, out, able, leads, below, good, takes_line}
use Rattle.grammar.proofs.Stands.{and_true, loosen, Know, room_know, lift_know, take_know, takes_wide, le_of, of_le, wide_know, left_know, keeps, apart_less, apart_both}
use Rattle.grammar.proofs.Parts.{loop_at, then_good, or_good, many_good, when_good, seen_good, room_good, lift_good, fork_good, UntilGood, until_good, first_firsts, fits_of, until_fits, ended, taken_room, able_of, starts_of}

-- a part that isn't empty
solid : {A X : Type 0} {T V : Type 0} {kind : T → ℕ} {L M : List T → V → Type 0} {p : List T → Read T V} {b : Bool} {F G : List ℕ} → b ≡ false → Step A X kind L M p b F G → Step A X kind L M p false F G
solid {A} {X} {T} {V} {kind} {L} {M} {p} {b} {F} {G} e r = subst (λ v. Step A X kind L M p v F G) e r

-- more may go on
loose : {A X : Type 0} {T V : Type 0} {kind : T → ℕ} {L M : List T → V → Type 0} {p : List T → Read T V} {b : Bool} {F G : List ℕ} (H : List ℕ) → ((k : ℕ) → has k G ≡ true → has k H ≡ true) → Step A X kind L M p b F G → Step A X kind L M p b F H
loose {kind = kind} H i r = record { facts = record { first = r.facts.first; empty = r.facts.empty; goes = λ w a h z b x y. i (kind h) (r.facts.goes w a h z b x y); unique = r.facts.unique }; reader = r.reader }

or_within : (j : ℕ) (b : Bool) (G1 G2 F U : List ℕ) → ((j : ℕ) → has j F ≡ true → has j U ≡ true) → has j (G1 ++ (G2 ++ cond b F [])) ≡ true → has j (G1 ++ (G2 ++ cond b U [])) ≡ true
or_within j b G1 G2 F U f e = elim (has_either j G1 (G2 ++ cond b F []) e) [
  | inl l ↦ has_left j G1 _ l
  | inr l ↦ has_right j G1 (G2 ++ cond b U []) (elim (has_either j G2 (cond b F []) l) [
    | inl i ↦ has_left j G2 _ i
    | inr i ↦ has_right j G2 (cond b U []) (last b i)
  ])
]
  where
    last : (b : Bool) → has j (cond b F []) ≡ true → has j (cond b U []) ≡ true
    last true e = f j e
    last false e = e

-- a part that wants a level; X says that the wide language has one
room_step : {A X Y : Type 0} {T V : Type 0} {kind : T → ℕ} {L M : List T → V → Type 0} {p : List T → Read T V} {F G : List ℕ} (b b' : Bool)
    → Step A Y kind L M p false F G → (A → X → b' ≡ true) → (X → b ≡ true → Y) → (A → X → (h : T) → has (kind h) F ≡ true → CanGoOn M [] h)
    → Step A X kind (When b L) (When b' M) (guard_at b (λ h. has (kind h) F) p) false F G
room_step {A} {X} {Y} {kind = kind} {L = L} {M = M} {p = p} {F = F} {G = G} b b' r w y st =
    let q : Step (A × X) Y kind L M p false F G = record { facts = r.facts; reader = λ a x. r.reader a.0 x } in
    let t = guard b b' q (λ a h e. st a.0 a.1 h e) in
    record { facts = t.facts; reader = λ a x. t.reader (a, x) (w a x, y x) }

-- what is known of a line of another grammar
pub record FarRule (g : Grammar) (A : Type 0) (q : g.Far) (L M : List g.Tok → g.El (g.far_sort q) → Type 0) (p : List g.Tok → Read g.Tok (g.El (g.far_sort q))) : Type 0 where
  pub rule : Rule A (Unit {0}) g.kind L M p false (g.far_begins q) (g.far_goes q)
  pub never_both : (c d : ℕ) → g.forked q c d ≡ true → (h k : g.Tok) (z : List g.Tok) (a : g.El (g.far_sort q)) → M (h ∷ k ∷ z) a → has (g.kind h) (c ∷ []) ≡ true → has (g.kind k) (d ∷ []) ≡ true → ⊥
  pub goes_on : A → (c d : ℕ) → g.forked q c d ≡ true → (h : g.Tok) → has (g.kind h) (c ∷ []) ≡ true → CanGoOn L [] h

-- two tokens, and what stands behind them
two_tokens : {T V : Type 0} (c d : T → Bool) (view : T → T → V) {W : Type 0} {K : V → List T → W → Type 0} (w : List T) (a : W) → Then (One c (λ t. t)) (λ t. Then (One d (λ u. view t u)) (λ y. K y)) w a → Two c d w
two_tokens c d view w a r = record {
  h = r.left.token;
  k = r.right.left.token;
  z = r.right.back;
  whole = r.whole ∙ ap (λ v. v ++ r.back) r.left.whole ∙ ap (λ v. r.left.token ∷ v) (r.right.whole ∙ ap (λ v. v ++ r.right.back) r.right.left.whole);
  first = r.left.passes;
  second = r.right.left.passes;
}

all_front : {T : Type 0} (w u v : List T) → w ≡ u ++ v → v ≡ [] → w ≡ u
all_front w u v e d = e ∙ ap (λ z. u ++ z) d ∙ append-nil u

one_less_level : (h m : ℕ) → 1 + h ≤ m → h ≤ m
one_less_level h m e = omega (arith, e)

lifted_wide : (h m : ℕ) → 1 + max 1 h ≤ m → 1 + h ≤ m
lifted_wide h m e = omega (arith, e)

lifted_room : (h m : ℕ) → 1 + max 1 h ≤ m → 0 + max 1 (1 + h) ≤ m
lifted_room h m e = omega (arith, e)

module _ (g : Grammar) (A : Type 0) (n m k : ℕ) (lt : A → suc n < m) (fl fm : Fars g) (fr : FarReaders g) (hn hm : Langs g) (hr : Readers g) (un um : Langs g) (ur : Readers g)
    (far_rule : (q : g.Far) → FarRule g A q (fl q) (fm q) (fr q))
    (here_rule : (r : g.Name) → below (g.rank r) k ≡ true → Rule A (Unit {0}) g.kind (hn r) (hm r) (hr r) false (g.begins r) (g.goes r))
    (here_low : (r : g.Name) → below (g.rank r) k ≡ true → (w : List g.Tok) (y : g.El (g.sort r) × ℕ) → hn r w y → Know whole n y.1)
    (under_rule : (r : g.Name) → Rule A (1 ≤ n) g.kind (un r) (um r) (ur r) false (g.begins r) (g.goes r))
    (under_step : (r : g.Name) → Step A (Unit {0}) g.kind (un r) (um r) (ur r) false (g.begins r) (g.goes r))
    (under_low : (r : g.Name) → (w : List g.Tok) (y : g.El (g.sort r) × ℕ) → un r w y → Know parts n y.1) where
  starts : A → {S B : g.Sort} (p : In g S B) (s : Stand) → good g k s p ≡ true → (d : ℕ) → leads g k d p ≡ true → (x : g.El S × ℕ) → d + max 1 x.1 ≤ m → (h : g.Tok) → has (g.kind h) (first g p x.0) ≡ true → CanGoOn (lang g m fm hm um p x) [] h
  starts a = starts_of g m k fm hm um (λ q. (far_rule q).rule.able_wide a) (λ r e. (here_rule r e).able_wide a) (λ r. (under_rule r).able_wide a) (λ r _. ((under_step r).reader a tt).starts) (λ q. ((far_rule q).rule.reader a tt).starts) (λ r e. ((here_rule r e).reader a tt).starts)

  -- a part that can always be read
  pub able_rule : {S B : g.Sort} (p : In g S B) (s : Stand) → good g k s p ≡ true → able g s p ≡ true → (x : g.El S × ℕ)
      → Step A (Know s n x.1) g.kind (lang g n fl hn un p x) (lang g m fm hm um p x) (read g n fr hr ur p x) (nul g p) (first g p x.0) (goes g p)
      → Rule A (Know s n x.1) g.kind (lang g n fl hn un p x) (lang g m fm hm um p x) (read g n fr hr ur p x) (nul g p) (first g p x.0) (goes g p)
  able_rule p s e i x r = record {
    facts = r.facts;
    reader = r.reader;
    able = λ a z. able_of g n k fl hn un (1 ≤ n) (λ q. (far_rule q).rule.able a tt) (λ r e. (here_rule r e).able a tt) (λ l r. (under_rule r).able a l) p s e i (λ j. left_know s n x.1 j z) x;
    able_wide = λ a. able_of g m k fm hm um (Unit {0}) (λ q. (far_rule q).rule.able_wide a) (λ r e. (here_rule r e).able_wide a) (λ _ r. (under_rule r).able_wide a) p s e i (λ _. tt) x;
  }

  pub step_of : {S B : g.Sort} (p : In g S B) (s : Stand) → good g k s p ≡ true → (x : g.El S × ℕ)
      → Step A (Know s n x.1) g.kind (lang g n fl hn un p x) (lang g m fm hm um p x) (read g n fr hr ur p x) (nul g p) (first g p x.0) (goes g p)
  step_of (token F f) s e x = record { facts = one_facts g.kind F (λ t. (f x.0 t, x.1)); reader = λ _ _. one_reader g.kind F (λ t. (f x.0 t, x.1)) }
  step_of (give f) s e x = step (nothing (f x.0, x.1))
  step_of (node f) s e x = step (nothing (f x.0, 1 + x.1))
  step_of (line r f) s e x = bind_step {Y = λ _. Unit {0}} (λ y. Found (f x.0 y.0.0, max x.1 y.0.1) y.1) (wanting (λ _ _. tt) (step (here_rule r (and_true (below (g.rank r) k) (takes_line s) e).0))) (λ y. nothing (f x.0 y.0, max x.1 y.1)) (λ _. refl) (λ _ _ _ _ _. tt)
  step_of (inner r f) s e x = bind_step {Y = λ _. Unit {0}} (λ y. Found (f x.0 y.0.0, max x.1 y.0.1) y.1) (wanting (λ _ _. tt) (under_step r)) (λ y. nothing (f x.0 y.0, max x.1 y.1)) (λ _. refl) (λ _ _ _ _ _. tt)
  step_of (join r f) s e x = bind_step {Y = λ _. Unit {0}} (λ y. Found (f x.0 y.0.0, max (1 + x.1) y.0.1) y.1) (wanting (λ _ _. tt) (step (here_rule r (and_true (below (g.rank r) k) (closes s) e).0))) (λ y. nothing (f x.0 y.0, max (1 + x.1) y.1)) (λ _. refl) (λ _ _ _ _ _. tt)
  step_of (far q f) s e x = bind_step {Y = λ _. Unit {0}} (λ y. Found (f x.0 y.0, x.1) y.1) (wanting (λ _ _. tt) (step (far_rule q).rule)) (λ y. nothing (f x.0 y, x.1)) (λ _. refl) (λ _ _ _ _ _. tt)
  step_of (fork c d f p q j) s e x = let b = fork_good g k s c d f p q j e in
      two_steps (d ∷ [])
      (bind_step {Y = λ _. Know s n x.1} {F2 = λ _. d ∷ []} (λ t. one_at (λ u. has (g.kind u) (d ∷ [])) (λ u. (f x.0 t.0 u, x.1)) t.1 >>= λ y. read g n fr hr ur p y.0 y.1) (record { facts = one_facts g.kind (c ∷ []) (λ t. t); reader = λ _ _. one_reader g.kind (c ∷ []) (λ t. t) })
      (λ t. bind {Y = λ y. Know s n y.1} (λ y. read g n fr hr ur p y.0 y.1) (one {F = d ∷ []} (g.sample d) b.sampled) (λ y. able_rule p s b.one b.able_one y (step_of p s b.one y)) (λ y. apart_nil (first g p y.0)) (λ a z y w l. subst (λ v. Know s n v.1) (sym l.value) z))
      (λ t. refl) (λ a z t w l. z))
      (bind_step {Y = λ _. Unit {0}} (λ y. Found (j x.0 y.0, x.1) y.1) (wanting (λ _ _. tt) (step (far_rule q).rule)) (λ y. nothing (j x.0 y, x.1)) (λ _. refl) (λ _ _ _ _ _. tt))
      (λ w a r. two_tokens (λ t. has (g.kind t) (c ∷ [])) (λ u. has (g.kind u) (d ∷ [])) (λ t u. (f x.0 t u, x.1)) w a r)
      (λ h i z a r eh ei. (far_rule q).never_both c d b.forks h i z r.value (subst (λ v. fm q v r.value) (sym (all_front (h ∷ i ∷ z) r.front r.back r.whole r.right.0)) r.left) eh ei)
      (λ a z h i eh ei. let t = able_of g n k fl hn un (1 ≤ n) (λ q. (far_rule q).rule.able a tt) (λ r e. (here_rule r e).able a tt) (λ l r. (under_rule r).able a l) p s b.one b.able_one (λ j. left_know s n x.1 j z) (f x.0 h i, x.1) in record {
        more = t.more;
        tree = t.tree;
        reads = record {
          front = h ∷ [];
          back = i ∷ t.more;
          value = h;
          whole = refl;
          left = record { token = h; whole = refl; passes = eh; value = refl };
          right = record { front = i ∷ []; back = t.more; value = (f x.0 h i, x.1); whole = refl; left = record { token = i; whole = refl; passes = ei; value = refl }; right = t.reads };
        };
      })
      (λ a z h eh. go_then ((far_rule q).goes_on a c d b.forks h eh) (λ y. start_nothing))
  step_of (p ⨾ q) s e x = let b = then_good g k s p q e in
      bind_step {Y = λ y. Know (out g s p) n y.1} (λ y. read g n fr hr ur q y.0 y.1) (solid b.solid (step_of p s b.one x))
      (λ y. able_rule q (out g s p) b.two b.able_two y (step_of q (out g s p) b.two y))
      (λ y. apart_less (first g q y.0) (first_set g q) (goes g p) (first_firsts g q y.0) b.clear)
      (λ _ z y w l. fits_of g n k fl hn un here_low under_low p s b.one x w y z l)
  step_of (p ∣ q) s e x = let b = or_good g k s p q e in
      loose _ (λ j. or_within j (nul g q) (goes g p) (goes g q) (first g p x.0) (first_set g p) (first_firsts g p x.0))
      (or_steps (solid b.solid (step_of p s b.one x)) (step_of q s b.two x) (apart_both (first g p x.0) (first_set g p) (first g q x.0) (first_set g q) (first_firsts g p x.0) (first_firsts g q x.0) b.clear))
  step_of (many p) s e x = let b = many_good g k s p e in
      wanting (λ _ z. loosen _ _ n x.1 b.enters z) (step (loop_fit {Fits = λ y. Know (loop_at g s p) n y.1} {F = λ y. first g p y.0} (first_set g p) (λ y. read g n fr hr ur p y.0 y.1) x (λ y. solid b.solid (step_of p (loop_at g s p) b.one y))
      (λ y. apart_less (first g p y.0) (first_set g p) (goes g p) (first_firsts g p y.0) b.clear) (λ y. first_firsts g p y.0)
      (λ _ y w t z l. loosen _ _ n t.1 b.again_out (fits_of g n k fl hn un here_low under_low p (loop_at g s p) b.one y w t z l))))
  step_of (when c p) s e x = let b = when_good g k s c p e in when_step (c x.0) (solid b.1 (step_of p s b.0 x))
  step_of (seen v p) s e x = let b = seen_good g k s v p e in seen_step (v x.0) (λ y. solid b.1 (step_of p s b.0 (y, x.1)))
  step_of (room p) s e x = let b = room_good g k s p e in
      room_step (fits n x.1) (fits m x.1) (solid b.1 (step_of p (enter s) b.0 x)) (λ a z. of_le (max 1 x.1) m (one_less_level (max 1 x.1) m (wide_know s n m x.1 (lt a) z))) (λ z i. room_know s n x.1 z (le_of (max 1 x.1) n i))
      (λ a z h i. starts a p (enter s) b.0 1 b.2 x (wide_know s n m x.1 (lt a) z) h i)
  step_of (lift lf p) s e x = let b = lift_good g k s lf p e in
      room_step (nat_le (1 + x.1) n) (nat_le (1 + x.1) m) (solid b.1 (step_of p parts b.0 (lf x.0, 1 + x.1))) (λ a z. of_le (1 + x.1) m (lifted_wide x.1 m (wide_know s n m x.1 (lt a) z))) (λ z i. lift_know n x.1 (le_of (1 + x.1) n i))
      (λ a z h i. starts a p parts b.0 0 b.2 (lf x.0, 1 + x.1) (lifted_room x.1 m (wide_know s n m x.1 (lt a) z)) h i)
  step_of (until c tk f i d p) s e x = let b = until_good g k s c tk f i d p e in
      subst (λ v. Step A (Know v n x.1) g.kind (lang g n fl hn un (until c tk f i d p) x) (lang g m fm hm um (until c tk f i d p) x) (read g n fr hr ur (until c tk f i d p) x) true (first g d (tk x.0) ++ first g p (tk x.0)) ((goes g d ++ (goes g p ++ [])) ++ (first_set g d ++ first_set g p))) (sym b.at_whole)
      (step (pass_rule (shown c) x
      (loop_fit {Fits = λ y. Know whole n y.1} {F = λ y. first g d (tk y.0) ++ first g p (tk y.0)} (first_set g d ++ first_set g p)
      (λ y. guard_at (takes (is_some (c y.0.0)) n y.0.1) (λ t. has (g.kind t) (first g d (tk y.0.0) ++ first g p (tk y.0.0)))
      (λ ts. cond (head_is (λ t. has (g.kind t) (first g d (tk y.0.0))) ts) (read g n fr hr ur d (tk y.0.0, taken (is_some (c y.0.0)) y.0.1) ts >>= λ z. Found (f z.0.0, z.0.1) z.1) (read g n fr hr ur p (tk y.0.0, taken (is_some (c y.0.0)) y.0.1) ts)) y.1) x
      (λ y. room_step (takes (is_some (c y.0)) n y.1) (takes (is_some (c y.0)) m y.1)
      (or_steps (bind_step {Y = λ _. Unit {0}} (λ z. Found (f z.0.0, z.0.1) z.1) (solid b.solid_one (step_of d low b.one (tk y.0, taken (is_some (c y.0)) y.1))) (λ z. nothing (f z.0, z.1)) (λ _. refl) (λ _ _ _ _ _. tt))
      (solid b.solid_two (step_of p low b.two (tk y.0, taken (is_some (c y.0)) y.1))) (apart_both (first g d (tk y.0)) (first_set g d) (first g p (tk y.0)) (first_set g p) (first_firsts g d (tk y.0)) (first_firsts g p (tk y.0)) b.apart_two))
      (λ a z. takes_wide (is_some (c y.0)) n m y.1 (lt a) z) (λ z t. take_know (is_some (c y.0)) n y.1 z t)
      (λ a z h t. elim (has_either (g.kind h) (first g d (tk y.0)) (first g p (tk y.0)) t) [
        | inl j ↦ go_left (go_then (starts a d low b.one 1 b.lead_one (tk y.0, taken (is_some (c y.0)) y.1) (taken_room (is_some (c y.0)) 1 y.1 m (wide_know whole n m y.1 (lt a) z)) h j) (λ y. start_nothing))
        | inr j ↦ go_right (starts a p low b.two 1 b.lead_two (tk y.0, taken (is_some (c y.0)) y.1) (taken_room (is_some (c y.0)) 1 y.1 m (wide_know whole n m y.1 (lt a) z)) h j)
      ]))
      (λ y. apart_less (first g d (tk y.0) ++ first g p (tk y.0)) (first_set g d ++ first_set g p) (goes g d ++ (goes g p ++ [])) (first_firsts g (until c tk f i d p) y.0) b.clear)
      (λ y. first_firsts g (until c tk f i d p) y.0)
      (λ a y w t z l. until_fits g n k fl hn un here_low under_low c tk f d p (subst (λ v. UntilGood g k v _ _ _ d p) b.at_whole b) y w t z l))
      (λ a t w z l. keeps (λ v. Know whole n v.1) (λ y w t z l. until_fits g n k fl hn un here_low under_low c tk f d p (subst (λ v. UntilGood g k v _ _ _ d p) b.at_whole b) y w t z l) x w t z l)
      (λ a t z v. ended c tk f i (λ y. lang g n fl hn un p (tk y.0, taken (is_some (c y.0)) y.1)) n (λ y. lang g n fl hn un d y) t v (able_of g n k fl hn un (1 ≤ n) (λ q. (far_rule q).rule.able a tt) (λ r e. (here_rule r e).able a tt) (λ l r. (under_rule r).able a l) d low b.one b.able_one (λ r. no_false r) _))
      (λ a t v. ended c tk f i (λ y. lang g m fm hm um p (tk y.0, taken (is_some (c y.0)) y.1)) m (λ y. lang g m fm hm um d y) t v (able_of g m k fm hm um (Unit {0}) (λ q. (far_rule q).rule.able_wide a) (λ r e. (here_rule r e).able_wide a) (λ _ r. (under_rule r).able_wide a) d low b.one b.able_one (λ _. tt) _))))
