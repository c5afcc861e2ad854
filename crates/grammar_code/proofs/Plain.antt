-- WHAT A LINE'S READER GIVES, WITHOUT ITS HEIGHT, IS WHAT ITS ROW READS FLAT.
use Rattle.std.proofs.Common.{◌≡◌, ℕ, zero, suc, max, nat_le, Bool, true, false, not, ◌&&◌, ◌||◌, ◌==◌, cond, List, [], ◌∷◌, ◌++◌, length, Option, Some, None, refl, sym, ap, ◌∙◌, subst}
use Rattle.parsing.specs.Reading.{Read, Found, Bad, Deep, ◌>>=◌, head_is, one_at, loop_at, many_at, deep_at, both_are, seen_or, seen_at, has}
use Rattle.grammar.specs.Table.{one_of, lookup_key, token, give, node, line, inner, join, far, fork, ◌⨾◌, ◌∣◌, many, when, room, lift, seen, until, Grammar, In}
use Rattle.grammar.specs.Levels.{Readers, FarReaders, readers, read, fits, first, nul, IsGood}
use Rattle.grammar.proofs.Along.{reader_line}
use Rattle.grammar.proofs.Stands.{and_true}
use Rattle.grammar_code.specs.Walk.{first_if, first_of, first_meant, with_meaning, wanted, starts_with, pick}
use Rattle.grammar_code.specs.Plain.{plain, Lines, found, enter_or, stood, both_of, flat, calm}

not_true : (b : Bool) → not b ≡ true → b ≡ false
not_true true e = absurd (cc)
not_true false e = refl

found_is : {T A : Type 0} (r : Read T A) → (r >>= found) ≡ r
found_is (Found a rest) = refl
found_is (Bad rest) = refl
found_is (Deep rest) = refl

-- heights fall away behind a reading
dropped : {T A B C : Type 0} (r : Read T (A × ℕ)) (f : A → B) (h : A × ℕ → ℕ) (k : B × List T → Read T C) → (plain (r >>= λ y. Found (f y.0.0, h y.0) y.1) >>= k) ≡ (plain r >>= λ y. k (f y.0, y.1))
dropped (Found x rest) f h k = refl
dropped (Bad rest) f h k = refl
dropped (Deep rest) f h k = refl

kept : {T A B C : Type 0} (r : Read T A) (f : A → B) (h : ℕ) (k : B × List T → Read T C) → (plain (r >>= λ y. Found (f y.0, h) y.1) >>= k) ≡ (r >>= λ y. k (f y.0, y.1))
kept (Found x rest) f h k = refl
kept (Bad rest) f h k = refl
kept (Deep rest) f h k = refl

in_turn : {T A B C : Type 0} (r : Read T (A × ℕ)) (q : (A × ℕ) × List T → Read T (B × ℕ)) (k : B × List T → Read T C) (j : A × List T → Read T C) → ((a : A) (h : ℕ) (rest : List T) → (plain (q ((a, h), rest)) >>= k) ≡ j (a, rest)) → (plain (r >>= q) >>= k) ≡ (plain r >>= j)
in_turn (Found x rest) q k j e = e x.0 x.1 rest
in_turn (Bad rest) q k j e = refl
in_turn (Deep rest) q k j e = refl

of_two : {T A C : Type 0} (b : Bool) (p q : Read T (A × ℕ)) (k : A × List T → Read T C) → (plain (cond b p q) >>= k) ≡ cond b (plain p >>= k) (plain q >>= k)
of_two true p q k = refl
of_two false p q k = refl

has_both : (x : ℕ) (xs ys : List ℕ) → has x (xs ++ ys) ≡ (has x xs || has x ys)
has_both x [] ys = refl
has_both x (z ∷ xs) ys = ap (λ b. (x == z) || b) (has_both x xs ys) ∙ assoc (x == z) (has x xs) (has x ys)
  where
    assoc : (a b c : Bool) → (a || (b || c)) ≡ ((a || b) || c)
    assoc true b c = refl
    assoc false b c = refl

of_three : {R T : Type 0} (kind : T → ℕ) (F G : List ℕ) (ts : List T) (x y z : R) → cond (starts_with kind (F ++ G) ts) (cond (starts_with kind F ts) x y) z ≡ cond (starts_with kind F ts) x (cond (starts_with kind G ts) y z)
of_three kind F G [] x y z = refl
of_three {R} kind F G (t ∷ ts) x y z = ap (λ b. cond b (cond (has (kind t) F) x y) z) (has_both (kind t) F G) ∙ go (has (kind t) F) (has (kind t) G)
  where
    go : (a b : Bool) → cond {A = R} (a || b) (cond a x y) z ≡ cond a x (cond b y z)
    go true b = refl
    go false b = refl

loop_plain : {T A : Type 0} (c : A → T → Bool) (q : (A × ℕ) × List T → Read T (A × ℕ)) (j : A × List T → Read T A) → ((a : A) (h : ℕ) (ts : List T) → plain (q ((a, h), ts)) ≡ j (a, ts)) → (n : ℕ) (a : A) (h : ℕ) (ts : List T) → plain (loop_at (λ y. c y.0) q n ((a, h), ts)) ≡ loop_at c j n (a, ts)
unfolding loop_at
loop_plain c q j e zero a h ts = refl
loop_plain {T} {A} c q j e (suc n) a h ts = go (head_is (c a) ts) (q ((a, h), ts)) (e a h ts) (λ b i rest. loop_plain c q j e n b i rest)
  where
    step : (r : Read T (A × ℕ)) → ((b : A) (i : ℕ) (rest : List T) → plain (loop_at (λ y. c y.0) q n ((b, i), rest)) ≡ loop_at c j n (b, rest)) → plain (r >>= λ y. loop_at (λ y. c y.0) q n y) ≡ (plain r >>= λ y. loop_at c j n y)
    step (Found x rest) ih = ih x.0 x.1 rest
    step (Bad rest) ih = refl
    step (Deep rest) ih = refl

    go : (b : Bool) (r : Read T (A × ℕ)) → plain r ≡ j (a, ts) → ((b : A) (i : ℕ) (rest : List T) → plain (loop_at (λ y. c y.0) q n ((b, i), rest)) ≡ loop_at c j n (b, rest))
        → plain (cond b (r >>= λ y. loop_at (λ y. c y.0) q n y) (Found (a, h) ts)) ≡ cond b (j (a, ts) >>= λ y. loop_at c j n y) (Found a ts)
    go true r d ih = step r ih ∙ ap (λ v. v >>= λ y. loop_at c j n y) d
    go false r d ih = refl

one_none : {T B C : Type 0} (kind : T → ℕ) (F : List ℕ) (f : T → B) (h : ℕ) (k : B × List T → Read T C) (ts : List T) → (plain (one_at (λ t. has (kind t) F) (λ t. (f t, h)) ts) >>= k) ≡ (wanted kind F ts >>= λ o. k (f o.0, o.1))
one_none kind F f h k [] = refl
one_none {T} {B} {C} kind F f h k (t ∷ ts) = go (has (kind t) F)
  where
    go : (b : Bool) → (plain (cond b (Found (f t, h) ts) (Bad (t ∷ ts))) >>= k) ≡ (pick {X = T × List T} (first_if b (t, ts)) (λ o. Found o.0 o.1) (Bad (t ∷ ts)) >>= λ o. k (f o.0, o.1))
    go true = refl
    go false = refl

one_some : {T B C : Type 0} (kind : T → ℕ) (F : List ℕ) (f : T → B) (h : ℕ) (k : B × List T → Read T C) (z : Read T C) (ts : List T) → cond (starts_with kind F ts) (plain (one_at (λ t. has (kind t) F) (λ t. (f t, h)) ts) >>= k) z ≡ pick (first_of kind F ts) (λ o. k (f o.0, o.1)) z
one_some kind F f h k z [] = refl
one_some {T} {B} {C} kind F f h k z (t ∷ ts) = go (has (kind t) F)
  where
    go : (b : Bool) → cond b (plain (cond b (Found (f t, h) ts) (Bad (t ∷ ts))) >>= k) z ≡ pick {X = T × List T} (first_if b (t, ts)) (λ o. k (f o.0, o.1)) z
    go true = refl
    go false = refl

none_stands : {T R : Type 0} (kind : T → ℕ) (ts : List T) (x z : R) → cond (starts_with kind [] ts) x z ≡ z
none_stands kind [] x z = refl
none_stands kind (t ∷ ts) x z = refl

deep_plain : {T A C : Type 0} (c : T → Bool) (k : A × List T → Read T C) (ts : List T) → (plain (deep_at c ts) >>= k) ≡ deep_at c ts
deep_plain c k [] = refl
deep_plain {T} {A} {C} c k (t ∷ ts) = go (c t)
  where
    go : (b : Bool) → (plain (cond {A = Read T (A × ℕ)} b (Deep (t ∷ ts)) (Bad (t ∷ ts))) >>= k) ≡ cond b (Deep (t ∷ ts)) (Bad (t ∷ ts))
    go true = refl
    go false = refl

-- two tokens, or a line of another grammar
forked : {T X B C : Type 0} (kind : T → ℕ) (c d : ℕ) (v : T → T → X) (p : X → List T → Read T (B × ℕ)) (q : Read T (B × ℕ)) (k : B × List T → Read T C) (j : T → T → List T → Read T C) (other : Read T C) → ((t u : T) (ts : List T) → (plain (p (v t u) ts) >>= k) ≡ j t u ts) → (plain q >>= k) ≡ other → (ts : List T)
    → (plain (cond (both_are (λ t. has (kind t) (c ∷ [])) (λ u. has (kind u) (d ∷ [])) ts) (one_at (λ t. has (kind t) (c ∷ [])) (λ t. t) ts >>= λ t. one_at (λ u. has (kind u) (d ∷ [])) (λ u. v t.0 u) t.1 >>= λ y. p y.0 y.1) q) >>= k) ≡ pick (both_of kind c d ts) (λ o. j o.0 o.1 o.2) other
forked kind c d v p q k j other e i [] = i
forked {T} {X} {B} {C} kind c d v p q k j other e i (t ∷ []) = i ∙ go (has (kind t) (c ∷ []))
  where
    go : (b : Bool) → other ≡ pick {X = T × T × List T} (pick {X = T × List T} {Y = Option (T × T × List T)} (first_if b (t, [])) (λ o. pick (first_of kind (d ∷ []) o.1) (λ u. Some (o.0, u.0, u.1)) None) None) (λ o. j o.0 o.1 o.2) other
    go true = refl
    go false = refl
forked {T} {X} {B} {C} kind c d v p q k j other e i (t ∷ u ∷ ts) = go (has (kind t) (c ∷ []))
  where
    two : (b : Bool) → (plain (cond b (cond b (Found (v t u) ts) (Bad (u ∷ ts)) >>= λ y. p y.0 y.1) q) >>= k) ≡ pick {X = T × T × List T} (pick {X = T × List T} {Y = Option (T × T × List T)} (first_if b (u, ts)) (λ u. Some (t, u.0, u.1)) None) (λ o. j o.0 o.1 o.2) other
    two true = e t u ts
    two false = i

    go : (a : Bool) → (plain (cond (a && has (kind u) (d ∷ [])) (cond a (Found t (u ∷ ts)) (Bad (t ∷ u ∷ ts)) >>= λ t. one_at (λ u. has (kind u) (d ∷ [])) (λ u. v t.0 u) t.1 >>= λ y. p y.0 y.1) q) >>= k)
        ≡ pick {X = T × T × List T} (pick {X = T × List T} {Y = Option (T × T × List T)} (first_if a (t, u ∷ ts)) (λ o. pick (first_of kind (d ∷ []) o.1) (λ u. Some (o.0, u.0, u.1)) None) None) (λ o. j o.0 o.1 o.2) other
    go true = two (has (kind u) (d ∷ []))
    go false = i

when_none : {T A C : Type 0} (b : Bool) (r : Read T (A × ℕ)) (x : Read T C) (k : A × List T → Read T C) (ts : List T) → (plain r >>= k) ≡ x → (plain (cond b r (Bad ts)) >>= k) ≡ cond b x (Bad ts)
when_none true r x k ts e = e
when_none false r x k ts e = refl

when_some : {T A C : Type 0} (kind : T → ℕ) (b : Bool) (F : List ℕ) (r : Read T (A × ℕ)) (x z : Read T C) (k : A × List T → Read T C) (ts : List T) → cond (starts_with kind F ts) (plain r >>= k) z ≡ x → cond (starts_with kind (cond b F []) ts) (plain (cond b r (Bad ts)) >>= k) z ≡ cond b x z
when_some kind true F r x z k ts e = e
when_some kind false F r x z k ts e = none_stands kind ts (Bad ts) z

seen_none : {T V A C : Type 0} (v : Option V) (r : V → List T → Read T (A × ℕ)) (x : V → Read T C) (k : A × List T → Read T C) (ts : List T) → ((b : V) → (plain (r b ts) >>= k) ≡ x b) → (plain (seen_at v r ts) >>= k) ≡ seen_or (Bad ts) x v
seen_none (Some b) r x k ts e = e b
seen_none None r x k ts e = refl

seen_some : {T V A C : Type 0} (kind : T → ℕ) (v : Option V) (F : V → List ℕ) (r : V → List T → Read T (A × ℕ)) (x : V → Read T C) (z : Read T C) (k : A × List T → Read T C) (ts : List T) → ((b : V) → cond (starts_with kind (F b) ts) (plain (r b ts) >>= k) z ≡ x b)
    → cond (starts_with kind (seen_or [] F v) ts) (plain (seen_at v r ts) >>= k) z ≡ seen_or z x v
seen_some kind (Some b) F r x z k ts e = e b
seen_some kind None F r x z k ts e = none_stands kind ts (Bad ts) z

room_none : {T A C : Type 0} (b : Bool) (c : T → Bool) (r : Read T (A × ℕ)) (x : Read T C) (k : A × List T → Read T C) (ts : List T) → (plain r >>= k) ≡ x → (plain (cond b r (deep_at c ts)) >>= k) ≡ cond b x (deep_at c ts)
room_none true c r x k ts e = e
room_none false c r x k ts e = deep_plain c k ts

room_some : {T A C : Type 0} (kind : T → ℕ) (b : Bool) (F : List ℕ) (r : Read T (A × ℕ)) (x z : Read T C) (k : A × List T → Read T C) (ts : List T) → (plain r >>= k) ≡ x → cond (starts_with kind F ts) (plain (cond b r (deep_at (λ t. has (kind t) F) ts)) >>= k) z ≡ cond (starts_with kind F ts) (cond b x (Deep ts)) z
room_some kind b F r x z k [] e = refl
room_some {T} {A} {C} kind b F r x z k (t ∷ ts) e = go (has (kind t) F) b
  where
    go : (c b : Bool) → cond c (plain (cond b r (cond c (Deep (t ∷ ts)) (Bad (t ∷ ts)))) >>= k) z ≡ cond c (cond b x (Deep (t ∷ ts))) z
    go true true = e
    go true false = refl
    go false b = refl

module _ (g : Grammar) (n : ℕ) (fr : FarReaders g) (hh hb : Readers g) (here below : Lines g) (same_here : (r : g.Name) (ts : List g.Tok) → plain (hh r ts) ≡ here r ts) (same_below : (r : g.Name) (ts : List g.Tok) → plain (hb r ts) ≡ below r ts) where
  line_on : {A B C : Type 0} (r : Read g.Tok (A × ℕ)) (s : Read g.Tok A) → plain r ≡ s → (f : A → B) (h : A × ℕ → ℕ) (k : B × List g.Tok → Read g.Tok C) → (plain (r >>= λ y. Found (f y.0.0, h y.0) y.1) >>= k) ≡ (s >>= λ y. k (f y.0, y.1))
  line_on r s e f h k = dropped r f h k ∙ ap (λ v. v >>= λ y. k (f y.0, y.1)) e

  mutual
    none_is : {S A : g.Sort} {C : Type 0} (b : Bool) (p : In g S A) → calm g b p ≡ true → (s : g.El S) (h : ℕ) → (b ≡ true → h ≡ 0) → (ts : List g.Tok) (k : g.El A × List g.Tok → Read g.Tok C)
        → (plain (read g n fr hh hb p (s, h) ts) >>= k) ≡ flat g (nat_le 1 n) fr here below p s ts k None
    none_is b (token F f) c s h i ts k = one_none g.kind F (λ t. f s t) h k ts
    none_is b (give f) c s h i ts k = refl
    none_is b (node f) c s h i ts k = refl
    none_is b (line r f) c s h i ts k = line_on (hh r ts) (here r ts) (same_here r ts) (λ y. f s y) (λ y. max h y.1) k
    none_is b (inner r f) c s h i ts k = line_on (hb r ts) (below r ts) (same_below r ts) (λ y. f s y) (λ y. max h y.1) k
    none_is b (far q f) c s h i ts k = kept (fr q ts) (λ y. f s y) h k
    none_is b (fork c d f p q j) e s h i ts k = forked g.kind c d (λ t u. (f s t u, h)) (λ y ts. read g n fr hh hb p y ts) (fr q ts >>= λ y. Found (j s y.0, h) y.1) k (λ t u ts. flat g (nat_le 1 n) fr here below p (f s t u) ts k None) _
        (λ t u ts. none_is b p e (f s t u) h i ts k) (kept (fr q ts) (λ y. j s y) h k) ts
    none_is b (p ⨾ q) c s h i ts k = let e = and_true (calm g b p) (calm g false q) (and_true (not (nul g p)) (calm g b p && calm g false q) c).1 in
        in_turn (read g n fr hh hb p (s, h) ts) (λ y. read g n fr hh hb q y.0 y.1) k (λ y. flat g (nat_le 1 n) fr here below q y.0 y.1 k None) (λ a h rest. none_is false q e.1 a h (λ x. absurd (cc)) rest k)
        ∙ none_is b p e.0 s h i ts (λ y. flat g (nat_le 1 n) fr here below q y.0 y.1 k None)
    none_is b (p ∣ q) c s h i ts k = let e = and_true (not (nul g p)) (calm g b p && calm g b q) c in let d = and_true (calm g b p) (calm g b q) e.1 in
        of_two (head_is (λ t. has (g.kind t) (first g p s)) ts) (read g n fr hh hb p (s, h) ts) (read g n fr hh hb q (s, h) ts) k
        ∙ ap (λ v. cond (head_is (λ t. has (g.kind t) (first g p s)) ts) (plain (read g n fr hh hb p (s, h) ts) >>= k) v) (none_is b q d.1 s h i ts k)
        ∙ some_is b p d.0 (not_true (nul g p) e.0) s h i ts k (flat g (nat_le 1 n) fr here below q s ts k None)
    none_is b (many p) c s h i ts k = ap (λ v. v >>= k) (loop_plain (λ s t. has (g.kind t) (first g p s)) (λ y. read g n fr hh hb p y.0 y.1) (λ y. flat g (nat_le 1 n) fr here below p y.0 y.1 found None)
        (λ a h ts. sym (found_is (plain (read g n fr hh hb p (a, h) ts))) ∙ none_is false p c a h (λ x. absurd (cc)) ts found) (length ts) s h ts)
    none_is b (when t p) c s h i ts k = when_none (t s) (read g n fr hh hb p (s, h) ts) (flat g (nat_le 1 n) fr here below p s ts k None) k ts (none_is b p (and_true (calm g b p) (not (nul g p)) c).0 s h i ts k)
    none_is b (seen v p) c s h i ts k = seen_none (v s) (λ x ts. read g n fr hh hb p (x, h) ts) (λ x. flat g (nat_le 1 n) fr here below p x ts k None) k ts (λ x. none_is b p (and_true (calm g b p) (not (nul g p)) c).0 x h i ts k)
    none_is b (room p) c s h i ts k = let e = and_true b (calm g b p && not (nul g p)) c in let d = and_true (calm g b p) (not (nul g p)) e.1 in
        ap (λ m. plain (cond (fits n m) (read g n fr hh hb p (s, h) ts) (deep_at (λ t. has (g.kind t) (first g p s)) ts)) >>= k) (i e.0)
        ∙ room_none (nat_le 1 n) (λ t. has (g.kind t) (first g p s)) (read g n fr hh hb p (s, h) ts) (flat g (nat_le 1 n) fr here below p s ts k None) k ts (none_is b p d.0 s h i ts k)
    none_is b (join r f) c s h i ts k = absurd (cc)
    none_is b (lift lf p) c s h i ts k = absurd (cc)
    none_is b (until t tk f j e p) c s h i ts k = absurd (cc)

    some_is : {S A : g.Sort} {C : Type 0} (b : Bool) (p : In g S A) → calm g b p ≡ true → nul g p ≡ false → (s : g.El S) (h : ℕ) → (b ≡ true → h ≡ 0) → (ts : List g.Tok) (k : g.El A × List g.Tok → Read g.Tok C) (z : Read g.Tok C)
        → cond (starts_with g.kind (first g p s) ts) (plain (read g n fr hh hb p (s, h) ts) >>= k) z ≡ flat g (nat_le 1 n) fr here below p s ts k (Some z)
    some_is b (token F f) c u s h i ts k z = one_some g.kind F (λ t. f s t) h k z ts
    some_is b (give f) c u s h i ts k z = absurd (cc)
    some_is b (node f) c u s h i ts k z = absurd (cc)
    some_is b (line r f) c u s h i ts k z = ap (λ v. cond (starts_with g.kind (g.begins r) ts) v z) (line_on (hh r ts) (here r ts) (same_here r ts) (λ y. f s y) (λ y. max h y.1) k)
    some_is b (inner r f) c u s h i ts k z = ap (λ v. cond (starts_with g.kind (g.begins r) ts) v z) (line_on (hb r ts) (below r ts) (same_below r ts) (λ y. f s y) (λ y. max h y.1) k)
    some_is b (far q f) c u s h i ts k z = ap (λ v. cond (starts_with g.kind (g.far_begins q) ts) v z) (kept (fr q ts) (λ y. f s y) h k)
    some_is b (fork t d f p q j) c u s h i ts k z = ap (λ v. cond (starts_with g.kind (first g (fork t d f p q j) s) ts) v z) (forked g.kind t d (λ t u. (f s t u, h)) (λ y ts. read g n fr hh hb p y ts) (fr q ts >>= λ y. Found (j s y.0, h) y.1) k (λ t u ts. flat g (nat_le 1 n) fr here below p (f s t u) ts k None) _
        (λ t u ts. none_is b p c (f s t u) h i ts k) (kept (fr q ts) (λ y. j s y) h k) ts)
    some_is b (p ⨾ q) c u s h i ts k z = let d = and_true (not (nul g p)) (calm g b p && calm g false q) c in let e = and_true (calm g b p) (calm g false q) d.1 in
        ap (λ v. cond (starts_with g.kind (first g p s) ts) v z) (in_turn (read g n fr hh hb p (s, h) ts) (λ y. read g n fr hh hb q y.0 y.1) k (λ y. flat g (nat_le 1 n) fr here below q y.0 y.1 k None) (λ a h rest. none_is false q e.1 a h (λ x. absurd (cc)) rest k))
        ∙ some_is b p e.0 (not_true (nul g p) d.0) s h i ts (λ y. flat g (nat_le 1 n) fr here below q y.0 y.1 k None) z
    some_is b (p ∣ q) c u s h i ts k z = let e = and_true (not (nul g p)) (calm g b p && calm g b q) c in let d = and_true (calm g b p) (calm g b q) e.1 in
        ap (λ v. cond (starts_with g.kind (first g p s ++ first g q s) ts) v z) (of_two (head_is (λ t. has (g.kind t) (first g p s)) ts) (read g n fr hh hb p (s, h) ts) (read g n fr hh hb q (s, h) ts) k)
        ∙ of_three g.kind (first g p s) (first g q s) ts (plain (read g n fr hh hb p (s, h) ts) >>= k) (plain (read g n fr hh hb q (s, h) ts) >>= k) z
        ∙ ap (λ v. cond (starts_with g.kind (first g p s) ts) (plain (read g n fr hh hb p (s, h) ts) >>= k) v) (some_is b q d.1 u s h i ts k z)
        ∙ some_is b p d.0 (not_true (nul g p) e.0) s h i ts k (flat g (nat_le 1 n) fr here below q s ts k (Some z))
    some_is b (many p) c u s h i ts k z = absurd (cc)
    some_is b (when t p) c u s h i ts k z = let e = and_true (calm g b p) (not (nul g p)) c in
        when_some g.kind (t s) (first g p s) (read g n fr hh hb p (s, h) ts) (flat g (nat_le 1 n) fr here below p s ts k (Some z)) z k ts (some_is b p e.0 (not_true (nul g p) e.1) s h i ts k z)
    some_is b (seen v p) c u s h i ts k z = let e = and_true (calm g b p) (not (nul g p)) c in
        seen_some g.kind (v s) (λ x. first g p x) (λ x ts. read g n fr hh hb p (x, h) ts) (λ x. flat g (nat_le 1 n) fr here below p x ts k (Some z)) z k ts (λ x. some_is b p e.0 (not_true (nul g p) e.1) x h i ts k z)
    some_is b (room p) c u s h i ts k z = let e = and_true b (calm g b p && not (nul g p)) c in let d = and_true (calm g b p) (not (nul g p)) e.1 in
        ap (λ m. cond (starts_with g.kind (first g p s) ts) (plain (cond (fits n m) (read g n fr hh hb p (s, h) ts) (deep_at (λ t. has (g.kind t) (first g p s)) ts)) >>= k) z) (i e.0)
        ∙ room_some g.kind (nat_le 1 n) (first g p s) (read g n fr hh hb p (s, h) ts) (flat g (nat_le 1 n) fr here below p s ts k None) z k ts (none_is b p d.0 s h i ts k)
    some_is b (join r f) c u s h i ts k z = absurd (cc)
    some_is b (lift lf p) c u s h i ts k z = absurd (cc)
    some_is b (until t tk f j e p) c u s h i ts k z = absurd (cc)

-- THE LINE
pub line_flat : (g : Grammar) → IsGood g → (fr : FarReaders g) (n : ℕ) (r : g.Name) → calm g true (g.body r) ≡ true → (ts : List g.Tok)
    → plain (readers g fr (suc n) r ts) ≡ flat g (nat_le 1 n) fr (λ r ts. plain (readers g fr (suc n) r ts)) (λ r ts. plain (readers g fr n r ts)) (g.body r) g.empty ts found None
line_flat g ok fr n r c ts = ap plain (reader_line g ok fr n r ts) ∙ sym (found_is (plain (read g n fr (readers g fr (suc n)) (readers g fr n) (g.body r) (g.empty, 0) ts)))
    ∙ none_is g n fr (readers g fr (suc n)) (readers g fr n) (λ r ts. plain (readers g fr (suc n) r ts)) (λ r ts. plain (readers g fr n r ts)) (λ r ts. refl) (λ r ts. refl) true (g.body r) c g.empty 0 (λ _. refl) ts found

-- a step of a loop: where its first token stands, the part and what is behind it; else z
pub again_flat : (g : Grammar) (fr : FarReaders g) (n : ℕ) {S A : g.Sort} {C : Type 0} (p : In g S A) → calm g false p ≡ true → nul g p ≡ false → (s : g.El S) (ts : List g.Tok) (k : g.El A × List g.Tok → Read g.Tok C) (z : Read g.Tok C)
    → cond (starts_with g.kind (first g p s) ts) (flat g (nat_le 1 n) fr (λ r ts. plain (readers g fr (suc n) r ts)) (λ r ts. plain (readers g fr n r ts)) p s ts found None >>= k) z
    ≡ flat g (nat_le 1 n) fr (λ r ts. plain (readers g fr (suc n) r ts)) (λ r ts. plain (readers g fr n r ts)) p s ts k (Some z)
again_flat g fr n {S} {A} {C} p c u s ts k z =
    ap (λ v. cond (starts_with g.kind (first g p s) ts) (v >>= k) z) (sym (none_is g n fr (readers g fr (suc n)) (readers g fr n) (λ r ts. plain (readers g fr (suc n) r ts)) (λ r ts. plain (readers g fr n r ts)) (λ r ts. refl) (λ r ts. refl) false p c s 0 (λ _. refl) ts found)
    ∙ found_is (plain (read g n fr (readers g fr (suc n)) (readers g fr n) p (s, 0) ts)))
    ∙ some_is g n fr (readers g fr (suc n)) (readers g fr n) (λ r ts. plain (readers g fr (suc n) r ts)) (λ r ts. plain (readers g fr n r ts)) (λ r ts. refl) (λ r ts. refl) false p c u s 0 (λ _. refl) ts k z

-- ONE OF SEVERAL TOKENS is a look-up
pub one_of_flat : (g : Grammar) (left : Bool) (fr : FarReaders g) (here below : Lines g) {S A : g.Sort} {V C : Type 0} (f : g.El S → g.Tok → V → g.El A) (x : ℕ × V) (xs : List (ℕ × V)) (s : g.El S) (ts : List g.Tok) (k : g.El A × List g.Tok → Read g.Tok C) (z : Read g.Tok C)
    → flat g left fr here below (one_of f x xs) s ts k (Some z) ≡ pick (first_meant g.kind (x ∷ xs) ts) (λ o. k (f s o.0.0 o.0.1, o.1)) z
one_of_flat g left fr here below f x [] s [] k z = refl
one_of_flat g left fr here below {V = V} {C = C} f x [] s (t ∷ ts) k z = go (g.kind t == x.0)
  where
    go : (b : Bool) → pick {X = g.Tok × List g.Tok} (first_if (b || false) (t, ts)) (λ o. k (f s o.0 x.1, o.1)) z ≡ pick (with_meaning t ts (cond b (Some x.1) None)) (λ o. k (f s o.0.0 o.0.1, o.1)) z
    go true = refl
    go false = refl
one_of_flat g left fr here below f x (y ∷ ys) s [] k z = one_of_flat g left fr here below f y ys s [] k z
one_of_flat g left fr here below {V = V} {C = C} f x (y ∷ ys) s (t ∷ ts) k z = go (g.kind t == x.0) (one_of_flat g left fr here below f y ys s (t ∷ ts) k z)
  where
    go : (b : Bool) → flat g left fr here below (one_of f y ys) s (t ∷ ts) k (Some z) ≡ pick (first_meant g.kind (y ∷ ys) (t ∷ ts)) (λ o. k (f s o.0.0 o.0.1, o.1)) z
        → pick {X = g.Tok × List g.Tok} (first_if (b || false) (t, ts)) (λ o. k (f s o.0 x.1, o.1)) (flat g left fr here below (one_of f y ys) s (t ∷ ts) k (Some z)) ≡ pick (with_meaning t ts (cond b (Some x.1) (lookup_key (y ∷ ys) (g.kind t)))) (λ o. k (f s o.0.0 o.0.1, o.1)) z
    go true e = refl
    go false e = e
