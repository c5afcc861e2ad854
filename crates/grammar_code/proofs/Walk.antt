-- A part is read as code goes along it.
use Rattle.std.proofs.Common.{◌≡◌, ℕ, zero, suc, ◌+◌, ◌-◌, ◌<◌, ◌≤◌, max, nat_le, ◌==◌, ◌||◌, ◌&&◌, Bool, true, false, cond, Option, Some, None, List, [], ◌∷◌, ◌++◌, length, refl, sym, ap, ◌∙◌, subst, arith}
use Rattle.parsing.specs.Reading.{Read, Found, Bad, Deep, ◌>>=◌, head_is, one_at, many_at, deep_at, guard_at, loop_at, pass_at, both_are, seen_at, seen_or, is_some, has}
use Rattle.parsing.proofs.Loops.{Takes, many_step, bind_assoc}
use Rattle.parsing.proofs.Chain.{bind_found}
use Rattle.grammar.specs.Table.{one_of, lookup_key, token, give, node, line, inner, join, far, fork, ◌⨾◌, ◌∣◌, many, when, room, lift, seen, until, taken, Grammar, In}
use Rattle.grammar.specs.Levels.{Readers, FarReaders, fits, takes, shown, first, read, readers, IsGood}
use Rattle.grammar.proofs.Along.{reader_line}
use Rattle.grammar_code.specs.Walk.{first_if, first_of, with_meaning, first_meant, pick, wanted, Up, ground, up, tall, above, starts_with, enter_if_level, round, pursue, walk, behind_height, whole}

above_is : (u : Up) (k : ℕ) → up (max (tall u) k) ≡ above u k
above_is ground k = ap up (none k)
  where
    none : (k : ℕ) → max 0 k ≡ k
    none k = omega arith
above_is (up h) k = refl

-- what stands behind a part asks of the height only how high it is
abbrev pub Respects : {T A B : Type 0} → ((A × Up) × List T → Read T B) → Type 0
Respects {T} {A} k = (a : A) (u : Up) (ts : List T) → k ((a, up (tall u)), ts) ≡ k ((a, u), ts)

pub bind_eq : {T A B : Type 0} (r : Read T A) (f g : A × List T → Read T B) → ((a : A) (rest : List T) → f (a, rest) ≡ g (a, rest)) → (r >>= f) ≡ (r >>= g)
bind_eq (Found a rest) f g e = e a rest
bind_eq (Bad rest) f g e = refl
bind_eq (Deep rest) f g e = refl

pub bind_found_same : {T A : Type 0} (r : Read T A) → (r >>= λ y. Found y.0 y.1) ≡ r
bind_found_same (Found a rest) = refl
bind_found_same (Bad rest) = refl
bind_found_same (Deep rest) = refl

pub deep_bind : {T A B : Type 0} (c : T → Bool) (f : A × List T → Read T B) (ts : List T) → (deep_at c ts >>= f) ≡ deep_at c ts
deep_bind c f [] = refl
deep_bind c f (t ∷ ts) = go (c t)
  where
    go : (b : Bool) → (cond b (Deep (t ∷ ts)) (Bad (t ∷ ts)) >>= f) ≡ cond b (Deep (t ∷ ts)) (Bad (t ∷ ts))
    go true = refl
    go false = refl

pub push : {T A B : Type 0} (b : Bool) (x y : Read T A) (k : A × List T → Read T B) → (cond b x y >>= k) ≡ cond b (x >>= k) (y >>= k)
push true x y k = refl
push false x y k = refl

push_seen : {T A B D : Type 0} (o : Option D) (f : D → Read T A) (z : Read T A) (k : A × List T → Read T B) → (seen_or z f o >>= k) ≡ seen_or (z >>= k) (λ d. f d >>= k) o
push_seen None f z k = refl
push_seen (Some d) f z k = refl

has_append : (k : ℕ) (F G : List ℕ) → has k (F ++ G) ≡ (has k F || has k G)
has_append k [] G = refl
has_append k (x ∷ F) G = ap (λ v. (k == x) || v) (has_append k F G) ∙ or_assoc (k == x) (has k F) (has k G)
  where
    or_assoc : (a b c : Bool) → (a || (b || c)) ≡ ((a || b) || c)
    or_assoc true b c = refl
    or_assoc false b c = refl

starts_append : {T : Type 0} (kind : T → ℕ) (F G : List ℕ) (ts : List T) → starts_with kind (F ++ G) ts ≡ (starts_with kind F ts || starts_with kind G ts)
starts_append kind F G [] = refl
starts_append kind F G (t ∷ ts) = has_append (kind t) F G

starts_none : {T : Type 0} (kind : T → ℕ) (ts : List T) → starts_with kind [] ts ≡ false
starts_none kind [] = refl
starts_none kind (t ∷ ts) = refl

-- what is too deep is so only where it begins
deep_is : {T A : Type 0} (kind : T → ℕ) (F : List ℕ) (ts : List T) (z : Read T A) → cond (starts_with kind F ts) (deep_at (λ t. has (kind t) F) ts) z ≡ cond (starts_with kind F ts) (Deep ts) z
deep_is kind F [] z = refl
deep_is {A = A} kind F (t ∷ ts) z = go (has (kind t) F)
  where
    go : (b : Bool) → cond {A = Read _ A} b (cond b (Deep (t ∷ ts)) (Bad (t ∷ ts))) z ≡ cond b (Deep (t ∷ ts)) z
    go true = refl
    go false = refl

split : {R : Type 0} (s t b : Bool) (x y d z : R) → cond (s || t) (cond b (cond s x y) d) z ≡ cond s (cond b x d) (cond t (cond b y d) z)
split true t true x y d z = refl
split true t false x y d z = refl
split false true b x y d z = refl
split false false b x y d z = refl

on_ups : (P : Up → Type 0) → P ground → ((h : ℕ) → P (up h)) → (u : Up) → P u
on_ups P p q ground = p
on_ups P p q (up h) = q h

pub pick_eq : {X Y : Type 0} (o : Option X) (f g : X → Y) (z : Y) → ((x : X) → f x ≡ g x) → pick o f z ≡ pick o g z
pick_eq (Some x) f g z e = e x
pick_eq None f g z e = refl

seen_eq : {X Y : Type 0} (o : Option X) (f g : X → Y) (z : Y) → ((x : X) → f x ≡ g x) → seen_or z f o ≡ seen_or z g o
seen_eq (Some x) f g z e = e x
seen_eq None f g z e = refl

pub cond_eq : {Y : Type 0} (b : Bool) (x y z : Y) → x ≡ y → cond b x z ≡ cond b y z
cond_eq true x y z e = e
cond_eq false x y z e = refl

entered_eq : {R : Type 0} (s b : Bool) (d x y : R) (z : Option R) → x ≡ y → enter_if_level s b d x z ≡ enter_if_level s b d y z
entered_eq s b d x y None e = e
entered_eq s b d x y (Some z) e = ap (λ v. cond s (cond b v d) z) e

module _ (g : Grammar) (n : ℕ) (fr : FarReaders g) (here below : Readers g) where
  -- nothing read is as nothing high
  same_ground : (b : Bool) {S A B : g.Sort} (p : In g S A) (s : g.El S) (ts : List g.Tok) (k : (g.El A × Up) × List g.Tok → Read g.Tok (g.El B × ℕ)) (z : Option (Read g.Tok (g.El B × ℕ)))
      → Respects k → walk g n fr here below b p (s, up 0) ts k z ≡ walk g n fr here below b p (s, ground) ts k z
  same_ground b (token F f) s ts k None r = bind_eq (wanted g.kind F ts) _ _ (λ o rest. r (f s o) ground rest)
  same_ground b (token F f) s ts k (Some z) r = pick_eq (first_of g.kind F ts) _ _ z (λ o. cond_eq b _ _ (Deep ts) (r (f s o.0) ground o.1))
  same_ground b (give f) s ts k None r = r (f s) ground ts
  same_ground b (give f) s ts k (Some z) r = refl
  same_ground b (node f) s ts k z r = refl
  same_ground b (line q f) s ts k z r = entered_eq (starts_with g.kind (g.begins q) ts) b (Deep ts) _ _ z (bind_eq (here q ts) _ _ (λ a rest. ap (λ u. k ((f s a.0, u), rest)) (above_is ground a.1)))
  same_ground b (inner q f) s ts k z r = entered_eq (starts_with g.kind (g.begins q) ts) b (Deep ts) _ _ z (bind_eq (below q ts) _ _ (λ a rest. ap (λ u. k ((f s a.0, u), rest)) (above_is ground a.1)))
  same_ground b (join q f) s ts k z r = refl
  same_ground b (far q f) s ts k z r = entered_eq (starts_with g.kind (g.far_begins q) ts) b (Deep ts) _ _ z (bind_eq (fr q ts) _ _ (λ a rest. r (f s a) ground rest))
  same_ground b (fork c d f p q j) s ts k z r = refl
  same_ground b (p ⨾ q) s ts k z r = same_ground b p s ts (λ y. walk g n fr here below true q y.0 y.1 k None) z
      (λ a u rest. on_ups (λ u. walk g n fr here below true q (a, up (tall u)) rest k None ≡ walk g n fr here below true q (a, u) rest k None) (same_ground true q a rest k None r) (λ h. refl) u)
  same_ground b (p ∣ q) s ts k z r = ap (λ v. walk g n fr here below b p (s, up 0) ts k (Some v)) (same_ground b q s ts k z r) ∙ same_ground b p s ts k (Some (walk g n fr here below b q (s, ground) ts k z)) r
  same_ground b (many p) s ts k z r = refl
  same_ground b (when c p) s ts k None r = cond_eq (c s) _ _ (Bad ts) (same_ground true p s ts k None r)
  same_ground b (when c p) s ts k (Some z) r = cond_eq (c s) _ _ z (same_ground b p s ts k (Some z) r)
  same_ground b (room p) s ts k None r = cond_eq (fits n 0) _ _ (deep_at (λ t. has (g.kind t) (first g p s)) ts) (same_ground true p s ts k None r)
  same_ground b (room p) s ts k (Some z) r = same_ground (cond b (fits n 0) false) p s ts k (Some z) r
  same_ground b (lift lf p) s ts k None r = refl
  same_ground b (lift lf p) s ts k (Some z) r = refl
  same_ground b (seen v p) s ts k None r = seen_eq (v s) _ _ (Bad ts) (λ y. same_ground true p y ts k None r)
  same_ground b (seen v p) s ts k (Some z) r = seen_eq (v s) _ _ z (λ y. same_ground b p y ts k (Some z) r)
  same_ground b (until c tk f i e p) s ts k z r = refl

  behind : {S A B : g.Sort} (q : In g S A) (k : (g.El A × Up) × List g.Tok → Read g.Tok (g.El B × ℕ)) → Respects k → Respects (λ y. walk g n fr here below true q y.0 y.1 k None)
  behind q k r a ground ts = same_ground true q a ts k None r
  behind q k r a (up h) ts = refl

  passing : (b : Bool) {S A B : g.Sort} (c : g.El S → Bool) (p : In g S A) (x : g.El S × Up) (ts : List g.Tok) (k : (g.El A × Up) × List g.Tok → Read g.Tok (g.El B × ℕ)) (z : Read g.Tok (g.El B × ℕ))
      → cond (starts_with g.kind (first g p x.0) ts) (cond b (read g n fr here below p (x.0, tall x.1) ts >>= behind_height k) (Deep ts)) z ≡ walk g n fr here below b p x ts k (Some z)
      → (v : Bool) → cond (starts_with g.kind (cond v (first g p x.0) []) ts) (cond b (cond v (read g n fr here below p (x.0, tall x.1) ts) (Bad ts) >>= behind_height k) (Deep ts)) z ≡ cond v (walk g n fr here below b p x ts k (Some z)) z
  passing b c p x ts k z h true = h
  passing b c p x ts k z h false = ap (λ v. cond v (cond b (Bad ts) (Deep ts)) z) (starts_none g.kind ts)

  seeing : {S A B C : g.Sort} (v : g.El S → Option (g.El C)) (p : In g C A) (x : g.El S × Up) (ts : List g.Tok) (k : (g.El A × Up) × List g.Tok → Read g.Tok (g.El B × ℕ))
      → ((y : g.El C) → (read g n fr here below p (y, tall x.1) ts >>= behind_height k) ≡ walk g n fr here below true p (y, x.1) ts k None)
      → (o : Option (g.El C)) → (seen_at o (λ y. read g n fr here below p (y, tall x.1)) ts >>= behind_height k) ≡ seen_or (Bad ts) (λ y. walk g n fr here below true p (y, x.1) ts k None) o
  seeing v p x ts k h None = refl
  seeing v p x ts k h (Some y) = h y

  seen_begun : (b : Bool) {S A B C : g.Sort} (v : g.El S → Option (g.El C)) (p : In g C A) (x : g.El S × Up) (ts : List g.Tok) (k : (g.El A × Up) × List g.Tok → Read g.Tok (g.El B × ℕ)) (z : Read g.Tok (g.El B × ℕ))
      → ((y : g.El C) → cond (starts_with g.kind (first g p y) ts) (cond b (read g n fr here below p (y, tall x.1) ts >>= behind_height k) (Deep ts)) z ≡ walk g n fr here below b p (y, x.1) ts k (Some z))
      → (o : Option (g.El C)) → cond (starts_with g.kind (seen_or [] (λ y. first g p y) o) ts) (cond b (seen_at o (λ y. read g n fr here below p (y, tall x.1)) ts >>= behind_height k) (Deep ts)) z ≡ seen_or z (λ y. walk g n fr here below b p (y, x.1) ts k (Some z)) o
  seen_begun b v p x ts k z h None = ap (λ v. cond v (cond b (Bad ts) (Deep ts)) z) (starts_none g.kind ts)
  seen_begun b v p x ts k z h (Some y) = h y

  guarding : (b c : Bool) {S A B : g.Sort} (p : In g S A) (x : g.El S × ℕ) (ts : List g.Tok) (k : (g.El A × ℕ) × List g.Tok → Read g.Tok (g.El B × ℕ)) (z : Read g.Tok (g.El B × ℕ))
      → cond (starts_with g.kind (first g p x.0) ts) (cond b (guard_at c (λ t. has (g.kind t) (first g p x.0)) (read g n fr here below p x) ts >>= k) (Deep ts)) z
      ≡ cond (starts_with g.kind (first g p x.0) ts) (cond (cond b c false) (read g n fr here below p x ts >>= k) (Deep ts)) z
  guarding true true p x ts k z = refl
  guarding true false p x ts k z = ap (λ v. cond (starts_with g.kind (first g p x.0) ts) v z) (deep_bind (λ t. has (g.kind t) (first g p x.0)) k ts) ∙ deep_is g.kind (first g p x.0) ts z
  guarding false c p x ts k z = refl

  by_line : {S A B C : g.Sort} (t : Read g.Tok (g.El C × ℕ)) (f : g.El S → g.El C → g.El A) (x : g.El S × Up) (k : (g.El A × Up) × List g.Tok → Read g.Tok (g.El B × ℕ))
      → ((t >>= λ y. Found (f x.0 y.0.0, max (tall x.1) y.0.1) y.1) >>= behind_height k) ≡ (t >>= λ y. k ((f x.0 y.0.0, above x.1 y.0.1), y.1))
  by_line t f x k = bind_assoc t _ _ ∙ bind_eq t _ _ (λ a rest. ap (λ u. k ((f x.0 a.0, u), rest)) (above_is x.1 a.1))

  by_far : {S A B C : g.Sort} (t : Read g.Tok (g.El C)) (f : g.El S → g.El C → g.El A) (x : g.El S × Up) (k : (g.El A × Up) × List g.Tok → Read g.Tok (g.El B × ℕ)) → Respects k
      → ((t >>= λ y. Found (f x.0 y.0, tall x.1) y.1) >>= behind_height k) ≡ (t >>= λ y. k ((f x.0 y.0, x.1), y.1))
  by_far t f x k r = bind_assoc t _ _ ∙ bind_eq t _ _ (λ a rest. r (f x.0 a) x.1 rest)

  mutual
    unfolding round pursue

    last : {S A B : g.Sort} (p : In g S A) (x : g.El S × Up) (ts : List g.Tok) (k : (g.El A × Up) × List g.Tok → Read g.Tok (g.El B × ℕ)) → Respects k → (read g n fr here below p (x.0, tall x.1) ts >>= behind_height k) ≡ walk g n fr here below true p x ts k None
    last (token F f) x [] k r = refl
    last (token F f) x (t ∷ ts) k r = go (has (g.kind t) F)
      where
        go : (b : Bool) → (cond b (Found (f x.0 t, tall x.1) ts) (Bad (t ∷ ts)) >>= behind_height k) ≡ (pick {X = g.Tok × List g.Tok} (first_if b (t, ts)) (λ o. Found o.0 o.1) (Bad (t ∷ ts)) >>= λ o. k ((f x.0 o.0, x.1), o.1))
        go true = r (f x.0 t) x.1 ts
        go false = refl
    last (give f) x ts k r = r (f x.0) x.1 ts
    last (node f) x ts k r = refl
    last (line q f) x ts k r = by_line (here q ts) f x k
    last (inner q f) x ts k r = by_line (below q ts) f x k
    last (join q f) x ts k r = bind_assoc (here q ts) _ _
    last (far q f) x ts k r = by_far (fr q ts) f x k r
    last (fork c d f p q j) x ts k r = refl
    last (p ⨾ q) x ts k r = bind_assoc (read g n fr here below p (x.0, tall x.1) ts) _ _ ∙ bind_eq (read g n fr here below p (x.0, tall x.1) ts) _ _ (λ a rest. last q (a.0, up a.1) rest k r) ∙ last p x ts (λ y. walk g n fr here below true q y.0 y.1 k None) (behind q k r)
    last (p ∣ q) x ts k r = push (starts_with g.kind (first g p x.0) ts) (read g n fr here below p (x.0, tall x.1) ts) (read g n fr here below q (x.0, tall x.1) ts) (behind_height k)
        ∙ ap (λ v. cond (starts_with g.kind (first g p x.0) ts) (read g n fr here below p (x.0, tall x.1) ts >>= behind_height k) v) (last q x ts k r)
        ∙ begun true p x ts k (walk g n fr here below true q x ts k None) r
    last (many p) x ts k r = refl
    last (when c p) x ts k r = push (c x.0) (read g n fr here below p (x.0, tall x.1) ts) (Bad ts) (behind_height k) ∙ ap (λ v. cond (c x.0) v (Bad ts)) (last p x ts k r)
    last (room p) x ts k r = push (fits n (tall x.1)) (read g n fr here below p (x.0, tall x.1) ts) (deep_at (λ t. has (g.kind t) (first g p x.0)) ts) (behind_height k)
        ∙ ap (λ v. cond (fits n (tall x.1)) v (deep_at (λ t. has (g.kind t) (first g p x.0)) ts >>= behind_height k)) (last p x ts k r)
        ∙ ap (λ v. cond (fits n (tall x.1)) (walk g n fr here below true p x ts k None) v) (deep_bind (λ t. has (g.kind t) (first g p x.0)) (behind_height k) ts)
    last (lift lf p) x ts k r = push (nat_le (1 + tall x.1) n) (read g n fr here below p (lf x.0, 1 + tall x.1) ts) (deep_at (λ t. has (g.kind t) (first g p (lf x.0))) ts) (behind_height k)
        ∙ ap (λ v. cond (nat_le (1 + tall x.1) n) v (deep_at (λ t. has (g.kind t) (first g p (lf x.0))) ts >>= behind_height k)) (last p (lf x.0, up (1 + tall x.1)) ts k r)
        ∙ ap (λ v. cond (nat_le (1 + tall x.1) n) (walk g n fr here below true p (lf x.0, up (1 + tall x.1)) ts k None) v) (deep_bind (λ t. has (g.kind t) (first g p (lf x.0))) (behind_height k) ts)
    last (seen v p) x ts k r = seeing v p x ts k (λ y. last p (y, x.1) ts k r) (v x.0)
    last (until c tk f i e p) x ts k r = refl

    begun : (b : Bool) {S A B : g.Sort} (p : In g S A) (x : g.El S × Up) (ts : List g.Tok) (k : (g.El A × Up) × List g.Tok → Read g.Tok (g.El B × ℕ)) (z : Read g.Tok (g.El B × ℕ)) → Respects k
        → cond (starts_with g.kind (first g p x.0) ts) (cond b (read g n fr here below p (x.0, tall x.1) ts >>= behind_height k) (Deep ts)) z ≡ walk g n fr here below b p x ts k (Some z)
    begun b (token F f) x [] k z r = refl
    begun b (token F f) x (t ∷ ts) k z r = go (has (g.kind t) F)
      where
        go : (c : Bool) → cond c (cond b (cond c (Found (f x.0 t, tall x.1) ts) (Bad (t ∷ ts)) >>= behind_height k) (Deep (t ∷ ts))) z ≡ pick {X = g.Tok × List g.Tok} (first_if c (t, ts)) (λ o. cond b (k ((f x.0 o.0, x.1), o.1)) (Deep (t ∷ ts))) z
        go true = cond_eq b _ _ (Deep (t ∷ ts)) (r (f x.0 t) x.1 ts)
        go false = refl
    begun b (give f) x ts k z r = ap (λ v. cond v (cond b (k ((f x.0, up (tall x.1)), ts)) (Deep ts)) z) (starts_none g.kind ts)
    begun b (node f) x ts k z r = ap (λ v. cond v (cond b (k ((f x.0, up (1 + tall x.1)), ts)) (Deep ts)) z) (starts_none g.kind ts)
    begun b (line q f) x ts k z r = ap (λ v. cond (starts_with g.kind (g.begins q) ts) (cond b v (Deep ts)) z) (by_line (here q ts) f x k)
    begun b (inner q f) x ts k z r = ap (λ v. cond (starts_with g.kind (g.begins q) ts) (cond b v (Deep ts)) z) (by_line (below q ts) f x k)
    begun b (join q f) x ts k z r = ap (λ v. cond (starts_with g.kind (g.begins q) ts) (cond b v (Deep ts)) z) (bind_assoc (here q ts) _ _)
    begun b (far q f) x ts k z r = ap (λ v. cond (starts_with g.kind (g.far_begins q) ts) (cond b v (Deep ts)) z) (by_far (fr q ts) f x k r)
    begun b (fork c d f p q j) x ts k z r = refl
    begun b (p ⨾ q) x ts k z r = ap (λ v. cond (starts_with g.kind (first g p x.0) ts) (cond b v (Deep ts)) z) (bind_assoc (read g n fr here below p (x.0, tall x.1) ts) _ _ ∙ bind_eq (read g n fr here below p (x.0, tall x.1) ts) _ _ (λ a rest. last q (a.0, up a.1) rest k r))
        ∙ begun b p x ts (λ y. walk g n fr here below true q y.0 y.1 k None) z (behind q k r)
    begun b (p ∣ q) x ts k z r = let s = starts_with g.kind (first g p x.0) ts in let t = starts_with g.kind (first g q x.0) ts in
        ap (λ v. cond v (cond b (cond s (read g n fr here below p (x.0, tall x.1) ts) (read g n fr here below q (x.0, tall x.1) ts) >>= behind_height k) (Deep ts)) z) (starts_append g.kind (first g p x.0) (first g q x.0) ts)
        ∙ ap (λ v. cond (s || t) (cond b v (Deep ts)) z) (push s (read g n fr here below p (x.0, tall x.1) ts) (read g n fr here below q (x.0, tall x.1) ts) (behind_height k))
        ∙ split s t b (read g n fr here below p (x.0, tall x.1) ts >>= behind_height k) (read g n fr here below q (x.0, tall x.1) ts >>= behind_height k) (Deep ts) z
        ∙ ap (λ v. cond s (cond b (read g n fr here below p (x.0, tall x.1) ts >>= behind_height k) (Deep ts)) v) (begun b q x ts k z r)
        ∙ begun b p x ts k (walk g n fr here below b q x ts k (Some z)) r
    begun b (many p) x ts k z r = refl
    begun b (when c p) x ts k z r = passing b c p x ts k z (begun b p x ts k z r) (c x.0)
    begun b (room p) x ts k z r = guarding b (fits n (tall x.1)) p (x.0, tall x.1) ts (behind_height k) z ∙ begun (cond b (fits n (tall x.1)) false) p x ts k z r
    begun b (lift lf p) x ts k z r = guarding b (nat_le (1 + tall x.1) n) p (lf x.0, 1 + tall x.1) ts (behind_height k) z ∙ begun (cond b (nat_le (1 + tall x.1) n) false) p (lf x.0, up (1 + tall x.1)) ts k z r
    begun b (seen v p) x ts k z r = seen_begun b v p x ts k z (λ y. begun b p (y, x.1) ts k z r) (v x.0)
    begun b (until c tk f i e p) x ts k z r = refl

  -- WHAT A PART READS, and what is read behind it
  pub walked : {S A : g.Sort} (p : In g S A) (x : g.El S × Up) (ts : List g.Tok) → read g n fr here below p (x.0, tall x.1) ts ≡ walk g n fr here below true p x ts whole None
  walked p x ts = sym (bind_found_same (read g n fr here below p (x.0, tall x.1) ts)) ∙ last p x ts whole (λ a u rest. refl)

  pub walked_on : {S A B : g.Sort} (p : In g S A) (x : g.El S × Up) (ts : List g.Tok) (k : (g.El A × ℕ) × List g.Tok → Read g.Tok (g.El B × ℕ)) → (read g n fr here below p (x.0, tall x.1) ts >>= k) ≡ walk g n fr here below true p x ts (λ y. k ((y.0.0, tall y.0.1), y.1)) None
  walked_on p x ts k = last p x ts (λ y. k ((y.0.0, tall y.0.1), y.1)) (λ a u rest. refl)

-- one of several tokens is a look-up
module _ (g : Grammar) (n : ℕ) (fr : FarReaders g) (here below : Readers g) (b : Bool) {S A B : g.Sort} {V : Type 0} (f : g.El S → g.Tok → V → g.El A) where
  pub walk_one_of : (x : ℕ × V) (xs : List (ℕ × V)) (y : g.El S × Up) (ts : List g.Tok) (k : (g.El A × Up) × List g.Tok → Read g.Tok (g.El B × ℕ)) (z : Read g.Tok (g.El B × ℕ))
      → walk g n fr here below b (one_of f x xs) y ts k (Some z) ≡ pick (first_meant g.kind (x ∷ xs) ts) (λ o. cond b (k ((f y.0 o.0.0 o.0.1, y.1), o.1)) (Deep ts)) z
  walk_one_of x [] y [] k z = refl
  walk_one_of x [] y (t ∷ ts) k z = go (g.kind t == x.0)
    where
      go : (v : Bool) → pick {X = g.Tok × List g.Tok} (first_if (v || false) (t, ts)) (λ o. cond b (k ((f y.0 o.0 x.1, y.1), o.1)) (Deep (t ∷ ts))) z
          ≡ pick (with_meaning t ts (cond v (Some x.1) None)) (λ o. cond b (k ((f y.0 o.0.0 o.0.1, y.1), o.1)) (Deep (t ∷ ts))) z
      go true = refl
      go false = refl
  walk_one_of x (w ∷ ws) y [] k z = walk_one_of w ws y [] k z
  walk_one_of x (w ∷ ws) y (t ∷ ts) k z = go (g.kind t == x.0) (walk g n fr here below b (one_of f w ws) y (t ∷ ts) k (Some z)) (walk_one_of w ws y (t ∷ ts) k z)
    where
      go : (v : Bool) (r : Read g.Tok (g.El B × ℕ)) → r ≡ pick (with_meaning t ts (lookup_key (w ∷ ws) (g.kind t))) (λ o. cond b (k ((f y.0 o.0.0 o.0.1, y.1), o.1)) (Deep (t ∷ ts))) z
          → pick {X = g.Tok × List g.Tok} (first_if (v || false) (t, ts)) (λ o. cond b (k ((f y.0 o.0 x.1, y.1), o.1)) (Deep (t ∷ ts))) r
          ≡ pick (with_meaning t ts (cond v (Some x.1) (lookup_key (w ∷ ws) (g.kind t)))) (λ o. cond b (k ((f y.0 o.0.0 o.0.1, y.1), o.1)) (Deep (t ∷ ts))) z
      go true r e = refl
      go false r e = e

-- a token that code looks for first
pub pick_begins : {T R : Type 0} (kind : T → ℕ) (F : List ℕ) (ts : List T) (b : Bool) (f : T × List T → R) (d y z : R) → pick (first_of kind F ts) (λ o. cond b (f o) d) z ≡ cond (starts_with kind F ts) (cond b (pick (first_of kind F ts) f y) d) z
pick_begins kind F [] b f d y z = refl
pick_begins kind F (t ∷ ts) b f d y z = go (has (kind t) F)
  where
    go : (c : Bool) → pick {X = _ × List _} (first_if c (t, ts)) (λ o. cond b (f o) d) z ≡ cond c (cond b (pick (first_if c (t, ts)) f y) d) z
    go true = refl
    go false = refl

pub pick_wanted : {T A : Type 0} (kind : T → ℕ) (F : List ℕ) (ts : List T) (f : T × List T → Read T A) (z : Read T A) → pick (first_of kind F ts) f z ≡ cond (starts_with kind F ts) (wanted kind F ts >>= f) z
pick_wanted kind F [] f z = refl
pick_wanted kind F (t ∷ ts) f z = go (has (kind t) F)
  where
    go : (c : Bool) → pick {X = _ × List _} (first_if c (t, ts)) f z ≡ cond c (pick {X = _ × List _} (first_if c (t, ts)) (λ o. Found o.0 o.1) (Bad (t ∷ ts)) >>= f) z
    go true = refl
    go false = refl

pub pick_bind : {T A B X : Type 0} (o : Option X) (f : X → Read T A) (z : Read T A) (k : A × List T → Read T B) → (pick o f z >>= k) ≡ pick o (λ x. f x >>= k) (z >>= k)
pick_bind None f z k = refl
pick_bind (Some x) f z k = refl

-- one or the other of two parts, where either begins
either_part : {T A B C : Type 0} (kind : T → ℕ) (F G : List ℕ) (b : Bool) (p : Read T C) (q : Read T A) (f : C → A) (k : A × List T → Read T B) (ts : List T) (z : Read T B)
    → cond (starts_with kind (F ++ G) ts) (cond b (cond (starts_with kind F ts) (p >>= λ y. Found (f y.0) y.1) q) (deep_at (λ t. has (kind t) (F ++ G)) ts) >>= k) z
    ≡ cond (starts_with kind F ts) (cond b (p >>= λ y. k (f y.0, y.1)) (Deep ts)) (cond (starts_with kind G ts) (cond b (q >>= k) (Deep ts)) z)
either_part kind F G true p q f k ts z =
    ap (λ v. cond v (cond (starts_with kind F ts) (p >>= λ y. Found (f y.0) y.1) q >>= k) z) (starts_append kind F G ts)
    ∙ ap (λ v. cond (starts_with kind F ts || starts_with kind G ts) v z) (push (starts_with kind F ts) (p >>= λ y. Found (f y.0) y.1) q k ∙ ap (λ v. cond (starts_with kind F ts) v (q >>= k)) (bind_assoc p _ k))
    ∙ split (starts_with kind F ts) (starts_with kind G ts) true (p >>= λ y. k (f y.0, y.1)) (q >>= k) (Deep ts) z
either_part kind F G false p q f k ts z =
    ap (λ v. cond (starts_with kind (F ++ G) ts) v z) (deep_bind (λ t. has (kind t) (F ++ G)) k ts)
    ∙ deep_is kind (F ++ G) ts z
    ∙ ap (λ v. cond v (Deep ts) z) (starts_append kind F G ts)
    ∙ split (starts_with kind F ts) (starts_with kind G ts) false (Bad ts) (Bad ts) (Deep ts) z

by_start : {T A B : Type 0} (s b : Bool) (p q : Read T A) (k : A × List T → Read T B) (d z : Read T B) → (s ≡ true → q ≡ p) → cond s (cond b (p >>= k) d) z ≡ cond s (cond b (q >>= k) d) z
by_start true b p q k d z h = ap (λ v. cond b (v >>= k) d) (sym (h refl))
by_start false b p q k d z h = refl

deep_under : {T A : Type 0} (kind : T → ℕ) (F : List ℕ) (b : Bool) (x : Read T A) (ts : List T) (z : Read T A) → cond (starts_with kind F ts) (cond b x (deep_at (λ t. has (kind t) F) ts)) z ≡ cond (starts_with kind F ts) (cond b x (Deep ts)) z
deep_under kind F true x ts z = refl
deep_under kind F false x ts z = deep_is kind F ts z

-- LOOPS. Whether a part takes a token, where the lines do
abbrev pub eats : (g : Grammar) {S A : g.Sort} → In g S A → Bool
eats g (token F f) = true
eats g (give f) = false
eats g (node f) = false
eats g (line r f) = true
eats g (inner r f) = true
eats g (join r f) = true
eats g (far q f) = true
eats g (fork c d f p q j) = false
eats g (p ⨾ q) = eats g p
eats g (p ∣ q) = eats g p && eats g q
eats g (many p) = false
eats g (when c p) = eats g p
eats g (room p) = eats g p
eats g (lift lf p) = eats g p
eats g (seen v p) = eats g p
eats g (until c tk f i e p) = false

-- what a reader reads takes a token
abbrev pub Eats : {T A : Type 0} → (List T → Read T A) → Type 0
Eats {T} {A} r = (ts : List T) (a : A) (rest : List T) → r ts ≡ Found a rest → length rest < length ts

abbrev pub Keeps : {T A : Type 0} → (List T → Read T A) → Type 0
Keeps {T} {A} r = (ts : List T) (a : A) (rest : List T) → r ts ≡ Found a rest → length rest ≤ length ts

found_same : {T A : Type 0} (a b : A) (u v : List T) → Found a u ≡ Found b v → u ≡ v
found_same a b u v e = cc

keeps_found : {T A : Type 0} (a b : A) (u v : List T) → Found a u ≡ Found b v → length v ≤ length u
keeps_found a b u v e = let d = ap length (found_same a b u v e) in omega arith

and_both : (a b : Bool) → (a && b) ≡ true → (a ≡ true) × (b ≡ true)
and_both true b e = (refl, e)
and_both false b e = absurd (cc)

weaken : {T A : Type 0} (r : List T → Read T A) → Eats r → Keeps r
weaken r h ts a rest e = let d = h ts a rest e in omega arith

keeps_then : {T A B : Type 0} (r : List T → Read T A) (f : A → List T → Read T B) → Keeps r → ((a : A) → Keeps (f a)) → Keeps (λ ts. r ts >>= λ y. f y.0 y.1)
keeps_then r f h j ts b rest e = let y = bind_found (r ts) (λ y. f y.0 y.1) b rest e in let p = h ts y.0 y.1 y.2 in let q = j y.0 y.1 b rest y.3 in omega arith

eats_then : {T A B : Type 0} (r : List T → Read T A) (f : A → List T → Read T B) → Eats r → ((a : A) → Keeps (f a)) → Eats (λ ts. r ts >>= λ y. f y.0 y.1)
eats_then r f h j ts b rest e = let y = bind_found (r ts) (λ y. f y.0 y.1) b rest e in let p = h ts y.0 y.1 y.2 in let q = j y.0 y.1 b rest y.3 in omega arith

eats_cond : {T A : Type 0} (b : List T → Bool) (p q : List T → Read T A) → Eats p → Eats q → Eats (λ ts. cond (b ts) (p ts) (q ts))
eats_cond {T} {A} b p q h j ts a rest e = go (b ts) e
  where
    go : (v : Bool) → cond v (p ts) (q ts) ≡ Found a rest → length rest < length ts
    go true e = h ts a rest e
    go false e = j ts a rest e

keeps_cond : {T A : Type 0} (b : List T → Bool) (p q : List T → Read T A) → Keeps p → Keeps q → Keeps (λ ts. cond (b ts) (p ts) (q ts))
keeps_cond {T} {A} b p q h j ts a rest e = go (b ts) e
  where
    go : (v : Bool) → cond v (p ts) (q ts) ≡ Found a rest → length rest ≤ length ts
    go true e = h ts a rest e
    go false e = j ts a rest e

eats_bad : {T A : Type 0} → Eats {T = T} {A = A} (λ ts. Bad ts)
eats_bad ts a rest e = absurd (cc)

eats_deep : {T A : Type 0} (c : T → Bool) → Eats {T = T} {A = A} (λ ts. deep_at c ts)
eats_deep c [] a rest e = absurd (cc)
eats_deep {T} {A} c (t ∷ ts) a rest e = go (c t) e
  where
    go : (v : Bool) → cond v (Deep (t ∷ ts)) (Bad (t ∷ ts)) ≡ Found a rest → length rest < length (t ∷ ts)
    go true e = absurd (cc)
    go false e = absurd (cc)

eats_one : {T A : Type 0} (c : T → Bool) (v : T → A) → Eats (one_at c v)
eats_one c v [] a rest e = absurd (cc)
eats_one {T} {A} c v (t ∷ ts) a rest e = go (c t) e
  where
    go : (b : Bool) → cond b (Found (v t) ts) (Bad (t ∷ ts)) ≡ Found a rest → length rest < length (t ∷ ts)
    go true e = let d = keeps_found (v t) a ts rest e in omega arith
    go false e = absurd (cc)

keeps_loop : {T S : Type 0} (c : S → T → Bool) (q : S × List T → Read T S) → ((s : S) → Keeps (λ ts. q (s, ts))) → (n : ℕ) (s : S) (ts : List T) (a : S) (rest : List T) → loop_at c q n (s, ts) ≡ Found a rest → length rest ≤ length ts
unfolding loop_at
keeps_loop c q h zero s ts a rest e = keeps_found s a ts rest e
keeps_loop {T} {S} c q h (suc n) s ts a rest e = go (λ t u. keeps_loop c q h n t u a rest) (head_is (c s) ts) e
  where
    go : ((t : S) (u : List T) → loop_at c q n (t, u) ≡ Found a rest → length rest ≤ length u) → (b : Bool) → cond b (q (s, ts) >>= λ y. loop_at c q n y) (Found s ts) ≡ Found a rest → length rest ≤ length ts
    go ih true e = let y = bind_found (q (s, ts)) (λ y. loop_at c q n y) a rest e in let i = h s ts y.0 y.1 y.2 in let j = ih y.0 y.1 y.3 in omega arith
    go ih false e = keeps_found s a ts rest e

keeps_give : {T A : Type 0} (b : A) → Keeps {T = T} (λ ts. Found b ts)
keeps_give b ts a rest e = keeps_found b a ts rest e

keeps_bad : {T A : Type 0} → Keeps {T = T} {A = A} (λ ts. Bad ts)
keeps_bad ts a rest e = absurd (cc)

keeps_shown : {T A : Type 0} (o : Option A) → Keeps {T = T} (λ ts. seen_or (Bad ts) (λ d. Found d ts) o)
keeps_shown None = keeps_bad
keeps_shown (Some d) = keeps_give d

keeps_seen : {T A B : Type 0} (o : Option B) (r : B → List T → Read T A) → ((b : B) → Keeps (r b)) → Keeps (seen_at o r)
keeps_seen None r h = keeps_bad
keeps_seen (Some b) r h = h b

eats_seen : {T A B : Type 0} (o : Option B) (r : B → List T → Read T A) → ((b : B) → Eats (r b)) → Eats (seen_at o r)
eats_seen None r h = eats_bad
eats_seen (Some b) r h = h b

-- a step of what is read up to an end
abbrev pursuit : (g : Grammar) (n : ℕ) (fr : FarReaders g) (here below : Readers g) {S A B D : g.Sort} (c : g.El S → Option (g.El D)) (tk : g.El S → g.El B) (f : g.El A → g.El S) → In g B A → In g B S → (g.El S × ℕ) × List g.Tok → Read g.Tok (g.El S × ℕ)
pursuit g n fr here below c tk f e p y = guard_at (takes (is_some (c y.0.0)) n y.0.1) (λ t. has (g.kind t) (first g e (tk y.0.0) ++ first g p (tk y.0.0)))
    (λ ts. cond (head_is (λ t. has (g.kind t) (first g e (tk y.0.0))) ts) (read g n fr here below e (tk y.0.0, taken (is_some (c y.0.0)) y.0.1) ts >>= λ z. Found (f z.0.0, z.0.1) z.1) (read g n fr here below p (tk y.0.0, taken (is_some (c y.0.0)) y.0.1) ts)) y.1

module _ (g : Grammar) (n : ℕ) (fr : FarReaders g) (here below : Readers g) (here_eats : (r : g.Name) → Eats (here r)) (below_eats : (r : g.Name) → Eats (below r)) (far_eats : (q : g.Far) → Eats (fr q)) where
  part_keeps : {S A : g.Sort} (p : In g S A) (x : g.El S × ℕ) → Keeps (read g n fr here below p x)
  part_keeps (token F f) x = weaken (read g n fr here below (token F f) x) (eats_one (λ t. has (g.kind t) F) (λ t. (f x.0 t, x.1)))
  part_keeps (give f) x = keeps_give (f x.0, x.1)
  part_keeps (node f) x = keeps_give (f x.0, 1 + x.1)
  part_keeps (line r f) x = keeps_then (here r) (λ y ts. Found (f x.0 y.0, max x.1 y.1) ts) (weaken (here r) (here_eats r)) (λ y. keeps_give (f x.0 y.0, max x.1 y.1))
  part_keeps (inner r f) x = keeps_then (below r) (λ y ts. Found (f x.0 y.0, max x.1 y.1) ts) (weaken (below r) (below_eats r)) (λ y. keeps_give (f x.0 y.0, max x.1 y.1))
  part_keeps (join r f) x = keeps_then (here r) (λ y ts. Found (f x.0 y.0, max (1 + x.1) y.1) ts) (weaken (here r) (here_eats r)) (λ y. keeps_give (f x.0 y.0, max (1 + x.1) y.1))
  part_keeps (far q f) x = keeps_then (fr q) (λ y ts. Found (f x.0 y, x.1) ts) (weaken (fr q) (far_eats q)) (λ y. keeps_give (f x.0 y, x.1))
  part_keeps (fork c d f p q j) x = keeps_cond (λ ts. both_are (λ t. has (g.kind t) (c ∷ [])) (λ u. has (g.kind u) (d ∷ [])) ts) _ _
      (keeps_then (one_at (λ t. has (g.kind t) (c ∷ [])) (λ t. t)) (λ t ts. one_at (λ u. has (g.kind u) (d ∷ [])) (λ u. (f x.0 t u, x.1)) ts >>= λ y. read g n fr here below p y.0 y.1) (weaken (one_at (λ t. has (g.kind t) (c ∷ [])) (λ t. t)) (eats_one _ _))
      (λ t. keeps_then (one_at (λ u. has (g.kind u) (d ∷ [])) (λ u. (f x.0 t u, x.1))) (λ y ts. read g n fr here below p y ts) (weaken (one_at (λ u. has (g.kind u) (d ∷ [])) (λ u. (f x.0 t u, x.1))) (eats_one _ _)) (λ y. part_keeps p y)))
      (keeps_then (fr q) (λ y ts. Found (j x.0 y, x.1) ts) (weaken (fr q) (far_eats q)) (λ y. keeps_give (j x.0 y, x.1)))
  part_keeps (p ⨾ q) x = keeps_then (read g n fr here below p x) (λ y ts. read g n fr here below q y ts) (part_keeps p x) (λ y. part_keeps q y)
  part_keeps (p ∣ q) x = keeps_cond (λ ts. starts_with g.kind (first g p x.0) ts) (read g n fr here below p x) (read g n fr here below q x) (part_keeps p x) (part_keeps q x)
  part_keeps (many p) x = λ ts. keeps_loop (λ y t. has (g.kind t) (first g p y.0)) (λ y. read g n fr here below p y.0 y.1) (λ s. part_keeps p s) (length ts) x ts
  part_keeps (when c p) x = keeps_cond (λ _. c x.0) (read g n fr here below p x) (λ ts. Bad ts) (part_keeps p x) keeps_bad
  part_keeps (room p) x = keeps_cond (λ _. fits n x.1) (read g n fr here below p x) (deep_at (λ t. has (g.kind t) (first g p x.0))) (part_keeps p x) (weaken (deep_at (λ t. has (g.kind t) (first g p x.0))) (eats_deep _))
  part_keeps (lift lf p) x = keeps_cond (λ _. nat_le (1 + x.1) n) (read g n fr here below p (lf x.0, 1 + x.1)) (deep_at (λ t. has (g.kind t) (first g p (lf x.0)))) (part_keeps p (lf x.0, 1 + x.1)) (weaken (deep_at (λ t. has (g.kind t) (first g p (lf x.0)))) (eats_deep _))
  part_keeps (seen v p) x = keeps_seen (v x.0) (λ y. read g n fr here below p (y, x.1)) (λ y. part_keeps p (y, x.1))
  part_keeps (until c tk f i e p) x = keeps_then (λ ts. many_at (λ y t. has (g.kind t) (first g e (tk y.0) ++ first g p (tk y.0))) (pursuit g n fr here below c tk f e p) (x, ts)) (λ y ts. seen_or (Bad ts) (λ d. Found d ts) (shown c y))
      (λ ts. keeps_loop (λ y t. has (g.kind t) (first g e (tk y.0) ++ first g p (tk y.0))) (pursuit g n fr here below c tk f e p)
      (λ s. keeps_cond (λ _. takes (is_some (c s.0)) n s.1) (λ ts. cond (head_is (λ t. has (g.kind t) (first g e (tk s.0))) ts) (read g n fr here below e (tk s.0, taken (is_some (c s.0)) s.1) ts >>= λ z. Found (f z.0.0, z.0.1) z.1) (read g n fr here below p (tk s.0, taken (is_some (c s.0)) s.1) ts)) (deep_at (λ t. has (g.kind t) (first g e (tk s.0) ++ first g p (tk s.0))))
      (keeps_cond (λ ts. head_is (λ t. has (g.kind t) (first g e (tk s.0))) ts) _ _ (keeps_then (read g n fr here below e (tk s.0, taken (is_some (c s.0)) s.1)) (λ z ts. Found (f z.0, z.1) ts) (part_keeps e (tk s.0, taken (is_some (c s.0)) s.1)) (λ z. keeps_give (f z.0, z.1))) (part_keeps p (tk s.0, taken (is_some (c s.0)) s.1)))
      (weaken (deep_at (λ t. has (g.kind t) (first g e (tk s.0) ++ first g p (tk s.0)))) (eats_deep _)))
      (length ts) x ts)
      (λ y. keeps_shown (shown c y))

  pub part_eats : {S A : g.Sort} (p : In g S A) → eats g p ≡ true → (x : g.El S × ℕ) → Eats (read g n fr here below p x)
  part_eats (token F f) i x = eats_one (λ t. has (g.kind t) F) (λ t. (f x.0 t, x.1))
  part_eats (give f) i x = absurd (cc)
  part_eats (node f) i x = absurd (cc)
  part_eats (line r f) i x = eats_then (here r) (λ y ts. Found (f x.0 y.0, max x.1 y.1) ts) (here_eats r) (λ y. keeps_give (f x.0 y.0, max x.1 y.1))
  part_eats (inner r f) i x = eats_then (below r) (λ y ts. Found (f x.0 y.0, max x.1 y.1) ts) (below_eats r) (λ y. keeps_give (f x.0 y.0, max x.1 y.1))
  part_eats (join r f) i x = eats_then (here r) (λ y ts. Found (f x.0 y.0, max (1 + x.1) y.1) ts) (here_eats r) (λ y. keeps_give (f x.0 y.0, max (1 + x.1) y.1))
  part_eats (far q f) i x = eats_then (fr q) (λ y ts. Found (f x.0 y, x.1) ts) (far_eats q) (λ y. keeps_give (f x.0 y, x.1))
  part_eats (fork c d f p q j) i x = absurd (cc)
  part_eats (p ⨾ q) i x = eats_then (read g n fr here below p x) (λ y ts. read g n fr here below q y ts) (part_eats p i x) (λ y. part_keeps q y)
  part_eats (p ∣ q) i x = let b = and_both (eats g p) (eats g q) i in eats_cond (λ ts. starts_with g.kind (first g p x.0) ts) (read g n fr here below p x) (read g n fr here below q x) (part_eats p b.0 x) (part_eats q b.1 x)
  part_eats (many p) i x = absurd (cc)
  part_eats (when c p) i x = eats_cond (λ _. c x.0) (read g n fr here below p x) (λ ts. Bad ts) (part_eats p i x) eats_bad
  part_eats (room p) i x = eats_cond (λ _. fits n x.1) (read g n fr here below p x) (deep_at (λ t. has (g.kind t) (first g p x.0))) (part_eats p i x) (eats_deep _)
  part_eats (lift lf p) i x = eats_cond (λ _. nat_le (1 + x.1) n) (read g n fr here below p (lf x.0, 1 + x.1)) (deep_at (λ t. has (g.kind t) (first g p (lf x.0)))) (part_eats p i (lf x.0, 1 + x.1)) (eats_deep _)
  part_eats (seen v p) i x = eats_seen (v x.0) (λ y. read g n fr here below p (y, x.1)) (λ y. part_eats p i (y, x.1))
  part_eats (until c tk f i e p) j x = absurd (cc)

  round_takes : {S : g.Sort} (p : In g S S) → eats g p ≡ true → Takes (λ y. read g n fr here below p y.0 y.1)
  round_takes p i y a rest e = part_eats p i y.0 y.1 a rest e

  -- A LOOP, once more round
  pub round_step : {S B : g.Sort} (p : In g S S) → eats g p ≡ true → (x : g.El S × ℕ) (ts : List g.Tok) (k : (g.El S × ℕ) × List g.Tok → Read g.Tok (g.El B × ℕ))
      → (round g n fr here below p x ts >>= k) ≡ cond (starts_with g.kind (first g p x.0) ts) (read g n fr here below p x ts >>= λ y. round g n fr here below p y.0 y.1 >>= k) (k (x, ts))
  unfolding round loop_at
  round_step p i x [] k = refl
  round_step p i x (t ∷ ts) k = ap (λ v. v >>= k) (many_step (λ y t. has (g.kind t) (first g p y.0)) (λ y. read g n fr here below p y.0 y.1) (round_takes p i) x t ts)
      ∙ push (has (g.kind t) (first g p x.0)) (read g n fr here below p x (t ∷ ts) >>= λ y. many_at (λ y t. has (g.kind t) (first g p y.0)) (λ y. read g n fr here below p y.0 y.1) y) (Found x (t ∷ ts)) k
      ∙ ap (λ v. cond (has (g.kind t) (first g p x.0)) v (k (x, t ∷ ts))) (bind_assoc (read g n fr here below p x (t ∷ ts)) _ k)

  pub round_walk : {S B : g.Sort} (p : In g S S) → eats g p ≡ true → (x : g.El S × ℕ) (ts : List g.Tok) (k : (g.El S × ℕ) × List g.Tok → Read g.Tok (g.El B × ℕ))
      → (round g n fr here below p x ts >>= k) ≡ walk g n fr here below true p (x.0, up x.1) ts (λ y. round g n fr here below p (y.0.0, tall y.0.1) y.1 >>= k) (Some (k (x, ts)))
  round_walk p i x ts k = round_step p i x ts k ∙ begun g n fr here below true p (x.0, up x.1) ts (λ y. round g n fr here below p (y.0.0, tall y.0.1) y.1 >>= k) (k (x, ts)) (λ a u rest. refl)

  -- the same with nothing read behind it
  pub round_once : {S : g.Sort} (p : In g S S) → eats g p ≡ true → (x : g.El S × ℕ) (ts : List g.Tok)
      → round g n fr here below p x ts ≡ cond (starts_with g.kind (first g p x.0) ts) (read g n fr here below p x ts >>= λ y. round g n fr here below p y.0 y.1) (Found x ts)
  unfolding round loop_at
  round_once p i x [] = refl
  round_once p i x (t ∷ ts) = many_step (λ y t. has (g.kind t) (first g p y.0)) (λ y. read g n fr here below p y.0 y.1) (round_takes p i) x t ts

  -- what wants a level, again and again
  pub round_room : {S : g.Sort} (p : In g S S) → eats g p ≡ true → (x : g.El S × ℕ) (ts : List g.Tok)
      → round g n fr here below (room p) x ts ≡ cond (starts_with g.kind (first g p x.0) ts) (cond (fits n x.1) (read g n fr here below p x ts >>= λ y. round g n fr here below (room p) y.0 y.1) (Deep ts)) (Found x ts)
  round_room p i x ts = round_once (room p) i x ts ∙ guarding g n fr here below true (fits n x.1) p x ts (λ y. round g n fr here below (room p) y.0 y.1) (Found x ts)

  -- items with a token between them, and maybe one at the end
  pub round_commas : {S : g.Sort} (c : g.El S → Bool) (F : List ℕ) (f : g.El S → g.Tok → g.El S) (p : In g S S) (e : g.El S → g.El S) (x : g.El S × ℕ) (ts : List g.Tok)
      → round g n fr here below (when c (token F f ⨾ (p ∣ give e))) x ts
      ≡ cond (c x.0) (pick (first_of g.kind F ts) (λ o. cond (starts_with g.kind (first g p (f x.0 o.0)) o.1) (read g n fr here below p (f x.0 o.0, x.1) o.1 >>= λ y. round g n fr here below (when c (token F f ⨾ (p ∣ give e))) y.0 y.1)
      (round g n fr here below (when c (token F f ⨾ (p ∣ give e))) (e (f x.0 o.0), x.1) o.1)) (Found x ts)) (Found x ts)
  round_commas c F f p e x ts = round_once (when c (token F f ⨾ (p ∣ give e))) refl x ts
      ∙ begun g n fr here below true (when c (token F f ⨾ (p ∣ give e))) (x.0, up x.1) ts (λ y. round g n fr here below (when c (token F f ⨾ (p ∣ give e))) (y.0.0, tall y.0.1) y.1) (Found x ts) (λ a u rest. refl)
      ∙ cond_eq (c x.0) _ _ (Found x ts) (pick_eq (first_of g.kind F ts) _ _ (Found x ts) (λ o. sym (begun g n fr here below true p (f x.0 o.0, up x.1) o.1 (λ y. round g n fr here below (when c (token F f ⨾ (p ∣ give e))) (y.0.0, tall y.0.1) y.1) _ (λ a u rest. refl))))

  -- a value, or a chain that begins with it: its first step is one from the chain that the value is
  pub chain_read : {S A : g.Sort} (p : In g S A) (q : In g A A) (f : g.El A → g.El S) (to : g.El S → g.El A) → eats g q ≡ true → (x : g.El S × ℕ) (ts : List g.Tok) → first g p x.0 ≡ first g q (to x.0) → read g n fr here below p x ts ≡ read g n fr here below q (to x.0, x.1) ts
      → read g n fr here below (room (p ⨾ many q ⨾ node f) ∣ give (λ e. e)) x ts
      ≡ cond (starts_with g.kind (first g q (to x.0)) ts) (cond (fits n x.1) (round g n fr here below q (to x.0, x.1) ts >>= λ c. Found (f c.0.0, 1 + c.0.1) c.1) (Deep ts)) (Found x ts)
  unfolding round
  chain_read p q f to i x ts e d =
      ap (λ v. cond (starts_with g.kind v ts) (cond (fits n x.1) ((read g n fr here below p x ts >>= λ c. round g n fr here below q c.0 c.1) >>= λ c. Found (f c.0.0, 1 + c.0.1) c.1) (deep_at (λ t. has (g.kind t) v) ts)) (Found x ts)) e
      ∙ ap (λ v. cond (starts_with g.kind (first g q (to x.0)) ts) (cond (fits n x.1) ((v >>= λ c. round g n fr here below q c.0 c.1) >>= λ c. Found (f c.0.0, 1 + c.0.1) c.1) (deep_at (λ t. has (g.kind t) (first g q (to x.0))) ts)) (Found x ts)) d
      ∙ by_start (starts_with g.kind (first g q (to x.0)) ts) (fits n x.1) _ (round g n fr here below q (to x.0, x.1) ts) (λ c. Found (f c.0.0, 1 + c.0.1) c.1) (deep_at (λ t. has (g.kind t) (first g q (to x.0))) ts) (Found x ts) (λ h. round_once q i (to x.0, x.1) ts ∙ ap (λ v. cond v (read g n fr here below q (to x.0, x.1) ts >>= λ c. round g n fr here below q c.0 c.1) (Found (to x.0, x.1) ts)) h)
      ∙ deep_under g.kind (first g q (to x.0)) (fits n x.1) _ ts (Found x ts)

  module _ {S A B D : g.Sort} (c : g.El S → Option (g.El D)) (tk : g.El S → g.El B) (f : g.El A → g.El S) (y : (a : g.El A) → is_some (c (f a)) ≡ true) (e : In g B A) (p : In g B S) (i : eats g e ≡ true) (j : eats g p ≡ true) where
    both_sets : g.El S → List ℕ
    both_sets s = first g e (tk s) ++ first g p (tk s)

    pursuit_takes : Takes (pursuit g n fr here below c tk f e p)
    pursuit_takes s a rest d = eats_cond (λ _. takes (is_some (c s.0.0)) n s.0.1) (λ ts. cond (head_is (λ t. has (g.kind t) (first g e (tk s.0.0))) ts) (read g n fr here below e (tk s.0.0, taken (is_some (c s.0.0)) s.0.1) ts >>= λ z. Found (f z.0.0, z.0.1) z.1) (read g n fr here below p (tk s.0.0, taken (is_some (c s.0.0)) s.0.1) ts))
        (deep_at (λ t. has (g.kind t) (first g e (tk s.0.0) ++ first g p (tk s.0.0))))
        (eats_cond (λ ts. head_is (λ t. has (g.kind t) (first g e (tk s.0.0))) ts) _ _ (eats_then (read g n fr here below e (tk s.0.0, taken (is_some (c s.0.0)) s.0.1)) (λ z ts. Found (f z.0, z.1) ts) (part_eats e i (tk s.0.0, taken (is_some (c s.0.0)) s.0.1)) (λ z. keeps_give (f z.0, z.1))) (part_eats p j (tk s.0.0, taken (is_some (c s.0.0)) s.0.1)))
        (eats_deep _) s.1 a rest d

    pursue_step : {E : g.Sort} (x : g.El S × ℕ) (ts : List g.Tok) (k : (g.El D × ℕ) × List g.Tok → Read g.Tok (g.El E × ℕ))
        → (pursue g n fr here below c tk f y e p x ts >>= k) ≡ cond (starts_with g.kind (first g e (tk x.0) ++ first g p (tk x.0)) ts) (pursuit g n fr here below c tk f e p (x, ts) >>= λ z. pursue g n fr here below c tk f y e p z.0 z.1 >>= k) (seen_or (Bad ts) (λ d. k (d, ts)) (shown c x))
    unfolding pursue loop_at
    pursue_step x [] k = push_seen (shown c x) (λ d. Found d []) (Bad []) k
    pursue_step x (t ∷ ts) k =
        ap (λ v. pass_at (shown c) v >>= k) (many_step (λ y t. has (g.kind t) (first g e (tk y.0) ++ first g p (tk y.0))) (pursuit g n fr here below c tk f e p) pursuit_takes x t ts)
        ∙ go (has (g.kind t) (first g e (tk x.0) ++ first g p (tk x.0)))
      where
        go : (b : Bool) → (pass_at (shown c) (cond b (pursuit g n fr here below c tk f e p (x, t ∷ ts) >>= λ z. many_at (λ y t. has (g.kind t) (first g e (tk y.0) ++ first g p (tk y.0))) (pursuit g n fr here below c tk f e p) z) (Found x (t ∷ ts))) >>= k)
            ≡ cond b (pursuit g n fr here below c tk f e p (x, t ∷ ts) >>= λ z. pass_at (shown c) (many_at (λ y t. has (g.kind t) (first g e (tk y.0) ++ first g p (tk y.0))) (pursuit g n fr here below c tk f e p) z) >>= k) (seen_or (Bad (t ∷ ts)) (λ d. k (d, t ∷ ts)) (shown c x))
        go true = ap (λ v. v >>= k) (bind_assoc (pursuit g n fr here below c tk f e p (x, t ∷ ts)) _ _) ∙ bind_assoc (pursuit g n fr here below c tk f e p (x, t ∷ ts)) _ k
        go false = push_seen (shown c x) (λ d. Found d (t ∷ ts)) (Bad (t ∷ ts)) k

    pub pursue_walk : {E : g.Sort} (x : g.El S × ℕ) (ts : List g.Tok) (k : (g.El D × ℕ) × List g.Tok → Read g.Tok (g.El E × ℕ))
        → (pursue g n fr here below c tk f y e p x ts >>= k) ≡ walk g n fr here below (takes (is_some (c x.0)) n x.1) e (tk x.0, up (taken (is_some (c x.0)) x.1)) ts (λ z. pursue g n fr here below c tk f y e p (f z.0.0, tall z.0.1) z.1 >>= k)
        (Some (walk g n fr here below (takes (is_some (c x.0)) n x.1) p (tk x.0, up (taken (is_some (c x.0)) x.1)) ts (λ z. pursue g n fr here below c tk f y e p (z.0.0, tall z.0.1) z.1 >>= k) (Some (seen_or (Bad ts) (λ d. k (d, ts)) (shown c x)))))
    pursue_walk x ts k = pursue_step x ts k
        ∙ either_part g.kind (first g e (tk x.0)) (first g p (tk x.0)) (takes (is_some (c x.0)) n x.1) (read g n fr here below e (tk x.0, taken (is_some (c x.0)) x.1) ts) (read g n fr here below p (tk x.0, taken (is_some (c x.0)) x.1) ts) (λ z. (f z.0, z.1)) (λ z. pursue g n fr here below c tk f y e p z.0 z.1 >>= k) ts (seen_or (Bad ts) (λ d. k (d, ts)) (shown c x))
        ∙ ap (λ v. cond (starts_with g.kind (first g e (tk x.0)) ts) (cond (takes (is_some (c x.0)) n x.1) (read g n fr here below e (tk x.0, taken (is_some (c x.0)) x.1) ts >>= λ z. pursue g n fr here below c tk f y e p (f z.0.0, z.0.1) z.1 >>= k) (Deep ts)) v)
        (begun g n fr here below (takes (is_some (c x.0)) n x.1) p (tk x.0, up (taken (is_some (c x.0)) x.1)) ts (λ z. pursue g n fr here below c tk f y e p (z.0.0, tall z.0.1) z.1 >>= k) (seen_or (Bad ts) (λ d. k (d, ts)) (shown c x)) (λ a u rest. refl))
        ∙ begun g n fr here below (takes (is_some (c x.0)) n x.1) e (tk x.0, up (taken (is_some (c x.0)) x.1)) ts (λ z. pursue g n fr here below c tk f y e p (f z.0.0, tall z.0.1) z.1 >>= k)
        (walk g n fr here below (takes (is_some (c x.0)) n x.1) p (tk x.0, up (taken (is_some (c x.0)) x.1)) ts (λ z. pursue g n fr here below c tk f y e p (z.0.0, tall z.0.1) z.1 >>= k) (Some (seen_or (Bad ts) (λ d. k (d, ts)) (shown c x)))) (λ a u rest. refl)

    pursue_plain : (x : g.El S × ℕ) (ts : List g.Tok)
        → pursue g n fr here below c tk f y e p x ts ≡ cond (starts_with g.kind (first g e (tk x.0) ++ first g p (tk x.0)) ts) (pursuit g n fr here below c tk f e p (x, ts) >>= λ z. pursue g n fr here below c tk f y e p z.0 z.1) (seen_or (Bad ts) (λ d. Found d ts) (shown c x))
    unfolding pursue loop_at
    pursue_plain x [] = refl
    pursue_plain x (t ∷ ts) =
        ap (λ v. pass_at (shown c) v) (many_step (λ y t. has (g.kind t) (first g e (tk y.0) ++ first g p (tk y.0))) (pursuit g n fr here below c tk f e p) pursuit_takes x t ts)
        ∙ go (has (g.kind t) (first g e (tk x.0) ++ first g p (tk x.0)))
      where
        go : (b : Bool) → pass_at (shown c) (cond b (pursuit g n fr here below c tk f e p (x, t ∷ ts) >>= λ z. many_at (λ y t. has (g.kind t) (first g e (tk y.0) ++ first g p (tk y.0))) (pursuit g n fr here below c tk f e p) z) (Found x (t ∷ ts)))
            ≡ cond b (pursuit g n fr here below c tk f e p (x, t ∷ ts) >>= λ z. pass_at (shown c) (many_at (λ y t. has (g.kind t) (first g e (tk y.0) ++ first g p (tk y.0))) (pursuit g n fr here below c tk f e p) z)) (seen_or (Bad (t ∷ ts)) (λ d. Found d (t ∷ ts)) (shown c x))
        go true = bind_assoc (pursuit g n fr here below c tk f e p (x, t ∷ ts)) _ _
        go false = refl

    -- WHAT IS READ UP TO AN END, once more round: e or p
    pub pursue_once : (x : g.El S × ℕ) (ts : List g.Tok)
        → pursue g n fr here below c tk f y e p x ts ≡ cond (starts_with g.kind (first g e (tk x.0) ++ first g p (tk x.0)) ts) (cond (takes (is_some (c x.0)) n x.1)
        (cond (starts_with g.kind (first g e (tk x.0)) ts) (read g n fr here below e (tk x.0, taken (is_some (c x.0)) x.1) ts >>= λ z. Found (f z.0.0, z.0.1) z.1) (read g n fr here below p (tk x.0, taken (is_some (c x.0)) x.1) ts) >>= λ z. pursue g n fr here below c tk f y e p z.0 z.1)
        (Deep ts)) (seen_or (Bad ts) (λ d. Found d ts) (shown c x))
    pursue_once x ts = pursue_plain x ts
        ∙ ap (λ v. cond (starts_with g.kind (first g e (tk x.0) ++ first g p (tk x.0)) ts) v (seen_or (Bad ts) (λ d. Found d ts) (shown c x)))
        (push (takes (is_some (c x.0)) n x.1) (cond (starts_with g.kind (first g e (tk x.0)) ts) (read g n fr here below e (tk x.0, taken (is_some (c x.0)) x.1) ts >>= λ z. Found (f z.0.0, z.0.1) z.1) (read g n fr here below p (tk x.0, taken (is_some (c x.0)) x.1) ts)) (deep_at (λ t. has (g.kind t) (first g e (tk x.0) ++ first g p (tk x.0))) ts) (λ z. pursue g n fr here below c tk f y e p z.0 z.1)
        ∙ ap (λ v. cond (takes (is_some (c x.0)) n x.1) (cond (starts_with g.kind (first g e (tk x.0)) ts) (read g n fr here below e (tk x.0, taken (is_some (c x.0)) x.1) ts >>= λ z. Found (f z.0.0, z.0.1) z.1) (read g n fr here below p (tk x.0, taken (is_some (c x.0)) x.1) ts) >>= λ z. pursue g n fr here below c tk f y e p z.0 z.1) v) (deep_bind (λ t. has (g.kind t) (first g e (tk x.0) ++ first g p (tk x.0))) (λ z. pursue g n fr here below c tk f y e p z.0 z.1) ts))
        ∙ deep_under g.kind (first g e (tk x.0) ++ first g p (tk x.0)) (takes (is_some (c x.0)) n x.1) _ ts (seen_or (Bad ts) (λ d. Found d ts) (shown c x))

-- A LINE
pub line_walk : (g : Grammar) → IsGood g → (fr : FarReaders g) (m : ℕ) (r : g.Name) (ts : List g.Tok) → 0 < m
    → readers g fr m r ts ≡ walk g (m - 1) fr (readers g fr m) (readers g fr (m - 1)) true (g.body r) (g.empty, ground) ts whole None
line_walk g ok fr zero r ts h = absurd (omega arith)
line_walk g ok fr (suc n) r ts h = subst (λ v. readers g fr (suc n) r ts ≡ walk g v fr (readers g fr (suc n)) (readers g fr v) true (g.body r) (g.empty, ground) ts whole None) less_one
    (reader_line g ok fr n r ts ∙ walked g n fr (readers g fr (suc n)) (readers g fr n) (g.body r) (g.empty, ground) ts)
  where
    less_one : n ≡ suc n - 1
    less_one = omega arith
