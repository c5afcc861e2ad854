-- THE READER OF A PART AS CODE GOES ALONG IT: by the next token, with what is read behind it, and what is read where the part doesn't begin.
use Rattle.std.specs.Prelude.{◌≡◌, ℕ, ◌+◌, max, Bool, true, false, cond, nat_le, List, [], ◌∷◌, Option, Some, None}
use Rattle.parsing.specs.Reading.{Read, Found, Bad, Deep, ◌>>=◌, head_is, many_at, deep_at, seen_or, is_some, has}
use Rattle.grammar.specs.Table.{lookup_key, token, give, node, line, inner, join, far, fork, ◌⨾◌, ◌∣◌, many, when, room, lift, seen, until, Grammar, In}
use Rattle.grammar.specs.Levels.{Readers, FarReaders, fits, first, read}

abbrev pub first_if : {X : Type 0} → Bool → X → Option X
first_if true x = Some x
first_if false x = None

-- the first token where its kind is of a set, and the tokens behind it
abbrev pub first_of : {T : Type 0} → (T → ℕ) → List ℕ → List T → Option (T × List T)
first_of kind F [] = None
first_of kind F (t ∷ ts) = first_if (has (kind t) F) (t, ts)

abbrev pub pick : {X Y : Type 0} → Option X → (X → Y) → Y → Y
pick (Some x) f y = f x
pick None f y = y

-- the first token with what it stands for in a table, where it stands for something, and the tokens behind it
abbrev pub with_meaning : {T V : Type 0} → T → List T → Option V → Option ((T × V) × List T)
with_meaning t ts None = None
with_meaning t ts (Some v) = Some ((t, v), ts)

abbrev pub first_meant : {T V : Type 0} → (T → ℕ) → List (ℕ × V) → List T → Option ((T × V) × List T)
first_meant kind rows [] = None
first_meant kind rows (t ∷ ts) = with_meaning t ts (lookup_key rows (kind t))

-- a token of a set, which has to be there
abbrev pub wanted : {T : Type 0} → (T → ℕ) → List ℕ → List T → Read T T
wanted kind F ts = pick (first_of kind F ts) (λ o. Found o.0 o.1) (Bad ts)

-- how high the parts read so far are: nothing is read yet, or so high
pub data Up : Type 0 where
  ground : Up
  up : ℕ → Up

abbrev pub tall : Up → ℕ
tall ground = 0
tall (up h) = h

-- with one more part
abbrev pub above : Up → ℕ → Up
above ground k = up k
above (up h) k = up (max h k)

-- behind a height that is known
abbrev pub behind_height : {T A B : Type 0} → ((A × Up) × List T → Read T B) → (A × ℕ) × List T → Read T B
behind_height k y = k ((y.0.0, up y.0.1), y.1)

-- whether a list of tokens begins with one of a set
abbrev pub starts_with : {T : Type 0} → (T → ℕ) → List ℕ → List T → Bool
starts_with kind F ts = head_is (λ t. has (kind t) F) ts

-- What begins with one of a set: x, where a level is left. Else z; where there is no z, x has to stand here.
abbrev pub enter_if_level : {R : Type 0} → Bool → Bool → (deep x : R) → Option R → R
enter_if_level starts b deep x None = x
enter_if_level starts b deep x (Some z) = cond starts (cond b x deep) z

module _ (g : Grammar) (n : ℕ) (fr : FarReaders g) (here below : Readers g) where
  -- a part again and again
  unfoldable pub round : {S : g.Sort} → In g S S → g.El S × ℕ → List g.Tok → Read g.Tok (g.El S × ℕ)
  round p x ts = many_at (λ y t. has (g.kind t) (first g p y.0)) (λ y. read g n fr here below p y.0 y.1) (x, ts)

  -- what is read up to an end
  unfoldable pub pursue : {S A B D : g.Sort} (c : g.El S → Option (g.El D)) (tk : g.El S → g.El B) (f : g.El A → g.El S) → ((a : g.El A) → is_some (c (f a)) ≡ true) → In g B A → In g B S → g.El S × ℕ → List g.Tok → Read g.Tok (g.El D × ℕ)
  pursue c tk f i e p x ts = read g n fr here below (until c tk f i e p) x ts

  -- k is what is read behind the part; b says whether a level is left for it; z is read where the part doesn't begin. Where there is no z, it has to stand here.
  abbrev pub walk : Bool → {S A B : g.Sort} → In g S A → g.El S × Up → List g.Tok → ((g.El A × Up) × List g.Tok → Read g.Tok (g.El B × ℕ)) → Option (Read g.Tok (g.El B × ℕ)) → Read g.Tok (g.El B × ℕ)
  walk b (token F f) x ts k None = wanted g.kind F ts >>= λ o. k ((f x.0 o.0, x.1), o.1)
  walk b (token F f) x ts k (Some z) = pick (first_of g.kind F ts) (λ o. cond b (k ((f x.0 o.0, x.1), o.1)) (Deep ts)) z
  walk b (give f) x ts k z = pick z (λ y. y) (k ((f x.0, x.1), ts))
  walk b (node f) x ts k z = pick z (λ y. y) (k ((f x.0, up (1 + tall x.1)), ts))
  walk b (line r f) x ts k z = enter_if_level (starts_with g.kind (g.begins r) ts) b (Deep ts) (here r ts >>= λ y. k ((f x.0 y.0.0, above x.1 y.0.1), y.1)) z
  walk b (inner r f) x ts k z = enter_if_level (starts_with g.kind (g.begins r) ts) b (Deep ts) (below r ts >>= λ y. k ((f x.0 y.0.0, above x.1 y.0.1), y.1)) z
  walk b (join r f) x ts k z = enter_if_level (starts_with g.kind (g.begins r) ts) b (Deep ts) (here r ts >>= λ y. k ((f x.0 y.0.0, up (max (1 + tall x.1) y.0.1)), y.1)) z
  walk b (far q f) x ts k z = enter_if_level (starts_with g.kind (g.far_begins q) ts) b (Deep ts) (fr q ts >>= λ y. k ((f x.0 y.0, x.1), y.1)) z
  walk b (fork c d f p q j) x ts k z = enter_if_level (starts_with g.kind (first g (fork c d f p q j) x.0) ts) b (Deep ts) (read g n fr here below (fork c d f p q j) (x.0, tall x.1) ts >>= behind_height k) z
  walk b (p ⨾ q) x ts k z = walk b p x ts (λ y. walk true q y.0 y.1 k None) z
  walk b (p ∣ q) x ts k z = walk b p x ts k (Some (walk b q x ts k z))
  walk b (many p) x ts k z = enter_if_level (starts_with g.kind (first g p x.0) ts) b (Deep ts) (round p (x.0, tall x.1) ts >>= behind_height k) z
  walk b (when c p) x ts k None = cond (c x.0) (walk true p x ts k None) (Bad ts)
  walk b (when c p) x ts k (Some z) = cond (c x.0) (walk b p x ts k (Some z)) z
  walk b (room p) x ts k None = cond (fits n (tall x.1)) (walk true p x ts k None) (deep_at (λ t. has (g.kind t) (first g p x.0)) ts)
  walk b (room p) x ts k (Some z) = walk (cond b (fits n (tall x.1)) false) p x ts k (Some z)
  walk b (lift lf p) x ts k None = cond (nat_le (1 + tall x.1) n) (walk true p (lf x.0, up (1 + tall x.1)) ts k None) (deep_at (λ t. has (g.kind t) (first g p (lf x.0))) ts)
  walk b (lift lf p) x ts k (Some z) = walk (cond b (nat_le (1 + tall x.1) n) false) p (lf x.0, up (1 + tall x.1)) ts k (Some z)
  walk b (seen v p) x ts k None = seen_or (Bad ts) (λ y. walk true p (y, x.1) ts k None) (v x.0)
  walk b (seen v p) x ts k (Some z) = seen_or z (λ y. walk b p (y, x.1) ts k (Some z)) (v x.0)
  walk b (until c tk f i e p) x ts k z = enter_if_level (starts_with g.kind (first g (until c tk f i e p) x.0) ts) b (Deep ts) (pursue c tk f i e p (x.0, tall x.1) ts >>= behind_height k) z

-- what is read, with nothing behind it
abbrev pub whole : {T A : Type 0} → (A × Up) × List T → Read T (A × ℕ)
whole y = Found (y.0.0, tall y.0.1) y.1
