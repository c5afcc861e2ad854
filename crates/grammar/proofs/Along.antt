-- HOW CODE GOES ALONG A TABLE: the reader of a line is that of its body, in which the lower lines stand at the same level.
use Rattle.std.proofs.Common.{◌≡◌, ℕ, zero, suc, ◌==◌, ◌<◌, ◌+◌, max, nat_le, Bool, true, false, cond, List, [], ◌∷◌, ◌++◌, length, refl, sym, ap, ◌∙◌, arith}
use Rattle.std.proofs.lemmas.Grind.{common_steps}
use Rattle.parsing.specs.Reading.{Read, Found, Bad, Deep, ◌>>=◌, head_is, loop_at, guard_at, pass_at, one_at, both_are, is_some, deep_at, has}
use Rattle.parsing.proofs.Rules.{rule_takes}
use Rattle.parsing.proofs.Seen.{seen_same}
use Rattle.grammar.specs.Table.{token, give, node, line, inner, join, far, fork, ◌⨾◌, ◌∣◌, many, when, room, lift, seen, until, taken, Grammar, In, Fars}
use Rattle.grammar.specs.Levels.{Readers, FarReaders, fits, takes, shown, first, read, steps, readers, Stand, bare, parts, low, enter, closes, out, below, good, IsGood, takes_line}
use Rattle.grammar.proofs.Stands.{and_true}
use Rattle.grammar.proofs.Parts.{loop_at as loop_stand, then_good, or_good, many_good, when_good, seen_good, room_good, lift_good, fork_good, until_good}
use Rattle.grammar.proofs.Lines.{FarRules, line_good, no_line, one_less, same_number}
use Rattle.grammar.proofs.Answers.{line_rule}

bind_both : {T A B : Type 0} (r s : Read T A) (f h : A × List T → Read T B) → r ≡ s → ((a : A) (rest : List T) → f (a, rest) ≡ h (a, rest)) → (r >>= f) ≡ (s >>= h)
bind_both {T} {A} {B} r s f h e d = ap (λ v. v >>= f) e ∙ go s
  where
    go : (s : Read T A) → (s >>= f) ≡ (s >>= h)
    go (Found a rest) = d a rest
    go (Bad rest) = refl
    go (Deep rest) = refl

loop_same : {T S : Type 0} (c : S → T → Bool) (p q : S × List T → Read T S) → ((s : S) (ts : List T) → p (s, ts) ≡ q (s, ts)) → (k : ℕ) (s : S) (ts : List T) → loop_at c p k (s, ts) ≡ loop_at c q k (s, ts)
unfolding loop_at
loop_same c p q e zero s ts = refl
loop_same c p q e (suc k) s ts = ap (λ v. cond (head_is (c s) ts) v (Found s ts)) (bind_both (p (s, ts)) (q (s, ts)) (λ y. loop_at c p k y) (λ y. loop_at c q k y) (e s ts) (λ a rest. loop_same c p q e k a rest))

-- the same reader of lower lines reads the same
module _ (g : Grammar) (n k : ℕ) (fr : FarReaders g) (h1 h2 u : Readers g) (same : (r : g.Name) → below (g.rank r) k ≡ true → (ts : List g.Tok) → h1 r ts ≡ h2 r ts) where
  read_same : {S A : g.Sort} (p : In g S A) (s : Stand) → good g k s p ≡ true → (x : g.El S × ℕ) (ts : List g.Tok) → read g n fr h1 u p x ts ≡ read g n fr h2 u p x ts
  read_same (token F f) s e x ts = refl
  read_same (give f) s e x ts = refl
  read_same (node f) s e x ts = refl
  read_same (line r f) s e x ts = ap (λ v. v >>= λ y. Found (f x.0 y.0.0, max x.1 y.0.1) y.1) (same r (and_true (below (g.rank r) k) (takes_line s) e).0 ts)
  read_same (inner r f) s e x ts = refl
  read_same (join r f) s e x ts = ap (λ v. v >>= λ y. Found (f x.0 y.0.0, max (1 + x.1) y.0.1) y.1) (same r (and_true (below (g.rank r) k) (closes s) e).0 ts)
  read_same (far q f) s e x ts = refl
  read_same (fork c d f p q j) s e x ts = let b = fork_good g k s c d f p q j e in
      ap (λ v. cond (both_are (λ t. has (g.kind t) (c ∷ [])) (λ u. has (g.kind u) (d ∷ [])) ts) v (fr q ts >>= λ y. Found (j x.0 y.0, x.1) y.1))
      (bind_both (one_at (λ t. has (g.kind t) (c ∷ [])) (λ t. t) ts) (one_at (λ t. has (g.kind t) (c ∷ [])) (λ t. t) ts)
      (λ t. one_at (λ u. has (g.kind u) (d ∷ [])) (λ u. (f x.0 t.0 u, x.1)) t.1 >>= λ y. read g n fr h1 u p y.0 y.1) (λ t. one_at (λ u. has (g.kind u) (d ∷ [])) (λ u. (f x.0 t.0 u, x.1)) t.1 >>= λ y. read g n fr h2 u p y.0 y.1) refl
      (λ t rest. bind_both (one_at (λ u. has (g.kind u) (d ∷ [])) (λ u. (f x.0 t u, x.1)) rest) (one_at (λ u. has (g.kind u) (d ∷ [])) (λ u. (f x.0 t u, x.1)) rest)
      (λ y. read g n fr h1 u p y.0 y.1) (λ y. read g n fr h2 u p y.0 y.1) refl (λ y rest. read_same p s b.one y rest)))
  read_same (p ⨾ q) s e x ts = let b = then_good g k s p q e in bind_both (read g n fr h1 u p x ts) (read g n fr h2 u p x ts) (λ y. read g n fr h1 u q y.0 y.1) (λ y. read g n fr h2 u q y.0 y.1) (read_same p s b.one x ts) (λ a rest. read_same q (out g s p) b.two a rest)
  read_same (p ∣ q) s e x ts = let b = or_good g k s p q e in
      ap (λ v. cond (head_is (λ t. has (g.kind t) (first g p x.0)) ts) v (read g n fr h1 u q x ts)) (read_same p s b.one x ts)
      ∙ ap (λ v. cond (head_is (λ t. has (g.kind t) (first g p x.0)) ts) (read g n fr h2 u p x ts) v) (read_same q s b.two x ts)
  read_same (many p) s e x ts = let b = many_good g k s p e in loop_same (λ y t. has (g.kind t) (first g p y.0)) (λ y. read g n fr h1 u p y.0 y.1) (λ y. read g n fr h2 u p y.0 y.1) (λ y ts. read_same p (loop_stand g s p) b.one y ts) (length ts) x ts
  read_same (when c p) s e x ts = ap (λ v. cond (c x.0) v (Bad ts)) (read_same p s (when_good g k s c p e).0 x ts)
  read_same (seen v p) s e x ts = seen_same (v x.0) (λ b. read g n fr h1 u p (b, x.1)) (λ b. read g n fr h2 u p (b, x.1)) ts (λ b. read_same p s (seen_good g k s v p e).0 (b, x.1) ts)
  read_same (room p) s e x ts = ap (λ v. cond (fits n x.1) v (deep_at (λ t. has (g.kind t) (first g p x.0)) ts)) (read_same p (enter s) (room_good g k s p e).0 x ts)
  read_same (lift lf p) s e x ts = ap (λ v. cond (nat_le (1 + x.1) n) v (deep_at (λ t. has (g.kind t) (first g p (lf x.0))) ts)) (read_same p parts (lift_good g k s lf p e).0 (lf x.0, 1 + x.1) ts)
  read_same (until c tk f i d p) s e x ts = let b = until_good g k s c tk f i d p e in ap (λ v. pass_at (shown c) v) (loop_same (λ y t. has (g.kind t) (first g d (tk y.0) ++ first g p (tk y.0)))
      (λ y. guard_at (takes (is_some (c y.0.0)) n y.0.1) (λ t. has (g.kind t) (first g d (tk y.0.0) ++ first g p (tk y.0.0))) (λ ts. cond (head_is (λ t. has (g.kind t) (first g d (tk y.0.0))) ts) (read g n fr h1 u d (tk y.0.0, taken (is_some (c y.0.0)) y.0.1) ts >>= λ z. Found (f z.0.0, z.0.1) z.1) (read g n fr h1 u p (tk y.0.0, taken (is_some (c y.0.0)) y.0.1) ts)) y.1)
      (λ y. guard_at (takes (is_some (c y.0.0)) n y.0.1) (λ t. has (g.kind t) (first g d (tk y.0.0) ++ first g p (tk y.0.0))) (λ ts. cond (head_is (λ t. has (g.kind t) (first g d (tk y.0.0))) ts) (read g n fr h2 u d (tk y.0.0, taken (is_some (c y.0.0)) y.0.1) ts >>= λ z. Found (f z.0.0, z.0.1) z.1) (read g n fr h2 u p (tk y.0.0, taken (is_some (c y.0.0)) y.0.1) ts)) y.1)
      (λ y ts. ap (λ v. cond (takes (is_some (c y.0)) n y.1) v (deep_at (λ t. has (g.kind t) (first g d (tk y.0) ++ first g p (tk y.0))) ts))
      (ap (λ v. cond (head_is (λ t. has (g.kind t) (first g d (tk y.0))) ts) (v >>= λ z. Found (f z.0.0, z.0.1) z.1) (read g n fr h1 u p (tk y.0, taken (is_some (c y.0)) y.1) ts)) (read_same d low b.one (tk y.0, taken (is_some (c y.0)) y.1) ts)
      ∙ ap (λ v. cond (head_is (λ t. has (g.kind t) (first g d (tk y.0))) ts) (read g n fr h2 u d (tk y.0, taken (is_some (c y.0)) y.1) ts >>= λ z. Found (f z.0.0, z.0.1) z.1) v) (read_same p low b.two (tk y.0, taken (is_some (c y.0)) y.1) ts))) (length ts) x ts)

steps_case : (g : Grammar) (n : ℕ) (fr : FarReaders g) (u : Readers g) (k : ℕ) (r : g.Name) → below (g.rank r) (suc k) ≡ true → (ts : List g.Tok)
    → (below (g.rank r) k ≡ true → steps g n fr u k r ts ≡ read g n fr (steps g n fr u (g.rank r)) u (g.body r) (g.empty, 0) ts)
    → steps g n fr u (suc k) r ts ≡ read g n fr (steps g n fr u (g.rank r)) u (g.body r) (g.empty, 0) ts
unfolding steps
steps_case g n fr u k r i ts rest = go (k == g.rank r) refl
  where
    go : (b : Bool) → (k == g.rank r) ≡ b → cond b (read g n fr (steps g n fr u k) u (g.body r) (g.empty, 0)) (steps g n fr u k r) ts ≡ read g n fr (steps g n fr u (g.rank r)) u (g.body r) (g.empty, 0) ts
    go true j = ap (λ v. read g n fr (steps g n fr u v) u (g.body r) (g.empty, 0) ts) (same_number k (g.rank r) j)
    go false j = rest (one_less (g.rank r) k i j)

steps_at : (g : Grammar) (n : ℕ) (fr : FarReaders g) (u : Readers g) (k : ℕ) (r : g.Name) → below (g.rank r) k ≡ true → (ts : List g.Tok) → steps g n fr u k r ts ≡ read g n fr (steps g n fr u (g.rank r)) u (g.body r) (g.empty, 0) ts
steps_at g n fr u zero r i ts = no_line (g.rank r) i
steps_at g n fr u (suc k) r i ts = steps_case g n fr u k r i ts (λ j. steps_at g n fr u k r j ts)

below_all : (a b c : ℕ) → below a b ≡ true → below b c ≡ true → below a c ≡ true
below_all a b c e d = grind (arith, common_steps)

-- THE READER OF A LINE is that of its body
pub reader_line : (g : Grammar) → IsGood g → (fr : FarReaders g) (n : ℕ) (r : g.Name) (ts : List g.Tok) → readers g fr (suc n) r ts ≡ read g n fr (readers g fr (suc n)) (readers g fr n) (g.body r) (g.empty, 0) ts
unfolding readers
reader_line g ok fr n r ts = let e = line_good g r (ok r) in
    steps_at g n fr (readers g fr n) g.ranks r e.inside ts
    ∙ read_same g n (g.rank r) fr (steps g n fr (readers g fr n) (g.rank r)) (steps g n fr (readers g fr n) g.ranks) (readers g fr n)
    (λ q i ts. steps_at g n fr (readers g fr n) (g.rank r) q i ts ∙ sym (steps_at g n fr (readers g fr n) g.ranks q (below_all (g.rank q) (g.rank r) g.ranks i e.inside) ts))
    (g.body r) bare e.good_body (g.empty, 0) ts

pub no_levels : (g : Grammar) (fr : FarReaders g) (r : g.Name) (ts : List g.Tok) → readers g fr 0 r ts ≡ deep_at (λ t. has (g.kind t) (g.begins r)) ts
unfolding readers
no_levels g fr r ts = refl

not_found : {T A : Type 0} (c : T → Bool) (ts : List T) (t : A) (rest : List T) → deep_at c ts ≡ Found t rest → ⊥
not_found c [] t rest e = absurd (cc)
not_found {T} {A} c (h ∷ z) t rest e = go (c h) e
  where
    go : (b : Bool) → cond {A = Read T A} b (Deep (h ∷ z)) (Bad (h ∷ z)) ≡ Found t rest → ⊥
    go true e = absurd (cc)
    go false e = absurd (cc)

-- each line takes a token
pub reader_takes : (g : Grammar) → IsGood g → (fl fm : Fars g) (fr : FarReaders g) → FarRules g (Unit {0}) fl fm fr
    → (n : ℕ) (r : g.Name) (ts : List g.Tok) (y : g.El (g.sort r) × ℕ) (rest : List g.Tok) → readers g fr n r ts ≡ Found y rest → length rest < length ts
reader_takes g ok fl fm fr f zero r ts y rest e = absurd (not_found _ ts y rest (sym (no_levels g fr r ts) ∙ e))
reader_takes g ok fl fm fr f (suc n) r ts y rest e = rule_takes (line_rule g ok fl fm fr f r n) ts y rest e
