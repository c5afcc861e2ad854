-- THE READER OF A PART WITHOUT HEIGHTS, as code goes along it: by the next token, with what is read behind the part, and what is read where it doesn't begin.
use Rattle.std.specs.Prelude.{◌≡◌, ℕ, Bool, true, false, cond, not, ◌&&◌, List, [], ◌∷◌, Option, Some, None}
use Rattle.parsing.specs.Reading.{Read, Found, Bad, Deep, ◌>>=◌, head_is, many_at, deep_at, seen_or, has}
use Rattle.grammar.specs.Table.{token, give, node, line, inner, join, far, fork, ◌⨾◌, ◌∣◌, many, when, room, lift, seen, until, Grammar, In}
use Rattle.grammar.specs.Levels.{FarReaders, first, nul}
use Rattle.grammar_code.specs.Walk.{first_of, wanted, starts_with, pick}

-- without the height
abbrev pub plain : {T A : Type 0} → Read T (A × ℕ) → Read T A
plain (Found x rest) = Found x.0 rest
plain (Bad rest) = Bad rest
plain (Deep rest) = Deep rest

abbrev pub Lines : Grammar → Type 0
Lines g = (r : g.Name) → List g.Tok → Read g.Tok (g.El (g.sort r))

abbrev pub found : {T A : Type 0} → A × List T → Read T A
found x = Found x.0 x.1

-- x where one of a set stands, else z; where there is no z, x has to stand here
abbrev pub enter_or : {T R : Type 0} → (T → ℕ) → List ℕ → List T → R → Option R → R
enter_or kind F ts x None = x
enter_or kind F ts x (Some z) = cond (starts_with kind F ts) x z

abbrev pub stood : {T C : Type 0} → (T → ℕ) → List ℕ → List T → (T × List T → Read T C) → Option (Read T C) → Read T C
stood kind F ts k None = wanted kind F ts >>= k
stood kind F ts k (Some z) = pick (first_of kind F ts) k z

-- two tokens, and those behind them
abbrev pub both_of : {T : Type 0} → (T → ℕ) → (c d : ℕ) → List T → Option (T × T × List T)
both_of kind c d ts = pick (first_of kind (c ∷ []) ts) (λ o. pick (first_of kind (d ∷ []) o.1) (λ u. Some (o.0, u.0, u.1)) None) None

module _ (g : Grammar) (left : Bool) (fr : FarReaders g) (here below : Lines g) where
  abbrev pub flat : {S A : g.Sort} {C : Type 0} → In g S A → g.El S → List g.Tok → (g.El A × List g.Tok → Read g.Tok C) → Option (Read g.Tok C) → Read g.Tok C
  flat (token F f) s ts k z = stood g.kind F ts (λ o. k (f s o.0, o.1)) z
  flat (give f) s ts k z = k (f s, ts)
  flat (node f) s ts k z = k (f s, ts)
  flat (line r f) s ts k z = enter_or g.kind (g.begins r) ts (here r ts >>= λ y. k (f s y.0, y.1)) z
  flat (inner r f) s ts k z = enter_or g.kind (g.begins r) ts (below r ts >>= λ y. k (f s y.0, y.1)) z
  flat (far q f) s ts k z = enter_or g.kind (g.far_begins q) ts (fr q ts >>= λ y. k (f s y.0, y.1)) z
  flat (fork c d f p q j) s ts k z = enter_or g.kind (first g (fork c d f p q j) s) ts (pick (both_of g.kind c d ts) (λ o. flat p (f s o.0 o.1) o.2 k None) (fr q ts >>= λ y. k (j s y.0, y.1))) z
  flat (p ⨾ q) s ts k z = flat p s ts (λ y. flat q y.0 y.1 k None) z
  flat (p ∣ q) s ts k z = flat p s ts k (Some (flat q s ts k z))
  flat (many p) s ts k z = many_at (λ s t. has (g.kind t) (first g p s)) (λ y. flat p y.0 y.1 found None) (s, ts) >>= k
  flat (when c p) s ts k None = cond (c s) (flat p s ts k None) (Bad ts)
  flat (when c p) s ts k (Some z) = cond (c s) (flat p s ts k (Some z)) z
  flat (seen v p) s ts k None = seen_or (Bad ts) (λ b. flat p b ts k None) (v s)
  flat (seen v p) s ts k (Some z) = seen_or z (λ b. flat p b ts k (Some z)) (v s)
  flat (room p) s ts k None = cond left (flat p s ts k None) (deep_at (λ t. has (g.kind t) (first g p s)) ts)
  flat (room p) s ts k (Some z) = cond (starts_with g.kind (first g p s) ts) (cond left (flat p s ts k None) (Deep ts)) z
  flat (join r f) s ts k z = Bad ts
  flat (lift lf p) s ts k z = Bad ts
  flat (until c tk f i e p) s ts k z = Bad ts

-- Whether a part asks for a level at its start alone, where nothing has been read; what stands before others must take a token.
abbrev pub calm : (g : Grammar) → (start : Bool) → {S A : g.Sort} → In g S A → Bool
calm g b (token F f) = true
calm g b (give f) = true
calm g b (node f) = true
calm g b (line r f) = true
calm g b (inner r f) = true
calm g b (far q f) = true
calm g b (fork c d f p q j) = calm g b p
calm g b (p ⨾ q) = not (nul g p) && (calm g b p && calm g false q)
calm g b (p ∣ q) = not (nul g p) && (calm g b p && calm g b q)
calm g b (many p) = calm g false p
calm g b (when c p) = calm g b p && not (nul g p)
calm g b (seen v p) = calm g b p && not (nul g p)
calm g b (room p) = b && (calm g b p && not (nul g p))
calm g b (join r f) = false
calm g b (lift lf p) = false
calm g b (until c tk f i e p) = false
