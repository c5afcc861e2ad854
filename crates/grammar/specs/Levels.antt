-- The same with a number of levels: languages and readers.
use Rattle.std.specs.Prelude.{◌≡◌, ℕ, ◌+◌, ◌==◌, max, Bool, true, false, cond, not, ◌&&◌, ◌||◌, nat_le, List, [], ◌∷◌, ◌++◌, Option, Some, None}
use Rattle.std.proofs.Common.{zero, suc}
use Rattle.parsing.specs.Reading.{Read, Found, Bad, ◌>>=◌, head_is, one_at, many_at, when_at, guard_at, pass_at, seen_at, seen_or, is_some, deep_at, Then, Or, Nothing, One, Loop, When, Pass, Seen, has, apart, both_are}
use Rattle.grammar.specs.Table.{token, give, node, line, inner, join, far, fork, ◌⨾◌, ◌∣◌, many, when, room, lift, seen, until, less, taken, lookup_key, Grammar, In, Fars}

-- the languages of all lines, and their readers
abbrev pub Langs : Grammar → Type 1
Langs g = (r : g.Name) → List g.Tok → g.El (g.sort r) × ℕ → Type 0

abbrev pub Readers : Grammar → Type 0
Readers g = (r : g.Name) → List g.Tok → Read g.Tok (g.El (g.sort r) × ℕ)

abbrev pub FarReaders : Grammar → Type 0
FarReaders g = (q : g.Far) → List g.Tok → Read g.Tok (g.El (g.far_sort q))

abbrev pub fits : (n h : ℕ) → Bool
fits n h = nat_le (max 1 h) n

-- whether a value can be taken up
abbrev pub takes : (c : Bool) (n h : ℕ) → Bool
takes c n h = cond c (nat_le h n) true

-- the value that is seen, as high as the one that it is seen of
abbrev pub as_high : {A : Type 0} → ℕ → Option A → Option (A × ℕ)
as_high h None = None
as_high h (Some d) = Some (d, h)

abbrev pub shown : {A B : Type 0} → (A → Option B) → A × ℕ → Option (B × ℕ)
shown c y = as_high y.1 (c y.0)

abbrev pub lang : (g : Grammar) (n : ℕ) (fl : Fars g) (here below : Langs g) {S A : g.Sort} → In g S A → g.El S × ℕ → List g.Tok → g.El A × ℕ → Type 0
lang g n fl here below (token F f) x = One (λ t. has (g.kind t) F) (λ t. (f x.0 t, x.1))
lang g n fl here below (give f) x = Nothing (f x.0, x.1)
lang g n fl here below (node f) x = Nothing (f x.0, 1 + x.1)
lang g n fl here below (line r f) x = Then (here r) (λ y. Nothing (f x.0 y.0, max x.1 y.1))
lang g n fl here below (inner r f) x = Then (below r) (λ y. Nothing (f x.0 y.0, max x.1 y.1))
lang g n fl here below (join r f) x = Then (here r) (λ y. Nothing (f x.0 y.0, max (1 + x.1) y.1))
lang g n fl here below (far q f) x = Then (fl q) (λ y. Nothing (f x.0 y, x.1))
lang g n fl here below (fork c d f p q j) x = Or (Then (One (λ t. has (g.kind t) (c ∷ [])) (λ t. t)) (λ t. Then (One (λ u. has (g.kind u) (d ∷ [])) (λ u. (f x.0 t u, x.1))) (λ y. lang g n fl here below p y))) (Then (fl q) (λ y. Nothing (j x.0 y, x.1)))
lang g n fl here below (p ⨾ q) x = Then (lang g n fl here below p x) (λ y. lang g n fl here below q y)
lang g n fl here below (p ∣ q) x = Or (lang g n fl here below p x) (lang g n fl here below q x)
lang g n fl here below (many p) x = Loop (λ y. lang g n fl here below p y) x
lang g n fl here below (when c p) x = When (c x.0) (lang g n fl here below p x)
lang g n fl here below (room p) x = When (fits n x.1) (lang g n fl here below p x)
lang g n fl here below (lift lf p) x = When (nat_le (1 + x.1) n) (lang g n fl here below p (lf x.0, 1 + x.1))
lang g n fl here below (seen v p) x = Seen (v x.0) (λ b. lang g n fl here below p (b, x.1))
lang g n fl here below (until c tk f i e p) x = Pass (shown c) (Loop (λ y. When (takes (is_some (c y.0)) n y.1) (Or (Then (lang g n fl here below e (tk y.0, taken (is_some (c y.0)) y.1)) (λ z. Nothing (f z.0, z.1))) (lang g n fl here below p (tk y.0, taken (is_some (c y.0)) y.1)))) x)

-- with which kinds a part begins: at a value, and at any; and which may go on behind what it has read
abbrev pub first : (g : Grammar) {S A : g.Sort} → In g S A → g.El S → List ℕ
first g (token F f) s = F
first g (give f) s = []
first g (node f) s = []
first g (line r f) s = g.begins r
first g (inner r f) s = g.begins r
first g (join r f) s = g.begins r
first g (far q f) s = g.far_begins q
first g (fork c d f p q j) s = (c ∷ []) ++ g.far_begins q
first g (p ⨾ q) s = first g p s
first g (p ∣ q) s = first g p s ++ first g q s
first g (many p) s = first g p s
first g (when c p) s = cond (c s) (first g p s) []
first g (room p) s = first g p s
first g (lift lf p) s = first g p (lf s)
first g (seen v p) s = seen_or [] (λ b. first g p b) (v s)
first g (until c tk f i e p) s = first g e (tk s) ++ first g p (tk s)

abbrev pub first_set : (g : Grammar) {S A : g.Sort} → In g S A → List ℕ
first_set g (token F f) = F
first_set g (give f) = []
first_set g (node f) = []
first_set g (line r f) = g.begins r
first_set g (inner r f) = g.begins r
first_set g (join r f) = g.begins r
first_set g (far q f) = g.far_begins q
first_set g (fork c d f p q j) = (c ∷ []) ++ g.far_begins q
first_set g (p ⨾ q) = first_set g p
first_set g (p ∣ q) = first_set g p ++ first_set g q
first_set g (many p) = first_set g p
first_set g (when c p) = first_set g p
first_set g (room p) = first_set g p
first_set g (lift lf p) = first_set g p
first_set g (seen v p) = first_set g p
first_set g (until c tk f i e p) = first_set g e ++ first_set g p

-- whether it reads nothing too
abbrev pub nul : (g : Grammar) {S A : g.Sort} → In g S A → Bool
nul g (give f) = true
nul g (node f) = true
nul g (p ∣ q) = nul g q
nul g (many p) = true
nul g (until c tk f i e p) = true
nul g (token F f) = false
nul g (line r f) = false
nul g (inner r f) = false
nul g (join r f) = false
nul g (far q f) = false
nul g (fork c d f p q j) = false
nul g (p ⨾ q) = false
nul g (when c p) = false
nul g (room p) = false
nul g (lift lf p) = false
nul g (seen v p) = false

abbrev pub goes : (g : Grammar) {S A : g.Sort} → In g S A → List ℕ
goes g (token F f) = []
goes g (give f) = []
goes g (node f) = []
goes g (line r f) = g.goes r
goes g (inner r f) = g.goes r
goes g (join r f) = g.goes r
goes g (far q f) = g.far_goes q
goes g (fork c d f p q j) = ((goes g p ++ cond (nul g p) [] []) ++ []) ++ (((d ∷ []) ++ g.far_goes q) ++ [])
goes g (p ⨾ q) = goes g q ++ cond (nul g q) (goes g p) []
goes g (p ∣ q) = goes g p ++ (goes g q ++ cond (nul g q) (first_set g p) [])
goes g (many p) = goes g p ++ first_set g p
goes g (when c p) = goes g p
goes g (room p) = goes g p
goes g (lift lf p) = goes g p
goes g (seen v p) = goes g p
goes g (until c tk f i e p) = (goes g e ++ (goes g p ++ [])) ++ (first_set g e ++ first_set g p)

-- THE READER of a part
abbrev pub read : (g : Grammar) (n : ℕ) (fr : FarReaders g) (here below : Readers g) {S A : g.Sort} → In g S A → g.El S × ℕ → List g.Tok → Read g.Tok (g.El A × ℕ)
read g n fr here below (token F f) x ts = one_at (λ t. has (g.kind t) F) (λ t. (f x.0 t, x.1)) ts
read g n fr here below (give f) x ts = Found (f x.0, x.1) ts
read g n fr here below (node f) x ts = Found (f x.0, 1 + x.1) ts
read g n fr here below (line r f) x ts = here r ts >>= λ y. Found (f x.0 y.0.0, max x.1 y.0.1) y.1
read g n fr here below (inner r f) x ts = below r ts >>= λ y. Found (f x.0 y.0.0, max x.1 y.0.1) y.1
read g n fr here below (join r f) x ts = here r ts >>= λ y. Found (f x.0 y.0.0, max (1 + x.1) y.0.1) y.1
read g n fr here below (far q f) x ts = fr q ts >>= λ y. Found (f x.0 y.0, x.1) y.1
read g n fr here below (fork c d f p q j) x ts = cond (both_are (λ t. has (g.kind t) (c ∷ [])) (λ u. has (g.kind u) (d ∷ [])) ts)
    (one_at (λ t. has (g.kind t) (c ∷ [])) (λ t. t) ts >>= λ t. one_at (λ u. has (g.kind u) (d ∷ [])) (λ u. (f x.0 t.0 u, x.1)) t.1 >>= λ y. read g n fr here below p y.0 y.1) (fr q ts >>= λ y. Found (j x.0 y.0, x.1) y.1)
read g n fr here below (p ⨾ q) x ts = read g n fr here below p x ts >>= λ y. read g n fr here below q y.0 y.1
read g n fr here below (p ∣ q) x ts = cond (head_is (λ t. has (g.kind t) (first g p x.0)) ts) (read g n fr here below p x ts) (read g n fr here below q x ts)
read g n fr here below (many p) x ts = many_at (λ y t. has (g.kind t) (first g p y.0)) (λ y. read g n fr here below p y.0 y.1) (x, ts)
read g n fr here below (when c p) x ts = when_at (c x.0) (read g n fr here below p x) ts
read g n fr here below (room p) x ts = guard_at (fits n x.1) (λ t. has (g.kind t) (first g p x.0)) (read g n fr here below p x) ts
read g n fr here below (lift lf p) x ts = guard_at (nat_le (1 + x.1) n) (λ t. has (g.kind t) (first g p (lf x.0))) (read g n fr here below p (lf x.0, 1 + x.1)) ts
read g n fr here below (seen v p) x ts = seen_at (v x.0) (λ b. read g n fr here below p (b, x.1)) ts
read g n fr here below (until c tk f i e p) x ts = pass_at (shown c) (many_at (λ y t. has (g.kind t) (first g e (tk y.0) ++ first g p (tk y.0))) (λ y. guard_at (takes (is_some (c y.0.0)) n y.0.1) (λ t. has (g.kind t) (first g e (tk y.0.0) ++ first g p (tk y.0.0)))
    (λ ts. cond (head_is (λ t. has (g.kind t) (first g e (tk y.0.0))) ts) (read g n fr here below e (tk y.0.0, taken (is_some (c y.0.0)) y.0.1) ts >>= λ z. Found (f z.0.0, z.0.1) z.1) (read g n fr here below p (tk y.0.0, taken (is_some (c y.0.0)) y.0.1) ts)) y.1) (x, ts))

-- the reader of one of several tokens, as code goes about it: by a look-up
abbrev pub chosen : {T V A : Type 0} → (T → V → A) → T → List T → Option V → Read T A
chosen f t ts None = Bad (t ∷ ts)
chosen f t ts (Some v) = Found (f t v) ts

abbrev pub one_of_at : {T V A : Type 0} → (T → ℕ) → (T → V → A) → List (ℕ × V) → List T → Read T A
one_of_at kind f xs [] = Bad []
one_of_at kind f xs (t ∷ ts) = chosen f t ts (lookup_key xs (kind t))

-- The lines: line k by those below it, and by all lines one level deeper
abbrev pub rungs : (g : Grammar) (n : ℕ) (fl : Fars g) (below : Langs g) → ℕ → Langs g
rungs g n fl below zero = λ r w x. ⊥
rungs g n fl below (suc k) = λ r. cond (k == g.rank r) (lang g n fl (rungs g n fl below k) below (g.body r) (g.empty, 0)) (rungs g n fl below k r)

abbrev pub level : (g : Grammar) → Fars g → ℕ → Langs g
level g fl zero = λ r w x. ⊥
level g fl (suc n) = rungs g n fl (level g fl n) g.ranks

unfoldable pub steps : (g : Grammar) (n : ℕ) (fr : FarReaders g) (below : Readers g) → ℕ → Readers g
steps g n fr below zero = λ r. deep_at (λ t. has (g.kind t) (g.begins r))
steps g n fr below (suc k) = λ r. cond (k == g.rank r) (read g n fr (steps g n fr below k) below (g.body r) (g.empty, 0)) (steps g n fr below k r)

unfoldable pub readers : (g : Grammar) → FarReaders g → ℕ → Readers g
readers g fr zero = λ r. deep_at (λ t. has (g.kind t) (g.begins r))
readers g fr (suc n) = steps g n fr (readers g fr n) g.ranks

-- WHAT IS CHECKED of a table, by computing. How high the parts read so far are: nothing is read; nothing, but a level is left; low enough to be parts of a node; a node; what is taken up, as parts but maybe of height 0.
pub data Stand : Type 0 where
  bare : Stand
  opened : Stand
  parts : Stand
  whole : Stand
  low : Stand

-- behind the test that a level is left
abbrev pub enter : Stand → Stand
enter bare = opened
enter opened = opened
enter parts = parts
enter whole = parts
enter low = opened

abbrev pub stand_order : Stand → ℕ
stand_order bare = 0
stand_order opened = 1
stand_order parts = 2
stand_order whole = 3
stand_order low = 4

abbrev pub alike : Stand → Stand → Bool
alike a b = stand_order a == stand_order b

-- what is low enough for parts, or nothing
abbrev pub loose : Stand → Bool
loose bare = true
loose parts = true
loose low = true
loose opened = false
loose whole = false

-- whether what stands so stands as that too
abbrev pub sub : Stand → Stand → Bool
sub a b = alike a b || (loose a && alike b low)

-- where either
abbrev pub meet : Stand → Stand → Stand
meet a b = cond (alike a b) b low

abbrev pub out : (g : Grammar) {S A : g.Sort} → Stand → In g S A → Stand
out g s (token F f) = s
out g s (give f) = s
out g s (node f) = whole
out g s (line r f) = whole
out g s (inner r f) = parts
out g s (join r f) = whole
out g s (far q f) = s
out g s (fork c d f p q j) = out g s p
out g s (p ⨾ q) = out g (out g s p) q
out g s (p ∣ q) = meet (out g s p) (out g s q)
out g s (many p) = meet (out g s p) s
out g s (when c p) = out g s p
out g s (room p) = out g (enter s) p
out g s (lift lf p) = out g parts p
out g s (seen v p) = out g s p
out g s (until c tk f i e p) = whole

-- whether a level is left
abbrev pub leveled : Stand → Bool
leveled bare = false
leveled opened = true
leveled parts = true
leveled whole = false
leveled low = false

abbrev pub is_whole : Stand → Bool
is_whole whole = true
is_whole bare = false
is_whole opened = false
is_whole parts = false
is_whole low = false

-- whether a lower line may be read
abbrev pub takes_line : Stand → Bool
takes_line bare = true
takes_line opened = false
takes_line parts = false
takes_line whole = true
takes_line low = false

-- whether what is one level deeper may be read
abbrev pub takes_inner : Stand → Bool
takes_inner bare = true
takes_inner opened = true
takes_inner parts = true
takes_inner whole = false
takes_inner low = true

-- whether a node may be made
abbrev pub closes : Stand → Bool
closes bare = true
closes opened = false
closes parts = true
closes whole = false
closes low = true

-- whether a part can always be read
abbrev pub able : (g : Grammar) {S A : g.Sort} → Stand → In g S A → Bool
able g s (token [] f) = false
able g s (token (k ∷ F) f) = has (g.kind (g.sample k)) (k ∷ F)
able g s (give f) = true
able g s (node f) = true
able g s (line r f) = true
able g s (inner r f) = leveled s
able g s (join r f) = true
able g s (far q f) = true
able g s (fork c d f p q j) = true
able g s (p ⨾ q) = able g s p && able g (out g s p) q
able g s (p ∣ q) = able g s p || able g s q
able g s (many p) = true
able g s (when c p) = false
able g s (room p) = false
able g s (lift lf p) = false
able g s (seen v p) = false
able g s (until c tk f i e p) = true

abbrev pub below : ℕ → ℕ → Bool
below r k = nat_le (suc r) k

-- Whether each token that it may begin with can be gone on with where levels are left: it doesn't begin with a deeper line of its own rank k or above. d: how many more levels may be asked for.
abbrev pub leads : (g : Grammar) (k d : ℕ) {S A : g.Sort} → In g S A → Bool
leads g k d (inner r f) = below (g.rank r) k
leads g k d (p ⨾ q) = leads g k d p
leads g k d (p ∣ q) = leads g k d p && leads g k d q
leads g k d (many p) = leads g k d p
leads g k d (when c p) = leads g k d p
leads g k d (room p) = leads g k d p
leads g k d (lift lf p) = nat_le 1 d && leads g k (less d) p
leads g k d (seen v p) = leads g k d p
leads g k d (until c tk f i e p) = leads g k d e && leads g k d p
leads g k d (token F f) = true
leads g k d (give f) = true
leads g k d (node f) = true
leads g k d (line r f) = true
leads g k d (join r f) = true
leads g k d (far q f) = true
leads g k d (fork x y f p q j) = true

-- k: the lines that may be named at this level
abbrev pub good : (g : Grammar) (k : ℕ) {S A : g.Sort} → Stand → In g S A → Bool
good g k s (token F f) = true
good g k s (give f) = true
good g k s (node f) = closes s
good g k s (line r f) = below (g.rank r) k && takes_line s
good g k s (inner r f) = takes_inner s
good g k s (join r f) = below (g.rank r) k && closes s
good g k s (far q f) = true
good g k s (fork c d f p q j) = (good g k s p && able g s p) && (alike (out g s p) s && (g.forked q c d && has (g.kind (g.sample d)) (d ∷ [])))
good g k s (p ⨾ q) = (good g k s p && good g k (out g s p) q) && (able g (out g s p) q && (not (nul g p) && apart (first_set g q) (goes g p)))
good g k s (p ∣ q) = (good g k s p && good g k s q) && ((sub (out g s p) (meet (out g s p) (out g s q)) && sub (out g s q) (meet (out g s p) (out g s q))) && (not (nul g p) && apart (first_set g p) (first_set g q)))
good g k s (many p) = good g k (meet (out g s p) s) p && ((sub s (meet (out g s p) s) && sub (out g (meet (out g s p) s) p) (meet (out g s p) s)) && (not (nul g p) && apart (first_set g p) (goes g p)))
good g k s (when c p) = good g k s p && not (nul g p)
good g k s (seen v p) = good g k s p && not (nul g p)
good g k s (room p) = good g k (enter s) p && (not (nul g p) && leads g k 1 p)
good g k s (lift lf p) = good g k parts p && (not (nul g p) && leads g k 0 p)
good g k s (until c tk f i e p) = ((is_whole s && able g low e) && (good g k low e && good g k low p)) && ((is_whole (out g low e) && is_whole (out g low p))
    && ((leads g k 1 e && leads g k 1 p) && ((not (nul g e) && not (nul g p)) && (apart (first_set g e) (first_set g p) && apart (first_set g e ++ first_set g p) (goes g e ++ (goes g p ++ []))))))

abbrev pub within : List ℕ → List ℕ → Bool
within [] ys = true
within (x ∷ xs) ys = has x ys && within xs ys

abbrev pub same_set : List ℕ → List ℕ → Bool
same_set xs ys = within xs ys && within ys xs

abbrev pub good_line : (g : Grammar) → g.Name → Bool
good_line g r = (((good g (g.rank r) bare (g.body r) && able g bare (g.body r)) && is_whole (out g bare (g.body r))) && below (g.rank r) g.ranks) && (leads g (g.rank r) 0 (g.body r) && (not (nul g (g.body r)) && (same_set (first g (g.body r) g.empty) (g.begins r) && within (goes g (g.body r)) (g.goes r))))

-- A GOOD TABLE: each line is
abbrev pub IsGood : Grammar → Type 0
IsGood g = (r : g.Name) → good_line g r ≡ true
