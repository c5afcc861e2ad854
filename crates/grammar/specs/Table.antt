-- A GRAMMAR AS A TABLE: a line's body is data, made of these parts. The value read so far goes through a line from left to right: a part of sorts S and A gets one of S and gives one of A.
use Rattle.std.specs.Prelude.{◌≡◌, ℕ, ◌+◌, max, ◌==◌, Bool, true, cond, List, [], ◌∷◌, ◌++◌, Option, Some, None}
use Rattle.std.proofs.Common.{zero, suc}
use Rattle.parsing.specs.Reading.{has, is_some}

-- How high the parts of a node are that was counted already; and what is taken up again: a value that isn't complete is counted with the node that it must become a part of.
abbrev pub less : ℕ → ℕ
less zero = 0
less (suc h) = h

abbrev pub taken : Bool → ℕ → ℕ
taken c h = cond c h (less h)

infixl 6 ◌⨾◌
infixr 5 ◌∣◌
pub data Part (T Sort Name Far : Type 0) (El : Sort → Type 0) (sort : Name → Sort) (far_sort : Far → Sort) : Sort → Sort → Type 0 where
  -- a token whose kind is in the set
  token : {S A : Sort} → List ℕ → (El S → T → El A) → Part T Sort Name Far El sort far_sort S A
  -- nothing
  give : {S A : Sort} → (El S → El A) → Part T Sort Name Far El sort far_sort S A
  -- nothing: the parts read so far make a node, one level above them
  node : {S A : Sort} → (El S → El A) → Part T Sort Name Far El sort far_sort S A
  -- what a lower line reads, at this level
  line : {S A : Sort} (r : Name) → (El S → El (sort r) → El A) → Part T Sort Name Far El sort far_sort S A
  -- what a line reads, one level deeper
  inner : {S A : Sort} (r : Name) → (El S → El (sort r) → El A) → Part T Sort Name Far El sort far_sort S A
  -- what a lower line reads, whose node takes in the parts read so far
  join : {S A : Sort} (r : Name) → (El S → El (sort r) → El A) → Part T Sort Name Far El sort far_sort S A
  -- what a line of another grammar reads
  far : {S A : Sort} (q : Far) → (El S → El (far_sort q) → El A) → Part T Sort Name Far El sort far_sort S A
  -- where the next two tokens are of the kinds c and d, these and p; else what a line of another grammar reads
  fork : {S A B : Sort} (c d : ℕ) (f : El S → T → T → El B) → Part T Sort Name Far El sort far_sort B A → (q : Far) → (El S → El (far_sort q) → El A) → Part T Sort Name Far El sort far_sort S A
  ◌⨾◌ : {S A B : Sort} → Part T Sort Name Far El sort far_sort S A → Part T Sort Name Far El sort far_sort A B → Part T Sort Name Far El sort far_sort S B
  ◌∣◌ : {S A : Sort} → Part T Sort Name Far El sort far_sort S A → Part T Sort Name Far El sort far_sort S A → Part T Sort Name Far El sort far_sort S A
  many : {S : Sort} → Part T Sort Name Far El sort far_sort S S → Part T Sort Name Far El sort far_sort S S
  -- only where the value passes
  when : {S A : Sort} → (El S → Bool) → Part T Sort Name Far El sort far_sort S A → Part T Sort Name Far El sort far_sort S A
  -- only where a level is left below the parts read so far
  room : {S A : Sort} → Part T Sort Name Far El sort far_sort S A → Part T Sort Name Far El sort far_sort S A
  -- only where two levels are left: the parts read so far make a node that is a part again
  lift : {S B A : Sort} → (El S → El B) → Part T Sort Name Far El sort far_sort B A → Part T Sort Name Far El sort far_sort S A
  -- only where the value is seen as another
  seen : {S B A : Sort} → (El S → Option (El B)) → Part T Sort Name Far El sort far_sort B A → Part T Sort Name Far El sort far_sort S A
  -- e or p, again and again, ending only where the value is seen as another; e always makes one that is. A value that isn't is counted one level higher, with the node that it must become a part of.
  until : {S A B D : Sort} (c : El S → Option (El D)) (tk : El S → El B) (f : El A → El S) → ((a : El A) → is_some (c (f a)) ≡ true) → Part T Sort Name Far El sort far_sort B A → Part T Sort Name Far El sort far_sort B S → Part T Sort Name Far El sort far_sort S D

-- ONE OF SEVERAL TOKENS, each of which stands for something: the rows of an operator's table, the first apart
abbrev pub one_of : {T Sort Name Far : Type 0} {El : Sort → Type 0} {sort : Name → Sort} {far_sort : Far → Sort} {S A : Sort} {V : Type 0} → (El S → T → V → El A) → ℕ × V → List (ℕ × V) → Part T Sort Name Far El sort far_sort S A
one_of f x [] = token (x.0 ∷ []) (λ s t. f s t x.1)
one_of f x (y ∷ ys) = token (x.0 ∷ []) (λ s t. f s t x.1) ∣ one_of f y ys

-- the tokens of such a table
abbrev pub keys : {V : Type 0} → List (ℕ × V) → List ℕ
keys [] = []
keys (x ∷ xs) = x.0 ∷ keys xs

-- what a kind stands for, if it is in the table
abbrev pub lookup_key : {V : Type 0} → List (ℕ × V) → ℕ → Option V
lookup_key [] k = None
lookup_key (x ∷ xs) k = cond (k == x.0) (Some x.1) (lookup_key xs k)

pub record Grammar : Type 1 where
  pub Tok : Type 0
  pub kind : Tok → ℕ
  -- a token of a kind
  pub sample : ℕ → Tok
  -- the sorts of values
  pub Sort : Type 0
  pub El : Sort → Type 0
  -- the value that a line starts from
  pub start : Sort
  pub empty : El start
  -- the lines; each is made of lower ones
  pub Name : Type 0
  pub sort : Name → Sort
  pub rank : Name → ℕ
  pub ranks : ℕ
  -- lines of other grammars
  pub Far : Type 0
  pub far_sort : Far → Sort
  pub far_begins : Far → List ℕ
  pub far_goes : Far → List ℕ
  -- whether a line begins with the kind c, at whatever level, but never with c and d
  pub forked : Far → (c d : ℕ) → Bool
  -- with which kinds a line begins, and which may go on behind what it has read
  pub begins : Name → List ℕ
  pub goes : Name → List ℕ
  pub body : (r : Name) → Part Tok Sort Name Far El sort far_sort start (sort r)

-- a part of the grammar g
abbrev pub In : (g : Grammar) → g.Sort → g.Sort → Type 0
In g S A = Part g.Tok g.Sort g.Name g.Far g.El g.sort g.far_sort S A

-- what the lines of other grammars read
abbrev pub Fars : Grammar → Type 1
Fars g = (q : g.Far) → List g.Tok → g.El (g.far_sort q) → Type 0

-- READINGS. Reads g f S A p s h w a k: with the value s before it, and the parts so far h levels high, the part p reads the tokens w and gives a, and the parts are k high.
pub data Reads (g : Grammar) (fl : Fars g) : (S A : g.Sort) → In g S A → g.El S → ℕ → List g.Tok → g.El A → ℕ → Type 0 where
  by_token : {S A : g.Sort} {F : List ℕ} {f : g.El S → g.Tok → g.El A} {s : g.El S} {h : ℕ} (t : g.Tok) → has (g.kind t) F ≡ true → Reads g fl S A (token F f) s h (t ∷ []) (f s t) h
  by_give : {S A : g.Sort} {f : g.El S → g.El A} {s : g.El S} {h : ℕ} → Reads g fl S A (give f) s h [] (f s) h
  by_node : {S A : g.Sort} {f : g.El S → g.El A} {s : g.El S} {h : ℕ} → Reads g fl S A (node f) s h [] (f s) (1 + h)
  by_line : {S A : g.Sort} {r : g.Name} {f : g.El S → g.El (g.sort r) → g.El A} {s : g.El S} {h : ℕ} {w : List g.Tok} {t : g.El (g.sort r)} {k : ℕ}
      → Reads g fl g.start (g.sort r) (g.body r) g.empty 0 w t k → Reads g fl S A (line r f) s h w (f s t) (max h k)
  by_inner : {S A : g.Sort} {r : g.Name} {f : g.El S → g.El (g.sort r) → g.El A} {s : g.El S} {h : ℕ} {w : List g.Tok} {t : g.El (g.sort r)} {k : ℕ}
      → Reads g fl g.start (g.sort r) (g.body r) g.empty 0 w t k → Reads g fl S A (inner r f) s h w (f s t) (max h k)
  by_far : {S A : g.Sort} {q : g.Far} {f : g.El S → g.El (g.far_sort q) → g.El A} {s : g.El S} {h : ℕ} {w : List g.Tok} {t : g.El (g.far_sort q)} → fl q w t → Reads g fl S A (far q f) s h w (f s t) h
  both : {S A B : g.Sort} {p : In g S A} {q : In g A B} {s : g.El S} {a : g.El A} {b : g.El B} {h i j : ℕ} {u v : List g.Tok}
      → Reads g fl S A p s h u a i → Reads g fl A B q a i v b j → Reads g fl S B (p ⨾ q) s h (u ++ v) b j
  left : {S A : g.Sort} {p q : In g S A} {s : g.El S} {a : g.El A} {h i : ℕ} {w : List g.Tok} → Reads g fl S A p s h w a i → Reads g fl S A (p ∣ q) s h w a i
  right : {S A : g.Sort} {p q : In g S A} {s : g.El S} {a : g.El A} {h i : ℕ} {w : List g.Tok} → Reads g fl S A q s h w a i → Reads g fl S A (p ∣ q) s h w a i
  done : {S : g.Sort} {p : In g S S} {s : g.El S} {h : ℕ} → Reads g fl S S (many p) s h [] s h
  again : {S : g.Sort} {p : In g S S} {s a b : g.El S} {h i j : ℕ} {u v : List g.Tok} → Reads g fl S S p s h u a i → Reads g fl S S (many p) a i v b j → Reads g fl S S (many p) s h (u ++ v) b j
  by_when : {S A : g.Sort} {c : g.El S → Bool} {p : In g S A} {s : g.El S} {a : g.El A} {h i : ℕ} {w : List g.Tok} → c s ≡ true → Reads g fl S A p s h w a i → Reads g fl S A (when c p) s h w a i
  by_room : {S A : g.Sort} {p : In g S A} {s : g.El S} {a : g.El A} {h i : ℕ} {w : List g.Tok} → Reads g fl S A p s h w a i → Reads g fl S A (room p) s h w a i
  by_join : {S A : g.Sort} {r : g.Name} {f : g.El S → g.El (g.sort r) → g.El A} {s : g.El S} {h : ℕ} {w : List g.Tok} {t : g.El (g.sort r)} {k : ℕ}
      → Reads g fl g.start (g.sort r) (g.body r) g.empty 0 w t k → Reads g fl S A (join r f) s h w (f s t) (max (1 + h) k)
  by_lift : {S B A : g.Sort} {lf : g.El S → g.El B} {p : In g B A} {s : g.El S} {a : g.El A} {h i : ℕ} {w : List g.Tok} → Reads g fl B A p (lf s) (1 + h) w a i → Reads g fl S A (lift lf p) s h w a i
  by_fork : {S A B : g.Sort} {c d : ℕ} {f : g.El S → g.Tok → g.Tok → g.El B} {p : In g B A} {q : g.Far} {j : g.El S → g.El (g.far_sort q) → g.El A} {s : g.El S} {a : g.El A} {h i : ℕ} {w : List g.Tok} (t u : g.Tok) → has (g.kind t) (c ∷ []) ≡ true → has (g.kind u) (d ∷ []) ≡ true
      → Reads g fl B A p (f s t u) h w a i → Reads g fl S A (fork c d f p q j) s h (t ∷ u ∷ w) a i
  by_other : {S A B : g.Sort} {c d : ℕ} {f : g.El S → g.Tok → g.Tok → g.El B} {p : In g B A} {q : g.Far} {j : g.El S → g.El (g.far_sort q) → g.El A} {s : g.El S} {h : ℕ} {w : List g.Tok} {t : g.El (g.far_sort q)} → fl q w t → Reads g fl S A (fork c d f p q j) s h w (j s t) h
  by_seen : {S B A : g.Sort} {v : g.El S → Option (g.El B)} {p : In g B A} {s : g.El S} {b : g.El B} {a : g.El A} {h i : ℕ} {w : List g.Tok} → v s ≡ Some b → Reads g fl B A p b h w a i → Reads g fl S A (seen v p) s h w a i
  passed : {S A B D : g.Sort} {c : g.El S → Option (g.El D)} {tk : g.El S → g.El B} {f : g.El A → g.El S} {y : (a : g.El A) → is_some (c (f a)) ≡ true} {e : In g B A} {p : In g B S} {s : g.El S} {d : g.El D} {h : ℕ} → c s ≡ Some d → Reads g fl S D (until c tk f y e p) s h [] d h
  by_last : {S A B D : g.Sort} {c : g.El S → Option (g.El D)} {tk : g.El S → g.El B} {f : g.El A → g.El S} {y : (a : g.El A) → is_some (c (f a)) ≡ true} {e : In g B A} {p : In g B S} {s : g.El S} {d : g.El D} {a : g.El A} {h i j : ℕ} {u v : List g.Tok}
      → Reads g fl B A e (tk s) (taken (is_some (c s)) h) u a i → Reads g fl S D (until c tk f y e p) (f a) i v d j → Reads g fl S D (until c tk f y e p) s h (u ++ v) d j
  by_more : {S A B D : g.Sort} {c : g.El S → Option (g.El D)} {tk : g.El S → g.El B} {f : g.El A → g.El S} {y : (a : g.El A) → is_some (c (f a)) ≡ true} {e : In g B A} {p : In g B S} {s a : g.El S} {d : g.El D} {h i j : ℕ} {u v : List g.Tok}
      → Reads g fl B S p (tk s) (taken (is_some (c s)) h) u a i → Reads g fl S D (until c tk f y e p) a i v d j → Reads g fl S D (until c tk f y e p) s h (u ++ v) d j

-- WHAT A LINE READS: a value and how high it is
abbrev pub Line : (g : Grammar) (fl : Fars g) (r : g.Name) → List g.Tok → g.El (g.sort r) × ℕ → Type 0
Line g fl r w x = Reads g fl g.start (g.sort r) (g.body r) g.empty 0 w x.0 x.1
