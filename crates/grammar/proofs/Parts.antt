-- The laws of parts: by induction over what a line is made of.
use Rattle.std.proofs.Common.{◌≡◌, ℕ, zero, suc, ◌≤◌, ◌+◌, max, nat_le, Bool, true, false, cond, not, ◌&&◌, inl, inr, List, [], ◌∷◌, ◌++◌, Option, Some, None, refl, sym, ap, ◌∙◌, subst, arith, append-nil}
use Rattle.parsing.specs.Reading.{Then, Or, Nothing, Loop, done, again, When, Pass, is_some, CanStart, CanGoOn, has, apart}
use Rattle.parsing.proofs.Sets.{no_false, has_left, has_right, has_either}
use Rattle.parsing.proofs.Rules.{start_then, go_then, start_nothing, start_loop, start_one, go_one, go_left, go_right, start_left, start_right, go_when}
use Rattle.parsing.proofs.Until.{start_pass, go_on}
use Rattle.parsing.proofs.Seen.{seen_with, seen_firsts, go_seen}
use Rattle.grammar.specs.Table.{less, taken, token, give, node, line, inner, join, far, fork, ◌⨾◌, ◌∣◌, many, when, room, lift, seen, until, Grammar, In, Fars}
use Rattle.grammar.specs.Levels.{Langs, takes, as_high, shown, lang, first, first_set, nul, goes, Stand, parts, whole, low, enter, leveled, closes, out, able, leads, below, good, sub, meet, takes_line}
use Rattle.grammar.proofs.Stands.{and_true, or_true, not_true, alike_same, is_whole_same, loosen, leveled_back, meet_same, sub_self, both_true, Know, le_of, of_le, node_know, line_know, join_know, inner_know, room_know, lift_know, take_know, taken_low, keeps}

-- what a check of a part says of its parts
pub record ThenGood (g : Grammar) (k : ℕ) (s : Stand) (S A B : g.Sort) (p : In g S A) (q : In g A B) : Type 0 where
  pub one : good g k s p ≡ true
  pub two : good g k (out g s p) q ≡ true
  pub able_two : able g (out g s p) q ≡ true
  pub solid : nul g p ≡ false
  pub clear : apart (first_set g q) (goes g p) ≡ true

pub then_good : (g : Grammar) (k : ℕ) (s : Stand) {S A B : g.Sort} (p : In g S A) (q : In g A B) → good g k s (p ⨾ q) ≡ true → ThenGood g k s S A B p q
then_good g k s p q e = let a = and_true _ _ e in let b = and_true _ _ a.0 in let c = and_true _ _ a.1 in let d = and_true _ _ c.1 in
    record { one = b.0; two = b.1; able_two = c.0; solid = not_true _ d.0; clear = d.1 }

pub record OrGood (g : Grammar) (k : ℕ) (s : Stand) (S A : g.Sort) (p q : In g S A) : Type 0 where
  pub one : good g k s p ≡ true
  pub two : good g k s q ≡ true
  pub one_out : sub (out g s p) (meet (out g s p) (out g s q)) ≡ true
  pub two_out : sub (out g s q) (meet (out g s p) (out g s q)) ≡ true
  pub solid : nul g p ≡ false
  pub clear : apart (first_set g p) (first_set g q) ≡ true

pub or_good : (g : Grammar) (k : ℕ) (s : Stand) {S A : g.Sort} (p q : In g S A) → good g k s (p ∣ q) ≡ true → OrGood g k s S A p q
or_good g k s p q e = let a = and_true _ _ e in let b = and_true _ _ a.0 in let c = and_true _ _ a.1 in let d = and_true _ _ c.1 in let o = and_true _ _ c.0 in
    record { one = b.0; two = b.1; one_out = o.0; two_out = o.1; solid = not_true _ d.0; clear = d.1 }

-- where the steps of `many` stand
abbrev pub loop_at : (g : Grammar) {S : g.Sort} → Stand → In g S S → Stand
loop_at g s p = meet (out g s p) s

pub record ManyGood (g : Grammar) (k : ℕ) (s : Stand) (S : g.Sort) (p : In g S S) : Type 0 where
  pub one : good g k (loop_at g s p) p ≡ true
  pub enters : sub s (loop_at g s p) ≡ true
  pub again_out : sub (out g (loop_at g s p) p) (loop_at g s p) ≡ true
  pub solid : nul g p ≡ false
  pub clear : apart (first_set g p) (goes g p) ≡ true
  pub rest : (not (nul g p) && apart (first_set g p) (goes g p)) ≡ true

pub many_good : (g : Grammar) (k : ℕ) (s : Stand) {S : g.Sort} (p : In g S S) → good g k s (many p) ≡ true → ManyGood g k s S p
many_good g k s p e = let a = and_true _ _ e in let c = and_true _ _ a.1 in let d = and_true _ _ c.1 in let o = and_true _ _ c.0 in
    record { one = a.0; enters = o.0; again_out = o.1; solid = not_true _ d.0; clear = d.1; rest = c.1 }

-- and so where they go on
pub many_again : (g : Grammar) (k : ℕ) (s : Stand) {S : g.Sort} (p : In g S S) → good g k s (many p) ≡ true → good g k (loop_at g s p) (many p) ≡ true
many_again g k s p e = let b = many_good g k s p e in let l = loop_at g s p in
    subst (λ v. (good g k v p && ((sub (loop_at g s p) v && sub (out g v p) v) && (not (nul g p) && apart (first_set g p) (goes g p)))) ≡ true) (sym (meet_same (out g (loop_at g s p) p) (loop_at g s p) b.again_out))
    (both_true _ _ b.one (both_true _ _ (both_true _ _ (sub_self (loop_at g s p)) b.again_out) b.rest))

pub when_good : (g : Grammar) (k : ℕ) (s : Stand) {S A : g.Sort} (c : g.El S → Bool) (p : In g S A) → good g k s (when c p) ≡ true → (good g k s p ≡ true) × (nul g p ≡ false)
when_good g k s c p e = let a = and_true _ _ e in (a.0, not_true _ a.1)

pub seen_good : (g : Grammar) (k : ℕ) (s : Stand) {S B A : g.Sort} (v : g.El S → Option (g.El B)) (p : In g B A) → good g k s (seen v p) ≡ true → (good g k s p ≡ true) × (nul g p ≡ false)
seen_good g k s v p e = let a = and_true _ _ e in (a.0, not_true _ a.1)

pub room_good : (g : Grammar) (k : ℕ) (s : Stand) {S A : g.Sort} (p : In g S A) → good g k s (room p) ≡ true → (good g k (enter s) p ≡ true) × (nul g p ≡ false) × (leads g k 1 p ≡ true)
room_good g k s p e = let a = and_true _ _ e in let b = and_true _ _ a.1 in (a.0, not_true _ b.0, b.1)

pub lift_good : (g : Grammar) (k : ℕ) (s : Stand) {S B A : g.Sort} (lf : g.El S → g.El B) (p : In g B A) → good g k s (lift lf p) ≡ true → (good g k parts p ≡ true) × (nul g p ≡ false) × (leads g k 0 p ≡ true)
lift_good g k s lf p e = let a = and_true _ _ e in let b = and_true _ _ a.1 in (a.0, not_true _ b.0, b.1)

pub record ForkGood (g : Grammar) (k : ℕ) (s : Stand) (A B : g.Sort) (c d : ℕ) (p : In g B A) (q : g.Far) : Type 0 where
  pub one : good g k s p ≡ true
  pub able_one : able g s p ≡ true
  pub same : out g s p ≡ s
  pub forks : g.forked q c d ≡ true
  pub sampled : has (g.kind (g.sample d)) (d ∷ []) ≡ true

pub fork_good : (g : Grammar) (k : ℕ) (s : Stand) {S A B : g.Sort} (c d : ℕ) (f : g.El S → g.Tok → g.Tok → g.El B) (p : In g B A) (q : g.Far) (j : g.El S → g.El (g.far_sort q) → g.El A) → good g k s (fork c d f p q j) ≡ true → ForkGood g k s A B c d p q
fork_good g k s c d f p q j e = let a = and_true _ _ e in let b = and_true _ _ a.0 in let x = and_true _ _ a.1 in let y = and_true _ _ x.1 in record { one = b.0; able_one = b.1; same = alike_same _ _ x.0; forks = y.0; sampled = y.1 }

pub record UntilGood (g : Grammar) (k : ℕ) (s : Stand) (S A B : g.Sort) (e : In g B A) (p : In g B S) : Type 0 where
  pub at_whole : s ≡ whole
  pub able_one : able g low e ≡ true
  pub one : good g k low e ≡ true
  pub two : good g k low p ≡ true
  pub out_one : out g low e ≡ whole
  pub out_two : out g low p ≡ whole
  pub lead_one : leads g k 1 e ≡ true
  pub lead_two : leads g k 1 p ≡ true
  pub solid_one : nul g e ≡ false
  pub solid_two : nul g p ≡ false
  pub apart_two : apart (first_set g e) (first_set g p) ≡ true
  pub clear : apart (first_set g e ++ first_set g p) (goes g e ++ (goes g p ++ [])) ≡ true

pub until_good : (g : Grammar) (k : ℕ) (s : Stand) {S A B D : g.Sort} (c : g.El S → Option (g.El D)) (tk : g.El S → g.El B) (f : g.El A → g.El S) (i : (a : g.El A) → is_some (c (f a)) ≡ true) (e : In g B A) (p : In g B S) → good g k s (until c tk f i e p) ≡ true → UntilGood g k s S A B e p
until_good g k s c tk f i e p o = let x = and_true _ _ o in let y = and_true _ _ x.0 in let a = and_true _ _ y.0 in let b = and_true _ _ y.1 in let z = and_true _ _ x.1 in let d = and_true _ _ z.0 in
    let h = and_true _ _ z.1 in let j = and_true _ _ h.0 in let u = and_true _ _ h.1 in let v = and_true _ _ u.0 in let w = and_true _ _ u.1 in
    record { at_whole = is_whole_same s a.0; able_one = a.1; one = b.0; two = b.1; out_one = is_whole_same _ d.0; out_two = is_whole_same _ d.1; lead_one = j.0; lead_two = j.1; solid_one = not_true _ v.0; solid_two = not_true _ v.1; apart_two = w.0; clear = w.1 }

-- what a part begins with is among what it may begin with
when_firsts : (b : Bool) (j : ℕ) (F U : List ℕ) → (has j F ≡ true → has j U ≡ true) → has j (cond b F []) ≡ true → has j U ≡ true
when_firsts true j F U f e = f e
when_firsts false j F U f e = no_false e

pub first_firsts : (g : Grammar) {S A : g.Sort} (p : In g S A) (x : g.El S) (j : ℕ) → has j (first g p x) ≡ true → has j (first_set g p) ≡ true
first_firsts g (token F f) x j e = e
first_firsts g (give f) x j e = e
first_firsts g (node f) x j e = e
first_firsts g (line r f) x j e = e
first_firsts g (inner r f) x j e = e
first_firsts g (join r f) x j e = e
first_firsts g (far q f) x j e = e
first_firsts g (fork c d f p q y) x j e = e
first_firsts g (p ⨾ q) x j e = first_firsts g p x j e
first_firsts g (p ∣ q) x j e = elim (has_either j (first g p x) (first g q x) e) [
  | inl l ↦ has_left j (first_set g p) (first_set g q) (first_firsts g p x j l)
  | inr l ↦ has_right j (first_set g p) (first_set g q) (first_firsts g q x j l)
]
first_firsts g (many p) x j e = first_firsts g p x j e
first_firsts g (when c p) x j e = when_firsts (c x) j (first g p x) (first_set g p) (first_firsts g p x j) e
first_firsts g (seen v p) x j e = seen_firsts (v x) j (λ b. first g p b) (first_set g p) (λ b. first_firsts g p b j) e
first_firsts g (room p) x j e = first_firsts g p x j e
first_firsts g (lift lf p) x j e = first_firsts g p (lf x) j e
first_firsts g (until c tk f i d p) x j e = elim (has_either j (first g d (tk x)) (first g p (tk x)) e) [
  | inl l ↦ has_left j (first_set g d) (first_set g p) (first_firsts g d (tk x) j l)
  | inr l ↦ has_right j (first_set g d) (first_set g p) (first_firsts g p (tk x) j l)
]

-- what is seen is as high as what it is seen of
pub shown_parts : {A B : Type 0} (c : A → Option B) (x : A × ℕ) (y : B × ℕ) → shown c x ≡ Some y → (c x.0 ≡ Some y.0) × (y.1 ≡ x.1)
shown_parts {A} {B} c x y e = go (c x.0) refl e
  where
    go : (o : Option B) → c x.0 ≡ o → as_high x.1 o ≡ Some y → (c x.0 ≡ Some y.0) × (y.1 ≡ x.1)
    go None d f = absurd (cc)
    go (Some b) d f = let q : (b, x.1) ≡ y = cc in (d ∙ ap (λ v. Some v.0) q, sym (ap (λ v. v.1) q))

pub shown_none : {A B : Type 0} (c : A → Option B) (x : A × ℕ) → shown c x ≡ None → is_some (c x.0) ≡ false
shown_none {A} {B} c x e = go (c x.0) e
  where
    go : (o : Option B) → as_high x.1 o ≡ None → is_some o ≡ false
    go None f = refl
    go (Some b) f = absurd (cc)

shown_know : {A B : Type 0} (c : A → Option B) (n : ℕ) (x : A × ℕ) (y : B × ℕ) → shown c x ≡ Some y → Know whole n x.1 → Know whole n y.1
shown_know c n x y e z = subst (λ v. Know whole n v) (sym (shown_parts c x y e).1) z

-- HEIGHTS. What a line reads with n + 1 levels left is at most n + 1 high, and so on through its parts.
module _ (g : Grammar) (n k : ℕ) (fl : Fars g) (here under : Langs g)
    (here_low : (r : g.Name) → below (g.rank r) k ≡ true → (w : List g.Tok) (y : g.El (g.sort r) × ℕ) → here r w y → Know whole n y.1)
    (under_low : (r : g.Name) → (w : List g.Tok) (y : g.El (g.sort r) × ℕ) → under r w y → Know parts n y.1) where
  pub fits_of : {S B : g.Sort} (p : In g S B) (s : Stand) → good g k s p ≡ true → (x : g.El S × ℕ) (w : List g.Tok) (y : g.El B × ℕ) → Know s n x.1 → lang g n fl here under p x w y → Know (out g s p) n y.1
  fits_of (token F f) s e x w y z l = subst (λ v. Know s n v.1) (sym l.value) z
  fits_of (give f) s e x w y z l = subst (λ v. Know s n v.1) (sym l.1) z
  fits_of (node f) s e x w y z l = subst (λ v. Know whole n v.1) (sym l.1) (node_know s n x.1 e z)
  fits_of (line r f) s e x w y z l = let b = and_true (below (g.rank r) k) (takes_line s) e in
      subst (λ v. Know whole n v.1) (sym l.right.1) (line_know s n x.1 l.value.1 b.1 z (here_low r b.0 l.front l.value l.left))
  fits_of (inner r f) s e x w y z l = subst (λ v. Know parts n v.1) (sym l.right.1) (inner_know s n x.1 l.value.1 e z (under_low r l.front l.value l.left))
  fits_of (join r f) s e x w y z l = let b = and_true (below (g.rank r) k) (closes s) e in
      subst (λ v. Know whole n v.1) (sym l.right.1) (join_know s n x.1 l.value.1 b.1 z (here_low r b.0 l.front l.value l.left))
  fits_of (far q f) s e x w y z l = subst (λ v. Know s n v.1) (sym l.right.1) z
  fits_of (fork c d f p q j) s e x w y z (inl l) = let b = fork_good g k s c d f p q j e in fits_of p s b.one l.right.value l.right.back y (subst (λ v. Know s n v.1) (sym l.right.left.value) z) l.right.right
  fits_of (fork c d f p q j) s e x w y z (inr l) = subst (λ v. Know v n y.1) (sym (fork_good g k s c d f p q j e).same) (subst (λ v. Know s n v.1) (sym l.right.1) z)
  fits_of (p ⨾ q) s e x w y z l = let b = then_good g k s p q e in fits_of q (out g s p) b.two l.value l.back y (fits_of p s b.one x l.front l.value z l.left) l.right
  fits_of (p ∣ q) s e x w y z (inl l) = let b = or_good g k s p q e in loosen _ _ n y.1 b.one_out (fits_of p s b.one x w y z l)
  fits_of (p ∣ q) s e x w y z (inr l) = let b = or_good g k s p q e in loosen _ _ n y.1 b.two_out (fits_of q s b.two x w y z l)
  fits_of (many p) s e x w y z l = let b = many_good g k s p e in keeps (λ v. Know (loop_at g s p) n v.1) (λ x w y z l. loosen _ _ n y.1 b.again_out (fits_of p (loop_at g s p) b.one x w y z l)) x w y (loosen _ _ n x.1 b.enters z) l
  fits_of (when c p) s e x w y z l = fits_of p s (when_good g k s c p e).0 x w y z l.1
  fits_of (seen v p) s e x w y z l = seen_with (v x.0) (λ b. lang g n fl here under p (b, x.1)) w y (λ b _ i. fits_of p s (seen_good g k s v p e).0 (b, x.1) w y z i) l
  fits_of (room p) s e x w y z l = fits_of p (enter s) (room_good g k s p e).0 x w y (room_know s n x.1 z (le_of (max 1 x.1) n l.0)) l.1
  fits_of (lift lf p) s e x w y z l = fits_of p parts (lift_good g k s lf p e).0 (lf x.0, 1 + x.1) w y (lift_know n x.1 (le_of (1 + x.1) n l.0)) l.1
  fits_of (until c tk f i d p) s e x w y z l = let b = until_good g k s c tk f i d p e in shown_know c n l.0 y l.1 (keeps (λ v. Know whole n v.1) (λ x w y z l. elim l.1 [
    | inl r ↦ subst (λ v. Know whole n v.1) (sym r.right.1) (subst (λ v. Know v n r.value.1) b.out_one (fits_of d low b.one (tk x.0, taken (is_some (c x.0)) x.1) r.front r.value (take_know (is_some (c x.0)) n x.1 z l.0) r.left))
    | inr r ↦ subst (λ v. Know v n y.1) b.out_two (fits_of p low b.two (tk x.0, taken (is_some (c x.0)) x.1) w y (take_know (is_some (c x.0)) n x.1 z l.0) r)
  ]) x w l.0 (subst (λ v. Know v n x.1) b.at_whole z) l.2)

  pub until_fits : {S A B D : g.Sort} (c : g.El S → Option (g.El D)) (tk : g.El S → g.El B) (f : g.El A → g.El S) (d : In g B A) (p : In g B S) → UntilGood g k whole S A B d p → (x : g.El S × ℕ) (w : List g.Tok) (y : g.El S × ℕ) → Know whole n x.1
      → When (takes (is_some (c x.0)) n x.1) (Or (Then (lang g n fl here under d (tk x.0, taken (is_some (c x.0)) x.1)) (λ z. Nothing (f z.0, z.1))) (lang g n fl here under p (tk x.0, taken (is_some (c x.0)) x.1))) w y → Know whole n y.1
  until_fits c tk f d p b x w y z l = elim l.1 [
    | inl r ↦ subst (λ v. Know whole n v.1) (sym r.right.1) (subst (λ v. Know v n r.value.1) b.out_one (fits_of d low b.one (tk x.0, taken (is_some (c x.0)) x.1) r.front r.value (take_know (is_some (c x.0)) n x.1 z l.0) r.left))
    | inr r ↦ subst (λ v. Know v n y.1) b.out_two (fits_of p low b.two (tk x.0, taken (is_some (c x.0)) x.1) w y (take_know (is_some (c x.0)) n x.1 z l.0) r)
  ]

-- behind a value that isn't seen, e always ends steps
pub ended : {T C D B E : Type 0} (c : C → Option E) (tk : C → D) (f : B → C) → ((a : B) → is_some (c (f a)) ≡ true) → (P : C × ℕ → List T → C × ℕ → Type 0) (n : ℕ) (Q : D × ℕ → List T → B × ℕ → Type 0) (x : C × ℕ) → shown c x ≡ None → CanStart (Q (tk x.0, taken (is_some (c x.0)) x.1)) []
    → CanStart (Pass (shown c) (Loop (λ y. When (takes (is_some (c y.0)) n y.1) (Or (Then (Q (tk y.0, taken (is_some (c y.0)) y.1)) (λ z. Nothing (f z.0, z.1))) (P y))) x)) []
ended {T} {C} {D} {B} {E} c tk f i P n Q x v a = go (c (f a.tree.0)) refl (i a.tree.0)
  where
    go : (o : Option E) → c (f a.tree.0) ≡ o → is_some o ≡ true → CanStart (Pass (shown c) (Loop (λ y. When (takes (is_some (c y.0)) n y.1) (Or (Then (Q (tk y.0, taken (is_some (c y.0)) y.1)) (λ z. Nothing (f z.0, z.1))) (P y))) x)) []
    go None e j = no_false j
    go (Some d) e j = record {
      more = a.more;
      tree = (d, a.tree.1);
      reads = ((f a.tree.0, a.tree.1), ap (λ o. as_high a.tree.1 o) e, again {u = a.more} {v = []} (sym (append-nil a.more)) (subst (λ b. takes b n x.1 ≡ true) (sym (shown_none c x v)) refl, inl (record { front = a.more; back = []; value = a.tree; whole = sym (append-nil a.more); left = a.reads; right = (refl, refl) })) (done refl));
    }

lifted_low : (d h m : ℕ) → nat_le 1 d ≡ true → d + max 1 h ≤ m → 1 + h ≤ m
lifted_low zero h m e z = no_false e
lifted_low (suc d) h m e z = omega (arith, z)

lifted : (d h m : ℕ) → nat_le 1 d ≡ true → d + max 1 h ≤ m → less d + max 1 (1 + h) ≤ m
lifted zero h m e z = no_false e
lifted (suc d) h m e z = omega (arith, z)

pub taken_room : (c : Bool) (d h m : ℕ) → d + max 1 h ≤ m → d + max 1 (taken c h) ≤ m
taken_room c d h m z = let a = taken_low c h in omega (arith, z, a)

takes_room : (c : Bool) (d h m : ℕ) → d + max 1 h ≤ m → takes c m h ≡ true
takes_room true d h m z = of_le h m (omega (arith, z))
takes_room false d h m z = refl

-- WHAT CAN BE READ. P says that a level is left.
module _ (g : Grammar) (n k : ℕ) (fl : Fars g) (here under : Langs g) (P : Type 0)
    (far_able : (q : g.Far) → CanStart (fl q) []) (here_able : (r : g.Name) → below (g.rank r) k ≡ true → CanStart (here r) [])
    (under_able : P → (r : g.Name) → CanStart (under r) []) where
  -- what is always read leaves a level only where one was
  parts_back : {S B : g.Sort} (p : In g S B) (s : Stand) → good g k s p ≡ true → able g s p ≡ true → leveled (out g s p) ≡ true → leveled s ≡ true
  parts_back (token F f) s e a i = i
  parts_back (give f) s e a i = i
  parts_back (node f) s e a i = no_false i
  parts_back (line r f) s e a i = no_false i
  parts_back (inner r f) s e a i = a
  parts_back (join r f) s e a i = no_false i
  parts_back (far q f) s e a i = i
  parts_back (fork c d f p q j) s e a i = subst (λ v. leveled v ≡ true) (fork_good g k s c d f p q j e).same i
  parts_back (p ⨾ q) s e a i = let b = then_good g k s p q e in let c = and_true (able g s p) (able g (out g s p) q) a in parts_back p s b.one c.0 (parts_back q (out g s p) b.two c.1 i)
  parts_back (p ∣ q) s e a i = let b = or_good g k s p q e in elim (or_true (able g s p) (able g s q) a) [
    | inl c ↦ parts_back p s b.one c (leveled_back _ _ b.one_out i)
    | inr c ↦ parts_back q s b.two c (leveled_back _ _ b.two_out i)
  ]
  parts_back (many p) s e a i = leveled_back _ _ (many_good g k s p e).enters i
  parts_back (when c p) s e a i = no_false a
  parts_back (seen v p) s e a i = no_false a
  parts_back (room p) s e a i = no_false a
  parts_back (lift lf p) s e a i = no_false a
  parts_back (until c tk f j d p) s e a i = no_false i

  pub able_of : {S B : g.Sort} (p : In g S B) (s : Stand) → good g k s p ≡ true → able g s p ≡ true → (leveled s ≡ true → P) → (x : g.El S × ℕ) → CanStart (lang g n fl here under p x) []
  able_of (token [] f) s e a i x = no_false a
  able_of (token (j ∷ F) f) s e a i x = start_one (g.sample j) a
  able_of (give f) s e a i x = start_nothing
  able_of (node f) s e a i x = start_nothing
  able_of (line r f) s e a i x = start_then (here_able r (and_true (below (g.rank r) k) (takes_line s) e).0) (λ y. start_nothing)
  able_of (inner r f) s e a i x = start_then (under_able (i a) r) (λ y. start_nothing)
  able_of (join r f) s e a i x = start_then (here_able r (and_true (below (g.rank r) k) (closes s) e).0) (λ y. start_nothing)
  able_of (far q f) s e a i x = start_then (far_able q) (λ y. start_nothing)
  able_of (fork c d f p q j) s e a i x = start_right (start_then (far_able q) (λ y. start_nothing))
  able_of (p ⨾ q) s e a i x = let b = then_good g k s p q e in let c = and_true (able g s p) (able g (out g s p) q) a in
      start_then (able_of p s b.one c.0 i x) (λ y. able_of q (out g s p) b.two c.1 (λ j. i (parts_back p s b.one c.0 j)) y)
  able_of (p ∣ q) s e a i x = let b = or_good g k s p q e in elim (or_true (able g s p) (able g s q) a) [
    | inl c ↦ start_left (able_of p s b.one c i x)
    | inr c ↦ start_right (able_of q s b.two c i x)
  ]
  able_of (many p) s e a i x = start_loop
  able_of (when c p) s e a i x = no_false a
  able_of (seen v p) s e a i x = no_false a
  able_of (room p) s e a i x = no_false a
  able_of (lift lf p) s e a i x = no_false a
  able_of (until c tk f j d p) s e a i x = let b = until_good g k s c tk f j d p e in
      start_pass _ (shown c) x (λ v. ended c tk f j (λ y. lang g n fl here under p (tk y.0, taken (is_some (c y.0)) y.1)) n (λ y. lang g n fl here under d y) x v (able_of d low b.one b.able_one (λ r. no_false r) (tk x.0, taken (is_some (c x.0)) x.1)))

go_loop : {T S : Type 0} {L : S → List T → S → Type 0} {x : S} {h : T} → CanGoOn (L x) [] h → CanGoOn (Loop L x) [] h
go_loop {h = h} s = record { more = s.more; tree = s.tree; reads = again {u = h ∷ s.more} {v = []} (sym (append-nil (h ∷ s.more))) s.reads (done refl) }

go_if : {T A : Type 0} {L : List T → A → Type 0} {h : T} (kind : T → ℕ) (b : Bool) (F : List ℕ) → (has (kind h) F ≡ true → CanGoOn L [] h) → has (kind h) (cond b F []) ≡ true → CanGoOn (When b L) [] h
go_if kind true F f e = go_when refl (f e)
go_if kind false F f e = no_false e

-- With each token that a part may begin with, something goes on.
module _ (g : Grammar) (m k : ℕ) (fl : Fars g) (here under : Langs g)
    (far_able : (q : g.Far) → CanStart (fl q) []) (here_able : (r : g.Name) → below (g.rank r) k ≡ true → CanStart (here r) [])
    (under_able : (r : g.Name) → CanStart (under r) []) (under_starts : (r : g.Name) → below (g.rank r) k ≡ true → (h : g.Tok) → has (g.kind h) (g.begins r) ≡ true → CanGoOn (under r) [] h)
    (far_starts : (q : g.Far) (h : g.Tok) → has (g.kind h) (g.far_begins q) ≡ true → CanGoOn (fl q) [] h)
    (here_starts : (r : g.Name) → below (g.rank r) k ≡ true → (h : g.Tok) → has (g.kind h) (g.begins r) ≡ true → CanGoOn (here r) [] h) where
  pub starts_of : {S B : g.Sort} (p : In g S B) (s : Stand) → good g k s p ≡ true → (d : ℕ) → leads g k d p ≡ true → (x : g.El S × ℕ) → d + max 1 x.1 ≤ m → (h : g.Tok) → has (g.kind h) (first g p x.0) ≡ true → CanGoOn (lang g m fl here under p x) [] h
  starts_of (token F f) s e d l x z h i = go_one i
  starts_of (give f) s e d l x z h i = no_false i
  starts_of (node f) s e d l x z h i = no_false i
  starts_of (line r f) s e d l x z h i = go_then (here_starts r (and_true (below (g.rank r) k) (takes_line s) e).0 h i) (λ y. start_nothing)
  starts_of (inner r f) s e d l x z h i = go_then (under_starts r l h i) (λ y. start_nothing)
  starts_of (join r f) s e d l x z h i = go_then (here_starts r (and_true (below (g.rank r) k) (closes s) e).0 h i) (λ y. start_nothing)
  starts_of (far q f) s e d l x z h i = go_then (far_starts q h i) (λ y. start_nothing)
  starts_of (fork c d f p q j) s e b l x z h i = let t = fork_good g k s c d f p q j e in elim (has_either (g.kind h) (c ∷ []) (g.far_begins q) i) [
    | inl a ↦ go_left (go_then (go_one a) (λ y. start_then (start_one (g.sample d) t.sampled) (λ v. able_of g m k fl here under (Unit {0}) far_able here_able (λ _. under_able) p s t.one t.able_one (λ _. tt) v)))
    | inr a ↦ go_right (go_then (far_starts q h a) (λ y. start_nothing))
  ]
  starts_of (p ⨾ q) s e d l x z h i = let b = then_good g k s p q e in go_then (starts_of p s b.one d l x z h i) (λ y. able_of g m k fl here under (Unit {0}) far_able here_able (λ _. under_able) q (out g s p) b.two b.able_two (λ _. tt) y)
  starts_of (p ∣ q) s e d l x z h i = let b = or_good g k s p q e in let c = and_true (leads g k d p) (leads g k d q) l in elim (has_either (g.kind h) (first g p x.0) (first g q x.0) i) [
    | inl j ↦ go_left (starts_of p s b.one d c.0 x z h j)
    | inr j ↦ go_right (starts_of q s b.two d c.1 x z h j)
  ]
  starts_of (many p) s e d l x z h i = let b = many_good g k s p e in go_loop (starts_of p (loop_at g s p) b.one d l x z h i)
  starts_of (when c p) s e d l x z h i = go_if g.kind (c x.0) (first g p x.0) (starts_of p s (when_good g k s c p e).0 d l x z h) i
  starts_of (seen v p) s e d l x z h i = go_seen g.kind (v x.0) (λ b. first g p b) (λ b. starts_of p s (seen_good g k s v p e).0 d l (b, x.1) z h) i
  starts_of (room p) s e d l x z h i = let b = room_good g k s p e in go_when (of_le (max 1 x.1) m (omega (arith, z))) (starts_of p (enter s) b.0 d l x z h i)
  starts_of (lift lf p) s e d l x z h i = let b = lift_good g k s lf p e in let c = and_true (nat_le 1 d) (leads g k (less d) p) l in
      go_when (of_le (1 + x.1) m (lifted_low d x.1 m c.0 z)) (starts_of p parts b.0 (less d) c.1 (lf x.0, 1 + x.1) (lifted d x.1 m c.0 z) h i)
  starts_of (until c tk f j q p) s e d l x z h i = let b = until_good g k s c tk f j q p e in let a = and_true (leads g k d q) (leads g k d p) l in
      let w : CanGoOn (Or (Then (lang g m fl here under q (tk x.0, taken (is_some (c x.0)) x.1)) (λ z. Nothing (f z.0, z.1))) (lang g m fl here under p (tk x.0, taken (is_some (c x.0)) x.1))) [] h = elim (has_either (g.kind h) (first g q (tk x.0)) (first g p (tk x.0)) i) [
        | inl j ↦ go_left (go_then (starts_of q low b.one d a.0 (tk x.0, taken (is_some (c x.0)) x.1) (taken_room (is_some (c x.0)) d x.1 m z) h j) (λ y. start_nothing))
        | inr j ↦ go_right (starts_of p low b.two d a.1 (tk x.0, taken (is_some (c x.0)) x.1) (taken_room (is_some (c x.0)) d x.1 m z) h j)
      ] in
      go_on _ (shown c) x [] h (go_loop (go_when (takes_room (is_some (c x.0)) d x.1 m z) w))
      (λ v. ended c tk f j (λ y. lang g m fl here under p (tk y.0, taken (is_some (c y.0)) y.1)) m (λ y. lang g m fl here under q y) _ v
      (able_of g m k fl here under (Unit {0}) far_able here_able (λ _. under_able) q low b.one b.able_one (λ _. tt) _))
