-- Steps in a row that may end only where the value is seen as another.
use Rattle.std.proofs.Common.{◌≡◌, ℕ, true, ◌⊎◌, inl, inr, List, [], ◌∷◌, ◌++◌, Option, Some, None, refl, sym, ap, ◌∙◌, subst, append_assoc, append-nil}
use Rattle.parsing.specs.Reading.{Read, Found, Bad, Deep, Loop, done, again, Pass, pass_at, passed_at, CanStart, CanGoOn, Stops, Outcome}
use Rattle.parsing.proofs.Parts.{Facts, Reader}
use Rattle.parsing.proofs.Rules.{Rule}

-- steps behind steps
pub joined : {T S : Type 0} {P : S → List T → S → Type 0} {s t r : S} {u : List T} (v : List T) → Loop P s u t → Loop P t v r → Loop P s (u ++ v) r
joined {P = P} {s = s} {r = r} v (done e) l = subst (λ x. Loop P s (x ++ v) r) (sym e) l
joined {P = P} {s = s} {r = r} v (again {u = u} {v = v'} e a b) l = again (ap (λ x. x ++ v) e ∙ append_assoc u v' v) a (joined v b l)

module _ {T S D : Type 0} (P : S → List T → S → Type 0) (c : S → Option D) where
  pub extended : (s t : S) (w : List T) → Loop P s w t → (c t ≡ None → CanStart (Pass c (Loop P t)) []) → CanStart (Pass c (Loop P s)) w
  extended s t w l f = go (c t) refl
    where
      go : (o : Option D) → c t ≡ o → CanStart (Pass c (Loop P s)) w
      go (Some d) e = record { more = []; tree = d; reads = (t, e, subst (λ v. Loop P s v t) (sym (append-nil w)) l) }
      go None e = let g = f e in record { more = g.more; tree = g.tree; reads = (g.reads.0, g.reads.1, joined g.more l g.reads.2) }

  pub start_on : (s : S) (w : List T) (a : CanStart (Loop P s) w) → (c a.tree ≡ None → CanStart (Pass c (Loop P a.tree)) []) → CanStart (Pass c (Loop P s)) w
  start_on s w a f = let g = extended s a.tree (w ++ a.more) a.reads f in record { more = a.more ++ g.more; tree = g.tree; reads = subst (λ v. Pass c (Loop P s) v g.tree) (append_assoc w a.more g.more) g.reads }

  pub go_on : (s : S) (w : List T) (h : T) (a : CanGoOn (Loop P s) w h) → (c a.tree ≡ None → CanStart (Pass c (Loop P a.tree)) []) → CanGoOn (Pass c (Loop P s)) w h
  go_on s w h a f = let g = extended s a.tree (w ++ h ∷ a.more) a.reads f in record { more = a.more ++ g.more; tree = g.tree; reads = subst (λ v. Pass c (Loop P s) v g.tree) (append_assoc w (h ∷ a.more) g.more) g.reads }

  -- two values that are seen of one
  pub seen_once : (s t : S) (a b : D) → s ≡ t → c s ≡ Some a → c t ≡ Some b → a ≡ b
  seen_once s t a b e x y = let z : Some a ≡ Some b = sym x ∙ ap c e ∙ y in cc

  not_seen : (s t : S) (b : D) → s ≡ t → c s ≡ None → c t ≡ Some b → ⊥
  not_seen s t b e x y = let z : None ≡ Some b = sym x ∙ ap c e ∙ y in absurd (cc)

  pub pass_facts : {kind : T → ℕ} {s : S} {F G : List ℕ} → Facts kind (Loop P s) true F G → Facts kind (Pass c (Loop P s)) true F G
  pass_facts f = record {
    first = λ h z a x. f.first h z x.0 x.2;
    empty = λ a x. f.empty x.0 x.2;
    goes = λ w a h z b x y. f.goes w x.0 h z y.0 x.2 y.2;
    unique = λ w a b x y. seen_once x.0 y.0 a b (f.unique w x.0 y.0 x.2 y.2) x.1 y.1;
  }

  pub stops_seen : (s : S) (f y : List T) → Stops (Loop P s) f y → Stops (Pass c (Loop P s)) f y
  stops_seen s f [] x = tt
  stops_seen s f (h ∷ y) x = λ z b r. x z r.0 r.2

module _ {T S D : Type 0} (kind : T → ℕ) (L M : S → List T → S → Type 0) (c : S → Option D) (s : S) (F G : List ℕ) (p : List T → Read T S) (facts : Facts kind (Loop M s) true F G) (r : Reader kind (Loop L s) (Loop M s) p F)
    (ends : (t : S) (w : List T) → Loop L s w t → c t ≡ None → CanStart (Pass c (Loop L t)) []) (ends_wide : (t : S) → c t ≡ None → CanStart (Pass c (Loop M t)) []) where
  starts_so : (f : List T) → (f ≡ []) ⊎ CanStart (Loop L s) f → (f ≡ []) ⊎ CanStart (Pass c (Loop L s)) f
  starts_so f (inl e) = inl e
  starts_so f (inr a) = inr (start_on L c s f a (ends a.tree _ a.reads))

  out : (ts : List T) (r : Read T S) → Outcome (Loop L s) (Loop M s) ts r → Outcome (Pass c (Loop L s)) (Pass c (Loop M s)) ts (pass_at c r)
  out ts (Found a rest) o = go (c a) refl
    where
      go : (x : Option D) → c a ≡ x → Outcome (Pass c (Loop L s)) (Pass c (Loop M s)) ts (passed_at rest x)
      go (Some d) e = record { front = o.front; whole = o.whole; reads = (a, e, o.reads); stops = stops_seen M c s o.front rest o.stops }
      go None e = record {
        front = o.front;
        whole = o.whole;
        start = inr (extended L c s a o.front o.reads (ends a o.front o.reads));
        open_end = λ b x. not_seen M c a x.0 b (facts.unique o.front a x.0 (r.widens o.front a o.reads) x.2) e x.1;
        stops = stops_seen M c s o.front rest o.stops;
      }
  out ts (Bad rest) o = record { front = o.front; whole = o.whole; start = starts_so o.front o.start; open_end = λ b x. o.open_end x.0 x.2; stops = stops_seen M c s o.front rest o.stops }
  out ts (Deep rest) o = record {
    front = o.front;
    head = o.head;
    behind = o.behind;
    whole = o.whole;
    rest_is = o.rest_is;
    start = starts_so o.front o.start;
    wide = go_on M c s o.front o.head o.wide (ends_wide o.wide.tree);
    narrow = λ z b x. o.narrow z x.0 x.2;
  }

  pub pass_reader : Reader kind (Pass c (Loop L s)) (Pass c (Loop M s)) (λ ts. pass_at c (p ts)) F
  pass_reader = record {
    widens = λ w a x. (x.0, x.1, r.widens w x.0 x.2);
    starts = λ h e. let g = r.starts h e in go_on M c s [] h g (ends_wide g.tree);
    outcome = λ ts. out ts (p ts) (r.outcome ts);
  }

pub start_pass : {T S D : Type 0} (P : S → List T → S → Type 0) (c : S → Option D) (s : S) → (c s ≡ None → CanStart (Pass c (Loop P s)) []) → CanStart (Pass c (Loop P s)) []
start_pass P c s f = extended P c s s [] (done refl) f

-- the rule of steps in a row, where an end is always in reach
pub pass_rule : {A : Type 0} {T S D : Type 0} {Fits : S → Type 0} {kind : T → ℕ} {L M : S → List T → S → Type 0} {F G : List ℕ} {p : List T → Read T S} (c : S → Option D) (s : S) → Rule A (Fits s) kind (Loop L s) (Loop M s) p true F G
    → (A → (t : S) (w : List T) → Fits s → Loop L s w t → Fits t) → (A → (t : S) → Fits t → c t ≡ None → CanStart (Pass c (Loop L t)) []) → (A → (t : S) → c t ≡ None → CanStart (Pass c (Loop M t)) [])
    → Rule A (Fits s) kind (Pass c (Loop L s)) (Pass c (Loop M s)) (λ ts. pass_at c (p ts)) true F G
pass_rule {kind = kind} {L = L} {M = M} {F = F} {G = G} {p = p} c s r fits ends wide = record {
  facts = pass_facts M c r.facts;
  reader = λ al x. pass_reader kind L M c s F G p r.facts (r.reader al x) (λ t w l. ends al t (fits al t w x l)) (wide al);
  able = λ al x. start_pass L c s (ends al s x);
  able_wide = λ al. start_pass M c s (wide al s);
}
