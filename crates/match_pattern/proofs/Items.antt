-- What is read at the head of a text is written so, and what is written so is read.
use Rattle.std.proofs.Common.{◌≡◌, ℕ, ◌+◌, ◌<◌, Bool, true, false, cond, not, ◌==◌, inl, inr, List, [], ◌∷◌, ◌++◌, length, Option, Some, None, refl, sym, ap, ◌∙◌, subst, arith, append_assoc, length-append}
use Rattle.std.specs.Prelude.{codes}
use Rattle.std.specs.Char.{is_ascii_alphanumeric}
use Rattle.std.proofs.lemmas.Bool.{false≢true, false_from_ne_true, eqb-true, not-true, not_from_false, cond-false}
use Rattle.match_pattern.specs.declared.pattern.Atom.{Atom}
use Rattle.match_pattern.specs.declared.pattern.Atom.TheVariants.{AnyCharacter, Character}
use Rattle.match_pattern.specs.declared.pattern.Times.{Times}
use Rattle.match_pattern.specs.declared.pattern.Times.TheVariants.{Once, ZeroOrMore, OneOrMore}
use Rattle.match_pattern.specs.declared.pattern.Item.{Item}
use Rattle.match_pattern.specs.Pattern.{is_special, IsAtom, sign_of, IsItem, AreItems, end_sign}
use Rattle.match_pattern.specs.Reading.{escaped_at, atom_at, times_at, timed, timed_item, item_at, Goes}

-- a character with no meaning of its own is none of those that have one
plain_other : (c x : ℕ) → not (is_special c) ≡ true → is_special x ≡ true → (c == x) ≡ false
plain_other c x h s = false_from_ne_true (c == x) (λ e. false≢true (sym (ap (λ (y : ℕ). not (is_special y)) (eqb-true c x e) ∙ ap not s) ∙ h))

last_of_three : {X : Type 0} (a b s : Bool) (x y z w : X) → a ≡ false → b ≡ false → s ≡ false → cond a x (cond b y (cond s z w)) ≡ w
last_of_three a b s x y z w ea eb es = cond-false a x (cond b y (cond s z w)) ea ∙ (cond-false b y (cond s z w) eb ∙ cond-false s z w es)

plain_atom : (c : ℕ) (rest : List ℕ) → not (is_special c) ≡ true → atom_at (c ∷ rest) ≡ Some (Character c, rest)
plain_atom c rest h = last_of_three {X = Option (Atom × List ℕ)} (c == 46) (c == 92) (is_special c) (Some (AnyCharacter, rest)) (escaped_at rest) None (Some (Character c, rest)) (plain_other c 46 h refl) (plain_other c 92 h refl) (not-true (is_special c) h)

escaped_atom : (c : ℕ) (rest : List ℕ) → not (is_ascii_alphanumeric c) ≡ true → atom_at (92 ∷ c ∷ rest) ≡ Some (Character c, rest)
escaped_atom c rest h = cond-false {A = Option (Atom × List ℕ)} (is_ascii_alphanumeric c) None (Some (Character c, rest)) (not-true (is_ascii_alphanumeric c) h)

-- an atom that is written is read
atom_read : (front : List ℕ) (a : Atom) (rest : List ℕ) → IsAtom front a → atom_at (front ++ rest) ≡ Some (a, rest)
atom_read front AnyCharacter rest h = ap (λ (f : List ℕ). atom_at (f ++ rest)) h
atom_read front (Character c) rest (inl h) = ap (λ (f : List ℕ). atom_at (f ++ rest)) h.1 ∙ plain_atom c rest h.0
atom_read front (Character c) rest (inr h) = ap (λ (f : List ℕ). atom_at (f ++ rest)) h.1 ∙ escaped_atom c rest h.0

-- a text doesn't begin with a character
abbrev pub Clear : ℕ → List ℕ → Type 0
Clear x [] = Unit {0}
Clear x (c ∷ text) = (c == x) ≡ false

clear_atom : (x : ℕ) (front : List ℕ) (a : Atom) (rest : List ℕ) → is_special x ≡ true → (46 == x) ≡ false → (92 == x) ≡ false → IsAtom front a → Clear x (front ++ rest)
clear_atom x front AnyCharacter rest s d b h = subst (λ (f : List ℕ). Clear x (f ++ rest)) (sym h) d
clear_atom x front (Character c) rest s d b (inl h) = subst (λ (f : List ℕ). Clear x (f ++ rest)) (sym h.1) (plain_other c x h.0 s)
clear_atom x front (Character c) rest s d b (inr h) = subst (λ (f : List ℕ). Clear x (f ++ rest)) (sym h.1) b

regroup : (a b c d : List ℕ) → ((a ++ b) ++ c) ++ d ≡ a ++ (b ++ (c ++ d))
regroup a b c d = simp append_assoc

-- items with the first one's parts shown
parts_shown : (text : List ℕ) (i : Item) (items : List Item) (h : AreItems text (i ∷ items)) (end : List ℕ) → text ++ end ≡ h.3.front ++ (sign_of i.times ++ (h.1 ++ end))
parts_shown text i items h end = ap (λ (t : List ℕ). t ++ end) (h.2 ∙ ap (λ (t : List ℕ). t ++ h.1) h.3.text_is) ∙ regroup h.3.front (sign_of i.times) h.1 end

-- a character that has a meaning of its own, and begins no atom and no end, begins no items
pub clear_items : (x : ℕ) (text : List ℕ) (items : List Item) (e : Bool) → is_special x ≡ true → (46 == x) ≡ false → (92 == x) ≡ false → (36 == x) ≡ false → AreItems text items → Clear x (text ++ end_sign e)
clear_items x text [] true s d b o h = subst (λ (t : List ℕ). Clear x (t ++ end_sign true)) (sym h) o
clear_items x text [] false s d b o h = subst (λ (t : List ℕ). Clear x (t ++ end_sign false)) (sym h) tt
clear_items x text (i ∷ items) e s d b o h = subst (Clear x) (sym (parts_shown text i items h (end_sign e))) (clear_atom x h.3.front i.atom (sign_of i.times ++ (h.1 ++ end_sign e)) s d b h.3.atom)

times_read : (t : Times) (rest : List ℕ) → Clear 42 rest → Clear 43 rest → times_at (sign_of t ++ rest) ≡ (t, rest)
times_read ZeroOrMore rest a b = refl
times_read OneOrMore rest a b = refl
times_read Once [] a b = refl
times_read Once (c ∷ rest) a b = cond-false {A = Times × List ℕ} (c == 42) (ZeroOrMore, rest) (cond (c == 43) (OneOrMore, rest) (Once, c ∷ rest)) a ∙ cond-false {A = Times × List ℕ} (c == 43) (OneOrMore, rest) (Once, c ∷ rest) b

-- the first of items that are written is read
item_read : (text : List ℕ) (i : Item) (items : List Item) (e : Bool) (h : AreItems text (i ∷ items)) → item_at (text ++ end_sign e) ≡ Some (i, h.1 ++ end_sign e)
item_read text i items e h =
    let rest : List ℕ = h.1 ++ end_sign e in
    let first : item_at (text ++ end_sign e) ≡ item_at (h.3.front ++ (sign_of i.times ++ rest)) = ap item_at (parts_shown text i items h (end_sign e)) in
    let second : item_at (h.3.front ++ (sign_of i.times ++ rest)) ≡ Some (timed i.atom (times_at (sign_of i.times ++ rest))) = ap timed_item (atom_read h.3.front i.atom (sign_of i.times ++ rest) h.3.atom) in
    let third : times_at (sign_of i.times ++ rest) ≡ (i.times, rest) = times_read i.times rest (clear_items 42 h.1 items e refl refl refl refl h.4) (clear_items 43 h.1 items e refl refl refl refl h.4) in
    first ∙ (second ∙ ap (λ (x : Times × List ℕ). Some (timed i.atom x)) third)

-- What is read at the head of a text is written there.
abbrev AtomFound : List ℕ → Option (Atom × List ℕ) → Type 0
AtomFound text None = Unit {0}
AtomFound text (Some x) = (front : List ℕ) × IsAtom front x.0 × (text ≡ front ++ x.1)

escaped_by : (c x : ℕ) (text : List ℕ) (b : Bool) → c ≡ 92 → is_ascii_alphanumeric x ≡ b → AtomFound (c ∷ x ∷ text) (cond b None (Some (Character x, text)))
escaped_by c x text true h e = tt
escaped_by c x text false h e = (codes "\\" ++ x ∷ [], inr (not_from_false (is_ascii_alphanumeric x) e, refl), ap (λ (y : ℕ). y ∷ x ∷ text) h)

escaped_found : (c : ℕ) (text : List ℕ) → c ≡ 92 → AtomFound (c ∷ text) (escaped_at text)
escaped_found c [] h = tt
escaped_found c (x ∷ text) h = escaped_by c x text (is_ascii_alphanumeric x) h refl

found_by : (c : ℕ) (text : List ℕ) (d b s : Bool) → (c == 46) ≡ d → (c == 92) ≡ b → is_special c ≡ s → AtomFound (c ∷ text) (cond d (Some (AnyCharacter, text)) (cond b (escaped_at text) (cond s None (Some (Character c, text)))))
found_by c text true b s hd hb hs = (codes ".", refl, ap (λ (y : ℕ). y ∷ text) (eqb-true c 46 hd))
found_by c text false true s hd hb hs = escaped_found c text (eqb-true c 92 hb)
found_by c text false false true hd hb hs = tt
found_by c text false false false hd hb hs = (c ∷ [], inl (not_from_false (is_special c) hs, refl), refl)

atom_found : (text : List ℕ) → AtomFound text (atom_at text)
atom_found [] = tt
atom_found (c ∷ text) = found_by c text (c == 46) (c == 92) (is_special c) refl refl refl

abbrev TimesAre : List ℕ → Times × List ℕ → Type 0
TimesAre text x = text ≡ sign_of x.0 ++ x.1

times_by : (c : ℕ) (rest : List ℕ) (s p : Bool) → (c == 42) ≡ s → (c == 43) ≡ p → TimesAre (c ∷ rest) (cond s (ZeroOrMore, rest) (cond p (OneOrMore, rest) (Once, c ∷ rest)))
times_by c rest true p hs hp = ap (λ (y : ℕ). y ∷ rest) (eqb-true c 42 hs)
times_by c rest false true hs hp = ap (λ (y : ℕ). y ∷ rest) (eqb-true c 43 hp)
times_by c rest false false hs hp = refl

times_found : (text : List ℕ) → TimesAre text (times_at text)
times_found [] = refl
times_found (c ∷ rest) = times_by c rest (c == 42) (c == 43) refl refl

abbrev ItemFound : List ℕ → Option (Item × List ℕ) → Type 0
ItemFound text None = Unit {0}
ItemFound text (Some x) = (front : List ℕ) × IsItem front x.0 × (text ≡ front ++ x.1)

item_by : (text : List ℕ) (o : Option (Atom × List ℕ)) → AtomFound text o → ItemFound text (timed_item o)
item_by text None h = tt
item_by text (Some x) h = (h.0 ++ sign_of (times_at x.1).0, record { front = h.0; atom = h.1; text_is = refl }, h.2 ∙ (ap (λ (r : List ℕ). h.0 ++ r) (times_found x.1) ∙ sym (append_assoc h.0 (sign_of (times_at x.1).0) (times_at x.1).1)))

item_found : (text : List ℕ) (i : Item) (behind : List ℕ) → item_at text ≡ Some (i, behind) → (front : List ℕ) × IsItem front i × (text ≡ front ++ behind)
item_found text i behind e = subst (ItemFound text) e (item_by text (atom_at text) (atom_found text))

-- an atom has a character
atom_some : (front : List ℕ) (a : Atom) → IsAtom front a → 0 < length front
atom_some front AnyCharacter h = let e : length front ≡ 1 = ap length h in omega arith
atom_some front (Character c) (inl h) = let e : length front ≡ 1 = ap length h.1 in omega arith
atom_some front (Character c) (inr h) = let e : length front ≡ 2 = ap length h.1 in omega arith

-- what stands behind an item is shorter
pub item_shorter : (text : List ℕ) (i : Item) (behind : List ℕ) → item_at text ≡ Some (i, behind) → length behind < length text
item_shorter text i behind e =
    let f = item_found text i behind e in
    let all : length text ≡ length f.0 + length behind = ap length f.2 ∙ length-append f.0 behind in
    let first : length f.0 ≡ length f.1.front + length (sign_of i.times) = ap length f.1.text_is ∙ length-append f.1.front (sign_of i.times) in
    let some : 0 < length f.1.front = atom_some f.1.front i.atom f.1.atom in
    omega arith

-- what a text is that begins with an item: the item, and then what the rest is
pub item_on : (text : List ℕ) (i : Item) (behind : List ℕ) → item_at text ≡ Some (i, behind) → (more : List Item) (e : Bool) → Goes behind more e → Goes text (i ∷ more) e
item_on text i behind h more e g =
    let f = item_found text i behind h in
    (f.0 ++ g.0, f.2 ∙ (ap (λ (t : List ℕ). f.0 ++ t) g.1 ∙ sym (append_assoc f.0 g.0 (end_sign e))), (f.0, g.0, refl, f.1, g.2))

no_item_at_end : (e : Bool) → item_at (end_sign e) ≡ None
no_item_at_end true = refl
no_item_at_end false = refl

some_parts : (x y : Item × List ℕ) → Some x ≡ Some y → x ≡ y
some_parts x y e = cc

pub item_all : (text : List ℕ) (i : Item) (behind : List ℕ) → item_at text ≡ Some (i, behind) → (whole : List Item) (e : Bool) → Goes text whole e → (more : List Item) × (whole ≡ i ∷ more) × Goes behind more e
item_all text i behind h [] e g =
    let n : item_at text ≡ None = ap item_at (g.1 ∙ ap (λ (t : List ℕ). t ++ end_sign e) g.2) ∙ no_item_at_end e in
    absurd (cc)
item_all text i behind h (j ∷ items) e g =
    let p : item_at text ≡ Some (j, g.2.1 ++ end_sign e) = ap item_at g.1 ∙ item_read g.0 j items e g.2 in
    let both = some_parts (i, behind) (j, g.2.1 ++ end_sign e) (sym h ∙ p) in
    let same : j ≡ i = sym (ap (λ (x : Item × List ℕ). x.0) both) in
    let rest : behind ≡ g.2.1 ++ end_sign e = ap (λ (x : Item × List ℕ). x.1) both in
    (items, ap (λ (x : Item). x ∷ items) same, (g.2.1, rest, g.2.4))

pub item_none : (text : List ℕ) → item_at text ≡ None → (whole : List Item) (e : Bool) → Goes text whole e → (whole ≡ []) × (text ≡ end_sign e)
item_none text h [] e g = (refl, g.1 ∙ ap (λ (t : List ℕ). t ++ end_sign e) g.2)
item_none text h (j ∷ items) e g =
    let p : item_at text ≡ Some (j, g.2.1 ++ end_sign e) = ap item_at g.1 ∙ item_read g.0 j items e g.2 in
    absurd (cc)
