-- The search finds what matches.
use Rattle.std.proofs.Common.{◌≡◌, ℕ, ◌≤◌, suc, Bool, true, false, cond, ◌&&◌, inl, inr, List, [], ◌∷◌, ◌++◌, length, Result, Ok, Err, refl, sym, ap, ◌∙◌, arith, append_assoc}
use Rattle.std.specs.Prelude.{IsTrue, IfOk, ◌↔◌}
use Rattle.seq.specs.declared.memory.OutOfMemory.{OutOfMemory}
use Rattle.std.specs.List.{AllByRecursion}
use Rattle.std.proofs.lemmas.Bool.{false≢true, not-true, and_parts, and_from, or_cases, or_left, or_right}
use Rattle.match_pattern.specs.declared.pattern.Atom.{Atom}
use Rattle.match_pattern.specs.declared.pattern.Times.{Times}
use Rattle.match_pattern.specs.declared.pattern.Times.TheVariants.{Once, ZeroOrMore, OneOrMore}
use Rattle.match_pattern.specs.declared.pattern.Item.{Item}
use Rattle.match_pattern.specs.declared.pattern.Pattern.{Pattern}
use Rattle.match_pattern.specs.Matching.{stands_for, Matches, AllMatch, IsMatch}
use Rattle.match_pattern.specs.Searching.{any_then, times_then, is_end, match_at, anywhere, found}

abbrev Each : Atom → List ℕ → Type 0
Each a text = AllByRecursion (λ c. IsTrue (stands_for a c)) text

-- characters for each of which the atom stands, and then what passes the test
abbrev Cut : Atom → (List ℕ → Bool) → List ℕ → Type 0
Cut a test text = (front : List ℕ) × (back : List ℕ) × (text ≡ front ++ back) × Each a front × (test back ≡ true)

any_cut : (a : Atom) (test : List ℕ → Bool) (text : List ℕ) → any_then a test text ≡ true → Cut a test text
any_cut a test [] h = ([], [], refl, tt, h)
any_cut a test (c ∷ text) h = elim (or_cases (test (c ∷ text)) (stands_for a c && any_then a test text) h) [
  | inl here ↦ ([], c ∷ text, refl, tt, here)
  | inr on ↦ let both = and_parts (stands_for a c) (any_then a test text) on in let r = any_cut a test text both.1 in (c ∷ r.0, r.1, ap (λ (t : List ℕ). c ∷ t) r.2, (both.0, r.3), r.4)
]

any_from : (a : Atom) (test : List ℕ → Bool) (front back : List ℕ) → Each a front → test back ≡ true → any_then a test (front ++ back) ≡ true
any_from a test [] [] each h = h
any_from a test [] (c ∷ back) each h = or_left (test (c ∷ back)) (stands_for a c && any_then a test back) h
any_from a test (c ∷ front) back each h = or_right (test (c ∷ (front ++ back))) (stands_for a c && any_then a test (front ++ back)) (and_from (stands_for a c) (any_then a test (front ++ back)) each.0 (any_from a test front back each.1 h))

abbrev ItemCut : Times → Atom → (List ℕ → Bool) → List ℕ → Type 0
ItemCut t a test text = (front : List ℕ) × (back : List ℕ) × (text ≡ front ++ back) × Matches (record { atom = a; times = t }) front × (test back ≡ true)

item_cut : (t : Times) (a : Atom) (test : List ℕ → Bool) (text : List ℕ) → times_then t a test text ≡ true → ItemCut t a test text
item_cut Once a test [] h = absurd (false≢true h)
item_cut Once a test (c ∷ text) h = let both = and_parts (stands_for a c) (test text) h in (c ∷ [], text, refl, record { count = refl; each = (both.0, tt) }, both.1)
item_cut ZeroOrMore a test text h = let r = any_cut a test text h in (r.0, r.1, r.2, record { count = omega arith; each = r.3 }, r.4)
item_cut OneOrMore a test [] h = absurd (false≢true h)
item_cut OneOrMore a test (c ∷ text) h =
    let both = and_parts (stands_for a c) (any_then a test text) h in
    let r = any_cut a test text both.1 in
    (c ∷ r.0, r.1, ap (λ (t : List ℕ). c ∷ t) r.2, record { count = omega arith; each = (both.0, r.3) }, r.4)

item_from : (t : Times) (a : Atom) (test : List ℕ → Bool) (front back : List ℕ) → Matches (record { atom = a; times = t }) front → test back ≡ true → times_then t a test (front ++ back) ≡ true
item_from Once a test [] back m h = absurd (let n : 0 ≡ 1 = m.count in omega arith)
item_from Once a test (c ∷ []) back m h = and_from (stands_for a c) (test back) m.each.0 h
item_from Once a test (c ∷ d ∷ front) back m h = absurd (let n : suc (suc (length front)) ≡ 1 = m.count in omega arith)
item_from ZeroOrMore a test front back m h = any_from a test front back m.each h
item_from OneOrMore a test [] back m h = absurd (let n : 1 ≤ 0 = m.count in omega arith)
item_from OneOrMore a test (c ∷ front) back m h = and_from (stands_for a c) (any_then a test (front ++ back)) m.each.0 (any_from a test front back m.each.1 h)

-- items match at the beginning of a text
abbrev MatchAt : Bool → List Item → List ℕ → Type 0
MatchAt e items text = (middle : List ℕ) × (behind : List ℕ) × (text ≡ middle ++ behind) × AllMatch items middle × (e ≡ true → behind ≡ [])

match_cut : (e : Bool) (items : List Item) (text : List ℕ) → match_at e items text ≡ true → MatchAt e items text
match_cut e [] [] h = ([], [], refl, refl, λ end. refl)
match_cut e [] (c ∷ text) h = ([], c ∷ text, refl, refl, λ end. absurd (false≢true (sym (not-true e h) ∙ end)))
match_cut e (i ∷ items) text h =
    let first = item_cut i.times i.atom (match_at e items) text h in
    let others = match_cut e items first.1 first.4 in
    (first.0 ++ others.0, others.1, first.2 ∙ (ap (λ (t : List ℕ). first.0 ++ t) others.2 ∙ sym (append_assoc first.0 others.0 others.1)), (first.0, others.0, refl, first.3, others.3), others.4)

end_from : (e : Bool) (text : List ℕ) → (e ≡ true → text ≡ []) → is_end e text ≡ true
end_from e [] h = refl
end_from true (c ∷ text) h = let no : c ∷ text ≡ [] = h refl in absurd (cc)
end_from false (c ∷ text) h = refl

match_from : (e : Bool) (items : List Item) (middle behind : List ℕ) → AllMatch items middle → (e ≡ true → behind ≡ []) → match_at e items (middle ++ behind) ≡ true
match_from e [] middle behind m end = ap (λ (t : List ℕ). is_end e (t ++ behind)) m ∙ end_from e behind end
match_from e (i ∷ items) middle behind m end =
    ap (match_at e (i ∷ items)) (ap (λ (t : List ℕ). t ++ behind) m.2 ∙ append_assoc m.0 m.1 behind)
    ∙ item_from i.times i.atom (match_at e items) m.0 (m.1 ++ behind) m.3 (match_from e items m.1 behind m.4 end)

place_cut : (test : List ℕ → Bool) (text : List ℕ) → anywhere test text ≡ true → (before : List ℕ) × (rest : List ℕ) × (text ≡ before ++ rest) × (test rest ≡ true)
place_cut test [] h = ([], [], refl, h)
place_cut test (c ∷ text) h = elim (or_cases (test (c ∷ text)) (anywhere test text) h) [
  | inl here ↦ ([], c ∷ text, refl, here)
  | inr on ↦ let r = place_cut test text on in (c ∷ r.0, r.1, ap (λ (t : List ℕ). c ∷ t) r.2, r.3)
]

place_from : (test : List ℕ → Bool) (before rest : List ℕ) → test rest ≡ true → anywhere test (before ++ rest) ≡ true
place_from test [] [] h = h
place_from test [] (c ∷ rest) h = or_left (test (c ∷ rest)) (anywhere test rest) h
place_from test (c ∷ before) rest h = or_right (test (c ∷ (before ++ rest))) (anywhere test (before ++ rest)) (place_from test before rest h)

abbrev Found : Bool → Bool → List Item → List ℕ → Type 0
Found s e items text = (before : List ℕ) × (middle : List ℕ) × (behind : List ℕ) × (text ≡ before ++ (middle ++ behind)) × AllMatch items middle × (s ≡ true → before ≡ []) × (e ≡ true → behind ≡ [])

found_cut : (s e : Bool) (items : List Item) (text : List ℕ) → cond s (match_at e items text) (anywhere (match_at e items) text) ≡ true → Found s e items text
found_cut true e items text h = let m = match_cut e items text h in ([], m.0, m.1, m.2, m.3, λ start. refl, m.4)
found_cut false e items text h =
    let p = place_cut (match_at e items) text h in
    let m = match_cut e items p.1 p.3 in
    (p.0, m.0, m.1, p.2 ∙ ap (λ (t : List ℕ). p.0 ++ t) m.2, m.3, λ start. absurd (false≢true start), m.4)

found_from : (s e : Bool) (items : List Item) (text : List ℕ) → Found s e items text → cond s (match_at e items text) (anywhere (match_at e items) text) ≡ true
found_from true e items text f =
    let here : text ≡ f.1 ++ f.2 = f.3 ∙ ap (λ (t : List ℕ). t ++ (f.1 ++ f.2)) (f.5 refl) in
    ap (match_at e items) here ∙ match_from e items f.1 f.2 f.4 f.6
found_from false e items text f = ap (anywhere (match_at e items)) f.3 ∙ place_from (match_at e items) f.0 (f.1 ++ f.2) (match_from e items f.1 f.2 f.4 f.6)

-- what is found, is
pub found_is : (p : Pattern) (text : List ℕ) → found p text ≡ true → IsMatch p text
found_is p text h = let f = found_cut p.at_start p.at_end p.items text h in record { before = f.0; middle = f.1; behind = f.2; text_is = f.3; matches = f.4; at_start = f.5; at_end = f.6 }

-- what is, is found
pub is_found : (p : Pattern) (text : List ℕ) → IsMatch p text → found p text ≡ true
is_found p text f = found_from p.at_start p.at_end p.items text (f.before, f.middle, f.behind, f.text_is, f.matches, f.at_start, f.at_end)

-- what the search answers
pub decided : (p : Pattern) (text : List ℕ) (r : Result Bool OutOfMemory) → IfOk r (λ answer. answer ≡ found p text) → IfOk r (λ answer. IsTrue answer ↔ IsMatch p text)
decided p text (Ok answer) h = (λ e. found_is p text (sym h ∙ e), λ f. h ∙ is_found p text f)
decided p text (Err e) h = tt
