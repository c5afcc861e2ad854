-- The marks say what the search says.
use Rattle.std.proofs.Common.{◌≡◌, ℕ, zero, suc, ◌+◌, ◌<◌, ◌≤◌, Bool, true, false, cond, not, ◌&&◌, ◌||◌, ◌==◌, List, [], ◌∷◌, ◌++◌, length, take, drop, get_or, set, map, refl, sym, ap, ◌∙◌, arith, append_assoc, append-nil, add-one}
use Rattle.std.specs.List.{list_any}
use Rattle.std.proofs.lemmas.Bool.{and_parts, ne_eqb}
use Rattle.std.proofs.lemmas.List.{length-map, take_all, take_more, drop_all, take_more_set, drop-set-lt, drop_more}
use Rattle.match_pattern.specs.declared.pattern.Atom.{Atom}
use Rattle.match_pattern.specs.declared.pattern.Times.{Times}
use Rattle.match_pattern.specs.declared.pattern.Times.TheVariants.{Once, ZeroOrMore, OneOrMore}
use Rattle.match_pattern.specs.declared.pattern.Item.{Item}
use Rattle.match_pattern.specs.declared.pattern.Pattern.{Pattern}
use Rattle.match_pattern.specs.Matching.{stands_for}
use Rattle.match_pattern.specs.Searching.{atom_begins, one_then, any_then, times_then, is_end, match_at, anywhere, kept, goes_on, rest_of, passed, first_marks, marked, found}

-- an equation of tests that holds in each row of their table
every : (Bool → Bool) → Bool
every p = p true && p false

every_at : (p : Bool → Bool) → every p ≡ true → (b : Bool) → p b ≡ true
unfolding every
every_at p h true = (and_parts (p true) (p false) h).0
every_at p h false = (and_parts (p true) (p false) h).1

same : Bool → Bool → Bool
same true true = true
same true false = false
same false true = false
same false false = true

same_is : (x y : Bool) → same x y ≡ true → x ≡ y
unfolding same
same_is true true h = refl
same_is true false h = sym h
same_is false true h = h
same_is false false h = refl

abbrev Row : Type 0
Row = Bool → Bool → Bool → Bool → Bool → Bool → Bool

by_table : (f g : Row) → every (λ a. every (λ b. every (λ c. every (λ d. every (λ e. every (λ h. same (f a b c d e h) (g a b c d e h))))))) ≡ true → (a b c d e h : Bool) → f a b c d e h ≡ g a b c d e h
by_table f g all a b c d e h =
    let at_a = every_at (λ a. every (λ b. every (λ c. every (λ d. every (λ e. every (λ h. same (f a b c d e h) (g a b c d e h))))))) all a in
    let at_b = every_at (λ b. every (λ c. every (λ d. every (λ e. every (λ h. same (f a b c d e h) (g a b c d e h)))))) at_a b in
    let at_c = every_at (λ c. every (λ d. every (λ e. every (λ h. same (f a b c d e h) (g a b c d e h))))) at_b c in
    let at_d = every_at (λ d. every (λ e. every (λ h. same (f a b c d e h) (g a b c d e h)))) at_c d in
    let at_e = every_at (λ e. every (λ h. same (f a b c d e h) (g a b c d e h))) at_d e in
    same_is (f a b c d e h) (g a b c d e h) (every_at (λ h. same (f a b c d e h) (g a b c d e h)) at_e h)

-- A mark, whether the item has come here, what passes the test from here on, whether the atom stands for the next character, what
-- passes behind it, and what is marked further on
step_once : (m i k s g w : Bool) → (((m && (s && g)) || w) || (i && k)) ≡ ((i && k) || (w || ((m && s) && g)))
unfolding every same
step_once = by_table (λ m i k s g w. ((m && (s && g)) || w) || (i && k)) (λ m i k s g w. (i && k) || (w || ((m && s) && g))) refl

step_any : (m i k s g w : Bool) → (((m && (k || (s && g))) || w) || (i && (k || (s && g)))) ≡ (((m || i) && k) || (w || (((m || i) && s) && g)))
unfolding every same
step_any = by_table (λ m i k s g w. ((m && (k || (s && g))) || w) || (i && (k || (s && g)))) (λ m i k s g w. ((m || i) && k) || (w || (((m || i) && s) && g))) refl

step_some : (m i k s g w : Bool) → (((m && (s && g)) || w) || (i && (k || (s && g)))) ≡ ((i && k) || (w || (((m || i) && s) && g)))
unfolding every same
step_some = by_table (λ m i k s g w. ((m && (s && g)) || w) || (i && (k || (s && g)))) (λ m i k s g w. (i && k) || (w || (((m || i) && s) && g))) refl

-- the same at the text's end
end_once : (m i k s g w : Bool) → (((m && false) || false) || (i && k)) ≡ ((i && k) || false)
unfolding every same
end_once = by_table (λ m i k s g w. ((m && false) || false) || (i && k)) (λ m i k s g w. (i && k) || false) refl

end_any : (m i k s g w : Bool) → (((m && k) || false) || (i && k)) ≡ (((m || i) && k) || false)
unfolding every same
end_any = by_table (λ m i k s g w. ((m && k) || false) || (i && k)) (λ m i k s g w. ((m || i) && k) || false) refl

or_false : (b : Bool) → (b || false) ≡ b
or_false true = refl
or_false false = refl

and_true : (b : Bool) → (b && true) ≡ b
and_true true = refl
and_true false = refl

and_false : (b : Bool) → (b && false) ≡ false
and_false true = refl
and_false false = refl

pub length_passed : (item : Item) (inside : Bool) (marks : List Bool) (text : List ℕ) → length (passed item inside marks text) ≡ length marks
length_passed item inside [] text = refl
length_passed item inside (m ∷ marks) text = ap suc (length_passed item (goes_on item.times m inside && atom_begins item.atom text) marks (rest_of text))

abbrev once : Atom → Item
once a = record { atom = a; times = Once }

abbrev any : Atom → Item
any a = record { atom = a; times = ZeroOrMore }

abbrev some : Atom → Item
some a = record { atom = a; times = OneOrMore }

once_passed : (a : Atom) (test : List ℕ → Bool) (i : Bool) (marks : List Bool) (text : List ℕ) → length marks ≡ suc (length text) → (marked (one_then a test) marks text || (i && test text)) ≡ marked test (passed (once a) i marks text) text
once_passed a test i [] text h = absurd (omega arith)
once_passed a test i (m ∷ []) [] h = end_once m i (test []) true true true
once_passed a test i (m ∷ n ∷ marks) [] h = absurd (omega arith)
once_passed a test i (m ∷ marks) (c ∷ text) h =
    let rest : length marks ≡ suc (length text) = omega arith in
    step_once m i (test (c ∷ text)) (stands_for a c) (test text) (marked (one_then a test) marks text)
    ∙ ap (λ (r : Bool). (i && test (c ∷ text)) || r) (once_passed a test (m && stands_for a c) marks text rest)

any_passed : (a : Atom) (test : List ℕ → Bool) (i : Bool) (marks : List Bool) (text : List ℕ) → length marks ≡ suc (length text) → (marked (any_then a test) marks text || (i && any_then a test text)) ≡ marked test (passed (any a) i marks text) text
any_passed a test i [] text h = absurd (omega arith)
any_passed a test i (m ∷ []) [] h = end_any m i (test []) true true true
any_passed a test i (m ∷ n ∷ marks) [] h = absurd (omega arith)
any_passed a test i (m ∷ marks) (c ∷ text) h =
    let rest : length marks ≡ suc (length text) = omega arith in
    step_any m i (test (c ∷ text)) (stands_for a c) (any_then a test text) (marked (any_then a test) marks text)
    ∙ ap (λ (r : Bool). ((m || i) && test (c ∷ text)) || r) (any_passed a test ((m || i) && stands_for a c) marks text rest)

some_passed : (a : Atom) (test : List ℕ → Bool) (i : Bool) (marks : List Bool) (text : List ℕ) → length marks ≡ suc (length text) → (marked (one_then a (any_then a test)) marks text || (i && any_then a test text)) ≡ marked test (passed (some a) i marks text) text
some_passed a test i [] text h = absurd (omega arith)
some_passed a test i (m ∷ []) [] h = end_once m i (test []) true true true
some_passed a test i (m ∷ n ∷ marks) [] h = absurd (omega arith)
some_passed a test i (m ∷ marks) (c ∷ text) h =
    let rest : length marks ≡ suc (length text) = omega arith in
    step_some m i (test (c ∷ text)) (stands_for a c) (any_then a test text) (marked (one_then a (any_then a test)) marks text)
    ∙ ap (λ (r : Bool). (i && test (c ∷ text)) || r) (some_passed a test ((m || i) && stands_for a c) marks text rest)

times_passed : (t : Times) (a : Atom) (test : List ℕ → Bool) (marks : List Bool) (text : List ℕ) → length marks ≡ suc (length text) → marked (times_then t a test) marks text ≡ marked test (passed (record { atom = a; times = t }) false marks text) text
times_passed Once a test marks text h = sym (or_false (marked (one_then a test) marks text)) ∙ once_passed a test false marks text h
times_passed ZeroOrMore a test marks text h = sym (or_false (marked (any_then a test) marks text)) ∙ any_passed a test false marks text h
times_passed OneOrMore a test marks text h = sym (or_false (marked (one_then a (any_then a test)) marks text)) ∙ some_passed a test false marks text h

-- AN ITEM IS PASSED: its marks moved, the items behind it are left
pub item_passed : (e : Bool) (item : Item) (items : List Item) (marks : List Bool) (text : List ℕ) → length marks ≡ suc (length text) → marked (match_at e (item ∷ items)) marks text ≡ marked (match_at e items) (passed item false marks text) text
item_passed e item items marks text h = times_passed item.times item.atom (match_at e items) marks text h

none_marked : (test : List ℕ → Bool) (xs text : List ℕ) → marked test (map (λ (c : ℕ). false) xs) text ≡ false
none_marked test [] text = refl
none_marked test (x ∷ xs) text = none_marked test xs (rest_of text)

all_marked : (test : List ℕ → Bool) (text : List ℕ) → marked test (true ∷ map (λ (c : ℕ). true) text) text ≡ anywhere test text
all_marked test [] = or_false (test [])
all_marked test (c ∷ text) = ap (λ (r : Bool). test (c ∷ text) || r) (all_marked test text)

-- the first marks
pub first_marked : (s : Bool) (test : List ℕ → Bool) (text : List ℕ) → marked test (first_marks s text) text ≡ cond s (test text) (anywhere test text)
first_marked true test text = ap (λ (r : Bool). test text || r) (none_marked test text (rest_of text)) ∙ or_false (test text)
first_marked false test text = all_marked test text

pub length_first : (s : Bool) (text : List ℕ) → length (first_marks s text) ≡ suc (length text)
length_first s text = ap suc (length-map text (λ (c : ℕ). not s))

-- the marks at the end
pub last_marked : (marks : List Bool) (text : List ℕ) → length marks ≡ suc (length text) → (d : Bool) → get_or marks (length text) d ≡ marked (is_end true) marks text
last_marked [] text h d = absurd (omega arith)
last_marked (m ∷ []) [] h d = sym (or_false (m && true) ∙ and_true m)
last_marked (m ∷ n ∷ marks) [] h d = absurd (omega arith)
last_marked (m ∷ marks) (c ∷ text) h d = let rest : length marks ≡ suc (length text) = omega arith in last_marked marks text rest d ∙ sym (ap (λ (x : Bool). x || marked (is_end true) marks text) (and_false m))

is_end_not : (text : List ℕ) → is_end false text ≡ true
is_end_not [] = refl
is_end_not (c ∷ text) = refl

pub some_marked : (marks : List Bool) (text : List ℕ) → list_any (λ (m : Bool). m) marks ≡ marked (is_end false) marks text
some_marked [] text = refl
some_marked (m ∷ marks) text = ap (λ (x : Bool). x || list_any (λ (m : Bool). m) marks) (sym (ap (λ (x : Bool). m && x) (is_end_not text) ∙ and_true m)) ∙ ap (λ (x : Bool). (m && is_end false text) || x) (some_marked marks (rest_of text))

rest_drop : (at : ℕ) (text : List ℕ) → rest_of (drop at text) ≡ drop (suc at) text
rest_drop zero [] = refl
rest_drop zero (c ∷ text) = refl
rest_drop (suc at) [] = refl
rest_drop (suc at) (c ∷ text) = rest_drop at text

-- A step of the pass: the marks before a place are moved, those from it on are not.
pub pass_more : (item : Item) (at : ℕ) (inside : Bool) (marks : List Bool) (text : List ℕ) (here new next d : Bool) → at < length marks → here ≡ get_or marks at d → new ≡ kept item.times here inside → next ≡ (goes_on item.times here inside && atom_begins item.atom (drop at text)) → take (at + 1) (set marks at new) ++ passed item next (drop (at + 1) (set marks at new)) (drop (at + 1) text) ≡ take at marks ++ passed item inside (drop at marks) (drop at text)
pass_more item at inside marks text here new next d h is_here is_new is_next =
    let front : take (at + 1) (set marks at new) ≡ take at marks ++ new ∷ [] = take_more_set marks at new h in
    let back : drop (at + 1) (set marks at new) ≡ drop (at + 1) marks = drop-set-lt (at + 1) marks at new (omega arith) in
    let tail : rest_of (drop at text) ≡ drop (at + 1) text = rw add-one (rest_drop at text) in
    let whole : drop at marks ≡ here ∷ drop (at + 1) marks = drop_more marks at d h ∙ ap (λ (x : Bool). x ∷ drop (at + 1) marks) (sym is_here) in
    let on : List Bool = passed item (goes_on item.times here inside && atom_begins item.atom (drop at text)) (drop (at + 1) marks) (rest_of (drop at text)) in
    let moved : passed item inside (drop at marks) (drop at text) ≡ kept item.times here inside ∷ on = ap (λ (ms : List Bool). passed item inside ms (drop at text)) whole in
    let same_on : passed item next (drop (at + 1) marks) (drop (at + 1) text) ≡ on = ap (λ (n : Bool). passed item n (drop (at + 1) marks) (drop (at + 1) text)) is_next ∙ ap (λ (r : List ℕ). passed item (goes_on item.times here inside && atom_begins item.atom (drop at text)) (drop (at + 1) marks) r) (sym tail) in
    ap (λ (f : List Bool). f ++ passed item next (drop (at + 1) (set marks at new)) (drop (at + 1) text)) front
    ∙ (ap (λ (b : List Bool). (take at marks ++ new ∷ []) ++ passed item next b (drop (at + 1) text)) back
    ∙ (append_assoc (take at marks) (new ∷ []) (passed item next (drop (at + 1) marks) (drop (at + 1) text))
    ∙ (ap (λ (r : List Bool). take at marks ++ new ∷ r) same_on
    ∙ (ap (λ (n : Bool). take at marks ++ n ∷ on) is_new
    ∙ ap (λ (r : List Bool). take at marks ++ r) (sym moved)))))

pub pass_all : (item : Item) (at : ℕ) (inside : Bool) (marks : List Bool) (text : List ℕ) → length marks ≤ at → take at marks ++ passed item inside (drop at marks) (drop at text) ≡ marks
pass_all item at inside marks text h =
    ap (λ (f : List Bool). f ++ passed item inside (drop at marks) (drop at text)) (take_all at marks h)
    ∙ (ap (λ (b : List Bool). marks ++ passed item inside b (drop at text)) (drop_all at marks h) ∙ append-nil marks)

pub and_on : (g b r : Bool) → g ≡ true → r ≡ b → r ≡ (g && b)
and_on true b r hg hr = hr
and_on false b r hg hr = absurd (cc)

pub and_off : (g b r : Bool) → g ≡ false → r ≡ false → r ≡ (g && b)
and_off true b r hg hr = absurd (cc)
and_off false b r hg hr = hr

-- the marks at which a pattern may end
pub end_then : (e : Bool) (marks : List Bool) (text : List ℕ) (d : Bool) → e ≡ true → length marks ≡ suc (length text) → get_or marks (length text) d ≡ marked (is_end e) marks text
end_then e marks text d h size = last_marked marks text size d ∙ ap (λ (b : Bool). marked (is_end b) marks text) (sym h)

pub end_else : (e : Bool) (marks : List Bool) (text : List ℕ) → e ≡ false → list_any (λ (m : Bool). m) marks ≡ marked (is_end e) marks text
end_else e marks text h = some_marked marks text ∙ ap (λ (b : Bool). marked (is_end b) marks text) (sym h)

-- the loop over the items: an item is passed, and at the end all are
pub pass_item : (e : Bool) (items : List Item) (at : ℕ) (d : Item) (marks after : List Bool) (text : List ℕ) → at < length items → length marks ≡ suc (length text) → after ≡ passed (get_or items at d) false marks text → (length after ≡ suc (length text)) × (marked (match_at e (drop (at + 1) items)) after text ≡ marked (match_at e (drop at items)) marks text)
pass_item e items at d marks after text h size moved =
    let item : Item = get_or items at d in
    let left : drop at items ≡ item ∷ drop (at + 1) items = drop_more items at d h in (
      ap length moved ∙ (length_passed item false marks text ∙ size),
      ap (λ (ms : List Bool). marked (match_at e (drop (at + 1) items)) ms text) moved ∙ sym (ap (λ (is : List Item). marked (match_at e is) marks text) left ∙ item_passed e item (drop (at + 1) items) marks text size),
    )

pub items_done : (e : Bool) (items : List Item) (at : ℕ) (marks : List Bool) (text : List ℕ) (answer first : Bool) → length items ≤ at → answer ≡ marked (is_end e) marks text → marked (match_at e (drop at items)) marks text ≡ first → answer ≡ first
items_done e items at marks text answer first h is left = is ∙ (sym (ap (λ (is : List Item). marked (match_at e is) marks text) (drop_all at items h)) ∙ left)

-- the first marks, and all that comes of them
pub search_found : (p : Pattern) (items : List Item) (marks : List Bool) (text : List ℕ) → items ≡ p.items → marks ≡ first_marks p.at_start text → marked (match_at p.at_end items) marks text ≡ found p text
search_found p items marks text same first =
    ap (λ (is : List Item). marked (match_at p.at_end is) marks text) same
    ∙ (ap (λ (ms : List Bool). marked (match_at p.at_end p.items) ms text) first
    ∙ first_marked p.at_start (match_at p.at_end p.items) text)

each_map : (s : Bool) (text : List ℕ) (at : ℕ) (d : Bool) → at < length text → get_or (map (λ (c : ℕ). not s) text) at d ≡ not s
each_map s [] at d h = absurd (omega arith)
each_map s (c ∷ text) zero d h = refl
each_map s (c ∷ text) (suc at) d h = let below : at < length text = omega arith in each_map s text at d below

first_at : (s : Bool) (text : List ℕ) (at : ℕ) (d : Bool) → at < suc (length text) → get_or (first_marks s text) at d ≡ ((at == 0) || not s)
first_at s text zero d h = refl
first_at s text (suc at) d h =
    let below : at < length text = omega arith in
    let other : (suc at == 0) ≡ false = ne_eqb (suc at) 0 (λ (e : suc at ≡ 0). omega arith) in
    each_map s text at d below ∙ sym (ap (λ (b : Bool). b || not s) other)

pub first_more : (s : Bool) (text : List ℕ) (at : ℕ) (v : Bool) → at < length text + 1 → v ≡ ((at == 0) || not s) → take at (first_marks s text) ++ v ∷ [] ≡ take (at + 1) (first_marks s text)
first_more s text at v h is =
    let below : at < suc (length text) = omega arith in
    let size : length (first_marks s text) ≡ suc (length text) = length_first s text in
    let within : at < length (first_marks s text) = omega arith in
    ap (λ (b : Bool). take at (first_marks s text) ++ b ∷ []) (is ∙ sym (first_at s text at v below)) ∙ sym (take_more (first_marks s text) at v within)

pub first_all : (s : Bool) (text : List ℕ) (at : ℕ) → length text + 1 ≤ at → take at (first_marks s text) ≡ first_marks s text
first_all s text at h =
    let size : length (first_marks s text) ≡ suc (length text) = length_first s text in
    let over : length (first_marks s text) ≤ at = omega arith in
    take_all at (first_marks s text) over
