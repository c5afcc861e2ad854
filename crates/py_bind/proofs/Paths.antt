-- What stands behind a front.
use Rattle.std.proofs.Common.{◌≡◌, ℕ, ◌+◌, ◌-◌, ◌<◌, ◌≤◌, Bool, true, false, cond, ◌&&◌, ◌||◌, ◌==◌, List, [], ◌∷◌, ◌++◌, length, take, drop, get_or, Option, Some, None, refl, sym, ap, ◌∙◌, arith}
use Rattle.std.specs.Prelude.{MatchOption, bytes_eq, encode_utf8, encode_utf8_all}
use Rattle.std.specs.List.{list_any, flat_map}
use Rattle.std.proofs.lemmas.Bool.{eqb-true, eq-eqb, ne_eqb, cond-true, cond-false, or_right}
use Rattle.std.proofs.lemmas.List.{drop_more, drop_all, take_rest}
use denote.Ref.{Bor}
use Rattle.py_bind.specs.Modules.{folder_of, path_part, slashed, module_path, rest_after}

behind_is : (front rest : List ℕ) → rest_after front (front ++ rest) ≡ Some rest
behind_is [] rest = refl
behind_is (c ∷ front) rest = cond-true (c == c) (rest_after front (front ++ rest)) None (eq-eqb c c refl) ∙ behind_is front rest

abbrev BehindIs : List ℕ → List ℕ → Option (List ℕ) → Type 0
BehindIs front text None = Unit {0}
BehindIs front text (Some rest) = text ≡ front ++ rest

behind_more : (c d : ℕ) (front text : List ℕ) (b : Bool) (o : Option (List ℕ)) → (c == d) ≡ b → BehindIs front text o → BehindIs (c ∷ front) (d ∷ text) (cond b o None)
behind_more c d front text true None e h = tt
behind_more c d front text true (Some rest) e h = ap (λ (x : ℕ). x ∷ text) (sym (eqb-true c d e)) ∙ ap (λ (t : List ℕ). c ∷ t) h
behind_more c d front text false o e h = tt

behind_cut : (front text : List ℕ) → BehindIs front text (rest_after front text)
behind_cut [] text = refl
behind_cut (c ∷ front) [] = tt
behind_cut (c ∷ front) (d ∷ text) = behind_more c d front text (c == d) (rest_after front text) refl (behind_cut front text)

none_by : (front text : List ℕ) (o : Option (List ℕ)) → BehindIs front text o → ((rest : List ℕ) → text ≡ front ++ rest → ⊥) → o ≡ None
none_by front text None h never = refl
none_by front text (Some rest) h never = absurd (never rest h)

-- what a call that strips a front gives
pub stripped : (front text : List ℕ) (r : Option (Bor (List ℕ))) → MatchOption r ((rest : List ℕ) → text ≡ front ++ rest → ⊥) (λ x. text ≡ front ++ x.now) → MatchOption r (rest_after front text ≡ None) (λ x. rest_after front text ≡ Some x.now)
stripped front text None h = none_by front text (rest_after front text) (behind_cut front text) h
stripped front text (Some x) h = ap (rest_after front) h ∙ behind_is front x.now

abbrev pub then_behind : List ℕ → Option (List ℕ) → Option (List ℕ)
then_behind front None = None
then_behind front (Some text) = rest_after front text

then_more : (front : List ℕ) (b : Bool) (o p : Option (List ℕ)) → o ≡ then_behind front p → cond b o None ≡ then_behind front (cond b p None)
then_more front true o p h = h
then_more front false o p h = refl

-- one front behind another
pub behind_append : (a b text : List ℕ) → rest_after (a ++ b) text ≡ then_behind b (rest_after a text)
behind_append [] b text = refl
behind_append (c ∷ a) b [] = refl
behind_append (c ∷ a) b (d ∷ text) = then_more b (c == d) (rest_after (a ++ b) text) (rest_after a text) (behind_append a b text)

pub behind_both : (a b text rest : List ℕ) → rest_after a text ≡ Some rest → rest_after (a ++ b) text ≡ rest_after b rest
behind_both a b text rest h = behind_append a b text ∙ ap (then_behind b) h

pub behind_neither : (a b text : List ℕ) → rest_after a text ≡ None → rest_after (a ++ b) text ≡ None
behind_neither a b text h = behind_append a b text ∙ ap (then_behind b) h

-- a loop over what makes fronts: `all` is the fronts of a list, one behind the other
fronts_left : {X : Type 0} (f : X → List ℕ) (all : List X → List ℕ) (more : (x : X) (xs : List X) → all (x ∷ xs) ≡ f x ++ all xs) (xs : List X) (at : ℕ) (x : X) → at < length xs → x ≡ get_or xs at x → all (drop at xs) ≡ f x ++ all (drop (at + 1) xs)
fronts_left {X = X} f all more xs at x h is = ap all (drop_more xs at x h ∙ ap (λ (y : X). y ∷ drop (at + 1) xs) (sym is)) ∙ more x (drop (at + 1) xs)

front_step : {X : Type 0} (f : X → List ℕ) (all : List X → List ℕ) (more : (x : X) (xs : List X) → all (x ∷ xs) ≡ f x ++ all xs) (xs : List X) (at : ℕ) (x : X) (text rest : List ℕ) → at < length xs → x ≡ get_or xs at x → rest_after (f x) text ≡ Some rest → rest_after (all (drop (at + 1) xs)) rest ≡ rest_after (all (drop at xs)) text
front_step f all more xs at x text rest h is e = sym (ap (λ (t : List ℕ). rest_after t text) (fronts_left f all more xs at x h is) ∙ behind_both (f x) (all (drop (at + 1) xs)) text rest e)

front_stop : {X : Type 0} (f : X → List ℕ) (all : List X → List ℕ) (more : (x : X) (xs : List X) → all (x ∷ xs) ≡ f x ++ all xs) (xs : List X) (at : ℕ) (x : X) (text : List ℕ) → at < length xs → x ≡ get_or xs at x → rest_after (f x) text ≡ None → rest_after (all (drop at xs)) text ≡ None
front_stop f all more xs at x text h is e = ap (λ (t : List ℕ). rest_after t text) (fronts_left f all more xs at x h is) ∙ behind_neither (f x) (all (drop (at + 1) xs)) text e

-- the characters of a name
pub char_step : (name : List ℕ) (at c : ℕ) (text rest : List ℕ) → at < length name → c ≡ get_or name at c → rest_after (encode_utf8 c) text ≡ Some rest → rest_after (encode_utf8_all (drop (at + 1) name)) rest ≡ rest_after (encode_utf8_all (drop at name)) text
char_step = front_step encode_utf8 encode_utf8_all (λ c cs. refl)

pub char_stop : (name : List ℕ) (at c : ℕ) (text : List ℕ) → at < length name → c ≡ get_or name at c → rest_after (encode_utf8 c) text ≡ None → rest_after (encode_utf8_all (drop at name)) text ≡ None
char_stop = front_stop encode_utf8 encode_utf8_all (λ c cs. refl)

pub char_end : (name : List ℕ) (at : ℕ) (text : List ℕ) → length name ≤ at → rest_after (encode_utf8_all (drop at name)) text ≡ Some text
char_end name at text h = ap (λ (cs : List ℕ). rest_after (encode_utf8_all cs) text) (drop_all at name h)

-- the parts of a dotted name
pub part_step : (names : List (List ℕ)) (at : ℕ) (name : List ℕ) (text rest : List ℕ) → at < length names → name ≡ get_or names at name → rest_after (path_part name) text ≡ Some rest → rest_after (flat_map path_part (drop (at + 1) names)) rest ≡ rest_after (flat_map path_part (drop at names)) text
part_step = front_step path_part (flat_map path_part) (λ n ns. refl)

pub part_stop : (names : List (List ℕ)) (at : ℕ) (name : List ℕ) (text : List ℕ) → at < length names → name ≡ get_or names at name → rest_after (path_part name) text ≡ None → rest_after (flat_map path_part (drop at names)) text ≡ None
part_stop = front_stop path_part (flat_map path_part) (λ n ns. refl)

pub part_end : (names : List (List ℕ)) (at : ℕ) (text : List ℕ) → length names ≤ at → rest_after (flat_map path_part (drop at names)) text ≡ Some text
part_end names at text h = ap (λ (ns : List (List ℕ)). rest_after (flat_map path_part ns) text) (drop_all at names h)

-- a whole text
abbrev pub tested : List ℕ → Option (List ℕ) → Bool
tested end None = false
tested end (Some rest) = bytes_eq end rest

tested_more : (end : List ℕ) (b : Bool) (x : Bool) (o : Option (List ℕ)) → x ≡ tested end o → (b && x) ≡ tested end (cond b o None)
tested_more end true x o h = h
tested_more end false x o h = refl

pub whole_is : (front end text : List ℕ) → bytes_eq (front ++ end) text ≡ tested end (rest_after front text)
whole_is [] end text = refl
whole_is (c ∷ front) end [] = refl
whole_is (c ∷ front) end (d ∷ text) = tested_more end (c == d) (bytes_eq (front ++ end) text) (rest_after front text) (whole_is front end text)

-- The folder of a file
abbrev is_slash : ℕ → Bool
is_slash c = c == 47

slash_last : (front : List ℕ) → list_any is_slash (front ++ 47 ∷ []) ≡ true
slash_last [] = refl
slash_last (c ∷ front) = or_right (c == 47) (list_any is_slash (front ++ 47 ∷ [])) (slash_last front)

pub folder_end : (front : List ℕ) → folder_of (front ++ 47 ∷ []) ≡ front ++ 47 ∷ []
folder_end [] = refl
folder_end (c ∷ front) = cond-true (list_any is_slash (c ∷ (front ++ 47 ∷ []))) (c ∷ folder_of (front ++ 47 ∷ [])) [] (slash_last (c ∷ front)) ∙ ap (λ (t : List ℕ). c ∷ t) (folder_end front)

no_slash_last : (front : List ℕ) (d : ℕ) → (d == 47) ≡ false → list_any is_slash (front ++ d ∷ []) ≡ list_any is_slash front
no_slash_last [] d h = ap (λ (b : Bool). b || false) h
no_slash_last (c ∷ front) d h = ap (λ (b : Bool). (c == 47) || b) (no_slash_last front d h)

pub folder_other : (front : List ℕ) (d : ℕ) → (d == 47) ≡ false → folder_of (front ++ d ∷ []) ≡ folder_of front
folder_other [] d h = cond-false (list_any is_slash (d ∷ [])) (d ∷ []) [] (no_slash_last [] d h)
folder_other (c ∷ front) d h =
    ap (λ (b : Bool). cond b (c ∷ folder_of (front ++ d ∷ [])) []) (no_slash_last (c ∷ front) d h)
    ∙ ap (λ (t : List ℕ). cond (list_any is_slash (c ∷ front)) (c ∷ t) []) (folder_other front d h)

-- a step back from a path's end
pub folder_found : (path rest front : List ℕ) (last : ℕ) → rest ≡ front ++ last ∷ [] → last ≡ 47 → folder_of rest ≡ folder_of path → rest ≡ folder_of path
folder_found path rest front last h e left =
    let whole : rest ≡ front ++ 47 ∷ [] = h ∙ ap (λ (x : ℕ). front ++ x ∷ []) e in
    whole ∙ (sym (ap folder_of whole ∙ folder_end front) ∙ left)

pub folder_back : (path rest front : List ℕ) (last : ℕ) → rest ≡ front ++ last ∷ [] → (last ≡ 47 → ⊥) → folder_of rest ≡ folder_of path → folder_of front ≡ folder_of path
folder_back path rest front last h other left = sym (ap folder_of h ∙ folder_other front last (ne_eqb last 47 other)) ∙ left

-- what a function answers that gives a rest
pub none_given : (r : Option (Bor (List ℕ))) (front text : List ℕ) → r ≡ None → rest_after front text ≡ None → MatchOption r (rest_after front text ≡ None) (λ x. rest_after front text ≡ Some x.now)
none_given None front text e h = h
none_given (Some x) front text e h = absurd (cc)

pub same_given : (r : Option (Bor (List ℕ))) (front text other rest : List ℕ) → rest_after front text ≡ rest_after other rest → MatchOption r (rest_after other rest ≡ None) (λ x. rest_after other rest ≡ Some x.now) → MatchOption r (rest_after front text ≡ None) (λ x. rest_after front text ≡ Some x.now)
same_given None front text other rest e h = e ∙ h
same_given (Some x) front text other rest e h = e ∙ h

-- a dotted name with its first part shown
dotted_cut : (names : List (List ℕ)) (first : List ℕ) → 1 ≤ length names → first ≡ get_or names 0 first → slashed names ≡ encode_utf8_all first ++ flat_map path_part (take (length names - 1) (drop 1 names))
dotted_cut [] first some is = absurd (omega (arith, some))
dotted_cut (name ∷ names) first some is =
    ap (λ (n : List ℕ). encode_utf8_all n ++ flat_map path_part names) (sym is)
    ∙ ap (λ (ns : List (List ℕ)). encode_utf8_all first ++ flat_map path_part ns) (sym (take_rest (name ∷ names) 1))

pub dotted_on : (names : List (List ℕ)) (first text rest : List ℕ) → 1 ≤ length names → first ≡ get_or names 0 first → rest_after (encode_utf8_all first) text ≡ Some rest → rest_after (slashed names) text ≡ rest_after (flat_map path_part (take (length names - 1) (drop 1 names))) rest
dotted_on names first text rest some is e = ap (λ (f : List ℕ). rest_after f text) (dotted_cut names first some is) ∙ behind_both (encode_utf8_all first) (flat_map path_part (take (length names - 1) (drop 1 names))) text rest e

pub dotted_not : (names : List (List ℕ)) (first text : List ℕ) → 1 ≤ length names → first ≡ get_or names 0 first → rest_after (encode_utf8_all first) text ≡ None → rest_after (slashed names) text ≡ None
dotted_not names first text some is e = ap (λ (f : List ℕ). rest_after f text) (dotted_cut names first some is) ∙ behind_neither (encode_utf8_all first) (flat_map path_part (take (length names - 1) (drop 1 names))) text e

-- a whole path
pub path_is : (folder : List ℕ) (dotted : List (List ℕ)) (end path rest last : List ℕ) → rest_after folder path ≡ Some rest → rest_after (slashed dotted) rest ≡ Some last → bytes_eq end last ≡ bytes_eq (module_path folder dotted end) path
path_is folder dotted end path rest last e d = sym (whole_is folder (slashed dotted ++ end) path ∙ (ap (tested (slashed dotted ++ end)) e ∙ (whole_is (slashed dotted) end rest ∙ ap (tested end) d)))

pub path_not_dotted : (folder : List ℕ) (dotted : List (List ℕ)) (end path rest : List ℕ) → rest_after folder path ≡ Some rest → rest_after (slashed dotted) rest ≡ None → false ≡ bytes_eq (module_path folder dotted end) path
path_not_dotted folder dotted end path rest e d = sym (whole_is folder (slashed dotted ++ end) path ∙ (ap (tested (slashed dotted ++ end)) e ∙ (whole_is (slashed dotted) end rest ∙ ap (tested end) d)))

pub path_not_in : (folder : List ℕ) (dotted : List (List ℕ)) (end path : List ℕ) → rest_after folder path ≡ None → false ≡ bytes_eq (module_path folder dotted end) path
path_not_in folder dotted end path e = sym (whole_is folder (slashed dotted ++ end) path ∙ ap (tested (slashed dotted ++ end)) e)
