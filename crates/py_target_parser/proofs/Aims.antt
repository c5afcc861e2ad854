-- TARGETS, as the code goes along them.
use Rattle.std.proofs.Common.{◌≡◌, ℕ, suc, ◌-◌, ◌+◌, ◌<◌, ◌≤◌, max, nat_le, Bool, true, false, cond, not, Option, Some, None, MatchOption, List, [], ◌∷◌, ◌++◌, length, refl, sym, ap, ◌∙◌, subst, arith}
use Rattle.std.proofs.lemmas.Bool.Decides.{nat_tests}
use Rattle.py_source.specs.declared.pos.Pos.{Pos}
use Rattle.py_tokens.specs.declared.token.Token.{Token}
use Rattle.py_tree.specs.Trees as t
use Rattle.py_tree.specs.Trees.{Tree}
use Rattle.py_tree.specs.declared.stmt.Single.{Single}
use Rattle.py_tree.specs.Statements.{places as singles, place as place_of, Place, NamePlace, AttributePlace, SubscriptPlace, Taker, One, Unpack}
use Rattle.parsing.specs.Reading.{Read, Found, Bad, Deep, ◌>>=◌, deep_at, has, seen_or, is_some}
use Rattle.parsing.proofs.Loops.{bind_assoc}
use Rattle.parsing.proofs.Chain.{bind_found}
use Rattle.grammar.specs.Table.{less, taken, when, give, ◌⨾◌, ◌∣◌}
use Rattle.grammar.specs.Levels.{readers, fits, shown, takes}
use Rattle.grammar.proofs.Along.{no_levels}
use Rattle.grammar_code.specs.Walk.{up, pick, first_of, starts_with, whole}
use Rattle.grammar_code.proofs.Walk.{bind_eq, bind_found_same, pick_bind, pick_eq, pick_begins, part_eats, pursue_once, round_commas, round_walk, walked}
use Rattle.py_cursor.specs.token_kinds.Kinds.{kind, text_of}
use Rattle.py_cursor.specs.token_kinds.Numbers as k
use Rattle.py_cursor.specs.py_expressions.Values as v
use Rattle.py_cursor.specs.py_expressions.Values.{at_of, place_in, tree_of, Aim, Target, Carrier}
use Rattle.py_cursor.specs.py_expressions.Sorts.{aim, place, places, tree, other, single, targets, taker}
use Rattle.py_cursor.specs.py_expressions.Lines.{expressions, no_reader, key, part, attribute_place, aim_step, atom_begins}
use Rattle.py_cursor.specs.declared.stop.Stop.{Stop}
use Rattle.py_cursor.specs.Cursor.{FailsAs, IsBlocked}
use Rattle.py_cursor.proofs.Loops.{blocked_as, begun_over, begun_deep, begun_fails, begun_next, items_over, items_end, items_fails, items_next, fails_on}
use Rattle.py_expression_parser.specs.Reads.{reads, reads_part}
use Rattle.py_target_parser.specs.Aims.{as_target, aim_of, aim_tall, IsPlace, start_on, aims, step_on, places_more}
use Rattle.py_expression_parser.proofs.Lines.{line, takes as line_takes, all_eat, room_goes, room_stays}

pub single_none : (m : ℕ) (ts : List Token) → m ≡ 0 → reads m single ts ≡ deep_at (λ t. has (kind t) atom_begins) ts
single_none m ts e = ap (λ v. reads v single ts) e ∙ no_levels expressions no_reader single ts

pub single_blocked : (m : ℕ) (ts : List Token) (stop : Stop) → m ≡ 0 → IsBlocked (starts_with kind atom_begins ts) ts stop → FailsAs stop (reads m single ts)
single_blocked m ts stop e b = subst (λ r. FailsAs stop r) (sym (single_none m ts e)) (blocked_as (Place × ℕ) atom_begins ts stop b)

pub targets_none : (m : ℕ) (ts : List Token) → m ≡ 0 → reads m targets ts ≡ deep_at (λ t. has (kind t) atom_begins) ts
targets_none m ts e = ap (λ v. reads v targets ts) e ∙ no_levels expressions no_reader targets ts

pub targets_blocked : (m : ℕ) (ts : List Token) (stop : Stop) → m ≡ 0 → IsBlocked (starts_with kind atom_begins ts) ts stop → FailsAs stop (reads m targets ts)
targets_blocked m ts stop e b = subst (λ r. FailsAs stop r) (sym (targets_none m ts e)) (blocked_as (Taker × ℕ) atom_begins ts stop b)

-- single = NAME | primary "." NAME | primary "[" expr "]"
pub single_shape : (m : ℕ) (ts : List Token) → 0 < m → reads m single ts ≡ (start_on m ts >>= λ y. aims m y.0 y.1)
single_shape m ts h = line m single ts h
    ∙ pick_eq (first_of kind (k.name ∷ []) ts) _ _ _ (λ o. bind_found_same (aims m (Target (NamePlace o.0.at (text_of o.0)), 1) o.1))
    ∙ ap (λ z. pick (first_of kind (k.name ∷ []) ts) (λ o. aims m (Target (NamePlace o.0.at (text_of o.0)), 1) o.1) z)
    (bind_eq (reads (m - 1) other ts) _ _ (λ y rest. bind_found_same (aims m (Carrier y.0, 1 + y.1) rest)) ∙ sym (bind_assoc (reads (m - 1) other ts) (λ y. Found (Carrier y.0.0, 1 + y.0.1) y.1) (λ y. aims m y.0 y.1)))
    ∙ sym (pick_bind (first_of kind (k.name ∷ []) ts) _ _ (λ y. aims m y.0 y.1))

-- an expression is the place that it is
some_is : {X : Type 0} (x y : X) → Some x ≡ Some y → x ≡ y
some_is x y e = cc

place_is : (e : Tree) (p : Place) → place_in e ≡ Some p → tree_of p ≡ e
place_is (t.Name at n) p e = ap tree_of (sym (some_is _ p e))
place_is (t.Attribute at x n) p e = ap tree_of (sym (some_is _ p e))
place_is (t.Subscript at x i) p e = ap tree_of (sym (some_is _ p e))
place_is x p e = absurd (cc)

record Shown (e : Tree) : Type 0 where
  place : Place
  is : place_in e ≡ Some place

shown_place : (e : Tree) → is_some (place_in e) ≡ true → Shown e
shown_place e h = go (place_in e) refl h
  where
    go : (o : Option Place) → place_in e ≡ o → is_some o ≡ true → Shown e
    go (Some p) i h = record { place = p; is = i }
    go None i h = absurd (cc)

target_is : (e : Tree) (p : Place) → place_in e ≡ Some p → aim_of true e ≡ Target p
target_is e p i = ap (λ o. as_target o e) i

-- a target is the expression that it is, and as high; so is what must become a part of one
aimed_is : (b : Bool) (e : Tree) → IsPlace b e → v.aimed (aim_of b e) ≡ e
aimed_is true e h = let s = shown_place e h in ap v.aimed (target_is e s.place s.is) ∙ place_is e s.place s.is
aimed_is false e h = refl

less_one : (h : ℕ) → less (1 + h) ≡ h
less_one h = ap less one_more
  where
    one_more : 1 + h ≡ suc h
    one_more = omega arith

tall_is : (b : Bool) (e : Tree) (h : ℕ) → IsPlace b e → taken (is_some (v.target_in (aim_of b e))) (aim_tall b h) ≡ h
tall_is true e h p = let s = shown_place e p in ap (λ a. taken (is_some (v.target_in a)) h) (target_is e s.place s.is)
tall_is false e h p = less_one h

-- ".", "[" or "(" behind an expression
abbrev raw_step : ℕ → Tree × ℕ → List Token → Read Token (Aim × ℕ)
raw_step m s ts = cond (starts_with kind (k.dot ∷ []) ts) (reads_part m {S = tree} {A = place} attribute_place s ts >>= λ z. Found (Target z.0.0, z.0.1) z.1) (reads_part m {S = tree} {A = aim} aim_step s ts)

step_is : (m : ℕ) (s : Tree × ℕ) (ts : List Token) → raw_step m s ts ≡ step_on m s ts
step_is m s ts = walked expressions (m - 1) no_reader (readers expressions no_reader m) (readers expressions no_reader (m - 1)) {S = tree} {A = aim} ((attribute_place ⨾ give {A = aim} Target) ∣ aim_step) (s.0, up s.1) ts

raw_is : (m : ℕ) (b : Bool) (e : Tree) (h : ℕ) (ts : List Token) → IsPlace b e → raw_step m (v.aimed (aim_of b e), taken (is_some (v.target_in (aim_of b e))) (aim_tall b h)) ts ≡ step_on m (e, h) ts
raw_is m b e h ts p = ap (λ x. raw_step m (x, taken (is_some (v.target_in (aim_of b e))) (aim_tall b h)) ts) (aimed_is b e p) ∙ ap (λ x. raw_step m (e, x) ts) (tall_is b e h p) ∙ step_is m (e, h) ts

-- with which tokens a target goes on
abbrev pub goes_on : List ℕ
goes_on = k.dot ∷ k.left_bracket ∷ k.left_paren ∷ []

abbrev raw_of : ℕ → Aim × ℕ → List Token → Read Token (Aim × ℕ)
raw_of m x ts = raw_step m (v.aimed x.0, taken (is_some (v.target_in x.0)) x.1) ts

abbrev ends_so : Aim × ℕ → List Token → Read Token (Place × ℕ)
ends_so x ts = seen_or (Bad ts) (λ d. Found d ts) (shown v.target_in x)

aims_line : (m : ℕ) (x : Aim × ℕ) (ts : List Token) → aims m x ts ≡ cond (starts_with kind goes_on ts) (cond (takes (is_some (v.target_in x.0)) (m - 1) x.1) (raw_of m x ts >>= λ z. aims m z.0 z.1) (Deep ts)) (ends_so x ts)
aims_line m x ts = pursue_once expressions (m - 1) no_reader (readers expressions no_reader m) (readers expressions no_reader (m - 1)) (all_eat m) (all_eat (m - 1)) (λ q. absurd q) {S = aim} {A = place} {B = tree} {D = place} v.target_in v.aimed v.Target (λ _. refl) attribute_place aim_step refl refl x ts

pub aims_found : (m : ℕ) (e : Tree) (h : ℕ) (ts : List Token) (p : Place) → place_in e ≡ Some p → starts_with kind goes_on ts ≡ false → aims m (aim_of true e, h) ts ≡ Found (p, h) ts
aims_found m e h ts p i n = begun_over (aims m) goes_on (λ x. takes (is_some (v.target_in x.0)) (m - 1) x.1) (raw_of m) ends_so (aims_line m) (aim_of true e, h) ts n ∙ ap (λ a. ends_so (a, h) ts) (target_is e p i)

pub aims_bad : (m : ℕ) (e : Tree) (h : ℕ) (ts : List Token) → starts_with kind goes_on ts ≡ false → aims m (Carrier e, h) ts ≡ Bad ts
aims_bad m e h ts n = begun_over (aims m) goes_on (λ x. takes (is_some (v.target_in x.0)) (m - 1) x.1) (raw_of m) ends_so (aims_line m) (Carrier e, h) ts n

le_true : (a b : ℕ) → a ≤ b → nat_le a b ≡ true
le_true a b h = grind (arith, nat_tests)

le_false : (a b : ℕ) → b < a → nat_le a b ≡ false
le_false a b h = grind (arith, nat_tests)

takes_goes : (m : ℕ) (b : Bool) (e : Tree) (h : ℕ) → IsPlace b e → h < m → takes (is_some (v.target_in (aim_of b e))) (m - 1) (aim_tall b h) ≡ true
takes_goes m true e h p l = let s = shown_place e p in ap (λ a. takes (is_some (v.target_in a)) (m - 1) h) (target_is e s.place s.is) ∙ le_true h (m - 1) (omega arith)
takes_goes m false e h p l = refl

pub aims_deep : (m : ℕ) (e : Tree) (h : ℕ) (ts : List Token) (whole : Read Token (Place × ℕ)) → IsPlace true e → 0 < h → m ≤ h → starts_with kind goes_on ts ≡ true → aims m (aim_of true e, h) ts ≡ whole → whole ≡ Deep ts
aims_deep m e h ts whole p i l n w = let s = shown_place e p in
    begun_deep (aims m) goes_on (λ x. takes (is_some (v.target_in x.0)) (m - 1) x.1) (raw_of m) ends_so (aims_line m) (aim_of true e, h) ts whole n (ap (λ a. takes (is_some (v.target_in a)) (m - 1) h) (target_is e s.place s.is) ∙ le_false h (m - 1) (omega arith)) w

pub aims_fails : (m : ℕ) (b : Bool) (e : Tree) (h : ℕ) (ts : List Token) (stop : Stop) (whole : Read Token (Place × ℕ)) → IsPlace b e → h < m → starts_with kind goes_on ts ≡ true → FailsAs stop (step_on m (e, h) ts) → aims m (aim_of b e, aim_tall b h) ts ≡ whole → FailsAs stop whole
aims_fails m b e h ts stop whole p l n f w = begun_fails (aims m) goes_on (λ x. takes (is_some (v.target_in x.0)) (m - 1) x.1) (raw_of m) ends_so (aims_line m) (aim_of b e, aim_tall b h) ts stop whole n (takes_goes m b e h p l) (subst (λ r. FailsAs stop r) (sym (raw_is m b e h ts p)) f) w

pub aims_next : (m : ℕ) (b : Bool) (e : Tree) (h : ℕ) (ts : List Token) (y : Aim × ℕ) (rest : List Token) (whole : Read Token (Place × ℕ)) → IsPlace b e → h < m → starts_with kind goes_on ts ≡ true → step_on m (e, h) ts ≡ Found y rest → aims m (aim_of b e, aim_tall b h) ts ≡ whole → aims m y rest ≡ whole
aims_next m b e h ts y rest whole p l n f w = begun_next (aims m) goes_on (λ x. takes (is_some (v.target_in x.0)) (m - 1) x.1) (raw_of m) ends_so (aims_line m) (aim_of b e, aim_tall b h) ts y rest whole n (takes_goes m b e h p l) (raw_is m b e h ts p ∙ f) w

-- the same, as the code meets them
pub aims_deep_so : (m : ℕ) (b : Bool) (e : Tree) (h : ℕ) (ts : List Token) (whole : Read Token (Place × ℕ)) → b ≡ true → IsPlace b e → 0 < h → m ≤ h → starts_with kind goes_on ts ≡ true → aims m (aim_of b e, aim_tall b h) ts ≡ whole → whole ≡ Deep ts
aims_deep_so m true e h ts whole i p l k n w = aims_deep m e h ts whole p l k n w
aims_deep_so m false e h ts whole i p l k n w = absurd (cc)

pub aims_bad_so : (m : ℕ) (b : Bool) (e : Tree) (h : ℕ) (ts : List Token) (whole : Read Token (Place × ℕ)) → b ≡ false → starts_with kind goes_on ts ≡ false → aims m (aim_of b e, aim_tall b h) ts ≡ whole → whole ≡ Bad ts
aims_bad_so m false e h ts whole i n w = sym w ∙ aims_bad m e (1 + h) ts n
aims_bad_so m true e h ts whole i n w = absurd (cc)

pub aims_found_so : (m : ℕ) (b : Bool) (e : Tree) (h : ℕ) (ts : List Token) (p : Place) (whole : Read Token (Place × ℕ)) → b ≡ true → place_in e ≡ Some p → starts_with kind goes_on ts ≡ false → aims m (aim_of b e, aim_tall b h) ts ≡ whole → whole ≡ Found (p, h) ts
aims_found_so m true e h ts p whole i d n w = sym w ∙ aims_found m e h ts p d n
aims_found_so m false e h ts p whole i d n w = absurd (cc)

pub low_of : (b : Bool) (h m : ℕ) → b ≡ false → aim_tall b h ≤ m → h < m
low_of false h m i l = omega arith
low_of true h m i l = absurd (cc)

pub single_found : (e : Tree) (o : Option Single) (s : Single) → o ≡ Some s → MatchOption o (place_in e ≡ None) (λ s. place_in e ≡ Some (place_of s)) → place_in e ≡ Some (place_of s)
single_found e o s i m = subst (λ o. MatchOption o (place_in e ≡ None) (λ s. place_in e ≡ Some (place_of s))) i m

rest_is : (a b : Aim × ℕ) (u w : List Token) → Found a u ≡ Found b w → u ≡ w
rest_is a b u w e = cc

-- a step takes a token
pub step_takes : (m : ℕ) (s : Tree × ℕ) (ts : List Token) (y : Aim × ℕ) (rest : List Token) → step_on m s ts ≡ Found y rest → length rest < length ts
step_takes m s ts y rest e = go (starts_with kind (k.dot ∷ []) ts) refl (step_is m s ts ∙ e)
  where
    go : (b : Bool) → starts_with kind (k.dot ∷ []) ts ≡ b → cond b (reads_part m {S = tree} {A = place} attribute_place s ts >>= λ z. Found (Target z.0.0, z.0.1) z.1) (reads_part m {S = tree} {A = aim} aim_step s ts) ≡ Found y rest → length rest < length ts
    go true i f = let z = bind_found (reads_part m {S = tree} {A = place} attribute_place s ts) (λ z. Found (Target z.0.0, z.0.1) z.1) y rest f in let d = part_eats expressions (m - 1) no_reader (readers expressions no_reader m) (readers expressions no_reader (m - 1)) (all_eat m) (all_eat (m - 1)) (λ q. absurd q) {S = tree} {A = place} attribute_place refl s ts z.0 z.1 z.2 in let j = rest_is (Target z.0.0, z.0.1) y z.1 rest z.3 in subst (λ r. length r < length ts) j d
    go false i f = part_eats expressions (m - 1) no_reader (readers expressions no_reader m) (readers expressions no_reader (m - 1)) (all_eat m) (all_eat (m - 1)) (λ q. absurd q) {S = tree} {A = aim} aim_step refl s ts y rest f

-- TARGETS with commas between them
pub places_line : (m : ℕ) (s : v.Places × ℕ) (ts : List Token) → s.0.ended ≡ false → places_more m s ts ≡ pick (first_of kind (k.comma ∷ []) ts) (λ o. cond (starts_with kind atom_begins o.1) ((reads (m - 1) single o.1 >>= λ y. Found (v.one_place s.0 y.0.0, max s.1 y.0.1) y.1) >>= λ y. places_more m y.0 y.1) (Found (v.no_place s.0, s.1) o.1)) (Found s ts)
places_line m s ts h = round_commas expressions (m - 1) no_reader (readers expressions no_reader m) (readers expressions no_reader (m - 1)) (all_eat m) (all_eat (m - 1)) (λ q. absurd q) {S = places} (λ r. not r.ended) (k.comma ∷ []) (λ r _. r) (part single v.one_place) v.no_place s ts
    ∙ ap (λ b. cond (not b) (pick (first_of kind (k.comma ∷ []) ts) (λ o. cond (starts_with kind atom_begins o.1) (reads_part m {S = places} (part single v.one_place) s o.1 >>= λ y. places_more m y.0 y.1) (places_more m (v.no_place s.0, s.1) o.1)) (Found s ts)) (Found s ts)) h
    ∙ pick_eq (first_of kind (k.comma ∷ []) ts) _ _ (Found s ts) (λ o. ap (λ z. cond (starts_with kind atom_begins o.1) (reads_part m {S = places} (part single v.one_place) s o.1 >>= λ y. places_more m y.0 y.1) z) (round_commas expressions (m - 1) no_reader (readers expressions no_reader m) (readers expressions no_reader (m - 1)) (all_eat m) (all_eat (m - 1)) (λ q. absurd q) {S = places} (λ r. not r.ended) (k.comma ∷ []) (λ r _. r) (part single v.one_place) v.no_place (v.no_place s.0, s.1) o.1))

abbrev place_step : ℕ → v.Places × ℕ → List Token → Read Token (v.Places × ℕ)
place_step m s ts = reads (m - 1) single ts >>= λ y. Found (v.one_place s.0 y.0.0, max s.1 y.0.1) y.1

pub places_over : (m : ℕ) (s : v.Places × ℕ) (ts : List Token) → s.0.ended ≡ false → first_of kind (k.comma ∷ []) ts ≡ None → places_more m s ts ≡ Found s ts
places_over m s ts h e = items_over (places_more m) (k.comma ∷ []) atom_begins (place_step m) (λ s. (v.no_place s.0, s.1)) (λ s ts. Found s ts) (λ s. s.0.ended ≡ false) (places_line m) s ts h e

pub places_end : (m : ℕ) (s : v.Places × ℕ) (ts : List Token) (o : Token) (after : List Token) (p : v.Places) (l : ℕ) (whole : Read Token (v.Places × ℕ)) → s.0.ended ≡ false → first_of kind (k.comma ∷ []) ts ≡ Some (o, after) → starts_with kind atom_begins after ≡ false → p ≡ v.no_place s.0 → l ≡ s.1 → places_more m s ts ≡ whole → whole ≡ Found (p, l) after
places_end m s ts o after p l whole h e i j d w = items_end (places_more m) (k.comma ∷ []) atom_begins (place_step m) (λ s. (v.no_place s.0, s.1)) (λ s ts. Found s ts) (λ s. s.0.ended ≡ false) (places_line m) s ts o after (p, l) whole h e i (rw (j, d) refl) w

pub places_fails : (m : ℕ) (s : v.Places × ℕ) (ts : List Token) (o : Token) (after : List Token) (stop : Stop) (whole : Read Token (v.Places × ℕ)) → s.0.ended ≡ false → first_of kind (k.comma ∷ []) ts ≡ Some (o, after) → starts_with kind atom_begins after ≡ true → FailsAs stop (reads (m - 1) single after) → places_more m s ts ≡ whole → FailsAs stop whole
places_fails m s ts o after stop whole h e i d w = items_fails (places_more m) (k.comma ∷ []) atom_begins (place_step m) (λ s. (v.no_place s.0, s.1)) (λ s ts. Found s ts) (λ s. s.0.ended ≡ false) (places_line m) s ts o after stop whole h e i (fails_on stop (reads (m - 1) single after) (place_step m s after) (λ y. Found (v.one_place s.0 y.0.0, max s.1 y.0.1) y.1) d refl) w

pub places_next : (m : ℕ) (s : v.Places × ℕ) (ts : List Token) (o : Token) (after : List Token) (y : Place × ℕ) (rest : List Token) (p : v.Places) (l : ℕ) (whole : Read Token (v.Places × ℕ)) → s.0.ended ≡ false → first_of kind (k.comma ∷ []) ts ≡ Some (o, after) → starts_with kind atom_begins after ≡ true → reads (m - 1) single after ≡ Found y rest → p ≡ v.one_place s.0 y.0 → l ≡ max s.1 y.1 → places_more m s ts ≡ whole → places_more m (p, l) rest ≡ whole
places_next m s ts o after y rest p l whole h e i d a b w = items_next (places_more m) (k.comma ∷ []) atom_begins (place_step m) (λ s. (v.no_place s.0, s.1)) (λ s ts. Found s ts) (λ s. s.0.ended ≡ false) (places_line m) s ts o after (p, l) rest whole h e i (ap (λ r. r >>= λ y. Found (v.one_place s.0 y.0.0, max s.1 y.0.1) y.1) d ∙ rw (a, b) refl) w

-- target = single { "," single } [ "," ]
pub targets_shape : (m : ℕ) (ts : List Token) → 0 < m → reads m targets ts ≡ (reads m single ts >>= λ y. cond (starts_with kind (k.comma ∷ []) y.1) (cond (fits (m - 1) y.0.1) (places_more m (v.places_from y.0.0, y.0.1) y.1 >>= λ r. Found (Unpack r.0.0.all, 1 + r.0.1) r.1) (Deep y.1)) (Found (One y.0.0, y.0.1) y.1))
targets_shape m ts h = line m targets ts h ∙ bind_eq (reads m single ts) _ _ (λ y rest.
    pick_begins kind (k.comma ∷ []) rest (fits (m - 1) y.1) _ (Deep rest) (Found (Unpack (v.places_from y.0).all, 1 + y.1) rest) (Found (One y.0, y.1) rest)
    ∙ ap (λ z. cond (starts_with kind (k.comma ∷ []) rest) (cond (fits (m - 1) y.1) z (Deep rest)) (Found (One y.0, y.1) rest)) (sym (round_walk expressions (m - 1) no_reader (readers expressions no_reader m) (readers expressions no_reader (m - 1)) (all_eat m) (all_eat (m - 1)) (λ q. absurd q) {S = places} {B = taker} (when (λ r. not r.ended) (key k.comma ⨾ (part single v.one_place ∣ give v.no_place))) refl (v.places_from y.0, y.1) rest (λ r. Found (Unpack r.0.0.all, 1 + r.0.1) r.1))))

pub places_more_of : (all : List Single) (s : Single) → singles (all ++ s ∷ []) ≡ singles all ++ place_of s ∷ []
places_more_of [] s = refl
places_more_of (x ∷ all) s = ap (λ r. place_of x ∷ r) (places_more_of all s)

abbrev pair_of : v.Places → ℕ → v.Places × ℕ
pair_of r l = (r, l)

abbrev unpacked : (v.Places × ℕ) × List Token → Read Token (Taker × ℕ)
unpacked r = Found (Unpack r.0.0.all, 1 + r.0.1) r.1

targets_begun : (m : ℕ) (ts : List Token) (e : Place) (h : ℕ) (rest : List Token) → 0 < h → h < m → reads m single ts ≡ Found (e, h) rest → starts_with kind (k.comma ∷ []) rest ≡ true → reads m targets ts ≡ (places_more m (v.places_from e, h) rest >>= unpacked)
targets_begun m ts e h rest i j d b = targets_shape m ts (omega arith)
    ∙ ap (λ r. r >>= λ y. cond (starts_with kind (k.comma ∷ []) y.1) (cond (fits (m - 1) y.0.1) (places_more m (v.places_from y.0.0, y.0.1) y.1 >>= unpacked) (Deep y.1)) (Found (One y.0.0, y.0.1) y.1)) d
    ∙ ap (λ w. cond w (cond (fits (m - 1) h) (places_more m (v.places_from e, h) rest >>= unpacked) (Deep rest)) (Found (One e, h) rest)) b
    ∙ ap (λ w. cond w (places_more m (v.places_from e, h) rest >>= unpacked) (Deep rest)) (room_goes m h i j)

pub targets_stops : (m : ℕ) (ts : List Token) (e : Place) (h : ℕ) (rest : List Token) (r : v.Places) (l : ℕ) (stop : Stop) → 0 < h → h < m → reads m single ts ≡ Found (e, h) rest → starts_with kind (k.comma ∷ []) rest ≡ true → r ≡ v.places_from e → l ≡ h → FailsAs stop (places_more m (r, l) rest) → FailsAs stop (reads m targets ts)
targets_stops m ts e h rest r l stop i j d b p q f = subst (λ x. FailsAs stop x) (sym (targets_begun m ts e h rest i j d b)) (fails_on stop (places_more m (r, l) rest) (places_more m (v.places_from e, h) rest >>= unpacked) unpacked f (ap (λ x. places_more m x rest >>= unpacked) (both p q)))
  where
    both : r ≡ v.places_from e → l ≡ h → pair_of r l ≡ pair_of (v.places_from e) h
    both p q = rw (p, q) refl

pub targets_whole : (m : ℕ) (ts : List Token) (e : Place) (h : ℕ) (rest : List Token) (r : v.Places) (l : ℕ) (z : v.Places) (j : ℕ) (after : List Token) (x : Taker) (y : ℕ) → 0 < h → h < m → reads m single ts ≡ Found (e, h) rest → starts_with kind (k.comma ∷ []) rest ≡ true → r ≡ v.places_from e → l ≡ h → places_more m (r, l) rest ≡ Found (z, j) after
    → x ≡ Unpack z.all → y ≡ 1 + j → reads m targets ts ≡ Found (x, y) after
targets_whole m ts e h rest r l z j after x y i g d b p q f u w = targets_begun m ts e h rest i g d b
    ∙ ap (λ s. places_more m s rest >>= unpacked) (both p q)
    ∙ ap (λ s. s >>= unpacked) f
    ∙ rw (u, w) refl
  where
    both : r ≡ v.places_from e → l ≡ h → pair_of (v.places_from e) h ≡ pair_of r l
    both p q = rw (p, q) refl

-- what each target is
pub name_aim : (e : Tree) (at : Pos) (n : List ℕ) → e ≡ t.Name at n → aim_of true e ≡ Target (NamePlace at n)
name_aim e at n d = ap (λ x. aim_of true x) d

pub attribute_aim : (e : Tree) (at : Pos) (x : Tree) (n : List ℕ) → e ≡ t.Attribute at x n → aim_of true e ≡ Target (AttributePlace at x n)
attribute_aim e at x n d = ap (λ y. aim_of true y) d

pub subscript_aim : (e : Tree) (at : Pos) (x i : Tree) → e ≡ t.Subscript at x i → aim_of true e ≡ Target (SubscriptPlace at x i)
subscript_aim e at x i d = ap (λ y. aim_of true y) d

pub name_place : (e : Tree) (at : Pos) (n : List ℕ) → e ≡ t.Name at n → is_some (place_in e) ≡ true
name_place e at n d = ap (λ x. is_some (place_in x)) d

pub attribute_place_is : (e : Tree) (at : Pos) (x : Tree) (n : List ℕ) → e ≡ t.Attribute at x n → is_some (place_in e) ≡ true
attribute_place_is e at x n d = ap (λ y. is_some (place_in y)) d

pub subscript_place : (e : Tree) (at : Pos) (x i : Tree) → e ≡ t.Subscript at x i → is_some (place_in e) ≡ true
subscript_place e at x i d = ap (λ y. is_some (place_in y)) d

pub low_goes : (m h : ℕ) → 1 + h < m → nat_le (1 + h) (m - 1) ≡ true
low_goes m h l = le_true (1 + h) (m - 1) (omega arith)

pub low_stays : (m h : ℕ) → 0 < m → m ≤ 1 + h → nat_le (1 + h) (m - 1) ≡ false
low_stays m h i l = le_false (1 + h) (m - 1) (omega arith)

pub ruleset aim_rules = (name_aim, attribute_aim, subscript_aim, name_place, attribute_place_is, subscript_place, low_goes, low_stays, room_goes)

pub ruleset single_rules = (single_blocked, single_shape)

pub ruleset targets_rules = (targets_blocked, targets_shape, room_goes, room_stays)
