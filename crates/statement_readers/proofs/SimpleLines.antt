-- THE LINES OF SIMPLE STATEMENTS ARE WHAT THE CODE READS.
use Rattle.std.proofs.Common.{◌≡◌, ℕ, suc, nat_le, ◌==◌, ◌||◌, ◌&&◌, Bool, true, false, cond, not, Option, Some, None, List, [], ◌∷◌, ◌++◌, refl, sym, ap, ◌∙◌, subst}
use Rattle.py_source.specs.declared.pos.Pos.{Pos}
use Rattle.py_cursor.specs.py_tokens.declared.token.Token.{Token}
use Rattle.py_tree.specs.declared.stmt.Alias.{Alias}
use Rattle.py_tree.specs.Trees.{Tree, Maybe, Absent, Present}
use Rattle.py_tree.specs.Statements.{Place, Taker, Statement, Block, NoStatement, Next, Do, Assign, AssignYield, AugAssign, Return, ReturnYield, Raise, Assert, Del, GlobalOf, YieldOf, Import, ImportFrom}
use Rattle.parsing.specs.Reading.{Read, Found, Bad, Deep, ◌>>=◌, head_is, many_at, seen_or, has}
use Rattle.parsing.proofs.Loops.{bind_assoc}
use Rattle.grammar.specs.Table.{token, far, fork, ◌⨾◌, ◌∣◌, many, when, seen, give, line}
use Rattle.grammar.proofs.Lines.{same_number}
use Rattle.grammar.specs.Levels.{FarReaders, readers, first}
use Rattle.grammar_code.specs.Walk.{first_if, first_of, first_meant, pick}
use Rattle.grammar_code.specs.Plain.{plain, found, both_of, flat}
use Rattle.grammar_code.proofs.Plain.{line_flat, again_flat, one_of_flat}
use Rattle.py_cursor.specs.token_kinds.Kinds.{kind, text_of}
use Rattle.py_cursor.specs.token_kinds.Numbers as k
use Rattle.py_cursor.specs.py_expressions.Sorts as e
use Rattle.py_cursor.specs.py_expressions.Values.{at_of, place_in, taker_in}
use Rattle.py_cursor.specs.py_expressions.Lines.{expr_begins}
use Rattle.py_grammar.specs.Sorts as v
use Rattle.py_grammar.specs.Sorts.{BlockSort, BlockValue, BlockName, block_sort, plain as plain_sort, names as names_sort, twice, change}
use Rattle.py_grammar.specs.Lines as g
use Rattle.py_grammar.specs.Lines.{BlockPart, statements, require, on_token, simple_begins, changes}
use Rattle.py_grammar.specs.Sources.{expression_readers}
use Rattle.py_grammar.proofs.Good.{good_statements}
use Rattle.statement_readers.specs.Reads.{reads_as}
use Rattle.statement_readers.specs.Turns.{Reader, Turn, On, Out, step_at, turns}
use Rattle.statement_readers.specs.Words as w
use Rattle.statement_readers.specs.Words.{one_among, starts, one, two}
use Rattle.statement_readers.proofs.Turns.{bind_eq}
use Rattle.statement_readers.proofs.Rounds.{routed, rounds}
use Rattle.statement_readers.proofs.Pieces.{bind_if, bind_pick, onward, next, either, both, picks, chosen, none_head, optional_expr_on, optional_exprs_on, behind_on, name_on, alias_on}

abbrev pub fr : FarReaders statements
fr = expression_readers 100

-- what a line reads, without heights
abbrev pub L : (n : ℕ) (r : BlockName) → List Token → Read Token (BlockValue (block_sort r))
L n r ts = plain (readers statements fr n r ts)

abbrev pub FL : (n : ℕ) {S A : BlockSort} {C : Type 0} → BlockPart S A → BlockValue S → List Token → (BlockValue A × List Token → Read Token C) → Option (Read Token C) → Read Token C
FL n p s ts f z = flat statements (nat_le 1 n) fr (λ r ts. L (suc n) r ts) (λ r ts. L n r ts) p s ts f z

-- a loop of the grammar
abbrev pub ML : (n : ℕ) {S : BlockSort} → BlockPart S S → BlockValue S × List Token → Read Token (BlockValue S)
ML n p x = many_at (λ s t. has (kind t) (first statements p s)) (λ y. FL n p y.0 y.1 found None) x

raise_is : (at : Pos) (ts : List Token) → cond (starts expr_begins ts) (reads_as 100 e.expr ts >>= λ y. Found (Raise at (Present y.0.0)) y.1) (Found (Raise at Absent) ts) ≡ w.raise_behind at ts
unfolding w.raise_behind
raise_is at ts = sym (optional_expr_on (λ v. Found (Raise at v.0) v.1) ts)

yield_is : (at : Pos) (ts : List Token) → cond (starts expr_begins ts) (reads_as 100 e.exprs ts >>= λ y. Found (YieldOf at at (Present y.0.0)) y.1) (Found (YieldOf at at Absent) ts) ≡ w.yield_behind at ts
unfolding w.yield_behind
yield_is at ts = sym (optional_exprs_on (λ v. Found (YieldOf at at v.0) v.1) ts)

assert_is : (at : Pos) (ts : List Token) → (reads_as 100 e.expr ts >>= λ x. pick (one k.comma x.1) (λ o. reads_as 100 e.expr o.1 >>= λ y. Found (Assert at x.0.0 (Present y.0.0)) y.1) (Found (Assert at x.0.0 Absent) x.1)) ≡ w.assert_behind at ts
unfolding w.assert_behind
assert_is at ts = bind_eq (reads_as 100 e.expr ts) _ _ (λ x rest. sym (behind_on k.comma (λ m. Found (Assert at x.0 m.0) m.1) rest))

del_is : (at : Pos) (ts : List Token) → (reads_as 100 e.single ts >>= λ x. Found (Del at x.0.0) x.1) ≡ w.del_behind at ts
unfolding w.del_behind
del_is at ts = refl

-- NAMES
names_part : ℕ → BlockPart names_sort names_sort
names_part c = require c ⨾ on_token {S = names_sort} k.name (λ d u. (d.0, d.1 ++ text_of u ∷ []))

names_loop : {C : Type 0} (n c : ℕ) (at : Pos) (f : (Pos × List (List ℕ)) × List Token → Read Token C) (ns : List (List ℕ)) (ts : List Token) → (ML n (require c ⨾ on_token {S = names_sort} k.name (λ d u. (d.0, d.1 ++ text_of u ∷ []))) ((at, ns), ts) >>= f) ≡ (w.names_on c (ns, ts) >>= λ y. f ((at, y.0), y.1))
unfolding w.names_on
names_loop n c at f ns ts = rounds _ _ (c ∷ []) (λ ns. ns) w.name_step (λ ns. (at, ns)) (λ _. Unit {0}) f (λ y. f ((at, y.0), y.1)) (λ s ts p. refl)
    (λ K J h i s ts p. again_flat statements fr n (require c ⨾ on_token {S = names_sort} k.name (λ d u. (d.0, d.1 ++ text_of u ∷ []))) refl refl (at, s) ts K (f ((at, s), ts))
    ∙ picks (one c ts) _ _ _ _ (λ o. bind_eq (one_among (k.name ∷ []) o.1) _ _ (λ u rest. h (s ++ text_of u ∷ []) rest tt) ∙ sym (bind_assoc (w.name_reader o.1) _ (routed J (λ y. f ((at, y.0), y.1))) ∙ name_on (λ n. J (s ++ n.0 ∷ [], n.1)) o.1)) refl
    ∙ sym (bind_pick (one c ts) (w.name_step s) (Found (Out s) ts) (routed J (λ y. f ((at, y.0), y.1))))) ns ts tt

names_is : {C : Type 0} (n c : ℕ) (at : Pos) (f : (Pos × List (List ℕ)) × List Token → Read Token C) (ts : List Token) → FL n (g.names_by c) at ts f None ≡ (w.names c ts >>= λ ns. f ((at, ns.0), ns.1))
unfolding w.names
names_is n c at f ts = bind_eq (one_among (k.name ∷ []) ts) _ _ (λ o rest. names_loop n c at f (text_of o ∷ []) rest)
    ∙ sym (bind_assoc (w.name_reader ts) _ _ ∙ name_on (λ n. w.names_on c (n.0 ∷ [], n.1) >>= λ ns. f ((at, ns.0), ns.1)) ts)

global_is : (n : ℕ) (at : Pos) (ts : List Token) → FL n (g.names_by k.comma) at ts (λ d. Found (GlobalOf d.0.0 d.0.1) d.1) None ≡ w.global_behind at ts
unfolding w.global_behind
global_is n at ts = names_is n k.comma at (λ d. Found (GlobalOf d.0.0 d.0.1) d.1) ts

import_is : (n : ℕ) (at : Pos) (ts : List Token) → FL n (g.names_by k.dot) at ts (λ d. pick (one k.as_word d.1) (λ o. one_among (k.name ∷ []) o.1 >>= λ u. Found (Import d.0.0 d.0.1 (Some (text_of u.0))) u.1) (Found (Import d.0.0 d.0.1 None) d.1)) None ≡ w.import_behind at ts
unfolding w.import_behind
import_is n at ts = names_is n k.dot at (λ d. pick (one k.as_word d.1) (λ o. one_among (k.name ∷ []) o.1 >>= λ u. Found (Import d.0.0 d.0.1 (Some (text_of u.0))) u.1) (Found (Import d.0.0 d.0.1 None) d.1)) ts
    ∙ bind_eq (w.names k.dot ts) _ _ (λ ns rest. sym (alias_on (λ a. Found (Import at ns a.0) a.1) rest))

-- IMPORTS
alias_on_listing : {C : Type 0} (n : ℕ) (at : Pos) (ns : List (List ℕ)) (all : List Alias) (b : Bool) (f : v.Listing × List Token → Read Token C) (ts : List Token)
    → FL n g.one_name (record { at = at; from = ns; all = all; ended = b }) ts f None ≡ (w.alias ts >>= λ a. f (record { at = at; from = ns; all = all ++ a.0 ∷ []; ended = false }, a.1))
unfolding w.alias
alias_on_listing n at ns all b f ts = sym (bind_assoc (one_among (k.name ∷ []) ts) _ _
    ∙ bind_eq (one_among (k.name ∷ []) ts) _ _ (λ u rest. bind_assoc (w.alias_behind rest) _ _ ∙ alias_on (λ a. f (record { at = at; from = ns; all = all ++ record { at = u.at; name = text_of u; alias = a.0 } ∷ []; ended = false }, a.1)) rest))

-- one that has to begin there
alias_first : {C : Type 0} (n : ℕ) (at : Pos) (ns : List (List ℕ)) (all : List Alias) (b : Bool) (f : v.Listing × List Token → Read Token C) (z : Read Token C) (ts : List Token)
    → FL n g.one_name (record { at = at; from = ns; all = all; ended = b }) ts f (Some z) ≡ cond (starts (k.name ∷ []) ts) (w.alias ts >>= λ a. f (record { at = at; from = ns; all = all ++ a.0 ∷ []; ended = false }, a.1)) z
alias_first n at ns all b f z ts = chosen (k.name ∷ []) _ z ts ∙ ap (λ r. cond (starts (k.name ∷ []) ts) r z) (alias_on_listing n at ns all b f ts)

aliases_loop : {C : Type 0} (n : ℕ) (at : Pos) (ns : List (List ℕ)) (f : v.Listing × List Token → Read Token C) (all : List Alias) (ts : List Token)
    → (ML n (require k.comma ⨾ g.one_name) (record { at = at; from = ns; all = all; ended = false }, ts) >>= f) ≡ (w.aliases_on (all, ts) >>= λ y. f (record { at = at; from = ns; all = y.0; ended = false }, y.1))
unfolding w.aliases_on
aliases_loop n at ns f all ts = rounds _ _ (k.comma ∷ []) (λ all. all) w.alias_step (λ all. record { at = at; from = ns; all = all; ended = false }) (λ _. Unit {0}) f (λ y. f (record { at = at; from = ns; all = y.0; ended = false }, y.1)) (λ s ts p. refl)
    (λ K J h i s ts p. again_flat statements fr n (require k.comma ⨾ g.one_name) refl refl (record { at = at; from = ns; all = s; ended = false }) ts K (f (record { at = at; from = ns; all = s; ended = false }, ts))
    ∙ picks (one k.comma ts) _ _ _ _ (λ o. alias_on_listing n at ns s false K o.1 ∙ bind_eq (w.alias o.1) _ _ (λ a rest. h (s ++ a ∷ []) rest tt) ∙ sym (bind_assoc (w.alias o.1) _ (routed J (λ y. f (record { at = at; from = ns; all = y.0; ended = false }, y.1))))) refl
    ∙ sym (bind_pick (one k.comma ts) (w.alias_step s) (Found (Out s) ts) (routed J (λ y. f (record { at = at; from = ns; all = y.0; ended = false }, y.1))))) all ts tt

listed_loop : {C : Type 0} (n : ℕ) (at : Pos) (ns : List (List ℕ)) (f : v.Listing × List Token → Read Token C) → ((all : List Alias) (ts : List Token) → f (record { at = at; from = ns; all = all; ended = true }, ts) ≡ f (record { at = at; from = ns; all = all; ended = false }, ts)) → (all : List Alias) (ts : List Token)
    → (ML n (when (λ l. not l.ended) (require k.comma ⨾ (g.one_name ∣ give (λ l. record { at = l.at; from = l.from; all = l.all; ended = true })))) (record { at = at; from = ns; all = all; ended = false }, ts) >>= f) ≡ (w.listed_on (all, ts) >>= λ y. f (record { at = at; from = ns; all = y.0; ended = false }, y.1))
unfolding w.listed_on
listed_loop n at ns f e all ts = rounds _ _ (k.comma ∷ []) (λ all. all) w.listed_step (λ all. record { at = at; from = ns; all = all; ended = false }) (λ _. Unit {0}) f (λ y. f (record { at = at; from = ns; all = y.0; ended = false }, y.1)) (λ s ts p. refl)
    (λ K J h i s ts p. again_flat statements fr n (when (λ l. not l.ended) (require k.comma ⨾ (g.one_name ∣ give (λ l. record { at = l.at; from = l.from; all = l.all; ended = true })))) refl refl (record { at = at; from = ns; all = s; ended = false }) ts K (f (record { at = at; from = ns; all = s; ended = false }, ts))
    ∙ picks (one k.comma ts) _ _ _ _ (λ o. alias_first n at ns s false K (K (record { at = at; from = ns; all = s; ended = true }, o.1)) o.1
    ∙ ap (λ r. cond (starts (k.name ∷ []) o.1) (w.alias o.1 >>= λ a. K (record { at = at; from = ns; all = s ++ a.0 ∷ []; ended = false }, a.1)) r) (i (record { at = at; from = ns; all = s; ended = true }) o.1 (none_head o.1) ∙ e s o.1)
    ∙ ap (λ r. cond (starts (k.name ∷ []) o.1) r (f (record { at = at; from = ns; all = s; ended = false }, o.1))) (bind_eq (w.alias o.1) _ _ (λ a rest. h (s ++ a ∷ []) rest tt) ∙ sym (bind_assoc (w.alias o.1) _ (routed J (λ y. f (record { at = at; from = ns; all = y.0; ended = false }, y.1)))))
    ∙ sym (bind_if (starts (k.name ∷ []) o.1) _ _ (routed J (λ y. f (record { at = at; from = ns; all = y.0; ended = false }, y.1))))) refl
    ∙ sym (bind_pick (one k.comma ts) (w.listed_step s) (Found (Out s) ts) (routed J (λ y. f (record { at = at; from = ns; all = y.0; ended = false }, y.1))))) all ts tt

-- the names behind "import"; what is read behind them doesn't see whether a comma stands at the end
imported_is : {C : Type 0} (n : ℕ) (at : Pos) (ns : List (List ℕ)) (f : v.Listing × List Token → Read Token C) → ((all : List Alias) (ts : List Token) → f (record { at = at; from = ns; all = all; ended = true }, ts) ≡ f (record { at = at; from = ns; all = all; ended = false }, ts)) → (ts : List Token)
    → FL n (g.one_name ⨾ many (require k.comma ⨾ g.one_name) ∣ require k.left_paren ⨾ g.one_name ⨾ many (when (λ l. not l.ended) (require k.comma ⨾ (g.one_name ∣ give (λ l. record { at = l.at; from = l.from; all = l.all; ended = true })))) ⨾ require k.right_paren) (record { at = at; from = ns; all = []; ended = false }) ts f None
    ≡ (w.imported_names ts >>= λ all. f (record { at = at; from = ns; all = all.0; ended = false }, all.1))
unfolding w.imported_names
imported_is {C} n at ns f e ts =
    alias_first n at ns [] false (λ y. ML n (require k.comma ⨾ g.one_name) (y.0, y.1) >>= f) (one_among (k.left_paren ∷ []) ts >>= λ o. FL n g.one_name (record { at = at; from = ns; all = []; ended = false }) o.1 (λ y. ML n (when (λ l. not l.ended) (require k.comma ⨾ (g.one_name ∣ give (λ l. record { at = l.at; from = l.from; all = l.all; ended = true })))) (y.0, y.1) >>= λ y. one_among (k.right_paren ∷ []) y.1 >>= λ c. f (y.0, c.1)) None) ts
    ∙ either (starts (k.name ∷ []) ts) _ _ _ _ (λ all. f (record { at = at; from = ns; all = all.0; ended = false }, all.1))
    (onward (w.alias ts) _ _ (next (w.alias ts) _ _ (λ a rest. aliases_loop n at ns f (a ∷ []) rest)))
    (onward (one_among (k.left_paren ∷ []) ts) _ _ (next (one_among (k.left_paren ∷ []) ts) _ _ (λ o rest. onward (w.alias rest) _ _
    (alias_on_listing n at ns [] false (λ y. ML n (when (λ l. not l.ended) (require k.comma ⨾ (g.one_name ∣ give (λ l. record { at = l.at; from = l.from; all = l.all; ended = true })))) (y.0, y.1) >>= λ y. one_among (k.right_paren ∷ []) y.1 >>= λ c. f (y.0, c.1)) rest
    ∙ next (w.alias rest) _ _ (λ a rest. onward (w.listed_on (a ∷ [], rest)) _ _ (listed_loop n at ns (λ y. one_among (k.right_paren ∷ []) y.1 >>= λ c. f (y.0, c.1)) (λ all ts. next (one_among (k.right_paren ∷ []) ts) _ _ (λ c rest. e all rest)) (a ∷ []) rest
    ∙ next (w.listed_on (a ∷ [], rest)) _ _ (λ all rest. onward (one_among (k.right_paren ∷ []) rest) _ _ refl)))))))

-- ASSIGNMENTS
pick_const : {X A : Type 0} (o : Option X) (z : A) → z ≡ pick o (λ _. z) z
pick_const (Some x) z = refl
pick_const None z = refl

abbrev pub with_statement : Statement × List Token → Read Token Statement
with_statement y = Found y.0 y.1

abbrev value_of : Pos → List Taker → Tree → Statement
value_of at [] e = Do (at_of e) e
value_of at (t ∷ ts) e = Assign at (t ∷ ts) e

-- an expression alone stands where the statement begins
abbrev Begun : Pos → List Taker × Tree → Type 0
Begun at s = s.0 ≡ [] → at_of s.1 ≡ at

value_over : (at : Pos) (all : List Taker) (x : Tree) (ts : List Token) → (all ≡ [] → at_of x ≡ at) → with_statement (value_of at all x, ts) ≡ Found (w.assignment at all x) ts
value_over at [] x ts p = ap (λ a. Found (Do a x) ts) (p refl)
value_over at (t ∷ all) x ts p = refl

value_targets : (at : Pos) (all : List Taker) (x : Tree) → (all ≡ [] → at_of x ≡ at) → v.targets_in (value_of at all x) ≡ v.next_target at all (taker_in x)
value_targets at [] x p = ap (λ a. v.next_target a [] (taker_in x)) (p refl)
value_targets at (t ∷ all) x p = refl

value_more : (at : Pos) (all : List Taker) (t : Taker) (x : Tree) → Assign at (all ++ t ∷ []) x ≡ value_of at (all ++ t ∷ []) x
value_more at [] t x = refl
value_more at (u ∷ all) t x = refl

more_begun : (at : Pos) (all : List Taker) (t : Taker) (x : Tree) → all ++ t ∷ [] ≡ [] → at_of x ≡ at
more_begun at [] t x e = absurd (cc)
more_begun at (u ∷ all) t x e = absurd (cc)

-- the first token of some, or none
same_rest : {A : Type 0} (F : List ℕ) (ts : List Token) (f : List Token → Read Token A) → f ts ≡ pick (first_of kind F ts) (λ o. f (o.0 ∷ o.1)) (f ts)
same_rest F [] f = refl
same_rest F (t ∷ ts) f = go (has (kind t) F)
  where
    go : (b : Bool) → f (t ∷ ts) ≡ pick {X = Token × List Token} (first_if b (t, ts)) (λ o. f (o.0 ∷ o.1)) (f (t ∷ ts))
    go true = refl
    go false = refl

found_is : {A : Type 0} (r : Read Token A) → (r >>= found) ≡ r
found_is (Found a rest) = refl
found_is (Bad rest) = refl
found_is (Deep rest) = refl

assign_step_is : (n : ℕ) (at : Pos) (K : Statement × List Token → Read Token Statement) (J : (List Taker × Tree) × List Token → Read Token Statement) → ((s : List Taker × Tree) (ts : List Token) → (s.0 ≡ [] → at_of s.1 ≡ at) → K (value_of at s.0 s.1, ts) ≡ J (s, ts))
    → ((at : Pos) (all : List Taker) (word : Pos) (m : Maybe) (ts : List Token) → K (AssignYield at all word m, ts) ≡ Found (AssignYield at all word m) ts)
    → (all : List Taker) (x : Tree) (ts : List Token) → (all ≡ [] → at_of x ≡ at) → (o : Option Taker)
    → seen_or (with_statement (value_of at all x, ts)) (λ b. FL n g.assigned b ts K (Some (with_statement (value_of at all x, ts)))) (v.next_target at all o)
    ≡ pick (one k.equal ts) (λ y. pick o (λ t. w.right_side at (all ++ t ∷ []) y.1) (Found (Out (w.assignment at all x)) (y.0 ∷ y.1)) >>= routed J found) (Found (w.assignment at all x) ts)
unfolding w.yield_to w.optional_exprs
assign_step_is n at K J h i all x ts p None = value_over at all x ts p ∙ same_rest (k.equal ∷ []) ts (λ ts. Found (w.assignment at all x) ts)
assign_step_is n at K J h i all x ts p (Some t) = picks (one k.equal ts) _ _ _ _ (λ y. either (starts expr_begins y.1) _ _ _ _ (routed J found)
    (onward (reads_as 100 e.exprs y.1) _ _ (next (reads_as 100 e.exprs y.1) _ _ (λ z rest. ap (λ q. K (q, rest)) (value_more at all t z.0) ∙ h (all ++ t ∷ [], z.0) rest (more_begun at all t z.0))))
    (onward (one_among (k.yield ∷ []) y.1) _ _ (next (one_among (k.yield ∷ []) y.1) _ _ (λ u rest. onward (w.yield_to at (all ++ t ∷ []) u.at rest) _ _ (onward (w.optional_exprs rest) _ _ (either (starts expr_begins rest) _ _ _ _ _
    (onward (reads_as 100 e.exprs rest) _ _ (next (reads_as 100 e.exprs rest) _ _ (λ z rest. i at (all ++ t ∷ []) u.at (Present z.0) rest))) (i at (all ++ t ∷ []) u.at Absent rest))))))) (value_over at all x ts p)

assigns_loop : (n : ℕ) (at : Pos) (all : List Taker) (x : Tree) (ts : List Token) → (all ≡ [] → at_of x ≡ at) → (ML n (seen v.targets_in g.assigned) (value_of at all x, ts) >>= with_statement) ≡ w.assigns at ((all, x), ts)
unfolding w.assigns
assigns_loop n at all x ts p = rounds _ _ (k.equal ∷ []) (λ s. w.assignment at s.0 s.1) (w.assign_step at) (λ s. value_of at s.0 s.1) (Begun at) with_statement found (λ s ts p. value_over at s.0 s.1 ts p)
    (λ K J h i s ts p. again_flat statements fr n {S = plain_sort} (seen v.targets_in g.assigned) refl refl (value_of at s.0 s.1) ts K (with_statement (value_of at s.0 s.1, ts))
    ∙ ap (λ o. seen_or (with_statement (value_of at s.0 s.1, ts)) (λ b. FL n g.assigned b ts K (Some (with_statement (value_of at s.0 s.1, ts)))) o) (value_targets at s.0 s.1 p)
    ∙ assign_step_is n at K J h (λ at all word m ts. i (AssignYield at all word m) ts (none_head ts)) s.0 s.1 ts p (taker_in s.1)
    ∙ sym (bind_pick (one k.equal ts) (w.assign_step at s) (Found (Out (w.assignment at s.0 s.1)) ts) (routed J found))) (all, x) ts p
    ∙ found_is (turns (k.equal ∷ []) (λ s. w.assignment at s.0 s.1) (w.assign_step at) ((all, x), ts))

valued_is : (n : ℕ) (ts : List Token) → FL n g.valued tt ts with_statement None ≡ w.value_statement ts
unfolding w.value_statement
valued_is n ts = bind_eq (reads_as 100 e.exprs ts) _ _ (λ x rest. go x.0 rest (ML n (seen v.targets_in g.assigned) (Do (at_of x.0) x.0, rest) >>= with_statement) (place_in x.0)
    ∙ ap (λ z. pick (w.change_on rest) (λ c. pick (place_in x.0) (λ p. reads_as 100 e.expr c.1 >>= λ y. Found (AugAssign (at_of x.0) p c.0.1 y.0.0) y.1) z) z) (assigns_loop n (at_of x.0) [] x.0 rest (λ _. refl)))
  where
    go : (x : Tree) (rest : List Token) (z : Read Token Statement) (o : Option Place) → seen_or z (λ b. FL n g.augmented_assignment b rest with_statement (Some z)) (v.at_place (at_of x) o)
        ≡ pick (w.change_on rest) (λ c. pick o (λ p. reads_as 100 e.expr c.1 >>= λ y. Found (AugAssign (at_of x) p c.0.1 y.0.0) y.1) z) z
    go x rest z (Some p) = one_of_flat statements (nat_le 1 n) fr (λ r ts. L (suc n) r ts) (λ r ts. L n r ts) {S = v.changing} {A = change} (λ p _ o. (p, o)) changes.0 changes.1 (at_of x, p) rest (λ y. reads_as 100 e.expr y.1 >>= λ x. Found (AugAssign y.0.0.0 y.0.0.1 y.0.1 x.0.0) x.1) z
    go x rest z None = pick_const (w.change_on rest) z

-- "return", where two tokens decide
has_again : (x c : ℕ) (F : List ℕ) → has c F ≡ true → ((x == c) || has x F) ≡ has x F
has_again x c F h = go (x == c) refl
  where
    go : (b : Bool) → (x == c) ≡ b → (b || has x F) ≡ has x F
    go true i = sym (ap (λ y. has y F) (same_number x c i) ∙ h)
    go false i = refl

when_true : {A : Type 0} (b : Bool) (x y z : A) → b ≡ true → x ≡ z → cond b x y ≡ z
when_true b x y z e i = ap (λ b. cond b x y) e ∙ i

first_or : (b : Bool) → (b || false) ≡ true → b ≡ true
first_or true h = refl
first_or false h = absurd (cc)

left_first : (t : Token) → has (kind t) (k.left_paren ∷ []) ≡ true → (kind t == k.left_paren) ≡ true
left_first t h = first_or (kind t == k.left_paren) h

left_starts : (ts : List Token) (x : Token × List Token) → one k.left_paren ts ≡ Some x → starts (k.left_paren ∷ expr_begins) ts ≡ true
left_starts [] x e = absurd (cc)
left_starts (t ∷ ts) x e = go (has (kind t) (k.left_paren ∷ [])) refl e
  where
    go : (b : Bool) → has (kind t) (k.left_paren ∷ []) ≡ b → first_if {X = Token × List Token} b (t, ts) ≡ Some x → starts (k.left_paren ∷ expr_begins) (t ∷ ts) ≡ true
    go true h e = ap (λ b. b || has (kind t) expr_begins) (left_first t h)
    go false h e = absurd (cc)

return_is : (n : ℕ) (at : Pos) (ts : List Token) → FL n {S = v.position} (fork {B = twice} k.left_paren k.yield (λ at _ u. (at, u.at)) (far {A = plain_sort} e.exprs (λ x y. ReturnYield x.0 x.1 (Present y.0)) ⨾ require k.right_paren ∣ token {A = plain_sort} (k.right_paren ∷ []) (λ x _. ReturnYield x.0 x.1 Absent)) e.exprs (λ at x. Return at (Present x.0)) ∣ give (λ at. Return at Absent)) at ts with_statement None ≡ w.return_behind at ts
unfolding w.return_behind
return_is n at ts = by ts (one k.left_paren ts) refl
  where
    plainly : (ts : List Token) → cond (starts (k.left_paren ∷ expr_begins) ts) (reads_as 100 e.exprs ts >>= λ y. Found (Return at (Present y.0.0)) y.1) (Found (Return at Absent) ts) ≡ (w.optional_exprs ts >>= λ v. Found (Return at v.0) v.1)
    plainly [] = sym (optional_exprs_on (λ v. Found (Return at v.0) v.1) [])
    plainly (t ∷ ts) = ap (λ b. cond b (reads_as 100 e.exprs (t ∷ ts) >>= λ y. Found (Return at (Present y.0.0)) y.1) (Found (Return at Absent) (t ∷ ts))) (has_again (kind t) k.left_paren expr_begins refl) ∙ sym (optional_exprs_on (λ v. Found (Return at v.0) v.1) (t ∷ ts))

    yields : (word : Token) (ts : List Token) → cond (starts expr_begins ts) (reads_as 100 e.exprs ts >>= λ y. one_among (k.right_paren ∷ []) y.1 >>= λ c. Found (ReturnYield at word.at (Present y.0.0)) c.1) (one_among (k.right_paren ∷ []) ts >>= λ c. Found (ReturnYield at word.at Absent) c.1) ≡ (w.optional_exprs ts >>= λ v. one_among (k.right_paren ∷ []) v.1 >>= λ c. Found (ReturnYield at word.at v.0) c.1)
    yields word ts = sym (optional_exprs_on (λ v. one_among (k.right_paren ∷ []) v.1 >>= λ c. Found (ReturnYield at word.at v.0) c.1) ts)

    inner : (t : Token) (ts : List Token) → starts (k.left_paren ∷ expr_begins) ts ≡ true → (y : Option (Token × List Token)) → cond (starts (k.left_paren ∷ expr_begins) ts)
        (pick {X = Token × Token × List Token} (pick {Y = Option (Token × Token × List Token)} y (λ u. Some (t, u.0, u.1)) None)
        (λ o. cond (starts expr_begins o.2) (reads_as 100 e.exprs o.2 >>= λ y. one_among (k.right_paren ∷ []) y.1 >>= λ c. Found (ReturnYield at o.1.at (Present y.0.0)) c.1) (one_among (k.right_paren ∷ []) o.2 >>= λ c. Found (ReturnYield at o.1.at Absent) c.1))
        (reads_as 100 e.exprs ts >>= λ y. Found (Return at (Present y.0.0)) y.1)) (Found (Return at Absent) ts)
        ≡ pick y (λ o. w.optional_exprs o.1 >>= λ v. one_among (k.right_paren ∷ []) v.1 >>= λ c. Found (ReturnYield at o.0.at v.0) c.1) (w.optional_exprs ts >>= λ v. Found (Return at v.0) v.1)
    inner t ts h (Some u) = when_true _ _ _ _ h (yields u.0 u.1)
    inner t ts h None = plainly ts

    by : (ts : List Token) (o : Option (Token × List Token)) → one k.left_paren ts ≡ o → cond (starts (k.left_paren ∷ expr_begins) ts)
        (pick {X = Token × Token × List Token} (pick {Y = Option (Token × Token × List Token)} o (λ o. pick (one k.yield o.1) (λ u. Some (o.0, u.0, u.1)) None) None)
        (λ o. cond (starts expr_begins o.2) (reads_as 100 e.exprs o.2 >>= λ y. one_among (k.right_paren ∷ []) y.1 >>= λ c. Found (ReturnYield at o.1.at (Present y.0.0)) c.1) (one_among (k.right_paren ∷ []) o.2 >>= λ c. Found (ReturnYield at o.1.at Absent) c.1))
        (reads_as 100 e.exprs ts >>= λ y. Found (Return at (Present y.0.0)) y.1)) (Found (Return at Absent) ts)
        ≡ pick (pick o (λ o. one k.yield o.1) None) (λ o. w.optional_exprs o.1 >>= λ v. one_among (k.right_paren ∷ []) v.1 >>= λ c. Found (ReturnYield at o.0.at v.0) c.1) (w.optional_exprs ts >>= λ v. Found (Return at v.0) v.1)
    by ts (Some x) h = inner x.0 ts (left_starts ts x h) (one k.yield x.1)
    by ts None h = plainly ts

from_is : (n : ℕ) (at : Pos) (ts : List Token) → FL n (g.names_by k.dot) at ts (λ d. one_among (k.import ∷ []) d.1 >>= λ o. FL n (g.one_name ⨾ many (require k.comma ⨾ g.one_name) ∣ require k.left_paren ⨾ g.one_name ⨾ many (when (λ l. not l.ended) (require k.comma ⨾ (g.one_name ∣ give (λ l. record { at = l.at; from = l.from; all = l.all; ended = true })))) ⨾ require k.right_paren) (record { at = d.0.0; from = d.0.1; all = []; ended = false }) o.1 (λ l. Found (ImportFrom l.0.at l.0.from l.0.all) l.1) None) None ≡ w.from_behind at ts
unfolding w.from_behind
from_is n at ts = names_is n k.dot at _ ts ∙ bind_eq (w.names k.dot ts) _ _ (λ ns rest. bind_eq (one_among (k.import ∷ []) rest) _ _ (λ o rest. imported_is n at ns (λ l. Found (ImportFrom l.0.at l.0.from l.0.all) l.1) (λ all ts. refl) rest))

-- THE LINES
pub simple_is : (n : ℕ) (ts : List Token) → L (suc n) v.simple ts ≡ w.simple ts
unfolding w.simple w.word_statement
simple_is n ts = line_flat statements good_statements fr n v.simple refl ts
    ∙ picks (one k.pass ts) _ _ _ _ (λ o. refl) (picks (one k.break ts) _ _ _ _ (λ o. refl) (picks (one k.continue ts) _ _ _ _ (λ o. refl)
    (picks (one k.return ts) _ _ _ _ (λ o. return_is n o.0.at o.1) (picks (one k.raise ts) _ _ _ _ (λ o. raise_is o.0.at o.1) (picks (one k.assert ts) _ _ _ _ (λ o. assert_is o.0.at o.1) (picks (one k.del ts) _ _ _ _ (λ o. del_is o.0.at o.1)
    (picks (one k.global ts) _ _ _ _ (λ o. global_is n o.0.at o.1) (picks (one k.yield ts) _ _ _ _ (λ o. yield_is o.0.at o.1) (picks (one k.import ts) _ _ _ _ (λ o. import_is n o.0.at o.1) (picks (one k.from ts) _ _ _ _ (λ o. from_is n o.0.at o.1) (valued_is n ts)))))))))))

simples_loop : {C : Type 0} (n : ℕ) (f : v.Run × List Token → Read Token C) → ((b : Block) (ts : List Token) → f (record { all = b; ended = true }, ts) ≡ f (record { all = b; ended = false }, ts)) → (b : Block) (ts : List Token)
    → (ML n {S = v.run} (when (λ r. not r.ended) (require k.semicolon ⨾ (line v.simple v.one_more ∣ give (λ r. record { all = r.all; ended = true })))) (record { all = b; ended = false }, ts) >>= f) ≡ (w.simples_on (b, ts) >>= λ y. f (record { all = y.0; ended = false }, y.1))
unfolding w.simples_on
simples_loop n f e b ts = rounds _ _ (k.semicolon ∷ []) (λ b. b) w.simple_step (λ b. record { all = b; ended = false }) (λ _. Unit {0}) f (λ y. f (record { all = y.0; ended = false }, y.1)) (λ s ts p. refl)
    (λ K J h i s ts p. again_flat statements fr n {S = v.run} {A = v.run} (when (λ r. not r.ended) (require k.semicolon ⨾ (line v.simple v.one_more ∣ give (λ r. record { all = r.all; ended = true })))) refl refl (record { all = s; ended = false }) ts K (f (record { all = s; ended = false }, ts))
    ∙ picks (one k.semicolon ts) _ _ _ _ (λ o.
    ap (λ r. cond (starts simple_begins o.1) (L (suc n) v.simple o.1 >>= λ y. K (record { all = Next s y.0; ended = false }, y.1)) r) (i (record { all = s; ended = true }) o.1 (none_head o.1) ∙ e s o.1)
    ∙ ap (λ r. cond (starts simple_begins o.1) r (f (record { all = s; ended = false }, o.1))) (ap (λ r. r >>= λ y. K (record { all = Next s y.0; ended = false }, y.1)) (simple_is n o.1) ∙ bind_eq (w.simple o.1) _ _ (λ a rest. h (Next s a) rest tt) ∙ sym (bind_assoc (w.simple o.1) _ (routed J (λ y. f (record { all = y.0; ended = false }, y.1)))))
    ∙ sym (bind_if (starts simple_begins o.1) _ _ (routed J (λ y. f (record { all = y.0; ended = false }, y.1))))) refl
    ∙ sym (bind_pick (one k.semicolon ts) (w.simple_step s) (Found (Out s) ts) (routed J (λ y. f (record { all = y.0; ended = false }, y.1))))) b ts tt

pub simples_is : (n : ℕ) (ts : List Token) → L (suc n) v.simples ts ≡ w.simples NoStatement ts
unfolding w.simples
simples_is n ts = line_flat statements good_statements fr n v.simples refl ts
    ∙ both (L (suc n) v.simple ts) (w.simple ts) _ _ (simple_is n ts) (λ s rest. simples_loop n (λ r. one_among (k.newline ∷ []) r.1 >>= λ o. Found r.0.all o.1) (λ b ts. refl) (Next NoStatement s) rest)
