-- EACH LOOP, one step on: over, failed, gone on.
use Rattle.std.proofs.Common.{◌≡◌, ℕ, suc, ◌<◌, ◌≤◌, Bool, true, false, cond, Option, Some, None, List, [], ◌∷◌, ◌++◌, length, refl, sym, ap, ◌∙◌, arith}
use Rattle.py_source.specs.declared.pos.Pos.{Pos}
use Rattle.py_cursor.specs.py_tokens.declared.token.Token.{Token}
use Rattle.py_tree.specs.declared.stmt.Alias.{Alias}
use Rattle.py_tree.specs.declared.stmt.Target.{Target}
use Rattle.py_tree.specs.Trees.{Tree}
use Rattle.py_tree.specs.Statements.{Taker, Statement, Block, Next, Do, Assign, takers}
use Rattle.parsing.specs.Reading.{Read, Found, Bad, Deep, ◌>>=◌}
use Rattle.parsing.proofs.Chain.{bind_found}
use Rattle.grammar_code.specs.Walk.{first_of, pick}
use Rattle.py_cursor.specs.token_kinds.Kinds.{kind, text_of}
use Rattle.py_cursor.specs.token_kinds.Numbers as k
use Rattle.py_cursor.specs.py_expressions.Sorts.{exprs}
use Rattle.py_cursor.specs.py_expressions.Values.{taker_in}
use Rattle.py_cursor.specs.py_expressions.Lines.{expr_begins}
use Rattle.py_grammar.specs.Lines.{simple_begins}
use Rattle.statement_readers.specs.Reads.{reads_as}
use Rattle.statement_readers.proofs.Expressions.{takes}
use Rattle.py_cursor.specs.declared.stop.Stop.{Stop}
use Rattle.py_cursor.specs.Cursor.{FailsAs}
use Rattle.statement_readers.specs.Turns.{Turn, On, Out, turned, turns}
use Rattle.statement_readers.specs.Words.{one_among, starts, one, name_reader, name_step, names_on, alias_behind, alias, alias_step, aliases_on, listed_step, listed_on, assignment, optional_exprs, yield_to, right_side, assign_step, assigns, simple, simple_step, simples_on}
use Rattle.statement_readers.proofs.Takes.{simple_takes}
use Rattle.statement_readers.proofs.Turns.{Keeps, over, goes, fails, next, ends, fails_bind, wanted_takes, first_takes, first_whole}

pub found_rest : {A : Type 0} (x y : A) (u v : List Token) → Found x u ≡ Found y v → u ≡ v
found_rest x y u v e = cc

-- a reading that takes a token keeps so, whatever is made of its value
pub takes_bind : {A B : Type 0} (r : Read Token A) (f : A → B) (n : ℕ) → ((a : A) (rest : List Token) → r ≡ Found a rest → length rest < n) → (b : B) (rest : List Token) → (r >>= λ y. Found (f y.0) y.1) ≡ Found b rest → length rest < n
takes_bind r f n h b rest e = let y = bind_found r (λ y. Found (f y.0) y.1) b rest e in let i = h y.0 y.1 y.2 in let j = ap length (found_rest (f y.0) b y.1 rest y.3) in omega arith

-- NAMES
pub name_takes : (ts : List Token) (n : List ℕ) (rest : List Token) → name_reader ts ≡ Found n rest → length rest < length ts
unfolding name_reader
name_takes ts n rest e = takes_bind (one_among (k.name ∷ []) ts) text_of (length ts) (wanted_takes (k.name ∷ []) ts) n rest e

name_keeps : Keeps name_step
name_keeps ns o after t rest e = takes_bind (name_reader after) (λ n. On (ns ++ n ∷ [])) (suc (length after)) (λ a rest i. let h = name_takes after a rest i in omega arith) (On t) rest e

pub names_over : (c : ℕ) (ns : List (List ℕ)) (ts : List Token) → first_of kind (c ∷ []) ts ≡ None → names_on c (ns, ts) ≡ Found ns ts
unfolding names_on
names_over c ns ts e = over (c ∷ []) (λ ns. ns) name_step ns ts e

pub names_fails : (c : ℕ) (ns : List (List ℕ)) (ts : List Token) (o : Token) (after : List Token) (stop : Stop) (whole : Read Token (List (List ℕ))) → first_of kind (c ∷ []) ts ≡ Some (o, after) → FailsAs stop (name_reader after) → names_on c (ns, ts) ≡ whole → FailsAs stop whole
unfolding names_on
names_fails c ns ts o after stop whole e i w = fails (c ∷ []) (λ ns. ns) name_step name_keeps ns ts o after stop whole e (fails_bind stop (name_reader after) _ i) w

pub names_next : (c : ℕ) (ns : List (List ℕ)) (ts : List Token) (o : Token) (after : List Token) (n : List ℕ) (rest : List Token) (more : List (List ℕ)) (whole : Read Token (List (List ℕ))) → first_of kind (c ∷ []) ts ≡ Some (o, after) → name_reader after ≡ Found n rest → more ≡ ns ++ n ∷ [] → names_on c (ns, ts) ≡ whole → names_on c (more, rest) ≡ whole
unfolding names_on
names_next c ns ts o after n rest more whole e i j w = next (c ∷ []) (λ ns. ns) name_step name_keeps ns ts o after more rest whole e (rw (i, j) refl) w

pub ruleset name_rules = (names_over, names_next, names_fails)

-- NAMES THAT ARE IMPORTED
pub takes_then : {A B : Type 0} (r : Read Token A) (g : A × List Token → Read Token B) (n : ℕ) → ((a : A) (rest : List Token) → r ≡ Found a rest → length rest < n) → ((a : A) (mid : List Token) (b : B) (rest : List Token) → g (a, mid) ≡ Found b rest → length rest ≤ length mid) → (b : B) (rest : List Token) → (r >>= g) ≡ Found b rest → length rest < n
takes_then r g n h i b rest e = let y = bind_found r g b rest e in let j = h y.0 y.1 y.2 in let l = i y.0 y.1 b rest y.3 in omega arith

pub keeps_bind : {A B : Type 0} (r : Read Token A) (f : A → B) (n : ℕ) → ((a : A) (rest : List Token) → r ≡ Found a rest → length rest ≤ n) → (b : B) (rest : List Token) → (r >>= λ y. Found (f y.0) y.1) ≡ Found b rest → length rest ≤ n
keeps_bind r f n h b rest e = let y = bind_found r (λ y. Found (f y.0) y.1) b rest e in let i = h y.0 y.1 y.2 in let j = ap length (found_rest (f y.0) b y.1 rest y.3) in omega arith

pub alias_keeps : (ts : List Token) (a : Option (List ℕ)) (rest : List Token) → alias_behind ts ≡ Found a rest → length rest ≤ length ts
unfolding alias_behind
alias_keeps ts a rest e = go (one k.as_word ts) refl e
  where
    go : (x : Option (Token × List Token)) → one k.as_word ts ≡ x → pick x (λ o. name_reader o.1 >>= λ n. Found (Some n.0) n.1) (Found None ts) ≡ Found a rest → length rest ≤ length ts
    go (Some x) i e = let h = first_takes (k.as_word ∷ []) ts x.0 x.1 i in let j = takes_bind (name_reader x.1) (λ n. Some n) (length x.1) (name_takes x.1) a rest e in omega arith
    go None i e = let n : Option (List ℕ) = None in let j = ap length (found_rest n a ts rest e) in omega arith

pub alias_takes : (ts : List Token) (a : Alias) (rest : List Token) → alias ts ≡ Found a rest → length rest < length ts
unfolding alias
alias_takes ts a rest e = takes_then (one_among (k.name ∷ []) ts) _ (length ts) (wanted_takes (k.name ∷ []) ts) (λ n mid b rest i. keeps_bind (alias_behind mid) _ (length mid) (alias_keeps mid) b rest i) a rest e

alias_step_keeps : Keeps alias_step
alias_step_keeps all o after t rest e = takes_bind (alias after) (λ a. On (all ++ a ∷ [])) (suc (length after)) (λ a rest i. let h = alias_takes after a rest i in omega arith) (On t) rest e

pub aliases_over : (all : List Alias) (ts : List Token) → first_of kind (k.comma ∷ []) ts ≡ None → aliases_on (all, ts) ≡ Found all ts
unfolding aliases_on
aliases_over all ts e = over (k.comma ∷ []) (λ all. all) alias_step all ts e

pub aliases_fails : (all : List Alias) (ts : List Token) (o : Token) (after : List Token) (stop : Stop) (whole : Read Token (List Alias)) → first_of kind (k.comma ∷ []) ts ≡ Some (o, after) → FailsAs stop (alias after) → aliases_on (all, ts) ≡ whole → FailsAs stop whole
unfolding aliases_on
aliases_fails all ts o after stop whole e i w = fails (k.comma ∷ []) (λ all. all) alias_step alias_step_keeps all ts o after stop whole e (fails_bind stop (alias after) _ i) w

pub aliases_next : (all : List Alias) (ts : List Token) (o : Token) (after : List Token) (a : Alias) (rest : List Token) (more : List Alias) (whole : Read Token (List Alias)) → first_of kind (k.comma ∷ []) ts ≡ Some (o, after) → alias after ≡ Found a rest → more ≡ all ++ a ∷ [] → aliases_on (all, ts) ≡ whole → aliases_on (more, rest) ≡ whole
unfolding aliases_on
aliases_next all ts o after a rest more whole e i j w = next (k.comma ∷ []) (λ all. all) alias_step alias_step_keeps all ts o after more rest whole e (rw (i, j) refl) w

-- A LIST WHOSE ITEMS HAVE A TOKEN BETWEEN THEM, and maybe one at the end: one step on
module _ {S B : Type 0} (F : List ℕ) (item : List Token → Read Token B) (join : S → B → S) (item_takes : (ts : List Token) (b : B) (rest : List Token) → item ts ≡ Found b rest → length rest < length ts) where
  abbrev item_step : S → Token × List Token → Read Token (Turn S S)
  item_step s o = cond (starts F o.1) (item o.1 >>= λ b. Found (On (join s b.0)) b.1) (Found (Out s) o.1)

  item_keeps : Keeps item_step
  item_keeps s o after t rest e = go (starts F after) e
    where
      go : (b : Bool) → cond b (item after >>= λ b. Found (On (join s b.0)) b.1) (Found (Out s) after) ≡ Found (On t) rest → length rest < suc (length after)
      go true e = takes_bind (item after) (λ b. On (join s b)) (suc (length after)) (λ b rest i. let h = item_takes after b rest i in omega arith) (On t) rest e
      go false e = absurd (cc)

  pub item_fails : (c : ℕ) (s : S) (ts : List Token) (o : Token) (after : List Token) (stop : Stop) (whole : Read Token S) → first_of kind (c ∷ []) ts ≡ Some (o, after) → starts F after ≡ true → FailsAs stop (item after) → turns (c ∷ []) (λ s. s) item_step (s, ts) ≡ whole → FailsAs stop whole
  item_fails c s ts o after stop whole e b i w = fails (c ∷ []) (λ s. s) item_step item_keeps s ts o after stop whole e (rw b (fails_bind stop (item after) _ i)) w

  pub item_next : (c : ℕ) (s : S) (ts : List Token) (o : Token) (after : List Token) (b : B) (rest : List Token) (more : S) (whole : Read Token S) → first_of kind (c ∷ []) ts ≡ Some (o, after) → starts F after ≡ true → item after ≡ Found b rest → more ≡ join s b → turns (c ∷ []) (λ s. s) item_step (s, ts) ≡ whole → turns (c ∷ []) (λ s. s) item_step (more, rest) ≡ whole
  item_next c s ts o after b rest more whole e f i j w = next (c ∷ []) (λ s. s) item_step item_keeps s ts o after more rest whole e (rw (f, i, j) refl) w

  pub item_ends : (c : ℕ) (s : S) (ts : List Token) (o : Token) (after : List Token) (whole : Read Token S) → first_of kind (c ∷ []) ts ≡ Some (o, after) → starts F after ≡ false → turns (c ∷ []) (λ s. s) item_step (s, ts) ≡ whole → whole ≡ Found s after
  item_ends c s ts o after whole e f w = ends (c ∷ []) (λ s. s) item_step item_keeps s ts o after s after whole e (rw f refl) w

pub listed_over : (all : List Alias) (ts : List Token) → first_of kind (k.comma ∷ []) ts ≡ None → listed_on (all, ts) ≡ Found all ts
unfolding listed_on
listed_over all ts e = over (k.comma ∷ []) (λ all. all) listed_step all ts e

pub listed_ends : (all : List Alias) (ts : List Token) (o : Token) (after : List Token) (whole : Read Token (List Alias)) → first_of kind (k.comma ∷ []) ts ≡ Some (o, after) → starts (k.name ∷ []) after ≡ false → listed_on (all, ts) ≡ whole → whole ≡ Found all after
unfolding listed_on
listed_ends all ts o after whole e b w = item_ends (k.name ∷ []) alias (λ all a. all ++ a ∷ []) alias_takes k.comma all ts o after whole e b w

pub listed_fails : (all : List Alias) (ts : List Token) (o : Token) (after : List Token) (stop : Stop) (whole : Read Token (List Alias)) → first_of kind (k.comma ∷ []) ts ≡ Some (o, after) → starts (k.name ∷ []) after ≡ true → FailsAs stop (alias after) → listed_on (all, ts) ≡ whole → FailsAs stop whole
unfolding listed_on
listed_fails all ts o after stop whole e b i w = item_fails (k.name ∷ []) alias (λ all a. all ++ a ∷ []) alias_takes k.comma all ts o after stop whole e b i w

pub listed_next : (all : List Alias) (ts : List Token) (o : Token) (after : List Token) (a : Alias) (rest : List Token) (more : List Alias) (whole : Read Token (List Alias)) → first_of kind (k.comma ∷ []) ts ≡ Some (o, after) → starts (k.name ∷ []) after ≡ true → alias after ≡ Found a rest → more ≡ all ++ a ∷ [] → listed_on (all, ts) ≡ whole → listed_on (more, rest) ≡ whole
unfolding listed_on
listed_next all ts o after a rest more whole e b i j w = item_next (k.name ∷ []) alias (λ all a. all ++ a ∷ []) alias_takes k.comma all ts o after a rest more whole e b i j w

-- SIMPLE STATEMENTS IN A LINE
pub simples_over : (b : Block) (ts : List Token) → first_of kind (k.semicolon ∷ []) ts ≡ None → simples_on (b, ts) ≡ Found b ts
unfolding simples_on
simples_over b ts e = over (k.semicolon ∷ []) (λ b. b) simple_step b ts e

pub simples_ends : (b : Block) (ts : List Token) (o : Token) (after : List Token) (whole : Read Token Block) → first_of kind (k.semicolon ∷ []) ts ≡ Some (o, after) → starts simple_begins after ≡ false → simples_on (b, ts) ≡ whole → whole ≡ Found b after
unfolding simples_on
simples_ends b ts o after whole e i w = item_ends simple_begins simple Next simple_takes k.semicolon b ts o after whole e i w

pub simples_fails : (b : Block) (ts : List Token) (o : Token) (after : List Token) (stop : Stop) (whole : Read Token Block) → first_of kind (k.semicolon ∷ []) ts ≡ Some (o, after) → starts simple_begins after ≡ true → FailsAs stop (simple after) → simples_on (b, ts) ≡ whole → FailsAs stop whole
unfolding simples_on
simples_fails b ts o after stop whole e i d w = item_fails simple_begins simple Next simple_takes k.semicolon b ts o after stop whole e i d w

pub simples_next : (b : Block) (ts : List Token) (o : Token) (after : List Token) (s : Statement) (rest : List Token) (more : Block) (whole : Read Token Block) → first_of kind (k.semicolon ∷ []) ts ≡ Some (o, after) → starts simple_begins after ≡ true → simple after ≡ Found s rest → more ≡ Next b s → simples_on (b, ts) ≡ whole → simples_on (more, rest) ≡ whole
unfolding simples_on
simples_next b ts o after s rest more whole e i d j w = item_next simple_begins simple Next simple_takes k.semicolon b ts o after s rest more whole e i d j w

-- ASSIGNMENTS
pub assignment_none : (at : Pos) (ts : List Target) (e : Tree) → length ts ≡ 0 → assignment at (takers ts) e ≡ Do at e
assignment_none at [] e h = refl
assignment_none at (t ∷ ts) e h = absurd (omega arith)

pub assignment_some : (at : Pos) (ts : List Target) (e : Tree) → 0 < length ts → assignment at (takers ts) e ≡ Assign at (takers ts) e
assignment_some at [] e h = absurd (omega arith)
assignment_some at (t ∷ ts) e h = refl

assign_keeps : (at : Pos) → Keeps (assign_step at)
assign_keeps at s o after t rest e = go (taker_in s.1) e
  where
    yields : (all : List Taker) (b : Bool) → cond b (reads_as 100 exprs after >>= λ y. Found (On (all, y.0.0)) y.1) (one_among (k.yield ∷ []) after >>= λ o. yield_to at all o.0.at o.1 >>= λ s. Found (Out s.0) s.1) ≡ Found (On t) rest → length rest < suc (length after)
    yields all true e = takes_bind (reads_as 100 exprs after) (λ y. On (all, y.0)) (suc (length after)) (λ y rest i. let h = takes 100 exprs after y rest i in omega arith) (On t) rest e
    yields all false e = let x = bind_found (one_among (k.yield ∷ []) after) (λ o. yield_to at all o.0.at o.1 >>= λ s. Found (Out s.0) s.1) (On t) rest e in let y = bind_found (yield_to at all x.0.at x.1) (λ s. Found (Out s.0) s.1) (On t) rest x.3 in let f = y.3 in absurd (cc)

    go : (x : Option Taker) → pick x (λ t. right_side at (s.0 ++ t ∷ []) after) (Found (Out (assignment at s.0 s.1)) (o ∷ after)) ≡ Found (On t) rest → length rest < suc (length after)
    go (Some x) e = yields (s.0 ++ x ∷ []) (starts expr_begins after) e
    go None e = absurd (cc)

pub assigns_over : (at : Pos) (all : List Taker) (e : Tree) (ts : List Token) → first_of kind (k.equal ∷ []) ts ≡ None → assigns at ((all, e), ts) ≡ Found (assignment at all e) ts
unfolding assigns
assigns_over at all e ts d = over (k.equal ∷ []) (λ s. assignment at s.0 s.1) (assign_step at) (all, e) ts d

pub assigns_none : (at : Pos) (all : List Taker) (e : Tree) (ts : List Token) (o : Token) (after : List Token) (whole : Read Token Statement) → first_of kind (k.equal ∷ []) ts ≡ Some (o, after) → taker_in e ≡ None → assigns at ((all, e), ts) ≡ whole → whole ≡ Found (assignment at all e) ts
unfolding assigns
assigns_none at all e ts o after whole d i w = ends (k.equal ∷ []) (λ s. assignment at s.0 s.1) (assign_step at) (assign_keeps at) (all, e) ts o after (assignment at all e) ts whole d
    (rw i (ap (λ ts. Found (Out (assignment at all e)) ts) (sym (first_whole (k.equal ∷ []) ts o after d)))) w

-- what a yield gives is what the whole gives
abbrev outs : (S R : Type 0) → R × List Token → Read Token (Turn S R)
outs S R s = Found (Out s.0) s.1

gives_out : {S R : Type 0} (f : S × List Token → Read Token R) (r : Read Token R) → ((r >>= outs S R) >>= λ y. turned f y.0 y.1) ≡ r
gives_out f (Found x rest) = refl
gives_out f (Bad rest) = refl
gives_out f (Deep rest) = refl

pub assigns_yield : (at : Pos) (all : List Taker) (e : Tree) (ts : List Token) (o : Token) (after : List Token) (t : Taker) (more : List Taker) (w : Token) (behind : List Token) (whole : Read Token Statement) → first_of kind (k.equal ∷ []) ts ≡ Some (o, after) → taker_in e ≡ Some t → more ≡ all ++ t ∷ [] → starts expr_begins after ≡ false → one_among (k.yield ∷ []) after ≡ Found w behind
    → assigns at ((all, e), ts) ≡ whole → yield_to at more w.at behind ≡ whole
unfolding assigns
assigns_yield at all e ts o after t more w behind whole d i j b f v =
    ap (λ m. yield_to at m w.at behind) j ∙ sym (gives_out (turns (k.equal ∷ []) (λ s. assignment at s.0 s.1) (assign_step at)) (yield_to at (all ++ t ∷ []) w.at behind))
    ∙ sym (goes (k.equal ∷ []) (λ s. assignment at s.0 s.1) (assign_step at) (assign_keeps at) (all, e) ts o after d ∙ rw (i, b, f) refl) ∙ v

pub assigns_bad : (at : Pos) (all : List Taker) (e : Tree) (ts : List Token) (o : Token) (after : List Token) (t : Taker) (stop : Stop) (whole : Read Token Statement) → first_of kind (k.equal ∷ []) ts ≡ Some (o, after) → taker_in e ≡ Some t → starts expr_begins after ≡ false → FailsAs stop (one_among (k.yield ∷ []) after)
    → assigns at ((all, e), ts) ≡ whole → FailsAs stop whole
unfolding assigns
assigns_bad at all e ts o after t stop whole d i b x v = fails (k.equal ∷ []) (λ s. assignment at s.0 s.1) (assign_step at) (assign_keeps at) (all, e) ts o after stop whole d (rw (i, b) (fails_bind stop (one_among (k.yield ∷ []) after) _ x)) v

pub assigns_fails : (at : Pos) (all : List Taker) (e : Tree) (ts : List Token) (o : Token) (after : List Token) (t : Taker) (stop : Stop) (whole : Read Token Statement) → first_of kind (k.equal ∷ []) ts ≡ Some (o, after) → taker_in e ≡ Some t → starts expr_begins after ≡ true → FailsAs stop (reads_as 100 exprs after)
    → assigns at ((all, e), ts) ≡ whole → FailsAs stop whole
unfolding assigns
assigns_fails at all e ts o after t stop whole d i b x v = fails (k.equal ∷ []) (λ s. assignment at s.0 s.1) (assign_step at) (assign_keeps at) (all, e) ts o after stop whole d (rw (i, b) (fails_bind stop (reads_as 100 exprs after) _ x)) v

pub assigns_next : (at : Pos) (all : List Taker) (e : Tree) (ts : List Token) (o : Token) (after : List Token) (t : Taker) (more : List Taker) (y : Tree) (h : ℕ) (rest : List Token) (whole : Read Token Statement) → first_of kind (k.equal ∷ []) ts ≡ Some (o, after) → taker_in e ≡ Some t → more ≡ all ++ t ∷ [] → starts expr_begins after ≡ true
    → reads_as 100 exprs after ≡ Found (y, h) rest → assigns at ((all, e), ts) ≡ whole → assigns at ((more, y), rest) ≡ whole
unfolding assigns
assigns_next at all e ts o after t more y h rest whole d i j b x v = next (k.equal ∷ []) (λ s. assignment at s.0 s.1) (assign_step at) (assign_keeps at) (all, e) ts o after (more, y) rest whole d (rw (i, b, x, j) refl) v

pub ruleset alias_rules = (aliases_over, aliases_next, aliases_fails)

pub ruleset listed_rules = (listed_over, listed_ends, listed_next, listed_fails)

pub ruleset simple_rules = (simples_over, simples_ends, simples_next, simples_fails)

pub ruleset assignment_rules = (assignment_none, assignment_some)

pub ruleset assign_rules = (assigns_over, assigns_none, assigns_yield, assigns_bad, assigns_next, assigns_fails)
