-- THE LINES OF BLOCKS AND OF STATEMENTS WITH BLOCKS ARE WHAT THE CODE READS.
use Rattle.std.proofs.Common.{◌≡◌, ℕ, zero, suc, nat_le, length, Bool, true, false, cond, not, Option, Some, None, List, [], ◌∷◌, ◌++◌, refl, sym, ap, ◌∙◌}
use mathlib.Core.Path.{fun_ext}
use Rattle.py_source.specs.declared.pos.Pos.{Pos}
use Rattle.py_cursor.specs.py_tokens.declared.token.Token.{Token}
use Rattle.py_tree.specs.Trees.{Tree, Trees, Maybe, Absent, Present, Empty, More, NoneTree}
use Rattle.py_tree.specs.Statements.{Parameter, Parameter_at, Statement, Block, Branches, Handlers, NoStatement, Next, NoBranch, Branch, NoHandler, Handler, If, While, For, Try, With, Def, Class}
use Rattle.parsing.specs.Reading.{Read, Found, Bad, Deep, ◌>>=◌, deep_at, has}
use Rattle.parsing.proofs.Loops.{bind_assoc}
use Rattle.grammar.specs.Table.{token, far, inner, line, ◌⨾◌, ◌∣◌, many, when, seen, give, node}
use Rattle.grammar.specs.Levels.{readers}
use Rattle.grammar.proofs.Along.{no_levels}
use Rattle.grammar_code.specs.Walk.{first_if, first_of, pick}
use Rattle.grammar_code.specs.Plain.{plain, found, flat}
use Rattle.grammar_code.proofs.Plain.{line_flat, again_flat}
use Rattle.py_cursor.specs.token_kinds.Kinds.{kind, text_of}
use Rattle.py_cursor.specs.token_kinds.Numbers as k
use Rattle.py_cursor.specs.py_expressions.Sorts as e
use Rattle.py_cursor.specs.py_expressions.Lines.{expr_begins}
use Rattle.py_grammar.specs.Sorts as v
use Rattle.py_grammar.specs.Sorts.{choice, decor, head, attempt, opening, both as two, block}
use Rattle.py_grammar.specs.Lines as g
use Rattle.py_grammar.specs.Lines.{BlockPart, statements, require, on_token, simple_begins, stmt_begins}
use Rattle.py_grammar.proofs.Good.{good_statements}
use Rattle.statement_readers.specs.Reads.{reads_as}
use Rattle.statement_readers.specs.Turns.{Reader, Turn, On, Out, turned, spin, step_at, turns}
use Rattle.statement_readers.specs.Words as w
use Rattle.statement_readers.specs.Words.{one_among, starts, one}
use Rattle.statement_readers.proofs.Turns.{bind_eq}
use Rattle.statement_readers.proofs.Rounds.{routed, rounds}
use Rattle.statement_readers.proofs.Pieces.{bind_if, bind_pick, onward, next, either, both, choice as choose, picks, chosen, none_head, optional_expr_on, behind_on, name_on, alias_on}
use Rattle.statement_readers.proofs.SimpleLines.{fr, L, FL, ML, simples_is}

-- a statement as a block of its own
abbrev alone : Statement × List Token → Read Token Block
alone s = Found (Next NoStatement s.0) s.1

found_is : {A : Type 0} (r : Read Token A) → (r >>= found) ≡ r
found_is (Found a rest) = refl
found_is (Bad rest) = refl
found_is (Deep rest) = refl

-- a choice by the next token, with what is read behind it
picks_bind : {X A B : Type 0} (o : Option X) (f : X → Read Token B) (g : X → Read Token A) (z : Read Token B) (w : Read Token A) (h : A × List Token → Read Token B) → ((x : X) → f x ≡ (g x >>= h)) → z ≡ (w >>= h) → pick o f z ≡ (pick o g w >>= h)
picks_bind (Some x) f g z w h e i = e x
picks_bind None f g z w h e i = i

suite_on : {C : Type 0} (n : ℕ) (f : Block × List Token → Read Token C) (ts : List Token) → (w.suite (λ ts. L n v.body ts) ts >>= f) ≡ (one_among (k.colon ∷ []) ts >>= λ o. L n v.body o.1 >>= f)
unfolding w.suite
suite_on n f ts = bind_assoc (one_among (k.colon ∷ []) ts) _ f

behind_suite_on : {C : Type 0} (n : ℕ) (c : ℕ) (f : Block × List Token → Read Token C) (ts : List Token) → (w.suite_behind (λ ts. L n v.body ts) c ts >>= f) ≡ pick (one c ts) (λ o. one_among (k.colon ∷ []) o.1 >>= λ o. L n v.body o.1 >>= f) (f (NoStatement, ts))
unfolding w.suite_behind
behind_suite_on n c f ts = bind_pick (one c ts) _ _ f ∙ picks (one c ts) _ _ _ _ (λ o. suite_on n f o.1) refl

arm_on : {C : Type 0} (n : ℕ) (f : (Tree × Block) × List Token → Read Token C) (ts : List Token) → (w.arm (λ ts. L n v.body ts) ts >>= f) ≡ (reads_as 100 e.expr ts >>= λ x. one_among (k.colon ∷ []) x.1 >>= λ o. L n v.body o.1 >>= λ y. f ((x.0.0, y.0), y.1))
unfolding w.arm
arm_on n f ts = bind_assoc (reads_as 100 e.expr ts) _ f ∙ bind_eq (reads_as 100 e.expr ts) _ _ (λ x rest. bind_assoc (w.suite (λ ts. L n v.body ts) rest) _ f ∙ suite_on n (λ y. f ((x.0, y.0), y.1)) rest)

while_is : (n : ℕ) (at : Pos) (ts : List Token) → (reads_as 100 e.expr ts >>= λ x. one_among (k.colon ∷ []) x.1 >>= λ o. L n v.body o.1 >>= λ y. Found (Next NoStatement (While at x.0.0 y.0)) y.1) ≡ (w.while_behind (λ ts. L n v.body ts) at ts >>= alone)
unfolding w.while_behind w.arm w.suite
while_is n at ts = onward (w.arm (λ ts. L n v.body ts) ts) _ _ (onward (reads_as 100 e.expr ts) _ _ (next (reads_as 100 e.expr ts) _ _ (λ x rest. onward (w.suite (λ ts. L n v.body ts) rest) _ _ (onward (one_among (k.colon ∷ []) rest) _ _ refl))))

with_is : (n : ℕ) (at : Pos) (ts : List Token) → (reads_as 100 e.expr ts >>= λ x. pick (one k.as_word x.1) (λ o. one_among (k.name ∷ []) o.1 >>= λ u. one_among (k.colon ∷ []) u.1 >>= λ o. L n v.body o.1 >>= λ y. Found (Next NoStatement (With at x.0.0 (Some (text_of u.0)) y.0)) y.1) (one_among (k.colon ∷ []) x.1 >>= λ o. L n v.body o.1 >>= λ y. Found (Next NoStatement (With at x.0.0 None y.0)) y.1))
    ≡ (w.with_behind (λ ts. L n v.body ts) at ts >>= alone)
unfolding w.with_behind w.alias_behind w.name_reader w.suite
with_is n at ts = onward (reads_as 100 e.expr ts) _ _ (next (reads_as 100 e.expr ts) _ _ (λ x rest. onward (w.alias_behind rest) _ _ (choose (one k.as_word rest) _ _ _ _ _
    (λ o. onward (w.name_reader o.1) _ _ (onward (one_among (k.name ∷ []) o.1) _ _ (next (one_among (k.name ∷ []) o.1) _ _ (λ u rest. onward (w.suite (λ ts. L n v.body ts) rest) _ _ (onward (one_among (k.colon ∷ []) rest) _ _ refl)))))
    (onward (w.suite (λ ts. L n v.body ts) rest) _ _ (onward (one_among (k.colon ∷ []) rest) _ _ refl)))))

for_is : (n : ℕ) (at : Pos) (ts : List Token) → (reads_as 100 e.targets ts >>= λ t. one_among (k.in_word ∷ []) t.1 >>= λ i. reads_as 100 e.exprs i.1 >>= λ x. one_among (k.colon ∷ []) x.1 >>= λ o. L n v.body o.1 >>= λ y. Found (Next NoStatement (For at t.0.0 x.0.0 y.0)) y.1) ≡ (w.for_behind (λ ts. L n v.body ts) at ts >>= alone)
unfolding w.for_behind w.suite
for_is n at ts = onward (reads_as 100 e.targets ts) _ _ (next (reads_as 100 e.targets ts) _ _ (λ t rest. onward (one_among (k.in_word ∷ []) rest) _ _ (next (one_among (k.in_word ∷ []) rest) _ _ (λ i rest. onward (reads_as 100 e.exprs rest) _ _ (next (reads_as 100 e.exprs rest) _ _ (λ x rest. onward (w.suite (λ ts. L n v.body ts) rest) _ _ (onward (one_among (k.colon ∷ []) rest) _ _ refl)))))))

-- BRANCHES: the grammar keeps the last apart
abbrev opened : Pos → Branches → v.Choice
opened at NoBranch = record { at = at; before = NoBranch; here = at; test = NoneTree at; body = NoStatement }
opened at (Branch before here test body) = record { at = at; before = before; here = here; test = test; body = body }

abbrev Opened : Branches → Type 0
Opened NoBranch = ⊥
Opened (Branch before here test body) = Unit {0}

abbrev if_end : (n : ℕ) → v.Choice × List Token → Read Token Block
if_end n c = pick (one k.else c.1) (λ o. one_among (k.colon ∷ []) o.1 >>= λ o. L n v.body o.1 >>= λ y. Found (Next NoStatement (If c.0.at (v.branches_of c.0) y.0)) y.1) (Found (Next NoStatement (If c.0.at (v.branches_of c.0) NoStatement)) c.1)

if_over : (n : ℕ) (at : Pos) (bs : Branches) (ts : List Token) → Opened bs → if_end n (opened at bs, ts) ≡ (w.suite_behind (λ ts. L n v.body ts) k.else ts >>= λ x. Found (Next NoStatement (If at bs x.0)) x.1)
if_over n at NoBranch ts p = absurd p
if_over n at (Branch before here test body) ts p = sym (behind_suite_on n k.else (λ x. Found (Next NoStatement (If at (Branch before here test body) x.0)) x.1) ts)

elif_step : (n : ℕ) (at : Pos) (K : v.Choice × List Token → Read Token Block) (J : Branches × List Token → Read Token Block) → ((s : Branches) (ts : List Token) → Opened s → K (opened at s, ts) ≡ J (s, ts)) → (j : Branches × List Token → Read Token Block) (s : Branches) (o : Token × List Token) → Opened s
    → (reads_as 100 e.expr o.1 >>= λ x. one_among (k.colon ∷ []) x.1 >>= λ c. L n v.body c.1 >>= λ y. K (record { at = (opened at s).at; before = v.branches_of (opened at s); here = o.0.at; test = x.0.0; body = y.0 }, y.1)) ≡ (w.elif_step (λ ts. L n v.body ts) s o >>= routed J j)
elif_step n at K J h j NoBranch o p = absurd p
elif_step n at K J h j (Branch before here test body) o p =
    bind_eq (reads_as 100 e.expr o.1) _ _ (λ x rest. bind_eq (one_among (k.colon ∷ []) rest) _ _ (λ c rest. bind_eq (L n v.body rest) _ _ (λ y rest. h (Branch (Branch before here test body) o.0.at x.0 y) rest tt)))
    ∙ sym (bind_assoc (w.arm (λ ts. L n v.body ts) o.1) _ (routed J j) ∙ arm_on n (λ y. J (Branch (Branch before here test body) o.0.at y.0.0 y.0.1, y.1)) o.1)

if_loop : (n : ℕ) (at : Pos) (bs : Branches) (ts : List Token) → Opened bs → (ML n {S = choice} (token {A = opening} (k.elif ∷ []) (λ c u. record { at = c.at; before = v.branches_of c; here = u.at }) ⨾ g.condition_clause) (opened at bs, ts) >>= if_end n) ≡ (w.elifs_on (λ ts. L n v.body ts) (bs, ts) >>= λ y. w.suite_behind (λ ts. L n v.body ts) k.else y.1 >>= λ x. Found (Next NoStatement (If at y.0 x.0)) x.1)
unfolding w.elifs_on
if_loop n at bs ts p = rounds _ _ (k.elif ∷ []) (λ bs. bs) (w.elif_step (λ ts. L n v.body ts)) (opened at) Opened (if_end n) (λ y. w.suite_behind (λ ts. L n v.body ts) k.else y.1 >>= λ x. Found (Next NoStatement (If at y.0 x.0)) x.1) (λ s ts p. if_over n at s ts p)
    (λ K J h i s ts p. again_flat statements fr n {S = choice} {A = choice} (token {A = opening} (k.elif ∷ []) (λ c u. record { at = c.at; before = v.branches_of c; here = u.at }) ⨾ g.condition_clause) refl refl (opened at s) ts K (if_end n (opened at s, ts))
    ∙ picks (one k.elif ts) _ _ _ _ (λ o. elif_step n at K J h (λ y. w.suite_behind (λ ts. L n v.body ts) k.else y.1 >>= λ x. Found (Next NoStatement (If at y.0 x.0)) x.1) s o p) (if_over n at s ts p)
    ∙ sym (bind_pick (one k.elif ts) (w.elif_step (λ ts. L n v.body ts) s) (Found (Out s) ts) (routed J (λ y. w.suite_behind (λ ts. L n v.body ts) k.else y.1 >>= λ x. Found (Next NoStatement (If at y.0 x.0)) x.1)))) bs ts p

if_is : (n : ℕ) (at : Pos) (ts : List Token) → (reads_as 100 e.expr ts >>= λ x. one_among (k.colon ∷ []) x.1 >>= λ c. L n v.body c.1 >>= λ y. ML n {S = choice} (token {A = opening} (k.elif ∷ []) (λ c u. record { at = c.at; before = v.branches_of c; here = u.at }) ⨾ g.condition_clause) (record { at = at; before = NoBranch; here = at; test = x.0.0; body = y.0 }, y.1) >>= if_end n)
    ≡ (w.if_behind (λ ts. L n v.body ts) at ts >>= alone)
unfolding w.if_behind w.arm w.suite
if_is n at ts = onward (w.arm (λ ts. L n v.body ts) ts) _ _ (onward (reads_as 100 e.expr ts) _ _ (next (reads_as 100 e.expr ts) _ _ (λ x rest. onward (w.suite (λ ts. L n v.body ts) rest) _ _ (onward (one_among (k.colon ∷ []) rest) _ _ (next (one_among (k.colon ∷ []) rest) _ _ (λ c rest. next (L n v.body rest) _ _ (λ y rest.
    onward (w.elifs_on (λ ts. L n v.body ts) (Branch NoBranch at x.0 y, rest)) _ _ (if_loop n at (Branch NoBranch at x.0 y) rest tt ∙ next (w.elifs_on (λ ts. L n v.body ts) (Branch NoBranch at x.0 y, rest)) _ _ (λ bs rest. onward (w.suite_behind (λ ts. L n v.body ts) k.else rest) _ _ refl)))))))))

-- HANDLERS
catch_on : {C : Type 0} (n : ℕ) (a : v.Attempt) (word : Pos) (f : v.Attempt × List Token → Read Token C) (ts : List Token)
    → cond (starts expr_begins ts) (reads_as 100 e.expr ts >>= λ x. pick (one k.as_word x.1) (λ o. one_among (k.name ∷ []) o.1 >>= λ u. one_among (k.colon ∷ []) u.1 >>= λ o. L n v.body o.1 >>= λ y. f (record { at = a.at; tried = a.tried; handlers = Handler a.handlers word (Present x.0.0) (Some (text_of u.0)) y.0 }, y.1)) (one_among (k.colon ∷ []) x.1 >>= λ o. L n v.body o.1 >>= λ y. f (record { at = a.at; tried = a.tried; handlers = Handler a.handlers word (Present x.0.0) None y.0 }, y.1)))
    (one_among (k.colon ∷ []) ts >>= λ o. L n v.body o.1 >>= λ y. f (record { at = a.at; tried = a.tried; handlers = Handler a.handlers word Absent None y.0 }, y.1))
    ≡ (w.handler (λ ts. L n v.body ts) a.handlers word ts >>= λ hs. f (record { at = a.at; tried = a.tried; handlers = hs.0 }, hs.1))
unfolding w.handler w.handler_head w.alias_behind w.name_reader w.suite
catch_on n a word f ts = onward (w.handler_head ts) _ _ (either (starts expr_begins ts) _ _ _ _ _
    (onward (reads_as 100 e.expr ts) _ _ (next (reads_as 100 e.expr ts) _ _ (λ x rest. onward (w.alias_behind rest) _ _ (choose (one k.as_word rest) _ _ _ _ _
    (λ o. onward (w.name_reader o.1) _ _ (onward (one_among (k.name ∷ []) o.1) _ _ (next (one_among (k.name ∷ []) o.1) _ _ (λ u rest. onward (w.suite (λ ts. L n v.body ts) rest) _ _ (onward (one_among (k.colon ∷ []) rest) _ _ refl)))))
    (onward (w.suite (λ ts. L n v.body ts) rest) _ _ (onward (one_among (k.colon ∷ []) rest) _ _ refl))))))
    (onward (w.suite (λ ts. L n v.body ts) ts) _ _ (onward (one_among (k.colon ∷ []) ts) _ _ refl)))

-- PARAMETERS
param_on : {C : Type 0} (n : ℕ) (h : v.Head) (f : v.Head × List Token → Read Token C) (ts : List Token) → FL n g.parameter_rule h ts f None ≡ (w.param h.params ts >>= λ ps. f (record { begun = h.begun; name = h.name; params = ps.0; ended = false }, ps.1))
unfolding w.param
param_on n h f ts = sym (bind_assoc (one_among (k.name ∷ []) ts) _ _ ∙ bind_eq (one_among (k.name ∷ []) ts) _ _ (λ u rest. bind_assoc (w.expr_behind k.colon rest) _ _ ∙ behind_on k.colon _ rest
    ∙ picks (one k.colon rest) _ _ _ _ (λ o. bind_eq (reads_as 100 e.expr o.1) _ _ (λ x rest. bind_assoc (w.expr_behind k.equal rest) _ _ ∙ behind_on k.equal _ rest)) (bind_assoc (w.expr_behind k.equal rest) _ _ ∙ behind_on k.equal _ rest)))

param_first : {C : Type 0} (n : ℕ) (h : v.Head) (f : v.Head × List Token → Read Token C) (z : Read Token C) (ts : List Token) → FL n g.parameter_rule h ts f (Some z) ≡ cond (starts (k.name ∷ []) ts) (w.param h.params ts >>= λ ps. f (record { begun = h.begun; name = h.name; params = ps.0; ended = false }, ps.1)) z
param_first n h f z ts = chosen (k.name ∷ []) _ z ts ∙ ap (λ r. cond (starts (k.name ∷ []) ts) r z) (param_on n h f ts)

params_loop : {C : Type 0} (n : ℕ) (b : v.DefinitionStart) (name : List ℕ) (f : v.Head × List Token → Read Token C) → ((ps : List Parameter) (ts : List Token) → f (record { begun = b; name = name; params = ps; ended = true }, ts) ≡ f (record { begun = b; name = name; params = ps; ended = false }, ts)) → (ps : List Parameter) (ts : List Token)
    → (ML n (when (λ h. not h.ended) (require k.comma ⨾ (g.parameter_rule ∣ give v.end_params))) (record { begun = b; name = name; params = ps; ended = false }, ts) >>= f) ≡ (w.params_on (ps, ts) >>= λ y. f (record { begun = b; name = name; params = y.0; ended = false }, y.1))
unfolding w.params_on
params_loop n b name f e ps ts = rounds _ _ (k.comma ∷ []) (λ ps. ps) w.param_step (λ ps. record { begun = b; name = name; params = ps; ended = false }) (λ _. Unit {0}) f (λ y. f (record { begun = b; name = name; params = y.0; ended = false }, y.1)) (λ s ts p. refl)
    (λ K J h i s ts p. again_flat statements fr n (when (λ h. not h.ended) (require k.comma ⨾ (g.parameter_rule ∣ give v.end_params))) refl refl (record { begun = b; name = name; params = s; ended = false }) ts K (f (record { begun = b; name = name; params = s; ended = false }, ts))
    ∙ picks (one k.comma ts) _ _ _ _ (λ o. param_first n (record { begun = b; name = name; params = s; ended = false }) K (K (record { begun = b; name = name; params = s; ended = true }, o.1)) o.1
    ∙ ap (λ r. cond (starts (k.name ∷ []) o.1) (w.param s o.1 >>= λ ps. K (record { begun = b; name = name; params = ps.0; ended = false }, ps.1)) r) (i (record { begun = b; name = name; params = s; ended = true }) o.1 (none_head o.1) ∙ e s o.1)
    ∙ ap (λ r. cond (starts (k.name ∷ []) o.1) r (f (record { begun = b; name = name; params = s; ended = false }, o.1))) (bind_eq (w.param s o.1) _ _ (λ ps rest. h ps rest tt) ∙ sym (bind_assoc (w.param s o.1) _ (routed J (λ y. f (record { begun = b; name = name; params = y.0; ended = false }, y.1)))))
    ∙ sym (bind_if (starts (k.name ∷ []) o.1) _ _ (routed J (λ y. f (record { begun = b; name = name; params = y.0; ended = false }, y.1))))) refl
    ∙ sym (bind_pick (one k.comma ts) (w.param_step s) (Found (Out s) ts) (routed J (λ y. f (record { begun = b; name = name; params = y.0; ended = false }, y.1))))) ps ts tt

-- A TRY
abbrev try_end : (n : ℕ) → v.Attempt × List Token → Read Token Block
try_end n a = pick (one k.else a.1) (λ o. one_among (k.colon ∷ []) o.1 >>= λ o. L n v.body o.1 >>= λ y. pick (one k.finally y.1) (λ o. one_among (k.colon ∷ []) o.1 >>= λ o. L n v.body o.1 >>= λ z. Found (Next NoStatement (Try a.0.at a.0.tried a.0.handlers y.0 z.0)) z.1) (Found (Next NoStatement (Try a.0.at a.0.tried a.0.handlers y.0 NoStatement)) y.1))
    (pick (one k.finally a.1) (λ o. one_among (k.colon ∷ []) o.1 >>= λ o. L n v.body o.1 >>= λ z. Found (Next NoStatement (Try a.0.at a.0.tried a.0.handlers NoStatement z.0)) z.1) (Found (Next NoStatement (Try a.0.at a.0.tried a.0.handlers NoStatement NoStatement)) a.1))

abbrev try_code : (n : ℕ) (at : Pos) (x : Block) → Handlers × List Token → Read Token Block
try_code n at x hs = w.suite_behind (λ ts. L n v.body ts) k.else hs.1 >>= λ y. w.suite_behind (λ ts. L n v.body ts) k.finally y.1 >>= λ z. Found (Next NoStatement (Try at x hs.0 y.0 z.0)) z.1

try_over : (n : ℕ) (at : Pos) (x : Block) (hs : Handlers) (ts : List Token) → try_end n (record { at = at; tried = x; handlers = hs }, ts) ≡ try_code n at x (hs, ts)
unfolding w.suite_behind w.suite
try_over n at x hs ts = choose (one k.else ts) _ _ _ _ _ (λ o. onward (one_among (k.colon ∷ []) o.1) _ _ (next (one_among (k.colon ∷ []) o.1) _ _ (λ c rest. next (L n v.body rest) _ _ (λ y rest. choose (one k.finally rest) _ _ _ _ _ (λ o. onward (one_among (k.colon ∷ []) o.1) _ _ refl) refl))))
    (choose (one k.finally ts) _ _ _ _ _ (λ o. onward (one_among (k.colon ∷ []) o.1) _ _ refl) refl)

handlers_loop : (n : ℕ) (at : Pos) (x : Block) (hs : Handlers) (ts : List Token) → (ML n g.excepting (record { at = at; tried = x; handlers = hs }, ts) >>= try_end n) ≡ (w.excepts_on (λ ts. L n v.body ts) (hs, ts) >>= try_code n at x)
unfolding w.excepts_on
handlers_loop n at x hs ts = rounds _ _ (k.except ∷ []) (λ hs. hs) (w.handler_step (λ ts. L n v.body ts)) (λ hs. record { at = at; tried = x; handlers = hs }) (λ _. Unit {0}) (try_end n) (try_code n at x) (λ s ts p. try_over n at x s ts)
    (λ K J h i s ts p. again_flat statements fr n g.excepting refl refl (record { at = at; tried = x; handlers = s }) ts K (try_end n (record { at = at; tried = x; handlers = s }, ts))
    ∙ picks (one k.except ts) _ _ _ _ (λ o. catch_on n (record { at = at; tried = x; handlers = s }) o.0.at K o.1 ∙ bind_eq (w.handler (λ ts. L n v.body ts) s o.0.at o.1) _ _ (λ hs rest. h hs rest tt) ∙ sym (bind_assoc (w.handler (λ ts. L n v.body ts) s o.0.at o.1) _ (routed J (try_code n at x)))) (try_over n at x s ts)
    ∙ sym (bind_pick (one k.except ts) (w.handler_step (λ ts. L n v.body ts) s) (Found (Out s) ts) (routed J (try_code n at x)))) hs ts tt

handled_is : (n : ℕ) (at : Pos) (x : Block) (word : Pos) (ts : List Token) → (w.handler (λ ts. L n v.body ts) NoHandler word ts >>= λ hs. ML n g.excepting (record { at = at; tried = x; handlers = hs.0 }, hs.1) >>= try_end n) ≡ (w.handled (λ ts. L n v.body ts) at x word ts >>= alone)
unfolding w.handled
handled_is n at x word ts = onward (w.handler (λ ts. L n v.body ts) NoHandler word ts) _ _ (next (w.handler (λ ts. L n v.body ts) NoHandler word ts) _ _ (λ hs rest. onward (w.excepts_on (λ ts. L n v.body ts) (hs, rest)) _ _ (handlers_loop n at x hs rest
    ∙ next (w.excepts_on (λ ts. L n v.body ts) (hs, rest)) _ _ (λ hs rest. onward (w.suite_behind (λ ts. L n v.body ts) k.else rest) _ _ (next (w.suite_behind (λ ts. L n v.body ts) k.else rest) _ _ (λ y rest. onward (w.suite_behind (λ ts. L n v.body ts) k.finally rest) _ _ refl))))))

try_is : (n : ℕ) (at : Pos) (ts : List Token) → FL n {S = v.position} (require k.colon ⨾ inner {A = attempt} v.body (λ at b. record { at = at; tried = b; handlers = NoHandler })
    ⨾ (g.excepting ⨾ many g.excepting ⨾ (require k.else ⨾ require k.colon ⨾ inner {A = two attempt block} v.body (λ a b. (a, b)) ∣ give (λ a. (a, NoStatement))) ⨾ (require k.finally ⨾ require k.colon ⨾ inner {A = two (two attempt block) block} v.body (λ x b. (x, b)) ∣ give (λ x. (x, NoStatement)))
    ∣ require k.finally ⨾ require k.colon ⨾ inner {A = two (two attempt block) block} v.body (λ a b. ((a, NoStatement), b)))
    ⨾ node {A = block} (λ x. g.alone (Try x.0.0.at x.0.0.tried x.0.0.handlers x.0.1 x.1))) at ts found None ≡ (w.try_behind (λ ts. L n v.body ts) at ts >>= alone)
unfolding w.try_behind w.suite
try_is n at ts = onward (w.suite (λ ts. L n v.body ts) ts) _ _ (onward (one_among (k.colon ∷ []) ts) _ _ (next (one_among (k.colon ∷ []) ts) _ _ (λ c rest. next (L n v.body rest) _ _ (λ x rest. choose (one k.except rest) _ _ _ _ _
    (λ o. catch_on n (record { at = at; tried = x; handlers = NoHandler }) o.0.at (λ a. ML n g.excepting (a.0, a.1) >>= try_end n) o.1 ∙ handled_is n at x o.0.at o.1)
    (onward (one_among (k.finally ∷ []) rest) _ _ (next (one_among (k.finally ∷ []) rest) _ _ (λ o rest. onward (w.suite (λ ts. L n v.body ts) rest) _ _ (onward (one_among (k.colon ∷ []) rest) _ _ refl))))))))

-- A FUNCTION
params_on : {C : Type 0} (n : ℕ) (b : v.DefinitionStart) (name : List ℕ) (f : v.Head × List Token → Read Token C) → ((ps : List Parameter) (ts : List Token) → f (record { begun = b; name = name; params = ps; ended = true }, ts) ≡ f (record { begun = b; name = name; params = ps; ended = false }, ts)) → (ts : List Token)
    → FL n (require k.right_paren ∣ g.parameter_rule ⨾ many (when (λ h. not h.ended) (require k.comma ⨾ (g.parameter_rule ∣ give v.end_params))) ⨾ require k.right_paren) (record { begun = b; name = name; params = []; ended = false }) ts f None ≡ (w.params ts >>= λ ps. f (record { begun = b; name = name; params = ps.0; ended = false }, ps.1))
unfolding w.params
params_on n b name f e ts = choose (one k.right_paren ts) _ _ _ _ (λ ps. f (record { begun = b; name = name; params = ps.0; ended = false }, ps.1)) (λ o. refl) (onward (w.param [] ts) _ _ (param_on n (record { begun = b; name = name; params = []; ended = false }) (λ h. ML n (when (λ h. not h.ended) (require k.comma ⨾ (g.parameter_rule ∣ give v.end_params))) (h.0, h.1) >>= λ h. one_among (k.right_paren ∷ []) h.1 >>= λ o. f (h.0, o.1)) ts
    ∙ next (w.param [] ts) _ _ (λ ps rest. onward (w.params_on (ps, rest)) _ _ (params_loop n b name (λ h. one_among (k.right_paren ∷ []) h.1 >>= λ o. f (h.0, o.1)) (λ ps ts. next (one_among (k.right_paren ∷ []) ts) _ _ (λ o rest. e ps rest)) ps rest ∙ next (w.params_on (ps, rest)) _ _ (λ ps rest. onward (one_among (k.right_paren ∷ []) rest) _ _ refl)))))

abbrev def_tail : (n : ℕ) → v.Head × List Token → Read Token Block
def_tail n h = pick (one k.arrow h.1) (λ o. reads_as 100 e.expr o.1 >>= λ x. one_among (k.colon ∷ []) x.1 >>= λ o. L n v.body o.1 >>= λ y. Found (Next NoStatement (Def h.0.begun.at h.0.begun.decorators h.0.begun.word h.0.name h.0.params (Present x.0.0) y.0)) y.1) (one_among (k.colon ∷ []) h.1 >>= λ o. L n v.body o.1 >>= λ y. Found (Next NoStatement (Def h.0.begun.at h.0.begun.decorators h.0.begun.word h.0.name h.0.params Absent y.0)) y.1)

def_is : (n : ℕ) (b : v.DefinitionStart) (ts : List Token) → FL n g.defining b ts found None ≡ (w.def_behind (λ ts. L n v.body ts) b.at b.decorators b.word ts >>= alone)
unfolding w.def_behind w.name_reader w.expr_behind w.suite
def_is n b ts = onward (w.name_reader ts) _ _ (onward (one_among (k.name ∷ []) ts) _ _ (next (one_among (k.name ∷ []) ts) _ _ (λ u rest. onward (one_among (k.left_paren ∷ []) rest) _ _ (next (one_among (k.left_paren ∷ []) rest) _ _ (λ o rest. onward (w.params rest) _ _ (params_on n b (text_of u) (def_tail n) (λ ps ts. refl) rest
    ∙ next (w.params rest) _ _ (λ ps rest. onward (w.expr_behind k.arrow rest) _ _ (choose (one k.arrow rest) _ _ _ _ _ (λ o. onward (reads_as 100 e.expr o.1) _ _ (next (reads_as 100 e.expr o.1) _ _ (λ x rest. onward (w.suite (λ ts. L n v.body ts) rest) _ _ (onward (one_among (k.colon ∷ []) rest) _ _ refl)))) (onward (w.suite (λ ts. L n v.body ts) rest) _ _ (onward (one_among (k.colon ∷ []) rest) _ _ refl))))))))))

-- A CLASS
class_is : (n : ℕ) (b : v.DefinitionStart) (ts : List Token) → FL n g.naming b ts found None ≡ (w.class_behind (λ ts. L n v.body ts) b.at b.decorators b.word ts >>= alone)
unfolding w.class_behind w.base w.name_reader w.suite
class_is n b ts = onward (w.name_reader ts) _ _ (onward (one_among (k.name ∷ []) ts) _ _ (next (one_among (k.name ∷ []) ts) _ _ (λ u rest. onward (w.base rest) _ _ (choose (one k.left_paren rest) _ _ _ _ _
    (λ o. choose (one k.right_paren o.1) _ _ _ _ _ (λ c. onward (w.suite (λ ts. L n v.body ts) c.1) _ _ (onward (one_among (k.colon ∷ []) c.1) _ _ refl)) (onward (reads_as 100 e.expr o.1) _ _ (next (reads_as 100 e.expr o.1) _ _ (λ x rest. onward (one_among (k.right_paren ∷ []) rest) _ _ (next (one_among (k.right_paren ∷ []) rest) _ _ (λ c rest. onward (w.suite (λ ts. L n v.body ts) rest) _ _ (onward (one_among (k.colon ∷ []) rest) _ _ refl)))))))
    (onward (w.suite (λ ts. L n v.body ts) rest) _ _ (onward (one_among (k.colon ∷ []) rest) _ _ refl))))))

-- DECORATORS
decorators_loop : {C : Type 0} (n : ℕ) (at : Pos) (f : (Pos × Trees) × List Token → Read Token C) (ds : Trees) (ts : List Token) → (ML n {S = decor} (require k.at ⨾ far {A = decor} e.expr (λ d x. (d.0, More d.1 x.0)) ⨾ require k.newline) ((at, ds), ts) >>= f) ≡ (w.decorators_on (ds, ts) >>= λ y. f ((at, y.0), y.1))
unfolding w.decorators_on w.decorator
decorators_loop n at f ds ts = rounds _ _ (k.at ∷ []) (λ ds. ds) w.decorator_step (λ ds. (at, ds)) (λ _. Unit {0}) f (λ y. f ((at, y.0), y.1)) (λ s ts p. refl)
    (λ K J h i s ts p. again_flat statements fr n {S = decor} {A = decor} (require k.at ⨾ far {A = decor} e.expr (λ d x. (d.0, More d.1 x.0)) ⨾ require k.newline) refl refl (at, s) ts K (f ((at, s), ts))
    ∙ picks (one k.at ts) _ _ _ _ (λ o. onward (w.decorator o.1) _ _ (onward (reads_as 100 e.expr o.1) _ _ (next (reads_as 100 e.expr o.1) _ _ (λ x rest. onward (one_among (k.newline ∷ []) rest) _ _ (next (one_among (k.newline ∷ []) rest) _ _ (λ c rest. h (More s x.0) rest tt)))))) refl
    ∙ sym (bind_pick (one k.at ts) (w.decorator_step s) (Found (Out s) ts) (routed J (λ y. f ((at, y.0), y.1))))) ds ts tt

decorated_is : (n : ℕ) (at : Pos) (ts : List Token) → FL n {S = decor} (far {A = decor} e.expr (λ d x. (d.0, More d.1 x.0)) ⨾ require k.newline ⨾ many (require k.at ⨾ far {A = decor} e.expr (λ d x. (d.0, More d.1 x.0)) ⨾ require k.newline) ⨾ g.definition (λ d u. record { at = d.0; decorators = d.1; word = u.at })) (at, Empty) ts found None ≡ (w.decorated_behind (λ ts. L n v.body ts) at ts >>= alone)
unfolding w.decorated_behind w.decorators w.decorator
decorated_is n at ts = onward (w.decorators ts) _ _ (onward (w.decorator ts) _ _ (onward (reads_as 100 e.expr ts) _ _ (next (reads_as 100 e.expr ts) _ _ (λ x rest. onward (one_among (k.newline ∷ []) rest) _ _ (next (one_among (k.newline ∷ []) rest) _ _ (λ c rest.
    decorators_loop n at (λ d. pick (one k.def d.1) (λ o. FL n g.defining (record { at = d.0.0; decorators = d.0.1; word = o.0.at }) o.1 found None) (one_among (k.class ∷ []) d.1 >>= λ o. FL n g.naming (record { at = d.0.0; decorators = d.0.1; word = o.0.at }) o.1 found None)) (More Empty x.0) rest
    ∙ next (w.decorators_on (More Empty x.0, rest)) _ _ (λ ds rest. choose (one k.def rest) _ _ _ _ _ (λ o. def_is n (record { at = at; decorators = ds; word = o.0.at }) o.1) (onward (one_among (k.class ∷ []) rest) _ _ (next (one_among (k.class ∷ []) rest) _ _ (λ o rest. class_is n (record { at = at; decorators = ds; word = o.at }) rest))))))))))

-- A STATEMENT WITH BLOCKS
compound_is : (n : ℕ) (ts : List Token) → FL n (g.choosing ∣ g.repeating ∣ g.running ∣ g.attempting ∣ g.raises ∣ g.definition (λ _ u. record { at = u.at; decorators = Empty; word = u.at }) ∣ g.decorated_definition) tt ts found None ≡ (w.compound (λ ts. L n v.body ts) ts >>= alone)
unfolding w.compound
compound_is n ts = picks_bind (one k.if ts) _ _ _ _ alone (λ o. if_is n o.0.at o.1) (picks_bind (one k.while ts) _ _ _ _ alone (λ o. while_is n o.0.at o.1) (picks_bind (one k.for ts) _ _ _ _ alone (λ o. for_is n o.0.at o.1) (picks_bind (one k.try ts) _ _ _ _ alone (λ o. try_is n o.0.at o.1)
    (picks_bind (one k.with ts) _ _ _ _ alone (λ o. with_is n o.0.at o.1) (picks_bind (one k.def ts) _ _ _ _ alone (λ o. def_is n (record { at = o.0.at; decorators = Empty; word = o.0.at }) o.1) (picks_bind (one k.class ts) _ _ _ _ alone (λ o. class_is n (record { at = o.0.at; decorators = Empty; word = o.0.at }) o.1)
    (bind_eq (one_among (k.at ∷ []) ts) _ _ (λ o rest. decorated_is n o.at rest) ∙ sym (bind_assoc (one_among (k.at ∷ []) ts) _ alone))))))))

-- STATEMENTS. Those behind others
abbrev pub moved : (b : Block) → Block × List Token → Read Token Block
moved b y = Found (g.behind b y.0) y.1

moved_on : (b c : Block) (r : Read Token Statement) (f : Block × List Token → Read Token Block) → ((c : Block) (ts : List Token) → f (g.behind b c, ts) ≡ (f (c, ts) >>= moved b)) → (left : Bool) (ts : List Token)
    → (cond left (r >>= λ s. Found (On (Next (g.behind b c) s.0)) s.1) (Found (Out (g.behind b c)) ts) >>= λ y. turned f y.0 y.1) ≡ ((cond left (r >>= λ s. Found (On (Next c s.0)) s.1) (Found (Out c) ts) >>= λ y. turned f y.0 y.1) >>= moved b)
moved_on b c (Found s rest) f h true ts = h (Next c s) rest
moved_on b c (Bad rest) f h true ts = refl
moved_on b c (Deep rest) f h true ts = refl
moved_on b c r f h false ts = refl

picked_on : (b c : Block) (o : Option (Token × List Token)) (f : Block × List Token → Read Token Block) → ((c : Block) (ts : List Token) → f (g.behind b c, ts) ≡ (f (c, ts) >>= moved b)) → (ts : List Token)
    → (pick o (w.simple_step (g.behind b c)) (Found (Out (g.behind b c)) ts) >>= λ y. turned f y.0 y.1) ≡ ((pick o (w.simple_step c) (Found (Out c) ts) >>= λ y. turned f y.0 y.1) >>= moved b)
picked_on b c (Some o) f h ts = moved_on b c (w.simple o.1) f h (starts simple_begins o.1) o.1
picked_on b c None f h ts = refl

spin_moved : (b : Block) (m : ℕ) (c : Block) (ts : List Token) → spin (λ b. b) (step_at (k.semicolon ∷ []) (λ b. b) w.simple_step) m (g.behind b c, ts) ≡ (spin (λ b. b) (step_at (k.semicolon ∷ []) (λ b. b) w.simple_step) m (c, ts) >>= moved b)
unfolding spin
spin_moved b zero c ts = refl
spin_moved b (suc m) c ts = picked_on b c (one k.semicolon ts) (spin (λ b. b) (step_at (k.semicolon ∷ []) (λ b. b) w.simple_step) m) (spin_moved b m) ts

-- simple statements behind others are those that begin a block, moved behind them
pub simples_behind : (b : Block) (ts : List Token) → w.simples b ts ≡ (w.simples NoStatement ts >>= moved b)
unfolding w.simples w.simples_on turns
simples_behind b ts = bind_eq (w.simple ts) _ _ (λ s rest. ap (λ r. r >>= λ x. one_among (k.newline ∷ []) x.1 >>= λ c. Found x.0 c.1) (spin_moved b (length rest) (Next NoStatement s) rest)
    ∙ bind_assoc (w.simples_on (Next NoStatement s, rest)) (moved b) _ ∙ sym (bind_assoc (w.simples_on (Next NoStatement s, rest)) _ (moved b) ∙ bind_eq (w.simples_on (Next NoStatement s, rest)) _ _ (λ x rest. bind_assoc (one_among (k.newline ∷ []) rest) _ (moved b))))
    ∙ sym (bind_assoc (w.simple ts) _ (moved b))

pub stmt_behind : (r : Reader Block) (left : Bool) (b : Block) (ts : List Token) → w.stmt r left b ts ≡ (w.stmt r left NoStatement ts >>= moved b)
unfolding w.stmt
stmt_behind r left b ts = go (starts w.compound_begins ts) left
  where
    go : (x y : Bool) → cond x (cond y (w.compound r ts >>= λ s. Found (Next b s.0) s.1) (Deep ts)) (w.simples b ts) ≡ (cond x (cond y (w.compound r ts >>= λ s. Found (Next NoStatement s.0) s.1) (Deep ts)) (w.simples NoStatement ts) >>= moved b)
    go true true = sym (bind_assoc (w.compound r ts) _ (moved b))
    go true false = refl
    go false y = simples_behind b ts

stmt_is : (n : ℕ) (ts : List Token) → L (suc n) v.stmt ts ≡ w.stmt (λ ts. L n v.body ts) (nat_le 1 n) NoStatement ts
unfolding w.stmt
stmt_is n ts = line_flat statements good_statements fr n v.stmt refl ts
    ∙ ap (λ r. cond (starts w.compound_begins ts) (cond (nat_le 1 n) r (Deep ts)) (L (suc n) v.simples ts >>= found)) (compound_is n ts)
    ∙ ap (λ r. cond (starts w.compound_begins ts) (cond (nat_le 1 n) (w.compound (λ ts. L n v.body ts) ts >>= alone) (Deep ts)) r) (found_is (L (suc n) v.simples ts) ∙ simples_is n ts)

-- a statement begins where a token of the set stands
again_stmt : {A B : Type 0} (ts : List Token) (f : List Token → Read Token A) (h : A × List Token → Read Token B) (z : Read Token B) → cond (starts stmt_begins ts) (f ts >>= h) z ≡ pick (first_of kind stmt_begins ts) (λ o. f (o.0 ∷ o.1) >>= h) z
again_stmt [] f h z = refl
again_stmt {A} {B} (t ∷ ts) f h z = go (has (kind t) stmt_begins)
  where
    go : (b : Bool) → cond b (f (t ∷ ts) >>= h) z ≡ pick {X = Token × List Token} (first_if b (t, ts)) (λ o. f (o.0 ∷ o.1) >>= h) z
    go true = refl
    go false = refl

stmts_loop : (n : ℕ) (b : Block) (ts : List Token) → (ML n {S = v.block} (line v.stmt g.behind) (b, ts) >>= found) ≡ (w.stmts_on (λ ts. L n v.body ts) (nat_le 1 n) (b, ts) >>= found)
unfolding w.stmts_on
stmts_loop n b ts = rounds _ _ stmt_begins (λ x. x) (w.stmt_step (λ ts. L n v.body ts) (nat_le 1 n)) (λ b. b) (λ _. Unit {0}) found found (λ s ts p. refl)
    (λ K J h i s ts p. again_flat statements fr n {S = v.block} {A = v.block} (line v.stmt g.behind) refl refl s ts K (found (s, ts))
    ∙ again_stmt ts (λ ts. L (suc n) v.stmt ts) (λ y. K (g.behind s y.0, y.1)) (found (s, ts))
    ∙ picks (first_of kind stmt_begins ts) _ _ _ _ (λ o. ap (λ r. r >>= λ y. K (g.behind s y.0, y.1)) (stmt_is n (o.0 ∷ o.1)) ∙ bind_eq (w.stmt (λ ts. L n v.body ts) (nat_le 1 n) NoStatement (o.0 ∷ o.1)) _ _ (λ y rest. h (g.behind s y) rest tt)
    ∙ sym (bind_assoc (w.stmt (λ ts. L n v.body ts) (nat_le 1 n) s (o.0 ∷ o.1)) _ (routed J found) ∙ ap (λ r. r >>= λ y. J (y.0, y.1)) (stmt_behind (λ ts. L n v.body ts) (nat_le 1 n) s (o.0 ∷ o.1)) ∙ bind_assoc (w.stmt (λ ts. L n v.body ts) (nat_le 1 n) NoStatement (o.0 ∷ o.1)) (moved s) _)) refl
    ∙ sym (bind_pick (first_of kind stmt_begins ts) (w.stmt_step (λ ts. L n v.body ts) (nat_le 1 n) s) (Found (Out s) ts) (routed J found))) b ts tt

stmts_is : (n : ℕ) (ts : List Token) → L (suc n) v.stmts ts ≡ w.stmts (λ ts. L n v.body ts) (nat_le 1 n) ts
unfolding w.stmts
stmts_is n ts = line_flat statements good_statements fr n v.stmts refl ts ∙ both (L (suc n) v.stmt ts) (w.stmt (λ ts. L n v.body ts) (nat_le 1 n) NoStatement ts) _ _ (stmt_is n ts) (λ y rest. stmts_loop n y rest ∙ found_is (w.stmts_on (λ ts. L n v.body ts) (nat_le 1 n) (y, rest)))

-- A BLOCK
deep_plain : {A : Type 0} (c : Token → Bool) (ts : List Token) → plain (deep_at {A = A × ℕ} c ts) ≡ deep_at c ts
deep_plain c [] = refl
deep_plain {A} c (t ∷ ts) = go (c t)
  where
    go : (b : Bool) → plain (cond {A = Read Token (A × ℕ)} b (Deep (t ∷ ts)) (Bad (t ∷ ts))) ≡ cond b (Deep (t ∷ ts)) (Bad (t ∷ ts))
    go true = refl
    go false = refl

pub block_is : (n : ℕ) (ts : List Token) → L n v.body ts ≡ w.block_at n ts
unfolding w.block_at
block_is zero ts = ap plain (no_levels statements fr v.body ts) ∙ deep_plain (λ t. has (kind t) (k.newline ∷ simple_begins)) ts
block_is (suc n) ts = line_flat statements good_statements fr n v.body refl ts
    ∙ picks (one k.newline ts) _ _ _ _ (λ o. bind_eq (one_among (k.indent ∷ []) o.1) _ _ (λ i rest. ap (λ r. r >>= λ x. one_among (k.dedent ∷ []) x.1 >>= λ d. Found x.0 d.1) (stmts_is n rest ∙ ap (λ r. w.stmts r (nat_le 1 n) rest) (fun_ext (block_is n)))))
    (found_is (L (suc n) v.simples ts) ∙ simples_is n ts)

pub stmts_line : (n : ℕ) (ts : List Token) → L (suc n) v.stmts ts ≡ w.stmts (w.block_at n) (nat_le 1 n) ts
stmts_line n ts = stmts_is n ts ∙ ap (λ r. w.stmts r (nat_le 1 n) ts) (fun_ext (block_is n))

pub stmt_line : (n : ℕ) (ts : List Token) → L (suc n) v.stmt ts ≡ w.stmt (w.block_at n) (nat_le 1 n) NoStatement ts
stmt_line n ts = stmt_is n ts ∙ ap (λ r. w.stmt r (nat_le 1 n) NoStatement ts) (fun_ext (block_is n))

pub source_is : (ts : List Token) → L 101 v.source ts ≡ w.source ts
unfolding w.source
source_is ts = line_flat statements good_statements fr 100 v.source refl ts
    ∙ picks (one k.end ts) _ _ _ _ (λ o. refl) (ap (λ r. r >>= λ x. one_among (k.end ∷ []) x.1 >>= λ e. Found x.0 e.1) (stmts_line 100 ts))
