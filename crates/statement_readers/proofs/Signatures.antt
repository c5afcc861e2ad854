-- The loops of a function's head, one step on.
use Rattle.std.proofs.Common.{◌≡◌, ℕ, suc, ◌<◌, ◌≤◌, Bool, true, false, cond, Option, Some, None, List, [], ◌∷◌, ◌++◌, length, refl, sym, ap, ◌∙◌, arith}
use Rattle.py_source.specs.declared.pos.Pos.{Pos}
use Rattle.py_cursor.specs.py_tokens.declared.token.Token.{Token}
use Rattle.py_tree.specs.Trees.{Tree, Trees, Maybe, Absent, Present, More}
use Rattle.py_tree.specs.Statements.{Parameter, Parameter_at}
use Rattle.parsing.specs.Reading.{Read, Found, Bad, ◌>>=◌}
use Rattle.parsing.proofs.Chain.{bind_found}
use Rattle.grammar_code.specs.Walk.{first_of, pick}
use Rattle.py_cursor.specs.token_kinds.Kinds.{kind, text_of}
use Rattle.py_cursor.specs.token_kinds.Numbers as k
use Rattle.py_cursor.specs.py_expressions.Sorts.{expr}
use Rattle.py_cursor.specs.py_expressions.Lines.{expr_begins}
use Rattle.py_cursor.specs.declared.stop.Stop.{Stop}
use Rattle.py_cursor.specs.Cursor.{FailsAs}
use Rattle.statement_readers.specs.Reads.{reads_as}
use Rattle.statement_readers.proofs.Expressions.{takes}
use Rattle.statement_readers.specs.Turns.{On, Out, Turn, turns}
use Rattle.statement_readers.specs.Words.{one_among, starts, one, expr_behind, alias_behind, param, param_step, params_on, decorator, decorator_step, decorators_on, handler_head}
use Rattle.statement_readers.proofs.Turns.{Keeps, over, fails, next, ends, fails_bind, wanted_takes, first_takes}
use Rattle.statement_readers.proofs.Loops.{found_rest, takes_bind, takes_then, keeps_bind, alias_keeps}

pub expr_behind_keeps : (c : ℕ) (ts : List Token) (m : Maybe) (rest : List Token) → expr_behind c ts ≡ Found m rest → length rest ≤ length ts
unfolding expr_behind
expr_behind_keeps c ts m rest e = go (one c ts) refl e
  where
    go : (x : Option (Token × List Token)) → one c ts ≡ x → pick x (λ o. reads_as 100 expr o.1 >>= λ x. Found (Present x.0.0) x.1) (Found Absent ts) ≡ Found m rest → length rest ≤ length ts
    go (Some x) i e = let h = first_takes (c ∷ []) ts x.0 x.1 i in let j = takes_bind (reads_as 100 expr x.1) (λ y. Present y.0) (length x.1) (takes 100 expr x.1) m rest e in omega arith
    go None i e = let j = ap length (found_rest Absent m ts rest e) in omega arith

-- two readings in a row that keep
pub keeps_then : {A B : Type 0} (r : Read Token A) (g : A × List Token → Read Token B) (n : ℕ) → ((a : A) (rest : List Token) → r ≡ Found a rest → length rest ≤ n) → ((a : A) (mid : List Token) (b : B) (rest : List Token) → g (a, mid) ≡ Found b rest → length rest ≤ length mid) → (b : B) (rest : List Token) → (r >>= g) ≡ Found b rest → length rest ≤ n
keeps_then r g n h i b rest e = let y = bind_found r g b rest e in let j = h y.0 y.1 y.2 in let l = i y.0 y.1 b rest y.3 in omega arith

pub param_takes : (ps : List Parameter) (ts : List Token) (b : List Parameter) (rest : List Token) → param ps ts ≡ Found b rest → length rest < length ts
unfolding param
param_takes ps ts b rest e = takes_then (one_among (k.name ∷ []) ts) _ (length ts) (wanted_takes (k.name ∷ []) ts)
    (λ n mid b rest i. keeps_then (expr_behind k.colon mid) _ (length mid) (expr_behind_keeps k.colon mid) (λ a mid b rest i. keeps_bind (expr_behind k.equal mid) _ (length mid) (expr_behind_keeps k.equal mid) b rest i) b rest i) b rest e

param_keeps : Keeps param_step
param_keeps ps o after t rest e = go (starts (k.name ∷ []) after) e
  where
    go : (b : Bool) → cond b (param ps after >>= λ x. Found (On x.0) x.1) (Found (Out ps) after) ≡ Found (On t) rest → length rest < suc (length after)
    go true e = takes_bind (param ps after) (λ x. On x) (suc (length after)) (λ b rest i. let h = param_takes ps after b rest i in omega arith) (On t) rest e
    go false e = absurd (cc)

pub params_over : (ps : List Parameter) (ts : List Token) → first_of kind (k.comma ∷ []) ts ≡ None → params_on (ps, ts) ≡ Found ps ts
unfolding params_on
params_over ps ts e = over (k.comma ∷ []) (λ ps. ps) param_step ps ts e

pub params_ends : (ps : List Parameter) (ts : List Token) (o : Token) (after : List Token) (whole : Read Token (List Parameter)) → first_of kind (k.comma ∷ []) ts ≡ Some (o, after) → starts (k.name ∷ []) after ≡ false → params_on (ps, ts) ≡ whole → whole ≡ Found ps after
unfolding params_on
params_ends ps ts o after whole e b w = ends (k.comma ∷ []) (λ ps. ps) param_step param_keeps ps ts o after ps after whole e (rw b refl) w

pub params_fails : (ps : List Parameter) (ts : List Token) (o : Token) (after : List Token) (stop : Stop) (whole : Read Token (List Parameter)) → first_of kind (k.comma ∷ []) ts ≡ Some (o, after) → starts (k.name ∷ []) after ≡ true → FailsAs stop (param ps after) → params_on (ps, ts) ≡ whole → FailsAs stop whole
unfolding params_on
params_fails ps ts o after stop whole e b i w = fails (k.comma ∷ []) (λ ps. ps) param_step param_keeps ps ts o after stop whole e (rw b (fails_bind stop (param ps after) _ i)) w

pub params_next : (ps : List Parameter) (ts : List Token) (o : Token) (after : List Token) (more : List Parameter) (rest : List Token) (whole : Read Token (List Parameter)) → first_of kind (k.comma ∷ []) ts ≡ Some (o, after) → starts (k.name ∷ []) after ≡ true → param ps after ≡ Found more rest → params_on (ps, ts) ≡ whole → params_on (more, rest) ≡ whole
unfolding params_on
params_next ps ts o after more rest whole e b i w = next (k.comma ∷ []) (λ ps. ps) param_step param_keeps ps ts o after more rest whole e (rw (b, i) refl) w

pub decorator_takes : (ts : List Token) (e : Tree) (rest : List Token) → decorator ts ≡ Found e rest → length rest < length ts
unfolding decorator
decorator_takes ts x rest e = takes_then (reads_as 100 expr ts) _ (length ts) (takes 100 expr ts)
    (λ y mid b rest i. keeps_bind (one_among (k.newline ∷ []) mid) _ (length mid) (λ o rest j. let h = wanted_takes (k.newline ∷ []) mid o rest j in omega arith) b rest i) x rest e

decorator_keeps : Keeps decorator_step
decorator_keeps ds o after t rest e = takes_bind (decorator after) (λ x. On (More ds x)) (suc (length after)) (λ b rest i. let h = decorator_takes after b rest i in omega arith) (On t) rest e

pub decorators_over : (ds : Trees) (ts : List Token) → first_of kind (k.at ∷ []) ts ≡ None → decorators_on (ds, ts) ≡ Found ds ts
unfolding decorators_on
decorators_over ds ts e = over (k.at ∷ []) (λ ds. ds) decorator_step ds ts e

pub decorators_fails : (ds : Trees) (ts : List Token) (o : Token) (after : List Token) (stop : Stop) (whole : Read Token Trees) → first_of kind (k.at ∷ []) ts ≡ Some (o, after) → FailsAs stop (decorator after) → decorators_on (ds, ts) ≡ whole → FailsAs stop whole
unfolding decorators_on
decorators_fails ds ts o after stop whole e i w = fails (k.at ∷ []) (λ ds. ds) decorator_step decorator_keeps ds ts o after stop whole e (fails_bind stop (decorator after) _ i) w

pub decorators_next : (ds : Trees) (ts : List Token) (o : Token) (after : List Token) (x : Tree) (rest : List Token) (more : Trees) (whole : Read Token Trees) → first_of kind (k.at ∷ []) ts ≡ Some (o, after) → decorator after ≡ Found x rest → more ≡ More ds x → decorators_on (ds, ts) ≡ whole → decorators_on (more, rest) ≡ whole
unfolding decorators_on
decorators_next ds ts o after x rest more whole e i j w = next (k.at ∷ []) (λ ds. ds) decorator_step decorator_keeps ds ts o after more rest whole e (rw (i, j) refl) w

pub caught_keeps : (ts : List Token) (x : Maybe × Option (List ℕ)) (rest : List Token) → handler_head ts ≡ Found x rest → length rest ≤ length ts
unfolding handler_head
caught_keeps ts x rest e = go (starts expr_begins ts) e
  where
    go : (b : Bool) → cond b (reads_as 100 expr ts >>= λ c. alias_behind c.1 >>= λ n. Found (Present c.0.0, n.0) n.1) (Found (Absent, None) ts) ≡ Found x rest → length rest ≤ length ts
    go true e = let h = takes_then (reads_as 100 expr ts) _ (length ts) (takes 100 expr ts) (λ c mid b rest i. keeps_bind (alias_behind mid) _ (length mid) (alias_keeps mid) b rest i) x rest e in omega arith
    go false e = let n : Maybe × Option (List ℕ) = (Absent, None) in let j = ap length (found_rest n x ts rest e) in omega arith

pub ruleset param_rules = (params_over, params_ends, params_next, params_fails)

pub ruleset decorator_rules = (decorators_over, decorators_next, decorators_fails)
