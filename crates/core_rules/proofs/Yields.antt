-- What remains behind a `yield` is what follows it in the body.
use Rattle.std.proofs.Common.{◌≡◌, ◌∙◌, ℕ, suc, Bool, true, false, List, [], ◌∷◌, ◌++◌, map, refl, sym, ap, append-nil}
use mathlib.Core.Path.{fun_ext}
use Rattle.run_tree.specs.Todo as tree
use Rattle.run_tree.specs.Todo.{Done, Ended, Frozen, Freeze, follow, with_notes}
use Rattle.run_tree.proofs.Runs.{run-Done, run-Freeze}
use Rattle.py_source.specs.declared.pos.Pos.{Pos}
use Rattle.py_tree.specs.Trees.{Tree, Maybe, Absent, Present}
use Rattle.py_tree.specs.Statements.{Statement, Block, Branches, NoBranch, Branch}
use Rattle.py_values.specs.declared.value.Value.{Value}
use Rattle.py_values.specs.declared.value.Value.TheVariants as val
use Rattle.source_meaning.specs.py_kinds.Truth.{truth}
use Rattle.source_meaning.specs.py_world.World.{CallState, FunctionCode, Locals, heap_of, state, unset}
use Rattle.source_meaning.specs.py_world.Site.{Scene, Site, no_call, site}
use Rattle.source_meaning.specs.py_world.Outcome.{Continuation, Exhaustion, Gave, Next, Returned, Broke, Continued, Raised, Outcome, Request, Rest, Suspension, call_end, if_true, on_next, on_value, paused}
use Rattle.source_meaning.specs.py_world.Calls.{body_of, scene_of}
use Rattle.source_meaning.specs.py_world.Statements.{branches_on, received, yield_value}
use Rattle.source_meaning.specs.py_world.Runs.{start}
use Rattle.source_meaning.specs.py_world.Resuming.{abandon_of, bare, bare_scene, begun_by, begun_of, frozen_body, opened_by_runner, resumed_by, sent_end}
use Rattle.source_meaning.specs.Requests.{source_kinds, Function, SourceLayer, Statements, Receives, Use, NoUse, Targets, ReturnIt}
use Rattle.source_meaning.specs.Expressions.{source_eval, some_source_part}
use Rattle.source_meaning.specs.Statements.{SourceChoice, position, source_block_body, source_choices, source_entry, source_guard, source_remains, source_sequence, source_statement, source_use, statements_listed}
use Rattle.source_meaning.specs.Meaning.{SourceWorld, source_semantics}
use Rattle.core_rules.specs.Yields.{AtYield, BeginsTo, ComesAt, ComesIn, ComesThrough, OpensBody, StopsAndGoesOn, clauses_of, given_part, in_first, in_later, alone, assigned, returned, in_if, in_try, last, noted_before, passed, run_source, taken}
use Rattle.core_rules.proofs.SourceForms.{expressions, statements}

abbrev SourceEnding : Type 0
SourceEnding = tree.Ending Pos (Exhaustion source_kinds) (Request source_kinds) (Outcome source_kinds) (Suspension source_kinds)

abbrev SourceRun : Type 0
SourceRun = tree.NotedRun Pos (Exhaustion source_kinds) (Request source_kinds) (Outcome source_kinds) (Suspension source_kinds)

-- what the layers behind a part stand for follows it
abbrev FollowsBy : List SourceLayer → Scene → Continuation source_kinds → Continuation source_kinds → Type 0
FollowsBy ls scene k beyond = (line : ℕ) (o : Outcome source_kinds) → source_remains ls (site scene line) o beyond ≡ k o

-- a run that stops at a `yield`, and what remains there
record Stops (n : ℕ) (t : Rest source_kinds) (ls : List SourceLayer) (scene : Scene) (k : Continuation source_kinds) (y : AtYield) : Type 0 where
  rest : List SourceLayer
  stops : run_source n t ≡ (y.notes, Frozen (paused y.value rest y.site y.state) y.left)
  stands : y.site.scene ≡ scene
  goes_on : (beyond : Continuation source_kinds) → FollowsBy ls scene k beyond → (o : Outcome source_kinds) → source_remains rest y.site o beyond ≡ received y.uses y.site o y.then

-- a `yield`
abbrev stop_at : List SourceLayer → Site → SourceEnding → SourceEnding
stop_at rest p (Ended (Gave v t) m) = Frozen (paused v rest p t) m
stop_at rest p e = e

done_stops : (n m : ℕ) (notes : List Pos) (v : Value) (s t : CallState source_kinds) (rest : List SourceLayer) (p : Site) → run_source n (Done (Gave val.None s)) ≡ (notes, Ended (Gave v t) m)
    → run_source n (Freeze (paused val.None rest p s)) ≡ (notes, Frozen (paused v rest p t) m)
done_stops n m notes v s t rest p h =
    run-Freeze (body_of source_semantics) n (paused val.None rest p s) ∙ ap (λ (r : SourceRun). (r.0, stop_at rest p r.1)) (sym (run-Done (body_of source_semantics) n (Gave val.None s)) ∙ h)

yield_stops : (n m : ℕ) (e : Maybe) (notes : List Pos) (v : Value) (s t : CallState source_kinds) (rest : List SourceLayer) (p : Site) (k : Continuation source_kinds) → run_source n (given_part e p s Done) ≡ (notes, Ended (Gave v t) m)
    → run_source n (yield_value (some_source_part e) rest p s k) ≡ (notes, Frozen (paused v rest p t) m)
yield_stops n m Absent notes v s t rest p k h = done_stops n m notes v s t rest p h
yield_stops n m (Present e) notes v s t rest p k h =
    expressions e p s (λ o. on_value o k (λ v s. Freeze (paused v rest p s))) n
    ∙ ap (λ r. follow (body_of source_semantics) r (λ o. on_value o k (λ v s. Freeze (paused v rest p s)))) h
    ∙ ap (with_notes notes) (run-Freeze (body_of source_semantics) m (paused v rest p t))
    ∙ ap (λ (xs : List Pos). (xs, Frozen (paused v rest p t) m)) (append-nil notes)

at_yield_stops : (z : Bool) (n : ℕ) (t : Rest source_kinds) (u : Use) (ls : List SourceLayer) (k : Continuation source_kinds) (y : AtYield) → y.uses ≡ source_use u → y.then ≡ k
    → run_source n t ≡ (y.notes, Frozen (paused y.value (Receives u ∷ ls) y.site y.state) y.left) → Stops n t ls y.site.scene k y
at_yield_stops z n t u ls k y uses then h = record {
  rest = Receives u ∷ ls;
  stops = h;
  stands = refl;
  goes_on = λ beyond f o. λ i. received (sym uses i) y.site o ((fun_ext (λ q. f y.site.line q) ∙ sym then) i);
}

-- a part behind another
later_stops : (n m : ℕ) (t u : Rest source_kinds) (notes : List Pos) (ls : List SourceLayer) (scene : Scene) (k : Continuation source_kinds) (y : AtYield) → run_source n t ≡ with_notes notes (run_source m u) → Stops m u ls scene k y → Stops n t ls scene k (noted_before notes y)
later_stops n m t u notes ls scene k y h r = record {
  rest = r.rest;
  stops = h ∙ ap (with_notes notes) r.stops;
  stands = r.stands;
  goes_on = r.goes_on;
}

abbrev choice_by : Bool → List SourceLayer → ℕ × (Tree × Block) → SourceChoice
choice_by z ls (line, (e, body)) = (line, (source_eval e, source_block_body z ls body))

map_last : {X Y : Type 0} (f : X → Y) (xs : List X) (x : X) → map f (xs ++ x ∷ []) ≡ map f xs ++ f x ∷ []
map_last f [] x = refl
map_last f (y ∷ xs) x = ap (λ ys. f y ∷ ys) (map_last f xs x)

choices_are : (z : Bool) (ls : List SourceLayer) (bs : Branches) → source_choices z ls bs ≡ map (choice_by z ls) (clauses_of bs)
choices_are z ls NoBranch = refl
choices_are z ls (Branch before at e body) = ap (λ xs. xs ++ choice_by z ls (at.line, (e, body)) ∷ []) (choices_are z ls before) ∙ sym (map_last (choice_by z ls) (clauses_of before) (at.line, (e, body)))

branch_runs : (z : Bool) (n m : ℕ) (ls : List SourceLayer) (line : ℕ) (e : Tree) (body other : Block) (bs : List (ℕ × (Tree × Block))) (scene : Scene) (s t : CallState source_kinds) (k : Continuation source_kinds) (notes : List Pos) (v : Value) (b : Bool)
    → run_source n (source_eval e (site scene line) s Done) ≡ (notes, Ended (Gave v t) m) → truth (heap_of t) v ≡ b
    → run_source n (branches_on (map (choice_by z ls) ((line, (e, body)) ∷ bs)) (source_block_body z ls other) scene s k)
    ≡ with_notes notes (run_source m (if_true b (source_block_body z ls body scene t k) (branches_on (map (choice_by z ls) bs) (source_block_body z ls other) scene t k)))
branch_runs z n m ls line e body other bs scene s t k notes v b h is =
    let go : Value → CallState source_kinds → Rest source_kinds = λ v s. if_true (truth (heap_of s) v) (source_block_body z ls body scene s k) (branches_on (map (choice_by z ls) bs) (source_block_body z ls other) scene s k) in
    expressions e (site scene line) s (λ o. on_value o k go) n
    ∙ ap (λ r. follow (body_of source_semantics) r (λ o. on_value o k go)) h
    ∙ ap (λ (c : Bool). with_notes notes (run_source m (if_true c (source_block_body z ls body scene t k) (branches_on (map (choice_by z ls) bs) (source_block_body z ls other) scene t k)))) is

mutual
  comes_in : {z : Bool} {n : ℕ} {ls : List SourceLayer} {ss : List Statement} {scene : Scene} {s : CallState source_kinds} {k : Continuation source_kinds} {y : AtYield} → ComesIn z n ls ss scene s k y → Stops n (source_sequence z ls ss scene s k) ls scene k y
  comes_in {z = z} {ls = ls} (in_first {n = n} {ss = ss} {scene = scene} {k = k} h) =
      let r = comes_at h in
      record {
        rest = r.rest;
        stops = r.stops;
        stands = r.stands;
        goes_on = λ beyond f o. r.goes_on beyond (λ line q. ap (λ (c : Continuation source_kinds). on_next q c (λ s. source_sequence z ls ss scene s c)) (fun_ext (λ x. f line x))) o;
      }
  comes_in {z = z} (in_later {n = n} {m = m} {ls = ls} {st = st} {ss = ss} {scene = scene} {s = s} {t = t} {k = k} {y = y} notes h g) =
      later_stops (suc n) m (source_sequence z ls (st ∷ ss) scene s k) (source_sequence z ls ss scene t k) notes ls scene k y
      (statements z (Statements z ss ∷ ls) st (site scene (position st).line) s (λ o. on_next o k (λ s. source_sequence z ls ss scene s k)) n
      ∙ ap (λ r. follow (body_of source_semantics) r (λ o. on_next o k (λ s. source_sequence z ls ss scene s k))) h)
      (comes_in g)

  comes_at : {z : Bool} {n : ℕ} {ls : List SourceLayer} {st : Statement} {p : Site} {s : CallState source_kinds} {k : Continuation source_kinds} {y : AtYield} → ComesAt z n ls st p s k y → Stops n (source_statement z ls st p s k) ls p.scene k y
  comes_at {z = z} (alone {n = n} {m = m} {ls = ls} {p = p} {s = s} {t = t} {k = k} at word e notes v h) =
      at_yield_stops z n _ NoUse ls k _ refl refl (yield_stops n m e notes v s t (Receives NoUse ∷ ls) p k h)
  comes_at {z = z} (assigned {n = n} {m = m} {ls = ls} {p = p} {s = s} {t = t} {k = k} at word ts e notes v h) =
      at_yield_stops z n _ (Targets ts) ls k _ refl refl (yield_stops n m e notes v s t (Receives (Targets ts) ∷ ls) p k h)
  comes_at {z = z} (returned {n = n} {m = m} {ls = ls} {p = p} {s = s} {t = t} {k = k} at word e notes v h) =
      at_yield_stops z n _ ReturnIt ls k _ refl refl (yield_stops n m e notes v s t (Receives ReturnIt ∷ ls) p k h)
  comes_at {z = z} (in_if {n = n} {ls = ls} {p = p} {s = s} {k = k} {y = y} at branches other h) =
      let r = comes_through h in
      record {
        rest = r.rest;
        stops = ap (λ (cs : List SourceChoice). run_source n (branches_on cs (source_block_body z ls other) p.scene (unset s) k)) (choices_are z ls branches) ∙ r.stops;
        stands = r.stands;
        goes_on = r.goes_on;
      }
  comes_at {z = z} (in_try {n = n} {ls = ls} {p = p} {s = s} {k = k} {y = y} at body handlers other final h) =
      let r = comes_in h in
      record {
        rest = r.rest;
        stops = r.stops;
        stands = r.stands;
        goes_on = λ beyond f o. r.goes_on beyond (λ line q. ap (source_guard z ls handlers (statements_listed other) (statements_listed final) p q) (fun_ext (λ x. f line x))) o;
      }

  comes_through : {z : Bool} {n : ℕ} {ls : List SourceLayer} {bs : List (ℕ × (Tree × Block))} {other : Block} {scene : Scene} {s : CallState source_kinds} {k : Continuation source_kinds} {y : AtYield}
      → ComesThrough z n ls bs other scene s k y → Stops n (branches_on (map (choice_by z ls) bs) (source_block_body z ls other) scene s k) ls scene k y
  comes_through {z = z} (taken {n = n} {m = m} {ls = ls} {line = line} {e = e} {body = body} {other = other} {bs = bs} {scene = scene} {s = s} {t = t} {k = k} {y = y} notes v h is g) =
      later_stops n m _ _ notes ls scene k y (branch_runs z n m ls line e body other bs scene s t k notes v true h is) (comes_in g)
  comes_through {z = z} (passed {n = n} {m = m} {ls = ls} {line = line} {e = e} {body = body} {other = other} {bs = bs} {scene = scene} {s = s} {t = t} {k = k} {y = y} notes v h is g) =
      later_stops n m _ _ notes ls scene k y (branch_runs z n m ls line e body other bs scene s t k notes v false h is) (comes_through g)
  comes_through (last h) = comes_in h

-- THE BODY OF A YIELD FUNCTION
opens : (w : SourceWorld) (f : Value) (args : List Value) (code : FunctionCode Function) (names : Locals) → OpensBody w f args code names
    → opened_by_runner source_semantics f args (start w) ≡ source_sequence code.code.explains [] (statements_listed code.code.body) (scene_of source_entry code no_call) (state names [] w) (λ o. Done (call_end (start w) o))
opens w f args code names h = rw (h.is, h.found, h.coded, h.yields, h.fits) refl

-- a call that ends has no names and temporaries left, whatever the world is
end_same : (w x : SourceWorld) (o : Outcome source_kinds) → call_end (start x) o ≡ call_end (start w) o
end_same w x (Gave v s) = refl
end_same w x (Next s) = refl
end_same w x (Returned v s) = refl
end_same w x (Broke s) = refl
end_same w x (Continued s) = refl
end_same w x (Raised e trace s) = refl

same_site : (code : FunctionCode Function) (p : Site) → p.scene ≡ scene_of source_entry code no_call → bare p ≡ p
same_site code p is = ap (λ (c : Scene). site (bare_scene c) p.line) is ∙ sym (ap (λ (c : Scene). site c p.line) is)

pub begins_and_goes_on : (w : SourceWorld) (f : Value) (args : List Value) (code : FunctionCode Function) (names : Locals) (budget : ℕ) (y : AtYield) → OpensBody w f args code names → BeginsTo w code names budget y → StopsAndGoesOn w f args budget y
begins_and_goes_on w f args code names budget y h g =
    let r = comes_in g in
    let end : Continuation source_kinds = λ o. Done (call_end (start w) o) in
    let stop = paused y.value r.rest y.site y.state in
    record {
      frame = frozen_body stop;
      stops = ap (λ t. begun_by budget (run_source budget t).1) (opens w f args code names h) ∙ ap (λ x. begun_by budget x.1) r.stops;
      goes_on = λ x n is sent more.
          ap (λ o. resumed_by source_semantics o n sent more x) is
          ∙ (λ i. begun_of source_semantics more (source_remains r.rest (same_site code y.site r.stands i) (sent_end sent (state y.state.locals [] (abandon_of n x))) (λ o. Done (end_same w (abandon_of n x) o i))))
          ∙ ap (begun_of source_semantics more) (r.goes_on end (λ line o. refl) (sent_end sent (state y.state.locals [] (abandon_of n x))));
    }
