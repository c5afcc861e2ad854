-- Core code does what the source does that it stands for.
use Rattle.std.proofs.lemmas.List.{drop-drop}
use Rattle.std.proofs.Common.{drop, ◌≡◌, ℕ, suc, ◌+◌, arith, List, [], ◌∷◌, ◌++◌, map, Option, Bool, true, false, refl, sym, ap, ap₂, ◌∙◌, subst}
use Rattle.std.specs.declared.alloc.Global.{Global}
use Rattle.std.specs.declared.rc.Rc.{Rc}
use Rattle.py_source.specs.declared.pos.Pos.{Pos}
use Rattle.py_tree.specs.Trees as tree
use Rattle.py_tree.specs.Trees.{Tree, Trees, Empty, More, Maybe}
use Rattle.py_tree.specs.declared.expr.Expr.{Expr}
use Rattle.source_meaning.specs.py_world.Explained.{kept_count, kept_count_all}
use Rattle.source_meaning.specs.Watched.{watch, watch_all}
use Rattle.core_meaning.specs.py_core.declared.stmt.Template.{Template}
use Rattle.py_tree.specs.Statements as st
use Rattle.py_tree.specs.Statements.{Statement, Block, Branches, Handlers, Place, Taker, Parameter}
use Rattle.py_values.specs.declared.value.Value.TheVariants as val
use Rattle.core_meaning.specs.py_core.declared.expr.CoreExpr.{CoreExpr}
use Rattle.core_meaning.specs.py_core.declared.expr.CoreExprKind.{CoreExprKind, Row_of-CoreExprKind-Call-1-1 as Row, end_of-CoreExprKind-Call-1-1 as end, more_of-CoreExprKind-Call-1-1 as more_of, items-the_row-CoreExprKind-Call-1-1 as row_items, Held-CoreExprKind-Slice-1 as Held}
use Rattle.core_meaning.specs.py_core.Blocks.{stmts_in, explains_in}
use Rattle.core_meaning.specs.py_core.declared.stmt.CoreGuard.{CoreGuard}
use Rattle.core_meaning.specs.py_core.declared.stmt.CoreHandler as handler
use Rattle.core_meaning.specs.py_core.declared.stmt.CoreSingle.{CoreSingle}
use Rattle.core_meaning.specs.py_core.declared.stmt.CoreBlock.{CoreBlock}
use Rattle.core_meaning.specs.py_core.declared.stmt.CoreBranch as branch
use Rattle.core_meaning.specs.py_core.declared.stmt.CoreFn.{CoreFn}
use Rattle.core_meaning.specs.py_core.declared.stmt.CoreTarget.{CoreTarget}
use Rattle.core_meaning.specs.py_core.declared.stmt.CoreUse.{CoreUse}
use Rattle.core_meaning.specs.py_core.declared.stmt.CoreStmt.{CoreStmt}
use Rattle.core_meaning.specs.py_core.declared.stmt.Template.TheVariants.{Plain, Explain}
use Rattle.core_meaning.specs.py_core.declared.stmt.CoreStmtKind.TheVariants as kind
use Rattle.core_meaning.specs.py_core.declared.stmt.CoreStmtKind.{CoreStmtKind, Row_of-CoreBranch, items-the_row-CoreBranch}
use Rattle.core_meaning.specs.py_core.declared.stmt.CoreStmtKind as kinds
use Rattle.source_meaning.specs.Requests as s
use Rattle.source_meaning.specs.Requests.{source_kinds, Script, Function}
use Rattle.source_meaning.specs.Expressions as source
use Rattle.source_meaning.specs.Statements as src
use Rattle.core_meaning.specs.Requests as c
use Rattle.core_meaning.specs.Requests.{core_kinds}
use Rattle.core_meaning.specs.Expressions as core
use Rattle.core_meaning.specs.Statements as cor
use Rattle.source_meaning.specs.py_world.Site.{Scene, Site, site}
use Rattle.source_meaning.specs.py_world.World.{CallState}
use Rattle.source_meaning.specs.py_world.Arguments.{arguments_of}
use Rattle.py_tree.specs.Names.{yields_in}
use Rattle.py_tree.specs.declared.stmt.Alias.{Alias}
use Rattle.source_meaning.specs.py_world.Outcome.{Outcome, Next, Rest, Continuation, After, on_next}
use Rattle.source_meaning.specs.py_world.Statements.{asked, choose, fail_explained}
use Rattle.source_meaning.specs.py_world.Definitions.{define}
use Rattle.source_meaning.specs.py_world.Imports.{import_statement, import_from}
use Rattle.source_meaning.specs.py_world.Expressions.{call_part, compare_part, kept_part}
use Rattle.py_tree.specs.declared.op.CmpOp.{CmpOp}
use Rattle.py_tree.specs.declared.op.BinOp.{BinOp}
use Rattle.py_tree.specs.declared.expr.ArgName.{ArgName}
use Rattle.source_meaning.specs.Statements.{statements_listed}
use Rattle.source_meaning.specs.Meaning.{source_semantics as source_meaning}
use Rattle.core_meaning.specs.Statements.{core_body}
use Rattle.core_meaning.specs.Meaning.{core as core_meaning}
use Rattle.core_meaning.specs.py_core.declared.stmt.Core.{Core}
use Rattle.lower_law.specs.Alike as alike
use Rattle.lower_law.specs.Alike.{StatesAlike, EndsAlike, gave, next, returned, broke, continued}
use Rattle.lower_law.specs.Lowered as low
use Rattle.lower_law.specs.Lowered.{Watched, WatchedEach, IsLeaf, Lowered, LoweredEach, LoweredExpr, LoweredHeld, LoweredSome, LoweredPlace, LoweredPlaces, LoweredTarget, LoweredTargets, LoweredUse, LoweredHandlers, LoweredGuard, LoweredStatement, LoweredBlock, LoweredBody, LoweredLayers, LoweredRest, LoweredBranches, LoweredFunction, LoweredModule, trees_listed, defaults_listed, branches_listed, choice_at, handlers_listed, catch_at, core_at}
use Rattle.lower_law.specs.Law.{LoweredCode, LoweredTurn, statement, turn, for_turn, Lowering}
use Rattle.lower_law.specs.Sourced.{sources_in, module_of}
use Rattle.lower_law.proofs.Parts as part
use Rattle.lower_law.proofs.Parts.{none, more}
use Rattle.lower_law.proofs.Blocks as block
use Rattle.lower_law.proofs.Flow as flow
use Rattle.lower_law.proofs.Classes as classes
use Rattle.lower_law.proofs.Loads as loads

abbrev PartSame : source.SourcePart → core.CorePart → Type 0
PartSame = part.PartSame Lowering

abbrev PartsSame : List source.SourcePart → List core.CorePart → Type 0
PartsSame = part.PartsSame Lowering

abbrev BodySame : src.SourceBody → cor.CoreBody → Type 0
BodySame = block.BodySame Lowering

abbrev States : CallState source_kinds → CallState core_kinds → Type 0
States = StatesAlike Lowering

abbrev Behind : Continuation source_kinds → Continuation core_kinds → Type 0
Behind = part.Behind Lowering

abbrev pub Follow : Rest source_kinds → Rest core_kinds → Type 0
Follow = part.Follow Lowering

map_more : {A B : Type 0} (g : A → B) (xs : List A) (y : A) → map g (xs ++ y ∷ []) ≡ map g xs ++ g y ∷ []
map_more g [] y = refl
map_more g (x ∷ xs) y = ap (λ zs. g x ∷ zs) (map_more g xs y)

parts_listed : (es : Trees) → source.source_parts es ≡ map source.source_eval (trees_listed es)
parts_listed Empty = refl
parts_listed (More es e) = ap (λ xs. xs ++ source.source_eval e ∷ []) (parts_listed es) ∙ sym (map_more source.source_eval (trees_listed es) e)

parts_row : {m : _} (row : Row m) → core.parts row ≡ map (λ (e : Rc CoreExpr Global). core.eval e.value) (row_items m row)
parts_row end = refl
parts_row (more_of p a e row) = ap (λ xs. core.eval_at a e ∷ xs) (parts_row row)

listed_same : (es : Trees) {m : _} (row : Row m) → PartsSame (map source.source_eval (trees_listed es)) (map (λ (e : Rc CoreExpr Global). core.eval e.value) (row_items m row)) → PartsSame (source.source_parts es) (core.parts row)
listed_same es row h = rw (parts_listed es, parts_row row) h

compare_as : (ops cops : List CmpOp) → cops ≡ ops → {e : source.SourcePart} {f : core.CorePart} {es : List source.SourcePart} {fs : List core.CorePart} → PartSame e f → PartsSame es fs → PartSame (compare_part e ops es) (compare_part f cops fs)
compare_as ops cops is {e = e} {f = f} {es = es} {fs = fs} x xs = subst (λ o. PartSame (compare_part e o es) (compare_part f cops fs)) is (part.compare_same _ cops x xs)

call_as : (names cnames : List (Option ArgName)) → cnames ≡ names → {e : source.SourcePart} {f : core.CorePart} {es : List source.SourcePart} {fs : List core.CorePart} → PartSame e f → PartsSame es fs → PartSame (call_part e (arguments_of names) es) (call_part f (arguments_of cnames) fs)
call_as names cnames is {e = e} {f = f} {es = es} {fs = fs} x xs = subst (λ ns. PartSame (call_part e (arguments_of ns) es) (call_part f (arguments_of cnames) fs)) is (part.call_same _ (arguments_of cnames) x xs)

mutual
  eval_same : {e : Tree} {at : Pos} {x : CoreExprKind} → Lowered e at x → PartSame (source.source_eval e) (core.eval_at at x)
  eval_same (low.name at n) = part.noted_same _ at (part.name_same _ n)
  eval_same (low.number at n) = part.noted_same _ at (part.constant_same _ (val.Int n))
  eval_same (low.text at n) = part.noted_same _ at (part.text_same _ n)
  eval_same (low.true at) = part.noted_same _ at (part.constant_same _ (val.Bool true))
  eval_same (low.false at) = part.noted_same _ at (part.constant_same _ (val.Bool false))
  eval_same (low.none at) = part.noted_same _ at (part.constant_same _ val.None)
  eval_same (low.paren at x) = part.noted_same _ at (eval_same x)
  eval_same (low.call at {es = es} {row = row} u x xs) = part.noted_same _ at (call_as _ _ u (eval_same x) (listed_same es row (each_same xs)))
  eval_same (low.unary at op x) = part.noted_same _ at (part.unary_same _ op (eval_same x))
  eval_same (low.binary at op x y) = part.noted_same _ at (part.binary_same _ op (eval_same x) (eval_same y))
  eval_same (low.compare at {es = es} {row = row} is x xs) = part.noted_same _ at (compare_as _ _ is (eval_same x) (listed_same es row (each_same xs)))
  eval_same (low.negation at x) = part.noted_same _ at (part.not_same _ (eval_same x))
  eval_same (low.conjunction at {es = es} {row = row} x xs) = part.noted_same _ at (part.and_same _ (eval_same x) (listed_same es row (each_same xs)))
  eval_same (low.disjunction at {es = es} {row = row} x xs) = part.noted_same _ at (part.or_same _ (eval_same x) (listed_same es row (each_same xs)))
  eval_same (low.choice at x y z) = part.noted_same _ at (part.choice_same _ (eval_same x) (eval_same y) (eval_same z))
  eval_same (low.tuple at {es = es} {row = row} xs) = part.noted_same _ at (flow.tuple_same _ (listed_same es row (each_same xs)))
  eval_same (low.list at {es = es} {row = row} xs) = part.noted_same _ at (flow.list_same _ (listed_same es row (each_same xs)))
  eval_same (low.dict at {ks = ks} {es = es} {keys = keys} {row = row} xs ys) = part.noted_same _ at (flow.dict_same _ (listed_same ks keys (each_same xs)) (listed_same es row (each_same ys)))
  eval_same (low.attribute at name x) = part.noted_same _ at (flow.attribute_same _ name (eval_same x))
  eval_same (low.subscript at x y) = part.noted_same _ at (flow.subscript_same _ (eval_same x) (eval_same y))
  eval_same (low.slice at x a b c) = part.noted_same _ at (flow.slice_same _ (eval_same x) (held_same a) (held_same b) (held_same c))

  held_same : {m : Maybe} {x : Held} → LoweredHeld m x → block.SomeSame Lowering (source.some_source_part m) (core.held x)
  held_same low.absent = block.none
  held_same (low.present x) = block.some (eval_same x)

  each_same : {es : List Tree} {xs : List (Rc CoreExpr Global)} → LoweredEach es xs → PartsSame (map source.source_eval es) (map (λ (e : Rc CoreExpr Global). core.eval e.value) xs)
  each_same low.nil = none
  each_same (low.cons x xs) = more (eval_same x) (each_same xs)

-- the same of a condition whose parts are kept
abbrev watch_list : ℕ → List Tree → List source.SourcePart
watch_list n [] = []
watch_list n (e ∷ es) = watch n e ∷ watch_list (n + kept_count e) es

abbrev shown_each : List Tree → ℕ
shown_each [] = 0
shown_each (e ∷ es) = kept_count e + shown_each es

shown_more : (xs : List Tree) (e : Tree) → shown_each (xs ++ e ∷ []) ≡ shown_each xs + kept_count e
shown_more [] e = omega arith
shown_more (x ∷ xs) e = let h : shown_each (xs ++ e ∷ []) ≡ shown_each xs + kept_count e = shown_more xs e in omega (arith, h)

shown_listed : (es : Trees) → shown_each (trees_listed es) ≡ kept_count_all es
shown_listed Empty = refl
shown_listed (More es e) = shown_more (trees_listed es) e ∙ ap (λ n. n + kept_count e) (shown_listed es)

watch_more : (n : ℕ) (xs : List Tree) (e : Tree) → watch_list n (xs ++ e ∷ []) ≡ watch_list n xs ++ watch (n + shown_each xs) e ∷ []
watch_more n [] e = ap (λ m. watch m e ∷ []) (omega arith)
watch_more n (x ∷ xs) e = ap (λ zs. watch n x ∷ zs) (watch_more (n + kept_count x) xs e ∙ ap (λ m. watch_list (n + kept_count x) xs ++ watch m e ∷ []) (omega arith))

watch_listed : (n : ℕ) (es : Trees) → watch_all n es ≡ watch_list n (trees_listed es)
watch_listed n Empty = refl
watch_listed n (More es e) = ap₂ (λ zs m. zs ++ watch (n + m) e ∷ []) (watch_listed n es) (sym (shown_listed es)) ∙ sym (watch_more n (trees_listed es) e)

watched_rows : (n : ℕ) (es : Trees) {m : _} (row : Row m) → PartsSame (watch_list n (trees_listed es)) (map (λ (e : Rc CoreExpr Global). core.eval e.value) (row_items m row)) → PartsSame (watch_all n es) (core.parts row)
watched_rows n es row h = rw (watch_listed n es, parts_row row) h

watch_leaf : (n : ℕ) (e : Tree) → IsLeaf e → watch n e ≡ kept_part n (source.source_eval e)
watch_leaf n (tree.Paren at e) h = absurd h
watch_leaf n (tree.Call at e es names) h = absurd h
watch_leaf n (tree.Unary at op e) h = absurd h
watch_leaf n (tree.Binary at l op r) h = absurd h
watch_leaf n (tree.Compare at e ops es) h = absurd h
watch_leaf n (tree.Not at e) h = absurd h
watch_leaf n (tree.And at e es) h = absurd h
watch_leaf n (tree.Or at e es) h = absurd h
watch_leaf n (tree.Attribute at e name) h = absurd h
watch_leaf n _ h = refl

mutual
  watch_same : {n : ℕ} {e : Tree} {at : Pos} {x : CoreExprKind} → Watched n e at x → PartSame (watch n e) (core.eval_at at x)
  watch_same (low.leaf n b {e = e} {a = a} {x = x} is h) = rw (watch_leaf n e is) (part.kept_same _ n (eval_same h))
  watch_same (low.paren n at x) = part.noted_same _ at (watch_same x)
  watch_same (low.call n at b {e = e} {es = es} {row = row} u x xs) = part.kept_same _ n (part.noted_same _ at (call_as _ _ u (watch_same x) (watched_rows (suc n + kept_count e) es row (watch_each xs))))
  watch_same (low.unary n at op x) = part.noted_same _ at (part.unary_same _ op (watch_same x))
  watch_same (low.binary n at op x y) = part.noted_same _ at (part.binary_same _ op (watch_same x) (watch_same y))
  watch_same (low.compare n at {e = e} {es = es} {row = row} is x xs) = part.noted_same _ at (compare_as _ _ is (watch_same x) (watched_rows (n + kept_count e) es row (watch_each xs)))
  watch_same (low.negation n at x) = part.noted_same _ at (part.not_same _ (watch_same x))
  watch_same (low.conjunction n at {e = e} {es = es} {row = row} x xs) = part.noted_same _ at (part.and_same _ (watch_same x) (watched_rows (n + kept_count e) es row (watch_each xs)))
  watch_same (low.disjunction n at {e = e} {es = es} {row = row} x xs) = part.noted_same _ at (part.or_same _ (watch_same x) (watched_rows (n + kept_count e) es row (watch_each xs)))
  watch_same (low.attribute n at b name x) = part.kept_same _ n (part.noted_same _ at (flow.attribute_same _ name (watch_same x)))

  watch_each : {n : ℕ} {es : List Tree} {xs : List (Rc CoreExpr Global)} → WatchedEach n es xs → PartsSame (watch_list n es) (map (λ (e : Rc CoreExpr Global). core.eval e.value) xs)
  watch_each (low.nil n) = none
  watch_each (low.cons n x xs) = more (watch_same x) (watch_each xs)

pub expression_same : {e : Tree} {x : CoreExpr} → LoweredExpr e x → PartSame (source.source_eval e) (core.eval x)
expression_same h = eval_same h

some_same : {m : Maybe} {y : Option (Rc CoreExpr Global)} → LoweredSome m y → block.SomeSame Lowering (source.some_source_part m) (cor.some_part y)
some_same low.LoweredSome.none = block.none
some_same (low.LoweredSome.some x) = block.some (eval_same x)

place_same : {p : Place} {x : CoreSingle} → LoweredPlace p x → flow.StoreSame Lowering (src.store_place p) (cor.store_at x.kind)
place_same (low.LoweredPlace.name at n) = flow.store_name_same _ n
place_same (low.LoweredPlace.attribute at n x) = flow.store_attribute_same _ n (eval_same x)
place_same (low.LoweredPlace.subscript at x y) = flow.store_item_same _ (eval_same x) (eval_same y)

places_same : {ps : List Place} {xs : List CoreSingle} → LoweredPlaces ps xs → flow.StoresSame Lowering (src.store_places ps) (cor.store_singles xs)
places_same low.LoweredPlaces.none = flow.none
places_same (low.LoweredPlaces.more x xs) = flow.more (place_same x) (places_same xs)

target_same : {t : Taker} {x : CoreTarget} → LoweredTarget t x → flow.StoreSame Lowering (src.source_store t) (cor.store x)
target_same (low.one x) = place_same x
target_same (low.unpack xs) = flow.unpack_same _ (places_same xs)

targets_same : {ts : List Taker} {xs : List CoreTarget} → LoweredTargets ts xs → flow.StoresSame Lowering (src.source_stores ts) (cor.stores xs)
targets_same low.LoweredTargets.none = flow.none
targets_same (low.LoweredTargets.more x xs) = flow.more (target_same x) (targets_same xs)

-- what is done with the value that a `yield` is given
use_same : {u : s.Use} {x : CoreUse} → LoweredUse u x → flow.StoreSame Lowering (src.source_use u) (cor.use_of x)
use_same low.LoweredUse.no_use = flow.no_use_same _
use_same (low.LoweredUse.targets from xs) = flow.all_stored_same _ (targets_same xs)
use_same low.LoweredUse.return_it = flow.return_sent_same _

augment_same : {p : Place} {x : CoreSingle} → LoweredPlace p x → (op : BinOp) {e : source.SourcePart} {f : core.CorePart} → PartSame e f → PartSame (src.augment p op e) (cor.augment_at x.kind op f)
augment_same (low.LoweredPlace.name at n) op e = flow.augment_same _ n op e
augment_same (low.LoweredPlace.attribute at n x) op e = flow.augment_attribute_same _ n op (eval_same x) e
augment_same (low.LoweredPlace.subscript at x y) op e = flow.augment_item_same _ op (eval_same x) (eval_same y) e

delete_same : {p : Place} {x : CoreSingle} → LoweredPlace p x → PartSame (src.delete p) (cor.delete_at x.kind)
delete_same (low.LoweredPlace.name at n) = flow.delete_name_same _ n
delete_same (low.LoweredPlace.attribute at n x) = flow.delete_attribute_same _ n (eval_same x)
delete_same (low.LoweredPlace.subscript at x y) = flow.delete_item_same _ (eval_same x) (eval_same y)

-- a statement stands where its source does
position_of : {z : Bool} {s : Statement} {at : Pos} {x : CoreStmtKind} → LoweredStatement z s at x → src.position s ≡ at
position_of (low.do_it at x) = refl
position_of (low.assign at ts x) = refl
position_of (low.augment at op p x) = refl
position_of (low.return_it at x) = refl
position_of (low.assert_it at x m bs body other) = refl
position_of (low.assert_explained at c x m bs body other) = refl
position_of (low.globals at is) = refl
position_of (low.yields at word u x) = refl
position_of (low.assign_yield at word u x) = refl
position_of (low.return_yield at word u x) = refl
position_of (low.pass at) = refl
position_of (low.leave at) = refl
position_of (low.again at) = refl
position_of (low.choose at bs b) = refl
position_of (low.loop at x b) = refl
position_of (low.define at word name returns hs es h) = refl
position_of (low.raise_it at x) = refl
position_of (low.delete at p) = refl
position_of (low.for_each at t x b) = refl
position_of (low.try_it at b g) = refl
position_of (low.with_it at x b) = refl
position_of (low.class_it at word name hs x b) = refl
position_of (low.import_it at alias is) = refl
position_of (low.import_from at is all) = refl

-- it begins with a step: none is a failure
begun_of : {z : Bool} {s : Statement} {at : Pos} {x : CoreStmtKind} → LoweredStatement z s at x → (ls : List c.Layer) (st : CoreStmt) → cor.begun_at x ls st ≡ asked (c.StatementOf ls st)
begun_of (low.do_it at x) ls st = refl
begun_of (low.assign at ts x) ls st = refl
begun_of (low.augment at op p x) ls st = refl
begun_of (low.return_it at x) ls st = refl
begun_of (low.assert_it at x m bs body other) ls st = refl
begun_of (low.assert_explained at c x m bs body other) ls st = refl
begun_of (low.globals at is) ls st = refl
begun_of (low.yields at word u x) ls st = refl
begun_of (low.assign_yield at word u x) ls st = refl
begun_of (low.return_yield at word u x) ls st = refl
begun_of (low.pass at) ls st = refl
begun_of (low.leave at) ls st = refl
begun_of (low.again at) ls st = refl
begun_of (low.choose at bs b) ls st = refl
begun_of (low.loop at x b) ls st = refl
begun_of (low.define at word name returns hs es h) ls st = refl
begun_of (low.raise_it at x) ls st = refl
begun_of (low.delete at p) ls st = refl
begun_of (low.for_each at t x b) ls st = refl
begun_of (low.try_it at b g) ls st = refl
begun_of (low.with_it at x b) ls st = refl
begun_of (low.class_it at word name hs x b) ls st = refl
begun_of (low.import_it at alias is) ls st = refl
begun_of (low.import_from at is all) ls st = refl

begun_same : {z : Bool} {ls : List s.SourceLayer} {ks : List c.Layer} → LoweredLayers z ls ks → {sm : Statement} {at : Pos} {x : CoreStmtKind} → LoweredStatement z sm at x → (scene : Scene) {u : CallState source_kinds} {r : CallState core_kinds} → States u r → (k : Continuation source_kinds) (l : Continuation core_kinds) → Behind k l → Follow (src.source_begun z ls sm (site scene (src.position sm).line) u k) (cor.begun ks (core_at at x) (site scene at.line) r l)
begun_same {z = z} {ls = ls} {ks = ks} hl {sm = sm} {at = at} {x = x} h scene {u = u} {r = r} ss k l g =
    subst (λ (b : core.CorePart). Follow (src.source_begun z ls sm (site scene (src.position sm).line) u k) (b (site scene at.line) r l)) (sym (begun_of h ks (core_at at x)))
    (subst (λ (q : Pos). Follow (asked (s.StatementOf z ls sm) (site scene q.line) u k) (asked (c.StatementOf ks (core_at at x)) (site scene at.line) r l)) (sym (position_of h))
    (block.asked_same _ (site scene at.line) (statement refl hl h) ss k l g))

-- behind the first of what is left of a list
drop_next : {A : Type 0} (n : ℕ) (xs : List A) {y : A} {ys : List A} → drop n xs ≡ y ∷ ys → drop (n + 1) xs ≡ ys
drop_next n xs h = sym (drop-drop 1 n xs) ∙ ap (drop 1) h

pub from_same : {z : Bool} {ls : List s.SourceLayer} {ks : List c.Layer} → LoweredLayers z ls ks → (b : CoreBlock) (n : ℕ) → explains_in b ≡ z → {ss : List Statement} {xs : List CoreStmt} → drop n (sources_in b) ≡ ss → drop n (stmts_in b) ≡ xs → LoweredBlock z ss xs → BodySame (src.source_sequence z ls ss) (cor.block_from ks b n xs)
from_same hl b n flag from is low.ends = record { does = λ scene ss k l h. h _ _ (next ss) }
from_same {z = z} hl b n flag from is (low.goes_on {ss = ss} h hs) =
    record {
      does = λ scene us k l g. begun_same (low.LoweredLayers.more b (n + 1) flag (drop_next n (sources_in b) from) (subst (LoweredBlock z ss) (sym (drop_next n (stmts_in b) is)) hs) hl) h scene us _ _
          (λ o q m. block.next_same _ m k l g _ _ (λ s r us. (from_same hl b (n + 1) flag (drop_next n (sources_in b) from) (drop_next n (stmts_in b) is) hs).does scene us k l g));
    }

pub sequence_same : {z : Bool} {ls : List s.SourceLayer} {ks : List c.Layer} → LoweredLayers z ls ks → {ss : List Statement} {b : CoreBlock} → LoweredBody z ss b → BodySame (src.source_sequence z ls ss) (cor.core_block_body ks b)
sequence_same hl {b = b} (low.body flag from h) = from_same hl b 0 flag from refl h

-- handlers
abbrev handling_of : Bool → List s.SourceLayer → low.ListedHandler → src.SourceHandling
handling_of z ls (catch_at class name b) = (source.some_source_part class, (name, src.source_block_body z ls b))

handlings_listed : (z : Bool) (ls : List s.SourceLayer) (hs : Handlers) → src.source_handlings z ls hs ≡ map (handling_of z ls) (handlers_listed hs)
handlings_listed z ls st.NoHandler = refl
handlings_listed z ls (st.Handler before at class name b) = ap (λ xs. xs ++ (source.some_source_part class, (name, src.source_block_body z ls b)) ∷ []) (handlings_listed z ls before) ∙ sym (map_more (handling_of z ls) (handlers_listed before) (catch_at class name b))

catches_same : {z : Bool} {ls : List s.SourceLayer} {ks : List c.Layer} → LoweredLayers z ls ks → {hs : List low.ListedHandler} {xs : List handler.CoreHandler} → LoweredHandlers z hs xs → flow.HandlersSame Lowering (map (handling_of z ls) hs) (cor.handlings ks xs)
catches_same hl low.unhandled = flow.none
catches_same hl (low.handles name x b hs) = flow.more name (some_same x) (sequence_same hl b) (catches_same hl hs)

handlings_same : {z : Bool} {ls : List s.SourceLayer} {ks : List c.Layer} → LoweredLayers z ls ks → (hs : Handlers) {xs : List handler.CoreHandler} → LoweredHandlers z (handlers_listed hs) xs → flow.HandlersSame Lowering (src.source_handlings z ls hs) (cor.handlings ks xs)
handlings_same {z = z} {ls = ls} {ks = ks} hl hs {xs = xs} h = subst (λ gs. flow.HandlersSame Lowering gs (cor.handlings ks xs)) (sym (handlings_listed z ls hs)) (catches_same hl h)

abbrev AfterSame : After source_kinds → After core_kinds → Type 0
AfterSame = block.AfterSame Lowering

guard_same : {z : Bool} {ls : List s.SourceLayer} {ks : List c.Layer} → LoweredLayers z ls ks → {hs : Handlers} {other last : List Statement} {g : CoreGuard} → LoweredGuard z hs other last g → AfterSame (src.source_guard z ls hs other last) (cor.guard ks g)
guard_same hl {hs = hs} (low.guard from h other last) = flow.guarded_same _ (handlings_same hl hs h) (sequence_same hl other) (sequence_same hl last)

-- what follows the end of a statement, where each other end is handed on to what is the same
next_then : {o : Outcome source_kinds} {q : Outcome core_kinds} → EndsAlike Lowering o q → (k : Continuation source_kinds) (l : Continuation core_kinds) → Behind k l → (go : CallState source_kinds → Rest source_kinds) (go' : CallState core_kinds → Rest core_kinds) → ((u : CallState source_kinds) (r : CallState core_kinds) → States u r → Follow (go u) (go' r)) → Follow (on_next o k go) (on_next q l go')
next_then n k l h go go' g = block.next_same _ n k l h go go' g

layers_same : {z : Bool} {ls : List s.SourceLayer} {ks : List c.Layer} → LoweredLayers z ls ks → AfterSame (src.source_remains ls) (cor.remains ks)
layers_same low.LoweredLayers.none = record { does = λ p n k l h. h _ _ n }
layers_same (low.LoweredLayers.more {ss = ss} {ls = ls} {ks = ks} b at flag from h hl) =
    record { does = λ p n k l g. next_then n (λ o. src.source_remains ls p o k) (λ o. cor.remains ks p o l) (λ o q m. (layers_same hl).does p m k l g) _ _ (λ u r us. (from_same hl b at flag from refl h).does p.scene us (λ o. src.source_remains ls p o k) (λ o. cor.remains ks p o l) (λ o q m. (layers_same hl).does p m k l g)) }
layers_same (low.LoweredLayers.guarded {ls = ls} {ks = ks} g line h hl) = record { does = λ p n k l b. (guard_same hl h).does (site p.scene line) n (λ o. src.source_remains ls p o k) (λ o. cor.remains ks p o l) (λ o q m. (layers_same hl).does p m k l b) }
layers_same (low.LoweredLayers.receives {ls = ls} {ks = ks} h hl) = record { does = λ p n k l b. (flow.received_same _ (use_same h)).does p n (λ o. src.source_remains ls p o k) (λ o. cor.remains ks p o l) (λ o q m. (layers_same hl).does p m k l b) }

remains_same : (ls : List s.SourceLayer) (ks : List c.Layer) → LoweredRest ls ks → AfterSame (src.source_remains ls) (cor.remains ks)
remains_same ls ks h = layers_same h.1

-- a `try`, which guards its block on its line
try_here : {z : Bool} {ls : List s.SourceLayer} {ks : List c.Layer} → LoweredLayers z ls ks → (b : Block) {hs : Handlers} {other last : List Statement} {body : CoreBlock} {g : CoreGuard} → LoweredBody z (statements_listed b) body → LoweredGuard z hs other last g → (p : Site) {u : CallState source_kinds} {r : CallState core_kinds} → States u r → (k : Continuation source_kinds) (l : Continuation core_kinds) → Behind k l → Follow (src.source_try z ls b hs other last p u k) (cor.try_at ks body g p r l)
try_here hl source_block {hs = hs} {g = g} b (low.guard from h other last) p ss k l f =
    (flow.try_same _ (sequence_same (low.LoweredLayers.guarded g p.line (low.guard from h other last) hl) b) (handlings_same hl hs h) (sequence_same hl other) (sequence_same hl last)).does p ss k l f

abbrev choice_of : Bool → List s.SourceLayer → low.ListedBranch → src.SourceChoice
choice_of z ls (choice_at at e b) = (at.line, (source.source_eval e, src.source_block_body z ls b))

choices_listed : (z : Bool) (ls : List s.SourceLayer) (bs : Branches) → src.source_choices z ls bs ≡ map (choice_of z ls) (branches_listed bs)
choices_listed z ls st.NoBranch = refl
choices_listed z ls (st.Branch before at e b) = ap (λ xs. xs ++ (at.line, (source.source_eval e, src.source_block_body z ls b)) ∷ []) (choices_listed z ls before) ∙ sym (map_more (choice_of z ls) (branches_listed before) (choice_at at e b))

choices_same : {z : Bool} {ls : List s.SourceLayer} {ks : List c.Layer} → LoweredLayers z ls ks → {bs : List low.ListedBranch} {xs : List branch.CoreBranch} → LoweredBranches z bs xs → block.ChoicesSame Lowering (map (choice_of z ls) bs) (cor.choices ks xs)
choices_same hl low.LoweredBranches.none = block.none
choices_same hl (low.LoweredBranches.more at x b h) = block.more at.line (eval_same x) (sequence_same hl b) (choices_same hl h)

-- behind the one statement of a block
through : {o : Outcome source_kinds} {q : Outcome core_kinds} → EndsAlike Lowering o q → (k : Continuation source_kinds) (l : Continuation core_kinds) → Behind k l → Follow (k o) (on_next q l (λ s. l (Next s)))
through (gave v ss) k l h = h _ _ (gave v ss)
through (next ss) k l h = h _ _ (next ss)
through (returned v ss) k l h = h _ _ (returned v ss)
through (broke ss) k l h = h _ _ (broke ss)
through (continued ss) k l h = h _ _ (continued ss)
through (alike.raised e trace ss) k l h = h _ _ (alike.raised e trace ss)

-- an assert and the `if` that stands for it
asserted : (at : Pos) (ks : List c.Layer) {e : source.SourcePart} {f : source.SourcePart} (x : CoreExpr) (template : Template) (y : Option (Rc CoreExpr Global)) (body other : CoreBlock) → PartSame e (core.eval x) → PartSame f (cor.failure template y) → (scene : Scene) {u : CallState source_kinds} {r : CallState core_kinds} → States u r → (k : Continuation source_kinds) (l : Continuation core_kinds) → Behind k l
    → Follow (src.source_assert e f (site scene at.line) u k) (choose ((at.line, (core.eval x, cor.block_from ks body 0 [])) ∷ []) (cor.block_from ks other 0 (core_at at (kind.FailWith template y) ∷ [])) (site scene at.line) r l)
asserted at ks _ _ _ _ _ x y scene ss k l h =
    x.does (site scene at.line) (block.unset_same Lowering ss) _ _ (λ o q n. part.value_same _ n k l h _ _ (λ v s r ss. part.truth_same _ v ss _ _ _ _ (h _ _ (next ss)) (y.does (site scene at.line) ss _ _ (λ o q n. through n k l h))))

assert_at : (at : Pos) (ks : List c.Layer) {e : source.SourcePart} {f : source.SourcePart} (x : Rc CoreExpr Global) (template : Template) (y : Option (Rc CoreExpr Global)) (p n q r : _) (branches : Row_of-CoreBranch _) (other body : CoreBlock) → PartSame e (core.eval x.value) → PartSame f (cor.failure template y) → items-the_row-CoreBranch _ branches ≡ branch.CoreBranch' at x r body ∷ [] → stmts_in body ≡ [] → stmts_in other ≡ core_at at (kind.FailWith template y) ∷ []
    → (scene : Scene) {u : CallState source_kinds} {z : CallState core_kinds} → States u z → (k : Continuation source_kinds) (l : Continuation core_kinds) → Behind k l → Follow (src.source_assert e f (site scene at.line) u k) (cor.core_statement_at ks (kinds.If' p n branches q other) (site scene at.line) z l)
assert_at at ks c template m p n q r branches other body x y bs bb ob scene ss k l g = rw (bs, bb, ob) (asserted at ks c.value template m body other x y scene ss k l g)

explained_as : (c : Rc Expr Global) (e : Tree) (y : Option (Rc CoreExpr Global)) → tree.tree c.value ≡ e → {m : Option source.SourcePart} → block.SomeSame Lowering m (cor.some_part y) → PartSame (fail_explained e m) (cor.failure (Explain c) y)
explained_as c e y is {m = m} h = subst (λ t. PartSame (fail_explained t m) (cor.failure (Explain c) y)) is (block.explained_same _ (tree.tree c.value) h)

pub entries_same : (f : Function) (x : CoreFn) → LoweredCode f x → block.EntrySame Lowering (src.source_entry f) (cor.entry x)
entries_same _ _ (word, low.made _ name from is own yielding h) = record { name = refl; own = own; body = sequence_same low.LoweredLayers.none h }

-- a module's code
module_same : (m : Script) (code : Core) → module_of code ≡ m → LoweredBlock m.explains (statements_listed m.body) (stmts_in code.body.value) → LoweredBody m.explains (statements_listed m.body) code.body.value
module_same m code is h = low.body (ap (λ (m : Script). m.explains) is) (ap (λ (m : Script). statements_listed m.body) is) h

bodies_same : (m : Script) (code : Core) → LoweredModule m code → BodySame (src.script_body m) (core_body code)
bodies_same m code h = sequence_same low.LoweredLayers.none (module_same m code h.0 h.1)

-- expressions one after another
each_of : {es : List Tree} {xs : List (Rc CoreExpr Global)} → LoweredEach es xs → PartsSame (map source.source_eval es) (core.parts_of xs)
each_of low.nil = none
each_of (low.cons x xs) = more (eval_same x) (each_of xs)

decorators_same : (ds : Trees) {xs : List (Rc CoreExpr Global)} → LoweredEach (trees_listed ds) xs → PartsSame (source.source_parts ds) (core.parts_of xs)
decorators_same ds h = rw (parts_listed ds) (each_of h)

-- the defaults of parameters
with_listed : (default : Maybe) (es : List source.SourcePart) (ts : List Tree) → es ≡ map source.source_eval ts → src.with_part default es ≡ map source.source_eval (low.with_default default ts)
with_listed tree.Absent es ts h = h
with_listed (tree.Present e) es ts h = ap (λ xs. source.source_eval e ∷ xs) h

defaults_as : (ps : List Parameter) → src.default_parts ps ≡ map source.source_eval (defaults_listed ps)
defaults_as [] = refl
defaults_as (st.Parameter_at at name annotation default ∷ ps) = with_listed default (src.default_parts ps) (defaults_listed ps) (defaults_as ps)

defaults_same : (ps : List Parameter) {xs : List (Rc CoreExpr Global)} → LoweredEach (defaults_listed ps) xs → PartsSame (src.default_parts ps) (core.parts_of xs)
defaults_same ps h = rw (defaults_as ps) (each_of h)

define_same : (word : Pos) {f : Function} {x : CoreFn} → LoweredFunction word f x → (ds : Trees) {xs ys : List (Rc CoreExpr Global)} → LoweredEach (trees_listed ds) xs → LoweredEach (defaults_listed f.params) ys → PartSame (define (source.source_parts ds) (src.default_parts f.params) (src.source_written f.params) f.name word.line (yields_in f.body) f) (cor.define_fn (core.parts_of xs) (core.parts_of ys) x)
define_same word (low.made {z = z} _ name {params = params} {body = body} {ps = ps} {ls = ls} {ys = ys} {source = source} {p = p} {block = b} from is own yielding h) ds hs es =
    rw (sym is, sym yielding) (classes.define_same _ (decorators_same ds hs) (defaults_same params es) (cor.written ps.value.items) name word.line ys (word, low.made word name from is own yielding h))

import_as : (names xs : List (List ℕ)) → xs ≡ names → (alias : Option (List ℕ)) → PartSame (import_statement src.script_body names alias) (import_statement core_body xs alias)
import_as names xs is alias = subst (λ ns. PartSame (import_statement src.script_body ns alias) (import_statement core_body xs alias)) is (loads.import_same _ src.script_body core_body bodies_same xs alias)

import_from_as : (names xs : List (List ℕ)) → xs ≡ names → (all ys : List Alias) → ys ≡ all → PartSame (import_from src.script_body names all) (import_from core_body xs ys)
import_from_as names xs is all ys are =
    subst (λ ns. PartSame (import_from src.script_body ns all) (import_from core_body xs ys)) is (subst (λ zs. PartSame (import_from src.script_body xs zs) (import_from core_body xs ys)) are (loads.from_same _ src.script_body core_body bodies_same xs ys))

-- WHAT A STATEMENT DOES
statement_same : {z : Bool} {ls : List s.SourceLayer} {ks : List c.Layer} → LoweredLayers z ls ks → {sm : Statement} {at : Pos} {x : CoreStmtKind} → LoweredStatement z sm at x → (scene : Scene) {u : CallState source_kinds} {r : CallState core_kinds} → States u r → (k : Continuation source_kinds) (l : Continuation core_kinds) → Behind k l → Follow (src.source_statement z ls sm (site scene at.line) u k) (cor.core_statement_at ks x (site scene at.line) r l)
statement_same hl (low.do_it at x) scene = (block.expression_same _ (eval_same x)).does (site scene at.line)
statement_same hl (low.assign at ts x) scene = (flow.assign_same _ (targets_same ts) (eval_same x)).does (site scene at.line)
statement_same hl (low.augment at op p x) scene = (augment_same p op (eval_same x)).does (site scene at.line)
statement_same hl (low.return_it at x) scene = (block.return_same _ (some_same x)).does (site scene at.line)
statement_same {ks = ks} hl (low.assert_it at {x = c} {y = m} {p = p} {n = n} {q = q} {r = r} {branches = branches} {other = other} {body = body} x y bs bb ob) scene = assert_at at ks c Plain m p n q r branches other body (eval_same x) (block.fail_same _ (some_same y)) bs bb ob scene
statement_same {ks = ks} hl (low.assert_explained at {e = e} {x = c} {d = d} {y = m} {p = p} {n = n} {q = q} {r = r} {branches = branches} {other = other} {body = body} is x y bs bb ob) scene = assert_at at ks c (Explain d) m p n q r branches other body (watch_same x) (explained_as d e m is (some_same y)) bs bb ob scene
statement_same hl (low.globals at is) scene = (block.pass_same _).does (site scene at.line)
statement_same hl (low.yields at word u x) scene = (block.yield_same _ (some_same x) (_, low.LoweredLayers.receives u hl)).does (site scene at.line)
statement_same hl (low.assign_yield at word u x) scene = (block.yield_same _ (some_same x) (_, low.LoweredLayers.receives u hl)).does (site scene at.line)
statement_same hl (low.return_yield at word u x) scene = (block.yield_same _ (some_same x) (_, low.LoweredLayers.receives u hl)).does (site scene at.line)
statement_same hl (low.pass at) scene = (block.pass_same _).does (site scene at.line)
statement_same hl (low.leave at) scene = (block.leave_same _).does (site scene at.line)
statement_same hl (low.again at) scene = (block.again_same _).does (site scene at.line)
statement_same {z = z} {ls = ls} hl (low.choose at {bs = bs} hs h) scene = λ ss k l g. rw (choices_listed z ls bs) ((block.choose_same _ (choices_same hl hs) (sequence_same hl h)).does (site scene at.line) ss k l g)
statement_same hl (low.loop at x b) scene = (block.loop_same _ (λ n. turn x b) (eval_same x)).does (site scene at.line)
statement_same hl (low.define at word {ds = ds} name returns hs es h) scene = (define_same word h ds hs es).does (site scene at.line)
statement_same hl (low.raise_it at x) scene = (classes.raise_same _ src.source_entry cor.entry entries_same (some_same x)).does (site scene at.line)
statement_same hl (low.delete at p) scene = (delete_same p).does (site scene at.line)
statement_same hl (low.for_each at t x b) scene = (flow.for_same _ (λ n i. for_turn t b i) (eval_same x)).does (site scene at.line)
statement_same hl (low.try_it at {body = source_block} b g) scene = try_here hl source_block b g (site scene at.line)
statement_same hl (low.with_it at {name = name} x b) scene = (flow.with_same _ name (eval_same x) (sequence_same low.LoweredLayers.none b)).does (site scene at.line)
statement_same hl (low.class_it at word {ds = ds} name hs x (low.classed _ _ b)) scene = (classes.class_same _ (decorators_same ds hs) (some_same x) name word.line (sequence_same low.LoweredLayers.none b)).does (site scene at.line)
statement_same hl (low.import_it at alias is) scene = (import_as _ _ is alias).does (site scene at.line)
statement_same hl (low.import_from at is all) scene = (import_from_as _ _ is _ _ all).does (site scene at.line)

pub acts_same : (what : s.SourceTurn) (other : c.CoreTurn) (p : Site) → LoweredTurn p.line what other → (u : CallState source_kinds) (r : CallState core_kinds) → States u r → (k : Continuation source_kinds) (l : Continuation core_kinds) → Behind k l → Follow (src.source_act what p u k) (cor.act other p r l)
acts_same _ _ p (statement {z = z} {ls = ls} {ks = ks} {st = sm} {at = at} {x = x} is hl h) u r ss k l g =
    subst (λ n. Follow (src.source_statement z ls sm (site p.scene n) u k) (cor.core_statement_at ks x (site p.scene n) r l)) (sym is) (statement_same hl h p.scene ss k l g)
acts_same _ _ p (for_turn {b = loop_block} t b at) u r ss k l g = (flow.for_turn_same _ (λ n i. for_turn {b = loop_block} t b i) (target_same t) (sequence_same low.LoweredLayers.none b) at).does p ss k l g
acts_same _ _ p (turn x b) u r ss k l g = (block.turn_of_same _ (λ n. turn x b) (eval_same x) (sequence_same low.LoweredLayers.none b)).does p ss k l g

-- THE TWO MEANINGS
pub meanings_same : block.MeaningsSame Lowering source_meaning core_meaning
meanings_same = record { entries = entries_same; acts = acts_same; bodies = bodies_same; remains = remains_same }
