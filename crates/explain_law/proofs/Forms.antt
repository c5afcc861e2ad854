-- Sources do the same under two choices, up to a failed assert of a module for which they differ.
use Rattle.std.proofs.Common.{◌≡◌, ℕ, suc, ◌+◌, List, [], ◌∷◌, ◌++◌, Option, Some, None, Bool, true, false, refl, subst}
use Rattle.std.specs.Prelude.{length}
use Rattle.py_tree.specs.Trees as t
use Rattle.py_tree.specs.Trees.{Tree, Trees, Empty, More, Maybe, Absent, Present}
use Rattle.py_tree.specs.Statements as st
use Rattle.py_tree.specs.Statements.{Statement, Block, Branches, Handlers, NoBranch, NoHandler, Place, NamePlace, AttributePlace, SubscriptPlace, Taker, One, Unpack, Parameter}
use Rattle.py_tree.specs.Names.{yields_in}
use Rattle.py_tree.specs.declared.op.BinOp.{BinOp}
use Rattle.py_values.specs.declared.object.Obj.TheVariants as obj
use Rattle.py_values.specs.declared.value.Value.{Value}
use Rattle.py_values.specs.declared.value.Value.TheVariants as val
use Rattle.py_values.specs.Ends.{id_at}
use Rattle.source_meaning.specs.py_world.World.{CallState, Temps, heap_of, state, unset}
use Rattle.source_meaning.specs.py_world.Site.{Site, site, trace_of}
use Rattle.source_meaning.specs.py_world.Arguments.{arguments_of}
use Rattle.source_meaning.specs.py_world.Explained.{kept_count, kept_count_all, explanation}
use Rattle.source_meaning.specs.py_world.Outcome.{Denotation, Continuation}
use Rattle.source_meaning.specs.py_world.Statements.{assertion, fail_explained, failed_with}
use Rattle.source_meaning.specs.Requests.{Use, NoUse, Targets, ReturnIt, SourceLayer, SourceTurn, Script, Function}
use Rattle.source_meaning.specs.Expressions.{source_eval, source_parts, some_source_part}
use Rattle.source_meaning.specs.Watched.{watch, watch_all}
use Rattle.source_meaning.specs.Statements.{position, store_place, store_places, source_store, source_stores, source_use, augment, delete, source_assert, assert_as, statements_listed, source_sequence, source_block_body as block_of, source_handlings, source_remains, source_choices, source_entry, script_body, source_written, with_part, default_parts}
use Rattle.py_source.specs.declared.pos.Pos.{Pos}
use Rattle.explain_law.specs.Law.{unequal}
use Rattle.explain_law.specs.Stopping.{Asserts, statement_with, act_with, meaning_with, condition_of}
use Rattle.explain_law.specs.Choices.{Choices, K, J, worlds, world_with, StatesByChoice, states, EndsByChoice, next, LayersAt, no_layer, statements_at, guard_at, receives_at, CodesAt, code_at, ScriptsAt, script_at}
use Rattle.explain_law.proofs.Following.{Apart, TurnsAt, statement_at, turn_at, for_at}
use Rattle.explain_law.proofs.Parts as part
use Rattle.explain_law.proofs.Displays as displays
use Rattle.explain_law.proofs.Blocks as block
use Rattle.explain_law.proofs.Flow as flow
use Rattle.explain_law.proofs.Classes as classes
use Rattle.explain_law.proofs.Loads as loads

module _ (R : Choices) (P : Apart) where
  mutual
    pub eval_same : (m : Bool) (e : Tree) → part.PartSame R P m (source_eval e) (source_eval e)
    eval_same m (t.Name at name) = part.noted_same R P m at (part.name_same R P m name)
    eval_same m (t.Number at n) = part.noted_same R P m at (part.constant_same R P m (val.Int n))
    eval_same m (t.Text at text) = part.noted_same R P m at (part.text_same R P m text)
    eval_same m (t.True at) = part.noted_same R P m at (part.constant_same R P m (val.Bool true))
    eval_same m (t.False at) = part.noted_same R P m at (part.constant_same R P m (val.Bool false))
    eval_same m (t.NoneTree at) = part.noted_same R P m at (part.constant_same R P m val.None)
    eval_same m (t.Paren at e) = part.noted_same R P m at (eval_same m e)
    eval_same m (t.Call at f args names) = part.noted_same R P m at (part.call_same R P m (arguments_of names) (eval_same m f) (parts_same m args))
    eval_same m (t.Unary at op e) = part.noted_same R P m at (part.unary_same R P m op (eval_same m e))
    eval_same m (t.Binary at l op r) = part.noted_same R P m at (part.binary_same R P m op (eval_same m l) (eval_same m r))
    eval_same m (t.Compare at e ops es) = part.noted_same R P m at (part.compare_same R P m ops (eval_same m e) (parts_same m es))
    eval_same m (t.Not at e) = part.noted_same R P m at (part.not_same R P m (eval_same m e))
    eval_same m (t.And at e es) = part.noted_same R P m at (part.and_same R P m (eval_same m e) (parts_same m es))
    eval_same m (t.Or at e es) = part.noted_same R P m at (part.or_same R P m (eval_same m e) (parts_same m es))
    eval_same m (t.IfElse at e condition other) = part.noted_same R P m at (part.choice_same R P m (eval_same m e) (eval_same m condition) (eval_same m other))
    eval_same m (t.Tuple at es) = part.noted_same R P m at (displays.tuple_same R P m (parts_same m es))
    eval_same m (t.Listed at es) = part.noted_same R P m at (displays.list_same R P m (parts_same m es))
    eval_same m (t.Dict at ks es) = part.noted_same R P m at (displays.dict_same R P m (parts_same m ks) (parts_same m es))
    eval_same m (t.Attribute at e name) = part.noted_same R P m at (displays.attribute_same R P m name (eval_same m e))
    eval_same m (t.Subscript at e i) = part.noted_same R P m at (displays.subscript_same R P m (eval_same m e) (eval_same m i))
    eval_same m (t.Slice at e from to by) = part.noted_same R P m at (displays.slice_same R P m (eval_same m e) (some_same m from) (some_same m to) (some_same m by))

    parts_same : (m : Bool) (es : Trees) → part.PartsSame R P m (source_parts es) (source_parts es)
    parts_same m Empty = part.none
    parts_same m (More before e) = part.parts_push R P m (parts_same m before) (eval_same m e)

    some_same : (m : Bool) (e : Maybe) → part.SomeSame R P m (some_source_part e) (some_source_part e)
    some_same m Absent = part.absent
    some_same m (Present e) = part.present (eval_same m e)

  -- a condition whose parts are kept under both choices
  mutual
    watch_same : (m : Bool) (n : ℕ) (e : Tree) → part.PartSame R P m (watch n e) (watch n e)
    watch_same m n (t.Paren at e) = part.noted_same R P m at (watch_same m n e)
    watch_same m n (t.Call at f args names) = part.kept_same R P m n (part.noted_same R P m at (part.call_same R P m (arguments_of names) (watch_same m (suc n) f) (watch_each m (suc n + kept_count f) args)))
    watch_same m n (t.Unary at op e) = part.noted_same R P m at (part.unary_same R P m op (watch_same m n e))
    watch_same m n (t.Binary at l op r) = part.noted_same R P m at (part.binary_same R P m op (watch_same m n l) (watch_same m (n + kept_count l) r))
    watch_same m n (t.Compare at e ops es) = part.noted_same R P m at (part.compare_same R P m ops (watch_same m n e) (watch_each m (n + kept_count e) es))
    watch_same m n (t.Not at e) = part.noted_same R P m at (part.not_same R P m (watch_same m n e))
    watch_same m n (t.And at e es) = part.noted_same R P m at (part.and_same R P m (watch_same m n e) (watch_each m (n + kept_count e) es))
    watch_same m n (t.Or at e es) = part.noted_same R P m at (part.or_same R P m (watch_same m n e) (watch_each m (n + kept_count e) es))
    watch_same m n (t.Attribute at e name) = part.kept_same R P m n (part.noted_same R P m at (displays.attribute_same R P m name (watch_same m (suc n) e)))
    watch_same m n (t.Name at name) = part.kept_same R P m n (eval_same m (t.Name at name))
    watch_same m n (t.Number at x) = part.kept_same R P m n (eval_same m (t.Number at x))
    watch_same m n (t.Text at text) = part.kept_same R P m n (eval_same m (t.Text at text))
    watch_same m n (t.True at) = part.kept_same R P m n (eval_same m (t.True at))
    watch_same m n (t.False at) = part.kept_same R P m n (eval_same m (t.False at))
    watch_same m n (t.NoneTree at) = part.kept_same R P m n (eval_same m (t.NoneTree at))
    watch_same m n (t.Tuple at es) = part.kept_same R P m n (eval_same m (t.Tuple at es))
    watch_same m n (t.Listed at es) = part.kept_same R P m n (eval_same m (t.Listed at es))
    watch_same m n (t.Dict at ks es) = part.kept_same R P m n (eval_same m (t.Dict at ks es))
    watch_same m n (t.Subscript at e i) = part.kept_same R P m n (eval_same m (t.Subscript at e i))
    watch_same m n (t.Slice at e from to by) = part.kept_same R P m n (eval_same m (t.Slice at e from to by))
    watch_same m n (t.IfElse at e c o) = part.kept_same R P m n (eval_same m (t.IfElse at e c o))

    watch_each : (m : Bool) (n : ℕ) (es : Trees) → part.PartsSame R P m (watch_all n es) (watch_all n es)
    watch_each m n Empty = part.none
    watch_each m n (More before e) = part.parts_push R P m (watch_each m n before) (watch_same m (n + kept_count_all before) e)

  -- one whose parts are kept under the second choice alone
  mutual
    second_watch : (n : ℕ) (e : Tree) → part.PartSame R P false (source_eval e) (watch n e)
    second_watch n (t.Paren at e) = part.noted_same R P false at (second_watch n e)
    second_watch n (t.Call at f args names) = part.second_kept R P n (part.noted_same R P false at (part.call_same R P false (arguments_of names) (second_watch (suc n) f) (second_each (suc n + kept_count f) args)))
    second_watch n (t.Unary at op e) = part.noted_same R P false at (part.unary_same R P false op (second_watch n e))
    second_watch n (t.Binary at l op r) = part.noted_same R P false at (part.binary_same R P false op (second_watch n l) (second_watch (n + kept_count l) r))
    second_watch n (t.Compare at e ops es) = part.noted_same R P false at (part.compare_same R P false ops (second_watch n e) (second_each (n + kept_count e) es))
    second_watch n (t.Not at e) = part.noted_same R P false at (part.not_same R P false (second_watch n e))
    second_watch n (t.And at e es) = part.noted_same R P false at (part.and_same R P false (second_watch n e) (second_each (n + kept_count e) es))
    second_watch n (t.Or at e es) = part.noted_same R P false at (part.or_same R P false (second_watch n e) (second_each (n + kept_count e) es))
    second_watch n (t.Attribute at e name) = part.second_kept R P n (part.noted_same R P false at (displays.attribute_same R P false name (second_watch (suc n) e)))
    second_watch n (t.Name at name) = part.second_kept R P n (eval_same false (t.Name at name))
    second_watch n (t.Number at x) = part.second_kept R P n (eval_same false (t.Number at x))
    second_watch n (t.Text at text) = part.second_kept R P n (eval_same false (t.Text at text))
    second_watch n (t.True at) = part.second_kept R P n (eval_same false (t.True at))
    second_watch n (t.False at) = part.second_kept R P n (eval_same false (t.False at))
    second_watch n (t.NoneTree at) = part.second_kept R P n (eval_same false (t.NoneTree at))
    second_watch n (t.Tuple at es) = part.second_kept R P n (eval_same false (t.Tuple at es))
    second_watch n (t.Listed at es) = part.second_kept R P n (eval_same false (t.Listed at es))
    second_watch n (t.Dict at ks es) = part.second_kept R P n (eval_same false (t.Dict at ks es))
    second_watch n (t.Subscript at e i) = part.second_kept R P n (eval_same false (t.Subscript at e i))
    second_watch n (t.Slice at e from to by) = part.second_kept R P n (eval_same false (t.Slice at e from to by))
    second_watch n (t.IfElse at e c o) = part.second_kept R P n (eval_same false (t.IfElse at e c o))

    second_each : (n : ℕ) (es : Trees) → part.PartsSame R P false (source_parts es) (watch_all n es)
    second_each n Empty = part.none
    second_each n (More before e) = part.parts_push R P false (second_each n before) (second_watch (n + kept_count_all before) e)

  -- one whose parts are kept under the first choice alone
  mutual
    first_watch : (n : ℕ) (e : Tree) → part.PartSame R P false (watch n e) (source_eval e)
    first_watch n (t.Paren at e) = part.noted_same R P false at (first_watch n e)
    first_watch n (t.Call at f args names) = part.first_kept R P n (part.noted_same R P false at (part.call_same R P false (arguments_of names) (first_watch (suc n) f) (first_each (suc n + kept_count f) args)))
    first_watch n (t.Unary at op e) = part.noted_same R P false at (part.unary_same R P false op (first_watch n e))
    first_watch n (t.Binary at l op r) = part.noted_same R P false at (part.binary_same R P false op (first_watch n l) (first_watch (n + kept_count l) r))
    first_watch n (t.Compare at e ops es) = part.noted_same R P false at (part.compare_same R P false ops (first_watch n e) (first_each (n + kept_count e) es))
    first_watch n (t.Not at e) = part.noted_same R P false at (part.not_same R P false (first_watch n e))
    first_watch n (t.And at e es) = part.noted_same R P false at (part.and_same R P false (first_watch n e) (first_each (n + kept_count e) es))
    first_watch n (t.Or at e es) = part.noted_same R P false at (part.or_same R P false (first_watch n e) (first_each (n + kept_count e) es))
    first_watch n (t.Attribute at e name) = part.first_kept R P n (part.noted_same R P false at (displays.attribute_same R P false name (first_watch (suc n) e)))
    first_watch n (t.Name at name) = part.first_kept R P n (eval_same false (t.Name at name))
    first_watch n (t.Number at x) = part.first_kept R P n (eval_same false (t.Number at x))
    first_watch n (t.Text at text) = part.first_kept R P n (eval_same false (t.Text at text))
    first_watch n (t.True at) = part.first_kept R P n (eval_same false (t.True at))
    first_watch n (t.False at) = part.first_kept R P n (eval_same false (t.False at))
    first_watch n (t.NoneTree at) = part.first_kept R P n (eval_same false (t.NoneTree at))
    first_watch n (t.Tuple at es) = part.first_kept R P n (eval_same false (t.Tuple at es))
    first_watch n (t.Listed at es) = part.first_kept R P n (eval_same false (t.Listed at es))
    first_watch n (t.Dict at ks es) = part.first_kept R P n (eval_same false (t.Dict at ks es))
    first_watch n (t.Subscript at e i) = part.first_kept R P n (eval_same false (t.Subscript at e i))
    first_watch n (t.Slice at e from to by) = part.first_kept R P n (eval_same false (t.Slice at e from to by))
    first_watch n (t.IfElse at e c o) = part.first_kept R P n (eval_same false (t.IfElse at e c o))

    first_each : (n : ℕ) (es : Trees) → part.PartsSame R P false (watch_all n es) (source_parts es)
    first_each n Empty = part.none
    first_each n (More before e) = part.parts_push R P false (first_each n before) (first_watch (n + kept_count_all before) e)

  -- A FAILED ASSERT
  tight : {k : Continuation K} {l : Continuation J} → part.Behind R P false k l → part.Behind R P true k l
  tight h o q n = h o q (part.loosen_end R P true n)

  unset_tight : {s : CallState K} {r : CallState J} → StatesByChoice R false s r → StatesByChoice R true (unset s) (unset r)
  unset_tight (states a t ws) = states a (part.none_kept true) ws

  failed_same : (e : Tree) (v : Option Value) (p : Site) {s : CallState K} {r : CallState J} → StatesByChoice R true s r → EndsByChoice R true (failed_with (explanation e s.temps v (heap_of s)) p s) (failed_with (explanation e r.temps v (heap_of r)) p r)
  failed_same e v p (states a t (worlds {ss = ss} {ts = ts} {cs = cs} {ds = ds} {fs = fs} {gs = gs} xs ys zs modules heap printed traces)) =
      subst
      (λ (u : Temps). EndsByChoice R true (failed_with (explanation e t.first v heap) p (state a t.first (world_with ss modules heap cs printed fs traces))) (failed_with (explanation e u v heap) p (state a t.second (world_with ts modules heap ds printed gs traces))))
      t.tied
      (part.raised_same R P true (assertion (Some (val.Ref (id_at (length heap))))) (trace_of p) (states a t (worlds xs ys zs modules (heap ++ obj.Text (explanation e t.first v heap) ∷ []) printed traces)))

  both_fail : (c : Tree) (m : Maybe) → part.PartSame R P true (fail_explained c (some_source_part m)) (fail_explained c (some_source_part m))
  both_fail c Absent = record { does = λ p ss k l h. h _ _ (failed_same c None p ss) }
  both_fail c (Present m) = record { does = λ p ss k l h. (eval_same true m).does p ss _ _ (λ o q n. part.value_same R P true n k l h _ _ (λ v s r ss. h _ _ (failed_same c (Some v) p ss))) }

  -- an assert, whose failures do the same or part
  pub assert_same : {path : List ℕ} {e f : Denotation K} {e' f' : Denotation J} → part.PartSame R P false e e' → block.PartAt R P path f f' → block.PartAt R P path (source_assert e f) (source_assert e' f')
  assert_same x y = record { does = λ p is ss k l h. x.does p (block.unset_same R P ss) _ _ (λ o q n. part.value_same R P false n k l h _ _ (λ v s r ss. part.truth_same R P false v ss _ _ _ _ (h _ _ (next ss)) (y.does p is ss k l h))) }

  both_explain : {path : List ℕ} (e : Tree) (m : Maybe) → block.PartAt R P path (source_assert (watch 0 e) (fail_explained e (some_source_part m))) (source_assert (watch 0 e) (fail_explained e (some_source_part m)))
  both_explain e m =
      record {
        does = λ p is ss k l h. (watch_same true 0 e).does p (unset_tight ss) _ _
            (λ o q n. part.value_same R P true n k l (tight h) _ _ (λ v s r ss. part.truth_same R P true v ss _ _ _ _ (h _ _ (next (part.loosen R P true ss))) ((both_fail e m).does p ss k l (tight h))));
      }

  -- where both choices say the same
  pub assert_chosen : (path : List ℕ) (z y : Bool) → unequal z y ≡ false → (e : Tree) (m : Maybe) → block.PartAt R P path (assert_as z e (some_source_part m)) (assert_as y e (some_source_part m))
  assert_chosen path false false h e m = assert_same (eval_same false e) (block.at_each R P (block.fail_same R P (some_same false m)))
  assert_chosen path false true h e m = (let c : true ≡ false = h in cc)
  assert_chosen path true false h e m = (let c : true ≡ false = h in cc)
  assert_chosen path true true h e m = both_explain e m

  pub condition_same : (z y : Bool) (e : Tree) → part.PartSame R P false (condition_of z e) (condition_of y e)
  condition_same false false e = eval_same false e
  condition_same false true e = second_watch 0 e
  condition_same true false e = first_watch 0 e
  condition_same true true e = watch_same false 0 e

  -- targets
  place_same : (p : Place) → flow.StoreSame R P (store_place p) (store_place p)
  place_same (NamePlace at name) = flow.store_name_same R P name
  place_same (AttributePlace at e name) = flow.store_attribute_same R P name (eval_same false e)
  place_same (SubscriptPlace at e i) = flow.store_item_same R P (eval_same false e) (eval_same false i)

  places_same : (ps : List Place) → flow.StoresSame R P (store_places ps) (store_places ps)
  places_same [] = flow.none
  places_same (p ∷ ps) = flow.more (place_same p) (places_same ps)

  taker_same : (x : Taker) → flow.StoreSame R P (source_store x) (source_store x)
  taker_same (One p) = place_same p
  taker_same (Unpack ps) = flow.unpack_same R P (places_same ps)

  takers_same : (xs : List Taker) → flow.StoresSame R P (source_stores xs) (source_stores xs)
  takers_same [] = flow.none
  takers_same (x ∷ xs) = flow.more (taker_same x) (takers_same xs)

  augment_same : (p : Place) (op : BinOp) (e : Tree) → part.PartSame R P false (augment p op (source_eval e)) (augment p op (source_eval e))
  augment_same (NamePlace at name) op e = flow.augment_same R P name op (eval_same false e)
  augment_same (AttributePlace at a name) op e = flow.augment_attribute_same R P name op (eval_same false a) (eval_same false e)
  augment_same (SubscriptPlace at a i) op e = flow.augment_item_same R P op (eval_same false a) (eval_same false i) (eval_same false e)

  delete_same : (p : Place) → part.PartSame R P false (delete p) (delete p)
  delete_same (NamePlace at name) = flow.delete_name_same R P name
  delete_same (AttributePlace at e name) = flow.delete_attribute_same R P name (eval_same false e)
  delete_same (SubscriptPlace at e i) = flow.delete_item_same R P (eval_same false e) (eval_same false i)

  -- the defaults of parameters
  with_same : (default : Maybe) {es : List (Denotation K)} {fs : List (Denotation J)} → part.PartsSame R P false es fs → part.PartsSame R P false (with_part default es) (with_part default fs)
  with_same Absent h = h
  with_same (Present e) h = part.more (eval_same false e) h

  defaults_same : (ps : List Parameter) → part.PartsSame R P false (default_parts ps) (default_parts ps)
  defaults_same [] = part.none
  defaults_same (st.Parameter_at at name annotation default ∷ ps) = with_same default (defaults_same ps)

  -- statements one after another, each of which is asked for by name
  sequence_same : {path : List ℕ} {ls ks : List SourceLayer} → LayersAt R path ls ks → (ss : List Statement) → block.BodySame R P path (source_sequence (R.first path) ls ss) (source_sequence (R.second path) ks ss)
  sequence_same hl [] = record { does = λ scene is ss k l h. h _ _ (next ss) }
  sequence_same hl (x ∷ rest) =
      record {
        does = λ scene is ss k l h. block.asked_same R P (site scene (position x).line) (block.turn_here R P is (statement_at x (statements_at rest hl))) ss _ _
            (λ o q n. block.next_same R P n k l h _ _ (λ s r ss. (sequence_same hl rest).does scene is ss k l h));
      }

  block_same : {path : List ℕ} {ls ks : List SourceLayer} → LayersAt R path ls ks → (b : Block) → block.BodySame R P path (block_of (R.first path) ls b) (block_of (R.second path) ks b)
  block_same hl b = sequence_same hl (statements_listed b)

  handlings_same : {path : List ℕ} {ls ks : List SourceLayer} → LayersAt R path ls ks → (hs : Handlers) → flow.HandlersSame R P path (source_handlings (R.first path) ls hs) (source_handlings (R.second path) ks hs)
  handlings_same hl NoHandler = flow.none
  handlings_same hl (st.Handler before at class name body) = flow.handlers_push R P (handlings_same hl before) name (some_same false class) (block_same hl body)

  use_same : (u : Use) → flow.StoreSame R P (source_use u) (source_use u)
  use_same NoUse = flow.no_use_same R P
  use_same (Targets ts) = flow.all_stored_same R P (takers_same ts)
  use_same ReturnIt = flow.return_sent_same R P

  -- what remains of a body
  pub remains_same : {path : List ℕ} {ls ks : List SourceLayer} → LayersAt R path ls ks → block.AfterSame R P path (source_remains ls) (source_remains ks)
  remains_same no_layer = record { does = λ p is n k l h. h _ _ n }
  remains_same (statements_at ss {ls = ls} {ks = ks} hl) =
      record { does = λ p is n k l h. block.next_same R P n (λ o. source_remains ls p o k) (λ o. source_remains ks p o l) (λ o q m. (remains_same hl).does p is m k l h) _ _ (λ s r us. (sequence_same hl ss).does p.scene is us (λ o. source_remains ls p o k) (λ o. source_remains ks p o l) (λ o q m. (remains_same hl).does p is m k l h)) }
  remains_same (guard_at line hs other last {ls = ls} {ks = ks} hl) =
      record { does = λ p is n k l h. (flow.guarded_same R P (handlings_same hl hs) (sequence_same hl other) (sequence_same hl last)).does (site p.scene line) is n (λ o. source_remains ls p o k) (λ o. source_remains ks p o l) (λ o q m. (remains_same hl).does p is m k l h) }
  remains_same (receives_at u {ls = ls} {ks = ks} hl) =
      record { does = λ p is n k l h. (flow.received_same R P (use_same u)).does p is n (λ o. source_remains ls p o k) (λ o. source_remains ks p o l) (λ o q m. (remains_same hl).does p is m k l h) }

  choices_same : {path : List ℕ} {ls ks : List SourceLayer} → LayersAt R path ls ks → (bs : Branches) → block.ChoicesSame R P path (source_choices (R.first path) ls bs) (source_choices (R.second path) ks bs)
  choices_same hl NoBranch = block.none
  choices_same hl (st.Branch before at condition body) = block.choices_push R P (choices_same hl before) at.line (eval_same false condition) (block_same hl body)

  -- what codes say
  pub entries_same : (path : List ℕ) (c d : Function) → CodesAt R path c d → block.EntrySame R P path (source_entry c) (source_entry d)
  entries_same path _ _ (code_at name params body) = record { name = refl; own = refl; body = block_same no_layer body }

  pub bodies_same : (path : List ℕ) (c d : Script) → ScriptsAt R path c d → block.BodySame R P path (script_body c) (script_body d)
  bodies_same path _ _ (script_at body) = block_same no_layer body

  -- by what asserts do
  module _ (V W : Asserts) (asserts : (path : List ℕ) (at : Pos) (e : Tree) (m : Maybe) → block.PartAt R P path (V (R.first path) at e m) (W (R.second path) at e m)) where
    -- WHAT A STATEMENT DOES
    statement_same : {path : List ℕ} {ls ks : List SourceLayer} → LayersAt R path ls ks → (x : Statement) → block.PartAt R P path (statement_with V (R.first path) ls x) (statement_with W (R.second path) ks x)
    statement_same hl (st.Do at e) = block.at_each R P (block.expression_same R P (eval_same false e))
    statement_same hl (st.Assign at ts e) = block.at_each R P (flow.assign_same R P (takers_same ts) (eval_same false e))
    statement_same hl (st.AugAssign at p op e) = block.at_each R P (augment_same p op e)
    statement_same hl (st.Return at e) = block.at_each R P (block.return_same R P (some_same false e))
    statement_same hl (st.Assert at e m) = asserts _ at e m
    statement_same hl (st.GlobalOf at names) = block.at_each R P (block.pass_same R P)
    statement_same hl (st.Pass at) = block.at_each R P (block.pass_same R P)
    statement_same hl (st.Break at) = block.at_each R P (block.leave_same R P)
    statement_same hl (st.Continue at) = block.at_each R P (block.again_same R P)
    statement_same hl (st.If at bs other) = block.choose_same R P (choices_same hl bs) (block_same hl other)
    statement_same hl (st.While at e body) = block.loop_same R P (turn_at e body) (eval_same false e)
    statement_same hl (st.Def at ds word name params returns body) = classes.define_same R P (parts_same false ds) (defaults_same params) (source_written params) name word.line (yields_in body) (code_at name params body)
    statement_same hl (st.YieldOf at word e) = block.yield_same R P (some_same false e) NoUse hl
    statement_same hl (st.AssignYield at ts word e) = block.yield_same R P (some_same false e) (Targets ts) hl
    statement_same hl (st.ReturnYield at word e) = block.yield_same R P (some_same false e) ReturnIt hl
    statement_same hl (st.Raise at e) = block.at_each R P (classes.raise_same R P source_entry source_entry entries_same (some_same false e))
    statement_same hl (st.Del at p) = block.at_each R P (delete_same p)
    statement_same hl (st.Import at names alias) = block.at_each R P (loads.import_same R P script_body script_body bodies_same names alias)
    statement_same hl (st.ImportFrom at names all) = block.at_each R P (loads.from_same R P script_body script_body bodies_same names all)
    statement_same hl (st.For at taker e body) = flow.for_same R P (λ i. for_at taker body i) (eval_same false e)
    statement_same hl (st.Try at body hs other final) =
        record { does = λ p is ss k l h. (flow.try_same R P (block_same (guard_at p.line hs (statements_listed other) (statements_listed final) hl) body) (handlings_same hl hs) (sequence_same hl (statements_listed other)) (sequence_same hl (statements_listed final))).does p is ss k l h }
    statement_same hl (st.With at e name body) = flow.with_same R P name (eval_same false e) (block_same no_layer body)
    statement_same hl (st.Class at ds word name base body) = classes.class_same R P (parts_same false ds) (some_same false base) name word.line (block_same no_layer body)

    acts_at : (p : Site) {what turn : SourceTurn} → TurnsAt R p.scene.path what turn → (s : CallState K) (r : CallState J) → StatesByChoice R false s r → (k : Continuation K) (l : Continuation J) → part.Behind R P false k l → part.Follow R P false (act_with V what p s k) (act_with W turn p r l)
    acts_at p (statement_at x hl) s r ss k l h = (statement_same hl x).does p refl ss k l h
    acts_at p (turn_at e b) s r ss k l h = (block.turn_of_same R P (turn_at e b) (eval_same false e) (block_same no_layer b)).does p refl ss k l h
    acts_at p (for_at x b at) s r ss k l h = (flow.for_turn_same R P (λ i. for_at x b i) (taker_same x) (block_same no_layer b) at).does p refl ss k l h

    -- THE MEANING under each choice
    pub meanings_same : block.MeaningsSame R P (meaning_with V) (meaning_with W)
    meanings_same = record { entries = entries_same; acts = λ what turn p h. acts_at p h; bodies = bodies_same }
