-- Source forms keep what is closed under what the forms do.
use Rattle.std.proofs.Common.{ℕ, suc, Bool, List, [], ◌∷◌, ◌++◌, Option, true, false}
use Rattle.py_tree.specs.declared.op.BinOp.{BinOp}
use Rattle.py_tree.specs.Trees as t
use Rattle.py_tree.specs.Trees.{Tree, Trees, Empty, More, Maybe, Absent, Present}
use Rattle.py_tree.specs.Statements as st
use Rattle.py_tree.specs.Statements.{Statement, Block, Branches, Handlers, Place, NamePlace, AttributePlace, SubscriptPlace, Taker, One, Unpack, Parameter, Parameter_at}
use Rattle.py_values.specs.declared.value.Value.TheVariants as val
use Rattle.source_meaning.specs.py_kinds.Truth.{truth}
use Rattle.source_meaning.specs.Requests.{source_kinds, Use, NoUse, Targets, ReturnIt, SourceLayer, Statements, Guard, Receives, SourceTurn, StatementOf, TurnOf, ForOf, Function, Script}
use Rattle.source_meaning.specs.Meaning.{source_semantics}
use Rattle.source_meaning.specs.Watched.{watch, watch_all}
use Rattle.source_meaning.specs.Expressions.{SourcePart, source_eval, source_parts, some_source_part}
use Rattle.source_meaning.specs.Statements.{SourceBody, SourceChoice, SourceHandling, position, store_place, store_places, source_store, source_stores, source_use, augment, delete, source_assert, assert_as, source_handlings, source_guard, source_remains, statements_listed, source_sequence, source_choices, script_body, source_written, with_part, default_parts, source_try, source_statement, source_act, source_entry}
use Rattle.source_meaning.specs.py_world.World.{World, heap_of, unset}
use Rattle.source_meaning.specs.py_world.Site.{site}
use Rattle.source_meaning.specs.py_world.Arguments.{arguments_of}
use Rattle.source_meaning.specs.py_world.Outcome.{After, on_next}
use Rattle.core_rules.proofs.KeepingFlow as flow
use Rattle.core_rules.proofs.KeepingClasses as more
use Rattle.core_rules.proofs.Keeping as keep
use Rattle.core_rules.proofs.Keeping.{Closed}

module _ (Good : World source_kinds → Type 0) (Fresh : List ℕ → Type 0) (closed : Closed Good Fresh) where
  abbrev PartKept : SourcePart → Type 0
  PartKept = keep.PartKept Good Fresh closed

  abbrev PartsKept : List SourcePart → Type 0
  PartsKept = keep.PartsKept Good Fresh closed

  abbrev AfterKept : After source_kinds → Type 0
  AfterKept = keep.AfterKept Good Fresh closed

  abbrev BodyKept : SourceBody → Type 0
  BodyKept = keep.BodyKept Good Fresh closed

  all_more : {es : List SourcePart} {e : SourcePart} → PartsKept es → PartKept e → PartsKept (es ++ e ∷ [])
  all_more keep.nil e = keep.cons e keep.nil
  all_more (keep.cons x xs) e = keep.cons x (all_more xs e)

  mutual
    eval_kept : (e : Tree) → PartKept (source_eval e)
    eval_kept (t.Name at name) = keep.noted_kept Good Fresh closed at (keep.name_kept Good Fresh closed name)
    eval_kept (t.Number at n) = keep.noted_kept Good Fresh closed at (keep.constant_kept Good Fresh closed (val.Int n))
    eval_kept (t.Text at text) = keep.noted_kept Good Fresh closed at (keep.text_kept Good Fresh closed text)
    eval_kept (t.True at) = keep.noted_kept Good Fresh closed at (keep.constant_kept Good Fresh closed (val.Bool true))
    eval_kept (t.False at) = keep.noted_kept Good Fresh closed at (keep.constant_kept Good Fresh closed (val.Bool false))
    eval_kept (t.NoneTree at) = keep.noted_kept Good Fresh closed at (keep.constant_kept Good Fresh closed val.None)
    eval_kept (t.Paren at e) = keep.noted_kept Good Fresh closed at (eval_kept e)
    eval_kept (t.Call at e es names) = keep.noted_kept Good Fresh closed at (keep.call_kept Good Fresh closed (arguments_of names) (eval_kept e) (parts_kept es))
    eval_kept (t.Unary at op e) = keep.noted_kept Good Fresh closed at (keep.unary_kept Good Fresh closed op (eval_kept e))
    eval_kept (t.Binary at l op r) = keep.noted_kept Good Fresh closed at (keep.binary_kept Good Fresh closed op (eval_kept l) (eval_kept r))
    eval_kept (t.Compare at e ops es) = keep.noted_kept Good Fresh closed at (keep.compare_kept Good Fresh closed ops (eval_kept e) (parts_kept es))
    eval_kept (t.Not at e) = keep.noted_kept Good Fresh closed at (keep.not_kept Good Fresh closed (eval_kept e))
    eval_kept (t.And at e es) = keep.noted_kept Good Fresh closed at (keep.and_kept Good Fresh closed (eval_kept e) (parts_kept es))
    eval_kept (t.Or at e es) = keep.noted_kept Good Fresh closed at (keep.or_kept Good Fresh closed (eval_kept e) (parts_kept es))
    eval_kept (t.IfElse at e c o) = keep.noted_kept Good Fresh closed at (keep.choice_kept Good Fresh closed (eval_kept e) (eval_kept c) (eval_kept o))
    eval_kept (t.Tuple at es) = keep.noted_kept Good Fresh closed at (flow.tuple_kept Good Fresh closed (parts_kept es))
    eval_kept (t.Listed at es) = keep.noted_kept Good Fresh closed at (flow.list_kept Good Fresh closed (parts_kept es))
    eval_kept (t.Dict at ks es) = keep.noted_kept Good Fresh closed at (flow.dict_kept Good Fresh closed (parts_kept ks) (parts_kept es))
    eval_kept (t.Attribute at e name) = keep.noted_kept Good Fresh closed at (flow.attribute_kept Good Fresh closed name (eval_kept e))
    eval_kept (t.Subscript at e i) = keep.noted_kept Good Fresh closed at (flow.subscript_kept Good Fresh closed (eval_kept e) (eval_kept i))
    eval_kept (t.Slice at e from to by) = keep.noted_kept Good Fresh closed at (flow.slice_kept Good Fresh closed (eval_kept e) (some_kept from) (some_kept to) (some_kept by))

    parts_kept : (es : Trees) → PartsKept (source_parts es)
    parts_kept Empty = keep.nil
    parts_kept (More es e) = all_more (parts_kept es) (eval_kept e)

    some_kept : (m : Maybe) → keep.SomeKept Good Fresh closed (some_source_part m)
    some_kept Absent = keep.none
    some_kept (Present e) = keep.some (eval_kept e)

  place_kept : (p : Place) → flow.StoreKept Good Fresh closed (store_place p)
  place_kept (NamePlace at name) = flow.store_name_kept Good Fresh closed name
  place_kept (AttributePlace at e name) = flow.store_attribute_kept Good Fresh closed name (eval_kept e)
  place_kept (SubscriptPlace at e i) = flow.store_item_kept Good Fresh closed (eval_kept e) (eval_kept i)

  places_kept : (ps : List Place) → flow.StoresKept Good Fresh closed (store_places ps)
  places_kept [] = flow.nil
  places_kept (p ∷ ps) = flow.cons (place_kept p) (places_kept ps)

  store_kept : (x : Taker) → flow.StoreKept Good Fresh closed (source_store x)
  store_kept (One p) = place_kept p
  store_kept (Unpack ps) = flow.unpack_kept Good Fresh closed (places_kept ps)

  stores_kept : (xs : List Taker) → flow.StoresKept Good Fresh closed (source_stores xs)
  stores_kept [] = flow.nil
  stores_kept (x ∷ xs) = flow.cons (store_kept x) (stores_kept xs)

  use_kept : (u : Use) → flow.StoreKept Good Fresh closed (source_use u)
  use_kept NoUse = flow.no_use_kept Good Fresh closed
  use_kept (Targets ts) = flow.all_stored_kept Good Fresh closed (stores_kept ts)
  use_kept ReturnIt = flow.return_sent_kept Good Fresh closed

  augment_kept : (p : Place) (op : BinOp) {e : SourcePart} → PartKept e → PartKept (augment p op e)
  augment_kept (NamePlace at name) op e = flow.augment_kept Good Fresh closed name op e
  augment_kept (AttributePlace at a name) op e = flow.augment_attribute_kept Good Fresh closed name op (eval_kept a) e
  augment_kept (SubscriptPlace at a i) op e = flow.augment_item_kept Good Fresh closed op (eval_kept a) (eval_kept i) e

  delete_kept : (p : Place) → PartKept (delete p)
  delete_kept (NamePlace at name) = flow.delete_name_kept Good Fresh closed name
  delete_kept (AttributePlace at e name) = flow.delete_attribute_kept Good Fresh closed name (eval_kept e)
  delete_kept (SubscriptPlace at e i) = flow.delete_item_kept Good Fresh closed (eval_kept e) (eval_kept i)

  mutual
    watch_kept : (n : ℕ) (e : Tree) → PartKept (watch n e)
    watch_kept n (t.Paren at e) = keep.noted_kept Good Fresh closed at (watch_kept n e)
    watch_kept n (t.Call at e es names) = keep.temporary_kept Good Fresh closed n (keep.noted_kept Good Fresh closed at (keep.call_kept Good Fresh closed (arguments_of names) (watch_kept (suc n) e) (watch_all_kept _ es)))
    watch_kept n (t.Unary at op e) = keep.noted_kept Good Fresh closed at (keep.unary_kept Good Fresh closed op (watch_kept n e))
    watch_kept n (t.Binary at l op r) = keep.noted_kept Good Fresh closed at (keep.binary_kept Good Fresh closed op (watch_kept n l) (watch_kept _ r))
    watch_kept n (t.Compare at e ops es) = keep.noted_kept Good Fresh closed at (keep.compare_kept Good Fresh closed ops (watch_kept n e) (watch_all_kept _ es))
    watch_kept n (t.Not at e) = keep.noted_kept Good Fresh closed at (keep.not_kept Good Fresh closed (watch_kept n e))
    watch_kept n (t.And at e es) = keep.noted_kept Good Fresh closed at (keep.and_kept Good Fresh closed (watch_kept n e) (watch_all_kept _ es))
    watch_kept n (t.Or at e es) = keep.noted_kept Good Fresh closed at (keep.or_kept Good Fresh closed (watch_kept n e) (watch_all_kept _ es))
    watch_kept n (t.Name at name) = keep.temporary_kept Good Fresh closed n (eval_kept (t.Name at name))
    watch_kept n (t.Number at x) = keep.temporary_kept Good Fresh closed n (eval_kept (t.Number at x))
    watch_kept n (t.Text at text) = keep.temporary_kept Good Fresh closed n (eval_kept (t.Text at text))
    watch_kept n (t.True at) = keep.temporary_kept Good Fresh closed n (eval_kept (t.True at))
    watch_kept n (t.False at) = keep.temporary_kept Good Fresh closed n (eval_kept (t.False at))
    watch_kept n (t.NoneTree at) = keep.temporary_kept Good Fresh closed n (eval_kept (t.NoneTree at))
    watch_kept n (t.IfElse at e c o) = keep.temporary_kept Good Fresh closed n (eval_kept (t.IfElse at e c o))
    watch_kept n (t.Tuple at es) = keep.temporary_kept Good Fresh closed n (eval_kept (t.Tuple at es))
    watch_kept n (t.Listed at es) = keep.temporary_kept Good Fresh closed n (eval_kept (t.Listed at es))
    watch_kept n (t.Dict at ks es) = keep.temporary_kept Good Fresh closed n (eval_kept (t.Dict at ks es))
    watch_kept n (t.Attribute at e name) = keep.temporary_kept Good Fresh closed n (keep.noted_kept Good Fresh closed at (flow.attribute_kept Good Fresh closed name (watch_kept (suc n) e)))
    watch_kept n (t.Subscript at e i) = keep.temporary_kept Good Fresh closed n (eval_kept (t.Subscript at e i))
    watch_kept n (t.Slice at e a b c) = keep.temporary_kept Good Fresh closed n (eval_kept (t.Slice at e a b c))

    watch_all_kept : (n : ℕ) (es : Trees) → PartsKept (watch_all n es)
    watch_all_kept n Empty = keep.nil
    watch_all_kept n (More es e) = all_more (watch_all_kept n es) (watch_kept _ e)

  assert_kept : {e f : SourcePart} → PartKept e → PartKept f → PartKept (source_assert e f)
  assert_kept e f = record { does = λ p s g k h. e.does p (unset s) g _ (keep.value_kept Good Fresh closed k h _ (λ v s g. keep.if_kept Good Fresh closed (truth (heap_of s) v) _ _ (h _ g) (f.does p s g k h))) }

  assert_as_kept : (x : Bool) (e : Tree) {m : Option SourcePart} → keep.SomeKept Good Fresh closed m → PartKept (assert_as x e m)
  assert_as_kept true e m = assert_kept (watch_kept 0 e) (keep.explained_kept Good Fresh closed e m)
  assert_as_kept false e m = assert_kept (eval_kept e) (keep.fail_kept Good Fresh closed m)

  sequence_kept : (x : Bool) (ls : List SourceLayer) (ss : List Statement) → BodyKept (source_sequence x ls ss)
  sequence_kept x ls [] = record { does = λ scene s g k h. h _ g }
  sequence_kept x ls (st ∷ rest) = record { does = λ scene s g k h. (keep.asked_kept Good Fresh closed (StatementOf x (Statements x rest ∷ ls) st)).does (site scene (position st).line) s g (λ o. on_next o k (λ s. source_sequence x ls rest scene s k)) (keep.next_kept Good Fresh closed k h (λ s. source_sequence x ls rest scene s k) (λ s g. (sequence_kept x ls rest).does scene s g k h)) }

  handlers_more : {hs : List SourceHandling} → flow.HandlersKept Good Fresh closed hs → {class : Option SourcePart} → keep.SomeKept Good Fresh closed class → (name : Option (List ℕ)) {b : SourceBody} → BodyKept b → flow.HandlersKept Good Fresh closed (hs ++ (class, (name, b)) ∷ [])
  handlers_more flow.nil class name b = flow.cons name class b flow.nil
  handlers_more (flow.cons n c x hs) class name b = flow.cons n c x (handlers_more hs class name b)

  handlings_kept : (x : Bool) (ls : List SourceLayer) (hs : Handlers) → flow.HandlersKept Good Fresh closed (source_handlings x ls hs)
  handlings_kept x ls st.NoHandler = flow.nil
  handlings_kept x ls (st.Handler before at class name body) = handlers_more (handlings_kept x ls before) (some_kept class) name (sequence_kept x ls (statements_listed body))

  guard_kept : (x : Bool) (ls : List SourceLayer) (hs : Handlers) (other last : List Statement) → AfterKept (source_guard x ls hs other last)
  guard_kept x ls hs other last = flow.guarded_kept Good Fresh closed (handlings_kept x ls hs) (sequence_kept x ls other) (sequence_kept x ls last)

  remains_kept : (ls : List SourceLayer) → AfterKept (source_remains ls)
  remains_kept [] = record { does = λ p o g k h. h o g }
  remains_kept (Statements x ss ∷ ls) =
      record { does = λ p o g k h. keep.next_kept Good Fresh closed (λ o. source_remains ls p o k) (λ o g. (remains_kept ls).does p o g k h) (λ s. source_sequence x ls ss p.scene s (λ o. source_remains ls p o k)) (λ s g. (sequence_kept x ls ss).does p.scene s g (λ o. source_remains ls p o k) (λ o g. (remains_kept ls).does p o g k h)) o g }
  remains_kept (Guard x n hs other last ∷ ls) = record { does = λ p o g k h. (guard_kept x ls hs other last).does (site p.scene n) o g (λ o. source_remains ls p o k) (λ o g. (remains_kept ls).does p o g k h) }
  remains_kept (Receives u ∷ ls) = record { does = λ p o g k h. (flow.received_kept Good Fresh closed (use_kept u)).does p o g (λ o. source_remains ls p o k) (λ o g. (remains_kept ls).does p o g k h) }

  try_at_kept : (x : Bool) (ls : List SourceLayer) (body : Block) (hs : Handlers) (other last : List Statement) → PartKept (source_try x ls body hs other last)
  try_at_kept x ls body hs other last =
      record { does = λ p s g k h. (flow.try_kept Good Fresh closed (sequence_kept x (Guard x p.line hs other last ∷ ls) (statements_listed body)) (handlings_kept x ls hs) (sequence_kept x ls other) (sequence_kept x ls last)).does p s g k h }

  choices_more : {xs : List SourceChoice} → keep.ChoicesKept Good Fresh closed xs → (n : ℕ) {e : SourcePart} {b : SourceBody} → PartKept e → BodyKept b → keep.ChoicesKept Good Fresh closed (xs ++ (n, (e, b)) ∷ [])
  choices_more keep.nil n e b = keep.cons n e b keep.nil
  choices_more (keep.cons m x y xs) n e b = keep.cons m x y (choices_more xs n e b)

  choices_kept : (x : Bool) (ls : List SourceLayer) (bs : Branches) → keep.ChoicesKept Good Fresh closed (source_choices x ls bs)
  choices_kept x ls st.NoBranch = keep.nil
  choices_kept x ls (st.Branch before at e b) = choices_more (choices_kept x ls before) at.line (eval_kept e) (sequence_kept x ls (statements_listed b))

  pub entry_kept : (x : Function) → BodyKept (source_entry x).body
  entry_kept x = sequence_kept x.explains [] (statements_listed x.body)

  pub script_kept : (m : Script) → BodyKept (script_body m)
  script_kept m = sequence_kept m.explains [] (statements_listed m.body)

  with_kept : (default : Maybe) {es : List SourcePart} → PartsKept es → PartsKept (with_part default es)
  with_kept Absent es = es
  with_kept (Present e) es = keep.cons (eval_kept e) es

  defaults_kept : (ps : List Parameter) → PartsKept (default_parts ps)
  defaults_kept [] = keep.nil
  defaults_kept (Parameter_at at name annotation default ∷ ps) = with_kept default (defaults_kept ps)

  statement_kept : (z : Bool) (ls : List SourceLayer) (x : Statement) → PartKept (source_statement z ls x)
  statement_kept z ls (st.Do at e) = keep.expression_kept Good Fresh closed (eval_kept e)
  statement_kept z ls (st.Assign at ts e) = flow.assign_kept Good Fresh closed (stores_kept ts) (eval_kept e)
  statement_kept z ls (st.AugAssign at p op e) = augment_kept p op (eval_kept e)
  statement_kept z ls (st.Return at e) = keep.return_kept Good Fresh closed (some_kept e)
  statement_kept z ls (st.Assert at e m) = assert_as_kept z e (some_kept m)
  statement_kept z ls (st.GlobalOf at names) = keep.pass_kept Good Fresh closed
  statement_kept z ls (st.Pass at) = keep.pass_kept Good Fresh closed
  statement_kept z ls (st.Break at) = keep.leave_kept Good Fresh closed
  statement_kept z ls (st.Continue at) = keep.again_kept Good Fresh closed
  statement_kept z ls (st.If at bs other) = keep.choose_kept Good Fresh closed (choices_kept z ls bs) (sequence_kept z ls (statements_listed other))
  statement_kept z ls (st.While at e body) = keep.loop_kept Good Fresh closed _ (eval_kept e)
  statement_kept z ls (st.Def at ds word name params returns body) = more.define_kept Good Fresh closed (parts_kept ds) (defaults_kept params) (source_written params) name word.line _ _
  statement_kept z ls (st.AssignYield at ts word e) = keep.yield_kept Good Fresh closed (some_kept e) (Receives (Targets ts) ∷ ls)
  statement_kept z ls (st.ReturnYield at word e) = keep.yield_kept Good Fresh closed (some_kept e) (Receives ReturnIt ∷ ls)
  statement_kept z ls (st.Raise at e) = more.raise_kept Good Fresh closed source_entry entry_kept (some_kept e)
  statement_kept z ls (st.Del at p) = delete_kept p
  statement_kept z ls (st.YieldOf at word e) = keep.yield_kept Good Fresh closed (some_kept e) (Receives NoUse ∷ ls)
  statement_kept z ls (st.Import at names alias) = more.import_kept Good Fresh closed script_body script_kept names alias
  statement_kept z ls (st.ImportFrom at names all) = more.from_kept Good Fresh closed script_body script_kept names all
  statement_kept z ls (st.For at x e body) = flow.for_kept Good Fresh closed (ForOf z x body) (eval_kept e)
  statement_kept z ls (st.Try at body hs other final) = try_at_kept z ls body hs (statements_listed other) (statements_listed final)
  statement_kept z ls (st.With at e name body) = flow.with_kept Good Fresh closed name (eval_kept e) (sequence_kept z [] (statements_listed body))
  statement_kept z ls (st.Class at ds word name base body) = more.class_kept Good Fresh closed (parts_kept ds) (some_kept base) name word.line (sequence_kept z [] (statements_listed body))

  act_kept : (what : SourceTurn) → PartKept (source_act what)
  act_kept (StatementOf z ls x) = statement_kept z ls x
  act_kept (TurnOf z e body) = keep.turn_of_kept Good Fresh closed _ (eval_kept e) (sequence_kept z [] (statements_listed body))
  act_kept (ForOf z x body at) = flow.for_turn_kept Good Fresh closed (ForOf z x body) (store_kept x) (sequence_kept z [] (statements_listed body)) at

  -- THE MEANING OF SOURCES keeps what is closed under what the forms do
  pub source_kept : keep.MeaningKept Good Fresh closed source_semantics
  source_kept = record { entries = entry_kept; acts = act_kept; bodies = script_kept; remains = remains_kept }
