-- The hook that makes ids leaves the frames as they were: each wrapper that began goes on once, or is given up.
use Rattle.std.proofs.Common.{◌≡◌, ℕ, ◌+◌, Bool, true, false, cond, List, [], ◌∷◌, Option, None, Some, Ok, Err, inl, inr, length, refl, sym, ◌∙◌, subst}
use Rattle.std.specs.Prelude.{Result, codes, replicate, slice_get}
use Rattle.collect_tree.specs.collect_ids.Asking.{Asked, asked_behind, asked_then, dashed_asked, fault_of_marks, go_on, id_of, id_of_text, list_if, list_of, list_with, lists_asked, mark_asked, mark_with, marks_asked, marks_then_rows, one_asked, params_asked, rows_asked, rows_made, rows_unless_faulty, set_asked, sets_asked, value_asked, values_asked}
use Rattle.collect_tree.specs.collect_ids.Files.{FileAsked, all_asked, file_asked, files_asked, items_behind, serving_file, tests_asked}
use Rattle.collect_tree.specs.collect_ids.Hook.{id_hook_call, id_opened, id_resumed, id_runner, id_sent}
use Rattle.collect_tree.specs.collect_items.Items.{FixtureTable}
use Rattle.collect_tree.specs.collect_items.Reads.{table_in}
use Rattle.collect_tree.specs.collect_items.collect_fixtures.Closures.{closure_if, item_needs}
use Rattle.collect_tree.specs.collect_items.collect_fixtures.Tables.{all_numbers, names_bound}
use Rattle.collect_tree.specs.collect_items.collect_rows.Rows.{closure_or_none, names_known}
use Rattle.collect_tree.specs.collect_items.collect_rows.declared.row.TestRows.{TestRows}
use Rattle.collect_tree.specs.collect_items.collect_rows.declared.row.TestRows.TheVariants as rows
use Rattle.collect_tree.specs.collect_items.declared.reads.FileTests.{FileTests}
use Rattle.collect_tree.specs.collect_items.declared.reads.FilesRead.{FilesRead}
use Rattle.collect_tree.specs.collect_items.fixture_definitions.collect_params.declared.given.Parametrization.{Parametrization}
use Rattle.collect_tree.specs.collect_items.fixture_definitions.collect_params.param_rows.Ids.{Id}
use Rattle.collect_tree.specs.collect_items.fixture_definitions.collect_params.param_rows.declared.param.ParamSet.{ParamSet}
use Rattle.collect_tree.specs.collect_items.fixture_definitions.declared.found.Definition.{Definition}
use Rattle.collect_tree.specs.collect_items.fixture_definitions.declared.found.FoundTest.{FoundTest}
use Rattle.collect_words.specs.Walks.{path_at}
use Rattle.core_rules.specs.Keeps.{IsKeptBehind, IsKeptIn}
use Rattle.core_rules.specs.source_meaning.Meaning.{SourceWorld, source_begin, source_call, source_resume}
use Rattle.hook_order.specs.declared.implementation.Impl.{Impl}
use Rattle.py_values.specs.declared.object.Obj.TheVariants as obj
use Rattle.py_values.specs.declared.value.Value.{Value}
use Rattle.collect_tree.specs.runtest_rules.Language.{python}
use Rattle.collect_tree.specs.runtest_rules.Rules.{body_outcome, wrapper_fault}
use Rattle.collect_tree.specs.runtest_rules.fixture_calls.Failing.{in_heap}
use Rattle.collect_tree.specs.runtest_rules.fixture_calls.Hooks.{hook_begun}
use Rattle.collect_tree.specs.runtest_rules.fixture_calls.Yields.{fixture_abandoned}
use Rattle.collect_tree.specs.runtest_rules.fixture_calls.declared.failure.Failure.{Failure}
use Rattle.collect_tree.specs.runtest_rules.fixture_calls.declared.yields.FixtureEnd.{FixtureEnd}
use Rattle.collect_tree.specs.runtest_rules.fixture_calls.declared.yields.FixtureEnd.TheVariants as end
use Rattle.collect_tree.specs.runtest_rules.py_world.Resuming.{Sent, abandon_of, is_out}
use Rattle.collect_tree.specs.runtest_rules.test_suite.Hooks.{hook_at}
use Rattle.collect_tree.specs.runtest_rules.test_suite.declared.hook.HookTable.{HookTable}
use Rattle.session_rules.specs.Frames.{AddsFrame, BeginsFrame, ReplacesFrame, ResumesFrame, SameFrames, TakesFrame}
use Rattle.session_rules.specs.Hooks.{HookAnswer, HookBeginning, HookEnd, HookGave, HookInner, HookRaised, HookRunner, AllValues, AtYield, InnerGave, InnerRaised, OpenRaised, around, around_all, first_next, firstresult}
use Rattle.session_rules.specs.Hooks as message
use Rattle.collect_tree.specs.tracebacks.runner_values.Given.{added_object}
use Rattle.collect_tree.proofs.runtest_rules_lemmas.Kept.{gone, hook_faulty, hooked, opened, wrapper_on}
use Rattle.collect_tree.proofs.runtest_rules_lemmas.Worlds.{not_out, same_frames}

abbrev pub Same : SourceWorld → SourceWorld → Type 0
Same w v = SameFrames is_out w v

pub both : (u v w : SourceWorld) → Same u v → Same v w → Same u w
both u v w a b = λ r. b r ∙ a r

two : {A : Type 0} (b : Bool) → b ≡ true → b ≡ false → A
two true e f = cc
two false e f = cc

alike : (a b : Bool) → (a ≡ true → b ≡ true) → (b ≡ true → a ≡ true) → a ≡ b
alike true true f g = refl
alike true false f g = absurd (let e = f refl in cc)
alike false true f g = absurd (let e = g refl in cc)
alike false false f g = refl

at : (n r : ℕ) (w : SourceWorld) (b : Bool) → n ≡ r → is_out n w ≡ b → is_out r w ≡ b
at n r w b e o = subst (λ (k : ℕ). is_out k w ≡ b) e o

-- one that began and went behind others that stay
bracketed : (n : ℕ) (u v x w : SourceWorld) → AddsFrame is_out n u v → Same v x → TakesFrame is_out n x w → Same u w
bracketed n u v x w a s t = λ r.
    alike (is_out r w) (is_out r u)
    (λ o. elim (a.only r (sym (s r) ∙ t.only r o)) [ inl k ↦ k | inr e ↦ two (is_out r w) o (at n r w false e t.gone) ])
    (λ o. elim (t.kept r (s r ∙ a.kept r o)) [ inl k ↦ k | inr e ↦ two (is_out r u) o (at n r u false e a.was) ])

replaced_taken : (n m : ℕ) (u v w : SourceWorld) → ReplacesFrame is_out n m u v → TakesFrame is_out m v w → TakesFrame is_out n u w
replaced_taken n m u v w a t = record {
  gone = not_out (is_out n w) (λ o. two (is_out n v) (t.only n o) a.gone);
  kept = λ r o. elim (a.kept r o) [
    | inl k ↦ elim (t.kept r k) [ inl l ↦ inl l | inr e ↦ two (is_out r u) o (at m r u false e a.was) ]
    | inr e ↦ inr e
  ];
  only = λ r o. elim (a.only r (t.only r o)) [ inl k ↦ k | inr e ↦ two (is_out r w) o (at m r w false e t.gone) ];
}

taken_still : (n : ℕ) (u v w : SourceWorld) → TakesFrame is_out n u v → Same v w → TakesFrame is_out n u w
taken_still n u v w t s = record {
  gone = s n ∙ t.gone;
  kept = λ r o. elim (t.kept r o) [ inl k ↦ inl (s r ∙ k) | inr e ↦ inr e ];
  only = λ r o. t.only r (sym (s r) ∙ o);
}

-- how a wrapper began, whose frame has this number
abbrev OpensAs : {F : Type 0} → HookRunner SourceWorld Value Failure F → (F → ℕ) → SourceWorld → HookBeginning F Failure → SourceWorld → Type 0
OpensAs r rest_of w (AtYield frame) u = AddsFrame is_out (rest_of frame) w u
OpensAs r rest_of w (OpenRaised f) u = Same w u

opens : (limit : ℕ) (table : HookTable) (v name : Value) (which : Impl) (w : SourceWorld) (x : FixtureEnd × SourceWorld) → BeginsFrame {L = python} is_out w (body_outcome x)
    → OpensAs (id_runner limit table v name) (λ frame. frame.rest) w (id_opened limit table which x).0 (id_opened limit table which x).1
opens limit table v name which w (end.Yielded y n, u) h = h
opens limit table v name which w (end.Returned y, u) h =
    both w u (wrapper_fault (hook_at table which.code) (codes "hook wrapper did not yield") u).1 h (hook_faulty (hook_at table which.code) (codes "hook wrapper did not yield") u)
opens limit table v name which w (end.Raised f, u) h = h

-- how one went on
takes : (limit : ℕ) (table : HookTable) (which : Impl) (inner : HookInner Value Failure) (n : ℕ) (u : SourceWorld) (x : FixtureEnd × SourceWorld) → ResumesFrame {L = python} is_out n u (body_outcome x)
    → TakesFrame is_out n u (id_resumed limit table which inner x).1
takes limit table which inner n u (end.Returned v, w) h = h
takes limit table which inner n u (end.Raised f, w) h = h
takes limit table which inner n u (end.Yielded v m, w) h =
    let given_up = fixture_abandoned m w in
    taken_still n u given_up (wrapper_fault (hook_at table which.code) (codes "hook wrapper yielded twice") given_up).1 (replaced_taken n m u w given_up h (gone m w))
    (hook_faulty (hook_at table which.code) (codes "hook wrapper yielded twice") given_up)

-- a hook call whose steps keep the frames keeps them
module _ {F : Type 0} (r : HookRunner SourceWorld Value Failure F) (rest_of : F → ℕ) (called : (which : Impl) (w : SourceWorld) → Same w (r.call which w).state)
    (began : (which : Impl) (w : SourceWorld) → OpensAs r rest_of w (r.begin which w).answer (r.begin which w).state)
    (went : (frame : F) (inner : HookInner Value Failure) (w : SourceWorld) → is_out (rest_of frame) w ≡ true → TakesFrame is_out (rest_of frame) w (r.resume frame inner w).state) where
  around_same : (rest : SourceWorld → HookEnd SourceWorld Value Failure) → ((u : SourceWorld) → Same u (rest u).state) → (w : SourceWorld) (b : HookBeginning F Failure) (u : SourceWorld) → OpensAs r rest_of w b u → Same w (around r rest b u).state
  around_same rest law w (AtYield frame) u h =
      let inside = rest u in
      bracketed (rest_of frame) w u inside.state (r.resume frame inside.outcome inside.state).state h (law u) (went frame inside.outcome inside.state (law u (rest_of frame) ∙ h.is))
  around_same rest law w (OpenRaised f) u h = h

  next_same : (rest : SourceWorld → HookEnd SourceWorld Value Failure) → ((u : SourceWorld) → Same u (rest u).state) → (w : SourceWorld) (a : HookAnswer Value Failure) (u : SourceWorld) → Same w u → Same w (first_next rest a u).state
  next_same rest law w (HookGave None) u s = both w u (rest u).state s (law u)
  next_same rest law w (HookGave (Some value)) u s = s
  next_same rest law w (HookRaised f) u s = s

  first_same : (impls : List Impl) (w : SourceWorld) → Same w (firstresult r impls w).state
  first_same [] w = λ r. refl
  first_same (which ∷ rest) w = next_same (firstresult r rest) (first_same rest) w (r.call which w).answer (r.call which w).state (called which w)

  all_same : (impls : List Impl) (w : SourceWorld) → Same w (around_all r (firstresult r) impls w).state
  all_same [] w = first_same [] w
  all_same (which ∷ rest) w =
      let x = r.begin which w in
      elim which.wrapper as (λ (b : Bool). Same w (cond b (around r (around_all r (firstresult r) rest) x.answer x.state) (firstresult r (which ∷ rest) w)).state) [
        | true ↦ around_same (around_all r (firstresult r) rest) (all_same rest) w x.answer x.state (began which w)
        | false ↦ first_same (which ∷ rest) w
      ]

-- ---- the steps of asking

behind_same : {A : Type 0} (w : SourceWorld) (made : List A) (x : Asked (List A)) → Same w x.1 → Same w (asked_behind made x).1
behind_same w made (Ok others, u) s = s
behind_same w made (Err fault, u) s = s

then_same : {A : Type 0} (w : SourceWorld) (d : Asked (List A)) (next : SourceWorld → Asked (List A)) → Same w d.1 → ((v : SourceWorld) → Same v (next v).1) → Same w (asked_then d next).1
then_same w (Ok made, v) next s n = behind_same w made (next v) (both w v (next v).1 s (n v))
then_same w (Err fault, v) next s n = s

one_same : {A : Type 0} (w : SourceWorld) (d : Asked A) → Same w d.1 → Same w (one_asked d).1
one_same w (Ok a, v) s = s
one_same w (Err fault, v) s = s

go_on_same : {A B : Type 0} (w : SourceWorld) (next : A → SourceWorld → Asked B) (d : Asked A) → Same w d.1 → ((a : A) (v : SourceWorld) → Same v (next a v).1) → Same w (go_on next d).1
go_on_same w next (Ok a, v) s n = both w v (next a v).1 s (n a v)
go_on_same w next (Err fault, v) s n = s

dashed_same : (w : SourceWorld) (d : Asked (List Id)) → Same w d.1 → Same w (dashed_asked d).1
dashed_same w (Ok ids, v) s = s
dashed_same w (Err fault, v) s = s

text_same : (t : FoundTest) (o : Option Id) (w : SourceWorld) → Same w (id_of_text t o w).1
text_same t (Some text) w = λ r. refl
text_same t None w = λ r. refl

id_same : (t : FoundTest) (name : Id) (number : ℕ) (v : Value) (w : SourceWorld) (x : Result (Option Value) Failure × SourceWorld) → Same w x.1 → Same w (id_of t name number v x).1
id_same t name number v w (Ok None, u) s = s
id_same t name number v w (Ok (Some made), u) s = both w u (id_of_text t _ u).1 s (text_same t _ u)
id_same t name number v w (Err f, u) s = s

module _ (calls : (w : SourceWorld) (f : Value) (args : List Value) (budget : ℕ) → IsKeptIn w (source_call f args budget w).1)
    (begins : (w : SourceWorld) (f : Value) (args : List Value) (budget : ℕ) → IsKeptBehind w w.frozen (source_begin f args budget w))
    (resumes : (w : SourceWorld) (n : ℕ) (sent : Sent) (budget : ℕ) → IsKeptBehind w (abandon_of n w).frozen (source_resume n sent budget w)) where
  module _ (limit : ℕ) (hooks : HookTable) where
    sent_on : (n : ℕ) (inner : HookInner Value Failure) (w : SourceWorld) → is_out n w ≡ true → ResumesFrame {L = python} is_out n w (body_outcome (id_sent limit hooks n inner w))
    sent_on n AllValues w o = wrapper_on calls begins resumes limit n (message.SentValue None) w o
    sent_on n (InnerGave value) w o = wrapper_on calls begins resumes limit n (message.SentValue value) w o
    sent_on n (InnerRaised f) w o = wrapper_on calls begins resumes limit n (message.SentRaise f) w o

    hook_same : (v name : Value) (impls : List Impl) (w : SourceWorld) → Same w (around_all (id_runner limit hooks v name) (firstresult (id_runner limit hooks v name)) impls w).state
    hook_same v name impls w =
        all_same (id_runner limit hooks v name) (λ frame. frame.rest) (λ which u. hooked calls begins resumes limit (hook_at hooks which.code) (Some v) (Some name) u)
        (λ which u. opens limit hooks v name which u (hook_begun limit (hook_at hooks which.code) (Some v) (Some name) u) (opened calls begins resumes limit (hook_at hooks which.code) (Some v) (Some name) u))
        (λ frame inner u o. takes limit hooks frame.which inner frame.rest u (id_sent limit hooks frame.rest inner u) (sent_on frame.rest inner u o)) impls w

    call_same : (impls : List Impl) (v : Value) (name : List ℕ) (w : SourceWorld) → Same w (id_hook_call limit hooks impls v name w).1
    unfolding id_hook_call
    call_same impls v name w =
        let made = in_heap (added_object (obj.Text name) w.heap) w in
        both w made.1 (id_hook_call limit hooks impls v name w).1 (same_frames w made.1 refl) (hook_same v made.0 impls made.1)

    module _ (impls : List Impl) (t : FoundTest) where
      value_same : (name : Id) (number : ℕ) (v : Value) (w : SourceWorld) → Same w (value_asked limit hooks impls t name number v w).1
      value_same name number v w = id_same t name number v w (id_hook_call limit hooks impls v name w) (call_same impls v name w)

      values_same : (number : ℕ) (names : List Id) (vs : List Value) (w : SourceWorld) → Same w (values_asked limit hooks impls t number names vs w).1
      values_same number [] vs w = λ r. refl
      values_same number (name ∷ names) [] w = λ r. refl
      values_same number (name ∷ names) (v ∷ vs) w =
          then_same w (one_asked (value_asked limit hooks impls t name number v w)) (values_asked limit hooks impls t number names vs)
          (one_same w (value_asked limit hooks impls t name number v w) (value_same name number v w)) (values_same number names vs)

      set_same : (number : ℕ) (names : List Id) (vs : List Value) (id : Option Id) (w : SourceWorld) → Same w (set_asked limit hooks impls t number names vs id w).1
      set_same number names vs (Some id) w = λ r. refl
      set_same number names vs None w = dashed_same w (values_asked limit hooks impls t number names vs w) (values_same number names vs w)

      sets_same : (number : ℕ) (names : List Id) (sets : List (ParamSet Value)) (w : SourceWorld) → Same w (sets_asked limit hooks impls t number names sets w).1
      sets_same number names [] w = λ r. refl
      sets_same number names (set ∷ sets) w =
          then_same w (one_asked (set_asked limit hooks impls t number names set.values set.id w)) (sets_asked limit hooks impls t (number + 1) names sets)
          (one_same w (set_asked limit hooks impls t number names set.values set.id w) (set_same number names set.values set.id w)) (sets_same (number + 1) names sets)

      params_same : (number : ℕ) (name : Id) (sets : List (ParamSet Value)) (w : SourceWorld) → Same w (params_asked limit hooks impls t number name sets w).1
      params_same number name [] w = λ r. refl
      params_same number name (set ∷ sets) w =
          let names = replicate (length set.values) name in
          then_same w (one_asked (set_asked limit hooks impls t number names set.values set.id w)) (params_asked limit hooks impls t (number + 1) name sets)
          (one_same w (set_asked limit hooks impls t number names set.values set.id w) (set_same number names set.values set.id w)) (params_same (number + 1) name sets)

      mark_same : (names : List (List ℕ)) (p : Parametrization) (w : SourceWorld) → Same w (mark_asked limit hooks impls t names p w).1
      mark_same names p w = go_on_same w (mark_with limit hooks impls t names p) (sets_asked limit hooks impls t 0 p.names p.sets w) (sets_same 0 p.names p.sets w) (λ ids v. λ r. refl)

      marks_same : (names : List (List ℕ)) (ps : List Parametrization) (w : SourceWorld) → Same w (marks_asked limit hooks impls t names ps w).1
      marks_same names [] w = λ r. refl
      marks_same names (p ∷ ps) w =
          then_same w (one_asked (mark_asked limit hooks impls t names p w)) (marks_asked limit hooks impls t names ps)
          (one_same w (mark_asked limit hooks impls t names p w) (mark_same names p w)) (marks_same names ps)

      params_if_same : (d : ℕ) (name : Id) (params : Option (List (ParamSet Value))) (w : SourceWorld) → Same w (list_if limit hooks impls t d name params w).1
      params_if_same d name None w = λ r. refl
      params_if_same d name (Some sets) w = go_on_same w (list_with limit hooks impls t d name sets) (params_asked limit hooks impls t 0 name sets w) (params_same 0 name sets w) (λ ids v. λ r. refl)

      list_same : (d : ℕ) (one : Option Definition) (w : SourceWorld) → Same w (list_of limit hooks impls t d one w).1
      list_same d None w = λ r. refl
      list_same d (Some one) w = params_if_same d one.fixture.name one.params w

      lists_same : (definitions : List Definition) (ds : List ℕ) (w : SourceWorld) → Same w (lists_asked limit hooks impls t definitions ds w).1
      lists_same definitions [] w = λ r. refl
      lists_same definitions (d ∷ ds) w =
          then_same w (list_of limit hooks impls t d (slice_get definitions d) w) (lists_asked limit hooks impls t definitions ds) (list_same d (slice_get definitions d) w) (lists_same definitions ds)

    module _ (f : FixtureTable) where
      module _ (impls : List Impl) where
        made_same : (t : FoundTest) (bound known : List ℕ) (fixtures : List (ℕ × List Id)) (w : SourceWorld) → Same w (marks_then_rows limit hooks impls f.table f.names f.definitions t bound known fixtures w).1
        made_same t bound known fixtures w =
            go_on_same w (rows_made limit hooks impls f.table f.names f.definitions bound known fixtures) (marks_asked limit hooks impls t f.names t.parametrized w) (marks_same impls t f.names t.parametrized w) (λ marks v. λ r. refl)

        unless_same : (t : FoundTest) (bound known : List ℕ) (closure : Option (List ℕ)) (fault : Option (List ℕ)) (w : SourceWorld)
            → Same w (rows_unless_faulty limit hooks impls f.table f.names f.definitions t bound known closure fault w).1
        unless_same t bound known closure None w =
            go_on_same w (marks_then_rows limit hooks impls f.table f.names f.definitions t bound known) (lists_asked limit hooks impls t f.definitions (closure_or_none closure) w)
            (lists_same impls t f.definitions (closure_or_none closure) w) (made_same t bound known)
        unless_same t bound known closure (Some text) w = λ r. refl

        rows_same : (node : ℕ) (t : FoundTest) (w : SourceWorld) → Same w (rows_asked limit hooks impls f.table f.names f.definitions node t w).1
        unfolding rows_asked
        rows_same node t w =
            let bound = all_numbers f.names (names_bound t) in
            let closure = closure_if (item_needs f.table f.names node bound t.uses t.arguments) in
            let known = names_known f.table f.names node t closure in
            unless_same t bound known closure (fault_of_marks limit hooks impls f.table f.names f.definitions known t w) w

        rows_then_same : (t : FoundTest) (w : SourceWorld) (d : Asked TestRows) (others : SourceWorld → FileAsked) → Same w d.1 → ((v : SourceWorld) → Same v (others v).1) → Same w (items_behind t d others).1
        rows_then_same t w (Ok (rows.Rows rs), v) others s n = both w v (others v).1 s (n v)
        rows_then_same t w (Ok (rows.Fault text), v) others s n = s
        rows_then_same t w (Err fault, v) others s n = s

        tests_same : (node : ℕ) (ts : List FoundTest) (w : SourceWorld) → Same w (tests_asked limit hooks f impls node ts w).1
        tests_same node [] w = λ r. refl
        tests_same node (t ∷ ts) w =
            rows_then_same t w (rows_asked limit hooks impls f.table f.names f.definitions node t w) (tests_asked limit hooks f impls (node + 1) ts) (rows_same node t w) (tests_same (node + 1) ts)

      files_same : (impls : List Impl) (walk : List (List ℕ)) (node : ℕ) (files : List FileTests) (w : SourceWorld) → Same w (all_asked limit hooks f impls walk node files w).1
      files_same impls walk node [] w = λ r. refl
      files_same impls walk node (file ∷ files) w =
          let serving = serving_file hooks impls (path_at walk file.placed.file.place) in
          let u = (tests_asked limit hooks f serving node file.tests w).1 in
          let v = (file_asked limit hooks f impls walk node file w).1 in
          both w v (all_asked limit hooks f impls walk (node + length file.tests) files v).1 (both w u v (tests_same serving node file.tests w) (same_frames u v refl)) (files_same impls walk (node + length file.tests) files v)

  pub asked_same : (limit : ℕ) (hooks : HookTable) (walk : List (List ℕ)) (read : FilesRead) (w : SourceWorld) → Same w (files_asked limit hooks walk read w).1
  unfolding files_asked
  asked_same limit hooks walk read w = files_same limit hooks (table_in read.basis) hooks.ids walk (length read.basis.outer) read.files w
