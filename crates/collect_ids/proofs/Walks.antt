-- One more of a list for which is asked.
use Rattle.std.proofs.Common.{◌≡◌, ℕ, zero, suc, ◌+◌, ◌<◌, ◌≤◌, min, Bool, true, false, List, [], ◌∷◌, ◌++◌, Option, Some, None, Ok, Err, length, drop, get_or, refl, sym, ap, ◌∙◌, arith}
use Rattle.std.specs.Prelude.{Result, replicate, slice_get}
use Rattle.std.proofs.lemmas.List.{append_assoc, append-nil, drop_all, drop_more}
use Rattle.collect_params.specs.declared.given.Parametrization.{Parametrization}
use Rattle.collect_rows.specs.declared.items.RowsFault.{RowsFault}
use Rattle.fixture_definitions.specs.declared.found.Definition.{Definition}
use Rattle.fixture_definitions.specs.declared.found.FoundTest.{FoundTest}
use Rattle.hook_order.specs.declared.implementation.Impl.{Impl}
use Rattle.param_rows.specs.Ids.{Id}
use Rattle.param_rows.specs.declared.param.ParamMark.{ParamMark}
use Rattle.param_rows.specs.declared.param.ParamSet.{ParamSet}
use Rattle.py_values.specs.declared.value.Value.{Value}
use Rattle.test_suite.specs.declared.hook.HookTable.{HookTable}
use Rattle.runtest_rules.specs.tracebacks.source_meaning.Meaning.{SourceWorld}
use Rattle.collect_ids.specs.Asking.{Asked, asked_behind, asked_then, list_of, lists_asked, mark_asked, marks_asked, one_asked, params_asked, set_asked, sets_asked, value_asked, values_asked}
use Rattle.collect_ids.specs.Told.{told}

module _ {A : Type 0} where
  pub behind_nothing : (x : Asked (List A)) → asked_behind [] x ≡ x
  behind_nothing (Ok xs, w) = refl
  behind_nothing (Err f, w) = refl

  all_behind : (done : List A) (w : SourceWorld) → asked_behind done (Ok [], w) ≡ (Ok done, w)
  all_behind done w = ap (λ (xs : List A). (Ok xs, w)) (append-nil done)

  behind_both : (done one : List A) (x : Asked (List A)) → asked_behind (done ++ one) x ≡ asked_behind done (asked_behind one x)
  behind_both done one (Ok xs, w) = ap (λ (ys : List A). (Ok ys, w)) (append_assoc done one xs)
  behind_both done one (Err f, w) = refl

  abbrev made_in : List A → Asked (List A) → List A
  made_in other (Ok xs, w) = xs
  made_in other (Err f, w) = other

  abbrev is_made : Asked (List A) → Bool
  is_made (Ok xs, w) = true
  is_made (Err f, w) = false

  on : (done more : List A) (d : Asked (List A)) (u : SourceWorld) (rest : SourceWorld → Asked (List A)) → (Ok more, u) ≡ asked_behind done d → asked_behind more (rest u) ≡ asked_behind done (asked_then d rest)
  on done more (Ok one, v) u rest e =
      let same : more ≡ done ++ one = ap (made_in more) e in
      let here : u ≡ v = ap (λ (x : Asked (List A)). x.1) e in
      ap (λ (xs : List A). asked_behind xs (rest u)) same ∙ (ap (λ (x : SourceWorld). asked_behind (done ++ one) (rest x)) here ∙ behind_both done one (rest v))
  on done more (Err f, v) u rest e = absurd (let z : true ≡ false = ap is_made e in cc)

  stop : (done : List A) (d : Asked (List A)) (f : RowsFault) (u : SourceWorld) (rest : SourceWorld → Asked (List A)) → (Err f, u) ≡ asked_behind done d → (Err f, u) ≡ asked_behind done (asked_then d rest)
  stop done (Ok one, v) f u rest e = absurd (let z : false ≡ true = ap is_made e in cc)
  stop done (Err g, v) f u rest e = e

  -- one more, where what is left is it and the rest
  goes_on : (done more : List A) (d : Asked (List A)) (u : SourceWorld) (rest : SourceWorld → Asked (List A)) (left all : Asked (List A))
      → asked_then d rest ≡ left → asked_behind done left ≡ all → (Ok more, u) ≡ asked_behind done d → asked_behind more (rest u) ≡ all
  goes_on done more d u rest left all l is e = on done more d u rest e ∙ (ap (asked_behind done) l ∙ is)

  ends : (done : List A) (d : Asked (List A)) (f : RowsFault) (u : SourceWorld) (rest : SourceWorld → Asked (List A)) (left all : Asked (List A))
      → asked_then d rest ≡ left → asked_behind done left ≡ all → (Err f, u) ≡ asked_behind done d → (Err f, u) ≡ all
  ends done d f u rest left all l is e = stop done d f u rest e ∙ (ap (asked_behind done) l ∙ is)

  -- nothing is left
  is_done : (done : List A) (w : SourceWorld) (left all : Asked (List A)) → left ≡ (Ok [], w) → asked_behind done left ≡ all → (Ok done, w) ≡ all
  is_done done w left all l is = sym (all_behind done w) ∙ (ap (asked_behind done) (sym l) ∙ is)

  -- what was pushed
  was_pushed : (fault : Option RowsFault) (done more : List A) (one : Result A RowsFault) (u : SourceWorld) (d : Asked A)
      → ((w : SourceWorld) → told fault more w ≡ asked_behind done (one_asked (one, w))) → (one, u) ≡ d → fault ≡ None → (Ok more, u) ≡ asked_behind done (one_asked d)
  was_pushed fault done more one u d e is none = ap (λ (f : Option RowsFault). told f more u) (sym none) ∙ (e u ∙ ap (λ (x : Asked A). asked_behind done (one_asked x)) is)

  was_stopped : (fault : Option RowsFault) (f : RowsFault) (done more : List A) (one : Result A RowsFault) (u : SourceWorld) (d : Asked A)
      → ((w : SourceWorld) → told fault more w ≡ asked_behind done (one_asked (one, w))) → (one, u) ≡ d → fault ≡ Some f → (Err f, u) ≡ asked_behind done (one_asked d)
  was_stopped fault f done more one u d e is some = ap (λ (x : Option RowsFault). told x more u) (sym some) ∙ (e u ∙ ap (λ (x : Asked A). asked_behind done (one_asked x)) is)

  list_pushed : (fault : Option RowsFault) (done more : List A) (u : SourceWorld) (d : Asked (List A)) → told fault more u ≡ asked_behind done d → fault ≡ None → (Ok more, u) ≡ asked_behind done d
  list_pushed fault done more u d e none = ap (λ (f : Option RowsFault). told f more u) (sym none) ∙ e

  list_stopped : (fault : Option RowsFault) (f : RowsFault) (done more : List A) (u : SourceWorld) (d : Asked (List A)) → told fault more u ≡ asked_behind done d → fault ≡ Some f → (Err f, u) ≡ asked_behind done d
  list_stopped fault f done more u d e some = ap (λ (x : Option RowsFault). told x more u) (sym some) ∙ e

module _ (limit : ℕ) (hooks : HookTable) (impls : List Impl) (t : FoundTest) where
  -- the values of a set

  values_left : (number : ℕ) (names : List Id) (vs : List Value) (i : ℕ) (name : Id) (v : Value) (w : SourceWorld) → i < length names → i < length vs → name ≡ get_or names i name
      → asked_then (one_asked (value_asked limit hooks impls t name number (get_or vs i v) w)) (values_asked limit hooks impls t number (drop (i + 1) names) (drop (i + 1) vs)) ≡ values_asked limit hooks impls t number (drop i names) (drop i vs) w
  values_left number names vs i name v w l m e =
      ap (λ (x : Id). values_asked limit hooks impls t number (x ∷ drop (i + 1) names) (get_or vs i v ∷ drop (i + 1) vs) w) e
      ∙ (ap (λ (xs : List Id). values_asked limit hooks impls t number xs (get_or vs i v ∷ drop (i + 1) vs) w) (sym (drop_more names i name l))
      ∙ ap (λ (xs : List Value). values_asked limit hooks impls t number (drop i names) xs w) (sym (drop_more vs i v m)))

  pub values_on : (number : ℕ) (names : List Id) (vs : List Value) (i : ℕ) (name : Id) (v : Value) (fault : Option RowsFault) (done more : List Id) (one : Result Id RowsFault) (w u : SourceWorld) (all : Asked (List Id))
      → i < length names → i < length vs → name ≡ get_or names i name → asked_behind done (values_asked limit hooks impls t number (drop i names) (drop i vs) w) ≡ all
      → ((x : SourceWorld) → told fault more x ≡ asked_behind done (one_asked (one, x))) → (one, u) ≡ value_asked limit hooks impls t name number (get_or vs i v) w → fault ≡ None
      → asked_behind more (values_asked limit hooks impls t number (drop (i + 1) names) (drop (i + 1) vs) u) ≡ all
  values_on number names vs i name v fault done more one w u all l m e is new h none =
      let d = value_asked limit hooks impls t name number (get_or vs i v) w in
      let rest = values_asked limit hooks impls t number (drop (i + 1) names) (drop (i + 1) vs) in
      goes_on done more (one_asked d) u rest (values_asked limit hooks impls t number (drop i names) (drop i vs) w) all (values_left number names vs i name v w l m e) is (was_pushed fault done more one u d new h none)

  pub values_stop : (number : ℕ) (names : List Id) (vs : List Value) (i : ℕ) (name : Id) (v : Value) (fault : Option RowsFault) (f : RowsFault) (done more : List Id) (one : Result Id RowsFault) (w u : SourceWorld) (all : Asked (List Id))
      → i < length names → i < length vs → name ≡ get_or names i name → asked_behind done (values_asked limit hooks impls t number (drop i names) (drop i vs) w) ≡ all
      → ((x : SourceWorld) → told fault more x ≡ asked_behind done (one_asked (one, x))) → (one, u) ≡ value_asked limit hooks impls t name number (get_or vs i v) w → fault ≡ Some f
      → (Err f, u) ≡ all
  values_stop number names vs i name v fault f done more one w u all l m e is new h some =
      let d = value_asked limit hooks impls t name number (get_or vs i v) w in
      let rest = values_asked limit hooks impls t number (drop (i + 1) names) (drop (i + 1) vs) in
      ends done (one_asked d) f u rest (values_asked limit hooks impls t number (drop i names) (drop i vs) w) all (values_left number names vs i name v w l m e) is (was_stopped fault f done more one u d new h some)

  no_values : (number : ℕ) (names : List Id) (w : SourceWorld) → values_asked limit hooks impls t number names [] w ≡ (Ok [], w)
  no_values number [] w = refl
  no_values number (name ∷ names) w = refl

  values_over : (number : ℕ) (names : List Id) (vs : List Value) (i : ℕ) (w : SourceWorld) → min (length names) (length vs) ≤ i → values_asked limit hooks impls t number (drop i names) (drop i vs) w ≡ (Ok [], w)
  values_over number [] vs i w l = ap (λ (xs : List Id). values_asked limit hooks impls t number xs (drop i vs) w) (drop_all i [] (omega arith))
  values_over number (name ∷ names) [] i w l = ap (λ (xs : List Value). values_asked limit hooks impls t number (drop i (name ∷ names)) xs w) (drop_all i [] (omega arith)) ∙ no_values number (drop i (name ∷ names)) w
  values_over number (name ∷ names) (v ∷ vs) zero w l = absurd (omega arith)
  values_over number (name ∷ names) (v ∷ vs) (suc i) w l = values_over number names vs i w (omega arith)

  pub values_done : (number : ℕ) (names : List Id) (vs : List Value) (i : ℕ) (done : List Id) (w : SourceWorld) (all : Asked (List Id)) → min (length names) (length vs) ≤ i
      → asked_behind done (values_asked limit hooks impls t number (drop i names) (drop i vs) w) ≡ all → (Ok done, w) ≡ all
  values_done number names vs i done w all l is = is_done done w (values_asked limit hooks impls t number (drop i names) (drop i vs) w) all (values_over number names vs i w l) is

  -- the sets of a `parametrize`

  sets_left : (names : List Id) (sets : List (ParamSet Value)) (i : ℕ) (set : ParamSet Value) (w : SourceWorld) → i < length sets → set ≡ get_or sets i set
      → asked_then (one_asked (set_asked limit hooks impls t i names set.values set.id w)) (sets_asked limit hooks impls t (i + 1) names (drop (i + 1) sets)) ≡ sets_asked limit hooks impls t i names (drop i sets) w
  sets_left names sets i set w l e =
      ap (λ (x : ParamSet Value). sets_asked limit hooks impls t i names (x ∷ drop (i + 1) sets) w) e ∙ ap (λ (xs : List (ParamSet Value)). sets_asked limit hooks impls t i names xs w) (sym (drop_more sets i set l))

  pub sets_on : (names : List Id) (sets : List (ParamSet Value)) (i : ℕ) (set : ParamSet Value) (fault : Option RowsFault) (done more : List Id) (one : Result Id RowsFault) (w u : SourceWorld) (all : Asked (List Id))
      → i < length sets → set ≡ get_or sets i set → asked_behind done (sets_asked limit hooks impls t i names (drop i sets) w) ≡ all
      → ((x : SourceWorld) → told fault more x ≡ asked_behind done (one_asked (one, x))) → (one, u) ≡ set_asked limit hooks impls t i names set.values set.id w → fault ≡ None
      → asked_behind more (sets_asked limit hooks impls t (i + 1) names (drop (i + 1) sets) u) ≡ all
  sets_on names sets i set fault done more one w u all l e is new h none =
      let d = set_asked limit hooks impls t i names set.values set.id w in
      goes_on done more (one_asked d) u (sets_asked limit hooks impls t (i + 1) names (drop (i + 1) sets)) (sets_asked limit hooks impls t i names (drop i sets) w) all (sets_left names sets i set w l e) is (was_pushed fault done more one u d new h none)

  pub sets_stop : (names : List Id) (sets : List (ParamSet Value)) (i : ℕ) (set : ParamSet Value) (fault : Option RowsFault) (f : RowsFault) (done more : List Id) (one : Result Id RowsFault) (w u : SourceWorld) (all : Asked (List Id))
      → i < length sets → set ≡ get_or sets i set → asked_behind done (sets_asked limit hooks impls t i names (drop i sets) w) ≡ all
      → ((x : SourceWorld) → told fault more x ≡ asked_behind done (one_asked (one, x))) → (one, u) ≡ set_asked limit hooks impls t i names set.values set.id w → fault ≡ Some f
      → (Err f, u) ≡ all
  sets_stop names sets i set fault f done more one w u all l e is new h some =
      let d = set_asked limit hooks impls t i names set.values set.id w in
      ends done (one_asked d) f u (sets_asked limit hooks impls t (i + 1) names (drop (i + 1) sets)) (sets_asked limit hooks impls t i names (drop i sets) w) all (sets_left names sets i set w l e) is (was_stopped fault f done more one u d new h some)

  pub sets_done : (names : List Id) (sets : List (ParamSet Value)) (i : ℕ) (done : List Id) (w : SourceWorld) (all : Asked (List Id)) → length sets ≤ i
      → asked_behind done (sets_asked limit hooks impls t i names (drop i sets) w) ≡ all → (Ok done, w) ≡ all
  sets_done names sets i done w all l is =
      is_done done w (sets_asked limit hooks impls t i names (drop i sets) w) all (ap (λ (xs : List (ParamSet Value)). sets_asked limit hooks impls t i names xs w) (drop_all i sets l)) is

  -- the parameters of a fixture

  params_left : (name : Id) (sets : List (ParamSet Value)) (i : ℕ) (set : ParamSet Value) (w : SourceWorld) → i < length sets → set ≡ get_or sets i set
      → asked_then (one_asked (set_asked limit hooks impls t i (replicate (length set.values) name) set.values set.id w)) (params_asked limit hooks impls t (i + 1) name (drop (i + 1) sets)) ≡ params_asked limit hooks impls t i name (drop i sets) w
  params_left name sets i set w l e =
      ap (λ (x : ParamSet Value). params_asked limit hooks impls t i name (x ∷ drop (i + 1) sets) w) e ∙ ap (λ (xs : List (ParamSet Value)). params_asked limit hooks impls t i name xs w) (sym (drop_more sets i set l))

  pub params_on : (name : Id) (sets : List (ParamSet Value)) (i : ℕ) (set : ParamSet Value) (fault : Option RowsFault) (done more : List Id) (one : Result Id RowsFault) (w u : SourceWorld) (all : Asked (List Id))
      → i < length sets → set ≡ get_or sets i set → asked_behind done (params_asked limit hooks impls t i name (drop i sets) w) ≡ all
      → ((x : SourceWorld) → told fault more x ≡ asked_behind done (one_asked (one, x))) → (one, u) ≡ set_asked limit hooks impls t i (replicate (length set.values) name) set.values set.id w → fault ≡ None
      → asked_behind more (params_asked limit hooks impls t (i + 1) name (drop (i + 1) sets) u) ≡ all
  params_on name sets i set fault done more one w u all l e is new h none =
      let d = set_asked limit hooks impls t i (replicate (length set.values) name) set.values set.id w in
      goes_on done more (one_asked d) u (params_asked limit hooks impls t (i + 1) name (drop (i + 1) sets)) (params_asked limit hooks impls t i name (drop i sets) w) all (params_left name sets i set w l e) is (was_pushed fault done more one u d new h none)

  pub params_stop : (name : Id) (sets : List (ParamSet Value)) (i : ℕ) (set : ParamSet Value) (fault : Option RowsFault) (f : RowsFault) (done more : List Id) (one : Result Id RowsFault) (w u : SourceWorld) (all : Asked (List Id))
      → i < length sets → set ≡ get_or sets i set → asked_behind done (params_asked limit hooks impls t i name (drop i sets) w) ≡ all
      → ((x : SourceWorld) → told fault more x ≡ asked_behind done (one_asked (one, x))) → (one, u) ≡ set_asked limit hooks impls t i (replicate (length set.values) name) set.values set.id w → fault ≡ Some f
      → (Err f, u) ≡ all
  params_stop name sets i set fault f done more one w u all l e is new h some =
      let d = set_asked limit hooks impls t i (replicate (length set.values) name) set.values set.id w in
      ends done (one_asked d) f u (params_asked limit hooks impls t (i + 1) name (drop (i + 1) sets)) (params_asked limit hooks impls t i name (drop i sets) w) all (params_left name sets i set w l e) is (was_stopped fault f done more one u d new h some)

  pub params_done : (name : Id) (sets : List (ParamSet Value)) (i : ℕ) (done : List Id) (w : SourceWorld) (all : Asked (List Id)) → length sets ≤ i
      → asked_behind done (params_asked limit hooks impls t i name (drop i sets) w) ≡ all → (Ok done, w) ≡ all
  params_done name sets i done w all l is =
      is_done done w (params_asked limit hooks impls t i name (drop i sets) w) all (ap (λ (xs : List (ParamSet Value)). params_asked limit hooks impls t i name xs w) (drop_all i sets l)) is

  -- the marks of a test

  marks_left : (names : List (List ℕ)) (ps : List Parametrization) (i : ℕ) (p : Parametrization) (w : SourceWorld) → i < length ps → p ≡ get_or ps i p
      → asked_then (one_asked (mark_asked limit hooks impls t names p w)) (marks_asked limit hooks impls t names (drop (i + 1) ps)) ≡ marks_asked limit hooks impls t names (drop i ps) w
  marks_left names ps i p w l e =
      ap (λ (x : Parametrization). marks_asked limit hooks impls t names (x ∷ drop (i + 1) ps) w) e ∙ ap (λ (xs : List Parametrization). marks_asked limit hooks impls t names xs w) (sym (drop_more ps i p l))

  pub marks_on : (names : List (List ℕ)) (ps : List Parametrization) (i : ℕ) (p : Parametrization) (fault : Option RowsFault) (done more : List (ParamMark Value)) (one : Result (ParamMark Value) RowsFault) (w u : SourceWorld) (all : Asked (List (ParamMark Value)))
      → i < length ps → p ≡ get_or ps i p → asked_behind done (marks_asked limit hooks impls t names (drop i ps) w) ≡ all
      → ((x : SourceWorld) → told fault more x ≡ asked_behind done (one_asked (one, x))) → (one, u) ≡ mark_asked limit hooks impls t names p w → fault ≡ None
      → asked_behind more (marks_asked limit hooks impls t names (drop (i + 1) ps) u) ≡ all
  marks_on names ps i p fault done more one w u all l e is new h none =
      let d = mark_asked limit hooks impls t names p w in
      goes_on done more (one_asked d) u (marks_asked limit hooks impls t names (drop (i + 1) ps)) (marks_asked limit hooks impls t names (drop i ps) w) all (marks_left names ps i p w l e) is (was_pushed fault done more one u d new h none)

  pub marks_stop : (names : List (List ℕ)) (ps : List Parametrization) (i : ℕ) (p : Parametrization) (fault : Option RowsFault) (f : RowsFault) (done more : List (ParamMark Value)) (one : Result (ParamMark Value) RowsFault) (w u : SourceWorld) (all : Asked (List (ParamMark Value)))
      → i < length ps → p ≡ get_or ps i p → asked_behind done (marks_asked limit hooks impls t names (drop i ps) w) ≡ all
      → ((x : SourceWorld) → told fault more x ≡ asked_behind done (one_asked (one, x))) → (one, u) ≡ mark_asked limit hooks impls t names p w → fault ≡ Some f
      → (Err f, u) ≡ all
  marks_stop names ps i p fault f done more one w u all l e is new h some =
      let d = mark_asked limit hooks impls t names p w in
      ends done (one_asked d) f u (marks_asked limit hooks impls t names (drop (i + 1) ps)) (marks_asked limit hooks impls t names (drop i ps) w) all (marks_left names ps i p w l e) is (was_stopped fault f done more one u d new h some)

  pub marks_done : (names : List (List ℕ)) (ps : List Parametrization) (i : ℕ) (done : List (ParamMark Value)) (w : SourceWorld) (all : Asked (List (ParamMark Value))) → length ps ≤ i
      → asked_behind done (marks_asked limit hooks impls t names (drop i ps) w) ≡ all → (Ok done, w) ≡ all
  marks_done names ps i done w all l is =
      is_done done w (marks_asked limit hooks impls t names (drop i ps) w) all (ap (λ (xs : List Parametrization). marks_asked limit hooks impls t names xs w) (drop_all i ps l)) is

  -- the parametrised fixtures of a closure

  lists_left : (definitions : List Definition) (ds : List ℕ) (i d : ℕ) (w : SourceWorld) → i < length ds → d ≡ get_or ds i d
      → asked_then (list_of limit hooks impls t d (slice_get definitions d) w) (lists_asked limit hooks impls t definitions (drop (i + 1) ds)) ≡ lists_asked limit hooks impls t definitions (drop i ds) w
  lists_left definitions ds i d w l e =
      ap (λ (x : ℕ). lists_asked limit hooks impls t definitions (x ∷ drop (i + 1) ds) w) e ∙ ap (λ (xs : List ℕ). lists_asked limit hooks impls t definitions xs w) (sym (drop_more ds i d l))

  pub lists_on : (definitions : List Definition) (ds : List ℕ) (i d : ℕ) (fault : Option RowsFault) (done more : List (ℕ × List Id)) (w u : SourceWorld) (all : Asked (List (ℕ × List Id)))
      → i < length ds → d ≡ get_or ds i d → asked_behind done (lists_asked limit hooks impls t definitions (drop i ds) w) ≡ all
      → told fault more u ≡ asked_behind done (list_of limit hooks impls t d (slice_get definitions d) w) → fault ≡ None
      → asked_behind more (lists_asked limit hooks impls t definitions (drop (i + 1) ds) u) ≡ all
  lists_on definitions ds i d fault done more w u all l e is new none =
      let one = list_of limit hooks impls t d (slice_get definitions d) w in
      goes_on done more one u (lists_asked limit hooks impls t definitions (drop (i + 1) ds)) (lists_asked limit hooks impls t definitions (drop i ds) w) all (lists_left definitions ds i d w l e) is (list_pushed fault done more u one new none)

  pub lists_stop : (definitions : List Definition) (ds : List ℕ) (i d : ℕ) (fault : Option RowsFault) (f : RowsFault) (done more : List (ℕ × List Id)) (w u : SourceWorld) (all : Asked (List (ℕ × List Id)))
      → i < length ds → d ≡ get_or ds i d → asked_behind done (lists_asked limit hooks impls t definitions (drop i ds) w) ≡ all
      → told fault more u ≡ asked_behind done (list_of limit hooks impls t d (slice_get definitions d) w) → fault ≡ Some f
      → (Err f, u) ≡ all
  lists_stop definitions ds i d fault f done more w u all l e is new some =
      let one = list_of limit hooks impls t d (slice_get definitions d) w in
      ends done one f u (lists_asked limit hooks impls t definitions (drop (i + 1) ds)) (lists_asked limit hooks impls t definitions (drop i ds) w) all (lists_left definitions ds i d w l e) is (list_stopped fault f done more u one new some)

  pub lists_done : (definitions : List Definition) (ds : List ℕ) (i : ℕ) (done : List (ℕ × List Id)) (w : SourceWorld) (all : Asked (List (ℕ × List Id))) → length ds ≤ i
      → asked_behind done (lists_asked limit hooks impls t definitions (drop i ds) w) ≡ all → (Ok done, w) ≡ all
  lists_done definitions ds i done w all l is =
      is_done done w (lists_asked limit hooks impls t definitions (drop i ds) w) all (ap (λ (xs : List ℕ). lists_asked limit hooks impls t definitions xs w) (drop_all i ds l)) is
