-- What is told under two choices.
use Rattle.std.proofs.Common.{◌≡◌, ℕ, List, Option, Some, None, Bool, false, refl, sym, ◌∙◌, subst}
use Rattle.py_values.specs.declared.value.Value.{Value}
use Rattle.run_tree.specs.Todo.{run}
use Rattle.run_tree.specs.Same.{SameEnding}
use Rattle.source_meaning.specs.py_world.declared.load.Load.{Load}
use Rattle.source_meaning.specs.py_world.declared.load.Load.TheVariants.{Running, Loaded, Failed}
use Rattle.source_meaning.specs.py_world.World.{World, Frozen}
use Rattle.source_meaning.specs.py_world.Calls.{body_of}
use Rattle.source_meaning.specs.py_world.Outcome.{Rest}
use Rattle.source_meaning.specs.py_world.Runs.{told_by, loaded_first, loaded_by, load_at}
use Rattle.source_meaning.specs.py_world.Resuming.{Sent, begun_by, resumed_by}
use Rattle.source_meaning.specs.Requests.{SourceLayer, Script}
use Rattle.source_meaning.specs.Meaning.{SourceWorld, source_semantics, source_call, source_module, source_begin, source_resume}
use Rattle.explain_law.specs.Law as law
use Rattle.explain_law.specs.Law.{SourceRun, SourceEnding, differs, run_tells, EndAlike, AlikeTold, RunsAlike, UntilAssert, ToldUntil, BegunUntil, call_tree, code_tree, load_tree_by, load_tree, begin_tree, resume_tree_by, resume_tree}
use Rattle.explain_law.specs.Stopping.{FailedEnds, stopping, answering}
use Rattle.explain_law.specs.Choices.{Choices, K, J, WorldsByChoice, worlds, EndsByChoice, ScriptsAt, script_at}
use Rattle.explain_law.proofs.Following.{Follow, SpentByChoice, PausedByChoice, RequestsByChoice}
use Rattle.explain_law.proofs.Stops.{StopsAt, BothStop, both}
use Rattle.explain_law.proofs.Together.{Nowhere, no_assert, ending_runs, stopping_runs, real_runs, Together, together, as_is, at_an_assert}
use Rattle.explain_law.proofs.One.{worlds_equal, worlds_left, worlds_right, layers_left, layers_right}
use Rattle.explain_law.proofs.Loads as loads
use Rattle.explain_law.proofs.Whole.{told_same, begun_by_runner_same, loading_same}
use Rattle.explain_law.proofs.Resumes as resumes
use Rattle.explain_law.proofs.Resumes.{begun_same, opened_same, resumed_same, frame_found, abandoned, over_same}

-- endings that are the same tell the same
abbrev Telling : {A : Type 0} → (ℕ → SourceEnding → A × SourceWorld) → Type 0
Telling tell = (S : Choices) (budget : ℕ) (a b : SourceEnding) → SameEnding (SpentByChoice S) (RequestsByChoice S) (EndsByChoice S false) (PausedByChoice S) a b → AlikeTold S (tell budget a) (tell budget b)

calls_tell : Telling told_by
calls_tell S budget a b h = told_same S Nowhere budget a b h

begins_tell : Telling begun_by
begins_tell S budget a b h = begun_same S Nowhere budget a b h

module _ (R : Choices) where
  -- what is left to do, under each choice, and each with itself
  pub record Begun (t : Rest K) (u : Rest J) : Type 0 where
    pub alike : Follow R Nowhere t u
    pub standing : Follow R (BothStop R) t u
    pub first : Follow (both R.first) StopsAt t t
    pub second : Follow (both R.second) StopsAt u u

  abbrev real : ℕ → Rest K → SourceRun
  real budget t = run (body_of source_semantics) budget t

  abbrev stopping_run : ℕ → Rest K → SourceRun
  stopping_run budget t = run (body_of (stopping (differs R))) budget t

  runs_together : (budget : ℕ) {t : Rest K} {u : Rest J} → Begun t u → Together R (real budget t) (stopping_run budget t) (real budget u) (stopping_run budget u)
  runs_together budget {t = t} {u = u} h =
      together R _ _ _ _ (real_runs (differs R) R.first budget t t h.first) (real_runs (differs R) R.second budget u u h.second) (stopping_runs R budget t u h.standing)

  module _ {A : Type 0} where
    same_told : (a b c d : A × SourceWorld) → AlikeTold (both R.first) a b → AlikeTold R b d → AlikeTold (both R.second) c d → AlikeTold R a c
    same_told a b c d h s g = (h.0 ∙ s.0 ∙ sym g.0, subst (λ (w : World K). WorldsByChoice R w c.1) (sym (worlds_equal R.first h.1)) (subst (λ (w : World K). WorldsByChoice R b.1 w) (sym (worlds_equal R.second g.1)) s.1))

    told_equal : (choice : List ℕ → Bool) (a b : A × SourceWorld) → AlikeTold (both choice) a b → a ≡ b
    told_equal choice a b h = λ i. (h.0 i, worlds_equal choice h.1 i)

  module _ {A : Type 0} (tell : ℕ → SourceEnding → A × SourceWorld) (same : Telling tell) where
    answered_alike : (budget : ℕ) {t : Rest K} {u : Rest J} → Follow R Nowhere t u → (ends others : FailedEnds) → EndAlike R ends others → RunsAlike R tell (answering (differs R) ends) (answering (differs R) others) budget t u
    answered_alike budget {t = t} {u = u} h ends others alike =
        let r = ending_runs R ends others alike budget t u h in
        (r.0, same R budget _ _ r.1)

    until_from : (budget : ℕ) {t : Rest K} {u : Rest J} → Begun t u → Together R (real budget t) (stopping_run budget t) (real budget u) (stopping_run budget u) → UntilAssert R tell budget (Some t) (Some u) (run_tells tell source_semantics budget t) (run_tells tell source_semantics budget u)
    until_from budget h (as_is x s y) =
        let p : AlikeTold (both R.first) _ _ = same (both R.first) budget _ _ x.1 in
        let q : AlikeTold (both R.second) _ _ = same (both R.second) budget _ _ y.1 in
        law.told
        (record { really = refl; stops_nowhere = told_equal R.first _ _ p; passes = no_assert (both R.first) _ _ x })
        (record { really = refl; stops_nowhere = told_equal R.second _ _ q; passes = no_assert (both R.second) _ _ y })
        (x.0 ∙ s.0 ∙ sym y.0, same_told _ _ _ _ p (same R budget _ _ s.1) q)
    until_from budget h (at_an_assert notes left {f = f} {g = g} here d e t i u j) =
        law.parted refl refl
        (record { notes = notes; left = left; here = f; there = g; first = record { stands = d; rest = t; goes_on = i }; second = record { stands = e; rest = u; goes_on = j }; same = here })
        (answered_alike budget h.alike)

    pub until : (budget : ℕ) {t : Rest K} {u : Rest J} → Begun t u → UntilAssert R tell budget (Some t) (Some u) (run_tells tell source_semantics budget t) (run_tells tell source_semantics budget u)
    until budget h = until_from budget h (runs_together budget h)

  -- CALLS
  pub calls_until : (w z : SourceWorld) → WorldsByChoice R w z → (f : Value) (args : List Value) (budget : ℕ) → ToldUntil R budget (call_tree f args w) (call_tree f args z) (source_call f args budget w) (source_call f args budget z)
  calls_until w z ws f args budget =
      until told_by calls_tell budget (record { alike = begun_by_runner_same R Nowhere f args ws; standing = begun_by_runner_same R (BothStop R) f args ws; first = begun_by_runner_same (both R.first) _ f args (worlds_left R ws); second = begun_by_runner_same (both R.second) _ f args (worlds_right R ws) })

  -- LOADS OF MODULES
  script_left : {path : List ℕ} {b c : Script} → ScriptsAt R path b c → ScriptsAt (both R.first) path b b
  script_left (script_at body) = script_at body

  script_right : {path : List ℕ} {b c : Script} → ScriptsAt R path b c → ScriptsAt (both R.second) path c c
  script_right (script_at body) = script_at body

  first_until : {b code : Option Script} (path : List ℕ) → loads.CodeFound R Nowhere path b code → (budget : ℕ) {w z : SourceWorld} → WorldsByChoice R w z → ToldUntil R budget (code_tree path w b) (code_tree path z code) (loaded_first source_semantics b path budget w) (loaded_first source_semantics code path budget z)
  first_until path loads.none budget ws = law.nothing_runs (refl, ws)
  first_until path (loads.some {b = b} {code = code} h) budget ws =
      until told_by calls_tell budget (record { alike = loading_same R Nowhere path b code h ws; standing = loading_same R (BothStop R) path b code h ws; first = loading_same (both R.first) _ path b b (script_left h) (worlds_left R ws); second = loading_same (both R.second) _ path code code (script_right h) (worlds_right R ws) })

  by_until : (load : Option Load) (path : List ℕ) (budget : ℕ) {w z : SourceWorld} → WorldsByChoice R w z → ToldUntil R budget (load_tree_by path w load) (load_tree_by path z load) (loaded_by source_semantics load path budget w) (loaded_by source_semantics load path budget z)
  by_until (Some (Running id)) path budget ws = law.nothing_runs (refl, ws)
  by_until (Some (Loaded id)) path budget ws = law.nothing_runs (refl, ws)
  by_until (Some (Failed e trace)) path budget ws = law.nothing_runs (refl, ws)
  by_until None path budget (worlds xs ys zs modules heap printed traces) = first_until path (loads.code_found R Nowhere path xs) budget (worlds xs ys zs modules heap printed traces)

  modules_from : (path : List ℕ) (budget : ℕ) {w z : SourceWorld} → WorldsByChoice R w z → ToldUntil R budget (load_tree path w) (load_tree path z) (source_module path budget w) (source_module path budget z)
  modules_from path budget (worlds xs ys zs modules heap printed traces) = by_until (load_at path modules) path budget (worlds xs ys zs modules heap printed traces)

  pub modules_until : (w z : SourceWorld) → WorldsByChoice R w z → (path : List ℕ) (budget : ℕ) → ToldUntil R budget (load_tree path w) (load_tree path z) (source_module path budget w) (source_module path budget z)
  modules_until w z ws path budget = modules_from path budget ws

  -- BEGINS
  pub begins_until : (w z : SourceWorld) → WorldsByChoice R w z → (f : Value) (args : List Value) (budget : ℕ) → BegunUntil R budget (begin_tree f args w) (begin_tree f args z) (source_begin f args budget w) (source_begin f args budget z)
  begins_until w z ws f args budget =
      until begun_by begins_tell budget (record { alike = opened_same R Nowhere f args ws; standing = opened_same R (BothStop R) f args ws; first = opened_same (both R.first) _ f args (worlds_left R ws); second = opened_same (both R.second) _ f args (worlds_right R ws) })

  -- RESUMPTIONS
  resumed_until : {x y : Option (Frozen (List SourceLayer))} → resumes.FrameAlike R Nowhere x y → (n : ℕ) (sent : Sent) (budget : ℕ) {w z : SourceWorld} → WorldsByChoice R w z → BegunUntil R budget (resume_tree_by n sent w x) (resume_tree_by n sent z y) (resumed_by source_semantics x n sent budget w) (resumed_by source_semantics y n sent budget z)
  resumed_until resumes.absent n sent budget ws = law.nothing_runs (over_same R Nowhere _ _ (refl, ws))
  resumed_until (resumes.present p a h) n sent budget ws =
      until begun_by begins_tell budget (record { alike = resumed_same R Nowhere p a h sent (abandoned R Nowhere n ws); standing = resumed_same R (BothStop R) p a h sent (abandoned R (BothStop R) n ws); first = resumed_same (both R.first) _ p a (layers_left R h) sent (worlds_left R (abandoned R Nowhere n ws)); second = resumed_same (both R.second) _ p a (layers_right R h) sent (worlds_right R (abandoned R Nowhere n ws)) })

  resumes_from : (n : ℕ) (sent : Sent) (budget : ℕ) {w z : SourceWorld} → WorldsByChoice R w z → BegunUntil R budget (resume_tree n sent w) (resume_tree n sent z) (source_resume n sent budget w) (source_resume n sent budget z)
  resumes_from n sent budget (worlds xs ys zs modules heap printed traces) = resumed_until (frame_found R Nowhere zs n) n sent budget (worlds xs ys zs modules heap printed traces)

  pub resumes_until : (w z : SourceWorld) → WorldsByChoice R w z → (n : ℕ) (sent : Sent) (budget : ℕ) → BegunUntil R budget (resume_tree n sent w) (resume_tree n sent z) (source_resume n sent budget w) (source_resume n sent budget z)
  resumes_until w z ws n sent budget = resumes_from n sent budget ws
