-- Where failed asserts end alike, all is the same.
use Rattle.std.proofs.Common.{ℕ, List, Option, Some, None, refl}
use Rattle.py_values.specs.declared.value.Value.{Value}
use Rattle.source_meaning.specs.py_world.declared.load.Load.{Load}
use Rattle.source_meaning.specs.py_world.declared.load.Load.TheVariants.{Running, Loaded, Failed}
use Rattle.source_meaning.specs.py_world.World.{Frozen}
use Rattle.source_meaning.specs.py_world.Calls.{Meaning}
use Rattle.source_meaning.specs.py_world.Outcome.{Rest}
use Rattle.source_meaning.specs.py_world.Runs.{run_of, call_of, module_load, loaded_by, loaded_first, load_at}
use Rattle.source_meaning.specs.py_world.Resuming.{Sent, begun_of, begin_of, resume_of, resumed_by}
use Rattle.source_meaning.specs.Requests.{source_kinds, SourceLayer, Script}
use Rattle.source_meaning.specs.Meaning.{SourceWorld}
use Rattle.explain_law.specs.Law as law
use Rattle.explain_law.specs.Law.{differs, ToldByChoice, BegunByChoice}
use Rattle.explain_law.proofs.Following.{Follow}
use Rattle.explain_law.specs.Stopping.{FailedEnds, answering}
use Rattle.explain_law.specs.Choices.{Choices, K, J, WorldsByChoice, worlds}
use Rattle.explain_law.proofs.Together.{Nowhere, ending_runs}
use Rattle.explain_law.proofs.Loads as loads
use Rattle.explain_law.proofs.Whole.{told_same, begun_by_runner_same, loading_same}
use Rattle.explain_law.proofs.Resumes as resumes
use Rattle.explain_law.proofs.Resumes.{begun_same, opened_same, resumed_same, frame_found, abandoned, over_same}

module _ (R : Choices) (A B : FailedEnds) (alike : law.EndAlike R A B) where
  abbrev M : Meaning source_kinds
  M = answering (differs R) A

  abbrev N : Meaning source_kinds
  N = answering (differs R) B

  run_told : (budget : ℕ) (t : Rest K) (u : Rest J) → Follow R Nowhere t u → ToldByChoice R (run_of M budget t) (run_of N budget u)
  run_told budget t u h = told_same R Nowhere budget _ _ (ending_runs R A B alike budget t u h).1

  run_begun : (budget : ℕ) (t : Rest K) (u : Rest J) → Follow R Nowhere t u → BegunByChoice R (begun_of M budget t) (begun_of N budget u)
  run_begun budget t u h = begun_same R Nowhere budget _ _ (ending_runs R A B alike budget t u h).1

  pub calls_same : (w z : SourceWorld) → WorldsByChoice R w z → (f : Value) (args : List Value) (budget : ℕ) → ToldByChoice R (call_of M f args budget w) (call_of N f args budget z)
  calls_same w z ws f args budget = run_told budget _ _ (begun_by_runner_same R Nowhere f args ws)

  first_same : {b code : Option Script} (path : List ℕ) → loads.CodeFound R Nowhere path b code → (budget : ℕ) {w z : SourceWorld} → WorldsByChoice R w z → ToldByChoice R (loaded_first M b path budget w) (loaded_first N code path budget z)
  first_same path loads.none budget ws = (refl, ws)
  first_same path (loads.some {b = b} {code = code} h) budget ws = run_told budget _ _ (loading_same R Nowhere path b code h ws)

  by_same : (load : Option Load) (path : List ℕ) (budget : ℕ) {w z : SourceWorld} → WorldsByChoice R w z → ToldByChoice R (loaded_by M load path budget w) (loaded_by N load path budget z)
  by_same (Some (Running id)) path budget ws = (refl, ws)
  by_same (Some (Loaded id)) path budget ws = (refl, ws)
  by_same (Some (Failed e trace)) path budget ws = (refl, ws)
  by_same None path budget (worlds xs ys zs modules heap printed traces) = first_same path (loads.code_found R Nowhere path xs) budget (worlds xs ys zs modules heap printed traces)

  modules_from : (path : List ℕ) (budget : ℕ) {w z : SourceWorld} → WorldsByChoice R w z → ToldByChoice R (module_load M path budget w) (module_load N path budget z)
  modules_from path budget (worlds xs ys zs modules heap printed traces) = by_same (load_at path modules) path budget (worlds xs ys zs modules heap printed traces)

  pub modules_same : (w z : SourceWorld) → WorldsByChoice R w z → (path : List ℕ) (budget : ℕ) → ToldByChoice R (module_load M path budget w) (module_load N path budget z)
  modules_same w z ws path budget = modules_from path budget ws

  pub begins_same : (w z : SourceWorld) → WorldsByChoice R w z → (f : Value) (args : List Value) (budget : ℕ) → BegunByChoice R (begin_of M f args budget w) (begin_of N f args budget z)
  begins_same w z ws f args budget = run_begun budget _ _ (opened_same R Nowhere f args ws)

  resumed_told : {x y : Option (Frozen (List SourceLayer))} → resumes.FrameAlike R Nowhere x y → (n : ℕ) (sent : Sent) (budget : ℕ) {w z : SourceWorld} → WorldsByChoice R w z → BegunByChoice R (resumed_by M x n sent budget w) (resumed_by N y n sent budget z)
  resumed_told resumes.absent n sent budget ws = over_same R Nowhere _ _ (refl, ws)
  resumed_told (resumes.present p a h) n sent budget ws = run_begun budget _ _ (resumed_same R Nowhere p a h sent (abandoned R Nowhere n ws))

  resumes_from : (n : ℕ) (sent : Sent) (budget : ℕ) {w z : SourceWorld} → WorldsByChoice R w z → BegunByChoice R (resume_of M n sent budget w) (resume_of N n sent budget z)
  resumes_from n sent budget (worlds xs ys zs modules heap printed traces) = resumed_told (frame_found R Nowhere zs n) n sent budget (worlds xs ys zs modules heap printed traces)

  pub resumes_same : (w z : SourceWorld) → WorldsByChoice R w z → (n : ℕ) (sent : Sent) (budget : ℕ) → BegunByChoice R (resume_of M n sent budget w) (resume_of N n sent budget z)
  resumes_same w z ws n sent budget = resumes_from n sent budget ws
