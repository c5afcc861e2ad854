-- What is left to do under two choices: what is asked for, and what is told where the steps end or a body stops, is the same.
use Rattle.std.specs.Prelude.{ℕ, List, ◌∷◌, false}
use Rattle.py_tree.specs.Trees.{Tree}
use Rattle.py_tree.specs.Statements.{Statement, Block, Taker}
use Rattle.py_values.specs.declared.value.Value.{Value}
use Rattle.source_meaning.specs.py_items.declared.iter.IterAt.{IterAt}
use Rattle.source_meaning.specs.py_world.declared.trace.TraceFrame.{TraceFrame}
use Rattle.source_meaning.specs.py_world.World.{CallState}
use Rattle.source_meaning.specs.py_world.Site.{Around, Site}
use Rattle.source_meaning.specs.py_world.Arguments.{Arguments}
use Rattle.source_meaning.specs.py_world.Outcome.{Rest, Exhaustion, spent, Suspension, paused, Request, CallOf, DoOf}
use Rattle.source_meaning.specs.Requests.{Use, SourceLayer, Receives, SourceTurn, StatementOf, TurnOf, ForOf}
use Rattle.explain_law.specs.Choices.{Choices, K, J, StatesByChoice, EndsByChoice, LayersAt}
use Rattle.explain_law.proofs.Until.{Until}

module _ (R : Choices) where
  -- a statement of a module, or a turn of a loop
  pub data TurnsAt (path : List ℕ) : SourceTurn → SourceTurn → Type 0 where
    statement_at : (s : Statement) {ls ks : List SourceLayer} → LayersAt R path ls ks → TurnsAt path (StatementOf (R.first path) ls s) (StatementOf (R.second path) ks s)
    turn_at : (e : Tree) (b : Block) → TurnsAt path (TurnOf (R.first path) e b) (TurnOf (R.second path) e b)
    for_at : (t : Taker) (b : Block) (at : IterAt) → TurnsAt path (ForOf (R.first path) t b at) (ForOf (R.second path) t b at)

  pub data SpentByChoice : Exhaustion K → Exhaustion J → Type 0 where
    out : (trace : List TraceFrame) {s : CallState K} {r : CallState J} → StatesByChoice R false s r → SpentByChoice (spent trace s) (spent trace r)

  -- at a `yield`
  pub data PausedByChoice : Suspension K → Suspension J → Type 0 where
    stops : (v : Value) (u : Use) (p : Site) {l m : List SourceLayer} {s : CallState K} {r : CallState J} → LayersAt R p.scene.path l m → StatesByChoice R false s r → PausedByChoice (paused v (Receives u ∷ l) p s) (paused v (Receives u ∷ m) p r)

  pub data RequestsByChoice : Request K → Request J → Type 0 where
    calls : (callee : Value) (args : Arguments) (a : Around) {s : CallState K} {r : CallState J} → StatesByChoice R false s r → RequestsByChoice (CallOf callee args a s) (CallOf callee args a r)
    does : {what other : SourceTurn} (p : Site) {s : CallState K} {r : CallState J} → TurnsAt p.scene.path what other → StatesByChoice R false s r → RequestsByChoice (DoOf what p s) (DoOf other p r)

abbrev pub Apart : Type 1
Apart = Rest K → Rest J → Type 0

-- the same up to where P says
abbrev pub Follow : Choices → Apart → Rest K → Rest J → Type 0
Follow R P = Until (SpentByChoice R) (RequestsByChoice R) (EndsByChoice R false) (PausedByChoice R) P
