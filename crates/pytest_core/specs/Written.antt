use Rattle.std.specs.Prelude.{◌≡◌, ◌⊎◌, ℕ, List, Option}
use Rattle.edge_io.specs.Told.{Appends, AppendsPrefix}
use Rattle.worker_sessions.specs.run_items.report_rules.Answer.{PrintedAnswer}
use Rattle.pytest_core.specs.Status.{status_seen}
use Rattle.pytest_core.specs.declared.status.Status.{Status}
use Rattle.pytest_core.specs.declared.status.Status.TheVariants.{Passed, Failed, Interrupted, Usage, NoTests, OutOfMemory, TreeFault, SinkFault}

-- bytes and a status
abbrev pub Response : Type 0
Response = List ℕ × Status

-- the response with an answer
abbrev pub response_of : PrintedAnswer → Response
response_of answer = (answer.0, status_seen answer.1)

-- a response with an answer that is the report
pub record IsResponseBy (report : PrintedAnswer → Type 0) (response : Response) : Type 0 where
  pub answer : PrintedAnswer
  pub is : report answer
  pub same : response ≡ response_of answer

-- nothing was written, or a prefix of the report
abbrev pub WrotePrefix : (PrintedAnswer → Type 0) → Option (List ℕ) → Option (List ℕ) → Type 0
WrotePrefix report old new = (new ≡ old) ⊎ ((answer : PrintedAnswer) × report answer × AppendsPrefix old new answer.0)

-- all of the report was written and nothing else, and this is its status
abbrev pub WroteAll : (PrintedAnswer → Type 0) → Option (List ℕ) → Option (List ℕ) → Status → Type 0
WroteAll report old new status = (answer : PrintedAnswer) × report answer × Appends old new answer.0 × (status_seen answer.1 ≡ status)

-- what was written, by the status
abbrev pub Wrote : (PrintedAnswer → Type 0) → Option (List ℕ) → Option (List ℕ) → Status → Type 0
Wrote report old new Passed = WroteAll report old new Passed
Wrote report old new Failed = WroteAll report old new Failed
Wrote report old new Interrupted = WroteAll report old new Interrupted
Wrote report old new Usage = WroteAll report old new Usage
Wrote report old new NoTests = WroteAll report old new NoTests
Wrote report old new OutOfMemory = WrotePrefix report old new
Wrote report old new TreeFault = new ≡ old
Wrote report old new SinkFault = WrotePrefix report old new
