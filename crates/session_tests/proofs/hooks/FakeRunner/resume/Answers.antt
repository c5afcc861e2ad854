use Rattle.std.proofs.Common.{ℕ, List}
use Rattle.std.specs.Prelude.{⊤}
use Rattle.hook_order.specs.Answers.{IfEnded, IfInner}
use Rattle.hook_order.specs.declared.answers.Inner.{Inner}
use Rattle.hook_order.specs.declared.answers.Inner.TheVariants as inner
use Rattle.hook_order.specs.declared.answers.Ran.{Ran}
use Rattle.hook_order.specs.declared.answers.Ran.TheVariants as ran
use Rattle.session_tests.proofs.hooks.FakeRunner.resume.Goals as goal

abbrev Stay : Type 0
Stay = (frames : List ℕ) → ⊤ → ⊤

ended : (answer : Ran ℕ ℕ) → IfEnded answer Stay
ended (ran.Gave value) = λ frames t. t
ended (ran.Raised exception) = λ frames t. t
ended ran.OutOfMemory = tt

inside : (end : Inner ℕ ℕ) (answer : Ran ℕ ℕ) → IfInner end (IfEnded answer Stay)
inside inner.List answer = ended answer
inside (inner.Gave value) answer = ended answer
inside (inner.Raised exception) answer = ended answer
inside inner.OutOfMemory answer = tt

pub returns-clause-frames : goal.returns-clause-frames
returns-clause-frames c = inside c.args.inner c.answer_to.result
