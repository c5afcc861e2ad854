use Rattle.std.proofs.Common.{refl}
use Rattle.std.proofs.lemmas.Result.{IfOk-weaker}
use Rattle.worker_tests.specs.Letters.{letters}
use Rattle.worker_tests.proofs.shared.run_letters.Goals as goal

pub returns : goal.returns
returns g c = IfOk-weaker c.run_workers.result _ _ (λ run is. is letters refl) c.run_workers.ensures.run
