use Rattle.std.proofs.Common.{refl}
use Rattle.worker_tests.specs.Letters.{letters}
use Rattle.worker_tests.proofs.letters.LettersBench.sizes.Goals as goal

pub returns-clause-collected : goal.returns-clause-collected
returns-clause-collected c = (letters, refl)
