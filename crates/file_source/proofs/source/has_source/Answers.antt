use Rattle.file_source.proofs.OneSource as law
use Rattle.file_source.proofs.source.has_source.Goals as goal

pub returns : goal.returns
returns c = law.has_source
