use Rattle.differing_calls.proofs.Apart as apart
use Rattle.differing_calls.proofs.failed_asserts_can_end_alike.Goals as goal

pub returns-clause-bare : goal.returns-clause-bare
returns-clause-bare c = apart.bare

pub returns-clause-messages : goal.returns-clause-messages
returns-clause-messages c = apart.messages
