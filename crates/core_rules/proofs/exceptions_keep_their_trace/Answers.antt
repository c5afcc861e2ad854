use Rattle.core_rules.proofs.Raising as raising
use Rattle.core_rules.proofs.exceptions_keep_their_trace.Goals as goal

pub returns-clause-again : goal.returns-clause-again
returns-clause-again c = raising.raised_twice

pub returns-clause-bound : goal.returns-clause-bound
returns-clause-bound c = raising.raised_bound

pub returns-clause-taken : goal.returns-clause-taken
returns-clause-taken c = raising.raised_taken

pub returns-clause-finally : goal.returns-clause-finally
returns-clause-finally c = raising.finally_runs
