use Rattle.differing_calls.proofs.Handled.{alike_sources, alike_loaded, comes, both_come, not_related}
use Rattle.differing_calls.proofs.calls_that_differ_before_an_assert_are_not_related.Goals as goal

pub returns-clause-sources : goal.returns-clause-sources
returns-clause-sources c = alike_sources

pub returns-clause-loaded : goal.returns-clause-loaded
returns-clause-loaded c = alike_loaded

pub returns-clause-comes : goal.returns-clause-comes
returns-clause-comes c = comes

pub returns-clause-both_come : goal.returns-clause-both_come
returns-clause-both_come c = both_come

pub returns-clause-refused : goal.returns-clause-refused
returns-clause-refused c = not_related
