-- The functions of fixtures, which may stop at a `yield` (pytest's fixture guide, "Teardown/Cleanup (AKA Fixture finalization)").
use Rattle.std.specs.Prelude.{ℕ, Bool, List, ◌++◌, Option, None, codes, if◌then◌else◌}
use Rattle.py_values.specs.declared.class.ExcClass.TheVariants as class
use Rattle.py_values.specs.declared.value.Value.{Value}
use Rattle.py_values.specs.declared.value.Value.TheVariants as val
use Rattle.py_world.specs.Resuming.{BegunOut, Yielded, Over, SentValue, ToldBegun, abandon_of}
use Rattle.py_world.specs.declared.ended.Outcome.{Outcome}
use Rattle.py_world.specs.declared.ended.Outcome.TheVariants as out
use Rattle.py_machine.specs.Worlds.{spent_world}
use Rattle.py_machine.specs.source_meaning.Meaning.{SourceWorld, source_begin, source_resume}
use Rattle.py_machine.specs.source_meaning.Requests.{source_kinds}
use Rattle.test_suite.specs.declared.fixture.Fixture.{Fixture}
use Rattle.test_suite.specs.declared.item.BoundArgument.{BoundArgument}
use Rattle.fixture_calls.specs.Arguments.{positional}
use Rattle.fixture_calls.specs.Failing.{as_failure, exhausted, made_for}
use Rattle.fixture_calls.specs.declared.failure.Failure.{Failure}
use Rattle.fixture_calls.specs.declared.failure.Failure.TheVariants.{Exception}
use Rattle.fixture_calls.specs.declared.yields.FixtureEnd.{FixtureEnd}
use Rattle.fixture_calls.specs.declared.yields.FixtureEnd.TheVariants as end

abbrev pub raised_end : Failure × SourceWorld → FixtureEnd × SourceWorld
raised_end f = (end.Raised f.0, f.1)

-- how a body is over
abbrev pub over_end : ℕ → Outcome → SourceWorld → FixtureEnd × SourceWorld
over_end limit (out.Value v) w = (end.Returned v, w)
over_end limit (out.Raised t) w = (end.Raised (Exception t), w)
over_end limit (out.Exhausted trace) w = raised_end (exhausted limit trace w)

-- how a body has ended: it is over, or stands at its `yield`
abbrev pub body_end : ℕ → BegunOut → SourceWorld → FixtureEnd × SourceWorld
body_end limit (Yielded v n) w = (end.Yielded v n, w)
body_end limit (Over o) w = over_end limit o w

abbrev pub body_ended : ℕ → ToldBegun source_kinds → FixtureEnd × SourceWorld
body_ended limit t = body_end limit t.0.out t.1

-- the instance of the item's class, for the function of a fixture that stands in a class
abbrev pub own_if : Bool → Option Value → Option Value
own_if in_class own = if in_class then own else None

-- A FIXTURE'S FUNCTION is called within the step limit, with what the row of the item binds, the instance, these values and this request;
-- one that yields stops there
unfoldable pub fixture_begun : ℕ → Fixture → List BoundArgument → Option Value → List Value → Option Value → SourceWorld → FixtureEnd × SourceWorld
fixture_begun limit f bound own values request w = body_ended limit (source_begin f.function (positional (own_if f.in_class own) bound f.arguments request values) limit w)

-- WHAT REMAINS behind a `yield` goes on within the step limit, with the sent value None
unfoldable pub fixture_resumed : ℕ → ℕ → SourceWorld → FixtureEnd × SourceWorld
fixture_resumed limit n w = body_ended limit (source_resume n (SentValue val.None) limit w)

-- WHAT REMAINS is given up
unfoldable pub fixture_abandoned : ℕ → SourceWorld → SourceWorld
fixture_abandoned n w = abandon_of n w

-- WHAT REMAINS is let go behind want of memory: the world is spent
abbrev pub fixture_given_up : ℕ → SourceWorld → SourceWorld
fixture_given_up n w = spent_world w

abbrev pub did_not_yield_text : List ℕ → List ℕ
did_not_yield_text name = codes "fixture '" ++ (name ++ codes "' did not yield")

-- A YIELD FIXTURE that ends without yielding has raised `ValueError`, at its `def`
unfoldable pub did_not_yield : Fixture → SourceWorld → Failure × SourceWorld
did_not_yield f w = as_failure (made_for f.defined class.ValueError (did_not_yield_text f.name) w)

-- ONE THAT YIELDS AGAIN has raised `Failed`, at its `def`
unfoldable pub yielded_again : Fixture → SourceWorld → Failure × SourceWorld
yielded_again f w = as_failure (made_for f.defined class.Failed (codes "fixture function has more than one 'yield'") w)
