-- How a report names the fixtures of a suite.
use Rattle.std.specs.Prelude.{ℕ, List, [], ◌∷◌, encode_utf8_all, if◌then◌else◌}
use Rattle.fixture_world.specs.fixture_calls.Arguments.{names_request}
use Rattle.runtest_reports.specs.report_rules.Collected.{FixtureTexts}
use Rattle.test_suite.specs.Suites.{fixture_at}
use Rattle.test_suite.specs.declared.suite.Suite.{Suite}

-- names but `request`
abbrev pub texts_of : List (List ℕ) → List (List ℕ)
texts_of [] = []
texts_of (name ∷ names) = if names_request name then texts_of names else encode_utf8_all name ∷ texts_of names

-- THE NAMES of a fixture and of its arguments but `request`
abbrev pub fixture_texts : Suite → ℕ → FixtureTexts
fixture_texts suite d = record { name = encode_utf8_all (fixture_at suite d).name; arguments = texts_of (fixture_at suite d).arguments }
