use Rattle.std.proofs.Common.{sym, ap, ◌∙◌, ◌++◌}
use Rattle.std.specs.Prelude.{option_map, option_copied}
use Rattle.std.specs.Map.Iter.{deref_pair}
use Rattle.collect_names.specs.Found as tests
use Rattle.collect_names.proofs.Entries.{further, whole, filtered, kept_one}
use Rattle.collect_names.proofs.names.push_tests.Goals as goal

pub returns-in_default : goal.returns-in_default
returns-in_default c =
    whole (kept_one (tests.is_test_function c.args.heap.now) (tests.test_function (option_copied c.args.class))) c.loop-at.found.items _ c.args.names.now c.loop-at.at c.loop-at.invariant
    (ap (option_map deref_pair) (sym c.in_default.is) ∙ c.entry.ensures)
    ∙ ap (λ ys. c.args.found.now.items ++ ys) (filtered (tests.is_test_function c.args.heap.now) (tests.test_function (option_copied c.args.class)) c.args.names.now)

pub loop-at-preserved : goal.loop-at-preserved
loop-at-preserved c =
    further (kept_one (tests.is_test_function c.args.heap.now) (tests.test_function (option_copied c.args.class))) c.loop-at.found.items c.push_test.new.found.items _ c.args.names.now c.loop-at.at (c.in-Some.name.now, c.in-Some.v.now) c.loop-at.invariant
    (ap (option_map deref_pair) (sym c.in-Some.is) ∙ c.entry.ensures)
    (c.in_ok-push_test.ensures ∙ ap (λ name. c.loop-at.found.items ++ kept_one (tests.is_test_function c.args.heap.now) (tests.test_function (option_copied c.args.class)) (name, c.in-Some.v.now)) c.text.ensures)
