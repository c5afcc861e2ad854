use Rattle.std.proofs.Common.{sym, ap, ◌∙◌, ◌++◌}
use Rattle.std.specs.Prelude.{option_map}
use Rattle.std.specs.Map.Iter.{deref_pair}
use Rattle.fixture_definitions.specs.Definitions as definitions
use Rattle.collect_names.proofs.Entries.{further, whole}
use Rattle.fixture_definitions.proofs.definitions.push_classes.Goals as goal

pub returns-in_default : goal.returns-in_default
returns-in_default c =
    whole (definitions.class_defines c.args.heap.now c.args.placed) c.loop-at.found.items _ c.args.names.now c.loop-at.at c.loop-at.invariant
    (ap (option_map deref_pair) (sym c.in_default.is) ∙ c.entry.ensures)

pub loop-at-preserved : goal.loop-at-preserved
loop-at-preserved c =
    further (definitions.class_defines c.args.heap.now c.args.placed) c.loop-at.found.items c.push_class.new.found.items _ c.args.names.now c.loop-at.at (c.in-Some.name.now, c.in-Some.v.now) c.loop-at.invariant
    (ap (option_map deref_pair) (sym c.in-Some.is) ∙ c.entry.ensures)
    (c.in_ok-push_class.ensures ∙ ap (λ name. c.loop-at.found.items ++ definitions.class_defines c.args.heap.now c.args.placed (name, c.in-Some.v.now)) c.text.ensures)
