use Rattle.std.proofs.Common.{ℕ, List, sym, ap, ◌∙◌, ◌++◌}
use Rattle.std.specs.Prelude.{option_map}
use Rattle.std.specs.Map.Iter.{deref_pair}
use Rattle.collect_names.specs.Found as tests
use Rattle.collect_names.proofs.Entries.{further, whole, filtered, kept_one}
use Rattle.collect_names.proofs.names.class_nodes.Goals as goal
use Rattle.py_values.specs.declared.value.Value.{Value}

-- the name of an entry
abbrev name_of_entry : List ℕ × Value → List ℕ
name_of_entry entry = entry.0

pub returns-in_default : goal.returns-in_default
returns-in_default c =
    whole (kept_one (tests.is_class_node c.args.heap.now) name_of_entry) c.loop-at.classes.items _ c.args.names.now c.loop-at.at c.loop-at.invariant
    (ap (option_map deref_pair) (sym c.in_default.is) ∙ c.entry.ensures)
    ∙ filtered (tests.is_class_node c.args.heap.now) name_of_entry c.args.names.now

pub loop-at-preserved : goal.loop-at-preserved
loop-at-preserved c =
    further (kept_one (tests.is_class_node c.args.heap.now) name_of_entry) c.loop-at.classes.items c.push_class.new.classes.items _ c.args.names.now c.loop-at.at (c.in-Some.name.now, c.in-Some.v.now) c.loop-at.invariant
    (ap (option_map deref_pair) (sym c.in-Some.is) ∙ c.entry.ensures)
    (c.in_ok-push_class.ensures ∙ ap (λ name. c.loop-at.classes.items ++ kept_one (tests.is_class_node c.args.heap.now) name_of_entry (name, c.in-Some.v.now)) c.text.ensures)
