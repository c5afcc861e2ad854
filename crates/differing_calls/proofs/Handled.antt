-- Calls that differ before a failed assert, which they handle.
use Rattle.std.proofs.Common.{◌≡◌, ℕ, List, true, false, refl, sym, ap, ◌∙◌}
use Rattle.std.specs.Prelude.{length}
use Rattle.py_values.specs.declared.value.Value.{Value}
use Rattle.py_kinds.specs.Truth.{truth}
use Rattle.py_kinds.specs.Builtins.{rows, classes, pytest_names}
use Rattle.py_kinds.specs.Classes.{is_a, is_of_value, is_exc_class, are_exc_classes}
use Rattle.source_meaning.specs.py_world.Exceptions.{takes_exception}
use Rattle.run_tree.specs.Todo as tree
use Rattle.run_tree.specs.Todo.{with_notes, run}
use Rattle.source_meaning.specs.py_world.Calls.{body_of}
use Rattle.source_meaning.specs.py_world.Runs.{told_by, call_of}
use Rattle.source_meaning.specs.Meaning.{source_semantics, source_call}
use Rattle.explain_law.specs.Choices as alike
use Rattle.explain_law.specs.Choices.{WorldsByChoice, worlds, script_at, code_at}
use Rattle.explain_law.specs.Stopping.{stopping, answering}
use Rattle.explain_law.specs.Law.{SourceEnding, SourceRun, ComeToAssert, ToldUntil, call_tree, differs}
use Rattle.explain_law.proofs.Told.{calls_until}
use Rattle.differing_calls.specs.Asserts.{none_or_each}
use Rattle.differing_calls.specs.Calls.{zero_alone, one_alone}
use Rattle.differing_calls.specs.Caught.{caught_path, caught_text, caught_code, with_caught, caught_loaded, the_f, call_of_f}
use Rattle.differing_calls.specs.Endings.{without_argument}
use Rattle.differing_calls.proofs.Apart.{parting, unrelated, bare}
use Rattle.differing_calls.proofs.Differ.{GivesZero, zero_and_another}
use Rattle.differing_calls.proofs.Comes.{SameNumber, heaps}

pub alike_sources : WorldsByChoice none_or_each (with_caught false) (with_caught true)
alike_sources = worlds (alike.SourcesByChoice.more caught_path caught_text (alike.code (script_at caught_code)) alike.SourcesByChoice.none) alike.CodesByChoice.none alike.FrozenByChoice.none _ _ _ _

pub alike_loaded : WorldsByChoice none_or_each (caught_loaded false) (caught_loaded true)
unfolding truth rows classes pytest_names
alike_loaded = worlds (alike.SourcesByChoice.more caught_path caught_text (alike.code (script_at caught_code)) alike.SourcesByChoice.none) (alike.CodesByChoice.more _ _ (code_at _ _ _) (alike.CodesByChoice.more _ _ (code_at _ _ _) alike.CodesByChoice.none)) alike.FrozenByChoice.none _ _ _ _

gives_zero : GivesZero (source_call the_f zero_alone 20 (caught_loaded false)).0.out
unfolding truth rows classes pytest_names is_a is_of_value is_exc_class are_exc_classes takes_exception
gives_zero = tt

gives_one : GivesZero (source_call the_f one_alone 20 (caught_loaded true)).0.out → ⊥
unfolding truth rows classes pytest_names is_a is_of_value is_exc_class are_exc_classes takes_exception
gives_one h = h

bare_zero : GivesZero (call_of (answering (differs none_or_each) without_argument) the_f zero_alone 20 (caught_loaded false)).0.out
unfolding truth rows classes pytest_names is_a is_of_value is_exc_class are_exc_classes takes_exception
bare_zero = tt

bare_one : GivesZero (call_of (answering (differs none_or_each) without_argument) the_f one_alone 20 (caught_loaded true)).0.out → ⊥
unfolding truth rows classes pytest_names is_a is_of_value is_exc_class are_exc_classes takes_exception
bare_one h = h

pub not_related : ToldUntil none_or_each 20 (call_tree the_f zero_alone (caught_loaded false)) (call_tree the_f one_alone (caught_loaded true)) (source_call the_f zero_alone 20 (caught_loaded false)) (source_call the_f one_alone 20 (caught_loaded true)) → ⊥
not_related h = unrelated none_or_each told_by h (λ e. zero_and_another e.0 gives_zero gives_one) without_argument without_argument (bare none_or_each) (λ e. zero_and_another e.0 bare_zero bare_one)

-- the explanation is one object more
text_more : SameNumber (length (source_call the_f zero_alone 20 (caught_loaded false)).1.heap) (length (source_call the_f zero_alone 20 (caught_loaded true)).1.heap) → ⊥
unfolding truth rows classes pytest_names is_a is_of_value is_exc_class are_exc_classes takes_exception
text_more h = h

-- the same call comes to the assert under both choices
pub comes : ComeToAssert none_or_each 20 (call_of_f zero_alone false) (call_of_f zero_alone true)
comes = parting none_or_each told_by (calls_until none_or_each _ _ alike_loaded the_f zero_alone 20) (λ h. text_more (heaps none_or_each h.1))

-- and so it does with another argument
more_with_one : SameNumber (length (source_call the_f one_alone 20 (caught_loaded false)).1.heap) (length (source_call the_f one_alone 20 (caught_loaded true)).1.heap) → ⊥
unfolding truth rows classes pytest_names is_a is_of_value is_exc_class are_exc_classes takes_exception
more_with_one h = h

comes_with_one : ComeToAssert none_or_each 20 (call_of_f one_alone false) (call_of_f one_alone true)
comes_with_one = parting none_or_each told_by (calls_until none_or_each _ _ alike_loaded the_f one_alone 20) (λ h. more_with_one (heaps none_or_each h.1))

abbrev stopping_run : List Value → SourceRun
stopping_run args = run (body_of (stopping (differs none_or_each))) 20 (call_of_f args true)

-- what the runs stand at does not show the argument
same_stop : stopping_run zero_alone ≡ stopping_run one_alone
unfolding truth rows classes pytest_names is_a is_of_value is_exc_class are_exc_classes takes_exception
same_stop = refl

abbrev left_of : SourceEnding → ℕ
left_of (tree.Ended o left) = left
left_of (tree.Spent x) = 0
left_of (tree.Frozen f left) = left

-- calls with different arguments come to the same assert
pub both_come : ComeToAssert none_or_each 20 (call_of_f zero_alone false) (call_of_f one_alone true)
both_come =
    let e = sym comes_with_one.second.stands ∙ (sym same_stop ∙ comes.second.stands) in
    let notes = ap (λ (r : SourceRun). r.0) e in
    let left = ap (λ (r : SourceRun). left_of r.1) e in
    record {
      notes = comes.notes;
      left = comes.left;
      here = comes.here;
      there = comes.there;
      first = comes.first;
      second = record { stands = sym same_stop ∙ comes.second.stands; rest = comes_with_one.second.rest; goes_on = comes_with_one.second.goes_on ∙ (λ i. with_notes (notes i) (run (body_of source_semantics) (left i) comes_with_one.second.rest)) };
      same = comes.same;
    }
