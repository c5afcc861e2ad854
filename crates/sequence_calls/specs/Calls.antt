-- The built-in functions that make sequences and dicts, or ask all elements (Python library reference, built-in functions).
use Rattle.std.specs.Prelude.{ℕ, List, [], length, codes, true, false, if◌then◌else◌}
use Rattle.call_products.specs.Arguments.{has_none, sole, pair}
use Rattle.call_products.specs.Elements.{elements_of}
use Rattle.call_products.specs.Products.{plain, made_or_wrong}
use Rattle.call_products.specs.declared.product.Product.{Product}
use Rattle.dict_methods.specs.Copies.{copy_made}
use Rattle.dict_methods.specs.Dicts.{dict_in}
use Rattle.sorting.specs.Calls.{sorted_call, reversing}
use Rattle.sequence_calls.specs.Ranges.{span_given, span_made}
use Rattle.sequence_calls.specs.Sequences.{list_made, tuple_of_value, reversed_made, enumerate_made, zip_values}
use Rattle.sequence_calls.specs.Truths.{decided_of}
use Rattle.py_values.specs.declared.builtin.SequenceCall.{SequenceCall}
use Rattle.py_values.specs.declared.builtin.SequenceCall.TheVariants as sequence
use Rattle.py_values.specs.declared.end.Effect.TheVariants.{New}
use Rattle.py_values.specs.declared.object.Obj.{Obj}
use Rattle.py_values.specs.declared.object.Obj.TheVariants as obj
use Rattle.py_values.specs.declared.value.Value.{Value}

abbrev pub sequence_call_of : SequenceCall → List Obj → List Value → List (List ℕ × Value) → Product
sequence_call_of sequence.All heap args named = decided_of heap true (codes "all") (sole args named)
sequence_call_of sequence.Any heap args named = decided_of heap false (codes "any") (sole args named)
sequence_call_of sequence.Dict heap args named = if has_none args named then plain (New (obj.Dict []) 0) else made_or_wrong (codes "dict") (λ es. copy_made es 0) (dict_in heap (sole args named))
sequence_call_of sequence.Enumerate heap args named = made_or_wrong (codes "enumerate") (λ v. enumerate_made (length heap) (elements_of heap (length heap) v)) (sole args named)
sequence_call_of sequence.List heap args named = made_or_wrong (codes "list") (λ v. list_made (elements_of heap (length heap) v)) (sole args named)
sequence_call_of sequence.Range heap args named = made_or_wrong (codes "range") span_made (span_given args named)
sequence_call_of sequence.Reversed heap args named = made_or_wrong (codes "reversed") (λ v. reversed_made (elements_of heap (length heap) v)) (sole args named)
sequence_call_of sequence.Sorted heap args named = sorted_call heap args (reversing heap named)
sequence_call_of sequence.Tuple heap args named = made_or_wrong (codes "tuple") (tuple_of_value heap) (sole args named)
sequence_call_of sequence.Zip heap args named = made_or_wrong (codes "zip") (λ p. zip_values heap p.0 p.1) (pair args named)
