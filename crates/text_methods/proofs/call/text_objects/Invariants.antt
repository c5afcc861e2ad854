use Rattle.std.proofs.Common.{◌≡◌, map}
use Rattle.py_values.specs.declared.object.Obj.TheVariants.{Text}
use Rattle.text_methods.proofs.call.text_objects.Given as goal

abbrev pub invariant-loop-text : goal.invariant-loop-text
invariant-loop-text l = l.objects.items ≡ map Text l.yielded
