-- How a phase of an item has ended (pytest's how-to guide, "How to use skip and xfail to deal with tests that cannot succeed").
use Rattle.std.specs.Prelude.{Bool, true, false, List, [], ◌∷◌, Option, Some, None, if◌then◌else◌}
use Rattle.collect_marks.specs.declared.verdict.Verdict.{Verdict}
use Rattle.collect_marks.specs.declared.verdict.Verdict.TheVariants as verdict
use Rattle.collect_marks.specs.declared.xfail.Xfail.{Xfail}
use Rattle.collect_names.specs.Objects.{object_in}
use Rattle.collect_names.specs.py_kinds.Classes.{is_a, root_of, exc_eq, if_exc}
use Rattle.py_values.specs.declared.class.ClassRef.{ClassRef}
use Rattle.py_values.specs.declared.class.ExcClass.TheVariants as class
use Rattle.py_values.specs.declared.object.Obj.{Obj}
use Rattle.py_values.specs.declared.object.Obj.TheVariants as obj
use Rattle.py_values.specs.declared.value.Value.{Value}

-- the class of the exception that an object is
abbrev pub exception_class : Option Obj → Option ClassRef
exception_class (Some (obj.Exception x)) = Some x.class
exception_class (Some (obj.Text x)) = None
exception_class (Some (obj.List x)) = None
exception_class (Some (obj.Tuple x)) = None
exception_class (Some (obj.Dict x)) = None
exception_class (Some (obj.Range x)) = None
exception_class (Some (obj.Function x)) = None
exception_class (Some (obj.Method x)) = None
exception_class (Some (obj.Builtin x)) = None
exception_class (Some (obj.Class x)) = None
exception_class (Some (obj.Instance x)) = None
exception_class (Some (obj.Module x)) = None
exception_class (Some (obj.Fixture x)) = None
exception_class (Some obj.MarkMaker) = None
exception_class (Some (obj.Mark x)) = None
exception_class (Some (obj.Hook x)) = None
exception_class (Some (obj.Param x)) = None
exception_class (Some (obj.Request x)) = None
exception_class (Some (obj.Raises x)) = None
exception_class (Some (obj.Info x)) = None
exception_class (Some (obj.Item x)) = None
exception_class None = None

abbrev pub is_skip_class : List Obj → Option ClassRef → Bool
is_skip_class heap (Some c) = if_exc (λ root. exc_eq root class.Skipped) (root_of heap c)
is_skip_class heap None = false

-- what `pytest.skip` and the marks raise
abbrev pub is_skip : List Obj → Value → Bool
is_skip heap e = is_skip_class heap (exception_class (object_in heap e))

-- an exception of `raises`, or any where that is absent
abbrev pub covered_by : List Obj → Option Value → Value → Bool
covered_by heap (Some classes) e = is_a heap e classes
covered_by heap None e = true

abbrev pub covers : List Obj → Option Xfail → Value → Bool
covers heap (Some xfail) e = covered_by heap xfail.raises e
covers heap None e = false

-- a phase that raised these exceptions; several make one error, whatever they are
abbrev pub raised_verdict : List Obj → Option Xfail → List Value → Verdict
raised_verdict heap xfail [] = verdict.Passed
raised_verdict heap xfail (e ∷ []) = if is_skip heap e then verdict.Skipped else (if covers heap xfail e then verdict.Xfailed else verdict.Raised)
raised_verdict heap xfail (e ∷ f ∷ es) = verdict.Raised

abbrev pub passed_verdict : Option Xfail → Verdict
passed_verdict (Some xfail) = if xfail.strict then verdict.StrictXpassed else verdict.Xpassed
passed_verdict None = verdict.Passed

-- THE SET-UP
unfoldable pub set_up_verdict : List Obj → Option Xfail → List Value → Verdict
set_up_verdict heap xfail raised = raised_verdict heap xfail raised

-- THE CALL: one that passes was not to pass where an `xfail` applies
unfoldable pub call_verdict : List Obj → Option Xfail → List Value → Verdict
call_verdict heap xfail [] = passed_verdict xfail
call_verdict heap xfail (e ∷ es) = raised_verdict heap xfail (e ∷ es)

-- THE TEARDOWN: no `xfail` covers it
unfoldable pub teardown_verdict : List Obj → List Value → Verdict
teardown_verdict heap raised = raised_verdict heap None raised
