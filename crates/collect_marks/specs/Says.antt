-- What `skip`, `skipif` and `xfail` say of an item (pytest's how-to guide, "How to use skip and xfail to deal with tests that cannot succeed").
use Rattle.std.specs.Prelude.{ℕ, Bool, true, false, ◌&&◌, List, [], ◌∷◌, Option, Some, None, codes, find, option_map}
use Rattle.collect_marks.specs.declared.xfail.Xfail.{Xfail}
use Rattle.collect_names.specs.Objects.{object_in}
use Rattle.collect_names.specs.py_kinds.Truth.{truth}
use Rattle.py_values.specs.Names.{find_name, name_eq}
use Rattle.py_values.specs.declared.object.MarkObj.{MarkObj}
use Rattle.py_values.specs.declared.object.Obj.{Obj}
use Rattle.py_values.specs.declared.object.Obj.TheVariants as obj
use Rattle.py_values.specs.declared.value.Value.{Value}
use Rattle.py_values.specs.declared.value.Value.TheVariants as val

-- the text that an object is, and empty where it is none
abbrev pub shown_text : Option Obj → List ℕ
shown_text (Some (obj.Text x)) = x
shown_text (Some (obj.List x)) = []
shown_text (Some (obj.Tuple x)) = []
shown_text (Some (obj.Dict x)) = []
shown_text (Some (obj.Range x)) = []
shown_text (Some (obj.Function x)) = []
shown_text (Some (obj.Method x)) = []
shown_text (Some (obj.Builtin x)) = []
shown_text (Some (obj.Class x)) = []
shown_text (Some (obj.Instance x)) = []
shown_text (Some (obj.Exception x)) = []
shown_text (Some (obj.Module x)) = []
shown_text (Some (obj.Fixture x)) = []
shown_text (Some obj.MarkMaker) = []
shown_text (Some (obj.Mark x)) = []
shown_text (Some (obj.Hook x)) = []
shown_text (Some (obj.Param x)) = []
shown_text (Some (obj.Request x)) = []
shown_text (Some (obj.Raises x)) = []
shown_text (Some (obj.Info x)) = []
shown_text (Some (obj.Item x)) = []
shown_text None = []

abbrev pub reason_text : List Obj → Option Value → List ℕ
reason_text heap (Some v) = shown_text (object_in heap v)
reason_text heap None = []

-- the reason that a mark gives; empty where it gives none
abbrev pub mark_reason : List Obj → MarkObj → List ℕ
mark_reason heap mark = reason_text heap (find_name (codes "reason") mark.named)

abbrev pub is_called : List ℕ → MarkObj → Bool
is_called name mark = name_eq name mark.name

-- the condition of a mark is its first argument
abbrev pub condition : List Value → Option Value
condition (v ∷ vs) = Some v
condition [] = None

-- whether a condition is true, or what is said where there is none
abbrev pub is_met : List Obj → Bool → Option Value → Bool
is_met heap absent (Some v) = truth heap v
is_met heap absent None = absent

-- a `skipif` whose condition is true
abbrev pub skips_if : List Obj → MarkObj → Bool
skips_if heap mark = is_called (codes "skipif") mark && is_met heap false (condition mark.args)

abbrev pub sooner_mark : Option MarkObj → Option MarkObj → Option MarkObj
sooner_mark (Some mark) other = Some mark
sooner_mark None other = other

-- WHY AN ITEM IS SKIPPED, where it is: by the nearest `skipif` whose condition is true, else by the nearest `skip`
unfoldable pub skipped_by : List Obj → List MarkObj → Option (List ℕ)
skipped_by heap marks = option_map (mark_reason heap) (sooner_mark (find (skips_if heap) marks) (find (is_called (codes "skip")) marks))

-- an `xfail` whose condition is true or absent
abbrev pub expects : List Obj → MarkObj → Bool
expects heap mark = is_called (codes "xfail") mark && is_met heap true (condition mark.args)

-- `raises=None` is as no `raises`
abbrev pub unless_none : Option Value → Option Value
unless_none (Some val.None) = None
unless_none (Some (val.Bool b)) = Some (val.Bool b)
unless_none (Some (val.Int n)) = Some (val.Int n)
unless_none (Some (val.Ref id)) = Some (val.Ref id)
unless_none None = None

abbrev pub xfail_said : List Obj → MarkObj → Xfail
xfail_said heap mark = record {
  reason = mark_reason heap mark;
  raises = unless_none (find_name (codes "raises") mark.named);
  strict = is_met heap false (find_name (codes "strict") mark.named);
}

-- WHAT IS EXPECTED OF AN ITEM, where something is: by the nearest `xfail` that applies
unfoldable pub xfail_of : List Obj → List MarkObj → Option Xfail
xfail_of heap marks = option_map (xfail_said heap) (find (expects heap) marks)
