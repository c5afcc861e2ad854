-- What is shown of the parts of a condition, form by form.
use Rattle.std.specs.Prelude.{ℕ, suc, Bool, true, false, List, [], ◌++◌, codes, if◌then◌else◌, Option, Some, None, slice_get}
use Rattle.py_tree.specs.declared.expr.ArgName.{ArgName}
use Rattle.py_tree.specs.declared.op.CmpOp.{CmpOp}
use Rattle.py_tree.specs.Trees.{Tree}
use Rattle.py_values.specs.declared.object.Obj.{Obj}
use Rattle.py_world.specs.World.{Temps}
use Rattle.py_world.specs.Explained.{Explanation, shows, came_from, compare_word, evaluated, kept_text, kept_value, leaf_show, show_part, value_is_shown_by_name}
use Rattle.assert_explain.specs.declared.parts.Joint.{Joint}
use Rattle.assert_explain.specs.declared.parts.Joint.TheVariants as joint

-- one part more behind others, with a word between them; the first one stands alone
abbrev pub joined_with : List ℕ → Bool → Explanation → Explanation → Explanation
joined_with word true j s = s
joined_with word false j s = shows (j.text ++ (word ++ s.text)) (j.facts ++ s.facts)

abbrev pub in_parens : Explanation → Explanation
in_parens s = shows (codes "(" ++ (s.text ++ codes ")")) s.facts

-- what is called with its arguments
abbrev pub called_with : Explanation → Explanation → Explanation
called_with how given = shows (how.text ++ (codes "(" ++ (given.text ++ codes ")"))) (how.facts ++ given.facts)

-- the name of the argument at a place, where it has one
abbrev pub arg_name_in : Option (Option ArgName) → Option ArgName
arg_name_in (Some name) = name
arg_name_in None = None

abbrev pub arg_name_at : List (Option ArgName) → ℕ → Option ArgName
arg_name_at names at = arg_name_in (slice_get names at)

-- the word of the operator at a place
abbrev pub word_at : List CmpOp → ℕ → List ℕ
word_at ops at = compare_word (slice_get ops at)

-- the word between operands, with the spaces around it
abbrev pub joint_text : Joint → List ℕ
joint_text joint.And = codes " and "
joint_text joint.Or = codes " or "

module _ (heap : List Obj) (kept : Temps) (n : ℕ) where
  abbrev pub name_show : List ℕ → Explanation
  name_show name = if value_is_shown_by_name heap (kept_value heap kept n) then shows name [] else leaf_show heap kept n

  -- a call of what is shown, with arguments that are
  abbrev pub call_with : Explanation → Explanation → Explanation
  call_with callee given = let how : Explanation = called_with callee given in came_from (kept_text heap kept (kept_value heap kept n)) how.text how.facts

  abbrev pub attribute_show : Tree → List ℕ → Explanation
  attribute_show e name =
      let s : Explanation = show_part heap kept (suc n) e in came_from (kept_text heap kept (kept_value heap kept n)) (s.text ++ (codes "." ++ name)) s.facts

  -- an operand behind others, where it was evaluated
  abbrev pub with_operand : List ℕ → Tree → Explanation → Explanation
  with_operand word e j = if evaluated [] kept n e then joined_with word false j (show_part heap kept n e) else j
