-- Which items the expressions of a command line select (pytest's reference, "Command-line Flags", `-k` and `-m`).
use Rattle.std.specs.Prelude.{◌≡◌, ℕ, ◌++◌, Bool, true, ◌&&◌, List, Option, None, Some, Result, Ok, Err, codes, decimal, if◌then◌else◌}
use Rattle.std.specs.List.{list_all}
use Rattle.std.specs.Option.{option_map}
use Rattle.std.specs.Str.{chars}
use Rattle.cli_words.specs.declared.options.Options.{Options}
use Rattle.mark_expr.specs.Answer.{ParseResult, Reads, Wrong, TooDeep}
use Rattle.mark_expr.specs.Expression.{ExpressionTree, view}
use Rattle.mark_expr.specs.Matching.{truth}
use Rattle.mark_expr.specs.Text.{is_inline_space}
use Rattle.mark_expr.specs.declared.fault.ExprFault.{ExprFault}
use Rattle.mark_expr.specs.declared.fault.ExprFault.TheVariants as expr
use Rattle.mark_expr.specs.declared.matching.How.{How}
use Rattle.mark_expr.specs.declared.matching.How.TheVariants.{Part, Whole}
use Rattle.mark_expr.specs.declared.tree.MarkExpr.{MarkExpr}
use Rattle.selection.specs.Reading.{expression_answer}
use Rattle.selection.specs.declared.exprs.Exprs.{Exprs}
use Rattle.selection.specs.declared.fault.SelectionFault.{SelectionFault}
use Rattle.selection.specs.declared.fault.SelectionFault.TheVariants as faults
use Rattle.selection.specs.declared.fault.Flag.{Flag}
use Rattle.selection.specs.declared.fault.Flag.TheVariants.{Keyword, Marks}

-- the option's value, as it is given: empty without the option
abbrev pub flag_value : Options → Flag → List ℕ
flag_value o Keyword = o.keyword
flag_value o Marks = o.marks

-- a value that is empty or of blanks alone is no expression
abbrev pub is_blank_value : List ℕ → Bool
is_blank_value text = list_all is_inline_space text

-- what is answered for a value, if it is an expression
abbrev pub answer_for : List ℕ → Option ParseResult
answer_for text = if is_blank_value text then None else Some (expression_answer (chars text))

-- the expression that is read, if there is one
abbrev pub tree_in : Option ParseResult → Option ExpressionTree
tree_in None = None
tree_in (Some (Reads tree)) = Some tree
tree_in (Some (Wrong column)) = None
tree_in (Some TooDeep) = None

unfoldable pub tree_given : Options → Flag → Option ExpressionTree
tree_given o flag = tree_in (answer_for (flag_value o flag))

-- the flag_text of the option
abbrev pub flag_text : Flag → List ℕ
flag_text Keyword = codes "-k"
flag_text Marks = codes "-m"

-- the text of a fault
abbrev pub selection_text : SelectionFault → List ℕ
selection_text (faults.Wrong flag column) = codes "wrong expression in " ++ (flag_text flag ++ (codes " at column " ++ decimal column))
selection_text (faults.TooDeep flag) = codes "expression in " ++ (flag_text flag ++ codes " too deep")
selection_text faults.OutOfMemory = codes "out of memory"

-- why a value is refused
abbrev pub value_fault : Flag → Option ParseResult → Option SelectionFault
value_fault flag None = None
value_fault flag (Some (Reads tree)) = None
value_fault flag (Some (Wrong column)) = Some (faults.Wrong flag column)
value_fault flag (Some TooDeep) = Some (faults.TooDeep flag)

unfoldable pub flag_fault : Options → Flag → Option SelectionFault
flag_fault o flag = value_fault flag (answer_for (flag_value o flag))

abbrev pub earlier_fault : Option SelectionFault → Option SelectionFault → Option SelectionFault
earlier_fault None second = second
earlier_fault (Some fault) second = Some fault

-- the fault of `-k`, or else that of `-m`
abbrev pub expression_fault : Options → Option SelectionFault
expression_fault o = earlier_fault (flag_fault o Keyword) (flag_fault o Marks)

-- THE USAGE TEXT of options with an expression that is refused
unfoldable pub refused_expression : Options → Option (List ℕ)
refused_expression o = option_map selection_text (expression_fault o)

-- whether an expression accepts one of these names; where there is none, all are accepted
abbrev pub accepts : How → List (List ℕ) → Option ExpressionTree → Bool
accepts how names None = true
accepts how names (Some tree) = truth how names tree

-- WHETHER AN ITEM IS SELECTED, by the names that `-k` looks at, of which a part counts, and those of its marks, which count whole
unfoldable pub is_selected : Options → List (List ℕ) → List (List ℕ) → Bool
is_selected o keyword_names mark_names = accepts Part keyword_names (tree_given o Keyword) && accepts Whole mark_names (tree_given o Marks)

-- what options' expressions were read as
abbrev pub tree_seen : Option MarkExpr → Option ExpressionTree
tree_seen expr = option_map view expr

pub record AreExprs (o : Options) (exprs : Exprs) : Type 0 where
  pub keyword : tree_seen exprs.keyword ≡ tree_given o Keyword
  pub marks : tree_seen exprs.marks ≡ tree_given o Marks
  pub fine : refused_expression o ≡ None

-- the fault of an expression as that of its option
abbrev pub fault_seen : Flag → ExprFault → SelectionFault
fault_seen flag (expr.Bad column) = faults.Wrong flag column
fault_seen flag expr.Nesting = faults.TooDeep flag
fault_seen flag expr.OutOfMemory = faults.OutOfMemory

-- what was read of an option's value, for which that is answered
abbrev pub IsValueRead : Flag → Option ParseResult → Result (Option MarkExpr) SelectionFault → Type 0
IsValueRead flag answer (Ok read) = (tree_seen read ≡ tree_in answer) × (value_fault flag answer ≡ None)
IsValueRead flag answer (Err faults.OutOfMemory) = Unit {0}
IsValueRead flag answer (Err (faults.Wrong f column)) = value_fault flag answer ≡ Some (faults.Wrong f column)
IsValueRead flag answer (Err (faults.TooDeep f)) = value_fault flag answer ≡ Some (faults.TooDeep f)

-- why options were refused; want of memory has no cause in them
abbrev pub IsRefused : Options → SelectionFault → Type 0
IsRefused o faults.OutOfMemory = Unit {0}
IsRefused o (faults.Wrong flag column) = refused_expression o ≡ Some (selection_text (faults.Wrong flag column))
IsRefused o (faults.TooDeep flag) = refused_expression o ≡ Some (selection_text (faults.TooDeep flag))
