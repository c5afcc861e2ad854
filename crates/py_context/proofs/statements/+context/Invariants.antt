use Rattle.std.proofs.Common.{◌≡◌, ◌+◌, true, drop, length}
use Rattle.py_tree.specs.Statements.{block, branches, handlers}
use Rattle.py_grammar.specs.Context.{first_pos, misplaced, misplaced_branches, misplaced_handlers}
use Rattle.py_context.specs.Standing.{where_of}
use Rattle.py_context.proofs.StatementPlaces.{over, of_stmt, of_branch, handler_list}
use Rattle.py_context.proofs.statements.+context.Given as goal

abbrev pub invariant-in_stmts-loop-stmt : goal.invariant-in_stmts-loop-stmt
invariant-in_stmts-loop-stmt l = first_pos (over (of_stmt (where_of l.w)) (drop l.stmt-index l.stmts)) ≡ first_pos (misplaced (where_of l.w) (block l.stmts))

abbrev pub invariant-in_branches-loop-branch : goal.invariant-in_branches-loop-branch
invariant-in_branches-loop-branch l = first_pos (over (of_branch (where_of l.w)) (drop l.branch-index l.all)) ≡ first_pos (misplaced_branches (where_of l.w) (branches l.all))

abbrev pub invariant-in_handlers-loop-handler : goal.invariant-in_handlers-loop-handler
invariant-in_handlers-loop-handler l = record {
  rest : first_pos (handler_list (where_of l.w) (drop l.handler-index l.all)) ≡ first_pos (misplaced_handlers (where_of l.w) true (handlers l.all));
  further : l.further + l.handler-index ≡ length l.all;
}
