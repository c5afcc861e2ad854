use Rattle.std.proofs.Common.{◌≡◌, ◌+◌, ◌*◌, nat_le, length}
use Rattle.py_tree.specs.Statements.{block, branches, handlers}
use Rattle.statement_readers.specs.Words.{elifs_on, excepts_on, stmts_on, block_at}
use Rattle.py_parse.proofs.blocks.+block.Given as goal

abbrev pub decreases-block : goal.decreases-block
decreases-block l = 10 * l.levels

abbrev pub decreases-suite : goal.decreases-suite
decreases-suite l = 10 * l.levels + 1

abbrev pub decreases-suite_behind : goal.decreases-suite_behind
decreases-suite_behind l = 10 * l.levels + 2

abbrev pub decreases-arm : goal.decreases-arm
decreases-arm l = 10 * l.levels + 2

abbrev pub decreases-further_branches : goal.decreases-further_branches
decreases-further_branches l = 10 * l.levels + 3

abbrev pub decreases-choosing : goal.decreases-choosing
decreases-choosing l = 10 * l.levels + 4

abbrev pub decreases-looping : goal.decreases-looping
decreases-looping l = 10 * l.levels + 3

abbrev pub decreases-running : goal.decreases-running
decreases-running l = 10 * l.levels + 2

abbrev pub decreases-entering : goal.decreases-entering
decreases-entering l = 10 * l.levels + 2

abbrev pub decreases-handler : goal.decreases-handler
decreases-handler l = 10 * l.levels + 2

abbrev pub decreases-further_handlers : goal.decreases-further_handlers
decreases-further_handlers l = 10 * l.levels + 3

abbrev pub decreases-handling : goal.decreases-handling
decreases-handling l = 10 * l.levels + 4

abbrev pub decreases-trying : goal.decreases-trying
decreases-trying l = 10 * l.levels + 5

abbrev pub decreases-defining : goal.decreases-defining
decreases-defining l = 10 * l.levels + 2

abbrev pub decreases-classing : goal.decreases-classing
decreases-classing l = 10 * l.levels + 2

abbrev pub decreases-decorated : goal.decreases-decorated
decreases-decorated l = 10 * l.levels + 3

abbrev pub decreases-compound : goal.decreases-compound
decreases-compound l = 10 * l.levels + 6

abbrev pub decreases-statement : goal.decreases-statement
decreases-statement l = 10 * l.levels + 7

abbrev pub decreases-further_statements : goal.decreases-further_statements
decreases-further_statements l = 10 * l.levels + 8

abbrev pub decreases-statements : goal.decreases-statements
decreases-statements l = 10 * l.levels + 9

abbrev pub invariant-further_branches-loop-elif : goal.invariant-further_branches-loop-elif
invariant-further_branches-loop-elif l = elifs_on (block_at l.levels) (branches l.all.items, l.p.rest.now) ≡ elifs_on (block_at l.levels) (branches l.fn.first.items, l.fn.p.rest.now)

abbrev pub decreases-further_branches-loop-elif : goal.decreases-further_branches-loop-elif
decreases-further_branches-loop-elif l = length l.p.rest.now

abbrev pub invariant-further_handlers-loop-except : goal.invariant-further_handlers-loop-except
invariant-further_handlers-loop-except l = excepts_on (block_at l.levels) (handlers l.all.items, l.p.rest.now) ≡ excepts_on (block_at l.levels) (handlers l.fn.first.items, l.fn.p.rest.now)

abbrev pub decreases-further_handlers-loop-except : goal.decreases-further_handlers-loop-except
decreases-further_handlers-loop-except l = length l.p.rest.now

abbrev pub invariant-further_statements-loop-first : goal.invariant-further_statements-loop-first
invariant-further_statements-loop-first l = stmts_on (block_at l.levels) (nat_le 1 l.levels) (block l.all.items, l.p.rest.now) ≡ stmts_on (block_at l.levels) (nat_le 1 l.levels) (block l.fn.first.items, l.fn.p.rest.now)

abbrev pub decreases-further_statements-loop-first : goal.decreases-further_statements-loop-first
decreases-further_statements-loop-first l = length l.p.rest.now
