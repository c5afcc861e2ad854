use Rattle.std.proofs.Common.{◌+◌, ◌*◌}
use Rattle.machine_immediate.proofs.immediate.+value.Given as goal

abbrev pub decreases-find_value : goal.decreases-find_value
decreases-find_value l = l.room * 8

abbrev pub decreases-compound : goal.decreases-compound
decreases-compound l = l.room * 8 + 7

abbrev pub decreases-unary : goal.decreases-unary
decreases-unary l = l.room * 8 + 1

abbrev pub decreases-binary : goal.decreases-binary
decreases-binary l = l.room * 8 + 1

abbrev pub decreases-comparison : goal.decreases-comparison
decreases-comparison l = l.room * 8 + 1

abbrev pub decreases-negation : goal.decreases-negation
decreases-negation l = l.room * 8 + 1

abbrev pub decreases-bind_arguments : goal.decreases-bind_arguments
decreases-bind_arguments l = l.room * 8 + 2

abbrev pub decreases-call : goal.decreases-call
decreases-call l = l.room * 8 + 6

abbrev pub decreases-run_code : goal.decreases-run_code
decreases-run_code l = l.room * 8 + 2

abbrev pub decreases-block_end : goal.decreases-block_end
decreases-block_end l = l.room * 8 + 1

abbrev pub decreases-statement_end : goal.decreases-statement_end
decreases-statement_end l = l.room * 8 + 5

abbrev pub decreases-return_end : goal.decreases-return_end
decreases-return_end l = l.room * 8 + 1

abbrev pub decreases-choice_end : goal.decreases-choice_end
decreases-choice_end l = l.room * 8 + 4
