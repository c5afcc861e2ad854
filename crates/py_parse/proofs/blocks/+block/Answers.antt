use Rattle.std.proofs.Common.{◌≡◌, true, false, [], ◌∷◌, length, refl, sym, ap, arith, Global}
use Rattle.py_tree.specs.Trees.{tree, trees}
use Rattle.py_tree.specs.Statements.{statement, block, branches, handlers}
use Rattle.py_tree.specs.declared.stmt.Handler.{Handler as HandlerNode}
use Rattle.py_tree.specs.declared.stmt.Stmt.{Stmt}
use Rattle.statement_readers.proofs.Suites.{left_some}
use Rattle.statement_readers.specs.Words.{starts, compound_begins, stmt, stmts}
use Rattle.std.specs.declared.vec.Vec.{Vec}
use Rattle.py_cursor.specs.token_kinds.Numbers as k
use Rattle.statement_readers.proofs.Turns.{first_takes}
use Rattle.statement_readers.proofs.Takes.{stmt_takes}
use Rattle.statement_readers.proofs.Suites.{arm_takes, handler_keeps, elifs_fails}
use Rattle.py_expression_parser.proofs.Made.{part_fails, made_reads}
use Rattle.statement_readers.specs.Words.{suite, suite_behind, arm, if_behind, while_behind, for_behind, with_behind, handler, handled, try_behind, def_behind, class_behind, decorated_behind, compound}
use Rattle.py_parse.proofs.blocks.+block.Goals as goal

pub further_branches-returns-in_default-arm : goal.further_branches-returns-in_default-arm
further_branches-returns-in_default-arm t c = elifs_fails c.args.levels (branches c.loop-elif.all.items) c.loop-elif.p.rest.now c.in-Some.elif.now c.take_op.new.self.rest.now c.arm.new.p.stop _ c.in-Some.ensures c.in_default-arm.ensures c.loop-elif.invariant

pub further_branches-loop-elif-smaller : goal.further_branches-loop-elif-smaller
further_branches-loop-elif-smaller t c = omega (arith, ap length c.in-Some-made.ensures.makes.1, first_takes (k.elif ∷ []) c.loop-elif.p.rest.now c.in-Some.elif.now c.take_op.new.self.rest.now c.in-Some.ensures, arm_takes c.args.levels c.take_op.new.self.rest.now (tree c.in-Some-arm.condition.value, block c.in-Some-arm.body.items) c.arm.new.p.rest.now c.in-Some-arm.ensures)

pub further_handlers-loop-except-smaller : goal.further_handlers-loop-except-smaller
further_handlers-loop-except-smaller t c = omega (arith, first_takes (k.except ∷ []) c.loop-except.p.rest.now c.in-Some.except.now c.take_op.new.self.rest.now c.in-Some.ensures, handler_keeps c.args.levels (handlers c.loop-except.all.items) c.in-Some.except.now.at c.take_op.new.self.rest.now (handlers c.in-Some-handler.more.items) c.handler.new.p.rest.now c.in-Some-handler.ensures)

pub further_statements-loop-first-smaller : goal.further_statements-loop-first-smaller
further_statements-loop-first-smaller t c = omega (arith, stmt_takes c.args.levels (block c.loop-first.all.items) c.loop-first.p.rest.now (block c.in-Some-statement.more.items) c.statement.new.p.rest.now c.in-Some-statement.ensures)

pub suite-returns-in_default : goal.suite-returns-in_default
unfolding suite
suite-returns-in_default t c = (part_fails c.expect_op.new.self.stop _ _ c.in_default.ensures)

pub suite-returns : goal.suite-returns
unfolding suite
suite-returns t c = rw (c.in-Some.ensures) c.block.ensures

pub suite_behind-returns-in-Some : goal.suite_behind-returns-in-Some
unfolding suite_behind
suite_behind-returns-in-Some t c = rw (c.in-Some.ensures) c.suite.ensures

pub arm-returns-in_default : goal.arm-returns-in_default
unfolding arm
arm-returns-in_default t c = (part_fails c.expression.new.p.stop _ _ c.in_default.ensures.reads)

pub arm-returns-in-None : goal.arm-returns-in-None
unfolding arm
arm-returns-in-None t c = rw (c.in-Some.ensures.reads) (part_fails c.suite.new.p.stop _ _ c.in-None.ensures)

pub arm-returns-in-Some-suite : goal.arm-returns-in-Some-suite
unfolding arm
arm-returns-in-Some-suite t c = rw (c.in-Some.ensures.reads, c.in-Some-suite.ensures) refl

pub looping-returns-in_default : goal.looping-returns-in_default
unfolding while_behind
looping-returns-in_default t c = part_fails c.arm.new.p.stop _ _ c.in_default.ensures

pub looping-returns : goal.looping-returns
unfolding while_behind
looping-returns t c = made_reads statement c.while_stmt.result c.arm.new.p.rest.now c.made.result c.made.new.self _ _ c.made.ensures.makes c.while_stmt.ensures (rw (c.in-Some.ensures) refl)

pub running-returns-in_default : goal.running-returns-in_default
unfolding for_behind
running-returns-in_default t c = part_fails c.targets.new.p.stop _ _ c.in_default.ensures.reads

pub running-returns-in_default-expect_op : goal.running-returns-in_default-expect_op
unfolding for_behind
running-returns-in_default-expect_op t c = rw (c.in-Some.ensures.reads) (part_fails c.expect_op.new.self.stop _ _ c.in_default-expect_op.ensures)

pub running-returns-in_default-expressions : goal.running-returns-in_default-expressions
unfolding for_behind
running-returns-in_default-expressions t c = rw (c.in-Some.ensures.reads, c.in-Some-expect_op.ensures) (part_fails c.expressions.new.p.stop _ _ c.in_default-expressions.ensures.reads)

pub running-returns-in_default-suite : goal.running-returns-in_default-suite
unfolding for_behind
running-returns-in_default-suite t c = rw (c.in-Some.ensures.reads, c.in-Some-expect_op.ensures, c.in-Some-expressions.ensures.reads) (part_fails c.suite.new.p.stop _ _ c.in_default-suite.ensures)

pub running-returns : goal.running-returns
unfolding for_behind
running-returns t c = made_reads statement c.for_stmt.result c.suite.new.p.rest.now c.made.result c.made.new.self _ _ c.made.ensures.makes c.for_stmt.ensures (rw (c.in-Some.ensures.reads, c.in-Some-expect_op.ensures, c.in-Some-expressions.ensures.reads, c.in-Some-suite.ensures) refl)

pub entering-returns-in_default : goal.entering-returns-in_default
unfolding with_behind
entering-returns-in_default t c = part_fails c.expression.new.p.stop _ _ c.in_default.ensures.reads

pub entering-returns-in_default-alias_behind : goal.entering-returns-in_default-alias_behind
unfolding with_behind
entering-returns-in_default-alias_behind t c = rw (c.in-Some.ensures.reads) (part_fails c.alias_behind.new.p.stop _ _ c.in_default-alias_behind.ensures)

pub entering-returns-in_default-suite : goal.entering-returns-in_default-suite
unfolding with_behind
entering-returns-in_default-suite t c = rw (c.in-Some.ensures.reads, c.in-Some-alias_behind.ensures) (part_fails c.suite.new.p.stop _ _ c.in_default-suite.ensures)

pub entering-returns : goal.entering-returns
unfolding with_behind
entering-returns t c = made_reads statement c.with_stmt.result c.suite.new.p.rest.now c.made.result c.made.new.self _ _ c.made.ensures.makes c.with_stmt.ensures (rw (c.in-Some.ensures.reads, c.in-Some-alias_behind.ensures, c.in-Some-suite.ensures) refl)

pub handler-returns-in_default : goal.handler-returns-in_default
unfolding handler
handler-returns-in_default t c = part_fails c.caught.new.p.stop _ _ c.in_default.ensures

pub handler-returns-in_default-suite : goal.handler-returns-in_default-suite
unfolding handler
handler-returns-in_default-suite t c = rw (c.in-Some.ensures) (part_fails c.suite.new.p.stop _ _ c.in_default-suite.ensures)

pub handler-returns : goal.handler-returns
unfolding handler
handler-returns t c = made_reads (λ (hs : Vec HandlerNode Global). handlers hs.items) c.add_handler.result c.suite.new.p.rest.now c.made.result c.made.new.self _ _ c.made.ensures.makes c.add_handler.ensures (rw (c.in-Some.ensures, c.in-Some-suite.ensures) refl)

pub defining-returns-in_default : goal.defining-returns-in_default
unfolding def_behind
defining-returns-in_default t c = part_fails c.name.new.p.stop _ _ c.in_default.ensures

pub defining-returns-in_default-expect_op : goal.defining-returns-in_default-expect_op
unfolding def_behind
defining-returns-in_default-expect_op t c = rw (c.in-Some.ensures) (part_fails c.expect_op.new.self.stop _ _ c.in_default-expect_op.ensures)

pub defining-returns-in_default-params : goal.defining-returns-in_default-params
unfolding def_behind
defining-returns-in_default-params t c = rw (c.in-Some.ensures, c.in-Some-expect_op.ensures) (part_fails c.params.new.p.stop _ _ c.in_default-params.ensures)

pub defining-returns-in_default-expression_behind : goal.defining-returns-in_default-expression_behind
unfolding def_behind
defining-returns-in_default-expression_behind t c = rw (c.in-Some.ensures, c.in-Some-expect_op.ensures, c.in-Some-params.ensures) (part_fails c.expression_behind.new.p.stop _ _ c.in_default-expression_behind.ensures)

pub defining-returns-in_default-suite : goal.defining-returns-in_default-suite
unfolding def_behind
defining-returns-in_default-suite t c = rw (c.in-Some.ensures, c.in-Some-expect_op.ensures, c.in-Some-params.ensures, c.in-Some-expression_behind.ensures) (part_fails c.suite.new.p.stop _ _ c.in_default-suite.ensures)

pub defining-returns : goal.defining-returns
unfolding def_behind
defining-returns t c = made_reads statement c.def_stmt.result c.suite.new.p.rest.now c.made.result c.made.new.self _ _ c.made.ensures.makes c.def_stmt.ensures (rw (c.in-Some.ensures, c.in-Some-expect_op.ensures, c.in-Some-params.ensures, c.in-Some-expression_behind.ensures, c.in-Some-suite.ensures) refl)

pub classing-returns-in_default : goal.classing-returns-in_default
unfolding class_behind
classing-returns-in_default t c = part_fails c.name.new.p.stop _ _ c.in_default.ensures

pub classing-returns-in_default-base : goal.classing-returns-in_default-base
unfolding class_behind
classing-returns-in_default-base t c = rw (c.in-Some.ensures) (part_fails c.base.new.p.stop _ _ c.in_default-base.ensures)

pub classing-returns-in_default-suite : goal.classing-returns-in_default-suite
unfolding class_behind
classing-returns-in_default-suite t c = rw (c.in-Some.ensures, c.in-Some-base.ensures) (part_fails c.suite.new.p.stop _ _ c.in_default-suite.ensures)

pub classing-returns : goal.classing-returns
unfolding class_behind
classing-returns t c = made_reads statement c.class_stmt.result c.suite.new.p.rest.now c.made.result c.made.new.self _ _ c.made.ensures.makes c.class_stmt.ensures (rw (c.in-Some.ensures, c.in-Some-base.ensures, c.in-Some-suite.ensures) refl)

pub choosing-returns-in_default : goal.choosing-returns-in_default
unfolding if_behind
choosing-returns-in_default t c = part_fails c.arm.new.p.stop _ _ c.in_default.ensures

pub choosing-returns-in_default-made : goal.choosing-returns-in_default-made
choosing-returns-in_default-made t c = rw (c.in_default-made.ensures.makes) tt

pub choosing-returns-in_default-further_branches : goal.choosing-returns-in_default-further_branches
unfolding if_behind
choosing-returns-in_default-further_branches t c =
    let n = rw (ap branches c.new-none.ensures.items) at (rw c.in-Some-made.ensures.makes.0 at c.add_branch.ensures) in
    rw (c.in-Some.ensures) (part_fails c.further_branches.new.p.stop _ _ (rw (n, c.in-Some-made.ensures.makes.1) at c.in_default-further_branches.ensures))

pub choosing-returns-in_default-suite_behind : goal.choosing-returns-in_default-suite_behind
unfolding if_behind
choosing-returns-in_default-suite_behind t c =
    let n = rw (ap branches c.new-none.ensures.items) at (rw c.in-Some-made.ensures.makes.0 at c.add_branch.ensures) in
    let b = rw (n, c.in-Some-made.ensures.makes.1) at c.in-Some-further_branches.ensures in
    rw (c.in-Some.ensures, b) (part_fails c.suite_behind.new.p.stop _ _ c.in_default-suite_behind.ensures)

pub choosing-returns : goal.choosing-returns
unfolding if_behind
choosing-returns t c =
    let n = rw (ap branches c.new-none.ensures.items) at (rw c.in-Some-made.ensures.makes.0 at c.add_branch.ensures) in
    let b = rw (n, c.in-Some-made.ensures.makes.1) at c.in-Some-further_branches.ensures in
    made_reads statement c.if_stmt.result c.suite_behind.new.p.rest.now c.made-2.result c.made-2.new.self _ _ c.made-2.ensures.makes c.if_stmt.ensures (rw (c.in-Some.ensures, b, c.in-Some-suite_behind.ensures) refl)

pub handling-returns-in_default : goal.handling-returns-in_default
unfolding handled
handling-returns-in_default t c = part_fails c.handler.new.p.stop _ _ (rw (ap handlers c.new-none.ensures.items) at c.in_default.ensures)

pub handling-returns-in_default-further_handlers : goal.handling-returns-in_default-further_handlers
unfolding handled
handling-returns-in_default-further_handlers t c =
    let h = rw (ap handlers c.new-none.ensures.items) at c.in-Some.ensures in
    rw (h) (part_fails c.further_handlers.new.p.stop _ _ c.in_default-further_handlers.ensures)

pub handling-returns-in_default-suite_behind : goal.handling-returns-in_default-suite_behind
unfolding handled
handling-returns-in_default-suite_behind t c =
    let h = rw (ap handlers c.new-none.ensures.items) at c.in-Some.ensures in
    rw (h, c.in-Some-further_handlers.ensures) (part_fails c.suite_behind.new.p.stop _ _ c.in_default-suite_behind.ensures)

pub handling-returns-in_default-suite_behind-2 : goal.handling-returns-in_default-suite_behind-2
unfolding handled
handling-returns-in_default-suite_behind-2 t c =
    let h = rw (ap handlers c.new-none.ensures.items) at c.in-Some.ensures in
    rw (h, c.in-Some-further_handlers.ensures, c.in-Some-suite_behind.ensures) (part_fails c.suite_behind-2.new.p.stop _ _ c.in_default-suite_behind-2.ensures)

pub handling-returns : goal.handling-returns
unfolding handled
handling-returns t c =
    let h = rw (ap handlers c.new-none.ensures.items) at c.in-Some.ensures in
    made_reads statement c.try_stmt.result c.suite_behind-2.new.p.rest.now c.made.result c.made.new.self _ _ c.made.ensures.makes c.try_stmt.ensures (rw (h, c.in-Some-further_handlers.ensures, c.in-Some-suite_behind.ensures, c.in-Some-suite_behind-2.ensures) refl)

pub trying-returns-in_default : goal.trying-returns-in_default
unfolding try_behind
trying-returns-in_default t c = part_fails c.suite.new.p.stop _ _ c.in_default.ensures

pub trying-returns-in-Some-take_op : goal.trying-returns-in-Some-take_op
unfolding try_behind
trying-returns-in-Some-take_op t c = rw (c.in-Some.ensures, c.in-Some-take_op.ensures) c.handling.ensures

pub compound-returns-in-Some : goal.compound-returns-in-Some
unfolding compound
compound-returns-in-Some t c = rw (c.in-Some.ensures) c.choosing.ensures

pub decorated-returns-in_default : goal.decorated-returns-in_default
unfolding decorated_behind
decorated-returns-in_default t c = part_fails c.decorators.new.p.stop _ _ c.in_default.ensures

pub decorated-returns-in-Some-take_op : goal.decorated-returns-in-Some-take_op
unfolding decorated_behind
decorated-returns-in-Some-take_op t c = rw (c.in-Some.ensures, c.in-Some-take_op.ensures) c.defining.ensures

pub compound-returns-in-Some-take_op : goal.compound-returns-in-Some-take_op
unfolding compound
compound-returns-in-Some-take_op t c = rw (c.in_default.ensures.0, sym c.in_default.ensures.1, c.in-Some-take_op.ensures) c.looping.ensures

pub compound-returns-in-Some-take_op-2 : goal.compound-returns-in-Some-take_op-2
unfolding compound
compound-returns-in-Some-take_op-2 t c = rw (c.in_default.ensures.0, sym c.in_default.ensures.1, c.in_default-take_op.ensures.0, sym c.in_default-take_op.ensures.1, c.in-Some-take_op-2.ensures) c.running.ensures

pub trying-returns-in_default-expect_op : goal.trying-returns-in_default-expect_op
unfolding try_behind
trying-returns-in_default-expect_op t c = rw (c.in-Some.ensures, c.in_default-take_op.ensures.0, sym c.in_default-take_op.ensures.1) (part_fails c.expect_op.new.self.stop _ _ c.in_default-expect_op.ensures)

pub decorated-returns-in_default-expect_op : goal.decorated-returns-in_default-expect_op
unfolding decorated_behind
decorated-returns-in_default-expect_op t c = rw (c.in-Some.ensures, c.in_default-take_op.ensures.0, sym c.in_default-take_op.ensures.1) (part_fails c.expect_op.new.self.stop _ _ c.in_default-expect_op.ensures)

pub decorated-returns : goal.decorated-returns
unfolding decorated_behind
decorated-returns t c = rw (c.in-Some.ensures, c.in_default-take_op.ensures.0, sym c.in_default-take_op.ensures.1, c.in-Some-expect_op.ensures) c.classing.ensures

pub compound-returns-in-Some-take_op-3 : goal.compound-returns-in-Some-take_op-3
unfolding compound
compound-returns-in-Some-take_op-3 t c = rw (c.in_default.ensures.0, sym c.in_default.ensures.1, c.in_default-take_op.ensures.0, sym c.in_default-take_op.ensures.1, c.in_default-take_op-2.ensures.0, sym c.in_default-take_op-2.ensures.1, c.in-Some-take_op-3.ensures) c.trying.ensures

pub compound-returns-in-Some-take_op-4 : goal.compound-returns-in-Some-take_op-4
unfolding compound
compound-returns-in-Some-take_op-4 t c = rw (c.in_default.ensures.0, sym c.in_default.ensures.1, c.in_default-take_op.ensures.0, sym c.in_default-take_op.ensures.1, c.in_default-take_op-2.ensures.0, sym c.in_default-take_op-2.ensures.1, c.in_default-take_op-3.ensures.0, sym c.in_default-take_op-3.ensures.1, c.in-Some-take_op-4.ensures) c.entering.ensures

pub compound-returns-in-Some-take_op-5 : goal.compound-returns-in-Some-take_op-5
unfolding compound
compound-returns-in-Some-take_op-5 t c = rw (c.in_default.ensures.0, sym c.in_default.ensures.1, c.in_default-take_op.ensures.0, sym c.in_default-take_op.ensures.1, c.in_default-take_op-2.ensures.0, sym c.in_default-take_op-2.ensures.1, c.in_default-take_op-3.ensures.0, sym c.in_default-take_op-3.ensures.1, c.in_default-take_op-4.ensures.0, sym c.in_default-take_op-4.ensures.1, c.in-Some-take_op-5.ensures) (rw (ap trees c.new-none.ensures.items) at c.defining.ensures)

pub compound-returns-in-Some-take_op-6 : goal.compound-returns-in-Some-take_op-6
unfolding compound
compound-returns-in-Some-take_op-6 t c = rw (c.in_default.ensures.0, sym c.in_default.ensures.1, c.in_default-take_op.ensures.0, sym c.in_default-take_op.ensures.1, c.in_default-take_op-2.ensures.0, sym c.in_default-take_op-2.ensures.1, c.in_default-take_op-3.ensures.0, sym c.in_default-take_op-3.ensures.1, c.in_default-take_op-4.ensures.0, sym c.in_default-take_op-4.ensures.1, c.in_default-take_op-5.ensures.0, sym c.in_default-take_op-5.ensures.1, c.in-Some-take_op-6.ensures) (rw (ap trees c.new-none-in-Some-take_op-6.ensures.items) at c.classing.ensures)

pub compound-returns-in_default-expect_op : goal.compound-returns-in_default-expect_op
unfolding compound
compound-returns-in_default-expect_op t c = rw (c.in_default.ensures.0, sym c.in_default.ensures.1, c.in_default-take_op.ensures.0, sym c.in_default-take_op.ensures.1, c.in_default-take_op-2.ensures.0, sym c.in_default-take_op-2.ensures.1, c.in_default-take_op-3.ensures.0, sym c.in_default-take_op-3.ensures.1, c.in_default-take_op-4.ensures.0, sym c.in_default-take_op-4.ensures.1, c.in_default-take_op-5.ensures.0, sym c.in_default-take_op-5.ensures.1, c.in_default-take_op-6.ensures.0, sym c.in_default-take_op-6.ensures.1) (part_fails c.expect_op.new.self.stop _ _ c.in_default-expect_op.ensures)

pub compound-returns : goal.compound-returns
unfolding compound
compound-returns t c = rw (c.in_default.ensures.0, sym c.in_default.ensures.1, c.in_default-take_op.ensures.0, sym c.in_default-take_op.ensures.1, c.in_default-take_op-2.ensures.0, sym c.in_default-take_op-2.ensures.1, c.in_default-take_op-3.ensures.0, sym c.in_default-take_op-3.ensures.1, c.in_default-take_op-4.ensures.0, sym c.in_default-take_op-4.ensures.1, c.in_default-take_op-5.ensures.0, sym c.in_default-take_op-5.ensures.1, c.in_default-take_op-6.ensures.0, sym c.in_default-take_op-6.ensures.1, c.in-Some-expect_op.ensures) c.decorated.ensures

pub trying-returns-in_default-suite : goal.trying-returns-in_default-suite
unfolding try_behind
trying-returns-in_default-suite t c = rw (c.in-Some.ensures, c.in_default-take_op.ensures.0, sym c.in_default-take_op.ensures.1, c.in-Some-expect_op.ensures) (part_fails c.suite-2.new.p.stop _ _ c.in_default-suite.ensures)

pub trying-returns : goal.trying-returns
unfolding try_behind
trying-returns t c =
    let m = rw (ap handlers c.new-all.ensures.items, ap block c.new-other.ensures.items) at c.try_stmt.ensures in
    made_reads statement c.try_stmt.result c.suite-2.new.p.rest.now c.made.result c.made.new.self _ _ c.made.ensures.makes m (rw (c.in-Some.ensures, c.in_default-take_op.ensures.0, sym c.in_default-take_op.ensures.1, c.in-Some-expect_op.ensures, c.in-Some-suite.ensures) refl)

pub statement-returns-then-not-at_any : goal.statement-returns-then-not-at_any
unfolding stmt
statement-returns-then-not-at_any t c =
    let b : starts compound_begins c.args.p.now.rest.now ≡ false = cc in
    rw b c.simples.ensures

pub statement-returns-in_default : goal.statement-returns-in_default
unfolding stmt
statement-returns-in_default t c =
    let b : starts compound_begins c.args.p.now.rest.now ≡ true = cc in
    rw (b, left_some c.args.levels (omega arith)) (part_fails c.compound.new.p.stop _ _ c.in_default.ensures)

pub statement-returns : goal.statement-returns
unfolding stmt
statement-returns t c =
    let b : starts compound_begins c.args.p.now.rest.now ≡ true = cc in
    made_reads (λ (x : Vec Stmt Global). block x.items) c.add_stmt.result c.compound.new.p.rest.now c.made.result c.made.new.self _ _ c.made.ensures.makes c.add_stmt.ensures (rw (b, left_some c.args.levels (omega arith), c.in-Some.ensures) refl)

pub statements-returns-in_default : goal.statements-returns-in_default
unfolding stmts
statements-returns-in_default t c = part_fails c.statement.new.p.stop _ _ (rw (ap block c.new-none.ensures.items) at c.in_default.ensures)

pub statements-returns : goal.statements-returns
unfolding stmts
statements-returns t c = rw (rw (ap block c.new-none.ensures.items) at c.in-Some.ensures) c.further_statements.ensures
