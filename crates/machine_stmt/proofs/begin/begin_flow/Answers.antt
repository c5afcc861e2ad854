use Rattle.std.proofs.Common.{◌≡◌, ◌∙◌, [], ap}
use Rattle.std.proofs.lemmas.Result.{IfOk-weaker}
use Rattle.machine_state.specs.py_world.Contexts.{with_statement}
use Rattle.machine_state.specs.py_world.Loops.{for_statement}
use Rattle.machine_state.specs.py_world.Statements.{choose, loop}
use Rattle.machine_state.specs.core_meaning.Requests.{ForOf, TurnOf}
use Rattle.machine_state.specs.core_meaning.Expressions.{eval, parts_of}
use Rattle.machine_state.specs.core_meaning.Statements.{core_block_body, choices, define_class, define_fn, some_part, core_statement_at, try_at}
use Rattle.machine_state.specs.declared.machine.NextAction.{NextAction}
use Rattle.machine_state.specs.Places.{ends}
use Rattle.machine_state.specs.Frames.{layers_of, machine_rest, site_now, state_of, todo}
use Rattle.machine_unwind.proofs.machine_turns_lemmas.Same.{same_run}
use Rattle.machine_stmt.proofs.Blocks.{loop_begins, choice_begins, class_begins, define_begins, for_begins, try_begins, with_begins}
use Rattle.machine_stmt.proofs.begin.begin_flow.Goals as goal

pub returns-in-While-clause-next : goal.returns-in-While-clause-next
returns-in-While-clause-next c =
    let m = c.args.m.now in
    let m' = c.begin_loop.new.m in
    let kind = c.args.kind.now in
    let ls = layers_of m.stack.own in
    let p = site_now m in
    let s = state_of m in
    let k = machine_rest m in
    let tree = loop (TurnOf c.in-While.test.value c.in-While.body.value) (eval c.in-While.test.value) p s k in
    let whole = core_statement_at ls kind p s k in
    IfOk-weaker c.begin_loop.result (λ (d : NextAction). todo d m' ≡ tree) (λ (d : NextAction). ends m'.left (todo d m') ≡ ends m.left whole)
    (λ d h. same_run m.left m'.left (todo d m') whole c.begin_loop.ensures.left (h ∙ loop_begins ls kind p s k c.in-While.test c.in-While.body c.in-While.is)) c.begin_loop.ensures.next

pub returns-in-Def-clause-next : goal.returns-in-Def-clause-next
returns-in-Def-clause-next c =
    let m = c.args.m.now in
    let m' = c.begin_def.new.m in
    let kind = c.args.kind.now in
    let ls = layers_of m.stack.own in
    let p = site_now m in
    let s = state_of m in
    let k = machine_rest m in
    let tree = define_fn (parts_of c.in-Def.ds.value.items) (parts_of c.in-Def.es.value.items) c.in-Def.function.value p s k in
    let whole = core_statement_at ls kind p s k in
    IfOk-weaker c.begin_def.result (λ (d : NextAction). todo d m' ≡ tree) (λ (d : NextAction). ends m'.left (todo d m') ≡ ends m.left whole)
    (λ d h. same_run m.left m'.left (todo d m') whole c.begin_def.ensures.left (h ∙ define_begins ls kind p s k c.in-Def.ds c.in-Def.es c.in-Def.function c.in-Def.is)) c.begin_def.ensures.next

pub returns-in-Class-clause-next : goal.returns-in-Class-clause-next
returns-in-Class-clause-next c =
    let m = c.args.m.now in
    let m' = c.begin_class.new.m in
    let kind = c.args.kind.now in
    let ls = layers_of m.stack.own in
    let p = site_now m in
    let s = state_of m in
    let k = machine_rest m in
    let tree = define_class (parts_of c.in-Class.ds.value.items) (some_part c.in-Class.base) c.in-Class.class.value p s k in
    let whole = core_statement_at ls kind p s k in
    IfOk-weaker c.begin_class.result (λ (d : NextAction). todo d m' ≡ tree) (λ (d : NextAction). ends m'.left (todo d m') ≡ ends m.left whole)
    (λ d h. same_run m.left m'.left (todo d m') whole c.begin_class.ensures.left (h ∙ class_begins ls kind p s k c.in-Class.ds c.in-Class.base c.in-Class.class c.in-Class.is)) c.begin_class.ensures.next

pub returns-in-For-clause-next : goal.returns-in-For-clause-next
returns-in-For-clause-next c =
    let m = c.args.m.now in
    let m' = c.begin_for.new.m in
    let kind = c.args.kind.now in
    let ls = layers_of m.stack.own in
    let p = site_now m in
    let s = state_of m in
    let k = machine_rest m in
    let tree = for_statement (ForOf c.in-For.target.value c.in-For.body.value) (eval c.in-For.e.value) p s k in
    let whole = core_statement_at ls kind p s k in
    IfOk-weaker c.begin_for.result (λ (d : NextAction). todo d m' ≡ tree) (λ (d : NextAction). ends m'.left (todo d m') ≡ ends m.left whole)
    (λ d h. same_run m.left m'.left (todo d m') whole c.begin_for.ensures.left (h ∙ for_begins ls kind p s k c.in-For.target c.in-For.e c.in-For.body c.in-For.is)) c.begin_for.ensures.next

pub returns-in-Try-clause-next : goal.returns-in-Try-clause-next
returns-in-Try-clause-next c =
    let m = c.args.m.now in
    let m' = c.begin_try.new.m in
    let kind = c.args.kind.now in
    let ls = layers_of m.stack.own in
    let p = site_now m in
    let s = state_of m in
    let k = machine_rest m in
    let tree = try_at ls c.in-Try.body.value c.in-Try.guard.value p s k in
    let whole = core_statement_at ls kind p s k in
    IfOk-weaker c.begin_try.result (λ (d : NextAction). todo d m' ≡ tree) (λ (d : NextAction). ends m'.left (todo d m') ≡ ends m.left whole)
    (λ d h. same_run m.left m'.left (todo d m') whole c.begin_try.ensures.left (h ∙ try_begins ls kind p s k c.in-Try.body c.in-Try.guard c.in-Try.is)) c.begin_try.ensures.next

pub returns-in-With-clause-next : goal.returns-in-With-clause-next
returns-in-With-clause-next c =
    let m = c.args.m.now in
    let m' = c.begin_with.new.m in
    let kind = c.args.kind.now in
    let ls = layers_of m.stack.own in
    let p = site_now m in
    let s = state_of m in
    let k = machine_rest m in
    let tree = with_statement (eval c.in-With.e.value) c.in-With.name (core_block_body [] c.in-With.body.value) p s k in
    let whole = core_statement_at ls kind p s k in
    IfOk-weaker c.begin_with.result (λ (d : NextAction). todo d m' ≡ tree) (λ (d : NextAction). ends m'.left (todo d m') ≡ ends m.left whole)
    (λ d h. same_run m.left m'.left (todo d m') whole c.begin_with.ensures.left (h ∙ with_begins ls kind p s k c.in-With.e c.in-With.name c.in-With.body c.in-With.is)) c.begin_with.ensures.next

pub returns-in-If-clause-next : goal.returns-in-If-clause-next
returns-in-If-clause-next c =
    let m = c.args.m.now in
    let m' = c.begin_choice.new.m in
    let kind = c.args.kind.now in
    let ls = layers_of m.stack.own in
    let p = site_now m in
    let s = state_of m in
    let k = machine_rest m in
    let tree = choose (choices ls c.in-If.branches.value.items) (core_block_body ls c.in-If.other.value) p s k in
    let whole = core_statement_at ls kind p s k in
    IfOk-weaker c.begin_choice.result (λ (d : NextAction). ends m'.left (todo d m') ≡ ends m.left tree) (λ (d : NextAction). ends m'.left (todo d m') ≡ ends m.left whole)
    (λ d h. h ∙ ap (ends m.left) (choice_begins ls kind p s k c.in-If.branches c.in-If.other c.in-If.is)) c.begin_choice.ensures.next
