use Rattle.std.proofs.Common.{◌≡◌, ◌∙◌, ◌+◌, ◌<◌, ◌≤◌, ◌∷◌, ap, arith, drop, get_or, length, refl, rules}
use Rattle.std.proofs.lemmas.Result.{IfOk-weaker}
use Rattle.std.specs.List.{sum_by}
use Rattle.py_core.specs.Blocks.{handlers_in, stmts_in}
use Rattle.py_core.specs.declared.stmt.CoreGuard.{CoreGuard}
use Rattle.py_core.specs.declared.stmt.CoreHandler.{out-CoreHandler}
use Rattle.machine_state.specs.py_world.Exceptions.{handler_block, handlers_on}
use Rattle.machine_state.specs.core_meaning.Expressions.{eval}
use Rattle.machine_state.specs.core_meaning.Statements.{core_block_body, handlings}
use Rattle.machine_state.specs.declared.frame.Frame.TheVariants.{Unwind}
use Rattle.machine_state.specs.declared.frame.UnwindFrame.TheVariants.{Catch}
use Rattle.machine_state.specs.declared.machine.NextAction.{NextAction}
use Rattle.machine_state.specs.Places.{site_of}
use Rattle.machine_state.specs.Frames.{after_stack, handled_exception, layers_of, outer_of, machine_rest, site_now, state_of, todo}
use Rattle.machine_state.specs.Work.{block_work, catch_work, doing_work, handler_work, some_weight, stack_work, weight}
use Rattle.machine_unwind.proofs.Catching.{catch_weighs, class_begins, handlers_weigh, takes_all}
use Rattle.machine_unwind.proofs.handlers.next_handler.Goals as goal

pub returns-in-Some-clause-next : goal.returns-in-Some-clause-next
returns-in-Some-clause-next c =
    let m = c.args.m.now in
    let m' = c.descend.new.m in
    let g = c.args.guard in
    let at = c.args.at in
    let x = c.handler-handler.result.now in
    let class = c.in-Some.class in
    let t = c.args.thrown in
    let within : at < length (handlers_in g.value) = search rules in
    let here : x ≡ get_or (handlers_in g.value) at x = search rules in
    let fs' = Unwind (Catch c.in_ok-again.again at) ∷ m.stack.own in
    IfOk-weaker c.descend.result (λ (d : NextAction). todo d m' ≡ eval class.value (site_of m.here (outer_of fs') (handled_exception fs')) (state_of m) (after_stack fs' m.here))
    (λ (d : NextAction). todo d m' ≡ handlers_on (handlings (layers_of m.stack.own) (drop at (handlers_in g.value))) t.exc t.trace (site_now m) (state_of m) (machine_rest m))
    (λ d h. h ∙ class_begins m.here m.stack.own fs' (state_of m) t g c.in_ok-again.again at x class within here c.in-Some.is c.requires refl c.in_ok-again.ensures.cases)
    c.descend.ensures.next

pub returns-in-Some-clause-work : goal.returns-in-Some-clause-work
returns-in-Some-clause-work c =
    let m = c.args.m.now in
    let m' = c.descend.new.m in
    let g = c.args.guard in
    let at = c.args.at in
    let hs = handlers_in g.value in
    let x = c.handler-handler.result.now in
    let class = c.in-Some.class in
    let again = c.in_ok-again.again in
    let within : at < length hs = search rules in
    let here : x ≡ get_or hs at x = search rules in
    let first : catch_work (drop at (handlers_in again.value)) ≡ block_work (stmts_in (out-CoreHandler x).body.value) + 4 + sum_by handler_work (drop (at + 1) hs) =
    ap (λ (y : CoreGuard). catch_work (drop at (handlers_in y))) c.in_ok-again.ensures.cases ∙ catch_weighs hs at x within here in
    let all : sum_by handler_work (drop at hs) ≡ some_weight (out-CoreHandler x).class + block_work (stmts_in (out-CoreHandler x).body.value) + 5 + sum_by handler_work (drop (at + 1) hs) = handlers_weigh hs at x within here in
    let classed : some_weight (out-CoreHandler x).class ≡ weight class.value = ap some_weight c.in-Some.is in
    IfOk-weaker c.descend.result (λ (d : NextAction). doing_work d + stack_work m' ≡ weight class.value + (catch_work (drop at (handlers_in again.value)) + stack_work m))
    (λ (d : NextAction). doing_work d + stack_work m' ≤ sum_by handler_work (drop at hs) + stack_work m)
    (λ d h. omega (arith, h, first, all, classed)) c.descend.ensures.work

pub returns-clause-next : goal.returns-clause-next
returns-clause-next c =
    let m = c.args.m.now in
    let m' = c.begin_caught.new.m in
    let hs = handlers_in c.args.guard.value in
    let at = c.args.at in
    let x = c.handler-handler.result.now in
    let ls = layers_of m.stack.own in
    let t = c.args.thrown in
    let within : at < length hs = search rules in
    let here : x ≡ get_or hs at x = search rules in
    IfOk-weaker c.begin_caught.result (λ (d : NextAction). todo d m' ≡ handler_block (out-CoreHandler x).name (core_block_body ls (out-CoreHandler x).body.value) t.exc t.trace (site_now m) (state_of m) (machine_rest m))
    (λ (d : NextAction). todo d m' ≡ handlers_on (handlings ls (drop at hs)) t.exc t.trace (site_now m) (state_of m) (machine_rest m))
    (λ d h. h ∙ takes_all hs at x within here ls t.exc t.trace (site_now m) (state_of m) (machine_rest m) c.in-None.is)
    c.begin_caught.ensures.next

pub returns-clause-work : goal.returns-clause-work
returns-clause-work c =
    let m = c.args.m.now in
    let m' = c.begin_caught.new.m in
    let hs = handlers_in c.args.guard.value in
    let at = c.args.at in
    let x = c.handler-handler.result.now in
    let within : at < length hs = search rules in
    let here : x ≡ get_or hs at x = search rules in
    let all : sum_by handler_work (drop at hs) ≡ some_weight (out-CoreHandler x).class + block_work (stmts_in (out-CoreHandler x).body.value) + 5 + sum_by handler_work (drop (at + 1) hs) = handlers_weigh hs at x within here in
    IfOk-weaker c.begin_caught.result (λ (d : NextAction). doing_work d + stack_work m' ≤ block_work (stmts_in (out-CoreHandler x).body.value) + 1 + stack_work m)
    (λ (d : NextAction). doing_work d + stack_work m' ≤ sum_by handler_work (drop at hs) + stack_work m)
    (λ d h. omega (arith, h, all)) c.begin_caught.ensures.work
