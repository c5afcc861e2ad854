use Rattle.std.proofs.Common.{◌≡◌, ◌∙◌, ◌<◌, ◌+◌, ◌-◌, Option, Some, IfSome, Bool, ap, drop, get_or, length, refl, sym, rules, subst, take, true, false}
use Rattle.std.specs.Prelude.{is_some}
use Rattle.std.specs.List.{list_any}
use Rattle.std.proofs.lemmas.Result.{IfOk-weaker}
use Rattle.py_core.specs.Blocks.{stmts_in}
use Rattle.py_core.specs.declared.expr.CoreExpr.{CoreExpr}
use Rattle.py_core.specs.declared.stmt.CoreStmtKind.TheVariants as v
use Rattle.py_kinds.specs.Truth.{truth}
use Rattle.py_ops.specs.Binary.{binary_of}
use Rattle.py_ops.specs.Compare.{compare_of}
use Rattle.py_ops.specs.Unary.{unary_of}
use Rattle.py_values.specs.declared.value.Value.TheVariants as val
use Rattle.py_values.specs.declared.rows.Param.{Param}
use Rattle.py_values.specs.Names.{bind_name}
use Rattle.machine_state.specs.py_world.Arguments.{arguments_of}
use Rattle.machine_state.specs.py_world.Site.{site}
use Rattle.machine_state.specs.py_world.Statements.{branches_on, return_value}
use Rattle.machine_state.specs.core_meaning.Statements.{begun, block_from, choices, core_block_body}
use Rattle.machine_state.specs.py_world.Expressions.{call_part, unary_part, binary_part, compare_part, not_part}
use Rattle.machine_state.specs.core_meaning.Expressions.{eval}
use Rattle.machine_state.specs.declared.place.Place.TheVariants.{Function}
use Rattle.machine_state.specs.Found.{OnTrue}
use Rattle.machine_state.specs.Places.{parts_from}
use Rattle.machine_immediate.specs.declared.immediate.BodyEnd.{BodyEnd}
use Rattle.machine_immediate.specs.declared.immediate.BodyEnd.TheVariants.{Over, Returned}
use Rattle.machine_immediate.specs.AtOnce.{AreBound, BodyEnds, HasValueIn, IsNameNow, IsOperated, PartEnds, ended_at, value_of_end}
use Rattle.machine_immediate.proofs.AtOnces as once
use Rattle.machine_immediate.proofs.Bodies as bodies
use Rattle.machine_immediate.proofs.immediate.+value.Goals as goal

pub find_value-returns-in-Name : goal.find_value-returns-in-Name
find_value-returns-in-Name t c =
    let m = c.args.scope.now.m.now in
    let here = c.args.scope.now.here.now in
    let names = c.args.scope.now.locals.now in
    let left = c.args.found.now.left in
    let temps = c.args.scope.now.temps.now in
    let e = c.args.e.now in
    let d = c.name_now.new.found in
    IfOk-weaker c.name_now.result (λ (is : Bool). OnTrue is (IsNameNow c.in-Name.name left d m here names)) (λ (is : Bool). OnTrue is (HasValueIn (eval e) left d m here names temps))
    (λ is h. once.name_form m here names temps e.at e.kind left is d c.in-Name.name c.in-Name.is h)
    c.name_now.ensures

pub find_value-returns-in-Number : goal.find_value-returns-in-Number
find_value-returns-in-Number t c =
    let m = c.args.scope.now.m.now in
    let here = c.args.scope.now.here.now in
    let names = c.args.scope.now.locals.now in
    let left = c.args.found.now.left in
    let temps = c.args.scope.now.temps.now in
    let e = c.args.e.now in
    let d = c.there.new.found in
    let same : d ≡ ended_at (val.Int c.in-Number.n) left = search rules in
    once.number_form m here names temps e.at e.kind left c.there.result d c.in-Number.n c.in-Number.is c.there.ensures.is same

pub find_value-returns-in-True : goal.find_value-returns-in-True
find_value-returns-in-True t c =
    let m = c.args.scope.now.m.now in
    let here = c.args.scope.now.here.now in
    let names = c.args.scope.now.locals.now in
    let left = c.args.found.now.left in
    let temps = c.args.scope.now.temps.now in
    let e = c.args.e.now in
    once.true_form m here names temps e.at e.kind left c.there-in-True.result c.there-in-True.new.found c.in-True.is c.there-in-True.ensures.is c.there-in-True.ensures.there

pub find_value-returns-in-False : goal.find_value-returns-in-False
find_value-returns-in-False t c =
    let m = c.args.scope.now.m.now in
    let here = c.args.scope.now.here.now in
    let names = c.args.scope.now.locals.now in
    let left = c.args.found.now.left in
    let temps = c.args.scope.now.temps.now in
    let e = c.args.e.now in
    once.false_form m here names temps e.at e.kind left c.there-in-False.result c.there-in-False.new.found c.in-False.is c.there-in-False.ensures.is c.there-in-False.ensures.there

pub find_value-returns-in-None : goal.find_value-returns-in-None
find_value-returns-in-None t c =
    let m = c.args.scope.now.m.now in
    let here = c.args.scope.now.here.now in
    let names = c.args.scope.now.locals.now in
    let left = c.args.found.now.left in
    let temps = c.args.scope.now.temps.now in
    let e = c.args.e.now in
    once.none_form m here names temps e.at e.kind left c.there-in-None.result c.there-in-None.new.found c.in-None.is c.there-in-None.ensures.is c.there-in-None.ensures.there

pub find_value-returns-in-Temp : goal.find_value-returns-in-Temp
find_value-returns-in-Temp t c =
    let m = c.args.scope.now.m.now in
    let here = c.args.scope.now.here.now in
    let names = c.args.scope.now.locals.now in
    let left = c.args.found.now.left in
    let temps = c.args.scope.now.temps.now in
    let e = c.args.e.now in
    once.temp_form m here names temps e.at e.kind left c.there-in-Temp.result c.there-in-Temp.new.found c.in-Temp.t c.temp_in.result c.in-Temp.is c.temp_in.ensures c.there-in-Temp.ensures.is c.there-in-Temp.ensures.there

pub compound-returns-in-Paren : goal.compound-returns-in-Paren
compound-returns-in-Paren t c =
    let m = c.args.scope.now.m.now in
    let here = c.args.scope.now.here.now in
    let names = c.args.scope.now.locals.now in
    let left = c.args.found.now.left in
    let temps = c.args.scope.now.temps.now in
    let e = c.args.e.now in
    let d = c.find_value.new.found in
    IfOk-weaker c.find_value.result (λ (is : Bool). OnTrue is (HasValueIn (eval c.deref.result.now) left d m here names temps)) (λ (is : Bool). OnTrue is (HasValueIn (eval e) left d m here names temps))
    (λ is h. once.paren_form m here names temps e.at e.kind left is d c.in-Paren.a c.in-Paren.is (subst (λ (x : CoreExpr). OnTrue is (HasValueIn (eval x) left d m here names temps)) c.deref.ensures h))
    c.find_value.ensures

pub compound-returns-in-Unary : goal.compound-returns-in-Unary
compound-returns-in-Unary t c =
    let m = c.args.scope.now.m.now in
    let here = c.args.scope.now.here.now in
    let names = c.args.scope.now.locals.now in
    let left = c.args.found.now.left in
    let temps = c.args.scope.now.temps.now in
    let e = c.args.e.now in
    let d = c.unary.new.found in
    IfOk-weaker c.unary.result (λ (is : Bool). OnTrue is (HasValueIn (unary_part c.in-Unary.op (eval c.in-Unary.a.value)) left d m here names temps)) (λ (is : Bool). OnTrue is (HasValueIn (eval e) left d m here names temps))
    (λ is h. once.unary_form m here names temps e.at e.kind left is d c.in-Unary.op c.in-Unary.a c.in-Unary.is h)
    c.unary.ensures

pub compound-returns-in-Binary : goal.compound-returns-in-Binary
compound-returns-in-Binary t c =
    let m = c.args.scope.now.m.now in
    let here = c.args.scope.now.here.now in
    let names = c.args.scope.now.locals.now in
    let left = c.args.found.now.left in
    let temps = c.args.scope.now.temps.now in
    let e = c.args.e.now in
    let d = c.binary.new.found in
    IfOk-weaker c.binary.result (λ (is : Bool). OnTrue is (HasValueIn (binary_part (eval c.in-Binary.a.value) c.in-Binary.op (eval c.in-Binary.b.value)) left d m here names temps)) (λ (is : Bool). OnTrue is (HasValueIn (eval e) left d m here names temps))
    (λ is h. once.binary_form m here names temps e.at e.kind left is d c.in-Binary.a c.in-Binary.b c.in-Binary.op c.in-Binary.is h)
    c.binary.ensures

pub compound-returns-in-Compare : goal.compound-returns-in-Compare
compound-returns-in-Compare t c =
    let m = c.args.scope.now.m.now in
    let here = c.args.scope.now.here.now in
    let names = c.args.scope.now.locals.now in
    let left = c.args.found.now.left in
    let temps = c.args.scope.now.temps.now in
    let e = c.args.e.now in
    let d = c.comparison.new.found in
    IfOk-weaker c.comparison.result (λ (is : Bool). OnTrue is (HasValueIn (compare_part (eval c.in-Compare.a.value) c.in-Compare.ops.value.items (parts_from 0 c.in-Compare.es)) left d m here names temps)) (λ (is : Bool). OnTrue is (HasValueIn (eval e) left d m here names temps))
    (λ is h. once.compare_form m here names temps e.at e.kind left is d c.in-Compare.a c.in-Compare.ops c.in-Compare.es c.in-Compare.is h)
    c.comparison.ensures

pub compound-returns-in-Not : goal.compound-returns-in-Not
compound-returns-in-Not t c =
    let m = c.args.scope.now.m.now in
    let here = c.args.scope.now.here.now in
    let names = c.args.scope.now.locals.now in
    let left = c.args.found.now.left in
    let temps = c.args.scope.now.temps.now in
    let e = c.args.e.now in
    let d = c.negation.new.found in
    IfOk-weaker c.negation.result (λ (is : Bool). OnTrue is (HasValueIn (not_part (eval c.in-Not.a.value)) left d m here names temps)) (λ (is : Bool). OnTrue is (HasValueIn (eval e) left d m here names temps))
    (λ is h. once.not_form m here names temps e.at e.kind left is d c.in-Not.a c.in-Not.is h)
    c.negation.ensures

pub compound-returns-else-room-lt-LEAST_FOR_CALLS : goal.compound-returns-else-room-lt-LEAST_FOR_CALLS
compound-returns-else-room-lt-LEAST_FOR_CALLS t c =
    let m = c.args.scope.now.m.now in
    let here = c.args.scope.now.here.now in
    let names = c.args.scope.now.locals.now in
    let left = c.args.found.now.left in
    let temps = c.args.scope.now.temps.now in
    let e = c.args.e.now in
    let d = c.call.new.found in
    IfOk-weaker c.call.result (λ (is : Bool). OnTrue is (HasValueIn (call_part (eval c.in-Call.f.value) (arguments_of c.in-Call.names.value.items) (parts_from 0 c.in-Call.es)) left d m here names temps)) (λ (is : Bool). OnTrue is (HasValueIn (eval e) left d m here names temps))
    (λ is h. once.call_form m here names temps e.at e.kind left is d c.in-Call.f c.in-Call.es c.in-Call.names c.in-Call.is h)
    c.call.ensures

pub unary-returns : goal.unary-returns
unary-returns t c =
    let m = c.args.scope.now.m.now in
    let here = c.args.scope.now.here.now in
    let names = c.args.scope.now.locals.now in
    let left = c.args.found.now.left in
    let temps = c.args.scope.now.temps.now in
    let x = c.find_value.new.found in
    let d = c.unary_now.new.found in
    IfOk-weaker c.unary_now.result (λ (is : Bool). OnTrue is (IsOperated (unary_of c.args.op m.heap x.value) x.left d)) (λ (is : Bool). OnTrue is (HasValueIn (unary_part c.args.op (eval c.args.a.now.value)) left d m here names temps))
    (λ is h. once.unary_step m here names temps c.args.op c.args.a.now c.deref.result.now left c.in_ok-find_value.field-0 x is d c.deref.ensures c.if-not-branch.false c.in_ok-find_value.ensures h)
    c.unary_now.ensures

pub binary-returns : goal.binary-returns
binary-returns t c =
    let m = c.args.scope.now.m.now in
    let here = c.args.scope.now.here.now in
    let names = c.args.scope.now.locals.now in
    let left = c.args.found.now.left in
    let temps = c.args.scope.now.temps.now in
    let x = c.find_value.new.found in
    let y = c.find_value-2.new.found in
    let d = c.binary_now.new.found in
    IfOk-weaker c.binary_now.result (λ (is : Bool). OnTrue is (IsOperated (binary_of c.args.op m.heap x.value y.value) y.left d)) (λ (is : Bool). OnTrue is (HasValueIn (binary_part (eval c.args.a.now.value) c.args.op (eval c.args.b.now.value)) left d m here names temps))
    (λ is h. once.binary_step m here names temps c.args.op c.args.a.now c.args.b.now c.deref.result.now c.deref-2.result.now left c.in_ok-find_value.field-0 x c.in_ok-find_value-2.field-0 y is d c.deref.ensures c.deref-2.ensures c.if-not-branch.false c.in_ok-find_value.ensures c.if-not-branch-2.false c.in_ok-find_value-2.ensures h)
    c.binary_now.ensures

pub comparison-returns : goal.comparison-returns
comparison-returns t c =
    let m = c.args.scope.now.m.now in
    let here = c.args.scope.now.here.now in
    let names = c.args.scope.now.locals.now in
    let left = c.args.found.now.left in
    let temps = c.args.scope.now.temps.now in
    let x = c.find_value.new.found in
    let y = c.find_value-2.new.found in
    let d = c.comparison_now.new.found in
    let ops = c.args.ops.now.value.items in
    IfOk-weaker c.comparison_now.result (λ (is : Bool). OnTrue is (IsOperated (compare_of c.in-Some-op_at.op m.heap x.value y.value) y.left d)) (λ (is : Bool). OnTrue is (HasValueIn (compare_part (eval c.args.a.now.value) ops (parts_from 0 c.args.es.now)) left d m here names temps))
    (λ is h. once.comparison_step m here names temps c.in-Some-op_at.op ops (drop 1 ops) c.args.a.now c.in-Some.b.now c.args.es.now c.deref.result.now c.deref-2.result.now left c.in_ok-find_value.field-0 x c.in_ok-find_value-2.field-0 y is d c.deref.ensures c.deref-2.ensures c.in-Some-op_at.ensures c.in-Some.ensures c.if-not-branch.false c.in_ok-find_value.ensures c.if-not-branch-2.false c.in_ok-find_value-2.ensures h)
    c.comparison_now.ensures

pub negation-returns : goal.negation-returns
negation-returns t c =
    let m = c.args.scope.now.m.now in
    let here = c.args.scope.now.here.now in
    let names = c.args.scope.now.locals.now in
    let left = c.args.found.now.left in
    let temps = c.args.scope.now.temps.now in
    let x = c.find_value.new.found in
    once.negation_step m here names temps c.args.a.now c.deref.result.now left c.in_ok-find_value.field-0 x c.truth.result _ c.deref.ensures c.if-not-branch.false c.in_ok-find_value.ensures c.truth.ensures refl

pub bind_arguments-returns : goal.bind_arguments-returns
bind_arguments-returns t c =
    let m = c.args.scope.now.m.now in
    let here = c.args.scope.now.here.now in
    let names = c.args.scope.now.locals.now in
    let left = c.args.found.now.left in
    let temps = c.args.scope.now.temps.now in
    let x = c.find_value.new.found in
    let es = c.args.es.now in
    let at = c.args.at in
    let e = c.index.result.now in
    let ps = c.args.params.now in
    let p = c.index-params-at.result in
    let so_far = take at c.args.bound.now in
    let now = take (at + 1) c.rebind.new.self in
    let bound = c.bind_arguments.new.bound in
    let behind = c.bind_arguments.new.found.left in
    let within : at < length es.value.items = search rules in
    let same : e ≡ get_or es.value.items at e = search rules in
    let within_params : at < length ps = search rules in
    let put : now ≡ bind_name p.name x.value so_far = once.when_true c.in_ok-rebind.field-0 c.if-not-branch-2.false c.in_ok-rebind.ensures.bound ∙ ap (λ (q : Param). bind_name q.name x.value so_far) (sym c.index-params-at.is) in
    IfOk-weaker c.bind_arguments.result (λ (is : Bool). OnTrue is (AreBound (parts_from (at + 1) es) (drop (at + 1) ps) now bound x.left behind m here names temps)) (λ (is : Bool). OnTrue is (AreBound (parts_from at es) (drop at ps) so_far bound left behind m here names temps))
    (λ is h. once.argument_bound m here names temps es e c.deref-3.result.now at ps p so_far now bound left behind c.in_ok-find_value.field-0 x is within same c.deref-3.ensures within_params c.index-params-at.is c.if-not-branch.false c.in_ok-find_value.ensures put h)
    c.bind_arguments.ensures

pub call-returns : goal.call-returns
call-returns t c =
    let m = c.args.scope.now.m.now in
    let here = c.args.scope.now.here.now in
    let names = c.args.scope.now.locals.now in
    let left = c.args.found.now.left in
    let temps = c.args.scope.now.temps.now in
    let x = c.find_value.new.found in
    let ns = c.args.names.now.value.items in
    let plain : list_any (λ n. is_some n) ns ≡ false = search rules in
    once.call_step m here names temps ns c.args.f.now c.deref-else-has_names.result.now c.args.es.now left c.bind_arguments.new.found.left c.in_ok-find_value.field-0 x c.in-Some.function.now c.in-Some.code.now c.in-Some.around c.items-params.result.now (take 0 c.reused-bound.result)
    c.bind_arguments.new.bound c.in_ok-bind_arguments.field-0 c.in_ok-is.is' c.run_code.new.found c.deref-else-has_names.ensures c.if-not-branch.false c.in_ok-find_value.ensures plain c.in-Some.ensures c.items-params.ensures refl c.if-not-branch-2.false
    c.in_ok-bind_arguments.ensures c.in_ok-is.ensures

pub run_code-returns-in-Some-Returned : goal.run_code-returns-in-Some-Returned
run_code-returns-in-Some-Returned t c =
    let b = c.block.result.now in
    let around = c.args.around in
    let x = c.block_end.new.found.value in
    let behind = c.block_end.new.found.left in
    bodies.run_step c.args.m.now c.args.code.now around c.args.bound.now b (record { place = Function c.in_ok-share.field-0; around = around; line = 0 }) c.args.found.now.left behind c.in_ok-block_end.field-0 Returned x c.if-found-eq0.false c.block.ensures
    (ap (λ st. record { place = Function st; around = around; line = 0 }) c.in_ok-share.ensures) (c.in-Some-Returned.is ∙ ap Some c.in-Some-Returned.field-0-is) c.in_ok-block_end.ensures

pub run_code-returns-in-Some-Over : goal.run_code-returns-in-Some-Over
run_code-returns-in-Some-Over t c =
    let b = c.block.result.now in
    let around = c.args.around in
    let x = c.block_end.new.found.value in
    let behind = c.block_end.new.found.left in
    bodies.run_step c.args.m.now c.args.code.now around c.args.bound.now b (record { place = Function c.in_ok-share.field-0; around = around; line = 0 }) c.args.found.now.left behind c.in_ok-block_end.field-0 Over x c.if-found-eq0.false c.block.ensures
    (ap (λ st. record { place = Function st; around = around; line = 0 }) c.in_ok-share.ensures) (c.in-Some-Over.is ∙ ap Some c.in-Some-Over.field-0-is) c.in_ok-block_end.ensures

pub block_end-returns-in-Some-Over : goal.block_end-returns-in-Some-Over
block_end-returns-in-Some-Over t c =
    let m = c.args.scope.now.m.now in
    let here = c.args.scope.now.here.now in
    let names = c.args.scope.now.locals.now in
    let left = c.args.found.now.left in
    let b = c.args.b.now in
    let at = c.args.at in
    let within : at < length (stmts_in b) = search rules in
    let between = c.statement_end.new.found.left in
    let behind = c.block_end.new.found.left in
    let y = c.block_end.new.found.value in
    IfOk-weaker c.block_end.result (λ (o : Option BodyEnd). IfSome o (λ e. BodyEnds (λ ls. block_from ls b (at + 1) (drop (at + 1) (stmts_in b))) between (value_of_end e y) behind m here names))
    (λ (o : Option BodyEnd). IfSome o (λ e. BodyEnds (λ ls. block_from ls b at (drop at (stmts_in b))) left (value_of_end e y) behind m here names))
    (λ o h. bodies.block_behind m here names b at left between behind c.stmt.result.now c.in_ok-statement_end.field-0 c.statement_end.new.found.value o y within c.stmt.ensures (c.in-Some-Over.is ∙ ap Some c.in-Some-Over.field-0-is) c.in_ok-statement_end.ensures h)
    c.block_end.ensures

pub block_end-returns-in-Some-Returned : goal.block_end-returns-in-Some-Returned
block_end-returns-in-Some-Returned t c =
    let m = c.args.scope.now.m.now in
    let here = c.args.scope.now.here.now in
    let names = c.args.scope.now.locals.now in
    let left = c.args.found.now.left in
    let b = c.args.b.now in
    let at = c.args.at in
    let within : at < length (stmts_in b) = search rules in
    bodies.block_left m here names b at left c.statement_end.new.found.left c.stmt.result.now c.in_ok-statement_end.field-0 c.statement_end.new.found.value within c.stmt.ensures (c.in-Some-Returned.is ∙ ap Some c.in-Some-Returned.field-0-is) c.in_ok-statement_end.ensures

pub statement_end-returns-in-Some : goal.statement_end-returns-in-Some
statement_end-returns-in-Some t c =
    let m = c.args.scope.now.m.now in
    let here = c.args.scope.now.here.now in
    let names = c.args.scope.now.locals.now in
    let left = c.args.found.now.left in
    let st = c.args.statement.now in
    let e = c.in-Some.e in
    let y = c.return_end.new.found.value in
    let behind = c.return_end.new.found.left in
    let is : st.kind ≡ v.Return (Some e) = c.in-Return.is ∙ ap v.Return c.in-Some.is in
    IfOk-weaker c.return_end.result (λ (r : Option BodyEnd). IfSome r (λ o. PartEnds (return_value (Some (eval e.value))) (left - 1) (value_of_end o y) behind m here names)) (λ (r : Option BodyEnd). IfSome r (λ o. BodyEnds (λ ls scene. begun ls st (site scene st.at.line)) left (value_of_end o y) behind m here names))
    (λ r h. bodies.return_ends m here names st e left behind r y c.if-found-eq0.false is h)
    c.return_end.ensures

pub statement_end-returns-in-If : goal.statement_end-returns-in-If
statement_end-returns-in-If t c =
    let m = c.args.scope.now.m.now in
    let here = c.args.scope.now.here.now in
    let names = c.args.scope.now.locals.now in
    let left = c.args.found.now.left in
    let st = c.args.statement.now in
    let bs = c.in-If.branches in
    let other = c.in-If.other in
    let y = c.choice_end.new.found.value in
    let behind = c.choice_end.new.found.left in
    IfOk-weaker c.choice_end.result (λ (r : Option BodyEnd). IfSome r (λ o. BodyEnds (λ ls. branches_on (choices ls (drop 0 bs.value.items)) (core_block_body ls other.value)) (left - 1) (value_of_end o y) behind m here names)) (λ (r : Option BodyEnd). IfSome r (λ o. BodyEnds (λ ls scene. begun ls st (site scene st.at.line)) left (value_of_end o y) behind m here names))
    (λ r h. bodies.choice_ends m here names st bs other left behind r y c.if-found-eq0.false c.in-If.is h)
    c.choice_end.ensures

pub return_end-returns-then-branch : goal.return_end-returns-then-branch
return_end-returns-then-branch t c =
    let m = c.args.scope.now.m.now in
    let here = c.args.scope.now.here.now in
    let names = c.args.scope.now.locals.now in
    let left = c.args.found.now.left in
    let temps = c.args.scope.now.temps.now in
    bodies.return_there m here names temps c.args.e.now c.deref.result.now left c.in_ok-find_value.field-0 c.find_value.new.found c.requires c.deref.ensures c.if-branch.true c.in_ok-find_value.ensures

pub choice_end-returns-then-truth : goal.choice_end-returns-then-truth
choice_end-returns-then-truth t c =
    let m = c.args.scope.now.m.now in
    let here = c.args.scope.now.here.now in
    let names = c.args.scope.now.locals.now in
    let left = c.args.found.now.left in
    let temps = c.args.scope.now.temps.now in
    let x = c.find_value.new.found in
    let bs = c.args.branches.now.value.items in
    let at = c.args.at in
    let branch = c.index-branch.result.now in
    let other = c.args.other.now in
    let within : at < length bs = search rules in
    let is : branch ≡ get_or bs at branch = search rules in
    let b = c.deref-then-truth.result.now in
    let y = c.block_end-then-truth.new.found.value in
    let behind = c.block_end-then-truth.new.found.left in
    let holds : truth m.heap x.value ≡ true = search rules in
    IfOk-weaker c.block_end-then-truth.result (λ (r : Option BodyEnd). IfSome r (λ o. BodyEnds (λ ls. block_from ls b 0 (drop 0 (stmts_in b))) x.left (value_of_end o y) behind m here names)) (λ (r : Option BodyEnd). IfSome r (λ o. BodyEnds (λ ls. branches_on (choices ls (drop at bs)) (core_block_body ls other.value)) left (value_of_end o y) behind m here names))
    (λ r h. bodies.branch_taken m here names temps c.requires bs at branch other c.deref-3.result.now b left behind c.in_ok-find_value.field-0 x r y within is c.deref-3.ensures c.if-not-branch.false c.in_ok-find_value.ensures holds c.deref-then-truth.ensures h)
    c.block_end-then-truth.ensures

pub choice_end-returns : goal.choice_end-returns
choice_end-returns t c =
    let m = c.args.scope.now.m.now in
    let here = c.args.scope.now.here.now in
    let names = c.args.scope.now.locals.now in
    let left = c.args.found.now.left in
    let temps = c.args.scope.now.temps.now in
    let x = c.find_value.new.found in
    let bs = c.args.branches.now.value.items in
    let at = c.args.at in
    let branch = c.index-branch.result.now in
    let other = c.args.other.now in
    let within : at < length bs = search rules in
    let is : branch ≡ get_or bs at branch = search rules in
    let y = c.choice_end.new.found.value in
    let behind = c.choice_end.new.found.left in
    let fails : truth m.heap x.value ≡ false = search rules in
    IfOk-weaker c.choice_end.result (λ (r : Option BodyEnd). IfSome r (λ o. BodyEnds (λ ls. branches_on (choices ls (drop (at + 1) bs)) (core_block_body ls other.value)) x.left (value_of_end o y) behind m here names)) (λ (r : Option BodyEnd). IfSome r (λ o. BodyEnds (λ ls. branches_on (choices ls (drop at bs)) (core_block_body ls other.value)) left (value_of_end o y) behind m here names))
    (λ r h. bodies.branch_passed m here names temps c.requires bs at branch other c.deref-3.result.now left behind c.in_ok-find_value.field-0 x r y within is c.deref-3.ensures c.if-not-branch.false c.in_ok-find_value.ensures fails h)
    c.choice_end.ensures
