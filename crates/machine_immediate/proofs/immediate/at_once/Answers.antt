use Rattle.std.proofs.Common.{List, Option, subst}
use Rattle.py_values.specs.declared.value.Value.{Value}
use Rattle.machine_state.specs.Found.{OnTrue}
use Rattle.machine_state.specs.core_meaning.Expressions.{eval}
use Rattle.machine_immediate.specs.AtOnce.{HasValueIn}
use Rattle.machine_immediate.proofs.AtOnces.{now_of_there}
use Rattle.machine_immediate.proofs.immediate.at_once.Goals as goal

pub returns-then-branch : goal.returns-then-branch
returns-then-branch c =
    let m = c.args.m.now in
    let d = c.find_value.new.found in
    let is = c.in_ok-find_value.field-0 in
    now_of_there m c.args.e.now m.left is d c.if-branch.true
    (subst (λ (ts : List (Option Value)). OnTrue is (HasValueIn (eval c.args.e.now) m.left d m m.here m.locals ts)) c.deref.ensures.value c.in_ok-find_value.ensures)
