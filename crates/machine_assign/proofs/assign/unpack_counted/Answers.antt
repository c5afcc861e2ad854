use Rattle.std.proofs.Common.{◌≡◌, ◌∙◌, ℕ, true, false, eqb, length, Some, ap, arith, rules}
use Rattle.std.proofs.lemmas.Bool.Decides.{nat_tests}
use Rattle.std.proofs.lemmas.Result.{IfOk-weaker}
use Rattle.py_values.specs.declared.end.Raise.{Raise}
use Rattle.machine_turns.specs.py_world.Outcome.{raised_at}
use Rattle.machine_turns.specs.py_world.Targets.{elements_from, store_elements, unpack_by, wrong_count}
use Rattle.machine_turns.specs.core_meaning.Statements.{store_singles}
use Rattle.machine_turns.specs.machine_state.declared.machine.NextAction.{NextAction}
use Rattle.machine_turns.specs.machine_state.Frames.{machine_rest, site_now, state_of, todo}
use Rattle.machine_assign.proofs.Places.{counted_right, counted_wrong}
use Rattle.machine_assign.proofs.assign.unpack_counted.Goals as goal

pub returns-then-n-len-clause-next : goal.returns-then-n-len-clause-next
returns-then-n-len-clause-next c =
    let m = c.args.m.now in
    let m' = c.unpack_all.new.m in
    let ss = c.args.ss.now.value.items in
    let n = c.args.n in
    let same : eqb n (length ss) ≡ true = first_of (search rules, grind (arith, nat_tests)) in
    IfOk-weaker c.unpack_all.result
    (λ (d : NextAction). todo d m' ≡ store_elements (store_singles ss) (elements_from n c.args.v 0 n m.heap) (site_now m) (state_of m) (machine_rest m))
    (λ (d : NextAction). todo d m' ≡ unpack_by (Some n) (store_singles ss) c.args.v (site_now m) (state_of m) (machine_rest m))
    (λ d h. h ∙ counted_right ss n c.args.v (site_now m) (state_of m) (machine_rest m) same)
    c.unpack_all.ensures.next

pub returns-clause-next : goal.returns-clause-next
returns-clause-next c =
    let m = c.args.m.now in
    let m' = c.raise.new.self in
    let ss = c.args.ss.now.value.items in
    let n = c.args.n in
    let raise = c.in_ok-raise.raise in
    let differs : eqb n (length ss) ≡ false = first_of (search rules, grind (arith, nat_tests)) in
    let count : c.len-2.result ≡ length ss = search rules in
    IfOk-weaker c.raise.result
    (λ (d : NextAction). todo d m' ≡ machine_rest m (raised_at raise (site_now m) (state_of m)))
    (λ (d : NextAction). todo d m' ≡ unpack_by (Some n) (store_singles ss) c.args.v (site_now m) (state_of m) (machine_rest m))
    (λ d h. h ∙ ap (λ (r : Raise). machine_rest m (raised_at r (site_now m) (state_of m))) (c.in_ok-raise.ensures ∙ ap (λ (w : ℕ). wrong_count w n) count)
    ∙ counted_wrong ss n c.args.v (site_now m) (state_of m) (machine_rest m) differs)
    c.raise.ensures.next
