use Rattle.std.proofs.Common.{◌≡◌, ◌∙◌, Option, List, Some, None, sym, ap, reverse}
use Rattle.py_values.specs.declared.value.Value.{Value}
use Rattle.py_world.specs.World.{world_with_heap}
use Rattle.fixture_calls.specs.Asking.{finalizers_taken, spent_request}
use Rattle.py_machine.specs.runner_values.Requests.{finalizer_taken, finalizers_of, request_changed}
use Rattle.fixture_calls.proofs.Finalizers.{taken_closed, taken_left, taken_spent, spent_behind, none_behind}
use Rattle.fixture_calls.proofs.requests.take_all.Goals as goal

pub taking-preserved : goal.taking-preserved
taking-preserved c =
    let heap = c.taking.world.heap in
    let after = c.take_finalizer.new.world.heap in
    let f = c.in-Some.finalizer in
    let taken : (Some f, after) ≡ finalizer_taken c.args.request heap = sym (ap (λ (r : Option Value). (r, after)) c.in-Some.is) ∙ c.take_finalizer.ensures.taken in
    record {
      closed = taken_closed c.args.request heap after (Some f) taken c.taking.invariant.closed;
      left = taken_left c.args.request heap after f c.taking.finalizers c.push.new.self (reverse (finalizers_of c.args.request c.args.world.now.heap)) taken c.in_ok-push.ensures.ok c.taking.invariant.left;
      spent = taken_spent c.args.request heap after (Some f) taken ∙ c.taking.invariant.spent;
      same = c.take_finalizer.ensures.same ∙ ap (world_with_heap after) c.taking.invariant.same;
    }

pub returns : goal.returns
unfolding finalizers_taken
returns c =
    let heap = c.taking.world.heap in
    let after = c.take_finalizer.new.world.heap in
    let request = c.args.request in
    let first = c.args.world.now.heap in
    let taken : (None, after) ≡ finalizer_taken request heap = sym (ap (λ (r : Option Value). (r, after)) c.in_default.is) ∙ c.take_finalizer.ensures.taken in
    let out : c.taking.finalizers ≡ reverse (finalizers_of request first) = none_behind request heap after c.taking.finalizers (reverse (finalizers_of request first)) c.taking.invariant.left taken in
    let spent : after ≡ request_changed spent_request request first = spent_behind request first heap after c.taking.invariant.closed c.taking.invariant.spent taken in
    let same : c.take_finalizer.new.world ≡ world_with_heap after c.args.world.now = c.take_finalizer.ensures.same ∙ ap (world_with_heap after) c.taking.invariant.same in
    ap (λ (fs : List Value). (fs, c.take_finalizer.new.world)) out
    ∙ ap (λ w. (reverse (finalizers_of request first), w)) (same ∙ ap (λ h. world_with_heap h c.args.world.now) spent)
