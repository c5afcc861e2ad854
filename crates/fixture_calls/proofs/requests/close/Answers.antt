use Rattle.std.proofs.Common.{◌≡◌, ◌∙◌, IfOk, sym, ap, subst}
use Rattle.py_machine.specs.source_meaning.Meaning.{SourceWorld}
use Rattle.fixture_calls.specs.Asking.{finalizers_taken}
use Rattle.py_machine.specs.runner_values.Requests.{request_closed}
use Rattle.fixture_calls.proofs.Finalizers.{closed_twice, taken_behind_closing}
use Rattle.fixture_calls.proofs.requests.close.Goals as goal

pub take_all-requires : goal.take_all-requires
take_all-requires c =
    let closed : c.close_request.new.world.heap ≡ request_closed c.args.request c.args.world.now.heap = ap (λ (w : SourceWorld). w.heap) c.close_request.ensures in
    ap (request_closed c.args.request) closed ∙ closed_twice c.args.request c.args.world.now.heap ∙ sym closed

pub returns : goal.returns
returns c =
    subst
    (λ t. IfOk c.take_all.result (λ finalizers. (finalizers, c.take_all.new.world) ≡ t))
    (ap (finalizers_taken c.args.request) c.close_request.ensures ∙ taken_behind_closing c.args.request c.args.world.now)
    c.take_all.ensures
