use Rattle.std.proofs.Common.{List, length, Some, ap, sym}
use Rattle.machine_state.specs.py_world.Expressions.{arguments}
use Rattle.machine_state.specs.core_meaning.Expressions.{CorePart}
use Rattle.machine_state.specs.Definings.{fn_made}
use Rattle.machine_state.specs.Frames.{machine_rest, site_now, state_of}
use Rattle.machine_immediate.specs.Parts.{IsNext}
use Rattle.machine_define.proofs.function.next_default.Goals as goal

pub returns-in_ok-push-in-Some-clause-next : goal.returns-in_ok-push-in-Some-clause-next
returns-in_ok-push-in-Some-clause-next c =
    let m = c.args.m.now in
    let n : IsNext (Some c.in-Some.e) (length c.args.so_far.items) c.args.es = rw c.in-Some.is at c.in_ok-e.ensures in
    rw c.in_ok-push-in-Some.ensures
    (ap (λ (ps : List CorePart). arguments ps c.args.so_far.items (site_now m) (state_of m) (machine_rest m) (λ vs s. fn_made c.args.function.value c.args.ds.items vs (site_now m) s (machine_rest m))) (sym n.0))
