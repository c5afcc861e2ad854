-- Ends of the parts of a `try`.
use Rattle.std.proofs.Common.{◌≡◌, List, [], ◌∷◌, refl, sym, ap, length, ◌≤◌}
use Rattle.std.proofs.Math.ListN.{drop_of_length-le}
use Rattle.std.specs.declared.alloc.Global.{Global}
use Rattle.std.specs.declared.rc.Rc.{Rc}
use Rattle.py_core.specs.Blocks.{handlers_in, last_in, other_in, stmts_in}
use Rattle.py_core.specs.declared.stmt.CoreBlock.{CoreBlock}
use Rattle.py_core.specs.declared.stmt.CoreGuard.{CoreGuard}
use Rattle.machine_state.specs.py_world.Exceptions.{finally_on, guarded_by}
use Rattle.machine_state.specs.py_world.Outcome.{changing, route}
use Rattle.machine_state.specs.py_world.Site.{Site}
use Rattle.machine_state.specs.core_meaning.Requests.{Guard, Layer}
use Rattle.machine_state.specs.core_meaning.Statements.{core_block_body, guard, handlings, try_at}
use Rattle.machine_state.specs.declared.place.Location.{Location}
use Rattle.machine_state.specs.declared.frame.End.{End}
use Rattle.machine_state.specs.declared.frame.End.TheVariants as end
use Rattle.machine_state.specs.declared.frame.Frame.{Frame}
use Rattle.machine_state.specs.declared.frame.Frame.TheVariants.{Unwind}
use Rattle.machine_state.specs.declared.frame.UnwindFrame.TheVariants.{Again, Guarded, Last}
use Rattle.machine_state.specs.Places.{CoreOutcome, CoreState, CoreThen, outcome, site_of}
use Rattle.machine_state.specs.Frames.{after_stack, handled_exception, handling_again, layers_of, outer_of}

-- an end with its state changed
pub changed : (e : End) (f : CoreState → CoreState) (s : CoreState) (k : CoreThen) → route (changing f k) (outcome e s) ≡ k (outcome e (f s))
changed (end.Value v) f s k = refl
changed end.Next f s k = refl
changed (end.Returned v) f s k = refl
changed end.Broke f s k = refl
changed end.Continued f s k = refl
changed (end.Raised e trace) f s k = refl

-- the block behind `finally` begins, over the end that comes again
last_over : (e : End) (b : CoreBlock) (h : Location) (fs : List Frame) (s : CoreState)
    → core_block_body (layers_of fs) b (site_of h (outer_of fs) (handling_again e (handled_exception fs))).scene s (after_stack (Unwind (Again e) ∷ fs) h)
    ≡ finally_on (core_block_body (layers_of fs) b) (site_of h (outer_of fs) (handled_exception fs)) (outcome e s) (after_stack fs h)
last_over (end.Value v) b h fs s = refl
last_over end.Next b h fs s = refl
last_over (end.Returned v) b h fs s = refl
last_over end.Broke b h fs s = refl
last_over end.Continued b h fs s = refl
last_over (end.Raised e trace) b h fs s = refl

pub last_begins : (e : End) (b b' : CoreBlock) (h : Location) (fs fs' : List Frame) (s : CoreState) → fs' ≡ Unwind (Again e) ∷ fs → b' ≡ b
    → core_block_body (layers_of fs') b' (site_of h (outer_of fs') (handled_exception fs')).scene s (after_stack fs' h)
    ≡ finally_on (core_block_body (layers_of fs) b) (site_of h (outer_of fs) (handled_exception fs)) (outcome e s) (after_stack fs h)
last_begins e b b' h fs fs' s pushed same = rw (pushed, same) (last_over e b h fs s)

-- a block behind `finally` that is empty
none_runs : (ls : List Layer) (b : CoreBlock) (e : End) (p : Site) (s : CoreState) (k : CoreThen) → stmts_in b ≡ [] → finally_on (core_block_body ls b) p (outcome e s) k ≡ k (outcome e s)
none_runs ls b (end.Value v) p s k none = rw none refl
none_runs ls b end.Next p s k none = rw none refl
none_runs ls b (end.Returned v) p s k none = rw none refl
none_runs ls b end.Broke p s k none = rw none refl
none_runs ls b end.Continued p s k none = rw none refl
none_runs ls b (end.Raised e trace) p s k none = rw none refl

pub last_empty : (ls : List Layer) (b b' : CoreBlock) (e : End) (p : Site) (s : CoreState) (k : CoreThen) → length (stmts_in b') ≤ 0 → b' ≡ b → k (outcome e s) ≡ finally_on (core_block_body ls b) p (outcome e s) k
last_empty ls b b' e p s k none same = sym (none_runs ls b e p s k (rw (sym same) (drop_of_length-le (stmts_in b') none)))

-- the block of a `try` begins, over what guards it
pub try_begins : (h : Location) (fs fs' : List Frame) (s : CoreState) (b b' : CoreBlock) (g g' : Rc CoreGuard Global) → b' ≡ b → g'.value ≡ g.value → fs' ≡ Unwind (Guarded g' h.line) ∷ fs
    → core_block_body (layers_of fs') b' (site_of h (outer_of fs') (handled_exception fs')).scene s (after_stack fs' h) ≡ try_at (layers_of fs) b g.value (site_of h (outer_of fs) (handled_exception fs)) s (after_stack fs h)
try_begins h fs fs' s b b' g g' same_body same pushed =
    let p = site_of h (outer_of fs) (handled_exception fs) in
    rw (pushed, same_body) (ap (λ (y : CoreGuard). core_block_body (Guard y h.line ∷ layers_of fs) b p.scene s (λ o. guard (layers_of fs) y p o (after_stack fs h))) same)

-- behind the block of a `try`, over the block behind `finally`
pub guard_goes : (h : Location) (fs fs' : List Frame) (o : CoreOutcome) (g g' : Rc CoreGuard Global) → g'.value ≡ g.value → fs' ≡ Unwind (Last g') ∷ fs
    → guarded_by (handlings (layers_of fs') (handlers_in g.value)) (core_block_body (layers_of fs') (other_in g.value)) (site_of h (outer_of fs') (handled_exception fs')) o (after_stack fs' h)
    ≡ guard (layers_of fs) g.value (site_of h (outer_of fs) (handled_exception fs)) o (after_stack fs h)
guard_goes h fs fs' o g g' same pushed =
    let p = site_of h (outer_of fs) (handled_exception fs) in
    let ls = layers_of fs in
    rw pushed (ap (λ (y : CoreGuard). guarded_by (handlings ls (handlers_in g.value)) (core_block_body ls (other_in g.value)) p o (λ o. finally_on (core_block_body ls (last_in y)) p o (after_stack fs h))) same)
