-- Handlers begin.
use Rattle.std.proofs.Common.{◌≡◌, ◌∙◌, ◌<◌, ◌≤◌, ◌+◌, ℕ, zero, suc, true, false, List, [], ◌∷◌, Option, Some, None, length, drop, get_or, refl, sym, ap, arith}
use Rattle.std.specs.declared.alloc.Global.{Global}
use Rattle.std.specs.declared.rc.Rc.{Rc}
use Rattle.std.specs.List.{sum_by}
use Rattle.std.proofs.lemmas.List.Sums.{sum_by-cons}
use Rattle.py_core.specs.Blocks.{handlers_in, stmts_in}
use Rattle.py_core.specs.declared.expr.CoreExpr.{CoreExpr}
use Rattle.py_core.specs.declared.stmt.CoreBlock.{CoreBlock}
use Rattle.py_core.specs.declared.stmt.CoreGuard.{CoreGuard}
use Rattle.py_core.specs.declared.stmt.CoreHandler as handler
use Rattle.py_core.specs.declared.stmt.CoreHandler.{CoreHandler, out-CoreHandler}
use Rattle.py_values.specs.declared.value.Value.{Value}
use Rattle.machine_state.specs.py_world.declared.ended.Thrown.{Thrown}
use Rattle.machine_state.specs.py_world.declared.trace.TraceFrame.{TraceFrame}
use Rattle.machine_state.specs.py_world.World.{heap_of, with_trace}
use Rattle.machine_state.specs.py_world.Names.{bound}
use Rattle.machine_state.specs.py_world.Site.{Site}
use Rattle.machine_state.specs.py_world.Outcome.{Raised, on_value, raised_at}
use Rattle.machine_state.specs.py_world.Exceptions.{handler_block, handlers_on, no_exception, takes_exception}
use Rattle.machine_state.specs.core_meaning.Requests.{Layer}
use Rattle.machine_state.specs.core_meaning.Expressions.{eval}
use Rattle.machine_state.specs.core_meaning.Statements.{CoreHandling, core_block_body, handlings, some_part}
use Rattle.machine_state.specs.core_meaning.Statements.{handling_of as handling_at}
use Rattle.machine_state.specs.declared.place.Location.{Location}
use Rattle.machine_state.specs.declared.frame.Frame.{Frame}
use Rattle.machine_state.specs.declared.frame.Frame.TheVariants.{Unwind}
use Rattle.machine_state.specs.declared.frame.UnwindFrame.TheVariants.{Catch, Named}
use Rattle.machine_state.specs.Places.{CoreState, CoreThen, site_of}
use Rattle.machine_state.specs.Frames.{after_stack, handled_exception, layers_of, on_caught, on_class, outer_of}
use Rattle.machine_state.specs.Work.{block_work, catch_work, handler_work, some_weight}
use Rattle.machine_turns.proofs.Lists.{drop_some}

-- the block of a handler begins behind its name
pub named_begins : (h h1 h2 : Location) (fs fs1 fs2 fs' : List Frame) (s s1 s2 : CoreState) (name name' : List ℕ) (body : CoreBlock) (e : Value) (trace : List TraceFrame)
    → h1 ≡ h → fs1 ≡ fs → s1 ≡ with_trace e trace s
    → h2 ≡ h1 → fs2 ≡ fs1 → s2 ≡ bound name e (site_of h1 (outer_of fs1) (handled_exception fs1)).scene s1
    → fs' ≡ Unwind (Named name') ∷ fs2 → name' ≡ name
    → core_block_body (layers_of fs') body (site_of h2 (outer_of fs') (handled_exception fs')).scene s2 (after_stack fs' h2)
    ≡ handler_block (Some name) (core_block_body (layers_of fs) body) e trace (site_of h (outer_of fs) (handled_exception fs)) s (after_stack fs h)
named_begins h h1 h2 fs fs1 fs2 fs' s s1 s2 name name' body e trace here1 stack1 state1 here2 stack2 state2 pushed same =
    rw (pushed, state2, state1, here2, here1, stack2, stack1, same) refl

-- a handler by its parts
handling_is : (ls : List Layer) (x : CoreHandler) → handling_at ls x ≡ (some_part (out-CoreHandler x).class, ((out-CoreHandler x).name, core_block_body ls (out-CoreHandler x).body.value))
handling_is ls (handler.CoreHandler' class name p body) = rw (handler.outs-CoreHandler') refl

handler_weighs : (x : CoreHandler) → handler_work x ≡ some_weight (out-CoreHandler x).class + block_work (stmts_in (out-CoreHandler x).body.value) + 5
handler_weighs (handler.CoreHandler' class name p body) = rw (handler.outs-CoreHandler') refl

first_weighs : (x : CoreHandler) (xs : List CoreHandler) → catch_work (x ∷ xs) ≡ block_work (stmts_in (out-CoreHandler x).body.value) + 4 + sum_by handler_work xs
first_weighs (handler.CoreHandler' class name p body) xs = rw (handler.outs-CoreHandler') refl

-- the handler at a place, and those behind it
module _ (hs : List CoreHandler) (i : ℕ) (x : CoreHandler) (within : i < length hs) (is : x ≡ get_or hs i x) where
  pub handlers_weigh : sum_by handler_work (drop i hs) ≡ some_weight (out-CoreHandler x).class + block_work (stmts_in (out-CoreHandler x).body.value) + 5 + sum_by handler_work (drop (i + 1) hs)
  handlers_weigh =
      ap (sum_by handler_work) (drop_some hs i x within is) ∙ sum_by-cons {X = CoreHandler} handler_work x (drop (i + 1) hs) ∙ ap (λ (n : ℕ). n + sum_by handler_work (drop (i + 1) hs)) (handler_weighs x)

  pub catch_weighs : catch_work (drop i hs) ≡ block_work (stmts_in (out-CoreHandler x).body.value) + 4 + sum_by handler_work (drop (i + 1) hs)
  catch_weighs = ap catch_work (drop_some hs i x within is) ∙ first_weighs x (drop (i + 1) hs)

  parts : (ls : List Layer) → handlings ls (drop i hs) ≡ (some_part (out-CoreHandler x).class, ((out-CoreHandler x).name, core_block_body ls (out-CoreHandler x).body.value)) ∷ handlings ls (drop (i + 1) hs)
  parts ls = ap (handlings ls) (drop_some hs i x within is) ∙ ap (λ (y : CoreHandling). y ∷ handlings ls (drop (i + 1) hs)) (handling_is ls x)

  -- its class is evaluated, behind which it may take the exception that is being handled
  pub class_on : (ls : List Layer) (p : Site) (s : CoreState) (k : CoreThen) (t : Thrown) (handled : Option Thrown) (class : Rc CoreExpr Global) → (out-CoreHandler x).class ≡ Some class → handled ≡ Some t
      → eval class.value p s (λ o. on_value o k (λ c s. on_caught (handlings ls (drop i hs)) handled p c s k)) ≡ handlers_on (handlings ls (drop i hs)) t.exc t.trace p s k
  class_on ls p s k t handled class classed is_handled = rw (parts ls, classed, is_handled) refl

  -- it takes each exception
  pub takes_all : (ls : List Layer) (e : Value) (trace : List TraceFrame) (p : Site) (s : CoreState) (k : CoreThen) → (out-CoreHandler x).class ≡ None
      → handler_block (out-CoreHandler x).name (core_block_body ls (out-CoreHandler x).body.value) e trace p s k ≡ handlers_on (handlings ls (drop i hs)) e trace p s k
  takes_all ls e trace p s k any = rw (parts ls, any) refl

-- its class is evaluated, over the frame that waits for it
pub class_begins : (h : Location) (fs fs' : List Frame) (s : CoreState) (t : Thrown) (g g' : Rc CoreGuard Global) (i : ℕ) (x : CoreHandler) (class : Rc CoreExpr Global)
    → i < length (handlers_in g.value) → x ≡ get_or (handlers_in g.value) i x → (out-CoreHandler x).class ≡ Some class → handled_exception fs ≡ Some t → fs' ≡ Unwind (Catch g' i) ∷ fs → g'.value ≡ g.value
    → eval class.value (site_of h (outer_of fs') (handled_exception fs')) s (after_stack fs' h)
    ≡ handlers_on (handlings (layers_of fs) (drop i (handlers_in g.value))) t.exc t.trace (site_of h (outer_of fs) (handled_exception fs)) s (after_stack fs h)
class_begins h fs fs' s t g g' i x class within is classed handled pushed same =
    let p = site_of h (outer_of fs) (handled_exception fs) in
    rw pushed (ap (λ (y : CoreGuard). eval class.value p s (λ o. on_value o (after_stack fs h) (λ c s. on_caught (handlings (layers_of fs) (drop i (handlers_in y))) (handled_exception fs) p c s (after_stack fs h)))) same
    ∙ class_on (handlers_in g.value) i x within is (layers_of fs) p s (after_stack fs h) t (handled_exception fs) class classed handled)

-- by the value of its class: it takes the exception, the next one may, or the value is no class
module _ (ls : List Layer) (e : Value) (trace : List TraceFrame) (p : Site) (c : Value) (s : CoreState) (k : CoreThen) where
  taken_first : (x : CoreHandler) (xs : List CoreHandler) → takes_exception (heap_of s) e c ≡ Some true
      → handler_block (out-CoreHandler x).name (core_block_body ls (out-CoreHandler x).body.value) e trace p s k ≡ on_class (handlings ls (x ∷ xs)) e trace p c s k
  taken_first (handler.CoreHandler' class name q body) xs taken = rw (handler.outs-CoreHandler', taken) refl

  pub taken_here : (hs : List CoreHandler) (i : ℕ) (x : CoreHandler) → i < length hs → x ≡ get_or hs i x → takes_exception (heap_of s) e c ≡ Some true
      → handler_block (out-CoreHandler x).name (core_block_body ls (out-CoreHandler x).body.value) e trace p s k ≡ on_class (handlings ls (drop i hs)) e trace p c s k
  taken_here hs i x within is taken = taken_first x (drop (i + 1) hs) taken ∙ ap (λ (ys : List CoreHandler). on_class (handlings ls ys) e trace p c s k) (sym (drop_some hs i x within is))

  pub passed_over : (hs : List CoreHandler) (i : ℕ) → i < length hs → takes_exception (heap_of s) e c ≡ Some false
      → handlers_on (handlings ls (drop (i + 1) hs)) e trace p s k ≡ on_class (handlings ls (drop i hs)) e trace p c s k
  passed_over [] i within taken = absurd (omega (arith, within))
  passed_over (handler.CoreHandler' class name q body ∷ hs) zero within taken = rw taken refl
  passed_over (x ∷ hs) (suc i) within taken = let e : suc i + 1 ≡ suc (i + 1) = omega arith in rw e (passed_over hs i (omega (arith, within)) taken)

  pub no_class : (hs : List CoreHandler) (i : ℕ) → i < length hs → takes_exception (heap_of s) e c ≡ None
      → k (raised_at no_exception p s) ≡ on_class (handlings ls (drop i hs)) e trace p c s k
  no_class [] i within taken = absurd (omega (arith, within))
  no_class (handler.CoreHandler' class name q body ∷ hs) zero within taken = rw taken refl
  no_class (x ∷ hs) (suc i) within taken = no_class hs i (omega (arith, within)) taken

-- those behind a handler weigh less
pub over_weighs : (hs : List CoreHandler) (i : ℕ) → i < length hs → sum_by handler_work (drop (i + 1) hs) < catch_work (drop i hs)
over_weighs [] i within = absurd (omega (arith, within))
over_weighs (handler.CoreHandler' class name q body ∷ hs) zero within = omega arith
over_weighs (x ∷ hs) (suc i) within = let e : suc i + 1 ≡ suc (i + 1) = omega arith in rw e (over_weighs hs i (omega (arith, within)))

-- where there are no handlers the exception goes on
pub none_handles : (ls : List Layer) (hs : List CoreHandler) (e : Value) (trace : List TraceFrame) (p : Site) (s : CoreState) (k : CoreThen) → length hs ≤ 0 → k (Raised e trace s) ≡ handlers_on (handlings ls hs) e trace p s k
none_handles ls [] e trace p s k none = refl
none_handles ls (x ∷ hs) e trace p s k none = absurd (omega (arith, none))
