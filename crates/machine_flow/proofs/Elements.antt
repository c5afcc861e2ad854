-- The turns of a `for` begin.
use Rattle.std.proofs.Common.{◌≡◌, ◌∙◌, ℕ, suc, List, [], ◌∷◌, ◌++◌, Option, Some, None, length, refl, sym, ap}
use Rattle.std.specs.declared.alloc.Global.{Global}
use Rattle.std.specs.declared.rc.Rc.{Rc}
use Rattle.py_core.specs.declared.expr.CoreExpr.{CoreExpr}
use Rattle.py_core.specs.declared.stmt.CoreBlock.{CoreBlock}
use Rattle.py_core.specs.declared.stmt.CoreTarget.{CoreTarget}
use Rattle.py_items.specs.Turns.{iterator_after}
use Rattle.py_items.specs.declared.iter.IterAt.{IterAt}
use Rattle.py_values.specs.declared.end.Effect.{Effect}
use Rattle.py_values.specs.declared.end.Effect.TheVariants.{Give, New, Put, Fail}
use Rattle.py_values.specs.declared.end.Raise.{Raise}
use Rattle.py_values.specs.declared.change.Change.{Change}
use Rattle.py_values.specs.declared.object.Obj.{Obj}
use Rattle.py_values.specs.declared.value.ObjId.{ObjId}
use Rattle.py_values.specs.declared.value.Value.TheVariants as val
use Rattle.py_values.specs.Changes.{heap_after}
use Rattle.py_values.specs.Ends.{id_at}
use Rattle.py_values.specs.declared.value.Value.{Value}
use Rattle.py_world.specs.Site.{Site}
use Rattle.py_world.specs.World.{heap_of, with_heap}
use Rattle.py_world.specs.Outcome.{Next, on_next, raised_at}
use Rattle.py_world.specs.Loops.{behind_target, for_statement, for_turn, turn_begun, turn_with}
use Rattle.py_world.specs.Statements.{asked}
use Rattle.machine_state.specs.core_meaning.Requests.{ForOf, CoreTurn}
use Rattle.machine_state.specs.core_meaning.Expressions.{eval}
use Rattle.machine_state.specs.core_meaning.Statements.{core_block_body, store}
use Rattle.machine_state.specs.declared.place.Location.{Location}
use Rattle.machine_state.specs.declared.frame.Frame.{Frame}
use Rattle.machine_state.specs.declared.frame.Frame.TheVariants.{Flow}
use Rattle.machine_state.specs.declared.frame.FlowFrame.TheVariants.{Iterable, Taken, ForTurn}
use Rattle.machine_state.specs.Places.{CoreRest, CoreState, CoreThen, ends, site_of}
use Rattle.machine_state.specs.Frames.{after_stack, handled_exception, layers_of, outer_of}
use Rattle.machine_flow.specs.declared.turns.Look.TheVariants as look
use Rattle.machine_flow.specs.Looks.{look_of}
use Rattle.machine_flow.proofs.Flows.{asked_runs}

module _ (h : Location) (fs : List Frame) (s : CoreState) where
  -- a `for` begins with what it goes over
  pub for_begins : (t t' : Rc CoreTarget Global) (e : Rc CoreExpr Global) (b b' : Rc CoreBlock Global) → t'.value ≡ t.value → b'.value ≡ b.value
      → eval e.value (site_of h (outer_of fs) (handled_exception fs)) s (after_stack (Flow (Iterable t' b') ∷ fs) h)
      ≡ for_statement (ForOf t.value b.value) (eval e.value) (site_of h (outer_of fs) (handled_exception fs)) s (after_stack fs h)
  for_begins t t' e b b' same_target same_body = rw (same_target, same_body) refl

  -- an element is stored
  pub element_stored : (t t' : Rc CoreTarget Global) (b : Rc CoreBlock Global) (next : IterAt) (v : Value) (fs' : List Frame) → t'.value ≡ t.value → fs' ≡ Flow (Taken t' b next) ∷ fs
      → store t.value v (site_of h (outer_of fs') (handled_exception fs')) s (after_stack fs' h)
      ≡ store t.value v (site_of h (outer_of fs) (handled_exception fs)) s (λ o. on_next o (after_stack fs h) (λ s. behind_target (ForOf t.value b.value) (core_block_body [] b.value) next (site_of h (outer_of fs) (handled_exception fs)) s (after_stack fs h)))
  element_stored t t' b next v fs' same pushed = rw (pushed, same) refl

  -- the block of a turn begins
  pub body_begins : (t : Rc CoreTarget Global) (b b' : Rc CoreBlock Global) (next : IterAt) (fs' : List Frame) → b'.value ≡ b.value → fs' ≡ Flow (ForTurn t b' next h.line) ∷ fs
      → core_block_body (layers_of fs') b.value (site_of h (outer_of fs') (handled_exception fs')).scene s (after_stack fs' h)
      ≡ behind_target (ForOf t.value b.value) (core_block_body [] b.value) next (site_of h (outer_of fs) (handled_exception fs)) s (after_stack fs h)
  body_begins t b b' next fs' same pushed = rw (pushed, same) refl

-- by what is made: the element is stored in the state behind it
module _ (t : CoreTarget) (b : CoreBlock) (at next : IterAt) (made : Effect) (p : Site) (s : CoreState) (k : CoreThen) (behind : next ≡ iterator_after at made) where
  abbrev Stored : Value → CoreState → CoreRest
  Stored v s = store t v p s (λ o. on_next o k (λ s. behind_target (ForOf t b) (core_block_body [] b) next p s k))

  abbrev Whole : CoreRest
  Whole = turn_with (ForOf t b) (store t) (core_block_body [] b) at (Some made) p s k

  pub element_given : (v : Value) (n : ℕ) → made ≡ Give v n → Stored v s ≡ Whole
  element_given v n is = rw (behind, is) refl

  pub element_new : (o : Obj) (n : ℕ) (heap : List Obj) (id : ℕ) → made ≡ New o n → heap ≡ heap_of s ++ o ∷ [] → id ≡ length (heap_of s) → Stored (val.Ref (id_at id)) (with_heap heap s) ≡ Whole
  element_new o n heap id is is_heap is_id = rw (behind, is, is_heap, is_id) refl

  pub element_put : (id : ObjId) (change : Change) (v : Value) (n : ℕ) (heap : List Obj) → made ≡ Put id change v n → heap ≡ heap_after id change (heap_of s) → Stored v (with_heap heap s) ≡ Whole
  element_put id change v n heap is is_heap = rw (behind, is, is_heap) refl

-- by what the look tells
pub over_ends : (x : Option Effect) (turn : CoreTurn) (p : Site) (s : CoreState) (k : CoreThen) → look_of x ≡ look.Over → turn_begun x turn p s k ≡ k (Next s)
over_ends None turn p s k is = refl
over_ends (Some (Give v n)) turn p s k is = absurd cc
over_ends (Some (New o n)) turn p s k is = absurd cc
over_ends (Some (Put id change v n)) turn p s k is = absurd cc
over_ends (Some (Fail r n)) turn p s k is = absurd cc

pub there_asks : (x : Option Effect) (turn : CoreTurn) (p : Site) (s : CoreState) (k : CoreThen) → look_of x ≡ look.There → turn_begun x turn p s k ≡ asked turn p s k
there_asks None turn p s k is = absurd cc
there_asks (Some (Give v n)) turn p s k is = refl
there_asks (Some (New o n)) turn p s k is = refl
there_asks (Some (Put id change v n)) turn p s k is = refl
there_asks (Some (Fail r n)) turn p s k is = absurd cc

pub failed_raises : (x : Option Effect) (turn : CoreTurn) (p : Site) (s : CoreState) (k : CoreThen) (r : Raise) → look_of x ≡ look.Failed r → turn_begun x turn p s k ≡ k (raised_at r p s)
failed_raises None turn p s k r is = absurd cc
failed_raises (Some (Give v n)) turn p s k r is = absurd cc
failed_raises (Some (New o n)) turn p s k r is = absurd cc
failed_raises (Some (Put id change v n)) turn p s k r is = absurd cc
failed_raises (Some (Fail q n)) turn p s k r is = let same : q ≡ r = cc in rw same refl

-- a turn takes its step, and then its element is made
pub for_runs : (n l l' : ℕ) (h h1 : Location) (fs fs1 : List Frame) (s s1 : CoreState) (t : CoreTarget) (b : CoreBlock) (at : IterAt) (u : CoreRest)
    → n ≡ suc l → l' ≡ l → h1 ≡ h → fs1 ≡ fs → s1 ≡ s
    → u ≡ for_turn (ForOf t b) (store t) (core_block_body [] b) at (site_of h1 (outer_of fs1) (handled_exception fs1)) s1 (after_stack fs1 h1)
    → ends n (asked (ForOf t b at) (site_of h (outer_of fs) (handled_exception fs)) s (after_stack fs h)) ≡ ends l' u
for_runs n l l' h h1 fs fs1 s s1 t b at u e less here stack state is =
    asked_runs n l (ForOf t b at) (site_of h (outer_of fs) (handled_exception fs)) s (after_stack fs h) e
    ∙ ap (ends l) (sym (is ∙ rw (here, stack, state) refl)) ∙ ap (λ (x : ℕ). ends x u) (sym less)
