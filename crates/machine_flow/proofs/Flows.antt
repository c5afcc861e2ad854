-- Conditions and turns of `while` begin.
use Rattle.std.proofs.Common.{◌≡◌, ◌∙◌, ◌+◌, ℕ, suc, List, [], ◌∷◌, ◌++◌, drop, refl, sym, ap}
use Rattle.std.specs.declared.alloc.Global.{Global}
use Rattle.std.specs.declared.rc.Rc.{Rc}
use Rattle.std.specs.declared.vec.Vec.{Vec}
use Rattle.py_core.specs.Blocks.{stmts_in}
use Rattle.py_core.specs.declared.expr.CoreExpr.{CoreExpr}
use Rattle.py_core.specs.declared.stmt.CoreBlock.{CoreBlock}
use Rattle.py_core.specs.declared.stmt.CoreBranch as branch
use Rattle.py_core.specs.declared.stmt.CoreBranch.{CoreBranch, out-CoreBranch}
use Rattle.py_world.specs.World.{state}
use Rattle.py_world.specs.Site.{Site}
use Rattle.py_world.specs.Statements.{asked, branches_on, loop, while_turn}
use Rattle.machine_state.specs.core_meaning.Requests.{Layer, CoreTurn, TurnOf}
use Rattle.machine_state.specs.core_meaning.Expressions.{eval}
use Rattle.machine_state.specs.core_meaning.Statements.{act, core_block_body, choice, choices}
use Rattle.machine_state.specs.declared.place.Location.{Location}
use Rattle.machine_state.specs.declared.frame.Frame.{Frame}
use Rattle.machine_state.specs.declared.frame.Frame.TheVariants.{Flow}
use Rattle.machine_state.specs.declared.frame.FlowFrame.TheVariants.{Branch, Test, Turn as Turns}
use Rattle.machine_state.specs.Work.{block_work, branch_work, weight}
use Rattle.machine_state.specs.Places.{CoreRest, CoreState, CoreThen, at_line, ends, site_of}
use Rattle.machine_state.specs.Frames.{after_stack, handled_exception, layers_of, outer_of}

-- a branch by its parts
pub choice_is : (ls : List Layer) (b : CoreBranch) → choice ls b ≡ ((out-CoreBranch b).at.line, (eval (out-CoreBranch b).condition.value, core_block_body ls (out-CoreBranch b).body.value))
choice_is ls (branch.CoreBranch' at condition p body) = rw (branch.outs-CoreBranch') refl

pub branch_weighs : (b : CoreBranch) → branch_work b ≡ weight (out-CoreBranch b).condition.value + block_work (stmts_in (out-CoreBranch b).body.value) + 2
branch_weighs (branch.CoreBranch' at condition p body) = rw (branch.outs-CoreBranch') refl

module _ (h : Location) (fs : List Frame) (s : CoreState) where
  -- a loop begins with its condition
  pub loop_tests : (test test' : Rc CoreExpr Global) (body body' : Rc CoreBlock Global) → test'.value ≡ test.value → body'.value ≡ body.value
      → eval test.value (site_of h (outer_of fs) (handled_exception fs)) s (after_stack (Flow (Test test' body') ∷ fs) h)
      ≡ loop (TurnOf test.value body.value) (eval test.value) (site_of h (outer_of fs) (handled_exception fs)) s (after_stack fs h)
  loop_tests test test' body body' e f = rw (e, f) refl

  -- a branch begins with its condition, on its line
  pub branch_tests : (b : CoreBranch) (e : Rc CoreExpr Global) (body : Rc CoreBlock Global) (branches : Rc (Vec CoreBranch Global) Global) (next : ℕ) (other : Rc CoreBlock Global)
      (fs' : List Frame) → fs' ≡ Flow (Branch body branches next other h.line) ∷ fs → e.value ≡ (out-CoreBranch b).condition.value → body.value ≡ (out-CoreBranch b).body.value
      → eval e.value (site_of (at_line (out-CoreBranch b).at.line h) (outer_of fs') (handled_exception fs')) s (after_stack fs' (at_line (out-CoreBranch b).at.line h))
      ≡ branches_on (choice (layers_of fs) b ∷ choices (layers_of fs) (drop next branches.value.items)) (core_block_body (layers_of fs) other.value) (site_of h (outer_of fs) (handled_exception fs)).scene s (after_stack fs h)
  branch_tests b e body branches next other fs' pushed condition same = rw (pushed, condition, same, choice_is (layers_of fs) b) refl

-- a step is taken for what is asked
pub asked_runs : (n m : ℕ) (what : CoreTurn) (p : Site) (s : CoreState) (k : CoreThen) → n ≡ suc m → ends n (asked what p s k) ≡ ends m (act what p s k)
asked_runs n m what p s k e = rw e refl

-- a turn begins with its block
turn_begins : (h h1 : Location) (fs fs1 fs' : List Frame) (s s1 : CoreState) (test : Rc CoreExpr Global) (body again : Rc CoreBlock Global)
    → h1 ≡ h → fs1 ≡ fs → s1 ≡ s → fs' ≡ Flow (Turns test again h1.line) ∷ fs1 → again.value ≡ body.value
    → core_block_body (layers_of fs') body.value (site_of h1 (outer_of fs') (handled_exception fs')).scene s1 (after_stack fs' h1)
    ≡ while_turn (TurnOf test.value body.value) (eval test.value) (core_block_body [] body.value) (site_of h (outer_of fs) (handled_exception fs)) s (after_stack fs h)
turn_begins h h1 fs fs1 fs' s s1 test body again here stack state pushed same = rw (pushed, here, stack, state, same) refl

pub turn_runs : (n l l' : ℕ) (h h1 : Location) (fs fs1 fs' : List Frame) (s s1 : CoreState) (test : Rc CoreExpr Global) (body again : Rc CoreBlock Global) (t : CoreRest)
    → n ≡ suc l → l' ≡ l → h1 ≡ h → fs1 ≡ fs → s1 ≡ s → fs' ≡ Flow (Turns test again h1.line) ∷ fs1 → again.value ≡ body.value
    → t ≡ core_block_body (layers_of fs') body.value (site_of h1 (outer_of fs') (handled_exception fs')).scene s1 (after_stack fs' h1)
    → ends n (asked (TurnOf test.value body.value) (site_of h (outer_of fs) (handled_exception fs)) s (after_stack fs h)) ≡ ends l' t
turn_runs n l l' h h1 fs fs1 fs' s s1 test body again t e less here stack state pushed same is =
    asked_runs n l (TurnOf test.value body.value) (site_of h (outer_of fs) (handled_exception fs)) s (after_stack fs h) e
    ∙ ap (ends l) (sym (is ∙ turn_begins h h1 fs fs1 fs' s s1 test body again here stack state pushed same)) ∙ ap (λ (x : ℕ). ends x t) (sym less)
