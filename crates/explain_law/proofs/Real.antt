-- The meaning of sources among those in which asserts alone do something else.
use Rattle.std.proofs.Common.{◌≡◌, List, ℕ, Bool, true, false, refl, ◌∙◌}
use Rattle.std.specs.Prelude.{cond}
use Rattle.py_source.specs.declared.pos.Pos.{Pos}
use Rattle.py_tree.specs.Trees.{Tree, Maybe, Absent, Present}
use Rattle.py_tree.specs.Statements as st
use Rattle.py_tree.specs.Statements.{Statement}
use Rattle.source_meaning.specs.py_world.World.{CallState}
use Rattle.source_meaning.specs.py_world.Site.{Site}
use Rattle.source_meaning.specs.py_world.Outcome.{Continuation}
use Rattle.source_meaning.specs.Expressions.{some_source_part}
use Rattle.source_meaning.specs.Requests.{SourceLayer, SourceTurn, StatementOf, TurnOf, ForOf}
use Rattle.source_meaning.specs.Statements.{source_assert, assert_as, source_statement, source_act}
use Rattle.source_meaning.specs.Meaning.{source_semantics}
use Rattle.explain_law.specs.Choices.{K}
use Rattle.explain_law.specs.Stopping.{failing_with, answering, answering_asserts, real_asserts, condition_of, failed_end, meaning_with, statement_with, act_with}

-- the meaning of sources is the one in which asserts do what they do
real_statement : (x : Bool) (ls : List SourceLayer) (s : Statement) → statement_with real_asserts x ls s ≡ source_statement x ls s
real_statement x ls (st.Do at e) = refl
real_statement x ls (st.Assign at ts e) = refl
real_statement x ls (st.AugAssign at p op e) = refl
real_statement x ls (st.Return at e) = refl
real_statement x ls (st.Assert at e m) = refl
real_statement x ls (st.GlobalOf at names) = refl
real_statement x ls (st.Pass at) = refl
real_statement x ls (st.Break at) = refl
real_statement x ls (st.Continue at) = refl
real_statement x ls (st.If at bs other) = refl
real_statement x ls (st.While at e body) = refl
real_statement x ls (st.Def at ds word name params returns body) = refl
real_statement x ls (st.YieldOf at word e) = refl
real_statement x ls (st.AssignYield at ts word e) = refl
real_statement x ls (st.ReturnYield at word e) = refl
real_statement x ls (st.Raise at e) = refl
real_statement x ls (st.Del at p) = refl
real_statement x ls (st.Import at names alias) = refl
real_statement x ls (st.ImportFrom at names all) = refl
real_statement x ls (st.For at taker e body) = refl
real_statement x ls (st.Try at body hs other final) = refl
real_statement x ls (st.With at e name body) = refl
real_statement x ls (st.Class at ds word name base body) = refl

real_act : (what : SourceTurn) → act_with real_asserts what ≡ source_act what
real_act (StatementOf x ls s) = real_statement x ls s
real_act (TurnOf x e body) = refl
real_act (ForOf x taker body at) = refl

pub real_meaning : meaning_with real_asserts ≡ source_semantics
real_meaning = λ i. record { entry = source_semantics.entry; act = λ what. real_act what i; body = source_semantics.body; remains = source_semantics.remains }

-- failed asserts really end with their failure
plainly : (b x : Bool) (at : Pos) (e : Tree) (m : Maybe) (p : Site) (s : CallState K) (k : Continuation K) → cond b (source_assert (condition_of x e) (failing_with failed_end x at e m) p s k) (assert_as x e (some_source_part m) p s k) ≡ assert_as x e (some_source_part m) p s k
plainly true true at e Absent p s k = refl
plainly true true at e (Present m) p s k = refl
plainly true false at e Absent p s k = refl
plainly true false at e (Present m) p s k = refl
plainly false x at e m p s k = refl

same_asserts : (differs : List ℕ → Bool) → answering_asserts differs failed_end ≡ real_asserts
same_asserts differs = λ i x at e m p s k. plainly (differs p.scene.path) x at e m p s k i

pub really : (differs : List ℕ → Bool) → answering differs failed_end ≡ source_semantics
really differs = (λ i. meaning_with (same_asserts differs i)) ∙ real_meaning
