-- Runs that stop at a failed assert under two choices, and runs that do not.
use Rattle.std.proofs.Common.{◌≡◌, ℕ, List, Option, Some, None, Bool, true, false, refl, sym, ap, ◌∙◌, subst}
use Rattle.std.specs.Prelude.{cond}
use Rattle.py_source.specs.declared.pos.Pos.{Pos}
use Rattle.py_tree.specs.Trees.{Tree, Maybe, Absent, Present}
use Rattle.py_tree.specs.Statements as st
use Rattle.py_values.specs.declared.value.Value.{Value}
use Rattle.py_values.specs.declared.value.Value.TheVariants as val
use Rattle.run_tree.specs.Todo.{Freeze}
use Rattle.source_meaning.specs.py_world.World.{CallState}
use Rattle.source_meaning.specs.py_world.Site.{Site}
use Rattle.source_meaning.specs.py_world.Outcome.{Rest, Continuation, Denotation, Suspension}
use Rattle.source_meaning.specs.py_world.Statements.{fail, fail_explained}
use Rattle.source_meaning.specs.Expressions.{some_source_part}
use Rattle.source_meaning.specs.Statements.{source_assert, assert_as}
use Rattle.explain_law.proofs.Until as until
use Rattle.explain_law.specs.Law as law
use Rattle.explain_law.specs.Law.{unequal, SameAssert, same_assert}
use Rattle.explain_law.proofs.Following.{Apart}
use Rattle.explain_law.specs.Stopping.{real_asserts, condition_of, stopped_there, stopping_asserts, AtAssert, at_assert, failed_assert, failed_end, message_given, FailedEnds, failing_with, answering_asserts}
use Rattle.explain_law.specs.Choices.{Choices, K, J, StatesByChoice, EndsByChoice, FailedApart, plain_first, explained_first}
use Rattle.explain_law.proofs.Parts as part
use Rattle.explain_law.proofs.Blocks as block
use Rattle.explain_law.proofs.Forms.{eval_same, condition_same, assert_same, assert_chosen}

-- one run stands at a failed assert
pub data StopsAt : Rest K → Rest K → Type 0 where
  stops_at : (t : Rest K) {f : Suspension K} → AtAssert f → StopsAt t (Freeze f)

-- both stand at the same
pub data BothStop (R : Choices) : Rest K → Rest J → Type 0 where
  both_stop : {f : Suspension K} {g : Suspension J} → SameAssert R f g → BothStop R (Freeze f) (Freeze g)

-- one choice, in both
abbrev pub both : (List ℕ → Bool) → Choices
both choice = record { first = choice; second = choice }

unequal_self : (b : Bool) → unequal b b ≡ false
unequal_self true = refl
unequal_self false = refl

module _ (R : Choices) (P : Apart) where
  abbrev Follow : Rest K → Rest J → Type 0
  Follow = part.Follow R P false

  by_cond : (b : Bool) {x y : Rest K} {x' y' : Rest J} → (b ≡ true → Follow x x') → (b ≡ false → Follow y y') → Follow (cond b x y) (cond b x' y')
  by_cond true h g = h refl
  by_cond false h g = g refl

  from_cond : (b : Bool) {x : Rest K} {x' y' : Rest J} → (b ≡ true → Follow x x') → (b ≡ false → Follow x y') → Follow x (cond b x' y')
  from_cond true h g = h refl
  from_cond false h g = g refl

module _ (R : Choices) where
  -- what a failed assert raises
  raises : (p : Site) → law.differs R p.scene.path ≡ true → (e : Tree) (message : Option Value) {s : CallState K} {r : CallState J} → StatesByChoice R false s r → (x y : Bool) → x ≡ R.first p.scene.path → y ≡ R.second p.scene.path → FailedApart R (failed_end x e message p s) (failed_end y e message p r)
  raises p are e message ss false true f g = plain_first p (sym f) (sym g) e message ss
  raises p are e message ss true false f g = explained_first p (sym f) (sym g) e message ss
  raises p are e message ss false false f g = (let c : true ≡ false = sym are ∙ (λ i. unequal (sym f i) (sym g i)) in cc)
  raises p are e message ss true true f g = (let c : true ≡ false = sym are ∙ (λ i. unequal (sym f i) (sym g i)) in cc)

  same_here : (p : Site) → law.differs R p.scene.path ≡ true → (x y : Bool) → x ≡ R.first p.scene.path → y ≡ R.second p.scene.path → (v : Value) (at : Pos) (e : Tree) (m : Maybe) {s : CallState K} {r : CallState J} → StatesByChoice R false s r → SameAssert R (failed_assert v x (st.Assert at e m) p s) (failed_assert v y (st.Assert at e m) p r)
  same_here p are x y f g v at e m {s = s} {r = r} ss =
      subst (λ (z : Bool). SameAssert R (failed_assert v z (st.Assert at e m) p s) (failed_assert v y (st.Assert at e m) p r)) (sym f)
      (subst (λ (z : Bool). SameAssert R (failed_assert v (R.first p.scene.path) (st.Assert at e m) p s) (failed_assert v z (st.Assert at e m) p r)) (sym g)
      (same_assert p are v at e m ss (raises p are e (message_given m v) ss _ _ refl refl)))

  stopped_here : (path : List ℕ) → law.differs R path ≡ true → (x y : Bool) → x ≡ R.first path → y ≡ R.second path → (at : Pos) (e : Tree) (m : Maybe) → block.PartAt R (BothStop R) path (stopped_there x at e m) (stopped_there y at e m)
  stopped_here path are x y f g at e Absent = record { does = λ p is ss k l h. until.part (both_stop (same_here p (ap (law.differs R) is ∙ are) x y (f ∙ sym (ap R.first is)) (g ∙ sym (ap R.second is)) val.None at e Absent ss)) }
  stopped_here path are x y f g at e (Present m) =
      record {
        does = λ p is ss k l h. (eval_same R (BothStop R) false m).does p ss _ _
            (λ o q n. part.value_same R (BothStop R) false n k l h _ _ (λ v s r us. until.part (both_stop (same_here p (ap (law.differs R) is ∙ are) x y (f ∙ sym (ap R.first is)) (g ∙ sym (ap R.second is)) v at e (Present m) us))));
      }

  -- BOTH STOP at a failed assert of a module for which the choices differ
  pub stopping_same : (path : List ℕ) (at : Pos) (e : Tree) (m : Maybe) → block.PartAt R (BothStop R) path (stopping_asserts (law.differs R) (R.first path) at e m) (stopping_asserts (law.differs R) (R.second path) at e m)
  stopping_same path at e m =
      record {
        does = λ p is ss k l h. by_cond R (BothStop R) (law.differs R p.scene.path)
            (λ are. (assert_same R (BothStop R) (condition_same R (BothStop R) (R.first path) (R.second path) e) (stopped_here path (sym (ap (law.differs R) is) ∙ are) _ _ refl refl at e m)).does p is ss k l h)
            (λ are_not. (assert_chosen R (BothStop R) path (R.first path) (R.second path) (sym (ap (law.differs R) is) ∙ are_not) e m).does p is ss k l h);
      }

module _ (R : Choices) (P : Apart) (A B : FailedEnds) (alike : law.EndAlike R A B) where
  -- BOTH END ALIKE
  ends_here : (e : Tree) (message : Option Value) (p : Site) → law.differs R p.scene.path ≡ true → (x y : Bool) → x ≡ R.first p.scene.path → y ≡ R.second p.scene.path → {s : CallState K} {r : CallState J} → StatesByChoice R false s r → EndsByChoice R false (A x e message p s) (B y e message p r)
  ends_here e message p are x y f g {s = s} {r = r} ss = subst (λ (z : Bool). EndsByChoice R false (A z e message p s) (B y e message p r)) (sym f) (subst (λ (z : Bool). EndsByChoice R false (A (R.first p.scene.path) e message p s) (B z e message p r)) (sym g) (alike e message p are s r ss))

  failing_here : (at : Pos) (e : Tree) (m : Maybe) (p : Site) → law.differs R p.scene.path ≡ true → (x y : Bool) → x ≡ R.first p.scene.path → y ≡ R.second p.scene.path → {s : CallState K} {r : CallState J} → StatesByChoice R false s r → (k : Continuation K) (l : Continuation J) → part.Behind R P false k l → part.Follow R P false (failing_with A x at e m p s k) (failing_with B y at e m p r l)
  failing_here at e Absent p are x y f g ss k l h = h _ _ (ends_here e None p are x y f g ss)
  failing_here at e (Present m) p are x y f g ss k l h = (eval_same R P false m).does p ss _ _ (λ o q n. part.value_same R P false n k l h _ _ (λ v s r us. h _ _ (ends_here e (Some v) p are x y f g us)))

  failing_same : (path : List ℕ) → law.differs R path ≡ true → (x y : Bool) → x ≡ R.first path → y ≡ R.second path → (at : Pos) (e : Tree) (m : Maybe) → block.PartAt R P path (failing_with A x at e m) (failing_with B y at e m)
  failing_same path are x y f g at e m = record { does = λ p is ss k l h. failing_here at e m p (ap (law.differs R) is ∙ are) x y (f ∙ sym (ap R.first is)) (g ∙ sym (ap R.second is)) ss k l h }

  pub answering_same : (path : List ℕ) (at : Pos) (e : Tree) (m : Maybe) → block.PartAt R P path (answering_asserts (law.differs R) A (R.first path) at e m) (answering_asserts (law.differs R) B (R.second path) at e m)
  answering_same path at e m =
      record {
        does = λ p is ss k l h. by_cond R P (law.differs R p.scene.path)
            (λ are. (assert_same R P (condition_same R P (R.first path) (R.second path) e) (failing_same path (sym (ap (law.differs R) is) ∙ are) _ _ refl refl at e m)).does p is ss k l h)
            (λ are_not. (assert_chosen R P path (R.first path) (R.second path) (sym (ap (law.differs R) is) ∙ are_not) e m).does p is ss k l h);
      }

module _ (differs choice : List ℕ → Bool) where
  abbrev C : Choices
  C = both choice

  abbrev fail_by : Bool → Tree → Maybe → Denotation K
  fail_by true e m = fail_explained e (some_source_part m)
  fail_by false e m = fail (some_source_part m)

  -- A FAILED ASSERT at which one run stops
  failing : (path : List ℕ) (at : Pos) (e : Tree) (m : Maybe) (x y : Bool) → block.PartAt C StopsAt path (fail_by y e m) (stopped_there x at e m)
  failing path at e Absent x true = record { does = λ p is ss k l b. until.part (stops_at _ (at_assert val.None x at e Absent p _)) }
  failing path at e Absent x false = record { does = λ p is ss k l b. until.part (stops_at _ (at_assert val.None x at e Absent p _)) }
  failing path at e (Present m) x true = record { does = λ p is ss k l b. (eval_same C StopsAt false m).does p ss _ _ (λ o q n. part.value_same C StopsAt false n k l b _ _ (λ v s r us. until.part (stops_at _ (at_assert v x at e (Present m) p r)))) }
  failing path at e (Present m) x false = record { does = λ p is ss k l b. (eval_same C StopsAt false m).does p ss _ _ (λ o q n. part.value_same C StopsAt false n k l b _ _ (λ v s r us. until.part (stops_at _ (at_assert v x at e (Present m) p r)))) }

  real_or : (path : List ℕ) (at : Pos) (e : Tree) (m : Maybe) (x : Bool) → block.PartAt C StopsAt path (assert_as x e (some_source_part m)) (source_assert (condition_of x e) (stopped_there x at e m))
  real_or path at e m true = assert_same C StopsAt (condition_same C StopsAt true true e) (failing path at e m true true)
  real_or path at e m false = assert_same C StopsAt (condition_same C StopsAt false false e) (failing path at e m false false)

  pub real_same : (path : List ℕ) (at : Pos) (e : Tree) (m : Maybe) → block.PartAt C StopsAt path (real_asserts (choice path) at e m) (stopping_asserts differs (choice path) at e m)
  real_same path at e m =
      record {
        does = λ p is ss k l h. from_cond C StopsAt (differs p.scene.path)
            (λ are. (real_or path at e m (choice path)).does p is ss k l h)
            (λ are_not. (assert_chosen C StopsAt path (choice path) (choice path) (unequal_self (choice path)) e m).does p is ss k l h);
      }
