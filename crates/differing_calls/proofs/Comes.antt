-- A load that comes to a failed assert.
use Rattle.std.proofs.Common.{ℕ, zero, suc, true, false}
use Rattle.std.specs.Prelude.{length}
use Rattle.py_kinds.specs.Truth.{truth}
use Rattle.py_kinds.specs.Builtins.{rows, classes, pytest_names}
use Rattle.source_meaning.specs.py_world.World.{World}
use Rattle.source_meaning.specs.py_world.Runs.{told_by}
use Rattle.source_meaning.specs.Meaning.{source_module}
use Rattle.explain_law.specs.Choices as alike
use Rattle.explain_law.specs.Choices.{Choices, K, J, WorldsByChoice, worlds, script_at}
use Rattle.explain_law.specs.Law.{ComeToAssert}
use Rattle.explain_law.proofs.Told.{modules_until}
use Rattle.differing_calls.specs.Asserts.{none_or_each, assert_path, assert_text, assert_false, with_assert, assert_load}
use Rattle.differing_calls.proofs.Apart.{parting}

abbrev pub SameNumber : ℕ → ℕ → Type 0
SameNumber zero zero = Unit {0}
SameNumber (suc m) (suc n) = SameNumber m n
SameNumber zero (suc n) = ⊥
SameNumber (suc m) zero = ⊥

same_self : (n : ℕ) → SameNumber n n
same_self zero = tt
same_self (suc n) = same_self n

pub heaps : (R : Choices) {w : World K} {z : World J} → WorldsByChoice R w z → SameNumber (length w.heap) (length z.heap)
heaps R (worlds xs ys zs modules heap printed traces) = same_self (length heap)

pub alike_worlds : WorldsByChoice none_or_each (with_assert false) (with_assert true)
alike_worlds = worlds (alike.SourcesByChoice.more assert_path assert_text (alike.code (script_at assert_false)) alike.SourcesByChoice.none) alike.CodesByChoice.none alike.FrozenByChoice.none _ _ _ _

-- the explanation is one object more
text_more : SameNumber (length (source_module assert_path 10 (with_assert false)).1.heap) (length (source_module assert_path 10 (with_assert true)).1.heap) → ⊥
unfolding truth rows classes pytest_names
text_more h = h

pub comes : ComeToAssert none_or_each 10 (assert_load false) (assert_load true)
comes = parting none_or_each told_by (modules_until none_or_each _ _ alike_worlds assert_path 10) (λ h. text_more (heaps none_or_each h.1))
