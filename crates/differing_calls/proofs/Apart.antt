-- What the law's relation says of two runs.
use Rattle.std.proofs.Common.{◌≡◌, ℕ, Some, None, sym, subst}
use Rattle.source_meaning.specs.py_world.Outcome.{Rest}
use Rattle.source_meaning.specs.py_world.Site.{trace_of}
use Rattle.source_meaning.specs.Meaning.{SourceWorld}
use Rattle.explain_law.specs.Choices as alike
use Rattle.explain_law.specs.Choices.{Choices, K, J, worlds, states}
use Rattle.explain_law.specs.Stopping.{FailedEnds, answering}
use Rattle.explain_law.specs.Law.{SourceEnding, differs, run_tells, EndAlike, AlikeTold, ComeToAssert, UntilAssert, told, parted}
use Rattle.differing_calls.specs.Endings.{without_argument, with_its_message}

module _ (R : Choices) {A : Type 0} (tell : ℕ → SourceEnding → A × SourceWorld) where
  both_tell : {a b c d : A × SourceWorld} → a ≡ c → b ≡ d → AlikeTold R c d → AlikeTold R a b
  both_tell {b = b} {c = c} p q h = subst (λ (x : A × SourceWorld). AlikeTold R x b) (sym p) (subst (λ (y : A × SourceWorld). AlikeTold R c y) (sym q) h)

  -- what differs is told at a failed assert alone
  pub parting : {budget : ℕ} {t : Rest K} {u : Rest J} {a b : A × SourceWorld} → UntilAssert R tell budget (Some t) (Some u) a b → (AlikeTold R a b → ⊥) → ComeToAssert R budget t u
  parting (told x y h) differ = absurd (differ (both_tell x.really y.really h.1))
  parting (parted d e h g) differ = h

  -- and not there where other ends that are alike leave a difference
  pub unrelated : {budget : ℕ} {t : Rest K} {u : Rest J} {a b : A × SourceWorld} → UntilAssert R tell budget (Some t) (Some u) a b → (AlikeTold R a b → ⊥) → (ends others : FailedEnds) → EndAlike R ends others → (AlikeTold R (run_tells tell (answering (differs R) ends) budget t) (run_tells tell (answering (differs R) others) budget u) → ⊥) → ⊥
  unrelated (told x y h) differ ends others alike never = differ (both_tell x.really y.really h.1)
  unrelated (parted d e h g) differ ends others alike never = never (g ends others alike).1

-- failed asserts can end alike
pub bare : (R : Choices) → EndAlike R without_argument without_argument
bare R e message p are _ _ (states a t (worlds xs ys zs modules heap printed traces)) = alike.raised _ (trace_of p) (states a t (worlds xs ys zs modules _ printed traces))

pub messages : (R : Choices) → EndAlike R with_its_message with_its_message
messages R e None p are _ _ (states a t (worlds xs ys zs modules heap printed traces)) = alike.raised _ (trace_of p) (states a t (worlds xs ys zs modules _ printed traces))
messages R e (Some v) p are _ _ (states a t (worlds xs ys zs modules heap printed traces)) = alike.raised _ (trace_of p) (states a t (worlds xs ys zs modules _ printed traces))
