-- What differs is not related.
use Rattle.std.proofs.Common.{◌≡◌, ℕ, zero, List, [], true, false, refl, subst}
use Rattle.std.specs.Prelude.{pos}
use Rattle.py_values.specs.declared.value.Value.{Value}
use Rattle.py_values.specs.declared.value.Value.TheVariants as val
use Rattle.source_meaning.specs.py_world.declared.ended.Ended.{Ended}
use Rattle.source_meaning.specs.py_world.declared.ended.Outcome.TheVariants as out
use Rattle.source_meaning.specs.py_world.declared.ended.Outcome as ended
use Rattle.source_meaning.specs.py_world.Runs.{told_by}
use Rattle.source_meaning.specs.Meaning.{SourceWorld, source_call}
use Rattle.explain_law.specs.Choices as alike
use Rattle.explain_law.specs.Choices.{Choices, WorldsByChoice, worlds}
use Rattle.explain_law.specs.Law.{ToldUntil, call_tree}
use Rattle.differing_calls.specs.Asserts.{none_or_each}
use Rattle.differing_calls.specs.Calls.{with_abs, zero_alone, one_alone, the_function}
use Rattle.differing_calls.specs.Endings.{without_argument}
use Rattle.differing_calls.proofs.Apart.{unrelated, bare}

abbrev pub GivesZero : ended.Outcome → Type 0
GivesZero (out.Value (val.Int (pos zero))) = Unit {0}
GivesZero _ = ⊥

-- one call gives 0, and the other one does not
pub zero_and_another : {a b : Ended} → a ≡ b → GivesZero a.out → (GivesZero b.out → ⊥) → ⊥
zero_and_another e h other = other (subst (λ (x : Ended). GivesZero x.out) e h)

pub alike_worlds : (R : Choices) → WorldsByChoice R with_abs with_abs
alike_worlds R = worlds alike.SourcesByChoice.none alike.CodesByChoice.none alike.FrozenByChoice.none _ _ _ _

pub refused : (R : Choices) → ToldUntil R 10 (call_tree the_function zero_alone with_abs) (call_tree the_function one_alone with_abs) (source_call the_function zero_alone 10 with_abs) (source_call the_function one_alone 10 with_abs) → ⊥
refused R h = unrelated R told_by h (λ e. zero_and_another e.0 tt (λ f. f)) without_argument without_argument (bare R) (λ e. zero_and_another e.0 tt (λ f. f))

-- the law does not relate any two calls
pub not_any_two : ((R : Choices) (path : List ℕ) → R.first path ≡ false → R.second path ≡ true → (w x : SourceWorld) → WorldsByChoice R w x → (f g : Value) (args brgs : List Value) (budget : ℕ) → ToldUntil R budget (call_tree f args w) (call_tree g brgs x) (source_call f args budget w) (source_call g brgs budget x)) → ⊥
not_any_two h = refused none_or_each (h none_or_each [] refl refl with_abs with_abs (alike_worlds none_or_each) the_function the_function zero_alone one_alone 10)
