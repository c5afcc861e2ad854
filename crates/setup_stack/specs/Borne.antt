-- What is noted of an instance that comes up, and what is answered.
use Rattle.std.specs.Prelude.{ℕ, List, [], ◌∷◌}
use Rattle.session_types.specs.declared.instance.Instance.{Instance}
use Rattle.session_types.specs.declared.journal.Made.{Made}
use Rattle.session_types.specs.declared.journal.Event.{Event}
use Rattle.session_types.specs.declared.journal.Event.TheVariants.{Up, UpFailed}
use Rattle.session_types.specs.Live.{without}
use Rattle.fixture_instances.specs.declared.ends.SetUpEnd.{SetUpEnd as KeptEnd}
use Rattle.fixture_instances.specs.declared.ends.SetUpEnd.TheVariants as kept
use Rattle.setup_stack.specs.declared.answers.Answer.{Answer as CodeAnswer}
use Rattle.setup_stack.specs.declared.answers.Answer.TheVariants as told
use Rattle.fixture_instances.specs.declared.ends.CachedResult.{CachedResult}

abbrev pub birth_of : {S : Type 0} → List ℕ → Instance S → Made
birth_of bases i = record { n = i.order; def = i.def; param = i.param; node = i.node; bases = bases }

abbrev pub event_by : {V E : Type 0} → KeptEnd V E → Made → Event
event_by (kept.Value v) made = Up made
event_by (kept.Failure e) made = UpFailed made

abbrev pub event_for : {V E R : Type 0} → List ℕ → Instance (CachedResult V E R) → Event
event_for bases i = event_by i.slot.kept (birth_of bases i)

abbrev pub answer_with : {V E : Type 0} → ℕ → ℕ → List ℕ → KeptEnd V (List E) → CodeAnswer V E
answer_with d order bases (kept.Value v) = told.Given (record { def = d; order = order; value = v; bases = bases })
answer_with d order bases (kept.Failure es) = told.Refused es

-- without all of these
abbrev pub without_all : {S : Type 0} → List ℕ → List (Instance S) → List (Instance S)
without_all [] live = live
without_all (n ∷ ns) live = without_all ns (without n live)
