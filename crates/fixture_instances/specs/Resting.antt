-- The frozen frames that a stack holds, and how they are let go behind want of memory.
use Rattle.std.specs.Prelude.{◌≡◌, List, [], ◌∷◌, Option, None, Some}
use Rattle.session_types.specs.declared.instance.Instance.{Instance}
use Rattle.fixture_instances.specs.declared.ends.CachedResult.{CachedResult}
use Rattle.fixture_instances.specs.declared.live.Kept.{Kept}
use Rattle.fixture_instances.specs.Joined.{with_slot}

-- nothing remains of it
abbrev pub spent_held : {V E R : Type 0} → CachedResult V E R → CachedResult V E R
spent_held h = record h { rest = None }

abbrev pub spent_instance : {V E R : Type 0} → Instance (CachedResult V E R) → Instance (CachedResult V E R)
spent_instance i = with_slot (spent_held i.slot) i

abbrev pub spent_kept : {V E R : Type 0} → Kept V E R → Kept V E R
spent_kept k = record k { held = spent_held k.held }

-- what remains is let go behind want of memory, where there is something
abbrev pub given_up_where : {R W : Type 0} → (R → W → W) → Option R → W → W
given_up_where given_up None w = w
given_up_where given_up (Some rest) w = given_up rest w

-- what remains of each, in order of set-up
abbrev pub all_given_up : {V E R W : Type 0} → (R → W → W) → List (Instance (CachedResult V E R)) → W → W
all_given_up given_up [] w = w
all_given_up given_up (i ∷ is) w = all_given_up given_up is (given_up_where given_up i.slot.rest w)

abbrev pub all_kept_given_up : {V E R W : Type 0} → (R → W → W) → List (Kept V E R) → W → W
all_kept_given_up given_up [] w = w
all_kept_given_up given_up (k ∷ ks) w = all_kept_given_up given_up ks (given_up_where given_up k.held.rest w)

-- none is frozen
abbrev pub AreSpent : {V E R : Type 0} → List (Instance (CachedResult V E R)) → Type 0
AreSpent [] = Unit {0}
AreSpent (i ∷ is) = (i.slot.rest ≡ None) × AreSpent is

abbrev pub AreKeptSpent : {V E R : Type 0} → List (Kept V E R) → Type 0
AreKeptSpent [] = Unit {0}
AreKeptSpent (k ∷ ks) = (k.held.rest ≡ None) × AreKeptSpent ks
