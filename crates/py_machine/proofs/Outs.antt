-- Which frames are out in a machine, and in the world that is seen of it.
use Rattle.std.proofs.Common.{◌≡◌, ℕ, zero, suc, List, [], ◌∷◌, map, refl, Option, None, Some}
use Rattle.std.specs.Prelude.{is_some, slice_get}
use Rattle.lower_law.specs.View.{frozen_view, source_view}
use Rattle.lower_law.specs.core_meaning.Meaning.{CoreWorld}
use Rattle.lower_law.specs.core_meaning.Requests.{Layer}
use Rattle.lower_law.specs.py_world.Resuming.{frame_at, is_out}
use Rattle.lower_law.specs.py_world.World.{Frozen}

out_seen : (fs : List (Option (Frozen (List Layer)))) (n : ℕ) → is_some (frame_at (slice_get (map frozen_view fs) n)) ≡ is_some (frame_at (slice_get fs n))
out_seen [] zero = refl
out_seen [] (suc n) = refl
out_seen (None ∷ fs) zero = refl
out_seen (Some f ∷ fs) zero = refl
out_seen (f ∷ fs) (suc n) = out_seen fs n

-- the same are out in both
pub seen_out : (w : CoreWorld) (n : ℕ) → is_out n (source_view w) ≡ is_out n w
seen_out w n = out_seen w.frozen n
