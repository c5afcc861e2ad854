-- Definitions that stand for an item: each lives with its parameter and has a value, and so does all that it asks for. A demand of
-- one changes nothing.
use Rattle.std.specs.Prelude.{◌≡◌, ℕ, suc, ◌⊎◌, Bool, true, false, List, ◌++◌, Option, Some, None, slice_index_or}
use Rattle.session_types.specs.Members.{IsMember}
use Rattle.session_types.specs.Live.{find}
use Rattle.session_types.specs.declared.instance.Instance.{Instance}
use Rattle.session_rules.specs.World.{Language, Rules, Item, LiveInstance, Value}
use Rattle.session_rules.specs.Teardown.{SessionState}
use Rattle.session_rules.specs.Demand.{Given, demand, got, is_same, reply}
use Rattle.session_rules.specs.Fits.{IsWellScoped}
use Rattle.setup_stack.specs.declared.answers.Answer.{Answer as CodeAnswer}
use Rattle.setup_stack.specs.declared.answers.Answer.TheVariants as told
use Rattle.setup_stack.specs.declared.answers.Grant.{Grant as CodeGrant}

-- d lives, and a demand of it gives what lives and changes nothing, also where more came up since
pub record IsCached {L : Language} (rules : Rules L) (item : Item) (live : List (LiveInstance L)) (d : ℕ) : Type 0 where
  pub one : LiveInstance L
  pub value : L.Value
  pub found : find d (item.place d) live ≡ Some one
  pub same : is_same one.param (item.parameter d) ≡ true
  pub kept : one.slot.kept ≡ Value value
  pub answers : (s : SessionState L) (more : List (LiveInstance L)) (depth : ℕ) → s.live ≡ live ++ more → ((e : ℕ) → IsMember e (item.requests d) → IsWellScoped rules item depth e) → demand rules item (suc depth) d s ≡ reply (Given (got value one)) s

-- the mark of a definition, by its number
abbrev pub is_marked : List Bool → ℕ → Bool
is_marked marks d = slice_index_or marks d false

abbrev pub AllStand : {L : Language} → Rules L → Item → List (LiveInstance L) → List Bool → Type 0
AllStand rules item live marks = (d : ℕ) → is_marked marks d ≡ true → IsCached rules item live d

-- what is marked was, or was just given something while all that it asks for were marked
abbrev pub IsNoted : {V E : Type 0} → List ℕ → ℕ → CodeAnswer V E → List Bool → List Bool → Type 0
IsNoted {V} requests d answer marks after =
    (e : ℕ) → is_marked after e ≡ true → (is_marked marks e ≡ true) ⊎ ((e ≡ d) × ((g : CodeGrant V) × (answer ≡ told.Given g)) × ((r : ℕ) → IsMember r requests → is_marked marks r ≡ true))

-- none lives there, or one with the item's parameter
abbrev pub stays : {S : Type 0} → Item → ℕ → Option (Instance S) → Bool
stays item d None = true
stays item d (Some i) = is_same i.param (item.parameter d)
