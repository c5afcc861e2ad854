-- What the walks over the chains give.
use Rattle.std.specs.Prelude.{ℕ, zero, suc, Bool, List, [], ◌∷◌, ◌++◌, reverse, Option, None, Some, if◌then◌else◌}
use Rattle.std.specs.List.{list_any}
use Rattle.session_types.specs.Live.{is_at, is_off, rests_on}
use Rattle.session_types.specs.declared.instance.Instance.{Instance}
use Rattle.live_chains.specs.declared.id.LiveId.{LiveId}
use Rattle.live_chains.specs.declared.dying.Dying.{Dying}
use Rattle.live_chains.specs.declared.dying.Dying.TheVariants.{Dependents, NotOn}
use Rattle.live_chains.specs.Chained.{InstanceCell, id_of}

-- the first one of a definition on a node
abbrev pub first_at : ℕ → ℕ → List InstanceCell → Option InstanceCell
first_at d node [] = None
first_at d node (e ∷ es) = if is_at d node e.1 then Some e else first_at d node es

-- it is one of these numbers, or depends on one
abbrev pub rests_any : List ℕ → Instance ℕ → Bool
rests_any roots i = list_any (λ n. rests_on n i) roots

abbrev pub resting_id : List ℕ → InstanceCell → List LiveId
resting_id roots e = if rests_any roots e.1 then id_of e ∷ [] else []

-- the names of those that rest on one of these numbers
abbrev pub resting_ids : List ℕ → List InstanceCell → List LiveId
resting_ids roots [] = []
resting_ids roots (e ∷ es) = resting_id roots e ++ resting_ids roots es

abbrev pub off_order : List ℕ → Instance ℕ → List ℕ
off_order chain i = if is_off chain i then i.order ∷ [] else []

-- the numbers of those whose node is none of these
abbrev pub off_orders : List ℕ → List InstanceCell → List ℕ
off_orders chain [] = []
off_orders chain (e ∷ es) = off_order chain e.1 ++ off_orders chain es

-- the numbers on which all that goes down rests
abbrev pub roots_of : Dying → List InstanceCell → List ℕ
roots_of (Dependents id) es = id.order ∷ []
roots_of (NotOn chain) es = off_orders chain.now es

-- the names of those that rest on one of these numbers, by chain, each from its end
abbrev pub going_below : List ℕ → (ℕ → List InstanceCell) → ℕ → List LiveId
going_below roots chains zero = []
going_below roots chains (suc r) = reverse (resting_ids roots (chains r)) ++ going_below roots chains r
