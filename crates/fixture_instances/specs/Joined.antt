-- The live instances with what is kept of each.
use Rattle.std.specs.Prelude.{◌≡◌, ℕ, suc, ◌<◌, ◌==◌, List, [], ◌∷◌, Option, None, Some, if◌then◌else◌}
use Rattle.session_types.specs.declared.instance.Instance.{Instance}
use Rattle.live_chains.specs.declared.id.LiveId.{LiveId}
use Rattle.fixture_instances.specs.declared.ends.CachedResult.{CachedResult}
use Rattle.fixture_instances.specs.declared.live.Kept.{Kept}

-- the live instances in order of set-up, their names in the same order, how many more there is room for, and the number of
-- set-ups so far
pub record InstanceList (V E R : Type 0) : Type 0 where
  pub live : List (Instance (CachedResult V E R))
  pub ids : List LiveId
  pub spare : ℕ
  pub next : ℕ

-- the same instance with another slot
abbrev pub with_slot : {S T : Type 0} → T → Instance S → Instance T
with_slot t i = record { def = i.def; param = i.param; node = i.node; scope = i.scope; order = i.order; bases = i.bases; slot = t }

-- the instances, each with what stands at its place
abbrev pub with_slots : {V E R : Type 0} → List (Instance ℕ) → List (Kept V E R) → List (Instance (CachedResult V E R))
with_slots [] ks = []
with_slots (i ∷ is) [] = []
with_slots (i ∷ is) (k ∷ ks) = with_slot k.held i ∷ with_slots is ks

-- what stands at a place has the number of the instance there
abbrev pub ArePaired : {V E R : Type 0} → List (Instance ℕ) → List (Kept V E R) → Type 0
ArePaired [] [] = Unit {0}
ArePaired [] (k ∷ ks) = ⊥
ArePaired (i ∷ is) [] = ⊥
ArePaired (i ∷ is) (k ∷ ks) = (k.order ≡ i.order) × ArePaired is ks

-- what is kept of the one of a number
abbrev pub kept_at : {V E R : Type 0} → ℕ → List (Kept V E R) → Option (CachedResult V E R)
kept_at n [] = None
kept_at n (k ∷ ks) = if n == k.order then Some k.held else kept_at n ks

abbrev pub kept_without : {V E R : Type 0} → ℕ → List (Kept V E R) → List (Kept V E R)
kept_without n [] = []
kept_without n (k ∷ ks) = if n == k.order then kept_without n ks else k ∷ kept_without n ks

-- where what is kept of the one of a number stands
abbrev pub kept_place : {V E R : Type 0} → ℕ → List (Kept V E R) → ℕ
kept_place n [] = 0
kept_place n (k ∷ ks) = if n == k.order then 0 else suc (kept_place n ks)

abbrev pub kept_order : {V E R : Type 0} → Kept V E R → ℕ
kept_order k = k.order

-- all numbers are below the next one
abbrev pub OrdersBelow : List (Instance ℕ) → ℕ → Type 0
OrdersBelow [] n = Unit {0}
OrdersBelow (i ∷ is) n = (i.order < n) × OrdersBelow is n

-- where an instance lives: no two live of one definition on one node
abbrev pub def_and_node : {S : Type 0} → Instance S → ℕ × ℕ
def_and_node i = (i.def, i.node)
